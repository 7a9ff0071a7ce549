-- What a table of links means: its records, and for each head the list of the numbers that the links lead along.
use Rattle.std.specs.Prelude.{◌≡◌, ℕ, zero, suc, Bool, true, false, if◌then◌else◌, not, ◌&&◌, List, [], ◌∷◌, map, length, Some, None, vec_items, Option, ◌==◌, nat_lt, slice_index_or}
use Rattle.chain.specs.declared.Links.{Links}
use Rattle.chain.specs.Lists.{has}

-- what each link of a table leads to
abbrev pub nexts : {R : Type 0} → Links R → List (Option ℕ)
nexts t = map (λ l. l.next) (vec_items t.links)

-- the record of each link
abbrev pub records : {R : Type 0} → Links R → List R
records t = map (λ l. l.record) (vec_items t.links)

-- the first n numbers from h on
unfoldable pub walk : ℕ → List (Option ℕ) → Option ℕ → List ℕ
walk zero ns h = []
walk (suc n) ns None = []
walk (suc n) ns (Some x) = x ∷ walk n ns (slice_index_or ns x None)

-- the chain from the head h: the numbers that the links lead along, in order
unfoldable pub chain : List (Option ℕ) → Option ℕ → List ℕ
chain ns h = walk (length ns) ns h

-- whether from h the links lead along xs, each within the table and there once, and then nowhere
unfoldable pub leads : List (Option ℕ) → Option ℕ → List ℕ → Bool
leads ns None [] = true
leads ns (Some y) [] = false
leads ns None (x ∷ xs) = false
leads ns (Some y) (x ∷ xs) = y == x && (nat_lt x (length ns) && (not (has x xs) && leads ns (slice_index_or ns x None) xs))

-- the chain from h ends; a ghost field can hold this
abbrev pub Ends : List (Option ℕ) → Option ℕ → Type 0
Ends ns h = leads ns h (chain ns h) ≡ true

-- the two lists share no number
abbrev pub Apart : List ℕ → List ℕ → Type 0
Apart xs ys = (k : ℕ) → has k xs ≡ true → has k ys ≡ false

-- What a change of the links from ns to ms gives: from the head h now the chain xs. All that has none of the touched numbers stays.
pub record Relinked (ns ms : List (Option ℕ)) (h : Option ℕ) (xs touched : List ℕ) : Type 0 where
  pub ends : Ends ms h
  pub list : chain ms h ≡ xs
  -- every other chain
  pub others : (g : Option ℕ) → Ends ns g → Apart (chain ns g) touched → Ends ms g × (chain ms g ≡ chain ns g)
  -- every other link
  pub untouched : (k : ℕ) → has k touched ≡ false → slice_index_or ms k None ≡ slice_index_or ns k None
  pub size : length ms ≡ length ns

-- the last number before the first at which the test holds, or p if it holds at once
abbrev pub last_before : (ℕ → Bool) → Option ℕ → List ℕ → Option ℕ
last_before stop p [] = p
last_before stop p (x ∷ xs) = if stop x then p else last_before stop (Some x) xs
