-- Chains of one table when a number goes from one to another, or from none to one.
use Rattle.std.proofs.Common.{◌≡◌, ℕ, ◌+◌, ◌≤◌, false, List, ◌∷◌, Some, Option, sym, ap, ◌∙◌, arith}
use Rattle.std.proofs.lemmas.Bool.Decides.{nat_tests}
use Rattle.chain.specs.Lists.{count, first, has, join, one, rest}
use Rattle.chain.specs.Chains.{Ends, Relinked, chain}
use Rattle.chain.proofs.Members.{apart_from, first_count, has_join}

module _ (ns : List (Option ℕ)) (free left ready : Option ℕ) (i : ℕ)
    (spread : (k : ℕ) → count k (chain ns free) + count k (chain ns ready) ≤ 1)
    (is : Some i ≡ first (chain ns free)) (list : chain ns left ≡ rest (chain ns free)) where
  pub spread-still : (k : ℕ) → count k (chain ns left) + (one k i + count k (chain ns ready)) ≤ 1
  spread-still k = let a = first_count k i (chain ns free) (sym is) in let b = ap (count k) list in omega (arith, spread k)

  pub left-kept : (ms : List (Option ℕ)) (h : Option ℕ) (xs : List ℕ) → Ends ns left → Relinked ns ms h xs (i ∷ chain ns ready) → Ends ms left × (chain ms left ≡ chain ns left)
  left-kept ms h xs ends u = u.others left ends (apart_from (chain ns left) (i ∷ chain ns ready) spread-still)

-- where the numbers from i on are not linked, and then i is, those behind i are not
pub later-fresh : (ns os ms : List (Option ℕ)) (g h : Option ℕ) (i : ℕ) → ((k : ℕ) → i ≤ k → has k (chain ns g) ≡ false) → os ≡ ns
    → (rank : ℕ → ℕ) → chain ms h ≡ join rank i (chain os g) → (k : ℕ) → i + 1 ≤ k → has k (chain ms h) ≡ false
later-fresh ns os ms g h i free same rank is k l =
    let e : chain os g ≡ chain ns g = ap (λ z. chain z g) same in
    let j = has_join rank k i (chain ns g) in
    let f : has k (chain ns g) ≡ false = free k (omega arith) in
    ap (has k) (is ∙ ap (join rank i) e) ∙ (grind (arith, nat_tests))
