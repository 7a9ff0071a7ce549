-- The links of a table, by place.
use Rattle.std.proofs.Common.{◌≡◌, ℕ, zero, suc, ◌-◌, ◌<◌, Bool, not, nat_lt, nat_le, List, [], ◌∷◌, ◌++◌, map, length, get_or, replicate, take, vec_items, sym, refl, ap, ◌∙◌, arith}
use lib.ListN.{length-map}
use Rattle.std.proofs.Math.Seq.{take-nil}
use Rattle.std.proofs.lemmas.List.{get_or-map}
use Rattle.std.proofs.lemmas.Bool.Decides.{nat_tests}
use Rattle.chain.specs.declared.Links.{Links}
use Rattle.chain.specs.Lists.{rank_in}
use Rattle.chain.specs.Chains.{nexts, records}

module _ {R : Type 0} (t : Links R) where
  pub as_many : length (records t) ≡ length (nexts t)
  as_many = length-map (vec_items t.links) (λ l. l.record) ∙ sym (length-map (vec_items t.links) (λ l. l.next))

  pub rank_is : (k : ℕ) → k < length (nexts t) → (rank : R → ℕ) (x : R) → ((none : R) → x ≡ get_or (records t) k none) → rank x ≡ rank_in rank (records t) k
  rank_is k within rank x is = ap rank (is x) ∙ sym (get_or-map rank (records t) k x 0 (omega (arith, as_many)))

pub map-replicate : {X Y : Type 0} (f : X → Y) (n : ℕ) (x : X) → map f (replicate n x) ≡ replicate n (f x)
map-replicate f zero x = refl
map-replicate f (suc n) x = ap (λ l. f x ∷ l) (map-replicate f n x)

-- a table that was empty and has grown to n copies of one link: each link has what that has
pub all_alike : {X Y : Type 0} (f : X → Y) (n len : ℕ) (x : X) (old all : List X) → old ≡ [] → len ≡ 0 → all ≡ take n old ++ replicate (n - len) x → map f all ≡ replicate n (f x)
all_alike {X = X} f n len x old all e l is =
    let front : take n old ≡ [] = ap (take n) e ∙ take-nil n in
    let rest : n - len ≡ n = omega arith in
    ap (map f) is ∙ ap (λ (xs : List X). map f (xs ++ replicate (n - len) x)) front ∙ ap (λ (m : ℕ). map f (replicate m x)) rest ∙ map-replicate f n x

-- no record goes behind one that ranks below it, and behind any other it does
pub not_behind : (a b : ℕ) (r : Bool) → r ≡ nat_le b a → not r ≡ nat_lt a b
not_behind a b r is = rw is (grind (arith, nat_tests))
