-- The ready chain, deed by deed: how a place in it moves, and what stays sorted.
use Rattle.std.proofs.Common.{◌≡◌, ℕ, ◌+◌, ◌≤◌, Bool, true, false, cond, eqb, ltb, leb, List, [], ◌∷◌, ◌++◌, map, length, count_by, refl, ap, ◌∙◌, subst, ⊎_elim, append_assoc, arith}
use Rattle.std.proofs.lemmas.List.Sums.{sum_by-cons, sum_by_push}
use Rattle.std.proofs.lemmas.Bool.{and_parts, cases_Bool, eqb-true, false≢true}
use Rattle.std.proofs.lemmas.Bool.Decides.{nat_tests}
use Rattle.chain.specs.Lists.{count, has, join, none_above, rest, sorted, without}
use Rattle.chain.proofs.Members.{count_none}
use Rattle.rules.specs.Acts.{Deed, linked}
use Rattle.rules.specs.Records.{bit}
use Rattle.rules.specs.Laws.{Placed, chooses, front, links, links_above, takes_out_ahead}

module _ (lv : ℕ → ℕ) where
  pub none_above_has : (x y : ℕ) (xs : List ℕ) → none_above lv x xs ≡ true → has y xs ≡ true → lv x ≤ lv y
  none_above_has x y [] n h = grind (arith, nat_tests)
  none_above_has x y (z ∷ zs) n h = let r = none_above_has x y zs in let e : eqb z y ≡ true → lv z ≡ lv y = λ q. ap lv (eqb-true z y q) in grind (arith, nat_tests)

  -- a link of another task at a smaller level puts one more in front, and any other link none
  pub front-join : (u t : ℕ) (xs : List ℕ) → sorted lv xs ≡ true → has t xs ≡ true → eqb u t ≡ false → length (front t (join lv u xs)) ≡ length (front t xs) + bit (ltb (lv u) (lv t)) 1
  front-join u t [] s h e = grind arith
  front-join u t (x ∷ xs) s h e =
      let ih : sorted lv xs ≡ true → has t xs ≡ true → length (front t (join lv u xs)) ≡ length (front t xs) + bit (ltb (lv u) (lv t)) 1 = λ s' h'. front-join u t xs s' h' e in
      let le : none_above lv x xs ≡ true → has t xs ≡ true → lv x ≤ lv t = none_above_has x t xs in
      let same : eqb x t ≡ true → lv x ≡ lv t = λ q. ap lv (eqb-true x t q) in
      grind (arith, nat_tests)

  -- sorted by levels that are the same for all that stand there
  none_above_like : (lw : ℕ → ℕ) (x : ℕ) (xs : List ℕ) → lw x ≡ lv x → ((t : ℕ) → has t xs ≡ true → lw t ≡ lv t) → none_above lv x xs ≡ true → none_above lw x xs ≡ true
  none_above_like lw x [] e l h = refl
  none_above_like lw x (y ∷ ys) e l h =
      let ly = l y (grind (arith, nat_tests)) in
      let ih : none_above lv x ys ≡ true → none_above lw x ys ≡ true = none_above_like lw x ys e (λ t i. l t (grind (arith, nat_tests))) in
      grind (arith, nat_tests)

  pub sorted_like : (lw : ℕ → ℕ) (xs : List ℕ) → ((t : ℕ) → has t xs ≡ true → lw t ≡ lv t) → sorted lv xs ≡ true → sorted lw xs ≡ true
  sorted_like lw [] l h = refl
  sorted_like lw (x ∷ xs) l h =
      let n : none_above lv x xs ≡ true → none_above lw x xs ≡ true = none_above_like lw x xs (l x (grind (arith, nat_tests))) (λ t i. l t (grind (arith, nat_tests))) in
      let ih : sorted lv xs ≡ true → sorted lw xs ≡ true = sorted_like lw xs (λ t i. l t (grind (arith, nat_tests))) in
      grind (arith, nat_tests)

  pub rest_sorted : (xs : List ℕ) → sorted lv xs ≡ true → sorted lv (rest xs) ≡ true
  rest_sorted [] h = refl
  rest_sorted (x ∷ xs) h = grind (arith, nat_tests)

front-absent : (u t : ℕ) (xs : List ℕ) → has u xs ≡ false → has u (front t xs) ≡ false
front-absent u t [] h = refl
front-absent u t (x ∷ xs) h = let ih : has u xs ≡ false → has u (front t xs) ≡ false = front-absent u t xs in grind (arith, nat_tests)

-- a take-out takes one away in front exactly if it stood there
pub front-without : (u t : ℕ) (xs : List ℕ) → count u xs ≤ 1 → eqb u t ≡ false → length (front t xs) ≡ length (front t (without u xs)) + bit (has u (front t xs)) 1
front-without u t [] h e = grind arith
front-without u t (x ∷ xs) h e =
    let ih : count u xs ≤ 1 → length (front t xs) ≡ length (front t (without u xs)) + bit (has u (front t xs)) 1 = λ h'. front-without u t xs h' e in
    let away : has u xs ≡ false → has u (front t xs) ≡ false = front-absent u t xs in
    let none : count u xs ≡ 0 → has u xs ≡ false = count_none u xs in
    grind (arith, nat_tests)

-- Placed ----------------------------------------------------------------------------------------------------------------------

-- t has just been linked
pub placed_new : (t level : ℕ) (deeds : List Deed) (ready : List ℕ) → Placed t level (deeds ++ linked t level ready ∷ []) ready
placed_new t level deeds ready = record { early = deeds; chain = ready; since = []; split = refl; last = refl; balance = omega arith }

-- any sorted chain may have come about by links alone, in its order
module _ (lv : ℕ → ℕ) (chain : List ℕ) where
  abbrev pub link_of : ℕ → Deed
  link_of x = linked x (lv x) chain

  no-link : (t : ℕ) (xs : List ℕ) → count t xs ≡ 0 → count_by (links t) (map link_of xs) ≡ 0
  no-link t [] h = refl
  no-link t (x ∷ xs) h = let ih = no-link t xs (omega arith) in let c = sum_by-cons (λ d. cond (links t d) 1 0) (link_of x) (map link_of xs) in grind (arith, nat_tests)

  no-link_above : (t : ℕ) (xs : List ℕ) → none_above lv t xs ≡ true → count_by (links_above (lv t)) (map link_of xs) ≡ 0
  no-link_above t [] h = refl
  no-link_above t (x ∷ xs) h =
      let p = and_parts (leb (lv t) (lv x)) (none_above lv t xs) h in
      let ih = no-link_above t xs p.1 in
      let c = sum_by-cons (λ d. cond (links_above (lv t) d) 1 0) (link_of x) (map link_of xs) in
      let z : bit (ltb (lv x) (lv t)) 1 ≡ 0 = (let q = p.0 in grind (arith, nat_tests)) in omega arith

  no-choosing : (xs : List ℕ) → count_by chooses (map link_of xs) ≡ 0
  no-choosing [] = refl
  no-choosing (x ∷ xs) = no-choosing xs

  no-take-out : (t : ℕ) (xs : List ℕ) → count_by (takes_out_ahead t) (map link_of xs) ≡ 0
  no-take-out t [] = refl
  no-take-out t (x ∷ xs) = no-take-out t xs

  pub placed_so : (t : ℕ) (xs : List ℕ) (early : List Deed) → sorted lv xs ≡ true → count t xs ≤ 1 → has t xs ≡ true → Placed t (lv t) (early ++ map link_of xs) chain
  placed_so t [] early s o h = absurd (false≢true h)
  placed_so t (x ∷ xs) early s o h = ⊎_elim
      (λ (e : eqb x t ≡ true). let q = eqb-true x t e in
      let p = and_parts (none_above lv x xs) (sorted lv xs) s in
      let n : none_above lv t xs ≡ true = subst (λ (y : ℕ). none_above lv y xs ≡ true) q p.0 in
      let a = no-link t xs (grind (arith, nat_tests)) in let b = no-link_above t xs n in let c = no-choosing xs in let d = no-take-out t xs in
      record { early = early; chain = chain; since = map link_of xs; split = ap (λ (y : ℕ). early ++ link_of y ∷ map link_of xs) q; last = a; balance = omega arith })
      (λ (e : eqb x t ≡ false). subst (λ (l : List Deed). Placed t (lv t) l chain) (append_assoc early (link_of x ∷ []) (map link_of xs))
      (placed_so t xs (early ++ link_of x ∷ []) (and_parts (none_above lv x xs) (sorted lv xs) s).1 (omega arith) (grind (arith, nat_tests))))
      (cases_Bool (eqb x t))

-- one deed more, which was no link of t
pub placed-more : (t level : ℕ) (deeds : List Deed) (ready now : List ℕ) (d : Deed) → links t d ≡ false
    → bit (links_above level d) 1 + length (front t ready) ≡ bit (chooses d) 1 + bit (takes_out_ahead t d) 1 + length (front t now)
    → Placed t level deeds ready → Placed t level (deeds ++ d ∷ []) now
placed-more t level deeds ready now d n e p =
    let b = p.balance in let l = p.last in
    let w = sum_by_push (λ x. cond (links t x) 1 0) p.since d in
    let x = sum_by_push (λ x. cond (links_above level x) 1 0) p.since d in
    let y = sum_by_push (λ x. cond (chooses x) 1 0) p.since d in
    let z = sum_by_push (λ x. cond (takes_out_ahead t x) 1 0) p.since d in
    let n' : bit (links t d) 1 ≡ 0 = ap (λ (b : Bool). bit b 1) n in
    record {
      early = p.early;
      chain = p.chain;
      since = p.since ++ d ∷ [];
      split = ap (λ (ds : List Deed). ds ++ d ∷ []) p.split ∙ append_assoc p.early (linked t level p.chain ∷ p.since) (d ∷ []);
      last = omega arith;
      balance = omega arith;
    }
