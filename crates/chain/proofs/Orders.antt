-- The laws of join, of without and of the first.
use Rattle.std.proofs.Common.{◌≡◌, ℕ, ◌<◌, ◌≤◌, true, false, ◌≢◌, List, [], ◌∷◌, map, Some, Option, sym, refl, ◌∙◌, subst, arith}
use Rattle.std.proofs.lemmas.Bool.Decides.{nat_tests}
use Rattle.chain.specs.Lists.{ahead, first, has, join, none_above, rest, sorted, without}
use Rattle.chain.specs.Laws.{Linked, TakenOut, Chosen}
use Rattle.chain.proofs.Members.{has_join, has-stays, has-gone, once, count-join, without-join, without_other}

module _ {A : Type 0} (rank : A → ℕ) where
  none_above_less : (a b : A) (xs : List A) → rank a ≤ rank b → none_above rank b xs ≡ true → none_above rank a xs ≡ true
  none_above_less a b [] l n = refl
  none_above_less a b (y ∷ ys) l n = let r = none_above_less a b ys in grind (arith, nat_tests)

  none_above_join : (a x : A) (xs : List A) → rank a ≤ rank x → none_above rank a xs ≡ true → none_above rank a (join rank x xs) ≡ true
  none_above_join a x [] l n = grind (arith, nat_tests)
  none_above_join a x (y ∷ ys) l n = let r = none_above_join a x ys in grind (arith, nat_tests)

  pub join-sorted : (x : A) (xs : List A) → sorted rank xs ≡ true → sorted rank (join rank x xs) ≡ true
  join-sorted x [] s = refl
  join-sorted x (y ∷ ys) s =
      let r = join-sorted x ys in
      let n = none_above_less x y ys in
      let m = none_above_join y x ys in grind (arith, nat_tests)

module _ (rank : ℕ → ℕ) where
  pub none_above_has : (x y : ℕ) (xs : List ℕ) → none_above rank x xs ≡ true → has y xs ≡ true → rank x ≤ rank y
  none_above_has x y [] n h = grind (arith, nat_tests)
  none_above_has x y (z ∷ zs) n h = let r = none_above_has x y zs in grind (arith, nat_tests)

  none_above_without : (a i : ℕ) (xs : List ℕ) → none_above rank a xs ≡ true → none_above rank a (without i xs) ≡ true
  none_above_without a i [] n = refl
  none_above_without a i (x ∷ xs) n = let r = none_above_without a i xs in grind (arith, nat_tests)

  pub without-sorted : (i : ℕ) (xs : List ℕ) → sorted rank xs ≡ true → sorted rank (without i xs) ≡ true
  without-sorted i [] s = refl
  without-sorted i (x ∷ xs) s = let r = without-sorted i xs in let n = none_above_without x i xs in grind (arith, nat_tests)

  pub join-equals : (x y : ℕ) (xs : List ℕ) → sorted rank xs ≡ true → has y xs ≡ true → rank y ≤ rank x → ahead y x (join rank x xs) ≡ true
  join-equals x y [] s h l = grind (arith, nat_tests)
  join-equals x y (z ∷ zs) s h l =
      let r = join-equals x y zs in
      let n = none_above_has z y zs in
      let j = has_join rank x x zs in grind (arith, nat_tests)

  pub join-lower : (x y : ℕ) (xs : List ℕ) → has y xs ≡ true → rank x < rank y → ahead x y (join rank x xs) ≡ true
  join-lower x y [] h l = grind (arith, nat_tests)
  join-lower x y (z ∷ zs) h l = let r = join-lower x y zs in grind (arith, nat_tests)

  pub join-order : (x y z : ℕ) (xs : List ℕ) → y ≢ x → z ≢ x → ahead y z (join rank x xs) ≡ ahead y z xs
  join-order x y z [] a b = grind (arith, nat_tests)
  join-order x y z (w ∷ ws) a b = let r = join-order x y z ws a b in let j = has_join rank z x ws in grind (arith, nat_tests)

  linked-is : (x : ℕ) (xs : List ℕ) → has x xs ≡ false → Linked rank x xs (join rank x xs)
  linked-is x xs off = record {
    sorted = join-sorted rank x xs;
    equals = λ s y. join-equals x y xs s;
    lower = λ y. join-lower x y xs;
    order = λ y z. join-order x y z xs;
    undone = without-join rank x xs off;
    counts = λ k. count-join rank k x xs;
  }

  pub linked-by : (x : ℕ) (xs ys : List ℕ) → has x xs ≡ false → ys ≡ join rank x xs → Linked rank x xs ys
  linked-by x xs ys off is = subst (Linked rank x xs) (sym is) (linked-is x xs off)

pub without-order : (i y z : ℕ) (xs : List ℕ) → y ≢ i → z ≢ i → ahead y z (without i xs) ≡ ahead y z xs
without-order i y z [] a b = refl
without-order i y z (x ∷ xs) a b = let r = without-order i y z xs a b in let h = has-stays z i xs b in grind (arith, nat_tests)

taken-out-is : (i : ℕ) (xs : List ℕ) → once xs ≡ true → TakenOut i xs (without i xs)
taken-out-is i xs o = record {
  sorted = λ rank. without-sorted rank i xs;
  order = λ y z. without-order i y z xs;
  others = λ k. without_other k i xs;
  gone = has-gone i xs o;
}

pub taken-out-by : (i : ℕ) (xs ys : List ℕ) → once xs ≡ true → ys ≡ without i xs → TakenOut i xs ys
taken-out-by i xs ys o is = subst (TakenOut i xs) (sym is) (taken-out-is i xs o)

first-highest : (rank : ℕ → ℕ) (x y : ℕ) (xs : List ℕ) → sorted rank xs ≡ true → first xs ≡ Some x → has y xs ≡ true → rank x ≤ rank y
first-highest rank x y [] s t h = grind (arith, nat_tests)
first-highest rank x y (z ∷ zs) s t h = let same : z ≡ x = cc in let n = none_above_has rank z y zs in grind (arith, nat_tests)

rest_out : (x : ℕ) (xs : List ℕ) → first xs ≡ Some x → without x xs ≡ rest xs
rest_out x [] t = refl
rest_out x (z ∷ zs) t = let same : z ≡ x = cc in grind (arith, nat_tests)

pub chosen_by : (r : Option ℕ) (xs ys : List ℕ) → once xs ≡ true → r ≡ first xs → ys ≡ rest xs → Chosen r xs ys
chosen_by r xs ys o f b = record {
  highest = λ rank s x y t. first-highest rank x y xs s (sym f ∙ t);
  out = λ x t. taken-out-by x xs ys o (b ∙ sym (rest_out x xs (sym f ∙ t)));
}

-- the numbers in other words, where these rank as the numbers do
pub join-map : {B : Type 0} (word : ℕ → B) (by : ℕ → ℕ) (rank : B → ℕ) (x : ℕ) (xs : List ℕ) → ((k : ℕ) → has k (x ∷ xs) ≡ true → by k ≡ rank (word k))
    → map word (join by x xs) ≡ join rank (word x) (map word xs)
join-map word by rank x [] same = refl
join-map word by rank x (y ∷ ys) same =
    let a = same x (grind (arith, nat_tests)) in
    let b = same y (grind (arith, nat_tests)) in
    let r = join-map word by rank x ys (λ k on. same k (grind (arith, nat_tests))) in grind (arith, nat_tests)
