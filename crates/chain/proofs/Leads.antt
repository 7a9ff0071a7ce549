-- A chain and its list: from where the links lead along a list, that list is the chain.
use Rattle.std.proofs.Common.{◌≡◌, ℕ, zero, suc, ◌<◌, ◌≤◌, Bool, true, false, not, ◌&&◌, nat_lt, List, [], ◌∷◌, length, get_or, Some, None, Option, sym, refl, ap, ◌∙◌, subst, arith}
use Rattle.std.proofs.lemmas.Bool.Decides.{nat_tests}
use Rattle.chain.specs.Lists.{first, has, without}
use Rattle.chain.specs.Chains.{walk, chain, leads, Ends}
use Rattle.chain.proofs.Members.{has-without, once}

-- ── there are no more numbers below n, each once, than n ──

abbrev below : ℕ → List ℕ → Bool
below n [] = true
below n (x ∷ xs) = nat_lt x n && (not (has x xs) && below n xs)

below_less : (n : ℕ) (xs : List ℕ) → has n xs ≡ false → below (suc n) xs ≡ true → below n xs ≡ true
below_less n [] h b = refl
below_less n (x ∷ xs) h b = let r = below_less n xs in grind (arith, nat_tests)

below-without : (n : ℕ) (xs : List ℕ) → below (suc n) xs ≡ true → below n (without n xs) ≡ true
below-without n [] b = refl
below-without n (x ∷ xs) b = let r = below-without n xs in let l = below_less n xs in let w = has-without x n xs in grind (arith, nat_tests)

length_without : (i : ℕ) (xs : List ℕ) → length xs ≤ suc (length (without i xs))
length_without i [] = omega arith
length_without i (x ∷ xs) = let r = length_without i xs in grind (arith, nat_tests)

room : (n : ℕ) (xs : List ℕ) → below n xs ≡ true → length xs ≤ n
room n [] b = omega arith
room zero (x ∷ xs) b = grind (arith, nat_tests)
room (suc n) (x ∷ xs) b =
    let k = room n (without n (x ∷ xs)) (below-without n (x ∷ xs) b) in
    let l = length_without n (x ∷ xs) in omega arith

leads-below : (ns : List (Option ℕ)) (h : Option ℕ) (xs : List ℕ) → leads ns h xs ≡ true → below (length ns) xs ≡ true
unfolding leads
leads-below ns h [] c = refl
leads-below ns None (x ∷ xs) c = grind (arith, nat_tests)
leads-below ns (Some y) (x ∷ xs) c = let r = leads-below ns (get_or ns x None) xs in grind (arith, nat_tests)

leads-once : (ns : List (Option ℕ)) (h : Option ℕ) (xs : List ℕ) → leads ns h xs ≡ true → once xs ≡ true
unfolding leads
leads-once ns h [] c = refl
leads-once ns None (x ∷ xs) c = grind (arith, nat_tests)
leads-once ns (Some y) (x ∷ xs) c = let r = leads-once ns (get_or ns x None) xs in grind (arith, nat_tests)

-- ── one link of a chain ──

pub nowhere : (ns : List (Option ℕ)) (h : Option ℕ) → leads ns h [] ≡ true → h ≡ None
unfolding leads
nowhere ns None c = refl
nowhere ns (Some y) c = grind (arith, nat_tests)

pub parts : (ns : List (Option ℕ)) (h : Option ℕ) (x : ℕ) (xs : List ℕ) → leads ns h (x ∷ xs) ≡ true
    → (h ≡ Some x) × (x < length ns) × (has x xs ≡ false) × (leads ns (get_or ns x None) xs ≡ true)
unfolding leads
parts ns None x xs c = grind (arith, nat_tests)
parts ns (Some y) x xs c = (ap Some (grind (arith, nat_tests)), grind (arith, nat_tests), grind (arith, nat_tests), grind (arith, nat_tests))

pub on : (ns : List (Option ℕ)) (h : Option ℕ) (x : ℕ) (xs : List ℕ) (n : Option ℕ)
    → h ≡ Some x → x < length ns → has x xs ≡ false → get_or ns x None ≡ n → leads ns n xs ≡ true → leads ns h (x ∷ xs) ≡ true
unfolding leads
on ns h x xs n is l a next c = rw is (let c' = ap (λ z. leads ns z xs) next ∙ c in grind (arith, nat_tests))

-- ── the list that the links lead along is the chain ──

walk_is : (n : ℕ) (ns : List (Option ℕ)) (h : Option ℕ) (xs : List ℕ) → leads ns h xs ≡ true → length xs ≤ n → walk n ns h ≡ xs
unfolding walk leads
walk_is zero ns h [] c l = refl
walk_is (suc n) ns None [] c l = refl
walk_is (suc n) ns (Some y) [] c l = grind (arith, nat_tests)
walk_is zero ns h (x ∷ xs) c l = absurd (let k : suc (length xs) ≤ 0 = l in omega arith)
walk_is (suc n) ns None (x ∷ xs) c l = grind (arith, nat_tests)
walk_is (suc n) ns (Some y) (x ∷ xs) c l = let r = walk_is n ns (get_or ns x None) xs in grind (arith, nat_tests)

module _ (ns : List (Option ℕ)) where
  pub chain-few : (h : Option ℕ) → Ends ns h → length (chain ns h) ≤ length ns
  chain-few h e = room (length ns) (chain ns h) (leads-below ns h (chain ns h) e)

  pub chain-once : (h : Option ℕ) → Ends ns h → once (chain ns h) ≡ true
  chain-once h e = leads-once ns h (chain ns h) e

  pub chain-is : (h : Option ℕ) (xs : List ℕ) → leads ns h xs ≡ true → chain ns h ≡ xs
  unfolding chain
  chain-is h xs c = walk_is (length ns) ns h xs c (room (length ns) xs (leads-below ns h xs c))

  pub ends_from : (h : Option ℕ) (xs : List ℕ) → leads ns h xs ≡ true → Ends ns h
  ends_from h xs c = ap (leads ns h) (chain-is h xs c) ∙ c

  pub chain-none : chain ns None ≡ []
  unfolding leads
  chain-none = chain-is None [] refl

  pub ends-none : Ends ns None
  unfolding leads
  ends-none = ends_from None [] refl

  leads-some : (k : ℕ) (xs : List ℕ) → leads ns (Some k) xs ≡ true
      → (k < length ns) × Ends ns (get_or ns k None) × (xs ≡ k ∷ chain ns (get_or ns k None)) × (has k (chain ns (get_or ns k None)) ≡ false)
  leads-some k [] c = let f = nowhere ns (Some k) c in let z : ◌≡◌ {A = ℕ} 0 1 = cc in absurd (omega arith)
  leads-some k (x ∷ xs) c =
      let same : x ≡ k = (let f = (parts ns (Some k) x xs c).0 in cc) in
      let p = parts ns (Some k) k xs (subst (λ z. leads ns (Some k) (z ∷ xs) ≡ true) same c) in
      let is = chain-is (get_or ns k None) xs p.3 in
      (p.1, ends_from (get_or ns k None) xs p.3, cc, ap (has k) is ∙ p.2)

  pub first-within : (h : Option ℕ) (k : ℕ) → h ≡ Some k → Ends ns h → k < length ns
  first-within h k is e = (leads-some k (chain ns h) (subst (λ z. leads ns z (chain ns h) ≡ true) is e)).0

  -- the chain from a head, and behind its first
  module _ (h : Option ℕ) (k : ℕ) (is : h ≡ Some k) (e : Ends ns h) (n : Option ℕ) (next : n ≡ get_or ns k None) where
    split : (k < length ns) × Ends ns (get_or ns k None) × (chain ns h ≡ k ∷ chain ns (get_or ns k None)) × (has k (chain ns (get_or ns k None)) ≡ false)
    split = leads-some k (chain ns h) (subst (λ z. leads ns z (chain ns h) ≡ true) is e)

    pub next_ends : Ends ns n
    next_ends = subst (Ends ns) (sym next) split.1

    pub chain-cons : chain ns h ≡ k ∷ chain ns n
    chain-cons = split.2 ∙ ap (λ z. k ∷ chain ns z) (sym next)

    pub next_less : length (chain ns n) < length (chain ns h)
    next_less = rw chain-cons (omega arith)

  -- the head is the first of its chain
  pub head_is : (h : Option ℕ) → Ends ns h → first (chain ns h) ≡ h
  head_is None e = ap first chain-none
  head_is (Some k) e = ap first (chain-cons (Some k) k refl e (get_or ns k None) refl)

  pub at-end : (h : Option ℕ) → h ≡ None → chain ns h ≡ []
  at-end h is = ap (chain ns) is ∙ chain-none
