-- What a walk along a chain finds.
use Rattle.std.proofs.Common.{◌≡◌, ℕ, zero, suc, ◌<◌, ◌≤◌, Bool, true, not, ◌==◌, List, [], ◌∷◌, length, take, drop, get_or, None, Option, refl, sym, ap, ◌∙◌, map-id, Some, arith}
use Rattle.std.proofs.lemmas.Bool.Decides.{nat_tests}
use Rattle.std.proofs.lemmas.Iterator.Adapters.{option_map_id}
use Rattle.std.proofs.lemmas.List.Sums.{take_while-cons}
use Rattle.std.specs.Iterator.{Drains, YieldsFirst, YieldsThen}
use Rattle.std.specs.List.{last_or, list_any, prefix_len, slice_get}
use Rattle.std.specs.Option.{MatchOption}
use Rattle.std.proofs.lemmas.Iterator.{YieldsList}
use Rattle.std.proofs.lemmas.Iterator.Consumers.{YieldsList-end, YieldsList-from_first, nth_from_yields_List}
use Rattle.chain.specs.declared.Numbers.{Numbers}
use Rattle.chain.specs.Chains.{Ends, chain, last_before}
use Rattle.chain.specs.Lists.{first, has}
use Rattle.chain.specs.Walks.{numbers_left}
use Rattle.chain.proofs.Writes.{on-within}

pub walks : {R : Type 0} (w : Numbers R) (xs : List ℕ) → numbers_left w ≡ xs → YieldsList (YieldsFirst (numbers_left {R = R})) (λ x. x) w xs
walks w xs is = YieldsList-from_first (λ x. x) numbers_left xs is

pub any-has : (i : ℕ) (xs : List ℕ) → list_any (λ k. k == i) xs ≡ has i xs
any-has i [] = refl
any-has i (x ∷ xs) = let r = any-has i xs in grind (arith, nat_tests)

at-has : (xs : List ℕ) (k x : ℕ) → k < length xs → x ≡ get_or xs k x → has x xs ≡ true
at-has [] k x l is = absurd (omega arith)
at-has (y ∷ ys) zero x l is = grind (arith, nat_tests)
at-has (y ∷ ys) (suc k) x l is = let r = at-has ys k x in grind (arith, nat_tests)

-- each number of a chain is one of the table
pub place-within : (ns : List (Option ℕ)) (h : Option ℕ) → Ends ns h → (k x : ℕ) → k < length (chain ns h) → x ≡ get_or (chain ns h) k x → x < length ns
place-within ns h ends k x l is = on-within ns h x ends (at-has (chain ns h) k x l is)

get-first : (xs : List ℕ) (n : ℕ) → slice_get xs n ≡ first (drop n xs)
get-first [] zero = refl
get-first [] (suc n) = refl
get-first (x ∷ xs) zero = refl
get-first (x ∷ xs) (suc n) = get-first xs n

-- what is before the first at which the test holds
before-stop : (stop : ℕ → Bool) (p : Option ℕ) (xs : List ℕ) → last_or p (take (prefix_len (λ k. not (stop k)) xs) xs) ≡ last_before stop p xs
before-stop stop p [] = refl
before-stop stop p (x ∷ xs) = let r = before-stop stop (Some x) xs in let t = take_while-cons (λ k. not (stop k)) x xs in grind (arith, nat_tests)

module _ {S : Type 0} {steps : S → Option ℕ → S → Type 0} {s : S} where
  pub nth-first : {all : List ℕ} (r : Option ℕ) (u : S) (n : ℕ) → ((xs : List ℕ) × YieldsThen steps s xs r u × MatchOption r (length xs ≤ n) (λ _. length xs ≡ n))
      → YieldsList steps (λ x. x) s all → r ≡ first (drop n all)
  nth-first {all} r u n ran road = sym (option_map_id r) ∙ nth_from_yields_List r u n ran road ∙ get-first all n

  pub last-before : (all : List ℕ) (stop : ℕ → Bool) (r : Option ℕ) → ((xs : List ℕ) × Drains steps s xs × (r ≡ last_or None xs))
      → YieldsList steps (λ x. x) s (take (prefix_len (λ k. not (stop k)) all) all) → r ≡ last_before stop None all
  last-before all stop r ran road =
      let d = ran.1.1 in
      let all_seen = (YieldsList-end road ran.0 d.0 d.1 None ran.1.0 refl d.2).0 in
      ran.2 ∙ ap (last_or None) (sym (map-id ran.0) ∙ all_seen) ∙ before-stop stop None all
