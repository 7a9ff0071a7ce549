-- How often a record stands in a table and what the records are, through what is done to the chains, beside the counts of the rules.
use Rattle.std.proofs.Common.{◌≡◌, ℕ, zero, suc, ◌+◌, ◌-◌, ◌≤◌, cond, ltb, List, [], ◌∷◌, length, sym, refl, ap, ◌∙◌, arith}
use Rattle.std.specs.Option.{option_to_list}
use Rattle.std.proofs.lemmas.Bool.Decides.{nat_tests}
use Rattle.chain.specs.Lists.{count, first, rest, rising, without}
use Rattle.chain.proofs.Members.{count-rising}
use Rattle.rules.specs.State.{Table, Task, begin_table, with_word}
use Rattle.rules.specs.Tables.{change, choose, fill, hand, put_free, stop, take_free, take_out, unsuspend}
use Rattle.rules.specs.Sound.{in_table}
use Rattle.rules.proofs.Counts.{size-change, tasks-release}

-- ── lists ──

pub count-first : (k : ℕ) (xs : List ℕ) → count k (option_to_list (first xs)) + count k (rest xs) ≡ count k xs
count-first k [] = refl
count-first k (x ∷ xs) = omega arith

pub count_less : (k i : ℕ) (xs : List ℕ) → count k (without i xs) ≤ count k xs
count_less k i [] = omega arith
count_less k i (x ∷ xs) = let r = count_less k i xs in grind (arith, nat_tests)

-- who runs stays
pub runs-fill : (i : ℕ) (x : Task) (a : Table) → (fill i x a).running ≡ a.running
unfolding change take_free
runs-fill i x a = refl

-- ── places ──

module _ (k : ℕ) where
  pub less_take_out : (t : ℕ) (a : Table) → in_table k (take_out t a) ≤ in_table k a
  unfolding in_table take_out
  less_take_out t a = omega (arith, count_less k t a.ready)

  pub less_unsuspend : (t : ℕ) (a : Table) → in_table k (unsuspend t a) ≤ in_table k a
  unfolding in_table unsuspend
  less_unsuspend t a = omega (arith, count_less k t a.suspended)

  pub in_take_free : (a : Table) → count k (option_to_list (first a.free)) + in_table k (take_free a) ≡ in_table k a
  unfolding in_table take_free
  in_take_free a = omega (arith, count-first k a.free)

  -- the running task, if there is one, is nowhere then
  pub in_choose : (a : Table) → count k (option_to_list a.running) + in_table k (choose a) ≡ in_table k a
  unfolding in_table choose
  in_choose a = omega (arith, count-first k a.ready)

-- ── the records ──

pub tasks-put_free : (t : ℕ) (a : Table) → (put_free t a).tasks ≡ a.tasks
unfolding put_free
tasks-put_free t a = refl

pub tasks-take_out : (t : ℕ) (a : Table) → (take_out t a).tasks ≡ a.tasks
unfolding take_out
tasks-take_out t a = refl

pub tasks-unsuspend : (t : ℕ) (a : Table) → (unsuspend t a).tasks ≡ a.tasks
unfolding unsuspend
tasks-unsuspend t a = refl

pub tasks-take_free : (a : Table) → (take_free a).tasks ≡ a.tasks
unfolding take_free
tasks-take_free a = refl

pub tasks-choose : (a : Table) → (choose a).tasks ≡ a.tasks
unfolding choose
tasks-choose a = refl

pub tasks-stop : (a : Table) → (stop a).tasks ≡ a.tasks
unfolding stop
tasks-stop a = refl

pub size-hand : (m t : ℕ) (a : Table) → length (hand m t a).tasks ≡ length a.tasks
unfolding hand
size-hand m t a = ap length (tasks-release t (change t (with_word m) a)) ∙ size-change t (with_word m) a

-- ── the start ──

pub rest-rising : (n : ℕ) → 1 ≤ n → rest (rising 0 n) ≡ rising 1 (n - 1)
rest-rising zero l = absurd (omega arith)
rest-rising (suc n) l = let e : suc n - 1 ≡ n = omega arith in sym (ap (rising 1) e)

pub in_begin : (k n : ℕ) → 1 ≤ n → in_table k (begin_table n) ≡ cond (ltb k n) 1 0
unfolding in_table
in_begin k n l = let r = ap (count k) (rest-rising n l) in let c = count-rising k 1 (n - 1) in grind (arith, nat_tests)
