-- Every record stands at one place of the table at most, through everything that is done to the table, and what follows from it.
use Rattle.std.proofs.Common.{◌≡◌, ℕ, ◌+◌, ◌<◌, ◌≤◌, true, false, cond, eqb, ltb, ◌≢◌, length, Some, None, Option, sym, refl, ap, ◌∙◌, ⊎_elim, subst, arith}
use lib.ListN.{length-replicate}
use Rattle.std.specs.Option.{option_to_list}
use Rattle.std.proofs.lemmas.Bool.{cases_Bool, eqb-true}
use Rattle.std.proofs.lemmas.Bool.Decides.{nat_tests}
use Rattle.chain.specs.Lists.{count, first, has, one, without}
use Rattle.chain.proofs.Members.{none-count}
use Rattle.rules.specs.State.{Table, Task, begin_table, blank}
use Rattle.rules.specs.Tables.{change, choose, link, put_free, stop, suspend, take_free, take_out, unsuspend}
use Rattle.tasks.specs.Parts.{Placed, Unplaced}
use Rattle.rules.specs.Sound.{in_table}
use Rattle.rules.proofs.Counts.{in_change, in_link, in_put_free, in_stop, in_stopped, in_suspend, in_take_out, in_unsuspend, one_same, size-change, tasks-link, tasks-suspend}
use Rattle.tasks.proofs.Places.{count_less, in_begin, in_choose, in_take_free, less_take_out, less_unsuspend, tasks-choose, tasks-put_free, tasks-stop, tasks-take_free, tasks-take_out, tasks-unsuspend}

-- ── what follows ──

module _ (a : Table) (p : Placed a) (k : ℕ) where
  pub at_most_one : in_table k a ≤ 1
  at_most_one = let h = p k in grind (arith, nat_tests)

  pub has_record : 1 ≤ in_table k a → k < length a.tasks
  has_record some = let h = p k in grind (arith, nat_tests)

  pub running-within : a.running ≡ Some k → k < length a.tasks
  unfolding in_table
  running-within e = has_record (let z : count k (option_to_list a.running) ≡ one k k + 0 = ap (λ (o : Option ℕ). count k (option_to_list o)) e in omega (arith, one_same k))

  -- the running task can be placed as soon as it runs no longer
  pub stopped_unplaced : a.running ≡ Some k → Unplaced k (stop a)
  stopped_unplaced e =
      let z : count k (option_to_list a.running) ≡ one k k + 0 = ap (λ (o : Option ℕ). count k (option_to_list o)) e in
      record { within = subst (λ ts. k < length ts) (sym (tasks-stop a)) (running-within e); nowhere = omega (arith, in_stop k a, at_most_one, one_same k) }

  pub first-free-within : first a.free ≡ Some k → k < length a.tasks
  first-free-within e =
      has_record (let z : count k (option_to_list (first a.free)) ≡ one k k + 0 = ap (λ (o : Option ℕ). count k (option_to_list o)) e in omega (arith, in_take_free k a, one_same k))

  -- the first free record can be placed as soon as it has left the free chain
  pub freed_unplaced : first a.free ≡ Some k → Unplaced k (take_free a)
  freed_unplaced e =
      let z : count k (option_to_list (first a.free)) ≡ one k k + 0 = ap (λ (o : Option ℕ). count k (option_to_list o)) e in
      record { within = subst (λ ts. k < length ts) (sym (tasks-take_free a)) (first-free-within e); nowhere = omega (arith, in_take_free k a, at_most_one, one_same k) }

  -- a ready or suspended task can be placed anew as soon as it has left its chain
  pub unready_unplaced : has k a.ready ≡ true → Unplaced k (take_out k a)
  unready_unplaced on =
      let i = in_take_out k k a on in
      let w = has_record (omega (arith, one_same k)) in
      record { within = subst (λ ts. k < length ts) (sym (tasks-take_out k a)) w; nowhere = omega (arith, at_most_one, one_same k) }

  pub unsuspended_unplaced : has k a.suspended ≡ true → Unplaced k (unsuspend k a)
  unsuspended_unplaced on =
      let i = in_unsuspend k k a on in
      let w = has_record (omega (arith, one_same k)) in
      record { within = subst (λ ts. k < length ts) (sym (tasks-unsuspend k a)) w; nowhere = omega (arith, at_most_one, one_same k) }

-- a record that is changed stands where it stood
pub changed_unplaced : {t : ℕ} {a : Table} (f : Task → Task) → Unplaced t a → Unplaced t (change t f a)
changed_unplaced {t = t} {a = a} f h = record { within = subst (λ n. t < n) (sym (size-change t f a)) h.within; nowhere = in_change t t f a ∙ h.nowhere }

-- a live task that does not run can be placed as soon as it has left both chains
pub left_unplaced : (k : ℕ) (a : Table) → k < length a.tasks → has k a.free ≡ false → a.running ≢ Some k
    → (has k a.ready ≡ true → Unplaced k (take_out k a)) → (has k (take_out k a).suspended ≡ true → Unplaced k (unsuspend k (take_out k a))) → Unplaced k (unsuspend k (take_out k a))
unfolding in_table take_out unsuspend
left_unplaced k a within live off ready suspended = record {
  within = within;
  nowhere =
      let f = none-count k a.free live in
      let o = not-running a.running off in
      let r : count k (without k a.ready) ≡ 0 = ⊎_elim (λ on. let n = (ready on).nowhere in omega arith) (λ none. omega (arith, none-count k a.ready none, count_less k k a.ready)) (cases_Bool (has k a.ready)) in
      let s : count k (without k a.suspended) ≡ 0 = ⊎_elim (λ on. let n = (suspended on).nowhere in omega arith) (λ none. omega (arith, none-count k a.suspended none, count_less k k a.suspended)) (cases_Bool (has k a.suspended)) in
      omega (arith, f, o, r, s);
}
  where
    not-running : (o : Option ℕ) → o ≢ Some k → count k (option_to_list o) ≡ 0
    not-running None n = refl
    not-running (Some i) n = let z : eqb k i ≡ true → ⊥ = λ e. n (ap Some (sym (eqb-true k i e))) in grind (arith, nat_tests)

-- ── what keeps it ──

module _ (a b : Table) (size : length b.tasks ≡ length a.tasks) (p : Placed a) where
  -- places are given up
  placed_less : ((k : ℕ) → in_table k b ≤ in_table k a) → Placed b
  placed_less less k =
      let h = p k in let l = less k in
      let s : cond {A = ℕ} (ltb k (length b.tasks)) 1 0 ≡ cond (ltb k (length a.tasks)) 1 0 = ap (λ (n : ℕ). cond {A = ℕ} (ltb k n) 1 0) size in omega arith

  -- a record that was nowhere gets a place
  placed-more : (t : ℕ) → t < length a.tasks → in_table t a ≡ 0 → ((k : ℕ) → in_table k b ≡ one k t + in_table k a) → Placed b
  placed-more t within nowhere more k =
      let h = p k in let m = more k in
      let z : eqb k t ≡ true → in_table k a ≡ in_table t a = λ e. ap (λ (i : ℕ). in_table i a) (eqb-true k t e) in
      let s : cond {A = ℕ} (ltb k (length b.tasks)) 1 0 ≡ cond (ltb k (length a.tasks)) 1 0 = ap (λ (n : ℕ). cond {A = ℕ} (ltb k n) 1 0) size in grind (arith, nat_tests)

module _ (a : Table) (p : Placed a) where
  module _ (t : ℕ) (h : Unplaced t a) where
    pub placed-link : Placed (link t a)
    placed-link = placed-more a (link t a) (ap length (tasks-link t a)) p t h.within h.nowhere (λ k. in_link k t a)

    pub placed-suspend : Placed (suspend t a)
    placed-suspend = placed-more a (suspend t a) (ap length (tasks-suspend t a)) p t h.within h.nowhere (λ k. in_suspend k t a)

    pub placed-put_free : Placed (put_free t a)
    placed-put_free = placed-more a (put_free t a) (ap length (tasks-put_free t a)) p t h.within h.nowhere (λ k. in_put_free k t a)

  pub placed-take_out : (t : ℕ) → Placed (take_out t a)
  placed-take_out t = placed_less a (take_out t a) (ap length (tasks-take_out t a)) p (λ k. less_take_out k t a)

  pub placed-unsuspend : (t : ℕ) → Placed (unsuspend t a)
  placed-unsuspend t = placed_less a (unsuspend t a) (ap length (tasks-unsuspend t a)) p (λ k. less_unsuspend k t a)

  pub placed-take_free : Placed (take_free a)
  placed-take_free = placed_less a (take_free a) (ap length (tasks-take_free a)) p (λ k. omega (arith, in_take_free k a))

  pub placed-choose : Placed (choose a)
  placed-choose = placed_less a (choose a) (ap length (tasks-choose a)) p (λ k. omega (arith, in_choose k a))

  pub placed-stop : Placed (stop a)
  placed-stop = placed_less a (stop a) (ap length (tasks-stop a)) p (λ k. omega (arith, in_stop k a))

  pub placed-change : (t : ℕ) (f : Task → Task) → Placed (change t f a)
  placed-change t f = placed_less a (change t f a) (size-change t f a) p (λ k. omega (arith, in_change k t f a))

pub placed-begin : (n : ℕ) → 1 ≤ n → Placed (begin_table n)
placed-begin n some k =
    let s : cond {A = ℕ} (ltb k (length (begin_table n).tasks)) 1 0 ≡ cond (ltb k n) 1 0 = ap (λ (i : ℕ). cond {A = ℕ} (ltb k i) 1 0) (length-replicate n blank) in
    omega (arith, in_begin k n some)

-- ── a new task ──

-- the record k, which stood nowhere, stands nowhere still when the running task t is stopped and linked
pub new_unplaced : (k t : ℕ) (a : Table) → a.running ≡ Some t → Unplaced k a → Unplaced k (link t (stop a))
new_unplaced k t a runs h =
    let s = ap length (tasks-link t (stop a) ∙ tasks-stop a) in
    let w = h.within in let n = h.nowhere in
    record { within = omega (arith, s); nowhere = omega (arith, in_link k t (stop a), in_stopped k a t runs) }
