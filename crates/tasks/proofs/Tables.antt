-- What the operations on chains and records make of the table that the parts stand for.
use Rattle.std.proofs.Common.{◌≡◌, ℕ, ◌+◌, ◌-◌, ◌<◌, ◌≤◌, false, List, [], ◌∷◌, map, length, get_or, set, replicate, Some, None, Option, sym, refl, ap, ◌∙◌, subst, arith}
use lib.ListN.{length-map}
use lib.Seq.{map-set}
use Rattle.std.proofs.lemmas.List.{get_or-map}
use Rattle.chain.specs.declared.Links.{Links}
use Rattle.chain.specs.Chains.{Ends, Relinked, chain, nexts, records}
use Rattle.chain.specs.Lists.{count, first, has, join, rank_in, rest, rising, without}
use Rattle.chain.proofs.Leads.{chain-none, ends-none, head_is}
use Rattle.chain.proofs.Members.{apart_from, count_none}
use Rattle.chain.proofs.Tables.{as_many, map-replicate}
use Rattle.rules.specs.State as rules
use Rattle.rules.specs.State.{Table, begin_table, blank, record_in, with_free, with_ready, with_suspended}
use Rattle.rules.specs.Tables.{change, choose, link, put_free, stop, suspend, take_free, take_out, unsuspend}
use Rattle.tasks.specs.declared.task.Task.{Task}
use Rattle.tasks.specs.declared.Tasks.TheInside.{Inside}
use Rattle.tasks.specs.Parts.{AllEnd, Intact, Placed, Unplaced, as_task, table_of}
use Rattle.rules.specs.Sound.{in_table}
use Rattle.rules.proofs.Counts.{in_link, in_put_free, in_suspend}
use Rattle.tasks.proofs.Places.{rest-rising}
use Rattle.tasks.proofs.Placing.{at_most_one, placed-begin, placed-change, placed-choose, placed-link, placed-put_free, placed-stop, placed-suspend, placed-take_free, placed-take_out, placed-unsuspend}

abbrev view : Inside → Table
view x = table_of x.links x.free x.ready x.suspended x.running

abbrev Kept : Inside → Type 0
Kept x = Intact x.links x.free x.ready x.suspended x.running

-- parts that stand for the table a as they must
pub record Stand (links : Links Task) (free ready suspended running : Option ℕ) (a : Table) : Type 0 where
  pub is : table_of links free ready suspended running ≡ a
  pub kept : Intact links free ready suspended running

-- equal parts make equal tables
table_eq : {ts us : List rules.Task} {f g r q s z : List ℕ} {run now : Option ℕ} → ts ≡ us → f ≡ g → run ≡ now → r ≡ q → s ≡ z
    → ◌≡◌ {A = Table} (record { tasks = ts; free = f; running = run; ready = r; suspended = s }) (record { tasks = us; free = g; running = now; ready = q; suspended = z })
table_eq a b c d e = cc

-- a record of the rules has the level that the code's record has
levels : (xs : List Task) → map (λ x. x.level) xs ≡ map (λ x. x.level) (map as_task xs)
levels [] = refl
levels (x ∷ xs) = ap (λ l. x.level ∷ l) (levels xs)

-- ── reading ──

module _ (x : Inside) where
  pub size : length (view x).tasks ≡ length (nexts x.links)
  unfolding table_of
  size = length-map (records x.links) as_task ∙ as_many x.links

  pub within-links : (t : ℕ) → t < length (view x).tasks → t < length (nexts x.links)
  within-links t within = omega (arith, size)

  pub record_is : (t : ℕ) (y : Task) → t < length (view x).tasks → ((none : Task) → y ≡ get_or (records x.links) t none) → as_task y ≡ record_in (view x) t
  unfolding table_of
  record_is t y within is = ap as_task (is y) ∙ sym (get_or-map as_task (records x.links) t y blank (omega (arith, size, as_many x.links)))

  -- a record that is nowhere is on no chain
  module _ (t : ℕ) (u : Unplaced t (view x)) where
    pub not-ready : has t (chain (nexts x.links) x.ready) ≡ false
    unfolding table_of in_table
    not-ready = count_none t (chain (nexts x.links) x.ready) (let n = u.nowhere in omega arith)

    pub not-suspended : has t (chain (nexts x.links) x.suspended) ≡ false
    unfolding table_of in_table
    not-suspended = count_none t (chain (nexts x.links) x.suspended) (let n = u.nowhere in omega arith)

    pub not_free : has t (chain (nexts x.links) x.free) ≡ false
    unfolding table_of in_table
    not_free = count_none t (chain (nexts x.links) x.free) (let n = u.nowhere in omega arith)

pub runs-is : (x : Inside) → x.running ≡ (view x).running
unfolding table_of
runs-is x = refl

pub first-free-is : (x : Inside) → Kept x → x.free ≡ first (view x).free
unfolding table_of
first-free-is x w = sym (head_is (nexts x.links) x.free w.ends.0)

-- ── one chain written anew ──

module _ (x : Inside) (w : Kept x) (b : Links Task) (h : Option ℕ) (xs touched : List ℕ) (recs : records b ≡ records x.links) (u : Relinked (nexts x.links) (nexts b) h xs touched) where
  kept : (g : Option ℕ) → Ends (nexts x.links) g → ((k : ℕ) → count k (chain (nexts x.links) g) + count k touched ≤ 1) → Ends (nexts b) g × (chain (nexts b) g ≡ chain (nexts x.links) g)
  kept g e few = u.others g e (apart_from (chain (nexts x.links) g) touched few)

  module _ (a : Table) (p : Placed a) where
    written-ready : ((k : ℕ) → in_table k (view x) + count k touched ≤ 1 + count k (view x).ready) → with_ready xs (view x) ≡ a → Stand b x.free h x.suspended x.running a
    unfolding table_of in_table
    written-ready few e =
        let f = kept x.free w.ends.0 (λ k. omega (arith, few k)) in
        let s = kept x.suspended w.ends.2 (λ k. omega (arith, few k)) in
        let is = table_eq (ap (map as_task) recs) f.1 refl u.list s.1 ∙ e in
        record { is = is; kept = record { ends = (f.0, u.ends, s.0); placed = subst Placed (sym is) p } }

    written-suspended : ((k : ℕ) → in_table k (view x) + count k touched ≤ 1 + count k (view x).suspended) → with_suspended xs (view x) ≡ a → Stand b x.free x.ready h x.running a
    unfolding table_of in_table
    written-suspended few e =
        let f = kept x.free w.ends.0 (λ k. omega (arith, few k)) in
        let r = kept x.ready w.ends.1 (λ k. omega (arith, few k)) in
        let is = table_eq (ap (map as_task) recs) f.1 refl r.1 u.list ∙ e in
        record { is = is; kept = record { ends = (f.0, r.0, u.ends); placed = subst Placed (sym is) p } }

    written-free : ((k : ℕ) → in_table k (view x) + count k touched ≤ 1 + count k (view x).free) → with_free xs (view x) ≡ a → Stand b h x.ready x.suspended x.running a
    unfolding table_of in_table
    written-free few e =
        let r = kept x.ready w.ends.1 (λ k. omega (arith, few k)) in
        let s = kept x.suspended w.ends.2 (λ k. omega (arith, few k)) in
        let is = table_eq (ap (map as_task) recs) u.list refl r.1 s.1 ∙ e in
        record { is = is; kept = record { ends = (u.ends, r.0, s.0); placed = subst Placed (sym is) p } }

-- ── a record that is nowhere goes into a chain ──

module _ (x : Inside) (w : Kept x) (t : ℕ) (un : Unplaced t (view x)) where
  module _ (b : Links Task) (h : Option ℕ) (recs : records b ≡ records x.links) where
    pub linked : Relinked (nexts x.links) (nexts b) h (join (rank_in (λ y. y.level) (records x.links)) t (chain (nexts x.links) x.ready)) (t ∷ chain (nexts x.links) x.ready)
        → Stand b x.free h x.suspended x.running (link t (view x))
    unfolding table_of link
    linked u =
        let p = placed-link (view x) w.placed t un in
        written-ready x w b h _ (t ∷ chain (nexts x.links) x.ready) recs u (link t (view x)) p
        (λ k. omega (arith, in_link k t (view x), at_most_one (link t (view x)) p k))
        (ap (λ (ls : List ℕ). with_ready (join (λ k. get_or ls k 0) t (chain (nexts x.links) x.ready)) (view x)) (levels (records x.links)))

    pub suspended : Relinked (nexts x.links) (nexts b) h (t ∷ chain (nexts x.links) x.suspended) (t ∷ chain (nexts x.links) x.suspended)
        → Stand b x.free x.ready h x.running (suspend t (view x))
    unfolding table_of suspend
    suspended u =
        let p = placed-suspend (view x) w.placed t un in
        written-suspended x w b h _ (t ∷ chain (nexts x.links) x.suspended) recs u (suspend t (view x)) p
        (λ k. omega (arith, in_suspend k t (view x), at_most_one (suspend t (view x)) p k)) refl

    pub freed : Relinked (nexts x.links) (nexts b) h (t ∷ chain (nexts x.links) x.free) (t ∷ chain (nexts x.links) x.free)
        → Stand b h x.ready x.suspended x.running (put_free t (view x))
    unfolding table_of put_free
    freed u =
        let p = placed-put_free (view x) w.placed t un in
        written-free x w b h _ (t ∷ chain (nexts x.links) x.free) recs u (put_free t (view x)) p
        (λ k. omega (arith, in_put_free k t (view x), at_most_one (put_free t (view x)) p k)) refl

-- ── a record leaves a chain ──

module _ (x : Inside) (w : Kept x) (t : ℕ) (b : Links Task) (h : Option ℕ) (recs : records b ≡ records x.links) where
  pub taken_out : Relinked (nexts x.links) (nexts b) h (without t (chain (nexts x.links) x.ready)) (chain (nexts x.links) x.ready)
      → Stand b x.free h x.suspended x.running (take_out t (view x))
  unfolding table_of take_out
  taken_out u =
      written-ready x w b h _ (chain (nexts x.links) x.ready) recs u (take_out t (view x)) (placed-take_out (view x) w.placed t)
      (λ k. omega (arith, at_most_one (view x) w.placed k)) refl

  pub unsuspended : Relinked (nexts x.links) (nexts b) h (without t (chain (nexts x.links) x.suspended)) (chain (nexts x.links) x.suspended)
      → Stand b x.free x.ready h x.running (unsuspend t (view x))
  unfolding table_of unsuspend
  unsuspended u =
      written-suspended x w b h _ (chain (nexts x.links) x.suspended) recs u (unsuspend t (view x)) (placed-unsuspend (view x) w.placed t)
      (λ k. omega (arith, at_most_one (view x) w.placed k)) refl

module _ (x : Inside) (w : Kept x) (h : Option ℕ) (ends : Ends (nexts x.links) h) where
  pub free-taken : chain (nexts x.links) h ≡ rest (chain (nexts x.links) x.free) → Stand x.links h x.ready x.suspended x.running (take_free (view x))
  unfolding table_of take_free
  free-taken list =
      let is = table_eq refl list refl refl refl in
      record { is = is; kept = record { ends = (ends, w.ends.1, w.ends.2); placed = subst Placed (sym is) (placed-take_free (view x) w.placed) } }

  pub chosen : (r : Option ℕ) → r ≡ first (chain (nexts x.links) x.ready) → chain (nexts x.links) h ≡ rest (chain (nexts x.links) x.ready)
      → Stand x.links x.free h x.suspended r (choose (view x))
  unfolding table_of choose
  chosen r first list =
      let is = table_eq refl refl first list refl in
      record { is = is; kept = record { ends = (w.ends.0, ends, w.ends.2); placed = subst Placed (sym is) (placed-choose (view x) w.placed) } }

-- ── the running task and one record ──

pub stopped : (x : Inside) (w : Kept x) → Stand x.links x.free x.ready x.suspended None (stop (view x))
unfolding table_of stop
stopped x w = record { is = refl; kept = record { ends = w.ends; placed = placed-stop (view x) w.placed } }

pub replaced : (x : Inside) (w : Kept x) (t : ℕ) (y : Task) (b : Links Task) → nexts b ≡ nexts x.links → records b ≡ set (records x.links) t y
    → Stand b x.free x.ready x.suspended x.running (change t (λ _. as_task y) (view x))
unfolding table_of change
replaced x w t y b next recs =
    let is = table_eq (ap (map as_task) recs ∙ map-set as_task (records x.links) t y) (ap (λ n. chain n x.free) next) refl (ap (λ n. chain n x.ready) next) (ap (λ n. chain n x.suspended) next) in
    record { is = is; kept = record { ends = subst (λ n. AllEnd n x.free x.ready x.suspended) (sym next) w.ends; placed = subst Placed (sym is) (placed-change (view x) w.placed t (λ _. as_task y)) } }

-- a record that is what a change makes of the former one
pub change_as : (t : ℕ) (f : rules.Task → rules.Task) (x : rules.Task) (a : Table) → x ≡ f (record_in a t) → change t (λ _. x) a ≡ change t f a
unfolding change
change_as t f x a e = ap (λ (y : rules.Task). change t (λ _. y) a) e

-- ── a new table ──

pub begun : (b : Links Task) (h : Option ℕ) (n m : ℕ) (y : Task) → 1 ≤ n → m ≡ n → as_task y ≡ blank → records b ≡ replicate n y → Ends (nexts b) h → chain (nexts b) h ≡ rising 1 (m - 1)
    → Stand b h None None (Some 0) (begin_table n)
unfolding table_of
begun b h n m y some same is recs ends list =
    let free = list ∙ ap (λ i. rising 1 (i - 1)) same ∙ sym (rest-rising n some) in
    let e = table_eq (ap (map as_task) recs ∙ map-replicate as_task n y ∙ ap (replicate n) is) free refl (chain-none (nexts b)) (chain-none (nexts b)) in
    record { is = e; kept = record { ends = (ends, ends-none (nexts b), ends-none (nexts b)); placed = subst Placed (sym e) (placed-begin n some) } }
