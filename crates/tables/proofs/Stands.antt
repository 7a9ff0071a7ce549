-- What is kept of every state: how it is read off the tables, and how a step keeps it.
use Rattle.std.proofs.Common.{◌≡◌, ℕ, ◌+◌, ◌≤◌, Bool, true, false, List, [], ◌∷◌, length, Some, Option, sym, refl, ap, ◌∙◌, subst, arith}
use mathlib.Core.Bool.{Bool-set}
use mathlib.Core.Logic.{∥∥₁_elim, ∥∥₁_map}
use native.Mathlib.Nat.{ℕ_set}
use lib.ListN.{length-replicate}
use Rattle.std.specs.Bool.{then_some}
use Rattle.std.specs.Option.{option_to_list}
use Rattle.std.specs.Prelude.{MatchResult, None, is_some, ok_or, replicate, unwrap_or}
use Rattle.calls.specs.declared.refusal.Refusal.TheVariants.{NoTask}
use Rattle.std.proofs.lemmas.Bool.{and_parts}
use Rattle.std.proofs.lemmas.Bool.Decides.{nat_tests}
use Rattle.chain.specs.Lists.{count, first, one, rest}
use Rattle.chain.proofs.Members.{count_none}
use Rattle.tasks.specs.Parts.{Placed, Unplaced}
use Rattle.tasks.proofs.Placing.{changed_unplaced}
use Rattle.clock.specs.View as clock
use Rattle.cells.specs.View as cells
use Rattle.queues.specs.Four as queues
use Rattle.queues.proofs.Everywhere.{has_queue}
use Rattle.queues.specs.Number.{number_of}
use Rattle.queues.specs.declared.number.UnitNumber.{UnitNumber}
use Rattle.unit.specs.Medium.{Medium}
use Rattle.rules.specs.State.{Cells, ClockWait, Request, State, Table, Task, begin, begin_cells, begin_table, blank, record_in, with_units}
use Rattle.rules.specs.Tables.{change, stop}
use Rattle.rules.specs.Records.{all_askers, askers, sleepers, waiters}
use Rattle.rules.specs.Rules.{Step, apply}
use Rattle.rules.specs.Laws.{Lawful}
use Rattle.rules.specs.Sound.{OnePlace, all_fit, fits, in_table, in_waits}
use Rattle.rules.proofs.Counts.{one_same}
use Rattle.rules.proofs.Waits.{count-one_queue}
use Rattle.rules.proofs.Sounds.{foremost-step, good_begin, size_step, sound-step}
use Rattle.tables.specs.Caller.{Caller, NoCaller}
use Rattle.tables.specs.Parts.{Standing, StandsIn, blanks}
use Rattle.tables.specs.Spread.{Spread}
use Rattle.tables.specs.View.{state}
use Rattle.tables.specs.declared.Tables.{Tables}

-- Steps -----------------------------------------------------------------------------------------------------------------------

stands_step : (s s' : State) (x : Step) → Lawful x → s' ≡ (apply x s).state → ∥ Standing s ∥₁ → ∥ Standing s' ∥₁
stands_step s s' x ok e h =
    ∥∥₁_map h (λ h. subst Standing (sym e) (record { sound = sound-step s x ok h.sound; foremost = foremost-step s x h.sound h.foremost }))

size-kept : (s s' : State) (x : Step) → s' ≡ (apply x s).state → ∥ Standing s ∥₁ → length s'.table.tasks ≡ length s.table.tasks
size-kept s s' x e h = ∥∥₁_elim h (ℕ_set _ _) (λ h. ap (λ (q : State). length q.table.tasks) e ∙ size_step s x h.sound)

-- which four units there are does not matter
with_units_lem : (s : State) (us : List Medium) → length us ≡ 4 → Standing s → Standing (with_units us s)
with_units_lem s us four h =
    let p = h.sound in
    record {
      sound = record {
        one_place = p.one_place;
        marks = p.marks;
        free_are_blank = p.free_are_blank;
        unique_ids = p.unique_ids;
        ready_sorted = p.ready_sorted;
        clock_sorted = p.clock_sorted;
        dues = p.dues;
        clock = p.clock;
        few_bytes = p.few_bytes;
        requests = p.requests;
        cells = p.cells;
        queues = p.queues;
        units = four;
      };
      foremost = h.foremost;
    }

module _ {s : State} {a b c : ℕ} where
  -- after a step it holds again
  after_step : (r : State) (x y z : ℕ) (step : Step) → Lawful step → s ≡ (apply step r).state → (a ≡ x) × (b ≡ y) × (c ≡ z) → StandsIn r x y z → StandsIn s a b c
  after_step r x y z step ok e w h =
      let n : length s.table.tasks ≡ length r.table.tasks = size-kept r s step e h.state in
      let f = h.few in let i = h.sleepers in let j = h.waiters in let k = h.askers in
      record { few = omega arith; sleepers = omega arith; waiters = omega arith; askers = omega arith; state = stands_step r s step ok e h.state }

  over_units : (us : List Medium) → length us ≡ 4 → StandsIn s a b c → StandsIn (with_units us s) a b c
  over_units us four h = record { few = h.few; sleepers = h.sleepers; waiters = h.waiters; askers = h.askers; state = ∥∥₁_map h.state (with_units_lem s us four) }

  -- the tables after a step stand again
  pub kept : (x : Tables) (step : Step) → Lawful step → s ≡ (apply step (state blanks x)).state → (a ≡ clock.room x.waits) × (b ≡ cells.room x.cells) × (c ≡ queues.room_of x.queues) → StandsIn s a b c
  kept x step ok e w = after_step (state blanks x) _ _ _ step ok e w x.stands

-- and so they do after a step over any units, since what holds does not depend on them
pub kept-over : {s : State} {a b c : ℕ} (x : Tables) (step : Step) (us : List Medium) → length us ≡ 4 → Lawful step → s ≡ (apply step (state us x)).state
    → (a ≡ clock.room x.waits) × (b ≡ cells.room x.cells) × (c ≡ queues.room_of x.queues) → StandsIn (with_units blanks s) a b c
kept-over {s = s} x step us four ok e w = over_units {s = s} blanks refl (after_step {s = s} (state us x) _ _ _ step ok e w (over_units {s = state blanks x} us four x.stands))

-- the state that the tables mean stands, whatever the units are
pub standing : (k : Tables) (us : List Medium) → length us ≡ 4 → ∥ Standing (state us k) ∥₁
standing k us four = ∥∥₁_map k.stands.state (with_units_lem (state blanks k) us four)

-- Places ----------------------------------------------------------------------------------------------------------------------

-- every record is at exactly one place
pub one_place : (k : Tables) → OnePlace (state blanks k)
one_place k t = ∥∥₁_elim k.stands.state (ℕ_set _ _) (λ h. h.sound.one_place t)

pub placed : (k : Tables) → Placed k.tasks
placed k t = let o = one_place k t in omega arith

in_running : (t : ℕ) (a : Table) → a.running ≡ Some t → in_table t a ≡ in_table t (stop a) + 1
unfolding in_table stop
in_running t a e = let z : count t (option_to_list a.running) ≡ 1 = ap (λ (o : Option ℕ). count t (option_to_list o)) e ∙ (let o = one_same t in omega arith) in omega arith

pub caller : (k : Tables) (t : ℕ) → Some t ≡ k.tasks.running → Caller k t
caller k t e =
    let o = one_place k t in
    let r = in_running t k.tasks (sym e) in
    let n : in_waits t (state blanks k) ≡ 0 = grind (arith, nat_tests) in
    record {
      runs = e;
      within = grind (arith, nat_tests);
      stopped = grind (arith, nat_tests);
      awake = count_none t (sleepers (clock.sleeping k.waits)) (omega arith);
      heard = count_none t (waiters (cells.cells k.cells).waits) (omega arith);
      served = count_none t (all_askers (queues.queues k.queues)) (omega arith);
    }

-- whether one runs
pub called : (k : Tables) (o : Option ℕ) → o ≡ k.tasks.running → MatchResult (ok_or o NoTask) (Caller k) (NoCaller k)
called k None e = record { refused = refl; idle = e }
called k (Some t) e = caller k t e

-- Waits -----------------------------------------------------------------------------------------------------------------------

-- those that wait at cells are not in the table
pub spread-cells : (k : Tables) → Spread k.tasks (waiters (cells.cells k.cells).waits)
spread-cells k t = let o = one_place k t in grind (arith, nat_tests)

-- Requests --------------------------------------------------------------------------------------------------------------------

-- the first request at a unit: its task stands nowhere in the table and can have the request
pub record First (k : Tables) (unit : UnitNumber) (r : Request) : Type 0 where
  pub starts : queues.queue_at unit k.queues ≡ r ∷ rest (queues.queue_at unit k.queues)
  pub unplaced : Unplaced r.task k.tasks
  pub fit : fits (record_in k.tasks r.task) r ≡ true

starts_with : (r : Request) (q : List Request) → Some r ≡ first q → q ≡ r ∷ rest q
starts_with r [] e = cc
starts_with r (x ∷ xs) e = let z : x ≡ r = cc in ap (λ (i : Request). i ∷ xs) z

pub first_request : (k : Tables) (unit : UnitNumber) (r : Request) → Some r ≡ first (queues.queue_at unit k.queues) → First k unit r
first_request k unit r e =
    let q = queues.queue_at unit k.queues in
    let s : q ≡ r ∷ rest q = starts_with r q e in
    let o = one_place k r.task in
    let c = count-one_queue r.task (queues.queues k.queues) (number_of unit) (has_queue k.queues unit) in
    let z : count r.task (askers q) ≡ one r.task r.task + count r.task (askers (rest q)) = ap (λ (i : List Request). count r.task (askers i)) s in
    let w = one_same r.task in
    record {
      starts = s;
      unplaced = record { within = grind (arith, nat_tests); nowhere = grind (arith, nat_tests) };
      fit = ∥∥₁_elim k.stands.state (Bool-set _ _) (λ h. (and_parts (fits (record_in k.tasks r.task) r) (all_fit k.tasks (rest q)) (sym (ap (all_fit k.tasks) s) ∙ h.sound.requests (number_of unit))).0);
    }

-- its record put anew, the task is nowhere still
pub put : (k : Tables) (unit : UnitNumber) (r : Request) (y : Task) (a : Table) → First k unit r → a ≡ change r.task (λ _. y) k.tasks → Unplaced r.task a
put k unit r y a h is = rw is (changed_unplaced (λ _. y) h.unplaced)

-- The start -------------------------------------------------------------------------------------------------------------------

-- a state whose parts are as at the start
pub starts : (n : ℕ) (timed : Bool) (us : List Medium) (a : Table) (ws : List ClockWait) (x : Cells) (qs : List (List Request)) (o : Option ℕ)
    → a ≡ begin_table n → ws ≡ [] → x ≡ begin_cells → qs ≡ replicate 4 [] → o ≡ then_some timed 0
    → record { table = a; sleeping = ws; cells = x; queues = qs; units = us; clock = unwrap_or o 0; timed = is_some o } ≡ begin n timed us
starts n true us a ws x qs o e f g h i = cc
starts n false us a ws x qs o e f g h i = cc

-- a state that begins as the rules do stands
pub begun : (n : ℕ) (timed : Bool) (s : State) (a b c : ℕ) → 1 ≤ n → n ≤ 64 → s ≡ begin n timed blanks → (a ≡ n) × (b ≡ n) × (c ≡ n) → StandsIn s a b c
begun n timed s a b c some few is w =
    let l : length s.table.tasks ≡ n = ap (λ (s : State). length s.table.tasks) is ∙ length-replicate n blank in
    let g = good_begin n timed blanks some refl in
    record {
      few = omega arith;
      sleepers = omega arith;
      waiters = omega arith;
      askers = omega arith;
      state = ∣ subst Standing (sym is) (record { sound = g.sound; foremost = g.fore }) ∣₁;
    }
