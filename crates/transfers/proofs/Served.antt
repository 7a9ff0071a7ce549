-- One service: what the code does with the move is what the rules do.
use Rattle.std.proofs.Common.{◌≡◌, ℕ, ◌+◌, Bool, true, false, cond, ltb, List, [], ◌∷◌, length, set, is_some, Some, None, Ok, Err, Option, Result, sym, refl, ap, ◌∙◌, arith}
use Rattle.std.proofs.lemmas.List.{get_or-set_same, set-set}
use Rattle.std.proofs.lemmas.Bool.{cond-false}
use Rattle.std.proofs.lemmas.Bool.Decides.{nat_tests}
use Rattle.calls.specs.declared.call.Call.TheVariants.{Service}
use Rattle.calls.specs.declared.call.TransferKind.{TransferKind}
use Rattle.calls.specs.declared.outcome.Outcome.{Outcome}
use Rattle.calls.specs.declared.refusal.Refusal.TheVariants.{NoSuchUnit}
use Rattle.chain.specs.Lists.{rest}
use Rattle.queues.specs.declared.four.Queues.{Queues}
use Rattle.queues.specs.declared.number.UnitNumber.{UnitNumber}
use Rattle.queues.specs.Four.{queue_at, queues}
use Rattle.queues.specs.Number.{number_of}
use Rattle.queues.specs.View.{advanced}
use Rattle.tasks.specs.declared.Tasks.{Tasks}
use Rattle.tasks.proofs.Tables.{change_as}
use Rattle.unit.specs.declared.faults.UnitFault.{UnitFault}
use Rattle.unit.specs.Medium.{Medium, fresh, told_give, told_take}
use Rattle.rules.specs.State.{Request, State, Table, Task, record_in, with_bytes, with_outcome}
use Rattle.rules.specs.Tables.{change, release, turn}
use Rattle.rules.specs.Acts.{refuse}
use Rattle.rules.specs.Rules.{apply}
use Rattle.rules.specs.Transfers.{Move, by_line, ending, going_on, move, move_in, move_out, moving, serving, writes}
use Rattle.tables.specs.declared.Tables.{Tables}
use Rattle.moving.specs.Moved.{move_for}
use Rattle.moving.specs.Moved as moved
use Rattle.tables.specs.Parts.{state_of}
use Rattle.tables.specs.View.{state}
use Rattle.transfers.proofs.Requested.{Is, is}
use Rattle.queues.proofs.Everywhere.{low}
use Rattle.tables.proofs.Stands.{First}

-- what the code makes of a move: the unit, the record, and the outcome if the transfer has ended
pub record Moves (m' : Medium) (y : Task) (outcome : Option Outcome) (v : Move) (x : Task) : Type 0 where
  pub medium : m' ≡ v.unit
  pub task : y ≡ moved.changed v x
  pub ends : outcome ≡ v.ends

-- Ends ------------------------------------------------------------------------------------------------------------------------

none_of : {X : Type 0} (o : Option X) → false ≡ is_some o → o ≡ None
none_of None e = refl
none_of (Some x) e = cc

some_of : {X : Type 0} (o : Option X) → true ≡ is_some o → (x : X) × (o ≡ Some x)
some_of None e = cc
some_of (Some x) e = (x, refl)

-- a transfer that goes on has one more byte moved
out-on : (r : Request) (bytes : List ℕ) (m : Medium) (told : Result (Unit {0}) UnitFault) → (move_out r bytes m told).ends ≡ None → (move_out r bytes m told).moved ≡ r.moved + 1
out-on r bytes m (Ok x) e = refl
out-on r bytes m (Err f) e = cc

in_on : (lines : Bool) (r : Request) (bytes : List ℕ) (m : Medium) (told : Result ℕ UnitFault) → (move_in lines r bytes m told).ends ≡ None → (move_in lines r bytes m told).moved ≡ r.moved + 1
in_on lines r bytes m (Ok x) e = refl
in_on lines r bytes m (Err f) e = cc

move-on : (k : Option TransferKind) (r : Request) (bytes : List ℕ) (m : Medium) → (move k r bytes m).ends ≡ None → (move k r bytes m).moved ≡ r.moved + 1
move-on k r bytes m = by (writes k)
  where
    by : (w : Bool) → (cond w (move_out r bytes m (told_take m)) (move_in (by_line k) r bytes m (told_give m))).ends ≡ None → (cond w (move_out r bytes m (told_take m)) (move_in (by_line k) r bytes m (told_give m))).moved ≡ r.moved + 1
    by true = out-on r bytes m (told_take m)
    by false = in_on (by_line k) r bytes m (told_give m)

-- Services --------------------------------------------------------------------------------------------------------------------

-- the first request of a unit is moved on: the record x of its task becomes y, the unit, which meant m, means m', and b is the
-- table with y
module _ {k : Tables} {unit : UnitNumber} {r : Request} {x y : Task} {m' : Medium} {ends : Option Outcome} {b : Table} (m : Medium) (us : List Medium) (four : length us ≡ 4)
    (f : First k unit r) (at : x ≡ record_in k.tasks r.task) (h : Moves m' y ends (move_for x r m) x) (to : b ≡ change r.task (λ _. y) k.tasks) where
  -- the state, with that unit
  abbrev over : Medium → State
  over m = state (set us (number_of unit) m) k

  serves : apply (Service (number_of unit)) (over m) ≡ serving (number_of unit) (queue_at unit k.queues) (over m)
  serves = let l = low unit in cond-false (ltb 3 (number_of unit)) (refuse NoSuchUnit (over m)) (serving (number_of unit) (queue_at unit k.queues) (over m)) (grind (arith, nat_tests))

  abbrev u : ℕ
  u = number_of unit

  abbrev v : Move
  v = move_for x r m

  abbrev rs : List Request
  rs = rest (queue_at unit k.queues)

  by_move : apply (Service u) (over m) ≡ moving u r rs v v.ends (over m)
  by_move =
      serves ∙ ap (λ (q : List Request). serving u q (over m)) f.starts
      ∙ ap (λ (d : Medium). moving u r rs (move_for (record_in k.tasks r.task) r d) (move_for (record_in k.tasks r.task) r d).ends (over m)) (get_or-set_same us u m (fresh [] 0 0) (let l = low unit in omega arith))
      ∙ ap (λ (i : Task). moving u r rs (move_for i r m) (move_for i r m).ends (over m)) (sym at)

  units_are : set us u m' ≡ set (set us u m) u v.unit
  units_are = ap (set us u) h.medium ∙ sym (set-set us u m v.unit)

  pub went_on : (tasks : Tasks) (requests : Queues) → is_some ends ≡ false → tasks ≡ b → queues requests ≡ set (queues k.queues) u (advanced (queue_at unit k.queues))
      → Is (state_of (set us u m') tasks k.waits k.cells requests k.clock) (Ok 0) (apply (Service u) (over m))
  went_on tasks requests l t q =
      let n : v.ends ≡ None = sym h.ends ∙ none_of ends (sym l) in
      let p : y ≡ with_bytes v.bytes (record_in k.tasks r.task) = h.task ∙ ap (λ (o : Option Outcome). moved.ending v.bytes o x) n ∙ ap (with_bytes v.bytes) at in
      let a : tasks ≡ change r.task (with_bytes v.bytes) k.tasks = t ∙ to ∙ change_as r.task (with_bytes v.bytes) y k.tasks p in
      let c : queues requests ≡ set (queues k.queues) u ((record { task = r.task; size = r.size; moved = v.moved }) ∷ rs) =
      q ∙ ap (λ (z : List Request). set (queues k.queues) u (advanced z)) f.starts ∙ ap (λ (i : ℕ). set (queues k.queues) u ((record { task = r.task; size = r.size; moved = i }) ∷ rs)) (sym (move-on x.kind r x.bytes m n)) in
      let w = units_are in
      is (state_of (set us u m') tasks k.waits k.cells requests k.clock) (Ok 0) (apply (Service u) (over m)) (going_on u r rs v (over m))
      (by_move ∙ ap (λ (o : Option Outcome). moving u r rs v o (over m)) n) (cc) refl

  pub was_last : (tasks : Tasks) (requests : Queues) → is_some ends ≡ true → tasks ≡ turn (release r.task b) → queues requests ≡ set (queues k.queues) u rs
      → Is (state_of (set us u m') tasks k.waits k.cells requests k.clock) (Ok 1) (apply (Service u) (over m))
  was_last tasks requests l t q =
      let some = some_of v.ends (sym l ∙ ap is_some h.ends) in
      let o = some.0 in
      let p : y ≡ with_outcome v.bytes o (record_in k.tasks r.task) = h.task ∙ ap (λ (i : Option Outcome). moved.ending v.bytes i x) some.1 ∙ ap (with_outcome v.bytes o) at in
      let a : tasks ≡ turn (release r.task (change r.task (with_outcome v.bytes o) k.tasks)) =
      t ∙ ap (λ (i : Table). turn (release r.task i)) (to ∙ change_as r.task (with_outcome v.bytes o) y k.tasks p) in
      let w = units_are in
      is (state_of (set us u m') tasks k.waits k.cells requests k.clock) (Ok 1) (apply (Service u) (over m)) (ending u r rs v o (over m))
      (by_move ∙ ap (λ (i : Option Outcome). moving u r rs v i (over m)) some.1) (cc) refl
