-- A transfer that is asked for, and one that is refused.
use Rattle.std.proofs.Common.{◌≡◌, ℕ, zero, suc, Bool, true, false, cond, not, ltb, List, [], length, set, Ok, Err, Option, Result, sym, refl, ap, ◌∙◌}
use Rattle.std.proofs.lemmas.Bool.{cond-false}
use Rattle.calls.specs.declared.call.Call.TheVariants as call
use Rattle.calls.specs.declared.call.Transfer.{Transfer}
use Rattle.calls.specs.declared.call.Transfer.TheVariants.{Write, WriteLine, Read, ReadLine}
use Rattle.calls.specs.declared.call.TransferKind.TheVariants as kind
use Rattle.calls.specs.declared.refusal.Refusal.{Refusal}
use Rattle.calls.specs.declared.refusal.Refusal.TheVariants.{BadLength, NoLineEnd, NoSuchUnit}
use Rattle.queues.specs.declared.four.Queues.{Queues}
use Rattle.queues.specs.declared.number.UnitNumber.{UnitNumber}
use Rattle.queues.specs.declared.number.UnitNumber.TheVariants.{Unit0, Unit1, Unit2, Unit3}
use Rattle.queues.specs.Four.{queue_at, queues}
use Rattle.queues.specs.Number.{number_of, told}
use Rattle.tasks.specs.declared.Tasks.{Tasks}
use Rattle.tasks.proofs.Tables.{change_as}
use Rattle.unit.specs.Medium.{Medium}
use Rattle.rules.specs.State.{State, Table, Task, record_in, with_transfer}
use Rattle.rules.specs.Tables.{change, stop, turn}
use Rattle.rules.specs.Acts.{Done, refuse}
use Rattle.rules.specs.Rules.{apply, by_caller, of_unit}
use Rattle.rules.specs.Transfers.{asking, bad_length, enqueue, has_line_end, line, transferring}
use Rattle.tables.specs.declared.Tables.{Tables}
use Rattle.tables.specs.Caller.{Caller}
use Rattle.tables.specs.Parts.{state_of}
use Rattle.tables.specs.View.{state}
use Rattle.moving.specs.Wanted.{Wanted, wanted}

-- what a state and an answer came to, by the rules
pub record Is (s : State) (r : Result ℕ Refusal) (d : Done) : Type 0 where
  pub state : s ≡ d.state
  pub answer : r ≡ d.answer

pub is : (s : State) (r : Result ℕ Refusal) (d e : Done) → d ≡ e → s ≡ e.state → r ≡ e.answer → Is s r d
is s r d e x a b = record { state = a ∙ sym (ap (λ (z : Done). z.state) x); answer = b ∙ sym (ap (λ (z : Done). z.answer) x) }

module _ (t u : ℕ) (s : State) where
  -- what is wanted is asked for, or refused
  abbrev asks : Result Wanted Refusal → Done
  asks (Ok w) = asking t u w.kind w.bytes w.size s
  asks (Err r) = refuse r s

  asks-cond : (b : Bool) (x y : Result Wanted Refusal) → cond b (asks x) (asks y) ≡ asks (cond b x y)
  asks-cond true x y = refl
  asks-cond false x y = refl

  asks-wanted : (x : Transfer (List ℕ)) → transferring t u x s ≡ asks (wanted x)
  asks-wanted (Write text) = asks-cond (bad_length (length text)) (Err BadLength) (Ok (record { kind = kind.Write; bytes = text; size = length text }))
  asks-wanted (WriteLine text) =
      let lined : Result Wanted Refusal = Ok (record { kind = kind.WriteLine; bytes = line text; size = length (line text) }) in
      ap (λ (d : Done). cond (bad_length (length text)) (refuse BadLength s) d) (asks-cond (not (has_line_end text)) (Err NoLineEnd) lined)
      ∙ asks-cond (bad_length (length text)) (Err BadLength) (cond (not (has_line_end text)) (Err NoLineEnd) lined)
  asks-wanted (Read size) = asks-cond (bad_length size) (Err BadLength) (Ok (record { kind = kind.Read; bytes = []; size = size }))
  asks-wanted ReadLine = refl

-- a number that names a unit
pub unit_of_lem : (unit : ℕ) (at : UnitNumber) → Ok at ≡ told unit → (number_of at ≡ unit) × (ltb 3 unit ≡ false)
unit_of_lem zero at e = let z : at ≡ Unit0 = cc in (ap number_of z, refl)
unit_of_lem (suc zero) at e = let z : at ≡ Unit1 = cc in (ap number_of z, refl)
unit_of_lem (suc (suc zero)) at e = let z : at ≡ Unit2 = cc in (ap number_of z, refl)
unit_of_lem (suc (suc (suc zero))) at e = let z : at ≡ Unit3 = cc in (ap number_of z, refl)
unit_of_lem (suc (suc (suc (suc n)))) at e = cc

-- the running task asks a unit that there is
module _ {k : Tables} {t : ℕ} {at : UnitNumber} (unit : ℕ) (x : Transfer (List ℕ)) (caller : Caller k t) (there : Ok at ≡ told unit) (us : List Medium) where
  asked_of : apply (call.Transfer unit x) (state us k) ≡ asks t (number_of at) (state us k) (wanted x)
  asked_of =
      let n = unit_of_lem unit at there in
      let s = state us k in
      ap (λ (o : Option ℕ). by_caller o (λ (i : ℕ). of_unit unit (transferring i unit x s) s) s) (sym caller.runs)
      ∙ cond-false (ltb 3 unit) (refuse NoSuchUnit s) (transferring t unit x s) n.1
      ∙ ap (λ (i : ℕ). transferring t i x s) (sym n.0)
      ∙ asks-wanted t (number_of at) s x

  pub refused : {r : Refusal} → Err r ≡ wanted x → Is (state us k) (Err r) (apply (call.Transfer unit x) (state us k))
  refused {r = r} e = is (state us k) (Err r) (apply (call.Transfer unit x) (state us k)) (refuse r (state us k)) (asked_of ∙ ap (asks t (number_of at) (state us k)) (sym e)) refl refl

  module _ {w : Wanted} {a b : Table} {y z : Task} (tasks : Tasks) (requests : Queues) (e : Ok w ≡ wanted x) where
    pub granted : a ≡ stop k.tasks → z ≡ record_in a t → y ≡ with_transfer w.kind w.bytes z → b ≡ change t (λ _. y) a → tasks ≡ turn b
        → queues requests ≡ set (queues k.queues) (number_of at) (enqueue (record { task = t; size = w.size; moved = 0 }) (queue_at at k.queues))
        → Is (state_of us tasks k.waits k.cells requests k.clock) (Ok 0) (apply (call.Transfer unit x) (state us k))
    granted h n f g o q =
        let v : tasks ≡ turn (change t (with_transfer w.kind w.bytes) (stop k.tasks)) = o ∙ ap turn (g ∙ change_as t (with_transfer w.kind w.bytes) y a (f ∙ ap (with_transfer w.kind w.bytes) n) ∙ ap (change t (with_transfer w.kind w.bytes)) h) in
        is (state_of us tasks k.waits k.cells requests k.clock) (Ok 0) (apply (call.Transfer unit x) (state us k)) (asking t (number_of at) w.kind w.bytes w.size (state us k))
        (asked_of ∙ ap (asks t (number_of at) (state us k)) (sym e)) (cc) refl
