-- A service by the number of its unit.
use Rattle.std.proofs.Common.{◌≡◌, ℕ, List, length, Ok, Result, sym, ap, ◌∙◌, set, subst}
use Rattle.calls.specs.declared.call.Call.TheVariants.{Service}
use Rattle.calls.specs.declared.refusal.Refusal.{Refusal}
use Rattle.queues.specs.declared.number.UnitNumber.{UnitNumber}
use Rattle.queues.specs.Number.{number_of, told}
use Rattle.unit.specs.Medium.{Medium}
use Rattle.rules.specs.Rules.{apply}
use Rattle.tables.specs.Promises.{Serves}
use Rattle.tables.specs.View.{state}
use Rattle.tables.specs.declared.Tables.{Tables}
use Rattle.transfers.proofs.Requested.{unit_of_lem}
use Rattle.monitor.specs.Promises.{Made}

-- the unit that is served is the one with the number
pub served : {found at : UnitNumber} {m m' : Medium} {before after : Tables} {r : Result ℕ Refusal} (unit : ℕ) (us : List Medium) → Ok found ≡ told unit → found ≡ at → length us ≡ 4
    → set us (number_of at) m ≡ us → Serves (number_of at) m m' before after r → Made (Service unit) (state us before) (state (set us (number_of at) m') after) r
served {found = found} {at = at} {m' = m'} {before = before} {after = after} {r = r} unit us there is four here s =
    let state_is = subst (λ (vs : List Medium). state (set us (number_of at) m') after ≡ (apply (Service (number_of at)) (state vs before)).state) here (s.state us four) in
    let answer_is = subst (λ (vs : List Medium). r ≡ (apply (Service (number_of at)) (state vs before)).answer) here (s.answer us four) in
    subst (λ (n : ℕ). Made (Service n) (state us before) (state (set us (number_of at) m') after) r) (sym (ap number_of is) ∙ (unit_of_lem unit found there).0) (record { state = state_is; answer = answer_is })
