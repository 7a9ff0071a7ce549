-- Calls by id, by the task that is found: the caller itself, or another.
use Rattle.std.proofs.Common.{◌≡◌, ℕ, Bool, true, false, cond, List, Some, Option, Result, sym, refl, ap, ◌∙◌, eq-eqb, eqb-true}
use Rattle.std.specs.Prelude.{◌==◌}
use Rattle.calls.specs.declared.call.ByIdCall.{ByIdCall}
use Rattle.calls.specs.declared.call.ByIdCall.TheVariants.{Kill, Suspend, SetLevel, Status}
use Rattle.calls.specs.declared.call.Call.TheVariants as call
use Rattle.rules.specs.State.{State}
use Rattle.rules.specs.Tables.{lookup}
use Rattle.rules.specs.Acts.{tell}
use Rattle.rules.specs.Records.{by_id, killing, levelling, on_caller, on_other, status_of, suspending}
use Rattle.rules.specs.Rules.{Step, apply, by_caller}
use Rattle.rules.specs.Acts.{Done}
use Rattle.calls.specs.declared.refusal.Refusal.{Refusal}
use Rattle.unit.specs.Medium.{Medium}
use Rattle.tables.specs.Promises.{Does}
use Rattle.tables.specs.View.{state}
use Rattle.tables.specs.declared.Tables.{Tables}

-- a step that is another step, by the rules
pub same_step : {x y : Step} {before after : Tables} {r : Result ℕ Refusal} → ((us : List Medium) → apply x (state us before) ≡ apply y (state us before)) → Does y before after r → Does x before after r
same_step e h = record { state = λ us. h.state us ∙ ap (λ (d : Done). d.state) (sym (e us)); answer = λ us. h.answer us ∙ ap (λ (d : Done). d.answer) (sym (e us)); room = h.room }

module _ (s : State) (t k id : ℕ) (runs : Some t ≡ s.table.running) (finds : Some k ≡ lookup id s.table) where
  by-found : (c : ByIdCall) → apply (call.ById id c) s ≡ cond (k == t) (on_caller t c s) (on_other k c s)
  by-found c = ap (λ (o : Option ℕ). by_caller o (λ t. by_id t c (lookup id s.table) s) s) (sym runs) ∙ ap (λ (o : Option ℕ). by_id t c o s) (sym finds)

  -- the caller
  pub on-caller : (c : ByIdCall) → k ≡ t → apply (call.ById id c) s ≡ on_caller t c s
  on-caller c e = by-found c ∙ ap (λ (b : Bool). cond b (on_caller t c s) (on_other k c s)) (eq-eqb k t e)

  -- on the caller, its own call
  pub own_kill : k ≡ t → apply (call.ById id Kill) s ≡ apply call.Kill s
  own_kill e = on-caller Kill e ∙ ap (λ (o : Option ℕ). by_caller o (λ t. killing t s) s) runs

  pub own-suspend : k ≡ t → apply (call.ById id Suspend) s ≡ apply call.Suspend s
  own-suspend e = on-caller Suspend e ∙ ap (λ (o : Option ℕ). by_caller o (λ t. suspending t s) s) runs

  pub own-level : (level : ℕ) → k ≡ t → apply (call.ById id (SetLevel level)) s ≡ apply (call.SetLevel level) s
  own-level level e = on-caller (SetLevel level) e ∙ ap (λ (o : Option ℕ). by_caller o (λ t. levelling t level s) s) runs

  -- the status of either is told the same way
  pub status_told : apply (call.ById id Status) s ≡ tell (status_of s k) s
  status_told = by-found Status ∙ same (k == t) refl
    where
      same : (b : Bool) → k == t ≡ b → cond b (on_caller t Status s) (on_other k Status s) ≡ tell (status_of s k) s
      same true e = ap (λ (j : ℕ). tell (status_of s j) s) (sym (eqb-true k t e))
      same false e = refl
