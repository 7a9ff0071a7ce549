-- Waits for due ticks that end one by one, and how many they are.
use Rattle.std.proofs.Common.{◌≡◌, ℕ, ◌+◌, ◌≤◌, List, [], ◌∷◌, length, Some, sym, ap, ◌∙◌, subst, arith}
use Rattle.std.proofs.lemmas.Bool.Decides.{nat_tests}
use Rattle.clock.specs.declared.ClockWaits.{ClockWaits}
use Rattle.clock.specs.Due.{ReleasedOne}
use Rattle.clock.specs.View.{room, sleeping}
use Rattle.clock.proofs.Counts.{sleepers-few}
use Rattle.rules.specs.State.{ClockWait, Table}
use Rattle.rules.specs.Tables.{release, release_all}
use Rattle.rules.specs.Clock.{due_at, later_than}
use Rattle.rules.specs.Records.{sleepers}
use Rattle.tables.specs.Spread.{Spread}
use Rattle.waiting.proofs.Handed.{spread-release}

module _ (reading : ℕ) where
  -- those that are due at the reading
  abbrev pub due : List ClockWait → List ℕ
  due ws = sleepers (due_at reading ws)

  -- what is left to do makes up what was to be done
  pub record Releasing (a₀ : Table) (ws₀ : List ClockWait) (a : Table) (ws : List ClockWait) (n : ℕ) : Type 0 where
    pub spread : Spread a (sleepers ws)
    pub table : release_all (due ws) a ≡ release_all (due ws₀) a₀
    pub waits : later_than reading ws ≡ later_than reading ws₀
    pub told : n + length (due ws) ≡ length (due ws₀)

  module _ {a₀ : Table} {ws₀ : List ClockWait} {a : Table} {ws : List ClockWait} {n : ℕ} {vs : List ClockWait} (h : Releasing a₀ ws₀ a ws n) where
    pub releasing-more : {t : ℕ} {b : Table} → ReleasedOne reading (Some t) ws vs → b ≡ release t a → Releasing a₀ ws₀ b vs (n + 1)
    releasing-more {t = t} {b = b} r to = let told = h.told in record {
      spread = subst (λ (d : Table). Spread d (sleepers vs)) (sym to) (spread-release t a (sleepers ws) (sleepers vs) h.spread r.counts);
      table = ap (release_all (due vs)) to ∙ sym (ap (λ ts. release_all ts a) r.due) ∙ h.table;
      waits = r.later ∙ h.waits;
      told = omega (arith, ap length r.due);
    }

  due-fewer : (ws : List ClockWait) → length (due ws) ≤ length (sleepers ws)
  due-fewer [] = omega arith
  due-fewer (w ∷ ws) = let r = due-fewer ws in grind (arith, nat_tests)

  -- no more are due than there is place for
  pub due-few : (x : ClockWaits) → length (due (sleeping x)) ≤ room x
  due-few x = let l = due-fewer (sleeping x) in let f = sleepers-few x in omega arith
