-- The trial runs, by computing, and the long delay by a lemma on one tick.
use Rattle.std.proofs.Common.{◌≡◌, ℕ, zero, suc, ◌+◌, ◌<◌, true, List, [], ◌∷◌, replicate, Some, None, refl, ap, ◌∙◌, arith}
use Rattle.std.proofs.lemmas.Bool.{ne_eqb, lt-leb}
use Rattle.calls.specs.declared.call.Call.TheVariants.{Delay, Tick}
use Rattle.unit.specs.Medium.{Medium}
use Rattle.rules.specs.State.{State, begin, with_clock}
use Rattle.rules.specs.Tables.{change, choose, hand, level_other, link, put_free, ready_other, release, stop, suspend, suspend_other, take_free, take_out, turn, unsuspend}
use Rattle.rules.specs.Rules.{apply}
use Rattle.rules.specs.Runs.{after}
use Rattle.rules.specs.Trials.{AllReceiversWake, BehindEquals, FreedIdIsGone, LineRead, ReadyEndsNoWait, ReleasedBeforeCaller, Trials, delayed}

-- the only task waits for tick 65,535, and the clock reads c
abbrev asleep_at : ℕ → List Medium → State
asleep_at c us = with_clock c (after (begin 1 true us) (Delay 65535 ∷ []))

one_tick : (c : ℕ) (us : List Medium) → c + 1 < 65535 → (apply Tick (asleep_at c us)).state ≡ asleep_at (c + 1) us
unfolding change choose link stop turn
one_tick c us h = simp (ne_eqb c 1000000000000 (λ e. omega arith), lt-leb 65535 (c + 1) h) refl

ticks : (k c : ℕ) (us : List Medium) → c + k < 65535 → after (asleep_at c us) (replicate k Tick) ≡ asleep_at (c + k) us
ticks zero c us h = ap (λ (n : ℕ). asleep_at n us) (omega arith)
ticks (suc k) c us h =
    ap (λ (s : State). after s (replicate k Tick)) (one_tick c us (omega arith))
    ∙ ticks k (c + 1) us (omega arith) ∙ ap (λ (n : ℕ). asleep_at n us) (omega arith)

-- one more tick may be the last
tick_last : (k : ℕ) (s : State) → after s (replicate (suc k) Tick) ≡ (apply Tick (after s (replicate k Tick))).state
tick_last zero s = refl
tick_last (suc k) s = tick_last k (apply Tick s).state

begins : (us : List Medium) → after (begin 1 true us) (Delay 65535 ∷ []) ≡ asleep_at 0 us
unfolding change choose link stop turn
begins us = refl

sleeps : (us : List Medium) → (asleep_at 65534 us).table.running ≡ None
unfolding change choose link stop turn
sleeps us = refl

wakes : (us : List Medium) → (apply Tick (asleep_at 65534 us)).state.table.running ≡ Some 0
unfolding change choose link stop turn release
wakes us = refl

all_but_one : (us : List Medium) → delayed 65535 65534 us ≡ asleep_at 65534 us
all_but_one us = ap (λ (s : State). after s (replicate 65534 Tick)) (begins us) ∙ ticks 65534 0 us (omega arith)

long_delay_lem : (us : List Medium) → ((delayed 65535 65534 us).table.running ≡ None) × ((delayed 65535 65535 us).table.running ≡ Some 0)
long_delay_lem us = (
  ap (λ (s : State). s.table.running) (all_but_one us) ∙ sleeps us,
  ap (λ (s : State). s.table.running) (tick_last 65534 (after (begin 1 true us) (Delay 65535 ∷ [])) ∙ ap (λ (s : State). (apply Tick s).state) (all_but_one us)) ∙ wakes us,
)

pub trials : (us : List Medium) → Trials us
unfolding change choose hand level_other link put_free ready_other release stop suspend suspend_other take_free take_out turn unsuspend
trials us = record {
  round_robin = refl;
  last_freed_first = refl;
  both_receive = (refl, refl, refl, refl, refl, refl);
  full_before_zero = refl;
  short_delay = (refl, refl);
  long_delay = long_delay_lem us;
  lengths = refl;
  no_record_first = refl;
  marked_receiver = (refl, refl, refl, refl);
}

pub line_read_lem : (us : List Medium) → LineRead us
unfolding change choose hand level_other link put_free ready_other release stop suspend suspend_other take_free take_out turn unsuspend
line_read_lem us = record { answers = refl; runners = refl; bytes = refl }

pub behind-equals : (us : List Medium) → BehindEquals us
unfolding change choose hand level_other link put_free ready_other release stop suspend suspend_other take_free take_out turn unsuspend
behind-equals us = (refl, refl)

pub freed-id-is-gone : (us : List Medium) → FreedIdIsGone us
unfolding change choose hand level_other link put_free ready_other release stop suspend suspend_other take_free take_out turn unsuspend
freed-id-is-gone us = refl

pub all_receivers_wake : (us : List Medium) → AllReceiversWake us
unfolding change choose hand level_other link put_free ready_other release stop suspend suspend_other take_free take_out turn unsuspend
all_receivers_wake us = (refl, refl)

pub released-before-caller : (us : List Medium) → ReleasedBeforeCaller us
unfolding change choose hand level_other link put_free ready_other release stop suspend suspend_other take_free take_out turn unsuspend
released-before-caller us = (refl, refl)

pub ready-ends-no_wait : (us : List Medium) → ReadyEndsNoWait us
unfolding change choose hand level_other link put_free ready_other release stop suspend suspend_other take_free take_out turn unsuspend
ready-ends-no_wait us = (refl, refl, refl)
