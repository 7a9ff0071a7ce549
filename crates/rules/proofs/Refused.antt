-- A refused call changes nothing.
use Rattle.std.proofs.Common.{◌≡◌, ℕ, true, false, Ok, Err, refl, arith}
use Rattle.calls.specs.declared.refusal.Refusal.{Refusal}
use Rattle.rules.specs.State.{State}
use Rattle.rules.specs.Acts.{Done}
use Rattle.rules.specs.Rules.{Step, apply}
use Rattle.rules.specs.Laws.{OfEveryRun, RefusedChangeNothing}
use Rattle.rules.proofs.Shapes.{Shape, shape, refuses, tells-only, creates, kills, suspends, levels, turns, kills-other, readies_other, suspends-other, levels-other, posts, delivers, awaits, takes, delays, ticks, asks, goes_on, ends}

granted-not : {A : Type 0} (n : ℕ) (r : Refusal) → Ok n ≡ Err r → A
granted-not n r e = let z : ◌≡◌ {A = ℕ} 0 1 = cc in let f : ⊥ = omega arith in absurd f

same : {s : State} {x : Step} {d : Done} (r : Refusal) → Shape s x d → d.answer ≡ Err r → d.state ≡ s
same r (refuses x r') e = refl
same r (tells-only x n q) e = refl
same r (creates t k ks id level start message a b c) e = granted-not k r e
same r (kills x t q a) e = granted-not 0 r e
same r (suspends x t q a) e = granted-not 0 r e
same r (levels x t level q a) e = granted-not 0 r e
same r (turns x t q a) e = granted-not 0 r e
same r (kills-other id t k a b c f) e = granted-not 0 r e
same r (readies_other id t k a b c) e = granted-not 0 r e
same r (suspends-other id t k a b c) e = granted-not 0 r e
same r (levels-other id t k level a b c) e = granted-not 0 r e
same r (posts t c m true a b g f) e = granted-not 0 r e
same r (posts t c m false a b g f) e = granted-not 0 r e
same r (delivers t c m stay a b g f) e = granted-not 0 r e
same r (awaits t c a b) e = granted-not 0 r e
same r (takes t c a b) e = granted-not _ r e
same r (delays t n a b) e = granted-not 0 r e
same r (ticks a) e = granted-not _ r e
same r (asks t u y k bytes size a b c) e = granted-not 0 r e
same r (goes_on u q rs a b c) e = granted-not 0 r e
same r (ends u q rs o a b c) e = granted-not 1 r e

pub refused-same : (s : State) (x : Step) (r : Refusal) → (apply x s).answer ≡ Err r → (apply x s).state ≡ s
refused-same s x r e = same r (shape s x) e

pub refused_law : OfEveryRun RefusedChangeNothing
refused_law start past h ok early x later r is e = refused-same _ x r e
