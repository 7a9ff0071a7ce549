-- All laws of a run together, of a run with one step more, and of each front of a run.
use Rattle.std.proofs.Common.{◌≡◌, List, [], ◌∷◌, ◌++◌, All, sym, refl, ap, ◌∙◌, subst}
use Rattle.std.proofs.lemmas.List.Elements.{All-nil, All-cons, All-append}
use Rattle.rules.specs.State.{State}
use Rattle.rules.specs.Rules.{Step, apply}
use Rattle.rules.specs.Runs.{after}
use Rattle.rules.specs.Laws.{FrontsToo, Lawful, Laws, Played, Started}
use Rattle.rules.proofs.Bytes.{units_law}
use Rattle.rules.proofs.Messages.{cells_law}
use Rattle.rules.proofs.Owed.{all-front, deadlines_law}
use Rattle.rules.proofs.Refused.{refused_law}
use Rattle.rules.proofs.Sounds.{foremost_law, places_law, soundness_law}

-- all laws hold of every run
pub all_laws : (start : State) (past : List Step) → Started start → All Lawful past → Laws start past (after start past)
all_laws start past h ok = record {
  reached = refl;
  sound = soundness_law start past h ok;
  foremost = foremost_law start past h ok;
  places = places_law start past h ok;
  cells = cells_law start past h ok;
  deadlines = deadlines_law start past h ok;
  units = units_law start past h ok;
  refused = refused_law start past h ok;
}

-- read off a state that is known to be the one come to
pub laws_of : (start : State) (past : List Step) (now : State) → Started start → All Lawful past → now ≡ after start past → Laws start past now
laws_of start past now h ok e = subst (λ (s : State). Laws start past s) (sym e) (all_laws start past h ok)

pub after-++ : (s : State) (xs ys : List Step) → after s (xs ++ ys) ≡ after (after s xs) ys
after-++ s [] ys = refl
after-++ s (x ∷ xs) ys = after-++ (apply x s).state xs ys

-- one step more, from before to now
pub laws-step : (start : State) (past : List Step) (x : Step) (before now : State) → Lawful x → now ≡ (apply x before).state → Started start → All Lawful past → before ≡ after start past → Laws start (past ++ x ∷ []) now
laws-step start past x before now ok e h oks r =
    laws_of start (past ++ x ∷ []) now h (All-append Lawful past (x ∷ []) oks (All-cons Lawful x [] ok (All-nil Lawful))) (e ∙ ap (λ (s : State). (apply x s).state) r ∙ sym (after-++ start past (x ∷ [])))

-- a list of steps more, and each front of it
pub laws_play : (start : State) (past more : List Step) (before now : State) → All Lawful more → now ≡ after before more → Started start → All Lawful past → before ≡ after start past → Played start past more now
laws_play start past more before now ok e h oks r = record {
  all = laws_of start (past ++ more) now h (All-append Lawful past more oks ok) (e ∙ ap (λ (s : State). after s more) r ∙ sym (after-++ start past more));
  fronts = λ early later is. all_laws start (past ++ early) h (All-append Lawful past early oks (all-front early later (subst (All Lawful) is ok)));
}

pub fronts_too : FrontsToo
fronts_too start past more h oks ok = laws_play start past more (after start past) (after start (past ++ more)) ok (after-++ start past more) h oks refl
