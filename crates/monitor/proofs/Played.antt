-- Steps made one after the other.
use Rattle.std.proofs.Common.{◌≡◌, ℕ, ◌+◌, ◌<◌, List, [], ◌∷◌, ◌++◌, length, get_or, take, All, Result, sym, refl, ap, ◌∙◌, subst, Bor, append_assoc}
use Rattle.std.proofs.lemmas.List.Elements.{All-nil, All-push}
use Rattle.std.proofs.lemmas.List.{map-append, take_more}
use Rattle.calls.specs.Calls.{call_with}
use Rattle.calls.specs.declared.call.Call.{Call}
use Rattle.calls.specs.declared.refusal.Refusal.{Refusal}
use Rattle.rules.specs.State.{State}
use Rattle.rules.specs.Rules.{Step, apply}
use Rattle.rules.specs.Runs.{after, answers}
use Rattle.rules.specs.Laws.{Lawful, Started}
use Rattle.rules.proofs.Together.{after-++, laws_play}
use Rattle.monitor.specs.Promises.{Made, Performed, steps_of}

answers-++ : (s : State) (xs ys : List Step) → answers s (xs ++ ys) ≡ answers s xs ++ answers (after s xs) ys
answers-++ s [] ys = refl
answers-++ s (x ∷ xs) ys = ap (λ (rs : List (Result ℕ Refusal)). (apply x s).answer ∷ rs) (answers-++ (apply x s).state xs ys)

-- some steps were made, and their answers stand behind others: the state, the answers, and that the steps are lawful
pub record MadeSo (others : List (Result ℕ Refusal)) (start : State) (steps : List Step) (s : State) (told : List (Result ℕ Refusal)) : Type 0 where
  pub state : s ≡ after start steps
  pub answers : told ≡ others ++ answers start steps
  pub lawful : All Lawful steps

-- one more is made
pub one_more : {start s s' : State} {others told told' : List (Result ℕ Refusal)} {r : Result ℕ Refusal} (calls : List (Call (Bor (List ℕ)))) (i : ℕ) (d : Call (Bor (List ℕ))) → i < length calls
    → told' ≡ told ++ r ∷ [] → MadeSo others start (steps_of (take i calls)) s told → Made (call_with (λ t. t.now) (get_or calls i d)) s s' r → Lawful (call_with (λ t. t.now) (get_or calls i d))
    → MadeSo others start (steps_of (take (i + 1) calls)) s' told'
one_more {start = start} {s' = s'} {others = others} {told' = told'} {r = r} calls i d l e h m ok =
    let x = call_with (λ t. t.now) (get_or calls i d) in
    let xs = steps_of (take i calls) in
    let more : xs ++ x ∷ [] ≡ steps_of (take (i + 1) calls) = sym (ap steps_of (take_more calls i d l) ∙ map-append (call_with (λ t. t.now)) (take i calls) (get_or calls i d ∷ [])) in
    let last : answers start (xs ++ x ∷ []) ≡ answers start xs ++ r ∷ [] = answers-++ start xs (x ∷ []) ∙ sym (ap (λ (a : Result ℕ Refusal). answers start xs ++ a ∷ []) (m.answer ∙ ap (λ (z : State). (apply x z).answer) h.state)) in
    subst (λ (ys : List Step). MadeSo others start ys s' told') more (record {
      state = m.state ∙ ap (λ (z : State). (apply x z).state) h.state ∙ sym (after-++ start xs (x ∷ []));
      answers = rw (e, h.answers, last) (append_assoc others (answers start xs) (r ∷ []));
      lawful = All-push Lawful xs x h.lawful ok;
    })

-- the run from a start, with the laws of it and of each front of it
pub performed : {start s last : State} {steps : List Step} {told : List (Result ℕ Refusal)} → Started start → s ≡ start → last ≡ after s steps → told ≡ answers s steps → All Lawful steps → Performed start steps last told
performed {start = start} {last = last} {steps = steps} h is e a ok =
    let e' : last ≡ after start steps = rw (← is) e in
    record { state = e'; answers = rw (← is) a; laws = laws_play start [] steps start last ok e' h (All-nil Lawful) refl }
