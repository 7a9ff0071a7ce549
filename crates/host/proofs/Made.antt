-- Calls made one after the other.
use Rattle.std.proofs.Common.{◌≡◌, ℕ, ◌+◌, ◌-◌, ◌*◌, ◌/◌, ◌≤◌, List, [], ◌∷◌, ◌++◌, length, take, drop, None, Some, Ok, Option, Result, refl, sym, ap, ◌∙◌, subst, append_assoc, arith}
use Rattle.std.proofs.lemmas.List.{append-nil, drop_at, drop-drop, flat_map_more, length-append, length-drop, take_all, take-append-drop, take_at}
use Rattle.std.proofs.Math.ListN.{drop_of_length-le}
use borrow.Rule.Slice.PartMut.{put_mid}
use Rattle.std.proofs.lemmas.List.Elements.{All-nil, All-push}
use Rattle.calls.specs.Calls.{call_with}
use Rattle.calls.specs.declared.call.Call.TheVariants.{Look}
use Rattle.calls.specs.declared.call.LookedAt.TheVariants.{Outcome}
use Rattle.calls.specs.declared.refusal.Refusal.{Refusal}
use Rattle.calls.specs.declared.stop.Stop.{Stop}
use Rattle.rules.specs.State.{State, task_of}
use Rattle.rules.specs.Acts.{tell}
use Rattle.rules.specs.Rules.{Step, apply, by_caller, outcome_text, seen}
use Rattle.rules.specs.Runs.{after}
use Rattle.rules.specs.Laws.{Lawful}
use Rattle.rules.proofs.Together.{after-++, laws_play}
use Rattle.words.specs.Answers.{answer_words}
use Rattle.words.specs.declared.parts.Answer.{Answer}
use Rattle.words.specs.Writing.{left_by, told_writing}
use Rattle.words.specs.Format.{call_words, data_words, first_word}
use Rattle.words.specs.Reading.{Writable}
use Rattle.words.proofs.CallWords.{told-size}
use Rattle.words.proofs.FirstWords.{about_head}
use Rattle.host.specs.Answered.{answer_to, answers_from, size_of, text_behind, words_of}
use Rattle.host.specs.Run.{Makes, MakesOne, Ran, StopsFor}

answers_from-++ : (s : State) (xs ys : List Step) → answers_from s (xs ++ ys) ≡ answers_from s xs ++ answers_from (after s xs) ys
answers_from-++ s [] ys = refl
answers_from-++ s (x ∷ xs) ys =
    let w = answer_words (answer_to x s) in
    ap (λ (more : List ℕ). w ++ more) (answers_from-++ (apply x s).state xs ys) ∙ sym (append_assoc w (answers_from (apply x s).state xs) (answers_from (after (apply x s).state xs) ys))

-- the words of a call are one at least
pub some_words : (x : Step) → 4 ≤ length (call_words x)
some_words x =
    let n = (about_head (call_with length x)).0 in
    let k = length-append (first_word (call_with length x)) (data_words x) in
    omega arith

words_for : (xs : List Step) → 4 * length xs ≤ length (words_of xs)
words_for [] = omega arith
words_for (x ∷ xs) =
    let n = words_for xs in
    let k = some_words x in
    let l = length-append (call_words x) (words_of xs) in
    omega arith

-- as many words as calls are gone at least
pub few : {words rest out left : List ℕ} {before now : State} {count written : ℕ} → Makes words rest before now out left count written → 4 * count + length rest ≤ length words
few {rest = rest} m =
    let n = words_for m.calls in
    omega (arith, m.number, ap length m.front, length-append (words_of m.calls) rest)

-- none is made yet
pub none_made : (words out : List ℕ) (s : State) → Makes words words s s out out 0 0
none_made words out s = record { calls = []; front = refl; writable = All-nil Writable; lawful = All-nil Lawful; number = refl; state = refl; takes = refl; room = omega arith; answers = refl }

-- one more is made, and its answer stands behind the others
pub one_more : {words rest more out left left' place part : List ℕ} {before now then : State} {count written size : ℕ} → Makes words rest before now out left count written → MakesOne rest more now then place part size
    → place ≡ drop written left → left' ≡ take written left ++ part → Makes words more before then out left' (count + 1) (written + size)
one_more {words = words} {rest = rest} {more = more} {out = out} {left = left} {left' = left'} {place = place} {part = part} {before = before} {now = now} {then = then} {count = count} {written = written} {size = size} m o p e =
    let x = o.call in
    let a = answers_from before m.calls in
    let w = answer_words (answer_to x now) in
    let tail = drop written out in
    let front : take written left ≡ a = ap (take written) m.answers ∙ take_at a tail written (sym m.takes) in
    let back : drop written left ≡ tail = ap (drop written) m.answers ∙ drop_at a tail written (sym m.takes) in
    let last : answers_from before (m.calls ++ x ∷ []) ≡ a ++ w =
    answers_from-++ before m.calls (x ∷ []) ∙ ap (λ (z : State). a ++ (answer_words (answer_to x z) ++ [])) (sym m.state) ∙ ap (λ (v : List ℕ). a ++ v) (append-nil w) in
    let sizes : length (a ++ w) ≡ length a + length w = length-append a w in
    let here : place ≡ tail = p ∙ back in
    let long : length place ≡ length out - written = ap length here ∙ length-drop written out in
    let fits = m.room in
    let more_fits = o.room in
    record {
      calls = m.calls ++ x ∷ [];
      front = m.front ∙ ap (λ (v : List ℕ). words_of m.calls ++ v) o.front ∙ sym (append_assoc (words_of m.calls) (call_words x) more) ∙ ap (λ (v : List ℕ). v ++ more) (flat_map_more call_words [] m.calls x);
      writable = All-push Writable m.calls x m.writable o.writable;
      lawful = All-push Lawful m.calls x m.lawful o.lawful;
      number = ap (λ (n : ℕ). n + 1) m.number ∙ sym (length-append m.calls (x ∷ []));
      state = o.state ∙ ap (λ (z : State). (apply x z).state) m.state ∙ sym (after-++ before m.calls (x ∷ []));
      takes = rw (last, sizes) (omega (arith, m.takes, o.takes));
      room = omega (arith, fits, more_fits, long);
      answers = rw last (e ∙ ap (λ (v : List ℕ). take written left ++ v) o.answer ∙ ap (λ (v : List ℕ). v ++ (w ++ drop size place)) front
          ∙ ap (λ (v : List ℕ). a ++ (w ++ drop size v)) here ∙ ap (λ (v : List ℕ). a ++ (w ++ v)) (drop-drop size written out) ∙ sym (append_assoc a w (drop (written + size) out)));
    }

-- a part of a slice from a place to its end, and what a write to it leaves
pub tail_is : (at : ℕ) (xs : List ℕ) → take (length xs - at) (drop at xs) ≡ drop at xs
tail_is at xs = take_all (length xs - at) (drop at xs) (omega (arith, length-drop at xs))

pub tail_put : (at : ℕ) (xs ys : List ℕ) → put_mid at (length xs - at) xs ys ≡ take at xs ++ ys
tail_put at xs ys = ap (λ (v : List ℕ). take at xs ++ (ys ++ v)) (drop_of_length-le (drop at xs) (omega (arith, length-drop at xs))) ∙ ap (λ (v : List ℕ). take at xs ++ v) (append-nil ys)

-- the calls before the stop are made, and nothing else has changed
pub ended : {words rest out left left' place part : List ℕ} {before now now' : State} {count written : ℕ} {stop : Stop} → Makes words rest before now out left count written
    → StopsFor stop ((length words - length rest) / 4) rest now (length place) × (now' ≡ now) × (part ≡ place) → place ≡ drop written left → left' ≡ take written left ++ part
    → Ran words before now' out left' (record { calls = count; written = written; stop = stop })
ended {words = words} {rest = rest} {out = out} {left = left} {place = place} {before = before} {now' = now'} {written = written} {stop = stop} m h p e =
    let state = h.1 ∙ m.state in
    let same : take written left ++ place ≡ left = ap (λ (v : List ℕ). take written left ++ v) p ∙ take-append-drop written left in
    let back : drop written left ≡ drop written out = ap (drop written) m.answers ∙ drop_at (answers_from before m.calls) (drop written out) written (sym m.takes) in
    let room : length place ≡ length out - written = ap length (p ∙ back) ∙ length-drop written out in
    record {
      rest = rest;
      makes = record { calls = m.calls; front = m.front; writable = m.writable; lawful = m.lawful; number = m.number; state = state; takes = m.takes; room = m.room; answers = e ∙ ap (λ (v : List ℕ). take written left ++ v) h.2 ∙ same ∙ m.answers };
      stop = subst (λ (n : ℕ). StopsFor stop ((length words - length rest) / 4) rest now' n) room (subst (λ (s : State). StopsFor stop ((length words - length rest) / 4) rest s (length place)) (sym h.1) h.0);
      laws = λ start past h' oks r. laws_play start past m.calls before now' m.lawful state h' oks r;
    }

-- One call ----------------------------------------------------------------------------------------------------------------------

-- a look leaves the state, so the text behind its outcome stands
text_stays : (x : Step) (s : State) → text_behind x (apply x s).state ≡ text_behind x s
text_stays (Look Outcome) s = elim s.table.running as (λ r. outcome_text (by_caller r (λ t. tell (seen Outcome (task_of s t)) s) s).state ≡ outcome_text s) [ None ↦ refl | Some t ↦ refl ]
text_stays x s = refl

answer-same : (r s : Option ℕ) (p q : Result ℕ Refusal) (t u : List ℕ) → r ≡ s → p ≡ q → t ≡ u → ◌≡◌ {A = Answer (List ℕ)} (record { running = r; reply = p; text = t }) (record { running = s; reply = q; text = u })
answer-same r s p q t u a b c = cc

same_answer : (a b : Answer (List ℕ)) → a.running ≡ b.running → a.reply ≡ b.reply → a.text ≡ b.text → a ≡ b
same_answer a b running reply text = answer-same a.running b.running a.reply b.reply a.text b.text running reply text

-- an answer that is made of the state behind the call is the rules' answer to it, and is written where it has room
pub answered : {now : State} {left : List ℕ} {told : Result ℕ Refusal} {size : ℕ} (x : Step) (s : State) (a : Answer (List ℕ)) (out : List ℕ) → now ≡ (apply x s).state → a.running ≡ now.table.running → a.reply ≡ (apply x s).answer → a.text ≡ text_behind x now
    → size_of x s ≡ size → size ≤ length out → told ≡ told_writing (answer_words a) out → left ≡ left_by told (answer_words a) out → left ≡ answer_words (answer_to x s) ++ drop size out
answered {now = now} {left = left} {told = told} {size = size} x s a out e running reply text takes room t l =
    let same : a ≡ answer_to x s = same_answer a (answer_to x s) (running ∙ ap (λ (z : State). z.table.running) e) reply (text ∙ ap (text_behind x) e ∙ text_stays x s) in
    let w = answer_words a in
    let ok : told ≡ Ok size = t ∙ told-size w out size (sym (ap (λ (b : Answer (List ℕ)). length (answer_words b)) same ∙ takes)) room in
    l ∙ ap (λ (r : Result ℕ Refusal). left_by r w out) ok ∙ ap (λ (b : Answer (List ℕ)). answer_words b ++ drop size out) same
