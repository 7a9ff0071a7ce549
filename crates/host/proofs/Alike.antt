-- Two runs that begin alike end alike.
use Rattle.std.proofs.Common.{◌≡◌, ℕ, ◌+◌, ◌-◌, ◌/◌, ◌<◌, ◌≤◌, List, [], ◌∷◌, ◌++◌, length, drop, Some, Ok, All, refl, sym, ap, ◌∙◌, subst, append_assoc, arith}
use Rattle.std.proofs.lemmas.List.{drop_at, length-append}
use Rattle.std.proofs.lemmas.List.Elements.{All-head, All-tail}
use Rattle.calls.specs.declared.call.Call.{Call}
use Rattle.calls.specs.declared.stop.Stop.{Stop}
use Rattle.calls.specs.declared.stop.Stop.TheVariants.{End, Unlawful, NoRoom}
use Rattle.rules.specs.State.{State}
use Rattle.rules.specs.Rules.{Step, apply}
use Rattle.rules.specs.Runs.{after}
use Rattle.words.specs.Answers.{answer_words}
use Rattle.words.specs.Format.{call_words}
use Rattle.words.specs.Reading.{Reading, Writable}
use Rattle.words.proofs.CallWords.{one_call}
use Rattle.host.specs.Answered.{answer_to, answers_from, size_of, words_of}
use Rattle.host.specs.Run.{OneRun, Ran, StopsFor}
use Rattle.host.specs.declared.Report.{Report}
use Rattle.host.proofs.Made.{some_words}

-- at the front of some words stands one call
same_call : (x y : Step) (more rest : List ℕ) → Writable y → call_words x ++ more ≡ call_words y ++ rest → (x ≡ y) × (more ≡ rest)
same_call x y more rest ok e =
    let one : ◌≡◌ {A = Reading (Call (List ℕ)) (List ℕ)} (Ok (Some (y, rest))) (Ok (Some (x, more))) = one_call x more (Ok (Some (y, rest))) (e, ok) in
    let pair : ◌≡◌ {A = Call (List ℕ) × List ℕ} (x, more) (y, rest) = cc in
    (ap (λ (p : Call (List ℕ) × List ℕ). p.0) pair, ap (λ (p : Call (List ℕ) × List ℕ). p.1) pair)

-- the words of a call are some
not_none : (x : Step) (more : List ℕ) → call_words x ++ more ≡ [] → ⊥
not_none x more e =
    let n = some_words x in
    let k = length-append (call_words x) more in
    let z : length (call_words x ++ more) ≡ 0 = ap length e in
    absurd (omega arith)

-- no run stops where a call stands whose answer has room
goes_on : (stop : Stop) (place : ℕ) (y : Step) (rest more : List ℕ) (s : State) (room : ℕ) → rest ≡ call_words y ++ more → Writable y → size_of y s ≤ room → StopsFor stop place rest s room → ⊥
goes_on End place y rest more s room e ok fits h = not_none y more (sym e ∙ h)
goes_on (Unlawful at) place y rest more s room e ok fits h = h.2 y more e
goes_on NoRoom place y rest more s room e ok fits h =
    let same : h.0 ≡ y = (same_call h.0 y h.1 more ok (sym h.2 ∙ e)).0 in
    let small = h.3 in
    let is : size_of h.0 s ≡ size_of y s = ap (λ (x : Step). size_of x s) same in
    absurd (omega arith)

-- in one state, with the same words and room left, a run stops for one reason
same_stop : (stop stop' : Stop) (place : ℕ) (rest : List ℕ) (s : State) (room : ℕ) → StopsFor stop place rest s room → StopsFor stop' place rest s room → stop ≡ stop'
same_stop End End place rest s room h k = refl
same_stop End (Unlawful at) place rest s room h k = absurd (k.1 h)
same_stop End NoRoom place rest s room h k = absurd (not_none k.0 k.1 (sym k.2 ∙ h))
same_stop (Unlawful at) End place rest s room h k = absurd (h.1 k)
same_stop (Unlawful at) (Unlawful at') place rest s room h k = ap Unlawful (h.0 ∙ sym k.0)
same_stop (Unlawful at) NoRoom place rest s room h k = absurd (h.2 k.0 k.1 k.2)
same_stop NoRoom End place rest s room h k = absurd (not_none h.0 h.1 (sym h.2 ∙ k))
same_stop NoRoom (Unlawful at) place rest s room h k = absurd (k.2 h.0 h.1 h.2)
same_stop NoRoom NoRoom place rest s room h k = refl

-- the calls that are made of the same words, up to where a run stops
same_calls : (xs ys : List Step) (rest rest' : List ℕ) (s : State) (room place place' : ℕ) (stop stop' : Stop) → All Writable xs → All Writable ys → words_of xs ++ rest ≡ words_of ys ++ rest'
    → length (answers_from s xs) ≤ room → length (answers_from s ys) ≤ room → StopsFor stop place rest (after s xs) (room - length (answers_from s xs)) → StopsFor stop' place' rest' (after s ys) (room - length (answers_from s ys)) → xs ≡ ys
same_calls [] [] rest rest' s room place place' stop stop' a b e m n h k = refl
same_calls [] (y ∷ ys) rest rest' s room place place' stop stop' a b e m n h k =
    let l = length-append (answer_words (answer_to y s)) (answers_from (apply y s).state ys) in
    absurd (goes_on stop place y rest (words_of ys ++ rest') s (room - 0) (e ∙ append_assoc (call_words y) (words_of ys) rest') (All-head Writable y ys b) (omega arith) h)
same_calls (x ∷ xs) [] rest rest' s room place place' stop stop' a b e m n h k =
    let l = length-append (answer_words (answer_to x s)) (answers_from (apply x s).state xs) in
    absurd (goes_on stop' place' x rest' (words_of xs ++ rest) s (room - 0) (sym e ∙ append_assoc (call_words x) (words_of xs) rest) (All-head Writable x xs a) (omega arith) k)
same_calls (x ∷ xs) (y ∷ ys) rest rest' s room place place' stop stop' a b e m n h k =
    let one = same_call x y (words_of xs ++ rest) (words_of ys ++ rest') (All-head Writable y ys b) (sym (append_assoc (call_words x) (words_of xs) rest) ∙ e ∙ append_assoc (call_words y) (words_of ys) rest') in
    let s' = (apply x s).state in
    let w = answer_words (answer_to x s) in
    let left = room - length w in
    let fits = subst (λ (v : Step). length (answers_from s (v ∷ ys)) ≤ room) (sym one.0) n in
    let stops = subst (λ (v : Step). StopsFor stop' place' rest' (after s (v ∷ ys)) (room - length (answers_from s (v ∷ ys)))) (sym one.0) k in
    let i = length-append w (answers_from s' xs) in
    let j = length-append w (answers_from s' ys) in
    let here : room - length (answers_from s (x ∷ xs)) ≡ left - length (answers_from s' xs) = omega arith in
    let there : room - length (answers_from s (x ∷ ys)) ≡ left - length (answers_from s' ys) = omega arith in
    let more = same_calls xs ys rest rest' s' left place place' stop stop' (All-tail Writable x xs a) (All-tail Writable y ys b) one.1 (omega arith) (omega arith)
    (subst (λ (v : ℕ). StopsFor stop place rest (after s' xs) v) here h) (subst (λ (v : ℕ). StopsFor stop' place' rest' (after s' ys) v) there stops) in
    let first = one.0 in
    cc

-- the reason of a run's stop, in the words of the calls that it made
stop_of : {words out left : List ℕ} {before now : State} {r : Report} (a : Ran words before now out left r)
    → StopsFor r.stop ((length words - length a.rest) / 4) a.rest (after before a.makes.calls) (length out - length (answers_from before a.makes.calls))
stop_of {words = words} {out = out} {before = before} {now = now} {r = r} a =
    let place = (length words - length a.rest) / 4 in
    let here = subst (λ (z : State). StopsFor r.stop place a.rest z (length out - r.written)) a.makes.state a.stop in
    subst (λ (v : ℕ). StopsFor r.stop place a.rest (after before a.makes.calls) (length out - v)) a.makes.takes here

same_report : (m n v w : ℕ) (x y : Stop) → m ≡ n → v ≡ w → x ≡ y → ◌≡◌ {A = Report} (record { calls = m; written = v; stop = x }) (record { calls = n; written = w; stop = y })
same_report m n v w x y a b c = cc

pub one_run : OneRun
one_run words out left left' before now now' r r' a b =
    let m = a.makes in
    let n = b.makes in
    let calls : m.calls ≡ n.calls =
    same_calls m.calls n.calls a.rest b.rest before (length out) ((length words - length a.rest) / 4) ((length words - length b.rest) / 4) r.stop r'.stop m.writable n.writable (sym m.front ∙ n.front)
    (omega (arith, m.takes, m.room)) (omega (arith, n.takes, n.room)) (stop_of a) (stop_of b) in
    let done = words_of n.calls in
    let rest : a.rest ≡ b.rest = sym (drop_at done a.rest (length done) refl) ∙ ap (drop (length done)) (ap (λ (cs : List Step). words_of cs ++ a.rest) (sym calls) ∙ sym m.front ∙ n.front) ∙ drop_at done b.rest (length done) refl in
    let written : r.written ≡ r'.written = m.takes ∙ ap (λ (cs : List Step). length (answers_from before cs)) calls ∙ sym n.takes in
    let place = (length words - length b.rest) / 4 in
    let s = after before n.calls in
    let room = length out - length (answers_from before n.calls) in
    let ends = subst (λ (cs : List Step). StopsFor r.stop ((length words - length a.rest) / 4) a.rest (after before cs) (length out - length (answers_from before cs))) calls (stop_of a) in
    let stop = same_stop r.stop r'.stop place b.rest s room (subst (λ (v : List ℕ). StopsFor r.stop ((length words - length v) / 4) v s room) rest ends) (stop_of b) in (
      m.state ∙ ap (after before) calls ∙ sym n.state,
      m.answers ∙ ap (λ (cs : List Step). answers_from before cs ++ drop r.written out) calls ∙ ap (λ (v : ℕ). answers_from before n.calls ++ drop v out) written ∙ sym n.answers,
      same_report r.calls r'.calls r.written r'.written r.stop r'.stop (m.number ∙ ap length calls ∙ sym n.number) written stop,
    )
