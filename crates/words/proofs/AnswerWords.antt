-- The words of an answer: its reply, and the text that follows.
use Rattle.std.proofs.Common.{◌≡◌, ℕ, ◌+◌, ◌*◌, ◌/◌, false, if◌then◌else◌, ◌==◌, ◌⊎◌, List, [], ◌∷◌, ◌++◌, length, Some, None, Ok, Err, Option, Result, sym, refl, ap, ◌∙◌, ⊎_elim, inl, inr, append_assoc, arith}
use Rattle.calls.specs.Numbers.{refusal_number}
use Rattle.calls.specs.declared.refusal.Refusal.{Refusal}
use Rattle.calls.specs.declared.refusal.Refusal.TheVariants.{NoTask, NoFreeRecord, IdInUse, NoSuchId, AtUnit, CellFull, NoMessage, NoTicks, NoSuchUnit, BadLength, NoLineEnd, NoRequest, ClockAtEnd, Unlawful, NoClock, OutOfRange, NoRoom}
use Rattle.std.proofs.lemmas.List.{length-append}
use Rattle.words.specs.Answers.{answer_words, Lawful, Named, OneAnswer, reply_size, reply_word, running_byte, starts_data}
use Rattle.words.specs.Format.{text_words}
use Rattle.words.specs.Heads.{kind_of, word_bytes}
use Rattle.words.specs.Kinds.{numbered_kind}
use Rattle.words.specs.declared.kind.Kind.TheVariants as kind
use Rattle.words.specs.declared.parts.Answer.{Answer}
use Rattle.words.specs.Reading.{Reading}
use Rattle.words.proofs.CallWords.{same_number, same_text, split-same}
use Rattle.words.proofs.Texts.{length-text}

-- a refusal by its number
numbered : ℕ → Refusal
numbered n =
    if n == 1 then NoTask
    else if n == 2 then NoFreeRecord
    else if n == 3 then IdInUse
    else if n == 4 then NoSuchId
    else if n == 5 then AtUnit
    else if n == 6 then CellFull
    else if n == 7 then NoMessage
    else if n == 8 then NoTicks
    else if n == 9 then NoSuchUnit
    else if n == 10 then BadLength
    else if n == 11 then NoLineEnd
    else if n == 12 then NoRequest
    else if n == 13 then ClockAtEnd
    else if n == 14 then Unlawful
    else if n == 15 then NoClock
    else if n == 16 then OutOfRange
    else NoRoom

by_number : (x : Refusal) → numbered (refusal_number x) ≡ x
unfolding numbered
by_number NoTask = refl
by_number x = refl

same-running : (r s : Option ℕ) → Named r → Named s → running_byte r ≡ running_byte s → r ≡ s
same-running None None p q e = refl
same-running None (Some y) p q e = absurd (q (ap Some (sym e)))
same-running (Some x) None p q e = absurd (p (ap Some e))
same-running (Some x) (Some y) p q e = ap Some e

-- a reply is its word
same_reply : (r s : Option ℕ) (p q : Result ℕ Refusal) → Named r → Named s → reply_word r p ≡ reply_word s q → (r ≡ s) × (p ≡ q)
same_reply r s (Ok m) (Ok n) a b e = (same-running r s a b (cc), ap Ok (same_number m n (cc) (cc)))
same_reply r s (Ok m) (Err y) a b e = let z : ◌≡◌ {A = ℕ} 192 208 = cc in absurd (omega arith)
same_reply r s (Err x) (Ok n) a b e = let z : ◌≡◌ {A = ℕ} 208 192 = cc in absurd (omega arith)
same_reply r s (Err x) (Err y) a b e =
    let n : refusal_number x ≡ refusal_number y = same_number (refusal_number x) (refusal_number y) (cc) (cc) in
    (same-running r s a b (cc), ap Err (sym (by_number x) ∙ ap numbered n ∙ by_number y))

-- the kind of a reply's word
pub reply_kind : (r : Option ℕ) (p : Result ℕ Refusal) (w : ℕ) → reply_word r p ≡ word_bytes w → (kind_of w ≡ Some kind.Granted) ⊎ (kind_of w ≡ Some kind.Refused)
reply_kind r (Ok m) w e =
    let b : 192 ≡ w / 16777216 = cc in
    let k : w / 268435456 ≡ 12 = omega arith in
    inl (ap numbered_kind k)
reply_kind r (Err x) w e =
    let b : 208 ≡ w / 16777216 = cc in
    let k : w / 268435456 ≡ 13 = omega arith in
    inr (ap numbered_kind k)

reply_length : (r : Option ℕ) (p : Result ℕ Refusal) → length (reply_word r p) ≡ 4
reply_length r (Ok m) = refl
reply_length r (Err x) = refl

-- where the words of an answer begin with four bytes, those are its reply, and its text follows
begins : (a : Answer (List ℕ)) (more four rest : List ℕ) → length four ≡ 4 → answer_words a ++ more ≡ four ++ rest → (reply_word a.running a.reply ≡ four) × (text_words a.text ++ more ≡ rest)
begins a more four rest k e =
    let w = reply_word a.running a.reply in
    split-same w (text_words a.text ++ more) four rest (reply_length a.running a.reply ∙ sym k) (sym (append_assoc w (text_words a.text) more) ∙ e)

-- how long the text is that follows a reply shows in the word behind the reply
following : (rest t more : List ℕ) (n : ℕ) → rest ≡ text_words t ++ more → (length t ≡ 0) ⊎ (length t ≡ n) → starts_data more ≡ false → length t ≡ (if starts_data rest then n else 0)
following rest [] more n e k f = ap (λ b. if b then n else 0) (sym (ap starts_data e ∙ f))
following rest (x ∷ []) more n e k f = ⊎_elim (λ z. absurd (omega arith)) (λ z. z ∙ ap (λ b. if b then n else 0) (sym (ap starts_data e))) k
following rest (x ∷ y ∷ []) more n e k f = ⊎_elim (λ z. absurd (omega arith)) (λ z. z ∙ ap (λ b. if b then n else 0) (sym (ap starts_data e))) k
following rest (x ∷ y ∷ z' ∷ t) more n e k f = ⊎_elim (λ z. absurd (omega arith)) (λ z. z ∙ ap (λ b. if b then n else 0) (sym (ap starts_data e))) k

answer-same : (r s : Option ℕ) (p q : Result ℕ Refusal) (t u x y : List ℕ) → r ≡ s → p ≡ q → t ≡ u → x ≡ y → ◌≡◌ {A = Reading (Answer (List ℕ)) (List ℕ)} (Ok (Some (record { running = s; reply = q; text = u }, y))) (Ok (Some (record { running = r; reply = p; text = t }, x)))
answer-same r s p q t u x y a b c d = cc

-- one answer stands at the front: its reply is the word's, and its text is as long as shows
pub one-head : (a : Answer (List ℕ)) (more bytes rest : List ℕ) (w : ℕ) (r : Option ℕ) (p : Result ℕ Refusal) → Lawful a → starts_data more ≡ false → bytes ≡ answer_words a ++ more
    → bytes ≡ word_bytes w ++ rest → reply_word r p ≡ word_bytes w → Named r
    → (a.running ≡ r) × (a.reply ≡ p) × (length a.text ≡ (if starts_data rest then reply_size p else 0)) × (text_words a.text ++ more ≡ rest)
one-head a more bytes rest w r p l f e b q n =
    let s = begins a more (word_bytes w) rest refl (sym e ∙ b) in
    let same = same_reply a.running r a.reply p l.named n (s.0 ∙ sym q) in
    let size = following rest a.text more (reply_size a.reply) (sym s.1) l.text f in
    (same.0, same.1, size ∙ ap (λ x. if starts_data rest then reply_size x else 0) same.1, s.1)

pub one-text : (a : Answer (List ℕ)) (more bytes rest after text : List ℕ) (w : ℕ) (r : Option ℕ) (p : Result ℕ Refusal) → Lawful a → starts_data more ≡ false → bytes ≡ answer_words a ++ more
    → bytes ≡ word_bytes w ++ rest → reply_word r p ≡ word_bytes w → Named r → rest ≡ text_words text ++ after → length text ≡ (if starts_data rest then reply_size p else 0)
    → (a.running ≡ r) × (a.reply ≡ p) × (a.text ≡ text) × (more ≡ after)
one-text a more bytes rest after text w r p l f e b q n t k =
    let h = one-head a more bytes rest w r p l f e b q n in
    let both = same_text a.text text more after (h.2 ∙ sym k) (h.3 ∙ t) in
    (h.0, h.1, both.0, both.1)

pub one_answer : OneAnswer
one_answer a rest (Ok None) l f r =
    let n = ap length r in
    let k = reply_length a.running a.reply in
    let p = length-append (answer_words a) rest in
    let q = length-append (reply_word a.running a.reply) (text_words a.text) in
    absurd (omega arith)
one_answer a rest (Err refusal) l f r = absurd (r.2 a rest l f refl)
one_answer a rest (Ok (Some (b, more))) l f r =
    let w = reply_word b.running b.reply in
    let s = begins a rest w (text_words b.text ++ more) (reply_length b.running b.reply) (r.0 ∙ append_assoc w (text_words b.text) more) in
    let same = same_reply a.running b.running a.reply b.reply l.named r.1.named s.0 in
    let x = text_words a.text ++ rest in
    let m = following x a.text rest (reply_size a.reply) refl l.text f in
    let n = following x b.text more (reply_size b.reply) s.1 r.1.text r.2 in
    let k : length a.text ≡ length b.text = m ∙ ap (λ y. if starts_data x then reply_size y else 0) same.1 ∙ sym n in
    let both = same_text a.text b.text rest more k s.1 in
    answer-same a.running b.running a.reply b.reply a.text b.text rest more same.0 same.1 both.0 both.1

-- how many bytes an answer takes
pub answer-size : (a : Answer (List ℕ)) → length (answer_words a) ≡ 4 + (length a.text + 2) / 3 * 4
answer-size a =
    let k = reply_length a.running a.reply in
    let q = length-append (reply_word a.running a.reply) (text_words a.text) in
    let n = length-text a.text in
    omega arith
