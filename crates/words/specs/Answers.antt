-- The words of an answer, and what reading from the front of a list of bytes finds.
use Rattle.std.specs.Prelude.{◌≡◌, ℕ, ◌%◌, Bool, false, ◌⊎◌, List, [], ◌∷◌, ◌++◌, length, Some, None, Ok, Err, Option, Result, ◌≢◌, nat_lt}
use Rattle.calls.specs.Numbers.{refusal_number}
use Rattle.calls.specs.declared.refusal.Refusal.{Refusal}
use Rattle.calls.specs.declared.refusal.Refusal.TheVariants.{Unlawful}
use Rattle.words.specs.Format.{text_words, word_with}
use Rattle.words.specs.declared.parts.Answer.{Answer}
use Rattle.words.specs.Reading.{Reading}

-- an answer with f of its text
abbrev pub answer_with : {X Y : Type 0} → (X → Y) → Answer X → Answer Y
answer_with f a = record { running = a.running; reply = a.reply; text = f a.text }

-- the running record in bits 23 to 16: 255 if none runs
abbrev pub running_byte : Option ℕ → ℕ
running_byte None = 255
running_byte (Some record') = record'

-- a reply's word: kind 12 with the answer, or kind 13 with the refusal's number
abbrev pub reply_word : Option ℕ → Result ℕ Refusal → List ℕ
reply_word running (Ok value) = word_with 12 0 (running_byte running) value
reply_word running (Err refusal) = word_with 13 0 (running_byte running) (refusal_number refusal)

-- the words of an answer: its reply, and the bytes of a read as text
abbrev pub answer_words : Answer (List ℕ) → List ℕ
answer_words a = reply_word a.running a.reply ++ text_words a.text

-- record 255 has no name in a word
abbrev pub Named : Option ℕ → Type 0
Named running = running ≡ Some 255 → ⊥

-- how many bytes of text a reply can have: the outcome of a read tells the bytes moved in bits 6 to 0
abbrev pub reply_size : Result ℕ Refusal → ℕ
reply_size (Ok value) = value % 128
reply_size (Err refusal) = 0

-- an answer that a run can give: a text is there only behind the outcome of a read, and is as long as that tells
pub record Lawful (a : Answer (List ℕ)) : Type 0 where
  pub named : Named a.running
  pub text : (length a.text ≡ 0) ⊎ (length a.text ≡ reply_size a.reply)

-- whether the bytes begin with a data word: its kind is 0
abbrev pub starts_data : List ℕ → Bool
starts_data [] = false
starts_data (b ∷ bs) = nat_lt b 16

-- nothing is there; or what is there is the words of the answer, with all data words that belong to it, and the rest; or
-- it begins with the words of no answer, and is refused as unlawful
abbrev pub ReadsAnswer : List ℕ → Reading (Answer (List ℕ)) (List ℕ) → Type 0
ReadsAnswer bytes (Ok None) = bytes ≡ []
ReadsAnswer bytes (Ok (Some found)) = (bytes ≡ answer_words found.0 ++ found.1) × Lawful found.0 × (starts_data found.1 ≡ false)
ReadsAnswer bytes (Err refusal) = (refusal ≡ Unlawful) × (bytes ≢ []) × ((a : Answer (List ℕ)) (rest : List ℕ) → Lawful a → starts_data rest ≡ false → bytes ≢ answer_words a ++ rest)

-- the words of a lawful answer are read as that answer
abbrev pub OneAnswer : Type 0
OneAnswer = (a : Answer (List ℕ)) (rest : List ℕ) (r : Reading (Answer (List ℕ)) (List ℕ)) → Lawful a → starts_data rest ≡ false → ReadsAnswer (answer_words a ++ rest) r → r ≡ Ok (Some (a, rest))
