-- What writing leaves in the place that it writes to, and what it tells.
use Rattle.std.specs.Prelude.{ℕ, ◌+◌, ◌*◌, ◌/◌, if◌then◌else◌, List, ◌++◌, length, take, drop, Ok, Err, Result, nat_lt}
use Rattle.calls.specs.Calls.{call_with}
use Rattle.calls.specs.declared.call.Call.{Call}
use Rattle.calls.specs.declared.call.Call.TheVariants.{Create}
use Rattle.calls.specs.declared.refusal.Refusal.{Refusal}
use Rattle.calls.specs.declared.refusal.Refusal.TheVariants.{BadLength, NoRoom}
use Rattle.words.specs.Format.{call_words, length_in}
use Rattle.words.specs.Text.{text_length}

-- bytes laid over others, from a place on
abbrev pub laid : ℕ → List ℕ → List ℕ → List ℕ
laid at bytes out = take at out ++ (bytes ++ drop (length bytes) (drop at out))

-- words are written if there is room for them, and what is told is how many bytes they take
abbrev pub told_writing : List ℕ → List ℕ → Result ℕ Refusal
told_writing words out = if nat_lt (length out) (length words) then Err NoRoom else Ok (length words)

-- a call is written if a word has place for the length of its text or read, and then if there is room
abbrev pub told_call : Call (List ℕ) → List ℕ → Result ℕ Refusal
told_call c out = if nat_lt 255 (length_in (call_with length c)) then Err BadLength else told_writing (call_words c) out

-- what writing leaves: the words and what lies past them as it was; on a refusal all as it was
abbrev pub left_by : Result ℕ Refusal → List ℕ → List ℕ → List ℕ
left_by (Ok n) words out = words ++ drop n out
left_by (Err refusal) words out = out

-- how many bytes the words of a call take: a first word, and the data words of a create or of a text
abbrev pub words_size : Call ℕ → ℕ
words_size (Create id level start message) = 12
words_size c = 4 + (text_length c + 2) / 3 * 4
