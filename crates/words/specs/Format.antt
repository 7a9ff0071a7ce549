-- The word format: the words of each call and of each answer, as bytes.
-- A word is 32 bits, stored as four bytes, the highest first.
use Rattle.std.specs.Prelude.{ℕ, ◌+◌, ◌*◌, ◌/◌, ◌%◌, if◌then◌else◌, List, [], ◌∷◌, ◌++◌, length}
use Rattle.calls.specs.Calls.{call_with}
use Rattle.calls.specs.declared.call.ByIdCall.{ByIdCall}
use Rattle.calls.specs.declared.call.ByIdCall.TheVariants as order
use Rattle.calls.specs.declared.call.Call.{Call}
use Rattle.calls.specs.declared.call.Call.TheVariants.{Create, Kill, Suspend, SetLevel, ById, Send, Wait, Delay, Transfer, Look, Tick, Service}
use Rattle.calls.specs.declared.call.LookedAt.{LookedAt}
use Rattle.calls.specs.declared.call.LookedAt.TheVariants as field
use Rattle.calls.specs.declared.call.Transfer as transfer
use Rattle.calls.specs.declared.call.Transfer.TheVariants as moves

-- a word by its parts: the kind in bits 31 to 28, the sub-kind in bits 27 to 24, then three bytes
abbrev pub word : ℕ → ℕ → ℕ → ℕ → ℕ → List ℕ
word kind sub high middle low = (kind * 16 + sub) ∷ high ∷ middle ∷ low ∷ []

-- a word with a number of 16 bits in bits 15 to 0
abbrev pub word_with : ℕ → ℕ → ℕ → ℕ → List ℕ
word_with kind sub high n = word kind sub high (n / 256) (n % 256)

-- a number of 16 bits as a data word
abbrev pub data_word : ℕ → List ℕ
data_word n = word_with 0 0 0 n

-- a text as data words, three bytes a word, the first highest, what is not filled zero
abbrev pub text_words : List ℕ → List ℕ
text_words [] = []
text_words (a ∷ []) = word 0 0 a 0 0
text_words (a ∷ b ∷ []) = word 0 0 a b 0
text_words (a ∷ b ∷ c ∷ more) = word 0 0 a b c ++ text_words more

-- the sub-kind of each call by id, and the level that it has in bits 7 to 0
abbrev pub by_id_sub : ByIdCall → ℕ
by_id_sub order.Kill = 0
by_id_sub order.Ready = 1
by_id_sub order.Suspend = 2
by_id_sub (order.SetLevel level) = 3
by_id_sub order.Status = 4

abbrev pub by_id_level : ByIdCall → ℕ
by_id_level (order.SetLevel level) = level
by_id_level call = 0

-- the sub-kind of each look
abbrev pub look_sub : LookedAt → ℕ
look_sub field.Message = 0
look_sub field.Start = 1
look_sub field.Outcome = 2

-- the first word of a transfer at a unit, whose text, if it has one, has so many bytes
abbrev pub transfer_word : ℕ → transfer.Transfer ℕ → List ℕ
transfer_word unit (moves.Write size) = word 8 0 unit 0 size
transfer_word unit (moves.WriteLine size) = word 8 1 unit 0 size
transfer_word unit (moves.Read size) = word 8 2 unit 0 size
transfer_word unit moves.ReadLine = word 8 3 unit 0 0

-- the first word of a call, whose text, if it has one, has so many bytes
abbrev pub first_word : Call ℕ → List ℕ
first_word (Create id level start message) = word 1 0 id level 0
first_word Kill = word 2 0 0 0 0
first_word Suspend = word 2 1 0 0 0
first_word (SetLevel level) = word 2 2 0 0 level
first_word (ById id call) = word 3 (by_id_sub call) 0 id (by_id_level call)
first_word (Send cell message stay) = word_with 5 (if stay then 1 else 0) cell message
first_word (Wait cell) = word 6 0 cell 0 0
first_word (Delay ticks) = word_with 7 0 0 ticks
first_word (Transfer unit t) = transfer_word unit t
first_word (Service unit) = word 9 0 unit 0 0
first_word Tick = word 10 0 0 0 0
first_word (Look at) = word 11 (look_sub at) 0 0 0

-- how many bytes a transfer moves, as its first word tells in bits 7 to 0
abbrev pub transfer_length : transfer.Transfer ℕ → ℕ
transfer_length (moves.Write size) = size
transfer_length (moves.WriteLine size) = size
transfer_length (moves.Read size) = size
transfer_length moves.ReadLine = 0

-- the length of a call's text or read, if it has one; a word has place for 255
abbrev pub length_in : Call ℕ → ℕ
length_in (Transfer unit t) = transfer_length t
length_in c = 0

-- the data words of a transfer: its text
abbrev pub transfer_data : transfer.Transfer (List ℕ) → List ℕ
transfer_data (moves.Write text) = text_words text
transfer_data (moves.WriteLine text) = text_words text
transfer_data t = []

-- the data words that follow the first word of a call
abbrev pub data_words : Call (List ℕ) → List ℕ
data_words (Create id level start message) = data_word start ++ data_word message
data_words (Transfer unit t) = transfer_data t
data_words c = []

-- the words of a call
abbrev pub call_words : Call (List ℕ) → List ℕ
call_words c = first_word (call_with length c) ++ data_words c
