-- The text of a call: its length, and a step of reading it.
use Rattle.std.specs.Prelude.{ℕ, Bool, ◌&&◌, ◌||◌, ◌==◌, nat_lt, unwrap_or}
use Rattle.calls.specs.Calls.{call_text}
use Rattle.calls.specs.declared.call.Call.{Call}
use Rattle.words.specs.Heads.{low_of, middle_of}

-- whether the word can hold the next bytes of a text of which so many are left: a data word, zero where it is not filled
abbrev pub goes_on : ℕ → ℕ → Bool
goes_on w left = nat_lt w 16777216 && ((nat_lt 1 left || middle_of w == 0) && (nat_lt 2 left || low_of w == 0))

-- how many bytes of text a call has
abbrev pub text_length : Call ℕ → ℕ
text_length c = unwrap_or (call_text c) 0
