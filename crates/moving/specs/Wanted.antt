-- What a transfer asks for, and what the code's words for it mean.
use Rattle.std.specs.Prelude.{ℕ, cond, not, List, [], length, Ok, Err, Result}
use Rattle.calls.specs.declared.call.Transfer.{Transfer}
use Rattle.calls.specs.declared.call.Transfer.TheVariants.{Write, WriteLine, Read, ReadLine}
use Rattle.calls.specs.declared.call.TransferKind.{TransferKind}
use Rattle.calls.specs.declared.call.TransferKind.TheVariants as kind
use Rattle.calls.specs.declared.refusal.Refusal.{Refusal}
use Rattle.calls.specs.declared.refusal.Refusal.TheVariants.{BadLength, NoLineEnd}
use Rattle.rules.specs.Transfers.{bad_length, has_line_end, line, longest}
use Rattle.moving.specs.declared.parts.Asked.{Asked}

-- the kind of a transfer, the bytes with which it begins, and how many it is to move at most
pub record Wanted : Type 0 where
  pub kind : TransferKind
  pub bytes : List ℕ
  pub size : ℕ

-- the size of a transfer of so many bytes, or that none can be of so many
abbrev pub told_size : ℕ → Result ℕ Refusal
told_size n = cond (bad_length n) (Err BadLength) (Ok n)

-- what a transfer asks for, or why it is refused
abbrev pub wanted : Transfer (List ℕ) → Result Wanted Refusal
wanted (Write text) = cond (bad_length (length text)) (Err BadLength) (Ok (record { kind = kind.Write; bytes = text; size = length text }))
wanted (WriteLine text) = cond (bad_length (length text)) (Err BadLength) (cond (not (has_line_end text)) (Err NoLineEnd) (Ok (record { kind = kind.WriteLine; bytes = line text; size = length (line text) })))
wanted (Read size) = cond (bad_length size) (Err BadLength) (Ok (record { kind = kind.Read; bytes = []; size = size }))
wanted ReadLine = Ok (record { kind = kind.ReadLine; bytes = []; size = longest })

abbrev pub as_wanted : Asked → Wanted
as_wanted x = record { kind = x.kind; bytes = x.bytes; size = x.size }

abbrev pub wants : Result Asked Refusal → Result Wanted Refusal
wants (Ok x) = Ok (as_wanted x)
wants (Err r) = Err r
