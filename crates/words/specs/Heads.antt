-- First words: the bytes of a word as a number, and what a first word can tell of its call.
use Rattle.std.specs.Prelude.{ℕ, ◌+◌, ◌*◌, ◌/◌, ◌%◌, if◌then◌else◌, List, [], ◌∷◌, Some, None, Option, ◌==◌}
use Rattle.calls.specs.declared.call.ByIdCall.TheVariants as order
use Rattle.calls.specs.declared.call.Call.{Call}
use Rattle.calls.specs.declared.call.Call.TheVariants.{Create, Kill, Suspend, SetLevel, ById, Send, Wait, Delay, Transfer, Look, Tick, Service}
use Rattle.calls.specs.declared.call.LookedAt.TheVariants as field
use Rattle.calls.specs.declared.call.Transfer.TheVariants as moves
use Rattle.words.specs.Kinds.{numbered_kind}
use Rattle.words.specs.declared.kind.Kind.{Kind}
use Rattle.words.specs.declared.kind.Kind.TheVariants as kind

-- the bytes of a 32-bit number, the highest first
abbrev pub word_bytes : ℕ → List ℕ
word_bytes w = (w / 16777216) ∷ (w / 65536 % 256) ∷ (w / 256 % 256) ∷ (w % 256) ∷ []

-- a call of which only the first word is known: a start address and a message come in data words
abbrev pub bare : Call ℕ → Call ℕ
bare (Create id level start message) = Create id level 0 0
bare c = c

-- the parts of a word
abbrev pub kind_of : ℕ → Option Kind
kind_of w = numbered_kind (w / 268435456)

abbrev pub sub_of : ℕ → ℕ
sub_of w = w / 16777216 % 16

abbrev pub high_of : ℕ → ℕ
high_of w = w / 65536 % 256

abbrev pub middle_of : ℕ → ℕ
middle_of w = w / 256 % 256

abbrev pub low_of : ℕ → ℕ
low_of w = w % 256

-- the call whose first word can have these parts: its sub-kind and what stands in the places that it names
abbrev pub own_call : ℕ → ℕ → Option (Call ℕ)
own_call sub low =
    if sub == 0 then Some Kill
    else if sub == 1 then Some Suspend
    else if sub == 2 then Some (SetLevel low)
    else None

abbrev pub by_id_call : ℕ → ℕ → ℕ → Option (Call ℕ)
by_id_call sub middle low =
    if sub == 0 then Some (ById middle order.Kill)
    else if sub == 1 then Some (ById middle order.Ready)
    else if sub == 2 then Some (ById middle order.Suspend)
    else if sub == 3 then Some (ById middle (order.SetLevel low))
    else if sub == 4 then Some (ById middle order.Status)
    else None

abbrev pub transfer_call : ℕ → ℕ → ℕ → Option (Call ℕ)
transfer_call sub high low =
    if sub == 0 then Some (Transfer high (moves.Write low))
    else if sub == 1 then Some (Transfer high (moves.WriteLine low))
    else if sub == 2 then Some (Transfer high (moves.Read low))
    else if sub == 3 then Some (Transfer high moves.ReadLine)
    else None

abbrev pub look_call : ℕ → Option (Call ℕ)
look_call sub =
    if sub == 0 then Some (Look field.Message)
    else if sub == 1 then Some (Look field.Start)
    else if sub == 2 then Some (Look field.Outcome)
    else None

abbrev pub likely : Option Kind → ℕ → ℕ → ℕ → ℕ → Option (Call ℕ)
likely (Some kind.Create) sub high middle low = Some (Create high middle 0 0)
likely (Some kind.Own) sub high middle low = own_call sub low
likely (Some kind.ById) sub high middle low = by_id_call sub middle low
likely (Some kind.Send) sub high middle low = Some (Send high (middle * 256 + low) (sub == 1))
likely (Some kind.Wait) sub high middle low = Some (Wait high)
likely (Some kind.Delay) sub high middle low = Some (Delay (middle * 256 + low))
likely (Some kind.Transfer) sub high middle low = transfer_call sub high low
likely (Some kind.Service) sub high middle low = Some (Service high)
likely (Some kind.Tick) sub high middle low = Some Tick
likely (Some kind.Look) sub high middle low = look_call sub
likely k sub high middle low = None

abbrev pub likely_of : ℕ → Option (Call ℕ)
likely_of w = likely (kind_of w) (sub_of w) (high_of w) (middle_of w) (low_of w)
