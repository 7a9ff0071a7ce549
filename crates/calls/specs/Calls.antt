-- Calls with their texts held another way.
use Rattle.std.specs.Prelude.{◌≡◌, MatchOption, None, Option, Some}
use Rattle.calls.specs.declared.call.Call.{Call}
use Rattle.calls.specs.declared.call.Call.TheVariants.{Create, Kill, Suspend, SetLevel, ById, Send, Wait, Delay, Transfer, Look, Tick, Service}
use Rattle.calls.specs.declared.call.Transfer as transfer
use Rattle.calls.specs.declared.call.Transfer.TheVariants as moves
use Rattle.calls.specs.declared.call.TransferKind.{TransferKind}
use Rattle.calls.specs.declared.call.TransferKind.TheVariants as kind

-- a transfer with f of its text, if it has one
abbrev pub transfer_with : {X Y : Type 0} → (X → Y) → transfer.Transfer X → transfer.Transfer Y
transfer_with f (moves.Write text) = moves.Write (f text)
transfer_with f (moves.WriteLine text) = moves.WriteLine (f text)
transfer_with f (moves.Read size) = moves.Read size
transfer_with f moves.ReadLine = moves.ReadLine

-- the text of a transfer, if it is a write
abbrev pub transfer_text : {X : Type 0} → transfer.Transfer X → Option X
transfer_text (moves.Write text) = Some text
transfer_text (moves.WriteLine text) = Some text
transfer_text t = None

-- which transfer it is
abbrev pub kind_of : {X : Type 0} → transfer.Transfer X → TransferKind
kind_of (moves.Write text) = kind.Write
kind_of (moves.WriteLine text) = kind.WriteLine
kind_of (moves.Read size) = kind.Read
kind_of moves.ReadLine = kind.ReadLine

-- a call with f of its text, if it has one
abbrev pub call_with : {X Y : Type 0} → (X → Y) → Call X → Call Y
call_with f (Create id level start message) = Create id level start message
call_with f Kill = Kill
call_with f Suspend = Suspend
call_with f (SetLevel level) = SetLevel level
call_with f (ById id call) = ById id call
call_with f (Send cell message stay) = Send cell message stay
call_with f (Wait cell) = Wait cell
call_with f (Delay ticks) = Delay ticks
call_with f (Transfer unit t) = Transfer unit (transfer_with f t)
call_with f (Look at) = Look at
call_with f Tick = Tick
call_with f (Service unit) = Service unit

-- the text of a call, if it is a write
abbrev pub call_text : {X : Type 0} → Call X → Option X
call_text (Transfer unit t) = transfer_text t
call_text c = None

-- a call or a transfer, of this text, is made into the same with a text that can come of its own; with none, it is the
-- same whatever is made of a text
abbrev pub MapsText : {X Y A B : Type 0} → ((X → Y) → A → B) → (X → Y → Type 0) → Option X → A → B → Type 0
MapsText with makes text from to = MatchOption text ((f : _) → to ≡ with f from) (λ x. (y : _) × makes x y × (to ≡ with (λ _. y) from))
