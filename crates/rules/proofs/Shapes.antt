-- Each step has one of a few shapes: what it was, what was tested, and what it did. The laws go over these.
use Rattle.std.proofs.Common.{◌≡◌, ℕ, ◌+◌, ◌<◌, ◌≤◌, Bool, true, false, cond, not, eqb, ltb, List, [], ◌∷◌, length, take, is_some, Some, None, Option, sym, refl, ap, arith}
use Rattle.std.proofs.lemmas.Bool.{cond_both, eqb-true, not-false, false≢true}
use Rattle.std.proofs.lemmas.Bool.Decides.{nat_tests}
use Rattle.calls.specs.declared.call.ByIdCall.{ByIdCall}
use Rattle.calls.specs.declared.call.ByIdCall.TheVariants as by
use Rattle.calls.specs.declared.call.Call.TheVariants.{Create, Kill, Suspend, SetLevel, ById, Send, Wait, Delay, Transfer, Look, Tick, Service}
use Rattle.calls.specs.declared.call.Transfer as transfer
use Rattle.calls.specs.declared.call.Transfer.TheVariants as moves
use Rattle.calls.specs.declared.call.TransferKind.{TransferKind}
use Rattle.calls.specs.declared.call.TransferKind.TheVariants as kind
use Rattle.calls.specs.declared.outcome.Outcome.{Outcome}
use Rattle.calls.specs.declared.refusal.Refusal.{Refusal}
use Rattle.calls.specs.declared.refusal.Refusal.TheVariants.{NoTask, NoFreeRecord, IdInUse, NoSuchId, AtUnit, CellFull, NoMessage, NoTicks, NoSuchUnit, BadLength, NoLineEnd, NoRequest, ClockAtEnd, NoClock}
use Rattle.calls.specs.Calls.{kind_of}
use Rattle.chain.specs.Lists.{first, has}
use Rattle.rules.specs.State.{Request, State, level_of, queue_of, with_clock, with_sleeping, word_of}
use Rattle.rules.specs.Tables.{lookup, stop}
use Rattle.rules.specs.Acts.{Done, done, grant, killing_other, levelling_other, plain, readying_other, refuse, releasing_all, suspending_other, tell}
use Rattle.rules.specs.Records.{all_askers, by_id, creating, killing, leave_waits, levelling, making, new_task, on_caller, on_other, or_else, status_of, suspending}
use Rattle.rules.specs.Mail.{awaiting, delivering, none, posting, sending, taking, waiting, waiting_at}
use Rattle.rules.specs.Clock.{delaying, due_next, join_clock, last_reading, later_than}
use Rattle.rules.specs.Transfers.{asking, bad_length, ending, going_on, has_line_end, line, line_end, longest, move_of, moving, serving, transferring, writes}
use Rattle.rules.specs.Rules.{Step, apply, by_caller, of_unit}
use Rattle.rules.specs.Laws.{text_of}

-- what the caller's record and request are at a granted transfer y
pub record Asked (y : transfer.Transfer (List ℕ)) (k : TransferKind) (bytes : List ℕ) (size : ℕ) : Type 0 where
  pub kind : k ≡ kind_of y
  pub some : 1 ≤ size
  pub most : size ≤ longest
  pub long : writes (Some k) ≡ true → length bytes ≡ size
  pub text : writes (Some k) ≡ true → bytes ≡ take size (text_of y)
  pub unread : writes (Some k) ≡ false → bytes ≡ []

-- whether a step concerns neither cells nor units
abbrev pub quiet : Step → Bool
quiet (Create id level start message) = true
quiet Kill = true
quiet Suspend = true
quiet (SetLevel level) = true
quiet (ById id call) = true
quiet (Send cell message stay) = false
quiet (Wait cell) = false
quiet (Delay ticks) = true
quiet (Transfer unit transfer) = false
quiet (Look at) = true
quiet Tick = true
quiet (Service unit) = false

pub data Shape (s : State) : Step → Done → Type 0 where
  refuses : (x : Step) (r : Refusal) → Shape s x (refuse r s)
  tells-only : (x : Step) (n : ℕ) → quiet x ≡ true → Shape s x (tell n s)
  creates : (t k : ℕ) (ks : List ℕ) (id level start message : ℕ) → s.table.running ≡ Some t → s.table.free ≡ k ∷ ks → lookup id s.table ≡ None
      → Shape s (Create id level start message) (grant k (making t k (new_task id (or_else (level_of s t) level) start message)) s)
  kills : (x : Step) (t : ℕ) → quiet x ≡ true → s.table.running ≡ Some t → Shape s x (killing t s)
  suspends : (x : Step) (t : ℕ) → quiet x ≡ true → s.table.running ≡ Some t → Shape s x (suspending t s)
  levels : (x : Step) (t level : ℕ) → quiet x ≡ true → s.table.running ≡ Some t → Shape s x (levelling t level s)
  turns : (x : Step) (t : ℕ) → quiet x ≡ true → s.table.running ≡ Some t → Shape s x (done 0 (plain (λ a. a)) s)
  kills-other : (id t k : ℕ) → s.table.running ≡ Some t → eqb k t ≡ false → lookup id s.table ≡ Some k → has k (all_askers s.queues) ≡ false
      → Shape s (ById id by.Kill) (done 0 (killing_other k) (leave_waits k s))
  readies_other : (id t k : ℕ) → s.table.running ≡ Some t → eqb k t ≡ false → lookup id s.table ≡ Some k → Shape s (ById id by.Ready) (done 0 (readying_other k) s)
  suspends-other : (id t k : ℕ) → s.table.running ≡ Some t → eqb k t ≡ false → lookup id s.table ≡ Some k → Shape s (ById id by.Suspend) (done 0 (suspending_other k) s)
  levels-other : (id t k level : ℕ) → s.table.running ≡ Some t → eqb k t ≡ false → lookup id s.table ≡ Some k
      → Shape s (ById id (by.SetLevel level)) (done 0 (levelling_other k (or_else 1 level)) s)
  posts : (t c m : ℕ) (stay : Bool) → s.table.running ≡ Some t → word_of s.cells c ≡ 0 → eqb m 0 ≡ false → none (waiting_at s c) ≡ true → Shape s (Send c m stay) (posting t c m stay s)
  delivers : (t c m : ℕ) (stay : Bool) → s.table.running ≡ Some t → word_of s.cells c ≡ 0 → eqb m 0 ≡ false → none (waiting_at s c) ≡ false → Shape s (Send c m stay) (delivering c m s)
  awaits : (t c : ℕ) → s.table.running ≡ Some t → word_of s.cells c ≡ 0 → Shape s (Wait c) (awaiting t c s)
  takes : (t c : ℕ) → s.table.running ≡ Some t → eqb (word_of s.cells c) 0 ≡ false → Shape s (Wait c) (taking t c s)
  delays : (t n : ℕ) → s.table.running ≡ Some t → eqb n 0 ≡ false → Shape s (Delay n) (done 0 (plain stop) (with_sleeping (join_clock t (s.clock + n) s.sleeping) s))
  ticks : eqb s.clock last_reading ≡ false
      → Shape s Tick (done (length (due_next s)) (releasing_all (due_next s)) (with_clock (s.clock + 1) (with_sleeping (later_than (s.clock + 1) s.sleeping) s)))
  asks : (t u : ℕ) (y : transfer.Transfer (List ℕ)) (k : TransferKind) (bytes : List ℕ) (size : ℕ) → s.table.running ≡ Some t → u < 4 → Asked y k bytes size → Shape s (Transfer u y) (asking t u k bytes size s)
  goes_on : (u : ℕ) (r : Request) (rs : List Request) → u < 4 → queue_of s u ≡ r ∷ rs → (move_of u r s).ends ≡ None → Shape s (Service u) (going_on u r rs (move_of u r s) s)
  ends : (u : ℕ) (r : Request) (rs : List Request) (o : Outcome) → u < 4 → queue_of s u ≡ r ∷ rs → (move_of u r s).ends ≡ Some o → Shape s (Service u) (ending u r rs (move_of u r s) o s)

-- texts
line-take : (x : List ℕ) → line x ≡ take (length (line x)) x
line-take [] = refl
line-take (b ∷ bs) = cond_both (line_end b) (b ∷ []) (b ∷ line bs) (λ l. l ≡ take (length l) (b ∷ bs)) (λ _. refl) (λ _. ap (λ (l : List ℕ). b ∷ l) (line-take bs))

line_le : (x : List ℕ) → length (line x) ≤ length x
line_le [] = omega arith
line_le (b ∷ bs) = let ih = line_le bs in cond_both (line_end b) (b ∷ []) (b ∷ line bs) (λ l. length l ≤ length (b ∷ bs)) (λ _. omega arith) (λ _. omega arith)

line-some : (x : List ℕ) → 1 ≤ length x → 1 ≤ length (line x)
line-some [] h = h
line-some (b ∷ bs) h = cond_both (line_end b) (b ∷ []) (b ∷ line bs) (λ l. 1 ≤ length l) (λ _. omega arith) (λ _. omega arith)

take-length : (x : List ℕ) → x ≡ take (length x) x
take-length [] = refl
take-length (b ∷ bs) = ap (λ (l : List ℕ). b ∷ l) (take-length bs)

good_length : (n : ℕ) → bad_length n ≡ false → (1 ≤ n) × (n ≤ longest)
good_length n h = (grind (arith, nat_tests), grind (arith, nat_tests))

module _ (s : State) where
  by-caller : (x : Step) (f : ℕ → Done) → ((t : ℕ) → s.table.running ≡ Some t → Shape s x (f t)) → Shape s x (by_caller s.table.running f s)
  by-caller x f h = go s.table.running refl
    where
      go : (o : Option ℕ) → s.table.running ≡ o → Shape s x (by_caller o f s)
      go None e = refuses x NoTask
      go (Some t) e = h t e

  or_refused : (x : Step) (b : Bool) (r : Refusal) (d : Done) → (b ≡ false → Shape s x d) → Shape s x (cond b (refuse r s) d)
  or_refused x true r d h = refuses x r
  or_refused x false r d h = h refl

  of_unit_lem : (x : Step) (u : ℕ) (d : Done) → (u < 4 → Shape s x d) → Shape s x (of_unit u d s)
  of_unit_lem x u d h = or_refused x (ltb 3 u) NoSuchUnit d (λ e. h (grind (arith, nat_tests)))

  none_found : (o : Option ℕ) → is_some o ≡ false → o ≡ None
  none_found None e = refl
  none_found (Some k) e = let z : ⊥ = false≢true (sym e) in absurd z

  create_shape : (t id level start message : ℕ) → s.table.running ≡ Some t → (fs : List ℕ) → s.table.free ≡ fs
      → Shape s (Create id level start message) (creating t id level start message (first fs) s)
  create_shape t id level start message e [] f = refuses (Create id level start message) NoFreeRecord
  create_shape t id level start message e (k ∷ ks) f =
      or_refused (Create id level start message) (is_some (lookup id s.table)) IdInUse _ (λ n. creates t k ks id level start message e f (none_found (lookup id s.table) n))

  own-shape : (id t : ℕ) (call : ByIdCall) → s.table.running ≡ Some t → Shape s (ById id call) (on_caller t call s)
  own-shape id t by.Kill e = kills (ById id by.Kill) t refl e
  own-shape id t by.Ready e = turns (ById id by.Ready) t refl e
  own-shape id t by.Suspend e = suspends (ById id by.Suspend) t refl e
  own-shape id t (by.SetLevel level) e = levels (ById id (by.SetLevel level)) t level refl e
  own-shape id t by.Status e = tells-only (ById id by.Status) (status_of s t) refl

  other-shape : (id t k : ℕ) (call : ByIdCall) → s.table.running ≡ Some t → eqb k t ≡ false → lookup id s.table ≡ Some k → Shape s (ById id call) (on_other k call s)
  other-shape id t k by.Kill e n f = or_refused (ById id by.Kill) (has k (all_askers s.queues)) AtUnit _ (λ a. kills-other id t k e n f a)
  other-shape id t k by.Ready e n f = readies_other id t k e n f
  other-shape id t k by.Suspend e n f = suspends-other id t k e n f
  other-shape id t k (by.SetLevel level) e n f = levels-other id t k level e n f
  other-shape id t k by.Status e n f = tells-only (ById id by.Status) (status_of s k) refl

  id-shape : (id t : ℕ) (call : ByIdCall) → s.table.running ≡ Some t → (o : Option ℕ) → lookup id s.table ≡ o → Shape s (ById id call) (by_id t call o s)
  id-shape id t call e None f = refuses (ById id call) NoSuchId
  id-shape id t call e (Some k) f = cond_both (eqb k t) (on_caller t call s) (on_other k call s) (Shape s (ById id call)) (λ _. own-shape id t call e) (λ n. other-shape id t k call e n f)

  send_shape : (t c m : ℕ) (stay : Bool) → s.table.running ≡ Some t → Shape s (Send c m stay) (sending t c m stay s)
  send_shape t c m stay e =
      or_refused (Send c m stay) (not (eqb (word_of s.cells c) 0)) CellFull _ (λ z. let w = eqb-true (word_of s.cells c) 0 (not-false _ z) in
      or_refused (Send c m stay) (eqb m 0) NoMessage _ (λ nz.
      cond_both (none (waiting_at s c)) (posting t c m stay s) (delivering c m s) (Shape s (Send c m stay)) (posts t c m stay e w nz) (delivers t c m stay e w nz)))

  wait_shape : (t c : ℕ) → s.table.running ≡ Some t → Shape s (Wait c) (waiting t c s)
  wait_shape t c e = cond_both (eqb (word_of s.cells c) 0) (awaiting t c s) (taking t c s) (Shape s (Wait c)) (λ z. awaits t c e (eqb-true (word_of s.cells c) 0 z)) (λ z. takes t c e z)

  transfer_shape : (t u : ℕ) (y : transfer.Transfer (List ℕ)) → s.table.running ≡ Some t → u < 4 → Shape s (Transfer u y) (transferring t u y s)
  transfer_shape t u (moves.Write text) e l = or_refused (Transfer u (moves.Write text)) (bad_length (length text)) BadLength _ (λ b. let n = good_length (length text) b in
      asks t u (moves.Write text) kind.Write text (length text) e l (record { kind = refl; some = n.0; most = n.1; long = λ _. refl; text = λ _. take-length text; unread = λ z. absurd (false≢true (sym z)) }))
  transfer_shape t u (moves.WriteLine text) e l = or_refused (Transfer u (moves.WriteLine text)) (bad_length (length text)) BadLength _ (λ b. let n = good_length (length text) b in
      or_refused (Transfer u (moves.WriteLine text)) (not (has_line_end text)) NoLineEnd _ (λ _. let le = line_le text in let n1 = n.1 in
      asks t u (moves.WriteLine text) kind.WriteLine (line text) (length (line text)) e l
      (record { kind = refl; some = line-some text n.0; most = omega arith; long = λ _. refl; text = λ _. line-take text; unread = λ z. absurd (false≢true (sym z)) })))
  transfer_shape t u (moves.Read size) e l = or_refused (Transfer u (moves.Read size)) (bad_length size) BadLength _ (λ b. let n = good_length size b in
      asks t u (moves.Read size) kind.Read [] size e l (record { kind = refl; some = n.0; most = n.1; long = λ z. absurd (false≢true z); text = λ z. absurd (false≢true z); unread = λ _. refl }))
  transfer_shape t u moves.ReadLine e l = asks t u moves.ReadLine kind.ReadLine [] longest e l (record { kind = refl; some = omega arith; most = omega arith; long = λ z. absurd (false≢true z); text = λ z. absurd (false≢true z); unread = λ _. refl })

  serve_shape : (u : ℕ) → u < 4 → (q : List Request) → queue_of s u ≡ q → Shape s (Service u) (serving u q s)
  serve_shape u l [] e = refuses (Service u) NoRequest
  serve_shape u l (r ∷ rs) e = go (move_of u r s).ends refl
    where
      go : (o : Option Outcome) → (move_of u r s).ends ≡ o → Shape s (Service u) (moving u r rs (move_of u r s) o s)
      go None f = goes_on u r rs l e f
      go (Some o) f = ends u r rs o l e f

  pub shape : (x : Step) → Shape s x (apply x s)
  shape (Create id level start message) = by-caller (Create id level start message) (λ t. creating t id level start message (first s.table.free) s) (λ t e. create_shape t id level start message e s.table.free refl)
  shape Kill = by-caller Kill (λ t. killing t s) (λ t e. kills Kill t refl e)
  shape Suspend = by-caller Suspend (λ t. suspending t s) (λ t e. suspends Suspend t refl e)
  shape (SetLevel level) = by-caller (SetLevel level) (λ t. levelling t level s) (λ t e. levels (SetLevel level) t level refl e)
  shape (ById id call) = by-caller (ById id call) (λ t. by_id t call (lookup id s.table) s) (λ t e. id-shape id t call e (lookup id s.table) refl)
  shape (Send cell message stay) = by-caller (Send cell message stay) (λ t. sending t cell message stay s) (λ t e. send_shape t cell message stay e)
  shape (Wait cell) = by-caller (Wait cell) (λ t. waiting t cell s) (λ t e. wait_shape t cell e)
  shape (Delay ticks') = by-caller (Delay ticks') (λ t. delaying t ticks' s) (λ t e.
      or_refused (Delay ticks') (not s.timed) NoClock _ (λ _. or_refused (Delay ticks') (eqb ticks' 0) NoTicks _ (λ n. delays t ticks' e n)))
  shape (Transfer unit y) = by-caller (Transfer unit y) (λ t. of_unit unit (transferring t unit y s) s) (λ t e. of_unit_lem (Transfer unit y) unit (transferring t unit y s) (transfer_shape t unit y e))
  shape (Look at) = by-caller (Look at) (λ t. tell _ s) (λ t e. tells-only (Look at) _ refl)
  shape Tick = or_refused Tick (not s.timed) NoClock _ (λ _. or_refused Tick (eqb s.clock last_reading) ClockAtEnd _ (λ n. ticks n))
  shape (Service unit) = of_unit_lem (Service unit) unit (serving unit (queue_of s unit) s) (λ l. serve_shape unit l (queue_of s unit) refl)
