-- What one service moves; and the steps that concern a unit, apart from those that concern none.
use Rattle.std.proofs.Common.{◌≡◌, ℕ, zero, suc, ◌+◌, ◌<◌, ◌≤◌, Bool, true, false, cond, ◌&&◌, ◌||◌, eqb, ◌⊎◌, List, [], ◌∷◌, ◌++◌, length, get_or, take, Some, None, Option, sym, refl, ap, ◌∙◌, subst, inl, inr, append-nil, arith}
use Rattle.std.specs.Option.{option_to_list}
use Rattle.std.proofs.lemmas.Bool.{eqb-true, false≢true}
use Rattle.std.proofs.lemmas.Bool.Decides.{nat_tests}
use Rattle.calls.specs.declared.call.Call.TheVariants.{Create, Kill, Suspend, SetLevel, ById, Send, Wait, Delay, Transfer, Look, Tick, Service}
use Rattle.calls.specs.declared.call.Transfer as transfer
use Rattle.calls.specs.declared.call.TransferKind.{TransferKind}
use Rattle.calls.specs.declared.outcome.Outcome.{Outcome}
use Rattle.chain.specs.Lists.{count, has, one}
use Rattle.chain.proofs.Members.{none-count}
use Rattle.unit.specs.Medium.{Medium, told_at, told_give, told_of, told_take}
use Rattle.rules.specs.State.{Request, State, Task, queue_of, task_of, unit_of}
use Rattle.rules.specs.Acts.{Done}
use Rattle.rules.specs.Records.{all_askers}
use Rattle.rules.specs.Transfers.{Move, asking, by_line, complete_if, ending, going_on, line_end, move_in, move_of, move_out, writes}
use Rattle.rules.specs.Rules.{Step}
use Rattle.rules.specs.Sound.{OnePlace, in_table}
use Rattle.rules.specs.Laws.{asks_of, is_granted, serves}
use Rattle.rules.proofs.Fields.{Light, touched, untouched}
use Rattle.rules.proofs.Shapes.{Asked, Shape, quiet, refuses, tells-only, creates, kills, suspends, levels, turns, kills-other, readies_other, suspends-other, levels-other, posts, delivers, awaits, takes, delays, ticks, asks, goes_on, ends}

-- One service -----------------------------------------------------------------------------------------------------------------

-- the byte that a write puts into the unit, and the byte that a read has from it
abbrev pub put_in : Bool → Request → List ℕ → Medium → List ℕ
put_in w r b m = cond w (take m.room (get_or b r.moved 0 ∷ [])) []

abbrev pub had_from : Bool → Medium → List ℕ
had_from w m = cond w [] (take 1 m.coming)

-- w: it is a write
pub record Moved (w : Bool) (r : Request) (b : List ℕ) (m : Medium) (v : Move) : Type 0 where
  pub taken : v.unit.taken ≡ m.taken ++ put_in w r b m
  pub given : v.unit.given ≡ m.given ++ had_from w m
  pub bytes : v.bytes ≡ b ++ had_from w m
  -- it goes on: one byte was moved, and more are owed
  pub one_more : v.ends ≡ None → v.moved ≡ r.moved + 1
  pub not-all : v.ends ≡ None → eqb (r.moved + 1) r.size ≡ false
  pub room : v.ends ≡ None → w ≡ true → eqb m.room 0 ≡ false
  pub came : v.ends ≡ None → w ≡ false → length (had_from w m) ≡ 1

ended-not : {A : Type 0} {B : Type 0} (o : B) → Some o ≡ None → A
ended-not o e = let z : ◌≡◌ {A = ℕ} 0 1 = cc in let f : ⊥ = omega arith in absurd f

goes_if : (b : Bool) (m : Medium) (n : ℕ) → complete_if b m n ≡ None → b ≡ false
goes_if true m n e = ended-not _ e
goes_if false m n e = refl

moved_out : (r : Request) (b : List ℕ) (m : Medium) (n : ℕ) → m.room ≡ n → Moved true r b m (move_out r b m (told_at n))
moved_out r b m zero e = record {
  taken = refl;
  given = sym (append-nil m.given);
  bytes = sym (append-nil b);
  one_more = λ q. ended-not _ q;
  not-all = λ q. ended-not _ q;
  room = λ q _. ended-not _ q;
  came = λ q _. ended-not _ q;
}
moved_out r b m (suc n) e = record {
  taken = refl;
  given = sym (append-nil m.given);
  bytes = sym (append-nil b);
  one_more = λ _. refl;
  not-all = λ q. goes_if (eqb (r.moved + 1) r.size) m (r.moved + 1) q;
  room = λ _ _. grind (arith, nat_tests);
  came = λ _ q. absurd (false≢true (sym q));
}

moved_in : (l : Bool) (r : Request) (b : List ℕ) (m : Medium) (cs : List ℕ) → m.coming ≡ cs → Moved false r b m (move_in l r b m (told_of cs))
moved_in l r b m [] e = record {
  taken = sym (append-nil m.taken);
  given = refl;
  bytes = sym (append-nil b) ∙ ap (λ (x : List ℕ). b ++ take 1 x) (sym e);
  one_more = λ q. ended-not _ q;
  not-all = λ q. ended-not _ q;
  room = λ q _. ended-not _ q;
  came = λ q _. ended-not _ q;
}
moved_in l r b m (c ∷ cs) e = record {
  taken = sym (append-nil m.taken);
  given = refl;
  bytes = ap (λ (x : List ℕ). b ++ take 1 x) (sym e);
  one_more = λ _. refl;
  not-all = λ q. let g = goes_if (eqb (r.moved + 1) r.size || (l && line_end c)) m (r.moved + 1) q in grind arith;
  room = λ _ q. absurd (false≢true q);
  came = λ _ _. ap (λ (x : List ℕ). length (take 1 x)) e;
}

moved_by : (w l : Bool) (r : Request) (b : List ℕ) (m : Medium) → Moved w r b m (cond w (move_out r b m (told_take m)) (move_in l r b m (told_give m)))
moved_by true l r b m = moved_out r b m m.room refl
moved_by false l r b m = moved_in l r b m m.coming refl

pub moved : (u : ℕ) (r : Request) (s : State) → Moved (writes (task_of s r.task).kind) r (task_of s r.task).bytes (unit_of s u) (move_of u r s)
moved u r s = moved_by (writes (task_of s r.task).kind) (by_line (task_of s r.task).kind) r (task_of s r.task).bytes (unit_of s u)

-- Steps -----------------------------------------------------------------------------------------------------------------------

-- the kind and the bytes of a record
abbrev pub load : Task → Option TransferKind × List ℕ
load x = (x.kind, x.bytes)

pub load_light : Light load
load_light = record { level = λ l x. refl; mark = λ b x. refl; word = λ m x. refl }

-- a step that concerns no unit
pub record Apart (s : State) (x : Step) (d : Done) : Type 0 where
  pub queues : d.state.queues ≡ s.queues
  pub units : d.state.units ≡ s.units
  pub loads : (k : ℕ) → 1 ≤ count k (all_askers s.queues) → load (task_of d.state k) ≡ load (task_of s k)
  pub unserved : (u : ℕ) → (serves u x && is_granted d.answer) ≡ false
  pub unasked : (u : ℕ) → cond (is_granted d.answer) (asks_of u x) None ≡ None

-- a step that concerns a unit
pub data AtUnit (s : State) : Step → Done → Type 0 where
  asks_it : (t u : ℕ) (y : transfer.Transfer (List ℕ)) (k : TransferKind) (bytes : List ℕ) (size : ℕ) → s.table.running ≡ Some t → u < 4 → Asked y k bytes size → AtUnit s (Transfer u y) (asking t u k bytes size s)
  moves-on : (u : ℕ) (r : Request) (rs : List Request) → u < 4 → queue_of s u ≡ r ∷ rs → (move_of u r s).ends ≡ None → AtUnit s (Service u) (going_on u r rs (move_of u r s) s)
  moves-last : (u : ℕ) (r : Request) (rs : List Request) (o : Outcome) → u < 4 → queue_of s u ≡ r ∷ rs → (move_of u r s).ends ≡ Some o → AtUnit s (Service u) (ending u r rs (move_of u r s) o s)

unserved-quiet : (x : Step) → quiet x ≡ true → (u : ℕ) (b : Bool) → (serves u x && b) ≡ false
unserved-quiet (Create id level start message) q u b = refl
unserved-quiet Kill q u b = refl
unserved-quiet Suspend q u b = refl
unserved-quiet (SetLevel level) q u b = refl
unserved-quiet (ById id call) q u b = refl
unserved-quiet (Send cell message stay) q u b = refl
unserved-quiet (Wait cell) q u b = refl
unserved-quiet (Delay n) q u b = refl
unserved-quiet (Transfer unit y) q u b = refl
unserved-quiet (Look at) q u b = refl
unserved-quiet Tick q u b = refl
unserved-quiet (Service unit) q u b = absurd (false≢true q)

unasked-quiet : (x : Step) → quiet x ≡ true → (u : ℕ) → asks_of u x ≡ None
unasked-quiet (Create id level start message) q u = refl
unasked-quiet Kill q u = refl
unasked-quiet Suspend q u = refl
unasked-quiet (SetLevel level) q u = refl
unasked-quiet (ById id call) q u = refl
unasked-quiet (Send cell message stay) q u = refl
unasked-quiet (Wait cell) q u = refl
unasked-quiet (Delay n) q u = refl
unasked-quiet (Transfer unit y) q u = absurd (false≢true q)
unasked-quiet (Look at) q u = refl
unasked-quiet Tick q u = refl
unasked-quiet (Service unit) q u = refl

module _ (s : State) (one_place : OnePlace s) where
  asker_only : (k : ℕ) → 1 ≤ count k (all_askers s.queues) → in_table k s.table ≡ 0
  asker_only k i = let e = one_place k in grind (arith, nat_tests)

  -- an asker is neither running nor free
  asker_runs-not : (k t : ℕ) → s.table.running ≡ Some t → 1 ≤ count k (all_askers s.queues) → has k (t ∷ []) ≡ false
  unfolding in_table
  asker_runs-not k t e i =
      let a = asker_only k i in let z : count k (option_to_list s.table.running) ≡ one k t + 0 = ap (λ (o : Option ℕ). count k (option_to_list o)) e in grind (arith, nat_tests)

  asker_free-not : (k j : ℕ) (js : List ℕ) → s.table.free ≡ j ∷ js → 1 ≤ count k (all_askers s.queues) → has k (j ∷ []) ≡ false
  unfolding in_table
  asker_free-not k j js f i = let a = asker_only k i in let z : count k s.table.free ≡ one k j + count k js = ap (count k) f in grind (arith, nat_tests)

  asker_not : (k j : ℕ) → has j (all_askers s.queues) ≡ false → 1 ≤ count k (all_askers s.queues) → has k (j ∷ []) ≡ false
  asker_not k j n i = let z = none-count j (all_askers s.queues) n in
      let w : eqb j k ≡ true → count k (all_askers s.queues) ≡ 0 = λ e. subst (λ (h : ℕ). count h (all_askers s.queues) ≡ 0) (eqb-true j k e) z in grind (arith, nat_tests)

  apart : {x : Step} {d : Done} (w : Shape s x d) → d.state.queues ≡ s.queues → d.state.units ≡ s.units → ((k : ℕ) → 1 ≤ count k (all_askers s.queues) → has k (touched w) ≡ false)
      → ((u : ℕ) → (serves u x && is_granted d.answer) ≡ false) → ((u : ℕ) → cond (is_granted d.answer) (asks_of u x) None ≡ None) → Apart s x d ⊎ AtUnit s x d
  apart w q u n v a = inl (record { queues = q; units = u; loads = λ k i. untouched load load_light w k (n k i); unserved = v; unasked = a })

  pub sorted-out : {x : Step} {d : Done} → Shape s x d → Apart s x d ⊎ AtUnit s x d
  sorted-out (refuses x r) = apart (refuses x r) refl refl (λ k i. refl) (λ u. grind arith) (λ u. refl)
  sorted-out (tells-only x n q) = apart (tells-only x n q) refl refl (λ k i. refl) (λ u. unserved-quiet x q u true) (λ u. unasked-quiet x q u)
  sorted-out (creates t k ks id level start message e f n) = apart (creates t k ks id level start message e f n) refl refl (λ j i. asker_free-not j k ks f i) (λ u. refl) (λ u. refl)
  sorted-out (kills x t q e) = apart (kills x t q e) refl refl (λ j i. asker_runs-not j t e i) (λ u. unserved-quiet x q u true) (λ u. unasked-quiet x q u)
  sorted-out (suspends x t q e) = apart (suspends x t q e) refl refl (λ k i. refl) (λ u. unserved-quiet x q u true) (λ u. unasked-quiet x q u)
  sorted-out (levels x t level q e) = apart (levels x t level q e) refl refl (λ k i. refl) (λ u. unserved-quiet x q u true) (λ u. unasked-quiet x q u)
  sorted-out (turns x t q e) = apart (turns x t q e) refl refl (λ k i. refl) (λ u. unserved-quiet x q u true) (λ u. unasked-quiet x q u)
  sorted-out (kills-other id t k e n f a) = apart (kills-other id t k e n f a) refl refl (λ j i. asker_not j k a i) (λ u. refl) (λ u. refl)
  sorted-out (readies_other id t k e n f) = apart (readies_other id t k e n f) refl refl (λ k i. refl) (λ u. refl) (λ u. refl)
  sorted-out (suspends-other id t k e n f) = apart (suspends-other id t k e n f) refl refl (λ k i. refl) (λ u. refl) (λ u. refl)
  sorted-out (levels-other id t k level e n f) = apart (levels-other id t k level e n f) refl refl (λ k i. refl) (λ u. refl) (λ u. refl)
  sorted-out (posts t c m true e a b n) = apart (posts t c m true e a b n) refl refl (λ k i. refl) (λ u. refl) (λ u. refl)
  sorted-out (posts t c m false e a b n) = apart (posts t c m false e a b n) refl refl (λ k i. refl) (λ u. refl) (λ u. refl)
  sorted-out (delivers t c m stay e a b n) = apart (delivers t c m stay e a b n) refl refl (λ k i. refl) (λ u. refl) (λ u. refl)
  sorted-out (awaits t c e a) = apart (awaits t c e a) refl refl (λ k i. refl) (λ u. refl) (λ u. refl)
  sorted-out (takes t c e a) = apart (takes t c e a) refl refl (λ k i. refl) (λ u. refl) (λ u. refl)
  sorted-out (delays t n e a) = apart (delays t n e a) refl refl (λ k i. refl) (λ u. refl) (λ u. refl)
  sorted-out (ticks a) = apart (ticks a) refl refl (λ k i. refl) (λ u. refl) (λ u. refl)
  sorted-out (asks t u y k bytes size e l a) = inr (asks_it t u y k bytes size e l a)
  sorted-out (goes_on u r rs l q a) = inr (moves-on u r rs l q a)
  sorted-out (ends u r rs o l q a) = inr (moves-last u r rs o l q a)
