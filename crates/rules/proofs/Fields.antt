-- Which records a step touches beyond level, mark and word: a field that none of these is stays in all others.
use Rattle.std.proofs.Common.{◌≡◌, ℕ, zero, suc, Bool, true, false, eqb, List, [], ◌∷◌, get_or, set, refl, ap, ◌∙◌, arith}
use Rattle.std.specs.Option.{option_to_list}
use Rattle.std.proofs.lemmas.Bool.{cond_both}
use Rattle.chain.specs.Lists.{first, has}
use Rattle.rules.specs.State.{State, Table, Task, blank, record_in, task_of, with_level, with_mark, with_outcome, with_transfer, with_word, word_of}
use Rattle.rules.specs.Tables.{change, choose, clear, hand, hand_all, level_other, link, put_free, ready_other, release, release_all, stop, suspend, suspend_other, take_free, take_out, turn, unsuspend}
use Rattle.rules.specs.Acts.{Done}
use Rattle.rules.specs.Records.{or_else}
use Rattle.rules.specs.Mail.{waiting_at}
use Rattle.rules.specs.Clock.{due_next}
use Rattle.rules.specs.Rules.{Step}
use Rattle.rules.proofs.Counts.{tasks-release, tasks-release_all, tasks-turn}
use Rattle.rules.proofs.Tidy.{record_other}
use Rattle.rules.proofs.Shapes.{Shape, refuses, tells-only, creates, kills, suspends, levels, turns, kills-other, readies_other, suspends-other, levels-other, posts, delivers, awaits, takes, delays, ticks, asks, goes_on, ends}

-- the records that a step fills, clears, or changes as to their transfer
abbrev pub touched : {s : State} {x : Step} {d : Done} → Shape s x d → List ℕ
touched (refuses x r) = []
touched (tells-only x n q) = []
touched (creates t k ks id level start message e f n) = k ∷ []
touched (kills x t q e) = t ∷ []
touched (suspends x t q e) = []
touched (levels x t level q e) = []
touched (turns x t q e) = []
touched (kills-other id t k e n f a) = k ∷ []
touched (readies_other id t k e n f) = []
touched (suspends-other id t k e n f) = []
touched (levels-other id t k level e n f) = []
touched (posts t c m stay e a b n) = []
touched (delivers t c m stay e a b n) = []
touched (awaits t c e a) = []
touched (takes t c e a) = []
touched (delays t n e a) = []
touched (ticks a) = []
touched (asks t u y k bytes size e l a) = t ∷ []
touched (goes_on u r rs l q a) = r.task ∷ []
touched (ends u r rs o l q a) = r.task ∷ []

-- a part of a record that is neither its level nor its mark nor its word
pub record Light {X : Type 0} (g : Task → X) : Type 0 where
  pub level : (l : ℕ) (x : Task) → g (with_level l x) ≡ g x
  pub mark : (b : Bool) (x : Task) → g (with_mark b x) ≡ g x
  pub word : (m : ℕ) (x : Task) → g (with_word m x) ≡ g x

module _ {X : Type 0} (g : Task → X) where
  pub same-tasks : (b a : Table) (k : ℕ) → b.tasks ≡ a.tasks → g (record_in b k) ≡ g (record_in a k)
  same-tasks b a k e = ap (λ (xs : List Task). g (get_or xs k blank)) e

  same_set : (xs : List Task) (t k : ℕ) (y : Task) → g y ≡ g (get_or xs t blank) → g (get_or (set xs t y) k blank) ≡ g (get_or xs k blank)
  same_set [] t k y h = refl
  same_set (x ∷ xs) zero zero y h = h
  same_set (x ∷ xs) zero (suc k) y h = refl
  same_set (x ∷ xs) (suc t) zero y h = refl
  same_set (x ∷ xs) (suc t) (suc k) y h = same_set xs t k y h

  pub same-change : (t k : ℕ) (f : Task → Task) (a : Table) → g (f (record_in a t)) ≡ g (record_in a t) → g (record_in (change t f a) k) ≡ g (record_in a k)
  unfolding change
  same-change t k f a h = same_set a.tasks t k (f (record_in a t)) h

  pub same-other : (t k : ℕ) (f : Task → Task) (a : Table) → eqb t k ≡ false → g (record_in (change t f a) k) ≡ g (record_in a k)
  same-other t k f a e = ap g (record_other t k f a e)

  pub same_turn : (b a : Table) (k : ℕ) → g (record_in b k) ≡ g (record_in a k) → g (record_in (turn b) k) ≡ g (record_in a k)
  same_turn b a k h = same-tasks (turn b) b k (tasks-turn b) ∙ h

  same_make : (t k j : ℕ) (x : Task) (a : Table) → eqb k j ≡ false → g (record_in (choose (link k (link t (stop (change k (λ _. x) (take_free a)))))) j) ≡ g (record_in a j)
  unfolding choose link stop take_free
  same_make t k j x a e = same-other k j (λ _. x) (take_free a) e

  pub same_stop : (a : Table) (k : ℕ) → g (record_in (stop a) k) ≡ g (record_in a k)
  unfolding stop
  same_stop a k = refl

  same-clear : (t k : ℕ) (a : Table) → eqb t k ≡ false → g (record_in (clear t a) k) ≡ g (record_in a k)
  unfolding put_free
  same-clear t k a e = same-other t k (λ _. blank) a e

  same_out : (t k : ℕ) (a : Table) → g (record_in (unsuspend t (take_out t a)) k) ≡ g (record_in a k)
  unfolding unsuspend take_out
  same_out t k a = refl

  module _ (light : Light g) where
    same-suspend : (t k : ℕ) (a : Table) → g (record_in (suspend t (change t (with_mark true) (stop a))) k) ≡ g (record_in a k)
    unfolding suspend stop
    same-suspend t k a = same-change t k (with_mark true) (stop a) (light.mark true _)

    same-ready : (t k : ℕ) (a : Table) → g (record_in (ready_other t a) k) ≡ g (record_in a k)
    unfolding ready_other link unsuspend
    same-ready t k a = cond_both (has t a.suspended) (link t (change t (with_mark false) (unsuspend t a))) (change t (with_mark false) a) (λ b. g (record_in b k) ≡ g (record_in a k))
        (λ _. same-change t k (with_mark false) (unsuspend t a) (light.mark false _)) (λ _. same-change t k (with_mark false) a (light.mark false _))

    same-suspended : (t k : ℕ) (a : Table) → g (record_in (suspend_other t a) k) ≡ g (record_in a k)
    unfolding suspend_other suspend take_out
    same-suspended t k a = cond_both (has t a.ready) (suspend t (change t (with_mark true) (take_out t a))) (change t (with_mark true) a) (λ b. g (record_in b k) ≡ g (record_in a k))
        (λ _. same-change t k (with_mark true) (take_out t a) (light.mark true _)) (λ _. same-change t k (with_mark true) a (light.mark true _))

    same-level : (t l k : ℕ) (a : Table) → g (record_in (level_other t l a) k) ≡ g (record_in a k)
    unfolding level_other link take_out
    same-level t l k a = cond_both (has t a.ready) (link t (change t (with_level l) (take_out t a))) (change t (with_level l) a) (λ b. g (record_in b k) ≡ g (record_in a k))
        (λ _. same-change t k (with_level l) (take_out t a) (light.level l _)) (λ _. same-change t k (with_level l) a (light.level l _))

    same-hand : (m t k : ℕ) (a : Table) → g (record_in (hand m t a) k) ≡ g (record_in a k)
    unfolding hand
    same-hand m t k a = same-tasks (release t (change t (with_word m) a)) (change t (with_word m) a) k (tasks-release t (change t (with_word m) a)) ∙ same-change t k (with_word m) a (light.word m _)

    same-hand_all : (m : ℕ) (ts : List ℕ) (k : ℕ) (a : Table) → g (record_in (hand_all m ts a) k) ≡ g (record_in a k)
    same-hand_all m [] k a = refl
    same-hand_all m (t ∷ ts) k a = same-hand_all m ts k (hand m t a) ∙ same-hand m t k a

    alone : (t k : ℕ) → has k (t ∷ []) ≡ false → eqb t k ≡ false
    alone t k h = grind arith

    -- every record that a step does not touch keeps that part
    pub untouched : {s : State} {x : Step} {d : Done} (w : Shape s x d) (k : ℕ) → has k (touched w) ≡ false → g (task_of d.state k) ≡ g (task_of s k)
    untouched (refuses x r) k h = refl
    untouched (tells-only x n q) k h = refl
    untouched {s} (creates t j ks id level start message e f n) k h = same_make t j k _ s.table (alone j k h)
    untouched {s} (kills x t q e) k h = same_turn (clear t (stop s.table)) s.table k (same-clear t k (stop s.table) (alone t k h) ∙ same_stop s.table k)
    untouched {s} (suspends x t q e) k h = same_turn _ s.table k (same-suspend t k s.table)
    untouched {s} (levels x t level q e) k h = same_turn _ s.table k (same-change t k (with_level (or_else 1 level)) s.table (light.level _ _))
    untouched {s} (turns x t q e) k h = same_turn s.table s.table k refl
    untouched {s} (kills-other id t j e n f a) k h = same_turn (clear j (unsuspend j (take_out j s.table))) s.table k (same-clear j k (unsuspend j (take_out j s.table)) (alone j k h) ∙ same_out j k s.table)
    untouched {s} (readies_other id t j e n f) k h = same_turn _ s.table k (same-ready j k s.table)
    untouched {s} (suspends-other id t j e n f) k h = same_turn _ s.table k (same-suspended j k s.table)
    untouched {s} (levels-other id t j level e n f) k h = same_turn _ s.table k (same-level j (or_else 1 level) k s.table)
    untouched {s} (posts t c m true e a b n) k h = same_turn (stop s.table) s.table k (same_stop s.table k)
    untouched {s} (posts t c m false e a b n) k h = same_turn s.table s.table k refl
    untouched {s} (delivers t c m stay e a b n) k h = same_turn (hand_all m (waiting_at s c) s.table) s.table k (same-hand_all m (waiting_at s c) k s.table)
    untouched {s} (awaits t c e a) k h = same_turn (stop s.table) s.table k (same_stop s.table k)
    untouched {s} (takes t c e a) k h = let b = change t (with_word (word_of s.cells c)) s.table in
        same_turn (release_all (option_to_list (first (waiting_at s c))) b) s.table k (same-tasks (release_all (option_to_list (first (waiting_at s c))) b) b k (tasks-release_all (option_to_list (first (waiting_at s c))) b) ∙ same-change t k (with_word (word_of s.cells c)) s.table (light.word _ _))
    untouched {s} (delays t n e a) k h = same_turn (stop s.table) s.table k (same_stop s.table k)
    untouched {s} (ticks a) k h = same_turn (release_all (due_next s) s.table) s.table k (same-tasks (release_all (due_next s) s.table) s.table k (tasks-release_all (due_next s) s.table))
    untouched {s} (asks t u y kd bytes size e l a) k h = same_turn _ s.table k (same-other t k (with_transfer kd bytes) (stop s.table) (alone t k h) ∙ same_stop s.table k)
    untouched {s} (goes_on u r rs l q a) k h = same-other r.task k _ s.table (alone r.task k h)
    untouched {s} (ends u r rs o l q a) k h = let b = change r.task (with_outcome _ o) s.table in same_turn (release r.task b) s.table k (same-tasks (release r.task b) b k (tasks-release r.task b) ∙ same-other r.task k _ s.table (alone r.task k h))
