-- How often a record stands in a table, through everything that is done to the table.
use Rattle.std.proofs.Common.{◌≡◌, ℕ, ◌+◌, ◌≤◌, true, cond, eqb, List, [], ◌∷◌, ◌++◌, length, Some, None, Option, refl, ap, ◌∙◌, arith, length-set}
use Rattle.std.specs.Option.{option_to_list}
use Rattle.std.proofs.lemmas.Bool.{cond_both, eqb-true}
use Rattle.std.proofs.lemmas.Bool.Decides.{nat_tests}
use Rattle.chain.specs.Lists.{count, first, has, one, rest, without}
use Rattle.chain.proofs.Members.{count-join, count-without}
use Rattle.rules.specs.State.{Table, Task, level_in, record_in, with_word}
use Rattle.rules.specs.Tables.{change, choose, hand, hand_all, link, link_running, put_free, release, release_all, stop, suspend, take_free, take_out, turn, unsuspend}
use Rattle.rules.specs.Sound.{in_table}

pub one_same : (k : ℕ) → one k k ≡ 1
one_same k = grind (arith, nat_tests)

pub count-++ : (k : ℕ) (xs ys : List ℕ) → count k (xs ++ ys) ≡ count k xs + count k ys
count-++ k [] ys = omega arith
count-++ k (x ∷ xs) ys = let ih = count-++ k xs ys in omega arith

-- what stands once and is taken away is gone
pub count-gone : (j k : ℕ) (xs : List ℕ) → count k xs ≤ 1 → count j (without k xs) ≡ cond (eqb j k) 0 (count j xs)
count-gone j k [] h = grind (arith, nat_tests)
count-gone j k (x ∷ xs) h =
    let ih : count k xs ≤ 1 → count j (without k xs) ≡ cond (eqb j k) 0 (count j xs) = count-gone j k xs in
    let z : eqb j k ≡ true → count j xs ≡ count k xs = λ e. ap (λ (i : ℕ). count i xs) (eqb-true j k e) in
    grind (arith, nat_tests)

count-first : (k : ℕ) (xs : List ℕ) → count k (option_to_list (first xs)) + count k (rest xs) ≡ count k xs
count-first k [] = refl
count-first k (x ∷ xs) = omega arith

module _ (k : ℕ) where
  pub in_link : (t : ℕ) (a : Table) → in_table k (link t a) ≡ one k t + in_table k a
  unfolding in_table link
  in_link t a = omega (arith, count-join (level_in a) k t a.ready)

  pub in_choose : (a : Table) → a.running ≡ None → in_table k (choose a) ≡ in_table k a
  unfolding in_table choose
  in_choose a e = let z : count k (option_to_list a.running) ≡ 0 = ap (λ (o : Option ℕ). count k (option_to_list o)) e in omega (arith, count-first k a.ready)

  pub in_stop : (a : Table) → in_table k (stop a) + count k (option_to_list a.running) ≡ in_table k a
  unfolding in_table stop
  in_stop a = omega arith

  pub in_stopped : (a : Table) (t : ℕ) → a.running ≡ Some t → in_table k (stop a) + one k t ≡ in_table k a
  in_stopped a t e = let z : count k (option_to_list a.running) ≡ one k t + 0 = ap (λ (o : Option ℕ). count k (option_to_list o)) e in omega (arith, in_stop a)

  pub in_suspend : (t : ℕ) (a : Table) → in_table k (suspend t a) ≡ one k t + in_table k a
  unfolding in_table suspend
  in_suspend t a = omega arith

  pub in_take_out : (t : ℕ) (a : Table) → has t a.ready ≡ true → one k t + in_table k (take_out t a) ≡ in_table k a
  unfolding in_table take_out
  in_take_out t a h = omega (arith, count-without k t a.ready h)

  pub in_unsuspend : (t : ℕ) (a : Table) → has t a.suspended ≡ true → one k t + in_table k (unsuspend t a) ≡ in_table k a
  unfolding in_table unsuspend
  in_unsuspend t a h = omega (arith, count-without k t a.suspended h)

  pub in_change : (t : ℕ) (f : Task → Task) (a : Table) → in_table k (change t f a) ≡ in_table k a
  unfolding in_table change
  in_change t f a = refl

  pub in_put_free : (t : ℕ) (a : Table) → in_table k (put_free t a) ≡ one k t + in_table k a
  unfolding in_table put_free
  in_put_free t a = omega arith

  pub in_take_free : (x : ℕ) (xs : List ℕ) (a : Table) → a.free ≡ x ∷ xs → one k x + in_table k (take_free a) ≡ in_table k a
  unfolding in_table take_free
  in_take_free x xs a e = let z : count k a.free ≡ one k x + count k xs = ap (count k) e in let y : count k (rest a.free) ≡ count k xs = ap (λ (l : List ℕ). count k (rest l)) e in omega arith

  pub in_release : (t : ℕ) (a : Table) → in_table k (release t a) ≡ one k t + in_table k a
  unfolding release
  in_release t a = cond_both (record_in a t).mark (suspend t a) (link t a) (λ b. in_table k b ≡ one k t + in_table k a) (λ _. in_suspend t a) (λ _. in_link t a)

  pub in_release_all : (ts : List ℕ) (a : Table) → in_table k (release_all ts a) ≡ count k ts + in_table k a
  in_release_all [] a = omega arith
  in_release_all (t ∷ ts) a = omega (arith, in_release_all ts (release t a), in_release t a)

  pub in_hand : (m t : ℕ) (a : Table) → in_table k (hand m t a) ≡ one k t + in_table k a
  unfolding hand
  in_hand m t a = omega (arith, in_release t (change t (with_word m) a), in_change t (with_word m) a)

  pub in_hand_all : (m : ℕ) (ts : List ℕ) (a : Table) → in_table k (hand_all m ts a) ≡ count k ts + in_table k a
  in_hand_all m [] a = omega arith
  in_hand_all m (t ∷ ts) a = omega (arith, in_hand_all m ts (hand m t a), in_hand m t a)

  in_link_running : (a : Table) (o : Option ℕ) → a.running ≡ o → (in_table k (link_running o a) ≡ in_table k a) × ((link_running o a).running ≡ None)
  unfolding link stop
  in_link_running a None e = (refl, e)
  in_link_running a (Some t) e = (omega (arith, in_link t (stop a), in_stopped a t e), refl)

  pub in_turn : (a : Table) → in_table k (turn a) ≡ in_table k a
  unfolding turn
  in_turn a = let l = in_link_running a a.running refl in in_choose (link_running a.running a) l.1 ∙ l.0

-- how many records there are does not change
pub size-change : (t : ℕ) (f : Task → Task) (a : Table) → length (change t f a).tasks ≡ length a.tasks
unfolding change
size-change t f a = length-set a.tasks t _

-- the records through what is done to chains
pub tasks-link : (t : ℕ) (a : Table) → (link t a).tasks ≡ a.tasks
unfolding link
tasks-link t a = refl

pub tasks-suspend : (t : ℕ) (a : Table) → (suspend t a).tasks ≡ a.tasks
unfolding suspend
tasks-suspend t a = refl

pub tasks-release : (t : ℕ) (a : Table) → (release t a).tasks ≡ a.tasks
unfolding release
tasks-release t a = cond_both (record_in a t).mark (suspend t a) (link t a) (λ b. b.tasks ≡ a.tasks) (λ _. tasks-suspend t a) (λ _. tasks-link t a)

pub tasks-release_all : (ts : List ℕ) (a : Table) → (release_all ts a).tasks ≡ a.tasks
tasks-release_all [] a = refl
tasks-release_all (t ∷ ts) a = tasks-release_all ts (release t a) ∙ tasks-release t a

pub tasks-turn : (a : Table) → (turn a).tasks ≡ a.tasks
unfolding turn choose link stop
tasks-turn a = go a.running
  where
    go : (o : Option ℕ) → (link_running o a).tasks ≡ a.tasks
    go None = refl
    go (Some t) = refl
