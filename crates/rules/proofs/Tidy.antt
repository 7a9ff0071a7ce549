-- What holds of the table through everything that is done to it: marks, free records, the sorted ready chain and the places in it.
use Rattle.std.proofs.Common.{◌≡◌, ℕ, zero, suc, ◌+◌, ◌<◌, ◌≤◌, Bool, true, false, cond, ◌||◌, eqb, List, [], ◌∷◌, ◌++◌, map, length, get_or, Some, None, Option, sym, refl, ap, ◌∙◌, subst, ⊎_elim, append_assoc, append-nil, arith}
use Rattle.std.specs.Option.{option_to_list}
use Rattle.std.proofs.lemmas.List.{get_or-set_same, get_or-set_other}
use Rattle.std.proofs.lemmas.Bool.{cond_both, cases_Bool, eqb-true, eqb-false, false≢true}
use Rattle.std.proofs.lemmas.Bool.Decides.{nat_tests}
use Rattle.chain.specs.Lists.{count, first, has, one, rest, sorted, without}
use Rattle.chain.proofs.Members.{count_none, has_join, has-without, some-count, without-none}
use Rattle.chain.proofs.Orders.{join-sorted, without-sorted}
use Rattle.rules.specs.State.{Table, Task, blank, level_in, State, level_of, record_in, with_ready, with_suspended, with_table, with_word}
use Rattle.rules.specs.Tables.{change, choose, hand, hand_all, link, link_running, put_free, release, release_all, stop, suspend, take_free, take_out, turn, unsuspend}
use Rattle.rules.specs.Acts.{Deed, linked, chose, took_out, back_tells, handing, hands_tell, linking, releases_tell, releasing, taking_out, turning}
use Rattle.rules.specs.Sound.{FreeAreBlank, Marks, in_table}
use Rattle.rules.specs.Laws.{Foremost, Placed, front}
use Rattle.rules.proofs.Counts.{count-gone, in_change, in_choose, in_hand, in_link, in_put_free, in_release, in_stop, in_suspend, in_take_free, in_take_out, in_unsuspend, in_stopped, one_same, size-change, tasks-release}
use Rattle.rules.proofs.Places.{front-join, front-without, none_above_has, placed-more, placed_new, rest_sorted, sorted_like}

-- a table after the deeds ds
pub record Tidy (ds : List Deed) (a : Table) : Type 0 where
  pub once : (k : ℕ) → in_table k a ≤ 1
  pub blanks : FreeAreBlank a
  pub marks : Marks a
  pub sorted : sorted (level_in a) a.ready ≡ true
  pub placed : (t : ℕ) → has t a.ready ≡ true → Placed t (level_in a t) ds a.ready

-- Records ---------------------------------------------------------------------------------------------------------------------
pub level-is : (xs : List Task) (k : ℕ) → get_or (map (λ x. x.level) xs) k 0 ≡ (get_or xs k blank).level
level-is [] k = refl
level-is (x ∷ xs) zero = refl
level-is (x ∷ xs) (suc k) = level-is xs k

pub record_same : (t : ℕ) (f : Task → Task) (a : Table) → t < length a.tasks → record_in (change t f a) t ≡ f (record_in a t)
unfolding change
record_same t f a l = get_or-set_same a.tasks t _ blank l

pub record_other : (t k : ℕ) (f : Task → Task) (a : Table) → eqb t k ≡ false → record_in (change t f a) k ≡ record_in a k
unfolding change
record_other t k f a e = get_or-set_other a.tasks t k _ blank (λ q. eqb-false t k e (sym q))

level-other : (t k : ℕ) (f : Task → Task) (a : Table) → eqb t k ≡ false → level_in (change t f a) k ≡ level_in a k
level-other t k f a e = level-is (change t f a).tasks k ∙ ap (λ (x : Task). x.level) (record_other t k f a e) ∙ sym (level-is a.tasks k)

level-same : (t : ℕ) (f : Task → Task) (a : Table) → t < length a.tasks → (f (record_in a t)).level ≡ (record_in a t).level → level_in (change t f a) t ≡ level_in a t
level-same t f a l e = level-is (change t f a).tasks t ∙ ap (λ (x : Task). x.level) (record_same t f a l) ∙ e ∙ sym (level-is a.tasks t)

free-is : (t : ℕ) (f : Task → Task) (a : Table) → (change t f a).free ≡ a.free
unfolding change
free-is t f a = refl

running-is : (t : ℕ) (f : Task → Task) (a : Table) → (change t f a).running ≡ a.running
unfolding change
running-is t f a = refl

ready-is : (t : ℕ) (f : Task → Task) (a : Table) → (change t f a).ready ≡ a.ready
unfolding change
ready-is t f a = refl

suspended-is : (t : ℕ) (f : Task → Task) (a : Table) → (change t f a).suspended ≡ a.suspended
unfolding change
suspended-is t f a = refl

stop-mark : (t : ℕ) (a : Table) → (record_in a t).mark ≡ false → (record_in (stop a) t).mark ≡ false
unfolding stop
stop-mark t a e = e

-- Chains ----------------------------------------------------------------------------------------------------------------------
pub ready-once : (k : ℕ) (a : Table) → in_table k a ≤ 1 → count k a.ready ≤ 1
unfolding in_table
ready-once k a h = omega arith

-- a record that stands nowhere in the table is in none of its chains
pub record Nowhere (t : ℕ) (a : Table) : Type 0 where
  pub free : has t a.free ≡ false
  pub running : a.running ≡ Some t → ⊥
  pub ready : has t a.ready ≡ false
  pub suspended : has t a.suspended ≡ false

pub nowhere : (t : ℕ) (a : Table) → in_table t a ≡ 0 → Nowhere t a
unfolding in_table
nowhere t a h = record {
  free = count_none t a.free (omega arith);
  running = λ e. let z : count t (option_to_list a.running) ≡ one t t + 0 = ap (λ (o : Option ℕ). count t (option_to_list o)) e in let o = one_same t in omega arith;
  ready = count_none t a.ready (omega arith);
  suspended = count_none t a.suspended (omega arith);
}

-- more deeds than none
pub tidy_nil : {ds : List Deed} {a : Table} → Tidy ds a → Tidy (ds ++ []) a
tidy_nil {ds} {a} h = subst (λ (l : List Deed). Tidy l a) (sym (append-nil ds)) h

-- the deeds of one act and then of another
pub tidy-then : (ds es fs : List Deed) {a : Table} → Tidy ((ds ++ es) ++ fs) a → Tidy (ds ++ (es ++ fs)) a
tidy-then ds es fs {a} h = subst (λ (l : List Deed). Tidy l a) (append_assoc ds es fs) h

once_join : (t : ℕ) (a b : Table) → ((k : ℕ) → in_table k b ≡ one k t + in_table k a) → in_table t a ≡ 0 → ((k : ℕ) → in_table k a ≤ 1) → (k : ℕ) → in_table k b ≤ 1
once_join t a b e z o k =
    let ek = e k in let ok = o k in let same : eqb k t ≡ true → in_table k a ≡ 0 = λ q. subst (λ (j : ℕ). in_table j a ≡ 0) (sym (eqb-true k t q)) z in grind (arith, nat_tests)

has_rest : (k : ℕ) (xs : List ℕ) → has k (rest xs) ≡ true → has k xs ≡ true
has_rest k [] i = i
has_rest k (x ∷ xs) i = grind (arith, nat_tests)

front_rest : (k : ℕ) (xs : List ℕ) → count k xs ≤ 1 → has k (rest xs) ≡ true → length (front k xs) ≡ 1 + length (front k (rest xs))
front_rest k [] o i = grind arith
front_rest k (x ∷ xs) o i = let c = some-count k xs i in grind (arith, nat_tests)

stays : (k t : ℕ) (xs : List ℕ) → has k (without t xs) ≡ true → has k xs ≡ true
stays k t xs i = ⊎_elim (λ (e : has k xs ≡ true). e) (λ (e : has k xs ≡ false). absurd (false≢true (sym (has-without k t xs e) ∙ i))) (cases_Bool (has k xs))

-- what was taken away is another
other : (k t : ℕ) (xs : List ℕ) → count t xs ≤ 1 → has k (without t xs) ≡ true → eqb t k ≡ false
other k t xs o i = let c = some-count k (without t xs) i in let g = count-gone k t xs o in grind (arith, nat_tests)

pub not-out : (t : ℕ) (a : Table) → has t a.ready ≡ false → take_out t a ≡ a
unfolding take_out
not-out t a i = ap (λ (l : List ℕ). with_ready l a) (without-none t a.ready i)

pub not_there : (t : ℕ) (a : Table) → has t a.suspended ≡ false → unsuspend t a ≡ a
unfolding unsuspend
not_there t a i = ap (λ (l : List ℕ). with_suspended l a) (without-none t a.suspended i)

module _ {ds : List Deed} where
  pub tidy-link : (t : ℕ) (a : Table) → in_table t a ≡ 0 → (record_in a t).mark ≡ false → Tidy ds a → Tidy (ds ++ (linking t).tells a) (link t a)
  unfolding link
  tidy-link t a z m h = record {
    once = once_join t a (link t a) (λ k. in_link k t a) z h.once;
    blanks = h.blanks;
    marks = record {
      running = h.marks.running;
      ready = λ k i. let w : (eqb t k || has k a.ready) ≡ true = sym (has_join (level_in a) k t a.ready) ∙ i in
          ⊎_elim (λ (e : eqb t k ≡ true). subst (λ (j : ℕ). (record_in a j).mark ≡ false) (eqb-true t k e) m) (λ (e : eqb t k ≡ false). h.marks.ready k (grind (arith, nat_tests))) (cases_Bool (eqb t k));
      free = h.marks.free;
      suspended = h.marks.suspended;
    };
    sorted = join-sorted (level_in a) t a.ready h.sorted;
    placed = λ k i. let w : (eqb t k || has k a.ready) ≡ true = sym (has_join (level_in a) k t a.ready) ∙ i in
        ⊎_elim
        (λ (e : eqb t k ≡ true). subst (λ (j : ℕ). Placed j (level_in a j) (ds ++ (linking t).tells a) (link t a).ready) (eqb-true t k e) (placed_new t (level_in a t) ds (link t a).ready))
        (λ (e : eqb t k ≡ false). let i' : has k a.ready ≡ true = grind (arith, nat_tests) in
        placed-more k (level_in a k) ds a.ready (link t a).ready (linked t (level_in a t) (link t a).ready) e (omega (arith, front-join (level_in a) t k a.ready h.sorted i' e)) (h.placed k i'))
        (cases_Bool (eqb t k));
  }

  first-mark : (a : Table) → Tidy ds a → (k : ℕ) (xs : List ℕ) → a.ready ≡ xs → first xs ≡ Some k → (record_in a k).mark ≡ false
  first-mark a h k [] e f = let z : ◌≡◌ {A = ℕ} 0 1 = cc in let w : ⊥ = omega arith in absurd w
  first-mark a h k (x ∷ xs) e f = let q : x ≡ k = cc in h.marks.ready k (subst (λ (l : List ℕ). has k l ≡ true) (sym e) (grind (arith, nat_tests)))

  pub tidy-choose : (a : Table) → a.running ≡ None → Tidy ds a → Tidy (ds ++ chose ∷ []) (choose a)
  unfolding choose
  tidy-choose a e h = record {
    once = λ k. let c = in_choose k a e in let o = h.once k in omega arith;
    blanks = h.blanks;
    marks = record {
      running = λ k f. first-mark a h k a.ready refl f;
      ready = λ k i. h.marks.ready k (has_rest k a.ready i);
      free = h.marks.free;
      suspended = h.marks.suspended;
    };
    sorted = rest_sorted (level_in a) a.ready h.sorted;
    placed = λ k i. placed-more k (level_in a k) ds a.ready (rest a.ready) chose refl
        (omega (arith, front_rest k a.ready (ready-once k a (h.once k)) i)) (h.placed k (has_rest k a.ready i));
  }

  tidy-out : (t : ℕ) (a : Table) → has t a.ready ≡ true → Tidy ds a → Tidy (ds ++ took_out t a.ready ∷ []) (take_out t a)
  unfolding take_out
  tidy-out t a i h = record {
    once = λ k. let c = in_take_out k t a i in let o = h.once k in omega arith;
    blanks = h.blanks;
    marks = record { running = h.marks.running; ready = λ k j. h.marks.ready k (stays k t a.ready j); free = h.marks.free; suspended = h.marks.suspended };
    sorted = without-sorted (level_in a) t a.ready h.sorted;
    placed = λ k j. let o = ready-once t a (h.once t) in
        placed-more k (level_in a k) ds a.ready (without t a.ready) (took_out t a.ready) refl (omega (arith, front-without t k a.ready o (other k t a.ready o j))) (h.placed k (stays k t a.ready j));
  }

  pub tidy-take_out : (t : ℕ) (a : Table) → Tidy ds a → Tidy (ds ++ (taking_out t).tells a) (take_out t a)
  tidy-take_out t a h = cond_both (has t a.ready) (took_out t a.ready ∷ []) [] (λ l. Tidy (ds ++ l) (take_out t a))
      (λ i. tidy-out t a i h) (λ i. subst (λ (b : Table). Tidy (ds ++ []) b) (sym (not-out t a i)) (tidy_nil h))

  was_there : (t : ℕ) (a : Table) → has t a.suspended ≡ true → Tidy ds a → Tidy ds (unsuspend t a)
  unfolding unsuspend
  was_there t a i h = record {
    once = λ k. let c = in_unsuspend k t a i in let o = h.once k in omega arith;
    blanks = h.blanks;
    marks = record { running = h.marks.running; ready = h.marks.ready; free = h.marks.free; suspended = λ k j. h.marks.suspended k (stays k t a.suspended j) };
    sorted = h.sorted;
    placed = h.placed;
  }

  pub tidy-unsuspend : (t : ℕ) (a : Table) → Tidy ds a → Tidy ds (unsuspend t a)
  tidy-unsuspend t a h = ⊎_elim (λ (i : has t a.suspended ≡ true). was_there t a i h) (λ (i : has t a.suspended ≡ false). subst (Tidy ds) (sym (not_there t a i)) h) (cases_Bool (has t a.suspended))

  pub tidy-suspend : (t : ℕ) (a : Table) → in_table t a ≡ 0 → (record_in a t).mark ≡ true → Tidy ds a → Tidy ds (suspend t a)
  unfolding suspend
  tidy-suspend t a z m h = record {
    once = once_join t a (suspend t a) (λ k. in_suspend k t a) z h.once;
    blanks = h.blanks;
    marks = record {
      running = h.marks.running;
      ready = h.marks.ready;
      free = h.marks.free;
      suspended = λ k i. ⊎_elim (λ (e : eqb t k ≡ true). subst (λ (j : ℕ). (record_in a j).mark ≡ true) (eqb-true t k e) m) (λ (e : eqb t k ≡ false). h.marks.suspended k (grind (arith, nat_tests))) (cases_Bool (eqb t k));
    };
    sorted = h.sorted;
    placed = h.placed;
  }

  pub tidy-stop : (a : Table) → Tidy ds a → Tidy ds (stop a)
  unfolding stop
  tidy-stop a h = record {
    once = λ k. let c = in_stop k a in let o = h.once k in omega arith;
    blanks = h.blanks;
    marks = record { running = λ k e. let z : ◌≡◌ {A = ℕ} 0 1 = cc in let f : ⊥ = omega arith in absurd f; ready = h.marks.ready; free = h.marks.free; suspended = h.marks.suspended };
    sorted = h.sorted;
    placed = h.placed;
  }

  pub tidy-put_free : (t : ℕ) (a : Table) → in_table t a ≡ 0 → record_in a t ≡ blank → Tidy ds a → Tidy ds (put_free t a)
  unfolding put_free
  tidy-put_free t a z m h = record {
    once = once_join t a (put_free t a) (λ k. in_put_free k t a) z h.once;
    blanks = free-blank;
    marks = record { running = h.marks.running; ready = h.marks.ready; free = λ k i. ap (λ (x : Task). x.mark) (free-blank k i); suspended = h.marks.suspended };
    sorted = h.sorted;
    placed = h.placed;
  }
    where
      free-blank : (k : ℕ) → (eqb t k || has k a.free) ≡ true → record_in a k ≡ blank
      free-blank k i = ⊎_elim (λ (e : eqb t k ≡ true). subst (λ (j : ℕ). record_in a j ≡ blank) (eqb-true t k e) m) (λ (e : eqb t k ≡ false). h.blanks k (grind (arith, nat_tests))) (cases_Bool (eqb t k))

  pub tidy-take_free : (x : ℕ) (xs : List ℕ) (a : Table) → a.free ≡ x ∷ xs → Tidy ds a → Tidy ds (take_free a)
  unfolding take_free
  tidy-take_free x xs a e h = record {
    once = λ k. let c = in_take_free k x xs a e in let o = h.once k in omega arith;
    blanks = λ k i. h.blanks k (has_rest k a.free i);
    marks = record { running = h.marks.running; ready = h.marks.ready; free = λ k i. h.marks.free k (has_rest k a.free i); suspended = h.marks.suspended };
    sorted = h.sorted;
    placed = h.placed;
  }

  -- the record t is changed to one that may stand where t stands
  pub tidy-change : (t : ℕ) (f : Task → Task) (a : Table) → t < length a.tasks
      → (has t a.free ≡ true → f (record_in a t) ≡ blank)
      → (a.running ≡ Some t → (f (record_in a t)).mark ≡ false)
      → (has t a.ready ≡ true → ((f (record_in a t)).mark ≡ false) × ((f (record_in a t)).level ≡ (record_in a t).level))
      → (has t a.suspended ≡ true → (f (record_in a t)).mark ≡ true)
      → Tidy ds a → Tidy ds (change t f a)
  tidy-change t f a l fr ru re su h = record {
    once = λ k. let c = in_change k t f a in let o = h.once k in omega arith;
    blanks = λ k i. each k (λ y. y ≡ blank) (λ e. fr (subst (λ (j : ℕ). has j a.free ≡ true) (sym e) (ff k i))) (h.blanks k (ff k i));
    marks = record {
      running = λ k i. each k (λ y. y.mark ≡ false) (λ e. ru (fu i ∙ ap Some (sym e))) (h.marks.running k (fu i));
      ready = λ k i. each k (λ y. y.mark ≡ false) (λ e. (re (subst (λ (j : ℕ). has j a.ready ≡ true) (sym e) (fe k i))).0) (h.marks.ready k (fe k i));
      free = λ k i. each k (λ y. y.mark ≡ false) (λ e. ap (λ (y : Task). y.mark) (fr (subst (λ (j : ℕ). has j a.free ≡ true) (sym e) (ff k i)))) (h.marks.free k (ff k i));
      suspended = λ k i. each k (λ y. y.mark ≡ true) (λ e. su (subst (λ (j : ℕ). has j a.suspended ≡ true) (sym e) (fs k i))) (h.marks.suspended k (fs k i));
    };
    sorted = subst (λ (xs : List ℕ). sorted (level_in (change t f a)) xs ≡ true) (sym (ready-is t f a)) (sorted_like (level_in a) (level_in (change t f a)) a.ready same-level h.sorted);
    placed = λ k i. subst (λ (xs : List ℕ). Placed k (level_in (change t f a) k) ds xs) (sym (ready-is t f a))
        (subst (λ (n : ℕ). Placed k n ds a.ready) (sym (same-level k (fe k i))) (h.placed k (fe k i)));
  }
    where
      each : (k : ℕ) (P : Task → Type 0) → (t ≡ k → P (f (record_in a t))) → P (record_in a k) → P (record_in (change t f a) k)
      each k P y n = ⊎_elim
          (λ (e : eqb t k ≡ true). let q = eqb-true t k e in subst (λ (j : ℕ). P (record_in (change t f a) j)) q (subst P (sym (record_same t f a l)) (y q)))
          (λ (e : eqb t k ≡ false). subst P (sym (record_other t k f a e)) n) (cases_Bool (eqb t k))

      ff : (k : ℕ) → has k (change t f a).free ≡ true → has k a.free ≡ true
      ff k i = subst (λ (xs : List ℕ). has k xs ≡ true) (free-is t f a) i

      fe : (k : ℕ) → has k (change t f a).ready ≡ true → has k a.ready ≡ true
      fe k i = subst (λ (xs : List ℕ). has k xs ≡ true) (ready-is t f a) i

      fs : (k : ℕ) → has k (change t f a).suspended ≡ true → has k a.suspended ≡ true
      fs k i = subst (λ (xs : List ℕ). has k xs ≡ true) (suspended-is t f a) i

      fu : {k : ℕ} → (change t f a).running ≡ Some k → a.running ≡ Some k
      fu i = sym (running-is t f a) ∙ i

      same-level : (k : ℕ) → has k a.ready ≡ true → level_in (change t f a) k ≡ level_in a k
      same-level k i = ⊎_elim
          (λ (e : eqb t k ≡ true). let q = eqb-true t k e in subst (λ (j : ℕ). level_in (change t f a) j ≡ level_in a j) q (level-same t f a l (re (subst (λ (j : ℕ). has j a.ready ≡ true) (sym q) i)).1))
          (λ (e : eqb t k ≡ false). level-other t k f a e) (cases_Bool (eqb t k))

  -- a record that stands nowhere in the table may be changed in any way
  pub tidy-away : (t : ℕ) (f : Task → Task) (a : Table) → t < length a.tasks → in_table t a ≡ 0 → Tidy ds a → Tidy ds (change t f a)
  tidy-away t f a l z h = let n = nowhere t a z in
      tidy-change t f a l (λ i. absurd (false≢true (sym n.free ∙ i))) (λ e. absurd (n.running e)) (λ i. absurd (false≢true (sym n.ready ∙ i))) (λ i. absurd (false≢true (sym n.suspended ∙ i))) h

  pub tidy-release : (t : ℕ) (a : Table) → in_table t a ≡ 0 → Tidy ds a → Tidy (ds ++ (releasing t).tells a) (release t a)
  unfolding release
  tidy-release t a z h = ⊎_elim
      (λ (m : (record_in a t).mark ≡ true). subst (λ (b : Bool). Tidy (ds ++ cond b [] ((linking t).tells a)) (cond b (suspend t a) (link t a))) (sym m) (tidy_nil (tidy-suspend t a z m h)))
      (λ (m : (record_in a t).mark ≡ false). subst (λ (b : Bool). Tidy (ds ++ cond b [] ((linking t).tells a)) (cond b (suspend t a) (link t a))) (sym m) (tidy-link t a z m h))
      (cases_Bool (record_in a t).mark)

-- many are released, each of which stands nowhere in the table
pub tidy-release_all : (ds : List Deed) (ts : List ℕ) (a : Table) → ((k : ℕ) → count k ts + in_table k a ≤ 1) → Tidy ds a → Tidy (ds ++ releases_tell ts a) (release_all ts a)
tidy-release_all ds [] a o h = tidy_nil h
tidy-release_all ds (t ∷ ts) a o h =
    let z : in_table t a ≡ 0 = (let c = o t in let e = one_same t in omega arith) in
    tidy-then ds ((releasing t).tells a) (releases_tell ts (release t a))
    (tidy-release_all (ds ++ (releasing t).tells a) ts (release t a) (λ k. let c = o k in omega (arith, in_release k t a)) (tidy-release t a z h))

pub tidy-hand : (ds : List Deed) (m t : ℕ) (a : Table) → t < length a.tasks → in_table t a ≡ 0 → Tidy ds a → Tidy (ds ++ (handing m t).tells a) (hand m t a)
unfolding hand
tidy-hand ds m t a l z h = tidy-release t (change t (with_word m) a) (in_change t t (with_word m) a ∙ z) (tidy-away t (with_word m) a l z h)

size-hand : (m t : ℕ) (a : Table) → length (hand m t a).tasks ≡ length a.tasks
unfolding hand
size-hand m t a = ap length (tasks-release t (change t (with_word m) a)) ∙ size-change t (with_word m) a

pub tidy-hand_all : (ds : List Deed) (m : ℕ) (ts : List ℕ) (a : Table) → ((k : ℕ) → 1 ≤ count k ts → k < length a.tasks) → ((k : ℕ) → count k ts + in_table k a ≤ 1) → Tidy ds a → Tidy (ds ++ hands_tell m ts a) (hand_all m ts a)
tidy-hand_all ds m [] a l o h = tidy_nil h
tidy-hand_all ds m (t ∷ ts) a l o h =
    let e = one_same t in
    let z : in_table t a ≡ 0 = (let c = o t in omega arith) in
    tidy-then ds ((handing m t).tells a) (hands_tell m ts (hand m t a))
    (tidy-hand_all (ds ++ (handing m t).tells a) m ts (hand m t a) (λ k i. subst (λ (n : ℕ). k < n) (sym (size-hand m t a)) (l k (omega arith)))
    (λ k. let c = o k in omega (arith, in_hand k m t a)) (tidy-hand ds m t a (l t (omega arith)) z h))

pub size-hand_all : (m : ℕ) (ts : List ℕ) (a : Table) → length (hand_all m ts a).tasks ≡ length a.tasks
size-hand_all m [] a = refl
size-hand_all m (t ∷ ts) a = size-hand_all m ts (hand m t a) ∙ size-hand m t a

-- the first of a sorted chain is foremost
foremost-first : (s : State) (xs : List ℕ) → sorted (level_of s) xs ≡ true → s.table.ready ≡ rest xs → Foremost s (first xs)
foremost-first s [] h e = e
foremost-first s (x ∷ xs) h e = λ t i. none_above_has (level_of s) x t xs (grind (arith, nat_tests)) (subst (λ (ys : List ℕ). has t ys ≡ true) e i)

-- a choosing, and a turn: the table stays tidy, and the running task ranks first
pub record Chosen (ds : List Deed) (b : Table) : Type 0 where
  pub tidy : Tidy ds b
  pub fore : (s : State) → Foremost (with_table b s) b.running

pub chosen : (ds : List Deed) (a : Table) → a.running ≡ None → Tidy ds a → Chosen (ds ++ chose ∷ []) (choose a)
unfolding choose
chosen ds a e h = record { tidy = tidy-choose a e h; fore = λ s. foremost-first (with_table (choose a) s) a.ready h.sorted refl }

link_stops : (t : ℕ) (a : Table) → (link t (stop a)).running ≡ None
unfolding link stop
link_stops t a = refl

pub turned : (ds : List Deed) (a : Table) → Tidy ds a → Chosen (ds ++ turning.tells a) (turn a)
unfolding turn
turned ds a h = go a.running refl
  where
    go : (o : Option ℕ) → a.running ≡ o → Chosen (ds ++ (back_tells o a ++ chose ∷ [])) (choose (link_running o a))
    go None e = chosen ds a e h
    go (Some t) e =
        let z : in_table t (stop a) ≡ 0 = (let c = in_stopped t a t e in let o = h.once t in let i = one_same t in omega arith) in
        let c = chosen (ds ++ (linking t).tells (stop a)) (link t (stop a)) (link_stops t a) (tidy-link t (stop a) z (stop-mark t a (h.marks.running t e)) (tidy-stop a h)) in
        record { tidy = tidy-then ds ((linking t).tells (stop a)) (chose ∷ []) c.tidy; fore = c.fore }
