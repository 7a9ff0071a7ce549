-- The waiting tasks of a chain, through everything that is done to a line.
use Rattle.std.proofs.Common.{◌≡◌, ℕ, ◌+◌, ◌<◌, ◌≤◌, true, false, ◌≢◌, List, [], ◌∷◌, map, length, get_or, set, ◌==◌, Some, None, Option, sym, refl, ap, ◌∙◌, subst, arith, get_or-set_other, get_or-set_same}
use Rattle.std.specs.List.{find}
use Rattle.std.proofs.lemmas.List.{get_or-map}
use Rattle.std.proofs.lemmas.Bool.Decides.{nat_tests}
use Rattle.chain.specs.declared.Links.{Links}
use Rattle.chain.specs.Lists.{count, first, has, join, one, rank_in, rest, without}
use Rattle.chain.specs.Chains.{Ends, chain, nexts, records}
use Rattle.chain.proofs.Leads.{at-end, chain-cons, chain-few, chain-once}
use Rattle.chain.proofs.Members.{once}
use Rattle.chain.proofs.Orders.{join-map}
use Rattle.chain.proofs.Tables.{as_many}
use Rattle.chain.proofs.Writes.{on-within}
use Rattle.line.specs.declared.Waiting.{Waiting}
use Rattle.line.specs.declared.Line.{Line}
use Rattle.line.specs.View.{room, tasks}
use Rattle.line.specs.Waits.{on_first, tasks_with, wait_in, waiting, waits, without_first_with, without_task}

-- the first of a chain does not stand behind itself
next_fresh : (ns : List (Option ℕ)) (h : Option ℕ) (t : ℕ) → h ≡ Some t → Ends ns h → has t (chain ns (get_or ns t None)) ≡ false
next_fresh ns h t is ends =
    let c = chain-cons ns h t is ends (get_or ns t None) refl in
    let o : once (t ∷ chain ns (get_or ns t None)) ≡ true = subst (λ xs. once xs ≡ true) c (chain-once ns h ends) in grind (arith, nat_tests)

module _ {R : Type 0} (none : R) where
  -- ── lists of numbers with their records ──

  tasks_in : (rs : List R) (xs : List ℕ) → map (λ w. w.task) (map (wait_in none rs) xs) ≡ xs
  tasks_in rs [] = refl
  tasks_in rs (x ∷ xs) = ap (λ l. x ∷ l) (tasks_in rs xs)

  -- a record that is written leaves those of the others
  same-waits : (rs ms : List R) (t : ℕ) (x : R) (xs : List ℕ) → ms ≡ set rs t x → has t xs ≡ false → map (wait_in none ms) xs ≡ map (wait_in none rs) xs
  same-waits rs ms t x [] is off = refl
  same-waits rs ms t x (y ∷ ys) is off =
      let ne : y ≢ t = λ e. grind (arith, nat_tests) in
      let o : get_or ms y none ≡ get_or rs y none = ap (λ l. get_or l y none) is ∙ get_or-set_other rs t y x none ne in
      let r = same-waits rs ms t x ys is (grind (arith, nat_tests)) in cc

  without_in : (rs : List R) (t : ℕ) (xs : List ℕ) → map (wait_in none rs) (without t xs) ≡ without_task t (map (wait_in none rs) xs)
  without_in rs t [] = refl
  without_in rs t (x ∷ xs) = let r = without_in rs t xs in grind (arith, nat_tests)

  module _ (key : R → ℕ) (k : ℕ) where
    key_first : (rs : List R) (t : ℕ) (xs : List ℕ) → first (tasks_with key k (map (wait_in none rs) xs)) ≡ Some t → key (get_or rs t none) ≡ k
    key_first rs t [] f = grind (arith, nat_tests)
    key_first rs t (x ∷ xs) f =
        let r = key_first rs t xs in
        let here : Some x ≡ Some t → key (get_or rs x none) ≡ key (get_or rs t none) = λ e. cc in grind (arith, nat_tests)

    out_first : (rs : List R) (t : ℕ) (xs : List ℕ) → first (tasks_with key k (map (wait_in none rs) xs)) ≡ Some t
        → without_task t (map (wait_in none rs) xs) ≡ without_first_with key k (map (wait_in none rs) xs)
    out_first rs t [] f = refl
    out_first rs t (x ∷ xs) f =
        let r = out_first rs t xs in
        let at = key_first rs t xs in
        let here : Some x ≡ Some t → x ≡ t = λ e. cc in
        let same : x ≡ t → key (get_or rs x none) ≡ key (get_or rs t none) = λ e. cc in grind (arith, nat_tests)

    pub out_none : (ws : List (Waiting R)) → None ≡ first (tasks_with key k ws) → ws ≡ without_first_with key k ws
    out_none [] f = refl
    out_none (w ∷ ws) f = let r = out_none ws in grind (arith, nat_tests)

  -- ── a table and a head ──

  module _ (a : Links R) (h : Option ℕ) where
    pub tasks-waits : map (λ w. w.task) (waits none a h) ≡ chain (nexts a) h
    unfolding waits
    tasks-waits = tasks_in (records a) (chain (nexts a) h)

    pub waits_end : h ≡ None → waits none a h ≡ []
    unfolding waits
    waits_end is = ap (map (wait_in none (records a))) (at-end (nexts a) h is)

    module _ (t : ℕ) (is : h ≡ Some t) (ends : Ends (nexts a) h) where
      pub waits-cons : (n : Option ℕ) → n ≡ get_or (nexts a) t None → waits none a h ≡ wait_in none (records a) t ∷ waits none a n
      unfolding waits
      waits-cons n next = ap (map (wait_in none (records a))) (chain-cons (nexts a) h t is ends n next)

      pub waits-first : (x : R) → ((d : R) → x ≡ get_or (records a) t d) → Some (waiting t x) ≡ first (waits none a h)
      waits-first x read = ap (λ v. Some (waiting t v)) (read none) ∙ sym (ap first (waits-cons (get_or (nexts a) t None) refl))

    pub waits-rest : (g : Option ℕ) → chain (nexts a) g ≡ rest (chain (nexts a) h) → waits none a g ≡ rest (waits none a h)
    unfolding waits
    waits-rest g is = ap (map (wait_in none (records a))) is ∙ map-rest (chain (nexts a) h)
      where
        map-rest : (xs : List ℕ) → map (wait_in none (records a)) (rest xs) ≡ rest (map (wait_in none (records a)) xs)
        map-rest [] = refl
        map-rest (x ∷ xs) = refl

    -- a task is taken out
    module _ (b : Links R) (g : Option ℕ) (t : ℕ) (same : records b ≡ records a) where
      pub waits-without : chain (nexts b) g ≡ without t (chain (nexts a) h) → waits none b g ≡ without_task t (waits none a h)
      unfolding waits
      waits-without is = ap (λ rs. map (wait_in none rs) (chain (nexts b) g)) same ∙ ap (map (wait_in none (records a))) is ∙ without_in (records a) t (chain (nexts a) h)

    pub waits-out : (key : R → ℕ) (k t : ℕ) → Some t ≡ first (tasks_with key k (waits none a h)) → without_task t (waits none a h) ≡ without_first_with key k (waits none a h)
    unfolding waits
    waits-out key k t f = out_first key k (records a) t (chain (nexts a) h) (sym f)

    -- task t gets the record x
    module _ (b : Links R) (t : ℕ) (x : R) (within : t < length (nexts a)) (next : nexts b ≡ nexts a) (recs : records b ≡ set (records a) t x) where
      here : get_or (records b) t none ≡ x
      here = ap (λ rs. get_or rs t none) recs ∙ get_or-set_same (records a) t x none (omega (arith, as_many a))

      others : (xs : List ℕ) → has t xs ≡ false → map (wait_in none (records b)) xs ≡ map (wait_in none (records a)) xs
      others xs off = same-waits (records a) (records b) t x xs recs off

      pub waits-join : (rank : R → ℕ) → Ends (nexts a) h → has t (chain (nexts a) h) ≡ false → (c : Links R) (g : Option ℕ) → records c ≡ records b
          → chain (nexts c) g ≡ join (rank_in rank (records b)) t (chain (nexts b) h)
          → waits none c g ≡ join (λ w. rank w.wait) (waiting t x) (waits none a h)
      unfolding waits
      waits-join rank ends off c g same is =
          let by : (k : ℕ) → has k (t ∷ chain (nexts b) h) ≡ true → rank_in rank (records b) k ≡ rank (wait_in none (records b) k).wait = λ k on.
          get_or-map rank (records b) k none 0
          (let l = as_many b in let n = ap length next in let e : has k (t ∷ chain (nexts a) h) ≡ true = subst (λ ns. has k (t ∷ chain ns h) ≡ true) next on in
          let w = on-within (nexts a) h k ends in grind (arith, nat_tests)) in
          ap (λ rs. map (wait_in none rs) (chain (nexts c) g)) same
          ∙ ap (map (wait_in none (records b))) is
          ∙ join-map (wait_in none (records b)) (rank_in rank (records b)) (λ w. rank w.wait) t (chain (nexts b) h) by
          ∙ ap (λ v. join (λ w. rank w.wait) (waiting t v) (map (wait_in none (records b)) (chain (nexts b) h))) here
          ∙ ap (λ ns. join (λ w. rank w.wait) (waiting t x) (map (wait_in none (records b)) (chain ns h))) next
          ∙ ap (join (λ w. rank w.wait) (waiting t x)) (others (chain (nexts a) h) off)

      pub waits_replace : h ≡ Some t → Ends (nexts a) h → waits none b h ≡ on_first x (waits none a h)
      unfolding waits
      waits_replace is ends =
          let n = get_or (nexts a) t None in
          let c = chain-cons (nexts a) h t is ends n refl in
          let off : has t (chain (nexts a) n) ≡ false = next_fresh (nexts a) h t is ends in
          ap (λ ns. map (wait_in none (records b)) (chain ns h)) next ∙ ap (map (wait_in none (records b))) c
          ∙ ap (λ v. waiting t v ∷ map (wait_in none (records b)) (chain (nexts a) n)) here
          ∙ ap (λ l. waiting t x ∷ l) (others (chain (nexts a) n) off)
          ∙ sym (ap (λ l. on_first x (map (wait_in none (records a)) l)) c)

  -- ── the walk for a key ──

  key_found : (rs : List R) (key : R → ℕ) (k : ℕ) (xs : List ℕ) → find (λ t. key (get_or rs t none) == k) xs ≡ first (tasks_with key k (map (wait_in none rs) xs))
  key_found rs key k [] = refl
  key_found rs key k (x ∷ xs) = let r = key_found rs key k xs in grind (arith, nat_tests)

  pub with-found : (a : Links R) (h : Option ℕ) (key : R → ℕ) (k : ℕ) → find (λ t. key (get_or (records a) t none) == k) (chain (nexts a) h) ≡ first (tasks_with key k (waits none a h))
  unfolding waits
  with-found a h key k = key_found (records a) key k (chain (nexts a) h)

-- ── for callers ──

-- a line is no longer than its room, and has no task past it
module _ {R : Type 0} (x : Line R) where
  pub line-few : length (tasks x) ≤ room x
  line-few = chain-few (nexts x.links) x.head x.ends

-- joining in other words, where these rank as the former do
pub join-words : {A B : Type 0} (word : A → B) (rank : B → ℕ) (x : A) (xs : List A) → map word (join (λ a. rank (word a)) x xs) ≡ join rank (word x) (map word xs)
join-words word rank x [] = refl
join-words word rank x (y ∷ ys) = let r = join-words word rank x ys in grind (arith, nat_tests)

-- how often a task is in a list that one more has joined
pub count-joined : {A : Type 0} (task rank : A → ℕ) (k : ℕ) (x : A) (xs : List A) → count k (map task (join rank x xs)) ≡ one k (task x) + count k (map task xs)
count-joined task rank k x [] = refl
count-joined task rank k x (y ∷ ys) = let r = count-joined task rank k x ys in grind (arith, nat_tests)
