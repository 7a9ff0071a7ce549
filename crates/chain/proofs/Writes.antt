-- What a write to one link does to the chains, and so what the operations leave.
use Rattle.std.proofs.Common.{◌≡◌, ℕ, zero, suc, ◌-◌, ◌<◌, ◌≤◌, Bool, true, false, ◌==◌, nat_lt, ◌≢◌, List, [], ◌∷◌, length, get_or, set, Some, None, Option, sym, refl, ap, ◌∙◌, subst, arith, length-set, get_or-set_other, get_or-set_same}
use Rattle.std.proofs.lemmas.Bool.{eqb-true}
use Rattle.std.proofs.lemmas.Bool.Decides.{nat_tests}
use Rattle.chain.specs.Lists.{has, without, join, rising}
use Rattle.chain.specs.Chains.{chain, leads, last_before, Ends, Relinked}
use Rattle.chain.proofs.Members.{has-without, has_join, without-none}
use Rattle.chain.proofs.Leads.{chain-is, ends_from, parts, on}

-- a link that is not on a chain may lead anywhere
leads-set : (ns : List (Option ℕ)) (k : ℕ) (v h : Option ℕ) (xs : List ℕ) → has k xs ≡ false → leads ns h xs ≡ true → leads (set ns k v) h xs ≡ true
unfolding leads
leads-set ns k v None [] a c = refl
leads-set ns k v (Some y) [] a c = c
leads-set ns k v None (x ∷ xs) a c = c
leads-set ns k v (Some y) (x ∷ xs) a c =
    let r = leads-set ns k v (get_or ns x None) xs in
    let l = length-set ns k v in
    let o = get_or-set_other ns k x v None in grind (arith, nat_tests)

-- one write to a link that is touched
pub write : (ns : List (Option ℕ)) (k : ℕ) (v h : Option ℕ) (xs touched : List ℕ) → leads (set ns k v) h xs ≡ true → has k touched ≡ true → Relinked ns (set ns k v) h xs touched
write ns k v h xs touched c on =
    record {
      ends = ends_from (set ns k v) h xs c;
      list = chain-is (set ns k v) h xs c;
      others = λ g e apart.
          let kept = leads-set ns k v g (chain ns g) (let a = apart k in grind (arith, nat_tests)) e in
          (ends_from (set ns k v) g (chain ns g) kept, chain-is (set ns k v) g (chain ns g) kept);
      untouched = λ j off. get_or-set_other ns k j v None (λ same. let z = ap (λ i. has i touched) same in grind (arith, nat_tests));
      size = simp length-set;
    }

-- no write
pub stay : (ns : List (Option ℕ)) (h : Option ℕ) (xs touched : List ℕ) → leads ns h xs ≡ true → Relinked ns ns h xs touched
stay ns h xs touched c = record { ends = ends_from ns h xs c; list = chain-is ns h xs c; others = λ g e apart. (e, refl); untouched = λ k off. refl; size = refl }

-- one change after another
pub then : (ns ms ls : List (Option ℕ)) (g h : Option ℕ) (ys xs less touched : List ℕ) → ((k : ℕ) → has k touched ≡ false → has k less ≡ false)
    → Relinked ns ms g ys less → Relinked ms ls h xs touched → Relinked ns ls h xs touched
then ns ms ls g h ys xs less touched sub a b =
    record {
      ends = b.ends;
      list = b.list;
      others = λ f e apart.
          let p = a.others f e (λ k on. sub k (apart k on)) in
          let q = b.others f p.0 (λ k on. apart k (sym (ap (has k) p.1) ∙ on)) in
          (q.0, q.1 ∙ p.1);
      untouched = λ k off. b.untouched k off ∙ a.untouched k (sub k off);
      size = b.size ∙ a.size;
    }

-- ── the last number before a stop ──

module _ (stop : ℕ → Bool) where
  last_some : (q : ℕ) (xs : List ℕ) → last_before stop (Some q) xs ≡ None → ⊥
  last_some q [] h = let z : ◌≡◌ {A = ℕ} 0 1 = cc in omega arith
  last_some q (x ∷ xs) h = let r = last_some x xs in grind (arith, nat_tests)

  last_has : (p q : ℕ) (xs : List ℕ) → last_before stop (Some q) xs ≡ Some p → has p (q ∷ xs) ≡ true
  last_has p q [] h = let same : q ≡ p = cc in grind (arith, nat_tests)
  last_has p q (x ∷ xs) h = let r = last_has p x xs in grind (arith, nat_tests)

-- ── number i straight behind number p ──

abbrev linked : List (Option ℕ) → ℕ → ℕ → List (Option ℕ)
linked ns p i = set (set ns i (get_or ns p None)) p (Some i)

module _ (ns : List (Option ℕ)) (rank : ℕ → ℕ) (i : ℕ) (within : i < length ns) where
  -- where i ranks above the first, or there is none, it goes to the head
  join_first : (xs : List ℕ) → last_before (λ k. nat_lt (rank i) (rank k)) None xs ≡ None → join rank i xs ≡ i ∷ xs
  join_first [] h = refl
  join_first (x ∷ xs) h = let r = last_some (λ k. nat_lt (rank i) (rank k)) x xs in grind (arith, nat_tests)

  here : (q : ℕ) (h : Option ℕ) (xs : List ℕ) → leads ns h (q ∷ xs) ≡ true → has i (q ∷ xs) ≡ false → leads (linked ns q i) h (q ∷ i ∷ xs) ≡ true
  here q h xs c a =
      let p = parts ns h q xs c in
      let n = get_or ns q None in
      let off : has i xs ≡ false = grind (arith, nat_tests) in
      let ne : i ≢ q = λ e. grind (arith, nat_tests) in
      let kept = leads-set (set ns i n) q (Some i) n xs p.2 (leads-set ns i n n xs off p.3) in
      on (linked ns q i) h q (i ∷ xs) (Some i) p.0 (simp length-set p.1) (let d = p.2 in grind (arith, nat_tests)) (get_or-set_same (set ns i n) q (Some i) None (simp length-set p.1))
      (on (linked ns q i) (Some i) i xs n refl (simp length-set within) off (get_or-set_other (set ns i n) q i (Some i) None ne ∙ get_or-set_same ns i n None within) kept)

  join-later : (p q : ℕ) (h : Option ℕ) (xs : List ℕ) → leads ns h (q ∷ xs) ≡ true → has i (q ∷ xs) ≡ false
      → last_before (λ k. nat_lt (rank i) (rank k)) (Some q) xs ≡ Some p → leads (linked ns p i) h (q ∷ join rank i xs) ≡ true
  join-later p q h [] c a at = subst (λ z. leads (linked ns z i) h (q ∷ i ∷ []) ≡ true) (let e = at in cc) (here q h [] c a)
  join-later p q h (x ∷ xs) c a at =
      let s = parts ns h q (x ∷ xs) c in
      let n = get_or ns p None in
      let stop = here q h (x ∷ xs) c a in
      let go : nat_lt (rank i) (rank x) ≡ false → leads (linked ns p i) h (q ∷ x ∷ join rank i xs) ≡ true = (λ f.
      let further : last_before (λ k. nat_lt (rank i) (rank k)) (Some x) xs ≡ Some p = grind (arith, nat_tests) in
      let d = s.2 in
      let j = has_join rank q i xs in
      let off : q ≢ p = (λ e. let m = last_has (λ k. nat_lt (rank i) (rank k)) p x xs further in grind (arith, nat_tests)) in
      let ne : q ≢ i = (λ e. grind (arith, nat_tests)) in
      on (linked ns p i) h q (x ∷ join rank i xs) (get_or ns q None) s.0 (simp length-set s.1) (grind (arith, nat_tests))
      (get_or-set_other (set ns i n) p q (Some i) None off ∙ get_or-set_other ns i q n None ne)
      (join-later p x (get_or ns q None) xs s.3 (grind (arith, nat_tests)) further)) in
      grind (arith, nat_tests)

  join-behind : (p : ℕ) (h : Option ℕ) (xs : List ℕ) → leads ns h xs ≡ true → has i xs ≡ false
      → last_before (λ k. nat_lt (rank i) (rank k)) None xs ≡ Some p → (leads (linked ns p i) h (join rank i xs) ≡ true) × (has p xs ≡ true)
  join-behind p h [] c a at = let z : ◌≡◌ {A = ℕ} 0 1 = cc in absurd (omega arith)
  join-behind p h (x ∷ xs) c a at =
      let further : last_before (λ k. nat_lt (rank i) (rank k)) (Some x) xs ≡ Some p = grind (arith, nat_tests) in
      let later = join-later p x h xs c a further in
      (grind (arith, nat_tests), last_has (λ k. nat_lt (rank i) (rank k)) p x xs further)

-- ── number i taken out ──

module _ (ns : List (Option ℕ)) (i : ℕ) where
  -- no number leads to i: it is the first
  out_first : (h : Option ℕ) (xs : List ℕ) → leads ns h xs ≡ true → has i xs ≡ true → last_before (λ k. k == i) None xs ≡ None → leads ns (get_or ns i None) (without i xs) ≡ true
  out_first h [] c m at = grind (arith, nat_tests)
  out_first h (x ∷ xs) c m at =
      let further = last_some (λ k. k == i) x xs in
      let same : x ≡ i = grind (arith, nat_tests) in
      let rest = subst (λ z. leads ns (get_or ns z None) xs ≡ true) same (parts ns h x xs c).3 in
      grind (arith, nat_tests)

  -- number p leads to i
  out-later : (p q : ℕ) (h : Option ℕ) (xs : List ℕ) → leads ns h (q ∷ xs) ≡ true → has i xs ≡ true
      → last_before (λ k. k == i) (Some q) xs ≡ Some p → leads (set ns p (get_or ns i None)) h (q ∷ without i xs) ≡ true
  out-later p q h [] c m at = grind (arith, nat_tests)
  out-later p q h (x ∷ xs) c m at =
      let s = parts ns h q (x ∷ xs) c in
      let v = get_or ns i None in
      let d = s.2 in
      let w = has-without q i xs in
      let stop : (x == i) ≡ true → leads (set ns q v) h (q ∷ xs) ≡ true = (λ e.
      let rest = subst (λ z. leads ns (get_or ns z None) xs ≡ true) (eqb-true x i e) (parts ns (get_or ns q None) x xs s.3).3 in
      on (set ns q v) h q xs v s.0 (simp length-set s.1) (grind (arith, nat_tests)) (get_or-set_same ns q v None s.1) (leads-set ns q v v xs (grind (arith, nat_tests)) rest)) in
      let go : (x == i) ≡ false → leads (set ns p v) h (q ∷ x ∷ without i xs) ≡ true = (λ e.
      let further : last_before (λ k. k == i) (Some x) xs ≡ Some p = grind (arith, nat_tests) in
      let off : q ≢ p = (λ f. let l = last_has (λ k. k == i) p x xs further in grind (arith, nat_tests)) in
      on (set ns p v) h q (x ∷ without i xs) (get_or ns q None) s.0 (simp length-set s.1) (grind (arith, nat_tests))
      (get_or-set_other ns p q v None off) (out-later p x (get_or ns q None) xs s.3 (grind (arith, nat_tests)) further)) in
      grind (arith, nat_tests)

  out-behind : (p : ℕ) (h : Option ℕ) (xs : List ℕ) → leads ns h xs ≡ true → has i xs ≡ true → last_before (λ k. k == i) None xs ≡ Some p
      → (leads (set ns p (get_or ns i None)) h (without i xs) ≡ true) × (has p xs ≡ true)
  out-behind p h [] c m at = grind (arith, nat_tests)
  out-behind p h (x ∷ xs) c m at =
      let further : last_before (λ k. k == i) (Some x) xs ≡ Some p = grind (arith, nat_tests) in
      let later = out-later p x h xs c in
      (grind (arith, nat_tests), last_has (λ k. k == i) p x xs further)

-- ── what the operations leave ──

has_within : (ns : List (Option ℕ)) (h : Option ℕ) (k : ℕ) (xs : List ℕ) → leads ns h xs ≡ true → has k xs ≡ true → k < length ns
has_within ns h k [] c m = grind (arith, nat_tests)
has_within ns h k (x ∷ xs) c m = let s = parts ns h x xs c in let r = has_within ns (get_or ns x None) k xs s.3 in let l = s.1 in grind (arith, nat_tests)

module _ (ns : List (Option ℕ)) (h : Option ℕ) (i : ℕ) (ends : Ends ns h) where
  pub on-within : has i (chain ns h) ≡ true → i < length ns
  on-within m = has_within ns h i (chain ns h) ends m

  module _ (within : i < length ns) (fresh : has i (chain ns h) ≡ false) where
    pub put_first : (ms : List (Option ℕ)) → ms ≡ set ns i h → Relinked ns ms (Some i) (i ∷ chain ns h) (i ∷ chain ns h)
    put_first ms is =
        subst (λ z. Relinked ns z (Some i) (i ∷ chain ns h) (i ∷ chain ns h)) (sym is)
        (write ns i h (Some i) (i ∷ chain ns h) (i ∷ chain ns h)
        (on (set ns i h) (Some i) i (chain ns h) h refl (simp length-set within) fresh (get_or-set_same ns i h None within) (leads-set ns i h h (chain ns h) fresh ends))
        (grind (arith, nat_tests)))

    module _ (rank : ℕ → ℕ) where
      pub joined-first : (ms : List (Option ℕ)) (g : Option ℕ) → None ≡ last_before (λ k. nat_lt (rank i) (rank k)) None (chain ns h)
          → Relinked ns ms g (i ∷ chain ns h) (i ∷ chain ns h) → Relinked ns ms g (join rank i (chain ns h)) (i ∷ chain ns h)
      joined-first ms g at u = subst (λ xs. Relinked ns ms g xs (i ∷ chain ns h)) (sym (join_first ns rank i within (chain ns h) (sym at))) u

      module _ (p : ℕ) (at : Some p ≡ last_before (λ k. nat_lt (rank i) (rank k)) None (chain ns h)) where
        pub behind-within : p < length ns
        behind-within = has_within ns h p (chain ns h) ends (join-behind ns rank i within p h (chain ns h) ends fresh (sym at)).1

        pub joined-behind : (ms : List (Option ℕ)) → ms ≡ linked ns p i → Relinked ns ms h (join rank i (chain ns h)) (i ∷ chain ns h)
        joined-behind ms is =
            let xs : List ℕ = chain ns h in
            let n = get_or ns p None in
            let j = join-behind ns rank i within p h xs ends fresh (sym at) in
            let m = j.1 in
            subst (λ z. Relinked ns z h (join rank i xs) (i ∷ xs)) (sym is)
            (then ns (set ns i n) (linked ns p i) h h xs (join rank i xs) (i ∷ xs) (i ∷ xs) (λ k off. off)
            (write ns i n h xs (i ∷ xs) (leads-set ns i n h xs fresh ends) (grind (arith, nat_tests)))
            (write (set ns i n) p (Some i) h (join rank i xs) (i ∷ xs) j.0 (grind (arith, nat_tests))))

  module _ (m : has i (chain ns h) ≡ true) (rest : Option ℕ) (next : rest ≡ get_or ns i None) where
    pub out_of_first : None ≡ last_before (λ k. k == i) None (chain ns h) → Relinked ns ns rest (without i (chain ns h)) (chain ns h)
    out_of_first at =
        subst (λ z. Relinked ns ns z (without i (chain ns h)) (chain ns h)) (sym next)
        (stay ns (get_or ns i None) (without i (chain ns h)) (chain ns h) (out_first ns i h (chain ns h) ends m (sym at)))

    module _ (p : ℕ) (at : Some p ≡ last_before (λ k. k == i) None (chain ns h)) where
      pub before-within : p < length ns
      before-within = has_within ns h p (chain ns h) ends (out-behind ns i p h (chain ns h) ends m (sym at)).1

      pub out_of_later : (ms : List (Option ℕ)) → ms ≡ set ns p rest → Relinked ns ms h (without i (chain ns h)) (chain ns h)
      out_of_later ms is =
          let out = out-behind ns i p h (chain ns h) ends m (sym at) in
          subst (λ z. Relinked ns z h (without i (chain ns h)) (chain ns h)) (sym (is ∙ ap (set ns p) next))
          (write ns p (get_or ns i None) h (without i (chain ns h)) (chain ns h) out.0 out.1)

  pub out_of_none : has i (chain ns h) ≡ false → Relinked ns ns h (without i (chain ns h)) (chain ns h)
  out_of_none m = subst (λ xs. Relinked ns ns h xs (chain ns h)) (sym (without-none i (chain ns h) m)) (stay ns h (chain ns h) (chain ns h) ends)

-- ── the numbers but the first, put at the head one by one from the last down ──

rising-below : (k a n : ℕ) → k < a → has k (rising a n) ≡ false
rising-below k a zero l = refl
rising-below k a (suc n) l = let r = rising-below k (suc a) n (omega arith) in grind (arith, nat_tests)

rising-more : (n j i : ℕ) → suc j ≡ i → i ≤ n → rising j (n - j) ≡ j ∷ rising i (n - i)
rising-more n j i e l = let m : n - j ≡ suc (n - i) = omega arith in ap (rising j) m ∙ ap (λ a. j ∷ rising a (n - i)) e

pub rising-fresh : (ms : List (Option ℕ)) (g : Option ℕ) (j i m : ℕ) → j < i → chain ms g ≡ rising i m → has j (chain ms g) ≡ false
rising-fresh ms g j i m l is = ap (has j) is ∙ rising-below j i m l

pub rising_none : (ns : List (Option ℕ)) (n : ℕ) → Relinked ns ns None (rising n (n - n)) (rising n (n - n))
unfolding leads
rising_none ns n = let z : n - n ≡ 0 = omega arith in subst (λ m. Relinked ns ns None (rising n m) (rising n m)) (sym z) (stay ns None [] [] refl)

pub rising-put : (ns ms ls : List (Option ℕ)) (g h : Option ℕ) (n j i : ℕ) → suc j ≡ i → i ≤ n → Relinked ns ms g (rising i (n - i)) (rising i (n - i))
    → Relinked ms ls h (j ∷ chain ms g) (j ∷ chain ms g) → Relinked ns ls h (rising j (n - j)) (rising j (n - j))
rising-put ns ms ls g h n j i e l a b =
    let is : j ∷ chain ms g ≡ rising j (n - j) = ap (λ xs. j ∷ xs) a.list ∙ sym (rising-more n j i e l) in
    then ns ms ls g h (rising i (n - i)) (rising j (n - j)) (rising i (n - i)) (rising j (n - j))
    (λ k off. let o = sym (ap (has k) (rising-more n j i e l)) ∙ off in grind (arith, nat_tests))
    a (subst (λ xs. Relinked ms ls h xs xs) is b)
