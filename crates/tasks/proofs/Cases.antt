-- The rules' larger steps by their cases.
use Rattle.std.proofs.Common.{◌≡◌, ℕ, true, false, Some, None, Option, sym, ap, ◌∙◌}
use Rattle.std.proofs.lemmas.Bool.{cond-true, cond-false}
use Rattle.chain.specs.Lists.{has}
use Rattle.rules.specs.State.{Table, record_in, with_level, with_mark}
use Rattle.rules.specs.Tables.{change, choose, level_other, link, link_running, ready_other, release, stop, suspend, suspend_other, take_out, turn, unsuspend}

-- ── release and turn ──

module _ (a : Table) (t : ℕ) where
  pub release_marked : (record_in a t).mark ≡ true → suspend t a ≡ release t a
  unfolding release
  release_marked e = sym (cond-true (record_in a t).mark (suspend t a) (link t a) e)

  pub release-plain : (record_in a t).mark ≡ false → link t a ≡ release t a
  unfolding release
  release-plain e = sym (cond-false (record_in a t).mark (suspend t a) (link t a) e)

  pub turn-some : a.running ≡ Some t → choose (link t (stop a)) ≡ turn a
  unfolding turn
  turn-some e = sym (ap (λ (o : Option ℕ). choose (link_running o a)) e)

pub turn-none : (a : Table) → a.running ≡ None → choose a ≡ turn a
unfolding turn
turn-none a e = sym (ap (λ (o : Option ℕ). choose (link_running o a)) e)

-- ── what is done to another task, whose record is b's record already ──

module _ (a : Table) (k : ℕ) (b : Table) where
  module _ (is : b ≡ change k (with_mark true) a) where
    pub suspend-ready : has k b.ready ≡ true → suspend k (take_out k b) ≡ suspend_other k a
    unfolding suspend_other suspend change take_out
    suspend-ready on =
        ap (λ (z : Table). suspend k (take_out k z)) is
        ∙ sym (cond-true (has k a.ready) (suspend k (take_out k (change k (with_mark true) a))) (change k (with_mark true) a) (sym (ap (λ (z : Table). has k z.ready) is) ∙ on))

    pub suspend_else : has k b.ready ≡ false → b ≡ suspend_other k a
    unfolding suspend_other suspend change take_out
    suspend_else off =
        is ∙ sym (cond-false (has k a.ready) (suspend k (take_out k (change k (with_mark true) a))) (change k (with_mark true) a) (sym (ap (λ (z : Table). has k z.ready) is) ∙ off))

  module _ (is : b ≡ change k (with_mark false) a) where
    pub ready-suspended : has k b.suspended ≡ true → link k (unsuspend k b) ≡ ready_other k a
    unfolding ready_other link change unsuspend
    ready-suspended on =
        ap (λ (z : Table). link k (unsuspend k z)) is
        ∙ sym (cond-true (has k a.suspended) (link k (unsuspend k (change k (with_mark false) a))) (change k (with_mark false) a) (sym (ap (λ (z : Table). has k z.suspended) is) ∙ on))

    pub ready_else : has k b.suspended ≡ false → b ≡ ready_other k a
    unfolding ready_other link change unsuspend
    ready_else off =
        is ∙ sym (cond-false (has k a.suspended) (link k (unsuspend k (change k (with_mark false) a))) (change k (with_mark false) a) (sym (ap (λ (z : Table). has k z.suspended) is) ∙ off))

  module _ (l : ℕ) (is : b ≡ change k (with_level l) a) where
    pub level-ready : has k b.ready ≡ true → link k (take_out k b) ≡ level_other k l a
    unfolding level_other link change take_out
    level-ready on =
        ap (λ (z : Table). link k (take_out k z)) is
        ∙ sym (cond-true (has k a.ready) (link k (take_out k (change k (with_level l) a))) (change k (with_level l) a) (sym (ap (λ (z : Table). has k z.ready) is) ∙ on))

    pub level_else : has k b.ready ≡ false → b ≡ level_other k l a
    unfolding level_other link change take_out
    level_else off =
        is ∙ sym (cond-false (has k a.ready) (link k (take_out k (change k (with_level l) a))) (change k (with_level l) a) (sym (ap (λ (z : Table). has k z.ready) is) ∙ off))
