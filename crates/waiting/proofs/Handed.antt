-- Tasks whose waits end one by one, each released into the table.
use Rattle.std.proofs.Common.{◌≡◌, ℕ, ◌+◌, List, length, Some, sym, ap, ◌∙◌, subst, arith}
use Rattle.std.specs.Option.{option_to_list}
use Rattle.std.proofs.lemmas.Bool.Decides.{nat_tests}
use Rattle.chain.specs.Lists.{count, one}
use Rattle.rules.proofs.Counts.{in_change, in_hand, in_release, one_same, size-change, tasks-release}
use Rattle.tasks.proofs.Places.{size-hand}
use Rattle.tasks.specs.Parts.{Unplaced}
use Rattle.cells.specs.Ended.{EndedOne}
use Rattle.rules.specs.State.{Cells, Table, Task}
use Rattle.rules.specs.Tables.{change, hand, hand_all, release}
use Rattle.rules.specs.Mail.{elsewhere, empty_cell, leave_first, put_word, tasks_at}
use Rattle.rules.specs.Records.{waiters}
use Rattle.rules.specs.Sound.{in_table}
use Rattle.tables.specs.Spread.{Spread}

-- One task, whose wait is over ------------------------------------------------------------------------------------------------

module _ (t : ℕ) (a : Table) (all others : List ℕ) where
  pub away : Spread a all → ((k : ℕ) → count k all ≡ count k (option_to_list (Some t)) + count k others) → Unplaced t a
  away s c = let p = s t in let q = c t in let o = one_same t in record { within = grind (arith, nat_tests); nowhere = grind (arith, nat_tests) }

  -- the others stay spread when it stands in the table
  placed : (b : Table) → Spread a all → ((k : ℕ) → count k all ≡ count k (option_to_list (Some t)) + count k others)
      → length b.tasks ≡ length a.tasks → ((k : ℕ) → in_table k b ≡ one k t + in_table k a) → Spread b others
  placed b s c n i k = let p = s k in let q = c k in let r = i k in grind (arith, nat_tests)

  pub spread-release : Spread a all → ((k : ℕ) → count k all ≡ count k (option_to_list (Some t)) + count k others) → Spread (release t a) others
  spread-release s c = placed (release t a) s c (ap length (tasks-release t a)) (λ k. in_release k t a)

  pub spread-hand : (m : ℕ) → Spread a all → ((k : ℕ) → count k all ≡ count k (option_to_list (Some t)) + count k others) → Spread (hand m t a) others
  spread-hand m s c = placed (hand m t a) s c (size-hand m t a) (λ k. in_hand k m t a)

-- a record changed, and a word put into a cell, leave all where they are
pub spread-still : (t : ℕ) (f : Task → Task) (a b : Table) (c m : ℕ) (x y : Cells) → b ≡ change t f a → y ≡ put_word c m x → Spread a (waiters x.waits) → Spread b (waiters y.waits)
spread-still t f a b c m x y to is s =
    subst (λ (d : Table). Spread d (waiters y.waits)) (sym to) (subst (λ (z : Cells). Spread (change t f a) (waiters z.waits)) (sym is)
    (λ k. let p = s k in let n = size-change t f a in let i = in_change k t f a in grind (arith, nat_tests)))

-- The receivers at a cell -----------------------------------------------------------------------------------------------------

-- what is left to do makes up what was to be done
pub record Handing (c m : ℕ) (a₀ : Table) (x₀ : Cells) (a : Table) (x : Cells) : Type 0 where
  pub spread : Spread a (waiters x.waits)
  pub table : hand_all m (tasks_at c x.waits) a ≡ hand_all m (tasks_at c x₀.waits) a₀
  pub cells : empty_cell c x ≡ empty_cell c x₀

module _ {c m : ℕ} {a₀ : Table} {x₀ : Cells} {a : Table} {x y : Cells} (h : Handing c m a₀ x₀ a x) (is : y ≡ leave_first c x) where
  pub handing-more : {t : ℕ} {b : Table} → EndedOne c (Some t) x.waits y.waits → b ≡ hand m t a → Handing c m a₀ x₀ b y
  handing-more {t = t} {b = b} e to = record {
    spread = subst (λ (d : Table). Spread d (waiters y.waits)) (sym to) (spread-hand t a (waiters x.waits) (waiters y.waits) m h.spread e.counts);
    table = ap (hand_all m (tasks_at c y.waits)) to ∙ sym (ap (λ ts. hand_all m ts a) e.here) ∙ h.table;
    cells = ap (empty_cell c) is ∙ ap (λ ws. record { words = x.words; waits = ws }) (sym (ap (λ (z : Cells). elsewhere c z.waits) is) ∙ e.others) ∙ h.cells;
  }
