-- Laws of chains in the words of the subject, above the definitions of join, without and the first.
-- In each, `before` is a chain's list before an operation and `after` its list then.
use Rattle.std.specs.Prelude.{◌≡◌, ℕ, ◌+◌, ◌<◌, ◌≤◌, true, false, ◌≢◌, List, Some, Option}
use Rattle.chain.specs.Lists.{ahead, count, has, one, sorted, without}

-- a chain that is sorted by rank stays so
abbrev pub KeepsSorted : (ℕ → ℕ) → List ℕ → List ℕ → Type 0
KeepsSorted rank before after = sorted rank before ≡ true → sorted rank after ≡ true

-- x stands behind all of equal or higher rank; so among equals the one linked first is first
abbrev pub BehindEquals : (ℕ → ℕ) → ℕ → List ℕ → List ℕ → Type 0
BehindEquals rank x before after = sorted rank before ≡ true → (y : ℕ) → has y before ≡ true → rank y ≤ rank x → ahead y x after ≡ true

-- x stands ahead of all of lower rank
abbrev pub AheadOfLower : (ℕ → ℕ) → ℕ → List ℕ → List ℕ → Type 0
AheadOfLower rank x before after = (y : ℕ) → has y before ≡ true → rank x < rank y → ahead x y after ≡ true

-- all but x keep their order
abbrev pub OthersKeepOrder : ℕ → List ℕ → List ℕ → Type 0
OthersKeepOrder x before after = (y z : ℕ) → y ≢ x → z ≢ x → ahead y z after ≡ ahead y z before

-- all but x are there as often as before
abbrev pub OthersStay : ℕ → List ℕ → List ℕ → Type 0
OthersStay x before after = (k : ℕ) → k ≢ x → count k after ≡ count k before

-- no number of the chain ranks above the one taken
abbrev pub RanksHighest : (ℕ → ℕ) → Option ℕ → List ℕ → Type 0
RanksHighest rank taken before = sorted rank before ≡ true → (x y : ℕ) → taken ≡ Some x → has y before ≡ true → rank x ≤ rank y

-- what linking x, which was not there, gives
pub record Linked (rank : ℕ → ℕ) (x : ℕ) (before after : List ℕ) : Type 0 where
  pub sorted : KeepsSorted rank before after
  pub equals : BehindEquals rank x before after
  pub lower : AheadOfLower rank x before after
  pub order : OthersKeepOrder x before after
  -- taking x out again gives the former chain
  pub undone : without x after ≡ before
  pub counts : (k : ℕ) → count k after ≡ one k x + count k before

-- what taking x out gives
pub record TakenOut (x : ℕ) (before after : List ℕ) : Type 0 where
  pub sorted : (rank : ℕ → ℕ) → KeepsSorted rank before after
  pub order : OthersKeepOrder x before after
  pub others : OthersStay x before after
  pub gone : has x after ≡ false

-- what taking the first gives
pub record Chosen (taken : Option ℕ) (before after : List ℕ) : Type 0 where
  pub highest : (rank : ℕ → ℕ) → RanksHighest rank taken before
  pub out : (x : ℕ) → taken ≡ Some x → TakenOut x before after
