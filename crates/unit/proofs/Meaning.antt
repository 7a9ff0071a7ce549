-- What a take comes to with room and without.
use Rattle.std.proofs.Common.{◌≡◌, ℕ, zero, suc, ◌-◌, ◌<◌, false, List, [], ◌∷◌, take, drop, is_err, Ok, refl, arith}
use Rattle.unit.specs.Medium.{told_at, told_of}

-- one byte fits where there is room
pub fits_one : (room b : ℕ) → 0 < room → take room (b ∷ []) ≡ b ∷ []
fits_one zero b h = absurd (omega arith)
fits_one (suc zero) b h = refl
fits_one (suc (suc room)) b h = refl

pub told-room : (room : ℕ) → 0 < room → told_at room ≡ Ok tt
told-room zero h = absurd (omega arith)
told-room (suc room) h = refl

-- who did not tell full has room
pub told-no-full : (room : ℕ) → is_err (told_at room) ≡ false → room ≡ suc (room - 1)
told-no-full zero e = absurd (let z : ◌≡◌ {A = ℕ} 0 1 = cc in omega arith)
told-no-full (suc room) e = omega arith

-- the byte told is the first to come
pub told-first : (coming : List ℕ) (b : ℕ) → told_of coming ≡ Ok b → coming ≡ b ∷ drop 1 coming
told-first [] b e = absurd (let z : ◌≡◌ {A = ℕ} 0 1 = cc in omega arith)
told-first (c ∷ coming) b e = cc
