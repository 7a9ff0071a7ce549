-- A first word has at most one call, the one that its kind and sub-kind make likely.
use Rattle.std.proofs.Common.{Bool, ◌==◌, ◌≢◌, ◌≤◌, ◌<◌, MatchOption, ◌≡◌, ℕ, ◌+◌, ◌*◌, ◌/◌, ◌%◌, true, false, List, [], ◌∷◌, length, Some, None, Option, refl, ap, arith}
use Rattle.std.specs.Bool.{then_some}
use Rattle.std.proofs.lemmas.Bool.Decides.{nat_tests}
use Rattle.calls.specs.declared.call.ByIdCall.TheVariants as order
use Rattle.calls.specs.declared.call.Call.{Call}
use Rattle.calls.specs.declared.call.Call.TheVariants.{ById, Send, Delay, Transfer, Look}
use Rattle.calls.specs.declared.call.LookedAt.TheVariants as field
use Rattle.calls.specs.declared.call.Transfer.TheVariants as moves
use Rattle.words.specs.Format.{first_word, length_in}
use Rattle.words.specs.Heads.{bare, likely, likely_of, word_bytes}
use Rattle.words.specs.Kinds.{numbered_kind}

-- what is likely by the bytes of a word
abbrev likely_by : List ℕ → Option (Call ℕ)
likely_by [] = None
likely_by (a ∷ []) = None
likely_by (a ∷ b ∷ []) = None
likely_by (a ∷ b ∷ c ∷ []) = None
likely_by (a ∷ b ∷ c ∷ d ∷ rest) = likely (numbered_kind (a / 16)) (a % 16) b c d

number_parts : (n : ℕ) → n / 256 * 256 + n % 256 ≡ n
number_parts n = omega arith

-- a call is likely by its first word
is-likely : (c : Call ℕ) → likely_by (first_word c) ≡ Some (bare c)
is-likely (Send cell message true) = ap (λ n. Some (Send cell n true)) (number_parts message)
is-likely (Send cell message false) = ap (λ n. Some (Send cell n false)) (number_parts message)
is-likely (Delay ticks) = ap (λ n. Some (Delay n)) (number_parts ticks)
is-likely (ById id order.Kill) = refl
is-likely (Transfer unit (moves.Write size)) = refl
is-likely (Look field.Message) = refl
is-likely c = refl

-- calls with the same first word differ at most in what data words tell
pub same_head : (c d : Call ℕ) → first_word c ≡ first_word d → bare c ≡ bare d
same_head c d e = let p = is-likely c in let q = is-likely d in let r = ap likely_by e in cc

-- what a first word tells of a call, whether or not its data words are known
pub about_head : (c : Call ℕ) → (length (first_word c) ≡ 4) × (first_word (bare c) ≡ first_word c) × (length_in (bare c) ≡ length_in c)
about_head (Transfer unit (moves.Write size)) = (refl, refl, refl)
about_head c = (refl, refl, refl)

-- numbers with the same bytes are the same
pub bytes_same : (v w : ℕ) → v < 4294967296 → w < 4294967296 → word_bytes v ≡ word_bytes w → v ≡ w
bytes_same v w hv hw e =
    let a : v / 16777216 ≡ w / 16777216 = cc in
    let b : v / 65536 % 256 ≡ w / 65536 % 256 = cc in
    let c : v / 256 % 256 ≡ w / 256 % 256 = cc in
    let d : v % 256 ≡ w % 256 = cc in
    omega arith

-- the likely call is the one whose first word the word is, or there is none
pub decided : (w v : ℕ) (l : Call ℕ) → likely_of w ≡ Some l → word_bytes v ≡ first_word l → v < 4294967296 → w < 4294967296 → (length_in l ≤ 255) × (l ≡ bare l) → (b : Bool) → b ≡ (v == w)
    → MatchOption (then_some b l) ((c : Call ℕ) → first_word c ≢ word_bytes w) (λ c. (first_word c ≡ word_bytes w) × (length_in c ≤ 255) × (c ≡ bare c))
decided w v l is first hv hw fits true e = let same : v ≡ w = grind (arith, nat_tests) in ((cc), fits.0, fits.1)
decided w v l is first hv hw fits false e = λ c f.
    let p = is-likely c in
    let q : w / 268435456 ≡ w / 16777216 / 16 = omega arith in
    let same : l ≡ bare c = cc (ap likely_by f) in
    let h = (about_head c).1 in
    let v-is-w = bytes_same v w hv hw (cc) in
    let z : ◌≡◌ {A = ℕ} 0 1 = grind (arith, nat_tests) in
    absurd (omega arith)
