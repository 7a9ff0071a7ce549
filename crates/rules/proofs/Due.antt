-- The waits that are due stand in front: what a walk from the head of the clock waits needs to know.
use Rattle.std.proofs.Common.{◌≡◌, ℕ, ◌<◌, ◌≤◌, true, false, leb, List, [], ◌∷◌, refl, ap, ◌∙◌, arith}
use Rattle.std.proofs.lemmas.Bool.{and_parts, cond-false, cond-true, le-leb, leb-true, lt-leb}
use Rattle.chain.specs.Lists.{none_above, sorted}
use Rattle.rules.specs.State.{ClockWait}
use Rattle.rules.specs.Clock.{due_at, later_than}

-- the first is due: it is the first that is due
pub first-due : (now : ℕ) (w : ClockWait) (ws : List ClockWait) → w.due ≤ now → (due_at now (w ∷ ws) ≡ w ∷ due_at now ws) × (later_than now (w ∷ ws) ≡ later_than now ws)
first-due now w ws l = let b = le-leb w.due now l in (cond-true (leb w.due now) _ _ b, cond-true (leb w.due now) _ _ b)

none-behind : (now : ℕ) (w : ClockWait) (ws : List ClockWait) → now < w.due → none_above (λ v. v.due) w ws ≡ true → (due_at now ws ≡ []) × (later_than now ws ≡ ws)
none-behind now w [] l n = (refl, refl)
none-behind now w (v ∷ vs) l n =
    let p = and_parts (leb w.due v.due) (none_above (λ v. v.due) w vs) n in
    let r = none-behind now w vs l p.1 in
    let le = leb-true w.due v.due p.0 in
    let b : leb v.due now ≡ false = lt-leb v.due now (omega arith) in
    (cond-false (leb v.due now) _ _ b ∙ r.0, cond-false (leb v.due now) _ _ b ∙ ap (λ (l : List ClockWait). v ∷ l) r.1)

-- the first of a sorted chain is not due: none is
pub none-due : (now : ℕ) (w : ClockWait) (ws : List ClockWait) → sorted (λ v. v.due) (w ∷ ws) ≡ true → now < w.due → (due_at now (w ∷ ws) ≡ []) × (later_than now (w ∷ ws) ≡ w ∷ ws)
none-due now w ws s l =
    let r = none-behind now w ws l (and_parts (none_above (λ v. v.due) w ws) (sorted (λ v. v.due) ws) s).0 in
    let b : leb w.due now ≡ false = lt-leb w.due now l in
    (cond-false (leb w.due now) _ _ b ∙ r.0, cond-false (leb w.due now) _ _ b ∙ ap (λ (l : List ClockWait). w ∷ l) r.1)
