-- All four units: who waits at any of them, and that their queues stay even.
use Rattle.std.proofs.Common.{◌≡◌, ℕ, zero, suc, ◌<◌, Bool, false, ◌||◌, List, [], ◌∷◌, ◌++◌, map, length, get_or, set, refl, sym, ap, ◌∙◌, arith, length-set}
use lib.ListN.{length-map}
use Rattle.std.proofs.Math.Seq.{map-set_same}
use Rattle.std.proofs.lemmas.Bool.Decides.{nat_tests}
use Rattle.chain.specs.Lists.{has}
use Rattle.rules.specs.Records.{all_askers, askers}
use Rattle.std.specs.List.{list_any}
use Rattle.queues.specs.declared.Queue.{Queue}
use Rattle.queues.specs.declared.number.UnitNumber.{UnitNumber}
use Rattle.queues.specs.declared.number.UnitNumber.TheVariants.{Unit0, Unit1, Unit2, Unit3}
use Rattle.queues.specs.declared.four.Queues.{Queues}
use Rattle.queues.specs.Even.{Even, rooms}
use Rattle.queues.specs.Four.{queues}
use Rattle.queues.specs.Number.{number_of}
use Rattle.queues.specs.View.{requests, room}

pub has-++ : (t : ℕ) (xs ys : List ℕ) → has t (xs ++ ys) ≡ (has t xs || has t ys)
has-++ t [] ys = refl
has-++ t (x ∷ xs) ys = let r = has-++ t xs ys in grind (arith, nat_tests)

-- a task waits at any unit if one of the queues has it
pub at_any : (t : ℕ) (at : List Queue) → list_any (λ q. has t (askers (requests q))) at ≡ has t (all_askers (map requests at))
at_any t [] = refl
at_any t (q ∷ qs) = ap (λ (r : Bool). has t (askers (requests q)) || r) (at_any t qs) ∙ sym (has-++ t (askers (requests q)) (all_askers (map requests qs)))

-- one that waits at none is in no queue
pub at_none : (t : ℕ) (at : List Queue) (i : ℕ) (q : Queue) → i < length at → q ≡ get_or at i q → has t (all_askers (map requests at)) ≡ false → has t (askers (requests q)) ≡ false
at_none t [] i q within is none = absurd (omega arith)
at_none t (x ∷ xs) zero q within is none = let e = has-++ t (askers (requests x)) (all_askers (map requests xs)) in rw is (grind (arith, nat_tests))
at_none t (x ∷ xs) (suc i) q within is none =
    let e = has-++ t (askers (requests x)) (all_askers (map requests xs)) in
    at_none t xs i q (omega arith) is (grind (arith, nat_tests))

-- there are four units
pub low : (unit : UnitNumber) → number_of unit < 4
low Unit0 = omega arith
low Unit1 = omega arith
low Unit2 = omega arith
low Unit3 = omega arith

-- so each unit has its queue
pub has_queue : (x : Queues) (unit : UnitNumber) → number_of unit < length (queues x)
has_queue x unit = let l = low unit in let n = length-map x.at requests in let four = x.even.four in omega arith

-- a queue that is put in the place of one with as much room leaves all even
pub even_still : (at : List Queue) (i : ℕ) (was is : Queue) → room is ≡ room (get_or at i was) → Even at → Even (set at i is)
even_still at i was is e h =
    let same : rooms (set at i is) ≡ rooms at = map-set_same room at i is was e in
    record { four = length-set at i is ∙ h.four; even = λ k low. rw same (h.even k low) }
