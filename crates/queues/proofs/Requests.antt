-- A line of requests, in the words of the rules, through everything that is done to it.
use Rattle.std.proofs.Common.{◌≡◌, ℕ, ◌+◌, List, [], ◌∷◌, map, Some, None, Option, refl, ap, ◌∙◌, arith}
use Rattle.std.specs.Option.{option_map}
use Rattle.chain.specs.Lists.{first, join, rest}
use Rattle.line.specs.declared.Waiting.{Waiting}
use Rattle.line.specs.View as line
use Rattle.line.specs.Waits.{on_first}
use Rattle.line.proofs.Lines.{join-words, tasks-waits}
use Rattle.rules.specs.Records.{askers}
use Rattle.rules.specs.Transfers.{enqueue}
use Rattle.queues.specs.declared.UnitRequest.{UnitRequest}
use Rattle.queues.specs.declared.Queue.{Queue}
use Rattle.queues.specs.View.{advanced, as_request, as_requests, lined, requests}

askers_as : (ws : List (Waiting UnitRequest)) → askers (as_requests ws) ≡ map (λ w. w.task) ws
unfolding as_requests
askers_as [] = refl
askers_as (w ∷ ws) = ap (λ l. w.task ∷ l) (askers_as ws)

pub askers_are : (x : Queue) → askers (requests x) ≡ line.tasks x.line
askers_are x = askers_as (lined x) ∙ tasks-waits (record { size = 0; moved = 0 }) x.line.links x.line.head

module _ (ws vs : List (Waiting UnitRequest)) where
  pub requests-none : ws ≡ [] → as_requests ws ≡ []
  unfolding as_requests
  requests-none is = ap (map as_request) is

  pub requests-joined : (w : Waiting UnitRequest) → vs ≡ join (λ _. 0) w ws → as_requests vs ≡ enqueue (as_request w) (as_requests ws)
  unfolding as_requests
  requests-joined w is = ap (map as_request) is ∙ join-words as_request (λ _. 0) w ws

  pub requests-rest : vs ≡ rest ws → as_requests vs ≡ rest (as_requests ws)
  unfolding as_requests
  requests-rest is = ap (map as_request) is ∙ behind ws
    where
      behind : (ws : List (Waiting UnitRequest)) → map as_request (rest ws) ≡ rest (map as_request ws)
      behind [] = refl
      behind (w ∷ ws) = refl

  pub requests-first : (o : Option (Waiting UnitRequest)) → o ≡ first ws → option_map as_request o ≡ first (as_requests ws)
  unfolding as_requests
  requests-first o is = ap (option_map as_request) is ∙ ahead ws
    where
      ahead : (ws : List (Waiting UnitRequest)) → option_map as_request (first ws) ≡ first (map as_request ws)
      ahead [] = refl
      ahead (w ∷ ws) = refl

  pub requests-empty : None ≡ first ws → as_requests ws ≡ advanced (as_requests ws)
  unfolding as_requests
  requests-empty is = ahead ws is
    where
      ahead : (ws : List (Waiting UnitRequest)) → None ≡ first ws → map as_request ws ≡ advanced (map as_request ws)
      ahead [] f = refl
      ahead (w ∷ ws) f = let z : ◌≡◌ {A = ℕ} 0 1 = cc in absurd (omega arith)

  pub requests-advanced : (w : Waiting UnitRequest) → Some w ≡ first ws → vs ≡ on_first (record { size = w.wait.size; moved = w.wait.moved + 1 }) ws → as_requests vs ≡ advanced (as_requests ws)
  unfolding as_requests
  requests-advanced w f is = ap (map as_request) is ∙ ahead ws f
    where
      ahead : (ws : List (Waiting UnitRequest)) → Some w ≡ first ws → map as_request (on_first (record { size = w.wait.size; moved = w.wait.moved + 1 }) ws) ≡ advanced (map as_request ws)
      ahead [] f = let z : ◌≡◌ {A = ℕ} 0 1 = cc in absurd (omega arith)
      ahead (v ∷ vs) f = let same : w ≡ v = cc in ap (λ u. (record { task = v.task; size = u.wait.size; moved = u.wait.moved + 1 }) ∷ map as_request vs) same
