-- Steps of a script: what is done, one step after another.
use Rattle.std.specs.Prelude.{ℕ, ◌<◌, List, ⊤}
use Rattle.gw_text.specs.model.Addresses.{Socket}
use Rattle.gw_link.specs.declared.order.UpstreamCall.{UpstreamCall}

-- A step: a watch event by its bytes; a publication; a connection of a name begins, of a worker and at a door by their
-- numbers; its client sends bytes, or has sent all; a backend at a socket answers a text and so many `x`, or fails in a call.
pub data Step : Type 0 where
  an_event : List ℕ → Step
  a_publication : Step
  a_beginning : List ℕ → ℕ → ℕ → Step
  a_sending : List ℕ → List ℕ → Step
  an_end : List ℕ → Step
  an_answer : Socket → List ℕ → ℕ → Step
  a_failure : Socket → UpstreamCall → Step

-- The worker and the door that a step names are there, among so many.
abbrev pub IsWithin : ℕ → ℕ → Step → Type 0
IsWithin workers doors (an_event bytes) = ⊤
IsWithin workers doors a_publication = ⊤
IsWithin workers doors (a_beginning name worker door) = (worker < workers) × (door < doors)
IsWithin workers doors (a_sending name bytes) = ⊤
IsWithin workers doors (an_end name) = ⊤
IsWithin workers doors (an_answer socket text fill) = ⊤
IsWithin workers doors (a_failure socket call) = ⊤
