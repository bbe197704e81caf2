-- Requests that bytes hold, and bytes that are one request.
use Rattle.std.specs.Prelude.{◌≡◌, ◌<◌, ℕ, List, [], ◌∷◌, ◌++◌, Bool, true, false, Option, None, Some}
use Rattle.std.specs.List.{filter_map}
use Rattle.gw_frames.specs.model.Requests.{Request, Step, an_ask, a_continue, a_refusal, an_end, a_break, a_head, Asks}
use Rattle.gw_frames.specs.Inlets.{StandsFor, steps_left}
use Rattle.gw_frames.specs.declared.inlet.Inlet.{Inlet}

-- The request of a step, if the step gives one.
abbrev pub asked : Step → Option Request
asked (an_ask q) = Some q
asked a_continue = None
asked (a_refusal code) = None
asked an_end = None
asked a_break = None

-- The first bytes of a connection hold these requests.
abbrev pub Holds : List ℕ → List Request → Type 0
Holds bytes requests = (steps : List Step) × Asks a_head 0 bytes false steps × (filter_map asked steps ≡ requests)

-- The bytes are one whole request: they hold it alone, and without the last of them they hold none.
pub record IsRequest (bytes : List ℕ) (q : Request) : Type 0 where
  pub front : List ℕ
  pub last : ℕ
  pub cut : bytes ≡ front ++ last ∷ []
  pub early : Holds front []
  pub whole : Holds bytes (q ∷ [])

-- The request that the bytes are, or none where they aren't one.
abbrev pub IsRequestOf : List ℕ → Option Request → Type 0
IsRequestOf bytes (Some q) = IsRequest bytes q
IsRequestOf bytes None = (q : Request) → IsRequest bytes q → ⊥

-- An inlet stands for the bytes, and gave these requests so far.
unfoldable pub Gave : Inlet → List ℕ → List Request → Type 0
Gave i bytes requests = (steps : List Step) × StandsFor i bytes steps × (filter_map asked steps ≡ requests)

-- A step more of an inlet that stands for the bytes: further requests may come, of which fewer are left, or these are all that the bytes hold.
abbrev pub Took : Bool → Inlet → Inlet → List Request → List Request → Type 0
Took true i j requests requests' = (bytes : List ℕ) → Gave i bytes requests → Gave j bytes requests' × (steps_left j < steps_left i)
Took false i j requests requests' = (bytes : List ℕ) → Gave i bytes requests → Holds bytes requests'
