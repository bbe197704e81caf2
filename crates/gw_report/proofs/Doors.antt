-- What is so of a door that is there.
use Rattle.std.proofs.Common.{◌≡◌, ◌∙◌, ◌<◌, ℕ, sym, ap, List, [], ◌∷◌, length, arith}
use Rattle.std.specs.Prelude.{get_or, slice_get}
use Rattle.std.specs.Option.{option_map_or}
use Rattle.std.proofs.lemmas.Option.{slice_get-get_or}
use Rattle.gw_text.specs.model.Doors.{Door}

-- a text of each reading of a list at a place is that of the door at the place
pub at_door : (doors : List Door) (at : ℕ) (f : Door → List ℕ) (text : List ℕ) → at < length doors → ((d : Door) → text ≡ f (get_or doors at d))
    → text ≡ option_map_or f (slice_get doors at) []
at_door [] at f text lt is = absurd (omega arith)
at_door (door ∷ doors) at f text lt is = is door ∙ sym (ap (λ found. option_map_or f found []) (slice_get-get_or (door ∷ doors) at door lt))

-- a door, which one doesn't matter
pub some_door : Door
some_door = record { gateway = record { namespace = []; name = [] }; port = 0; at = record { a = 0; b = 0; c = 0; d = 0; port = 0 } }
