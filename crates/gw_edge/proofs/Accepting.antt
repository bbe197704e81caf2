-- Links that an acceptor gives and closes.
use Rattle.std.proofs.Common.{◌≡◌, List, [], ◌∷◌, Option, None, Some, refl, IfSome}
use Rattle.gw_edge.specs.Accepting.{Closes, GivesNext, Told}
use Rattle.gw_link.specs.Pieces.{Keeps}

-- none was given where none is left
pub gives_none : (before after : Option (List Told)) → GivesNext before None after → IfSome before (λ links. links ≡ []) × Keeps before after
gives_none None after given = (tt, tt)
gives_none (Some []) after given = (refl, given.1)
gives_none (Some (link ∷ links)) after given = absurd (cc given.0)

-- the links to come stay as they were when a link was given
pub given_then : (before : Option (List Told)) (next : Option Told) (middle after : Option (List Told)) → GivesNext before next middle → Keeps middle after → GivesNext before next after
given_then None next middle after given kept = given
given_then (Some []) next middle after given kept = (given.0, rw given.1 at kept)
given_then (Some (link ∷ links)) next middle after given kept = (given.0, rw given.1 at kept)

-- a link stands behind those that were closed before it was given
pub closed_then : (before middle : Option (List Told)) (link : Told) (after : Option (List Told)) → Keeps before middle → Closes middle link after → Closes before link after
closed_then None middle link after kept closes = tt
closed_then (Some closed) middle link after kept closes = rw kept at closes
