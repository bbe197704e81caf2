-- Lists of changes, as far as they were seen to come.
use Rattle.std.specs.Prelude.{◌≡◌, List, ◌++◌}
use Rattle.logbook.specs.Pages.{Book}

-- The second list begins with the first.
abbrev pub BeginsWith : {C : Type 0} → List C → List C → Type 0
BeginsWith {C} first list = (rest : List C) × (list ≡ first ++ rest)

-- A list as far as it was seen to come: its changes up to there, and which list it is.
pub record SoFar (C : Type 0) : Type 0 where
  pub list : List C
  pub book : Book
