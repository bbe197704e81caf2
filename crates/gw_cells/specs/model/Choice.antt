-- What is found first of several.
use Rattle.std.specs.Prelude.{List, [], ◌∷◌, Option, None}
use Rattle.std.specs.Option.{option_or}

-- What is found first, among places that are looked at one after another.
abbrev pub first_found : {P T : Type 0} → (P → Option T) → List P → Option T
first_found look [] = None
first_found look (p ∷ places) = option_or (look p) (first_found look places)
