-- How a book's map is seen, and what it keeps.
use Rattle.std.specs.Prelude.{◌≡◌, ℕ, ◌≤◌, List, length, replicate, All}
use Rattle.std.specs.Vec.{vec_capacity}
use Rattle.gw_text.specs.model.Picks.{Choice as Plain, Shares}
use Rattle.gw_weight.specs.declared.choice.Choice.{Choice}
use Rattle.gw_weight.specs.declared.equal_choice.EqualChoice.{EqualChoice}

-- A stored choice as the contracts see it.
abbrev pub choice_of : Choice → Plain
choice_of c = record { name = record { namespace = c.namespace.items; name = c.name.items }; number = c.number; weights = c.weights.items }

-- A stored choice of so many weights of 1.
abbrev pub equal_choice_of : EqualChoice → Plain
equal_choice_of c = record { name = record { namespace = c.namespace.items; name = c.name.items }; number = c.number; weights = replicate c.count 1 }

-- An entry of a map as the contracts see it, by what its key stands for.
abbrev pub entry_of : {K : Type 0} → (K → Plain) → K × Shares → Plain × List ℕ
entry_of plain e = (plain e.0, e.1.drawn)

-- The choice that was asked for last has room for this one, so asking for this one takes no memory.
pub record HasRoomFor (asked : Choice) (c : Plain) : Type 0 where
  pub namespace : length c.name.namespace ≤ vec_capacity asked.namespace
  pub name : length c.name.name ≤ vec_capacity asked.name
  pub weights : length c.weights ≤ vec_capacity asked.weights

-- The same of a choice of equal weights, which are no list.
pub record HasRoomForKey (asked : EqualChoice) (c : Plain) : Type 0 where
  pub namespace : length c.name.namespace ≤ vec_capacity asked.namespace
  pub name : length c.name.name ≤ vec_capacity asked.name

-- Each entry counts by the weights of its choice, for which the asked choice has room.
abbrev pub IsBookOf : {K : Type 0} → (K → Plain) → (Plain → Type 0) → List (K × Shares) → Type 0
IsBookOf plain room entries = All (λ e. (e.1.weights ≡ (plain e.0).weights) × room (plain e.0)) entries
