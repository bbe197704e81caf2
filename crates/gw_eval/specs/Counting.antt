-- How the entries of Routes are counted while the Routes are gone through one after the other: a row of numbers for each Gateway of
-- the world, a number for each of its listeners. The statuses themselves are defined without it.
use Rattle.std.specs.Prelude.{◌≡◌, ℕ, ◌+◌, ◌<◌, List, [], Bool, ◌&&◌, nat_eq, not, get_or, cond, length, map, replicate, Some}
use Rattle.std.specs.List.{All, list_any}
use Rattle.gw_text.specs.model.Routes.{parent_key}
use Rattle.gw_text.specs.model.Stored.{Stored}
use Rattle.gw_text.specs.model.Gateways.{Gateway}
use Rattle.gw_text.specs.model.World.{World, gateway_key}
use Rattle.gw_text.specs.model.Statuses.{Entry}
use Rattle.gw_store.specs.Table.{IsPlaceOf}

-- An entry of a Route, with the place of its Gateway in the world.
pub record Placed : Type 0 where
  pub entry : Entry
  pub gateway : ℕ

-- The entries without these places.
abbrev pub entries_in : List Placed → List Entry
entries_in placed = map (λ p. p.entry) placed

-- The place is that of the Gateway that the parentRef names.
pub record IsPlaced (w : World) (p : Placed) : Type 0 where
  pub place : IsPlaceOf gateway_key (parent_key p.entry.parent) w.gateways (Some p.gateway)
  pub within : p.gateway < length w.gateways

-- All places are so.
abbrev pub ArePlaced : World → List Placed → Type 0
ArePlaced w placed = All (IsPlaced w) placed

-- Some of these attaches the Route to the listener at this place of this Gateway.
abbrev pub attaches : List Placed → ℕ → ℕ → Bool
attaches all gateway place = list_any (λ p. nat_eq p.gateway gateway && list_any (nat_eq place) p.entry.attachment.listeners) all

-- The entry is the first that attaches the Route to the listener at this place of its Gateway.
abbrev pub is_first : List Placed → Placed → ℕ → Bool
is_first earlier p place = list_any (nat_eq place) p.entry.attachment.listeners && not (attaches earlier p.gateway place)

-- The number of a listener.
abbrev pub number_at : List (List ℕ) → ℕ → ℕ → ℕ
number_at rows gateway place = get_or (get_or rows gateway []) place 0

-- No Route is counted.
abbrev pub no_numbers : List (Stored Gateway) → List (List ℕ)
no_numbers gateways = map (λ s. replicate (length s.object.listeners) 0) gateways

-- One more, where this holds.
abbrev pub more : Bool → ℕ → ℕ
more holds number = number + cond holds 1 0

-- The numbers are these, with one more where some of these entries attaches their Route.
pub record AreCounted (before : List (List ℕ)) (entries : List Placed) (rows : List (List ℕ)) : Type 0 where
  pub lengths : map length rows ≡ map length before
  pub numbers : (gateway place : ℕ) → place < length (get_or before gateway []) → number_at rows gateway place ≡ more (attaches entries gateway place) (number_at before gateway place)

-- A row has a number for each listener of its Gateway.
abbrev pub AreRows : World → List (List ℕ) → Type 0
AreRows w rows = map length rows ≡ map (λ s. length s.object.listeners) w.gateways

-- The numbers are these functions of the keys of Gateways and the places of listeners.
abbrev pub AreNumbers : World → List (List ℕ) → (Stored Gateway → ℕ → ℕ) → Type 0
AreNumbers w rows number =
    (gateway place : ℕ) (d : Stored Gateway) → gateway < length w.gateways → place < length (get_or rows gateway [])
    → number_at rows gateway place ≡ number (get_or w.gateways gateway d) place

-- All numbers are below this one.
abbrev pub AreBelow : ℕ → List (List ℕ) → Type 0
AreBelow bound rows =
    (gateway place : ℕ) → gateway < length rows → place < length (get_or rows gateway []) → number_at rows gateway place < bound
