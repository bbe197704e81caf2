-- The rows of a door: what its served listeners take from the Routes that are attached to them.
use Rattle.std.specs.Prelude.{ℕ, ℤ, List, [], ◌∷◌, Bool, not, filter, find, Option}
use Rattle.std.specs.List.{list_any}
use Rattle.std.specs.Ordering.{is_lt}
use Rattle.std.specs.declared.cmp.Ordering.{Ordering}
use Rattle.gw_text.specs.model.Hostnames.{Host}
use Rattle.gw_text.specs.model.Matches.{Match}
use Rattle.gw_text.specs.model.Names.{Key}
use Rattle.gw_text.specs.model.Plans.{Plan}

-- A listener at which requests are taken: its place among its Gateway's listeners, its name, its hostname and its port.
pub record ServedListener : Type 0 where
  pub number : ℕ
  pub name : List ℕ
  pub hostname : Option Host
  pub port : ℕ

-- One match of one rule of a Route, for one of its hostnames, at a listener to which the Route is attached.
pub record Row : Type 0 where
  -- the listener: its number, name, hostname and port
  pub listener : ℕ
  pub name : List ℕ
  pub listener_host : Option Host
  pub port : ℕ
  -- the Route's hostname and its place among the Route's hostnames; none, and 0, where the Route has no hostnames
  pub hostname : Option Host
  pub host_place : ℕ
  -- the Route, and when it was created
  pub key : Key
  pub created : ℤ
  -- the places of the rule in the Route and of the match in the rule
  pub rule : ℕ
  pub place : ℕ
  pub test : Match
  -- what the rule does
  pub plan : Plan

-- The served listeners of a door, those without a row among them, and their rows.
pub record Rows : Type 0 where
  pub listeners : List ServedListener
  pub rows : List Row

-- Of entries that are the same, the first alone.
abbrev pub first_of_each : {T : Type 0} → (T → T → Bool) → List T → List T
first_of_each same [] = []
first_of_each same (x ∷ items) = x ∷ filter (λ other. not (same x other)) (first_of_each same items)

-- The first item before which no other stands.
abbrev pub foremost : {T : Type 0} → (T → T → Ordering) → List T → Option T
foremost order items = find (λ x. not (list_any (λ other. is_lt (order other x)) items)) items
