-- How Routes with their reasons are listed row by row: where a key stands in key order, and what one row more makes of the list.
use Rattle.std.specs.Prelude.{◌≡◌, ℕ, zero, suc, true, List, [], ◌∷◌, ◌++◌, filter, find, fold, map}
use Rattle.std.specs.List.{AllByRecursion}
use Rattle.std.specs.List.Sorted.{IsStrictlySortedBy}
use Rattle.std.specs.Option.{option_map_or}
use Rattle.std.specs.Ordering.{is_lt, is_gt}
use Rattle.std.specs.declared.cmp.Ordering.TheVariants.{Less, Greater}
use Rattle.gw_decide.specs.declared.why.Why.{Why}
use Rattle.gw_decide.specs.declared.why.Why.TheVariants.{OtherListener}
use Rattle.gw_decide.specs.model.Reasons.{further, routes_of}
use Rattle.gw_rows.specs.model.Rows.{Row}
use Rattle.gw_text.specs.model.Forms.{is_key}
use Rattle.gw_text.specs.model.Names.{Key, key_order, same_key}

-- A Route with its reason.
abbrev pub Entry : Type 0
Entry = Key × Why

-- Each key stands before those after it, so none stands twice.
abbrev pub IsInKeyOrder : List Entry → Type 0
IsInKeyOrder entries = IsStrictlySortedBy key_order (map (λ e. e.0) entries)

-- All keys have their form.
abbrev pub AllFormed : List Entry → Type 0
AllFormed entries = AllByRecursion (λ e. is_key e.0 ≡ true) entries

-- What the list keeps.
pub record IsExplained (entries : List Entry) : Type 0 where
  pub order : IsInKeyOrder entries
  pub keys : AllFormed entries

-- All keys are above this one.
abbrev pub AllAbove : Key → List Entry → Type 0
AllAbove key entries = AllByRecursion (λ e. key_order e.0 key ≡ Greater) entries

-- The key stands at i: the keys before it are lower, and those after it higher.
abbrev pub StandsAt : Key → List Entry → ℕ → Type 0
StandsAt key [] i = ⊥
StandsAt key (e ∷ entries) zero = (e.0 ≡ key) × AllAbove key entries
StandsAt key (e ∷ entries) (suc i) = (key_order e.0 key ≡ Less) × StandsAt key entries i

-- The key isn't there, and i is the place between the lower keys and the higher ones.
abbrev pub IsMissingAt : Key → List Entry → ℕ → Type 0
IsMissingAt key entries zero = AllAbove key entries
IsMissingAt key [] (suc i) = ⊥
IsMissingAt key (e ∷ entries) (suc i) = (key_order e.0 key ≡ Less) × IsMissingAt key entries i

-- The reason that stands with the key; the nearest where the key isn't there.
abbrev pub reason_in : List Entry → Key → Why
reason_in entries key = option_map_or (λ e. e.1) (find (λ e. same_key e.0 key) entries) OtherListener

-- The list with this reason of a row of the Route: the lower keys, the Route's own, the higher keys.
unfoldable pub noted : List Entry → Key → Why → List Entry
noted entries key why =
    filter (λ e. is_lt (key_order e.0 key)) entries
    ++ (key, further (reason_in entries key) why)
    ∷ filter (λ e. is_gt (key_order e.0 key)) entries

-- Each Route of these rows, in key order, with the furthest reason of its rows: the list after these rows.
abbrev pub explained_over : (Row → Why) → List Row → List Entry
explained_over why rows =
    map (λ key. (key, fold further OtherListener (map why (filter (λ r. same_key r.key key) rows)))) (routes_of rows)
