-- Rings: the numbers of their connections, and what a wait answers.
use Rattle.std.specs.Prelude.{◌≡◌, ℕ, ◌+◌, ◌==◌, Bool, not, List, Option, Some, None, option_map, Result, Ok, Err, IfSome, ⊤}
use Rattle.std.specs.List.{filter, list_any}
use Rattle.gw_link.specs.Pieces.{Keeps}
use Rattle.gw_polling.specs.declared.woken.Woken.{Woken}
use Rattle.gw_polling.specs.declared.woken.Woken.TheVariants.{New, Ready, Done}

-- The number is among these.
abbrev pub is_among : ℕ → List ℕ → Bool
is_among number numbers = list_any (λ other. other == number) numbers

-- These but the number.
abbrev pub without : ℕ → List ℕ → List ℕ
without number numbers = filter (λ other. not (other == number)) numbers

-- The number of the connection that came.
abbrev pub woken_number : {K U : Type 0} → Woken K U → Option ℕ
woken_number (New number link up) = Some number
woken_number (Ready numbers) = None
woken_number Done = None

-- The number of the connection that came, where the wait was done.
abbrev pub new_number : {K U E : Type 0} → Result (Woken K U) E → Option ℕ
new_number (Ok woken) = woken_number woken
new_number (Err fault) = None

-- Where a connection came, P holds of its number, its link and its upstream.
abbrev pub IfNew : {K U E : Type 0} → Result (Woken K U) E → (ℕ → K → U → Type 0) → Type 0
IfNew (Ok (New number link up)) P = P number link up
IfNew (Ok (Ready numbers)) P = ⊤
IfNew (Ok Done) P = ⊤
IfNew (Err fault) P = ⊤

-- Where connections are named, P holds of their numbers.
abbrev pub IfNamed : {K U E : Type 0} → Result (Woken K U) E → (List ℕ → Type 0) → Type 0
IfNamed (Ok (New number link up)) P = ⊤
IfNamed (Ok (Ready numbers)) P = P numbers
IfNamed (Ok Done) P = ⊤
IfNamed (Err fault) P = ⊤

-- One connection less is to come where one came, and else as many.
abbrev pub Comes : Option ℕ → Option ℕ → Option ℕ → Type 0
Comes before None after = Keeps before after
Comes before (Some number) after = IfSome before (λ left. option_map (λ rest. rest + 1) after ≡ Some left)
