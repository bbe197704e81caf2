-- Exchanges with backends, as an upstream tells them. Of one that doesn't tell, None, nothing is said.
use Rattle.std.specs.Prelude.{◌≡◌, ℕ, ◌<◌, ◌==◌, List, [], ◌∷◌, ◌++◌, length, take, Bool, false, Option, Some, IfSome}
use Rattle.gw_text.specs.model.Addresses.{Socket}

-- One connection with a backend: its socket, the bytes sent, the bytes given, and whether a `receive` after these answered 0.
pub record Exchange : Type 0 where
  pub to : Socket
  pub sent : List ℕ
  pub given : List ℕ
  pub ended : Bool

-- Nothing was sent or given yet.
abbrev pub new_exchange : Socket → Exchange
new_exchange to = record { to = to; sent = []; given = []; ended = false }

-- After these bytes were sent.
abbrev pub sending : List ℕ → Exchange → Exchange
sending piece e = record e { sent = e.sent ++ piece }

-- After these bytes were given; no bytes are the end.
abbrev pub receiving : List ℕ → Exchange → Exchange
receiving piece e = record e { given = e.given ++ piece; ended = length piece == 0 }

-- The list with its last item changed.
abbrev pub change_last : {A : Type 0} → (A → A) → List A → List A
change_last change [] = []
change_last change (x ∷ []) = change x ∷ []
change_last change (x ∷ (y ∷ xs)) = x ∷ change_last change (y ∷ xs)

-- One exchange more is told, this one.
abbrev pub Tells : Option (List Exchange) → Exchange → Option (List Exchange) → Type 0
Tells before e after = IfSome before (λ told. after ≡ Some (told ++ e ∷ []))

-- The piece was sent in the last exchange.
abbrev pub Sends : Option (List Exchange) → List ℕ → Option (List Exchange) → Type 0
Sends before piece after = IfSome before (λ told. after ≡ Some (change_last (sending piece) told))

-- The first bytes of the piece, and not all, were sent in the last exchange.
abbrev pub SendsPart : Option (List Exchange) → List ℕ → Option (List Exchange) → Type 0
SendsPart before piece after = (n : ℕ) × ((n < length piece) × Sends before (take n piece) after)

-- The piece was given in the last exchange; an empty one is its end.
abbrev pub Receives : Option (List Exchange) → List ℕ → Option (List Exchange) → Type 0
Receives before piece after = IfSome before (λ told. after ≡ Some (change_last (receiving piece) told))
