-- What stands while the connections of a ring are served by being polled.
use Rattle.std.specs.Prelude.{◌≡◌, ℕ, true, List, All}
use Rattle.gw_poll.specs.Crowds.{CanTurn, numbers_of}
use Rattle.gw_poll.specs.declared.crowd.Crowd.{Crowd}
use Rattle.gw_polling.specs.Rings.{is_among}
use Rattle.gw_polling.specs.declared.poll_upstream.PollUpstream.{Ghosts as UpstreamWords}

-- The crowd may be polled, and each of its connections has a number that the ring gave.
pub record AreServed {K V : Type 0} (v : UpstreamWords V) (given : List ℕ) (crowd : Crowd K V) : Type 0 where
  pub can_turn : CanTurn v crowd
  pub given_are : All (λ number. is_among number given ≡ true) (numbers_of crowd)

-- The connections that are open at the ring are those of the crowd.
abbrev pub AreAlike : {K V : Type 0} → List ℕ → Crowd K V → Type 0
AreAlike open_numbers crowd = (number : ℕ) → is_among number open_numbers ≡ is_among number (numbers_of crowd)
