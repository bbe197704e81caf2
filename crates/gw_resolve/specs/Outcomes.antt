-- What comes of a line.
use Rattle.std.specs.Prelude.{◌≡◌, ◌+◌, ℕ, ℤ, Result, Ok}
use Rattle.gw_json.specs.declared.refusal.Refusal.{Refusal}
use Rattle.gw_store.specs.Events.{Read, a_change, is_skipped}
use Rattle.gw_text.specs.model.Objects.{Event}
use Rattle.gw_text.specs.model.World.{World, apply}
use Rattle.gw_resolve.specs.Cores.{AreTouchedBy, Core}
use Rattle.gw_resolve.specs.declared.resolver.Step.{Step}
use Rattle.gw_resolve.specs.declared.resolver.Step.TheVariants as steps
use Rattle.gw_resolve.specs.declared.outcome.Outcome.{Outcome}
use Rattle.gw_resolve.specs.declared.outcome.Outcome.TheVariants.{Accepted, Skipped}

-- A line with this answer, which came at this moment, is prepared on a core: its change, or nothing where it is skipped.
abbrev pub IsStep : Result Read Refusal → ℤ → Core → Step → Type 0
IsStep answer at core (steps.Ready p) = (answer ≡ Ok (a_change p.change.event)) × (p.change.at ≡ at) × (p.core ≡ core)
IsStep answer at core steps.Skipped = answer ≡ Ok is_skipped

-- How many evaluations it adds: one for each Route and each Gateway that the change touches.
abbrev pub Adds : ℕ → ℕ → Step → Type 0
Adds before after (steps.Ready p) = (n : ℕ) × (AreTouchedBy p.core.store.world p.change n × (after ≡ before + n))
Adds before after steps.Skipped = after ≡ before

-- What comes of a line with this answer, at a moment: its change is done, or it is skipped and nothing is.
abbrev pub Comes : Result Read Refusal → ℤ → Outcome → World → World → Type 0
Comes answer at Accepted w w' = (event : Event) × ((answer ≡ Ok (a_change event)) × (w' ≡ apply w (record { event = event; at = at })))
Comes answer at Skipped w w' = (answer ≡ Ok is_skipped) × (w' ≡ w)

-- How many evaluations what comes of a line with this answer adds.
abbrev pub TakesSteps : Result Read Refusal → ℤ → Outcome → World → ℕ → ℕ → Type 0
TakesSteps answer at Accepted w before after =
    (event : Event) × ((answer ≡ Ok (a_change event)) × ((n : ℕ) × (AreTouchedBy w (record { event = event; at = at }) n × (after ≡ before + n))))
TakesSteps answer at Skipped w before after = (answer ≡ Ok is_skipped) × (after ≡ before)
