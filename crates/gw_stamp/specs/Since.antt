-- Since when a condition has its status, in a list of changes: the moment of the first change after which, and after every later change, the
-- condition is there with the status that it has at the end. A change of its reason alone begins nothing anew. Source: lastTransitionTime of
-- Condition of the Kubernetes API.
use Rattle.std.specs.Prelude.{◌≡◌, ℤ, List, [], ◌∷◌, ◌++◌, Bool, true, false, Option, Some, None, map, option_map, if◌then◌else◌}
use Rattle.std.specs.Bool.{beq}
use Rattle.std.specs.List.{list_all}
use Rattle.gw_stamp.specs.Names.{CondName}
use Rattle.gw_stamp.specs.Stamping.{Stamp, Stamps, nothing, truth_of, is_named, stamped}

-- A change: its moment, and the conditions that are there after it, each with whether its status is True.
pub record Change : Type 0 where
  pub at : ℤ
  pub conditions : List (CondName × Bool)

-- The status is there, and is this one.
abbrev pub is_truth : Bool → Option Bool → Bool
is_truth truth None = false
is_truth truth (Some own) = beq own truth

-- After the change the condition is there with this status.
abbrev pub has : CondName → Bool → Change → Bool
has name truth change = is_truth truth (truth_of name change.conditions)

-- The moment of the first change after which, and after every later one, the condition is there with this status.
abbrev pub since_with : CondName → Bool → List Change → Option ℤ
since_with name truth [] = None
since_with name truth (change ∷ later) =
    if list_all (has name truth) (change ∷ later) then Some change.at else since_with name truth later

-- The conditions that are there after changes; after none, those before.
abbrev pub conditions_after : List (CondName × Bool) → List Change → List (CondName × Bool)
conditions_after before [] = before
conditions_after before (change ∷ later) = conditions_after change.conditions later

-- Since when a condition has the status that it has at the end; none where it isn't there then.
abbrev pub since_in : CondName → Option Bool → List Change → Option ℤ
since_in name None changes = None
since_in name (Some truth) changes = since_with name truth changes

abbrev pub since : CondName → List Change → Option ℤ
since name changes = since_in name (truth_of name (conditions_after [] changes)) changes

-- The stamp of a condition with this status.
abbrev pub stamp_from : Bool → ℤ → Stamp
stamp_from truth at = record { truth = truth; since = at }

-- The stamp that a condition is to have: the status that it has at the end, and since when it has it.
abbrev pub stamp_in : CondName → Option Bool → List Change → Option Stamp
stamp_in name None changes = None
stamp_in name (Some truth) changes = option_map (stamp_from truth) (since_with name truth changes)

abbrev pub stamp_since : CondName → List Change → Option Stamp
stamp_since name changes = stamp_in name (truth_of name (conditions_after [] changes)) changes

-- ---- what a change states

-- What a change states of conditions: those that are gone, and those that are there, at least where they weren't with this status before.
pub record Statement : Type 0 where
  pub gone : List CondName
  pub now : List (CondName × Bool)

-- The status of a condition after a change, by the status that it states, by whether the condition is gone, and by the status before.
abbrev pub truth_after : Option Bool → Bool → Option Bool → Option Bool
truth_after (Some truth) gone before = Some truth
truth_after None true before = None
truth_after None false before = before

-- A statement leads from these conditions to those.
abbrev pub Leads : Statement → List (CondName × Bool) → List (CondName × Bool) → Type 0
Leads s before after = (name : CondName) → truth_of name after ≡ truth_after (truth_of name s.now) (is_named name s.gone) (truth_of name before)

-- A change, with what it states.
pub record Step : Type 0 where
  pub statement : Statement
  pub change : Change

-- Each statement leads to the conditions after its change.
abbrev pub EachLeads : List (CondName × Bool) → List Step → Type 0
EachLeads before [] = Unit {0}
EachLeads before (s ∷ steps) = Leads s.statement before s.change.conditions × EachLeads s.change.conditions steps

-- The stamps after steps.
abbrev pub stamps_after : Stamps → List Step → Stamps
stamps_after stamps [] = stamps
stamps_after stamps (s ∷ steps) = stamps_after (stamped s.statement.gone s.statement.now s.change.at stamps) steps

-- The stamps are those that conditions are to have after these changes.
abbrev pub AreSince : List Change → Stamps → Type 0
AreSince changes stamps = (name : CondName) → stamps name ≡ stamp_since name changes

-- From no conditions on, each statement leading to the conditions after its change, the stamps are those that conditions are to have.
abbrev pub HoldsSince : Type 0
HoldsSince = (steps : List Step) → EachLeads [] steps → AreSince (map (λ s. s.change) steps) (stamps_after nothing steps)

-- One more change, whose statement leads to the conditions after it, keeps it so.
abbrev pub StaysSince : Type 0
StaysSince = (changes : List Change) (stamps : Stamps) (s : Step) → AreSince changes stamps → Leads s.statement (conditions_after [] changes) s.change.conditions
    → AreSince (changes ++ s.change ∷ []) (stamped s.statement.gone s.statement.now s.change.at stamps)
