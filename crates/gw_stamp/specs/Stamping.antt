-- Since when conditions have their status: "lastTransitionTime is the last time the condition transitioned from one status to another".
-- Source: Condition of the Kubernetes API.
use Rattle.std.specs.Prelude.{ℤ, pos, List, [], ◌∷◌, Bool, true, false, cond, Option, Some, None, map, option_map, find}
use Rattle.std.specs.Bool.{beq}
use Rattle.std.specs.List.{list_any}
use Rattle.std.specs.Option.{option_map_or}
use Rattle.gw_stamp.specs.Names.{CondName, same_name}

-- Whether a condition's status is True, and since when it has this status.
pub record Stamp : Type 0 where
  pub truth : Bool
  pub since : ℤ

-- Stamps of conditions; of those that aren't there, none.
abbrev pub Stamps : Type 0
Stamps = CondName → Option Stamp

-- No conditions.
abbrev pub nothing : Stamps
nothing name = None

-- Since when a condition has its status; none where it isn't there.
abbrev pub time_of : Stamps → CondName → Option ℤ
time_of stamps name = option_map (λ s. s.since) (stamps name)

-- Since when a condition, which is there, has its status.
abbrev pub time_in : Stamps → CondName → ℤ
time_in stamps name = option_map_or (λ s. s.since) (stamps name) (pos 0)

-- The times of these conditions.
abbrev pub times_in : Stamps → List (CondName × Bool) → List ℤ
times_in stamps stated = map (λ c. time_in stamps c.0) stated

-- The status that a list states for a condition.
abbrev pub truth_of : CondName → List (CondName × Bool) → Option Bool
truth_of name stated = option_map (λ c. c.1) (find (λ c. same_name c.0 name) stated)

-- The condition is named.
abbrev pub is_named : CondName → List CondName → Bool
is_named name names = list_any (λ n. same_name n name) names

-- The stamp of a condition that has this status from this moment on: one that had it before keeps its time.
abbrev pub begun : ℤ → Bool → Option Stamp → Stamp
begun at truth None = record { truth = truth; since = at }
begun at truth (Some s) = cond (beq s.truth truth) s (record { truth = truth; since = at })

-- The stamp of a condition after a change, by the status that the change states, by whether the condition is gone, and by the stamp before.
abbrev pub stamp_after : ℤ → Option Bool → Bool → Option Stamp → Option Stamp
stamp_after at (Some truth) gone before = Some (begun at truth before)
stamp_after at None true before = None
stamp_after at None false before = before

-- The stamps after a change at this moment, by which these conditions are gone and those are there with the statuses that it states. All
-- else stays.
abbrev pub stamped : List CondName → List (CondName × Bool) → ℤ → Stamps → Stamps
stamped gone now at stamps name = stamp_after at (truth_of name now) (is_named name gone) (stamps name)

-- ---- the steps of a change

-- The stamps without a condition.
abbrev pub without_name : CondName → Stamps → Stamps
without_name gone stamps name = cond (same_name gone name) None (stamps name)

-- The stamps without these conditions.
abbrev pub without_names : List CondName → Stamps → Stamps
without_names [] stamps = stamps
without_names (n ∷ names) stamps = without_names names (without_name n stamps)

-- The stamps with one condition that has this status from this moment on.
abbrev pub with_one : ℤ → CondName → Bool → Stamps → Stamps
with_one at own truth stamps name = cond (same_name own name) (Some (begun at truth (stamps name))) (stamps name)

-- The stamps with these conditions, stated in turn.
abbrev pub with_stated : ℤ → List (CondName × Bool) → Stamps → Stamps
with_stated at [] stamps = stamps
with_stated at (c ∷ stated) stamps = with_stated at stated (with_one at c.0 c.1 stamps)
