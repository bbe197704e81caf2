-- What is sent to a serializer for a part of an object. Only private clauses speak of it.
use Rattle.std.specs.Prelude.{List, ℕ, Option, Some, None}
use Rattle.serde.specs.Event.{Log}
use Rattle.serde_json.specs.Data.{Data, Members, member}
use Rattle.serde_json.specs.Events.{SendsMembers}

-- The part is sent: whatever members come after it, the object has the part and then those.
abbrev pub SendsPart : (Members → Members) → Log → Log → Type 0
SendsPart part old new = (rest : Members) (end : Log) → SendsMembers rest new end → SendsMembers (part rest) old end

-- A member where its value is given, and then the rest.
abbrev pub given_first : {X : Type 0} → List ℕ → (X → Data) → Option X → Members → Members
given_first key value None rest = rest
given_first key value (Some x) rest = member key (value x) rest
