-- How far a body has come, and what it comes to with the bytes behind.
use Rattle.std.specs.Prelude.{ℕ, ◌+◌, ◌-◌, ◌<◌, ◌≤◌, ◌≡◌, List, ◌++◌, length, take, drop, ◌&&◌, ◌==◌, Bool, false, nat_le, nat_lt, if◌then◌else◌}
use Rattle.gw_messages.specs.model.Bodies.{Body, whole_body, bad_body, part_body, behind, limited_body, Chunks, IsLine, whole_line, after_trailers}
use Rattle.gw_messages.specs.model.Sections.{Section, IsCut, ends_trailers}
use Rattle.gw_messages.specs.declared.fault.BodyFault.TheVariants.{TooBig as IsTooBig}
use Rattle.gw_messages.specs.declared.body.Decoder.{Decoder}
use Rattle.gw_messages.specs.declared.body.Stage.{Stage}
use Rattle.gw_messages.specs.declared.body.Stage.TheVariants as stages
use Rattle.gw_messages.specs.declared.body.Reading.{Reading}
use Rattle.gw_messages.specs.declared.body.Reading.TheVariants.{Sized, Chunked}
use Rattle.gw_messages.specs.declared.body.Progress.{Progress}
use Rattle.gw_messages.specs.declared.body.Progress.TheVariants as progresses

-- What was decoded of bytes behind so many others of the same body, of which there may be so many.
abbrev pub within_after : ℕ → ℕ → List ℕ → Body → Body
within_after most taken bytes (whole_body content rest) =
    if length rest == 0 && nat_lt most (taken + length bytes) then bad_body IsTooBig
    else whole_body content (rest ++ drop (most + 1 - taken) bytes)
within_after most taken bytes (bad_body fault) = bad_body fault
within_after most taken bytes part_body = if nat_lt most (taken + length bytes) then bad_body IsTooBig else part_body

-- What comes behind the line of a chunk of this size: behind that of the last one the trailer section.
abbrev pub behind_line : ℕ → Stage
behind_line size = if size == 0 then stages.Trailers else stages.Data size

-- What bytes are from a chunk's line on, or from its data on, whatever line stands before these, or behind the last chunk's line.
abbrev pub IsRest : Stage → ℕ → List ℕ → Body → Type 0
IsRest stages.Line room bytes body = Chunks room bytes body
IsRest (stages.Data size) room bytes body = (chunk : List ℕ) → 0 < size → IsLine chunk (whole_line size bytes) → Chunks room chunk body
IsRest stages.Trailers room bytes body = (section : Section) × IsCut ends_trailers 16384 bytes section × (body ≡ after_trailers section)

-- What a decoder makes of the bytes behind those that it took.
abbrev pub Decodes : Decoder → List ℕ → Body → Type 0
Decodes d bytes body =
    (decoded : Body) × IsRest d.stage (d.limits.content - length d.content.items) (take (d.limits.encoded + 1 - d.taken) bytes) decoded
    × (body ≡ within_after d.limits.encoded d.taken bytes (behind d.content.items decoded))

-- What a body comes to with the bytes behind those that were taken.
abbrev pub Comes : Reading → List ℕ → Body → Type 0
Comes (Sized room size) bytes body = body ≡ limited_body room size bytes
Comes (Chunked d) bytes body = Decodes d bytes body

-- Whatever the bytes behind it, what comes now would have come before.
abbrev pub Leads : Reading → List ℕ → Reading → List ℕ → Type 0
Leads old before new after = (next : List ℕ) (body : Body) → Comes new (after ++ next) body → Comes old (before ++ next) body

-- What a body comes to, whatever the bytes behind it; or nothing yet.
abbrev pub IsProgress : Reading → List ℕ → Reading → List ℕ → Progress → Type 0
IsProgress old before new after (progresses.Whole content) =
    (next : List ℕ) → Comes old (before ++ next) (whole_body content.items (after ++ next))
IsProgress old before new after (progresses.Bad fault) = (next : List ℕ) → Comes old (before ++ next) (bad_body fault)
IsProgress old before new after progresses.Part = Leads old before new after × Comes new after part_body

-- The whole content, unless so many bytes are too many.
abbrev pub IsFinished : ℕ → List ℕ → ℕ → Progress → Type 0
IsFinished most content taken (progresses.Whole whole) = (taken ≤ most) × (whole.items ≡ content)
IsFinished most content taken (progresses.Bad fault) = (most < taken) × (fault ≡ IsTooBig)
IsFinished most content taken progresses.Part = ⊥

-- Fewer bytes have come than a chunk's data are, where so much room is left in the body and so many bytes may come.
abbrev pub waits_at : Stage → ℕ → ℕ → ℕ → Bool
waits_at stages.Line room most count = false
waits_at (stages.Data size) room most count = nat_lt count size && (nat_le count room && nat_lt count most)
waits_at stages.Trailers room most count = false

abbrev pub waits_for_data : Decoder → ℕ → Bool
waits_for_data d count = waits_at d.stage (d.limits.content - length d.content.items) (d.limits.encoded + 1 - d.taken) count

-- It shows by the count of bytes that nothing comes of a body yet.
abbrev pub waits : Reading → List ℕ → Bool
waits (Sized room size) bytes = nat_lt (length bytes) size && nat_le (length bytes) room
waits (Chunked d) bytes = waits_for_data d (length bytes)

-- How many bytes of a body of an announced size haven't come, behind those that were taken. None is known to be missing of a chunked one.
abbrev pub missing : Reading → List ℕ → ℕ
missing (Sized room size) bytes = size - length bytes
missing (Chunked d) bytes = 0
