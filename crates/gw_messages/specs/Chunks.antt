-- What was read of a chunk.
use Rattle.std.specs.Prelude.{ℕ, ◌+◌, ◌<◌, ◌≤◌, ◌≡◌, List, length, take, drop, ⊤}
use Rattle.gw_messages.specs.model.Bodies.{Line as Plain, whole_line, bad_line, part_line, Body, whole_body, bad_body, part_body, chunk_data}
use Rattle.gw_messages.specs.declared.fault.BodyFault.TheVariants.{Malformed, TooBig}
use Rattle.gw_messages.specs.declared.chunk.Line.{Line}
use Rattle.gw_messages.specs.declared.chunk.Line.TheVariants as lines
use Rattle.gw_messages.specs.declared.chunk.Data.{Data}
use Rattle.gw_messages.specs.declared.chunk.Data.TheVariants as datas

-- The line at the front of the bytes.
abbrev pub seen_line : List ℕ → Line → Plain
seen_line bytes (lines.Whole size count) = whole_line size (drop count bytes)
seen_line bytes lines.Bad = bad_line
seen_line bytes lines.Part = part_line

-- The data at the front of the bytes.
abbrev pub seen_data : ℕ → List ℕ → Data → Body
seen_data size bytes datas.Whole = whole_body (take size bytes) (drop (size + 2) bytes)
seen_data size bytes datas.TooBig = bad_body TooBig
seen_data size bytes datas.Malformed = bad_body Malformed
seen_data size bytes datas.Part = part_body

abbrev pub IsData : ℕ → ℕ → List ℕ → Data → Type 0
IsData room size bytes d = chunk_data room size bytes ≡ seen_data size bytes d

-- A whole line has a byte, and lies in the bytes.
abbrev pub IsLineWithin : List ℕ → Line → Type 0
IsLineWithin bytes (lines.Whole size count) = (0 < count) × (count ≤ length bytes)
IsLineWithin bytes lines.Bad = ⊤
IsLineWithin bytes lines.Part = ⊤
