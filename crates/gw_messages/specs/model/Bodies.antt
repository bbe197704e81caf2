-- Bodies of messages, of an announced length or in chunks. Source: RFC 9112 sections 6 and 7.
use Rattle.std.specs.Prelude.{ℕ, ◌+◌, ◌-◌, ◌<◌, ◌≡◌, ◌⊎◌, List, [], ◌∷◌, ◌++◌, length, take, drop, min, Bool, true, false, not, ◌&&◌, ◌==◌, nat_eq, nat_lt, nat_le, if◌then◌else◌, Option, Some, None}
use Rattle.std.specs.List.{position_or_len, starts_with}
use Rattle.httparse.specs.Grammar.{ChunkLine, chunk_size, ReadsChunkLine, HasNoChunkLine, NeverHasChunkLine, MayBecomeChunkLine}
use Rattle.gw_messages.specs.declared.fault.BodyFault.{BodyFault}
use Rattle.gw_messages.specs.declared.fault.BodyFault.TheVariants.{Malformed, LongTrailers, TooBig}
use Rattle.gw_messages.specs.model.Sections.{Section, whole_section, long_section, part_section, IsCut, ends_trailers}

-- What stands where a body begins: the whole body, decoded, and what follows it; a fault; or a part of a body.
pub data Body : Type 0 where
  whole_body : List ℕ → List ℕ → Body
  bad_body : BodyFault → Body
  part_body : Body

-- The same body with more data at its front.
abbrev pub behind : List ℕ → Body → Body
behind front (whole_body content rest) = whole_body (front ++ content) rest
behind front (bad_body fault) = bad_body fault
behind front part_body = part_body

-- A body of an announced length is so many bytes. Source: RFC 9112 section 6.2.
abbrev pub sized_body : ℕ → List ℕ → Body
sized_body size bytes = if nat_le size (length bytes) then whole_body (take size bytes) (drop size bytes) else part_body

-- The same, where a body may have so many bytes. What is too much counts by the bytes that have come, and not by the size that
-- was announced.
abbrev pub limited_body : ℕ → ℕ → List ℕ → Body
limited_body room size bytes = if nat_lt room (min size (length bytes)) then bad_body TooBig else sized_body size bytes

-- What stands where a chunk begins: the chunk's whole line, as the size that it announces, and what follows it; what no bytes
-- behind it make a line, or a line above the limit; or what may become a line.
pub data Line : Type 0 where
  whole_line : ℕ → List ℕ → Line
  bad_line : Line
  part_line : Line

-- More than 1,024 bytes stand before the line's end, which is CR LF.
abbrev pub is_long_line : List ℕ → Bool
is_long_line bytes = nat_lt 1024 (position_or_len (λ b. b == 13) bytes)

-- A chunk's line: its size in hexadecimal digits, and an extension, which is dropped. Source: RFC 9112 sections 7.1 and 7.1.1.
abbrev pub IsLine : List ℕ → Line → Type 0
IsLine bytes (whole_line size rest) =
    (is_long_line bytes ≡ false) × ((l : ChunkLine) × ReadsChunkLine bytes l rest × (size ≡ chunk_size l))
IsLine bytes bad_line = (is_long_line bytes ≡ true) ⊎ NeverHasChunkLine bytes
IsLine bytes part_line = (is_long_line bytes ≡ false) × HasNoChunkLine bytes × MayBecomeChunkLine bytes

-- The bytes behind a chunk's data are CR LF, as far as they are there. Source: RFC 9112 section 7.1.
abbrev pub begins_as_line_end : List ℕ → Bool
begins_as_line_end bytes = starts_with nat_eq (13 ∷ 10 ∷ []) (take 2 bytes)

-- The data of a chunk of this size, where so much room is left in the body: its data and what follows its line end, a fault,
-- or a part. What is too much counts by the bytes that have come, and not by the size that the line announces.
abbrev pub chunk_data : ℕ → ℕ → List ℕ → Body
chunk_data room size bytes =
    if nat_lt room (min size (length bytes)) then bad_body TooBig
    else (if not (begins_as_line_end (drop size bytes)) then bad_body Malformed
    else (if nat_lt (length bytes) (size + 2) then part_body
    else whole_body (take size bytes) (drop (size + 2) bytes)))

-- A trailer section ends a chunked body, and is dropped unread. Source: RFC 9112 section 7.1.2.
abbrev pub after_trailers : Section → Body
after_trailers (whole_section trailers rest) = whole_body [] rest
after_trailers long_section = bad_body LongTrailers
after_trailers part_section = part_body

-- The chunk is whole, so that another one follows.
abbrev pub is_whole : Body → Bool
is_whole (whole_body content rest) = true
is_whole (bad_body fault) = false
is_whole part_body = false

-- Chunks, where so much room is left in the body: each chunk's line and data, the last one's line, of size 0, and the trailer
-- section. Source: RFC 9112 section 7.1.
pub data Chunks : ℕ → List ℕ → Body → Type 0 where
  bad_chunk : {room : ℕ} {bytes : List ℕ} → IsLine bytes bad_line → Chunks room bytes (bad_body Malformed)
  part_chunk : {room : ℕ} {bytes : List ℕ} → IsLine bytes part_line → Chunks room bytes part_body
  last_chunk : {room : ℕ} {bytes : List ℕ} {body : Body} (rest : List ℕ) (section : Section) → IsLine bytes (whole_line 0 rest)
      → IsCut ends_trailers 16384 rest section → body ≡ after_trailers section → Chunks room bytes body
  stopped_chunk : {room : ℕ} {bytes : List ℕ} {body : Body} (size : ℕ) (rest : List ℕ) → 0 < size
      → IsLine bytes (whole_line size rest) → body ≡ chunk_data room size rest → is_whole body ≡ false → Chunks room bytes body
  whole_chunk : {room : ℕ} {bytes : List ℕ} {body : Body} (size : ℕ) (rest content more : List ℕ) (later : Body) → 0 < size
      → IsLine bytes (whole_line size rest) → chunk_data room size rest ≡ whole_body content more
      → Chunks (room - size) more later → body ≡ behind content later → Chunks room bytes body

-- What was decoded of the first bytes, one more than an encoded body may have: no more bytes than that are a body.
abbrev pub within : ℕ → List ℕ → Body → Body
within most bytes (whole_body content rest) =
    if length rest == 0 && nat_lt most (length bytes) then bad_body TooBig
    else whole_body content (rest ++ drop (most + 1) bytes)
within most bytes (bad_body fault) = bad_body fault
within most bytes part_body = if nat_lt most (length bytes) then bad_body TooBig else part_body

-- A chunked body of at most so much room when decoded, and at most so many bytes when encoded. A fault is the one that stands
-- at the shortest front of the bytes at which one stands; of two at the same front a malformed chunk comes first, then long
-- trailers. Source: RFC 9112 section 7.1.
abbrev pub IsChunked : ℕ → ℕ → List ℕ → Body → Type 0
IsChunked room most bytes body =
    (decoded : Body) × Chunks room (take (most + 1) bytes) decoded × (body ≡ within most bytes decoded)

-- The body of a message: one of an announced size, or a chunked one.
abbrev pub IsBody : ℕ → ℕ → Option ℕ → List ℕ → Body → Type 0
IsBody room most (Some size) bytes body = body ≡ limited_body room size bytes
IsBody room most None bytes body = IsChunked room most bytes body
