-- Parts of a message that end with an empty line: a head, and the trailer section of a chunked body.
-- Source: RFC 9112 sections 2.1, 2.2 and 7.1.
use Rattle.std.specs.Prelude.{ℕ, ◌+◌, ◌<◌, ◌≤◌, ◌≡◌, List, [], ◌∷◌, ◌++◌, length, take, Bool, true, false, not, ◌&&◌, ◌||◌, ◌==◌, nat_eq, bytes_eq}
use Rattle.std.specs.List.{starts_with, ends_with}

-- The bytes end with an empty line, behind the end of a line. A line of a head ends with CR LF, or with LF alone. Source:
-- RFC 9112 section 2.2.
abbrev pub ends_with_empty_line : List ℕ → Bool
ends_with_empty_line bytes =
    ends_with nat_eq bytes (10 ∷ 10 ∷ []) || ends_with nat_eq bytes (10 ∷ 13 ∷ 10 ∷ [])

-- The bytes are whole empty lines and nothing else: each byte is LF, or CR before LF.
abbrev pub are_empty_lines : List ℕ → Bool
are_empty_lines [] = true
are_empty_lines (b ∷ bytes) = (b == 10 || (b == 13 && starts_with nat_eq bytes (10 ∷ []))) && are_empty_lines bytes

-- The bytes end a head: empty lines before a request line or status line don't count, and the empty line behind its
-- fields ends it. Source: RFC 9112 sections 2.1 and 2.2.
abbrev pub ends_head : List ℕ → Bool
ends_head bytes = ends_with_empty_line bytes && not (are_empty_lines bytes)

-- The bytes end a trailer section: they are CR LF, or end with CR LF directly behind CR LF. Its lines end with CR LF alone,
-- so LF alone and CR alone are bytes of a line. Source: RFC 9112 section 7.1.
abbrev pub ends_trailers : List ℕ → Bool
ends_trailers bytes = bytes_eq bytes (13 ∷ 10 ∷ []) || ends_with nat_eq bytes (13 ∷ 10 ∷ 13 ∷ 10 ∷ [])

-- What stands where a section begins: the whole section and what follows it; more bytes than a section may have, without
-- its end; or no more than that, without its end.
pub data Section : Type 0 where
  whole_section : List ℕ → List ℕ → Section
  long_section : Section
  part_section : Section

-- No front of fewer bytes passes the test.
abbrev pub NoneBelow : (List ℕ → Bool) → ℕ → List ℕ → Type 0
NoneBelow test count bytes = (n : ℕ) → n < count → test (take n bytes) ≡ false

-- The bytes, cut behind their shortest front that ends a section, where that is one of at most so many bytes.
abbrev pub IsCut : (List ℕ → Bool) → ℕ → List ℕ → Section → Type 0
IsCut ends most bytes (whole_section section rest) =
    (bytes ≡ section ++ rest) × (ends section ≡ true) × (length section ≤ most) × NoneBelow ends (length section) bytes
IsCut ends most bytes long_section = (most < length bytes) × NoneBelow ends (most + 1) bytes
IsCut ends most bytes part_section = (length bytes ≤ most) × NoneBelow ends (length bytes + 1) bytes
