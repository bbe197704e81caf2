-- What a search for the end of a section found, and how far it came.
use Rattle.std.specs.Prelude.{ℕ, ◌+◌, ◌<◌, ◌≤◌, ◌≡◌, ◌==◌, List, Bool, true, false, length, take, drop, get_or}
use Rattle.gw_messages.specs.model.Sections.{whole_section, long_section, part_section, IsCut, NoneBelow, are_empty_lines, ends_head, ends_trailers}
use Rattle.gw_messages.specs.declared.section.Found.{Found}
use Rattle.gw_messages.specs.declared.section.Found.TheVariants.{Whole, Long, Part}
use Rattle.gw_messages.specs.declared.section.Search.{Search}
use Rattle.gw_messages.specs.declared.line.LineSearch.{LineSearch}
use Rattle.gw_messages.specs.Lines.{IsLineSearch}

-- The bytes, cut where the search says.
abbrev pub IsFound : (List ℕ → Bool) → List ℕ → Found → Type 0
IsFound ends bytes (Whole count) =
    (count ≤ length bytes) × IsCut ends 16384 bytes (whole_section (take count bytes) (drop count bytes))
IsFound ends bytes Long = IsCut ends 16384 bytes long_section
IsFound ends bytes Part = IsCut ends 16384 bytes part_section

-- No section ends among the bytes that were looked at, of which there are no more than a section may have.
pub record IsSearch (ends : List ℕ → Bool) (s : Search) (bytes : List ℕ) : Type 0 where
  pub within : s.seen ≤ length bytes
  pub few : s.seen ≤ 16384
  pub none : NoneBelow ends (s.seen + 1) bytes

-- How many bytes are looked at next: of those that weren't looked at, none before the last is a line feed.
pub record IsNextEnd (seen end : ℕ) (bytes : List ℕ) : Type 0 where
  pub more : seen < end
  pub within : end ≤ length bytes
  pub few : end ≤ 16384
  pub none : (k : ℕ) → seen ≤ k → k + 1 < end → (get_or bytes k 0 == 10) ≡ false

-- The bytes at the front that aren't looked at again are whole empty lines.
pub record IsBlank (s : Search) (bytes : List ℕ) : Type 0 where
  pub within : s.blank ≤ length bytes
  pub blank : are_empty_lines (take s.blank bytes) ≡ true

-- The search for a head's end.
pub record IsHeadSearch (s : Search) (bytes : List ℕ) : Type 0 where
  pub search : IsSearch ends_head s bytes
  pub before : s.blank ≤ s.seen
  pub blank : are_empty_lines (take s.blank bytes) ≡ true

-- The search for the end of a trailer section.
abbrev pub IsTrailersSearch : Search → List ℕ → Type 0
IsTrailersSearch s bytes = IsSearch ends_trailers s bytes

-- What a buffer keeps: bytes, from a start on, and how far the ends of sections and of a chunk's line were looked for in these.
pub record IsBuffer (start : ℕ) (bytes : List ℕ) (heads trailers : Search) (lines : LineSearch) : Type 0 where
  pub within : start ≤ length bytes
  pub head_search : IsHeadSearch heads (drop start bytes)
  pub trailers_search : IsTrailersSearch trailers (drop start bytes)
  pub line_search : IsLineSearch lines (drop start bytes)
