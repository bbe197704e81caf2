-- How far the line of a chunk was read.
use Rattle.std.specs.Prelude.{ℕ, ◌<◌, ◌≤◌, ◌≡◌, ◌==◌, ◌||◌, List, ◌++◌, length, take, drop, Bool, true, false}
use Rattle.std.specs.List.{list_all, list_any}
use Rattle.httparse.specs.Grammar.{HasNoChunkLine, MayBecomeChunkLine, is_extension_byte, is_ows}
use Rattle.gw_messages.specs.declared.line.LineSearch.{LineSearch}

-- A byte that goes on with what has come of a line: in its extension any but CR and LF, else a space or tab.
abbrev pub continues : Bool → ℕ → Bool
continues true b = is_extension_byte b
continues false b = is_ows b

-- The bytes are no line, and may become one.
abbrev pub IsOpen : List ℕ → Type 0
IsOpen bytes = HasNoChunkLine bytes × MayBecomeChunkLine bytes

-- A line is open behind the bytes that were read of it, and stays so with any bytes that go on with it.
pub record IsLineSearch (s : LineSearch) (bytes : List ℕ) : Type 0 where
  pub within : s.seen ≤ length bytes
  pub on : 0 < s.seen → (more : List ℕ) → list_all (continues s.extended) more ≡ true → IsOpen (take s.seen bytes ++ more)

-- Bytes of a line that isn't whole need no second look: they reach behind its size, into an extension or into spaces and tabs, and have
-- no CR, of which only what follows says whether it begins the line's end.
pub record IsResumable (bytes : List ℕ) : Type 0 where
  pub open_ended : list_any (λ b. b == 13) bytes ≡ false
  pub behind : (list_any (λ b. b == 59) bytes || list_any is_ows bytes) ≡ true

-- All bytes behind those that were read go on with the line, and are not too many.
pub record Continues (s : LineSearch) (front : List ℕ) : Type 0 where
  pub some : 0 < s.seen
  pub within : s.seen ≤ length front
  pub few : length front ≤ 1024
  pub rest : list_all (continues s.extended) (drop s.seen front) ≡ true
