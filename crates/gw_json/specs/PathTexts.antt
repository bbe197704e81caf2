-- The bytes of a path's text, wherever they stand.
use Rattle.std.specs.Prelude.{ℕ, List, string_bytes}
use Rattle.gw_json.specs.declared.path.PathText.{PathText}
use Rattle.gw_json.specs.declared.path.PathText.TheVariants.{Short, Long}

abbrev pub path_bytes : PathText → List ℕ
path_bytes (Short text) = text.bytes
path_bytes (Long text) = string_bytes text
