-- What the program writes.
use Rattle.std.specs.Prelude.{ℕ, ℤ, List, [], ◌++◌, length, codes, Bool, nat_lt, Option, None, Some, flat_map, slice_get}
use Rattle.std.specs.Option.{option_map_or}
use Rattle.serde_json.specs.Data.{Data, number, unsigned, string, object, member, no_members}
use Rattle.gw_json.specs.Lines.{line_of}
use Rattle.gw_text.specs.model.Doors.{Door}
use Rattle.gw_text.specs.model.World.{World, world_of}
use Rattle.gw_text.specs.model.Statuses.{statuses_of}
use Rattle.gw_status.specs.StatusText.{statuses_text}
use Rattle.gw_frames.specs.model.Requests.{Request}
use Rattle.gw_rows.specs.model.DoorRows.{rows_of}
use Rattle.gw_decide.specs.ExplainText.{explain_text}
use Rattle.gw_store.specs.Lines.{lines_of}
use Rattle.gw_report.specs.EventLines.{Refused, LineResults, results_of}

-- How a refused line is printed, with the path of the field that it names.
abbrev pub refused_object : ℕ → ℕ → Option (List ℕ) → Data
refused_object line refusal None =
    object (member (codes "line") (number (unsigned line)) (member (codes "refusal") (number (unsigned refusal)) no_members))
refused_object line refusal (Some path) =
    object (member (codes "line") (number (unsigned line))
    (member (codes "path") (string path)
    (member (codes "refusal") (number (unsigned refusal)) no_members)))

-- A refused line as JSON.
abbrev pub refused_data : Refused → Data
refused_data r = refused_object r.line r.refusal r.path

-- The lines of the refused lines, in input order.
abbrev pub refused_text : List Refused → List ℕ
refused_text refused = flat_map (λ r. line_of (refused_data r)) refused

-- The last line: how many changes were taken, and how many lines were refused and skipped.
abbrev pub summary_data : ℕ → ℕ → ℕ → Data
summary_data changes refused skipped =
    object (member (codes "changes") (number (unsigned changes))
    (member (codes "refused") (number (unsigned refused))
    (member (codes "skipped") (number (unsigned skipped)) no_members)))

-- The statuses of a world, and the summary.
abbrev pub status_text : List Door → List ℕ → World → ℕ → ℕ → ℕ → List ℕ
status_text doors controller w changes refused skipped =
    statuses_text (statuses_of doors controller w) ++ line_of (summary_data changes refused skipped)

-- What becomes of a request at the door of a number, by the rows of a world after so many changes.
abbrev pub explanation_text : List Door → List ℕ → World → ℕ → ℕ → Request → List ℕ
explanation_text doors controller w changes at q =
    option_map_or (λ door. explain_text (rows_of doors controller w door) q changes) (slice_get doors at) []

-- The whole text of `status` by what came of the lines: the refused lines in input order, the statuses, and the summary.
unfoldable pub status_results_text : List Door → List ℕ → LineResults → List ℕ
status_results_text doors controller r =
    refused_text r.refused ++ status_text doors controller (world_of r.changes) (length r.changes) (length r.refused) r.skipped

-- The whole text of `explain` by what came of the lines: the refused lines in input order, and what becomes of the request.
unfoldable pub explanation_results_text : List Door → List ℕ → ℕ → Request → LineResults → List ℕ
explanation_results_text doors controller at q r =
    refused_text r.refused ++ explanation_text doors controller (world_of r.changes) (length r.changes) at q

-- Some line is refused.
abbrev pub has_refused : List ℕ → List ℤ → Bool
has_refused input moments = nat_lt 0 (length (results_of (lines_of input) moments).refused)
