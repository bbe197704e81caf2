-- How a verdict of the code stands for the plain one, and what is known of its row.
use Rattle.std.specs.Prelude.{Bool, true}
use Rattle.gw_decide.specs.declared.verdict.Verdict.{Verdict}
use Rattle.gw_decide.specs.declared.verdict.Verdict.TheVariants.{NotFound, Redirect, Nothing, Choose}
use Rattle.gw_decide.specs.model.Verdicts.{Verdict as Plain, not_found, redirect, nothing, choose}
use Rattle.gw_frames.specs.model.Requests.{Request}
use Rattle.gw_text.specs.model.Matches as matches

-- The verdict, with its row behind the reference.
abbrev pub seen_verdict : Verdict → Plain
seen_verdict NotFound = not_found
seen_verdict (Redirect row) = redirect row.now
seen_verdict (Nothing row) = nothing row.now
seen_verdict (Choose row) = choose row.now

-- The path match of the row that serves the request, where one does, fits its path.
abbrev pub path_fits : Plain → Request → Bool
path_fits not_found q = true
path_fits (redirect row) q = matches.path_fits row.test.path q.path
path_fits (nothing row) q = matches.path_fits row.test.path q.path
path_fits (choose row) q = matches.path_fits row.test.path q.path
