-- The numbers are changed where one of the entries so far attaches the Route.
use Rattle.std.proofs.Common.{◌≡◌, ℕ, cond, take}
use Rattle.std.specs.List.{list_any}
use Rattle.gw_kept.specs.Changes.{changed}
use Rattle.gw_kept.specs.Counts.{number_at}
use Rattle.gw_eval.specs.Kept.{is_at}
use Rattle.gw_text.specs.model.Names.{Key}
use Rattle.gw_kept.proofs.counts.Counts.changed.Given as goal

abbrev pub invariant-entries : goal.invariant-entries
invariant-entries l = (key : Key) (place : ℕ) → number_at l.counts key place
    ≡ cond (list_any (is_at key place) (take l.at-index l.route.attached)) (changed l.change (number_at l.self key place)) (number_at l.self key place)
