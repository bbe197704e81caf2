-- What stands there already comes in its place.
use Rattle.std.proofs.Common.{◌≡◌, ◌∙◌, [], Some, ap, sym, true, rules, slice_get}
use Rattle.std.specs.Option.{option_copied}
use Rattle.gw_kept.proofs.Turning.{stays}
use Rattle.gw_kept.proofs.listener.stays_without_rows.Goals as goal

pub returns-in-Some : goal.returns-in-Some
returns-in-Some c is within =
    let rows = c.args.rows.now in
    let routes = c.args.table.now.routes in
    let none : rows ≡ [] = search rules in
    let former : c.in-Some.former.now ≡ [] = c.is_without_rows-in-Some.ensures is in
    let taken : c.args.place.is_taken ≡ true = search rules in
    let there : slice_get routes c.args.place.at ≡ Some rows = sym c.rows_of.ensures ∙ ap option_copied c.in-Some.is ∙ ap Some (former ∙ sym none) in
    stays c.args.place rows routes taken there within
