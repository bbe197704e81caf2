-- The times of classes, Gateways and Routes are those of all conditions.
use Rattle.std.proofs.Common.{◌≡◌, map, subst, rules}
use Rattle.gw_text.specs.model.Statuses.{Statuses}
use Rattle.gw_stamp.proofs.Walking.{all_times}
use Rattle.gw_stamp.specs.Entries.{stamp_at}
use Rattle.gw_stamp.specs.Stamping.{time_in}
use Rattle.gw_stamp.specs.Stated.{names_of}
use Rattle.gw_stamp.proofs.stamps.Stamps.times.Goals as goal

pub returns : goal.returns
returns c =
    let stamps = stamp_at c.args.self.now in
    let s = c.s.inside in
    let seen : Statuses = record { classes = c.as_slice.result.now; gateways = s.gateways; routes = s.routes } in
    let same : seen ≡ c.args.s.now = search rules in
    subst (λ (t : Statuses). c.push_routes.new.times ≡ map (time_in stamps) (names_of t)) same
    (all_times stamps c.as_slice.result.now s.gateways s.routes c.new-times.result c.push_classes.new.times c.push_gateways.new.times c.push_routes.new.times
    c.new-times.ensures c.in_ok-push_classes.ensures c.in_ok-push_gateways.ensures c.in_ok-push_routes.ensures)
