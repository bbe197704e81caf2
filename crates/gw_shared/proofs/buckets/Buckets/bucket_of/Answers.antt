-- The bucket stands in its group, if there is one.
use Rattle.std.proofs.Common.{◌≡◌, ◌∙◌, rules, ap, ◌%◌, ◌/◌, [], get_or}
use Rattle.gw_shared.proofs.Groups.{found_at}
use Rattle.gw_shared.proofs.buckets.Buckets.bucket_of.Goals as goal

pub returns-in-Some : goal.returns-in-Some
returns-in-Some g c =
    let inside = c.self.inside in
    let place = c.args.hash % inside.count in
    let group : c.deref-in-Some.result.now ≡ get_or inside.groups.items (place / inside.width) [] = search rules in
    c.bucket.ensures
    ∙ ap (λ own. get_or own (place % inside.width) []) group
    ∙ found_at inside.width inside.groups.items c.args.hash inside.count c.args.self.now c.self.invariant c.self.view_is []

pub returns-in-None : goal.returns-in-None
returns-in-None g c =
    let inside = c.self.inside in
    let place = c.args.hash % inside.count in
    let group : [] ≡ get_or inside.groups.items (place / inside.width) [] = search rules in
    ap (λ own. get_or own (place % inside.width) []) group
    ∙ found_at inside.width inside.groups.items c.args.hash inside.count c.args.self.now c.self.invariant c.self.view_is []
