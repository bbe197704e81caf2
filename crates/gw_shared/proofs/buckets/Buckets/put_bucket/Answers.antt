-- The bucket of that place is another, in a group of the same width.
use Rattle.std.proofs.Common.{◌≡◌, refl, rules, ◌<◌, ◌/◌, ◌%◌, length, set}
use Rattle.gw_shared.proofs.Groups.{kept, number_within, set_at, within_group}
use Rattle.gw_shared.proofs.buckets.Buckets.put_bucket.Goals as goal

pub index-requires : goal.index-requires
index-requires g c =
    let inside = c.self.inside in
    let within : c.args.hash % inside.count / inside.width < length inside.groups.items =
    number_within inside.width inside.groups.items c.args.hash inside.count c.args.self.now c.self.invariant c.self.view_is c.requires in
    search rules

pub with_bucket-requires : goal.with_bucket-requires
with_bucket-requires g c =
    let inside = c.self.inside in
    let within : c.args.hash % inside.count % inside.width < length c.index.result.now =
    within_group inside.width inside.groups.items c.args.hash inside.count c.args.self.now c.self.invariant c.self.view_is c.requires c.index.result.now c.index.ensures in
    rw c.deref.ensures within

pub index_mut-requires : goal.index_mut-requires
index_mut-requires g c =
    let inside = c.self.inside in
    let within : c.args.hash % inside.count / inside.width < length inside.groups.items =
    number_within inside.width inside.groups.items c.args.hash inside.count c.args.self.now c.self.invariant c.self.view_is c.requires in
    search rules

pub invariant_of-self : goal.invariant_of-self
invariant_of-self g c =
    let inside = c.self.inside in
    let own = c.index.result.now in
    let set_group : c.in_ok-group.group ≡ set own (c.args.hash % inside.count % inside.width) c.args.slots.items = search rules in
    kept inside.width inside.groups.items c.args.hash inside.count c.args.self.now c.self.invariant c.self.view_is
    own c.in_ok-group.group c.args.slots.items (set inside.groups.items (c.args.hash % inside.count / inside.width) c.in_ok-group.group) c.requires c.index.ensures set_group refl

pub returns-clause-set : goal.returns-clause-set
returns-clause-set g c =
    let inside = c.self.inside in
    let own = c.index.result.now in
    let set_group : c.in_ok-group.group ≡ set own (c.args.hash % inside.count % inside.width) c.args.slots.items = search rules in
    set_at inside.width inside.groups.items c.args.hash inside.count c.args.self.now c.self.invariant c.self.view_is
    own c.in_ok-group.group c.args.slots.items (set inside.groups.items (c.args.hash % inside.count / inside.width) c.in_ok-group.group) c.requires c.index.ensures set_group refl
