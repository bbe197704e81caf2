-- A parentRef more gives its entry, or none.
use Rattle.std.proofs.Common.{◌≡◌, ◌∙◌, ◌<◌, sym, rules, length, get_or, take}
use Rattle.std.specs.List.{filter_map}
use Rattle.gw_text.specs.model.Statuses.{entry_of}
use Rattle.gw_eval.proofs.Growing.{entries_more, filter_map_more, placed_more}
use Rattle.gw_eval.proofs.entries.entries_by.Goals as goal

pub parents-preserved : goal.parents-preserved
parents-preserved c =
    let world = c.args.world.now.world in
    let refs = c.args.route.now.parent_refs in
    let i = c.parents.parent-index in
    let item = c.parent-item.result in
    let of = entry_of c.args.controller.now world c.args.labels.now c.args.route.now in
    let within : i < length refs = search rules in
    let here : item ≡ get_or refs i item = search rules in
    let entry = c.in_ok-found.ensures in
    record {
      entries = rw c.in_ok-push_some.ensures
          (entries_more c.parents.all.items c.in_ok-found.found (of item) (filter_map of (take i refs)) c.parents.invariant.entries entry.entry
          ∙ sym (filter_map_more of refs i item within here));
      placed = rw c.in_ok-push_some.ensures (placed_more world c.parents.all.items c.in_ok-found.found c.parents.invariant.placed entry.placed);
    }
