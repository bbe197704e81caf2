-- At the start all is left; with each entry what is left of it is appended.
use Rattle.std.proofs.Common.{◌≡◌, ◌++◌, ◌<◌, ap, rules, List, length, get_or, filter}
use Rattle.gw_text.specs.model.Fields.{Field}
use Rattle.gw_filters.specs.model.Editing.{first_entries, is_new_to}
use Rattle.gw_filters.proofs.Entries.{appended_more, left_at_start}
use Rattle.gw_filters.proofs.edits.append_new.Goals as goal

pub entries-init : goal.entries-init
entries-init c = ap (λ (fields : List Field). c.args.set.now ++ fields) (left_at_start (is_new_to c.args.fields.now) c.args.entries.now)

pub entries-preserved : goal.entries-preserved
entries-preserved c =
    let entries = c.args.entries.now in
    let i = c.entries.index in
    let entry = c.index-entries-index.result in
    let within : i < length entries = search rules in
    let here : entry ≡ get_or entries i entry = search rules in
    let all = c.args.set.now ++ filter (is_new_to c.args.fields.now) (first_entries entries) in
    appended_more (is_new_to c.args.fields.now) entries i entry c.entries.set c.push_new.new.set all within here c.entries.invariant c.in_ok-push_new.ensures
