use Rattle.std.proofs.Common.{◌≡◌, ◌++◌, map}
use Rattle.serde_json.specs.View.{members_view}
use Rattle.gw_json.specs.Fields.{named_node, named_from}
use Rattle.gw_json.proofs.cursor.member_cursors.Given as goal

-- what came, and what is still to come
abbrev pub invariant-members : goal.invariant-members
invariant-members l = map named_node l.cursors.items ++ named_from l.path (members_view l.name-iterator) ≡ named_from l.path (members_view l.members.entries)
