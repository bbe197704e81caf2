-- A field of an object that was found there.
use Rattle.serde_json.specs.View.{view}
use Rattle.gw_json.specs.declared.member.Member.{Member}
use Rattle.gw_json.specs.Fields.{Node}
use Rattle.gw_json.specs.Paths.{member_path}

-- what it stands for
abbrev pub node_of_member : Member → Node
node_of_member m = record { value = view m.value.now; path = member_path m.object.now.path m.name.now }
