-- How many items and members a value has, under names that an attribute can cite.
use Rattle.std.proofs.Common.{◌≡◌, List, String, Global, length}
use Rattle.serde_json.proofs.Views.{items_len-items_view, members_len-members_view}
use Rattle.serde_json.specs.Events.{items_len, members_len}
use Rattle.serde_json.specs.View.{items_view, members_view}
use Rattle.serde_json.specs.declared.value.Value.{Value}

pub items_len_is : (vs : List Value) → items_len (items_view vs) ≡ length vs
items_len_is vs = items_len-items_view vs

pub members_len_is : (es : List (String Global × Value)) → members_len (members_view es) ≡ length es
members_len_is es = members_len-members_view es
