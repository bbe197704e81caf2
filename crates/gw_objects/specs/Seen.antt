-- How the values of the code stand for the plain records.
use Rattle.std.specs.Prelude.{List, map}
use Rattle.gw_labels.specs.Selectors.{Requirement as Asked}
use Rattle.gw_labels.specs.declared.selector.Op.{Op as Operator}
use Rattle.gw_labels.specs.declared.selector.Op.TheVariants.{In, NotIn, Exists, DoesNotExist}
use Rattle.gw_text.specs.model.Selectors.{Op, is_in, is_not_in, key_exists, key_does_not_exist, Requirement}

-- An operator.
abbrev pub seen_op : Operator → Op
seen_op In = is_in
seen_op NotIn = is_not_in
seen_op Exists = key_exists
seen_op DoesNotExist = key_does_not_exist

-- A requirement.
abbrev pub seen_requirement : Asked → Requirement
seen_requirement r = record { key = r.key; op = seen_op r.op; values = r.values }

-- A selector, as the list of its requirements.
abbrev pub seen_selector : List Asked → List Requirement
seen_selector s = map seen_requirement s
