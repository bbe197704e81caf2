-- The meaning of a selector as its own crate has it, and as the model has it.
use Rattle.std.proofs.Common.{◌≡◌, ℕ, List, [], ◌∷◌, Option, Some, None, refl}
use Rattle.std.specs.List.{list_all}
use Rattle.gw_labels.specs.Selectors.{Requirement, selects, holds}
use Rattle.gw_labels.specs.declared.selector.Op.{Op}
use Rattle.gw_labels.specs.declared.selector.Op.TheVariants.{In, NotIn, Exists, DoesNotExist}
use Rattle.gw_text.specs.model.Selectors.{label_of, op_holds, is_required_of}
use Rattle.gw_objects.specs.Seen.{seen_op, seen_selector}

-- An operator means the same in both.
op_is : (op : Op) (values : List (List ℕ)) (found : Option (List ℕ)) → holds op values found ≡ op_holds (seen_op op) values found
op_is In values None = refl
op_is In values (Some value) = refl
op_is NotIn values None = refl
op_is NotIn values (Some value) = refl
op_is Exists values found = refl
op_is DoesNotExist values found = refl

-- A selector accepts the same labels in both.
pub selects_is : (s : List Requirement) (labels : List (List ℕ × List ℕ)) → selects s labels ≡ list_all (is_required_of labels) (seen_selector s)
selects_is [] labels = refl
selects_is (r ∷ s) labels = rw (op_is r.op r.values (label_of r.key labels), selects_is s labels) refl
