use Rattle.std.proofs.Common.{◌≡◌, fold, drop}
use Rattle.gw_messages.specs.model.Values.{codings}
use Rattle.gw_messages.specs.Codings.{note, no_coding}
use Rattle.gw_messages.proofs.coding.codings_of.Given as goal

abbrev pub invariant-fields : goal.invariant-fields
invariant-fields l = fold note l.found (codings (drop l.field-index l.fields)) ≡ fold note no_coding (codings l.fields)
