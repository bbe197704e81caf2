-- The copies so far are those of the fields so far.
use Rattle.std.proofs.Common.{◌≡◌, take}
use Rattle.gw_route.proofs.copies.copy_fields.Given as goal

abbrev pub invariant-fields : goal.invariant-fields
invariant-fields l = l.copy ≡ take l.field-index l.fields
