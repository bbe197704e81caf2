-- What is known of all codings.
use Rattle.std.proofs.Common.{◌∙◌, ap, fold, arith}
use Rattle.gw_messages.specs.model.Values.{codings}
use Rattle.gw_messages.specs.Codings.{note, no_coding}
use Rattle.gw_messages.specs.declared.coding.Coded.{Coded}
use Rattle.gw_messages.proofs.CodingLists.{all_fields, many_is, chunked_is}
use Rattle.gw_messages.proofs.coding.codings_of.Goals as goal

pub returns-clause-many : goal.returns-clause-many
returns-clause-many c =
    ap (λ (d : Coded). d.many) (all_fields c.fields.found (fold note no_coding (codings c.args.fields.now)) c.fields.field-index c.args.fields.now (omega arith) c.fields.invariant) ∙ many_is (codings c.args.fields.now)

pub returns-clause-chunked : goal.returns-clause-chunked
returns-clause-chunked c =
    ap (λ (d : Coded). d.chunked) (all_fields c.fields.found (fold note no_coding (codings c.args.fields.now)) c.fields.field-index c.args.fields.now (omega arith) c.fields.invariant) ∙ chunked_is (codings c.args.fields.now)
