-- A field of one name or the other.
use Rattle.std.proofs.Common.{◌∙◌, codes}
use Rattle.gw_text.specs.model.Fields.{Field, same_field_name}
use Rattle.gw_frames.proofs.Framing.{any_of}
use Rattle.gw_frames.proofs.rules.is_framed.Goals as goal

pub returns : goal.returns
returns c =
    c.names_body.ensures
    ∙ any_of (λ (f : Field). same_field_name f.name (codes "transfer-encoding")) (λ (f : Field). same_field_name f.name (codes "content-length")) c.args.fields.now
