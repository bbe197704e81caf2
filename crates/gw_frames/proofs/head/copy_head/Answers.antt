-- Which head the bytes are.
use Rattle.std.proofs.Common.{refl, ◌∙◌}
use Rattle.gw_messages.proofs.FieldSpans.{weaker}
use Rattle.gw_frames.proofs.HeadBytes.{other_head, head_found}
use Rattle.gw_frames.proofs.head.copy_head.Goals as goal

pub returns-then-head-bytes : goal.returns-then-head-bytes
returns-then-head-bytes c = λ h reads.
    other_head c.args.bytes.now c.args.spans.now c.args.head.now h c.requires.found c.requires.within.section.len_fits c.if-head-bytes.true reads

pub copy_fields-requires : goal.copy_fields-requires
copy_fields-requires c = weaker c.args.head.now.len _ _ c.requires.within.section.len_fits c.requires.within.section.headers_fit

pub returns : goal.returns
returns c =
    head_found c.args.bytes.now c.args.spans.now c.args.head.now _ c.requires.found c.if-head-bytes.false
    (c.in_ok-method.ensures ∙ c.of.ensures) (c.in_ok-target.ensures ∙ c.of-2.ensures) refl c.in_ok-fields.ensures
