-- The lines are those of the reply.
use Rattle.std.proofs.Common.{◌∙◌, option_copied}
use Rattle.gw_replies.proofs.Messages.{own_by}
use Rattle.gw_replies.proofs.write.write_own.Goals as goal

pub returns : goal.returns
returns c =
    own_by c.args.code (option_copied c.args.location) c.args.fault c.args.close
    c.as_bytes.result.now c.from_vec.result c.new-out.result.items c.push_status_line.new.out.items c.push_location.new.out.items
    c.push_fault.new.out.items c.push_length.new.out.items c.push_close.new.out.items
    c.new-out.ensures.items (c.as_bytes.ensures.value ∙ c.phrase_of.ensures) c.in_ok-push_status_line.ensures c.in_ok-push_location.ensures
    c.in_ok-push_fault.ensures c.in_ok-push_length.ensures c.in_ok-push_close.ensures (c.from_vec.ensures ∙ c.in_ok-push_body.ensures)
