-- A body comes behind the head.
use Rattle.std.proofs.Common.{refl, ◌∙◌}
use Rattle.gw_replies.proofs.Replies.{goes_to_body, reads_open}
use Rattle.gw_replies.proofs.reader.ReplyReader.open_body.Goals as goal

pub returns-clause-goes : goal.returns-clause-goes
returns-clause-goes c =
    goes_to_body c.args.self.now _ c.args.size c.args.head c.requires.head c.requires.whole c.requires.reads c.requires.kind refl refl (c.make_room.ensures ∙ c.advance.ensures)
    (reads_open c.in_ok-stage.stage c.in_ok-stage.ensures.reads) c.in_ok-stage.ensures.still
