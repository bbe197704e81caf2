-- What was looked for stays so.
use Rattle.gw_messages.proofs.Sections.{fed_buffer}
use Rattle.gw_messages.proofs.buffer.Buffer.feed.Goals as goal

pub invariant_of-self : goal.invariant_of-self
invariant_of-self c = fed_buffer c.self.inside.start c.self.inside.bytes.items c.args.piece.now c.extend_from_slice.new.self.items _ _ _ _ c.extend_from_slice.ensures.items c.self.invariant
