-- No more bytes have come than a body may have.
use Rattle.std.proofs.Common.{ap, arith, length}
use Rattle.gw_messages.specs.model.Bodies.{part_body}
use Rattle.gw_messages.proofs.Readings.{not_many}
use Rattle.gw_messages.proofs.body.Decoder.part.Goals as goal

pub returns : goal.returns
returns c =
    (λ next body comes. comes, (part_body, c.requires, not_many c.args.self.now.limits.encoded c.args.self.now.taken c.args.buffer.now (omega (arith, ap length c.bytes.ensures))))
