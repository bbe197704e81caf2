-- Where fewer bytes have come than the data of a chunk.
use Rattle.std.proofs.Common.{ℕ, List, length, sym, ap, ◌∙◌, subst}
use Rattle.gw_messages.specs.model.Bodies.{part_body}
use Rattle.gw_messages.specs.Readings.{Comes, waits_for_data}
use Rattle.gw_messages.specs.declared.body.Reading.{Reading}
use Rattle.gw_messages.proofs.Readings.{waiting}
use Rattle.gw_messages.proofs.body.Reading.waits.Goals as goal

pub returns-in-Chunked-clause-part : goal.returns-in-Chunked-clause-part
returns-in-Chunked-clause-part c = λ is.
    let d = c.in-Chunked.decoder in
    subst (λ (r : Reading). Comes r c.args.buffer.now part_body) (sym c.in-Chunked.is)
    (waiting d c.args.buffer.now (ap (λ (b : List ℕ). waits_for_data d (length b)) (sym c.bytes-count.ensures) ∙ sym c.waits.ensures ∙ is))
