-- What comes of a chunked body, whose bytes that were taken are given back.
use Rattle.std.proofs.Common.{ℕ, List, sym, subst}
use Rattle.gw_messages.specs.Readings.{IsProgress}
use Rattle.gw_messages.specs.declared.body.Reading.{Reading}
use Rattle.gw_messages.specs.declared.body.Reading.TheVariants.{Chunked}
use Rattle.gw_messages.proofs.body.Reading.read.Goals as goal

pub returns-in_ok-progress-in-Chunked-clause-progress : goal.returns-in_ok-progress-in-Chunked-clause-progress
returns-in_ok-progress-in-Chunked-clause-progress c =
    let progress = c.in_ok-progress-in-Chunked.progress in
    let new = Chunked c.read.new.self in
    subst (λ (b : List ℕ). IsProgress c.args.self.now c.args.buffer.now new b progress) (sym c.shrink.ensures)
    (subst (λ (r : Reading). IsProgress r c.args.buffer.now new c.read.new.buffer progress) (sym c.in-Chunked.is) c.in_ok-progress-in-Chunked.ensures.progress)
