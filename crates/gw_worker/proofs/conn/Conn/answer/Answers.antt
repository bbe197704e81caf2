-- The answer is kept with what is known of the request.
use Rattle.std.proofs.Common.{sym, ◌∙◌}
use Rattle.gw_worker.proofs.Serving.{answered, asked_at}
use Rattle.gw_worker.proofs.conn.Conn.answer.Goals as goal

pub returns-in-Asking-clause-stands : goal.returns-in-Asking-clause-stands
returns-in-Asking-clause-stands c = λ p bytes parts text s.
    answered c.args.self.now c.in-Asking.asked c.args.answer p bytes parts text s (sym c.replace.ensures.value ∙ c.in-Asking.is)

pub returns-in_default : goal.returns-in_default
returns-in_default c =
    let at = asked_at c.args.self.now.stage c.requires in
    absurd (c.in_default.not-Asking at.0 (c.replace.ensures.value ∙ at.1))
