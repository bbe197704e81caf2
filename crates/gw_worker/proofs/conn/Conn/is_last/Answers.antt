-- There are as many rows as requests before.
use Rattle.std.proofs.Common.{ℕ, ◌∙◌, ap, is_some, List, length, ◌+◌}
use Rattle.gw_answers.specs.model.ServedRows.{ServedRow}
use Rattle.gw_frames.specs.model.Requests.{end_behind}
use Rattle.gw_worker.proofs.Serving.{number_is}
use Rattle.gw_worker.proofs.conn.Conn.is_last.Goals as goal

pub returns : goal.returns
returns c = λ p parts text s.
    c.is_some.ensures ∙ ap is_some (c.end_behind.ensures ∙ ap (λ (n : ℕ). end_behind n c.args.request.now) (ap (λ (r : List ServedRow). length r + 1) c.as_slice.ensures ∙ number_is p c.args.self.now.rows parts text s))
