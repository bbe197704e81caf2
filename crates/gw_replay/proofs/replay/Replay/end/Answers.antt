-- The last line.
use Rattle.std.proofs.Common.{◌∙◌, ◌++◌, ℕ, List, ap, length, string_bytes}
use Rattle.serde_json.specs.Written.{has_float}
use Rattle.gw_json.specs.Lines.{line_of}
use Rattle.gw_replay.proofs.Floats.{totals_have_no_float}
use Rattle.gw_replay.proofs.Keeping.{totals_are}
use Rattle.gw_replay.proofs.replay.Replay.end.Goals as goal

pub push_line-requires : goal.push_line-requires
push_line-requires g c = ap has_float c.in_ok-value.ensures
    ∙ totals_have_no_float (length c.args.self.now.controller.changes) (length c.args.self.now.controller.published) c.args.self.now.refused c.args.self.now.statuses.items c.args.self.now.skipped

pub returns-clause-text : goal.returns-clause-text
returns-clause-text g c = λ s k.
    c.in_ok-push_line.ensures.ok ∙ ap (λ (line : List ℕ). string_bytes c.args.self.now.text ++ line) (ap line_of c.in_ok-value.ensures ∙ totals_are c.args.self.now s k)
