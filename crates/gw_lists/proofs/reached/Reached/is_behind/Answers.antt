use Rattle.std.proofs.Common.{◌≡◌, ◌∙◌, List, ap, subst}
use Rattle.gw_lists.specs.Lists.{BeginsWith, SoFar}
use Rattle.gw_lists.proofs.Beginnings.{begins_with-prefix, begins_with-shorter}
use Rattle.gw_lists.proofs.reached.Reached.is_behind.Goals as goal

pub returns : goal.returns
returns g c =
    let C = g.row.C.Denot in
    let mine = c.args.self.now.list in
    let theirs = c.args.other.now.list in
    let both = c.learn.new.self.log in
    let my_log : c.again-both.result.log ≡ mine = ap (λ s. s.log) c.again-both.ensures ∙ ap (λ (s : SoFar C). s.list) c.self.view_is in
    let their_log : c.other.inside.token.log ≡ theirs = ap (λ (s : SoFar C). s.list) c.other.view_is in
    let first : BeginsWith mine both = subst (λ (l : List C). BeginsWith l both) my_log (begins_with-prefix c.again-both.result.log both c.learn.ensures.2) in
    let second : BeginsWith theirs both = subst (λ (l : List C). BeginsWith l both) their_log (begins_with-prefix c.other.inside.token.log both c.learn.ensures.3) in
    begins_with-shorter mine theirs both first second c.requires.longer
