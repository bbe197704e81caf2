use Rattle.std.proofs.Common.{◌≡◌, ◌∙◌, ap, reverse}
use Rattle.std.specs.Arc.{arc_value}
use Rattle.left_right.specs.Sides.{view}
use Rattle.gw_snap.specs.declared.known.Known.{Known}
use Rattle.gw_snap.specs.Lists.{Lists, Seen, SoFar, copies, fresh}
use Rattle.gw_snap.proofs.ListLemmas.{reverse-copies}
use Rattle.gw_snap.proofs.opening.RuledPublisher+T+Shown+T+T+Change+OneOpening+R.open_passes.Goals as goal

pub returns-clause-passes : goal.returns-clause-passes
returns-clause-passes g c =
    let C = g.row.T-Change.Denot in
    let F = g.row.T-Fixed.Denot in
    let seen = c.reached-seen.result in
    let one : Seen C F = fresh (view c.self.inside.shown.writer.desk.place).fixed seen.book in
    let same = ap (λ (k : Known F). fresh k.fixed seen.book) c.self.invariant.knows
    ∙ ap (λ (list : SoFar C). fresh (g.T.Told.fixed (arc_value c.self.inside.newest.value)) list.book) c.reached-seen.ensures
    ∙ ap (λ (l : Lists C F). fresh l.fixed l.book) c.self.view_is in
    c.new.ensures ∙ ap reverse c.in_ok-left.ensures.passes ∙ reverse-copies c.args.places one ∙ ap (λ (pass : Seen C F). copies c.args.places pass) same
