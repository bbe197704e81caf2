use Rattle.std.proofs.Common.{◌≡◌, ◌∙◌, List, [], ◌∷◌, ◌++◌, ap}
use Rattle.left_right.specs.Sides.{view}
use Rattle.gw_snap.specs.declared.known.Known.{Known}
use Rattle.gw_snap.specs.Lists.{Seen, SoFar, copies, fresh}
use Rattle.gw_snap.proofs.ListLemmas.{copies-snoc}
use Rattle.gw_snap.proofs.opening.fresh_passes.Goals as goal

pub places-preserved : goal.places-preserved
places-preserved g c =
    let C = g.row.T-Change.Denot in
    let F = g.row.T-Fixed.Denot in
    let seen = c.args.seen.now in
    let one : Seen C F = fresh (view c.args.writer.now.desk.place).fixed seen.book in
    let knows = c.in_ok-reader.ensures.reader ∙ c.places.invariant.0 in
    let same : c.new.result ≡ one = c.new.ensures
    ∙ ap (λ (list : SoFar C). fresh (view c.in_ok-reader.reader.place).fixed list.book) c.again.ensures
    ∙ ap (λ (k : Known F). fresh k.fixed seen.book) knows in (
      c.in_ok-reader.ensures.knows ∙ c.places.invariant.0,
      c.in_ok-reader.ensures.shown ∙ c.places.invariant.1,
      c.in_ok-push.ensures.items ∙ ap (λ (passes : List (Seen C F)). passes ++ c.new.result ∷ []) c.places.invariant.2
          ∙ ap (λ (pass : Seen C F). copies c.places._place one ++ pass ∷ []) same ∙ copies-snoc c.places._place one,
    )
