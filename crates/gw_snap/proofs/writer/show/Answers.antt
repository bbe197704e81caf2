use Rattle.std.proofs.Common.{◌≡◌, List, [], ◌∷◌, ◌++◌, sym, ap, ◌∙◌, fold, drop}
use Rattle.std.specs.Arc.{arc_value}
use Rattle.gw_snap.specs.Readers.{known}
use Rattle.gw_snap.proofs.Ruling.{both_cases, fold_last, publishes}
use Rattle.gw_snap.proofs.writer.show.Goals as goal

pub publish_as-requires : goal.publish_as-requires
publish_as-requires g c next is =
    let own = c.in-Ok.ensures {u = tt} in
    let now = c.append.new.self.desk.shown.value in
    let last : (arc_value next.value, next.list) ≡ (arc_value c.args.next.value, c.args.next.list) = is ∙ ap (λ l. fold (λ s x. (arc_value x.value, x.list)) (arc_value now.value, now.list) l) own.pending
    ∙ fold_last (λ x. (arc_value x.value, x.list)) (arc_value now.value, now.list) (drop c.args.writer.behind c.args.writer.log.items) c.args.next in
    publishes (λ x. ∥ g.T.Told.tells (arc_value x.value) x.list.list ∥₁) (λ x. x.list.book) (λ x. g.T.Told.fixed (arc_value x.value)) g.T.Told.blank _ _ now next
    (rw (ap (λ p. p.0) last, ap (λ p. p.1) last) c.requires.tells)
    (ap (λ p. p.1.book) last ∙ (c.requires.book ∙ sym (ap (λ d. d.shown.value.list.book) own.desk)))
    (ap (λ p. g.T.Told.fixed p.0) last ∙ (c.requires.fixed ∙ sym (ap (λ d. g.T.Told.fixed (arc_value d.shown.value.value)) own.desk)))

pub returns : goal.returns
returns g c =
    let own = c.in-Ok.ensures {u = tt} in
    let now = c.append.new.self.desk.shown.value in
    let to = c.publish_as.result.0.desk.shown.value in
    let steps = ap (λ l. fold (λ s x. (arc_value x.value, x.list)) (arc_value now.value, now.list) l) own.pending
    ∙ fold_last (λ x. (arc_value x.value, x.list)) (arc_value now.value, now.list) (drop c.args.writer.behind c.args.writer.log.items) c.args.next in
    record {
      shown = both_cases c.publish_as.result.1 c.publish_as.ensures.values c.publish_as.ensures.rule
          (λ a b. let last : (arc_value to.value, to.list) ≡ (arc_value c.args.next.value, c.args.next.list) = a.0 ∙ steps in
          (ap (λ p. p.1) last, ap (λ p. g.T.Told.fixed p.0) last, b ∙ ap (λ p. known p.1.book (g.T.Told.fixed p.0)) last))
          (λ a b. (a.0 ∙ ap (λ d. d.shown.value) own.desk, b ∙ ap (λ d. d.place.me.0.client) own.desk));
    }
