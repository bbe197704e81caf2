use Rattle.std.proofs.Common.{◌≡◌, sym, ◌∙◌, ap, length}
use Rattle.gw_lists.proofs.Adding.{adds_moves}
use Rattle.gw_lists.proofs.writer.ListWriter.add.Goals as goal

pub compare_exchange-found-requires : goal.compare_exchange-found-requires
compare_exchange-found-requires g c =
    let head = c.self.invariant in
    let token = c.token-token in
    let offer = c.plain-offer.ensures in
    let pen = c.no_pen-pen.ensures in
    let book : token.result.book ≡ c.self.inside.head.book = token.ensures.book ∙ sym (ap (λ w. w.book) head) in
    let count : length token.result.log ≡ c.front-count.result = ap length token.ensures.list ∙ sym c.front-count.ensures in (
      ap (λ w. w.tracked) head,
      book,
      pen.0 ∙ book,
      offer.0,
      rw (ap (λ w. w.key) head, pen.1, offer.1, offer.3) (adds_moves token.result.log c.args.change.now c.front-count.result count),
    )
