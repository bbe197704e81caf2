-- One more is closed.
use Rattle.std.proofs.Common.{◌∙◌, ◌∷◌, ◌&&◌, [], ap, map, not, sym}
use Rattle.std.proofs.lemmas.List.{map-append}
use Rattle.gw_poll.specs.declared.crowd.Parted.{Parted}
use Rattle.gw_polling.specs.Rings.{is_among}
use Rattle.gw_serve.proofs.Polling.{closed_more}
use Rattle.gw_serve.proofs.polled.Turns.close_all.Goals as goal

pub gone-preserved : goal.gone-preserved
gone-preserved g c =
    let before = g.G.Ring.open_numbers c.args.self.now.ring in
    let i = c.gone.invariant in
    record {
      closed = λ number.
          closed_more number c.in-Some.parted.number before (g.G.Ring.open_numbers c.gone.self.ring) (g.G.Ring.open_numbers c.close.new.self) (map (λ parted. parted.number) c.gone.yielded)
          c.close.ensures.closes (i.closed number)
          ∙ ap (λ l. is_among number before && not (is_among number l)) (sym (map-append (λ (parted : Parted g.row.K.Denot g.row.V.Denot). parted.number) c.gone.yielded (c.in-Some.parted ∷ [])));
      given = c.close.ensures.given ∙ i.given;
      crowd = i.crowd;
      left = i.left;
    }
