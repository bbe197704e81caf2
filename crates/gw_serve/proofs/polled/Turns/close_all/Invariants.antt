-- Those so far are closed.
use Rattle.std.proofs.Common.{◌≡◌, ◌&&◌, ℕ, map, not}
use Rattle.gw_polling.specs.Rings.{is_among}
use Rattle.gw_serve.proofs.polled.Turns.close_all.Given as goal

abbrev pub invariant-gone : goal.invariant-gone
invariant-gone g l = record {
  closed : (number : ℕ) → is_among number (g.G.Ring.open_numbers l.self.ring)
      ≡ (is_among number (g.G.Ring.open_numbers l.fn.self.ring) && not (is_among number (map (λ parted. parted.number) l.yielded)));
  given : g.G.Ring.given_numbers l.self.ring ≡ g.G.Ring.given_numbers l.fn.self.ring;
  crowd : l.self.crowd ≡ l.fn.self.crowd;
  left : l.self.left ≡ l.fn.self.left;
}
