-- What a view says of what is kept for a world.
use Rattle.std.proofs.Common.{◌≡◌, ◌∙◌, ℕ, All, List, ap, map, sym, subst}
use Rattle.gw_text.specs.model.Doors.{Door}
use Rattle.gw_text.specs.model.World.{World}
use Rattle.gw_eval.specs.Kept.{KeptRoute, kept_routes_of}
use Rattle.gw_kept.specs.Held.{DoorTables, Held, IsOf, served_by, served_door}

module _ (doors : List Door) (controller : List ℕ) (w : World) (h : Held) (kept : List KeptRoute) (ds : List DoorTables)
    (view : record { controller = controller; kept = kept; doors = map served_by ds } ≡ h) where
  pub doors_of : h.doors ≡ map (served_door doors h.controller w) doors → map served_by ds ≡ map (served_door doors controller w) doors
  doors_of served = ap (λ (g : Held). g.doors) view ∙ served ∙ ap (λ (g : Held). map (served_door doors g.controller w) doors) (sym view)

  kept_is : h.kept ≡ kept_routes_of h.controller w → kept ≡ kept_routes_of controller w
  kept_is is = ap (λ (g : Held). g.kept) view ∙ is ∙ ap (λ (g : Held). kept_routes_of g.controller w) (sym view)

  pub all_of : h.kept ≡ kept_routes_of h.controller w → All (λ (d : DoorTables). All (IsOf d.door kept) d.tables) ds
      → All (λ (d : DoorTables). All (IsOf d.door (kept_routes_of controller w)) d.tables) ds
  all_of is all = subst (λ (k : List KeptRoute). All (λ (d : DoorTables). All (IsOf d.door k) d.tables) ds) (kept_is is) all
