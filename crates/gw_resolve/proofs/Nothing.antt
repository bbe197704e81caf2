-- A world without objects.
use Rattle.std.proofs.Common.{◌≡◌, ◌∙◌, ℕ, All, List, [], ◌∷◌, ap, map, refl, sym}
use Rattle.std.specs.List.Sorted.{IsStrictlySortedBy}
use Rattle.std.proofs.lemmas.List.Elements.{All-cons, All-nil}
use Rattle.gw_text.specs.model.Doors.{Door}
use Rattle.gw_text.specs.model.World.{World, nothing}
use Rattle.gw_rows.specs.model.DoorRows.{served_at}
use Rattle.gw_rows.specs.model.Rows.{ServedListener}
use Rattle.gw_kept.specs.Held.{ServedDoor, gateway_status_key, served_door, without_listeners}
use Rattle.gw_kept.specs.Places.{IsInOrder}

pub no_statuses : IsInOrder gateway_status_key []
unfolding IsStrictlySortedBy
no_statuses = tt

pub alone_doors : (doors : List Door) → map (λ (d : ServedDoor). d.door) (map without_listeners doors) ≡ doors
alone_doors [] = refl
alone_doors (d ∷ doors) = ap (λ (t : List Door). d ∷ t) (alone_doors doors)

none_served : (doors : List Door) (controller : List ℕ) (door : Door) → served_at doors controller nothing door ≡ []
unfolding served_at
none_served doors controller door = refl

-- doors without listeners are those of a world without objects
pub alone_left : (P : Door → Type 0) (doors : List Door) (controller : List ℕ) (w : World) → w ≡ nothing → (ds : List Door)
    → All (λ (d : ServedDoor). P d.door → d ≡ served_door doors controller w d.door) (map without_listeners ds)
alone_left P doors controller w is [] = All-nil (λ (d : ServedDoor). P d.door → d ≡ served_door doors controller w d.door)
alone_left P doors controller w is (d ∷ ds) =
    All-cons (λ (d : ServedDoor). P d.door → d ≡ served_door doors controller w d.door) (without_listeners d) (map without_listeners ds)
    (λ other. sym (ap (λ (ls : List ServedListener). record { door = d; listeners = ls }) (ap (λ (v : World). served_at doors controller v d) is ∙ none_served doors controller d)))
    (alone_left P doors controller w is ds)
