-- What is told of each key while the touched ones are evaluated one after the other.
use Rattle.std.proofs.Common.{◌≡◌, ◌∙◌, ℕ, All, ◌+◌, ◌<◌, ◌≤◌, add-one, true, false, Bool, List, [], ◌∷◌, Option, drop, get_or, length, map, refl, sym, ap, ap₂, inl, inr}
use Rattle.std.specs.Prelude.{if◌then◌else◌}
use Rattle.std.proofs.Math.Seq.{drop-cons}
use Rattle.std.proofs.lemmas.List.{drop_all}
use Rattle.std.proofs.lemmas.List.Elements.{All-head, All-tail}
use Rattle.gw_text.specs.model.Doors.{Door}
use Rattle.gw_text.specs.model.Names.{Key, same_key}
use Rattle.gw_text.specs.model.World.{World}
use Rattle.gw_deps.specs.Edges.{has_key}
use Rattle.gw_deps.proofs.Replacing.{key_is}
use Rattle.gw_kept.proofs.Alike.{either}
use Rattle.gw_eval.specs.Kept.{kept_routes_of}
use Rattle.gw_kept.specs.Held.{Held, ServedDoor, served_anew, served_door}
use Rattle.gw_resolve.specs.Cores.{held_of}

from_place : (keys : List Key) (i : ℕ) (e : Key) → i < length keys → e ≡ get_or keys i e → drop i keys ≡ e ∷ drop (i + 1) keys
from_place keys i e within here = rw (drop-cons keys i e within, ← here, add-one) refl

-- a key more
pub told_more : {X : Type 0} (f found now : Key → Option X) (keys : List Key) (i : ℕ) (e : Key) → i < length keys → e ≡ get_or keys i e
    → ((k : Key) → has_key k (drop i keys) ≡ false → found k ≡ f k) → ((k : Key) → now k ≡ (if same_key e k then f e else found k))
    → (k : Key) → has_key k (drop (i + 1) keys) ≡ false → now k ≡ f k
told_more f found now keys i e within here told is k other = elim (either (same_key e k)) [
  | inl same ↦ (is k ∙ rw same (ap f (key_is e k same)))
  | inr apart ↦
      (let others : has_key k (drop i keys) ≡ false = rw (from_place keys i e within here, apart) other in
      is k ∙ rw apart (told k others))
]

-- behind the last of the touched keys each key is told what it is to be
pub told_all : {X : Type 0} (f found : Key → Option X) (keys : List Key) (i : ℕ) → length keys ≤ i → ((k : Key) → has_key k (drop i keys) ≡ false → found k ≡ f k) → (k : Key) → found k ≡ f k
told_all f found keys i past told k = told k (ap (has_key k) (drop_all i keys past))

module _ (doors : List Door) (controller : List ℕ) (w : World) where
  -- the door; if it is one of these Gateways, with its served listeners in the world
  abbrev pub anew_by : List Key → ServedDoor → ServedDoor
  anew_by keys d = if has_key d.door.gateway keys then served_door doors controller w d.door else d

  anew_first : (e : Key) (keys : List Key) (d : ServedDoor) (first later : Bool) → same_key e d.door.gateway ≡ first → has_key d.door.gateway keys ≡ later
      → anew_by keys (served_anew doors controller w e d) ≡ anew_by (e ∷ keys) d
  anew_first e keys d true true here there = rw (here, there) refl
  anew_first e keys d true false here there = rw (here, there) refl
  anew_first e keys d false true here there = rw (here, there) refl
  anew_first e keys d false false here there = rw (here, there) refl

  map_first : (e : Key) (keys : List Key) (ds : List ServedDoor) → map (anew_by keys) (map (served_anew doors controller w e) ds) ≡ map (anew_by (e ∷ keys)) ds
  map_first e keys [] = refl
  map_first e keys (d ∷ ds) = ap₂ (λ t ts. t ∷ ts) (anew_first e keys d (same_key e d.door.gateway) (has_key d.door.gateway keys) refl refl) (map_first e keys ds)

  -- a Gateway more
  pub doors_more : (keys : List Key) (i : ℕ) (e : Key) (before after all : List ServedDoor) → i < length keys → e ≡ get_or keys i e
      → map (anew_by (drop i keys)) before ≡ all → after ≡ map (served_anew doors controller w e) before → map (anew_by (drop (i + 1) keys)) after ≡ all
  doors_more keys i e before after all within here are more =
      ap (map (anew_by (drop (i + 1) keys))) more ∙ map_first e (drop (i + 1) keys) before
      ∙ ap (λ ks. map (anew_by ks) before) (sym (from_place keys i e within here)) ∙ are

  none_anew : (ds : List ServedDoor) → map (anew_by []) ds ≡ ds
  none_anew [] = refl
  none_anew (d ∷ ds) = ap (λ (t : List ServedDoor). d ∷ t) (none_anew ds)

  -- in the end all are served
  pub doors_end : (keys : List Key) (i : ℕ) (ds all : List ServedDoor) → length keys ≤ i → map (anew_by (drop i keys)) ds ≡ all → ds ≡ all
  doors_end keys i ds all past are =
      sym (none_anew ds) ∙ ap (λ (ks : List Key). map (anew_by ks) ds) (sym (drop_all i keys past)) ∙ are

  left_one : (keys : List Key) (d : ServedDoor) → (has_key d.door.gateway keys ≡ false → d ≡ served_door doors controller w d.door) → anew_by keys d ≡ served_door doors controller w d.door
  left_one keys d left = elim (either (has_key d.door.gateway keys)) [
    | inl touched ↦ (rw touched refl)
    | inr other ↦ (rw other (left other))
  ]

  pub doors_left : (keys : List Key) (ds : List ServedDoor) → All (λ d. has_key d.door.gateway keys ≡ false → d ≡ served_door doors controller w d.door) ds
      → map (anew_by keys) ds ≡ map (λ d. served_door doors controller w d.door) ds
  doors_left keys [] all = refl
  doors_left keys (d ∷ ds) all =
      ap₂ (λ (t : ServedDoor) (ts : List ServedDoor). t ∷ ts)
      (left_one keys d (All-head (λ d. has_key d.door.gateway keys ≡ false → d ≡ served_door doors controller w d.door) d ds all))
      (doors_left keys ds (All-tail (λ d. has_key d.door.gateway keys ≡ false → d ≡ served_door doors controller w d.door) d ds all))

  pub doors_of_served : (ds : List Door) → map (λ (d : ServedDoor). d.door) (map (served_door doors controller w) ds) ≡ ds
  doors_of_served [] = refl
  doors_of_served (d ∷ ds) = ap (λ (t : List Door). d ∷ t) (doors_of_served ds)

  served_of_doors : (ds : List ServedDoor) → map (λ d. served_door doors controller w d.door) ds ≡ map (served_door doors controller w) (map (λ (d : ServedDoor). d.door) ds)
  served_of_doors [] = refl
  served_of_doors (d ∷ ds) = ap (λ (t : List ServedDoor). served_door doors controller w d.door ∷ t) (served_of_doors ds)

  -- all is that of the objects
  pub all_kept : (former routes kept : Held) → former.controller ≡ controller → map (λ (d : ServedDoor). d.door) former.doors ≡ doors
      → routes ≡ record former { kept = kept_routes_of former.controller w }
      → kept ≡ record routes { doors = map (λ d. served_door doors routes.controller w d.door) routes.doors } → kept ≡ held_of doors controller w
  all_kept former routes kept name same evaluated served =
      served
      ∙ ap (λ (r : Held). record r { doors = map (λ d. served_door doors r.controller w d.door) r.doors }) evaluated
      ∙ ap (λ (n : List ℕ). record { controller = n; kept = kept_routes_of n w; doors = map (λ d. served_door doors n w d.door) former.doors }) name
      ∙ ap (λ (ss : List ServedDoor). record { controller = controller; kept = kept_routes_of controller w; doors = ss })
      (served_of_doors former.doors ∙ ap (map (served_door doors controller w)) same)
