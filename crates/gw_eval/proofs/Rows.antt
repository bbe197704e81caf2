-- What stands at a place of a list that is made from another.
use Rattle.std.proofs.Common.{◌≡◌, ◌∙◌, sym, ap, refl, ℕ, zero, suc, ◌+◌, ◌<◌, length, List, [], ◌∷◌, ◌++◌, drop, map, get_or, arith, add-one}
use Rattle.std.specs.List.{enumerate_from}
use Rattle.std.proofs.Math.Seq.{drop-cons}
use Rattle.std.proofs.lemmas.List.{length-map, length-replicate, get_or-map, get_or-replicate}
use Rattle.std.proofs.lemmas.List.FromFn.{length-enumerate_from, get_or-enumerate_from}
use Rattle.gw_text.specs.model.Gateways.{Listener, Gateway}
use Rattle.gw_text.specs.model.Doors.{Door}
use Rattle.gw_text.specs.model.Listeners.{ListenerState, listener_state, listener_states}
use Rattle.gw_text.specs.model.Stored.{Stored}
use Rattle.gw_text.specs.model.Statuses.{ListenerStatus, attached_at, listener_statuses_of}
use Rattle.gw_text.specs.model.World.{World}
use Rattle.gw_eval.specs.Counting.{AreRows, no_numbers, number_at}

-- there is a state for each listener
pub states_length : (doors : List Door) (g : Gateway) → length (listener_states doors g) ≡ length g.listeners
unfolding listener_states
states_length doors g = length-map (enumerate_from 0 g.listeners) (λ p. listener_state doors g p.0 p.1) ∙ length-enumerate_from 0 g.listeners

from_zero : (n : ℕ) → 0 + n ≡ n
from_zero n = omega arith

-- the state at a place is that of the listener there
pub state_at : (doors : List Door) (g : Gateway) (place : ℕ) (d : ListenerState) (e : Listener) → place < length g.listeners →
    get_or (listener_states doors g) place d ≡ listener_state doors g place (get_or g.listeners place e)
unfolding listener_states
state_at doors g place d e within =
    get_or-map (λ p. listener_state doors g p.0 p.1) (enumerate_from 0 g.listeners) place (0, e) d (rw (length-enumerate_from 0 g.listeners) within)
    ∙ ap (λ (p : ℕ × Listener). listener_state doors g p.0 p.1) (get_or-enumerate_from 0 g.listeners place (0, e) within)
    ∙ ap (λ n. listener_state doors g n (get_or g.listeners place e)) (from_zero place)

-- two statuses of listeners are the same where they are so at each place
pub statuses_alike : (f g : ℕ × Listener → ListenerStatus) (n : ℕ) (ls : List Listener) →
    ((place : ℕ) (l : Listener) → place < n + length ls → f (place, l) ≡ g (place, l)) → map f (enumerate_from n ls) ≡ map g (enumerate_from n ls)
statuses_alike f g n [] alike = refl
statuses_alike f g n (l ∷ ls) alike =
    rw (alike n l (omega arith)) (ap (λ t. g (n, l) ∷ t) (statuses_alike f g (n + 1) ls (λ place m within. alike place m (omega arith))))

-- the statuses with these numbers are those of the Gateway
pub statuses_with : (doors : List Door) (controller : List ℕ) (w : World) (g : Gateway) (attached : List ℕ) (all : List ListenerStatus) →
    length attached ≡ length g.listeners →
    ((place : ℕ) → place < length attached → get_or attached place 0 ≡ attached_at controller w g.meta.key place) →
    all ≡ map (λ l. record { name = l.1.name; state = listener_state doors g l.0 l.1; attached = get_or attached l.0 0 }) (enumerate_from 0 g.listeners) →
    all ≡ listener_statuses_of doors controller w g
unfolding listener_statuses_of
statuses_with doors controller w g attached all many numbers is =
    is ∙ statuses_alike _ _ 0 g.listeners (λ place l within. ap (λ n. record { name = l.name; state = listener_state doors g place l; attached = n }) (numbers place (omega (arith, many, within))))

-- there is a row for each Gateway
pub rows_length : (w : World) (rows : List (List ℕ)) → AreRows w rows → length rows ≡ length w.gateways
rows_length w rows are = sym (length-map rows (length {A = ℕ})) ∙ ap length are ∙ length-map w.gateways (λ s. length s.object.listeners)

-- the row of a Gateway has a number for each of its listeners
pub row_length : (w : World) (rows : List (List ℕ)) (i : ℕ) (d : Stored Gateway) → AreRows w rows → i < length w.gateways →
    length (get_or rows i []) ≡ length (get_or w.gateways i d).object.listeners
row_length w rows i d are within =
    let many : length rows ≡ length w.gateways = rows_length w rows are in
    sym (get_or-map (length {A = ℕ}) rows i [] 0 (rw many within)) ∙ ap (λ t. get_or t i 0) are ∙ get_or-map (λ s. length s.object.listeners) w.gateways i d 0 within

rows_of : (gateways : List (Stored Gateway)) → map length (no_numbers gateways) ≡ map (λ s. length s.object.listeners) gateways
rows_of [] = refl
rows_of (s ∷ gateways) = rw (length-replicate {A = ℕ} (length s.object.listeners) 0, rows_of gateways) refl

-- nothing is counted at first
pub no_rows : (w : World) → AreRows w (no_numbers w.gateways)
no_rows w = rows_of w.gateways

pub nothing_at : (gateways : List (Stored Gateway)) (gateway place : ℕ) → place < length (get_or (no_numbers gateways) gateway []) → number_at (no_numbers gateways) gateway place ≡ 0
nothing_at [] gateway place within = refl
nothing_at (s ∷ gateways) zero place within = get_or-replicate (length s.object.listeners) place 0 0 (rw (length-replicate {A = ℕ} (length s.object.listeners) 0) at within)
nothing_at (s ∷ gateways) (suc gateway) place within = nothing_at gateways gateway place within

snoc : {Y : Type 0} (done : List Y) (y : Y) (rest : List Y) → (done ++ y ∷ []) ++ rest ≡ done ++ y ∷ rest
snoc [] y rest = refl
snoc (d ∷ done) y rest = ap (λ t. d ∷ t) (snoc done y rest)

-- one item more is done
pub mapped_more : {X Y : Type 0} (f : ℕ × X → Y) (done : List Y) (xs : List X) (i : ℕ) (x : X) (y : Y) (all : List Y) →
    i < length xs → x ≡ get_or xs i x → y ≡ f (i, x) → done ++ map f (enumerate_from i (drop i xs)) ≡ all →
    (done ++ y ∷ []) ++ map f (enumerate_from (i + 1) (drop (i + 1) xs)) ≡ all
mapped_more f done xs i x y all within is value before =
    snoc done y (map f (enumerate_from (i + 1) (drop (i + 1) xs)))
    ∙ ap (λ t. done ++ t) (rw (drop-cons xs i x within, ← is, value, add-one) refl)
    ∙ before
