-- How the entries of a Route grow with each of its parentRefs.
use Rattle.std.proofs.Common.{◌≡◌, ◌∙◌, refl, ap, ℕ, ◌+◌, ◌<◌, List, [], ◌∷◌, ◌++◌, take, get_or, length, Option, Some, None}
use Rattle.std.specs.List.{filter_map}
use Rattle.std.specs.Option.{IfSome, option_map, option_to_list}
use Rattle.std.proofs.lemmas.List.{map-append, take_more}
use Rattle.std.proofs.lemmas.List.Elements.{All-append, All-cons, All-nil, filter_map-append}
use Rattle.gw_text.specs.model.Statuses.{Entry}
use Rattle.gw_text.specs.model.World.{World}
use Rattle.gw_eval.specs.Counting.{Placed, entries_in, ArePlaced, IsPlaced}

listed : {X Y : Type 0} (h : X → Option Y) (x : X) (o : Option Y) → h x ≡ o → filter_map h (x ∷ []) ≡ option_to_list o
listed h x None is = rw is refl
listed h x (Some y) is = rw is refl

-- what one item more gives
pub filter_map_more : {X Y : Type 0} (h : X → Option Y) (xs : List X) (i : ℕ) (x : X) → i < length xs → x ≡ get_or xs i x →
    filter_map h (take (i + 1) xs) ≡ filter_map h (take i xs) ++ option_to_list (h x)
filter_map_more h xs i x within is =
    rw (take_more xs i x within, ← is, filter_map-append h (take i xs) (x ∷ [])) (ap (λ t. filter_map h (take i xs) ++ t) (listed h x (h x) refl))

entry_in : (o : Option Placed) (e : Option Entry) → option_map (λ p. p.entry) o ≡ e → entries_in (option_to_list o) ≡ option_to_list e
entry_in None e is = ap option_to_list is
entry_in (Some p) e is = ap option_to_list is

-- an entry more, or none
pub entries_more : (done : List Placed) (o : Option Placed) (e : Option Entry) (es : List Entry) →
    entries_in done ≡ es → option_map (λ p. p.entry) o ≡ e → entries_in (done ++ option_to_list o) ≡ es ++ option_to_list e
entries_more done o e es before is = map-append (λ (p : Placed). p.entry) done (option_to_list o) ∙ rw (before, entry_in o e is) refl

one_placed : (w : World) (o : Option Placed) → IfSome o (IsPlaced w) → ArePlaced w (option_to_list o)
one_placed w None is = All-nil (IsPlaced w)
one_placed w (Some p) is = All-cons (IsPlaced w) p [] is (All-nil (IsPlaced w))

pub placed_more : (w : World) (done : List Placed) (o : Option Placed) → ArePlaced w done → IfSome o (IsPlaced w) → ArePlaced w (done ++ option_to_list o)
placed_more w done o before is = All-append (IsPlaced w) done (option_to_list o) before (one_placed w o is)
