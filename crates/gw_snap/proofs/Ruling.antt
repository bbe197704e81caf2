-- Steps of one opening keep the rule between the publisher and its readers.
use Rattle.std.proofs.Common.{◌≡◌, ℕ, ◌≢◌, List, [], ◌∷◌, ◌++◌, set, refl, sym, subst, ⊎_elim, fold, Result, Ok, Err, MatchResult}
use mathlib.Core.Option.{some}
use lib.ListN.{get_elem?}
use Rattle.logbook.specs.Pages.{Book}
use Rattle.left_right.specs.Register.{Admits, TurnsAt, Forks, Merges}
use Rattle.atomic_table.proofs.Lists.{at_set, at_snoc}
use Rattle.gw_snap.specs.declared.known.Known.{Known}
use Rattle.gw_snap.specs.Readers.{AllKnow, Knows, known, unknown}

module _ {F : Type 0} where
  knows_unknown : (book : Book) (fixed blank : F) → Knows book fixed (unknown blank)
  knows_unknown book fixed blank told = absurd cc

  set_all : (book : Book) (fixed : F) (readers : List (Known F)) (place : ℕ) (knows : Known F) → AllKnow book fixed readers → Knows book fixed knows → AllKnow book fixed (set readers place knows)
  set_all book fixed readers place knows all ok other there at = ⊎_elim (λ (here : (other ≡ place) × (knows ≡ there)). subst (λ (k : Known F). Knows book fixed k) here.1 ok)
      (λ (away : (other ≢ place) × (get_elem? readers other ≡ some there)). all other there away.1) (at_set readers place other knows there at)

  add_all : (book : Book) (fixed : F) (readers : List (Known F)) (knows : Known F) → AllKnow book fixed readers → Knows book fixed knows → AllKnow book fixed (readers ++ knows ∷ [])
  add_all book fixed readers knows all ok other there at = ⊎_elim (all other there) (λ (same : knows ≡ there). subst (λ (k : Known F). Knows book fixed k) same ok) (at_snoc readers knows there other at)

module _ {X F : Type 0} (tells : X → Type 0) (book : X → Book) (fixed : X → F) (blank : F) where
  abbrev pub Holds : X → List (Known F) → Type 0
  Holds x readers = tells x × AllKnow (book x) (fixed x) readers

  -- a reader more
  pub admits : Admits Holds (unknown blank)
  admits x readers holds = (holds.0, add_all (book x) (fixed x) readers (unknown blank) holds.1 (knows_unknown (book x) (fixed x) blank))

  -- a reading
  pub reads : (place : ℕ) (knew : Known F) (x : X) → TurnsAt Holds place knew x x (λ knew before x knows. (knows ≡ knew) × Knows (book x) (fixed x) knew × tells x)
  reads place knew x readers holds at = (knew, (holds.0, set_all (book x) (fixed x) readers place knew holds.1 (holds.1 place knew at)), (refl, holds.1 place knew at, holds.0))

  -- a publication of the same opening
  pub publishes : (place : ℕ) (knew : Known F) (x next : X) → tells next → book next ≡ book x → fixed next ≡ fixed x → TurnsAt Holds place knew x next (λ knew before x knows. knows ≡ known (book x) (fixed x))
  publishes place knew x next told same_book same_fixed readers holds at =
      let knows = known (book next) (fixed next) in
      let ok : Knows (book next) (fixed next) knows = λ t. refl in
      let all : AllKnow (book next) (fixed next) readers = subst (λ (b : Book). AllKnow b (fixed next) readers) (sym same_book) (subst (λ (f : F). AllKnow (book x) f readers) (sym same_fixed) holds.1) in
      (knows, (told, set_all (book next) (fixed next) readers place knows all ok), refl)

  -- the writer tells what it knows
  pub forks : (place : ℕ) (knows : Known F) → Forks Holds place knows knows knows
  forks place knows x readers holds at =
      let ok = holds.1 place knows at in
      (holds.0, add_all (book x) (fixed x) (set readers place knows) knows (set_all (book x) (fixed x) readers place knows holds.1 ok) ok)

  -- a reader takes in what it is told
  pub merges : (place : ℕ) (knew : Known F) (from : ℕ) (told : Known F) → Merges Holds place knew from told told (unknown blank)
  merges place knew from told x readers holds at apart there =
      let ok : Knows (book x) (fixed x) told = ⊎_elim (λ (here : (from ≡ place) × (told ≡ told)). absurd (apart here.0)) (λ (away : (from ≢ place) × (get_elem? readers from ≡ some told)). holds.1 from told away.1) (at_set readers place from told told there) in
      (holds.0, set_all (book x) (fixed x) (set readers place told) from (unknown blank) (set_all (book x) (fixed x) readers place told holds.1 ok) (knows_unknown (book x) (fixed x) blank))

-- where each step puts the next in the place of all, the last one is left
pub fold_last : {A B : Type 0} (f : A → B) (start : B) (steps : List A) (last : A) → fold (λ s x. f x) start (steps ++ last ∷ []) ≡ f last
fold_last f start [] last = refl
fold_last f start (step ∷ steps) last = fold_last f (f step) steps last

-- two facts by cases of one answer
pub both_cases : {A E : Type 0} (r : Result A E) {P Q P2 Q2 P3 Q3 : Type 0} → MatchResult r (λ (a : A). P) (λ (e : E). Q) → MatchResult r (λ (a : A). P2) (λ (e : E). Q2) → (P → P2 → P3) → (Q → Q2 → Q3)
    → MatchResult r (λ (a : A). P3) (λ (e : E). Q3)
both_cases (Ok a) x y ok err = ok x y
both_cases (Err e) x y ok err = err x y
