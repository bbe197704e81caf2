-- The requests that an inlet gave, and the only request of bytes.
use Rattle.std.proofs.Common.{◌≡◌, ◌∙◌, ℕ, sym, ap, ap₂, subst, refl, false, List, [], ◌∷◌, ◌++◌, Option, Some, None, append-nil, ◌⊎◌, inl, inr, ◌<◌, length, drop, get_or, arith, IfSome}
use Rattle.std.specs.List.{filter_map}
use Rattle.std.proofs.lemmas.List.Elements.{filter_map-append}
use Rattle.gw_frames.specs.Inlets.{StandsFor, steps_left, IsAll, IsFewer, IsLast, is_over, unless_ended, with_step, given, last_step}
use Rattle.gw_frames.specs.model.Requests.{Request, Step as Plain, a_head, Asks, ended}
use Rattle.gw_frames.specs.declared.ended.Ended.{Ended}
use Rattle.gw_frames.specs.declared.ended.Ended.TheVariants.{Closed, Truncated, Asked, Enough, Refused}
use Rattle.gw_frames.specs.declared.inlet.Inlet.{Inlet}
use Rattle.gw_frames.specs.declared.step.Step.{Step}
use Rattle.gw_frames.specs.declared.step.Step.TheVariants as steps
use Rattle.gw_message_laws.proofs.RequestLaws.{steps_unique}
use Rattle.gw_requests.specs.Requests.{asked, Gave, Holds, IsRequest, IsRequestOf}

-- a last step is no request
not_asked : (why : Ended) → filter_map asked (last_step why ∷ []) ≡ []
not_asked Closed = refl
not_asked Truncated = refl
not_asked Asked = refl
not_asked Enough = refl
not_asked (Refused code) = refl

asked_unless : (end : Option Ended) (steps : List Plain) (step : Step) → IsLast end step
    → filter_map asked (unless_ended end steps (given step)) ≡ filter_map asked steps ++ filter_map asked (given step)
asked_unless None steps step last = filter_map-append asked steps (given step)
asked_unless (Some why) steps step last =
    sym (ap (λ more. filter_map asked steps ++ more) (ap (filter_map asked) last ∙ not_asked why) ∙ append-nil (filter_map asked steps))

-- the requests of a step more
pub asked_more : (steps : List Plain) (step : Step) → IsLast (ended steps) step
    → filter_map asked (with_step steps step) ≡ filter_map asked steps ++ filter_map asked (given step)
asked_more steps step last = asked_unless (ended steps) steps step last

module _ (i j : Inlet) (bytes : List ℕ) (requests : List Request) (step : Step) (found : List Request) (is : filter_map asked (given step) ≡ found)
    (stays : (bytes : List ℕ) (steps : List Plain) → StandsFor i bytes steps → IsLast (ended steps) step) where
  requests_more : (steps : List Plain) → StandsFor i bytes steps → filter_map asked steps ≡ requests → filter_map asked (with_step steps step) ≡ requests ++ found
  requests_more steps stands so = asked_more steps step (stays bytes steps stands) ∙ ap₂ (λ before more. before ++ more) so is

  -- a step more is given
  pub gave_more : ((bytes : List ℕ) (steps : List Plain) → StandsFor i bytes steps → StandsFor j bytes (with_step steps step))
      → Gave i bytes requests → Gave j bytes (requests ++ found)
  unfolding Gave
  gave_more stands gave = (with_step gave.0 step, stands bytes gave.0 gave.1, requests_more gave.0 gave.1 gave.2)

  -- the step is the last for now: the requests are all
  pub gave_all : ((bytes : List ℕ) (steps : List Plain) → StandsFor i bytes steps → IsAll step → Asks a_head 0 bytes (is_over j) (with_step steps step))
      → IsAll step → is_over j ≡ false → Gave i bytes requests → Holds bytes (requests ++ found)
  unfolding Gave
  gave_all all none over gave =
      (with_step gave.0 step, subst (λ b. Asks a_head 0 bytes b (with_step gave.0 step)) over (all bytes gave.0 gave.1 none), requests_more gave.0 gave.1 gave.2)

-- a step more that is no request
pub gave_same : (i j : Inlet) (bytes : List ℕ) (requests : List Request) (step : Step) → filter_map asked (given step) ≡ []
    → ((bytes : List ℕ) (steps : List Plain) → StandsFor i bytes steps → IsLast (ended steps) step)
    → ((bytes : List ℕ) (steps : List Plain) → StandsFor i bytes steps → StandsFor j bytes (with_step steps step))
    → Gave i bytes requests → Gave j bytes requests
gave_same i j bytes requests step none stays stands gave = subst (Gave j bytes) (append-nil requests) (gave_more i j bytes requests step [] none stays stands gave)

-- the last step for now, which is no request
pub gave_last : (i j : Inlet) (bytes : List ℕ) (requests : List Request) (step : Step) → filter_map asked (given step) ≡ []
    → ((bytes : List ℕ) (steps : List Plain) → StandsFor i bytes steps → IsLast (ended steps) step)
    → ((bytes : List ℕ) (steps : List Plain) → StandsFor i bytes steps → IsAll step → Asks a_head 0 bytes (is_over j) (with_step steps step))
    → IsAll step → is_over j ≡ false → Gave i bytes requests → Holds bytes requests
gave_last i j bytes requests step none stays all is_all over gave =
    subst (Holds bytes) (append-nil requests) (gave_all i j bytes requests step [] none stays all is_all over gave)

-- an inlet that was fed once
pub gave_none : (i j : Inlet) (bytes : List ℕ) → StandsFor i [] []
    → ((bytes' : List ℕ) (steps : List Plain) → StandsFor i bytes' steps → StandsFor j (bytes' ++ bytes) steps) → Gave j bytes []
unfolding Gave
gave_none i j bytes none fed = ([], fed [] [] none, refl)

-- a step more leaves fewer to come
pub gave_fewer : (i j : Inlet) (bytes : List ℕ) (requests : List Request) (step found : Step) → step ≡ found
    → ((bytes : List ℕ) (steps : List Plain) → StandsFor i bytes steps → IsFewer step (steps_left j) (steps_left i))
    → Gave i bytes requests → IsFewer found (steps_left j) (steps_left i)
unfolding Gave
gave_fewer i j bytes requests step found is fewer gave = subst (λ (s : Step). IsFewer s (steps_left j) (steps_left i)) is (fewer bytes gave.0 gave.1)

-- a step that says that nothing more is there is no request
pub asks_nothing : (step : Step) → IsAll step → filter_map asked (given step) ≡ []
asks_nothing steps.Need all = refl
asks_nothing (steps.Ask r) all = absurd all
asks_nothing steps.Continue all = absurd all
asks_nothing (steps.Bad code) all = refl
asks_nothing steps.End all = refl
asks_nothing steps.Truncated all = refl

pub says_all : (step : Step) → (step ≡ steps.Need) ⊎ ((code : ℕ) × (step ≡ steps.Bad code)) ⊎ (step ≡ steps.End) ⊎ (step ≡ steps.Truncated) → IsAll step
says_all step (inl is) = rw is (record {})
says_all step (inr (inl is)) = rw is.1 (record {})
says_all step (inr (inr (inl is))) = rw is (record {})
says_all step (inr (inr (inr is))) = rw is (record {})

-- bytes hold one list of requests
pub holds_unique : (bytes : List ℕ) (a b : List Request) → Holds bytes a → Holds bytes b → a ≡ b
holds_unique bytes a b x y =
    sym x.2 ∙ ap (λ (steps : List Plain). filter_map asked steps) (steps_unique a_head 0 bytes false x.0 y.0 x.1 y.1) ∙ y.2

not_nothing : (front : List ℕ) (last : ℕ) → front ++ last ∷ [] ≡ [] → ⊥
not_nothing [] last e = cc
not_nothing (b ∷ front) last e = cc

-- bytes have one front without their last byte
same_front : (front other : List ℕ) (last end : ℕ) → front ++ last ∷ [] ≡ other ++ end ∷ [] → front ≡ other
same_front [] [] last end same = refl
same_front [] (c ∷ other) last end same = absurd (not_nothing other end (sym (ap (drop 1) same)))
same_front (b ∷ front) [] last end same = absurd (not_nothing front last (ap (drop 1) same))
same_front (b ∷ front) (c ∷ other) last end same =
    ap₂ (λ x (xs : List ℕ). x ∷ xs) (ap (λ xs. get_or xs 0 0) same) (same_front front other last end (ap (drop 1) same))

not_below : (requests : List Request) → [] ≡ requests → 0 < length requests → ⊥
not_below [] none some = absurd (omega (arith, some))
not_below (q ∷ requests) none some = cc

module _ (bytes front : List ℕ) (last : ℕ) (cut : bytes ≡ front ++ last ∷ []) where
  -- the front holds a request
  pub too_early : (requests : List Request) → Holds front requests → 0 < length requests → (q : Request) → IsRequest bytes q → ⊥
  too_early requests holds some q is =
      let none : [] ≡ requests = holds_unique front [] requests (subst (λ f. Holds f []) (same_front is.front front is.last last (sym is.cut ∙ cut)) is.early) holds in
      not_below requests none some

  -- the only request, if there is one only
  pub request_by : (found : Option Request) (requests : List Request) → Holds front [] → Holds bytes requests
      → IfSome found (λ q. requests ≡ q ∷ []) → (found ≡ None → (q : Request) → requests ≡ q ∷ [] → ⊥) → IsRequestOf bytes found
  request_by (Some q) requests early holds some none =
      record { front = front; last = last; cut = cut; early = early; whole = subst (Holds bytes) some holds }
  request_by None requests early holds some none = λ q is. none refl q (holds_unique bytes requests (q ∷ []) holds is.whole)
