-- The stamps that changes leave are those that conditions are to have.
use Rattle.std.proofs.Common.{◌≡◌, ◌∙◌, sym, ap, refl, subst, Bool, true, false, ◌&&◌, inl, inr, ℤ, Option, Some, None, option_map, List, [], ◌∷◌, ◌++◌, map, append_assoc, append-nil}
use Rattle.std.proofs.lemmas.Bool.{cases_Bool}
use Rattle.std.specs.Bool.{beq}
use Rattle.std.specs.List.{list_all}
use Rattle.std.specs.Option.{unwrap_or}
use Rattle.gw_stamp.specs.Names.{CondName}
use Rattle.gw_stamp.specs.Since.{AreSince, Change, EachLeads, HoldsSince, StaysSince, Step, conditions_after, has, is_truth, since_with, stamp_from, stamp_in, stamp_since, stamps_after, truth_after}
use Rattle.gw_stamp.specs.Stamping.{Stamps, begun, is_named, nothing, stamp_after, stamped, truth_of}

beq_same : (a : Bool) → beq a a ≡ true
beq_same true = refl
beq_same false = refl

and_false : (a : Bool) → (a && false) ≡ false
and_false true = refl
and_false false = refl

module _ (name : CondName) (truth : Bool) where
  -- one more change with this status
  all_more : (changes : List Change) (e : Change) → has name truth e ≡ true → list_all (has name truth) (changes ++ e ∷ []) ≡ list_all (has name truth) changes
  all_more [] e is = rw is refl
  all_more (d ∷ changes) e is = ap (λ (b : Bool). has name truth d && b) (all_more changes e is)

  since_more : (changes : List Change) (e : Change) → has name truth e ≡ true → since_with name truth (changes ++ e ∷ []) ≡ Some (unwrap_or (since_with name truth changes) e.at)
  since_more [] e is = rw is refl
  since_more (d ∷ changes) e is =
      rw (all_more changes e is) (elim (cases_Bool (has name truth d && list_all (has name truth) changes)) [
        | inl all ↦ rw all refl
        | inr other ↦ rw other (since_more changes e is)
      ])

  -- where the status isn't there at the end
  all_false : (e : Change) (later : List Change) → is_truth truth (truth_of name (conditions_after e.conditions later)) ≡ false → list_all (has name truth) (e ∷ later) ≡ false
  all_false e [] other = rw other refl
  all_false e (f ∷ later) other = rw (all_false f later other) (and_false (has name truth e))

  since_none : (before : List (CondName × Bool)) (changes : List Change) → is_truth truth (truth_of name (conditions_after before changes)) ≡ false → since_with name truth changes ≡ None
  since_none before [] other = refl
  since_none before (e ∷ later) other = rw (all_false e later other) (since_none e.conditions later other)

  -- where it is there at the end
  since_some : (e : Change) (later : List Change) → is_truth truth (truth_of name (conditions_after e.conditions later)) ≡ true → (at : ℤ) × (since_with name truth (e ∷ later) ≡ Some at)
  since_some e [] is = (e.at, rw is refl)
  since_some e (f ∷ later) is =
      elim (cases_Bool (list_all (has name truth) (e ∷ f ∷ later))) [
        | inl all ↦ (e.at, rw all refl)
        | inr other ↦ (let rest = since_some f later is in (rest.0, rw other rest.1))
      ]

  since_there : (changes : List Change) → truth_of name (conditions_after [] changes) ≡ Some truth → (at : ℤ) × (since_with name truth changes ≡ Some at)
  since_there [] is = absurd (cc)
  since_there (e ∷ later) is = since_some e later (ap (is_truth truth) is ∙ beq_same truth)

-- the stamp of a status that is stated, by the moments since which either status is there
grown : (truth own : Bool) (at m : ℤ) (by : Bool → Option ℤ) (new : Option ℤ) → by own ≡ Some m → (beq own truth ≡ false → by truth ≡ None) → new ≡ Some (unwrap_or (by truth) at)
    → Some (begun at truth (option_map (stamp_from own) (by own))) ≡ option_map (stamp_from truth) new
grown true true at m by new was other is = rw (is, was) refl
grown true false at m by new was other is = rw (is, was, other refl) refl
grown false true at m by new was other is = rw (is, was, other refl) refl
grown false false at m by new was other is = rw (is, was) refl

-- a status that is stated
stated_step : (name : CondName) (changes : List Change) (e : Change) (truth : Bool) (before : Option Bool) → truth_of name (conditions_after [] changes) ≡ before → truth_of name e.conditions ≡ Some truth
    → Some (begun e.at truth (stamp_in name before changes)) ≡ stamp_in name (Some truth) (changes ++ e ∷ [])
stated_step name changes e truth None was is =
    let there : has name truth e ≡ true = ap (is_truth truth) is ∙ beq_same truth in
    rw (since_more name truth changes e there, since_none name truth [] changes (ap (is_truth truth) was)) refl
stated_step name changes e truth (Some own) was is =
    let there : has name truth e ≡ true = ap (is_truth truth) is ∙ beq_same truth in
    let since = since_there name own changes was in
    grown truth own e.at since.0 (λ (t : Bool). since_with name t changes) (since_with name truth (changes ++ e ∷ [])) since.1
    (λ differs. since_none name truth [] changes (ap (is_truth truth) was ∙ differs)) (since_more name truth changes e there)

-- a status that stays
kept_step : (name : CondName) (changes : List Change) (e : Change) (before : Option Bool) → truth_of name (conditions_after [] changes) ≡ before → truth_of name e.conditions ≡ before
    → stamp_in name before changes ≡ stamp_in name before (changes ++ e ∷ [])
kept_step name changes e None was is = refl
kept_step name changes e (Some truth) was is =
    let there : has name truth e ≡ true = ap (is_truth truth) is ∙ beq_same truth in
    let since = since_there name truth changes was in
    rw (since_more name truth changes e there, since.1) refl

-- any
one_step : (name : CondName) (changes : List Change) (e : Change) (now : Option Bool) (gone : Bool) (before : Option Bool) → truth_of name (conditions_after [] changes) ≡ before
    → truth_of name e.conditions ≡ truth_after now gone before → stamp_after e.at now gone (stamp_in name before changes) ≡ stamp_in name (truth_after now gone before) (changes ++ e ∷ [])
one_step name changes e (Some truth) gone before was is = stated_step name changes e truth before was is
one_step name changes e None true before was is = refl
one_step name changes e None false before was is = kept_step name changes e before was is

-- the conditions after one more change are its own
last_conditions : (before : List (CondName × Bool)) (changes : List Change) (e : Change) → conditions_after before (changes ++ e ∷ []) ≡ e.conditions
last_conditions before [] e = refl
last_conditions before (d ∷ changes) e = last_conditions d.conditions changes e

pub stay_since : StaysSince
stay_since changes stamps s are leads name =
    let e = s.change in
    let before = truth_of name (conditions_after [] changes) in
    let now = truth_of name s.statement.now in
    let gone = is_named name s.statement.gone in
    ap (stamp_after e.at now gone) (are name)
    ∙ one_step name changes e now gone before refl (leads name)
    ∙ ap (λ (t : Option Bool). stamp_in name t (changes ++ e ∷ [])) (sym (leads name) ∙ ap (truth_of name) (sym (last_conditions [] changes e)))

-- from any changes on
hold_from : (changes : List Change) (stamps : Stamps) (steps : List Step) → AreSince changes stamps → EachLeads (conditions_after [] changes) steps
    → AreSince (changes ++ map (λ s. s.change) steps) (stamps_after stamps steps)
hold_from changes stamps [] are leads name = are name ∙ ap (stamp_since name) (sym (append-nil changes))
hold_from changes stamps (s ∷ steps) are leads name =
    let more = changes ++ s.change ∷ [] in
    let next = stamped s.statement.gone s.statement.now s.change.at stamps in
    let rest : EachLeads (conditions_after [] more) steps = subst (λ (c : List (CondName × Bool)). EachLeads c steps) (sym (last_conditions [] changes s.change)) leads.1 in
    hold_from more next steps (stay_since changes stamps s are leads.0) rest name
    ∙ ap (stamp_since name) (append_assoc changes (s.change ∷ []) (map (λ s. s.change) steps))

pub hold_since : HoldsSince
hold_since steps leads = hold_from [] nothing steps (λ name. refl) leads
