-- Over every list of steps the list of changes grows, and no number falls.
use Rattle.std.proofs.Common.{◌≡◌, ◌∙◌, ◌≤◌, ◌<◌, ℕ, ℤ, zero, suc, ◌+◌, List, [], ◌∷◌, ◌++◌, append-nil, append_assoc, length, length-append, max, set, replicate, slice_get, arith, refl, sym, ap, subst, Option, Some, None, Result, Ok, Err}
use Rattle.std.specs.Prelude.{⊤}
use Rattle.gw_json.specs.declared.refusal.Refusal.{Refusal}
use Rattle.gw_store.specs.Events.{Read, a_change as is_change, is_skipped}
use Rattle.gw_store.specs.declared.event.Entry.{Entry}
use Rattle.gw_replay.specs.Replays.{Site}
use Rattle.gw_replay.specs.Schedules.{AreAtMost, Goes, IsSound, Moves, NoneFalls, Rises, Schedule, Sees, Step, Takes, a_change, a_note, a_publication, a_reading, an_ask, beginning}

weaker : (most more : ℕ) (numbers : List ℕ) → most ≤ more → AreAtMost most numbers → AreAtMost more numbers
weaker most more [] e all = tt
weaker most more (n ∷ numbers) e all = (omega (arith, e, all.0), weaker most more numbers e all.1)

at_most_set : (most : ℕ) (numbers : List ℕ) (place n : ℕ) → AreAtMost most numbers → n ≤ most → AreAtMost most (set numbers place n)
at_most_set most [] place n all few = tt
at_most_set most (m ∷ numbers) zero n all few = (few, all.1)
at_most_set most (m ∷ numbers) (suc place) n all few = (all.0, at_most_set most numbers place n all.1 few)

at_most_none : (count : ℕ) → AreAtMost 0 (replicate count 0)
at_most_none zero = tt
at_most_none (suc count) = (omega arith, at_most_none count)

none_falls : (numbers : List ℕ) → NoneFalls numbers numbers
none_falls [] = refl
none_falls (n ∷ numbers) = (omega arith, none_falls numbers)

falls_set : (numbers : List ℕ) (place before after : ℕ) → slice_get numbers place ≡ Some before → before ≤ after → NoneFalls numbers (set numbers place after)
falls_set [] place before after there e = refl
falls_set (n ∷ numbers) zero before after there e = (omega (arith, first n before there, e), none_falls numbers)
  where
    first : (a b : ℕ) → Some a ≡ Some b → a ≡ b
    first a b is = cc
falls_set (n ∷ numbers) (suc place) before after there e = (omega arith, falls_set numbers place before after there e)

falls_then : (a b c : List ℕ) → NoneFalls a b → NoneFalls b c → NoneFalls a c
falls_then [] b c x y = subst (λ (l : List ℕ). NoneFalls l c) x y
falls_then (n ∷ a) [] c x y = absurd x
falls_then (n ∷ a) (m ∷ b) [] x y = absurd y
falls_then (n ∷ a) (m ∷ b) (l ∷ c) x y = (omega (arith, x.0, y.0), falls_then a b c x.1 y.1)

takes_more : (r : Result Read Refusal) (at : ℤ) (list list' : List Entry) → Takes r at list list' → (more : List Entry) × (list' ≡ list ++ more)
takes_more (Ok (is_change event)) at list list' x = (x.0 ∷ [], x.1.1)
takes_more (Ok is_skipped) at list list' x = ([], x ∙ sym (append-nil list))
takes_more (Err e) at list list' x = ([], x ∙ sym (append-nil list))

record Both (m m' : Schedule) : Type 0 where
  rises : Rises m m'
  sound : IsSound m'

stays : (m : Schedule) → IsSound m → Both m m
stays m s = record { rises = record { more = []; changes = sym (append-nil m.changes); front = omega arith; seen = none_falls m.seen }; sound = s }

sees_more : (m : Schedule) (worker told : ℕ) (seen : List ℕ) (reader : Option ℕ) → IsSound m → Sees worker told m seen → Both m (record m { seen = seen; reader = reader })
sees_more m worker told seen reader s x = record {
  rises = record {
    more = [];
    changes = sym (append-nil m.changes);
    front = omega arith;
    seen = subst (λ (l : List ℕ). NoneFalls m.seen l) (sym x.seen_is) (falls_set m.seen worker x.before x.after x.there (omega (arith, x.later)));
  };
  sound = record { published = s.published; seen = subst (AreAtMost m.front) (sym x.seen_is) (at_most_set m.front m.seen worker x.after s.seen x.within) };
}

move_rises : (site : Site) (step : Step) (m m' : Schedule) → IsSound m → Moves site step m m' → Both m m'
move_rises site (a_change line at) m m' s x =
    let more = takes_more _ at m.changes x.0 x.1.0 in
    subst (Both m) (sym x.1.1) (record {
      rises = record { more = more.0; changes = more.1; front = omega arith; seen = none_falls m.seen };
      sound = record { published = omega (arith, s.published, ap length more.1, length-append m.changes more.0); seen = s.seen };
    })
move_rises site a_publication m m' s x = subst (Both m) (sym x) (record {
  rises = record { more = []; changes = sym (append-nil m.changes); front = s.published; seen = none_falls m.seen };
  sound = record { published = omega arith; seen = weaker m.front (length m.changes) m.seen s.published s.seen };
})
move_rises site (a_note worker told) m m' s x = subst (Both m) (sym x.1.2) (sees_more m worker told x.0 None s x.1.0)
move_rises site (a_reading worker) m m' s x = subst (Both m) (sym x.1.1) (sees_more m worker 0 x.0 (Some worker) s x.1.0)
move_rises site (an_ask worker door q v) m m' s x = subst (Both m) (sym x.1) (record {
  rises = record { more = []; changes = sym (append-nil m.changes); front = omega arith; seen = none_falls m.seen };
  sound = record { published = s.published; seen = s.seen };
})

rises_then : (a b c : Schedule) → Rises a b → Rises b c → Rises a c
rises_then a b c x y = record {
  more = x.more ++ y.more;
  changes = y.changes ∙ ap (λ (l : List Entry). l ++ y.more) x.changes ∙ append_assoc a.changes x.more y.more;
  front = omega (arith, x.front, y.front);
  seen = falls_then a.seen b.seen c.seen x.seen y.seen;
}

goes_up : (site : Site) (steps : List Step) (m m' : Schedule) → IsSound m → Goes site steps m m' → Both m m'
goes_up site [] m m' s x = subst (Both m) (sym x) (stays m s)
goes_up site (step ∷ steps) m m' s x =
    let first = move_rises site step m x.0 s x.1.0 in
    let later = goes_up site steps x.0 m' first.sound x.1.1 in
    record { rises = rises_then m x.0 m' first.rises later.rises; sound = later.sound }

pub goes_rises : (site : Site) (steps : List Step) (m m' : Schedule) → IsSound m → Goes site steps m m' → Rises m m' × IsSound m'
goes_rises site steps m m' s x = let both = goes_up site steps m m' s x in (both.rises, both.sound)

pub beginning_sound : (workers : ℕ) → IsSound (beginning workers)
beginning_sound workers = record { published = omega arith; seen = at_most_none workers }
