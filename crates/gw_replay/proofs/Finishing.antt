-- What is written of a script, at its end or where it is given up.
use Rattle.std.proofs.Common.{◌≡◌, ◌∙◌, ◌<◌, ◌++◌, ℕ, ℤ, List, [], length, nat_lt, inl, inr, Option, refl, sym, subst, ap, string_bytes}
use Rattle.gw_json.specs.Lines.{line_of}
use Rattle.gw_script.specs.Scripts.{step_of}
use Rattle.gw_store.specs.Lines.{lines_of}
use Rattle.gw_text.specs.model.Doors.{Door}
use Rattle.gw_replay.specs.Lines.{ahead_data, place_data}
use Rattle.gw_replay.specs.Outputs.{IsFrontOf, IsReplayed}
use Rattle.gw_replay.specs.Replays.{Runs, SendsOn, Site, State, beginning, totals_text}
use Rattle.gw_replay.specs.States.{IsGivenUp, Keeps, RunsTo, StoppedIn, StopsIn, site_of}
use Rattle.gw_replay.specs.declared.ending.Ending.{Ending}
use Rattle.gw_replay.specs.declared.ending.Ending.TheVariants.{Done, Place, Ahead}
use Rattle.gw_replay.specs.declared.replay.Replay.{Replay}
use Rattle.gw_replay.specs.declared.stop.Stop.{Stop}
use Rattle.gw_replay.specs.declared.stop.Stop.TheVariants as stops
use Rattle.gw_replay.proofs.Stepping.{workers_are}

-- there was no place at all
pub nothing_written : (doors : List Door) (controller : List ℕ) (workers : ℕ) (input : List ℕ) (told : Option (List ℤ)) (text : List ℕ) → text ≡ line_of place_data
    → IsReplayed doors controller workers input told Place text
nothing_written doors controller workers input told text is = record { front = []; is_front = inl refl; text_is = is }

module _ {R : Type 0} (doors : List Door) (controller : List ℕ) (workers : ℕ) (input : List ℕ) (told : Option (List ℤ)) (r0 r1 : Replay R) (text0 text : List ℕ)
    (keeps : Keeps r0 (beginning workers)) (site_is : site_of r0 ≡ record { doors = doors; controller = controller }) (nothing : string_bytes r0.text ≡ []) where
  abbrev site : Site
  site = record { doors = doors; controller = controller }

  -- all lines were done
  pub whole_written : (after : Option (List ℤ)) (ending : Ending) → RunsTo 1 (lines_of input) told after r0 r1 → ((s : State) → Keeps r1 s → text ≡ string_bytes r1.text ++ totals_text s)
      → ending ≡ Done (nat_lt 0 r1.refused) → IsReplayed doors controller workers input told ending text
  whole_written after ending runs last is =
      let x = runs.done.did (beginning workers) keeps in
      subst (λ (e : Ending). IsReplayed doors controller workers input told e text) (sym is) (record {
        moments = runs.moments;
        after = after;
        in_turn = runs.in_turn;
        replay = record {
          last = x.state;
          lines = x.text;
          runs = subst (λ (there : Site). Runs there 1 (lines_of input) runs.moments (beginning workers) x.state x.text) site_is x.does_so;
          text_is = last x.state x.keeps ∙ ap (λ (t : List ℕ). t ++ totals_text x.state) (x.printed ∙ ap (λ (t : List ℕ). t ++ x.text) nothing);
          refused_is = ap (nat_lt 0) x.keeps.refused;
        };
      })

  -- the lines before one were done
  front_of : (stop : Stop) → StoppedIn stop 1 (lines_of input) told r0 r1 → (is : string_bytes r1.text ≡ text0)
      → (front : IsFrontOf doors controller workers input told text0) × (length front.last.published ≡ length r1.controller.published)
  front_of stop h is =
      let x = h.runs.done.did (beginning workers) keeps in
      let there : site_of h.middle ≡ site = h.runs.done.site ∙ site_is in
      let text : string_bytes h.middle.text ≡ x.text = x.printed ∙ ap (λ (t : List ℕ). t ++ x.text) nothing in
      let same : x.text ≡ text0 = sym text ∙ ap string_bytes (sym h.halted.halted.text) ∙ is in
      let sends : SendsOn (step_of (length x.state.workers) (length doors) h.line) x.state.clients
      = subst (λ (n : ℕ). SendsOn (step_of n (length doors) h.line) x.state.clients) (workers_are h.middle x.state (length h.middle.workers.items) x.keeps refl)
      (subst (λ (s : Site). SendsOn (step_of (length h.middle.workers.items) (length s.doors) h.line) x.state.clients) there (h.halted.stood x.state x.keeps)) in (
        record {
          first = h.first;
          line = h.line;
          others = h.others;
          lines_are = h.lines_are;
          moments = h.runs.moments;
          after = h.after;
          in_turn = h.runs.in_turn;
          last = x.state;
          runs = subst (λ (t : List ℕ). Runs site 1 h.first h.runs.moments (beginning workers) x.state t) same
              (subst (λ (there : Site). Runs there 1 h.first h.runs.moments (beginning workers) x.state x.text) site_is x.does_so);
          sends = sends;
        },
        ap length (sym x.keeps.published) ∙ ap (λ control. length control.published) (sym h.halted.halted.controller),
      )

  -- why it was given up is written behind that
  given_up_by : (ending : Ending) → (front : IsFrontOf doors controller workers input told text0) × (length front.last.published ≡ length r1.controller.published)
      → IsGivenUp ending text0 (length r1.controller.published) text → IsReplayed doors controller workers input told ending text
  given_up_by (Done refused) front given = absurd given
  given_up_by Place front given = record { front = text0; is_front = inr front.0; text_is = given }
  given_up_by Ahead front given = record {
    front = text0;
    seen = given.0;
    is_front = front.0;
    above = subst (λ (n : ℕ). n < given.0) (sym front.1) given.1.0;
    text_is = given.1.1 ∙ ap (λ (n : ℕ). text0 ++ line_of (ahead_data n given.0)) (sym front.1);
  }

  pub front_written : (stop : Stop) (ending : Ending) → string_bytes r1.text ≡ text0 → StopsIn stop 1 (lines_of input) told r0 r1 → (stop ≡ stops.NoMemory → ⊥)
      → IsGivenUp ending text0 (length r1.controller.published) text → IsReplayed doors controller workers input told ending text
  front_written stops.NoMemory ending is h named given = absurd (named refl)
  front_written (stops.Place n) ending is h named given = given_up_by ending (front_of (stops.Place n) h is) given
  front_written (stops.Ahead n) ending is h named given = given_up_by ending (front_of (stops.Ahead n) h is) given
