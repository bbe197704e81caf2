-- Lines, one after the other.
use Rattle.std.proofs.Common.{◌∙◌, ℕ, ℤ, ◌+◌, ◌≤◌, arith, List, [], ◌∷◌, ◌++◌, length, Option, refl, sym, subst, ap, append-nil, append_assoc}
use Rattle.gw_report.proofs.Applying.{in_turn_on}
use Rattle.gw_store.specs.Lines.{is_blank}
use Rattle.gw_replay.specs.Replays.{LineDone, Runs, Site, State}
use Rattle.gw_replay.specs.States.{Did, Does, DoesInTurn, HaltsAt, IsKept, Keeps, RunsTo, Sends, StoppedIn, StopsIn, site_of}
use Rattle.gw_replay.specs.declared.replay.Replay.{Replay}
use Rattle.gw_replay.specs.declared.stop.Stop.{Stop}
use Rattle.gw_replay.specs.declared.stop.Stop.TheVariants as stops

-- what was done leaves what stands
pub kept_by : {R : Type 0} {does : State → State → List ℕ → Type 0} (old new : Replay R) → IsKept old → Does does old new → IsKept new
kept_by old new kept d = let x = d.did kept.0 kept.1 in (x.state, x.keeps)

-- no lines
pub runs_none : {R : Type 0} (n : ℕ) (told : Option (List ℤ)) (r : Replay R) → RunsTo n [] told told r r
runs_none n told r = record {
  moments = [];
  in_turn = refl;
  done = record {
    site = refl;
    did = λ s k. record { state = s; text = []; does_so = (refl, refl, refl); keeps = k; printed = sym (append-nil _) };
  };
}

-- a line, and those behind it
pub runs_on : {R : Type 0} (n : ℕ) (line : List ℕ) (lines : List (List ℕ)) (before between after : Option (List ℤ)) (old mid new : Replay R)
    → DoesInTurn (λ moments s s' text. LineDone (is_blank line) (site_of old) n line moments s s' text) before between old mid
    → RunsTo (n + 1) lines between after mid new → RunsTo n (line ∷ lines) before after old new
runs_on n line lines before between after old mid new first second = record {
  moments = first.moments ++ second.moments;
  in_turn = in_turn_on before between after first.moments second.moments first.in_turn second.in_turn;
  done = record {
    site = second.done.site ∙ first.done.site;
    did = λ s k. did_both s k (first.done.did s k);
  };
}
  where
    did_both : (s : State) → Keeps old s → Did (λ s s' text. LineDone (is_blank line) (site_of old) n line first.moments s s' text) old mid s
        → Did (λ s s' text. Runs (site_of old) n (line ∷ lines) (first.moments ++ second.moments) s s' text) old new s
    did_both s k x =
        let y = second.done.did x.state x.keeps in
        record {
          state = y.state;
          text = x.text ++ y.text;
          does_so = (
            first.moments,
            (
              second.moments,
              (
                x.state,
                (
                  x.text,
                  (
                    y.text,
                    (
                      refl,
                      refl,
                      x.does_so,
                      subst (λ (site : Site). Runs site (n + 1) lines second.moments x.state y.state y.text) first.done.site y.does_so,
                    ),
                  ),
                ),
              ),
            ),
          );
          keeps = y.keeps;
          printed = y.printed ∙ ap (λ t. t ++ y.text) x.printed ∙ append_assoc _ x.text y.text;
        }

-- a line at which a script is given up
pub stops_here : {R : Type 0} (stop : Stop) (n : ℕ) (line : List ℕ) (lines : List (List ℕ)) (told : Option (List ℤ)) (r new : Replay R)
    → HaltsAt stop (Sends (length r.workers.items) (length (site_of r).doors) line) r new → StopsIn stop n (line ∷ lines) told r new
stops_here stops.NoMemory n line lines told r new halts = tt
stops_here (stops.Place m) n line lines told r new halts = record {
  first = [];
  line = line;
  others = lines;
  lines_are = refl;
  after = told;
  middle = r;
  runs = runs_none n told r;
  halted = halts;
}
stops_here (stops.Ahead m) n line lines told r new halts = record {
  first = [];
  line = line;
  others = lines;
  lines_are = refl;
  after = told;
  middle = r;
  runs = runs_none n told r;
  halted = halts;
}

-- a script is given up behind a line
later_stop : {R : Type 0} (stop : Stop) (n : ℕ) (line : List ℕ) (lines : List (List ℕ)) (before between : Option (List ℤ)) (old mid new : Replay R)
    → DoesInTurn (λ moments s s' text. LineDone (is_blank line) (site_of old) n line moments s s' text) before between old mid
    → StoppedIn stop (n + 1) lines between mid new → StoppedIn stop n (line ∷ lines) before old new
later_stop stop n line lines before between old mid new first x = record {
  first = line ∷ x.first;
  line = x.line;
  others = x.others;
  lines_are = ap (λ (all : List (List ℕ)). line ∷ all) x.lines_are;
  after = x.after;
  middle = x.middle;
  runs = runs_on n line x.first before between x.after old mid x.middle first x.runs;
  halted = x.halted;
}

pub stops_on : {R : Type 0} (stop : Stop) (n : ℕ) (line : List ℕ) (lines : List (List ℕ)) (before between : Option (List ℤ)) (old mid new : Replay R)
    → DoesInTurn (λ moments s s' text. LineDone (is_blank line) (site_of old) n line moments s s' text) before between old mid
    → StopsIn stop (n + 1) lines between mid new → StopsIn stop n (line ∷ lines) before old new
stops_on stops.NoMemory n line lines before between old mid new first x = tt
stops_on (stops.Place m) n line lines before between old mid new first x = later_stop (stops.Place m) n line lines before between old mid new first x
stops_on (stops.Ahead m) n line lines before between old mid new first x = later_stop (stops.Ahead m) n line lines before between old mid new first x

-- what is left grows less by each line
pub few_after : (n rest size limit : ℕ) → rest ≤ size → n + (size + 1) ≤ limit → n + 1 + rest ≤ limit
few_after n rest size limit shorter few = omega (arith, shorter, few)

pub counted_after : (count n : ℕ) → count ≤ n → count + 1 ≤ n + 1
counted_after count n few = omega (arith, few)
