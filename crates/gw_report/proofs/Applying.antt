-- What a line does.
use Rattle.std.proofs.Common.{◌≡◌, ℕ, ℤ, ◌+◌, true, false, List, [], ◌∷◌, ◌++◌, length, Option, None, Some, Result, Ok, Err, refl, sym, ap, arith, append-nil, append_assoc, ◌∙◌, filter, length-append, IfSome, Bor, ◌<◌, ◌≤◌, string_bytes}
use Rattle.std.specs.Option.{option_copied}
use Rattle.std.proofs.lemmas.List.Elements.{filter-append}
use Rattle.gw_json.specs.declared.refusal.Refusal.{Refusal}
use Rattle.gw_json.specs.declared.refusal.Refusal.TheVariants.{NotJson, NotEvent, Missing, WrongType, BadValue, TooLong, Full, NoMemory}
use Rattle.gw_json.specs.Lines.{line_of}
use Rattle.gw_json.specs.Words.{Fails}
use Rattle.gw_frames.specs.model.Requests.{Request}
use Rattle.gw_text.specs.model.Doors.{Door}
use Rattle.gw_text.specs.model.Objects.{Event, Change}
use Rattle.gw_text.specs.model.World.{World, nothing, is_full, apply, world_of, after_changes}
use Rattle.gw_link.specs.Moments.{Ticks, TicksInTurn}
use Rattle.gw_store.specs.Events.{Read, a_change, is_skipped, read_of, answer}
use Rattle.gw_store.specs.Lines.{is_blank}
use Rattle.gw_report.specs.EventLines.{LineResults, Refused, is_event_line, refused_by, with_line, with_answer, results_after}
use Rattle.gw_report.specs.RunText.{refused_data, refused_text, status_text, status_results_text, explanation_text, explanation_results_text}
use Rattle.gw_report.specs.Reports.{Tells, Applies, Takes, Refuses, world_with, skips}
use Rattle.gw_report.specs.declared.report.Report.{Report}

-- a refusal that isn't want of memory is the line's
pub fails_is : {Y : Type 0} (e : Refusal) (read : Result Y Refusal) → (e ≡ NoMemory → ⊥) → Fails e read → read ≡ Err e
fails_is NotJson read other fails = fails
fails_is NotEvent read other fails = fails
fails_is (Missing path) read other fails = fails
fails_is (WrongType path) read other fails = fails
fails_is (BadValue path) read other fails = fails
fails_is (TooLong path) read other fails = fails
fails_is Full read other fails = fails
fails_is NoMemory read other fails = absurd (other refl)

-- a change that finds room
pub answers_change : (w : World) (line : List ℕ) (event : Event) → read_of line ≡ Ok (a_change event) → is_full w event ≡ false → answer w line ≡ Ok (a_change event)
unfolding answer
answers_change w line event read room = rw (read, room) refl

-- the world of one change more
pub world_after : (w : World) (cs : List Change) (c : Change) → after_changes w (cs ++ c ∷ []) ≡ apply (after_changes w cs) c
world_after w [] c = refl
world_after w (d ∷ cs) c = world_after (apply w d) cs c

-- each change counts
changes_count : (w : World) (cs : List Change) → (after_changes w cs).changes ≡ w.changes + length cs
changes_count w [] = omega arith
changes_count w (c ∷ cs) = omega (arith, changes_count (apply w c) cs)

pub changes_all : (cs : List Change) → (world_of cs).changes ≡ length cs
changes_all cs = omega (arith, changes_count nothing cs)

-- the text of one refused line more
refused_text-more : (rs : List Refused) (r : Refused) → refused_text (rs ++ r ∷ []) ≡ refused_text rs ++ line_of (refused_data r)
refused_text-more [] r = append-nil (line_of (refused_data r))
refused_text-more (q ∷ rs) r = rw (refused_text-more rs r) (sym (append_assoc (line_of (refused_data q)) (refused_text rs) (line_of (refused_data r))))

module _ (number : ℕ) (line : List ℕ) (now : ℤ) {before after : Option (List ℤ)} (event : is_blank line ≡ false) (ticks : Ticks before now after) where
  applies_by : (old new : Report) → ((o : LineResults) → Tells o old → Tells (with_line o (record { number = number; line = line; at = now })) new) → Applies number (line ∷ []) before after old new
  applies_by old new tells = record { moments = now ∷ []; in_turn = (after, (ticks, refl)); each = rw event refl; tells = λ o told. rw event (tells o told) }

  -- one that is taken
  pub applies_taken : (old new : Report) → string_bytes new.text ≡ string_bytes old.text → new.refused ≡ old.refused → Takes line now old new → Applies number (line ∷ []) before after old new
  applies_taken old new text refused takes = applies_by old new (λ o told. rw (← told.world, takes.is) (tells_taken o told takes.read takes.world takes.skipped))
    where
      tells_taken : (o : LineResults) → Tells o old → (read : Read) → new.world.world ≡ world_with old.world.world now read → new.skipped ≡ old.skipped + skips read → Tells (with_answer o (record { number = number; line = line; at = now }) (Ok read)) new
      tells_taken o told (a_change event) world skipped = record {
        world = world ∙ ap (λ w. apply w (record { event = event; at = now })) told.world ∙ sym (world_after _ o.changes _);
        text = text ∙ told.text;
        refused = refused ∙ told.refused;
        skipped = omega (arith, skipped, told.skipped);
      }
      tells_taken o told is_skipped world skipped = record {
        world = world ∙ told.world;
        text = text ∙ told.text;
        refused = refused ∙ told.refused;
        skipped = omega (arith, skipped, told.skipped);
      }

  -- one that is refused
  pub applies_refused : (old mid new : Report) (e : Refusal) → answer old.world.world line ≡ Err e → mid.world.world ≡ old.world.world → mid.skipped ≡ old.skipped → string_bytes mid.text ≡ string_bytes old.text → mid.refused ≡ old.refused → Refuses number e mid new → Applies number (line ∷ []) before after old new
  applies_refused old mid new e is world skipped text refused done = applies_by old new (λ o told. rw (← told.world, is) (record {
    world = done.world ∙ world ∙ told.world;
    text = done.text ∙ ap (λ t. t ++ line_of (refused_data (refused_by number e))) (text ∙ told.text) ∙ sym (refused_text-more o.refused _);
    refused = rw length-append (omega (arith, done.refused, refused, told.refused));
    skipped = done.skipped ∙ skipped ∙ told.skipped;
  }))

-- a clock that was read in turn is read on
pub in_turn_on : (before between after : Option (List ℤ)) (first second : List ℤ) → TicksInTurn before first between → TicksInTurn between second after → TicksInTurn before (first ++ second) after
in_turn_on before between after [] second here later = rw (← here) later
in_turn_on before between after (now ∷ first) second here later = (here.0, (here.1.0, in_turn_on here.0 between after first second here.1.1 later))

-- what comes of one line more
results_more : (o : LineResults) (number : ℕ) (line : List ℕ) (lines : List (List ℕ)) (first second : List ℤ) → length first ≡ length (filter is_event_line (line ∷ [])) → results_after o number (line ∷ lines) (first ++ second) ≡ results_after (results_after o number (line ∷ []) first) (number + 1) lines second
results_more o number line lines first second each = elim (is_event_line line) as (λ b. is_event_line line ≡ b → results_after o number (line ∷ lines) (first ++ second) ≡ results_after (results_after o number (line ∷ []) first) (number + 1) lines second) [
  | true ↦ λ event. more_event event first (rw event at each)
  | false ↦ λ blank. more_blank blank first (rw blank at each)
] refl
  where
    more_event : is_event_line line ≡ true → (ms : List ℤ) → length ms ≡ 1 → results_after o number (line ∷ lines) (ms ++ second) ≡ results_after (results_after o number (line ∷ []) ms) (number + 1) lines second
    more_event event [] each = absurd (omega arith)
    more_event event (now ∷ []) each = rw event refl
    more_event event (now ∷ then ∷ ms) each = absurd (omega arith)

    more_blank : is_event_line line ≡ false → (ms : List ℤ) → length ms ≡ 0 → results_after o number (line ∷ lines) (ms ++ second) ≡ results_after (results_after o number (line ∷ []) ms) (number + 1) lines second
    more_blank blank [] each = rw blank refl
    more_blank blank (now ∷ ms) each = absurd (omega arith)

-- a line, and then the others
pub applies_more : (number : ℕ) (line : List ℕ) (lines : List (List ℕ)) (before between after : Option (List ℤ)) (old mid new : Report) → Applies number (line ∷ []) before between old mid → Applies (number + 1) lines between after mid new → Applies number (line ∷ lines) before after old new
applies_more number line lines before between after old mid new here later = record {
  moments = here.moments ++ later.moments;
  in_turn = in_turn_on before between after here.moments later.moments here.in_turn later.in_turn;
  each = rw (length-append, here.each, later.each) (sym (ap length (filter-append is_event_line (line ∷ []) lines) ∙ length-append _ _));
  tells = λ o told. rw (results_more o number line lines here.moments later.moments here.each) (later.tells _ (here.tells o told));
}

-- how many bytes are left, one more being counted for the line that has no line feed
abbrev pub left_size : Option (List ℕ) → ℕ
left_size None = 0
left_size (Some rest) = length rest + 1

pub left_size-shorter : (left : Option (Bor (List ℕ))) (text : List ℕ) → IfSome left (λ rest. length rest.now < length text) → left_size (option_copied left) ≤ length text
left_size-shorter None text shorter = omega arith
left_size-shorter (Some rest) text shorter = omega arith

module _ (doors : List Door) (controller : List ℕ) (o : LineResults) (report : Report) (told : Tells o report) where
  -- what a report tells is the text of what came of the lines
  pub status_told : string_bytes report.text ++ status_text doors controller report.world.world report.world.world.changes report.refused report.skipped ≡ status_results_text doors controller o
  unfolding status_results_text
  status_told = rw (told.text, told.world, told.refused, told.skipped, changes_all o.changes) refl

  pub explanation_told : (at : ℕ) (q : Request) → string_bytes report.text ++ explanation_text doors controller report.world.world report.world.world.changes at q ≡ explanation_results_text doors controller at q o
  unfolding explanation_results_text
  explanation_told at q = rw (told.text, told.world, changes_all o.changes) refl
