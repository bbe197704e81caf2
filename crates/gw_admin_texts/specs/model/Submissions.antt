-- What is replied to a request that brings changes.
use Rattle.std.specs.Prelude.{ℕ, List, [], ◌∷◌, ◌++◌, length, codes, Bool, true, false, if◌then◌else◌, count_by, filter, Result, Ok, Err}
use Rattle.std.specs.List.{enumerate_from, flat_map, list_any, zip}
use Rattle.serde_json.specs.Data.{Data, number, unsigned, object, member, no_members}
use Rattle.gw_json.specs.Lines.{line_of}
use Rattle.gw_json.specs.declared.refusal.Refusal.{Refusal}
use Rattle.gw_json.specs.declared.refusal.Refusal.TheVariants.{NotJson, NotEvent, Missing, WrongType, BadValue, TooLong, Full, NoMemory}
use Rattle.gw_store.specs.Lines.{lines_of}
use Rattle.gw_resolve.specs.declared.outcome.Outcome.{Outcome}
use Rattle.gw_resolve.specs.declared.outcome.Outcome.TheVariants.{Accepted, Skipped}
use Rattle.gw_report.specs.EventLines.{Refused, is_event_line, refused_by}
use Rattle.gw_report.specs.RunText.{refused_text}
use Rattle.gw_admin_texts.specs.declared.reply.Status.{Status}
use Rattle.gw_admin_texts.specs.declared.reply.Status.TheVariants as statuses
use Rattle.gw_admin_texts.specs.model.Replies.{Reply, with_body}

-- What a line is answered: what came of its event, or why it was refused.
abbrev pub Answer : Type 0
Answer = Result Outcome Refusal

-- The line of this number as a refused one, where it was refused. One for which there was no memory has the refusal 0.
abbrev pub refused_by_answer : ℕ → Answer → List Refused
refused_by_answer line (Ok outcome) = []
refused_by_answer line (Err e) = refused_by line e ∷ []

-- The refused ones of these lines, of which the first has this number. One answer belongs to each line that isn't blank.
abbrev pub refused_from : ℕ → List (List ℕ) → List Answer → List Refused
refused_from first lines answers =
    flat_map (λ e. refused_by_answer e.0.0 e.1) (zip (filter (λ e. is_event_line e.1) (enumerate_from first lines)) answers)

-- The refused lines of a body.
abbrev pub refused_lines : List ℕ → List Answer → List Refused
refused_lines body answers = refused_from 1 (lines_of body) answers

-- The event was no change.
abbrev pub is_skipped : Answer → Bool
is_skipped (Ok Accepted) = false
is_skipped (Ok Skipped) = true
is_skipped (Err e) = false

-- How many were none.
abbrev pub skipped_in : List Answer → ℕ
skipped_in answers = count_by is_skipped answers

-- The line was refused for what it is.
abbrev pub is_refused : Answer → Bool
is_refused (Ok outcome) = false
is_refused (Err NotJson) = true
is_refused (Err NotEvent) = true
is_refused (Err (Missing path)) = true
is_refused (Err (WrongType path)) = true
is_refused (Err (BadValue path)) = true
is_refused (Err (TooLong path)) = true
is_refused (Err Full) = true
is_refused (Err NoMemory) = false

-- There was no memory for the line.
abbrev pub is_out_of_memory : Answer → Bool
is_out_of_memory (Ok outcome) = false
is_out_of_memory (Err NotJson) = false
is_out_of_memory (Err NotEvent) = false
is_out_of_memory (Err (Missing path)) = false
is_out_of_memory (Err (WrongType path)) = false
is_out_of_memory (Err (BadValue path)) = false
is_out_of_memory (Err (TooLong path)) = false
is_out_of_memory (Err Full) = false
is_out_of_memory (Err NoMemory) = true

abbrev pub is_any_refused : List Answer → Bool
is_any_refused answers = list_any is_refused answers

abbrev pub is_any_out_of_memory : List Answer → Bool
is_any_out_of_memory answers = list_any is_out_of_memory answers

-- The status: a line was refused for what it is; else there was no memory for a line; else each was taken or skipped.
abbrev pub status_of : List Answer → Status
status_of answers =
    if is_any_refused answers then statuses.UnprocessableContent
    else (if is_any_out_of_memory answers then statuses.ServiceUnavailable else statuses.Ok)

-- What came of all lines: how many changes were accepted, from which place of the list of changes on, how many are published, and how
-- many lines were refused and skipped.
abbrev pub summary_data : ℕ → ℕ → ℕ → ℕ → ℕ → Data
summary_data accepted first front refused skipped =
    object (member (codes "accepted") (number (unsigned accepted))
    (member (codes "first") (number (unsigned first))
    (member (codes "front") (number (unsigned front))
    (member (codes "refused") (number (unsigned refused))
    (member (codes "skipped") (number (unsigned skipped)) no_members)))))

-- The refused lines in the order of the body, and what came of all lines.
abbrev pub changes_text : List ℕ → List Answer → ℕ → ℕ → ℕ → List ℕ
changes_text body answers first accepted front =
    refused_text (refused_lines body answers)
    ++ line_of (summary_data accepted first front (length (refused_lines body answers)) (skipped_in answers))

-- The reply to a request with this body, of which so many changes were accepted.
unfoldable pub changes_reply : List ℕ → List Answer → ℕ → ℕ → ℕ → Reply
changes_reply body answers first accepted front = with_body (status_of answers) (changes_text body answers first accepted front)
