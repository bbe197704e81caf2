-- Rows, replies and steps of parts depend on the changes of their requests only by what the world takes of these.
use Rattle.std.proofs.Common.{◌≡◌, ℕ, ◌+◌, true, List, [], ◌∷◌, ◌++◌, length, map, get_or, flat_map, refl, sym, ap, ap₂, ◌∙◌, Option, None}
use Rattle.std.proofs.lemmas.List.{length-map}
use Rattle.gw_answers.specs.declared.books.Books.{Books}
use Rattle.gw_answers.specs.model.Decisions.{Decision, books_after, decision_of}
use Rattle.gw_answers.specs.model.Messages.{is_head}
use Rattle.gw_answers.specs.model.ServedRows.{ServedRow}
use Rattle.gw_frames.specs.model.Requests.{Request, Step, an_ask, a_break, a_continue, a_refusal, an_end}
use Rattle.gw_match.specs.model.Telling.{change_of, tables_of}
use Rattle.gw_replay.specs.Lines.{forwarded, part_text, row_line, rows_text}
use Rattle.gw_replies.specs.model.Written.{own}
use Rattle.gw_rows.specs.model.Rows.{Rows}
use Rattle.gw_text.specs.model.Objects.{Change}
use Rattle.gw_text.specs.model.World.{world_of}
use Rattle.gw_worker.specs.model.Sessions.{Answer, Part, Place, a_close, a_cut, a_refused, a_request, a_wait, continue_text, decision_at, is_last, no_rows, reply_by, row_by, row_of, rows_of, step_of, written_behind}

-- a part, with the changes as the world takes them
pub data PartView : Type 0 where
  request_view : Request → List Change → Books → Option Answer → PartView
  wait_view : PartView
  refused_view : ℕ → PartView
  close_view : PartView
  cut_view : PartView

abbrev pub part_view : Part → PartView
part_view (a_request q h) = request_view q (map change_of h.changes) h.books h.answer
part_view a_wait = wait_view
part_view (a_refused code) = refused_view code
part_view a_close = close_view
part_view a_cut = cut_view

-- how a request is decided after changes, and the books behind it
abbrev pub rows_in : Place → List Change → Rows
rows_in p changes = get_or (tables_of p.doors p.controller (world_of changes)) p.door no_rows

abbrev pub decided_in : Place → Request → List Change → Books → Decision
decided_in p q changes books = decision_of (rows_in p changes) q books

abbrev pub counted_in : Place → Request → List Change → Books → Books
counted_in p q changes books = books_after (rows_in p changes) q books

-- what comes of a part
abbrev step_by : PartView → Step
step_by (request_view q changes books answer) = an_ask q
step_by wait_view = a_continue
step_by (refused_view code) = a_refusal code
step_by close_view = an_end
step_by cut_view = a_break

abbrev rows_by : Place → PartView → List ServedRow
rows_by p (request_view q changes books answer) =
    row_by (length changes) (decided_in p q changes books).chosen (decided_in p q changes books).action answer
rows_by p wait_view = []
rows_by p (refused_view code) = []
rows_by p close_view = []
rows_by p cut_view = []

abbrev text_by : List ℕ → ℕ → Place → PartView → List ℕ
text_by name line p (request_view q changes books answer) =
    flat_map (λ row. row_line name line row (forwarded (decided_in p q changes books).action answer))
    (row_by (length changes) (decided_in p q changes books).chosen (decided_in p q changes books).action answer)
text_by name line p wait_view = []
text_by name line p (refused_view code) = []
text_by name line p close_view = []
text_by name line p cut_view = []

abbrev written_by : Place → ℕ → List PartView → List ℕ
written_by p count [] = []
written_by p count (request_view q changes books answer ∷ parts) =
    reply_by (decided_in p q changes books).action answer (is_head q) (is_last (count + 1) q) ++ written_by p (count + 1) parts
written_by p count (wait_view ∷ parts) = continue_text ++ written_by p count parts
written_by p count (refused_view code ∷ parts) = own code None None true ++ written_by p count parts
written_by p count (close_view ∷ parts) = written_by p count parts
written_by p count (cut_view ∷ parts) = written_by p count parts

steps_are : (parts : List Part) → map step_of parts ≡ map step_by (map part_view parts)
steps_are [] = refl
steps_are (a_request q h ∷ parts) = ap (λ steps. an_ask q ∷ steps) (steps_are parts)
steps_are (a_wait ∷ parts) = ap (λ steps. a_continue ∷ steps) (steps_are parts)
steps_are (a_refused code ∷ parts) = ap (λ steps. a_refusal code ∷ steps) (steps_are parts)
steps_are (a_close ∷ parts) = ap (λ steps. an_end ∷ steps) (steps_are parts)
steps_are (a_cut ∷ parts) = ap (λ steps. a_break ∷ steps) (steps_are parts)

row_is : (p : Place) (part : Part) → row_of p part ≡ rows_by p (part_view part)
row_is p (a_request q h) =
    ap (λ front. row_by front (decision_at p q h).chosen (decision_at p q h).action h.answer) (sym (length-map h.changes change_of))
row_is p a_wait = refl
row_is p (a_refused code) = refl
row_is p a_close = refl
row_is p a_cut = refl

rows_are : (p : Place) (parts : List Part) → rows_of p parts ≡ flat_map (rows_by p) (map part_view parts)
rows_are p [] = refl
rows_are p (part ∷ parts) = ap₂ (λ (a b : List ServedRow). a ++ b) (row_is p part) (rows_are p parts)

text_is : (name : List ℕ) (line : ℕ) (p : Place) (part : Part) → part_text name line p part ≡ text_by name line p (part_view part)
text_is name line p (a_request q h) =
    ap (λ front. flat_map (λ row. row_line name line row (forwarded (decision_at p q h).action h.answer))
    (row_by front (decision_at p q h).chosen (decision_at p q h).action h.answer)) (sym (length-map h.changes change_of))
text_is name line p a_wait = refl
text_is name line p (a_refused code) = refl
text_is name line p a_close = refl
text_is name line p a_cut = refl

texts_are : (name : List ℕ) (line : ℕ) (p : Place) (parts : List Part)
    → rows_text name line p parts ≡ flat_map (text_by name line p) (map part_view parts)
texts_are name line p [] = refl
texts_are name line p (part ∷ parts) = ap₂ (λ (a b : List ℕ). a ++ b) (text_is name line p part) (texts_are name line p parts)

written_is : (p : Place) (count : ℕ) (parts : List Part) → written_behind p count parts ≡ written_by p count (map part_view parts)
written_is p count [] = refl
written_is p count (a_request q h ∷ parts) =
    ap (λ text. reply_by (decision_at p q h).action h.answer (is_head q) (is_last (count + 1) q) ++ text) (written_is p (count + 1) parts)
written_is p count (a_wait ∷ parts) = ap (λ text. continue_text ++ text) (written_is p count parts)
written_is p count (a_refused code ∷ parts) = ap (λ text. own code None None true ++ text) (written_is p count parts)
written_is p count (a_close ∷ parts) = written_is p count parts
written_is p count (a_cut ∷ parts) = written_is p count parts

-- parts of the same views
pub same_steps : (parts others : List Part) → map part_view parts ≡ map part_view others → map step_of parts ≡ map step_of others
same_steps parts others e = steps_are parts ∙ ap (map step_by) e ∙ sym (steps_are others)

pub same_rows : (p : Place) (parts others : List Part) → map part_view parts ≡ map part_view others → rows_of p parts ≡ rows_of p others
same_rows p parts others e = rows_are p parts ∙ ap (flat_map (rows_by p)) e ∙ sym (rows_are p others)

pub same_texts : (name : List ℕ) (line : ℕ) (p : Place) (parts others : List Part) → map part_view parts ≡ map part_view others
    → rows_text name line p parts ≡ rows_text name line p others
same_texts name line p parts others e = texts_are name line p parts ∙ ap (flat_map (text_by name line p)) e ∙ sym (texts_are name line p others)

pub same_written : (p : Place) (count : ℕ) (parts others : List Part) → map part_view parts ≡ map part_view others
    → written_behind p count parts ≡ written_behind p count others
same_written p count parts others e = written_is p count parts ∙ ap (written_by p count) e ∙ sym (written_is p count others)
