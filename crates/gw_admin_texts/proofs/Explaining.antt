-- Questions, about a door that is there, and about one that isn't; and bodies that are none.
use Rattle.std.proofs.Common.{◌≡◌, ◌∙◌, ◌<◌, ◌≤◌, ℕ, sym, ap, List, [], ◌∷◌, length, get_or, arith, subst, Option, Some}
use Rattle.std.specs.Prelude.{slice_get}
use Rattle.std.specs.Option.{option_map_or}
use Rattle.std.specs.Result.{result_ok}
use Rattle.std.proofs.lemmas.Option.{slice_get-get_or, slice_get_past}
use Rattle.gw_decide.specs.ExplainText.{explain_text}
use Rattle.gw_frames.specs.model.Requests.{Request}
use Rattle.gw_requests.specs.Requests.{IsRequest}
use Rattle.gw_rows.specs.model.Rows.{Rows}
use Rattle.gw_admin_texts.specs.declared.reply.Status.TheVariants.{Ok}
use Rattle.gw_admin_texts.specs.model.Questions.{Asking, IsQuestion, Question, asking_of, bad_request, explanation_reply}
use Rattle.gw_admin_texts.specs.model.Replies.{with_body}

pub explained_at : (tables : List Rows) (q : Question) (front : ℕ) (text : List ℕ) → q.door < length tables
    → ((r : Rows) → text ≡ explain_text (get_or tables q.door r) q.request front) → with_body Ok text ≡ explanation_reply tables q front
unfolding explanation_reply
explained_at [] q front text lt is = absurd (omega arith)
explained_at (t ∷ tables) q front text lt is =
    ap (with_body Ok) (is t) ∙ sym (ap (λ found. option_map_or (λ rows. with_body Ok (explain_text rows q.request front)) found bad_request) (slice_get-get_or (t ∷ tables) q.door t lt))

pub explained_nowhere : (tables : List Rows) (q : Question) (front : ℕ) → length tables ≤ q.door → bad_request ≡ explanation_reply tables q front
unfolding explanation_reply
explained_nowhere tables q front past =
    sym (ap (λ found. option_map_or (λ rows. with_body Ok (explain_text rows q.request front)) found bad_request) (slice_get_past tables q.door past))

-- a body that asks with bytes that are no request is no question
pub no_question : (body : List ℕ) (door : ℕ) (bytes : List ℕ) → result_ok (asking_of body) ≡ Some (record { door = door; bytes = bytes })
    → ((r : Request) → IsRequest bytes r → ⊥) → (q : Question) → IsQuestion body q → ⊥
no_question body door bytes asks none q is =
    let same : Some (record { door = q.door; bytes = is.bytes }) ≡ Some (record { door = door; bytes = bytes }) = sym (ap result_ok is.asks) ∙ asks in
    none q.request (subst (λ b. IsRequest b q.request) (ap (λ (o : Option Asking). option_map_or (λ (a : Asking). a.bytes) o []) same) is.request)
