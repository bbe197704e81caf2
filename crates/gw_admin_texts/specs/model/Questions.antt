-- What is replied to requests that ask what becomes of another request.
use Rattle.std.specs.Prelude.{◌≡◌, ℕ, ◌==◌, List, [], length, codes, Option, None, Some, Result, Ok, ⊤, slice_get}
use Rattle.std.specs.Option.{option_map_or}
use Rattle.std.specs.Str.{chars}
use Rattle.gw_json.specs.declared.refusal.Refusal.{Refusal}
use Rattle.gw_json.specs.declared.refusal.Refusal.TheVariants.{BadValue}
use Rattle.gw_json.specs.Fields.{Node, count_of, need_of, number_of, text_of}
use Rattle.gw_json.specs.Lines.{max_line, value_of}
use Rattle.gw_json.specs.Words.{◌>>=◌, or, want}
use Rattle.gw_frames.specs.model.Requests.{Request}
use Rattle.gw_requests.specs.Quoted.{bytes_in}
use Rattle.gw_requests.specs.Requests.{IsRequest}
use Rattle.gw_rows.specs.model.Rows.{Rows}
use Rattle.gw_decide.specs.ExplainText.{explain_text}
use Rattle.gw_admin_texts.specs.declared.reply.Status.TheVariants as statuses
use Rattle.gw_admin_texts.specs.model.Replies.{Reply, with_body, without_body}

-- A request to be explained, at the door of this number.
pub record Question : Type 0 where
  pub door : ℕ
  pub request : Request

-- The same with the bytes that are to be one whole request.
pub record Asking : Type 0 where
  pub door : ℕ
  pub bytes : List ℕ

-- The value is an object of two members.
unfoldable pub two_members : Node → Result ⊤ Refusal
two_members at = do
  count ← count_of at
  want (BadValue at.path) (count == 2)

-- The number of the door.
unfoldable pub door_of : Node → Result ℕ Refusal
door_of at = do
  door ← need_of (codes "at") at
  number_of 0 18446744073709551615 door

-- The bytes of the request: its characters, each of which stands for the byte of its number.
unfoldable pub bytes_of : Node → Result (List ℕ) Refusal
bytes_of at = do
  request ← need_of (codes "request") at
  text ← text_of max_line request
  or (BadValue request.path) (bytes_in (chars text))

-- What a value asks: an object `{"at":n,"request":t}`.
unfoldable pub asking_at : Node → Result Asking Refusal
asking_at at = do
  _ ← two_members at
  door ← door_of at
  bytes ← bytes_of at
  Ok (record { door = door; bytes = bytes })

-- What a body asks.
unfoldable pub asking_of : List ℕ → Result Asking Refusal
asking_of body = do
  value ← value_of body
  asking_at (record { value = value; path = [] })

-- A body asks this: its bytes are one whole request.
pub record IsQuestion (body : List ℕ) (q : Question) : Type 0 where
  pub bytes : List ℕ
  pub asks : asking_of body ≡ Ok (record { door = q.door; bytes = bytes })
  pub request : IsRequest bytes q.request

-- The question that a body is, or none where it isn't one.
abbrev pub IsQuestionOf : List ℕ → Option Question → Type 0
IsQuestionOf body (Some q) = IsQuestion body q
IsQuestionOf body None = (q : Question) → IsQuestion body q → ⊥

-- The body is no question, or asks of a door that isn't there. Source: RFC 9110 section 15.5.1.
abbrev pub bad_request : Reply
bad_request = without_body statuses.BadRequest

-- What becomes of the request at its door after so many changes, where there is such a door.
unfoldable pub explanation_reply : List Rows → Question → ℕ → Reply
explanation_reply tables q front =
    option_map_or (λ rows. with_body statuses.Ok (explain_text rows q.request front)) (slice_get tables q.door) bad_request
