-- The response that bytes hold. Source: RFC 9112 sections 4 and 6, RFC 9110 sections 8.6 and 15.
use Rattle.std.specs.Prelude.{ℕ, ◌+◌, ◌-◌, ◌<◌, ◌≤◌, ◌≡◌, List, [], length, map, codes, Bool, true, false, not, ◌&&◌, ◌||◌, ◌==◌, nat_lt, nat_le, if◌then◌else◌, Option, Some, None}
use Rattle.httparse.specs.Grammar.{ResponseHead, ReadsResponse, status_code, reason_phrase}
use Rattle.gw_text.specs.model.Fields.{Field}
use Rattle.gw_messages.specs.declared.fault.BodyFault.{BodyFault}
use Rattle.gw_messages.specs.declared.fault.BodyFault.TheVariants as body_faults
use Rattle.gw_messages.specs.model.Bodies.{Body as BodyOf, whole_body, bad_body, part_body, IsBody}
use Rattle.gw_messages.specs.model.Sections.{whole_section, long_section, part_section, IsCut, ends_head}
use Rattle.gw_messages.specs.model.Values.{are_one_number, codings, ends_chunked, field_of, has_field, number_of, values_of}
use Rattle.gw_replies.specs.declared.fault.BackendFault.{BackendFault}
use Rattle.gw_replies.specs.declared.fault.BackendFault.TheVariants as faults

-- A response's head: its code, its phrase, empty where it has none, and its fields.
pub record Head : Type 0 where
  pub code : ℕ
  pub phrase : List ℕ
  pub fields : List Field

-- The parts of a head.
abbrev pub head_of : ResponseHead → Head
head_of h = record { code = status_code h; phrase = reason_phrase h.reason; fields = map field_of h.fields }

-- The bytes are this head of HTTP/1.0 or HTTP/1.1 and nothing else, or they are no such head. Source: RFC 9112 section 4.
abbrev pub IsHead : List ℕ → Option Head → Type 0
IsHead bytes None = (h : ResponseHead) → ¬ (ReadsResponse bytes h [])
IsHead bytes (Some head) = (h : ResponseHead) × ReadsResponse bytes h [] × (head ≡ head_of h)

-- A response. `length` is what a valid Content-Length announces.
pub record Response : Type 0 where
  pub code : ℕ
  pub phrase : List ℕ
  pub fields : List Field
  pub body : List ℕ
  pub length : Option ℕ

-- What bytes come to: more are needed; a response; or a fault.
pub data Outcome : Type 0 where
  a_need : Outcome
  a_response : Response → Outcome
  a_fault : BackendFault → Outcome

-- A head that isn't taken: of 101, which switches to another protocol, or of more than 100 fields.
abbrev pub is_refused : Head → Bool
is_refused h = h.code == 101 || nat_lt 100 (length h.fields)

-- An interim response, which another one follows. Source: RFC 9110 section 15.2.
abbrev pub is_interim : Head → Bool
is_interim h = nat_le 100 h.code && nat_le h.code 199

-- A response without a body: one to HEAD, and one with the code 204 or 304. Source: RFC 9112 section 6.3.
abbrev pub is_bodiless : Bool → ℕ → Bool
is_bodiless to_head code = to_head || code == 204 || code == 304

-- Transfer-Encoding is `chunked` alone. Source: RFC 9112 section 6.1.
abbrev pub is_chunked_alone : List (List ℕ) → Bool
is_chunked_alone names = length names == 1 && ends_chunked names

-- The body's length can't be told: Transfer-Encoding beside Content-Length, or other than `chunked` alone; or Content-Length
-- that isn't a number, or unequal ones. Source: RFC 9112 section 6.3.
abbrev pub is_misframed : List Field → Bool
is_misframed fields =
    (has_field (codes "transfer-encoding") fields
    && (has_field (codes "content-length") fields || not (is_chunked_alone (codings fields))))
    || not (are_one_number (values_of (codes "content-length") fields))

-- The number that Content-Length gives, where it is valid and below 2^64. Source: RFC 9110 section 8.6.
abbrev pub announced_length : List Field → Option ℕ
announced_length fields =
    if has_field (codes "content-length") fields && are_one_number (values_of (codes "content-length") fields)
    && nat_le (number_of (values_of (codes "content-length") fields)) 18446744073709551615
    then Some (number_of (values_of (codes "content-length") fields)) else None

-- The response of a head and a body.
abbrev pub response_of : Head → List ℕ → Response
response_of h body = record {
  code = h.code;
  phrase = h.phrase;
  fields = h.fields;
  body = body;
  length = announced_length h.fields;
}

-- How the end of a body is told: by its chunks, by the number of its bytes, or by the end of the bytes.
pub data Extent : Type 0 where
  by_chunks : Extent
  by_number : ℕ → Extent
  by_end : Extent

-- The extent that fields give. Source: RFC 9112 section 6.3.
abbrev pub extent_of : List Field → Extent
extent_of fields =
    if has_field (codes "transfer-encoding") fields then by_chunks
    else (if has_field (codes "content-length") fields then by_number (number_of (values_of (codes "content-length") fields))
    else by_end)

-- A body that ends with the bytes, of at most 8,388,608 bytes.
abbrev pub body_to_end : List ℕ → Bool → BodyOf
body_to_end bytes ended =
    if nat_lt 8388608 (length bytes) then bad_body body_faults.TooBig else (if ended then whole_body bytes [] else part_body)

-- The body of a response, before which so many bytes came: at most 8,388,608 bytes when decoded, and 67,108,864 with those before.
abbrev pub IsBodyOf : Extent → ℕ → List ℕ → Bool → BodyOf → Type 0
IsBodyOf by_chunks before bytes ended body = IsBody 8388608 (67108864 - before) None bytes body
IsBodyOf (by_number size) before bytes ended body = IsBody 8388608 (67108864 - before) (Some size) bytes body
IsBodyOf by_end before bytes ended body = body ≡ body_to_end bytes ended

-- The fault of a response whose body has one.
abbrev pub fault_of : BodyFault → BackendFault
fault_of body_faults.Malformed = faults.Body
fault_of body_faults.LongTrailers = faults.Body
fault_of body_faults.TooBig = faults.TooBig

-- Where the response isn't whole: it is cut where the bytes have ended.
abbrev pub unfinished : Bool → Outcome
unfinished false = a_need
unfinished true = a_fault faults.Cut

-- What a head and its body come to.
abbrev pub outcome_of : Head → BodyOf → Bool → Outcome
outcome_of h (whole_body body rest) ended = a_response (response_of h body)
outcome_of h (bad_body fault) ended = a_fault (fault_of fault)
outcome_of h part_body ended = unfinished ended

-- What bytes come to, behind so many interim responses of so many bytes. At most 16 interim responses come before a response;
-- they are dropped. A fault is the one that stands at the shortest front of the bytes at which one stands. `to_head` says that the
-- response is one to HEAD, `ended` that all bytes have come.
pub data Responds : Bool → ℕ → ℕ → List ℕ → Bool → Outcome → Type 0 where
  no_head : {to_head : Bool} {count before : ℕ} {bytes : List ℕ} {ended : Bool} {outcome : Outcome}
      → IsCut ends_head 16384 bytes part_section → outcome ≡ unfinished ended → Responds to_head count before bytes ended outcome
  long_head : {to_head : Bool} {count before : ℕ} {bytes : List ℕ} {ended : Bool}
      → IsCut ends_head 16384 bytes long_section → Responds to_head count before bytes ended (a_fault faults.Head)
  bad_head : {to_head : Bool} {count before : ℕ} {bytes : List ℕ} {ended : Bool} (head rest : List ℕ)
      → IsCut ends_head 16384 bytes (whole_section head rest) → IsHead head None
      → Responds to_head count before bytes ended (a_fault faults.Head)
  refused_head : {to_head : Bool} {count before : ℕ} {bytes : List ℕ} {ended : Bool} (head rest : List ℕ) (h : Head)
      → IsCut ends_head 16384 bytes (whole_section head rest) → IsHead head (Some h) → is_refused h ≡ true
      → Responds to_head count before bytes ended (a_fault faults.Head)
  many_interim : {to_head : Bool} {count before : ℕ} {bytes : List ℕ} {ended : Bool} (head rest : List ℕ) (h : Head)
      → IsCut ends_head 16384 bytes (whole_section head rest) → IsHead head (Some h) → is_refused h ≡ false
      → is_interim h ≡ true → 16 ≤ count → Responds to_head count before bytes ended (a_fault faults.Head)
  interim : {to_head : Bool} {count before : ℕ} {bytes : List ℕ} {ended : Bool} {outcome : Outcome} (head rest : List ℕ) (h : Head)
      → IsCut ends_head 16384 bytes (whole_section head rest) → IsHead head (Some h) → is_refused h ≡ false
      → is_interim h ≡ true → count < 16 → Responds to_head (count + 1) (before + length head) rest ended outcome
      → Responds to_head count before bytes ended outcome
  bodiless : {to_head : Bool} {count before : ℕ} {bytes : List ℕ} {ended : Bool} {outcome : Outcome} (head rest : List ℕ) (h : Head)
      → IsCut ends_head 16384 bytes (whole_section head rest) → IsHead head (Some h) → is_refused h ≡ false
      → is_interim h ≡ false → is_bodiless to_head h.code ≡ true → outcome ≡ a_response (response_of h [])
      → Responds to_head count before bytes ended outcome
  misframed : {to_head : Bool} {count before : ℕ} {bytes : List ℕ} {ended : Bool} (head rest : List ℕ) (h : Head)
      → IsCut ends_head 16384 bytes (whole_section head rest) → IsHead head (Some h) → is_refused h ≡ false
      → is_interim h ≡ false → is_bodiless to_head h.code ≡ false → is_misframed h.fields ≡ true
      → Responds to_head count before bytes ended (a_fault faults.Body)
  bodied : {to_head : Bool} {count before : ℕ} {bytes : List ℕ} {ended : Bool} {outcome : Outcome} (head rest : List ℕ) (h : Head)
      (body : BodyOf) → IsCut ends_head 16384 bytes (whole_section head rest) → IsHead head (Some h) → is_refused h ≡ false
      → is_interim h ≡ false → is_bodiless to_head h.code ≡ false → is_misframed h.fields ≡ false
      → IsBodyOf (extent_of h.fields) (before + length head) rest ended body → outcome ≡ outcome_of h body ended
      → Responds to_head count before bytes ended outcome

-- What bytes from a backend come to. Bytes behind the response count nothing.
abbrev pub ResponseOf : Bool → List ℕ → Bool → Outcome → Type 0
ResponseOf to_head bytes ended outcome = Responds to_head 0 0 bytes ended outcome
