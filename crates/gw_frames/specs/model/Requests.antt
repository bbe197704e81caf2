-- The requests that bytes hold, and how they end. Source: RFC 9112 sections 2 to 7 and 9.
use Rattle.std.specs.Prelude.{ℕ, ◌+◌, ◌≡◌, ◌⊎◌, List, [], ◌∷◌, ◌++◌, take, map, codes, Bool, true, false, ◌&&◌, ◌||◌, ◌==◌, nat_lt, if◌then◌else◌, Option, Some, None, unwrap_or}
use Rattle.http_uri.specs.Grammar.{path_of, query_of}
use Rattle.gw_messages.specs.declared.fault.BodyFault.{BodyFault}
use Rattle.gw_messages.specs.declared.fault.BodyFault.TheVariants.{Malformed, LongTrailers, TooBig}
use Rattle.gw_messages.specs.model.Bodies.{whole_body, bad_body, part_body, IsBody}
use Rattle.gw_text.specs.model.Fields.{Field, same_field_name}
use Rattle.gw_messages.specs.model.Values.{values_of, has_field, has_element, number_of, lower, same_word}
use Rattle.gw_frames.specs.model.Heads.{Head, Target, IsHead, IsTarget, code_of, authority_of, host_length}
use Rattle.gw_messages.specs.model.Sections.{whole_section, long_section, part_section, IsCut, ends_head, are_empty_lines}
use Rattle.gw_frames.specs.declared.ended.Ended.{Ended}
use Rattle.gw_frames.specs.declared.ended.Ended.TheVariants.{Closed, Truncated, Asked, Enough, Refused}

-- A request. `framed` says that it announced a body, `close` that the connection ends behind it.
pub record Request : Type 0 where
  pub method : List ℕ
  pub target : List ℕ
  pub path : List ℕ
  pub authority : List ℕ
  pub host : List ℕ
  pub query : Option (List ℕ)
  pub minor : ℕ
  pub fields : List Field
  pub body : List ℕ
  pub framed : Bool
  pub close : Bool

-- A request whose body hasn't been read: the request with an empty one, how many bytes the body has, none where it is
-- chunked, and whether it expects the answer 100 first.
pub record Opening : Type 0 where
  pub request : Request
  pub size : Option ℕ
  pub expects : Bool

-- The body's size: a chunked one announces none. Source: RFC 9112 section 6.3.
abbrev pub size_of : List Field → Option ℕ
size_of fields =
    if has_field (codes "transfer-encoding") fields then None
    else Some (number_of (values_of (codes "content-length") fields))

-- The body may have a byte.
abbrev pub is_awaited : Option ℕ → Bool
is_awaited None = true
is_awaited (Some size) = nat_lt 0 size

-- There is one value, and it is this word; values of one field name are read as one list. Source: RFC 9110 section 5.3.
abbrev pub is_only : List ℕ → List (List ℕ) → Bool
is_only word [] = false
is_only word (value ∷ []) = same_word word value
is_only word (value ∷ second ∷ values) = false

-- The client waits for the answer 100 before it sends the body: HTTP/1.1, a body, and the expectation `100-continue` alone.
-- Source: RFC 9110 section 10.1.1.
abbrev pub expects : Head → Bool
expects h =
    (h.minor == 1) && is_awaited (size_of h.fields)
    && is_only (codes "100-continue") (values_of (codes "expect") h.fields)

-- The client asks that the connection ends: HTTP/1.0, or the option `close`. Source: RFC 9112 section 9.6.
abbrev pub closes : Head → Bool
closes h = (h.minor == 0) || has_element (codes "close") (values_of (codes "connection") h.fields)

-- The field, with an authority in the place of Host's value.
abbrev pub with_host : List ℕ → Field → Field
with_host authority f =
    if same_field_name f.name (codes "host") then record { name = f.name; value = authority } else f

-- The fields, with the authority of an absolute target in the place of Host's value. Source: RFC 9112 section 3.2.2.
abbrev pub hosted : Option (List ℕ) → List Field → List Field
hosted None fields = fields
hosted (Some authority) fields = map (with_host authority) fields

-- The request that a head and its target open.
unfoldable pub request_of : Head → Target → Request
request_of h t =
    let authority = authority_of t (values_of (codes "host") h.fields) in
    record {
      method = h.method;
      target = h.target;
      path = path_of t.path_and_query;
      authority = authority;
      host = lower (take (host_length authority) authority);
      query = query_of t.path_and_query;
      minor = h.minor;
      fields = hosted t.authority h.fields;
      body = [];
      framed = has_field (codes "transfer-encoding") h.fields || has_field (codes "content-length") h.fields;
      close = closes h;
    }

-- What a head comes to: it is refused, or opens a request.
pub data Judgment : Type 0 where
  refused : ℕ → Judgment
  opened : Opening → Judgment

-- A head opens a request where no test refuses it.
abbrev pub judgment_of : Option ℕ → Head → Option Target → Judgment
judgment_of (Some code) h t = refused code
judgment_of None h None = refused 400
judgment_of None h (Some t) = opened (record { request = request_of h t; size = size_of h.fields; expects = expects h })

-- The judgment on the bytes of a head: what isn't a head is refused, then the tests are tried.
abbrev pub IsJudged : List ℕ → Judgment → Type 0
IsJudged bytes judgment =
    (IsHead bytes None × (judgment ≡ refused 400))
    ⊎ ((head : Head) × (target : Option Target) × IsHead bytes (Some head) × IsTarget head.target target
    × (judgment ≡ judgment_of (code_of head target) head target))

-- The code of a body's fault.
abbrev pub fault_code : BodyFault → ℕ
fault_code Malformed = 400
fault_code LongTrailers = 431
fault_code TooBig = 413

-- What the bytes of a connection give, step by step: a request; the answer 100, for which a request waits; a refusal with its
-- code; the end; or an end inside a request.
pub data Step : Type 0 where
  an_ask : Request → Step
  a_continue : Step
  a_refusal : ℕ → Step
  an_end : Step
  a_break : Step

-- What comes next: a head, or the body of a request.
pub data Part : Type 0 where
  a_head : Part
  a_body : Opening → Part

-- The answer 100 where the request expects it.
abbrev pub announced : Bool → List Step
announced false = []
announced true = a_continue ∷ []

-- Where a head isn't whole, the connection goes on, or ends behind whole empty lines, or inside a request.
abbrev pub after_no_head : List ℕ → Bool → List Step
after_no_head bytes false = []
after_no_head bytes true = (if are_empty_lines bytes then an_end else a_break) ∷ []

-- Where a body isn't whole, the connection goes on, or ends inside a request.
abbrev pub after_no_body : Bool → List Step
after_no_body false = []
after_no_body true = a_break ∷ []

-- The request that a body makes whole.
abbrev pub whole_request : Opening → List ℕ → Request
whole_request o body = record {
  method = o.request.method;
  target = o.request.target;
  path = o.request.path;
  authority = o.request.authority;
  host = o.request.host;
  query = o.request.query;
  minor = o.request.minor;
  fields = o.request.fields;
  body = body;
  framed = o.request.framed;
  close = o.request.close;
}

-- Why the connection ends behind the request of this number, if it does: the request asks for that, or it is the 1,000th.
-- Source: RFC 9112 section 9.6.
abbrev pub end_behind : ℕ → Request → Option Ended
end_behind number r = if r.close then Some Asked else (if number == 1000 then Some Enough else None)

-- The steps that bytes give, of which all have come where `over` is true. So many requests came before; the part comes next.
-- A body has at most 1,048,576 bytes when it is decoded, and 16,777,216 as it is sent, where it is chunked.
pub data Asks : Part → ℕ → List ℕ → Bool → List Step → Type 0 where
  no_head : {count : ℕ} {bytes : List ℕ} {over : Bool} {steps : List Step} → IsCut ends_head 16384 bytes part_section
      → steps ≡ after_no_head bytes over → Asks a_head count bytes over steps
  long_head : {count : ℕ} {bytes : List ℕ} {over : Bool} → IsCut ends_head 16384 bytes long_section
      → Asks a_head count bytes over (a_refusal 431 ∷ [])
  bad_head : {count : ℕ} {bytes : List ℕ} {over : Bool} {code : ℕ} (head rest : List ℕ)
      → IsCut ends_head 16384 bytes (whole_section head rest) → IsJudged head (refused code)
      → Asks a_head count bytes over (a_refusal code ∷ [])
  good_head : {count : ℕ} {bytes : List ℕ} {over : Bool} {steps : List Step} (head rest : List ℕ) (o : Opening) (later : List Step)
      → IsCut ends_head 16384 bytes (whole_section head rest) → IsJudged head (opened o) → Asks (a_body o) count rest over later
      → steps ≡ announced o.expects ++ later → Asks a_head count bytes over steps
  no_body : {count : ℕ} {bytes : List ℕ} {over : Bool} {o : Opening} {steps : List Step} → IsBody 1048576 16777216 o.size bytes part_body
      → steps ≡ after_no_body over → Asks (a_body o) count bytes over steps
  faulty_body : {count : ℕ} {bytes : List ℕ} {over : Bool} {o : Opening} {steps : List Step} (fault : BodyFault)
      → IsBody 1048576 16777216 o.size bytes (bad_body fault) → steps ≡ a_refusal (fault_code fault) ∷ [] → Asks (a_body o) count bytes over steps
  last_body : {count : ℕ} {bytes : List ℕ} {over : Bool} {o : Opening} {steps : List Step} (body rest : List ℕ) (why : Ended)
      → IsBody 1048576 16777216 o.size bytes (whole_body body rest) → end_behind (count + 1) o.request ≡ Some why
      → steps ≡ an_ask (whole_request o body) ∷ an_end ∷ [] → Asks (a_body o) count bytes over steps
  good_body : {count : ℕ} {bytes : List ℕ} {over : Bool} {o : Opening} {steps : List Step} (body rest : List ℕ) (later : List Step)
      → IsBody 1048576 16777216 o.size bytes (whole_body body rest) → end_behind (count + 1) o.request ≡ None → Asks a_head (count + 1) rest over later
      → steps ≡ an_ask (whole_request o body) ∷ later → Asks (a_body o) count bytes over steps

-- How the connection ended whose further steps these are, behind so many requests, where an end would mean this.
abbrev pub ended_after : ℕ → Ended → List Step → Option Ended
ended_after count why [] = None
ended_after count why (an_ask r ∷ steps) = ended_after (count + 1) (unwrap_or (end_behind (count + 1) r) Closed) steps
ended_after count why (a_continue ∷ steps) = ended_after count why steps
ended_after count why (a_refusal code ∷ steps) = Some (Refused code)
ended_after count why (an_end ∷ steps) = Some why
ended_after count why (a_break ∷ steps) = Some Truncated

-- How the connection ended whose steps these are, if it did.
abbrev pub ended : List Step → Option Ended
ended steps = ended_after 0 Closed steps
