-- The bytes of messages that are written. Source: RFC 9112 sections 2.1, 3, 4 and 5, RFC 9110 sections 7.6.1, 7.6.3, 8.6 and 15.
use Rattle.std.specs.Prelude.{ℕ, ◌+◌, ◌/◌, ◌%◌, List, [], ◌∷◌, ◌++◌, length, map, codes, decimal, Bool, true, false, ◌==◌, if◌then◌else◌, Option, Some, None}
use Rattle.std.specs.List.{flat_map}
use Rattle.gw_text.specs.model.Fields.{Field}
use Rattle.gw_messages.specs.model.Values.{lower}
use Rattle.gw_replies.specs.declared.fault.BackendFault.{BackendFault}
use Rattle.gw_replies.specs.declared.fault.BackendFault.TheVariants as faults
use Rattle.gw_replies.specs.declared.fault.FaultName.{FaultName}
use Rattle.gw_replies.specs.declared.fault.FaultName.TheVariants as names
use Rattle.gw_replies.specs.model.Responses.{Response, is_bodiless}

-- A line and its end.
abbrev pub ended_line : List ℕ → List ℕ
ended_line text = text ++ 13 ∷ 10 ∷ []

-- A message: its lines, an empty line, and its body. Source: RFC 9112 section 2.1.
abbrev pub message : List (List ℕ) → List ℕ → List ℕ
message lines body = flat_map ended_line lines ++ ended_line [] ++ body

-- A field's line. Source: RFC 9112 section 5.
abbrev pub field_line : List ℕ → List ℕ → List ℕ
field_line name value = name ++ codes ": " ++ value

-- The lines of fields in their order, names in lower case.
abbrev pub field_lines : List Field → List (List ℕ)
field_lines fields = map (λ f. field_line (lower f.name) f.value) fields

-- A line that stands there only where this holds.
abbrev pub only_if : Bool → List ℕ → List (List ℕ)
only_if true text = text ∷ []
only_if false text = []

-- The line of a value that may be absent.
abbrev pub given_line : List ℕ → Option (List ℕ) → List (List ℕ)
given_line name None = []
given_line name (Some value) = field_line name value ∷ []

-- The line of Content-Length.
abbrev pub length_line : ℕ → List ℕ
length_line size = field_line (codes "content-length") (decimal size)

-- The line of Content-Length where a number is given.
abbrev pub given_length : Option ℕ → List (List ℕ)
given_length None = []
given_length (Some size) = length_line size ∷ []

-- The line that says that the connection ends. Source: RFC 9112 section 9.6.
abbrev pub close_line : List ℕ
close_line = codes "connection: close"

-- The line of Via: the version by which the request came. Source: RFC 9110 section 7.6.3.
abbrev pub via_line : ℕ → List ℕ
via_line minor = if minor == 0 then codes "via: 1.0 gateward" else codes "via: 1.1 gateward"

-- A request as it is sent to a backend: its line, Host, its fields, Via, Content-Length and the body where it announced one, and
-- the end of the connection. Source: RFC 9112 section 3.
unfoldable pub forward : List ℕ → List ℕ → List ℕ → ℕ → List Field → List ℕ → Bool → List ℕ
forward method target host minor fields body framed =
    message
    ((method ++ codes " " ++ target ++ codes " HTTP/1.1") ∷ field_line (codes "host") host ∷ field_lines fields
    ++ via_line minor ∷ only_if framed (length_line (length body)) ++ close_line ∷ [])
    (if framed then body else [])

-- The three digits of a code.
abbrev pub three_digits : ℕ → List ℕ
three_digits code = (48 + code / 100 % 10) ∷ (48 + code / 10 % 10) ∷ (48 + code % 10) ∷ []

-- A status line. Source: RFC 9112 section 4.
abbrev pub status_line : ℕ → List ℕ → List ℕ
status_line code phrase = codes "HTTP/1.1 " ++ three_digits code ++ codes " " ++ phrase

-- The line of a reply's Content-Length: none for 204; what the backend announced for a reply to HEAD and for 304; else the number
-- of the body's bytes. Source: RFC 9110 section 8.6.
abbrev pub reply_length : Response → Bool → List (List ℕ)
reply_length r to_head =
    if r.code == 204 then [] else (if is_bodiless to_head r.code then given_length r.length else length_line (length r.body) ∷ [])

-- A backend's response as it is sent to the client.
unfoldable pub reply : Response → Bool → Bool → List ℕ
reply r to_head close =
    message (status_line r.code r.phrase ∷ field_lines r.fields ++ reply_length r to_head ++ only_if close close_line)
    (if is_bodiless to_head r.code then [] else r.body)

-- The phrase of a code of this program's own replies. Source: RFC 9110 section 15, RFC 6585 section 5.
unfoldable pub phrase_of : ℕ → List ℕ
phrase_of code =
    if code == 200 then codes "OK"
    else (if code == 301 then codes "Moved Permanently"
    else (if code == 302 then codes "Found"
    else (if code == 303 then codes "See Other"
    else (if code == 307 then codes "Temporary Redirect"
    else (if code == 308 then codes "Permanent Redirect"
    else (if code == 400 then codes "Bad Request"
    else (if code == 404 then codes "Not Found"
    else (if code == 405 then codes "Method Not Allowed"
    else (if code == 413 then codes "Content Too Large"
    else (if code == 422 then codes "Unprocessable Content"
    else (if code == 431 then codes "Request Header Fields Too Large"
    else (if code == 500 then codes "Internal Server Error"
    else (if code == 501 then codes "Not Implemented"
    else (if code == 502 then codes "Bad Gateway"
    else (if code == 503 then codes "Service Unavailable"
    else [])))))))))))))))

-- The text of a backend's fault.
abbrev pub backend_fault_text : BackendFault → List ℕ
backend_fault_text faults.Open = codes "Open"
backend_fault_text faults.Send = codes "Send"
backend_fault_text faults.Receive = codes "Receive"
backend_fault_text faults.Head = codes "Head"
backend_fault_text faults.Body = codes "Body"
backend_fault_text faults.TooBig = codes "TooBig"
backend_fault_text faults.Cut = codes "Cut"

-- The text of a fault's name.
abbrev pub fault_text : FaultName → List ℕ
fault_text names.NoBackend = codes "NoBackend"
fault_text names.InvalidKind = codes "InvalidKind"
fault_text names.RefNotPermitted = codes "RefNotPermitted"
fault_text names.BackendNotFound = codes "BackendNotFound"
fault_text names.UnsupportedProtocol = codes "UnsupportedProtocol"
fault_text names.NoEndpoints = codes "NoEndpoints"
fault_text (names.Backend fault) = backend_fault_text fault

-- The text of a fault, where there is one.
abbrev pub given_fault : Option FaultName → Option (List ℕ)
given_fault None = None
given_fault (Some fault) = Some (fault_text fault)

-- A reply of this program's own: its status line, Location for a redirect, the fault for 500, 502 and 503, and no body.
unfoldable pub own : ℕ → Option (List ℕ) → Option FaultName → Bool → List ℕ
own code location fault close =
    message
    (status_line code (phrase_of code) ∷ given_line (codes "location") location
    ++ given_line (codes "x-gateward-fault") (given_fault fault) ++ length_line 0 ∷ only_if close close_line)
    []
