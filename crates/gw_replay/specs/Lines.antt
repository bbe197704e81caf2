-- What is written of a script, as lines of JSON with the keys of each object in byte order.
use Rattle.std.specs.Prelude.{ℕ, ◌+◌, List, [], ◌∷◌, ◌++◌, length, codes, ◌==◌, if◌then◌else◌, Option, Some, None, Err, fold}
use Rattle.std.specs.Fmt.{decimal}
use Rattle.std.specs.List.{flat_map}
use Rattle.serde_json.specs.Data.{Data, number, unsigned, string, object, member, no_members, Members, put}
use Rattle.gw_answers.specs.model.Decisions.{Action, BackendKey, forwards, replies}
use Rattle.gw_answers.specs.model.ServedRows.{ServedRow}
use Rattle.gw_frames.specs.declared.ended.Ended.{Ended}
use Rattle.gw_frames.specs.declared.ended.Ended.TheVariants.{Closed, Truncated, Asked, Enough, Refused}
use Rattle.gw_json.specs.Lines.{line_of}
use Rattle.gw_replies.specs.declared.fault.BackendFault.TheVariants.{Open, Send}
use Rattle.gw_replies.specs.model.Written.{fault_text}
use Rattle.gw_text.specs.model.Addresses.{socket_text}
use Rattle.gw_text.specs.model.Forms.{printed}
use Rattle.gw_text.specs.model.Names.{Key, joined}
use Rattle.gw_worker.specs.model.Sessions.{Answer, Part, Place, a_close, a_cut, a_refused, a_request, a_wait, decision_at, row_by}

-- The line of a publication: how many changes are published.
abbrev pub front_data : ℕ → ℕ → Data
front_data front line = object (member (codes "front") (number (unsigned front)) (member (codes "line") (number (unsigned line)) no_members))

-- The members with a text more, where there is what it is of.
abbrev pub put_if : {A : Type 0} → List ℕ → (A → List ℕ) → Option A → Members → Members
put_if name text None members = members
put_if name text (Some x) members = put name (string (text x)) members

-- A Service and its port, 0 where none is given.
abbrev pub backend_text : BackendKey → List ℕ
backend_text b = joined b.key ++ (58 ∷ decimal b.port)

-- The members with the Route of a row, and the places of its rule and match, where it has a Route.
abbrev pub put_route : Option Key → ServedRow → Members → Members
put_route None row members = members
put_route (Some key) row members =
    put (codes "match") (number (unsigned row.place))
    (put (codes "route") (string (printed (joined key)))
    (put (codes "rule") (number (unsigned row.rule)) members))

-- The members that each row has.
abbrev pub row_members : List ℕ → ℕ → ServedRow → Members
row_members name line row =
    put (codes "conn") (string name)
    (put (codes "front") (number (unsigned row.front))
    (put (codes "line") (number (unsigned line))
    (put (codes "status") (number (unsigned row.status)) no_members)))

-- A row of the connection of a name, with the bytes that were sent to the backend, where all were sent.
unfoldable pub row_data : List ℕ → ℕ → ServedRow → Option (List ℕ) → Data
row_data name line row forward =
    object (put_if (codes "forward") printed forward
    (put_if (codes "fault") fault_text row.fault
    (put_if (codes "endpoint") (λ socket. printed (socket_text socket)) row.endpoint
    (put_if (codes "backend") (λ b. printed (backend_text b)) row.backend
    (put_route row.route row
    (put_if (codes "listener") printed row.listener
    (row_members name line row)))))))

abbrev pub row_line : List ℕ → ℕ → ServedRow → Option (List ℕ) → List ℕ
row_line name line row forward = line_of (row_data name line row forward)

-- What was sent to a backend that answered so: all, unless no connection was opened or a call of sending failed.
abbrev pub sent_for : List ℕ → Answer → Option (List ℕ)
sent_for bytes (Err Open) = None
sent_for bytes (Err Send) = None
sent_for bytes answer = Some bytes

abbrev pub forwarded : Action → Option Answer → Option (List ℕ)
forwarded (replies code location fault) answer = None
forwarded (forwards to bytes edits) None = None
forwarded (forwards to bytes edits) (Some answer) = sent_for bytes answer

-- The line of a request's row.
abbrev pub part_text : List ℕ → ℕ → Place → Part → List ℕ
part_text name line p (a_request q h) =
    flat_map (λ row. row_line name line row (forwarded (decision_at p q h).action h.answer))
    (row_by (length h.changes) (decision_at p q h).chosen (decision_at p q h).action h.answer)
part_text name line p a_wait = []
part_text name line p (a_refused code) = []
part_text name line p a_close = []
part_text name line p a_cut = []

-- A line for each row.
abbrev pub rows_text : List ℕ → ℕ → Place → List Part → List ℕ
rows_text name line p parts = flat_map (part_text name line p) parts

-- The bytes that the client was written, where there are some.
abbrev pub written_data : List ℕ → ℕ → List ℕ → Data
written_data name line bytes =
    object (member (codes "conn") (string name)
    (member (codes "line") (number (unsigned line))
    (member (codes "written") (string (printed bytes)) no_members)))

abbrev pub written_text : List ℕ → ℕ → List ℕ → List ℕ
written_text name line [] = []
written_text name line (b ∷ bytes) = line_of (written_data name line (b ∷ bytes))

-- How a connection ended, with the code of a refusal.
abbrev pub ended_text : Ended → List ℕ
ended_text Closed = codes "Closed"
ended_text Truncated = codes "Truncated"
ended_text Asked = codes "Asked"
ended_text Enough = codes "Enough"
ended_text (Refused code) = codes "Refused"

abbrev pub put_code : Ended → Members → Members
put_code Closed members = members
put_code Truncated members = members
put_code Asked members = members
put_code Enough members = members
put_code (Refused code) members = put (codes "status") (number (unsigned code)) members

unfoldable pub ended_data : List ℕ → ℕ → Ended → Data
ended_data name line why =
    object (put_code why
    (put (codes "conn") (string name)
    (put (codes "ended") (string (ended_text why))
    (put (codes "line") (number (unsigned line)) no_members))))

abbrev pub end_text : List ℕ → ℕ → Option Ended → List ℕ
end_text name line None = []
end_text name line (Some why) = line_of (ended_data name line why)

-- How many there are of each code, in the order in which each came first.
abbrev pub one_more : List (ℕ × ℕ) → ℕ → List (ℕ × ℕ)
one_more [] code = (code, 1) ∷ []
one_more (e ∷ counts) code = if e.0 == code then (e.0, e.1 + 1) ∷ counts else e ∷ one_more counts code

abbrev pub counts_of : List ℕ → List (ℕ × ℕ)
counts_of statuses = fold one_more [] statuses

-- The number of rows of each status.
unfoldable pub statuses_data : List ℕ → Data
statuses_data statuses =
    object (fold (λ members e. put (decimal e.0) (number (unsigned e.1)) members) no_members (counts_of statuses))

-- The last line: how many changes were taken, how many of them are published, how many lines were refused, how many requests have a
-- row, how many events were skipped, and the rows by their status.
abbrev pub totals_data : ℕ → ℕ → ℕ → List ℕ → ℕ → Data
totals_data changes front refused statuses skipped =
    object (member (codes "changes") (number (unsigned changes))
    (member (codes "front") (number (unsigned front))
    (member (codes "refused") (number (unsigned refused))
    (member (codes "requests") (number (unsigned (length statuses)))
    (member (codes "skipped") (number (unsigned skipped))
    (member (codes "statuses") (statuses_data statuses) no_members))))))

-- The last line where there was no place to read from.
abbrev pub place_data : Data
place_data = object (member (codes "fault") (string (codes "Place")) no_members)

-- The last line where a worker had seen so many changes, which are more than are published.
abbrev pub ahead_data : ℕ → ℕ → Data
ahead_data front seen =
    object (member (codes "fault") (string (codes "Ahead"))
    (member (codes "front") (number (unsigned front))
    (member (codes "seen") (number (unsigned seen)) no_members)))
