-- The ends of messages that are written part by part.
use Rattle.std.specs.Prelude.{ℕ, List, [], ◌++◌, length, Bool, true, if◌then◌else◌}
use Rattle.std.specs.List.{flat_map}
use Rattle.gw_replies.specs.model.Responses.{Response, is_bodiless}
use Rattle.gw_replies.specs.model.Written.{close_line, ended_line, length_line, only_if, reply_length, via_line}

-- What was written, and what follows the fields of a request.
abbrev pub request_rest : List ℕ → ℕ → List ℕ → Bool → List ℕ
request_rest before minor body framed =
    (((before ++ ended_line (via_line minor)) ++ flat_map ended_line (only_if framed (length_line (length body)))) ++ flat_map ended_line (only_if true close_line))
    ++ ended_line [] ++ (if framed then body else [])

-- What was written, and what follows the fields of a response.
abbrev pub reply_rest : List ℕ → Response → Bool → Bool → List ℕ
reply_rest before r to_head close =
    ((before ++ flat_map ended_line (reply_length r to_head)) ++ flat_map ended_line (only_if close close_line))
    ++ ended_line [] ++ (if is_bodiless to_head r.code then [] else r.body)
