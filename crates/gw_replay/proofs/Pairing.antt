-- Each row goes with its exchange.
use Rattle.std.proofs.Common.{◌≡◌, ℕ, List, [], ◌∷◌, ◌++◌, Bool, true, false, Option, Some, None, Ok, Err, refl, ap, append-nil, length}
use Rattle.std.specs.List.{flat_map}
use Rattle.gw_answers.specs.model.Decisions.{Action, Chosen, forwards, replies}
use Rattle.gw_answers.specs.model.Messages.{is_head}
use Rattle.gw_answers.specs.model.ServedRows.{ServedRow, fault_of, served_row, status_of}
use Rattle.gw_link.specs.Exchanges.{Exchange}
use Rattle.gw_replies.specs.declared.fault.BackendFault.TheVariants.{Open, Send, Receive, Head, Body, TooBig, Cut}
use Rattle.gw_text.specs.model.Addresses.{Socket}
use Rattle.gw_text.specs.model.Filters.{Edits}
use Rattle.gw_worker.specs.Conns.{AreWhole, IsReplied}
use Rattle.gw_worker.specs.Exchanges.{Exchanged, ExchangedBy}
use Rattle.gw_worker.specs.model.Sessions.{Answer, Part, Place, a_close, a_cut, a_refused, a_request, a_wait, decision_at, row_by, rows_after, rows_of}
use Rattle.gw_replay.specs.Lines.{forwarded, row_line, rows_text}
use Rattle.gw_replay.specs.Pairs.{has_exchange, is_open, is_send, paired_text, sent_in}
use Rattle.gw_replay.proofs.Endpoints.{HasEndpoint, has_endpoint}

-- one row takes no exchange
takes_none : (name : List ℕ) (line : ℕ) (row : ServedRow) (first rest : List Exchange) (more : List ServedRow) → has_exchange row ≡ false → first ≡ []
    → paired_text name line (row ∷ more) (first ++ rest) ≡ (row_line name line row None ++ []) ++ paired_text name line more rest
takes_none name line row first rest more none empty =
    rw (none, empty, append-nil (row_line name line row None)) refl

-- or one
takes_one : (name : List ℕ) (line : ℕ) (row : ServedRow) (e : Exchange) (first rest : List Exchange) (more : List ServedRow) → has_exchange row ≡ true → first ≡ e ∷ []
    → paired_text name line (row ∷ more) (first ++ rest) ≡ (row_line name line row (sent_in (is_send row.fault) (Some e)) ++ []) ++ paired_text name line more rest
takes_one name line row e first rest more one is =
    rw (one, is, append-nil (row_line name line row (sent_in (is_send row.fault) (Some e)))) refl

module _ (name : List ℕ) (line front : ℕ) (chosen : Chosen) (to : Socket) (bytes : List ℕ) (rest : List Exchange) (more : List ServedRow) (endpoint : chosen.endpoint ≡ Some to) where
  abbrev row_for : Answer → ServedRow
  row_for a = served_row front chosen (status_of a) (fault_of a)

  -- all was sent
  all_sent : (a : Answer) (first : List Exchange) (e : Exchange) → is_open (fault_of a) ≡ false → is_send (fault_of a) ≡ false → first ≡ e ∷ [] → e.sent ≡ bytes
      → paired_text name line (row_for a ∷ more) (first ++ rest) ≡ (row_line name line (row_for a) (Some bytes) ++ []) ++ paired_text name line more rest
  all_sent a first e opened sent is same =
      let one : has_exchange (row_for a) ≡ true = rw (endpoint, opened) refl in
      rw (← same, ← ap (λ part. sent_in part (Some e)) sent) (takes_one name line (row_for a) e first rest more one is)

  -- no connection was opened
  none_open : (first : List Exchange) → first ≡ []
      → paired_text name line (row_for (Err Open) ∷ more) (first ++ rest) ≡ (row_line name line (row_for (Err Open)) None ++ []) ++ paired_text name line more rest
  none_open first is = takes_none name line (row_for (Err Open)) first rest more (rw endpoint refl) is

  -- a call of sending failed
  part_sent : (first : List Exchange) (e : Exchange) → first ≡ e ∷ []
      → paired_text name line (row_for (Err Send) ∷ more) (first ++ rest) ≡ (row_line name line (row_for (Err Send)) None ++ []) ++ paired_text name line more rest
  part_sent first e is = takes_one name line (row_for (Err Send)) e first rest more (rw endpoint refl) is

  answer_paired : (edits : List Edits) (head : Bool) (a : Answer) (first : List Exchange) → ExchangedBy (forwards to bytes edits) (Some a) head first
      → paired_text name line (row_for a ∷ more) (first ++ rest)
      ≡ (row_line name line (row_for a) (forwarded (forwards to bytes edits) (Some a)) ++ []) ++ paired_text name line more rest
  answer_paired edits head (Ok r) first x = all_sent (Ok r) first x.0 refl refl x.1.0 x.1.2.0
  answer_paired edits head (Err Open) first x = none_open first x
  answer_paired edits head (Err Send) first x = part_sent first x.0 x.1.0
  answer_paired edits head (Err Receive) first x = all_sent (Err Receive) first x.0 refl refl x.1.0 x.1.2.0
  answer_paired edits head (Err Head) first x = all_sent (Err Head) first x.0 refl refl x.1.0 x.1.2.0
  answer_paired edits head (Err Body) first x = all_sent (Err Body) first x.0 refl refl x.1.0 x.1.2.0
  answer_paired edits head (Err TooBig) first x = all_sent (Err TooBig) first x.0 refl refl x.1.0 x.1.2.0
  answer_paired edits head (Err Cut) first x = all_sent (Err Cut) first x.0 refl refl x.1.0 x.1.2.0

-- the row of a request
request_paired : (name : List ℕ) (line front : ℕ) (chosen : Chosen) (action : Action) (answer : Option Answer) (head : Bool) → HasEndpoint action chosen.endpoint
    → IsReplied action answer → (first rest : List Exchange) (more : List ServedRow) → ExchangedBy action answer head first
    → paired_text name line (row_by front chosen action answer ++ more) (first ++ rest)
    ≡ flat_map (λ row. row_line name line row (forwarded action answer)) (row_by front chosen action answer) ++ paired_text name line more rest
request_paired name line front chosen (replies code location fault) answer head endpoint replied first rest more x =
    takes_none name line (served_row front chosen code fault) first rest more (rw endpoint refl) x.1
request_paired name line front chosen (forwards to bytes edits) None head endpoint replied first rest more x = absurd replied
request_paired name line front chosen (forwards to bytes edits) (Some a) head endpoint replied first rest more x =
    answer_paired name line front chosen to bytes rest more endpoint edits head a first x

-- all rows
pub all_paired : (name : List ℕ) (line : ℕ) (p : Place) (parts : List Part) (met : List Exchange) → AreWhole p parts → Exchanged p parts met
    → paired_text name line (rows_of p parts) met ≡ rows_text name line p parts
all_paired name line p [] met whole x = refl
all_paired name line p (a_request q h ∷ parts) met whole x =
    let d = decision_at p q h in
    rw (
      x.1.1.0,
      request_paired name line (length h.changes) d.chosen d.action h.answer (is_head q) (has_endpoint (rows_after p h.changes) q h.books) whole.0 x.0 x.1.0 (rows_of p parts) x.1.1.1,
      all_paired name line p parts x.1.0 whole.1 x.1.1.2,
    ) refl
all_paired name line p (a_wait ∷ parts) met whole x = rw (x.1.1.0, x.1.1.1) (all_paired name line p parts x.1.0 whole.1 x.1.1.2)
all_paired name line p (a_refused code ∷ parts) met whole x = rw (x.1.1.0, x.1.1.1) (all_paired name line p parts x.1.0 whole.1 x.1.1.2)
all_paired name line p (a_close ∷ parts) met whole x = rw (x.1.1.0, x.1.1.1) (all_paired name line p parts x.1.0 whole.1 x.1.1.2)
all_paired name line p (a_cut ∷ parts) met whole x = rw (x.1.1.0, x.1.1.1) (all_paired name line p parts x.1.0 whole.1 x.1.1.2)
