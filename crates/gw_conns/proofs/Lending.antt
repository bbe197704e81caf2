-- A connection is lent a link that holds a piece, and the backends, and is polled.
use Rattle.std.proofs.Common.{◌≡◌, ◌∙◌, ◌⊎◌, ℕ, true, false, List, [], ◌++◌, length, Some, None, inl, inr, sym, ap, subst, IfSome, ◌==◌}
use Rattle.std.specs.List.{concat}
use Rattle.gw_frames.specs.Inlets.{is_over}
use Rattle.gw_frames.specs.declared.ended.Ended.{Ended}
use Rattle.gw_link.specs.Exchanges.{Exchange}
use Rattle.gw_link.specs.Pieces.{Keeps}
use Rattle.gw_link.specs.Upstreams.{Refuses, UpstreamState}
use Rattle.gw_poll.specs.Courses.{Follows, GoesTo, IsIdle}
use Rattle.gw_poll.specs.Histories.{History, IsSession}
use Rattle.gw_poll.specs.declared.conn_future.ConnFuture.{ConnFuture}
use Rattle.gw_poll.specs.declared.course.Course.{Course}
use Rattle.gw_polling.specs.PollMemory.{PollLinkState, PollUpstreamState, first_poll, has_mark, has_marks}
use Rattle.gw_polling.specs.Polls.{HasNoMark, IsUsedUp}
use Rattle.gw_worker.specs.Flows.{outside}
use Rattle.gw_worker.specs.Workers.{IsAt}
use Rattle.gw_worker.specs.declared.serve.Flow.TheVariants as flows
use Rattle.gw_worker.specs.model.Sessions.{Part, Place}
use Rattle.gw_worker.specs.model.Workers.{Worker}
use Rattle.gw_conns.specs.Standing.{IsServedBy, Stands, history_of}
use Rattle.gw_conns.specs.declared.connection.Connection.TheVariants.{Polled}
use Rattle.gw_conns.proofs.Polling.{IsPolled, ends_so, waits_so}

-- A connection over memory.
abbrev pub Plain : Type 0
Plain = ConnFuture PollLinkState PollUpstreamState

-- It was lent a link that holds this piece, or the end, and these backends.
pub record IsLent (f g : Plain) (piece : List ℕ) (b : UpstreamState) : Type 0 where
  pub course : g.course ≡ f.course
  pub left : concat g.link.pieces ≡ piece
  pub end : g.link.has_end ≡ (length piece == 0)
  pub unmarked : has_marks g.link ≡ false
  pub written : g.link.sink.written ≡ []
  pub up : g.up ≡ record { up = b; marks = first_poll [] }

-- A connection that got this link, and these backends, was lent them.
pub lent_by : {f g : Plain} {piece : List ℕ} {b : UpstreamState} {link : PollLinkState} → g.course ≡ f.course → g.link ≡ link → g.up ≡ record { up = b; marks = first_poll [] }
    → concat link.pieces ≡ piece → link.has_end ≡ (length piece == 0) → has_marks link ≡ false → link.sink.written ≡ [] → IsLent f g piece b
lent_by course is up left end unmarked written = record {
  course = course;
  left = ap (λ (l : PollLinkState). concat l.pieces) is ∙ left;
  end = ap (λ (l : PollLinkState). l.has_end) is ∙ end;
  unmarked = ap has_marks is ∙ unmarked;
  written = ap (λ (l : PollLinkState). l.sink.written) is ∙ written;
  up = up;
}

-- What a poll says of its histories, of the end, and of where it waits.
abbrev pub Goes : Worker → Worker → Plain → Plain → Type 0
Goes w w' g k = (p : Place) (h : History) → IsAt w p → Follows p g.course h
    → GoesTo (Refuses g.up.up k.up.up) p w w' k.course h (Some (concat g.link.pieces)) (Some (concat k.link.pieces))
    (outside (Some g.link.sink.written) (Some g.up.up.exchanges) g.up.up.calls.faults) (outside (Some k.link.sink.written) (Some k.up.up.exchanges) k.up.up.calls.faults)

abbrev pub IsOver : Plain → Plain → Type 0
IsOver g k = is_over k.course.conn.inlet ≡ true → (is_over g.course.conn.inlet ≡ true) ⊎ IfSome (Some k.link.has_end) (λ e. e ≡ true)

abbrev pub UsesUp : Plain → Plain → Type 0
UsesUp g k = HasNoMark (Some (has_marks g.link)) → HasNoMark (Some (has_mark g.up.marks))
    → IsUsedUp (Some (concat k.link.pieces)) (Some k.link.has_end) × ((p : Place) (h : History) → Follows p k.course h → IsSession p h k.course.conn.rows None)

abbrev pub Idles : Plain → Plain → Type 0
Idles g k = HasNoMark (Some (has_marks g.link)) → HasNoMark (Some (has_mark g.up.marks)) → IsIdle k.course

some_same : {A : Type 0} (x y : A) → Some x ≡ Some y → x ≡ y
some_same x y e = cc

module _ (f g k : Plain) (piece : List ℕ) (b : UpstreamState) (w w' : Worker) (lent : IsLent f g piece b) (idle : IsIdle f.course) where
  goes_so : Goes w w' g k → (p : Place) (h : History) → IsAt w p → Follows p f.course h
      → GoesTo (Refuses b k.up.up) p w w' k.course h (Some piece) (Some (concat k.link.pieces)) (outside (Some []) (Some b.exchanges) b.calls.faults)
      (outside (Some k.link.sink.written) (Some k.up.up.exchanges) k.up.up.calls.faults)
  goes_so goes p h at follows =
      subst (λ (u : PollUpstreamState). GoesTo (Refuses u.up k.up.up) p w w' k.course h (Some piece) (Some (concat k.link.pieces)) (outside (Some []) (Some u.up.exchanges) u.up.calls.faults)
      (outside (Some k.link.sink.written) (Some k.up.up.exchanges) k.up.up.calls.faults)) lent.up
      (subst (λ (l : List ℕ). GoesTo (Refuses g.up.up k.up.up) p w w' k.course h (Some piece) (Some (concat k.link.pieces)) (outside (Some l) (Some g.up.up.exchanges) g.up.up.calls.faults)
      (outside (Some k.link.sink.written) (Some k.up.up.exchanges) k.up.up.calls.faults)) lent.written
      (subst (λ (l : List ℕ). GoesTo (Refuses g.up.up k.up.up) p w w' k.course h (Some l) (Some (concat k.link.pieces)) (outside (Some g.link.sink.written) (Some g.up.up.exchanges) g.up.up.calls.faults)
      (outside (Some k.link.sink.written) (Some k.up.up.exchanges) k.up.up.calls.faults)) lent.left
      (goes p h at (subst (λ (c : Course). Follows p c h) (sym lent.course) follows))))

  no_link_mark : HasNoMark (Some (has_marks g.link))
  no_link_mark = ap Some lent.unmarked

  no_up_mark : HasNoMark (Some (has_mark g.up.marks))
  no_up_mark = ap (λ (u : PollUpstreamState). Some (has_mark u.marks)) lent.up

  end_kept : Keeps (Some g.link.has_end) (Some k.link.has_end) → k.link.has_end ≡ (length piece == 0)
  end_kept kept = some_same k.link.has_end g.link.has_end kept ∙ lent.end

  over_so : IsOver g k → Keeps (Some g.link.has_end) (Some k.link.has_end) → is_over k.course.conn.inlet ≡ true → (length piece == 0) ≡ true
  over_so over kept is = by (over is)
    where
      by : (is_over g.course.conn.inlet ≡ true) ⊎ (k.link.has_end ≡ true) → (length piece == 0) ≡ true
      by (inl was) = absurd (cc (sym was ∙ ap (λ (c : Course). is_over c.conn.inlet) lent.course ∙ idle.serving.unfinished))
      by (inr end) = sym (end_kept kept) ∙ end

  -- a poll that waits
  module _ (goes : Goes w w' g k) (over : IsOver g k) (kept : Keeps (Some g.link.has_end) (Some k.link.has_end)) where
    waited : UsesUp g k → Idles g k → (p : Place) (bytes : List ℕ) (parts : List Part) (met : List Exchange) (text : List ℕ) → IsAt w p → (follows : Follows p f.course (history_of bytes parts met text))
        → IsPolled (Refuses b k.up.up) p w w' f.course k.course bytes parts met text piece (concat k.link.pieces) k.link.sink.written b.exchanges k.up.up.exchanges b.calls.faults k.up.up.calls.faults None
    waited used idles p bytes parts met text at follows =
        let up = used no_link_mark no_up_mark in
        let gone = goes_so goes p (history_of bytes parts met text) at follows in
        record {
          follows = follows;
          idle = idle;
          goes = gone;
          session = up.1 p gone.h' gone.follows;
          over = over_so over kept;
          waits = λ none. (idles no_link_mark no_up_mark, (up.0.0, sym (end_kept kept) ∙ up.0.1));
        }

    ended : (why : Ended) → ((p : Place) (h : History) → Follows p k.course h → IsSession p h k.course.conn.rows (Some why)) → (p : Place) (bytes : List ℕ) (parts : List Part) (met : List Exchange)
        (text : List ℕ) → IsAt w p → (follows : Follows p f.course (history_of bytes parts met text))
        → IsPolled (Refuses b k.up.up) p w w' f.course k.course bytes parts met text piece (concat k.link.pieces) k.link.sink.written b.exchanges k.up.up.exchanges b.calls.faults k.up.up.calls.faults (Some why)
    ended why ends p bytes parts met text at follows =
        let gone = goes_so goes p (history_of bytes parts met text) at follows in
        record {
          follows = follows;
          idle = idle;
          goes = gone;
          session = ends p gone.h' gone.follows;
          over = over_so over kept;
          waits = λ none. absurd (cc none);
        }

    -- the backends were given back, and what was written was copied
    module _ {r : Plain} {b' : UpstreamState} {wrote : List ℕ} (course : r.course ≡ k.course) (back : b' ≡ k.up.up) (wrote_is : wrote ≡ k.link.sink.written) where
      pub waits_served : UsesUp g k → Idles g k → (p : Place) (bytes : List ℕ) (parts : List Part) (text : List ℕ) → IsAt w p → Stands (Polled f) p bytes parts text
          → IsServedBy (Refuses b b') p w w' (Polled r) (bytes ++ piece) (length piece == 0) parts text (outside (Some []) (Some b.exchanges) b.calls.faults)
          (outside (Some wrote) (Some b'.exchanges) b'.calls.faults) flows.More
      waits_served used idles p bytes parts text at stands =
          let v = waits_so (waited used idles p bytes parts stands.0 text at stands.1) in
          rw (course, back, wrote_is) (record { served = v.served; stands = λ more. (v.met, v.follows) })

      pub ends_served : (why : Ended) → ((p : Place) (h : History) → Follows p k.course h → IsSession p h k.course.conn.rows (Some why)) → (p : Place) (bytes : List ℕ) (parts : List Part)
          (text : List ℕ) → IsAt w p → Stands (Polled f) p bytes parts text
          → IsServedBy (Refuses b b') p w w' (Polled r) (bytes ++ piece) (length piece == 0) parts text (outside (Some []) (Some b.exchanges) b.calls.faults)
          (outside (Some wrote) (Some b'.exchanges) b'.calls.faults) (flows.Ended why)
      ends_served why ends p bytes parts text at stands =
          rw (course, back, wrote_is) (record { served = ends_so (ended why ends p bytes parts stands.0 text at stands.1); stands = λ more. absurd (cc more) })
