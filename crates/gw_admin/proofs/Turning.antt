-- What a connection's turns add to what it stands for.
use Rattle.std.proofs.Common.{◌≡◌, ◌∙◌, ◌+◌, ◌≤◌, ℕ, ℤ, Bool, List, [], ◌∷◌, ◌++◌, length, map, take, drop, Option, None, Some, refl, sym, ap, subst, arith, append-nil, append_assoc, true, ◌==◌}
use Rattle.std.proofs.lemmas.Bool.Decides.{nat_tests}
use Rattle.std.proofs.lemmas.List.{take-append-drop}
use Rattle.gw_admin_texts.specs.model.Replies.{reply_text}
use Rattle.gw_frames.specs.Inlets.{StandsFor as InletStandsFor, given, is_over, unless_ended, with_step}
use Rattle.gw_frames.specs.declared.ended.Ended.{Ended as End}
use Rattle.gw_frames.specs.declared.ended.Ended.TheVariants.{Closed}
use Rattle.gw_frames.specs.declared.inlet.Inlet.{Inlet}
use Rattle.gw_frames.specs.declared.step.Step.{Step}
use Rattle.gw_frames.specs.model.Requests.{Asks, Request, Step as Plain, a_head, an_ask, ended}
use Rattle.gw_link.proofs.KeptLemmas.{keeps_self, takes_kept}
use Rattle.gw_link.proofs.PieceLemmas.{Takes-more, Takes-nothing}
use Rattle.gw_link.specs.Moments.{TicksInTurn}
use Rattle.gw_link.specs.Pieces.{Keeps, Takes, TakesPart}
use Rattle.gw_lists.proofs.Beginnings.{begins_with-self}
use Rattle.gw_lists.specs.Lists.{BeginsWith}
use Rattle.gw_report.proofs.Applying.{in_turn_on}
use Rattle.gw_message_laws.proofs.Ends.{all_of_ended, behind_ask}
use Rattle.gw_store.specs.declared.event.Entry.{Entry}
use Rattle.gw_admin.specs.Answering.{IsReplied, TicksAtMostOnce}
use Rattle.gw_admin.specs.Conns.{Adds, BrokeOff, Flows, IsBehind, IsReading, Leaves, Outside, StandsFor, Turned, outside}
use Rattle.gw_admin.specs.declared.conn.Conn.{Conn}
use Rattle.gw_admin.specs.declared.conn.Flow.{Flow}
use Rattle.gw_admin.specs.declared.conn.Flow.TheVariants.{More, Ended}
use Rattle.gw_admin.specs.model.Sessions.{Answered, Part, Place, a_request, asks_behind, is_last, moments_of, reply_of, step_of, written_behind}
use Rattle.gw_admin.proofs.Parts.{answered_append, asks_append, moments_append, steps_append, written_append}

-- where nothing was written
pub keeps_takes : (before after : Option (List ℕ)) → Keeps before after → Takes before [] after
keeps_takes before after kept = takes_kept before before after [] (Takes-nothing before) kept

-- the step of an inlet behind those of a connection that hasn't ended
pub step_behind : (j : Inlet) (bytes : List ℕ) (steps : List Plain) (step : Step) → ended steps ≡ None → InletStandsFor j bytes (with_step steps step)
    → InletStandsFor j bytes (steps ++ given step)
step_behind j bytes steps step none stands =
    subst (λ (e : Option End). InletStandsFor j bytes (unless_ended e steps (given step))) none stands

-- the same steps, as parts and one more
steps_more : (parts : List Part) (part : Part) → map step_of parts ++ step_of part ∷ [] ≡ map step_of (parts ++ part ∷ [])
steps_more parts part = sym (steps_append parts (part ∷ []))

-- a part more
pub turned_by : (p : Place) (c : Conn) (over : Bool) (bytes : List ℕ) (parts : List Part) (part : Part) (o o' : Outside) (flow : Option Flow)
    → InletStandsFor c.inlet bytes (map step_of parts ++ step_of part ∷ []) → c.asks ≡ asks_behind (asks_behind 0 parts) (part ∷ [])
    → Adds p (asks_behind 0 parts) o o' (part ∷ []) → Flows over bytes (parts ++ part ∷ []) flow → Turned p c over bytes parts o o' flow
turned_by p c over bytes parts part o o' flow inlet asks adds flows = record {
  more = part ∷ [];
  stands = record {
    inlet = subst (λ (l : List Plain). InletStandsFor c.inlet bytes l) (steps_more parts part) inlet;
    asks = asks ∙ sym (asks_append 0 parts (part ∷ []));
  };
  adds = adds;
  flows = flows;
}

-- a connection that hasn't ended goes on behind a part more
pub goes_on : (over : Bool) (bytes : List ℕ) (parts : List Part) (part : Part) → ended (map step_of parts ++ step_of part ∷ []) ≡ None → Flows over bytes (parts ++ part ∷ []) None
goes_on over bytes parts part none = ap ended (sym (steps_more parts part)) ∙ none

-- it ended behind a part more
pub ends_by : (i : Inlet) (bytes : List ℕ) (parts : List Part) (part : Part) (why : End) → InletStandsFor i bytes (map step_of parts ++ step_of part ∷ [])
    → ended (map step_of parts ++ step_of part ∷ []) ≡ Some why → Flows (is_over i) bytes (parts ++ part ∷ []) (Some (Ended why))
ends_by i bytes parts part why inlet is =
    subst (λ (l : List Plain). (ended l ≡ Some why) × Asks a_head 0 bytes (is_over i) l) (steps_more parts part) (is, all_of_ended i bytes _ why inlet is)

-- no part more: more bytes are needed
pub needs_more : (p : Place) (c : Conn) (bytes : List ℕ) (parts : List Part) (o : Outside) (told : Option (List ℕ)) → Keeps o.written told
    → InletStandsFor c.inlet bytes (map step_of parts ++ []) → c.asks ≡ asks_behind 0 parts → ended (map step_of parts) ≡ None
    → Asks a_head 0 bytes (is_over c.inlet) (map step_of parts ++ []) → Turned p c (is_over c.inlet) bytes parts o (outside o.seen o.moments told) (Some More)
needs_more p c bytes parts o told kept inlet asks none all =
    let same : map step_of parts ++ [] ≡ map step_of (parts ++ []) = sym (steps_append parts []) in
    record {
      more = [];
      stands = record {
        inlet = subst (λ (l : List Plain). InletStandsFor c.inlet bytes l) same inlet;
        asks = asks ∙ sym (asks_append 0 parts []);
      };
      adds = record { answered = begins_with-self o.seen; ticks = refl; wrote = keeps_takes o.written told kept };
      flows = subst (λ (l : List Plain). (ended l ≡ None) × Asks a_head 0 bytes (is_over c.inlet) l) same (ap ended (append-nil (map step_of parts)) ∙ none, all);
    }

-- from where nothing has come yet
pub turned_none : (p : Place) (c : Conn) (over : Bool) (bytes : List ℕ) (parts : List Part) (o : Outside) → IsReading c bytes parts → Turned p c over bytes parts o o None
turned_none p c over bytes parts o r =
    let same : parts ≡ parts ++ [] = sym (append-nil parts) in
    record {
      more = [];
      stands = subst (λ (l : List Part). StandsFor c bytes l) same r.stands;
      adds = record { answered = begins_with-self o.seen; ticks = refl; wrote = Takes-nothing o.written };
      flows = subst (λ (l : List Part). ended (map step_of l) ≡ None) same r.unended;
    }

-- parts more, and then further ones
adds_then : (p : Place) (count : ℕ) (a b c : Outside) (xs ys : List Part) → Adds p count a b xs → Adds p (asks_behind count xs) b c ys → Adds p count a c (xs ++ ys)
adds_then p count a b c xs ys first later = record {
  answered = answered_append a.seen b.seen c.seen xs ys first.answered later.answered;
  ticks = subst (λ (ms : List ℤ). TicksInTurn a.moments ms c.moments) (sym (moments_append xs ys)) (in_turn_on a.moments b.moments c.moments (moments_of xs) (moments_of ys) first.ticks later.ticks);
  wrote = subst (λ (t : List ℕ). Takes a.written t c.written) (sym (written_append p count xs ys)) (Takes-more a.written b.written c.written _ _ first.wrote later.wrote);
}

pub turned_then : (p : Place) (c c' : Conn) (over over' : Bool) (bytes bytes' : List ℕ) (parts : List Part) (o m o' : Outside) (flow : Option Flow) (t : Turned p c over bytes parts o m None)
    → Turned p c' over' bytes' (parts ++ t.more) m o' flow → Turned p c' over' bytes' parts o o' flow
turned_then p c c' over over' bytes bytes' parts o m o' flow t u =
    let same : (parts ++ t.more) ++ u.more ≡ parts ++ (t.more ++ u.more) = append_assoc parts t.more u.more in
    record {
      more = t.more ++ u.more;
      stands = subst (λ (l : List Part). StandsFor c' bytes' l) same u.stands;
      adds = adds_then p (asks_behind 0 parts) o m o' t.more u.more t.adds (subst (λ (n : ℕ). Adds p n m o' u.more) (asks_append 0 parts t.more) u.adds);
      flows = subst (λ (l : List Part). Flows over' bytes' l flow) same u.flows;
    }

-- a connection that may go on reads on
pub reads_on : (p : Place) (c : Conn) (over : Bool) (bytes : List ℕ) (parts : List Part) (o o' : Outside) (t : Turned p c over bytes parts o o' None) → IsReading c bytes (parts ++ t.more)
reads_on p c over bytes parts o o' t = record { stands = t.stands; unended = t.flows }

-- one that needs more bytes reads on
pub reads_more : (p : Place) (c : Conn) (over : Bool) (bytes : List ℕ) (parts : List Part) (o o' : Outside) (t : Turned p c over bytes parts o o' (Some More)) → IsReading c bytes (parts ++ t.more)
reads_more p c over bytes parts o o' t = record { stands = t.stands; unended = t.flows.0 }

-- given up with nothing more written, behind steps of which no text was made
pub broke_before : (p : Place) (c : Conn) (bytes fed : List ℕ) (parts : List Part) (further : List Plain) (o o' : Outside) → BeginsWith fed bytes → length further ≤ 1
    → InletStandsFor c.inlet fed (map step_of parts ++ further) → BeginsWith o.seen o'.seen → TicksAtMostOnce o.moments o'.moments → Keeps o.written o'.written
    → BrokeOff p c bytes parts o o'
broke_before p c bytes fed parts further o o' begins single inlet later once kept = record {
  fed = fed;
  begins = begins;
  more = [];
  further = further;
  single = single;
  inlet = subst (λ (l : List Part). InletStandsFor c.inlet fed (map step_of l ++ further)) (sym (append-nil parts)) inlet;
  leaves = record {
    answered = later;
    moments = once.0;
    once = once.1.0;
    ticks = once.1.1;
    front = [];
    is_front = (written_behind p (asks_behind 0 parts) [], refl);
    wrote = keeps_takes o.written o'.written kept;
  };
}

-- given up while the text of a part was written
pub broke_within : (p : Place) (c : Conn) (bytes : List ℕ) (parts : List Part) (part : Part) (text : List ℕ) (o o' : Outside)
    → InletStandsFor c.inlet bytes (map step_of parts ++ step_of part ∷ []) → Answered o.seen o'.seen (part ∷ []) → TicksInTurn o.moments (moments_of (part ∷ [])) o'.moments
    → written_behind p (asks_behind 0 parts) (part ∷ []) ≡ text → TakesPart o.written text o'.written → BrokeOff p c bytes parts o o'
broke_within p c bytes parts part text o o' inlet answered ticks is wrote = record {
  fed = bytes;
  begins = begins_with-self bytes;
  more = part ∷ [];
  further = [];
  single = omega arith;
  inlet = subst (λ (l : List Plain). InletStandsFor c.inlet bytes l) (steps_more parts part ∙ sym (append-nil (map step_of (parts ++ part ∷ [])))) inlet;
  leaves = record {
    answered = answered;
    moments = [];
    once = omega arith;
    ticks = subst (λ (ms : List ℤ). TicksInTurn o.moments ms o'.moments) (sym (append-nil (moments_of (part ∷ [])))) ticks;
    front = take wrote.0 text;
    is_front = (drop wrote.0 text, is ∙ sym (take-append-drop wrote.0 text));
    wrote = wrote.1.1;
  };
}

-- given up behind parts more
pub broke_then : (p : Place) (c c' : Conn) (over : Bool) (bytes bytes' : List ℕ) (parts : List Part) (o m o' : Outside) (t : Turned p c over bytes parts o m None)
    → BrokeOff p c' bytes' (parts ++ t.more) m o' → BrokeOff p c' bytes' parts o o'
broke_then p c c' over bytes bytes' parts o m o' t b =
    let count : ℕ = asks_behind 0 parts in
    let same : (parts ++ t.more) ++ b.more ≡ parts ++ (t.more ++ b.more) = append_assoc parts t.more b.more in
    let left : Leaves p (asks_behind count t.more) m o' b.more = subst (λ (n : ℕ). Leaves p n m o' b.more) (asks_append 0 parts t.more) b.leaves in
    record {
      fed = b.fed;
      begins = b.begins;
      more = t.more ++ b.more;
      further = b.further;
      single = b.single;
      inlet = subst (λ (l : List Part). InletStandsFor c'.inlet b.fed (map step_of l ++ b.further)) same b.inlet;
      leaves = record {
        answered = answered_append o.seen m.seen o'.seen t.more b.more t.adds.answered left.answered;
        moments = left.moments;
        once = left.once;
        ticks = subst (λ (ms : List ℤ). TicksInTurn o.moments ms o'.moments)
            (sym (append_assoc (moments_of t.more) (moments_of b.more) left.moments) ∙ ap (λ (ms : List ℤ). ms ++ left.moments) (sym (moments_append t.more b.more)))
            (in_turn_on o.moments m.moments o'.moments (moments_of t.more) (moments_of b.more ++ left.moments) t.adds.ticks left.ticks);
        front = written_behind p count t.more ++ left.front;
        is_front = (
          left.is_front.0,
          written_append p count t.more b.more ∙ ap (λ (w : List ℕ). written_behind p count t.more ++ w) left.is_front.1
              ∙ sym (append_assoc (written_behind p count t.more) left.front left.is_front.0),
        );
        wrote = Takes-more o.written m.written o'.written _ _ t.adds.wrote left.wrote;
      };
    }

-- the reply to a request
module _ (p : Place) (c : Conn) (q : Request) (text : List ℕ) (seen seen' : List Entry) (moments moments' : Option (List ℤ)) (told told' : Option (List ℕ))
    (bytes : List ℕ) (parts : List Part) (stands : IsBehind c bytes parts (an_ask q)) (replied : IsReplied p (c.asks + 1) q text seen seen' moments moments') where
  answered_one : Answered seen seen' (a_request q replied.handled ∷ [])
  answered_one = (replied.begins, replied.by, replied.within)

  ticks_one : TicksInTurn moments (moments_of (a_request q replied.handled ∷ [])) moments'
  ticks_one = subst (λ (ms : List ℤ). TicksInTurn moments ms moments') (sym (append-nil _)) replied.ticks

  text_one : written_behind p (asks_behind 0 parts) (a_request q replied.handled ∷ []) ≡ text
  text_one = append-nil _ ∙ sym (replied.text_is ∙ ap (λ (n : ℕ). reply_text (reply_of p q replied.handled) (is_last (n + 1) q)) stands.asks)

  pub replied_turned : (c' : Conn) → c'.inlet ≡ c.inlet → c'.asks ≡ c.asks + 1 → Takes told text told'
      → Turned p c' (is_over c'.inlet) bytes parts (outside seen moments told) (outside seen' moments' told') None
  replied_turned c' inlet asks wrote =
      turned_by p c' (is_over c'.inlet) bytes parts (a_request q replied.handled) _ _ None
      (subst (λ (i : Inlet). InletStandsFor i bytes (map step_of parts ++ an_ask q ∷ [])) (sym inlet) stands.inlet)
      (asks ∙ ap (λ (n : ℕ). n + 1) stands.asks)
      (record { answered = answered_one; ticks = ticks_one; wrote = subst (λ (t : List ℕ). Takes told t told') (sym text_one) wrote })
      (goes_on (is_over c'.inlet) bytes parts (a_request q replied.handled) (behind_ask 0 Closed (map step_of parts) q stands.unended))

  pub replied_broke : (c' : Conn) → c'.inlet ≡ c.inlet → TakesPart told text told'
      → BrokeOff p c' bytes parts (outside seen moments told) (outside seen' moments' told')
  replied_broke c' inlet wrote =
      broke_within p c' bytes parts (a_request q replied.handled) text _ _
      (subst (λ (i : Inlet). InletStandsFor i bytes (map step_of parts ++ an_ask q ∷ [])) (sym inlet) stands.inlet) answered_one ticks_one text_one wrote

-- a list without bytes is empty
pub no_bytes : (xs : List ℕ) → (length xs == 0) ≡ true → xs ≡ []
no_bytes [] is = refl
no_bytes (x ∷ xs) is = let none : ⊥ = grind (arith, nat_tests) in absurd none

-- an inlet that stands for other bytes by now
pub reading_on : (c c' : Conn) (bytes bytes' : List ℕ) (parts : List Part) → InletStandsFor c'.inlet bytes' (map step_of parts) → c'.asks ≡ c.asks → IsReading c bytes parts → IsReading c' bytes' parts
reading_on c c' bytes bytes' parts inlet asks r = record { stands = record { inlet = inlet; asks = asks ∙ r.stands.asks }; unended = r.unended }

-- a clock that wasn't asked
pub never : (moments : Option (List ℤ)) → TicksAtMostOnce moments moments
never moments = ([], (omega arith, refl))

-- a text and nothing behind it
pub takes_text : (before after : Option (List ℕ)) (text : List ℕ) → Takes before text after → Takes before (text ++ []) after
takes_text before after text took = subst (λ (t : List ℕ). Takes before t after) (sym (append-nil text)) took

-- all steps of a connection that hasn't ended
pub all_behind : (over : Bool) (bytes : List ℕ) (steps : List Plain) (step : Step) → ended steps ≡ None → Asks a_head 0 bytes over (with_step steps step)
    → Asks a_head 0 bytes over (steps ++ given step)
all_behind over bytes steps step none all = subst (λ (e : Option End). Asks a_head 0 bytes over (unless_ended e steps (given step))) none all

-- a connection that is given up where nothing came
pub still_open : (p : Place) (c : Conn) (bytes : List ℕ) (parts : List Part) (o : Outside) → IsReading c bytes parts → BrokeOff p c bytes parts o o
still_open p c bytes parts o r =
    broke_before p c bytes bytes parts [] o o (begins_with-self bytes) (omega arith)
    (subst (λ (l : List Plain). InletStandsFor c.inlet bytes l) (sym (append-nil (map step_of parts))) r.stands.inlet) (begins_with-self o.seen) (never o.moments) (keeps_self o.written)
