-- How stretches of a history follow one another.
use Rattle.std.proofs.Common.{◌≡◌, ◌≤◌, ℕ, ◌⊎◌, inl, inr, Bool, true, List, [], ◌∷◌, ◌++◌, map, length, Option, Some, None, IfSome, ap, refl, sym, subst, ◌∙◌, append_assoc, append-nil, arith}
use Rattle.std.proofs.lemmas.List.{append_cancel_left}
use Rattle.gw_link.proofs.PieceLemmas.{Gives-more, Gives-nothing, Takes-more, Takes-nothing}
use Rattle.gw_link.specs.Exchanges.{Exchange}
use Rattle.gw_link.specs.Pieces.{Gives, IsAtEnd, Keeps, Takes}
use Rattle.gw_link.specs.declared.order.UpstreamCall.{UpstreamCall}
use Rattle.gw_lists.proofs.Beginnings.{begins_with-self, begins_with-trans}
use Rattle.gw_poll_exchange.specs.Polled.{TellsOn}
use Rattle.gw_text.specs.model.Addresses.{Socket}
use Rattle.gw_worker.proofs.Parts.{decided_append}
use Rattle.gw_worker.specs.Flows.{Outside, outside}
use Rattle.gw_worker.specs.model.Sessions.{Part, Place}
use Rattle.gw_worker.specs.model.Workers.{Worker}
use Rattle.gw_poll.proofs.Counting.{faults_then, refused_all, refused_then}
use Rattle.gw_poll.specs.Courses.{Follows, GivesUp, GoesTo}
use Rattle.gw_poll.specs.Histories.{History, IsBroken, Went, bare, most_read, no_call}
use Rattle.gw_poll.specs.declared.course.Course.{Course}

bare_append : (xs ys : List Part) → map bare (xs ++ ys) ≡ map bare xs ++ map bare ys
bare_append [] ys = refl
bare_append (x ∷ xs) ys = ap (λ (l : List Part). bare x ∷ l) (bare_append xs ys)

-- Nothing was done.
pub went_self : (refuses : UpstreamCall → Socket → Type 0) (p : Place) (w : Worker) (h : History) (left : Option (List ℕ)) (o : Outside) → Went refuses p w w h h left left o o
went_self refuses p w h left o = record {
  read = [];
  wrote = [];
  came = [];
  fresh = [];
  bytes_are = sym (append-nil h.bytes);
  few = inl refl;
  text_is = sym (append-nil h.text);
  parts_are = sym (append-nil h.parts);
  taken = Gives-nothing left;
  ends = λ over. inl over;
  written = Takes-nothing o.written;
  fresh_are = sym (append-nil (map bare h.asked));
  decided = refl;
  refused = tt;
  met_are = begins_with-self h.met;
  rest = h.begun;
  rest_is = refl;
  told = λ earlier is. is;
  failed = inl (omega arith);
}

keeps_gives : (left left' : Option (List ℕ)) → Keeps left left' → Gives left [] left'
keeps_gives None left' kept = tt
keeps_gives (Some rest) None kept = absurd (cc kept)
keeps_gives (Some rest) (Some rest') kept = sym kept

keeps_takes : (told told' : Option (List ℕ)) → Keeps told told' → Takes told [] told'
keeps_takes None told' kept = tt
keeps_takes (Some text) told' kept = kept ∙ ap Some (sym (append-nil text))

-- Nothing was read or written.
pub went_kept : (refuses : UpstreamCall → Socket → Type 0) (p : Place) (w : Worker) (h : History) (left left' told told' : Option (List ℕ)) (x : Option (List Exchange)) (n : ℕ)
    → Keeps left left' → Keeps told told' → Went refuses p w w h h left left' (outside told x n) (outside told' x n)
went_kept refuses p w h left left' told told' x n unread unwritten = record {
  read = [];
  wrote = [];
  came = [];
  fresh = [];
  bytes_are = sym (append-nil h.bytes);
  few = inl refl;
  text_is = sym (append-nil h.text);
  parts_are = sym (append-nil h.parts);
  taken = keeps_gives left left' unread;
  ends = λ over. inl over;
  written = keeps_takes told told' unwritten;
  fresh_are = sym (append-nil (map bare h.asked));
  decided = refl;
  refused = tt;
  met_are = begins_with-self h.met;
  rest = h.begun;
  rest_is = refl;
  told = λ earlier is. is;
  failed = inl (omega arith);
}

-- Nothing is left behind the end.
end_stays : (left middle after : Option (List ℕ)) (first second : List ℕ) → Gives left first middle → Gives middle second after → IfSome left (λ told. IsAtEnd middle)
    → IfSome left (λ told. IsAtEnd after)
end_stays None middle after first second gave gives is = tt
end_stays (Some told) None after first second gave gives is = absurd (cc gave)
end_stays (Some told) (Some rest) None first second gave gives is = absurd (cc gives)
end_stays (Some told) (Some rest) (Some last) first second gave gives is =
    let joined : second ++ last ≡ [] = sym (cc (gives, is)) in
    behind second last joined
  where
    behind : (xs ys : List ℕ) → xs ++ ys ≡ [] → ys ≡ []
    behind [] ys e = e
    behind (x ∷ xs) ys e = absurd (cc e)

ends_then : (left middle after : Option (List ℕ)) (first second : List ℕ) (a b c : Bool) → Gives left first middle → Gives middle second after
    → (b ≡ true → (a ≡ true) ⊎ IfSome left (λ told. IsAtEnd middle)) → (c ≡ true → (b ≡ true) ⊎ IfSome middle (λ told. IsAtEnd after))
    → c ≡ true → (a ≡ true) ⊎ IfSome left (λ told. IsAtEnd after)
ends_then left middle after first second a b c gave gives one two over = by (two over)
  where
    whole : (left middle : Option (List ℕ)) → Gives left first middle → IfSome middle (λ told. IsAtEnd after) → IfSome left (λ told. IsAtEnd after)
    whole None middle gave is = tt
    whole (Some told) None gave is = absurd (cc gave)
    whole (Some told) (Some rest) gave is = is

    by : (b ≡ true) ⊎ IfSome middle (λ told. IsAtEnd after) → (a ≡ true) ⊎ IfSome left (λ told. IsAtEnd after)
    by (inr is) = inr (whole left middle gave is)
    by (inl was) = elim (one was) [ inl first' ↦ inl first' | inr is ↦ inr (end_stays left middle after first second gave gives is) ]

-- What was told of one stretch and of another one is told of both: what the first put to what was met, and what the second left.
told_then : (before met begun rest more : List Exchange) (x y z : Option (List Exchange)) → met ++ begun ≡ rest → TellsOn before rest x y → TellsOn begun more y z → TellsOn before (met ++ more) x z
told_then before met begun rest more x y z is first second = λ earlier told.
    second (earlier ++ met) (first earlier told ∙ ap Some (ap (λ (l : List Exchange). earlier ++ l) (sym is) ∙ sym (append_assoc earlier met begun))) ∙ ap Some (append_assoc earlier met more)

few_then : (before middle after : List ℕ) → (middle ≡ before) ⊎ (length middle ≤ most_read) → (after ≡ middle) ⊎ (length after ≤ most_read) → (after ≡ before) ⊎ (length after ≤ most_read)
few_then before middle after (inl was) (inl same) = inl (same ∙ was)
few_then before middle after (inr few) (inl same) = inr (subst (λ (l : List ℕ). length l ≤ most_read) (sym same) few)
few_then before middle after first (inr few) = inr few

-- One stretch and then another one.
pub went_then : (first second wider : UpstreamCall → Socket → Type 0) (p : Place) (a b c : Worker) (h h1 h2 : History) (l l1 l2 : Option (List ℕ)) (o o1 o2 : Outside)
    → ((call : UpstreamCall) (to : Socket) → first call to → wider call to) → ((call : UpstreamCall) (to : Socket) → second call to → wider call to)
    → Went first p a b h h1 l l1 o o1 → Went second p b c h1 h2 l1 l2 o1 o2 → Went wider p a c h h2 l l2 o o2
went_then first second wider p a b c h h1 h2 l l1 l2 o o1 o2 still later t u = record {
  read = t.read ++ u.read;
  wrote = t.wrote ++ u.wrote;
  came = t.came ++ u.came;
  fresh = t.fresh ++ u.fresh;
  bytes_are = u.bytes_are ∙ ap (λ (x : List ℕ). x ++ u.read) t.bytes_are ∙ append_assoc h.bytes t.read u.read;
  few = few_then h.bytes h1.bytes h2.bytes t.few u.few;
  text_is = u.text_is ∙ ap (λ (x : List ℕ). x ++ u.wrote) t.text_is ∙ append_assoc h.text t.wrote u.wrote;
  parts_are = u.parts_are ∙ ap (λ (x : List Part). x ++ u.came) t.parts_are ∙ append_assoc h.parts t.came u.came;
  taken = Gives-more l l1 l2 t.read u.read t.taken u.taken;
  ends = ends_then l l1 l2 t.read u.read h.over h1.over h2.over t.taken u.taken t.ends u.ends;
  written = Takes-more o.written o1.written o2.written t.wrote u.wrote t.written u.written;
  fresh_are =
      ap (map bare) (append_assoc t.came u.came h2.asked)
      ∙ bare_append t.came (u.came ++ h2.asked)
      ∙ ap (λ (x : List Part). map bare t.came ++ x) u.fresh_are
      ∙ sym (append_assoc (map bare t.came) (map bare h1.asked) (map bare u.fresh))
      ∙ ap (λ (x : List Part). x ++ map bare u.fresh) (sym (bare_append t.came h1.asked) ∙ t.fresh_are)
      ∙ append_assoc (map bare h.asked) (map bare t.fresh) (map bare u.fresh)
      ∙ ap (λ (x : List Part). map bare h.asked ++ x) (sym (bare_append t.fresh u.fresh));
  decided = decided_append p a b c t.fresh u.fresh t.decided u.decided;
  refused = refused_then first second wider p t.came u.came still later t.refused u.refused;
  met_are = begins_with-trans h.met h1.met h2.met t.met_are u.met_are;
  rest = t.met_are.0 ++ u.rest;
  rest_is = u.rest_is ∙ ap (λ (x : List Exchange). x ++ u.rest) t.met_are.1 ∙ append_assoc h.met t.met_are.0 u.rest;
  told = told_then h.begun t.met_are.0 h1.begun t.rest u.rest o.exchanges o1.exchanges o2.exchanges
      (append_cancel_left h.met (t.met_are.0 ++ h1.begun) t.rest (sym (append_assoc h.met t.met_are.0 h1.begun) ∙ ap (λ (x : List Exchange). x ++ h1.begun) (sym t.met_are.1) ∙ t.rest_is))
      t.told u.told;
  failed = faults_then p t.came u.came o.faults o1.faults o2.faults t.failed u.failed;
}

pub goes_then : (first second wider : UpstreamCall → Socket → Type 0) (p : Place) (a b c : Worker) (x y : Course) (h : History) (l l1 l2 : Option (List ℕ)) (o o1 o2 : Outside)
    → ((call : UpstreamCall) (to : Socket) → first call to → wider call to) → ((call : UpstreamCall) (to : Socket) → second call to → wider call to)
    → (t : GoesTo first p a b x h l l1 o o1) → GoesTo second p b c y t.h' l1 l2 o1 o2 → GoesTo wider p a c y h l l2 o o2
goes_then first second wider p a b c x y h l l1 l2 o o1 o2 still later t u = record {
  h' = u.h';
  went = went_then first second wider p a b c h t.h' u.h' l l1 l2 o o1 o2 still later t.went u.went;
  follows = u.follows;
}

pub gives_up_then : (first second wider : UpstreamCall → Socket → Type 0) (p : Place) (a b c : Worker) (x y : Course) (h : History) (l l1 l2 : Option (List ℕ)) (o o1 o2 : Outside)
    → ((call : UpstreamCall) (to : Socket) → first call to → wider call to) → ((call : UpstreamCall) (to : Socket) → second call to → wider call to)
    → (t : GoesTo first p a b x h l l1 o o1) → GivesUp second p b c y t.h' l1 l2 o1 o2 → GivesUp wider p a c y h l l2 o o2
gives_up_then first second wider p a b c x y h l l1 l2 o o1 o2 still later t u =
    let k : IsBroken second p b c y.conn.inlet y.conn.rows t.h' u.h' l1 l2 o1 o2 = u.broken in
    record {
      h' = u.h';
      broken = record {
        middle = k.middle;
        fed = k.fed;
        steps = k.steps;
        went = went_then first second wider p a b k.middle h t.h' u.h' l l1 l2 o o1 o2 still later t.went k.went;
        begins = k.begins;
        first = k.first;
        left_open = k.left_open;
        rows_are = k.rows_are;
        whole = k.whole;
        exchanged = k.exchanged;
        is_front = k.is_front;
        begun = k.begun;
      };
    }

-- Where nothing was done yet.
pub goes_self : (refuses : UpstreamCall → Socket → Type 0) (p : Place) (w : Worker) (c : Course) (h : History) (left : Option (List ℕ)) (o : Outside) → Follows p c h → GoesTo refuses p w w c h left left o o
goes_self refuses p w c h left o follows = record { h' = h; went = went_self refuses p w h left o; follows = follows }

-- Where nothing was read or written.
pub goes_kept : (refuses : UpstreamCall → Socket → Type 0) (p : Place) (w : Worker) (c : Course) (h : History) (left left' told told' : Option (List ℕ)) (x : Option (List Exchange)) (n : ℕ)
    → Keeps left left' → Keeps told told' → Follows p c h → GoesTo refuses p w w c h left left' (outside told x n) (outside told' x n)
goes_kept refuses p w c h left left' told told' x n unread unwritten follows =
    record { h' = h; went = went_kept refuses p w h left left' told told' x n unread unwritten; follows = follows }

pub none_failed : (wider : UpstreamCall → Socket → Type 0) (call : UpstreamCall) (to : Socket) → no_call call to → wider call to
none_failed wider call to is = absurd is

-- A stretch in which no call failed, for whoever sees more calls.
went_wider : (wider : UpstreamCall → Socket → Type 0) (p : Place) (a b : Worker) (h h' : History) (l l' : Option (List ℕ)) (o o' : Outside) → Went no_call p a b h h' l l' o o' → Went wider p a b h h' l l' o o'
went_wider wider p a b h h' l l' o o' t = record {
  read = t.read;
  wrote = t.wrote;
  came = t.came;
  fresh = t.fresh;
  bytes_are = t.bytes_are;
  few = t.few;
  text_is = t.text_is;
  parts_are = t.parts_are;
  taken = t.taken;
  ends = t.ends;
  written = t.written;
  fresh_are = t.fresh_are;
  decided = t.decided;
  refused = refused_all no_call wider p t.came (none_failed wider) t.refused;
  met_are = t.met_are;
  rest = t.rest;
  rest_is = t.rest_is;
  told = t.told;
  failed = t.failed;
}

pub goes_wider : (wider : UpstreamCall → Socket → Type 0) (p : Place) (a b : Worker) (c : Course) (h : History) (l l' : Option (List ℕ)) (o o' : Outside) → GoesTo no_call p a b c h l l' o o' → GoesTo wider p a b c h l l' o o'
goes_wider wider p a b c h l l' o o' t = record { h' = t.h'; went = went_wider wider p a b h t.h' l l' o o' t.went; follows = t.follows }

pub gives_up_wider : (wider : UpstreamCall → Socket → Type 0) (p : Place) (a b : Worker) (c : Course) (h : History) (l l' : Option (List ℕ)) (o o' : Outside) → GivesUp no_call p a b c h l l' o o' → GivesUp wider p a b c h l l' o o'
gives_up_wider wider p a b c h l l' o o' t =
    let k : IsBroken no_call p a b c.conn.inlet c.conn.rows h t.h' l l' o o' = t.broken in
    record {
      h' = t.h';
      broken = record {
        middle = k.middle;
        fed = k.fed;
        steps = k.steps;
        went = went_wider wider p a k.middle h t.h' l l' o o' k.went;
        begins = k.begins;
        first = k.first;
        left_open = k.left_open;
        rows_are = k.rows_are;
        whole = k.whole;
        exchanged = k.exchanged;
        is_front = k.is_front;
        begun = k.begun;
      };
    }
