-- What exchanges an upstream in memory tells of, by what its backends were told to do.
use Rattle.std.proofs.Common.{◌≡◌, ◌∙◌, ℕ, zero, suc, ◌+◌, ◌<◌, ◌≤◌, ◌||◌, ◌==◌, Bool, true, false, List, [], ◌∷◌, ◌++◌, length, take, drop, min, Option, Some, None, is_some, refl, sym, ap, subst, arith, append-nil, append_assoc, length-append, take-add}
use Rattle.std.specs.Prelude.{⊤}
use Rattle.std.proofs.lemmas.Bool.Decides.{nat_tests}
use Rattle.std.proofs.lemmas.List.{length-take-le, take_all}
use Rattle.gw_text.specs.model.Addresses.{Socket}
use Rattle.gw_link.specs.Exchanges.{Exchange, change_last, new_exchange, receiving, sending}
use Rattle.gw_link.specs.Upstreams.{UpstreamState, Becomes, stays, connects, sends, receives, closes, after_call, after_close, after_connect, after_receive, after_send, answer_at, answer_left, fails_at, is_failing_to, next_piece}
use Rattle.gw_link.specs.declared.order.Order.{Order}
use Rattle.gw_link.specs.declared.order.UpstreamCall.TheVariants.{Connect, Send, Receive}

-- No call was made in it that fails at its socket; what was given is a front of what the socket answers, and all of it at its end.
pub record IsScripted (orders : List Order) (e : Exchange) : Type 0 where
  pub opened : fails_at Connect e.to orders ≡ false
  pub unsent : fails_at Send e.to orders ≡ true → e.sent ≡ []
  pub unreceived : fails_at Receive e.to orders ≡ true → (e.given ≡ []) × (e.ended ≡ false)
  pub given : e.given ≡ take (length e.given) (answer_at e.to orders)
  pub ended : e.ended ≡ true → e.given ≡ answer_at e.to orders

-- Each of them.
abbrev pub AreScripted : List Order → List Exchange → Type 0
AreScripted orders [] = ⊤
AreScripted orders (e ∷ es) = IsScripted orders e × AreScripted orders es

-- The last of them, where there is one, is with this socket, and so many bytes were given in it.
abbrev IsLast : Socket → ℕ → List Exchange → Type 0
IsLast to got [] = ⊤
IsLast to got (e ∷ []) = (e.to ≡ to) × (got ≡ length e.given)
IsLast to got (x ∷ (y ∷ es)) = IsLast to got (y ∷ es)

-- Behind the first ones, which there were before, all exchanges are so.
record Follows (orders : List Order) (first : ℕ) (u : UpstreamState) : Type 0 where
  pub old : List Exchange
  pub new : List Exchange
  pub exchanges : u.exchanges ≡ old ++ new
  pub size : length old ≡ first
  pub orders_are : u.orders ≡ orders
  pub most : 0 < u.most
  pub scripted : AreScripted orders new
  pub last : (to : Socket) → u.at ≡ Some to → IsLast to u.got new

change_behind : (change : Exchange → Exchange) (old : List Exchange) (y : Exchange) (ys : List Exchange) → change_last change (old ++ y ∷ ys) ≡ old ++ change_last change (y ∷ ys)
change_behind change [] y ys = refl
change_behind change (x ∷ []) y ys = refl
change_behind change (x ∷ (z ∷ old)) y ys = ap (λ (l : List Exchange). x ∷ l) (change_behind change (z ∷ old) y ys)

change_size : (change : Exchange → Exchange) (es : List Exchange) → length (change_last change es) ≡ length es
change_size change [] = refl
change_size change (x ∷ []) = refl
change_size change (x ∷ (y ∷ es)) = ap suc (change_size change (y ∷ es))

-- a change of the last one
change_scripted : (orders : List Order) (change : Exchange → Exchange) (to : Socket) (got : ℕ) (es : List Exchange)
    → ((e : Exchange) → e.to ≡ to → got ≡ length e.given → IsScripted orders e → IsScripted orders (change e))
    → IsLast to got es → AreScripted orders es → AreScripted orders (change_last change es)
change_scripted orders change to got [] keeps last all = tt
change_scripted orders change to got (x ∷ []) keeps last all = (keeps x last.0 last.1 all.0, tt)
change_scripted orders change to got (x ∷ (y ∷ es)) keeps last all = (all.0, change_scripted orders change to got (y ∷ es) keeps last all.1)

change_is_last : (change : Exchange → Exchange) (to : Socket) (got now : ℕ) (es : List Exchange)
    → ((e : Exchange) → e.to ≡ to → got ≡ length e.given → ((change e).to ≡ to) × (now ≡ length (change e).given))
    → IsLast to got es → IsLast to now (change_last change es)
change_is_last change to got now [] keeps last = tt
change_is_last change to got now (x ∷ []) keeps last = keeps x last.0 last.1
change_is_last change to got now (x ∷ (y ∷ [])) keeps last = keeps y last.0 last.1
change_is_last change to got now (x ∷ (y ∷ (z ∷ es))) keeps last = change_is_last change to got now (y ∷ (z ∷ es)) keeps last

-- one more
more_scripted : (orders : List Order) (es : List Exchange) (e : Exchange) → AreScripted orders es → IsScripted orders e → AreScripted orders (es ++ e ∷ [])
more_scripted orders [] e all is = (is, tt)
more_scripted orders (x ∷ es) e all is = (all.0, more_scripted orders es e all.1 is)

more_is_last : (to : Socket) (es : List Exchange) → IsLast to 0 (es ++ new_exchange to ∷ [])
more_is_last to [] = (refl, refl)
more_is_last to (x ∷ []) = (refl, refl)
more_is_last to (x ∷ (y ∷ es)) = more_is_last to (y ∷ es)

-- the last one changes, whichever it is
changes_last : (orders : List Order) (first : ℕ) (u v : UpstreamState) (change : Exchange → Exchange) (to : Socket) → (f : Follows orders first u) → u.at ≡ Some to
    → v.exchanges ≡ change_last change u.exchanges → v.orders ≡ u.orders → v.most ≡ u.most → v.at ≡ u.at
    → ((e : Exchange) → e.to ≡ to → u.got ≡ length e.given → IsScripted orders e → IsScripted orders (change e))
    → ((e : Exchange) → e.to ≡ to → u.got ≡ length e.given → ((change e).to ≡ to) × (v.got ≡ length (change e).given)) → Follows orders first v
changes_last orders first u v change to f at exchanges same_orders same_most same_at keeps now = by f.new refl
  where
    at_last : (es : List Exchange) → f.new ≡ es → IsLast to v.got (change_last change es)
    at_last es is = change_is_last change to u.got v.got es now (subst (IsLast to u.got) is (f.last to at))

    same_to : (other : Socket) → v.at ≡ Some other → to ≡ other
    same_to other is = let both : Some to ≡ Some other = sym at ∙ sym same_at ∙ is in cc both

    by : (es : List Exchange) → f.new ≡ es → Follows orders first v
    by [] is = record {
      old = change_last change u.exchanges;
      new = [];
      exchanges = exchanges ∙ sym (append-nil (change_last change u.exchanges));
      size = change_size change u.exchanges ∙ ap length f.exchanges ∙ ap (λ (l : List Exchange). length (f.old ++ l)) is ∙ ap length (append-nil f.old) ∙ f.size;
      orders_are = same_orders ∙ f.orders_are;
      most = subst (λ (n : ℕ). 0 < n) (sym same_most) f.most;
      scripted = tt;
      last = λ other there. tt;
    }
    by (y ∷ ys) is = record {
      old = f.old;
      new = change_last change (y ∷ ys);
      exchanges = exchanges ∙ ap (change_last change) (f.exchanges ∙ ap (λ (l : List Exchange). f.old ++ l) is) ∙ change_behind change f.old y ys;
      size = f.size;
      orders_are = same_orders ∙ f.orders_are;
      most = subst (λ (n : ℕ). 0 < n) (sym same_most) f.most;
      scripted = change_scripted orders change to u.got (y ∷ ys) keeps (subst (IsLast to u.got) is (f.last to at)) (subst (AreScripted orders) is f.scripted);
      last = λ other there. subst (λ (s : Socket). IsLast s v.got (change_last change (y ∷ ys))) (same_to other there) (at_last (y ∷ ys) is);
    }

-- nothing changes but counts, and that the connection may be gone
changes_none : (orders : List Order) (first : ℕ) (u v : UpstreamState) → (f : Follows orders first u) → v.exchanges ≡ u.exchanges → v.orders ≡ u.orders → v.most ≡ u.most
    → ((to : Socket) → v.at ≡ Some to → (u.at ≡ Some to) × (v.got ≡ u.got)) → Follows orders first v
changes_none orders first u v f exchanges same_orders same_most at = record {
  old = f.old;
  new = f.new;
  exchanges = exchanges ∙ f.exchanges;
  size = f.size;
  orders_are = same_orders ∙ f.orders_are;
  most = subst (λ (n : ℕ). 0 < n) (sym same_most) f.most;
  scripted = f.scripted;
  last = λ to there. let both = at to there in subst (λ (n : ℕ). IsLast to n f.new) (sym both.1) (f.last to both.0);
}

-- a call that doesn't fail is none that fails there
not_failing : (s t : Bool) → (s || t) ≡ false → t ≡ false
not_failing false t is = is
not_failing true t is = absurd (cc is)

not_both : (t : Bool) → t ≡ false → t ≡ true → ⊥
not_both t first second = let both : false ≡ true = sym first ∙ second in absurd (cc both)

none_there : {A : Type 0} (x : A) → None ≡ Some x → ⊥
none_there x is = absurd (cc is)

abbrev opened_to : Socket → UpstreamState → UpstreamState
opened_to to u = record u { exchanges = u.exchanges ++ new_exchange to ∷ []; at = Some to; got = 0 }

abbrev apart : UpstreamState → UpstreamState
apart u = record u { at = None }

abbrev sent_of : List ℕ → UpstreamState → Exchange → Exchange
sent_of piece u = sending (take (min (length piece) u.most) piece)

abbrev having_sent : List ℕ → UpstreamState → UpstreamState
having_sent piece u = record u { exchanges = change_last (sent_of piece u) u.exchanges }

abbrev having_received : ℕ → UpstreamState → UpstreamState
having_received size u = record u { exchanges = change_last (receiving (next_piece size u)) u.exchanges; got = u.got + length (next_piece size u) }

follows_connect : (orders : List Order) (first : ℕ) (u : UpstreamState) (to : Socket) (is_done : Bool) → Follows orders first u → Follows orders first (after_connect to is_done u)
follows_connect orders first u to is_done f = by (is_failing_to Connect (Some to) u) refl is_done
  where
    opened : is_failing_to Connect (Some to) u ≡ false → fails_at Connect to orders ≡ false
    opened is = subst (λ (list : List Order). fails_at Connect to list ≡ false) f.orders_are (not_failing _ (fails_at Connect to u.orders) is)

    same_to : (other : Socket) → Some to ≡ Some other → to ≡ other
    same_to other is = cc is

    by : (t : Bool) → is_failing_to Connect (Some to) u ≡ t → (d : Bool) → Follows orders first (after_call t d (opened_to to u) (apart u))
    by true is d = changes_none orders first u (after_call true d (opened_to to u) (apart u)) f refl refl refl (λ other there. absurd (none_there other there))
    by false is false = changes_none orders first u (after_call false false (opened_to to u) (apart u)) f refl refl refl (λ other there. absurd (none_there other there))
    by false is true = record {
      old = f.old;
      new = f.new ++ new_exchange to ∷ [];
      exchanges = ap (λ (l : List Exchange). l ++ new_exchange to ∷ []) f.exchanges ∙ append_assoc f.old f.new (new_exchange to ∷ []);
      size = f.size;
      orders_are = f.orders_are;
      most = f.most;
      scripted = more_scripted orders f.new (new_exchange to) f.scripted (record {
        opened = opened is;
        unsent = λ fails. refl;
        unreceived = λ fails. (refl, refl);
        given = refl;
        ended = λ over. absurd (cc over);
      });
      last = λ other there. subst (λ (s : Socket). IsLast s 0 (f.new ++ new_exchange to ∷ [])) (same_to other there) (more_is_last to f.new);
    }

follows_send : (orders : List Order) (first : ℕ) (u : UpstreamState) (at : Option Socket) (piece : List ℕ) (is_done : Bool) → u.at ≡ at → is_some at ≡ true → Follows orders first u
    → Follows orders first (after_send piece is_done u)
follows_send orders first u None piece is_done is some f = absurd (cc some)
follows_send orders first u (Some to) piece is_done is some f = by (is_failing_to Send u.at u) refl is_done
  where
    sendable : is_failing_to Send u.at u ≡ false → fails_at Send to orders ≡ false
    sendable free =
        subst (λ (list : List Order). fails_at Send to list ≡ false) f.orders_are
        (not_failing _ (fails_at Send to u.orders) (subst (λ (a : Option Socket). is_failing_to Send a u ≡ false) is free))

    by : (t : Bool) → is_failing_to Send u.at u ≡ t → (d : Bool) → Follows orders first (after_call t d (having_sent piece u) u)
    by true free d = changes_none orders first u (after_call true d (having_sent piece u) u) f refl refl refl (λ other there. (there, refl))
    by false free false = changes_none orders first u (after_call false false (having_sent piece u) u) f refl refl refl (λ other there. (there, refl))
    by false free true = changes_last orders first u (after_call false true (having_sent piece u) u) (sent_of piece u) to f is refl refl refl refl
        (λ e at_to got s. record {
          opened = s.opened;
          unsent = λ fails. absurd (not_both (fails_at Send to orders) (sendable free) (subst (λ (x : Socket). fails_at Send x orders ≡ true) at_to fails));
          unreceived = s.unreceived;
          given = s.given;
          ended = s.ended;
        })
        (λ e at_to got. (at_to, got))

-- a front of a list, and then of what is left
front_more : (xs given : List ℕ) (n : ℕ) → given ≡ take (length given) xs → given ++ take n (drop (length given) xs) ≡ take (length (given ++ take n (drop (length given) xs))) xs
front_more xs given n is = by (given ++ take n (drop (length given) xs)) (ap (λ (l : List ℕ). l ++ take n (drop (length given) xs)) is ∙ sym (take-add (length given) n xs))
  where
    front_of : (l : List ℕ) (m : ℕ) → take m l ≡ take (length (take m l)) l
    front_of [] zero = refl
    front_of [] (suc m) = refl
    front_of (x ∷ l) zero = refl
    front_of (x ∷ l) (suc m) = ap (λ (k : List ℕ). x ∷ k) (front_of l m)

    by : (ys : List ℕ) → ys ≡ take (length given + n) xs → ys ≡ take (length ys) xs
    by ys eq = eq ∙ front_of xs (length given + n) ∙ ap (λ (l : List ℕ). take (length l) xs) (sym eq)

-- an empty front of what is left is its end
at_the_end : (n : ℕ) (xs : List ℕ) → 0 < n → (length (take n xs) == 0) ≡ true → xs ≡ []
at_the_end n [] some is = refl
at_the_end zero (x ∷ xs) some is = absurd (omega arith)
at_the_end (suc n) (x ∷ xs) some is = let none : ⊥ = grind (arith, nat_tests) in absurd none

whole_front : (xs given : List ℕ) → given ≡ take (length given) xs → drop (length given) xs ≡ [] → given ≡ xs
whole_front xs given is none = is ∙ take_whole (length given) xs none
  where
    take_whole : (m : ℕ) (l : List ℕ) → drop m l ≡ [] → take m l ≡ l
    take_whole zero l e = sym e
    take_whole (suc m) [] e = refl
    take_whole (suc m) (x ∷ l) e = ap (λ (k : List ℕ). x ∷ k) (take_whole m l e)

follows_receive : (orders : List Order) (first : ℕ) (u : UpstreamState) (at : Option Socket) (size : ℕ) (is_done : Bool) → u.at ≡ at → is_some at ≡ true → 0 < size → Follows orders first u
    → Follows orders first (after_receive size is_done u)
follows_receive orders first u None size is_done is some any f = absurd (cc some)
follows_receive orders first u (Some to) size is_done is some any f = by (is_failing_to Receive u.at u) refl is_done
  where
    receivable : is_failing_to Receive u.at u ≡ false → fails_at Receive to orders ≡ false
    receivable free =
        subst (λ (list : List Order). fails_at Receive to list ≡ false) f.orders_are
        (not_failing _ (fails_at Receive to u.orders) (subst (λ (a : Option Socket). is_failing_to Receive a u ≡ false) is free))

    piece_is : (next_piece size u) ≡ take (min size u.most) (drop u.got (answer_at to orders))
    piece_is = ap (λ (a : Option Socket). take (min size u.most) (answer_left a u)) is ∙ ap (λ (list : List Order). take (min size u.most) (drop u.got (answer_at to list))) f.orders_are

    some_most : 0 < min size u.most
    some_most = omega (arith, f.most)

    -- what is given of an exchange with the socket
    given_more : (e : Exchange) → e.to ≡ to → u.got ≡ length e.given → e.given ≡ take (length e.given) (answer_at e.to orders)
        → e.given ++ (next_piece size u) ≡ take (length (e.given ++ (next_piece size u))) (answer_at e.to orders)
    given_more e at_to got front =
        subst (λ (l : List ℕ). e.given ++ l ≡ take (length (e.given ++ l)) (answer_at e.to orders))
        (sym (piece_is ∙ ap (λ (n : ℕ). take (min size u.most) (drop n (answer_at to orders))) got ∙ ap (λ (s : Socket). take (min size u.most) (drop (length e.given) (answer_at s orders))) (sym at_to)))
        (front_more (answer_at e.to orders) e.given (min size u.most) front)

    ended_more : (e : Exchange) → e.to ≡ to → u.got ≡ length e.given → e.given ≡ take (length e.given) (answer_at e.to orders) → (length (next_piece size u) == 0) ≡ true
        → e.given ++ (next_piece size u) ≡ answer_at e.to orders
    ended_more e at_to got front over =
        let left : drop u.got (answer_at to orders) ≡ []
        = at_the_end (min size u.most) (drop u.got (answer_at to orders)) some_most (subst (λ (l : List ℕ). (length l == 0) ≡ true) piece_is over) in
        let none : (next_piece size u) ≡ [] = piece_is ∙ ap (take (min size u.most)) left ∙ take_none (min size u.most) in
        let all : e.given ≡ answer_at e.to orders
        = whole_front (answer_at e.to orders) e.given front
        (ap (λ (s : Socket). drop (length e.given) (answer_at s orders)) at_to ∙ ap (λ (n : ℕ). drop n (answer_at to orders)) (sym got) ∙ left) in
        ap (λ (l : List ℕ). e.given ++ l) none ∙ append-nil e.given ∙ all
      where
        take_none : (n : ℕ) → take {A = ℕ} n [] ≡ []
        take_none zero = refl
        take_none (suc n) = refl

    by : (t : Bool) → is_failing_to Receive u.at u ≡ t → (d : Bool) → Follows orders first (after_call t d (having_received size u) u)
    by true free d = changes_none orders first u (after_call true d (having_received size u) u) f refl refl refl (λ other there. (there, refl))
    by false free false = changes_none orders first u (after_call false false (having_received size u) u) f refl refl refl (λ other there. (there, refl))
    by false free true = changes_last orders first u (after_call false true (having_received size u) u) (receiving (next_piece size u)) to f is refl refl refl refl
        (λ e at_to got s. record {
          opened = s.opened;
          unsent = s.unsent;
          unreceived = λ fails. absurd (not_both (fails_at Receive to orders) (receivable free) (subst (λ (x : Socket). fails_at Receive x orders ≡ true) at_to fails));
          given = given_more e at_to got s.given;
          ended = λ over. ended_more e at_to got s.given over;
        })
        (λ e at_to got. (at_to, omega (arith, got, length-append e.given (next_piece size u))))

-- any calls
follows_by : (orders : List Order) (first : ℕ) (a b : UpstreamState) → Becomes a b → Follows orders first a → Follows orders first b
follows_by orders first a b (stays is) f = subst (Follows orders first) (sym is) f
follows_by orders first a c (connects {b = d} to is_done more is) f =
    subst (Follows orders first) (sym is) (follows_connect orders first d to is_done (follows_by orders first a d more f))
follows_by orders first a c (sends {b = d} piece is_done more at is) f =
    subst (Follows orders first) (sym is) (follows_send orders first d d.at piece is_done refl at (follows_by orders first a d more f))
follows_by orders first a c (receives {b = d} size is_done more at some is) f =
    subst (Follows orders first) (sym is) (follows_receive orders first d d.at size is_done refl at some (follows_by orders first a d more f))
follows_by orders first a c (closes {b = d} more is) f =
    let g : Follows orders first d = follows_by orders first a d more f in
    subst (Follows orders first) (sym is) (changes_none orders first d (after_close d) g refl refl refl (λ other there. absurd (none_there other there)))

behind_first : (first xs old new : List Exchange) → first ++ xs ≡ old ++ new → length old ≡ length first → xs ≡ new
behind_first [] xs [] new is size = is
behind_first [] xs (y ∷ old) new is size = absurd (omega (arith, size))
behind_first (x ∷ first) xs [] new is size = absurd (omega (arith, size))
behind_first (x ∷ first) xs (y ∷ old) new is size = behind_first first xs old new (tail_same is) (omega (arith, size))
  where
    tail_same : {A : Type 0} {a b : A} {l m : List A} → a ∷ l ≡ b ∷ m → l ≡ m
    tail_same e = cc e

-- The exchanges that calls add are those that the orders give.
pub scripted_by : (a b : UpstreamState) (met : List Exchange) → Becomes a b → 0 < a.most → b.exchanges ≡ a.exchanges ++ met → AreScripted a.orders met
scripted_by a b met goes most told =
    let f : Follows a.orders (length a.exchanges) b = follows_by a.orders (length a.exchanges) a b goes (record {
      old = a.exchanges;
      new = [];
      exchanges = sym (append-nil a.exchanges);
      size = refl;
      orders_are = refl;
      most = most;
      scripted = tt;
      last = λ to there. tt;
    }) in
    subst (AreScripted a.orders) (sym (behind_first a.exchanges met f.old f.new (sym told ∙ f.exchanges) f.size)) f.scripted
