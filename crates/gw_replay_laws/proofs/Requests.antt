-- Requests are handled alike after the same changes, with the same books and orders.
use Rattle.std.proofs.Common.{◌≡◌, ℕ, List, [], ◌∷◌, map, refl, sym, ap, ap₂, ◌∙◌, subst, Option}
use Rattle.gw_answers.specs.declared.books.Books.{Books}
use Rattle.gw_answers.specs.model.Decisions.{Decision}
use Rattle.gw_answers.specs.model.Messages.{is_head}
use Rattle.gw_frames.specs.model.Requests.{Request, Step, an_ask, a_break, a_continue, a_refusal, an_end}
use Rattle.gw_link.specs.declared.order.Order.{Order}
use Rattle.gw_match.specs.model.Telling.{change_of}
use Rattle.gw_replay.specs.Replays.{AreAnswered, AreDecidedBy, IsAnswered}
use Rattle.gw_store.specs.declared.event.Entry.{Entry}
use Rattle.gw_text.specs.model.Objects.{Change}
use Rattle.gw_worker.specs.model.Sessions.{Answer, Handled, Part, Place, a_close, a_cut, a_refused, a_request, a_wait, books_at, decision_at, step_of}
use Rattle.gw_replay_laws.proofs.Orders.{order_view, same_answers}
use Rattle.gw_replay_laws.proofs.Views.{PartView, part_view, request_view, refused_view, counted_in, decided_in}

-- a worker handles the requests among parts by a list of changes, and the backends answer after these orders
pub record Handles (p : Place) (list : List Entry) (orders : List Order) (before after : Books) (parts : List Part) : Type 0 where
  pub decided : AreDecidedBy p list before after parts
  pub answered : AreAnswered orders p parts

-- what the two have in common before them
pub record AlikeBefore (list list₂ : List Entry) (orders orders₂ : List Order) (before before₂ : Books) : Type 0 where
  pub changes : map change_of list ≡ map change_of list₂
  pub orders_are : map order_view orders ≡ map order_view orders₂
  pub books : before ≡ before₂

-- what they have in common behind them
pub record SameBehind (after after₂ : Books) (parts parts₂ : List Part) : Type 0 where
  pub views : map part_view parts ≡ map part_view parts₂
  pub books : after ≡ after₂

-- one request, and those behind it
record First (p : Place) (list : List Entry) (orders : List Order) (before after : Books) (q : Request) (h : Handled) (parts : List Part) : Type 0 where
  by_list : h.changes ≡ list
  books : h.books ≡ before
  answered : IsAnswered orders (decision_at p q h).action (is_head q) h.answer
  others : Handles p list orders (books_at p q h) after parts

first_of_all : {p : Place} {list : List Entry} {orders : List Order} {before after : Books} {q : Request} {h : Handled} {parts : List Part}
    → Handles p list orders before after (a_request q h ∷ parts) → First p list orders before after q h parts
first_of_all x = record {
  by_list = x.decided.0;
  books = x.decided.1;
  answered = x.answered.0;
  others = record { decided = x.decided.2; answered = x.answered.1 };
}

same_decision : (p : Place) (q r : Request) (changes changes₂ : List Change) (books books₂ : Books) → q ≡ r → changes ≡ changes₂ → books ≡ books₂
    → decided_in p q changes books ≡ decided_in p r changes₂ books₂
same_decision p q r changes changes₂ books books₂ e₁ e₂ e₃ =
    ap₂ (decided_in p q) e₂ e₃ ∙ ap (λ request. decided_in p request changes₂ books₂) e₁

same_counts : (p : Place) (q r : Request) (changes changes₂ : List Change) (books books₂ : Books) → q ≡ r → changes ≡ changes₂ → books ≡ books₂
    → counted_in p q changes books ≡ counted_in p r changes₂ books₂
same_counts p q r changes changes₂ books books₂ e₁ e₂ e₃ =
    ap₂ (counted_in p q) e₂ e₃ ∙ ap (λ request. counted_in p request changes₂ books₂) e₁

same_view : (q r : Request) (changes changes₂ : List Change) (books books₂ : Books) (answer answer₂ : Option Answer)
    → q ≡ r → changes ≡ changes₂ → books ≡ books₂ → answer ≡ answer₂ → request_view q changes books answer ≡ request_view r changes₂ books₂ answer₂
same_view q r changes changes₂ books books₂ answer answer₂ e₁ e₂ e₃ e₄ = rw (e₁, e₂, e₃, e₄) refl

same_ask : (q r : Request) (steps others : List Step) → an_ask q ∷ steps ≡ an_ask r ∷ others → q ≡ r
same_ask q r steps others e = cc

same_code : (code other : ℕ) (steps others : List Step) → a_refusal code ∷ steps ≡ a_refusal other ∷ others → code ≡ other
same_code code other steps others e = cc

same_tail : (step other : Step) (steps others : List Step) → step ∷ steps ≡ other ∷ others → steps ≡ others
same_tail step other steps others e = cc

-- one more part of one view
one_more : {after after₂ : Books} {parts parts₂ : List Part} (part part₂ : Part) → part_view part ≡ part_view part₂ → SameBehind after after₂ parts parts₂
    → SameBehind after after₂ (part ∷ parts) (part₂ ∷ parts₂)
one_more part part₂ e same = record { views = ap₂ (λ (v : PartView) (views : List PartView). v ∷ views) e same.views; books = same.books }

-- the first requests are handled alike, and the picks are the same behind them
record SameFirst (p : Place) (q r : Request) (h k : Handled) : Type 0 where
  changes : map change_of h.changes ≡ map change_of k.changes
  books : h.books ≡ k.books
  answer : h.answer ≡ k.answer
  later : books_at p q h ≡ books_at p r k

same_first : (p : Place) (list list₂ : List Entry) (orders orders₂ : List Order) (before before₂ : Books) (q r : Request) (h k : Handled)
    → q ≡ r → AlikeBefore list list₂ orders orders₂ before before₂ → h.books ≡ before → k.books ≡ before₂ → h.changes ≡ list → k.changes ≡ list₂
    → IsAnswered orders (decision_at p q h).action (is_head q) h.answer → IsAnswered orders₂ (decision_at p r k).action (is_head r) k.answer
    → SameFirst p q r h k
same_first p list list₂ orders orders₂ before before₂ q r h k e alike x y c d a b =
    let changes : map change_of h.changes ≡ map change_of k.changes = ap (map change_of) c ∙ alike.changes ∙ sym (ap (map change_of) d) in
    let books : h.books ≡ k.books = x ∙ alike.books ∙ sym y in
    let actions = ap (λ (decision : Decision). decision.action) (same_decision p q r (map change_of h.changes) (map change_of k.changes) h.books k.books e changes books) in
    let there = subst (λ action. IsAnswered orders₂ action (is_head r) k.answer) (sym actions) b in
    let there₂ = subst (λ request. IsAnswered orders₂ (decision_at p q h).action (is_head request) k.answer) (sym e) there in
    record {
      changes = changes;
      books = books;
      answer = same_answers orders orders₂ (decision_at p q h).action (is_head q) h.answer k.answer alike.orders_are a there₂;
      later = same_counts p q r (map change_of h.changes) (map change_of k.changes) h.books k.books e changes books;
    }

pub same_requests : (p : Place) (list list₂ : List Entry) (orders orders₂ : List Order) (before before₂ after after₂ : Books) (parts parts₂ : List Part)
    → map step_of parts ≡ map step_of parts₂ → AlikeBefore list list₂ orders orders₂ before before₂
    → Handles p list orders before after parts → Handles p list₂ orders₂ before₂ after₂ parts₂ → SameBehind after after₂ parts parts₂
same_requests p list list₂ orders orders₂ before before₂ after after₂ [] [] e alike x y =
    record { views = refl; books = x.decided ∙ alike.books ∙ sym y.decided }
same_requests p list list₂ orders orders₂ before before₂ after after₂ (a_request q h ∷ parts) (a_request r k ∷ parts₂) e alike x y =
    let f = first_of_all x in
    let g = first_of_all y in
    let ask = same_ask q r (map step_of parts) (map step_of parts₂) e in
    let same = same_first p list list₂ orders orders₂ before before₂ q r h k ask alike f.books g.books f.by_list g.by_list f.answered g.answered in
    one_more (a_request q h) (a_request r k)
    (same_view q r (map change_of h.changes) (map change_of k.changes) h.books k.books h.answer k.answer ask same.changes same.books same.answer)
    (same_requests p list list₂ orders orders₂ (books_at p q h) (books_at p r k) after after₂ parts parts₂ (same_tail (an_ask q) (an_ask r) (map step_of parts) (map step_of parts₂) e)
    (record { changes = alike.changes; orders_are = alike.orders_are; books = same.later }) f.others g.others)
same_requests p list list₂ orders orders₂ before before₂ after after₂ (a_wait ∷ parts) (a_wait ∷ parts₂) e alike x y =
    one_more a_wait a_wait refl
    (same_requests p list list₂ orders orders₂ before before₂ after after₂ parts parts₂ (same_tail a_continue a_continue (map step_of parts) (map step_of parts₂) e) alike
    (record { decided = x.decided; answered = x.answered }) (record { decided = y.decided; answered = y.answered }))
same_requests p list list₂ orders orders₂ before before₂ after after₂ (a_refused code ∷ parts) (a_refused other ∷ parts₂) e alike x y =
    one_more (a_refused code) (a_refused other) (ap refused_view (same_code code other (map step_of parts) (map step_of parts₂) e))
    (same_requests p list list₂ orders orders₂ before before₂ after after₂ parts parts₂
    (same_tail (a_refusal code) (a_refusal other) (map step_of parts) (map step_of parts₂) e) alike
    (record { decided = x.decided; answered = x.answered }) (record { decided = y.decided; answered = y.answered }))
same_requests p list list₂ orders orders₂ before before₂ after after₂ (a_close ∷ parts) (a_close ∷ parts₂) e alike x y =
    one_more a_close a_close refl
    (same_requests p list list₂ orders orders₂ before before₂ after after₂ parts parts₂ (same_tail an_end an_end (map step_of parts) (map step_of parts₂) e) alike
    (record { decided = x.decided; answered = x.answered }) (record { decided = y.decided; answered = y.answered }))
same_requests p list list₂ orders orders₂ before before₂ after after₂ (a_cut ∷ parts) (a_cut ∷ parts₂) e alike x y =
    one_more a_cut a_cut refl
    (same_requests p list list₂ orders orders₂ before before₂ after after₂ parts parts₂ (same_tail a_break a_break (map step_of parts) (map step_of parts₂) e) alike
    (record { decided = x.decided; answered = x.answered }) (record { decided = y.decided; answered = y.answered }))
same_requests p list list₂ orders orders₂ before before₂ after after₂ parts parts₂ e alike x y = absurd (cc)
