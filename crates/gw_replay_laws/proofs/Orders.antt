-- What a backend answers depends on the orders' sockets, bytes and calls alone, and is one answer.
use Rattle.std.proofs.Common.{◌≡◌, ℕ, ◌||◌, ◌&&◌, Bool, true, false, if◌then◌else◌, List, [], ◌∷◌, map, fold, refl, sym, ap, ◌∙◌, Option, Some, None, Ok, Err}
use Rattle.gw_answers.specs.model.Decisions.{Action, forwards, replies}
use Rattle.gw_link.specs.Upstreams.{answer_after, answer_at, fails_after, fails_at, own_answer, same_call}
use Rattle.gw_link.specs.declared.order.Order.{Order}
use Rattle.gw_link.specs.declared.order.Order.TheVariants.{Answers, Fails}
use Rattle.gw_link.specs.declared.order.UpstreamCall.{UpstreamCall}
use Rattle.gw_link.specs.declared.order.UpstreamCall.TheVariants.{Connect, Send, Receive}
use Rattle.gw_message_laws.proofs.ResponseLaws.{outcome_unique}
use Rattle.gw_replay.specs.Replays.{AnswersBy, AnswersSo, IsAnswered, outcome_of}
use Rattle.gw_text.specs.model.Addresses.{Socket}
use Rattle.gw_text.specs.model.Doors.{same_socket}
use Rattle.gw_worker.specs.model.Sessions.{Answer}

-- an order, with the bytes of its text
pub data OrderView : Type 0 where
  answers_view : Socket → List ℕ → OrderView
  fails_view : Socket → UpstreamCall → OrderView

abbrev pub order_view : Order → OrderView
order_view (Answers at text) = answers_view at text.items
order_view (Fails at call) = fails_view at call

abbrev fails_by : UpstreamCall → Socket → Bool → OrderView → Bool
fails_by call to fails (answers_view at text) = if same_socket at to then false else fails
fails_by call to fails (fails_view at other) = fails || (same_socket at to && same_call other call)

abbrev answer_by : Socket → List ℕ → OrderView → List ℕ
answer_by to answer (answers_view at text) = if same_socket at to then text else answer
answer_by to answer (fails_view at other) = answer

fails_are : (call : UpstreamCall) (to : Socket) (fails : Bool) (orders : List Order)
    → fold (fails_after call to) fails orders ≡ fold (fails_by call to) fails (map order_view orders)
fails_are call to fails [] = refl
fails_are call to fails (Answers at text ∷ orders) = fails_are call to (fails_after call to fails (Answers at text)) orders
fails_are call to fails (Fails at other ∷ orders) = fails_are call to (fails_after call to fails (Fails at other)) orders

answer_is : (to : Socket) (answer : List ℕ) (orders : List Order)
    → fold (answer_after to) answer orders ≡ fold (answer_by to) answer (map order_view orders)
answer_is to answer [] = refl
answer_is to answer (Answers at text ∷ orders) = answer_is to (answer_after to answer (Answers at text)) orders
answer_is to answer (Fails at other ∷ orders) = answer_is to (answer_after to answer (Fails at other)) orders

same_fails : (call : UpstreamCall) (to : Socket) (orders others : List Order) → map order_view orders ≡ map order_view others
    → fails_at call to orders ≡ fails_at call to others
same_fails call to orders others e = fails_are call to false orders ∙ ap (fold (fails_by call to) false) e ∙ sym (fails_are call to false others)

same_bytes : (to : Socket) (orders others : List Order) → map order_view orders ≡ map order_view others
    → answer_at to orders ≡ answer_at to others
same_bytes to orders others e =
    answer_is to (own_answer to) orders ∙ ap (fold (answer_by to) (own_answer to)) e ∙ sym (answer_is to (own_answer to) others)

same_outcome : (a b : Answer) → outcome_of a ≡ outcome_of b → a ≡ b
same_outcome (Ok r) (Ok t) e = cc
same_outcome (Ok r) (Err g) e = cc
same_outcome (Err f) (Ok t) e = cc
same_outcome (Err f) (Err g) e = cc

one_answer : (opens sends receives : Bool) (bytes : List ℕ) (head : Bool) (a b : Answer)
    → AnswersSo opens sends receives bytes head a → AnswersSo opens sends receives bytes head b → a ≡ b
one_answer true sends receives bytes head a b x y = x ∙ sym y
one_answer false true receives bytes head a b x y = x ∙ sym y
one_answer false false true bytes head a b x y = x ∙ sym y
one_answer false false false bytes head a b x y = same_outcome a b (outcome_unique head bytes true (outcome_of a) (outcome_of b) x y)

same_answer : (opens opens₂ sends sends₂ receives receives₂ : Bool) (bytes bytes₂ : List ℕ) (head : Bool) (a b : Answer)
    → opens ≡ opens₂ → sends ≡ sends₂ → receives ≡ receives₂ → bytes ≡ bytes₂
    → AnswersSo opens sends receives bytes head a → AnswersSo opens₂ sends₂ receives₂ bytes₂ head b → a ≡ b
same_answer opens opens₂ sends sends₂ receives receives₂ bytes bytes₂ head a b e₁ e₂ e₃ e₄ x y =
    one_answer opens sends receives bytes head a b x (rw (e₁, e₂, e₃, e₄) y)

same_answer_by : (orders others : List Order) (to : Socket) (head : Bool) (a b : Answer) → map order_view orders ≡ map order_view others
    → AnswersBy orders to head a → AnswersBy others to head b → a ≡ b
same_answer_by orders others to head a b e x y =
    same_answer (fails_at Connect to orders) (fails_at Connect to others) (fails_at Send to orders) (fails_at Send to others)
    (fails_at Receive to orders) (fails_at Receive to others) (answer_at to orders) (answer_at to others) head a b
    (same_fails Connect to orders others e) (same_fails Send to orders others e) (same_fails Receive to orders others e)
    (same_bytes to orders others e) x y

pub same_answers : (orders others : List Order) (action : Action) (head : Bool) (a b : Option Answer)
    → map order_view orders ≡ map order_view others → IsAnswered orders action head a → IsAnswered others action head b → a ≡ b
same_answers orders others (replies code location fault) head a b e x y = x ∙ sym y
same_answers orders others (forwards to bytes edits) head None b e x y = absurd x
same_answers orders others (forwards to bytes edits) head (Some a) None e x y = absurd y
same_answers orders others (forwards to bytes edits) head (Some a) (Some b) e x y = ap Some (same_answer_by orders others to head a b e x y)
