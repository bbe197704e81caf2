-- What is said of parts and further ones.
use Rattle.std.proofs.Common.{◌≡◌, ℕ, ◌+◌, List, [], ◌∷◌, ◌++◌, map, length, true, Option, Some, None, ap, refl, sym, subst, ◌∙◌, arith, append_assoc, length-append}
use Rattle.gw_answers.specs.model.Decisions.{Action, Chosen, forwards, replies}
use Rattle.gw_answers.specs.model.Messages.{is_head}
use Rattle.gw_answers.specs.model.ServedRows.{ServedRow}
use Rattle.gw_link.specs.Exchanges.{Exchange}
use Rattle.gw_frames.specs.model.Requests.{Step}
use Rattle.gw_replies.specs.model.Written.{own}
use Rattle.gw_worker.specs.Conns.{AreWhole, IsReplied}
use Rattle.gw_worker.specs.Exchanges.{Exchanged}
use Rattle.gw_worker.specs.Workers.{Decided}
use Rattle.gw_worker.specs.model.Workers.{Worker}
use Rattle.gw_worker.specs.model.Sessions.{Answer, Part, Place, a_close, a_cut, a_refused, a_request, a_wait, asks_behind, continue_text, decision_at, is_last, reply_by, row_by, row_of, rows_of, step_of, written_behind}

pub steps_append : (xs ys : List Part) → map step_of (xs ++ ys) ≡ map step_of xs ++ map step_of ys
steps_append [] ys = refl
steps_append (x ∷ xs) ys = ap (λ (l : List Step). step_of x ∷ l) (steps_append xs ys)

pub rows_append : (p : Place) (xs ys : List Part) → rows_of p (xs ++ ys) ≡ rows_of p xs ++ rows_of p ys
rows_append p [] ys = refl
rows_append p (x ∷ xs) ys =
    ap (λ (l : List ServedRow). row_of p x ++ l) (rows_append p xs ys) ∙ sym (append_assoc (row_of p x) (rows_of p xs) (rows_of p ys))

behind : (front all first second : List ℕ) → all ≡ first ++ second → front ++ all ≡ (front ++ first) ++ second
behind front all first second is = ap (λ (l : List ℕ). front ++ l) is ∙ sym (append_assoc front first second)

pub written_append : (p : Place) (n : ℕ) (xs ys : List Part)
    → written_behind p n (xs ++ ys) ≡ written_behind p n xs ++ written_behind p (asks_behind n xs) ys
written_append p n [] ys = refl
written_append p n (a_request q h ∷ xs) ys =
    behind (reply_by (decision_at p q h).action h.answer (is_head q) (is_last (n + 1) q)) (written_behind p (n + 1) (xs ++ ys)) (written_behind p (n + 1) xs)
    (written_behind p (asks_behind (n + 1) xs) ys) (written_append p (n + 1) xs ys)
written_append p n (a_wait ∷ xs) ys =
    behind continue_text (written_behind p n (xs ++ ys)) (written_behind p n xs) (written_behind p (asks_behind n xs) ys) (written_append p n xs ys)
written_append p n (a_refused code ∷ xs) ys =
    behind (own code None None true) (written_behind p n (xs ++ ys)) (written_behind p n xs) (written_behind p (asks_behind n xs) ys) (written_append p n xs ys)
written_append p n (a_close ∷ xs) ys = written_append p n xs ys
written_append p n (a_cut ∷ xs) ys = written_append p n xs ys

pub whole_append : (p : Place) (xs ys : List Part) → AreWhole p xs → AreWhole p ys → AreWhole p (xs ++ ys)
whole_append p [] ys all more = more
whole_append p (x ∷ xs) ys all more = (all.0, whole_append p xs ys all.1 more)

pub decided_append : (p : Place) (a b c : Worker) (xs ys : List Part) → Decided p a b xs → Decided p b c ys → Decided p a c (xs ++ ys)
decided_append p a b c [] ys first second = subst (λ (w : Worker). Decided p w c ys) first second
decided_append p a b c (a_request q h ∷ xs) ys first second =
    (first.0, (first.1.0, decided_append p first.0 b c xs ys first.1.1 second))
decided_append p a b c (a_wait ∷ xs) ys first second = decided_append p a b c xs ys first second
decided_append p a b c (a_refused code ∷ xs) ys first second = decided_append p a b c xs ys first second
decided_append p a b c (a_close ∷ xs) ys first second = decided_append p a b c xs ys first second
decided_append p a b c (a_cut ∷ xs) ys first second = decided_append p a b c xs ys first second

pub exchanged_append : (p : Place) (xs ys : List Part) (met more : List Exchange) → Exchanged p xs met → Exchanged p ys more → Exchanged p (xs ++ ys) (met ++ more)
exchanged_append p [] ys met more first second = subst (λ (m : List Exchange). Exchanged p ys (m ++ more)) (sym first) second
exchanged_append p (x ∷ xs) ys met more first second =
    let one : List Exchange = first.0 in
    let rest : List Exchange = first.1.0 in
    (one, (rest ++ more, (ap (λ (m : List Exchange). m ++ more) first.1.1.0 ∙ append_assoc one rest more, first.1.1.1, exchanged_append p xs ys rest more first.1.1.2 second)))

-- a request that has its reply has one row
pub one_row : (front : ℕ) (chosen : Chosen) (action : Action) (answer : Option Answer) → IsReplied action answer → length (row_by front chosen action answer) ≡ 1
one_row front chosen (replies code location fault) answer whole = refl
one_row front chosen (forwards to bytes edits) None whole = absurd whole
one_row front chosen (forwards to bytes edits) (Some a) whole = refl

-- there are as many rows as requests
pub rows_count : (p : Place) (n : ℕ) (parts : List Part) → AreWhole p parts → asks_behind n parts ≡ n + length (rows_of p parts)
rows_count p n [] whole = omega arith
rows_count p n (a_request q h ∷ parts) whole =
    omega (arith, rows_count p (n + 1) parts whole.1, length-append (row_of p (a_request q h)) (rows_of p parts), one_row (length h.changes) (decision_at p q h).chosen (decision_at p q h).action h.answer whole.0)
rows_count p n (a_wait ∷ parts) whole = rows_count p n parts whole.1
rows_count p n (a_refused code ∷ parts) whole = rows_count p n parts whole.1
rows_count p n (a_close ∷ parts) whole = rows_count p n parts whole.1
rows_count p n (a_cut ∷ parts) whole = rows_count p n parts whole.1
