-- What comes of lines in turn.
use Rattle.std.proofs.Common.{◌≡◌, ◌∙◌, ◌↔◌, ℕ, ℤ, ◌+◌, Bor, append-nil, drop, map, ◌≤◌, ◌<◌, Bool, true, false, IsTrue, List, [], ◌∷◌, ◌++◌, length, take, refl, ap, sym, subst, arith, Result, Ok, Err, IfOk, IfErr, OnErr}
use Rattle.std.proofs.lemmas.List.{drop_all}
use Rattle.std.proofs.Math.Nat.{lt_of_not-le}
use Rattle.std.proofs.Math.Seq.{take-append_seam}
use Rattle.gw_json.specs.declared.refusal.Refusal.{Refusal}
use Rattle.gw_json.specs.Words.{Fails}
use Rattle.gw_lists.specs.Lists.{BeginsWith}
use Rattle.gw_lists.proofs.Beginnings.{begins_with-length, begins_with-self, begins_with-shorter, begins_with-trans}
use Rattle.gw_match.specs.model.Telling.{world_after}
use Rattle.gw_resolve.specs.declared.outcome.Outcome.{Outcome}
use Rattle.gw_resolve.specs.declared.outcome.Outcome.TheVariants.{Accepted, Skipped}
use Rattle.gw_store.specs.Events.{answer}
use Rattle.gw_store.specs.declared.event.Entry.{Entry}
use Rattle.gw_hub.specs.Control.{Comes}
use Rattle.gw_hub.specs.Turns.{ComesOf, ComeInTurn}

-- by the clauses of a change
pub comes_of : (at : ℤ) (line : List ℕ) (answered : Result Outcome Refusal) (changes changes' : List Entry)
    → IfOk answered (λ outcome. Comes (answer (world_after changes) line) at outcome changes changes')
    → IfErr answered (λ e. Fails e (answer (world_after changes) line)) → OnErr answered (changes' ≡ changes) → ComesOf at line answered changes changes'
comes_of at line (Ok outcome) changes changes' comes refused same = comes
comes_of at line (Err e) changes changes' comes refused same = (refused, same)

-- the changes before a line begin those after it
comes_begins : (at : ℤ) (line : List ℕ) (answered : Result Outcome Refusal) (changes changes' : List Entry) → ComesOf at line answered changes changes' → BeginsWith changes changes'
comes_begins at line (Ok Accepted) changes changes' comes = (comes.0 ∷ [], comes.1.2)
comes_begins at line (Ok Skipped) changes changes' comes = subst (λ (list : List Entry). BeginsWith changes list) (sym comes.1) (begins_with-self changes)
comes_begins at line (Err e) changes changes' comes = subst (λ (list : List Entry). BeginsWith changes list) (sym comes.1) (begins_with-self changes)

-- and before some lines
pub come_begins : (at : ℤ) (lines : List (List ℕ)) (answers : List (Result Outcome Refusal)) (changes changes' : List Entry) → ComeInTurn at lines answers changes changes' → BeginsWith changes changes'
come_begins at [] [] changes changes' come = subst (λ (list : List Entry). BeginsWith changes list) (sym come) (begins_with-self changes)
come_begins at [] (answered ∷ answers) changes changes' come = absurd come
come_begins at (line ∷ lines) [] changes changes' come = absurd come
come_begins at (line ∷ lines) (answered ∷ answers) changes changes' come =
    begins_with-trans changes come.0 changes' (comes_begins at line answered changes come.0 come.1.0) (come_begins at lines answers come.0 changes' come.1.1)

-- a beginning is the list up to its length
pub take_begins : {A : Type 0} (xs ys : List A) → BeginsWith xs ys → take (length xs) ys ≡ xs
take_begins xs ys begins = ap (take (length xs)) begins.1 ∙ take-append_seam xs begins.0

-- a pass that isn't ahead has seen no more than is published
pub behind : (ahead : Bool) (published seen : ℕ) → IsTrue ahead ↔ (published < seen) → ahead ≡ false → seen ≤ published
behind true published seen answer found = absurd (cc found)
behind false published seen answer found = omega (arith, lt_of_not-le (λ (above : published + 1 ≤ seen). absurd (cc (answer.1 (omega (arith, above))))))

-- so what it has seen begins the changes that it learns
pub seen_begins : {A : Type 0} (seen published changes later : List A) (ahead : Bool) → IsTrue ahead ↔ (length published < length seen) → ahead ≡ false
    → BeginsWith published changes → BeginsWith seen later → BeginsWith changes later → BeginsWith seen changes
seen_begins seen published changes later ahead answer found begins mine theirs =
    begins_with-shorter seen changes later mine theirs (omega (arith, behind ahead (length published) (length seen) answer found, begins_with-length published changes begins))

-- nothing comes of no lines
pub come_end : (at : ℤ) (lines : List (List ℕ)) (answers : List (Result Outcome Refusal)) (first changes : List Entry) (items : List (Bor (List ℕ))) (i : ℕ) → length items ≤ i
    → ((more : List (Result Outcome Refusal)) (last : List Entry) → ComeInTurn at (map (λ line. line.now) (drop i items)) more changes last → ComeInTurn at lines (answers ++ more) first last)
    → ComeInTurn at lines answers first changes
come_end at lines answers first changes items i whole come =
    let none : drop i items ≡ [] = drop_all i items whole in
    subst (λ (all : List (Result Outcome Refusal)). ComeInTurn at lines all first changes) (append-nil answers)
    (come [] changes (subst (λ (left : List (Bor (List ℕ))). ComeInTurn at (map (λ line. line.now) left) [] changes changes) (sym none) refl))
