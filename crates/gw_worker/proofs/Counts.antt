-- Counts that have risen.
use Rattle.std.proofs.Common.{◌≡◌, ℕ, ◌+◌, inl, inr, List, ◌++◌, arith, cond}
use Rattle.gw_answers.specs.model.ServedRows.{ServedRow}
use Rattle.gw_worker.specs.Exchanges.{HasRisenBy, call_faults, is_call_fault}
use Rattle.std.proofs.lemmas.List.Sums.{sum_by-append}

pub risen_then : (m n a b c : ℕ) → HasRisenBy m a b → HasRisenBy n b c → HasRisenBy (m + n) a c
risen_then m n a b c (inl first) (inl second) = inl (omega (arith, first, second))
risen_then m n a b c (inl first) (inr last) = inr last
risen_then m n a b c (inr last) (inl second) = inr (omega (arith, last, second))
risen_then m n a b c (inr last) (inr later) = inr later

pub faults_append : (xs ys : List ServedRow) → call_faults (xs ++ ys) ≡ call_faults xs + call_faults ys
faults_append xs ys = sum_by-append (λ (row : ServedRow). cond (is_call_fault row.fault) 1 0) xs ys
