-- A listener that was read goes from the rest to those that were read before.
use Rattle.std.proofs.Common.{◌≡◌, List, [], ◌∷◌, ◌++◌, refl, append_assoc, Result, Ok, Err}
use Rattle.gw_json.specs.declared.refusal.Refusal.{Refusal}
use Rattle.gw_json.specs.Words.{◌>>=◌, after}
use Rattle.gw_json.specs.Fields.{Node}
use Rattle.gw_text.specs.model.Gateways.{Listener}
use Rattle.gw_objects.specs.Gateways.{listener_of, listeners_from}

moved : (before : List Listener) (x : Listener) (rest : Result (List Listener) Refusal) → after before (rest >>= λ ls. Ok (x ∷ ls)) ≡ after (before ++ x ∷ []) rest
moved before x (Ok ls) = simp append_assoc
moved before x (Err e) = refl

pub read_next : (before : List Listener) (x : Listener) (at : Node) (rest : List Node) → listener_of before at ≡ Ok x
    → after before (listeners_from before (at ∷ rest)) ≡ after (before ++ x ∷ []) (listeners_from (before ++ x ∷ []) rest)
read_next before x at rest e = rw e (moved before x (listeners_from (before ++ x ∷ []) rest))
