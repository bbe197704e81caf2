-- Words have one start only.
use Rattle.std.proofs.Common.{◌≡◌, ◌∙◌, ℕ, refl, sym, ap, List, [], ◌∷◌, Option, Some, None, option_map, Result}
use Rattle.gw_frames.specs.model.Requests.{Request}
use Rattle.gw_requests.specs.Requests.{IsRequestOf}
use Rattle.gw_requests.proofs.Requests.{holds_unique}
use Rattle.gw_command.specs.Starts.{Setting, Starts, StartsBy, an_explanation, with_task}
use Rattle.gw_command.specs.Words.{Command, status, explain, replay, generate, serve, command_of}
use Rattle.gw_command.specs.declared.fault.Fault.{Fault}

first_same : (q p : Request) → (q ∷ []) ≡ (p ∷ []) → q ≡ p
first_same q p same = ap (λ (requests : List Request). first_of q requests) same
  where
    first_of : Request → List Request → Request
    first_of d [] = d
    first_of d (r ∷ rs) = r

request_unique : (bytes : List ℕ) (a b : Option Request) → IsRequestOf bytes a → IsRequestOf bytes b → a ≡ b
request_unique bytes (Some q) (Some p) x y = ap (λ (r : Request). Some r) (first_same q p (holds_unique bytes (q ∷ []) (p ∷ []) x.whole y.whole))
request_unique bytes (Some q) None x y = absurd (y q x)
request_unique bytes None (Some p) x y = absurd (x p y)
request_unique bytes None None x y = refl

by_command : (c : Option Command) (a b : Result Setting Fault) → StartsBy c a → StartsBy c b → a ≡ b
by_command None a b x y = x ∙ sym y
by_command (Some (status words)) a b x y = x ∙ sym y
by_command (Some (replay words)) a b x y = x ∙ sym y
by_command (Some (generate words)) a b x y = x ∙ sym y
by_command (Some (serve words)) a b x y = x ∙ sym y
by_command (Some (explain words)) a b x y =
    x.2 ∙ ap (λ (q : Option Request). with_task words.controller words.doors (option_map (an_explanation words.at) q)) (request_unique words.request x.0 y.0 x.1 y.1) ∙ sym y.2

pub starts_unique : (words : List (List ℕ)) (a b : Result Setting Fault) → Starts words a → Starts words b → a ≡ b
unfolding Starts
starts_unique words a b x y = by_command (command_of words) a b x y
