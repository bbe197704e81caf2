-- What is told of an exchange from poll to poll.
use Rattle.std.proofs.Common.{◌≡◌, ◌∙◌, ℕ, ◌+◌, ◌-◌, ◌≤◌, List, [], ◌∷◌, ◌++◌, take, drop, Option, Some, ap, sym, subst, append-nil, arith}
use Rattle.std.proofs.Math.Seq.{take-add}
use Rattle.gw_link.proofs.ExchangeLemmas.{change_last-snoc}
use Rattle.gw_link.specs.Exchanges.{Exchange, Receives, Sends, Tells, new_exchange, receiving, sending}
use Rattle.gw_link.specs.Pieces.{Keeps}
use Rattle.gw_text.specs.model.Addresses.{Socket}
use Rattle.gw_poll_exchange.specs.Polled.{TellsOn}

-- One poll and then another one.
pub on_then : (a b c : List Exchange) (x y z : Option (List Exchange)) → TellsOn a b x y → TellsOn b c y z → TellsOn a c x z
on_then a b c x y z first second = λ earlier is. second earlier (first earlier is)

-- What stays as it was.
pub kept_on : (met : List Exchange) (before after : Option (List Exchange)) → Keeps before after → TellsOn met met before after
kept_on met before after kept = λ earlier is. subst (λ (b : Option (List Exchange)). Keeps b after) is kept

-- A connection was opened.
pub opened_on : (to : Socket) (before after : Option (List Exchange)) → Tells before (new_exchange to) after → TellsOn [] (new_exchange to ∷ []) before after
opened_on to before after tells = λ earlier is.
    subst (λ (b : Option (List Exchange)). Tells b (new_exchange to) after) (is ∙ ap Some (append-nil earlier)) tells

-- A piece was sent.
pub sent_on : (e : Exchange) (piece : List ℕ) (before after : Option (List Exchange)) → Sends before piece after → TellsOn (e ∷ []) (sending piece e ∷ []) before after
sent_on e piece before after sends = λ earlier is.
    subst (λ (b : Option (List Exchange)). Sends b piece after) is sends ∙ ap Some (change_last-snoc (sending piece) earlier e)

-- A piece was given.
pub given_on : (e : Exchange) (piece : List ℕ) (before after : Option (List Exchange)) → Receives before piece after → TellsOn (e ∷ []) (receiving piece e ∷ []) before after
given_on e piece before after receives = λ earlier is.
    subst (λ (b : Option (List Exchange)). Receives b piece after) is receives ∙ ap Some (change_last-snoc (receiving piece) earlier e)

-- A front and the next bytes are a longer front.
pub front_more : (bytes : List ℕ) (from to : ℕ) → from ≤ to → take from bytes ++ take (to - from) (drop from bytes) ≡ take to bytes
front_more bytes from to later =
    let both : from + (to - from) ≡ to = omega (arith, later) in
    sym (take-add from (to - from) bytes) ∙ ap (λ n. take n bytes) both
