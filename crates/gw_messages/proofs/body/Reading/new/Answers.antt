-- A fresh decoder.
use Rattle.std.proofs.Common.{ℕ, ◌+◌, ◌-◌, ◌∙◌, List, length, take, sym, ap, subst, Option}
use Rattle.gw_messages.specs.model.Bodies.{Chunks, IsBody, behind}
use Rattle.gw_messages.specs.Readings.{within_after}
use Rattle.gw_messages.proofs.Readings.{fresh_decoder}
use Rattle.gw_messages.proofs.body.Reading.new.Goals as goal

pub returns-in-None : goal.returns-in-None
returns-in-None c = λ bytes body comes.
    subst (λ (size : Option ℕ). IsBody c.args.limits.content c.args.limits.encoded size bytes body) (sym c.in-None.is)
    (fresh_decoder c.args.limits.content c.args.limits.encoded bytes body comes.0
    (subst (λ (content : List ℕ). Chunks (c.args.limits.content - length content) (take (c.args.limits.encoded + 1 - 0) bytes) comes.0) c.new.ensures.items comes.1)
    (comes.2 ∙ ap (λ (content : List ℕ). within_after c.args.limits.encoded 0 bytes (behind content comes.0)) c.new.ensures.items))
