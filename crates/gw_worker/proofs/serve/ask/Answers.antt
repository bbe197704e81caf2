-- What the exchange says.
use Rattle.std.proofs.Common.{ℕ, List, Option, None, Ok, Err, subst}
use Rattle.gw_exchange.specs.Exchanged.{Exchanged, IsCallFault, IsRefused}
use Rattle.gw_exchange.specs.declared.fault.ExchangeFault.{ExchangeFault}
use Rattle.gw_link.specs.Exchanges.{Exchange}
use Rattle.gw_link.specs.Faults.{HasRisen}
use Rattle.gw_link.specs.declared.order.UpstreamCall.{UpstreamCall}
use Rattle.gw_text.specs.model.Addresses.{Socket}
use Rattle.gw_worker.specs.Flows.{Meets, outside}
use Rattle.gw_worker.proofs.Exchanging.{meets_by, tells_one}
use Rattle.gw_worker.proofs.serve.ask.Goals as goal

pub returns-in-Ok-clause-met : goal.returns-in-Ok-clause-met
returns-in-Ok-clause-met g c =
    rw c.bytes.ensures at (meets_by (g.U.Upstream.refuses c.args.up.now c.exchange.new.up) c.args.to c.bytes.result.now c.args.head _ _ _ _ (Ok c.in-Ok.response) c.in-Ok.ensures.comes c.in-Ok.ensures.cause tt)

pub returns-in-Err-Backend-clause-met : goal.returns-in-Err-Backend-clause-met
returns-in-Err-Backend-clause-met g c =
    let before : Option (List Exchange) = g.U.Upstream.exchanges c.args.up.now in
    let after : Option (List Exchange) = g.U.Upstream.exchanges c.exchange.new.up in
    let count : ℕ = g.U.Upstream.faults c.args.up.now in
    let now : ℕ = g.U.Upstream.faults c.exchange.new.up in
    let refuses : UpstreamCall → Socket → Type 0 = g.U.Upstream.refuses c.args.up.now c.exchange.new.up in
    subst (λ (b : List ℕ). Meets refuses c.args.to b c.args.head (Err c.in-Err-Backend.fault) (outside None before count) (outside None after now)) c.bytes.ensures
    (meets_by refuses c.args.to c.bytes.result.now c.args.head before after count now (Err c.in-Err-Backend.fault)
    (subst (λ (x : ExchangeFault). Exchanged c.args.to c.bytes.result.now c.args.head before after (Err x)) c.in-Err-Backend.field-0-is c.in-Err-Backend.ensures.comes)
    (subst (λ (x : ExchangeFault). IsCallFault (Err x) → HasRisen count now) c.in-Err-Backend.field-0-is c.in-Err-Backend.ensures.cause)
    (subst (λ (x : ExchangeFault). IsRefused refuses c.args.to (Err x)) c.in-Err-Backend.field-0-is c.in-Err-Backend.ensures.refused))

pub returns-in-Err-NoMemory-clause-broke : goal.returns-in-Err-NoMemory-clause-broke
returns-in-Err-NoMemory-clause-broke g c =
    rw c.bytes.ensures at (tells_one c.args.to c.bytes.result.now c.args.head _ _ (rw c.in-Err-NoMemory.field-0-is at c.in-Err-NoMemory.ensures.comes))
