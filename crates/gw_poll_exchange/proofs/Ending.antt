-- What each poll makes of an exchange.
use Rattle.std.proofs.Common.{◌≡◌, ℕ, ◌-◌, ◌<◌, ◌≤◌, List, [], ◌∷◌, ◌++◌, length, take, drop, take_all, false, Option, Some, Result, Err, refl, ap, sym, subst, arith}
use Rattle.futures.specs.Poll.{IfReady, OnPending}
use Rattle.futures.specs.declared.task.Poll.{Poll}
use Rattle.futures.specs.declared.task.Poll.TheVariants.{Ready, Pending}
use Rattle.gw_exchange.proofs.Ending.{ends_given, exchanged_opened}
use Rattle.gw_exchange.specs.Exchanged.{exchanged}
use Rattle.gw_exchange.specs.declared.fault.ExchangeFault.{ExchangeFault}
use Rattle.gw_exchange.specs.declared.fault.ExchangeFault.TheVariants.{Backend}
use Rattle.gw_link.specs.Exchanges.{Exchange, Sends, Tells, new_exchange}
use Rattle.gw_replies.specs.declared.fault.BackendFault.TheVariants.{Send}
use Rattle.gw_replies.specs.declared.reader.ReplyReader.{ReplyReader}
use Rattle.gw_replies.specs.model.Responses.{Response}
use Rattle.gw_poll_exchange.proofs.Telling.{front_more, on_then, opened_on, sent_on}
use Rattle.gw_poll_exchange.specs.Polled.{GoesOn, IsOpen, IsOver, IsUnopened, ReadsOn, ReadsTo, StandsAt, StandsFor, TellsOn}
use Rattle.gw_poll_exchange.specs.declared.polled.PolledExchange.{PolledExchange}
use Rattle.gw_poll_exchange.specs.declared.polled.Stage.{Stage}
use Rattle.gw_poll_exchange.specs.declared.polled.Stage.TheVariants.{Connecting, Connected}

pub pending_map : {A : Type 0} {P Q : Type 0} (polled : Poll A) → (P → Q) → OnPending polled P → OnPending polled Q
pending_map (Ready x) f is = tt
pending_map Pending f is = f is

pub ready_map : {A : Type 0} {P Q : A → Type 0} (polled : Poll A) → ((x : A) → P x → Q x) → IfReady polled P → IfReady polled Q
ready_map (Ready x) f is = f x is
ready_map Pending f is = tt

pub unopened : (x : PolledExchange) (met : List Exchange) → StandsFor x met → x.stage ≡ Connecting → IsUnopened x met
unopened x met stands is = subst (λ (st : Stage). StandsAt st x met) is stands

pub open_of : (x : PolledExchange) (met : List Exchange) → StandsFor x met → x.stage ≡ Connected → IsOpen x met
open_of x met stands is = subst (λ (st : Stage). StandsAt st x met) is stands

-- A connection was opened.
pub opened : (x : PolledExchange) (met : List Exchange) → IsUnopened x met → IsOpen (record x { stage = Connected }) (new_exchange x.to ∷ [])
opened x met u = record {
  given = [];
  reads = u.reads;
  within = omega (arith, u.unsent);
  first = λ less. refl;
  met_is = ap (λ n. exchanged x.to (take n x.bytes) [] false ∷ []) (sym u.unsent);
}

opened_told : (x : PolledExchange) (met : List Exchange) (first middle : Option (List Exchange)) → IsUnopened x met → Tells first (new_exchange x.to) middle → TellsOn met (new_exchange x.to ∷ []) first middle
opened_told x met first middle u tells = subst (λ (m : List Exchange). TellsOn m (new_exchange x.to ∷ []) first middle) (sym u.met_is) (opened_on x.to first middle tells)

pub goes_opened : (x x' : PolledExchange) (met : List Exchange) (first middle now : Option (List Exchange)) → IsUnopened x met → Tells first (new_exchange x.to) middle
    → GoesOn (record x { stage = Connected }) x' (new_exchange x.to ∷ []) middle now → GoesOn x x' met first now
goes_opened x x' met first middle now u tells g = record {
  met' = g.met';
  stands = g.stands;
  told = on_then met (new_exchange x.to ∷ []) g.met' first middle now (opened_told x met first middle u tells) g.told;
}

pub over_opened : (x : PolledExchange) (met : List Exchange) (first middle now : Option (List Exchange)) (result : Result Response ExchangeFault) → IsUnopened x met → Tells first (new_exchange x.to) middle
    → IsOver (record x { stage = Connected }) (new_exchange x.to ∷ []) middle now result → IsOver x met first now result
over_opened x met first middle now result u tells o = record {
  met' = o.met';
  came = o.came;
  told = on_then met (new_exchange x.to ∷ []) o.met' first middle now (opened_told x met first middle u tells) o.told;
}

-- Further bytes were sent.
sent_more : (x : PolledExchange) (met : List Exchange) (o : IsOpen x met) (sent : ℕ) (before after : Option (List Exchange)) → x.sent ≤ sent → Sends before (take (sent - x.sent) (drop x.sent x.bytes)) after
    → TellsOn met (exchanged x.to (take sent x.bytes) o.given false ∷ []) before after
sent_more x met o sent before after later sends =
    let e : Exchange = exchanged x.to (take x.sent x.bytes) o.given false in
    subst (λ (m : List Exchange). TellsOn m (exchanged x.to (take sent x.bytes) o.given false ∷ []) before after) (sym o.met_is)
    (subst (λ (s : List ℕ). TellsOn (e ∷ []) (exchanged x.to s o.given false ∷ []) before after) (front_more x.bytes x.sent sent later)
    (sent_on e (take (sent - x.sent) (drop x.sent x.bytes)) before after sends))

-- The upstream wasn't ready to take all bytes.
pub goes_sent : (x : PolledExchange) (met : List Exchange) (sent : ℕ) (first now : Option (List Exchange)) → IsOpen x met → x.stage ≡ Connected → x.sent ≤ sent → sent ≤ length x.bytes
    → Sends first (take (sent - x.sent) (drop x.sent x.bytes)) now → GoesOn x (record x { sent = sent }) met first now
goes_sent x met sent first now o is later within sends = record {
  met' = exchanged x.to (take sent x.bytes) o.given false ∷ [];
  stands = subst (λ (st : Stage). StandsAt st (record x { sent = sent }) (exchanged x.to (take sent x.bytes) o.given false ∷ [])) (sym is) (record {
    given = o.given;
    reads = o.reads;
    within = within;
    first = λ less. o.first (omega (arith, later, less));
    met_is = refl;
  });
  told = sent_more x met o sent first now later sends;
}

-- All bytes are sent, and the upstream wasn't ready to give the whole response.
pub goes_received : (x : PolledExchange) (met : List Exchange) (sent : ℕ) (reader : ReplyReader) (first middle now : Option (List Exchange)) → (o : IsOpen x met) → x.stage ≡ Connected → x.sent ≤ sent → sent ≡ length x.bytes
    → Sends first (take (sent - x.sent) (drop x.sent x.bytes)) middle → ReadsOn reader x.head o.given middle now → GoesOn x (record x { sent = sent; reader = reader }) met first now
goes_received x met sent reader first middle now o is later whole sends r =
    let met' : List Exchange = exchanged x.to (take sent x.bytes) (o.given ++ r.more) false ∷ [] in
    record {
      met' = met';
      stands = subst (λ (st : Stage). StandsAt st (record x { sent = sent; reader = reader }) met') (sym is) (record {
        given = o.given ++ r.more;
        reads = r.reads;
        within = omega (arith, whole);
        first = λ less. absurd (omega (arith, whole, less));
        met_is = refl;
      });
      told = on_then met (exchanged x.to (take sent x.bytes) o.given false ∷ []) met' first middle now (sent_more x met o sent first middle later sends) (r.told x.to (take sent x.bytes));
    }

-- All bytes are sent, and the response is whole or there is none.
pub over_received : (x : PolledExchange) (met : List Exchange) (sent : ℕ) (first middle now : Option (List Exchange)) (result : Result Response ExchangeFault) → (o : IsOpen x met) → x.sent ≤ sent → sent ≡ length x.bytes
    → Sends first (take (sent - x.sent) (drop x.sent x.bytes)) middle → ReadsTo x.head o.given middle now result → IsOver x met first now result
over_received x met sent first middle now result o later whole sends r =
    let e : Exchange = exchanged x.to (take sent x.bytes) (o.given ++ r.more) r.ended in
    let all : take sent x.bytes ≡ x.bytes = take_all sent x.bytes (omega (arith, whole)) in
    record {
      met' = e ∷ [];
      came = exchanged_opened x.to x.bytes x.head (Some []) (Some (e ∷ [])) result e refl refl (ends_given x.bytes x.head e result all r.came r.few);
      told = on_then met (exchanged x.to (take sent x.bytes) o.given false ∷ []) (e ∷ []) first middle now (sent_more x met o sent first middle later sends) (r.told x.to (take sent x.bytes));
    }

-- A `send` failed before all bytes were sent.
pub over_unsent : (x : PolledExchange) (met : List Exchange) (sent : ℕ) (first now : Option (List Exchange)) → (o : IsOpen x met) → x.sent ≤ sent → sent < length x.bytes
    → Sends first (take (sent - x.sent) (drop x.sent x.bytes)) now → IsOver x met first now (Err (Backend Send))
over_unsent x met sent first now o later part sends =
    let e : Exchange = exchanged x.to (take sent x.bytes) o.given false in
    record {
      met' = e ∷ [];
      came = (e, (refl, refl, (sent, (part, refl, o.first (omega (arith, later, part)), refl))));
      told = sent_more x met o sent first now later sends;
    }
