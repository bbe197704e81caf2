-- How calls follow one another.
use Rattle.std.proofs.Common.{◌≡◌, ℕ, Bool, List, ◌++◌, map, Option, Some, None, ap, sym, subst, ◌∙◌, append_assoc}
use Rattle.gw_frames.specs.Inlets.{StandsFor as InletStandsFor}
use Rattle.gw_link.proofs.PieceLemmas.{Takes-more}
use Rattle.gw_link.specs.Exchanges.{Exchange}
use Rattle.gw_link.specs.declared.order.UpstreamCall.{UpstreamCall}
use Rattle.gw_snap.specs.Lists.{BeginsWith}
use Rattle.gw_worker.proofs.Counts.{faults_append, risen_then}
use Rattle.gw_worker.proofs.Exchanging.{refused_then}
use Rattle.gw_worker.proofs.Parts.{decided_append, exchanged_append, rows_append}
use Rattle.gw_worker.specs.Conns.{AreWhole, StandsFor}
use Rattle.gw_worker.specs.Exchanges.{HasRisenBy, TellsAll, call_faults}
use Rattle.gw_worker.specs.Flows.{BrokeOff, Flows, Outside, Served, Took, TookTo}
use Rattle.gw_text.specs.model.Addresses.{Socket}
use Rattle.gw_text.specs.model.Doors.{Door}
use Rattle.gw_worker.specs.Workers.{IsAt}
use Rattle.gw_worker.specs.declared.conn.Conn.{Conn}
use Rattle.gw_worker.specs.declared.serve.Flow.{Flow}
use Rattle.gw_worker.specs.model.Workers.{Worker}
use Rattle.gw_worker.specs.model.Sessions.{Part, Place, rows_of, step_of, written}

pub tells_then : (a b c : Option (List Exchange)) (xs ys : List Exchange) → TellsAll a xs b → TellsAll b ys c → TellsAll a (xs ++ ys) c
tells_then None b c xs ys first second = tt
tells_then (Some told) None c xs ys first second = absurd (cc first)
tells_then (Some told) (Some middle) c xs ys first second =
    let middle_is : middle ≡ told ++ xs = cc first in
    second ∙ ap (λ (t : List Exchange). Some (t ++ ys)) middle_is ∙ ap Some (append_assoc told xs ys)

faults_then : (p : Place) (xs ys : List Part) (a b c : ℕ) → HasRisenBy (call_faults (rows_of p xs)) a b → HasRisenBy (call_faults (rows_of p ys)) b c
    → HasRisenBy (call_faults (rows_of p (xs ++ ys))) a c
faults_then p xs ys a b c first second =
    subst (λ (n : ℕ). HasRisenBy n a c)
    (sym (ap call_faults (rows_append p xs ys) ∙ faults_append (rows_of p xs) (rows_of p ys)))
    (risen_then (call_faults (rows_of p xs)) (call_faults (rows_of p ys)) a b c first second)

-- one call and then another one
pub took_then : (first second wider : UpstreamCall → Socket → Type 0) (p : Place) (a b c : Worker) (x y : Conn) (bytes bytes' : List ℕ) (parts : List Part) (text : List ℕ) (o o1 o2 : Outside)
    → ((call : UpstreamCall) (to : Socket) → first call to → wider call to) → ((call : UpstreamCall) (to : Socket) → second call to → wider call to)
    → (t : Took first p a b x bytes parts text o o1) → Took second p b c y bytes' (parts ++ t.more) (text ++ t.wrote) o1 o2 → Took wider p a c y bytes' parts text o o2
took_then first second wider p a b c x y bytes bytes' parts text o o1 o2 still later t u = record {
  more = t.more ++ u.more;
  wrote = t.wrote ++ u.wrote;
  met = t.met ++ u.met;
  stands =
      subst (λ (l : List Part). StandsFor y p bytes' l (text ++ (t.wrote ++ u.wrote))) (append_assoc parts t.more u.more)
      (subst (λ (l : List ℕ). StandsFor y p bytes' ((parts ++ t.more) ++ u.more) l) (append_assoc text t.wrote u.wrote) u.stands);
  decided = decided_append p a b c t.more u.more t.decided u.decided;
  exchanged = exchanged_append p t.more u.more t.met u.met t.exchanged u.exchanged;
  refused = refused_then first second wider p t.more u.more still later t.refused u.refused;
  written = Takes-more o.written o1.written o2.written t.wrote u.wrote t.written u.written;
  told = tells_then o.exchanges o1.exchanges o2.exchanges t.met u.met t.told u.told;
  failed = faults_then p t.more u.more o.faults o1.faults o2.faults t.failed u.failed;
}

-- one call and then one that was given up
pub took_and_broke : (first second wider : UpstreamCall → Socket → Type 0) (p : Place) (a b c : Worker) (x y : Conn) (bytes bytes' : List ℕ) (parts : List Part) (text : List ℕ) (o o1 o2 : Outside)
    → ((call : UpstreamCall) (to : Socket) → first call to → wider call to) → ((call : UpstreamCall) (to : Socket) → second call to → wider call to)
    → (t : Took first p a b x bytes parts text o o1) → BrokeOff second p b c y bytes' (parts ++ t.more) (text ++ t.wrote) o1 o2 → BrokeOff wider p a c y bytes' parts text o o2
took_and_broke first second wider p a b c x y bytes bytes' parts text o o1 o2 still later t u =
    let both : (parts ++ t.more) ++ u.more ≡ parts ++ (t.more ++ u.more) = append_assoc parts t.more u.more in
    record {
      more = t.more ++ u.more;
      wrote = t.wrote ++ u.wrote;
      met = t.met ++ u.met;
      further = u.further;
      middle = u.middle;
      fed = u.fed;
      steps = u.steps;
      begins = u.begins;
      inlet = subst (λ (l : List Part). InletStandsFor y.inlet u.fed (map step_of l ++ u.steps)) both u.inlet;
      rows_are = u.rows_are ∙ ap (rows_of p) both;
      whole = subst (AreWhole p) both u.whole;
      front =
          subst (λ (l : List ℕ). BeginsWith l (written p (parts ++ (t.more ++ u.more)))) (append_assoc text t.wrote u.wrote)
          (subst (λ (l : List Part). BeginsWith ((text ++ t.wrote) ++ u.wrote) (written p l)) both u.front);
      decided = decided_append p a b u.middle t.more u.more t.decided u.decided;
      left = u.left;
      exchanged = exchanged_append p t.more u.more t.met u.met t.exchanged u.exchanged;
      refused = refused_then first second wider p t.more u.more still later t.refused u.refused;
      written = Takes-more o.written o1.written o2.written t.wrote u.wrote t.written u.written;
      told =
          subst (λ (l : List Exchange). TellsAll o.exchanges l o2.exchanges) (sym (append_assoc t.met u.met u.further))
          (tells_then o.exchanges o1.exchanges o2.exchanges t.met (u.met ++ u.further) t.told u.told);
      failed = faults_then p t.more u.more o.faults o1.faults o2.faults t.failed u.failed;
    }

-- how the second call flows is how both do
pub served_then : (first second wider : UpstreamCall → Socket → Type 0) (p : Place) (a b c : Worker) (x y : Conn) (bytes bytes' : List ℕ) (over : Bool) (parts : List Part) (text : List ℕ) (o o1 o2 : Outside) (flow : Flow)
    → ((call : UpstreamCall) (to : Socket) → first call to → wider call to) → ((call : UpstreamCall) (to : Socket) → second call to → wider call to)
    → (t : Took first p a b x bytes parts text o o1) → TookTo second p b c y bytes' over (parts ++ t.more) (text ++ t.wrote) o1 o2 (Some flow)
    → Served wider p a c y bytes' over parts text o o2 flow
unfolding took_then
served_then first second wider p a b c x y bytes bytes' over parts text o o1 o2 flow still later t u = record {
  took = took_then first second wider p a b c x y bytes bytes' parts text o o1 o2 still later t u.took;
  flows = subst (λ (l : List Part). Flows bytes' over l flow) (append_assoc parts t.more u.took.more) u.flows;
}

-- further bytes change nothing of what was given up
pub broke_longer : (refuses : UpstreamCall → Socket → Type 0) (p : Place) (a b : Worker) (c : Conn) (bytes more : List ℕ) (parts : List Part) (text : List ℕ) (o o' : Outside) → BrokeOff refuses p a b c bytes parts text o o'
    → BrokeOff refuses p a b c (bytes ++ more) parts text o o'
broke_longer refuses p a b c bytes more parts text o o' u = record {
  more = u.more;
  wrote = u.wrote;
  met = u.met;
  further = u.further;
  middle = u.middle;
  fed = u.fed;
  steps = u.steps;
  begins = (u.begins.0 ++ more, ap (λ (l : List ℕ). l ++ more) u.begins.1 ∙ append_assoc u.fed u.begins.0 more);
  inlet = u.inlet;
  rows_are = u.rows_are;
  whole = u.whole;
  front = u.front;
  decided = u.decided;
  left = u.left;
  exchanged = u.exchanged;
  refused = u.refused;
  written = u.written;
  told = u.told;
  failed = u.failed;
}

-- a worker keeps its place
pub still_at : (p : Place) (a b : Worker) → b.pass.fixed ≡ a.pass.fixed → IsAt a p → IsAt b p
still_at p a b fixed at = record {
  doors = ap (λ (f : List Door × List ℕ). f.0) fixed ∙ at.doors;
  controller = ap (λ (f : List Door × List ℕ). f.1) fixed ∙ at.controller;
}
