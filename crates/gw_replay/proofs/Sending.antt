-- A connection that is served, among the others.
use Rattle.std.proofs.Common.{◌≡◌, ◌∙◌, ℕ, List, ◌++◌, length, Option, Some, None, ap, bytes_eq, refl, string_bytes, sym, subst}
use Rattle.std.proofs.lemmas.List.{length-set}
use Rattle.std.specs.BTreeMap.{get_by_text}
use Rattle.std.specs.Map.{update}
use Rattle.gw_frames.specs.declared.ended.Ended.{Ended}
use Rattle.gw_worker.specs.declared.serve.Flow.{Flow}
use Rattle.gw_worker.specs.declared.serve.Flow.TheVariants as flows
use Rattle.gw_replay.specs.Replays.{Client as Plain, Sends, Serves, Site, State, place_at, unless_ended}
use Rattle.gw_replay.specs.States.{Does, IsClient, Keeps, Matches, ServedBy, ServedFrom, ending_of, site_of}
use Rattle.gw_replay.specs.declared.replay.Client.{Client}
use Rattle.gw_replay.specs.declared.replay.Replay.{Replay}
use Rattle.gw_replay.proofs.Keeping.{keeps_clients, matches_put, put_twice}
use Rattle.gw_replay.proofs.Stepping.{serves_among, some_matched, taken_away}

-- what was served, where the client was taken out of the map
abbrev pub Without : State → List ℕ → State
Without s name = record s { clients = update bytes_eq s.clients name None }

module _ {R : Type 0} (old r1 r2 : Replay R) (number : ℕ) (name piece : List ℕ) (c c' : Client) (flow : Flow)
    (taken : r1 ≡ record old { clients = r1.clients }) (gone : (n : List ℕ) → get_by_text r1.clients n ≡ update bytes_eq (get_by_text old.clients) name None n)
    (was : get_by_text old.clients name ≡ Some c) (served : ServedBy number name piece c c' flow r1 r2) where
  same_site : site_of r1 ≡ site_of old
  same_site = ap site_of taken

  module _ (s : State) (k : Keeps old s) where
    there : (plain : Plain) × ((s.clients name ≡ Some plain) × IsClient (site_of old) (length s.workers) c plain)
    there = some_matched (site_of old) (length s.workers) (get_by_text old.clients name) (s.clients name) (k.clients name) c was

    from : ServedFrom number name piece c' flow r1 r2 (Without s name) there.0
    from = served.did (Without s name) there.0 (taken_away old r1 s name k taken gone)
        (subst (λ (site : Site). IsClient site (length s.workers) c there.0) (sym same_site) there.1.1)

    -- the state behind it, with the connection of the name
    abbrev behind : State
    behind = record from.state { clients = update bytes_eq s.clients name (unless_ended (ending_of flow) from.plain') }

    sends : Sends (site_of old) number name piece (s.clients name) s behind from.text
    sends = subst (λ (o : Option Plain). Sends (site_of old) number name piece o s behind from.text) (sym there.1.0) (
      from.plain',
      (
        ending_of flow,
        (
          record from.state { clients = s.clients },
          (
            subst (λ (site : Site). Serves (place_at site there.0.door) number name there.0 from.plain' piece (ending_of flow) s (record from.state { clients = s.clients }) from.text) same_site
                (serves_among (place_at (site_of r1) there.0.door) number name there.0 from.plain' piece (ending_of flow) s from.state (update bytes_eq s.clients name None) from.text from.serves),
            refl,
          ),
        ),
      ),
    )

    clients_are : from.state.clients ≡ update bytes_eq s.clients name None
    clients_are = ap (λ (x : State). x.clients) from.serves.state

    printed_so : string_bytes r2.text ≡ string_bytes old.text ++ from.text
    printed_so = from.printed ∙ ap (λ (r : Replay R). string_bytes r.text ++ from.text) taken

-- a connection that ended
pub sent_ended : {R : Type 0} (old r1 r2 : Replay R) (number : ℕ) (name piece : List ℕ) (c c' : Client) (why : Ended) → r1 ≡ record old { clients = r1.clients }
    → ((n : List ℕ) → get_by_text r1.clients n ≡ update bytes_eq (get_by_text old.clients) name None n) → get_by_text old.clients name ≡ Some c
    → ServedBy number name piece c c' (flows.Ended why) r1 r2 → Does (λ s s' text. Sends (site_of old) number name piece (s.clients name) s s' text) old r2
sent_ended old r1 r2 number name piece c c' why taken gone was served = record {
  site = served.site ∙ ap site_of taken;
  did = λ s k.
      let f = from old r1 r2 number name piece c c' (flows.Ended why) taken gone was served s k in
      record {
        state = behind old r1 r2 number name piece c c' (flows.Ended why) taken gone was served s k;
        text = f.text;
        does_so = sends old r1 r2 number name piece c c' (flows.Ended why) taken gone was served s k;
        keeps = subst (λ (g : List ℕ → Option Plain). Keeps r2 (record f.state { clients = g })) (clients_are old r1 r2 number name piece c c' (flows.Ended why) taken gone was served s k) f.keeps;
        printed = printed_so old r1 r2 number name piece c c' (flows.Ended why) taken gone was served s k;
      };
}

-- a connection that is kept
pub sent_more : {R : Type 0} (old r1 r2 r3 : Replay R) (number : ℕ) (name piece : List ℕ) (c c' : Client) → r1 ≡ record old { clients = r1.clients }
    → ((n : List ℕ) → get_by_text r1.clients n ≡ update bytes_eq (get_by_text old.clients) name None n) → get_by_text old.clients name ≡ Some c
    → ServedBy number name piece c c' flows.More r1 r2 → r3 ≡ record r2 { clients = r3.clients }
    → ((n : List ℕ) → get_by_text r3.clients n ≡ update bytes_eq (get_by_text r2.clients) name (Some c') n)
    → Does (λ s s' text. Sends (site_of old) number name piece (s.clients name) s s' text) old r3
sent_more {R} old r1 r2 r3 number name piece c c' taken gone was served rest kept = record {
  site = ap site_of rest ∙ served.site ∙ ap site_of taken;
  did = λ s k.
      let f = from old r1 r2 number name piece c c' flows.More taken gone was served s k in
      let g = update bytes_eq s.clients name (Some f.plain') in
      let size : length f.state.workers ≡ length s.workers = ap (λ (x : State). length x.workers) f.serves.state ∙ length-set s.workers _ _ in
      let client : IsClient (site_of r2) (length f.state.workers) c' f.plain' = subst (λ (site : Site). IsClient site (length f.state.workers) c' f.plain') (sym served.site) (f.client refl) in
      record {
        state = behind old r1 r2 number name piece c c' flows.More taken gone was served s k;
        text = f.text;
        does_so = sends old r1 r2 number name piece c c' flows.More taken gone was served s k;
        keeps = keeps_clients r2 r3 f.state g f.keeps rest (λ n.
            subst (λ (o : Option Client). Matches (site_of r2) (length f.state.workers) o (g n)) (sym (kept n))
            (subst (λ (p : Option Plain). Matches (site_of r2) (length f.state.workers) (update bytes_eq (get_by_text r2.clients) name (Some c') n) p)
            (ap (λ (h : List ℕ → Option Plain). update bytes_eq h name (Some f.plain') n) (clients_are old r1 r2 number name piece c c' flows.More taken gone was served s k)
            ∙ put_twice name s.clients None (Some f.plain') n)
            (matches_put (site_of r2) (length f.state.workers) name (get_by_text r2.clients) f.state.clients (Some c') (Some f.plain') f.keeps.clients client n)));
        printed = ap (λ (r : Replay R). string_bytes r.text) rest ∙ printed_so old r1 r2 number name piece c c' flows.More taken gone was served s k;
      };
}
