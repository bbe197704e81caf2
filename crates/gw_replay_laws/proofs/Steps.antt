-- A line does alike in two states that are alike.
use Rattle.std.proofs.Common.{◌≡◌, ℕ, ℤ, ◌+◌, Bool, true, false, List, [], ◌∷◌, ◌++◌, length, map, replicate, bytes_eq, refl, sym, ap, ap₂, ◌∙◌, subst, subst₂, Option, Some, None, Result, Ok, Err, option_map}
use Rattle.std.specs.Map.{update}
use Rattle.gw_frames.specs.declared.ended.Ended.{Ended}
use Rattle.gw_json.specs.Lines.{line_of}
use Rattle.gw_json.specs.Refusals.{refusal_number, refusal_path}
use Rattle.gw_json.specs.declared.refusal.Refusal.{Refusal}
use Rattle.gw_link.specs.declared.order.Order.{Order}
use Rattle.gw_link.specs.declared.order.Order.TheVariants.{Answers, Fails}
use Rattle.gw_match.specs.model.Telling.{change_of, world_after}
use Rattle.gw_replay.specs.Lines.{front_data}
use Rattle.gw_replay.specs.Replays.{Begins, Client, EventDone, IsAnswer, IsRefused, LineDone, Publishes, SaidDone, Sends, Serves, Site, State, StepDone, new_client, place_at, unless_ended, with_order}
use Rattle.gw_script.specs.Refusals.{step_refusal_number, step_refusal_path}
use Rattle.gw_script.specs.Scripts.{step_of as said_step}
use Rattle.gw_script.specs.Steps.{Step, an_event, a_publication, a_beginning, a_sending, an_end, an_answer, a_failure}
use Rattle.gw_script.specs.declared.refusal.StepRefusal.{StepRefusal}
use Rattle.gw_script.specs.declared.refusal.StepRefusal.TheVariants.{NotStep}
use Rattle.gw_store.specs.Events.{Read, a_change, is_skipped, answer}
use Rattle.gw_text.specs.model.Addresses.{Socket}
use Rattle.gw_replay_laws.proofs.Orders.{answers_view, order_view}
use Rattle.gw_replay_laws.proofs.Serving.{SameServed, same_serves}
use Rattle.gw_replay_laws.proofs.States.{Alike, ClientView, client_view, same_clients, same_join, same_length, same_world, some_same}

-- the text and the states are alike, and so are the moments that are left
pub record SameDone (s t : State) (text text₂ : List ℕ) : Type 0 where
  pub state : Alike s t
  pub text_is : text ≡ text₂

pub record SameLine (later later₂ : List ℤ) (s t : State) (text text₂ : List ℕ) : Type 0 where
  pub moments : later ≡ later₂
  pub done : SameDone s t text text₂

same_refusal : (line number : ℕ) (path : Option (List ℕ)) (s s' t t' : State) (text text₂ : List ℕ) → Alike s t
    → IsRefused line number path s s' text → IsRefused line number path t t' text₂ → SameDone s' t' text text₂
same_refusal line number path s s' t t' text text₂ same x y = record {
  state = subst₂ Alike (sym x.state) (sym y.state) (record {
    changes = same.changes;
    published = same.published;
    workers = same.workers;
    clients = same.clients;
    orders = same.orders;
    statuses = same.statuses;
    refused = ap (λ n. n + 1) same.refused;
    skipped = same.skipped;
  });
  text_is = x.text_is ∙ sym y.text_is;
}

same_event : (line : ℕ) (at : ℤ) (read : Result Read Refusal) (s s' t t' : State) (text text₂ : List ℕ) → Alike s t
    → EventDone line at read s s' text → EventDone line at read t t' text₂ → SameDone s' t' text text₂
same_event line at (Ok (a_change event)) s s' t t' text text₂ same x y =
    let entry : change_of x.0 ≡ change_of y.0 = x.1.0 ∙ sym y.1.0 in
    record {
      state = subst₂ Alike (sym x.1.1) (sym y.1.1) (record {
        changes = same_join change_of s.changes t.changes (x.0 ∷ []) (y.0 ∷ []) same.changes (ap (λ change. change ∷ []) entry);
        published = same.published;
        workers = same.workers;
        clients = same.clients;
        orders = same.orders;
        statuses = same.statuses;
        refused = same.refused;
        skipped = same.skipped;
      });
      text_is = x.1.2 ∙ sym y.1.2;
    }
same_event line at (Ok is_skipped) s s' t t' text text₂ same x y = record {
  state = subst₂ Alike (sym x.0) (sym y.0) (record {
    changes = same.changes;
    published = same.published;
    workers = same.workers;
    clients = same.clients;
    orders = same.orders;
    statuses = same.statuses;
    refused = same.refused;
    skipped = ap (λ n. n + 1) same.skipped;
  });
  text_is = x.1 ∙ sym y.1;
}
same_event line at (Err e) s s' t t' text text₂ same x y = same_refusal line (refusal_number e) (refusal_path e) s s' t t' text text₂ same x y

same_publication : (line : ℕ) (s s' t t' : State) (text text₂ : List ℕ) → Alike s t → Publishes line s s' text → Publishes line t t' text₂
    → SameDone s' t' text text₂
same_publication line s s' t t' text text₂ same x y = record {
  state = subst₂ Alike (sym x.state) (sym y.state) (record {
    changes = same.changes;
    published = same.changes;
    workers = same.workers;
    clients = same.clients;
    orders = same.orders;
    statuses = same.statuses;
    refused = same.refused;
    skipped = same.skipped;
  });
  text_is = x.text_is ∙ ap (λ number. line_of (front_data number line)) (same_length change_of s.changes t.changes same.changes) ∙ sym y.text_is;
}

-- the open connections are others, of the same views
with_clients : (s t : State) (clients others : List ℕ → Option Client) → Alike s t
    → ((name : List ℕ) → option_map client_view (clients name) ≡ option_map client_view (others name))
    → Alike (record s { clients = clients }) (record t { clients = others })
with_clients s t clients others same e = record {
  changes = same.changes;
  published = same.published;
  workers = same.workers;
  clients = e;
  orders = same.orders;
  statuses = same.statuses;
  refused = same.refused;
  skipped = same.skipped;
}

some_differs : {A : Type 0} {B : Type 0} (a : A) → None ≡ Some a → B
some_differs a e = absurd (cc)

same_beginning : (line : ℕ) (name : List ℕ) (worker door : ℕ) (client other : Option Client) (s s' t t' : State) (text text₂ : List ℕ) → Alike s t
    → option_map client_view client ≡ option_map client_view other
    → Begins line name worker door client s s' text → Begins line name worker door other t t' text₂ → SameDone s' t' text text₂
same_beginning line name worker door None None s s' t t' text text₂ same e x y = record {
  state = subst₂ Alike (sym x.0) (sym y.0) (with_clients s t (update bytes_eq s.clients name (Some (new_client worker door)))
      (update bytes_eq t.clients name (Some (new_client worker door))) same
      (same_clients s.clients t.clients name (Some (new_client worker door)) (Some (new_client worker door)) same.clients refl));
  text_is = x.1 ∙ sym y.1;
}
same_beginning line name worker door (Some c) (Some d) s s' t t' text text₂ same e x y =
    same_refusal line (step_refusal_number NotStep) (step_refusal_path NotStep) s s' t t' text text₂ same x y
same_beginning line name worker door None (Some d) s s' t t' text text₂ same e x y = some_differs (client_view d) e
same_beginning line name worker door (Some c) None s s' t t' text text₂ same e x y = some_differs (client_view c) (sym e)

left_alike : (ending : Option Ended) (c d : Client) → client_view c ≡ client_view d
    → option_map client_view (unless_ended ending c) ≡ option_map client_view (unless_ended ending d)
left_alike None c d e = ap Some e
left_alike (Some why) c d e = refl

same_left : (ending ending₂ : Option Ended) (c d : Client) → ending ≡ ending₂ → client_view c ≡ client_view d
    → option_map client_view (unless_ended ending c) ≡ option_map client_view (unless_ended ending₂ d)
same_left ending ending₂ c d e v = left_alike ending c d v ∙ ap (λ end. option_map client_view (unless_ended end d)) e

same_sending : (site : Site) (line : ℕ) (name piece : List ℕ) (client other : Option Client) (s s' t t' : State) (text text₂ : List ℕ) → Alike s t
    → option_map client_view client ≡ option_map client_view other
    → Sends site line name piece client s s' text → Sends site line name piece other t t' text₂ → SameDone s' t' text text₂
same_sending site line name piece None None s s' t t' text text₂ same e x y =
    same_refusal line (step_refusal_number NotStep) (step_refusal_path NotStep) s s' t t' text text₂ same x y
same_sending site line name piece (Some c) (Some d) s s' t t' text text₂ same e x y =
    let view = some_same (client_view c) (client_view d) e in
    let door : c.door ≡ d.door = ap (λ (v : ClientView). v.door) view in
    let c' = x.0 in
    let d' = y.0 in
    let ending = x.1.0 in
    let ending₂ = y.1.0 in
    let served = x.1.1.0 in
    let served₂ = y.1.1.0 in
    let there : Serves (place_at site c.door) line name d d' piece ending₂ t served₂ text₂ =
    subst (λ number. Serves (place_at site number) line name d d' piece ending₂ t served₂ text₂) (sym door) y.1.1.1.0 in
    let both : SameServed c' d' ending ending₂ served served₂ text text₂ =
    same_serves (place_at site c.door) line name piece c d c' d' ending ending₂ s t served served₂ text text₂ same view x.1.1.1.0 there in
    record {
      state = subst₂ Alike (sym x.1.1.1.1) (sym y.1.1.1.1)
          (with_clients served served₂ (update bytes_eq s.clients name (unless_ended ending c')) (update bytes_eq t.clients name (unless_ended ending₂ d')) both.state
          (same_clients s.clients t.clients name (unless_ended ending c') (unless_ended ending₂ d') same.clients
          (same_left ending ending₂ c' d' both.ends both.client)));
      text_is = both.text_is;
    }
same_sending site line name piece None (Some d) s s' t t' text text₂ same e x y = some_differs (client_view d) e
same_sending site line name piece (Some c) None s s' t t' text text₂ same e x y = some_differs (client_view c) (sym e)

order_is : (order : Order) (socket : Socket) (bytes : List ℕ) → IsAnswer order socket bytes → order_view order ≡ answers_view socket bytes
order_is (Answers at text) socket bytes x = ap₂ answers_view x.0 x.1
order_is (Fails at call) socket bytes x = absurd x

same_order : (order order₂ : Order) (s s' t t' : State) (text text₂ : List ℕ) → Alike s t → order_view order ≡ order_view order₂
    → s' ≡ with_order s order → t' ≡ with_order t order₂ → text ≡ [] → text₂ ≡ [] → SameDone s' t' text text₂
same_order order order₂ s s' t t' text text₂ same e x y a b = record {
  state = subst₂ Alike (sym x) (sym y) (record {
    changes = same.changes;
    published = same.published;
    workers = same.workers;
    clients = same.clients;
    orders = same_join order_view s.orders t.orders (order ∷ []) (order₂ ∷ []) same.orders (ap (λ view. view ∷ []) e);
    statuses = same.statuses;
    refused = same.refused;
    skipped = same.skipped;
  });
  text_is = a ∙ sym b;
}

-- no moment was taken by either, or one by each
none_taken : (here here₂ later later₂ : List ℤ) → here ≡ [] → here₂ ≡ [] → here ++ later ≡ here₂ ++ later₂ → later ≡ later₂
none_taken here here₂ later later₂ a b e = sym (ap (λ front. front ++ later) a) ∙ e ∙ ap (λ front. front ++ later₂) b

one_taken : (here here₂ later later₂ : List ℤ) (at at₂ : ℤ) → here ≡ at ∷ [] → here₂ ≡ at₂ ∷ [] → here ++ later ≡ here₂ ++ later₂ → at ∷ later ≡ at₂ ∷ later₂
one_taken here here₂ later later₂ at at₂ a b e = sym (ap (λ front. front ++ later) a) ∙ e ∙ ap (λ front. front ++ later₂) b

same_at : (at at₂ : ℤ) (later later₂ : List ℤ) → at ∷ later ≡ at₂ ∷ later₂ → at ≡ at₂
same_at at at₂ later later₂ e = cc

same_later : (at at₂ : ℤ) (later later₂ : List ℤ) → at ∷ later ≡ at₂ ∷ later₂ → later ≡ later₂
same_later at at₂ later later₂ e = cc

same_step : (site : Site) (line : ℕ) (step : Step) (here here₂ later later₂ : List ℤ) (s s' t t' : State) (text text₂ : List ℕ) → Alike s t
    → here ++ later ≡ here₂ ++ later₂ → StepDone site line step here s s' text → StepDone site line step here₂ t t' text₂ → SameLine later later₂ s' t' text text₂
same_step site line (an_event bytes) here here₂ later later₂ s s' t t' text text₂ same e x y =
    let taken = one_taken here here₂ later later₂ x.0 y.0 x.1.0 y.1.0 e in
    let there : EventDone line x.0 (answer (world_after t.changes) bytes) t t' text₂ =
    subst (λ at. EventDone line at (answer (world_after t.changes) bytes) t t' text₂) (sym (same_at x.0 y.0 later later₂ taken)) y.1.1 in
    let there₂ : EventDone line x.0 (answer (world_after s.changes) bytes) t t' text₂ =
    subst (λ world. EventDone line x.0 (answer world bytes) t t' text₂) (sym (same_world s.changes t.changes same.changes)) there in
    record {
      moments = same_later x.0 y.0 later later₂ taken;
      done = same_event line x.0 (answer (world_after s.changes) bytes) s s' t t' text text₂ same x.1.1 there₂;
    }
same_step site line a_publication here here₂ later later₂ s s' t t' text text₂ same e x y = record {
  moments = none_taken here here₂ later later₂ x.0 y.0 e;
  done = same_publication line s s' t t' text text₂ same x.1 y.1;
}
same_step site line (a_beginning name worker door) here here₂ later later₂ s s' t t' text text₂ same e x y = record {
  moments = none_taken here here₂ later later₂ x.0 y.0 e;
  done = same_beginning line name worker door (s.clients name) (t.clients name) s s' t t' text text₂ same (same.clients name) x.1 y.1;
}
same_step site line (a_sending name bytes) here here₂ later later₂ s s' t t' text text₂ same e x y = record {
  moments = none_taken here here₂ later later₂ x.0 y.0 e;
  done = same_sending site line name bytes (s.clients name) (t.clients name) s s' t t' text text₂ same (same.clients name) x.1 y.1;
}
same_step site line (an_end name) here here₂ later later₂ s s' t t' text text₂ same e x y = record {
  moments = none_taken here here₂ later later₂ x.0 y.0 e;
  done = same_sending site line name [] (s.clients name) (t.clients name) s s' t t' text text₂ same (same.clients name) x.1 y.1;
}
same_step site line (an_answer socket bytes fill) here here₂ later later₂ s s' t t' text text₂ same e x y = record {
  moments = none_taken here here₂ later later₂ x.0 y.0 e;
  done = same_order x.1.0 y.1.0 s s' t t' text text₂ same
      (order_is x.1.0 socket (bytes ++ replicate fill 120) x.1.1.0 ∙ sym (order_is y.1.0 socket (bytes ++ replicate fill 120) y.1.1.0))
      x.1.1.1 y.1.1.1 x.1.1.2 y.1.1.2;
}
same_step site line (a_failure socket call) here here₂ later later₂ s s' t t' text text₂ same e x y = record {
  moments = none_taken here here₂ later later₂ x.0 y.0 e;
  done = same_order (Fails socket call) (Fails socket call) s s' t t' text text₂ same refl x.1 y.1 x.2 y.2;
}

same_said : (site : Site) (line : ℕ) (said : Result Step StepRefusal) (here here₂ later later₂ : List ℤ) (s s' t t' : State) (text text₂ : List ℕ) → Alike s t
    → here ++ later ≡ here₂ ++ later₂ → SaidDone site line said here s s' text → SaidDone site line said here₂ t t' text₂ → SameLine later later₂ s' t' text text₂
same_said site line (Ok step) here here₂ later later₂ s s' t t' text text₂ same e x y = same_step site line step here here₂ later later₂ s s' t t' text text₂ same e x y
same_said site line (Err why) here here₂ later later₂ s s' t t' text text₂ same e x y = record {
  moments = none_taken here here₂ later later₂ x.0 y.0 e;
  done = same_refusal line (step_refusal_number why) (step_refusal_path why) s s' t t' text text₂ same x.1 y.1;
}

pub same_line : (blank : Bool) (site : Site) (line : ℕ) (bytes : List ℕ) (here here₂ later later₂ : List ℤ) (s s' t t' : State) (text text₂ : List ℕ) → Alike s t
    → here ++ later ≡ here₂ ++ later₂ → LineDone blank site line bytes here s s' text → LineDone blank site line bytes here₂ t t' text₂
    → SameLine later later₂ s' t' text text₂
same_line true site line bytes here here₂ later later₂ s s' t t' text text₂ same e x y = record {
  moments = none_taken here here₂ later later₂ x.0 y.0 e;
  done = record { state = subst₂ Alike (sym x.1) (sym y.1) same; text_is = x.2 ∙ sym y.2 };
}
same_line false site line bytes here here₂ later later₂ s s' t t' text text₂ same e x y =
    same_said site line (said_step (length s.workers) (length site.doors) bytes) here here₂ later later₂ s s' t t' text text₂ same e x
    (subst (λ number. SaidDone site line (said_step number (length site.doors) bytes) here₂ t t' text₂)
    (sym (ap length same.workers)) y)
