-- A listener more is served, or isn't.
use Rattle.std.proofs.Common.{◌≡◌, ◌<◌, ◌∙◌, ◌==◌, ◌&&◌, ℕ, sym, get_or, ap, rules, length}
use Rattle.gw_text.specs.model.Gateways.{Listener}
use Rattle.gw_text.specs.model.Listeners.{ListenerState, gateway_state, listener_state}
use Rattle.gw_rows.specs.model.DoorRows.{is_served, served_listener}
use Rattle.gw_eval.proofs.Rows.{state_at}
use Rattle.gw_eval.proofs.Serving.{filtered_more, holds_too}
use Rattle.gw_eval.proofs.served.served_among.Goals as goal

pub listeners-preserved : goal.listeners-preserved
listeners-preserved c =
    let doors = c.args.doors.now in
    let door = c.args.door.now in
    let gateway = c.args.gateway.now in
    let place = c.listeners.place in
    let listener = c.listener-item.result in
    let within : place < length gateway.listeners = search rules in
    let here : listener ≡ get_or gateway.listeners place listener = search rules in
    let at : get_or c.args.states.now place c.index-states-place.result ≡ listener_state doors gateway place listener =
    ap (λ t. get_or t place c.index-states-place.result) c.requires.states
    ∙ state_at doors gateway place c.index-states-place.result listener within
    ∙ ap (λ l. listener_state doors gateway place l) (sym here)
    in
    let state : c.index-states-place.result ≡ listener_state doors gateway place listener = search (rules, at) in
    let served : c.is_served-is_served.result ≡ is_served doors door gateway place listener =
    c.is_served-is_served.ensures
    ∙ ap (λ (s : ListenerState). (listener.port == door.port) && s.programmed.truth) state
    ∙ holds_too (listener.port == door.port) (gateway_state doors gateway).programmed.truth (listener_state doors gateway place listener).programmed.truth c.requires.programmed
    in
    rw c.in_ok-push_served.ensures (filtered_more (λ (p : ℕ × Listener). is_served doors door gateway p.0 p.1) (λ (p : ℕ × Listener). served_listener p.0 p.1)
    c.listeners.all.items gateway.listeners place listener c.is_served-is_served.result _ within here served c.listeners.invariant)
