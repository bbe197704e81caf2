-- A listener more has its status.
use Rattle.std.proofs.Common.{◌≡◌, ◌<◌, ◌∙◌, sym, get_or, ap, rules, length}
use Rattle.gw_text.specs.model.Listeners.{listener_state}
use Rattle.gw_eval.proofs.Rows.{mapped_more, state_at}
use Rattle.gw_eval.proofs.gateways.listener_statuses.Goals as goal

pub listeners-preserved : goal.listeners-preserved
listeners-preserved c =
    let gateway = c.args.gateway.now in
    let place = c.listeners.place in
    let listener = c.listener-item.result in
    let within : place < length gateway.listeners = search rules in
    let here : listener ≡ get_or gateway.listeners place listener = search rules in
    let at : get_or c.args.states.now place c.index-states-place.result ≡ listener_state c.args.doors.now gateway place listener =
    ap (λ t. get_or t place c.index-states-place.result) c.requires.states
    ∙ state_at c.args.doors.now gateway place c.index-states-place.result listener within
    ∙ ap (λ l. listener_state c.args.doors.now gateway place l) (sym here)
    in
    let state : c.index-states-place.result ≡ listener_state c.args.doors.now gateway place listener = search (rules, at) in
    rw c.in_ok-push.ensures.ok (mapped_more (λ p. record { name = p.1.name; state = listener_state c.args.doors.now gateway p.0 p.1; attached = get_or c.args.attached.now p.0 0 })
    c.listeners.all gateway.listeners place listener c.in_ok-listener_status.field-0 _ within here
    (c.in_ok-listener_status.ensures ∙ ap (λ t. record { name = listener.name; state = t; attached = get_or c.args.attached.now place 0 }) state) c.listeners.invariant)
