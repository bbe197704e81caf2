-- The endpoint is picked of the sockets of a backend that is ready.
use Rattle.std.proofs.Common.{rules, ◌≡◌, ◌⊎◌, [], List, Option, IfOk, OnOk, OnErr, inl, inr, ap, sym, subst, ◌∙◌}
use Rattle.std.proofs.lemmas.Result.{IfOk-weaker}
use Rattle.gw_text.specs.model.Addresses.{Socket}
use Rattle.gw_text.specs.model.References.{BackendState, ready}
use Rattle.gw_answers.specs.Left.{AreLeft}
use Rattle.gw_answers.specs.model.Decisions.{after_endpoint, by_endpoint, by_state, picked_endpoint}
use Rattle.gw_answers.proofs.Left.{as_after}
use Rattle.gw_answers.proofs.decision.by_state.Goals as goal

pub returns-in-Ready-clause-value : goal.returns-in-Ready-clause-value
returns-in-Ready-clause-value c =
    let state : c.args.drawn.backend.now.state ≡ ready c.in-Ready.sockets = search rules in
    let sockets : c.as_slice.result.now ≡ c.in-Ready.sockets = search rules in
    let picked : c.in_ok-picked-in-Ready.picked ≡ picked_endpoint c.args.drawn.backend.now c.in-Ready.sockets c.args.books.now =
    c.in_ok-picked-in-Ready.ensures.pick ∙ ap (λ (all : List Socket). picked_endpoint c.args.drawn.backend.now all c.args.books.now) sockets in
    subst (λ (s : BackendState). IfOk c.by_endpoint.result (λ d. d ≡ by_state c.args.chosen c.args.row.now c.args.request.now c.args.books.now c.args.drawn.backend.now s))
    (sym state)
    (subst (λ (p : Option Socket). IfOk c.by_endpoint.result (λ d. d ≡ by_endpoint c.args.chosen c.args.row.now c.args.request.now c.args.drawn.backend.now p)) picked
    (search rules))

pub returns-in-Ready-clause-after : goal.returns-in-Ready-clause-after
returns-in-Ready-clause-after c =
    let state : c.args.drawn.backend.now.state ≡ ready c.in-Ready.sockets = search rules in
    let sockets : c.as_slice.result.now ≡ c.in-Ready.sockets = search rules in
    let after : c.pick_endpoint.new.self ≡ after_endpoint c.args.books.now c.args.drawn.backend.now (ready c.in-Ready.sockets) =
    c.in_ok-picked-in-Ready.ensures.after ∙ ap (λ (all : List Socket). after_endpoint c.args.books.now c.args.drawn.backend.now (ready all)) sockets in
    let all : c.pick_endpoint.new.self ≡ after_endpoint c.args.books.now c.args.drawn.backend.now c.args.drawn.backend.now.state =
    after ∙ ap (after_endpoint c.args.books.now c.args.drawn.backend.now) (sym state) in
    search (rules, all)

pub returns-in-Ready-clause-err : goal.returns-in-Ready-clause-err
returns-in-Ready-clause-err c =
    let state : c.args.drawn.backend.now.state ≡ ready c.in-Ready.sockets = search rules in
    let sockets : c.as_slice.result.now ≡ c.in-Ready.sockets = search rules in
    let after : c.pick_endpoint.new.self ≡ after_endpoint c.args.books.now c.args.drawn.backend.now (ready c.in-Ready.sockets) =
    c.in_ok-picked-in-Ready.ensures.after ∙ ap (λ (all : List Socket). after_endpoint c.args.books.now c.args.drawn.backend.now (ready all)) sockets in
    let all : c.pick_endpoint.new.self ≡ after_endpoint c.args.books.now c.args.drawn.backend.now c.args.drawn.backend.now.state =
    after ∙ ap (after_endpoint c.args.books.now c.args.drawn.backend.now) (sym state) in
    let left : AreLeft c.args.books.now (after_endpoint c.args.books.now c.args.drawn.backend.now c.args.drawn.backend.now.state) c.pick_endpoint.new.self =
    rw all (as_after c.args.books.now (after_endpoint c.args.books.now c.args.drawn.backend.now c.args.drawn.backend.now.state)) in
    search (rules, left)
