-- The backend is picked first, and what its state comes to has nothing to do with that book.
use Rattle.std.proofs.Common.{rules, ◌≡◌, Option, Some, IfOk, OnErr, ap, option_map, sym, subst, ◌∙◌}
use Rattle.std.proofs.lemmas.Result.{IfOk-weaker}
use Rattle.gw_text.specs.model.Picks.{after_draw}
use Rattle.gw_text.specs.model.Plans.{Backend}
use Rattle.gw_answers.specs.declared.books.Books.{Books}
use Rattle.gw_answers.specs.declared.books.Drawn.{Drawn}
use Rattle.gw_answers.specs.Left.{AreLeft}
use Rattle.gw_answers.specs.model.Decisions.{Decision, after_backend, backend_choice, by_backend, by_state, picked_backend}
use Rattle.gw_answers.proofs.Left.{behind_pick, by_endpoints, on_err}
use Rattle.gw_answers.proofs.decision.by_pick.Goals as goal

pub returns-in_err-of-in-Some-clause-err : goal.returns-in_err-of-in-Some-clause-err
returns-in_err-of-in-Some-clause-err c =
    let row = c.args.row.now in
    let books = c.args.books.now in
    let left = behind_pick books (after_draw (backend_choice row) books.backends) (picked_backend row books) in
    subst (λ (b : Books). OnErr c.from_residual-in_err-of-in-Some.result
    (AreLeft books (after_backend (record books { backends = after_draw (backend_choice row) books.backends }) (picked_backend row books)) b))
    (sym c.in_ok-drawn.ensures.after) (on_err c.from_residual-in_err-of-in-Some.result left)

pub returns-in_ok-of-in-Some-clause-value : goal.returns-in_ok-of-in-Some-clause-value
returns-in_ok-of-in-Some-clause-value c =
    let row = c.args.row.now in
    let q = c.args.request.now in
    let books = c.args.books.now in
    let b = c.in-Some.drawn.backend.now in
    let picked : picked_backend row books ≡ Some b = sym c.in_ok-drawn.ensures.pick ∙ ap (option_map (λ (d : Drawn). d.backend.now)) c.in-Some.is in
    let chosen = record c.args.chosen { backend = Some (record { key = b.key; port = b.port }) } in
    let chosen_is : c.with_backend-chosen.result ≡ chosen = search rules in
    let value : IfOk c.by_state.result (λ d. d ≡ by_state c.with_backend-chosen.result row q c.pick_backend.new.self b b.state) = c.by_state.ensures.value in
    subst (λ (p : Option Backend). IfOk c.by_state.result (λ d. d ≡ by_backend c.args.chosen row q books p)) (sym picked)
    (IfOk-weaker c.by_state.result (λ d. d ≡ by_state chosen row q (record books { backends = after_draw (backend_choice row) books.backends }) b b.state) _
    (λ d is. is ∙ by_endpoints chosen row q books (after_draw (backend_choice row) books.backends) b b.state)
    (rw (chosen_is, c.in_ok-drawn.ensures.after) at value))
