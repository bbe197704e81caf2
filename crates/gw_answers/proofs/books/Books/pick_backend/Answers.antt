-- The weights that are drawn from are those of the backends.
use Rattle.std.proofs.Common.{rules, ◌≡◌, ℕ, List, map, ap}
use Rattle.gw_text.specs.model.Picks.{Choice}
use Rattle.gw_answers.specs.model.Decisions.{backend_choice}
use Rattle.gw_answers.proofs.Picks.{choice_is, counted_by, picked_by}
use Rattle.gw_answers.proofs.books.Books.pick_backend.Goals as goal

pub returns-clause-pick : goal.returns-clause-pick
returns-clause-pick c =
    let row = c.args.row.now in
    let key : c.row.inside.key ≡ row.key = search rules in
    let rule : c.from.result ≡ row.rule = search rules in
    let weights : c.as_slice.result.now ≡ map (λ b. b.weight) row.plan.backends = search rules in
    let all : c.as_slice-backends.result.now ≡ row.plan.backends = search rules in
    picked_by _ _ _ _ _ (backend_choice row) _ c.drawn_at.ensures.backend all c.in_ok-picked.ensures.pick (choice_is key rule weights)

pub returns-clause-after : goal.returns-clause-after
returns-clause-after c =
    let row = c.args.row.now in
    let key : c.row.inside.key ≡ row.key = search rules in
    let rule : c.from.result ≡ row.rule = search rules in
    let weights : c.as_slice.result.now ≡ map (λ b. b.weight) row.plan.backends = search rules in
    ap (λ (book : List (Choice × List ℕ)). record c.args.self.now { backends = book })
    (counted_by _ _ (backend_choice row) c.args.self.now.backends c.in_ok-picked.ensures.after (choice_is key rule weights))

pub returns-clause-place : goal.returns-clause-place
returns-clause-place c =
    let all : c.as_slice-backends.result.now ≡ c.args.row.now.plan.backends = search rules in
    rw all at c.drawn_at.ensures.place
