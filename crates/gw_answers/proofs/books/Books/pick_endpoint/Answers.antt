-- The weights that are drawn from are ones, as many as there are sockets.
use Rattle.std.proofs.Common.{rules, ◌≡◌, ℕ, List, ap, length, option_copied, refl, replicate, ◌∙◌}
use Rattle.gw_text.specs.model.Picks.{Choice}
use Rattle.gw_answers.specs.model.Decisions.{endpoint_choice}
use Rattle.gw_answers.proofs.Picks.{choice_is, counted_by, picked_by}
use Rattle.gw_answers.proofs.books.Books.pick_endpoint.Goals as goal

pub returns-clause-pick : goal.returns-clause-pick
returns-clause-pick c =
    let backend = c.args.backend.now in
    let key : c.backend.inside.key ≡ backend.key = search rules in
    let port : c.from.result ≡ backend.port = search rules in
    let found : c.copied.result ≡ option_copied c.item_at.result = search rules in
    picked_by _ _ _ _ _ (endpoint_choice backend c.args.sockets.now) _ (found ∙ c.item_at.ensures) refl c.in_ok-picked.ensures.pick (choice_is key port refl)

pub returns-clause-after : goal.returns-clause-after
returns-clause-after c =
    let backend = c.args.backend.now in
    let key : c.backend.inside.key ≡ backend.key = search rules in
    let port : c.from.result ≡ backend.port = search rules in
    ap (λ (book : List (Choice × List ℕ)). record c.args.self.now { endpoints = book })
    (counted_by _ _ (endpoint_choice backend c.args.sockets.now) c.args.self.now.endpoints c.in_ok-picked.ensures.after (choice_is key port refl))
