-- The Gateway is held, and the parentRef names it.
use Rattle.std.proofs.Common.{◌≡◌, ◌∙◌, ◌||◌, ap, is_some, rules, sym, true}
use Rattle.gw_text.specs.model.Names.{same_key}
use Rattle.gw_text.specs.model.Routes.{names_gateway, parent_key}
use Rattle.gw_text.specs.model.World.{gateway_at}
use Rattle.gw_deps.specs.Edges.{has_key}
use Rattle.gw_deps.proofs.Depending.{held_when}
use Rattle.gw_deps.proofs.touching.add_parent.Goals as goal

pub returns : goal.returns
returns c = λ k.
    let w = c.args.world.now.world in
    let p = c.args.parent.now in
    let before = c.args.gateways.now.list in
    let names : names_gateway p ≡ true = search rules in
    let held : is_some (gateway_at w (parent_key p)) ≡ true = search rules in
    let step : has_key k c.add.new.self.list ≡ (same_key (parent_key p) k || has_key k before) = search rules in
    step ∙ ap (λ b. b || has_key k before) (sym (held_when w k p names held))
