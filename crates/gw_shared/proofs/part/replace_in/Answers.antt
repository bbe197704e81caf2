-- The change in one part is the change in all.
use Rattle.std.proofs.Common.{◌≡◌, ◌∙◌, ap, sym, option_to_list}
use Rattle.std.specs.List.{flat_map}
use Rattle.gw_shared.proofs.Elements.{changed_in}
use Rattle.gw_shared.specs.model.Elements.{replaced}
use Rattle.gw_shared.proofs.part.replace_in.Goals as goal

pub returns-in_ok-put_parts-in-Ok-clause-replaced : goal.returns-in_ok-put_parts-in-Ok-clause-replaced
returns-in_ok-put_parts-in-Ok-clause-replaced g c =
    let place = c.in-Ok.place in
    let own = c.in_ok-own-in-Ok.own.items in
    changed_in g.X.Part.elements c.as_slice.result.now place.index place.own.now place.at c.args.at
    c.in-Ok.ensures.0 c.in-Ok.ensures.1 c.in-Ok.ensures.2 own c.put_parts.new.parts.items c.args.count
    (option_to_list c.args.value) c.in-Ok.ensures.3 c.in_ok-own-in-Ok.ensures
    (c.in_ok-put_parts-in-Ok.ensures.put ∙ ap (λ parts. replaced place.index 1 own parts) (sym c.as_slice.ensures.value))
    ∙ ap (λ parts. replaced c.args.at c.args.count (option_to_list c.args.value) (flat_map g.X.Part.elements parts)) c.as_slice.ensures.value
