-- A name is one of the names, or one that Connection has.
use Rattle.std.proofs.Common.{sym, ap, ◌∙◌, ◌||◌, map}
use Rattle.std.proofs.lemmas.List.Folds.{list_any-append}
use Rattle.std.specs.List.{list_any}
use Rattle.gw_text.specs.model.Fields.{same_field_name}
use Rattle.gw_replies.proofs.Hops.{any_of_texts}
use Rattle.gw_replies.proofs.hop.is_hop.Goals as goal

pub returns-then-is_among : goal.returns-then-is_among
returns-then-is_among c =
    let same = same_field_name c.args.name.now in
    let names = map (λ n. n.now) c.args.names.now in
    let among = sym (any_of_texts same c.args.names.now) ∙ sym c.is_among.ensures ∙ c.if-is_among.true in
    c.if-is_among.true ∙ sym (list_any-append same names c.args.options.now ∙ ap (λ b. b || list_any same c.args.options.now) among)

pub returns-else-is_among : goal.returns-else-is_among
returns-else-is_among c =
    let same = same_field_name c.args.name.now in
    let names = map (λ n. n.now) c.args.names.now in
    let among = sym (any_of_texts same c.args.names.now) ∙ sym c.is_among.ensures ∙ c.if-is_among.false in
    c.has.ensures ∙ sym (list_any-append same names c.args.options.now ∙ ap (λ b. b || list_any same c.args.options.now) among)
