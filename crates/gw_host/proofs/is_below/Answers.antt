-- What stands before the text ends with a dot, exactly where the name ends with a dot and the text.
use Rattle.std.proofs.Common.{Some, None}
use Rattle.std.proofs.lemmas.Bool.Decides.{Decides-eqb}
use Rattle.std.proofs.lemmas.Slice.Eq.{strip_suffix_is}
use Rattle.gw_host.proofs.CommonNames.{is_below-stripped, is_below-not_stripped}
use Rattle.gw_host.proofs.is_below.Goals as goal

pub returns-in-Some : goal.returns-in-Some
returns-in-Some c =
    let stripped = strip_suffix_is Decides-eqb c.args.name.now c.args.text.now (Some c.in-Some.front) c.in-Some.ensures.cases in
    is_below-stripped c.args.name.now c.args.text.now c.in-Some.front stripped c.ends_with.result c.ends_with.ensures.value

pub returns-in-None : goal.returns-in-None
returns-in-None c =
    is_below-not_stripped c.args.name.now c.args.text.now (strip_suffix_is Decides-eqb c.args.name.now c.args.text.now None c.in-None.ensures.cases)
