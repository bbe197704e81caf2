-- What follows the stripped prefix decides; where nothing was stripped, the path doesn't begin so.
use Rattle.std.proofs.Common.{false, Some, None}
use Rattle.std.proofs.lemmas.Bool.Decides.{Decides-eqb}
use Rattle.std.proofs.lemmas.Slice.Eq.{strip_prefix_is}
use Rattle.gw_path.proofs.Elements.{is_path_prefix-from, no_rest-decides, rest-decides}
use Rattle.gw_path.proofs.prefix_fits.Goals as goal

pub returns-in-Some-clause-bytes : goal.returns-in-Some-clause-bytes
returns-in-Some-clause-bytes c =
    let front = c.trimmed.result.now in
    let stripped = strip_prefix_is Decides-eqb c.args.path.now front (Some c.in-Some.rest) c.in-Some.ensures.cases in
    rest-decides c.args.value.now c.args.path.now front c.in-Some.rest.now c.ends_element.result c.trimmed.ensures stripped c.ends_element.ensures

pub returns-in-Some-clause-elements : goal.returns-in-Some-clause-elements
returns-in-Some-clause-elements c =
    is_path_prefix-from c.args.value.now c.args.path.now c.ends_element.result (returns-in-Some-clause-bytes c)

pub returns-in-None-clause-bytes : goal.returns-in-None-clause-bytes
returns-in-None-clause-bytes c =
    let front = c.trimmed.result.now in
    let stripped = strip_prefix_is Decides-eqb c.args.path.now front None c.in-None.ensures.cases in
    no_rest-decides c.args.value.now c.args.path.now front c.trimmed.ensures stripped

pub returns-in-None-clause-elements : goal.returns-in-None-clause-elements
returns-in-None-clause-elements c = is_path_prefix-from c.args.value.now c.args.path.now false (returns-in-None-clause-bytes c)
