use Rattle.std.proofs.Common.{◌≡◌, map, filter, fold}
use Rattle.std.specs.Option.{option_copied}
use Rattle.httparse.specs.Grammar.{trim_ows}
use Rattle.gw_messages.specs.model.Values.{elements}
use Rattle.gw_text.specs.model.Names.{is_given}
use Rattle.gw_messages.specs.Codings.{note}
use Rattle.gw_messages.specs.Elements.{left_size, parts_left}
use Rattle.gw_messages.proofs.coding.with_value.Given as goal

abbrev pub invariant-elements : goal.invariant-elements
invariant-elements l =
    fold note l.found (filter is_given (map trim_ows (parts_left (option_copied l.rest)))) ≡ fold note l.fn.before (filter is_given (elements l.value))

abbrev pub decreases-elements : goal.decreases-elements
decreases-elements l = left_size (option_copied l.rest)
