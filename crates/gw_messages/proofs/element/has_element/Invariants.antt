use Rattle.std.proofs.Common.{◌≡◌, map}
use Rattle.std.specs.List.{list_any}
use Rattle.std.specs.Option.{option_copied}
use Rattle.httparse.specs.Grammar.{trim_ows}
use Rattle.gw_messages.specs.model.Values.{elements, same_word}
use Rattle.gw_messages.specs.Elements.{left_size, parts_left}
use Rattle.gw_messages.proofs.element.has_element.Given as goal

abbrev pub invariant-elements : goal.invariant-elements
invariant-elements l =
    list_any (same_word l.word) (elements l.value) ≡ list_any (same_word l.word) (map trim_ows (parts_left (option_copied l.rest)))

abbrev pub decreases-elements : goal.decreases-elements
decreases-elements l = left_size (option_copied l.rest)
