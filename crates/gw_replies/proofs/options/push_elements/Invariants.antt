use Rattle.std.proofs.Common.{◌≡◌, ◌++◌, map}
use Rattle.std.specs.Option.{option_copied}
use Rattle.httparse.specs.Grammar.{trim_ows}
use Rattle.gw_messages.specs.Elements.{left_size, parts_left}
use Rattle.gw_messages.specs.model.Values.{elements}
use Rattle.gw_replies.proofs.options.push_elements.Given as goal

abbrev pub invariant-elements : goal.invariant-elements
invariant-elements l =
    map (λ n. n.now) l.names.items ++ map trim_ows (parts_left (option_copied l.rest))
    ≡ map (λ n. n.now) l.fn.names.items ++ elements l.value

abbrev pub decreases-elements : goal.decreases-elements
decreases-elements l = left_size (option_copied l.rest)
