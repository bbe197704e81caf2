-- The names stand in the order that the sort compares by, and are those that Connection has.
use Rattle.std.proofs.Common.{◌∙◌, ap, rules, sym}
use Rattle.std.proofs.lemmas.Cmp.{nat_list_cmp_total}
use Rattle.std.proofs.lemmas.Fn.{always_returns_same}
use Rattle.std.proofs.lemmas.List.Sorted.{IsPermutation-map, list_any-IsPermutation, ranks_by}
use Rattle.std.specs.Cmp.Lexicographic.{slice_cmp}
use Rattle.std.specs.List.{list_any}
use Rattle.std.specs.Ordering.{is_lt, nat_cmp}
use Rattle.gw_messages.specs.model.Values.{lower}
use Rattle.gw_replies.proofs.options.Options.of.Goals as goal

pub invariant_of-result : goal.invariant_of-result
invariant_of-result c =
    c.sort_unstable_by.ensures.sorted (λ x y. is_lt (slice_cmp nat_cmp (lower x.now) (lower y.now))) (ranks_by nat_list_cmp_total (λ n. lower n.now))
    (always_returns_same _ _ _ (λ a r q k. search rules))

pub returns : goal.returns
returns c test =
    sym (list_any-IsPermutation test _ _ (IsPermutation-map (λ n. n.now) _ _ c.sort_unstable_by.ensures.permutation))
    ∙ ap (list_any test) (search rules)
