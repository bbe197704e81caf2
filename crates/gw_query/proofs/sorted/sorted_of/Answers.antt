-- The sort is by the names, and keeps the order of those of one name.
use Rattle.std.proofs.Common.{◌∙◌, ap, rules}
use Rattle.std.proofs.lemmas.List.Sorted.{answers_always}
use Rattle.gw_query.specs.Sorted.{is_before}
use Rattle.gw_query.specs.model.Parameters.{first_value}
use Rattle.gw_query.proofs.Sorting.{by_name, same_first}
use Rattle.gw_query.proofs.sorted.sorted_of.Goals as goal

pub returns : goal.returns
returns c = record {
  ascend = c.in_ok-sort_by.ensures.sorted is_before by_name (answers_always _ _ _ (λ f a r g h. search rules));
  same = λ name.
      same_first _ _ (c.sort_by.ensures.stable is_before by_name (answers_always _ _ _ (λ f a r g h. search rules))) name
      ∙ ap (first_value name) c.in_ok-sorted.ensures;
}
