-- How a path modifier of the code stands for the plain one.
use Rattle.gw_text.specs.model.Filters.{PathModifier as Plain, replace_full_path, replace_prefix_match, another_modifier}
use Rattle.gw_route.specs.declared.plain.PathModifier.{PathModifier}
use Rattle.gw_route.specs.declared.plain.PathModifier.TheVariants.{ReplaceFullPath, ReplacePrefixMatch, Other}

abbrev pub seen_modifier : PathModifier → Plain
seen_modifier (ReplaceFullPath t) = replace_full_path t
seen_modifier (ReplacePrefixMatch t) = replace_prefix_match t
seen_modifier (Other t) = another_modifier t
