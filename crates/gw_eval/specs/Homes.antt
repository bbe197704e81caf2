-- The namespace of the Route at hand.
use Rattle.std.specs.Prelude.{◌≡◌, ℕ, List, Option}
use Rattle.std.specs.Option.{IfSome}
use Rattle.gw_text.specs.model.World.{World, namespace_labels}
use Rattle.gw_eval.specs.declared.home.FoundLabels.{FoundLabels}
use Rattle.gw_eval.specs.declared.home.FoundLabels.TheVariants.{Held, Named}

-- A namespace, if there is one yet, with its labels.
pub record Home : Type 0 where
  pub namespace : Option (List ℕ)
  pub labels : List (List ℕ × List ℕ)

-- Labels as the code holds them.
abbrev pub labels_in : FoundLabels → List (List ℕ × List ℕ)
labels_in (Held found) = found.now.object.labels
labels_in (Named labels) = labels

-- The labels are those of the namespace in this world.
abbrev pub IsHome : World → Home → Type 0
IsHome w home = IfSome home.namespace (λ namespace. home.labels ≡ namespace_labels w namespace)
