-- What every object says of itself. Source: ObjectMeta of the Kubernetes API.
use Rattle.std.specs.Prelude.{ℕ, ℤ, Option}
use Rattle.gw_text.specs.model.Names.{Key}

-- An object's key, its written creation in seconds from 1970, and the generation of its spec.
pub record Meta : Type 0 where
  pub key : Key
  pub created : Option ℤ
  pub generation : ℕ
