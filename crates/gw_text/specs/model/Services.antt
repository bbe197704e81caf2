-- Services. Source: Service of the Kubernetes API.
use Rattle.std.specs.Prelude.{ℕ, List, Bool, Option}
use Rattle.gw_text.specs.model.Meta.{Meta}

-- Source: ServicePort.
pub record ServicePort : Type 0 where
  -- empty where the port has none
  pub name : List ℕ
  pub port : ℕ
  pub protocol : List ℕ
  pub app_protocol : Option (List ℕ)

-- A Service.
pub record Service : Type 0 where
  pub meta : Meta
  -- whether its type is ExternalName
  pub external_name : Bool
  pub ports : List ServicePort
