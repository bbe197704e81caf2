-- GatewayClasses. Source: GatewayClass of the Gateway API reference.
use Rattle.std.specs.Prelude.{ℕ, List, Bool}
use Rattle.gw_text.specs.model.Meta.{Meta}

-- A GatewayClass.
pub record GatewayClass : Type 0 where
  pub meta : Meta
  -- the controller that manages Gateways of this class
  pub controller_name : List ℕ
  -- whether it refers to parameters, which this controller doesn't read
  pub parameters_ref : Bool
