-- ReferenceGrants. Source: ReferenceGrant of the Gateway API reference.
use Rattle.std.specs.Prelude.{ℕ, List, Option}
use Rattle.gw_text.specs.model.Meta.{Meta}

-- The objects that may refer: those of this kind in this namespace. Source: ReferenceGrantFrom.
pub record GrantFrom : Type 0 where
  pub group : List ℕ
  pub kind : List ℕ
  pub namespace : List ℕ

-- The objects that may be referred to, in the grant's own namespace. Source: ReferenceGrantTo.
pub record GrantTo : Type 0 where
  pub group : List ℕ
  pub kind : List ℕ
  -- absent: all of this kind
  pub name : Option (List ℕ)

-- A ReferenceGrant.
pub record ReferenceGrant : Type 0 where
  pub meta : Meta
  pub from : List GrantFrom
  pub to : List GrantTo
