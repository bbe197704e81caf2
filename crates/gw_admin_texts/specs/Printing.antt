-- Refused lines that were printed so far.
use Rattle.std.specs.Prelude.{◌≡◌, ℕ, ◌+◌, List, ◌++◌, length, string_bytes}
use Rattle.gw_report.specs.EventLines.{Refused}
use Rattle.gw_report.specs.RunText.{refused_text}
use Rattle.gw_admin_texts.specs.declared.changes.Printed.{Printed}

-- These are all that were printed.
pub record Prints (refused : List Refused) (p : Printed) : Type 0 where
  pub text : string_bytes p.text ≡ refused_text refused
  pub count : p.refused ≡ length refused

-- These were printed behind the others.
pub record Continues (refused : List Refused) (old new : Printed) : Type 0 where
  pub text : string_bytes new.text ≡ string_bytes old.text ++ refused_text refused
  pub count : new.refused ≡ old.refused + length refused
