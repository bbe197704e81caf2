-- Texts that are kept as they are: how long each may be, and what it must be like.
use Rattle.std.specs.Prelude.{ℕ, List, Bool, true, if◌then◌else◌, Option, Some, None}
use Rattle.gw_text.specs.model.Forms.{is_precise_hostname}
use Rattle.gw_text.specs.model.RouteForms.{is_field_name, is_field_value, is_path, is_replacement, is_parameter_name}
use Rattle.gw_forms.specs.declared.plain.Plain.{Plain}
use Rattle.gw_forms.specs.declared.plain.Plain.TheVariants.{Word, PreciseHostname, Token, FieldValue, Path, AnyPath, Replacement, ParameterName, ParameterValue}

-- The most bytes of a text.
abbrev pub limit : Plain → ℕ
limit Word = 512
limit PreciseHostname = 253
limit Token = 256
limit FieldValue = 4096
limit Path = 1024
limit AnyPath = 1024
limit Replacement = 1024
limit ParameterName = 256
limit ParameterValue = 1024

-- The text is of the form.
abbrev pub fits : Plain → List ℕ → Bool
fits Word t = true
fits PreciseHostname t = is_precise_hostname t
fits Token t = is_field_name t
fits FieldValue t = is_field_value t
fits Path t = is_path t
fits AnyPath t = true
fits Replacement t = is_replacement t
fits ParameterName t = is_parameter_name t
fits ParameterValue t = true

-- A text of the form, as it is.
abbrev pub kept : Plain → List ℕ → Option (List ℕ)
kept form t = if fits form t then Some t else None
