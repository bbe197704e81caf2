-- At the start all values are left.
use Rattle.std.proofs.Common.{◌≡◌, ◌∙◌, refl, sym, ap, ℕ, List}
use Rattle.std.specs.Str.{bytes_eq}
use Rattle.gw_messages.specs.model.Values.{values_of}
use Rattle.gw_rows.specs.model.Fitting.{combined_value}
use Rattle.gw_rows.proofs.Combined.{joined_in_a_row}
use Rattle.gw_rows.proofs.headers.has_combined_value.Goals as goal

pub fields-init : goal.fields-init
fields-init c = record {
  text =
      ap (λ (value : List ℕ). bytes_eq value c.bytes-rest.result.now) (sym (joined_in_a_row (values_of c.args.name.now c.args.fields.now)))
      ∙ ap (bytes_eq (combined_value c.args.name.now c.args.fields.now)) c.bytes-rest.ensures;
  found = refl;
}
