-- What is left of the text is compared with the values that are left.
use Rattle.std.proofs.Common.{◌≡◌, ◌||◌, drop}
use Rattle.std.specs.Str.{bytes_eq}
use Rattle.gw_messages.specs.model.Values.{has_field, values_of}
use Rattle.gw_rows.specs.Combined.{in_a_row}
use Rattle.gw_rows.specs.model.Fitting.{combined_value}
use Rattle.gw_rows.proofs.headers.has_combined_value.Given as goal

abbrev pub invariant-fields : goal.invariant-fields
invariant-fields l = record {
  text : bytes_eq (in_a_row l.found (values_of l.name (drop l.field-index l.fields))) l.rest ≡ bytes_eq (combined_value l.name l.fields) l.text;
  found : (l.found || has_field l.name (drop l.field-index l.fields)) ≡ has_field l.name l.fields;
}
