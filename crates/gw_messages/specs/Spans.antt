-- What the parser's spans say of bytes.
use Rattle.std.specs.Prelude.{ℕ, List}
use Rattle.httparse.specs.Spans.{span_bytes}
use Rattle.httparse.specs.declared.spans.HeaderSpan.{HeaderSpan}
use Rattle.gw_text.specs.model.Fields.{Field}

-- The field that the spans cover.
abbrev pub field_at : List ℕ → HeaderSpan → Field
field_at bytes span = record { name = span_bytes bytes span.name; value = span_bytes bytes span.value }
