-- The text so far, with the rows of the rest, is the whole.
use Rattle.std.proofs.Common.{◌≡◌, ◌++◌, drop, string_bytes}
use Rattle.gw_admin_texts.specs.model.Listings.{rows_text}
use Rattle.gw_admin_texts.proofs.listing.push_table.Given as goal

abbrev pub invariant-rows : goal.invariant-rows
invariant-rows l = string_bytes l.text ++ rows_text l.door (drop l.row-index l.row-items) ≡ string_bytes l.fn.text ++ rows_text l.door l.row-items
