-- The text so far, with the tables of the rest, is the whole.
use Rattle.std.proofs.Common.{◌≡◌, ◌++◌, drop, string_bytes}
use Rattle.gw_admin_texts.specs.model.Listings.{tables_text}
use Rattle.gw_admin_texts.proofs.listing.table_reply.Given as goal

abbrev pub invariant-doors : goal.invariant-doors
invariant-doors l = string_bytes l.text ++ tables_text l.door (drop l.door l.tables.tables) ≡ tables_text 0 l.tables.tables
