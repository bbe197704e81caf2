-- The rows of one door more.
use Rattle.std.proofs.Common.{◌≡◌, ◌∙◌, ◌+◌, ◌++◌, sym, ap, drop, append_assoc, arith, string_bytes}
use Rattle.gw_admin_texts.specs.model.Listings.{rows_text, tables_text}
use Rattle.gw_admin_texts.proofs.Tables.{tables_next}
use Rattle.gw_admin_texts.proofs.listing.table_reply.Goals as goal

pub doors-preserved : goal.doors-preserved
doors-preserved c =
    let tables = c.args.tables.now.tables in
    let rest = tables_text (c.doors.door + 1) (drop (c.doors.door + 1) tables) in
    ap (λ text. text ++ rest) c.in_ok-push_table.ensures ∙ append_assoc (string_bytes c.doors.text) (rows_text c.doors.door c.table.result.now.rows) rest
    ∙ ap (λ text. string_bytes c.doors.text ++ text) (sym (tables_next tables c.doors.door c.table.result.now (omega (arith, c.doors-test.true, c.doors-door-end.ensures, c.requires)) c.table.ensures)) ∙ c.doors.invariant
