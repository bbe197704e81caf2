-- A row in place of another stands between what is before that one and what is behind it.
use Rattle.std.proofs.Common.{◌∙◌, sym, ap, subst, ℕ, ◌<◌, ◌∷◌, ◌++◌, add-one, drop, length, set, take}
use Rattle.std.proofs.lemmas.List.{set_split}
use Rattle.std.proofs.lemmas.Result.{on_ok_weaker}
use Rattle.gw_cells.specs.Cells.{rows_in}
use Rattle.gw_cells.specs.declared.row_list.RowList.{RowList}
use Rattle.gw_cells.proofs.row_list.RowList.put.Goals as goal

pub returns-in-Many : goal.returns-in-Many
returns-in-Many c =
    let rows = c.in-Many.rows in
    let at = c.args.at in
    let row = c.args.row in
    let within : at < length rows = subst (λ (l : RowList). at < length (rows_in l)) c.in-Many.is c.requires in
    on_ok_weaker c.put.result
    (λ now. now ∙ ap (λ (n : ℕ). take at rows ++ row ∷ drop n rows) (add-one at) ∙ sym (set_split rows at row within)
    ∙ ap (λ (l : RowList). set (rows_in l) at row) (sym c.in-Many.is))
    c.put.ensures.put
