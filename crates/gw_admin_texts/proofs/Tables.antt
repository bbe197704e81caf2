-- The rows of one door more.
use Rattle.std.proofs.Common.{◌≡◌, ℕ, ◌+◌, ◌<◌, ◌≤◌, List, [], ◌∷◌, ◌++◌, length, drop, get_or, refl, sym, ap, ◌∙◌, arith}
use Rattle.std.proofs.Math.Numerals.{add-one}
use Rattle.std.proofs.Math.Seq.{drop-cons}
use Rattle.gw_rows.specs.model.Rows.{Rows}
use Rattle.gw_admin_texts.specs.model.Listings.{rows_text, tables_text}

pub tables_next : (tables : List Rows) (door : ℕ) (table : Rows) → door < length tables → ((r : Rows) → table ≡ get_or tables door r)
    → tables_text door (drop door tables) ≡ rows_text door table.rows ++ tables_text (door + 1) (drop (door + 1) tables)
tables_next [] door table lt is = absurd (omega arith)
tables_next (t ∷ tables) door table lt is =
    ap (tables_text door) (drop-cons (t ∷ tables) door t lt ∙ ap (λ n. get_or (t ∷ tables) door t ∷ drop n (t ∷ tables)) (sym (add-one door)))
    ∙ ap (λ (r : Rows). rows_text door r.rows ++ tables_text (door + 1) (drop (door + 1) (t ∷ tables))) (sym (is t))
