-- The row of the entry's Gateway is the one that grows.
use Rattle.std.proofs.Common.{◌≡◌, ◌∙◌, ◌<◌, ℕ, List, [], Vec, Global, sym, ap, length, map, get_or, set, subst, rules}
use Rattle.std.specs.Vec.{vec_items, with_items}
use Rattle.std.proofs.lemmas.List.{get_or-map, map-set, length-map, with_items_is}
use Rattle.std.proofs.Math.Seq.{map-set_same}
use Rattle.gw_eval.specs.Counting.{Placed, number_at}
use Rattle.gw_eval.proofs.Counting.{row_set}
use Rattle.gw_eval.proofs.attached.Counts.count.Goals as goal

-- the row as it was
row_is : (rows : List (Vec ℕ Global)) (old : List (List ℕ)) (i : ℕ) (vec : Vec ℕ Global) (slice : List ℕ) →
    map vec_items rows ≡ old → i < length old → vec ≡ get_or rows i vec → slice ≡ vec_items vec → get_or old i [] ≡ slice
row_is rows old i vec slice view within is items =
    let here : i < length rows = rw (← view, length-map rows vec_items) at within in
    ap (λ t. get_or t i []) (sym view) ∙ get_or-map vec_items rows i vec [] here ∙ ap vec_items (sym is) ∙ sym items

pub count_row-requires : goal.count_row-requires
count_row-requires c =
    let gateway = ap (λ (p : Placed). p.gateway) c.entry.view_is in
    let within = subst (λ i. i < length c.args.self.now) (sym gateway) c.requires.gateway in
    let row = row_is _ _ c.entry.inside.gateway _ _ c.self.view_is within c.index_mut.ensures.value c.as_mut_slice.ensures.value in
    rw (← row) (λ place here. c.requires.room c.entry.inside.gateway place within here)

-- the rows as they are
set_row : (rows : List (Vec ℕ Global)) (old : List (List ℕ)) (i : ℕ) (vec : Vec ℕ Global) (row : List ℕ) → map vec_items rows ≡ old → vec_items vec ≡ row →
    map vec_items (set rows i vec) ≡ set old i row
set_row rows old i vec row view items = map-set vec_items rows i vec ∙ ap (λ t. set t i (vec_items vec)) view ∙ ap (set old i) items

pub returns-clause-rows : goal.returns-clause-rows
returns-clause-rows c =
    let gateway = ap (λ (p : Placed). p.gateway) c.entry.view_is in
    let within = subst (λ i. i < length c.args.self.now) (sym gateway) c.requires.gateway in
    let row = row_is _ _ c.entry.inside.gateway _ _ c.self.view_is within c.index_mut.ensures.value c.as_mut_slice.ensures.value in
    let many = c.count_row.ensures.length ∙ ap length c.as_mut_slice.ensures.value in
    let items = with_items_is c.index_mut.result.now c.count_row.new.row (search (rules, many)) in
    ap (map length) (set_row c.self.inside.rows.items c.args.self.now c.entry.inside.gateway (with_items c.index_mut.result.now c.count_row.new.row) c.count_row.new.row c.self.view_is items)
    ∙ map-set_same (length {A = ℕ}) c.args.self.now c.entry.inside.gateway c.count_row.new.row [] (c.count_row.ensures.length ∙ ap length (sym row))

pub returns-clause-numbers : goal.returns-clause-numbers
returns-clause-numbers c =
    let gateway = ap (λ (p : Placed). p.gateway) c.entry.view_is in
    let within = subst (λ i. i < length c.args.self.now) (sym gateway) c.requires.gateway in
    let row = row_is _ _ c.entry.inside.gateway _ _ c.self.view_is within c.index_mut.ensures.value c.as_mut_slice.ensures.value in
    let here = subst (λ i. get_or c.args.self.now i [] ≡ c.as_mut_slice.result.now) gateway row in
    let many = c.count_row.ensures.length ∙ ap length c.as_mut_slice.ensures.value in
    let items = with_items_is c.index_mut.result.now c.count_row.new.row (search (rules, many)) in
    let rows = set_row c.self.inside.rows.items c.args.self.now c.entry.inside.gateway (with_items c.index_mut.result.now c.count_row.new.row) c.count_row.new.row c.self.view_is items in
    let numbers = row_set c.args.self.now c.count_row.new.row c.args.earlier.now c.args.entry.now c.requires.gateway (c.count_row.ensures.length ∙ ap length (sym here)) (rw here c.count_row.ensures.numbers) in
    λ at place known. ap (λ t. number_at t at place) (rows ∙ ap (λ i. set c.args.self.now i c.count_row.new.row) gateway) ∙ numbers at place known
