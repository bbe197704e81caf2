-- The orders of names and of edges are total, and those alone tie that are the same.
use Rattle.std.proofs.Common.{◌≡◌, ◌∙◌, ◌&&◌, refl, ap₂}
use Rattle.std.specs.Cmp.{IsTotalOrder}
use Rattle.std.specs.Cmp.Lexicographic.{slice_cmp}
use Rattle.std.specs.Ordering.{is_eq, nat_cmp, ordering_then}
use Rattle.std.specs.declared.cmp.Ordering.{Ordering}
use Rattle.std.specs.declared.cmp.Ordering.TheVariants.{Less, Equal, Greater}
use Rattle.std.proofs.lemmas.Cmp.{nat_list_cmp_total, on_total, then_total}
use Rattle.std.proofs.lemmas.Map.Text.{is_eq-slice_cmp}
use Rattle.gw_text.specs.model.Names.{Key, same_key}
use Rattle.gw_deps.specs.Edges.{Edge, name_order, edge_order, same_edge}

pub name_total : IsTotalOrder name_order
name_total = then_total (on_total (λ (k : Key). k.namespace) nat_list_cmp_total) (on_total (λ (k : Key). k.name) nat_list_cmp_total)

pub edge_total : IsTotalOrder edge_order
edge_total = then_total (on_total (λ (e : Edge). e.subject) name_total) (on_total (λ (e : Edge). e.dependant) name_total)

-- one order and then another tie where both do
both_tie : (a b : Ordering) → is_eq (ordering_then a b) ≡ (is_eq a && is_eq b)
both_tie Less b = refl
both_tie Equal b = refl
both_tie Greater b = refl

pub name_ties : (x y : Key) → is_eq (name_order x y) ≡ same_key x y
name_ties x y =
    both_tie (slice_cmp nat_cmp x.namespace y.namespace) (slice_cmp nat_cmp x.name y.name)
    ∙ ap₂ (λ a b. a && b) (is_eq-slice_cmp x.namespace y.namespace) (is_eq-slice_cmp x.name y.name)

pub edge_ties : (x y : Edge) → is_eq (edge_order x y) ≡ same_edge x y
edge_ties x y =
    both_tie (name_order x.subject y.subject) (name_order x.dependant y.dependant)
    ∙ ap₂ (λ a b. a && b) (name_ties x.subject y.subject) (name_ties x.dependant y.dependant)
