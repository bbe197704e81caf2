-- Names that tie are equal.
use Rattle.std.proofs.Common.{◌≡◌, ◌∙◌, ℕ, sym, ap, refl, true, List, Option, Some, None}
use Rattle.std.proofs.lemmas.Cmp.{ranked, tied_itself}
use Rattle.std.proofs.lemmas.Map.Text.{is_eq-slice_cmp}
use Rattle.std.specs.Cmp.Lexicographic.{same_text, slice_cmp}
use Rattle.std.specs.Option.{option_cmp}
use Rattle.std.specs.Ordering.{is_eq, nat_cmp, ordering_then}
use Rattle.std.specs.declared.cmp.Ordering.{Ordering}
use Rattle.std.specs.declared.cmp.Ordering.TheVariants.{Less, Equal, Greater}
use Rattle.gw_text.specs.declared.condition.CondKind.{CondKind}
use Rattle.gw_text.specs.declared.condition.CondKind.TheVariants as kinds
use Rattle.gw_stamp.proofs.Orders.{name_total}
use Rattle.gw_stamp.specs.Names.{AreSameIfEqual, CondName, kind_place, name_order, object_order, owner_place, part_order, same_name}
use Rattle.gw_stamp.specs.declared.name.Owner.{Owner}
use Rattle.gw_stamp.specs.declared.name.Owner.TheVariants as owners
use Rattle.gw_stamp.specs.declared.name.Part.{Part}
use Rattle.gw_stamp.specs.declared.name.Part.TheVariants as parts

both : (o p : Ordering) → ordering_then o p ≡ Equal → (o ≡ Equal) × (p ≡ Equal)
both Less p e = absurd (less e)
  where
    less : Less ≡ Equal → ⊥
    less e = cc
both Equal p e = (refl, e)
both Greater p e = absurd (greater e)
  where
    greater : Greater ≡ Equal → ⊥
    greater e = cc

equal_is : (o : Ordering) → is_eq o ≡ true → o ≡ Equal
equal_is Less e = cc
equal_is Equal e = refl
equal_is Greater e = cc

numbers : (x y : ℕ) → nat_cmp x y ≡ Equal → x ≡ y
numbers x y e = ranked x y Equal (sym e)

texts : (x y : List ℕ) → slice_cmp nat_cmp x y ≡ Equal → x ≡ y
texts x y e = same_text x y (sym (sym (is_eq-slice_cmp x y) ∙ ap is_eq e))

given_texts : (x y : Option (List ℕ)) → option_cmp (slice_cmp nat_cmp) x y ≡ Equal → x ≡ y
given_texts None None e = refl
given_texts None (Some y) e = cc
given_texts (Some x) None e = cc
given_texts (Some x) (Some y) e = ap Some (texts x y e)

given_numbers : (x y : Option ℕ) → option_cmp nat_cmp x y ≡ Equal → x ≡ y
given_numbers None None e = refl
given_numbers None (Some y) e = cc
given_numbers (Some x) None e = cc
given_numbers (Some x) (Some y) e = ap Some (numbers x y e)

same_owner : (a b : Owner) → nat_cmp (owner_place a) (owner_place b) ≡ Equal → a ≡ b
same_owner owners.Class owners.Class e = refl
same_owner owners.Class owners.Gateway e = cc
same_owner owners.Class owners.Route e = cc
same_owner owners.Gateway owners.Class e = cc
same_owner owners.Gateway owners.Gateway e = refl
same_owner owners.Gateway owners.Route e = cc
same_owner owners.Route owners.Class e = cc
same_owner owners.Route owners.Gateway e = cc
same_owner owners.Route owners.Route e = refl

same_kind : (a b : CondKind) → nat_cmp (kind_place a) (kind_place b) ≡ Equal → a ≡ b
same_kind kinds.Accepted kinds.Accepted e = refl
same_kind kinds.Accepted kinds.Conflicted e = cc
same_kind kinds.Accepted kinds.Programmed e = cc
same_kind kinds.Accepted kinds.ResolvedRefs e = cc
same_kind kinds.Conflicted kinds.Accepted e = cc
same_kind kinds.Conflicted kinds.Conflicted e = refl
same_kind kinds.Conflicted kinds.Programmed e = cc
same_kind kinds.Conflicted kinds.ResolvedRefs e = cc
same_kind kinds.Programmed kinds.Accepted e = cc
same_kind kinds.Programmed kinds.Conflicted e = cc
same_kind kinds.Programmed kinds.Programmed e = refl
same_kind kinds.Programmed kinds.ResolvedRefs e = cc
same_kind kinds.ResolvedRefs kinds.Accepted e = cc
same_kind kinds.ResolvedRefs kinds.Conflicted e = cc
same_kind kinds.ResolvedRefs kinds.Programmed e = cc
same_kind kinds.ResolvedRefs kinds.ResolvedRefs e = refl

same_part : (a b : Part) → part_order a b ≡ Equal → a ≡ b
same_part parts.Whole parts.Whole e = refl
same_part parts.Whole (parts.Listener m) e = cc
same_part parts.Whole (parts.Parent m n s p k) e = cc
same_part (parts.Listener n) parts.Whole e = cc
same_part (parts.Listener n) (parts.Listener m) e = ap parts.Listener (texts n m (both (slice_cmp nat_cmp n m) Equal e).0)
same_part (parts.Listener l) (parts.Parent m n s p k) e = cc
same_part (parts.Parent m n s p k) parts.Whole e = cc
same_part (parts.Parent m n s p k) (parts.Listener l) e = cc
same_part (parts.Parent m n s p k) (parts.Parent m' n' s' p' k') e =
    let fifth = nat_cmp k k' in
    let fourth = ordering_then (option_cmp nat_cmp p p') fifth in
    let third = ordering_then (option_cmp (slice_cmp nat_cmp) s s') fourth in
    let second = ordering_then (slice_cmp nat_cmp n n') third in
    let one = both (slice_cmp nat_cmp m m') second e in
    let two = both (slice_cmp nat_cmp n n') third one.1 in
    let three = both (option_cmp (slice_cmp nat_cmp) s s') fourth two.1 in
    let four = both (option_cmp nat_cmp p p') fifth three.1 in
    λ i. parts.Parent (texts m m' one.0 i) (texts n n' two.0 i) (given_texts s s' three.0 i) (given_numbers p p' four.0 i) (numbers k k' four.1 i)

equal_from_tie : (a b : CondName) → name_order a b ≡ Equal → a ≡ b
unfolding name_order
equal_from_tie a b e =
    let within = ordering_then (part_order a.part b.part) (nat_cmp (kind_place a.kind) (kind_place b.kind)) in
    let names = slice_cmp nat_cmp a.key.name b.key.name in
    let keys = ordering_then (slice_cmp nat_cmp a.key.namespace b.key.namespace) names in
    let one = both (object_order a b) within e in
    let two = both (part_order a.part b.part) (nat_cmp (kind_place a.kind) (kind_place b.kind)) one.1 in
    let three = both (nat_cmp (owner_place a.owner) (owner_place b.owner)) keys one.0 in
    let four = both (slice_cmp nat_cmp a.key.namespace b.key.namespace) names three.1 in
    λ i. record {
      owner = same_owner a.owner b.owner three.0 i;
      key = record { namespace = texts a.key.namespace b.key.namespace four.0 i; name = texts a.key.name b.key.name four.1 i };
      kind = same_kind a.kind b.kind two.1 i;
      part = same_part a.part b.part two.0 i;
    }

pub same_if_equal : AreSameIfEqual
same_if_equal a b = (
  λ same. equal_from_tie a b (equal_is (name_order a b) same),
  λ equal. ap (λ (n : CondName). same_name a n) (sym equal) ∙ ap is_eq (tied_itself name_total a),
)
