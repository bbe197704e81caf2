-- Places of names among entries, and what entries say once one was put, inserted or removed.
use Rattle.std.proofs.Common.{◌≡◌, ◌∙◌, ℕ, ℤ, suc, ◌+◌, ◌<◌, ◌≤◌, arith, refl, sym, ap, ◌⊎◌, inl, inr, Bool, true, false, cond, Option, Some, None, option_map, Ok, Err, List, ◌∷◌, ◌++◌, length, find, take, drop, set, get_or}
use Rattle.std.proofs.Math.Path.{fun_ext}
use Rattle.std.proofs.lemmas.Bool.{cases_Bool, cases_eq}
use Rattle.std.proofs.lemmas.List.{get_or_default}
use Rattle.std.proofs.lemmas.List.Kept.{IsStrictlySortedBy-filter}
use Rattle.std.proofs.lemmas.Map.Keys.{Less-from_sorted}
use Rattle.std.proofs.lemmas.Cmp.{on_total, tied_itself}
use Rattle.std.specs.Bool.{beq}
use Rattle.std.specs.Cmp.{IsTotalOrder}
use Rattle.std.specs.List.{AllWithin, insert, remove as remove_at}
use Rattle.std.specs.Option.{option_map_or}
use Rattle.std.specs.Prelude.{pos}
use Rattle.std.specs.Ordering.{is_eq, is_ne, ordering_reverse}
use Rattle.std.specs.declared.cmp.Ordering.{Ordering}
use Rattle.std.specs.declared.cmp.Ordering.TheVariants.{Less, Equal, Greater}
use Rattle.gw_store.proofs.InOrder.{StandsAt, IsMissingAt, found, ordered_put, put_missing, put_standing, remove_standing}
use Rattle.gw_stamp.proofs.Finding.{find_insert, find_missing, find_remove, find_set, find_standing, placed}
use Rattle.gw_stamp.specs.Entries.{IsInOrder, entry_of, entry_order, stamp_at, stamp_of}
use Rattle.gw_stamp.specs.Names.{CondName, name_order, same_name}
use Rattle.gw_stamp.proofs.Orders.{name_total}
use Rattle.gw_stamp.specs.Stamping.{Stamp, time_in, time_of, with_one, without_name}
use Rattle.gw_stamp.specs.declared.entry.Entry.{Entry}

pub entry_total : IsTotalOrder entry_order
entry_total = on_total (λ (e : Entry). e.name) name_total

-- ---- looking for a place

module _ (name : CondName) (entries : List Entry) (sorted : IsInOrder entries) where
  -- what stands before one that is below is below too
  pub below_more : (i : ℕ) (y : Entry) → i < length entries → y ≡ get_or entries i y → name_order y.name name ≡ Less
      → AllWithin (λ x. name_order x.name name ≡ Less) entries 0 (i + 1)
  below_more i y within at less k d low high = by (cases_eq k i)
    where
      here : get_or entries i d ≡ y
      here = get_or_default entries i d y within ∙ sym at

      by : (k ≡ i) ⊎ (k ≡ i → ⊥) → name_order (get_or entries k d).name name ≡ Less
      by (inl same) = ap (λ (n : ℕ). name_order (get_or entries n d).name name) same ∙ ap (λ (z : Entry). name_order z.name name) here ∙ less
      by (inr apart) =
          let before : entry_order (get_or entries k d) y ≡ Less = ap (entry_order (get_or entries k d)) (sym here) ∙ Less-from_sorted entry_order entries k i d sorted (omega arith) within in
          name_total.trans (get_or entries k d).name y.name name before less

  -- what stands behind one that is above is above too
  pub above_more : (i : ℕ) (y : Entry) → i < length entries → y ≡ get_or entries i y → name_order y.name name ≡ Greater
      → AllWithin (λ x. name_order x.name name ≡ Greater) entries i (length entries)
  above_more i y within at greater k d low high = by (cases_eq k i)
    where
      here : get_or entries i d ≡ y
      here = get_or_default entries i d y within ∙ sym at

      turned : (a b : CondName) (o : Ordering) → name_order a b ≡ o → name_order b a ≡ ordering_reverse o
      turned a b o is = name_total.antisymm b a ∙ ap ordering_reverse is

      by : (k ≡ i) ⊎ (k ≡ i → ⊥) → name_order (get_or entries k d).name name ≡ Greater
      by (inl same) = ap (λ (n : ℕ). name_order (get_or entries n d).name name) same ∙ ap (λ (z : Entry). name_order z.name name) here ∙ greater
      by (inr apart) =
          let behind : name_order y.name (get_or entries k d).name ≡ Less =
          ap (λ (z : Entry). entry_order z (get_or entries k d)) (sym here) ∙ Less-from_sorted entry_order entries i k d sorted (omega arith) high in
          turned name (get_or entries k d).name Less (name_total.trans name y.name (get_or entries k d).name (turned y.name name Greater greater) behind)

  pub standing : (i : ℕ) (y : Entry) → i < length entries → y ≡ get_or entries i y → name_order y.name name ≡ Equal → StandsAt entry_order (entry_of name) entries i
  standing i y within at equal =
      found entry_order entry_total (entry_of name) entries (Ok i) sorted within
      (λ d. ap (λ (z : Entry). name_order z.name name) (get_or_default entries i d y within ∙ sym at) ∙ equal)

  pub missing : (i : ℕ) → i ≤ length entries → AllWithin (λ x. name_order x.name name ≡ Less) entries 0 i
      → AllWithin (λ x. name_order x.name name ≡ Greater) entries i (length entries) → IsMissingAt entry_order (entry_of name) entries i
  missing i within lower higher = found entry_order entry_total (entry_of name) entries (Err i) sorted within (λ _. (lower, higher))

-- ---- what entries say

pub stamp_standing : (name : CondName) (entries : List Entry) (i : ℕ) (d : Entry) → StandsAt entry_order (entry_of name) entries i → stamp_at entries name ≡ Some (stamp_of (get_or entries i d))
stamp_standing name entries i d stands = ap (option_map stamp_of) (find_standing entry_order entry_total (entry_of name) (entry_of name) entries i d stands (ap is_eq (tied_itself name_total name)))

pub stamp_missing : (name : CondName) (entries : List Entry) (i : ℕ) → IsMissingAt entry_order (entry_of name) entries i → stamp_at entries name ≡ None
stamp_missing name entries i gap = ap (option_map stamp_of) (find_missing entry_order entry_total (entry_of name) (entry_of name) entries i gap (ap is_eq (tied_itself name_total name)))

-- a removal
pub removed : (name : CondName) (entries : List Entry) (i : ℕ) → StandsAt entry_order (entry_of name) entries i → stamp_at (remove_at entries i) ≡ without_name name (stamp_at entries)
removed name entries i stands = fun_ext λ c.
    ap (option_map stamp_of) (find_remove entry_order entry_total (entry_of c) (entry_of name) entries i stands) ∙ mapped (same_name name c) (find (λ e. same_name e.name c) entries)
  where
    mapped : (b : Bool) (o : Option Entry) → option_map stamp_of (cond b None o) ≡ cond b None (option_map stamp_of o)
    mapped true o = refl
    mapped false o = refl

pub removed_in_order : (name : CondName) (entries : List Entry) (i : ℕ) → IsInOrder entries → StandsAt entry_order (entry_of name) entries i → IsInOrder (remove_at entries i)
removed_in_order name entries i sorted stands =
    rw (remove_standing entry_order (entry_of name) entries i stands) (IsStrictlySortedBy-filter entry_order (λ x. is_ne (entry_order x (entry_of name))) entries sorted)

pub nothing_removed : (name : CondName) (entries : List Entry) (i : ℕ) → IsMissingAt entry_order (entry_of name) entries i → stamp_at entries ≡ without_name name (stamp_at entries)
nothing_removed name entries i gap = fun_ext λ c. elim (cases_Bool (same_name name c)) [
  | inl same ↦ rw same (ap (option_map stamp_of) (find_missing entry_order entry_total (entry_of c) (entry_of name) entries i gap same))
  | inr other ↦ rw other refl
]

-- a condition that has its status already
pub kept : (name : CondName) (truth : Bool) (at : ℤ) (entries : List Entry) (i : ℕ) (y : Entry) → StandsAt entry_order (entry_of name) entries i → y ≡ get_or entries i y → beq y.truth truth ≡ true
    → stamp_at entries ≡ with_one at name truth (stamp_at entries)
kept name truth at entries i y stands is has = fun_ext λ c. elim (cases_Bool (same_name name c)) [
  | inl same ↦
      let here : stamp_at entries c ≡ Some (stamp_of y) =
      ap (option_map stamp_of) (find_standing entry_order entry_total (entry_of c) (entry_of name) entries i y stands same ∙ ap Some (sym is)) in
      rw (same, here, has) refl
  | inr other ↦ rw other refl
]

mapped_one : (b : Bool) (s : Entry) (o : Option Entry) → option_map stamp_of (cond b (Some s) o) ≡ cond b (Some (stamp_of s)) (option_map stamp_of o)
mapped_one true s o = refl
mapped_one false s o = refl

-- a condition that had another status
pub turned_to : (name : CondName) (truth : Bool) (at : ℤ) (entries : List Entry) (i : ℕ) (y : Entry) → StandsAt entry_order (entry_of name) entries i → y ≡ get_or entries i y → beq y.truth truth ≡ false
    → stamp_at (set entries i (record { name = name; truth = truth; since = at })) ≡ with_one at name truth (stamp_at entries)
turned_to name truth at entries i y stands is has = fun_ext λ c.
    let e : Entry = record { name = name; truth = truth; since = at } in
    ap (option_map stamp_of) (find_set entry_order entry_total (entry_of c) e entries i stands)
    ∙ mapped_one (same_name name c) e (find (λ e. same_name e.name c) entries)
    ∙ elim (cases_Bool (same_name name c)) as (λ _. cond (same_name name c) (Some (stamp_of e)) (stamp_at entries c) ≡ with_one at name truth (stamp_at entries) c) [
      | inl same ↦
          let here : stamp_at entries c ≡ Some (stamp_of y) =
          ap (option_map stamp_of) (find_standing entry_order entry_total (entry_of c) (entry_of name) entries i y stands same ∙ ap Some (sym is)) in
          rw (same, here, has) refl
      | inr other ↦ rw other refl
    ]

-- a condition that wasn't there
pub come : (name : CondName) (truth : Bool) (at : ℤ) (entries : List Entry) (i : ℕ) → IsMissingAt entry_order (entry_of name) entries i
    → stamp_at (insert entries i (record { name = name; truth = truth; since = at })) ≡ with_one at name truth (stamp_at entries)
come name truth at entries i gap = fun_ext λ c.
    let e : Entry = record { name = name; truth = truth; since = at } in
    ap (option_map stamp_of) (find_insert entry_order entry_total (entry_of c) e entries i gap)
    ∙ mapped_one (same_name name c) e (find (λ e. same_name e.name c) entries)
    ∙ elim (cases_Bool (same_name name c)) as (λ _. cond (same_name name c) (Some (stamp_of e)) (stamp_at entries c) ≡ with_one at name truth (stamp_at entries) c) [
      | inl same ↦
          let here : stamp_at entries c ≡ None =
          ap (option_map stamp_of) (find_missing entry_order entry_total (entry_of c) (entry_of name) entries i gap same) in
          rw (same, here) refl
      | inr other ↦ rw other refl
    ]

pub put_in_order : (e : Entry) (entries : List Entry) (i : ℕ) → IsInOrder entries → StandsAt entry_order e entries i → IsInOrder (set entries i e)
put_in_order e entries i sorted stands = rw (put_standing entry_order e entries i stands) (ordered_put entry_order entry_total e entries sorted)

pub come_in_order : (e : Entry) (entries : List Entry) (i : ℕ) → IsInOrder entries → IsMissingAt entry_order e entries i → IsInOrder (insert entries i e)
come_in_order e entries i sorted gap = rw (put_missing entry_order e entries i gap) (ordered_put entry_order entry_total e entries sorted)

-- ---- as the code says it

pub is_removed : (entries new : List Entry) (i j : ℕ) → j ≡ suc i → new ≡ take i entries ++ drop j entries → new ≡ remove_at entries i
is_removed entries new i j next is = is ∙ ap (λ (n : ℕ). take i entries ++ drop n entries) next

pub is_placed : (entries new : List Entry) (i j : ℕ) (x e : Entry) → j ≡ suc i → i < length entries → x ≡ e → new ≡ take i entries ++ x ∷ drop j entries → new ≡ set entries i e
is_placed entries new i j x e next within same is =
    is
    ∙ ap (λ (n : ℕ). take i entries ++ x ∷ drop n entries) next
    ∙ ap (λ (y : Entry). take i entries ++ y ∷ drop (suc i) entries) same
    ∙ placed entries i e within

pub is_inserted : (entries new : List Entry) (i : ℕ) (x e : Entry) → x ≡ e → new ≡ take i entries ++ x ∷ drop i entries → new ≡ insert entries i e
is_inserted entries new i x e same is = is ∙ ap (λ (y : Entry). take i entries ++ y ∷ drop i entries) same

stamp_here : (name : CondName) (entries : List Entry) (i : ℕ) (y : Entry) → StandsAt entry_order (entry_of name) entries i → y ≡ get_or entries i y → stamp_at entries name ≡ Some (stamp_of y)
stamp_here name entries i y stands is = stamp_standing name entries i y stands ∙ ap (λ (e : Entry). Some (stamp_of e)) (sym is)

pub time_standing : (name : CondName) (entries : List Entry) (i : ℕ) (y : Entry) → StandsAt entry_order (entry_of name) entries i → y ≡ get_or entries i y → Some y.since ≡ time_of (stamp_at entries) name
time_standing name entries i y stands is = sym (ap (option_map (λ (s : Stamp). s.since)) (stamp_here name entries i y stands is))

pub time_missing : (name : CondName) (entries : List Entry) (i : ℕ) → IsMissingAt entry_order (entry_of name) entries i → None ≡ time_of (stamp_at entries) name
time_missing name entries i gap = sym (ap (option_map (λ (s : Stamp). s.since)) (stamp_missing name entries i gap))

pub time_in_standing : (name : CondName) (entries : List Entry) (i : ℕ) (y : Entry) → StandsAt entry_order (entry_of name) entries i → y ≡ get_or entries i y → y.since ≡ time_in (stamp_at entries) name
time_in_standing name entries i y stands is = sym (ap (λ (o : Option Stamp). option_map_or (λ s. s.since) o (pos 0)) (stamp_here name entries i y stands is))

pub time_in_missing : (name : CondName) (entries : List Entry) (i : ℕ) → IsMissingAt entry_order (entry_of name) entries i → pos 0 ≡ time_in (stamp_at entries) name
time_in_missing name entries i gap = sym (ap (λ (o : Option Stamp). option_map_or (λ s. s.since) o (pos 0)) (stamp_missing name entries i gap))

pub beq_same : (a b : Bool) → a ≡ b → beq a b ≡ true
beq_same true true e = refl
beq_same true false e = cc
beq_same false true e = cc
beq_same false false e = refl

pub beq_other : (a b : Bool) → (a ≡ b → ⊥) → beq a b ≡ false
beq_other true true e = absurd (e refl)
beq_other true false e = refl
beq_other false true e = refl
beq_other false false e = absurd (e refl)
