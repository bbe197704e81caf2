-- The parts of the index, one behind the other: what stands before a part and behind it, and what a change of it makes of all.
use Rattle.std.proofs.Common.{◌≡◌, ◌∙◌, ◌⊎◌, ℕ, zero, suc, ◌+◌, ◌<◌, ◌≤◌, ◌/◌, ◌^◌, min, Bool, true, false, ◌==◌, nat_lt, Result, Ok, Err, List, [], ◌∷◌, ◌++◌, length, map, take, drop, set, get_or, filter, refl, sym, ap, ap₂, append-nil, inl, inr, arith}
use Rattle.std.specs.List.{AllByRecursion, flat_map}
use Rattle.std.specs.Ordering.{is_lt, is_gt, is_ne, nat_cmp, ordering_then}
use Rattle.std.specs.Result.{OnOk}
use Rattle.std.specs.declared.cmp.Ordering.{Ordering}
use Rattle.std.specs.declared.cmp.Ordering.TheVariants.{Less, Greater}
use Rattle.std.proofs.lemmas.Bool.Decides.{nat_tests}
use Rattle.std.proofs.lemmas.List.{append_assoc, get_or-set_same, length-set, map-set, set-get_or, set-set, take_more_set}
use Rattle.std.proofs.lemmas.List.Elements.{filter-append}
use Rattle.gw_text.specs.model.Names.{key_order}
use Rattle.gw_text.specs.model.Slices.{EndpointSlice}
use Rattle.gw_text.specs.model.World.{slice_key}
use Rattle.gw_store.specs.ByService.{Part, Index, Reindexing, slice_digest, service_order, put_slice, without, of_digest, part_number, part_of, AllOfPart, AreParts, IsParted, IsReindexing, joined, index_of, least_spare, part_at, with_part}
use Rattle.gw_store.proofs.InOrder.{all_append, all_filter, all_weaker}

-- numbers of parts follow the digests
lower_number : (m n : ℕ) → m / 2 ^ 59 < n / 2 ^ 59 → m < n
lower_number m n low = omega (arith, low)

lower_first : (m n : ℕ) (o : Ordering) → m < n → ordering_then (nat_cmp m n) o ≡ Less
lower_first m n o low = grind (arith, nat_tests, low)

higher_first : (m n : ℕ) (o : Ordering) → n < m → ordering_then (nat_cmp m n) o ≡ Greater
higher_first m n o high = grind (arith, nat_tests, high)

lower_slice : (s x : EndpointSlice) → part_of s < part_of x → service_order s x ≡ Less
lower_slice s x low = lower_first (slice_digest s) (slice_digest x) (key_order (slice_key s) (slice_key x)) (lower_number (slice_digest s) (slice_digest x) low)

higher_slice : (s x : EndpointSlice) → part_of x < part_of s → service_order s x ≡ Greater
higher_slice s x high = higher_first (slice_digest s) (slice_digest x) (key_order (slice_key s) (slice_key x)) (lower_number (slice_digest x) (slice_digest s) high)

-- tests that all pass, or none
module _ {X : Type 0} (q : X → Bool) where
  all_kept : (xs : List X) → AllByRecursion (λ x. q x ≡ true) xs → filter q xs ≡ xs
  all_kept [] all = refl
  all_kept (x ∷ xs) all = rw all.0 (ap (λ t. x ∷ t) (all_kept xs all.1))

  none_kept : (xs : List X) → AllByRecursion (λ x. q x ≡ false) xs → filter q xs ≡ []
  none_kept [] all = refl
  none_kept (x ∷ xs) all = rw all.0 (none_kept xs all.1)

number_lt : (m n : ℕ) → m < n → nat_lt m n ≡ true
number_lt m n low = grind (arith, nat_tests, low)

number_ge : (m n : ℕ) → n ≤ m → nat_lt m n ≡ false
number_ge m n high = grind (arith, nat_tests, high)

number_same : (m n : ℕ) → m ≡ n → (m == n) ≡ true
number_same m n same = grind (arith, nat_tests, same)

number_below : (m n : ℕ) → m < n → (m == n) ≡ false
number_below m n low = grind (arith, nat_tests, low)

number_above : (m n : ℕ) → n < m → (m == n) ≡ false
number_above m n high = grind (arith, nat_tests, high)

-- the slices of a part between those of lower numbers and those of higher ones
module _ (number : ℕ) (lo mid hi : List EndpointSlice) (low : AllByRecursion (λ s. part_of s < number) lo) (own : AllOfPart number mid) (high : AllByRecursion (λ s. number < part_of s) hi) where
  abbrev all : List EndpointSlice
  all = lo ++ (mid ++ hi)

  cut : (q : EndpointSlice → Bool) → filter q all ≡ filter q lo ++ (filter q mid ++ filter q hi)
  cut q = filter-append q lo (mid ++ hi) ∙ ap (λ t. filter q lo ++ t) (filter-append q mid hi)

  -- what a test makes of all that fails below and above
  only_mid : (q : EndpointSlice → Bool) → ((s : EndpointSlice) → part_of s < number → q s ≡ false) → ((s : EndpointSlice) → number < part_of s → q s ≡ false) → filter q all ≡ filter q mid
  only_mid q below above =
      cut q
      ∙ (ap₂ (λ a b. a ++ (filter q mid ++ b)) (none_kept q lo (all_weaker _ _ below lo low)) (none_kept q hi (all_weaker _ _ above hi high))
      ∙ append-nil (filter q mid))

  from_lo : (q : EndpointSlice → Bool) → ((s : EndpointSlice) → part_of s < number → q s ≡ true) → ((s : EndpointSlice) → number < part_of s → q s ≡ false) → filter q all ≡ lo ++ filter q mid
  from_lo q below above =
      cut q
      ∙ (ap₂ (λ a b. a ++ (filter q mid ++ b)) (all_kept q lo (all_weaker _ _ below lo low)) (none_kept q hi (all_weaker _ _ above hi high))
      ∙ ap (λ t. lo ++ t) (append-nil (filter q mid)))

  to_hi : (q : EndpointSlice → Bool) → ((s : EndpointSlice) → part_of s < number → q s ≡ false) → ((s : EndpointSlice) → number < part_of s → q s ≡ true) → filter q all ≡ filter q mid ++ hi
  to_hi q below above =
      cut q ∙ ap₂ (λ a b. a ++ (filter q mid ++ b)) (none_kept q lo (all_weaker _ _ below lo low)) (all_kept q hi (all_weaker _ _ above hi high))

  around : (q : EndpointSlice → Bool) → ((s : EndpointSlice) → part_of s < number → q s ≡ true) → ((s : EndpointSlice) → number < part_of s → q s ≡ true) → filter q all ≡ lo ++ (filter q mid ++ hi)
  around q below above =
      cut q ∙ ap₂ (λ a b. a ++ (filter q mid ++ b)) (all_kept q lo (all_weaker _ _ below lo low)) (all_kept q hi (all_weaker _ _ above hi high))

  -- the part, and what stands before it and behind it
  mid_is : filter (λ s. part_of s == number) all ≡ mid
  mid_is =
      only_mid (λ s. part_of s == number) (λ s l. number_below (part_of s) number l) (λ s h. number_above (part_of s) number h)
      ∙ all_kept (λ s. part_of s == number) mid (all_weaker _ _ (λ s e. number_same (part_of s) number e) mid own)

  lo_is : filter (λ s. nat_lt (part_of s) number) all ≡ lo
  lo_is =
      from_lo (λ s. nat_lt (part_of s) number) (λ s l. number_lt (part_of s) number l) (λ s h. number_ge (part_of s) number (omega (arith, h)))
      ∙ (ap (λ t. lo ++ t) (none_kept (λ s. nat_lt (part_of s) number) mid (all_weaker _ _ (λ s e. number_ge (part_of s) number (omega (arith, e))) mid own))
      ∙ append-nil lo)

  hi_is : filter (λ s. nat_lt number (part_of s)) all ≡ hi
  hi_is =
      to_hi (λ s. nat_lt number (part_of s)) (λ s l. number_ge number (part_of s) (omega (arith, l))) (λ s h. number_lt number (part_of s) h)
      ∙ ap (λ t. t ++ hi) (none_kept (λ s. nat_lt number (part_of s)) mid (all_weaker _ _ (λ s e. number_ge number (part_of s) (omega (arith, e))) mid own))

  -- a put, a removal and a look-up concern the part alone
  module _ (x : EndpointSlice) (here : part_of x ≡ number) where
    before : (s : EndpointSlice) → part_of s < number → service_order s x ≡ Less
    before s l = lower_slice s x (rw here l)

    behind : (s : EndpointSlice) → number < part_of s → service_order s x ≡ Greater
    behind s h = higher_slice s x (rw here h)

    put_between : put_slice x all ≡ lo ++ (put_slice x mid ++ hi)
    unfolding put_slice
    put_between =
        let less : EndpointSlice → Bool = λ t. is_lt (service_order t x) in
        let more : EndpointSlice → Bool = λ t. is_gt (service_order t x) in
        ap₂ (λ a b. a ++ x ∷ b) (from_lo less (λ s l. ap is_lt (before s l)) (λ s h. ap is_lt (behind s h))) (to_hi more (λ s l. ap is_gt (before s l)) (λ s h. ap is_gt (behind s h)))
        ∙ (append_assoc lo (filter less mid) (x ∷ (filter more mid ++ hi))
        ∙ ap (λ t. lo ++ t) (sym (append_assoc (filter less mid) (x ∷ filter more mid) hi)))

    without_between : without x all ≡ lo ++ (without x mid ++ hi)
    unfolding without
    without_between = around (λ t. is_ne (service_order t x)) (λ s l. ap is_ne (before s l)) (λ s h. ap is_ne (behind s h))

  digest_between : (digest : ℕ) → part_number digest ≡ number → of_digest digest all ≡ of_digest digest mid
  digest_between digest here =
      only_mid (λ s. slice_digest s == digest)
      (λ s l. number_below (slice_digest s) digest (lower_number (slice_digest s) digest (rw here l)))
      (λ s h. number_above (slice_digest s) digest (lower_number digest (slice_digest s) (rw here h)))

-- the parts before one and those behind it
pub joined_set : (parts : List Part) (i : ℕ) (p : Part) → i < length parts → joined (set parts i p) ≡ joined (take i parts) ++ (p.slices ++ joined (drop (suc i) parts))
joined_set [] i p within = absurd (omega (arith, within))
joined_set (a ∷ parts) zero p within = refl
joined_set (a ∷ parts) (suc i) p within =
    ap (λ t. a.slices ++ t) (joined_set parts i p (omega (arith, within))) ∙ sym (append_assoc a.slices (joined (take i parts)) (p.slices ++ joined (drop (suc i) parts)))

joined_cut : (parts : List Part) (i : ℕ) (d : Part) → i < length parts → joined parts ≡ joined (take i parts) ++ ((get_or parts i d).slices ++ joined (drop (suc i) parts))
joined_cut parts i d within = sym (ap joined (set-get_or parts i d)) ∙ joined_set parts i (get_or parts i d) within

parts_low : (n : ℕ) (parts : List Part) (i : ℕ) → AreParts n parts → AllByRecursion (λ s. part_of s < n + i) (joined (take i parts))
parts_low n parts zero own = tt
parts_low n [] (suc i) own = tt
parts_low n (p ∷ parts) (suc i) own =
    all_append (λ s. part_of s < n + suc i) p.slices (joined (take i parts)) (all_weaker _ _ (λ s e. omega (arith, e)) p.slices own.0)
    (all_weaker _ _ (λ s l. omega (arith, l)) (joined (take i parts)) (parts_low (suc n) parts i own.1))

parts_own : (n : ℕ) (parts : List Part) (i : ℕ) (d : Part) → i < length parts → AreParts n parts → AllOfPart (n + i) (get_or parts i d).slices
parts_own n [] i d within own = absurd (omega (arith, within))
parts_own n (p ∷ parts) zero d within own = all_weaker _ _ (λ s e. omega (arith, e)) p.slices own.0
parts_own n (p ∷ parts) (suc i) d within own =
    all_weaker _ _ (λ s e. omega (arith, e)) (get_or parts i d).slices (parts_own (suc n) parts i d (omega (arith, within)) own.1)

parts_from : (k n : ℕ) (parts : List Part) → k < n → AreParts n parts → AllByRecursion (λ s. k < part_of s) (joined parts)
parts_from k n [] low own = tt
parts_from k n (p ∷ parts) low own =
    all_append (λ s. k < part_of s) p.slices (joined parts) (all_weaker _ _ (λ s e. omega (arith, e, low)) p.slices own.0) (parts_from k (suc n) parts (omega (arith, low)) own.1)

parts_high : (n : ℕ) (parts : List Part) (i : ℕ) → AreParts n parts → AllByRecursion (λ s. n + i < part_of s) (joined (drop (suc i) parts))
parts_high n [] i own = tt
parts_high n (p ∷ parts) zero own = parts_from (n + 0) (suc n) parts (omega arith) own.1
parts_high n (p ∷ parts) (suc i) own = all_weaker _ _ (λ s h. omega (arith, h)) (joined (drop (suc i) parts)) (parts_high (suc n) parts i own.1)

parts_set : (n : ℕ) (parts : List Part) (i : ℕ) (p : Part) → AreParts n parts → AllOfPart (n + i) p.slices → AreParts n (set parts i p)
parts_set n [] i p own all = tt
parts_set n (a ∷ parts) zero p own all = (all_weaker _ _ (λ s e. omega (arith, e)) p.slices all, own.1)
parts_set n (a ∷ parts) (suc i) p own all = (own.0, parts_set (suc n) parts i p own.1 (all_weaker _ _ (λ s e. omega (arith, e)) p.slices all))

from_first : (i : ℕ) → 0 + i ≡ i
from_first i = omega arith

-- a change of one part
pub parted_set : (parts : List Part) (i : ℕ) (p : Part) → IsParted parts → AllOfPart i p.slices → IsParted (set parts i p)
parted_set parts i p parted new = record { count = rw length-set parted.count; own = parts_set 0 parts i p parted.own (rw (from_first i) new) }

pub own_at : (parts : List Part) (i : ℕ) (d : Part) → IsParted parts → i < length parts → AllOfPart i (get_or parts i d).slices
own_at parts i d parted within = rw (from_first i) at (parts_own 0 parts i d within parted.own)

pub put_own_part : (x : EndpointSlice) (i : ℕ) (slices : List EndpointSlice) → part_of x ≡ i → AllOfPart i slices → AllOfPart i (put_slice x slices)
unfolding put_slice
put_own_part x i slices here all =
    let own : EndpointSlice → Type 0 = λ s. part_of s ≡ i in
    all_append own (filter (λ t. is_lt (service_order t x)) slices) (x ∷ filter (λ t. is_gt (service_order t x)) slices) (all_filter own _ slices all) (here, all_filter own _ slices all)

pub without_own_part : (x : EndpointSlice) (i : ℕ) (slices : List EndpointSlice) → AllOfPart i slices → AllOfPart i (without x slices)
unfolding without
without_own_part x i slices all = all_filter (λ s. part_of s ≡ i) _ slices all

spare_there : (parts : List Part) (i : ℕ) (d : Part) → i < length parts → get_or (map (λ part. part.spare) parts) i 0 ≡ (get_or parts i d).spare
spare_there [] i d within = absurd (omega (arith, within))
spare_there (p ∷ parts) zero d within = refl
spare_there (p ∷ parts) (suc i) d within = spare_there parts i d (omega (arith, within))

count_spares : (parts : List Part) → length (map (λ part. part.spare) parts) ≡ length parts
count_spares [] = refl
count_spares (p ∷ parts) = ap suc (count_spares parts)

module _ (parts : List Part) (i : ℕ) (d : Part) (parted : IsParted parts) (within : i < length parts) where
  abbrev lo : List EndpointSlice
  lo = joined (take i parts)

  abbrev mid : List EndpointSlice
  mid = (get_or parts i d).slices

  abbrev hi : List EndpointSlice
  hi = joined (drop (suc i) parts)

  low : AllByRecursion (λ s. part_of s < i) lo
  low = rw (from_first i) at (parts_low 0 parts i parted.own)

  high : AllByRecursion (λ s. i < part_of s) hi
  high = rw (from_first i) at (parts_high 0 parts i parted.own)

  pub put_joined : (x : EndpointSlice) (p : Part) → part_of x ≡ i → p.slices ≡ put_slice x mid → joined (set parts i p) ≡ put_slice x (joined parts)
  put_joined x p here put =
      joined_set parts i p within
      ∙ (ap (λ t. lo ++ (t ++ hi)) put ∙ (sym (put_between i lo mid hi low (own_at parts i d parted within) high x here) ∙ sym (ap (put_slice x) (joined_cut parts i d within))))

  pub without_joined : (x : EndpointSlice) (p : Part) → part_of x ≡ i → p.slices ≡ without x mid → joined (set parts i p) ≡ without x (joined parts)
  without_joined x p here left =
      joined_set parts i p within
      ∙ (ap (λ t. lo ++ (t ++ hi)) left ∙ (sym (without_between i lo mid hi low (own_at parts i d parted within) high x here) ∙ sym (ap (without x) (joined_cut parts i d within))))

  pub digest_joined : (digest : ℕ) → part_number digest ≡ i → of_digest digest mid ≡ of_digest digest (joined parts)
  digest_joined digest here = sym (ap (of_digest digest) (joined_cut parts i d within) ∙ digest_between i lo mid hi low (own_at parts i d parted within) high digest here)

  -- the part stands in the index, and another in its place
  pub part_there : part_at i (index_of parts) ≡ get_or parts i d
  part_there =
      ap₂ (λ (slices : List EndpointSlice) (spare : ℕ). record { slices = slices; spare = spare })
      (ap (filter (λ s. part_of s == i)) (joined_cut parts i d within) ∙ mid_is i lo mid hi low (own_at parts i d parted within) high)
      (spare_there parts i d within)

  pub part_replaced : (p : Part) → index_of (set parts i p) ≡ with_part i p (index_of parts)
  part_replaced p =
      ap₂ (λ (slices : List EndpointSlice) (spares : List ℕ). record { slices = slices; spares = spares })
      (joined_set parts i p within
      ∙ ap₂ (λ (a b : List EndpointSlice). a ++ (p.slices ++ b))
      (sym (ap (filter (λ s. nat_lt (part_of s) i)) (joined_cut parts i d within) ∙ lo_is i lo mid hi low (own_at parts i d parted within) high))
      (sym (ap (filter (λ s. nat_lt i (part_of s))) (joined_cut parts i d within) ∙ hi_is i lo mid hi low (own_at parts i d parted within) high)))
      (map-set (λ (part : Part). part.spare) parts i p)

-- what is kept of a change
pub reindexed : (parts : List Part) (i : ℕ) (d p : Part) (change : Reindexing Part) → IsParted parts → i < length parts → AllOfPart i p.slices → change.before ≡ get_or parts i d → change.after ≡ p
    → IsReindexing i change (index_of parts) (index_of (set parts i p))
reindexed parts i d p change parted within all before after =
    let now = set parts i p in
    let inside : i < length now = rw (length-set parts i p) within in
    let now_parted : IsParted now = parted_set parts i p parted all in
    record {
      within = rw (count_spares now) inside;
      part = part_there now i d now_parted inside ∙ (get_or-set_same parts i p d within ∙ sym after);
      own = rw before (own_at parts i d parted within);
      back = ap index_of (sym (set-set parts i p change.before ∙ (ap (set parts i) before ∙ set-get_or parts i d))) ∙ part_replaced now i d now_parted inside change.before;
    }

pub within_parts : (parts : List Part) (i : ℕ) (change : Reindexing Part) (before : Index) → IsReindexing i change before (index_of parts) → i < length parts
within_parts parts i change before is = rw (count_spares parts) at is.within

-- for how many more there is room
least_at : (spares : List ℕ) (i d : ℕ) → i < length spares → least_spare spares ≤ get_or spares i d
least_at [] i d within = absurd (omega (arith, within))
least_at (n ∷ []) zero d within = omega arith
least_at (n ∷ []) (suc i) d within = absurd (omega (arith, within))
least_at (n ∷ m ∷ spares) zero d within = omega arith
least_at (n ∷ m ∷ spares) (suc i) d within = omega (arith, least_at (m ∷ spares) i d (omega (arith, within)))

pub room_at : (parts : List Part) (i : ℕ) (d : Part) → i < length parts → 0 < least_spare (map (λ part. part.spare) parts) → 0 < (get_or parts i d).spare
room_at parts i d within room =
    omega (arith, room, least_at (map (λ part. part.spare) parts) i 0 (rw (count_spares parts) within), spare_there parts i d within)

pub all_there : (parts : List Part) → IsParted parts → 0 < least_spare (map (λ part. part.spare) parts) → length parts ≡ 32
all_there [] parted room = absurd (omega (arith, room))
all_there (p ∷ parts) parted room =
    elim parted.count [
      | inl none ↦ absurd (omega (arith, none))
      | inr all ↦ all
    ]

least_more : (m k : ℕ) (spares : List ℕ) (i n : ℕ) → least_spare (k ∷ spares) ≤ least_spare (set (k ∷ spares) i n) → min m (least_spare (k ∷ spares)) ≤ least_spare (m ∷ set (k ∷ spares) i n)
least_more m k spares zero n more = omega (arith, more)
least_more m k spares (suc i) n more = omega (arith, more)

least_set : (spares : List ℕ) (i n d : ℕ) → get_or spares i d ≤ n → least_spare spares ≤ least_spare (set spares i n)
least_set [] i n d more = omega arith
least_set (m ∷ []) zero n d more = more
least_set (m ∷ []) (suc i) n d more = omega arith
least_set (m ∷ k ∷ spares) zero n d more = omega (arith, more)
least_set (m ∷ k ∷ []) (suc zero) n d more = omega (arith, more)
least_set (m ∷ k ∷ []) (suc (suc i)) n d more = omega arith
least_set (m ∷ k ∷ j ∷ spares) (suc i) n d more = least_more m k (j ∷ spares) i n (least_set (k ∷ j ∷ spares) i n d more)

pub room_kept : (parts : List Part) (i : ℕ) (d p : Part) → i < length parts → (get_or parts i d).spare ≤ p.spare
    → least_spare (map (λ part. part.spare) parts) ≤ least_spare (map (λ part. part.spare) (set parts i p))
room_kept parts i d p within more =
    rw (map-set (λ (part : Part). part.spare) parts i p) (least_set (map (λ part. part.spare) parts) i p.spare 0 (rw (spare_there parts i d within) more))

pub least_of_all : (parts : List Part) → 0 < length parts → AllByRecursion (λ part. 0 < part.spare) parts → 0 < least_spare (map (λ part. part.spare) parts)
least_of_all [] some all = absurd (omega (arith, some))
least_of_all (p ∷ []) some all = all.0
least_of_all (p ∷ q ∷ parts) some all = omega (arith, all.0, least_of_all (q ∷ parts) (omega arith) all.1)

-- parts without slices
empty_joined : (parts : List Part) → AllByRecursion (λ part. part.slices ≡ []) parts → joined parts ≡ []
empty_joined [] all = refl
empty_joined (p ∷ parts) all = rw all.0 (empty_joined parts all.1)

pub empty_parted : (n : ℕ) (parts : List Part) → AllByRecursion (λ part. part.slices ≡ []) parts → AreParts n parts
empty_parted n [] all = tt
empty_parted n (p ∷ parts) all = (rw all.0 tt, empty_parted (suc n) parts all.1)

-- parts whose slices are the same
flat_slices : (parts : List Part) → flat_map (λ (slices : List EndpointSlice). slices) (map (λ part. part.slices) parts) ≡ joined parts
flat_slices [] = refl
flat_slices (p ∷ parts) = ap (λ t. p.slices ++ t) (flat_slices parts)

abbrev AreLists : ℕ → List (List EndpointSlice) → Type 0
AreLists n [] = Unit {0}
AreLists n (slices ∷ lists) = AllOfPart n slices × AreLists (suc n) lists

lists_of : (n : ℕ) (parts : List Part) → AreParts n parts → AreLists n (map (λ part. part.slices) parts)
lists_of n [] own = tt
lists_of n (p ∷ parts) own = (own.0, lists_of (suc n) parts own.1)

of_lists : (n : ℕ) (parts : List Part) → AreLists n (map (λ part. part.slices) parts) → AreParts n parts
of_lists n [] own = tt
of_lists n (p ∷ parts) own = (own.0, of_lists (suc n) parts own.1)

count_slices : (parts : List Part) → length (map (λ part. part.slices) parts) ≡ length parts
count_slices [] = refl
count_slices (p ∷ parts) = ap suc (count_slices parts)

pub same_count : (before after : List Part) → map (λ part. part.slices) after ≡ map (λ part. part.slices) before → length after ≡ length before
same_count before after same = sym (count_slices after) ∙ (ap length same ∙ count_slices before)

pub same_parted : (before after : List Part) → map (λ part. part.slices) after ≡ map (λ part. part.slices) before → IsParted before → IsParted after
same_parted before after same parted = record {
  count = rw (same_count before after same) parted.count;
  own = of_lists 0 after (rw same (lists_of 0 before parted.own));
}

pub same_joined : (before after : List Part) → map (λ part. part.slices) after ≡ map (λ part. part.slices) before → joined after ≡ joined before
same_joined before after same = sym (flat_slices after) ∙ (ap (flat_map (λ (slices : List EndpointSlice). slices)) same ∙ flat_slices before)

-- the slices stay while a part gets more room
pub slices_kept : (parts : List Part) (i : ℕ) (d p : Part) (lists : List (List EndpointSlice)) → d ≡ get_or parts i d → p.slices ≡ d.slices → map (λ part. part.slices) parts ≡ lists
    → map (λ part. part.slices) (set parts i p) ≡ lists
slices_kept parts i d p lists read same kept =
    map-set (λ (part : Part). part.slices) parts i p
    ∙ (ap (set (map (λ (part : Part). part.slices) parts) i) (same ∙ ap (λ (part : Part). part.slices) read)
    ∙ (sym (map-set (λ (part : Part). part.slices) parts i (get_or parts i d)) ∙ (ap (map (λ (part : Part). part.slices)) (set-get_or parts i d) ∙ kept)))

-- one part more has room
pub room_more : (parts : List Part) (i : ℕ) (p : Part) → i < length parts → 0 < p.spare → AllByRecursion (λ part. 0 < part.spare) (take i parts)
    → AllByRecursion (λ part. 0 < part.spare) (take (i + 1) (set parts i p))
room_more parts i p within room all =
    rw (take_more_set parts i p within) (all_append (λ part. 0 < part.spare) (take i parts) (p ∷ []) all (room, tt))

-- a put in the part that a read gives, and a removal from it
module _ (parts : List Part) (i : ℕ) (d p : Part) (parted : IsParted parts) (within : i < length parts) (read : d ≡ get_or parts i d) where
  own_read : AllOfPart i d.slices
  own_read = rw (← read) at (own_at parts i d parted within)

  pub own_put : (x : EndpointSlice) → part_of x ≡ i → p.slices ≡ put_slice x d.slices → AllOfPart i p.slices
  own_put x here put = rw put (put_own_part x i d.slices here own_read)

  pub own_removal : (x : EndpointSlice) → p.slices ≡ without x d.slices → AllOfPart i p.slices
  own_removal x left = rw left (without_own_part x i d.slices own_read)

  pub read_put : (x : EndpointSlice) → part_of x ≡ i → p.slices ≡ put_slice x d.slices → joined (set parts i p) ≡ put_slice x (joined parts)
  read_put x here put = put_joined parts i d parted within x p here (put ∙ ap (λ (part : Part). put_slice x part.slices) read)

  pub read_removal : (x : EndpointSlice) → part_of x ≡ i → p.slices ≡ without x d.slices → joined (set parts i p) ≡ without x (joined parts)
  read_removal x here left = without_joined parts i d parted within x p here (left ∙ ap (λ (part : Part). without x part.slices) read)

  pub read_change : (change : Reindexing Part) → AllOfPart i p.slices → change.before ≡ d → change.after ≡ p → IsReindexing i change (index_of parts) (index_of (set parts i p))
  read_change change new before after = reindexed parts i d p change parted within new (before ∙ read) after

  pub read_room : d.spare ≤ p.spare → least_spare (map (λ part. part.spare) parts) ≤ least_spare (map (λ part. part.spare) (set parts i p))
  read_room more = room_kept parts i d p within (rw (ap (λ (part : Part). part.spare) read) at more)

pub read_digest : (parts : List Part) (i digest : ℕ) (d : Part) → IsParted parts → i < length parts → d ≡ get_or parts i d → i ≡ part_number digest → of_digest digest d.slices ≡ of_digest digest (joined parts)
read_digest parts i digest d parted within read here = ap (λ (part : Part). of_digest digest part.slices) read ∙ digest_joined parts i d parted within digest (sym here)

-- there is a part for each digest where there is room
pub within_room : (parts : List Part) (i : ℕ) → IsParted parts → 0 < least_spare (map (λ part. part.spare) parts) → i < 32 → i < length parts
within_room parts i parted room low = omega (arith, all_there parts parted room, low)

pub no_parts : (parts : List Part) (i : ℕ) → IsParted parts → length parts ≤ i → i < 32 → parts ≡ []
no_parts [] i parted past low = refl
no_parts (p ∷ parts) i parted past low =
    elim parted.count [
      | inl none ↦ absurd (omega (arith, none))
      | inr all ↦ absurd (omega (arith, all, past, low))
    ]

-- a change undone
pub undone_part : (parts : List Part) (i : ℕ) (d : Part) (change : Reindexing Part) (before : Index) → IsParted parts → d ≡ get_or parts i d → IsReindexing i change before (index_of parts) → d ≡ change.after
undone_part parts i d change before parted read is = read ∙ (sym (part_there parts i d parted (within_parts parts i change before is)) ∙ is.part)

pub undone_parts : (parts : List Part) (i : ℕ) (d p : Part) (change : Reindexing Part) (before : Index) → IsParted parts → IsReindexing i change before (index_of parts) → p ≡ change.before
    → index_of (set parts i p) ≡ before
undone_parts parts i d p change before parted is back =
    part_replaced parts i d parted (within_parts parts i change before is) p ∙ (ap (λ (part : Part). with_part i part (index_of parts)) back ∙ sym is.back)

pub undone_parted : (parts : List Part) (i : ℕ) (p : Part) (change : Reindexing Part) (before : Index) → IsParted parts → IsReindexing i change before (index_of parts) → p ≡ change.before
    → IsParted (set parts i p)
undone_parted parts i p change before parted is back = parted_set parts i p parted (rw back is.own)

-- an index that has its parts
pub record IsBegun (parts : List Part) (slices : List EndpointSlice) : Type 0 where
  pub parted : IsParted parts
  pub same : joined parts ≡ slices
  pub some : 0 < length parts

pub begun_empty : (parts : List Part) (old : List Part) → length parts ≡ 32 → AllByRecursion (λ part. part.slices ≡ []) parts → length old ≡ 0 → IsBegun parts (joined old)
begun_empty parts [] all empty none = record {
  parted = record { count = inr all; own = empty_parted 0 parts empty };
  same = empty_joined parts empty;
  some = omega (arith, all);
}
begun_empty parts (p ∷ old) all empty none = absurd (omega (arith, none))

pub begun_before : (parts : List Part) → IsParted parts → 0 < length parts → IsBegun parts (joined parts)
begun_before parts parted some = record { parted = parted; same = refl; some = some }

pub begun_kept : (before after : List Part) (slices : List EndpointSlice) → IsBegun before slices → map (λ part. part.slices) after ≡ map (λ part. part.slices) before → IsBegun after slices
begun_kept before after slices begun same = record {
  parted = same_parted before after same begun.parted;
  same = same_joined before after same ∙ begun.same;
  some = omega (arith, begun.some, same_count before after same);
}

pub none_counted : (len : ℕ) (parts : List Part) → len ≡ length parts → (len == 0) ≡ true → length parts ≡ 0
none_counted len parts same none = grind (arith, nat_tests, same, none)

pub some_counted : (len : ℕ) (parts : List Part) → len ≡ length parts → (len == 0) ≡ false → 0 < length parts
some_counted len parts same some = grind (arith, nat_tests, same, some)

pub ok_more : {X E P Q : Type 0} (r : Result X E) → (P → Q) → OnOk r P → OnOk r Q
ok_more (Ok x) step fact = step fact
ok_more (Err e) step fact = tt
