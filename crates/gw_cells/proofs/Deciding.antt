-- What decides between two rows: the hostname, then whether the path is exact, then its length.
use Rattle.std.proofs.Common.{◌≡◌, ◌∙◌, refl, sym, ap, ℕ, ◌<◌, List, [], ◌∷◌, drop, length, true, false, fold, lt-ltb}
use Rattle.std.proofs.lemmas.Cmp.{nat_cmp_total, tied_itself}
use Rattle.std.specs.Ordering.{nat_cmp, then_cmp}
use Rattle.std.specs.declared.cmp.Ordering.{Ordering}
use Rattle.std.specs.declared.cmp.Ordering.TheVariants.{Less, Equal}
use Rattle.gw_rows.specs.model.Precedence.{having, hostname_characters, is_exact_type, most, parts, precedence, precise_characters}
use Rattle.gw_rows.specs.model.Rows.{Row}

pub nat_less : (m n : ℕ) → m < n → nat_cmp m n ≡ Less
nat_less m n h = rw (lt-ltb m n h) refl

pub nat_tied : (m n : ℕ) → m ≡ n → nat_cmp m n ≡ Equal
nat_tied m n same = ap (nat_cmp m) (sym same) ∙ tied_itself nat_cmp_total m

-- What is decided stays so, whatever parts come behind.
stays_less : (more : List (Row → Row → Ordering)) (order : Row → Row → Ordering) (a b : Row) → order a b ≡ Less → fold then_cmp order more a b ≡ Less
stays_less [] order a b less = less
stays_less (part ∷ more) order a b less =
    let here : then_cmp order part a b ≡ Less = rw less refl in
    stays_less more (then_cmp order part) a b here

abbrev none : Row → Row → Ordering
none a b = Equal

-- More characters of a precise hostname.
pub by_precise : (a b : Row) → precise_characters b < precise_characters a → precedence a b ≡ Less
unfolding precedence
by_precise a b more =
    let here : then_cmp none (most precise_characters) a b ≡ Less = nat_less (precise_characters b) (precise_characters a) more in
    stays_less (drop 1 parts) (then_cmp none (most precise_characters)) a b here

-- As many, and more characters of the hostname.
pub by_hostname : (a b : Row) → precise_characters b ≡ precise_characters a → hostname_characters b < hostname_characters a → precedence a b ≡ Less
unfolding precedence
by_hostname a b precise more =
    let one : then_cmp none (most precise_characters) a b ≡ Equal = nat_tied (precise_characters b) (precise_characters a) precise in
    let here : then_cmp (then_cmp none (most precise_characters)) (most hostname_characters) a b ≡ Less =
    rw one (nat_less (hostname_characters b) (hostname_characters a) more) in
    stays_less (drop 2 parts) (then_cmp (then_cmp none (most precise_characters)) (most hostname_characters)) a b here

-- The hostnames decide nothing.
pub record AreTied (a b : Row) : Type 0 where
  pub precise : precise_characters b ≡ precise_characters a
  pub written : hostname_characters b ≡ hostname_characters a

abbrev by_names : Row → Row → Ordering
by_names = then_cmp (then_cmp none (most precise_characters)) (most hostname_characters)

names_tied : (a b : Row) → AreTied a b → by_names a b ≡ Equal
names_tied a b tied =
    let one : then_cmp none (most precise_characters) a b ≡ Equal = nat_tied (precise_characters b) (precise_characters a) tied.precise in
    rw one (nat_tied (hostname_characters b) (hostname_characters a) tied.written)

abbrev by_sort : Row → Row → Ordering
by_sort = having (λ r. is_exact_type r.test.path.sort)

-- An exact path stands before a prefix.
pub by_exact : (a b : Row) → AreTied a b → is_exact_type a.test.path.sort ≡ true → is_exact_type b.test.path.sort ≡ false → precedence a b ≡ Less
unfolding precedence
by_exact a b tied exact prefix =
    let here : then_cmp by_names by_sort a b ≡ Less = rw (names_tied a b tied, exact, prefix) refl in
    stays_less (drop 3 parts) (then_cmp by_names by_sort) a b here

-- A longer path stands before a shorter one.
pub by_length : (a b : Row) → AreTied a b → is_exact_type a.test.path.sort ≡ false → is_exact_type b.test.path.sort ≡ false
    → length b.test.path.value < length a.test.path.value → precedence a b ≡ Less
unfolding precedence
by_length a b tied prefix other more =
    let sorts : then_cmp by_names by_sort a b ≡ Equal = rw (names_tied a b tied, prefix, other) refl in
    let here : then_cmp (then_cmp by_names by_sort) (most (λ r. length r.test.path.value)) a b ≡ Less =
    rw sorts (nat_less (length b.test.path.value) (length a.test.path.value) more) in
    stays_less (drop 4 parts) (then_cmp (then_cmp by_names by_sort) (most (λ r. length r.test.path.value))) a b here
