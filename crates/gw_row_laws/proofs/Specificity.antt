-- Listeners that differ in hostname differ in how specific they are, where both take requests for one host.
use Rattle.std.proofs.Common.{◌≡◌, ℕ, ◌+◌, ◌-◌, ◌<◌, Bool, true, false, List, ◌++◌, codes, drop, length, nat_lt, refl, sym, ap, ◌∙◌, arith, suc, Option, Some, None, true≢false}
use Rattle.std.proofs.lemmas.Bool.{and_parts}
use Rattle.std.proofs.lemmas.Map.Lookups.{exact_unsigned}
use Rattle.std.proofs.lemmas.Slice.Eq.{bytes_eq-Decides}
use Rattle.std.specs.Option.{option_map_or}
use Rattle.std.specs.Ordering.{nat_cmp, ordering_then}
use Rattle.std.specs.declared.cmp.Ordering.{Ordering}
use Rattle.std.specs.declared.cmp.Ordering.TheVariants.{Less, Equal, Greater}
use Rattle.gw_match.specs.model.Choice.{hostname_characters, precise_characters, specificity}
use Rattle.gw_row_laws.proofs.Hostnames.{different_hostnames}
use Rattle.gw_row_laws.specs.Listening.{DifferInSpecificity, HaveDifferentHostnames}
use Rattle.gw_row_laws.specs.Tabled.{rows_after}
use Rattle.gw_rows.specs.model.Rows.{ServedListener}
use Rattle.gw_store.specs.declared.event.Entry.{Entry}
use Rattle.gw_text.specs.model.Doors.{Door}
use Rattle.gw_text.specs.model.Hostnames.{Host, covers, is_below, precise_length, same_host, same_hostname, written_length}

abbrev host_of : Bool → List ℕ → Host
host_of wild text = record { wild = wild; text = text }

-- a name has one suffix of a length
suffix_is : (name text : List ℕ) → is_below name text ≡ true → codes "." ++ text ≡ drop (length name - length (codes "." ++ text)) name
suffix_is name text e = (bytes_eq-Decides (codes "." ++ text) (drop (length name - length (codes "." ++ text)) name)).0 e

same_suffix : (name s t : List ℕ) → length s ≡ length t → is_below name s ≡ true → is_below name t ≡ true → s ≡ t
same_suffix name s t len x y =
    let both : codes "." ++ s ≡ codes "." ++ t = suffix_is name s x ∙ ap (λ (n : ℕ). drop (length name - suc n) name) len ∙ sym (suffix_is name t y) in
    cc

-- a hostname that takes requests for a host isn't empty
alone : (host : List ℕ) → 0 < length host → (wild : Bool) (text : List ℕ) → covers (host_of wild text) host ≡ true → written_length (host_of wild text) ≡ 0 → ⊥
alone host some true text x none = omega (arith, none)
alone host some false text x none = omega (arith, some, none, ap length ((bytes_eq-Decides host text).0 x))

same_hosts : (host : List ℕ) → 0 < length host → (v : Bool) (s : List ℕ) (w : Bool) (t : List ℕ) → covers (host_of v s) host ≡ true → covers (host_of w t) host ≡ true
    → precise_length (host_of v s) ≡ precise_length (host_of w t) → written_length (host_of v s) ≡ written_length (host_of w t) → same_host (host_of v s) (host_of w t) ≡ true
same_hosts host some true s true t x y precise written =
    let one = and_parts (nat_lt (length s + 1) (length host)) (is_below host s) x in
    let two = and_parts (nat_lt (length t + 1) (length host)) (is_below host t) y in
    (bytes_eq-Decides s t).1 (same_suffix host s t (omega (arith, written)) one.1 two.1)
same_hosts host some true s false t x y precise written = absurd (omega (arith, some, precise, ap length ((bytes_eq-Decides host t).0 y)))
same_hosts host some false s true t x y precise written = absurd (omega (arith, some, precise, ap length ((bytes_eq-Decides host s).0 x)))
same_hosts host some false s false t x y precise written =
    (bytes_eq-Decides s t).1 (sym ((bytes_eq-Decides host s).0 x) ∙ (bytes_eq-Decides host t).0 y)

same_hostnames : (host : List ℕ) → 0 < length host → (a b : Option Host) → option_map_or (λ h. covers h host) a true ≡ true → option_map_or (λ h. covers h host) b true ≡ true
    → option_map_or precise_length a 0 ≡ option_map_or precise_length b 0 → option_map_or written_length a 0 ≡ option_map_or written_length b 0 → same_hostname a b ≡ true
same_hostnames host some None None x y precise written = refl
same_hostnames host some None (Some b) x y precise written = absurd (alone host some b.wild b.text y (sym written))
same_hostnames host some (Some a) None x y precise written = absurd (alone host some a.wild a.text x written)
same_hostnames host some (Some a) (Some b) x y precise written = same_hosts host some a.wild a.text b.wild b.text x y precise written

then_equal : (o p : Ordering) → ordering_then o p ≡ Equal → (o ≡ Equal) × (p ≡ Equal)
then_equal Less p e = absurd (cc)
then_equal Equal p e = (refl, e)
then_equal Greater p e = absurd (cc)

equal_parts : (a b : ServedListener) → specificity a b ≡ Equal → (precise_characters a ≡ precise_characters b) × (hostname_characters a ≡ hostname_characters b)
equal_parts a b e =
    let parts = then_equal (nat_cmp (precise_characters b) (precise_characters a)) (nat_cmp (hostname_characters b) (hostname_characters a)) e in
    (sym (exact_unsigned (precise_characters b) (precise_characters a) parts.0), sym (exact_unsigned (hostname_characters b) (hostname_characters a) parts.1))

by_hostnames : (listeners : List ServedListener) → HaveDifferentHostnames listeners → DifferInSpecificity listeners
by_hostnames listeners differ host i j a b some apart e f x y equal =
    let parts = equal_parts a b equal in
    true≢false (sym (same_hostnames host some a.hostname b.hostname x y parts.0 parts.1) ∙ differ i j a b apart e f)

pub different_specificity : (doors : List Door) (controller : List ℕ) (changes : List Entry) (door : ℕ)
    → DifferInSpecificity (rows_after doors controller changes door).listeners
different_specificity doors controller changes door =
    by_hostnames (rows_after doors controller changes door).listeners (different_hostnames doors controller changes door)
