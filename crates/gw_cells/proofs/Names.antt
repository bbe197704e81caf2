-- The rows that fit a host stand under the names that are probed for it, and those under a longer name stand before the others.
use Rattle.std.proofs.Common.{◌≡◌, ◌∙◌, refl, sym, ap, ℕ, ◌+◌, ◌<◌, ◌≤◌, arith, Bool, true, false, cond, ◌||◌, ◌==◌, nat_eq, eqb-true, eq-eqb, ne_eqb, List, [], ◌∷◌, ◌++◌, length, true≢false, Option, Some, None, bytes_eq, ltb-true, MatchBool}
use Rattle.std.proofs.lemmas.Slice.Eq.{bytes_eq-Decides}
use Rattle.std.specs.Cmp.{first_so, second_so}
use Rattle.std.specs.List.{list_any}
use Rattle.std.specs.Option.{option_map_or}
use Rattle.std.specs.declared.cmp.Ordering.TheVariants.{Less}
use Rattle.gw_frames.specs.model.Requests.{Request}
use Rattle.gw_host.proofs.CommonNames.{LiesBelow, is_below-Decides}
use Rattle.gw_rows.specs.model.Fitting.{fits, hostname_fits}
use Rattle.gw_rows.specs.model.Precedence.{hostname_characters, precedence, precise_characters}
use Rattle.gw_rows.specs.model.Rows.{Row}
use Rattle.gw_text.specs.model.Hostnames.{Host, covers, is_below, precise_length, written_length}
use Rattle.gw_cells.proofs.FirstCell.{or-true}
use Rattle.gw_cells.proofs.Deciding.{AreTied, by_hostname, by_precise}
use Rattle.gw_cells.specs.model.Addresses.{DOT, name_of}
use Rattle.gw_cells.specs.model.Probes.{names_above, names_for}

-- The name is one of these.
abbrev pub is_in : List (List ℕ) → List ℕ → Bool
is_in names name = list_any (λ k. bytes_eq k name) names

-- The characters of a precise hostname of so many bytes, for a host of so many.
abbrev precise_rank : ℕ → ℕ → ℕ
precise_rank host name = cond (nat_eq name host) host 0

-- The characters of a hostname of so many bytes, for a host of so many.
abbrev written_rank : ℕ → ℕ → ℕ
written_rank host name = cond (nat_eq name host) host (cond (nat_eq name 0) 0 (name + 1))

-- The characters of a hostname that covers a host are told by the length of its name.
record IsRanked (o : Option Host) (host : List ℕ) : Type 0 where
  precise : option_map_or precise_length o 0 ≡ precise_rank (length host) (length (name_of o))
  written : option_map_or written_length o 0 ≡ written_rank (length host) (length (name_of o))
  within : length (name_of o) ≤ length host

none_precise : (h : ℕ) → 0 ≡ precise_rank h 0
none_precise h = by (nat_eq 0 h) refl
  where
    by : (b : Bool) → nat_eq 0 h ≡ b → 0 ≡ precise_rank h 0
    by true e = rw e (eqb-true 0 h e)
    by false e = rw e refl

none_written : (h : ℕ) → 0 ≡ written_rank h 0
none_written h = by (nat_eq 0 h) refl
  where
    by : (b : Bool) → nat_eq 0 h ≡ b → 0 ≡ written_rank h 0
    by true e = rw e (eqb-true 0 h e)
    by false e = rw e refl

precise_ranked : (host : List ℕ) (h : Host) → h.wild ≡ false → covers h host ≡ true → IsRanked (Some h) host
precise_ranked host h wild covered =
    let same : host ≡ h.text = (bytes_eq-Decides host h.text).0 (rw wild at covered) in
    let name : name_of (Some h) ≡ h.text = rw wild refl in
    let equal : length (name_of (Some h)) ≡ length host = ap length (name ∙ sym same) in
    let tested : nat_eq (length (name_of (Some h))) (length host) ≡ true = eq-eqb (length (name_of (Some h))) (length host) equal in
    let own : precise_length h ≡ length host = rw wild (ap length (sym same)) in
    let whole : written_length h ≡ length host = rw wild (ap length (sym same)) in
    record {
      precise = own ∙ ap (λ (b : Bool). cond b (length host) 0) (sym tested);
      written = whole ∙ ap (λ (b : Bool). cond b (length host) (cond (nat_eq (length (name_of (Some h))) 0) 0 (length (name_of (Some h)) + 1))) (sym tested);
      within = omega arith;
    }

wild_ranked : (host : List ℕ) (h : Host) → h.wild ≡ true → covers h host ≡ true → IsRanked (Some h) host
wild_ranked host h wild covered =
    let parts = rw wild at covered in
    let longer : length h.text + 1 < length host = ltb-true (length h.text + 1) (length host) (first_so _ (is_below host h.text) parts) in
    let name : name_of (Some h) ≡ DOT ∷ h.text = rw wild refl in
    let size : length (name_of (Some h)) ≡ length h.text + 1 = ap length name ∙ omega arith in
    let other : nat_eq (length (name_of (Some h))) (length host) ≡ false = ne_eqb (length (name_of (Some h))) (length host) (λ e. omega arith) in
    let some : nat_eq (length (name_of (Some h))) 0 ≡ false = ne_eqb (length (name_of (Some h))) 0 (λ e. omega arith) in
    let own : precise_length h ≡ 0 = rw wild refl in
    let whole : written_length h ≡ length h.text + 2 = rw wild refl in
    let one_more : written_length h ≡ length (name_of (Some h)) + 1 = omega arith in
    record {
      precise = own ∙ ap (λ (b : Bool). cond b (length host) 0) (sym other);
      written = one_more ∙ ap (λ (b : Bool). cond b 0 (length (name_of (Some h)) + 1)) (sym some)
          ∙ ap (λ (b : Bool). cond b (length host) (cond (nat_eq (length (name_of (Some h))) 0) 0 (length (name_of (Some h)) + 1))) (sym other);
      within = omega arith;
    }

ranked : (o : Option Host) (host : List ℕ) → hostname_fits o host ≡ true → IsRanked o host
ranked None host fit = record { precise = none_precise (length host); written = none_written (length host); within = omega arith }
ranked (Some h) host fit = by h.wild refl
  where
    by : (b : Bool) → h.wild ≡ b → IsRanked (Some h) host
    by true e = wild_ranked host h e fit
    by false e = precise_ranked host h e fit

-- A longer name ranks higher.
higher : (host x y : ℕ) → y < x → x ≤ host
    → (px py wx wy : ℕ) → px ≡ precise_rank host x → py ≡ precise_rank host y → wx ≡ written_rank host x → wy ≡ written_rank host y
    → (b : Bool) → nat_eq x host ≡ b → MatchBool b (py < px) ((py ≡ px) × (wy < wx))
higher host x y shorter within px py wx wy is_px is_py is_wx is_wy true e =
    let whole : x ≡ host = eqb-true x host e in
    let other : nat_eq y host ≡ false = ne_eqb y host (λ same. omega arith) in
    let mine : px ≡ host = is_px ∙ rw e refl in
    let theirs : py ≡ 0 = is_py ∙ rw other refl in
    omega arith
higher host x y shorter within px py wx wy is_px is_py is_wx is_wy false e =
    let other : nat_eq y host ≡ false = ne_eqb y host (λ same. omega arith) in
    let mine : px ≡ 0 = is_px ∙ rw e refl in
    let theirs : py ≡ 0 = is_py ∙ rw other refl in
    let some : nat_eq x 0 ≡ false = ne_eqb x 0 (λ none. omega arith) in
    let my_own : wx ≡ x + 1 = is_wx ∙ rw (e, some) refl in
    (theirs ∙ sym mine, least (nat_eq y 0) refl other my_own)
  where
    least : (c : Bool) → nat_eq y 0 ≡ c → nat_eq y host ≡ false → wx ≡ x + 1 → wy < wx
    least true f other mine =
        let theirs : wy ≡ 0 = is_wy ∙ rw (other, f) refl in
        omega arith
    least false f other mine =
        let theirs : wy ≡ y + 1 = is_wy ∙ rw (other, f) refl in
        omega arith

-- The hostname of a row that fits covers the host.
pub host_fits : (r : Row) (q : Request) → fits r q ≡ true → hostname_fits r.hostname q.host ≡ true
unfolding fits
host_fits r q fit = first_so (hostname_fits r.hostname q.host) _ fit

-- Of two rows that fit, the one of the longer name stands before.
pub longer_before : (a b : Row) (q : Request) → fits a q ≡ true → fits b q ≡ true → length (name_of b.hostname) < length (name_of a.hostname)
    → precedence a b ≡ Less
longer_before a b q fit other shorter =
    let mine = ranked a.hostname q.host (host_fits a q fit) in
    let theirs = ranked b.hostname q.host (host_fits b q other) in
    by (nat_eq (length (name_of a.hostname)) (length q.host)) (higher (length q.host) (length (name_of a.hostname)) (length (name_of b.hostname)) shorter mine.within
    (precise_characters a) (precise_characters b) (hostname_characters a) (hostname_characters b) mine.precise theirs.precise mine.written theirs.written
    (nat_eq (length (name_of a.hostname)) (length q.host)) refl)
  where
    by : (c : Bool) → MatchBool c (precise_characters b < precise_characters a) ((precise_characters b ≡ precise_characters a) × (hostname_characters b < hostname_characters a))
        → precedence a b ≡ Less
    by true more = by_precise a b more
    by false more = by_hostname a b more.0 more.1

-- Of two rows of one name that fit, the hostnames decide nothing.
pub one_name : (a b : Row) (q : Request) → fits a q ≡ true → fits b q ≡ true → name_of a.hostname ≡ name_of b.hostname → AreTied a b
one_name a b q fit other same =
    let mine = ranked a.hostname q.host (host_fits a q fit) in
    let theirs = ranked b.hostname q.host (host_fits b q other) in
    record {
      precise = theirs.precise ∙ ap (λ (n : List ℕ). precise_rank (length q.host) (length n)) (sym same) ∙ sym mine.precise;
      written = theirs.written ∙ ap (λ (n : List ℕ). written_rank (length q.host) (length n)) (sym same) ∙ sym mine.written;
    }

-- ---- which names are probed

same_bytes : (name : List ℕ) → bytes_eq name name ≡ true
same_bytes name = (bytes_eq-Decides name name).1 refl

ends_empty : (host : List ℕ) → is_in (names_above host) [] ≡ true
ends_empty [] = refl
ends_empty (b ∷ host) = by (b == DOT) refl (ends_empty host)
  where
    by : (c : Bool) → (b == DOT) ≡ c → is_in (names_above host) [] ≡ true → is_in (names_above (b ∷ host)) [] ≡ true
    by true e more = rw e more
    by false e more = rw e more

below_in : (front text : List ℕ) → is_in (names_above (front ++ DOT ∷ text)) (DOT ∷ text) ≡ true
below_in [] text = rw (same_bytes (DOT ∷ text)) refl
below_in (b ∷ front) text = by (b == DOT) refl (below_in front text)
  where
    by : (c : Bool) → (b == DOT) ≡ c → is_in (names_above (front ++ DOT ∷ text)) (DOT ∷ text) ≡ true → is_in (names_above (b ∷ front ++ DOT ∷ text)) (DOT ∷ text) ≡ true
    by true e more = rw (e, more) (or-true (bytes_eq (b ∷ front ++ DOT ∷ text) (DOT ∷ text)))
    by false e more = rw e more

-- The name of a hostname that covers a host is probed.
pub name_probed : (o : Option Host) (host : List ℕ) → hostname_fits o host ≡ true → is_in (names_for host) (name_of o) ≡ true
name_probed None host fit = rw (ends_empty host) (or-true (bytes_eq host []))
name_probed (Some h) host fit = by h.wild refl
  where
    by : (b : Bool) → h.wild ≡ b → is_in (names_for host) (name_of (Some h)) ≡ true
    by true e =
        let parts = rw e at fit in
        let below : LiesBelow host h.text = (is_below-Decides host h.text).0 (second_so _ (is_below host h.text) parts) in
        let among : is_in (names_above host) (DOT ∷ h.text) ≡ true = rw below.1 (below_in below.0 h.text) in
        let name : name_of (Some h) ≡ DOT ∷ h.text = rw e refl in
        let later : is_in (names_for host) (DOT ∷ h.text) ≡ true = rw among (or-true (bytes_eq host (DOT ∷ h.text))) in
        ap (is_in (names_for host)) name ∙ later
    by false e =
        let name : name_of (Some h) ≡ h.text = rw e refl in
        let here : bytes_eq host h.text ≡ true = rw e at fit in
        ap (is_in (names_for host)) name ∙ ap (λ (b : Bool). b || is_in (names_above host) h.text) here

-- The names above a host are no longer than it.
pub above_within : (host name : List ℕ) → is_in (names_above host) name ≡ true → length name ≤ length host
above_within [] name among = by (bytes_eq [] name) refl among
  where
    by : (c : Bool) → bytes_eq [] name ≡ c → (c || false) ≡ true → length name ≤ 0
    by true e h =
        let same : [] ≡ name = (bytes_eq-Decides [] name).0 e in
        let size : 0 ≡ length name = ap length same in
        omega arith
    by false e h = absurd (true≢false (sym h))
above_within (b ∷ host) name among = by (b == DOT) refl (above_within host name)
  where
    by : (c : Bool) → (b == DOT) ≡ c → (is_in (names_above host) name ≡ true → length name ≤ length host) → length name ≤ length (b ∷ host)
    by true e more = one (bytes_eq (b ∷ host) name) refl (rw e at among)
      where
        one : (d : Bool) → bytes_eq (b ∷ host) name ≡ d → (bytes_eq (b ∷ host) name || is_in (names_above host) name) ≡ true → length name ≤ length (b ∷ host)
        one true f h =
            let size : length (b ∷ host) ≡ length name = ap length ((bytes_eq-Decides (b ∷ host) name).0 f) in
            omega arith
        one false f h =
            let size : length name ≤ length host = more (rw f at h) in
            omega arith
    by false e more =
        let size : length name ≤ length host = more (rw e at among) in
        omega arith

-- Those that aren't the host itself are shorter.
pub above_shorter : (host name : List ℕ) → is_in (names_above host) name ≡ true → bytes_eq host name ≡ false → length name < length host
above_shorter [] name among other = absurd (true≢false (sym (rw other at among)))
above_shorter (b ∷ host) name among other = by (b == DOT) refl
  where
    by : (c : Bool) → (b == DOT) ≡ c → length name < length (b ∷ host)
    by true e =
        let rest : (bytes_eq (b ∷ host) name || is_in (names_above host) name) ≡ true = rw e at among in
        let size : length name ≤ length host = above_within host name (rw other at rest) in
        omega arith
    by false e =
        let size : length name ≤ length host = above_within host name (rw e at among) in
        omega arith
