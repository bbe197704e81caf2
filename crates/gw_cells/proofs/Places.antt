-- The rows that fit a path stand at the places that are probed for it, and those at an earlier place stand before the others.
use Rattle.std.proofs.Common.{◌≡◌, ◌∙◌, refl, sym, ap, ℕ, zero, suc, ◌+◌, ◌-◌, ◌<◌, arith, Bool, true, false, ◌==◌, ◌⊎◌, inl, inr, nat_eq, List, [], ◌∷◌, ◌++◌, length, take, map, true≢false, bytes_eq, codes, length-append, append-nil}
use Rattle.std.proofs.lemmas.Bool.Decides.{Decides-eqb}
use Rattle.std.proofs.lemmas.List.{take-append-le, take_all}
use Rattle.std.proofs.lemmas.Slice.Eq.{bytes_eq-Decides, ends_is}
use Rattle.std.specs.Cmp.{first_so, second_so}
use Rattle.std.specs.List.{ends_with, list_any}
use Rattle.gw_frames.specs.model.Requests.{Request}
use Rattle.gw_path.proofs.Elements.{prefix-bytes}
use Rattle.gw_rows.specs.model.Fitting.{fits, hostname_fits}
use Rattle.gw_rows.specs.model.Rows.{Row}
use Rattle.gw_text.specs.declared.types.PathMatchType.{PathMatchType}
use Rattle.gw_text.specs.declared.types.PathMatchType.TheVariants as path_types
use Rattle.gw_text.specs.model.Matches.{PathMatch, path_fits}
use Rattle.gw_text.specs.model.Paths.{BeginsWithPrefix, EndsElement, SLASH, is_path_prefix, without_slash}
use Rattle.gw_cells.proofs.FirstCell.{or-true}
use Rattle.gw_cells.specs.model.Addresses.{Place, place_of, same_place}
use Rattle.gw_cells.specs.model.Probes.{fronts, is_slash_at, places_for, prefix_place}

-- The place is one of these.
abbrev pub is_in : List Place → Place → Bool
is_in places place = list_any (λ p. same_place p place) places

same_bytes : (path : List ℕ) → bytes_eq path path ≡ true
same_bytes path = (bytes_eq-Decides path path).1 refl

-- The path match of a row that fits fits the path.
pub path_match_fits : (r : Row) (q : Request) → fits r q ≡ true → path_fits r.test.path q.path ≡ true
unfolding fits
path_match_fits r q fit = first_so (path_fits r.test.path q.path) _ (second_so (hostname_fits r.hostname q.host) _ fit)

-- ---- values without the slash at their end

slash : List ℕ
slash = codes "/"

-- What a slash follows ends with it.
ends_so : (front : List ℕ) → ends_with nat_eq (front ++ SLASH ∷ []) (codes "/") ≡ true
ends_so front = (ends_is Decides-eqb (front ++ SLASH ∷ []) (codes "/") (ends_with nat_eq (front ++ SLASH ∷ []) (codes "/")) refl).1 front refl

-- A value is its text without the slash, and where it ends with one it is one longer.
record IsTrimmed (value : List ℕ) : Type 0 where
  by_slash : (ends_with nat_eq value (codes "/") ≡ true) × (length value ≡ length (without_slash value) + 1)
      ⊎ ((ends_with nat_eq value (codes "/") ≡ false) × (without_slash value ≡ value))

trimmed : (value : List ℕ) → IsTrimmed value
trimmed value = by (ends_with nat_eq value (codes "/")) refl
  where
    by : (b : Bool) → ends_with nat_eq value (codes "/") ≡ b → IsTrimmed value
    by true e =
        let whole : value ≡ take (length value - 1) value ++ codes "/" = (ends_is Decides-eqb value (codes "/") (ends_with nat_eq value (codes "/")) refl).0 e in
        let size : length value ≡ length (take (length value - 1) value) + 1 = ap length whole ∙ length-append (take (length value - 1) value) (codes "/") in
        let cut : without_slash value ≡ take (length value - 1) value = rw e refl in
        record { by_slash = inl (e, size ∙ ap (λ (t : List ℕ). length t + 1) (sym cut)) }
    by false e = record { by_slash = inr (e, rw e refl) }

-- Of two fronts of a text, one of them longer by a byte, the longer is the shorter and its next byte.
one_longer : (long short : List ℕ) (b : ℕ) (rest more : List ℕ) → length long ≡ length short + 1 → long ++ rest ≡ short ++ b ∷ more → long ≡ short ++ b ∷ []
one_longer [] short b rest more size is = absurd (omega arith)
one_longer (x ∷ []) [] b rest more size is =
    let same : x ≡ b = cc in
    ap (λ (c : ℕ). c ∷ []) same
one_longer (x ∷ y ∷ long) [] b rest more size is = absurd (omega arith)
one_longer (x ∷ long) (y ∷ short) b rest more size is =
    let same : x ≡ y = cc in
    let tails : long ++ rest ≡ short ++ b ∷ more = cc in
    let so : long ≡ short ++ b ∷ [] = one_longer long short b rest more (omega arith) tails in
    cc

-- Of two values of which the text without its slash is a front of a path by elements, the one of the longer text is the longer.
pub longer_value : (path long short : List ℕ) → BeginsWithPrefix long path → BeginsWithPrefix short path
    → length (without_slash short) < length (without_slash long) → length short < length long
longer_value path long short of_long of_short more = by (trimmed long).by_slash (trimmed short).by_slash of_long.0 of_long.1 of_short.0 of_short.1 of_short.2
  where
    by : (ends_with nat_eq long (codes "/") ≡ true) × (length long ≡ length (without_slash long) + 1) ⊎ ((ends_with nat_eq long (codes "/") ≡ false) × (without_slash long ≡ long))
        → (ends_with nat_eq short (codes "/") ≡ true) × (length short ≡ length (without_slash short) + 1) ⊎ ((ends_with nat_eq short (codes "/") ≡ false) × (without_slash short ≡ short))
        → (rest : List ℕ) → path ≡ without_slash long ++ rest → (others : List ℕ) → path ≡ without_slash short ++ others → EndsElement others
        → length short < length long
    by l (inr s) rest is others also ends = at_least l
      where
        same : length (without_slash short) ≡ length short
        same = ap length s.1

        at_least : (ends_with nat_eq long (codes "/") ≡ true) × (length long ≡ length (without_slash long) + 1) ⊎ ((ends_with nat_eq long (codes "/") ≡ false) × (without_slash long ≡ long))
            → length short < length long
        at_least (inl a) =
            let size = a.1 in
            let own = same in
            omega arith
        at_least (inr a) =
            let size = ap length a.1 in
            let own = same in
            omega arith
    by (inl l) (inl s) rest is others also ends =
        let size = l.1 in
        let own = s.1 in
        omega arith
    by (inr l) (inl s) rest is [] also ends =
        let whole : length path ≡ length (without_slash short) + 0 = ap length also ∙ length-append (without_slash short) [] in
        let front : length path ≡ length (without_slash long) + length rest = ap length is ∙ length-append (without_slash long) rest in
        absurd (omega arith)
    by (inr l) (inl s) rest is (b ∷ others) also ends = decided (length (without_slash long) == length (without_slash short) + 1) refl
      where
        decided : (c : Bool) → (length (without_slash long) == length (without_slash short) + 1) ≡ c → length short < length long
        decided true e =
            let size : length (without_slash long) ≡ length (without_slash short) + 1 = (Decides-eqb _ _).0 e in
            let next : without_slash long ≡ without_slash short ++ b ∷ [] =
            one_longer (without_slash long) (without_slash short) b rest others size (sym is ∙ also) in
            let value : long ≡ without_slash short ++ SLASH ∷ [] = sym l.1 ∙ next ∙ ap (λ (c : ℕ). without_slash short ++ c ∷ []) ends in
            let slashed : ends_with nat_eq long (codes "/") ≡ true = ap (λ (v : List ℕ). ends_with nat_eq v (codes "/")) value ∙ ends_so (without_slash short) in
            absurd (true≢false (sym slashed ∙ l.0))
        decided false e =
            let size = ap length l.1 in
            let own = s.1 in
            let apart : length (without_slash long) ≡ length (without_slash short) + 1 → ⊥ = λ same. absurd (true≢false (sym ((Decides-eqb _ _).1 same) ∙ e)) in
            omega arith

-- ---- which places are probed

-- Before each slash among the first bytes stands a front.
front_in : (path : List ℕ) (n i : ℕ) → i < n → is_slash_at path i ≡ true → is_in (map prefix_place (fronts path n)) (prefix_place (take i path)) ≡ true
front_in path zero i within slashed = absurd (omega arith)
front_in path (suc n) i within slashed = by (is_slash_at path n) refl (i == n) refl (front_in path n i)
  where
    by : (b : Bool) → is_slash_at path n ≡ b → (c : Bool) → (i == n) ≡ c
        → (i < n → is_slash_at path i ≡ true → is_in (map prefix_place (fronts path n)) (prefix_place (take i path)) ≡ true)
        → is_in (map prefix_place (fronts path (suc n))) (prefix_place (take i path)) ≡ true
    by true e true f more =
        let same : i ≡ n = (Decides-eqb i n).0 f in
        let here : bytes_eq (take n path) (take i path) ≡ true = ap (λ (k : ℕ). bytes_eq (take n path) (take k path)) same ∙ same_bytes (take n path) in
        rw (e, here) refl
    by true e false f more =
        let apart : i ≡ n → ⊥ = λ same. absurd (true≢false (sym ((Decides-eqb i n).1 same) ∙ f)) in
        let later = more (omega arith) slashed in
        rw (e, later) (or-true (bytes_eq (take n path) (take i path)))
    by false e true f more =
        let same : i ≡ n = (Decides-eqb i n).0 f in
        absurd (true≢false (sym slashed ∙ ap (is_slash_at path) same ∙ e))
    by false e false f more =
        let apart : i ≡ n → ⊥ = λ same. absurd (true≢false (sym ((Decides-eqb i n).1 same) ∙ f)) in
        rw e (more (omega arith) slashed)

slash_behind : (front : List ℕ) (rest : List ℕ) → is_slash_at (front ++ SLASH ∷ rest) (length front) ≡ true
slash_behind [] rest = refl
slash_behind (x ∷ front) rest = slash_behind front rest

-- The text of a prefix that fits is probed.
prefix_in : (path value : List ℕ) → BeginsWithPrefix value path → is_in (map prefix_place (path ∷ fronts path (length path))) (prefix_place (without_slash value)) ≡ true
prefix_in path value begins = by begins.0 begins.1 begins.2
  where
    by : (rest : List ℕ) → path ≡ without_slash value ++ rest → EndsElement rest
        → is_in (map prefix_place (path ∷ fronts path (length path))) (prefix_place (without_slash value)) ≡ true
    by [] is ends =
        let same : path ≡ without_slash value = is ∙ append-nil (without_slash value) in
        let here : bytes_eq path (without_slash value) ≡ true = (bytes_eq-Decides path (without_slash value)).1 same in
        rw here refl
    by (b ∷ rest) is ends =
        let whole : path ≡ without_slash value ++ SLASH ∷ rest = is ∙ ap (λ (c : ℕ). without_slash value ++ c ∷ rest) ends in
        let size : length path ≡ length (without_slash value) + length (SLASH ∷ rest) = ap length whole ∙ length-append (without_slash value) (SLASH ∷ rest) in
        let slashed : is_slash_at path (length (without_slash value)) ≡ true =
        ap (λ (p : List ℕ). is_slash_at p (length (without_slash value))) whole ∙ slash_behind (without_slash value) rest in
        let cut : take (length (without_slash value)) path ≡ without_slash value =
        ap (take (length (without_slash value))) whole
        ∙ take-append-le (length (without_slash value)) (without_slash value) (SLASH ∷ rest) (omega arith)
        ∙ take_all (length (without_slash value)) (without_slash value) (omega arith) in
        let among = front_in path (length path) (length (without_slash value)) (omega arith) slashed in
        let later : is_in (map prefix_place (fronts path (length path))) (prefix_place (without_slash value)) ≡ true =
        ap (λ (t : List ℕ). is_in (map prefix_place (fronts path (length path))) (prefix_place t)) (sym cut) ∙ among in
        rw later (or-true (bytes_eq path (without_slash value)))

-- The place of a path match that fits is probed.
pub place_probed : (m : PathMatch) (path : List ℕ) → path_fits m path ≡ true → is_in (places_for path) (place_of m) ≡ true
place_probed m path fit = by m.sort refl
  where
    by : (sort : PathMatchType) → m.sort ≡ sort → is_in (places_for path) (place_of m) ≡ true
    by path_types.Exact e =
        let same : m.value ≡ path = (bytes_eq-Decides m.value path).0 (rw e at fit) in
        let here : bytes_eq path m.value ≡ true = (bytes_eq-Decides path m.value).1 (sym same) in
        rw (e, here) refl
    by path_types.PathPrefix e =
        let prefix : is_path_prefix m.value path ≡ true = rw e at fit in
        let among = prefix_in path m.value ((prefix-bytes m.value path).0 prefix) in
        let placed : place_of m ≡ prefix_place (without_slash m.value) = rw e refl in
        ap (is_in (places_for path)) placed ∙ among
    by (path_types.Other name) e = absurd (true≢false (sym (rw e at fit)))
