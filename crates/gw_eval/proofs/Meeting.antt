-- The hostnames of a Route for a listener, one after the other.
use Rattle.std.proofs.Common.{◌≡◌, ◌∙◌, refl, sym, ap, ℕ, ◌+◌, ◌<◌, List, [], ◌∷◌, ◌++◌, Bool, true, false, ◌&&◌, ◌||◌, not, get_or, length, take, map, arith, true≢false}
use Rattle.std.specs.Prelude.{filter, if◌then◌else◌, Option}
use Rattle.std.specs.List.{enumerate_from, list_any}
use Rattle.std.proofs.lemmas.List.{append-nil, map-append, take_more, length-take-le}
use Rattle.std.proofs.lemmas.List.Elements.{filter-append}
use Rattle.std.specs.Str.{bytes_eq}
use Rattle.std.proofs.lemmas.Slice.Eq.{bytes_eq-Decides}
use Rattle.gw_text.specs.model.Hostnames.{Host, same_host}
use Rattle.gw_rows.specs.model.Rows.{first_of_each}
use Rattle.gw_rows.specs.model.DoorRows.{hostname_at, meeting_hostnames, meets_listener}

-- what isn't the same as an earlier entry stays
kept : {T : Type 0} (same : T → T → Bool) (y x : T) (is_same found : Bool) → same y x ≡ is_same →
    filter (λ other. not (same y other)) (if found then [] else x ∷ []) ≡ (if is_same || found then [] else x ∷ [])
kept same y x true true is = refl
kept same y x true false is = rw is refl
kept same y x false true is = refl
kept same y x false false is = rw is refl

-- one entry more stays where no earlier one is the same
first_of_each_more : {T : Type 0} (same : T → T → Bool) (xs : List T) (x : T) →
    first_of_each same (xs ++ x ∷ []) ≡ first_of_each same xs ++ (if list_any (λ other. same other x) xs then [] else x ∷ [])
first_of_each_more same [] x = refl
first_of_each_more same (y ∷ xs) x =
    let found = list_any (λ other. same other x) xs in
    let differs = λ (other : _). not (same y other) in
    ap (λ t. y ∷ filter differs t) (first_of_each_more same xs x)
    ∙ ap (λ t. y ∷ t) (filter-append differs (first_of_each same xs) (if found then [] else x ∷ []))
    ∙ ap (λ t. y ∷ (filter differs (first_of_each same xs) ++ t)) (kept same y x (same y x) found refl)

enumerate_more : {X : Type 0} (n : ℕ) (xs : List X) (x : X) → enumerate_from n (xs ++ x ∷ []) ≡ enumerate_from n xs ++ (n + length xs, x) ∷ []
enumerate_more n [] x = ap (λ m. (m, x) ∷ []) (omega arith)
enumerate_more n (y ∷ xs) x = ap (λ t. (n, y) ∷ t) (enumerate_more (n + 1) xs x ∙ ap (λ m. enumerate_from (n + 1) xs ++ (m, x) ∷ []) (omega arith))

abbrev host : Bool → List ℕ → Host
host wild text = record { wild = wild; text = text }

same_parts : (v w : Bool) (s t : List ℕ) → ((if v then w else not w) && bytes_eq s t) ≡ true → host v s ≡ host w t
same_parts true true s t same = ap (host true) ((bytes_eq-Decides s t).0 same)
same_parts true false s t same = absurd (true≢false (sym same))
same_parts false true s t same = absurd (true≢false (sym same))
same_parts false false s t same = ap (host false) ((bytes_eq-Decides s t).0 same)

-- equal hostnames are one
same_is : (a b : Host) → same_host a b ≡ true → a ≡ b
same_is a b same = same_parts a.wild b.wild a.text b.text same

left_false : (a b : Bool) → (a ≡ true → false ≡ true) → b ≡ (a || b)
left_false true b so = absurd (true≢false (sym (so refl)))
left_false false b so = refl

-- what fits stands among those that are looked at
any_filtered : {X : Type 0} (f p : X → Bool) (x : X) (xs : List X) (b : Bool) → p x ≡ b → (f x ≡ true → b ≡ true) →
    list_any f (filter p (x ∷ xs)) ≡ (f x || list_any f (filter p xs))
any_filtered f p x xs true is so = rw is refl
any_filtered f p x xs false is so = rw is (left_false (f x) (list_any f (filter p xs)) so)

-- a hostname that is equal to one that meets the listener meets it
any_meeting : (listener : Option Host) (h : Host) (n : ℕ) (hosts : List Host) → meets_listener listener h ≡ true →
    list_any (λ p. same_host p.1 h) (filter (λ p. meets_listener listener p.1) (enumerate_from n hosts)) ≡ list_any (λ other. same_host other h) hosts
any_meeting listener h n [] meets = refl
any_meeting listener h n (x ∷ hosts) meets =
    any_filtered (λ (p : ℕ × Host). same_host p.1 h) (λ (p : ℕ × Host). meets_listener listener p.1) (n, x) (enumerate_from (n + 1) hosts) (meets_listener listener x) refl
    (λ same. ap (meets_listener listener) (same_is x h same) ∙ meets)
    ∙ ap (λ b. same_host x h || b) (any_meeting listener h (n + 1) hosts meets)

mapped : {X Y : Type 0} (f : X → Y) (x : X) (found : Bool) → map f (if found then [] else x ∷ []) ≡ (if not found then f x ∷ [] else [])
mapped f x true = refl
mapped f x false = refl

-- an entry more
entry_more : {T Y : Type 0} (same : T → T → Bool) (p : T → Bool) (f : T → Y) (xs : List T) (x : T) (fits found : Bool) → p x ≡ fits →
    (fits ≡ true → list_any (λ other. same other x) (filter p xs) ≡ found) →
    map f (first_of_each same (filter p (xs ++ x ∷ []))) ≡ map f (first_of_each same (filter p xs)) ++ (if fits && not found then f x ∷ [] else [])
entry_more same p f xs x false found is so =
    ap (λ t. map f (first_of_each same t)) (filter-append p xs (x ∷ []) ∙ rw is (append-nil (filter p xs)))
    ∙ sym (append-nil (map f (first_of_each same (filter p xs))))
entry_more same p f xs x true found is so =
    ap (λ t. map f (first_of_each same t)) (filter-append p xs (x ∷ []) ∙ rw is refl)
    ∙ ap (map f) (first_of_each_more same (filter p xs) x)
    ∙ map-append f (first_of_each same (filter p xs)) (if list_any (λ other. same other x) (filter p xs) then [] else x ∷ [])
    ∙ ap (λ t. map f (first_of_each same (filter p xs)) ++ t) (ap (λ b. map f (if b then [] else x ∷ [])) (so refl) ∙ mapped f x found)

-- the first hostnames and the next
entries_next : (hosts : List Host) (i : ℕ) (h : Host) → i < length hosts → h ≡ get_or hosts i h →
    enumerate_from 0 (take (i + 1) hosts) ≡ enumerate_from 0 (take i hosts) ++ (i, h) ∷ []
entries_next hosts i h within is =
    ap (enumerate_from 0) (take_more hosts i h within ∙ ap (λ x. take i hosts ++ x ∷ []) (sym is))
    ∙ enumerate_more 0 (take i hosts) h
    ∙ ap (λ m. enumerate_from 0 (take i hosts) ++ (m, h) ∷ []) (omega (arith, length-take-le i hosts (omega arith)))

-- a hostname more
pub meeting_more : (listener : Option Host) (hosts : List Host) (i : ℕ) (h : Host) → i < length hosts → h ≡ get_or hosts i h →
    meeting_hostnames listener (take (i + 1) hosts)
    ≡ meeting_hostnames listener (take i hosts) ++ (if meets_listener listener h && not (list_any (λ other. same_host other h) (take i hosts)) then hostname_at (i, h) ∷ [] else [])
meeting_more listener hosts i h within is =
    let same = λ (a : ℕ × Host) (b : ℕ × Host). same_host a.1 b.1 in
    let meets = λ (p : ℕ × Host). meets_listener listener p.1 in
    ap (λ t. map hostname_at (first_of_each same (filter meets t))) (entries_next hosts i h within is)
    ∙ entry_more same meets hostname_at (enumerate_from 0 (take i hosts)) (i, h) (meets_listener listener h) (list_any (λ other. same_host other h) (take i hosts)) refl
    (any_meeting listener h 0 (take i hosts))
