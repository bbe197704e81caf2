-- The data of chunks.
use Rattle.std.proofs.Common.{◌≡◌, ℕ, ◌+◌, ◌≤◌, ◌<◌, Bool, true, false, not, cond, List, [], ◌∷◌, ◌++◌, ◌==◌, ◌&&◌, length, take, drop, refl, arith, length-append, min, nat_lt}
use Rattle.std.proofs.lemmas.Bool.{lt-ltb, le-ltb, ltb-true, ltb-false}
use Rattle.std.proofs.lemmas.List.{take-append-le, drop-append-le, drop_all, length-drop}
use Rattle.gw_messages.specs.model.Bodies.{whole_body, bad_body, part_body, begins_as_line_end, chunk_data}
use Rattle.gw_messages.specs.declared.fault.BodyFault.TheVariants.{Malformed, TooBig}

big_test : (a b c : Bool) (x y : List ℕ) → cond a (bad_body TooBig) (cond b (bad_body Malformed) (cond c part_body (whole_body x y))) ≡ bad_body TooBig → a ≡ true
big_test true b c x y e = refl
big_test false true c x y e = cc
big_test false false true x y e = cc
big_test false false false x y e = cc

malformed_tests : (a b c : Bool) (x y : List ℕ) → cond a (bad_body TooBig) (cond b (bad_body Malformed) (cond c part_body (whole_body x y))) ≡ bad_body Malformed → (a ≡ false) × (b ≡ true)
malformed_tests true b c x y e = cc
malformed_tests false true c x y e = (refl, refl)
malformed_tests false false true x y e = cc
malformed_tests false false false x y e = cc

whole_tests : (a b c : Bool) (x y u v : List ℕ) → cond a (bad_body TooBig) (cond b (bad_body Malformed) (cond c part_body (whole_body x y))) ≡ whole_body u v
    → (a ≡ false) × (b ≡ false) × (c ≡ false)
whole_tests true b c x y u v e = cc
whole_tests false true c x y u v e = cc
whole_tests false false true x y u v e = cc
whole_tests false false false x y u v e = (refl, refl, refl)

-- too much data stays too much with more bytes
pub big_more : (room size : ℕ) (bytes more : List ℕ) → chunk_data room size bytes ≡ bad_body TooBig → chunk_data room size (bytes ++ more) ≡ bad_body TooBig
big_more room size bytes more e =
    let big = ltb-true _ _ (big_test (nat_lt room (min size (length bytes))) _ _ _ _ e) in
    let still : nat_lt room (min size (length (bytes ++ more))) ≡ true = lt-ltb room (min size (length (bytes ++ more))) (omega (arith, big, length-append bytes more)) in
    rw still refl

-- what isn't a line end isn't with more bytes
no_end_more : (bytes more : List ℕ) → not (begins_as_line_end bytes) ≡ true → (0 < length bytes) × (not (begins_as_line_end (bytes ++ more)) ≡ true)
no_end_more [] more e = cc
no_end_more (x ∷ []) [] e = (omega arith, e)
no_end_more (x ∷ []) (y ∷ more) e = (omega arith, by_first (x == 13) (y == 10) e)
  where
    by_first : (a b : Bool) → not (a && true) ≡ true → not (a && (b && true)) ≡ true
    by_first true b h = cc
    by_first false b h = refl
no_end_more (x ∷ y ∷ bytes) more e = (omega arith, e)

-- malformed data stays malformed with more bytes
pub malformed_more : (room size : ℕ) (bytes more : List ℕ) → chunk_data room size bytes ≡ bad_body Malformed → chunk_data room size (bytes ++ more) ≡ bad_body Malformed
malformed_more room size bytes more e =
    let tests = malformed_tests (nat_lt room (min size (length bytes))) (not (begins_as_line_end (drop size bytes))) _ _ _ e in
    let small = ltb-false _ _ tests.0 in
    let end = no_end_more (drop size bytes) more tests.1 in
    let inside : size < length bytes = omega (arith, end.0, length-drop size bytes) in
    let still : nat_lt room (min size (length (bytes ++ more))) ≡ false = le-ltb room (min size (length (bytes ++ more))) (omega (arith, small, inside)) in
    let split : drop size (bytes ++ more) ≡ drop size bytes ++ more = drop-append-le size bytes more (omega (arith, inside)) in
    rw (still, split, end.1) refl

-- whole data have their line end
pub data_size : (room size : ℕ) (bytes content rest : List ℕ) → chunk_data room size bytes ≡ whole_body content rest → size + 2 ≤ length bytes
data_size room size bytes content rest e =
    ltb-false _ _ ((whole_tests (nat_lt room (min size (length bytes))) (not (begins_as_line_end (drop size bytes))) (nat_lt (length bytes) (size + 2)) _ _ _ _ e).2)

-- whole data stay whole with more bytes
pub data_more : (room size : ℕ) (bytes more content rest : List ℕ) → chunk_data room size bytes ≡ whole_body content rest
    → chunk_data room size (bytes ++ more) ≡ whole_body (take size bytes) (drop (size + 2) bytes ++ more)
data_more room size bytes more content rest e =
    let tests = whole_tests (nat_lt room (min size (length bytes))) (not (begins_as_line_end (drop size bytes))) (nat_lt (length bytes) (size + 2)) _ _ _ _ e in
    let small = ltb-false _ _ tests.0 in
    let enough : size + 2 ≤ length bytes = ltb-false _ _ tests.2 in
    let fits : size ≤ length bytes = omega (arith, enough) in
    let behind_data : 2 ≤ length (drop size bytes) = omega (arith, enough, length-drop size bytes) in
    let still : nat_lt room (min size (length (bytes ++ more))) ≡ false = le-ltb room (min size (length (bytes ++ more))) (omega (arith, small, enough)) in
    let split : drop size (bytes ++ more) ≡ drop size bytes ++ more = drop-append-le size bytes more fits in
    let end : not (begins_as_line_end (drop size bytes ++ more)) ≡ false = rw (take-append-le 2 (drop size bytes) more behind_data) tests.1 in
    let long : nat_lt (length (bytes ++ more)) (size + 2) ≡ false = le-ltb (length (bytes ++ more)) (size + 2) (omega (arith, enough, length-append bytes more)) in
    rw (still, split, end, long, take-append-le size bytes more fits, drop-append-le (size + 2) bytes more enough) refl

-- fewer bytes than a chunk's data are a part
pub few_data : (room size : ℕ) (bytes : List ℕ) → length bytes < size → length bytes ≤ room → chunk_data room size bytes ≡ part_body
few_data room size bytes few fits =
    let small : nat_lt room (min size (length bytes)) ≡ false = le-ltb room (min size (length bytes)) (omega (arith, few, fits)) in
    let none : drop size bytes ≡ [] = drop_all size bytes (omega (arith, few)) in
    let short : nat_lt (length bytes) (size + 2) ≡ true = lt-ltb (length bytes) (size + 2) (omega (arith, few)) in
    rw (small, none, short) refl
