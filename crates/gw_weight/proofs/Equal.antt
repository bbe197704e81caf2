-- Equal weights: which pick is the next, and the numbers behind it.
use Rattle.std.proofs.Common.{◌≡◌, ◌≢◌, ℕ, ◌+◌, ◌-◌, ◌*◌, ◌/◌, ◌%◌, ◌<◌, ◌≤◌, Bool, true, false, eqb, inl, inr, List, [], ◌∷◌, ◌++◌, length, take, replicate, set, sum, get_or, refl, sym, ap, subst, ◌∙◌, arith, suc, zero, Some, add-one}
use Rattle.std.proofs.lemmas.Bool.{cases_eq, cases_lt, eq-eqb, ne_eqb}
use Rattle.std.proofs.lemmas.Int.{ints}
use Rattle.std.proofs.lemmas.List.{append_assoc, get_or-append_right, get_or-replicate, get_or_append_left, get_or_past, length-append, length-replicate, replicate_more, set_at}
use Rattle.std.proofs.lemmas.List.Folds.{sum_by-replicate}
use Rattle.std.proofs.lemmas.List.Sums.{sum_by-append}
use Rattle.std.proofs.lemmas.Nat.{div-add-mod', mod-mul-add, mod_below}
use Rattle.std.proofs.lemmas.Option.{slice_get-get_or}
use Rattle.std.proofs.lemmas.Slice.Eq.{bytes_eq-Decides}
use Rattle.std.specs.Prelude.{ℤ, pos, ◌-ℤ◌, ◌≤ℤ◌, ◌<ℤ◌}
use Rattle.std.specs.List.{slice_get}
use Rattle.std.specs.Str.{bytes_eq}
use Rattle.gw_text.specs.model.Picks.{ArePicks, IsKept, after_pick, claim, counted, drawn_after, pick, zeros}
use Rattle.gw_weight.specs.Equal.{ArePickedInTurn, picked_before}
use Rattle.gw_weight.proofs.Claims.{Leads-pick, after_pick-counted, after_pick-over}
use Rattle.gw_weight.proofs.Fairness.{drawn-more}

abbrev ones : ℕ → List ℕ
ones n = replicate n 1

abbrev nones : ℕ → List ℕ
nones n = replicate n 0

length-ones : (n : ℕ) → length (ones n) ≡ n
length-ones n = length-replicate n 1

length-nones : (n : ℕ) → length (nones n) ≡ n
length-nones n = length-replicate n 0

sum-ones : (n : ℕ) → sum (ones n) ≡ n
sum-ones n = let total : sum (ones n) ≡ n * 1 = sum_by-replicate (λ x. x) n 1 in omega arith

none-get : (n i : ℕ) → get_or (nones n) i 0 ≡ 0
none-get n i =
    elim (cases_lt i n) [
      | inl l ↦ get_or-replicate n i 0 0 l
      | inr past ↦ get_or_past (nones n) i 0 (let e = length-nones n in omega arith)
    ]

length-before : (n k : ℕ) → k ≤ n → length (picked_before n k) ≡ n
length-before n k l =
    let all : length (picked_before n k) ≡ length (ones k) + length (nones (n - k)) = length-append (ones k) (nones (n - k)) in
    let some : length (ones k) ≡ k = length-ones k in
    let left : length (nones (n - k)) ≡ n - k = length-nones (n - k) in
    omega arith

sum-before : (n k : ℕ) → sum (picked_before n k) ≡ k
sum-before n k =
    let all : sum (picked_before n k) ≡ sum (ones k) + sum (nones (n - k)) = sum_by-append (λ x. x) (ones k) (nones (n - k)) in
    let some : sum (ones k) ≡ k = sum-ones k in
    let left : sum (nones (n - k)) ≡ (n - k) * 0 = sum_by-replicate (λ x. x) (n - k) 0 in
    omega arith

get-before : (n k i : ℕ) → i < k → get_or (picked_before n k) i 0 ≡ 1
get-before n k i l =
    get_or_append_left (ones k) (nones (n - k)) 0 i (let e : length (ones k) ≡ k = length-ones k in omega arith) ∙ get_or-replicate k i 1 0 l

get-left : (n k i : ℕ) → k ≤ i → get_or (picked_before n k) i 0 ≡ 0
get-left n k i l = get_or-append_right (ones k) (nones (n - k)) k i 0 (length-ones k) l ∙ none-get (n - k) (i - k)

-- what one of the weights claims: all claim the same, less a whole sum where it was picked
claim-before : (n k i h : ℕ) → i < n → get_or (picked_before n k) i 0 * n ≡ h
    → claim (ones n) (sum (picked_before n k)) (λ j. get_or (picked_before n k) j 0) i ≡ pos (k + 1) -ℤ pos h
claim-before n k i h l e =
    let one : (k + 1) * 1 ≡ k + 1 = omega arith in
    let share : (sum (picked_before n k) + 1) * get_or (ones n) i 0 ≡ k + 1 =
    (λ t. (sum-before n k t + 1) * get_or-replicate n i 1 0 l t) ∙ one in
    let had : get_or (picked_before n k) i 0 * sum (ones n) ≡ h = ap (λ (m : ℕ). get_or (picked_before n k) i 0 * m) (sum-ones n) ∙ e in
    λ t. pos (share t) -ℤ pos (had t)

not_above : (x y : ℤ) (a h : ℕ) → x ≡ pos a -ℤ pos h → y ≡ pos a -ℤ pos 0 → x ≤ℤ y
not_above x y a h e f = omega (arith, ints)

below : (x y : ℤ) (a h : ℕ) → 0 < h → x ≡ pos a -ℤ pos h → y ≡ pos a -ℤ pos 0 → x <ℤ y
below x y a h some e f = omega (arith, ints)

-- the first that wasn't picked is the next
pub turn-picked : (n k : ℕ) → k < n → pick (ones n) (picked_before n k) ≡ Some k
turn-picked n k l =
    let d = picked_before n k in
    let whole : length (ones n) ≡ n = length-ones n in
    let total : sum (ones n) ≡ n = sum-ones n in
    let none : get_or d k 0 * n ≡ 0 = ap (λ (m : ℕ). m * n) (get-left n k k (omega arith)) ∙ omega arith in
    let here = claim-before n k k 0 l none in
    Leads-pick (ones n) (sum d) (λ j. get_or d j 0) k (omega arith) (record {
      within = omega arith;
      most = λ j m. not_above _ _ (k + 1) (get_or d j 0 * n) (claim-before n k j (get_or d j 0 * n) (omega arith) refl) here;
      first = λ j m.
          let one : get_or d j 0 * n ≡ n = ap (λ (p : ℕ). p * n) (get-before n k j m) ∙ omega arith in
          below _ _ (k + 1) n (omega arith) (claim-before n k j n (omega arith) one) here;
    })

push-one : (k : ℕ) (rest : List ℕ) → ones k ++ 1 ∷ rest ≡ ones (k + 1) ++ rest
push-one k rest = sym (append_assoc (ones k) (1 ∷ []) rest) ∙ ap (λ (l : List ℕ). l ++ rest) (replicate_more k 1)

counted-turn : (n k : ℕ) → k < n → counted (picked_before n k) k ≡ picked_before n (k + 1)
counted-turn n k l =
    let rest = nones (n - (k + 1)) in
    let left : n - k ≡ suc (n - (k + 1)) = omega arith in
    let apart : picked_before n k ≡ ones k ++ 0 ∷ rest = ap (λ (m : ℕ). ones k ++ nones m) left in
    let number : get_or (picked_before n k) k 0 + 1 ≡ 1 = ap (λ (m : ℕ). m + 1) (get-left n k k (omega arith)) in
    (λ t. set (apart t) k (number t)) ∙ set_at (ones k) 0 rest 1 k (length-ones k) ∙ push-one k rest

pub start-before : (n : ℕ) → zeros (ones n) ≡ picked_before n 0
start-before n = let all : length (ones n) ≡ n - 0 = length-ones n ∙ omega arith in ap (λ (m : ℕ). nones m) all

sum-turn : (n k : ℕ) → k < n → sum (counted (picked_before n k) k) ≡ k + 1
sum-turn n k l = ap sum (counted-turn n k l) ∙ sum-before n (k + 1)

-- behind the last, the numbers are 0 again
pub after-last : (n k : ℕ) → k < n → k + 1 ≡ n → after_pick (ones n) (picked_before n k) (Some k) ≡ picked_before n 0
after-last n k l last =
    after_pick-over (ones n) (picked_before n k) k (sum-turn n k l ∙ last ∙ sym (sum-ones n)) ∙ start-before n

pub after-turn : (n k : ℕ) → k < n → k + 1 ≢ n → after_pick (ones n) (picked_before n k) (Some k) ≡ picked_before n (k + 1)
after-turn n k l more =
    after_pick-counted (ones n) (picked_before n k) k (λ e. more (sym (sum-turn n k l) ∙ e ∙ sum-ones n)) ∙ counted-turn n k l

pub before-IsKept : (n k : ℕ) → k ≤ n - 1 → IsKept (ones n) (picked_before n k)
before-IsKept n k l =
    let total : sum (ones n) ≡ n = sum-ones n in
    let drawn : sum (picked_before n k) ≡ k = sum-before n k in
    record {
      lengths = length-before n k (omega arith) ∙ sym (length-ones n);
      shared = λ some i.
          elim (cases_lt i k) [
            | inl picked ↦ (
                let one : get_or (picked_before n k) i 0 ≡ 1 = get-before n k i picked in
                let weight : get_or (ones n) i 0 ≡ 1 = get_or-replicate n i 1 0 (omega arith) in
                rw (one, weight) (omega arith))
            | inr left ↦ (let none : get_or (picked_before n k) i 0 ≡ 0 = get-left n k i left in rw none (omega arith))
          ];
      unfinished = λ some. omega arith;
      without = λ none. (let first : k ≡ 0 = omega arith in ap (picked_before n) first ∙ sym (start-before n));
    }

-- the turn behind k picks, as a rest
rest-last : (n k : ℕ) → 0 < n → k % n + 1 ≡ n → 0 ≡ (k + 1) % n
rest-last n k some last =
    let whole : k / n * n + k % n ≡ k = div-add-mod' k n in
    let next : (k / n + 1) * n + 0 ≡ k + 1 = omega arith in
    sym (mod-mul-add (k / n + 1) n 0 some) ∙ ap (λ (m : ℕ). m % n) next

rest-more : (n k : ℕ) → 0 < n → k % n + 1 ≢ n → k % n + 1 ≡ (k + 1) % n
rest-more n k some more =
    let whole : k / n * n + k % n ≡ k = div-add-mod' k n in
    let less : k % n < n = mod_below k n some in
    let next : k / n * n + (k % n + 1) ≡ k + 1 = omega arith in
    sym (mod-mul-add (k / n) n (k % n + 1) (omega arith)) ∙ ap (λ (m : ℕ). m % n) next

after-rest : (n k : ℕ) → 0 < n → after_pick (ones n) (picked_before n (k % n)) (Some (k % n)) ≡ picked_before n ((k + 1) % n)
after-rest n k some =
    let less : k % n < n = mod_below k n some in
    elim (cases_eq (k % n + 1) n) [
      | inl last ↦ after-last n (k % n) less last ∙ ap (picked_before n) (rest-last n k some last)
      | inr more ↦ after-turn n (k % n) less more ∙ ap (picked_before n) (rest-more n k some more)
    ]

-- pick k of some picks, by the numbers before it
picked-at : (n : ℕ) (picks : List ℕ) (k : ℕ) → 0 < n → ArePicks (ones n) picks → k < length picks
    → drawn_after (ones n) (take k picks) ≡ picked_before n (k % n) → slice_get picks k ≡ Some (k % n)
picked-at n picks k some h l before =
    sym (h k l) ∙ ap (pick (ones n)) before ∙ turn-picked n (k % n) (mod_below k n some)

drawn-at : (n : ℕ) (picks : List ℕ) → 0 < n → ArePicks (ones n) picks → (k : ℕ) → k ≤ length picks
    → drawn_after (ones n) (take k picks) ≡ picked_before n (k % n)
drawn-at n picks some h zero l =
    let none : 0 ≡ 0 % n = omega arith in
    start-before n ∙ ap (picked_before n) none
drawn-at n picks some h (suc k) l =
    let before = drawn-at n picks some h k (omega arith) in
    let less : k < length picks = omega arith in
    let at : Some (get_or picks k 0) ≡ Some (k % n) = sym (slice_get-get_or picks k 0 less) ∙ picked-at n picks k some h less before in
    let picked : get_or picks k 0 ≡ k % n = cc at in
    subst (λ m. drawn_after (ones n) (take m picks) ≡ picked_before n (m % n)) (add-one k)
    (drawn-more (ones n) picks k less ∙ (λ t. after_pick (ones n) (before t) (Some (picked t))) ∙ after-rest n k some)

pub picked_in_turn : ArePickedInTurn
picked_in_turn n picks some h k l = picked-at n picks k some h l (drawn-at n picks some h k (omega arith))

-- numbers of equal weights are equal where the lists are
not_true : (b : Bool) → (b ≡ true → ⊥) → b ≡ false
not_true true h = absurd (h refl)
not_true false h = refl

pub count-seen : (m n : ℕ) → eqb m n ≡ bytes_eq (ones m) (ones n)
count-seen m n =
    let decides = bytes_eq-Decides (ones m) (ones n) in
    elim (cases_eq m n) [
      | inl same ↦ eq-eqb m n same ∙ sym (decides.1 (ap (λ (k : ℕ). ones k) same))
      | inr other ↦ ne_eqb m n other
          ∙ sym (not_true (bytes_eq (ones m) (ones n)) (λ e. other (sym (length-ones m) ∙ ap length (decides.0 e) ∙ length-ones n)))
    ]
