-- The pick in numbers, and what it keeps.
use Rattle.std.proofs.Common.{◌≡◌, ◌≢◌, ℕ, ◌+◌, ◌*◌, ◌<◌, ◌≤◌, Bool, true, false, cond, inl, inr, List, [], ◌∷◌, length, sum, below_more, get_or, refl, sym, ap, subst, ◌∙◌, true≢false, eqb, arith, suc, zero, Some, None, add-zero, mul-zero, ◌^◌}
use Rattle.std.proofs.lemmas.Bool.{and_from, and_parts, cases_eq, cases_lt, eq-eqb, eqb-false, ne_eqb}
use Rattle.std.proofs.lemmas.Int.{ints}
use Rattle.std.proofs.lemmas.List.{get_or-set_same, get_or-set_other, get_or-replicate, get_or_past, length-set, length-replicate}
use Rattle.std.proofs.lemmas.List.Sums.{sum_by-cons, sum_by-set}
use Rattle.std.proofs.lemmas.List.Folds.{sum_by-replicate}
use Rattle.std.proofs.Math.Nat.{lt_of_mul-lt-mul_right, mul-le-mul_right}
use Rattle.std.specs.Prelude.{ℤ, pos, ◌-ℤ◌, ◌≤ℤ◌, ◌<ℤ◌, int_le}
use Rattle.std.specs.List.{find, list_all, range_with_len}
use Rattle.gw_text.specs.model.Picks.{Shares, claim, pick_after, pick, counted, zeros, after_pick, IsKept}
use Rattle.gw_weight.specs.Fair.{IsFairPick}

sum-cons : (x : ℕ) (xs : List ℕ) → sum (x ∷ xs) ≡ x + sum xs
sum-cons x xs = sum_by-cons (λ y. y) x xs

pub sum-some : (xs : List ℕ) → 0 < sum xs → 0 < length xs
sum-some [] h = absurd (omega arith)
sum-some (x ∷ xs) h = omega arith

-- where each element of one list, a times, is at most that of the other, b times, so are the sums
sum-scaled : (a b : ℕ) (ws ns : List ℕ) → length ns ≡ length ws → ((j : ℕ) → a * get_or ws j 0 ≤ get_or ns j 0 * b) → a * sum ws ≤ sum ns * b
sum-scaled a b [] [] e h = omega arith
sum-scaled a b [] (n ∷ ns) e h = absurd (omega arith)
sum-scaled a b (w ∷ ws) [] e h = absurd (omega arith)
sum-scaled a b (w ∷ ws) (n ∷ ns) e h =
    let here : a * w ≤ n * b = h 0 in
    let rest : a * sum ws ≤ sum ns * b = sum-scaled a b ws ns (omega arith) (λ j. h (suc j)) in
    rw (sum-cons w ws, sum-cons n ns) (omega arith)

-- lists of equal sums of which one is nowhere above the other are equal
same-from_sums : (ns ws : List ℕ) → length ns ≡ length ws → ((j : ℕ) → get_or ns j 0 ≤ get_or ws j 0) → sum ns ≡ sum ws → ns ≡ ws
same-from_sums [] [] e h s = refl
same-from_sums [] (w ∷ ws) e h s = absurd (omega arith)
same-from_sums (n ∷ ns) [] e h s = absurd (omega arith)
same-from_sums (n ∷ ns) (w ∷ ws) e h s =
    let here : n ≤ w = h 0 in
    let lengths : length ws ≡ length ns = omega arith in
    let rest : 1 * sum ns ≤ sum ws * 1 = sum-scaled 1 1 ns ws lengths (λ j. let below : get_or ns j 0 ≤ get_or ws j 0 = h (suc j) in omega arith) in
    let sums : n + sum ns ≡ w + sum ws = sym (sum-cons n ns) ∙ s ∙ sum-cons w ws in
    let head : n ≡ w = omega arith in
    let tail : ns ≡ ws = same-from_sums ns ws (sym lengths) (λ j. h (suc j)) (omega arith) in
    cc

-- the first number from a on that passes
find-range : (p : ℕ → Bool) (a n i : ℕ) → a ≤ i → i < a + n → p i ≡ true → ((j : ℕ) → a ≤ j → j < i → p j ≡ false) → find p (range_with_len a n) ≡ Some i
find-range p a zero i low high passes fails = absurd (omega arith)
find-range p a (suc n) i low high passes fails =
    elim (cases_eq a i) [
      | inl same ↦ (let here : p a ≡ true = ap p same ∙ passes in
          ap (λ b. cond b (Some a) (find p (range_with_len (a + 1) n))) here ∙ ap (λ (x : ℕ). Some x) same)
      | inr other ↦ (let here : p a ≡ false = fails a (omega arith) (omega arith) in
          ap (λ b. cond b (Some a) (find p (range_with_len (a + 1) n))) here
          ∙ find-range p (a + 1) n i (omega arith) (omega arith) passes (λ j l. fails j (omega arith)))
    ]

one-find : (b : Bool) (p : ℕ → Bool) (a n i : ℕ) → p a ≡ b → cond b (Some a) (find p (range_with_len (a + 1) n)) ≡ Some i
    → (find p (range_with_len (a + 1) n) ≡ Some i → (i < a + 1 + n) × (p i ≡ true)) → (i < a + suc n) × (p i ≡ true)
one-find true p a n i here e more = let same : a ≡ i = cc e in (omega arith, ap p (sym same) ∙ here)
one-find false p a n i here e more = let found = more e in (omega (arith, found.0), found.1)

range-find : (p : ℕ → Bool) (a n i : ℕ) → find p (range_with_len a n) ≡ Some i → (i < a + n) × (p i ≡ true)
range-find p a zero i e = absurd (cc e)
range-find p a (suc n) i e = one-find (p a) p a n i refl e (range-find p (a + 1) n i)

all-range : (q : ℕ → Bool) (a n : ℕ) → ((j : ℕ) → a ≤ j → j < a + n → q j ≡ true) → list_all q (range_with_len a n) ≡ true
all-range q a zero h = refl
all-range q a (suc n) h =
    and_from (q a) (list_all q (range_with_len (a + 1) n)) (h a (omega arith) (omega arith))
    (all-range q (a + 1) n (λ j l m. h j (omega arith) (omega arith)))

range-all : (q : ℕ → Bool) (a n : ℕ) → list_all q (range_with_len a n) ≡ true → (j : ℕ) → a ≤ j → j < a + n → q j ≡ true
range-all q a zero h j l m = absurd (omega arith)
range-all q a (suc n) h j l m =
    let parts = and_parts (q a) (list_all q (range_with_len (a + 1) n)) h in
    elim (cases_eq j a) [
      | inl same ↦ ap q same ∙ parts.0
      | inr other ↦ range-all q (a + 1) n parts.1 j (omega arith) (omega arith)
    ]

int_le-le : (x y : ℤ) → int_le x y ≡ true → x ≤ℤ y
int_le-le x y e = grind (arith, ints)

le-int_le : (x y : ℤ) → x ≤ℤ y → int_le x y ≡ true
le-int_le x y h = grind (arith, ints)

lt-not_le : (x y : ℤ) → x <ℤ y → int_le y x ≡ false
lt-not_le x y h = grind (arith, ints)

-- of the first i, b is the first that has the most
pub record Leads (c : ℕ → ℤ) (i b : ℕ) : Type 0 where
  pub within : b < i
  pub most : (j : ℕ) → j < i → c j ≤ℤ c b
  pub first : (j : ℕ) → j < b → c j <ℤ c b

at_least_itself : (x : ℤ) → x ≤ℤ x
at_least_itself x = omega (arith, ints)

le_below : (x y z : ℤ) → x ≤ℤ y → y <ℤ z → x <ℤ z
le_below x y z h k = omega (arith, ints)

below_le : (x y : ℤ) → x <ℤ y → x ≤ℤ y
below_le x y h = omega (arith, ints)

pub Leads-start : (c : ℕ → ℤ) → Leads c 1 0
Leads-start c = record {
  within = omega arith;
  most = λ j l. (let none : j ≡ 0 = omega arith in subst (λ (k : ℕ). c k ≤ℤ c 0) (sym none) (at_least_itself (c 0)));
  first = λ j l. absurd (omega arith);
}

pub Leads-takes : (c : ℕ → ℤ) (i b : ℕ) → Leads c i b → c b <ℤ c i → Leads c (i + 1) i
Leads-takes c i b h above = record {
  within = omega arith;
  most = below_more (λ j. c j ≤ℤ c i) i (λ j l. below_le _ _ (le_below _ _ _ (h.most j l) above)) (at_least_itself (c i));
  first = λ j l. le_below _ _ _ (h.most j l) above;
}

pub Leads-keeps : (c : ℕ → ℤ) (i b : ℕ) → Leads c i b → c i ≤ℤ c b → Leads c (i + 1) b
Leads-keeps c i b h not_above = record {
  within = omega (arith, h.within);
  most = below_more (λ j. c j ≤ℤ c b) i h.most not_above;
  first = h.first;
}

-- one picks: the sum isn't 0, and none claims more
pub record Picked (ws : List ℕ) (k : ℕ) (n : ℕ → ℕ) (i : ℕ) : Type 0 where
  pub positive : 0 < sum ws
  pub within : i < length ws
  pub most : (j : ℕ) → j < length ws → claim ws k n j ≤ℤ claim ws k n i

abbrev leads : (ℕ → ℤ) → ℕ → ℕ → Bool
leads c m i = list_all (λ j. int_le (c j) (c i)) (range_with_len 0 m)

leads_not : (c : ℕ → ℤ) (m i b : ℕ) → b < m → c i <ℤ c b → leads c m i ≡ false
leads_not c m i b l h = by (leads c m i) refl
  where
    by : (t : Bool) → leads c m i ≡ t → t ≡ false
    by false e = refl
    by true e = sym (range-all (λ j. int_le (c j) (c i)) 0 m e b (omega arith) (omega arith)) ∙ lt-not_le (c i) (c b) h

pub Leads-pick : (ws : List ℕ) (k : ℕ) (n : ℕ → ℕ) (b : ℕ) → 0 < sum ws → Leads (claim ws k n) (length ws) b → pick_after ws k n ≡ Some b
Leads-pick ws k n b positive h =
    let c = claim ws k n in
    let m = length ws in
    ap (λ t. cond t None (find (leads c m) (range_with_len 0 m))) (ne_eqb (sum ws) 0 (λ e. omega arith))
    ∙ find-range (leads c m) 0 m b (omega arith) (omega (arith, h.within))
    (all-range (λ j. int_le (c j) (c b)) 0 m (λ j l g. le-int_le (c j) (c b) (h.most j (omega arith))))
    (λ j l g. leads_not c m j b h.within (h.first j g))

pub pick-Picked : (ws : List ℕ) (k : ℕ) (n : ℕ → ℕ) (i : ℕ) → pick_after ws k n ≡ Some i → Picked ws k n i
pick-Picked ws k n i e = by (eqb (sum ws) 0) refl
  where
    c : ℕ → ℤ
    c = claim ws k n

    by : (t : Bool) → eqb (sum ws) 0 ≡ t → Picked ws k n i
    by true none =
        let wrong : None ≡ Some i = sym (ap (λ t. cond t None (find (leads (claim ws k n) (length ws)) (range_with_len 0 (length ws)))) none) ∙ e in
        absurd (cc wrong)
    by false some =
        let differs = eqb-false (sum ws) 0 some in
        let found = range-find (leads (claim ws k n) (length ws)) 0 (length ws) i
        (sym (ap (λ t. cond t None (find (leads (claim ws k n) (length ws)) (range_with_len 0 (length ws)))) some) ∙ e) in
        record {
          positive = omega arith;
          within = omega (arith, found.0);
          most = λ j l. int_le-le _ _ (range-all (λ m. int_le (claim ws k n m) (claim ws k n i)) 0 (length ws) found.1 j (omega arith) (omega arith));
        }

-- where a claim isn't above 0, none is that isn't above it
claim_order : (a b c d : ℕ) → (pos a -ℤ pos b) ≤ℤ (pos c -ℤ pos d) → c ≤ d → a ≤ b
claim_order a b c d h l = omega (arith, ints)

nothing_past : (a b : ℕ) (ws ns : List ℕ) (j : ℕ) → length ns ≡ length ws → length ws ≤ j → a * get_or ws j 0 ≤ get_or ns j 0 * b
nothing_past a b ws ns j e l =
    let w : get_or ws j 0 ≡ 0 = get_or_past ws j 0 l in
    let n : get_or ns j 0 ≡ 0 = get_or_past ns j 0 (omega arith) in
    rw (w, n) (omega arith)

-- the claims have the sum W, so the greatest is above 0
pub pick-ahead : (ws ns : List ℕ) (i : ℕ) → length ns ≡ length ws → Picked ws (sum ns) (λ j. get_or ns j 0) i
    → get_or ns i 0 * sum ws < (sum ns + 1) * get_or ws i 0
pick-ahead ws ns i e h =
    elim (cases_lt (get_or ns i 0 * sum ws) ((sum ns + 1) * get_or ws i 0)) [
      | inl ahead ↦ ahead
      | inr behind ↦ (
          let each : (j : ℕ) → (sum ns + 1) * get_or ws j 0 ≤ get_or ns j 0 * sum ws = λ j.
          (elim (cases_lt j (length ws)) [
            | inl l ↦ claim_order _ _ _ _ (h.most j l) behind
            | inr past ↦ nothing_past (sum ns + 1) (sum ws) ws ns j e past
          ]) in
          let sums : (sum ns + 1) * sum ws ≤ sum ns * sum ws = sum-scaled (sum ns + 1) (sum ws) ws ns e each in
          let positive : 0 < sum ws = h.positive in
          absurd (omega arith))
    ]

pub counted-get : (ns : List ℕ) (i j : ℕ) → i < length ns → get_or (counted ns i) j 0 ≡ get_or ns j 0 + cond (eqb i j) 1 0
counted-get ns i j l =
    elim (cases_eq i j) [
      | inl same ↦ subst (λ m. get_or (counted ns i) m 0 ≡ get_or ns m 0 + cond (eqb i m) 1 0) same
          (get_or-set_same ns i (get_or ns i 0 + 1) 0 l ∙ ap (λ t. get_or ns i 0 + cond t 1 0) (sym (eq-eqb i i refl)))
      | inr other ↦ get_or-set_other ns i j (get_or ns i 0 + 1) 0 (λ e. other (sym e))
          ∙ sym (add-zero (get_or ns j 0)) ∙ ap (λ t. get_or ns j 0 + cond t 1 0) (sym (ne_eqb i j other))
    ]

pub sum-counted : (ns : List ℕ) (i : ℕ) → i < length ns → sum (counted ns i) ≡ sum ns + 1
sum-counted ns i l =
    let moved : sum (counted ns i) + get_or ns i 0 ≡ sum ns + (get_or ns i 0 + 1) = sum_by-set (λ x. x) ns i (get_or ns i 0 + 1) 0 l in
    omega arith

-- after the pick still no number is a whole pick ahead of its share
counted-shared : (ws ns : List ℕ) (i : ℕ) → IsKept ws ns → Picked ws (sum ns) (λ j. get_or ns j 0) i
    → (j : ℕ) → get_or (counted ns i) j 0 * sum ws < (sum ns + 1) * get_or ws j 0 + sum ws
counted-shared ws ns i kept picked j =
    let positive : 0 < sum ws = picked.positive in
    let within : i < length ws = picked.within in
    let lengths : length ns ≡ length ws = kept.lengths in
    let number = counted-get ns i j (omega arith) in
    elim (cases_eq i j) [
      | inl same ↦ (
          let ahead : get_or ns j 0 * sum ws < (sum ns + 1) * get_or ws j 0 =
          subst (λ m. get_or ns m 0 * sum ws < (sum ns + 1) * get_or ws m 0) same (pick-ahead ws ns i lengths picked) in
          let one : get_or (counted ns i) j 0 ≡ get_or ns j 0 + 1 = number ∙ ap (λ t. get_or ns j 0 + cond t 1 0) (eq-eqb i j same) in
          rw one (omega arith))
      | inr other ↦ (
          let shared : get_or ns j 0 * sum ws < sum ns * get_or ws j 0 + sum ws = kept.shared positive j in
          let same : get_or (counted ns i) j 0 ≡ get_or ns j 0 + 0 = number ∙ ap (λ t. get_or ns j 0 + cond t 1 0) (ne_eqb i j other) in
          rw same (omega arith))
    ]

-- where the round is over, the numbers are the weights
pub counted-full : (ws ns : List ℕ) (i : ℕ) → IsKept ws ns → Picked ws (sum ns) (λ j. get_or ns j 0) i → sum (counted ns i) ≡ sum ws → counted ns i ≡ ws
counted-full ws ns i kept picked over =
    let lengths : length ns ≡ length ws = kept.lengths in
    let within : i < length ns = omega (arith, picked.within) in
    let whole : sum ns + 1 ≡ sum ws = sym (sum-counted ns i within) ∙ over in
    same-from_sums (counted ns i) ws (length-set ns i (get_or ns i 0 + 1) ∙ lengths)
    (λ j.
    let near : get_or (counted ns i) j 0 * sum ws < (sum ns + 1) * get_or ws j 0 + sum ws = counted-shared ws ns i kept picked j in
    let total : get_or (counted ns i) j 0 * sum ws < sum ws * get_or ws j 0 + sum ws =
    subst (λ k. get_or (counted ns i) j 0 * sum ws < k * get_or ws j 0 + sum ws) whole near in
    let scaled : get_or (counted ns i) j 0 * sum ws < (get_or ws j 0 + 1) * sum ws = omega arith in
    let less : get_or (counted ns i) j 0 < get_or ws j 0 + 1 = lt_of_mul-lt-mul_right (sum ws) scaled in
    omega arith)
    over

pub sum-zeros : (ws : List ℕ) → sum (zeros ws) ≡ 0
sum-zeros ws = sum_by-replicate (λ x. x) (length ws) 0 ∙ mul-zero (length ws)

pub length-zeros : (ws : List ℕ) → length (zeros ws) ≡ length ws
length-zeros ws = length-replicate (length ws) 0

pub zeros-get : (ws : List ℕ) (j : ℕ) → get_or (zeros ws) j 0 ≡ 0
zeros-get ws j =
    elim (cases_lt j (length ws)) [
      | inl l ↦ get_or-replicate (length ws) j 0 0 l
      | inr past ↦ get_or_past (zeros ws) j 0 (let e = length-zeros ws in omega arith)
    ]

pub zeros-IsKept : (ws : List ℕ) → IsKept ws (zeros ws)
zeros-IsKept ws = record {
  lengths = length-zeros ws;
  shared = λ positive j. (rw (zeros-get ws j, sum-zeros ws) (omega arith));
  unfinished = λ positive. (rw sum-zeros (omega arith));
  without = λ none. refl;
}

-- a pick that doesn't end the round
pub counted-IsKept : (ws ns : List ℕ) (i : ℕ) → IsKept ws ns → Picked ws (sum ns) (λ j. get_or ns j 0) i → sum (counted ns i) ≢ sum ws → IsKept ws (counted ns i)
counted-IsKept ws ns i kept picked unfinished =
    let positive : 0 < sum ws = picked.positive in
    let lengths : length ns ≡ length ws = kept.lengths in
    let within : i < length ns = omega (arith, picked.within) in
    let more : sum (counted ns i) ≡ sum ns + 1 = sum-counted ns i within in
    let below : sum ns < sum ws = kept.unfinished positive in
    record {
      lengths = length-set ns i (get_or ns i 0 + 1) ∙ lengths;
      shared = λ p j. (rw more (counted-shared ws ns i kept picked j));
      unfinished = λ p. (let other : sum ns + 1 ≢ sum ws = λ e. unfinished (more ∙ e) in rw more (omega arith));
      without = λ none. absurd (omega arith);
    }

-- the number of a pick is below its weight, so one more fits
pub pick-below_weight : (ws ns : List ℕ) (i : ℕ) → IsKept ws ns → Picked ws (sum ns) (λ j. get_or ns j 0) i → get_or ns i 0 < get_or ws i 0
pick-below_weight ws ns i kept picked =
    let ahead : get_or ns i 0 * sum ws < (sum ns + 1) * get_or ws i 0 = pick-ahead ws ns i kept.lengths picked in
    let below : sum ns < sum ws = kept.unfinished picked.positive in
    let most : (sum ns + 1) * get_or ws i 0 ≤ sum ws * get_or ws i 0 = mul-le-mul_right (get_or ws i 0) (omega arith) in
    let scaled : get_or ns i 0 * sum ws < get_or ws i 0 * sum ws = omega arith in
    lt_of_mul-lt-mul_right (sum ws) scaled

-- what room for products the sum leaves
pub sum-small : (n w : ℕ) → w ≤ n * 4294967295 → n * w < 2 ^ 126 → w * 2 ^ 32 < 2 ^ 126
sum-small n w few small =
    elim (cases_lt n (2 ^ 32)) [
      | inl short ↦ omega arith
      | inr long ↦ (let more : 2 ^ 32 * w ≤ n * w = mul-le-mul_right w long in omega arith)
    ]

-- the value of a pick that is counted
pub after_pick-counted : (ws ns : List ℕ) (i : ℕ) → sum (counted ns i) ≢ sum ws → after_pick ws ns (Some i) ≡ counted ns i
after_pick-counted ws ns i more = ap (λ b. cond b (zeros ws) (counted ns i)) (ne_eqb (sum (counted ns i)) (sum ws) more)

pub after_pick-over : (ws ns : List ℕ) (i : ℕ) → sum (counted ns i) ≡ sum ws → after_pick ws ns (Some i) ≡ zeros ws
after_pick-over ws ns i over = ap (λ b. cond b (zeros ws) (counted ns i)) (eq-eqb (sum (counted ns i)) (sum ws) over)

-- shares after a pick, field by field
pub Shares-after : (after before now : Shares) (i : ℕ) → before ≡ now → after.weights ≡ before.weights → after.drawn ≡ after_pick before.weights before.drawn (Some i)
    → after ≡ record now { drawn = after_pick now.weights now.drawn (Some i) }
Shares-after after before now i e w d =
    let weights : after.weights ≡ now.weights = w ∙ ap (λ (s : Shares). s.weights) e in
    let drawn : after.drawn ≡ after_pick now.weights now.drawn (Some i) = d ∙ ap (λ (s : Shares). after_pick s.weights s.drawn (Some i)) e in
    λ t. record { weights = weights t; drawn = drawn t }

-- what a pick over the value says of the fields
pub inside-Picked : (ws ns : List ℕ) (now : Shares) (i : ℕ) → record { weights = ws; drawn = ns } ≡ now → pick now.weights now.drawn ≡ Some i → Picked ws (sum ns) (λ j. get_or ns j 0) i
inside-Picked ws ns now i same e = pick-Picked ws (sum ns) (λ j. get_or ns j 0) i (ap (λ (s : Shares). pick s.weights s.drawn) same ∙ e)

pub after_pick-IsKept : (ws ns : List ℕ) (i : ℕ) → IsKept ws ns → pick ws ns ≡ Some i → IsKept ws (after_pick ws ns (Some i))
after_pick-IsKept ws ns i kept e =
    elim (cases_eq (sum (counted ns i)) (sum ws)) [
      | inl over ↦ subst (IsKept ws) (sym (after_pick-over ws ns i over)) (zeros-IsKept ws)
      | inr unfinished ↦ subst (IsKept ws) (sym (after_pick-counted ws ns i unfinished))
          (counted-IsKept ws ns i kept (pick-Picked ws (sum ns) (λ j. get_or ns j 0) i e) unfinished)
    ]

-- a pick over numbers that are kept is fair
pub fair-pick : (ws ns : List ℕ) (i : ℕ) → IsKept ws ns → pick ws ns ≡ Some i → IsFairPick ws ns (after_pick ws ns (Some i)) (Some i)
fair-pick ws ns i kept e =
    let picked = pick-Picked ws (sum ns) (λ j. get_or ns j 0) i e in
    let positive : 0 < sum ws = picked.positive in
    record {
      none = ((λ none. absurd (true≢false none)), (λ none. absurd (omega arith)));
      within = picked.within;
      kept = after_pick-IsKept ws ns i kept e;
      round = counted-full ws ns i kept picked;
    }
