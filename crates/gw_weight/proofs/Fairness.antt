-- Picks made one after the other are fair.
use Rattle.std.proofs.Common.{◌≡◌, ◌≢◌, ℕ, ◌+◌, ◌*◌, ◌<◌, ◌≤◌, ◌%◌, cond, eqb, inl, inr, List, [], ◌∷◌, ◌++◌, length, take, sum, get_or, refl, sym, ap, subst, ◌∙◌, arith, suc, zero, Some, None, Option, add-one}
use Rattle.std.proofs.Math.Nat.{add-mul-mod_self_right, mod-eq_of_lt}
use Rattle.std.proofs.lemmas.Bool.{cases_eq, cases_lt}
use Rattle.std.proofs.lemmas.Int.{ints}
use Rattle.std.proofs.lemmas.List.{get_or_past, length_push, take-append-le, take_all}
use Rattle.std.proofs.lemmas.List.Sums.{fold_more, get_or-le-sum_by, sum_by_more}
use Rattle.std.proofs.lemmas.Option.{slice_get-get_or}
use Rattle.std.specs.List.{find, list_all, range_with_len, slice_get}
use Rattle.std.specs.Prelude.{ℤ, pos, ◌-ℤ◌, int_le}
use Rattle.gw_text.specs.model.Picks.{AreFair, ArePicks, IsKept, after_pick, claim, counted, drawn_after, pick, times, zeros}
use Rattle.gw_weight.proofs.Claims.{Picked, after_pick-counted, after_pick-over, counted-IsKept, counted-full, counted-get, pick-Picked, sum-counted, sum-zeros, zeros-IsKept, zeros-get}

-- after k picks: the rounds that are over, and the numbers since
record Rounds (ws picks : List ℕ) (k : ℕ) : Type 0 where
  rounds : ℕ
  kept : IsKept ws (drawn_after ws (take k picks))
  numbers : (j : ℕ) → times picks k j ≡ get_or (drawn_after ws (take k picks)) j 0 + rounds * get_or ws j 0
  all : k ≡ sum (drawn_after ws (take k picks)) + rounds * sum ws

Rounds-start : (ws picks : List ℕ) → Rounds ws picks 0
Rounds-start ws picks = record {
  rounds = 0;
  kept = zeros-IsKept ws;
  numbers = λ j. (let none : get_or (zeros ws) j 0 ≡ 0 = zeros-get ws j in omega arith);
  all = let none : sum (zeros ws) ≡ 0 = sum-zeros ws in omega arith;
}

pub drawn-more : (ws picks : List ℕ) (k : ℕ) → k < length picks → drawn_after ws (take (k + 1) picks) ≡ after_pick ws (drawn_after ws (take k picks)) (Some (get_or picks k 0))
drawn-more ws picks k l = fold_more (λ drawn i. after_pick ws drawn (Some i)) (zeros ws) picks k 0 l

times-more : (picks : List ℕ) (k j : ℕ) → k < length picks → times picks (k + 1) j ≡ times picks k j + cond (eqb (get_or picks k 0) j) 1 0
times-more picks k j l = sum_by_more (λ x. cond (eqb x j) 1 0) picks k 0 l

number_over : (t n r w c m : ℕ) → t ≡ n + r * w → m ≡ n + c → m ≡ w → t + c ≡ 0 + (r + 1) * w
number_over t n r w c m e f g = omega arith

number_on : (t n r w c m : ℕ) → t ≡ n + r * w → m ≡ n + c → t + c ≡ m + r * w
number_on t n r w c m e f = omega arith

Rounds-over : (ws picks : List ℕ) (k : ℕ) → k < length picks → (r : Rounds ws picks k)
    → let d = drawn_after ws (take k picks) in let i = get_or picks k 0 in
    Picked ws (sum d) (λ j. get_or d j 0) i → sum (counted d i) ≡ sum ws → Rounds ws picks (k + 1)
Rounds-over ws picks k l r picked over =
    let d = drawn_after ws (take k picks) in
    let i = get_or picks k 0 in
    let within : i < length d = omega (arith, picked.within, r.kept.lengths) in
    let cleared : drawn_after ws (take (k + 1) picks) ≡ zeros ws = drawn-more ws picks k l ∙ after_pick-over ws d i over in
    let full : counted d i ≡ ws = counted-full ws d i r.kept picked over in
    record {
      rounds = r.rounds + 1;
      kept = subst (IsKept ws) (sym cleared) (zeros-IsKept ws);
      numbers = λ j.
          times-more picks k j l
          ∙ number_over (times picks k j) (get_or d j 0) r.rounds (get_or ws j 0) (cond (eqb i j) 1 0) (get_or (counted d i) j 0)
          (r.numbers j) (counted-get d i j within) (ap (λ n. get_or n j 0) full)
          ∙ ap (λ n. n + (r.rounds + 1) * get_or ws j 0) (sym (zeros-get ws j) ∙ ap (λ n. get_or n j 0) (sym cleared));
      all =
          let before : k ≡ sum d + r.rounds * sum ws = r.all in
          let more : sum (counted d i) ≡ sum d + 1 = sum-counted d i within in
          let none : sum (drawn_after ws (take (k + 1) picks)) ≡ 0 = ap sum cleared ∙ sum-zeros ws in
          omega arith;
    }

Rounds-on : (ws picks : List ℕ) (k : ℕ) → k < length picks → (r : Rounds ws picks k)
    → let d = drawn_after ws (take k picks) in let i = get_or picks k 0 in
    Picked ws (sum d) (λ j. get_or d j 0) i → sum (counted d i) ≢ sum ws → Rounds ws picks (k + 1)
Rounds-on ws picks k l r picked unfinished =
    let d = drawn_after ws (take k picks) in
    let i = get_or picks k 0 in
    let within : i < length d = omega (arith, picked.within, r.kept.lengths) in
    let next : drawn_after ws (take (k + 1) picks) ≡ counted d i = drawn-more ws picks k l ∙ after_pick-counted ws d i unfinished in
    record {
      rounds = r.rounds;
      kept = subst (IsKept ws) (sym next) (counted-IsKept ws d i r.kept picked unfinished);
      numbers = λ j.
          times-more picks k j l
          ∙ number_on (times picks k j) (get_or d j 0) r.rounds (get_or ws j 0) (cond (eqb i j) 1 0) (get_or (counted d i) j 0) (r.numbers j) (counted-get d i j within)
          ∙ ap (λ n. n + r.rounds * get_or ws j 0) (ap (λ n. get_or n j 0) (sym next));
      all =
          let before : k ≡ sum d + r.rounds * sum ws = r.all in
          let more : sum (counted d i) ≡ sum d + 1 = sum-counted d i within in
          let same : sum (drawn_after ws (take (k + 1) picks)) ≡ sum (counted d i) = ap sum next in
          omega arith;
    }

Rounds-more : (ws picks : List ℕ) (k : ℕ) → k < length picks → ArePicks ws picks → Rounds ws picks k → Rounds ws picks (k + 1)
Rounds-more ws picks k l h r =
    let d = drawn_after ws (take k picks) in
    let i = get_or picks k 0 in
    let picked = pick-Picked ws (sum d) (λ j. get_or d j 0) i (h k l ∙ slice_get-get_or picks k 0 l) in
    elim (cases_eq (sum (counted d i)) (sum ws)) [
      | inl over ↦ Rounds-over ws picks k l r picked over
      | inr unfinished ↦ Rounds-on ws picks k l r picked unfinished
    ]

Rounds-at : (ws picks : List ℕ) → ArePicks ws picks → (k : ℕ) → k ≤ length picks → Rounds ws picks k
Rounds-at ws picks h zero l = Rounds-start ws picks
Rounds-at ws picks h (suc k) l = subst (Rounds ws picks) (add-one k) (Rounds-more ws picks k (omega arith) h (Rounds-at ws picks h k (omega arith)))

near_by : (m k n s r w W : ℕ) → m ≡ n + r * w → k ≡ s + r * W → n * W < s * w + W → m * W < k * w + W
near_by m k n s r w W e f h = rw (e, f) (omega arith)

exact_by : (m k n s r w W : ℕ) → m ≡ n + r * w → k ≡ s + r * W → n ≡ 0 → s ≡ 0 → m * W ≡ k * w
exact_by m k n s r w W e f g h = rw (e, f, g, h) (omega arith)

differences : (a b c d : ℕ) → a + d ≡ c + b → (pos a -ℤ pos b) ≡ (pos c -ℤ pos d)
differences a b c d e = omega (arith, ints)

claim_by : (m k n s r w W : ℕ) → m ≡ n + r * w → k ≡ s + r * W → pos ((k + 1) * w) -ℤ pos (m * W) ≡ pos ((s + 1) * w) -ℤ pos (n * W)
claim_by m k n s r w W e f =
    let sums : (k + 1) * w + n * W ≡ (s + 1) * w + m * W = rw (e, f) (omega arith) in
    differences ((k + 1) * w) (m * W) ((s + 1) * w) (n * W) sums

none_of : (ns : List ℕ) (j : ℕ) → sum ns ≡ 0 → get_or ns j 0 ≡ 0
none_of ns j e =
    elim (cases_lt j (length ns)) [
      | inl l ↦ (let part : get_or ns j 0 ≤ sum ns = get_or-le-sum_by (λ x. x) ns j 0 l in omega arith)
      | inr past ↦ get_or_past ns j 0 past
    ]

-- the picks depend on the claims alone
abbrev pick_by : List ℕ → (ℕ → ℤ) → Option ℕ
pick_by ws c =
    let places = range_with_len 0 (length ws) in
    cond (eqb (sum ws) 0) None (find (λ i. list_all (λ j. int_le (c j) (c i)) places) places)

pub ArePicks-fair : (ws picks : List ℕ) → 0 < sum ws → ArePicks ws picks → AreFair ws picks
ArePicks-fair ws picks positive h = record {
  near = λ k i l.
      (let r = Rounds-at ws picks h k l in
      let d = drawn_after ws (take k picks) in
      near_by (times picks k i) k (get_or d i 0) (sum d) r.rounds (get_or ws i 0) (sum ws) (r.numbers i) r.all (r.kept.shared positive i));
  exact = λ k i l whole.
      (let r = Rounds-at ws picks h k l in
      let d = drawn_after ws (take k picks) in
      let none : sum d ≡ 0 = sym (mod-eq_of_lt (r.kept.unfinished positive)) ∙ sym (add-mul-mod_self_right (sum d) r.rounds (sum ws)) ∙ ap (λ n. n % sum ws) (sym r.all) ∙ whole in
      exact_by (times picks k i) k (get_or d i 0) (sum d) r.rounds (get_or ws i 0) (sum ws) (r.numbers i) r.all (none_of d i none) none);
  next = λ k l.
      (let r = Rounds-at ws picks h k (omega arith) in
      let d = drawn_after ws (take k picks) in
      let same : claim ws k (times picks k) ≡ claim ws (sum d) (λ j. get_or d j 0) =
      λ t j. claim_by (times picks k j) k (get_or d j 0) (sum d) r.rounds (get_or ws j 0) (sum ws) (r.numbers j) r.all t in
      ap (pick_by ws) same ∙ h k l);
}

slice_get-push_before : (xs : List ℕ) (y k : ℕ) → k < length xs → slice_get (xs ++ y ∷ []) k ≡ slice_get xs k
slice_get-push_before [] y k l = absurd (omega arith)
slice_get-push_before (x ∷ xs) y zero l = refl
slice_get-push_before (x ∷ xs) y (suc k) l = slice_get-push_before xs y k (omega arith)

slice_get-push_at : (xs : List ℕ) (y : ℕ) → slice_get (xs ++ y ∷ []) (length xs) ≡ Some y
slice_get-push_at [] y = refl
slice_get-push_at (x ∷ xs) y = slice_get-push_at xs y

-- one more pick
pub ArePicks-push : (ws picks : List ℕ) (i : ℕ) → ArePicks ws picks → pick ws (drawn_after ws picks) ≡ Some i → ArePicks ws (picks ++ i ∷ [])
ArePicks-push ws picks i h e k l =
    elim (cases_lt k (length picks)) [
      | inl before ↦
          ap (λ ps. pick ws (drawn_after ws ps)) (take-append-le k picks (i ∷ []) (omega arith)) ∙ h k before ∙ sym (slice_get-push_before picks i k before)
      | inr past ↦ (
          let last : length picks ≡ k = (let longer = length_push picks i in omega arith) in
          subst (λ n. pick ws (drawn_after ws (take n (picks ++ i ∷ []))) ≡ slice_get (picks ++ i ∷ []) n) last
          (ap (λ ps. pick ws (drawn_after ws ps)) (take-append-le (length picks) picks (i ∷ []) (omega arith) ∙ take_all (length picks) picks (omega arith))
          ∙ e ∙ sym (slice_get-push_at picks i)))
    ]
