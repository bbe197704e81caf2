-- How many names and fronts are probed.
use Rattle.std.proofs.Common.{◌≡◌, ◌∙◌, refl, sym, ap, ℕ, zero, suc, ◌+◌, ◌*◌, ◌<◌, ◌≤◌, arith, Bool, true, false, cond, ◌==◌, List, [], ◌∷◌, length, take, drop, count_by, slice_index, drop-cons, take_all, add-mul, add_comm, one-mul, zero-add}
use Rattle.std.proofs.lemmas.List.Sums.{count_by_more_no, count_by_more_yes, sum_by-cons}
use Rattle.gw_text.specs.model.Paths.{SLASH}
use Rattle.gw_cells.specs.model.Addresses.{DOT}
use Rattle.gw_cells.specs.model.Probes.{element_count, fronts, is_slash_at, label_count, names_above}

fronts_among : (path : List ℕ) (n : ℕ) → n ≤ length path → length (fronts path n) ≡ count_by (λ b. b == SLASH) (take n path)
fronts_among [] zero within = refl
fronts_among (x ∷ path) zero within = refl
fronts_among path (suc n) within = by (is_slash_at path n) refl (fronts_among path n (omega arith))
  where
    by : (b : Bool) → is_slash_at path n ≡ b → length (fronts path n) ≡ count_by (λ b. b == SLASH) (take n path)
        → length (fronts path (suc n)) ≡ count_by (λ b. b == SLASH) (take (suc n) path)
    by true e more =
        let step : count_by (λ b. b == SLASH) (take (n + 1) path) ≡ count_by (λ b. b == SLASH) (take n path) + 1 = count_by_more_yes (λ b. b == SLASH) path n 0 (omega arith) e in
        let next : suc n ≡ n + 1 = omega arith in
        let whole : count_by (λ b. b == SLASH) (take (suc n) path) ≡ count_by (λ b. b == SLASH) (take n path) + 1 =
        ap (λ (k : ℕ). count_by (λ b. b == SLASH) (take k path)) next ∙ step in
        rw e (omega arith)
    by false e more =
        let step : count_by (λ b. b == SLASH) (take (n + 1) path) ≡ count_by (λ b. b == SLASH) (take n path) = count_by_more_no (λ b. b == SLASH) path n 0 (omega arith) e in
        let next : suc n ≡ n + 1 = omega arith in
        rw e (more ∙ sym step ∙ ap (λ (k : ℕ). count_by (λ b. b == SLASH) (take k path)) (sym next))

-- A front for each element.
pub fronts_count : (path : List ℕ) → length (fronts path (length path)) ≡ element_count path
fronts_count path = fronts_among path (length path) (omega arith) ∙ ap (count_by (λ b. b == SLASH)) (take_all (length path) path (omega arith))

-- A name for each dot, and the empty one.
pub names_count : (host : List ℕ) → length (names_above host) ≡ label_count host
names_count [] = refl
names_count (b ∷ host) = by (b == DOT) refl (names_count host)
  where
    counted : count_by (λ c. c == DOT) (b ∷ host) ≡ cond (b == DOT) 1 0 + count_by (λ c. c == DOT) host
    counted = sum_by-cons (λ (c : ℕ). cond (c == DOT) 1 0) b host

    by : (c : Bool) → (b == DOT) ≡ c → length (names_above host) ≡ label_count host → length (names_above (b ∷ host)) ≡ label_count (b ∷ host)
    by true e more =
        let here : count_by (λ c. c == DOT) (b ∷ host) ≡ 1 + count_by (λ c. c == DOT) host = counted ∙ ap (λ (d : Bool). cond d 1 0 + count_by (λ c. c == DOT) host) e in
        let names : names_above (b ∷ host) ≡ (b ∷ host) ∷ names_above host = rw e refl in
        let size : length ((b ∷ host) ∷ names_above host) ≡ length (names_above host) + 1 = omega arith in
        ap length names ∙ size ∙ ap (λ (n : ℕ). n + 1) more
        ∙ ap (λ (n : ℕ). n + 1) (add_comm (count_by (λ c. c == DOT) host) 1)
        ∙ sym (ap (λ (n : ℕ). n + 1) here)
    by false e more =
        let here : count_by (λ c. c == DOT) (b ∷ host) ≡ 0 + count_by (λ c. c == DOT) host = counted ∙ ap (λ (d : Bool). cond d 1 0 + count_by (λ c. c == DOT) host) e in
        let names : names_above (b ∷ host) ≡ names_above host = rw e refl in
        ap length names ∙ more ∙ ap (λ (n : ℕ). n + 1) (sym (here ∙ zero-add (count_by (λ c. c == DOT) host)))

-- One name more has so many probes more.
pub one_more_name : (names most : ℕ) → (names + 1) * most ≡ names * most + most
one_more_name names most = add-mul names 1 most ∙ ap (λ (n : ℕ). names * most + n) (one-mul most)

-- The fronts before so many bytes, by the last of these.
pub fronts_left : (path : List ℕ) (end rest : ℕ) → end ≡ rest + 1
    → fronts path end ≡ cond (is_slash_at path rest) (take rest path ∷ fronts path rest) (fronts path rest)
fronts_left path end rest is =
    let next : end ≡ suc rest = omega arith in
    ap (fronts path) next

-- The names from a byte on, by this byte.
pub above_left : (host : List ℕ) (i : ℕ) → i < length host
    → names_above (drop i host) ≡ cond (slice_index host i == DOT) (drop i host ∷ names_above (drop (i + 1) host)) (names_above (drop (i + 1) host))
above_left host i within =
    let next : suc i ≡ i + 1 = omega arith in
    let whole : drop i host ≡ slice_index host i ∷ drop (i + 1) host = drop-cons host i 0 within ∙ ap (λ (k : ℕ). slice_index host i ∷ drop k host) next in
    ap names_above whole
    ∙ ap (λ (t : List ℕ). cond (slice_index host i == DOT) (t ∷ names_above (drop (i + 1) host)) (names_above (drop (i + 1) host))) (sym whole)
