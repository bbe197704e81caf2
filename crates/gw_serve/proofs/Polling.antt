-- The numbers of the connections that a ring and a crowd have.
use Rattle.std.proofs.Common.{◌≡◌, ◌≢◌, ◌∙◌, ℕ, suc, ◌+◌, ◌<◌, ◌≤◌, ◌==◌, ◌&&◌, ◌||◌, Bool, true, false, not, eqb, List, [], ◌∷◌, ◌++◌, length, All, AllPairs, IsPermutation, ap, refl, sym, subst, arith}
use Rattle.std.specs.List.{IsDistinct}
use Rattle.std.proofs.lemmas.Bool.Decides.{Decides-eqb, nat_tests}
use Rattle.std.proofs.lemmas.List.{length-append, map-append}
use Rattle.std.proofs.lemmas.List.Elements.{All-head, All-nil, All-push, All-tail, All-weaker}
use Rattle.std.proofs.lemmas.List.Sorted.{All-permutation, length_permutation, list_any-IsPermutation}
use Rattle.std.proofs.lemmas.Map.Keys.{IsDistinct-IsPermutation}
use Rattle.std.proofs.lemmas.Map.Made.{IsDistinct-from_AllPairs}
use Rattle.gw_match.proofs.Pairs.{all_front}
use Rattle.gw_poll.proofs.Crowding.{apart_front, flips}
use Rattle.gw_poll.proofs.Orders.{among_without}
use Rattle.gw_poll.specs.Crowds.{AdmitsOne, CanTurn, IsOpenAt, numbers_in, numbers_of}
use Rattle.gw_poll.specs.declared.crowd.Crowd.{Crowd}
use Rattle.gw_poll.specs.declared.crowd.Member.{Member}
use Rattle.gw_polling.specs.Rings.{is_among, without}
use Rattle.gw_polling.specs.declared.poll_upstream.PollUpstream.{Ghosts as UpstreamWords}
use Rattle.gw_serve.specs.Polled.{AreAlike, AreServed}

among_both : (n : ℕ) (xs ys : List ℕ) → is_among n (xs ++ ys) ≡ is_among n xs || is_among n ys
among_both n [] ys = refl
among_both n (x ∷ xs) ys = by (x == n) (is_among n xs) (is_among n ys) (is_among n (xs ++ ys)) (among_both n xs ys)
  where
    by : (a b c d : Bool) → d ≡ b || c → a || d ≡ (a || b) || c
    by true b c d is = refl
    by false b c d is = is

-- What isn't among the given numbers isn't among some of them.
pub among_none : (n : ℕ) (given numbers : List ℕ) → All (λ m. is_among m given ≡ true) numbers → is_among n given ≡ false → is_among n numbers ≡ false
among_none n given [] all none = refl
among_none n given (m ∷ numbers) all none =
    let rest : is_among n numbers ≡ false = among_none n given numbers (All-tail (λ k. is_among k given ≡ true) m numbers all) none in
    by (m == n) refl rest
  where
    by : (b : Bool) → (m == n) ≡ b → is_among n numbers ≡ false → (m == n) || is_among n numbers ≡ false
    by true is rest =
        let same : m ≡ n = grind (arith, nat_tests) in
        absurd (cc (subst (λ k. is_among k given ≡ true) same (All-head (λ k. is_among k given ≡ true) m numbers all), none))
    by false is rest = ap (λ b. b || is_among n numbers) is ∙ rest

-- A ring gave a number more.
pub given_more : (given given' extra numbers : List ℕ) → given' ≡ given ++ extra → All (λ m. is_among m given ≡ true) numbers → All (λ m. is_among m given' ≡ true) numbers
given_more given given' extra numbers is all =
    All-weaker (λ m. is_among m given ≡ true) (λ m. is_among m given' ≡ true)
    (λ m among. ap (is_among m) is ∙ among_both m given extra ∙ ap (λ b. b || is_among m extra) among) numbers all

pub given_this : (n : ℕ) (given given' : List ℕ) → given' ≡ given ++ n ∷ [] → is_among n given' ≡ true
given_this n given given' is =
    let same : (n == n) ≡ true = grind (arith, nat_tests) in
    ap (is_among n) is ∙ among_both n given (n ∷ []) ∙ by (is_among n given) (n == n) same
  where
    by : (a b : Bool) → b ≡ true → a || (b || false) ≡ true
    by true b is = refl
    by false true is = refl
    by false false is = absurd (cc is)

-- The crowd may be polled still, where its connections are the same.
pub served_still : {K V : Type 0} (v : UpstreamWords V) (given given' extra : List ℕ) (crowd : Crowd K V) → given' ≡ given ++ extra → AreServed v given crowd → AreServed v given' crowd
served_still v given given' extra crowd is served = record { can_turn = served.can_turn; given_are = given_more given given' extra (numbers_of crowd) is served.given_are }

numbers_both : {K V : Type 0} (xs ys : List (Member K V)) → numbers_in (xs ++ ys) ≡ numbers_in xs ++ numbers_in ys
numbers_both {K} {V} xs ys = map-append (λ (m : Member K V). m.number) xs ys

admitted_numbers : {K V : Type 0} (before after : Crowd K V) (n : ℕ) (link : K) (up : V) → AdmitsOne before after n link up → numbers_of after ≡ numbers_of before ++ n ∷ []
admitted_numbers {K} {V} before after n link up admits =
    ap numbers_in admits.members ∙ numbers_both before.members.items (record { number = n; conn = admits.conn } ∷ [])

-- A connection more was admitted.
pub served_more : {K V : Type 0} (v : UpstreamWords V) (given given' : List ℕ) (before after : Crowd K V) (n : ℕ) (link : K) (up : V) → AdmitsOne before after n link up → CanTurn v after
    → given' ≡ given → is_among n given ≡ true → AreServed v given before → AreServed v given' after
served_more v given given' before after n link up admits can same new served = record {
  can_turn = can;
  given_are = subst (λ (g : List ℕ). All (λ m. is_among m g ≡ true) (numbers_of after)) (sym same)
      (subst (All (λ m. is_among m given ≡ true)) (sym (admitted_numbers before after n link up admits))
      (All-push (λ m. is_among m given ≡ true) (numbers_of before) n served.given_are new));
}

pub alike_more : {K V : Type 0} (before after : Crowd K V) (n : ℕ) (link : K) (up : V) (others open_numbers : List ℕ) → AdmitsOne before after n link up → open_numbers ≡ others ++ n ∷ []
    → AreAlike others before → AreAlike open_numbers after
alike_more before after n link up others open_numbers admits is alike m =
    ap (is_among m) is ∙ among_both m others (n ∷ []) ∙ ap (λ b. b || is_among m (n ∷ [])) (alike m)
    ∙ sym (ap (is_among m) (admitted_numbers before after n link up admits) ∙ among_both m (numbers_of before) (n ∷ []))

closed_one : (a b c : Bool) → (c ≡ true → a ≡ false) → b ≡ c → (a || (b || false)) && not c ≡ a
closed_one true true true none is = absurd (cc (none refl))
closed_one true true false none is = absurd (cc is)
closed_one true false true none is = absurd (cc is)
closed_one true false false none is = refl
closed_one false true true none is = refl
closed_one false true false none is = absurd (cc is)
closed_one false false true none is = refl
closed_one false false false none is = refl

equal : (m n : ℕ) → (m == n) ≡ true → m ≡ n
equal m n is = grind (arith, nat_tests)

-- A connection that came was closed again.
pub alike_closed : {K V : Type 0} (crowd : Crowd K V) (n : ℕ) (others open_numbers after : List ℕ) → open_numbers ≡ others ++ n ∷ [] → after ≡ without n open_numbers → is_among n (numbers_of crowd) ≡ false
    → AreAlike others crowd → AreAlike after crowd
alike_closed crowd n others open_numbers after is closed none alike m =
    ap (is_among m) closed ∙ among_without m n open_numbers ∙ ap (λ l. is_among m l && not (m == n)) is ∙ ap (λ b. b && not (m == n)) (among_both m others (n ∷ []) ∙ ap (λ b. b || is_among m (n ∷ [])) (alike m))
    ∙ closed_one (is_among m (numbers_of crowd)) (n == m) (m == n) (λ same. subst (λ k. is_among k (numbers_of crowd) ≡ false) (sym (equal m n same)) none) (flips n m)

-- One more of the ended ones was closed.
pub closed_more : (m n : ℕ) (before now after gone : List ℕ) → after ≡ without n now → is_among m now ≡ is_among m before && not (is_among m gone)
    → is_among m after ≡ is_among m before && not (is_among m (gone ++ n ∷ []))
closed_more m n before now after gone closed so_far =
    let same : (n == m) ≡ (m == n) = flips n m in
    ap (is_among m) closed ∙ among_without m n now ∙ ap (λ b. b && not (m == n)) so_far ∙ by (is_among m before) (is_among m gone) (m == n) (n == m) same
    ∙ ap (λ b. is_among m before && not b) (sym (among_both m gone (n ∷ [])))
  where
    by : (a b c d : Bool) → d ≡ c → (a && not b) && not c ≡ a && not (b || (d || false))
    by true true c d is = refl
    by true false true true is = refl
    by true false false false is = refl
    by true false true false is = absurd (cc is)
    by true false false true is = absurd (cc is)
    by false b c d is = refl

-- Those that a turn left open are those that were open, but the ended ones.
pub alike_turned : {K V : Type 0} (v : UpstreamWords V) (before after : Crowd K V) (gone open_numbers closed : List ℕ) → CanTurn v before → IsPermutation (numbers_of before) (numbers_of after ++ gone)
    → ((m : ℕ) → is_among m closed ≡ is_among m open_numbers && not (is_among m gone)) → AreAlike open_numbers before → AreAlike closed after
alike_turned v before after gone open_numbers closed can parts is alike m =
    let apart : IsDistinct eqb (numbers_of after ++ gone) =
    IsDistinct-IsPermutation eqb flips (numbers_of before) (numbers_of after ++ gone) parts (IsDistinct-from_AllPairs Decides-eqb (numbers_of before) can.different) in
    let whole : is_among m (numbers_of before) ≡ is_among m (numbers_of after) || is_among m gone =
    list_any-IsPermutation (λ k. k == m) (numbers_of before) (numbers_of after ++ gone) parts ∙ among_both m (numbers_of after) gone in
    is m ∙ ap (λ b. b && not (is_among m gone)) (alike m ∙ whole) ∙ by (is_among m (numbers_of after)) (is_among m gone) (λ there. apart_front m (numbers_of after) gone apart there)
  where
    by : (a b : Bool) → (b ≡ true → a ≡ false) → (a || b) && not b ≡ a
    by true true none = absurd (cc (none refl))
    by true false none = refl
    by false true none = refl
    by false false none = refl

pub served_turned : {K V : Type 0} (v : UpstreamWords V) (given given' : List ℕ) (before after : Crowd K V) (gone : List ℕ) → CanTurn v after → given' ≡ given
    → IsPermutation (numbers_of before) (numbers_of after ++ gone) → AreServed v given before → AreServed v given' after
served_turned v given given' before after gone can same parts served = record {
  can_turn = can;
  given_are = subst (λ (g : List ℕ). All (λ m. is_among m g ≡ true) (numbers_of after)) (sym same)
      (all_front (λ m. is_among m given ≡ true) (numbers_of after) gone
      (All-permutation (λ m. is_among m given ≡ true) (numbers_of before) (numbers_of after ++ gone) parts served.given_are));
}

-- No connection is open yet.
pub served_none : {K V : Type 0} (v : UpstreamWords V) (given : List ℕ) (crowd : Crowd K V) → length crowd.members.items ≡ 0 → crowd.door < length crowd.worker.pass.fixed.0 → AreServed v given crowd
served_none {K} {V} v given crowd none door =
    let empty : crowd.members.items ≡ [] = nothing crowd.members.items none in
    record {
      can_turn = record {
        few = omega (arith, none);
        door = door;
        open_at = subst (All (IsOpenAt v crowd.door)) (sym empty) (All-nil (IsOpenAt v crowd.door));
        different = subst (λ (l : List (Member K V)). AllPairs (λ m n. m ≢ n) (numbers_in l)) (sym empty) (λ i j d less within. absurd (omega (arith, less, within)));
      };
      given_are = subst (λ (l : List (Member K V)). All (λ m. is_among m given ≡ true) (numbers_in l)) (sym empty) (All-nil (λ m. is_among m given ≡ true));
    }
  where
    nothing : (members : List (Member K V)) → length members ≡ 0 → members ≡ []
    nothing [] is = refl
    nothing (member ∷ members) is = absurd (omega (arith, is))

-- Where none is open at the ring, none is in the crowd.
pub none_alike : {K V : Type 0} (crowd : Crowd K V) (open_numbers : List ℕ) → open_numbers ≡ [] → AreAlike open_numbers crowd → length crowd.members.items ≡ 0
none_alike {K} {V} crowd open_numbers none alike = by crowd.members.items (λ m. sym (alike m) ∙ ap (is_among m) none)
  where
    by : (members : List (Member K V)) → ((m : ℕ) → is_among m (numbers_in members) ≡ false) → length members ≡ 0
    by [] is = refl
    by (member ∷ members) is =
        let same : (member.number == member.number) ≡ true = grind (arith, nat_tests) in
        absurd (cc (is member.number, ap (λ b. b || is_among member.number (numbers_in members)) same))

pub fewer_turned : {K V : Type 0} (before after : Crowd K V) (gone : List ℕ) → IsPermutation (numbers_of before) (numbers_of after ++ gone) → length after.members.items ≤ length before.members.items
fewer_turned {K} {V} before after gone parts =
    let whole = length_permutation (numbers_of before) (numbers_of after ++ gone) parts in
    omega (arith, whole, mapped before.members.items, mapped after.members.items, length-append (numbers_of after) gone)
  where
    mapped : (members : List (Member K V)) → length (numbers_in members) ≡ length members
    mapped [] = refl
    mapped (member ∷ members) = ap suc (mapped members)
