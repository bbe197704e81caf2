-- How the polls of a crowd's turn come together.
use Rattle.std.proofs.Common.{◌≡◌, ◌≢◌, ℕ, zero, suc, ◌+◌, ◌<◌, ◌≤◌, ◌==◌, ◌&&◌, ◌||◌, Bool, true, false, not, cond, eqb, List, [], ◌∷◌, ◌++◌, map, filter, filter_map, length, drop, get_or, Option, Some, None, IfSome, option_to_list, Result, refl, sym, ap, ◌∙◌, subst, arith, append_assoc, append-nil, length-append, IsPermutation, All, AllPairs, Contains}
use Rattle.std.specs.List.{AllByRecursion, IsDistinct, cons_option, list_any}
use Rattle.std.proofs.lemmas.Bool.Decides.{Decides-eqb, nat_tests}
use Rattle.std.proofs.lemmas.List.{drop_all, map-append}
use Rattle.std.proofs.lemmas.List.Elements.{All-append, All-contains_itself, All-head, All-nil, All-push, All-tail, All-weaker, filter_map-append}
use Rattle.std.proofs.lemmas.List.Quantifiers.{all_pairs_push}
use Rattle.std.proofs.lemmas.List.Sorted.{All-permutation, IsPermutation-append_comm, IsPermutation-append_left, IsPermutation-append_right, IsPermutation-cons, IsPermutation-map, IsPermutation-middle, IsPermutation-pop_more, IsPermutation-refl, IsPermutation-sym, IsPermutation-trans, length_permutation, list_any-IsPermutation}
use Rattle.std.proofs.lemmas.Map.Keys.{IsDistinct-IsPermutation, IsDistinct-cons, IsDistinct-head, IsDistinct-tail}
use Rattle.std.proofs.lemmas.Map.Made.{AllPairs-from_IsDistinct, IsDistinct-from_AllPairs}
use Rattle.futures.specs.Poll.{OnPending}
use Rattle.futures.specs.Task.{Keeps as KeepsTask, Lasting}
use Rattle.futures.specs.declared.task.Poll.{Poll}
use Rattle.futures.specs.declared.task.Poll.TheVariants.{Ready, Pending}
use Rattle.futures.specs.declared.task.context.Context.{Context}
use Rattle.gw_frames.specs.declared.ended.Ended.{Ended}
use Rattle.gw_polling.specs.Rings.{is_among, without}
use Rattle.gw_polling.specs.declared.poll_link.PollLink.{Ghosts as LinkWords}
use Rattle.gw_polling.specs.declared.poll_upstream.PollUpstream.{Ghosts as UpstreamWords}
use Rattle.gw_worker.specs.declared.serve.ConnFault.{ConnFault}
use Rattle.gw_worker.specs.model.Workers.{Worker}
use Rattle.gw_poll_exchange.proofs.Ending.{pending_map}
use Rattle.gw_poll.specs.Causes.{HasWaited}
use Rattle.gw_poll.specs.Courses.{CanGoOn}
use Rattle.gw_poll.specs.Crowds.{CanTurn, HasTurned, IsOpenAt, IsPolled, IsTurning, Lent, Passes, PollsOne, leaving, leaving_by, numbers_in, polled_of, staying, staying_by, taken}
use Rattle.gw_poll.specs.declared.crowd.Crowd.{Crowd}
use Rattle.gw_poll.specs.Members.{Member}
use Rattle.gw_poll.specs.declared.crowd.Parted.{Parted}
use Rattle.gw_poll.proofs.Orders.{IsPermutation-rest, all_front, among_apart, among_without, or_true}
use Rattle.gw_poll.proofs.Waiting.{either_map}

-- What waited in a poll has waited for whoever polls on with the same task.
waited_later : (cx cx' : Context) (source before now : ℕ) → KeepsTask cx cx' → HasWaited cx source before now → HasWaited cx' source before now
waited_later cx cx' source before now keeps waited = (waited.0, (keeps Lasting.armed waited.1.0, keeps (Lasting.hears source) waited.1.1))

polled_later : {K U : Type 0} (k : LinkWords K) (u : UpstreamWords U) (cx cx' : Context) (t : Lent K U) → KeepsTask cx cx' → IsPolled k u cx t → IsPolled k u cx' t
polled_later k u cx cx' t keeps polled = record {
  goes = polled.goes;
  broke = polled.broke;
  ends = polled.ends;
  caught_up = polled.caught_up;
  used_up = polled.used_up;
  waits = pending_map t.answer (either_map (waited_later cx cx' _ _ _ keeps) (either_map (waited_later cx cx' _ _ _ keeps) (waited_later cx cx' _ _ _ keeps))) polled.waits;
  idle = polled.idle;
  over = polled.over;
  unended = polled.unended;
  cause = polled.cause;
  refused = polled.refused;
}

passes_then : {K U : Type 0} (w w1 w2 : Worker) (turns : List (Lent K U)) (t : Lent K U) → Passes w turns w1 → t.w ≡ w1 → t.w' ≡ w2 → Passes w (turns ++ t ∷ []) w2
passes_then w w1 w2 [] t passes before after = (before ∙ passes, sym after)
passes_then w w1 w2 (s ∷ turns) t passes before after = (passes.0, passes_then s.w' w1 w2 turns t passes.1 before after)

-- Which numbers are polled is told by which are open, in whatever order.
polled_same : (xs ys named : List ℕ) → ((m : ℕ) → is_among m xs ≡ is_among m ys) → polled_of xs named ≡ polled_of ys named
polled_same xs ys [] same = refl
polled_same xs ys (n ∷ named) same =
    let here : is_among n xs ≡ is_among n ys = same n in
    let taken' : polled_of (without n xs) named ≡ polled_of (without n ys) named =
    polled_same (without n xs) (without n ys) named (λ m. among_without m n xs ∙ ap (λ b. b && not (m == n)) (same m) ∙ sym (among_without m n ys)) in
    let passed : polled_of xs named ≡ polled_of ys named = polled_same xs ys named same in
    both (is_among n xs) (is_among n ys) (n ∷ polled_of (without n xs) named) (n ∷ polled_of (without n ys) named) (polled_of xs named) (polled_of ys named) here (ap (λ l. n ∷ l) taken') passed
  where
    both : (a b : Bool) (p q r s : List ℕ) → a ≡ b → p ≡ q → r ≡ s → cond a p r ≡ cond b q s
    both a b p q r s e f g = cc

pub flips : (a b : ℕ) → eqb a b ≡ eqb b a
flips a b = grind (arith, nat_tests)

-- Where a number isn't among these, it and these but it are these.
other : (m n y : ℕ) (xs : List ℕ) → y ≡ n → is_among y xs ≡ false → (y == m || is_among m xs) && not (m == n) ≡ is_among m xs
other m n y xs is alone = by (y == m) (m == n) (is_among m xs) refl refl refl
  where
    by : (a b c : Bool) → (y == m) ≡ a → (m == n) ≡ b → is_among m xs ≡ c → (a || c) && not b ≡ c
    by true true true e f g =
        let same : y ≡ m = grind (arith, nat_tests) in
        absurd (cc (subst (λ z. is_among z xs ≡ false) same alone, g))
    by true true false e f g = refl
    by true false c e f g = let no : ⊥ = grind (arith, nat_tests) in absurd no
    by false true c e f g = let no : ⊥ = grind (arith, nat_tests) in absurd no
    by false false true e f g = refl
    by false false false e f g = refl

-- The first number that is named is open: it is polled, and the others are open then.
polled_first : {K U : Type 0} (n : ℕ) (left rest : List (Member K U)) (x : Member K U) (named : List ℕ) → IsPermutation left (x ∷ rest) → x.number ≡ n → IsDistinct eqb (numbers_in left)
    → (polled_of (numbers_in left) (n ∷ named) ≡ n ∷ polled_of (numbers_in rest) named) × IsDistinct eqb (numbers_in rest)
polled_first {K} {U} n left rest x named order is different =
    let numbers : IsPermutation (numbers_in left) (x.number ∷ numbers_in rest) = IsPermutation-map (λ (m : Member K U). m.number) left (x ∷ rest) order in
    let apart : IsDistinct eqb (x.number ∷ numbers_in rest) = IsDistinct-IsPermutation eqb flips (numbers_in left) (x.number ∷ numbers_in rest) numbers different in
    let alone : is_among x.number (numbers_in rest) ≡ false = among_apart x.number (numbers_in rest) (IsDistinct-head eqb x.number (numbers_in rest) apart) in
    let among : (m : ℕ) → is_among m (numbers_in left) ≡ (x.number == m || is_among m (numbers_in rest)) =
    λ m. list_any-IsPermutation (λ o. o == m) (numbers_in left) (x.number ∷ numbers_in rest) numbers in
    let here : is_among n (numbers_in left) ≡ true = first n (numbers_in rest) x.number is (among n) in
    let others : (m : ℕ) → is_among m (without n (numbers_in left)) ≡ is_among m (numbers_in rest) =
    λ m. among_without m n (numbers_in left) ∙ ap (λ b. b && not (m == n)) (among m) ∙ other m n x.number (numbers_in rest) is alone in (
      ap (λ b. cond b (n ∷ polled_of (without n (numbers_in left)) named) (polled_of (numbers_in left) named)) here
          ∙ ap (λ l. n ∷ l) (polled_same (without n (numbers_in left)) (numbers_in rest) named others),
      IsDistinct-tail eqb x.number (numbers_in rest) apart,
    )
  where
    first : (m : ℕ) (xs : List ℕ) (y : ℕ) → y ≡ m → is_among m (numbers_in left) ≡ (y == m || is_among m xs) → is_among m (numbers_in left) ≡ true
    first m xs y e same =
        let here : (y == m) ≡ true = grind (arith, nat_tests) in
        same ∙ ap (λ b. b || is_among m xs) here

-- Nothing was polled yet.
pub turns_none : {K U : Type 0} (k : LinkWords K) (u : UpstreamWords U) (cx : Context) (door : ℕ) (w : Worker) (before : List (Member K U)) (named : List ℕ) → All (IsOpenAt u door) before → IsDistinct eqb (numbers_in before)
    → IsTurning k u cx door w w before before [] [] named 0
turns_none k u cx door w before named open_at different = record {
  turns = [];
  numbers = refl;
  passes = refl;
  polled = All-nil _;
  parts = IsPermutation-refl before;
  waiting_are = refl;
  gone_are = refl;
  left_open = open_at;
  waiting_open = All-nil _;
  different = different;
  few = omega arith;
}

-- A number that isn't open is passed over.
pub turns_past : {K U : Type 0} (k : LinkWords K) (u : UpstreamWords U) (cx : Context) (door : ℕ) (first w : Worker) (before left waiting : List (Member K U)) (gone : List (Parted K U)) (named : List ℕ) (done n : ℕ)
    → IsTurning k u cx door first w before left waiting gone named done → drop done named ≡ n ∷ drop (done + 1) named → is_among n (numbers_in left) ≡ false
    → IsTurning k u cx door first w before left waiting gone named (done + 1)
turns_past {K} {U} k u cx door first w before left waiting gone named done n t next none = record {
  turns = t.turns;
  numbers =
      ap (λ l. map (λ (s : Lent K U). s.number) t.turns ++ l)
      (sym (ap (polled_of (numbers_in left)) next ∙ ap (λ b. cond b (n ∷ polled_of (without n (numbers_in left)) (drop (done + 1) named)) (polled_of (numbers_in left) (drop (done + 1) named))) none))
      ∙ t.numbers;
  passes = t.passes;
  polled = t.polled;
  parts = t.parts;
  waiting_are = t.waiting_are;
  gone_are = t.gone_are;
  left_open = t.left_open;
  waiting_open = t.waiting_open;
  different = t.different;
  few = t.few;
}

pub among_members : {K U : Type 0} (n : ℕ) (members : List (Member K U)) → list_any (λ member. member.number == n) members ≡ is_among n (numbers_in members)
among_members n [] = refl
among_members n (m ∷ members) = ap (λ b. m.number == n || b) (among_members n members)

-- What holds of those that wait holds behind one poll more.
waiting_more : {K U : Type 0} (u : UpstreamWords U) (door : ℕ) (waiting : List (Member K U)) (t : Lent K U) → All (IsOpenAt u door) waiting → IfSome (staying t) (IsOpenAt u door)
    → All (IsOpenAt u door) (waiting ++ option_to_list (staying t))
waiting_more {K} {U} u door waiting t all here = by (staying t) here
  where
    by : (m : Option (Member K U)) → IfSome m (IsOpenAt u door) → All (IsOpenAt u door) (waiting ++ option_to_list m)
    by None here = subst (All (IsOpenAt u door)) (sym (append-nil waiting)) all
    by (Some m) here = All-push (IsOpenAt u door) waiting m all here

-- A connection that waits may be polled again.
still_open : {K U : Type 0} (u : UpstreamWords U) (door : ℕ) (t : Lent K U) → OnPending t.answer (CanGoOn t.after.course (u.at t.after.up)) → t.after.course.conn.door ≡ door → IfSome (staying t) (IsOpenAt u door)
still_open u door t going is = by t.answer going
  where
    by : (answer : Poll (Result Ended ConnFault)) → OnPending answer (CanGoOn t.after.course (u.at t.after.up)) → IfSome (staying_by t answer) (IsOpenAt u door)
    by Pending going = (going, is)
    by (Ready result) going = tt

-- It either waits or is gone.
one_of : {K U : Type 0} (t : Lent K U) → length (option_to_list (staying t)) + length (option_to_list (leaving t)) ≡ 1
one_of t = by t.answer
  where
    by : (answer : Poll (Result Ended ConnFault)) → length (option_to_list (staying_by t answer)) + length (option_to_list (leaving_by t answer)) ≡ 1
    by Pending = refl
    by (Ready result) = refl

filter_map_one : {A B : Type 0} (f : A → Option B) (x : A) → filter_map f (x ∷ []) ≡ option_to_list (f x)
filter_map_one {A} {B} f x = by (f x)
  where
    by : (o : Option B) → cons_option o [] ≡ option_to_list o
    by None = refl
    by (Some y) = refl

-- A connection that is named is polled.
pub turns_more : {K U : Type 0} (k : LinkWords K) (u : UpstreamWords U) (cx cx' : Context) (door : ℕ) (first w w' : Worker) (before left rest waiting waiting' : List (Member K U)) (gone gone' : List (Parted K U)) (x : Member K U) (named : List ℕ) (done n : ℕ)
    → IsTurning k u cx door first w before left waiting gone named done → drop done named ≡ n ∷ drop (done + 1) named → IsPermutation left (x ∷ rest) → x.number ≡ n
    → PollsOne k u cx' w w' x waiting waiting' gone gone' → KeepsTask cx cx'
    → IsTurning k u cx' door first w' before rest waiting' gone' named (done + 1)
turns_more {K} {U} k u cx cx' door first w w' before left rest waiting waiting' gone gone' x named done n t next order is s keeps =
    let one : Lent K U = s.turn in
    let numbers : (polled_of (numbers_in left) (n ∷ drop (done + 1) named) ≡ n ∷ polled_of (numbers_in rest) (drop (done + 1) named)) × IsDistinct eqb (numbers_in rest) =
    polled_first n left rest x (drop (done + 1) named) order is t.different in
    let number_is : one.number ≡ n = ap (λ (m : Member K U). m.number) s.member_is ∙ is in
    let all : All (IsOpenAt u door) (x ∷ rest) = All-permutation (IsOpenAt u door) left (x ∷ rest) order t.left_open in
    let door_is : one.after.course.conn.door ≡ door = s.door ∙ ap (λ (m : Member K U). m.conn.course.conn.door) s.member_is ∙ (All-head (IsOpenAt u door) x rest all).1 in
    record {
      turns = t.turns ++ one ∷ [];
      numbers =
          ap (λ l. l ++ polled_of (numbers_in rest) (drop (done + 1) named)) (map-append (λ (s : Lent K U). s.number) t.turns (one ∷ []))
          ∙ append_assoc (map (λ (s : Lent K U). s.number) t.turns) (one.number ∷ []) (polled_of (numbers_in rest) (drop (done + 1) named))
          ∙ ap (λ m. map (λ (s : Lent K U). s.number) t.turns ++ m ∷ polled_of (numbers_in rest) (drop (done + 1) named)) number_is
          ∙ ap (λ l. map (λ (s : Lent K U). s.number) t.turns ++ l) (sym (ap (polled_of (numbers_in left)) next ∙ numbers.0))
          ∙ t.numbers;
      passes = passes_then first w w' t.turns one t.passes s.before_is s.after_is;
      polled = All-push (IsPolled k u cx') t.turns one (All-weaker (IsPolled k u cx) (IsPolled k u cx') (λ t polled. polled_later k u cx cx' t keeps polled) t.turns t.polled) s.polled;
      parts = subst (λ l. IsPermutation before (l ++ rest)) (ap (λ m. map taken t.turns ++ m ∷ []) (sym s.member_is) ∙ sym (map-append taken t.turns (one ∷ [])))
          (IsPermutation-pop_more before (map taken t.turns) left rest x t.parts order);
      waiting_are = s.waiting_are ∙ ap (λ l. l ++ option_to_list (staying one)) t.waiting_are ∙ ap (λ l. filter_map staying t.turns ++ l) (sym (filter_map_one staying one)) ∙ sym (filter_map-append staying t.turns (one ∷ []));
      gone_are = s.gone_are ∙ ap (λ l. l ++ option_to_list (leaving one)) t.gone_are ∙ ap (λ l. filter_map leaving t.turns ++ l) (sym (filter_map_one leaving one)) ∙ sym (filter_map-append leaving t.turns (one ∷ []));
      left_open = All-tail (IsOpenAt u door) x rest all;
      waiting_open = subst (All (IsOpenAt u door)) (sym s.waiting_are) (waiting_more u door waiting one t.waiting_open (still_open u door one s.going door_is));
      different = numbers.1;
      few = omega (arith, t.few, one_of one, ap length s.waiting_are, ap length s.gone_are, length-append waiting (option_to_list (staying one)), length-append gone (option_to_list (leaving one)), length_permutation left (x ∷ rest) order);
    }

-- A number of a list is among its numbers.
at_among : {A : Type 0} (f : A → ℕ) (xs : List A) (k : ℕ) (d : A) → k < length xs → is_among (f (get_or xs k d)) (map f xs) ≡ true
at_among f [] k d less = absurd (omega arith)
at_among f (x ∷ xs) zero d less =
    let here : (f x == f x) ≡ true = grind (arith, nat_tests) in
    ap (λ b. b || is_among (f x) (map f xs)) here
at_among f (x ∷ xs) (suc k) d less =
    ap (λ b. (f x == f (get_or xs k d)) || b) (at_among f xs k d (omega arith)) ∙ or_true (f x == f (get_or xs k d))

among_behind : (y : ℕ) (xs ys : List ℕ) → is_among y ys ≡ true → is_among y (xs ++ ys) ≡ true
among_behind y [] ys is = is
among_behind y (x ∷ xs) ys is = ap (λ b. (x == y) || b) (among_behind y xs ys is) ∙ or_true (x == y)

apart_among : (x y : ℕ) (zs : List ℕ) → AllByRecursion (λ z. eqb x z ≡ false) zs → is_among y zs ≡ true → (x == y) ≡ false
apart_among x y [] all is = absurd (cc is)
apart_among x y (z ∷ zs) all is = by (z == y) refl (apart_among x y zs all.1)
  where
    by : (b : Bool) → (z == y) ≡ b → (is_among y zs ≡ true → (x == y) ≡ false) → (x == y) ≡ false
    by true e behind =
        let same : z ≡ y = grind (arith, nat_tests) in
        subst (λ v. eqb x v ≡ false) same all.0
    by false e behind = behind (sym (ap (λ b. b || is_among y zs) e) ∙ is)

-- Numbers that differ: none behind is among those in front.
pub apart_front : (y : ℕ) (xs ys : List ℕ) → IsDistinct eqb (xs ++ ys) → is_among y ys ≡ true → is_among y xs ≡ false
apart_front y [] ys different is = refl
apart_front y (x ∷ xs) ys different is =
    let here : (x == y) ≡ false = apart_among x y (xs ++ ys) (IsDistinct-head eqb x (xs ++ ys) different) (among_behind y xs ys is) in
    ap (λ b. b || is_among y xs) here ∙ apart_front y xs ys (IsDistinct-tail eqb x (xs ++ ys) different) is

numbers_taken : {K U : Type 0} (turns : List (Lent K U)) (left : List (Member K U)) → numbers_in (map taken turns ++ left) ≡ map (λ (t : Lent K U). t.number) turns ++ numbers_in left
numbers_taken [] left = refl
numbers_taken (t ∷ turns) left = ap (λ l. t.number ∷ l) (numbers_taken turns left)

-- The numbers of the polled connections and of those that are left differ.
different_parts : {K U : Type 0} (before left : List (Member K U)) (turns : List (Lent K U)) → IsPermutation before (map taken turns ++ left) → IsDistinct eqb (numbers_in before)
    → IsDistinct eqb (map (λ (t : Lent K U). t.number) turns ++ numbers_in left)
different_parts {K} {U} before left turns parts different =
    subst (IsDistinct eqb) (numbers_taken turns left)
    (IsDistinct-IsPermutation eqb flips (numbers_in before) (numbers_in (map taken turns ++ left)) (IsPermutation-map (λ (m : Member K U). m.number) before (map taken turns ++ left) parts) different)

-- What holds of all polled numbers holds of those that wait.
some_stay : {K U : Type 0} (P : ℕ → Type 0) (turns : List (Lent K U)) (others : List ℕ) → AllByRecursion P (map (λ (t : Lent K U). t.number) turns ++ others) → AllByRecursion P (numbers_in (filter_map staying turns) ++ others)
some_stay P [] others all = all
some_stay {K} {U} P (t ∷ turns) others all = by t.answer (some_stay P turns others all.1)
  where
    by : (answer : Poll (Result Ended ConnFault)) → AllByRecursion P (numbers_in (filter_map staying turns) ++ others) → AllByRecursion P (numbers_in (cons_option (staying_by t answer) (filter_map staying turns)) ++ others)
    by Pending behind = (all.0, behind)
    by (Ready result) behind = behind

different_stay : {K U : Type 0} (turns : List (Lent K U)) (others : List ℕ) → IsDistinct eqb (map (λ (t : Lent K U). t.number) turns ++ others) → IsDistinct eqb (numbers_in (filter_map staying turns) ++ others)
different_stay [] others different = different
different_stay {K} {U} (t ∷ turns) others different = by t.answer (different_stay turns others (IsDistinct-tail eqb t.number rest different))
  where
    rest : List ℕ
    rest = map (λ (s : Lent K U). s.number) turns ++ others

    by : (answer : Poll (Result Ended ConnFault)) → IsDistinct eqb (numbers_in (filter_map staying turns) ++ others) → IsDistinct eqb (numbers_in (cons_option (staying_by t answer) (filter_map staying turns)) ++ others)
    by Pending behind = IsDistinct-cons eqb t.number (numbers_in (filter_map staying turns) ++ others) (some_stay (λ y. eqb t.number y ≡ false) turns others (IsDistinct-head eqb t.number rest different)) behind
    by (Ready result) behind = behind

numbers_both : {K U : Type 0} (xs ys : List (Member K U)) → numbers_in (xs ++ ys) ≡ numbers_in xs ++ numbers_in ys
numbers_both {K} {U} xs ys = map-append (λ (m : Member K U). m.number) xs ys

-- The crowd may be polled again.
pub can_turn_again : {K U : Type 0} (k : LinkWords K) (u : UpstreamWords U) (cx : Context) (before after : Crowd K U) (left waiting : List (Member K U)) (gone : List (Parted K U)) (named : List ℕ) (done : ℕ)
    → IsTurning k u cx before.door before.worker after.worker before.members.items left waiting gone named done → after.members.items ≡ left ++ waiting → after.door ≡ before.door
    → after.worker.pass.fixed ≡ before.worker.pass.fixed → CanTurn u before → CanTurn u after
can_turn_again {K} {U} k u cx before after left waiting gone named done t members door fixed can =
    let apart : IsDistinct eqb (map (λ (s : Lent K U). s.number) t.turns ++ numbers_in left) =
    different_parts before.members.items left t.turns t.parts (IsDistinct-from_AllPairs Decides-eqb (numbers_in before.members.items) can.different) in
    let stay : IsDistinct eqb (numbers_in (filter_map staying t.turns) ++ numbers_in left) = different_stay t.turns (numbers_in left) apart in
    let there : IsDistinct eqb (numbers_in left ++ numbers_in (filter_map staying t.turns)) =
    IsDistinct-IsPermutation eqb flips (numbers_in (filter_map staying t.turns) ++ numbers_in left) (numbers_in left ++ numbers_in (filter_map staying t.turns)) (IsPermutation-append_comm (numbers_in (filter_map staying t.turns)) (numbers_in left)) stay in
    let both : IsDistinct eqb (numbers_in after.members.items) =
    subst (λ (l : List (Member K U)). IsDistinct eqb (numbers_in l)) (sym members)
    (subst (IsDistinct eqb) (sym (numbers_both left waiting)) (subst (λ (l : List (Member K U)). IsDistinct eqb (numbers_in left ++ numbers_in l)) (sym t.waiting_are) there)) in
    record {
      few = omega (arith, t.few, can.few, ap length members, length-append left waiting);
      door = rw (door, fixed) can.door;
      open_at = subst (λ (d : ℕ). All (IsOpenAt u d) after.members.items) (sym door) (subst (All (IsOpenAt u before.door)) (sym members) (All-append (IsOpenAt u before.door) left waiting t.left_open t.waiting_open));
      different = AllPairs-from_IsDistinct Decides-eqb (numbers_in after.members.items) both;
    }

-- All that is named was polled.
pub turned : {K U : Type 0} (k : LinkWords K) (u : UpstreamWords U) (cx : Context) (before after : Crowd K U) (left waiting : List (Member K U)) (gone : List (Parted K U)) (named : List ℕ) (done : ℕ)
    → IsTurning k u cx before.door before.worker after.worker before.members.items left waiting gone named done → length named ≤ done → after.members.items ≡ left ++ waiting → after.door ≡ before.door → CanTurn u before
    → HasTurned k u cx before after named gone
turned {K} {U} k u cx before after left waiting gone named done t all members door can =
    let number : Lent K U → ℕ = λ t. t.number in
    let polled : List ℕ = map number t.turns in
    let none : drop done named ≡ [] = drop_all done named all in
    let apart : IsDistinct eqb (polled ++ numbers_in left) =
    different_parts before.members.items left t.turns t.parts (IsDistinct-from_AllPairs Decides-eqb (numbers_in before.members.items) can.different) in
    let unnamed : IsPermutation (filter (λ (m : Member K U). not (is_among m.number polled)) before.members.items) left =
    IsPermutation-rest (λ (m : Member K U). not (is_among m.number polled)) taken before.members.items t.turns left t.parts
    (λ i d less. ap not (at_among number t.turns i d less))
    (λ i d less. ap not (apart_front (get_or left i d).number polled (numbers_in left) apart (at_among (λ (m : Member K U). m.number) left i d less))) in
    record {
      turns = t.turns;
      numbers = sym (append-nil polled) ∙ ap (λ l. polled ++ polled_of (numbers_in left) l) (sym none) ∙ t.numbers;
      passes = t.passes;
      polled = t.polled;
      were = all_front (Contains before.members.items) taken t.turns left (All-permutation (Contains before.members.items) before.members.items (map taken t.turns ++ left) t.parts (All-contains_itself before.members.items));
      members = subst (λ (l : List (Member K U)). IsPermutation l (filter (λ (m : Member K U). not (is_among m.number polled)) before.members.items ++ filter_map staying t.turns))
          (sym (members ∙ ap (λ l. left ++ l) t.waiting_are))
          (IsPermutation-append_left (filter_map staying t.turns) left (filter (λ (m : Member K U). not (is_among m.number polled)) before.members.items) (IsPermutation-sym _ _ unnamed));
      gone_are = t.gone_are;
      door = door;
    }

-- Each polled connection waits or is gone.
numbers_apart : {K U : Type 0} (turns : List (Lent K U))
    → IsPermutation (map (λ (t : Lent K U). t.number) turns) (numbers_in (filter_map staying turns) ++ map (λ (p : Parted K U). p.number) (filter_map leaving turns))
numbers_apart [] = IsPermutation-refl []
numbers_apart {K} {U} (t ∷ turns) = by t.answer (IsPermutation-cons t.number _ _ (numbers_apart turns))
  where
    number : Parted K U → ℕ
    number p = p.number

    waiting : List ℕ
    waiting = numbers_in (filter_map staying turns)

    gone : List (Parted K U)
    gone = filter_map leaving turns

    by : (answer : Poll (Result Ended ConnFault)) → IsPermutation (t.number ∷ map (λ (s : Lent K U). s.number) turns) (t.number ∷ (waiting ++ map number gone))
        → IsPermutation (t.number ∷ map (λ (s : Lent K U). s.number) turns) (numbers_in (cons_option (staying_by t answer) (filter_map staying turns)) ++ map number (cons_option (leaving_by t answer) gone))
    by Pending order = order
    by (Ready result) order = IsPermutation-trans _ _ _ order (IsPermutation-sym _ _ (IsPermutation-middle waiting t.number (map number gone)))

-- Each connection is open still, or is given back.
pub parted : {K U : Type 0} (k : LinkWords K) (u : UpstreamWords U) (cx : Context) (door : ℕ) (first w : Worker) (before left waiting : List (Member K U)) (gone : List (Parted K U)) (named : List ℕ) (done : ℕ)
    → IsTurning k u cx door first w before left waiting gone named done → IsPermutation (numbers_in before) (numbers_in (left ++ waiting) ++ map (λ (p : Parted K U). p.number) gone)
parted {K} {U} k u cx door first w before left waiting gone named done t =
    let polled : List ℕ = map (λ (s : Lent K U). s.number) t.turns in
    let stay : List (Member K U) = filter_map staying t.turns in
    let leave : List ℕ = map (λ (p : Parted K U). p.number) (filter_map leaving t.turns) in
    let numbers : IsPermutation (numbers_in before) (polled ++ numbers_in left) =
    subst (IsPermutation (numbers_in before)) (numbers_taken t.turns left) (IsPermutation-map (λ (m : Member K U). m.number) before (map taken t.turns ++ left) t.parts) in
    rw (t.waiting_are, t.gone_are, numbers_both left stay, append_assoc (numbers_in left) (numbers_in stay) leave)
    (IsPermutation-trans _ _ _ numbers (IsPermutation-trans _ _ _ (IsPermutation-append_comm polled (numbers_in left)) (IsPermutation-append_right (numbers_in left) _ _ (numbers_apart t.turns))))

or_right : (a b : Bool) → a || b ≡ false → b ≡ false
or_right true b is = absurd (cc is)
or_right false b is = is

-- A number that isn't among these stands at none of their places.
apart_at : (n : ℕ) (xs : List ℕ) (k d : ℕ) → k < length xs → is_among n xs ≡ false → get_or xs k d ≡ n → ⊥
apart_at n [] k d less none is = absurd (omega arith)
apart_at n (x ∷ xs) zero d less none is =
    let here : (x == n) ≡ true = grind (arith, nat_tests) in
    absurd (cc (sym (ap (λ b. b || is_among n xs) here) ∙ none))
apart_at n (x ∷ xs) (suc k) d less none is = apart_at n xs k d (omega arith) (or_right (x == n) (is_among n xs) none) is

-- A crowd that isn't full may be polled with a connection more, under a number of its own.
pub can_turn_more : {K U : Type 0} (u : UpstreamWords U) (before after : Crowd K U) (member : Member K U) → CanTurn u before → after.members.items ≡ before.members.items ++ member ∷ [] → after.door ≡ before.door
    → after.worker ≡ before.worker → length before.members.items < 256 → IsOpenAt u before.door member → is_among member.number (numbers_in before.members.items) ≡ false → CanTurn u after
can_turn_more {K} {U} u before after member can members door worker few open_at fresh = record {
  few = omega (arith, few, ap length members, length-append before.members.items (member ∷ []));
  door = rw (door, worker) can.door;
  open_at = subst (λ (d : ℕ). All (IsOpenAt u d) after.members.items) (sym door) (subst (All (IsOpenAt u before.door)) (sym members) (All-push (IsOpenAt u before.door) before.members.items member can.open_at open_at));
  different = subst (λ (l : List (Member K U)). AllPairs (λ m n. m ≢ n) (numbers_in l)) (sym members)
      (subst (AllPairs (λ m n. m ≢ n)) (sym (numbers_both before.members.items (member ∷ [])))
      (all_pairs_push (λ m n. m ≢ n) (numbers_in before.members.items) member.number can.different (λ k d less. apart_at member.number (numbers_in before.members.items) k d less fresh)));
}
