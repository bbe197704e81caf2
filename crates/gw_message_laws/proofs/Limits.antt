-- How many bytes a connection has that hasn't ended.
use Rattle.std.proofs.Common.{◌≡◌, ◌∙◌, ℕ, ◌+◌, ◌-◌, ◌*◌, ◌<◌, ◌≤◌, Bool, true, false, List, [], ◌∷◌, ◌++◌, ◌==◌, ◌&&◌, length, take, drop, min, nat_lt, nat_le, if◌then◌else◌, refl, sym, ap, subst, arith, length-append, Option, Some, None, unwrap_or}
use Rattle.std.proofs.lemmas.Bool.Decides.{nat_tests}
use Rattle.std.proofs.lemmas.List.{length-drop}
use Rattle.gw_messages.specs.model.Bodies.{Body, whole_body, bad_body, part_body, sized_body, limited_body, within, IsBody}
use Rattle.gw_messages.specs.declared.fault.BodyFault.TheVariants.{TooBig}
use Rattle.gw_frames.specs.declared.ended.Ended.{Ended}
use Rattle.gw_frames.specs.declared.ended.Ended.TheVariants.{Closed, Asked, Enough}
use Rattle.gw_frames.specs.model.Requests.{Opening, Step, Part, a_head, a_body, announced, whole_request, end_behind, Asks, no_head, long_head, bad_head, good_head, no_body, faulty_body, last_body, good_body, ended_after, ended}
use Rattle.gw_message_laws.specs.declared.requests.TheConstants.{MOST_OPEN_BYTES}

-- a body takes at most so many of the bytes; one that isn't whole takes them all
abbrev TakesFew : ℕ → List ℕ → Body → Type 0
TakesFew most bytes (whole_body content rest) = length bytes ≤ most + length rest
TakesFew most bytes (bad_body fault) = Unit {0}
TakesFew most bytes part_body = length bytes ≤ most

chosen_few : (most : ℕ) (bytes : List ℕ) (test : Bool) (a b : Body) → (test ≡ true → TakesFew most bytes a) → (test ≡ false → TakesFew most bytes b)
    → TakesFew most bytes (if test then a else b)
chosen_few most bytes true a b x y = x refl
chosen_few most bytes false a b x y = y refl

sized_few : (most size : ℕ) (bytes : List ℕ) → nat_lt most (min size (length bytes)) ≡ false → TakesFew most bytes (sized_body size bytes)
sized_few most size bytes small =
    chosen_few most bytes (nat_le size (length bytes)) (whole_body (take size bytes) (drop size bytes)) part_body
    (λ fits. let left : length (drop size bytes) ≡ length bytes - size = length-drop size bytes in grind (arith, nat_tests))
    (λ short. grind (arith, nat_tests))

limited_few : (most size : ℕ) (bytes : List ℕ) → TakesFew most bytes (limited_body most size bytes)
limited_few most size bytes =
    chosen_few most bytes (nat_lt most (min size (length bytes))) (bad_body TooBig) (sized_body size bytes) (λ big. tt) (λ small. sized_few most size bytes small)

-- what is dropped was decoded, but for one byte
dropped_few : (most : ℕ) (bytes rest : List ℕ) → (length rest == 0 && nat_lt most (length bytes)) ≡ false → length bytes ≤ most + length (rest ++ drop (most + 1) bytes)
dropped_few most bytes [] few =
    let left : length (drop (most + 1) bytes) ≡ length bytes - (most + 1) = length-drop (most + 1) bytes in
    let small : nat_lt most (length bytes) ≡ false = few in
    grind (arith, nat_tests)
dropped_few most bytes (x ∷ rest) few =
    let left : length (drop (most + 1) bytes) ≡ length bytes - (most + 1) = length-drop (most + 1) bytes in
    omega (arith, left, length-append rest (drop (most + 1) bytes))

within_few : (most : ℕ) (bytes : List ℕ) (decoded : Body) → TakesFew most bytes (within most bytes decoded)
within_few most bytes (whole_body content rest) =
    chosen_few most bytes (length rest == 0 && nat_lt most (length bytes)) (bad_body TooBig) (whole_body content (rest ++ drop (most + 1) bytes))
    (λ big. tt) (λ few. dropped_few most bytes rest few)
within_few most bytes (bad_body fault) = tt
within_few most bytes part_body =
    chosen_few most bytes (nat_lt most (length bytes)) (bad_body TooBig) part_body (λ big. tt) (λ small. grind (arith, nat_tests))

more_few : (room most : ℕ) (bytes : List ℕ) (body : Body) → room ≤ most → TakesFew room bytes body → TakesFew most bytes body
more_few room most bytes (whole_body content rest) fits few = omega (arith, fits, few)
more_few room most bytes (bad_body fault) fits few = tt
more_few room most bytes part_body fits few = omega (arith, fits, few)

body_few : (room most : ℕ) (size : Option ℕ) (bytes : List ℕ) (body : Body) → room ≤ most → IsBody room most size bytes body → TakesFew most bytes body
body_few room most (Some size) bytes body fits is =
    more_few room most bytes body fits (subst (TakesFew room bytes) (sym is) (limited_few room size bytes))
body_few room most None bytes body fits is = subst (TakesFew most bytes) (sym is.2) (within_few most bytes is.0)

-- the most bytes behind so many requests, from the part on that comes next
abbrev most_from : Part → ℕ → ℕ
most_from a_head count = (1000 - count) * 16793600
most_from (a_body o) count = (1000 - count) * 16793600 - 16384

announced_open : (expects : Bool) (count : ℕ) (why : Ended) (steps later : List Step) → steps ≡ announced expects ++ later
    → ended_after count why steps ≡ None → ended_after count why later ≡ None
announced_open false count why steps later e open_is = ap (ended_after count why) (sym e) ∙ open_is
announced_open true count why steps later e open_is = ap (ended_after count why) (sym e) ∙ open_is

not_last : (close last : Bool) → (if close then Some Asked else (if last then Some Enough else None)) ≡ None → last ≡ false
not_last false false none = refl
not_last false true none = absurd (cc)
not_last true last none = absurd (cc)

below_last : (count : ℕ) (o : Opening) → count < 1000 → end_behind (count + 1) o.request ≡ None → count + 1 < 1000
below_last count o below none =
    let other : (count + 1 == 1000) ≡ false = not_last o.request.close (count + 1 == 1000) none in
    grind (arith, nat_tests)

open_few : {part : Part} {count : ℕ} {bytes : List ℕ} {over : Bool} {steps : List Step} → Asks part count bytes over steps → over ≡ false
    → count < 1000 → (why : Ended) → ended_after count why steps ≡ None → length bytes ≤ most_from part count
open_few (no_head cut e) goes_on below why open_is = omega (arith, cut.0)
open_few (long_head cut) goes_on below why open_is = absurd (cc)
open_few (bad_head head rest cut judged) goes_on below why open_is = absurd (cc)
open_few {count = count} {bytes = bytes} {steps = steps} (good_head head rest o later cut judged d e) goes_on below why open_is =
    let behind_head : length rest ≤ (1000 - count) * 16793600 - 16384 = open_few d goes_on below why (announced_open o.expects count why steps later e open_is) in
    omega (arith, ap length cut.0, length-append head rest, cut.2)
open_few {bytes = bytes} (no_body {o = o} is e) goes_on below why open_is =
    let few : length bytes ≤ 16777216 = body_few 1048576 16777216 o.size bytes part_body (omega arith) is in
    omega (arith, few)
open_few {count = count} (faulty_body fault is e) goes_on below why open_is = absurd (cc)
open_few {count = count} (last_body body rest reason is end e) goes_on below why open_is = absurd (cc)
open_few {count = count} {bytes = bytes} {steps = steps} (good_body {o = o} body rest later is end d e) goes_on below why open_is =
    let few : length bytes ≤ 16777216 + length rest = body_few 1048576 16777216 o.size bytes (whole_body body rest) (omega arith) is in
    let next : count + 1 < 1000 = below_last count o below end in
    let later_open : ended_after (count + 1) (unwrap_or (end_behind (count + 1) (whole_request o body)) Closed) later ≡ None = ap (ended_after count why) (sym e) ∙ open_is in
    let behind_body : length rest ≤ (1000 - (count + 1)) * 16793600 = open_few d goes_on next _ later_open in
    omega (arith, few, next, behind_body)

-- A connection that hasn't ended has at most 999 whole requests and a part of one.
pub open_limit : (bytes : List ℕ) (steps : List Step) → Asks a_head 0 bytes false steps → ended steps ≡ None → length bytes ≤ MOST_OPEN_BYTES
open_limit bytes steps asks open_is = open_few asks refl (omega arith) Closed open_is
