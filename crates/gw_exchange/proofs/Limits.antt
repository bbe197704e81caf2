-- What bytes of a backend never come to, and how many there are of a response that isn't whole.
use Rattle.std.proofs.Common.{◌≡◌, ◌∙◌, ℕ, zero, suc, ◌+◌, ◌-◌, ◌*◌, ◌<◌, ◌≤◌, Bool, true, false, List, [], length, take, min, nat_lt, nat_le, if◌then◌else◌, refl, sym, ap, subst, arith, length-append}
use Rattle.std.proofs.lemmas.Bool.Decides.{nat_tests}
use Rattle.gw_messages.specs.model.Bodies.{Body, whole_body, bad_body, part_body, limited_body, within}
use Rattle.gw_messages.specs.model.Sections.{ends_head}
use Rattle.gw_messages.specs.declared.fault.BodyFault.{BodyFault}
use Rattle.gw_messages.specs.declared.fault.BodyFault.TheVariants.{Malformed, LongTrailers, TooBig}
use Rattle.gw_replies.specs.declared.fault.BackendFault.{BackendFault}
use Rattle.gw_replies.specs.declared.fault.BackendFault.TheVariants as faults
use Rattle.gw_replies.specs.model.Responses.{Head, Outcome, a_need, a_fault, Extent, by_chunks, by_number, by_end, extent_of, IsBodyOf, body_to_end, fault_of, unfinished, outcome_of, Responds, no_head, long_head, bad_head, refused_head, many_interim, interim, bodiless, misframed, bodied, ResponseOf}

-- A fault that bytes can have.
abbrev pub IsByteFault : BackendFault → Type 0
IsByteFault faults.Open = ⊥
IsByteFault faults.Send = ⊥
IsByteFault faults.Receive = ⊥
IsByteFault faults.Head = Unit {0}
IsByteFault faults.Body = Unit {0}
IsByteFault faults.TooBig = Unit {0}
IsByteFault faults.Cut = Unit {0}

one_of_body : (fault : BodyFault) → IsByteFault (fault_of fault)
one_of_body Malformed = tt
one_of_body LongTrailers = tt
one_of_body TooBig = tt

same_fault : (f g : BackendFault) → a_fault f ≡ a_fault g → IsByteFault f → IsByteFault g
same_fault f g is byte = let e : f ≡ g = cc in subst IsByteFault e byte

unfinished_fault : (ended : Bool) (fault : BackendFault) → unfinished ended ≡ a_fault fault → IsByteFault fault
unfinished_fault false fault is = absurd (cc)
unfinished_fault true fault is = same_fault faults.Cut fault is tt

body_fault : (h : Head) (body : Body) (ended : Bool) (fault : BackendFault) → outcome_of h body ended ≡ a_fault fault → IsByteFault fault
body_fault h (whole_body body rest) ended fault is = absurd (cc)
body_fault h (bad_body f) ended fault is = same_fault (fault_of f) fault is (one_of_body f)
body_fault h part_body ended fault is = unfinished_fault ended fault is

-- A fault of bytes isn't a call's.
pub byte_fault : {to_head : Bool} {count before : ℕ} {bytes : List ℕ} {ended : Bool} {outcome : Outcome}
    → Responds to_head count before bytes ended outcome → (fault : BackendFault) → outcome ≡ a_fault fault → IsByteFault fault
byte_fault {ended = ended} (no_head cut e) fault is = unfinished_fault ended fault (sym e ∙ is)
byte_fault (long_head cut) fault is = same_fault faults.Head fault is tt
byte_fault (bad_head head rest cut h) fault is = same_fault faults.Head fault is tt
byte_fault (refused_head head rest h cut reads e₁) fault is = same_fault faults.Head fault is tt
byte_fault (many_interim head rest h cut reads e₁ e₂ many) fault is = same_fault faults.Head fault is tt
byte_fault (interim head rest h cut reads e₁ e₂ few more) fault is = byte_fault more fault is
byte_fault (bodiless head rest h cut reads e₁ e₂ e₃ e) fault is = absurd (cc)
byte_fault (misframed head rest h cut reads e₁ e₂ e₃ e₄) fault is = same_fault faults.Body fault is tt
byte_fault {ended = ended} (bodied head rest h body cut reads e₁ e₂ e₃ e₄ of e) fault is = body_fault h body ended fault (sym e ∙ is)

body_need : (h : Head) (body : Body) (ended : Bool) → outcome_of h body ended ≡ a_need → (body ≡ part_body) × (ended ≡ false)
body_need h (whole_body body rest) ended is = absurd (cc)
body_need h (bad_body f) ended is = absurd (cc)
body_need h part_body false is = (refl, refl)
body_need h part_body true is = absurd (cc)

unfinished_need : (ended : Bool) → unfinished ended ≡ a_need → ended ≡ false
unfinished_need false is = refl
unfinished_need true is = absurd (cc)

-- Where the bytes have ended no more are needed.
pub need_unended : {to_head : Bool} {count before : ℕ} {bytes : List ℕ} {ended : Bool} {outcome : Outcome}
    → Responds to_head count before bytes ended outcome → outcome ≡ a_need → ended ≡ false
need_unended {ended = ended} (no_head cut e) is = unfinished_need ended (sym e ∙ is)
need_unended (long_head cut) is = absurd (cc)
need_unended (bad_head head rest cut h) is = absurd (cc)
need_unended (refused_head head rest h cut reads e₁) is = absurd (cc)
need_unended (many_interim head rest h cut reads e₁ e₂ many) is = absurd (cc)
need_unended (interim head rest h cut reads e₁ e₂ few more) is = need_unended more is
need_unended (bodiless head rest h cut reads e₁ e₂ e₃ e) is = absurd (cc)
need_unended (misframed head rest h cut reads e₁ e₂ e₃ e₄) is = absurd (cc)
need_unended {ended = ended} (bodied head rest h body cut reads e₁ e₂ e₃ e₄ of e) is = (body_need h body ended (sym e ∙ is)).1

-- A choice that is a part of a body.
not_too_big : (test : Bool) (fault : BodyFault) (other : Body) → part_body ≡ (if test then bad_body fault else other) → (test ≡ false) × (part_body ≡ other)
not_too_big true fault other is = absurd (cc)
not_too_big false fault other is = (refl, is)

not_whole : (test : Bool) (content rest : List ℕ) (other : Body) → part_body ≡ (if test then whole_body content rest else other) → test ≡ false
not_whole true content rest other is = absurd (cc)
not_whole false content rest other is = refl

-- A part of a body of an announced size.
sized_part : (room size : ℕ) (bytes : List ℕ) → part_body ≡ limited_body room size bytes → length bytes ≤ room
sized_part room size bytes is =
    let fits = not_too_big (nat_lt room (min size (length bytes))) TooBig _ is in
    let short : nat_le size (length bytes) ≡ false = not_whole (nat_le size (length bytes)) _ _ _ fits.1 in
    let small : nat_lt room (min size (length bytes)) ≡ false = fits.0 in
    grind (arith, nat_tests)

-- A part of a body that ends with the bytes.
ending_part : (bytes : List ℕ) (ended : Bool) → part_body ≡ body_to_end bytes ended → length bytes ≤ 8388608
ending_part bytes ended is =
    let small : nat_lt 8388608 (length bytes) ≡ false = (not_too_big (nat_lt 8388608 (length bytes)) TooBig _ is).0 in
    grind (arith, nat_tests)

whole_in : (test : Bool) (content rest : List ℕ) → part_body ≡ (if test then bad_body TooBig else whole_body content rest) → ⊥
whole_in true content rest is = absurd (cc)
whole_in false content rest is = absurd (cc)

-- A part of a chunked body.
chunked_part : (most : ℕ) (bytes : List ℕ) (decoded : Body) → part_body ≡ within most bytes decoded → length bytes ≤ most
chunked_part most bytes (whole_body content rest) is = absurd (whole_in _ _ _ is)
chunked_part most bytes (bad_body fault) is = absurd (cc)
chunked_part most bytes part_body is =
    let small : nat_lt most (length bytes) ≡ false = (not_too_big (nat_lt most (length bytes)) TooBig _ is).0 in
    grind (arith, nat_tests)

-- A part of a body, with what came before it.
part_few : (extent : Extent) (before : ℕ) (bytes : List ℕ) (ended : Bool) → before ≤ 278528 → IsBodyOf extent before bytes ended part_body → before + length bytes ≤ 67108864
part_few by_chunks before bytes ended least of = omega (arith, chunked_part (67108864 - before) bytes of.0 of.2)
part_few (by_number size) before bytes ended least of = omega (arith, sized_part 8388608 size bytes of)
part_few by_end before bytes ended least of = omega (arith, ending_part bytes ended of)

-- A response that isn't whole has at most 64 MiB, behind interim ones.
few_behind : {to_head : Bool} {count before : ℕ} {bytes : List ℕ} {ended : Bool} {outcome : Outcome}
    → Responds to_head count before bytes ended outcome → outcome ≡ a_need → count ≤ 16 → before ≤ count * 16384 → before + length bytes ≤ 67108864
few_behind (no_head cut e) is some least = omega (arith, cut.0)
few_behind (long_head cut) is some least = absurd (cc)
few_behind (bad_head head rest cut h) is some least = absurd (cc)
few_behind (refused_head head rest h cut reads e₁) is some least = absurd (cc)
few_behind (many_interim head rest h cut reads e₁ e₂ many) is some least = absurd (cc)
few_behind {count = count} {before = before} {bytes = bytes} (interim head rest h cut reads e₁ e₂ few more) is some least =
    let later : before + length head + length rest ≤ 67108864 = few_behind more is (omega arith) (omega (arith, cut.2)) in
    omega (arith, ap length cut.0, length-append head rest)
few_behind (bodiless head rest h cut reads e₁ e₂ e₃ e) is some least = absurd (cc)
few_behind (misframed head rest h cut reads e₁ e₂ e₃ e₄) is some least = absurd (cc)
few_behind {count = count} {before = before} {bytes = bytes} {ended = ended} (bodied head rest h body cut reads e₁ e₂ e₃ e₄ of e) is some least =
    let part = (body_need h body ended (sym e ∙ is)).0 in
    let of_part = subst (λ (b : Body). IsBodyOf (extent_of h.fields) (before + length head) rest ended b) part of in
    let later : before + length head + length rest ≤ 67108864 = part_few (extent_of h.fields) (before + length head) rest ended (omega (arith, cut.2)) of_part in
    omega (arith, ap length cut.0, length-append head rest)

-- A response that isn't whole has at most 64 MiB, the interim ones before it included.
pub need_few : (to_head : Bool) (bytes : List ℕ) (ended : Bool) → ResponseOf to_head bytes ended a_need → length bytes ≤ 67108864
need_few to_head bytes ended needs = omega (arith, few_behind needs refl (omega arith) (omega arith))

no_end : (n : ℕ) → n < 1 → ends_head (take n []) ≡ false
no_end zero less = refl
no_end (suc n) less = absurd (omega arith)

-- No bytes are no response yet.
pub nothing_yet : (to_head : Bool) → ResponseOf to_head [] false a_need
nothing_yet to_head = no_head (omega arith, λ n less. no_end n less) refl
