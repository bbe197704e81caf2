-- How far bodies have come.
use Rattle.std.proofs.Common.{◌≡◌, ℕ, ◌+◌, ◌-◌, ◌≤◌, ◌<◌, Bool, true, false, List, [], ◌++◌, length, take, drop, refl, sym, ap, ◌∙◌, subst, arith, length-append, append_assoc, min, eq-eqb, nat_le, nat_lt, ◌&&◌, ◌==◌, if◌then◌else◌}
use Rattle.std.specs.Prelude.{Result, Ok, Err, OnErr}
use Rattle.std.proofs.lemmas.Bool.{and_parts, eqb-false, leb-true, lt-ltb, le-ltb, ltb-true}
use borrow.Author.Tests.{eqb-true}
use Rattle.std.proofs.lemmas.List.{take_all, take-append-le, drop-append-le, drop-take, drop-drop, length-take, length-take-le, length-drop, take-append-drop, append-nil}
use Rattle.gw_messages.specs.model.Sections.{IsCut, NoneBelow, whole_section, long_section, ends_trailers}
use Rattle.gw_messages.proofs.Sections.{take_take, long_more, whole_more}
use Rattle.gw_messages.specs.model.Bodies.{Body, whole_body, bad_body, part_body, behind, within, Chunks, last_chunk, stopped_chunk, whole_chunk, IsChunked, IsLine, whole_line, chunk_data}
use Rattle.gw_messages.specs.declared.fault.BodyFault.{BodyFault}
use Rattle.gw_messages.proofs.ChunkData.{data_more, data_size, few_data}
use Rattle.gw_messages.proofs.ChunkLines.{line_more, seen_more}
use Rattle.gw_messages.specs.Chunks.{IsData}
use Rattle.gw_messages.specs.declared.chunk.Data.{Data}
use Rattle.gw_messages.specs.Readings.{behind_line, waits_at, waits_for_data, within_after, Decodes, IsFinished, IsRest, Leads, IsProgress}
use Rattle.gw_messages.specs.declared.body.Decoder.{Decoder}
use Rattle.gw_messages.specs.declared.body.Stage.{Stage}
use Rattle.gw_messages.specs.declared.body.Stage.TheVariants.{Line as BeforeLine, Data as BeforeData, Trailers}
use Rattle.gw_messages.specs.declared.body.Reading.{Reading}
use Rattle.gw_messages.specs.declared.body.Reading.TheVariants.{Chunked}
use Rattle.gw_messages.specs.declared.body.Progress.{Progress}
use Rattle.gw_messages.specs.declared.body.Progress.TheVariants as progresses

zero_plus : (n : ℕ) → 0 + n ≡ n
zero_plus n = omega arith

minus_zero : (n : ℕ) → n - 0 ≡ n
minus_zero n = omega arith

-- nothing was taken yet
pub within_start : (most : ℕ) (bytes : List ℕ) (body : Body) → within_after most 0 bytes (behind [] body) ≡ within most bytes body
within_start most bytes (whole_body content rest) = rw (zero_plus, minus_zero) refl
within_start most bytes (bad_body fault) = refl
within_start most bytes part_body = rw zero_plus refl

-- what a fresh decoder makes of bytes is the chunked body that they hold
pub fresh_decoder : (room most : ℕ) (bytes : List ℕ) (body decoded : Body) → Chunks (room - 0) (take (most + 1 - 0) bytes) decoded → body ≡ within_after most 0 bytes (behind [] decoded) → IsChunked room most bytes body
fresh_decoder room most bytes body decoded chunks is =
    let few : Chunks room (take (most + 1 - 0) bytes) decoded = rw (minus_zero room) at chunks in
    (decoded, rw (minus_zero (most + 1)) at few, is ∙ within_start most bytes decoded)

-- no more bytes than a body may have
pub not_many : (most taken : ℕ) (bytes : List ℕ) → taken + length bytes ≤ most → part_body ≡ within_after most taken bytes part_body
not_many most taken bytes few =
    let within : nat_lt most (taken + length bytes) ≡ false = le-ltb most (taken + length bytes) few in
    rw within refl

-- what comes of a body behind some that led there
pub progress_after : (a b c : Reading) (before middle after : List ℕ) (p : Progress) → Leads a before b middle → IsProgress b middle c after p → IsProgress a before c after p
progress_after a b c before middle after (progresses.Whole content) leads is = λ next. leads next _ (is next)
progress_after a b c before middle after (progresses.Bad fault) leads is = λ next. leads next _ (is next)
progress_after a b c before middle after progresses.Part leads is = (λ next body comes. leads next body (is.0 next body comes), is.1)

-- what holds in any case holds of an error
pub on_err : {A E : Type 0} (r : Result A E) (P : Type 0) → P → OnErr r P
on_err (Ok x) P p = tt
on_err (Err e) P p = p

-- fronts of what is seen are fronts of all
seen_front : (n most : ℕ) (bytes : List ℕ) → n ≤ most → take n (take most bytes) ≡ take n bytes
seen_front n most bytes le = take_take n most bytes le

none_seen : (ends : List ℕ → Bool) (count most : ℕ) (bytes : List ℕ) → count ≤ most + 1 → NoneBelow ends count bytes → NoneBelow ends count (take most bytes)
none_seen ends count most bytes le none = λ n lt.
    let within : n ≤ most = omega arith in
    rw (seen_front n most bytes within) (none n lt)

-- too many bytes of trailers are seen, whatever comes behind
pub long_seen : (ends : List ℕ → Bool) (most : ℕ) (bytes next : List ℕ) → 16384 < most → IsCut ends 16384 bytes long_section → IsCut ends 16384 (take most (bytes ++ next)) long_section
long_seen ends most bytes next many cut =
    let all = long_more ends 16384 bytes next cut in
    let size : length (take most (bytes ++ next)) ≡ min most (length (bytes ++ next)) = length-take most (bytes ++ next) in
    (omega (arith, size, all.0), none_seen ends (16384 + 1) most (bytes ++ next) (omega arith) all.1)

-- a whole section is seen, whatever comes behind
whole_seen : (ends : List ℕ → Bool) (n most : ℕ) (bytes next : List ℕ) → n ≤ most → n ≤ length bytes → IsCut ends 16384 bytes (whole_section (take n bytes) (drop n bytes))
    → IsCut ends 16384 (take most (bytes ++ next)) (whole_section (take n bytes) (drop n (take most (bytes ++ next))))
whole_seen ends n most bytes next le fits cut =
    let all = whole_more ends 16384 bytes (take n bytes) (drop n bytes) next cut in
    let front : take n (take most (bytes ++ next)) ≡ take n bytes = take_take n most (bytes ++ next) le ∙ take-append-le n bytes next fits in
    let long : length (take n bytes) ≡ n = length-take-le n bytes fits in (
      sym (ap (λ (f : List ℕ). f ++ drop n (take most (bytes ++ next))) (sym front) ∙ take-append-drop n (take most (bytes ++ next))),
      cut.1,
      cut.2,
      none_seen ends (length (take n bytes)) most (bytes ++ next) (omega (arith, long)) all.3,
    )

rest_seen : (n most : ℕ) (bytes next : List ℕ) → n ≤ most → n ≤ length bytes → drop n (take most (bytes ++ next)) ++ drop most (bytes ++ next) ≡ drop n bytes ++ next
rest_seen n most bytes next le fits =
    let within : n ≤ length (take most (bytes ++ next)) = omega (arith, length-take most (bytes ++ next), length-append bytes next) in
    sym (drop-append-le n (take most (bytes ++ next)) (drop most (bytes ++ next)) within) ∙ ap (drop n) (take-append-drop most (bytes ++ next)) ∙ drop-append-le n bytes next fits

both_false : (a b : Bool) → (a ≡ true → b ≡ false) → (a && b) ≡ false
both_false true b h = h refl
both_false false b h = refl

-- the trailers end the body, unless it has too many bytes
pub finished_progress : (d new : Decoder) (n : ℕ) (bytes : List ℕ) (p : Progress) → d.stage ≡ Trailers → n ≤ length bytes → IsCut ends_trailers 16384 bytes (whole_section (take n bytes) (drop n bytes))
    → n ≤ d.limits.encoded + 1 - d.taken → d.taken ≤ d.limits.encoded + 1 → IsFinished d.limits.encoded d.content.items (d.taken + n) p → IsProgress (Chunked d) bytes (Chunked new) (drop n bytes) p
finished_progress d new n bytes (progresses.Whole content) stage fits cut le few is = λ next.
    let most = d.limits.encoded + 1 - d.taken in
    let seen = take most (bytes ++ next) in
    let left : length (drop n seen) ≡ length seen - n = length-drop n seen in
    let size : length seen ≡ min most (length (bytes ++ next)) = length-take most (bytes ++ next) in
    let fine : (length (drop n seen) == 0 && nat_lt d.limits.encoded (d.taken + length (bytes ++ next))) ≡ false =
    both_false _ _ (λ e. le-ltb d.limits.encoded (d.taken + length (bytes ++ next)) (omega (arith, eqb-true _ _ e, left, size, is.0))) in (
      whole_body [] (drop n seen),
      subst (λ (t : Stage). IsRest t (d.limits.content - length d.content.items) seen (whole_body [] (drop n seen))) (sym stage)
          (whole_section (take n bytes) (drop n seen), whole_seen ends_trailers n most bytes next le fits cut, refl),
      (rw (fine, append-nil, is.1, rest_seen n most bytes next le fits) refl),
    )
finished_progress d new n bytes (progresses.Bad fault) stage fits cut le few is = λ next.
    let most = d.limits.encoded + 1 - d.taken in
    let seen = take most (bytes ++ next) in
    let left : length (drop n seen) ≡ length seen - n = length-drop n seen in
    let size : length seen ≡ min most (length (bytes ++ next)) = length-take most (bytes ++ next) in
    let none : (length (drop n seen) == 0) ≡ true = eq-eqb (length (drop n seen)) 0 (omega (arith, left, size, is.0)) in
    let over : nat_lt d.limits.encoded (d.taken + length (bytes ++ next)) ≡ true = lt-ltb d.limits.encoded (d.taken + length (bytes ++ next)) (omega (arith, length-append bytes next, is.0)) in (
      whole_body [] (drop n seen),
      subst (λ (t : Stage). IsRest t (d.limits.content - length d.content.items) seen (whole_body [] (drop n seen))) (sym stage)
          (whole_section (take n bytes) (drop n seen), whole_seen ends_trailers n most bytes next le fits cut, refl),
      rw (none, over, is.1) refl,
    )
finished_progress d new n bytes progresses.Part stage fits cut le few is = absurd is

-- data at the front of a body, one behind the other
behind_twice : (a b : List ℕ) (body : Body) → behind a (behind b body) ≡ behind (a ++ b) body
behind_twice a b (whole_body content rest) = rw append_assoc refl
behind_twice a b (bad_body fault) = refl
behind_twice a b part_body = refl

-- taking more bytes changes nothing of what was decoded behind them
within_later : (most taken n : ℕ) (before next : List ℕ) (body : Body) → n ≤ length before → taken + n ≤ most + 1
    → within_after most (taken + n) (drop n before ++ next) body ≡ within_after most taken (before ++ next) body
within_later most taken n before next body fits few = by_body body
  where
    sizes : taken + n + length (drop n before ++ next) ≡ taken + length (before ++ next)
    sizes = omega (arith, fits, length-append (drop n before) next, length-append before next, length-drop n before)

    rests : drop (most + 1 - (taken + n)) (drop n before ++ next) ≡ drop (most + 1 - taken) (before ++ next)
    rests =
        let left : n + (most + 1 - (taken + n)) ≡ most + 1 - taken = omega (arith, few) in
        ap (drop (most + 1 - (taken + n))) (sym (drop-append-le n before next fits)) ∙ drop-drop (most + 1 - (taken + n)) n (before ++ next) ∙ ap (λ k. drop k (before ++ next)) left

    by_body : (b : Body) → within_after most (taken + n) (drop n before ++ next) b ≡ within_after most taken (before ++ next) b
    by_body (whole_body content rest) = rw (sizes, rests) refl
    by_body (bad_body fault) = refl
    by_body part_body = rw sizes refl

-- what is seen behind some bytes, of which more came
rest_after : (n most : ℕ) (before next more : List ℕ) → n ≤ length (take most before) → take most (before ++ next) ≡ take most before ++ more
    → drop n (take most before) ++ more ≡ take (most - n) (drop n before ++ next)
rest_after n most before next more fits e =
    let size : length (take most before) ≡ min most (length before) = length-take most before in
    let all : n + (most - n) ≡ most = omega (arith, fits, size) in
    sym (drop-append-le n (take most before) more fits) ∙ ap (drop n) (sym e ∙ ap (λ k. take k (before ++ next)) (sym all)) ∙ drop-take n (most - n) (before ++ next)
    ∙ ap (take (most - n)) (drop-append-le n before next (omega (arith, fits, size)))

-- what comes behind a line that was taken
pub behind_leads : (room size : ℕ) (line rest : List ℕ) (body : Body) → IsLine line (whole_line size rest) → IsRest (behind_line size) room rest body → Chunks room line body
behind_leads room size line rest body is comes = by_test (size == 0) refl comes
  where
    by_test : (t : Bool) → (size == 0) ≡ t → IsRest (if t then Trailers else BeforeData size) room rest body → Chunks room line body
    by_test true e last = last_chunk rest last.0 (subst (λ k. IsLine line (whole_line k rest)) (eqb-true size 0 e) is) last.1 last.2
    by_test false e data_come = data_come line (omega (arith, eqb-false size 0 e)) is

-- a chunk's line was taken
pub line_leads : (room most taken n size : ℕ) (content before after next : List ℕ) (decoded body : Body) → taken ≤ most + 1 → n ≤ length (take (most + 1 - taken) before) → after ≡ drop n before
    → IsLine (take (most + 1 - taken) before) (whole_line size (drop n (take (most + 1 - taken) before)))
    → IsRest (behind_line size) room (take (most + 1 - (taken + n)) (after ++ next)) decoded → body ≡ within_after most (taken + n) (after ++ next) (behind content decoded)
    → Chunks room (take (most + 1 - taken) (before ++ next)) decoded × (body ≡ within_after most taken (before ++ next) (behind content decoded))
line_leads room most taken n size content before after next decoded body few fits e line rest is =
    let seen = take (most + 1 - taken) before in
    let size_is : length seen ≡ min (most + 1 - taken) (length before) = length-take (most + 1 - taken) before in
    let more = seen_more (most + 1 - taken) before next in
    let left : most + 1 - taken - n ≡ most + 1 - (taken + n) = omega arith in
    let later : drop n seen ++ more.0 ≡ take (most + 1 - (taken + n)) (after ++ next) =
    rest_after n (most + 1 - taken) before next more.0 fits more.1 ∙ ap (λ (b : List ℕ). take (most + 1 - taken - n) (b ++ next)) (sym e) ∙ ap (λ k. take k (after ++ next)) left in (
      behind_leads room size (take (most + 1 - taken) (before ++ next)) (take (most + 1 - (taken + n)) (after ++ next)) decoded
          (subst (λ (s : List ℕ). IsLine s (whole_line size (take (most + 1 - (taken + n)) (after ++ next)))) (sym more.1)
          (subst (λ (r : List ℕ). IsLine (seen ++ more.0) (whole_line size r)) later (line_more seen more.0 size (drop n seen) line))) rest,
      is ∙ ap (λ (b : List ℕ). within_after most (taken + n) (b ++ next) (behind content decoded)) e
          ∙ within_later most taken n before next (behind content decoded) (omega (arith, fits, size_is)) (omega (arith, fits, size_is, few)),
    )

-- a chunk's data were taken
pub data_leads : (room later most taken size n : ℕ) (content piece before after next : List ℕ) (decoded body : Body) → taken ≤ most + 1 → n ≡ size + 2 → later ≡ room - size → after ≡ drop n before
    → piece ≡ take size (take (most + 1 - taken) before)
    → chunk_data room size (take (most + 1 - taken) before) ≡ whole_body (take size (take (most + 1 - taken) before)) (drop (size + 2) (take (most + 1 - taken) before))
    → Chunks later (take (most + 1 - (taken + n)) (after ++ next)) decoded → body ≡ within_after most (taken + n) (after ++ next) (behind (content ++ piece) decoded)
    → IsRest (BeforeData size) room (take (most + 1 - taken) (before ++ next)) (behind piece decoded) × (body ≡ within_after most taken (before ++ next) (behind content (behind piece decoded)))
data_leads room later most taken size n content piece before after next decoded body few all left e piece_is is_data chunks is =
    let seen = take (most + 1 - taken) before in
    let size_is : length seen ≡ min (most + 1 - taken) (length before) = length-take (most + 1 - taken) before in
    let enough : size + 2 ≤ length seen = data_size room size seen _ _ is_data in
    let within : n ≤ length seen = omega (arith, enough, all) in
    let more = seen_more (most + 1 - taken) before next in
    let count : most + 1 - taken - n ≡ most + 1 - (taken + n) = omega arith in
    let behind_data : drop (size + 2) seen ++ more.0 ≡ take (most + 1 - (taken + n)) (after ++ next) =
    ap (λ k. drop k seen ++ more.0) (sym all) ∙ rest_after n (most + 1 - taken) before next more.0 within more.1
    ∙ ap (λ (b : List ℕ). take (most + 1 - taken - n) (b ++ next)) (sym e) ∙ ap (λ k. take k (after ++ next)) count in (
      (λ chunk some line. whole_chunk size (take (most + 1 - taken) (before ++ next)) (take size seen) (drop (size + 2) seen ++ more.0) decoded some line
          (subst (λ (s : List ℕ). chunk_data room size s ≡ whole_body (take size seen) (drop (size + 2) seen ++ more.0)) (sym more.1) (data_more room size seen more.0 _ _ is_data))
          (subst (λ (s : List ℕ). Chunks (room - size) s decoded) (sym behind_data) (subst (λ k. Chunks k (take (most + 1 - (taken + n)) (after ++ next)) decoded) left chunks))
          (ap (λ (d : List ℕ). behind d decoded) piece_is)),
      is ∙ ap (λ (b : List ℕ). within_after most (taken + n) (b ++ next) (behind (content ++ piece) decoded)) e
          ∙ within_later most taken n before next (behind (content ++ piece) decoded) (omega (arith, within, size_is)) (omega (arith, within, size_is, few))
          ∙ ap (within_after most taken (before ++ next)) (sym (behind_twice content piece decoded)),
    )

-- the data of a chunk have a fault, whatever comes behind
pub data_stops : (room most size : ℕ) (before next : List ℕ) (fault : BodyFault) → ((more : List ℕ) → chunk_data room size (take most before ++ more) ≡ bad_body fault)
    → IsRest (BeforeData size) room (take most (before ++ next)) (bad_body fault)
data_stops room most size before next fault stops =
    let more = seen_more most before next in
    λ chunk some line. stopped_chunk size (take most (before ++ next)) some line (sym (ap (chunk_data room size) more.1 ∙ stops more.0)) refl

-- what was read of a chunk's data
pub data_seen : (room len used size : ℕ) (front seen : List ℕ) (d : Data) → len ≡ used → front ≡ seen → IsData (room - len) size front d → IsData (room - used) size seen d
data_seen room len used size front seen d len_is front_is is =
    subst (λ k. IsData (room - k) size seen d) len_is (subst (λ (s : List ℕ). IsData (room - len) size s d) front_is is)

-- fewer bytes are left
pub fewer : (n most : ℕ) (before after : List ℕ) → 0 < n → 0 < length (take most before) → after ≡ drop n before → length after < length before
fewer n most before after some seen e =
    omega (arith, some, seen, length-take most before, ap length e, length-drop n before)

-- fewer bytes than a chunk's data are nothing yet
pub waiting : (d : Decoder) (bytes : List ℕ) → waits_for_data d (length bytes) ≡ true → Decodes d bytes part_body
waiting d bytes waits =
    let at = at_stage d.stage (d.limits.content - length d.content.items) (d.limits.encoded + 1 - d.taken) waits in
    (part_body, at.1, not_many d.limits.encoded d.taken bytes (omega (arith, at.0)))
  where
    at_stage : (stage : Stage) (room most : ℕ) → waits_at stage room most (length bytes) ≡ true → (length bytes < most) × IsRest stage room (take most bytes) part_body
    at_stage BeforeLine room most e = cc
    at_stage (BeforeData size) room most e =
        let first = and_parts (nat_lt (length bytes) size) _ e in
        let second = and_parts (nat_le (length bytes) room) (nat_lt (length bytes) most) first.1 in
        let few : length bytes < most = ltb-true _ _ second.1 in
        let part = few_data room size bytes (ltb-true _ _ first.0) (leb-true _ _ second.0) in (
          few,
          subst (λ (s : List ℕ). IsRest (BeforeData size) room s part_body) (sym (take_all most bytes (omega (arith, few)))) (λ chunk some line. stopped_chunk size bytes some line (sym part) refl),
        )
    at_stage Trailers room most e = cc
