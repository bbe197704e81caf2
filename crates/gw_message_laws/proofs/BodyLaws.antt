-- A body is read in one way.
use Rattle.std.proofs.Common.{◌≡◌, ℕ, ◌-◌, ◌<◌, Bool, true, false, List, [], ◌++◌, arith, refl, sym, ap, ap₂, ◌∙◌, subst, inl, inr, Option, Some, None}
use Rattle.httparse.specs.Grammar.{chunk_size}
use Rattle.httparse.proofs.ChunkLemmas.{chunk_line_unique, ReadsChunkLine-append}
use Rattle.gw_messages.specs.declared.fault.BodyFault.TheVariants.{Malformed}
use Rattle.gw_messages.specs.model.Bodies.{Body, whole_body, bad_body, part_body, behind, Line, whole_line, bad_line, part_line, is_long_line, IsLine, chunk_data, after_trailers, is_whole, Chunks, bad_chunk, part_chunk, last_chunk, stopped_chunk, whole_chunk, within, IsBody}
use Rattle.gw_messages.specs.model.Sections.{Section, IsCut, ends_trailers}
use Rattle.gw_message_laws.proofs.Cuts.{cut_unique}

not_both : (t : Bool) → t ≡ true → t ≡ false → ⊥
not_both t holds fails = cc

whole_not_bad : (bytes rest : List ℕ) (size : ℕ) → IsLine bytes (whole_line size rest) → IsLine bytes bad_line → ⊥
whole_not_bad bytes rest size x (inl long) = not_both (is_long_line bytes) long x.0
whole_not_bad bytes rest size x (inr never) = never [] x.1.0 (rest ++ []) (ReadsChunkLine-append bytes x.1.0 rest [] x.1.1)

bad_not_part : (bytes : List ℕ) → IsLine bytes bad_line → IsLine bytes part_line → ⊥
bad_not_part bytes (inl long) y = not_both (is_long_line bytes) long y.0
bad_not_part bytes (inr never) y = never y.2.0 y.2.1 [] y.2.2

line_unique : (bytes : List ℕ) (a b : Line) → IsLine bytes a → IsLine bytes b → a ≡ b
line_unique bytes (whole_line s r) (whole_line t q) x y =
    let same = chunk_line_unique bytes x.1.0 y.1.0 r q x.1.1 y.1.1 in
    ap₂ whole_line (x.1.2 ∙ ap chunk_size same.0 ∙ sym y.1.2) same.1
line_unique bytes (whole_line s r) bad_line x y = absurd (whole_not_bad bytes r s x y)
line_unique bytes (whole_line s r) part_line x y = absurd (y.1 x.1.0 r x.1.1)
line_unique bytes bad_line (whole_line t q) x y = absurd (whole_not_bad bytes q t y x)
line_unique bytes bad_line bad_line x y = refl
line_unique bytes bad_line part_line x y = absurd (bad_not_part bytes x y)
line_unique bytes part_line (whole_line t q) x y = absurd (x.1 y.1.0 q y.1.1)
line_unique bytes part_line bad_line x y = absurd (bad_not_part bytes y x)
line_unique bytes part_line part_line x y = refl

-- the rule that a size chooses
pub data BySize (room size : ℕ) (rest : List ℕ) (body : Body) : Type 0 where
  by_last : (section : Section) → size ≡ 0 → IsCut ends_trailers 16384 rest section → body ≡ after_trailers section → BySize room size rest body
  by_stopped : 0 < size → body ≡ chunk_data room size rest → is_whole body ≡ false → BySize room size rest body
  by_whole : (content more : List ℕ) (later : Body) → 0 < size → chunk_data room size rest ≡ whole_body content more
      → Chunks (room - size) more later → body ≡ behind content later → BySize room size rest body

-- what a line leads to
abbrev ByLine : ℕ → Line → Body → Type 0
ByLine room bad_line body = body ≡ bad_body Malformed
ByLine room part_line body = body ≡ part_body
ByLine room (whole_line size rest) body = BySize room size rest body

by_line : {room : ℕ} {bytes : List ℕ} {body : Body} → Chunks room bytes body → (line : Line) × IsLine bytes line × ByLine room line body
by_line (bad_chunk is) = (bad_line, is, refl)
by_line (part_chunk is) = (part_line, is, refl)
by_line (last_chunk rest section is cut e) = (whole_line 0 rest, is, by_last section refl cut e)
by_line (stopped_chunk size rest pos is e part) = (whole_line size rest, is, by_stopped pos e part)
by_line (whole_chunk size rest content more later pos is data_is d e) = (whole_line size rest, is, by_whole content more later pos data_is d e)

same_line : {room : ℕ} {bytes : List ℕ} {body : Body} (line : Line) → IsLine bytes line → Chunks room bytes body → ByLine room line body
same_line {room} {bytes} {body} line is y =
    let v = by_line y in
    subst (λ l. ByLine room l body) (line_unique bytes v.0 line v.1 is) v.2

not_stopped : (a : Body) (content more : List ℕ) → a ≡ whole_body content more → is_whole a ≡ false → ⊥
not_stopped a content more e part = not_both (is_whole a) (ap is_whole e) part

last_same : (room : ℕ) (rest : List ℕ) (section : Section) (a b : Body) → IsCut ends_trailers 16384 rest section → a ≡ after_trailers section → BySize room 0 rest b → a ≡ b
last_same room rest section a b cut e (by_last other zero_is cut_other f) =
    e ∙ ap after_trailers (cut_unique ends_trailers 16384 rest section other cut cut_other) ∙ sym f
last_same room rest section a b cut e (by_stopped pos f part) = absurd (omega (arith, pos))
last_same room rest section a b cut e (by_whole content more later pos f d g) = absurd (omega (arith, pos))

stopped_same : (room size : ℕ) (rest : List ℕ) (a b : Body) → 0 < size → a ≡ chunk_data room size rest → is_whole a ≡ false → BySize room size rest b → a ≡ b
stopped_same room size rest a b pos e part (by_last other zero_is cut_other f) = absurd (omega (arith, pos, zero_is))
stopped_same room size rest a b pos e part (by_stopped pos_other f part_other) = e ∙ sym f
stopped_same room size rest a b pos e part (by_whole content more later pos_other f d g) = absurd (not_stopped a content more (e ∙ f) part)

whole_parts : (a b r q : List ℕ) → whole_body a r ≡ whole_body b q → (a ≡ b) × (r ≡ q)
whole_parts a b r q e = (cc, cc)

whole_same : (room size : ℕ) (rest content more : List ℕ) (later a b : Body) → 0 < size → chunk_data room size rest ≡ whole_body content more
    → ((other : Body) → Chunks (room - size) more other → later ≡ other) → a ≡ behind content later → BySize room size rest b → a ≡ b
whole_same room size rest content more later a b pos is same e (by_last other zero_is cut_other f) = absurd (omega (arith, pos, zero_is))
whole_same room size rest content more later a b pos is same e (by_stopped pos_other f part) = absurd (not_stopped b content more (f ∙ is) part)
whole_same room size rest content more later a b pos is same e (by_whole content₂ more₂ later₂ pos_other f d g) =
    let parts = whole_parts content content₂ more more₂ (sym is ∙ f) in
    let tail = same later₂ (subst (λ m. Chunks (room - size) m later₂) (sym parts.1) d) in
    e ∙ ap₂ behind parts.0 tail ∙ sym g

chunks_unique : {room : ℕ} {bytes : List ℕ} {a b : Body} → Chunks room bytes a → Chunks room bytes b → a ≡ b
chunks_unique (bad_chunk is) y = sym (same_line bad_line is y)
chunks_unique (part_chunk is) y = sym (same_line part_line is y)
chunks_unique {room} {bytes} {a} {b} (last_chunk rest section is cut e) y = last_same room rest section a b cut e (same_line (whole_line 0 rest) is y)
chunks_unique {room} {bytes} {a} {b} (stopped_chunk size rest pos is e part) y = stopped_same room size rest a b pos e part (same_line (whole_line size rest) is y)
chunks_unique {room} {bytes} {a} {b} (whole_chunk size rest content more later pos is data_is d e) y =
    whole_same room size rest content more later a b pos data_is (λ other z. chunks_unique d z) e (same_line (whole_line size rest) is y)

pub body_unique : (room most : ℕ) (size : Option ℕ) (bytes : List ℕ) (a b : Body) → IsBody room most size bytes a → IsBody room most size bytes b → a ≡ b
body_unique room most (Some size) bytes a b x y = x ∙ sym y
body_unique room most None bytes a b x y = x.2 ∙ ap (within most bytes) (chunks_unique x.1 y.1) ∙ sym y.2
