-- The lines of chunks.
use Rattle.std.proofs.Common.{◌≡◌, ℕ, zero, suc, ◌+◌, ◌≤◌, ◌<◌, Bool, true, false, not, cond, List, [], ◌∷◌, ◌++◌, ◌==◌, ◌∙◌, length, take, drop, refl, sym, ap, subst, arith, length-append, append_assoc, inl, inr, nat_lt}
use Rattle.std.specs.List.{prefix_len, position_or_len}
use Rattle.std.proofs.lemmas.Bool.{ltb-true, lt-ltb}
use Rattle.gw_messages.specs.model.Bodies.{IsLine, whole_line, bad_line}
use Rattle.httparse.specs.Grammar.{ChunkLine, print_chunk_line, print_extension, print_end, crlf, HasNoChunkLine}
use Rattle.httparse.specs.Spans.{IsChunkLineAt}
use Rattle.httparse.proofs.ChunkLemmas.{ReadsChunkLine-append}

-- a line has a byte, and lies in the bytes
pub line_within : (bytes : List ℕ) (count size : ℕ) (l : ChunkLine) → IsChunkLineAt bytes count size l → (0 < count) × (count ≤ length bytes)
unfolding print_chunk_line
line_within bytes count size l at = (
  omega (arith, at.len_is, length-append (l.digits ++ l.pad ++ print_extension l.extension) (print_end crlf)),
  omega (arith, at.len_is, ap length at.reads.1, length-append (print_chunk_line l) (drop count bytes)),
)

pub prefix_longer : (p : ℕ → Bool) (xs ys : List ℕ) → prefix_len p xs ≤ prefix_len p (xs ++ ys)
prefix_longer p [] ys = omega arith
prefix_longer p (x ∷ xs) ys = by_test (p x) (prefix_longer p xs ys)
  where
    by_test : (t : Bool) → prefix_len p xs ≤ prefix_len p (xs ++ ys) → cond t (1 + prefix_len p xs) 0 ≤ cond t (1 + prefix_len p (xs ++ ys)) 0
    by_test true le = omega arith
    by_test false le = omega arith

-- what can't become a line can't with more bytes
pub bad_more : (bytes more : List ℕ) → IsLine bytes bad_line → IsLine (bytes ++ more) bad_line
bad_more bytes more (inl long) =
    inl (lt-ltb 1024 (position_or_len (λ b. b == 13) (bytes ++ more))
    (omega (arith, ltb-true _ _ long, prefix_longer (λ b. not (b == 13)) bytes more)))
bad_more bytes more (inr never) = inr (λ later. subst HasNoChunkLine (sym (append_assoc bytes more later)) (never (more ++ later)))

-- what is seen with more bytes is what was seen, and more
pub seen_more : (n : ℕ) (xs ys : List ℕ) → (more : List ℕ) × (take n (xs ++ ys) ≡ take n xs ++ more)
seen_more zero xs ys = ([], refl)
seen_more (suc n) [] ys = (take (suc n) ys, refl)
seen_more (suc n) (x ∷ xs) ys = let r = seen_more n xs ys in (r.0, ap (λ l. x ∷ l) r.1)

-- the first byte that passes is the same with more bytes
prefix_more : (p : ℕ → Bool) (xs ys : List ℕ) → prefix_len p xs < length xs → prefix_len p (xs ++ ys) ≡ prefix_len p xs
prefix_more p [] ys lt = absurd (omega arith)
prefix_more p (x ∷ xs) ys lt = by_test (p x) (prefix_more p xs ys) lt
  where
    by_test : (t : Bool) → (prefix_len p xs < length xs → prefix_len p (xs ++ ys) ≡ prefix_len p xs) → cond t (1 + prefix_len p xs) 0 < length (x ∷ xs)
        → cond t (1 + prefix_len p (xs ++ ys)) 0 ≡ cond t (1 + prefix_len p xs) 0
    by_test true h l = ap (λ n. 1 + n) (h (omega (arith, l)))
    by_test false h l = refl

-- a byte that fails ends the front that passes
prefix_within : (p : ℕ → Bool) (a : List ℕ) (x : ℕ) (b : List ℕ) → p x ≡ false → prefix_len p (a ++ x ∷ b) ≤ length a
prefix_within p [] x b e = rw e (omega arith)
prefix_within p (y ∷ a) x b e = by_test (p y) (prefix_within p a x b e)
  where
    by_test : (t : Bool) → prefix_len p (a ++ x ∷ b) ≤ length a → cond t (1 + prefix_len p (a ++ x ∷ b)) 0 ≤ length (y ∷ a)
    by_test true le = omega (arith, le)
    by_test false le = omega arith

-- a line has a CR
line_ends : (l : ChunkLine) (rest : List ℕ) → position_or_len (λ b. b == 13) (print_chunk_line l ++ rest) < length (print_chunk_line l ++ rest)
unfolding print_chunk_line
line_ends l rest = before (l.digits ++ l.pad ++ print_extension l.extension)
  where
    before : (a : List ℕ) → position_or_len (λ b. b == 13) (a ++ (13 ∷ 10 ∷ []) ++ rest) < length (a ++ (13 ∷ 10 ∷ []) ++ rest)
    before a = rw append_assoc (omega (arith, prefix_within (λ b. not (b == 13)) a 13 (10 ∷ rest) refl, length-append a (13 ∷ 10 ∷ rest)))

-- a whole line stays whole with more bytes
pub line_more : (seen more : List ℕ) (size : ℕ) (rest : List ℕ) → IsLine seen (whole_line size rest) → IsLine (seen ++ more) (whole_line size (rest ++ more))
line_more seen more size rest is =
    let ends : position_or_len (λ b. b == 13) seen < length seen = subst (λ (s : List ℕ). position_or_len (λ b. b == 13) s < length s) (sym is.1.1.1) (line_ends is.1.0 rest) in
    (ap (nat_lt 1024) (prefix_more (λ b. not (b == 13)) seen more ends) ∙ is.0, (is.1.0, ReadsChunkLine-append seen is.1.0 rest more is.1.1, is.1.2))
