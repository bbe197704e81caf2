-- What the spans of fields say.
use Rattle.std.proofs.Common.{◌≡◌, ℕ, ◌*◌, ◌≤◌, ◌<◌, List, [], ◌∷◌, ◌++◌, length, take, map, refl, sym, ap, ◌∙◌, arith, subst, length-append, lit<}
use Rattle.std.specs.List.{flat_map, All}
use Rattle.std.proofs.lemmas.List.Concat.{flat_map-cons}
use Rattle.std.proofs.lemmas.List.Elements.{All-head, All-tail}
use Rattle.std.proofs.Math.Seq.{take-append_seam}
use Rattle.httparse.specs.Grammar.{LineEnd, crlf, lf, print_end, Field, IsField, print_field}
use Rattle.httparse.specs.Spans.{IsHeaderWithin, header_bytes, name_and_value}
use Rattle.httparse.specs.declared.spans.HeaderSpan.{HeaderSpan}
use Rattle.gw_text.specs.model.Fields.{Field as Plain}
use Rattle.gw_messages.specs.model.Values.{field_of}
use Rattle.gw_messages.specs.Spans.{field_at}

-- a line's end has a byte
pub end_size : (e : LineEnd) → 0 < length (print_end e)
end_size crlf = lit< tt
end_size lf = lit< tt

-- a field line has three bytes
pub field_size : (f : Field) → IsField f → 3 ≤ length (print_field f)
field_size f ok = sized (f.name) (58 ∷ f.raw) (print_end f.end) ok.name.0 (end_size f.end)
  where
    sized : (a b c : List ℕ) → 0 < length a → 0 < length c → 3 ≤ length (a ++ 58 ∷ f.raw ++ c)
    sized a b c x y = omega (arith, length-append (a ++ 58 ∷ f.raw) c, length-append a (58 ∷ f.raw), x, y)

-- field lines have three bytes each
pub fields_size : (fs : List Field) → All IsField fs → 3 * length fs ≤ length (flat_map print_field fs)
fields_size [] ok = omega arith
fields_size (f ∷ fs) ok =
    let one = field_size f (All-head IsField f fs ok) in
    let more = fields_size fs (All-tail IsField f fs ok) in
    omega (arith, one, more, ap length (flat_map-cons print_field f fs), length-append (print_field f) (flat_map print_field fs))

-- the vector has what was written to all of it
pub all_written : (n : ℕ) (written rest : List HeaderSpan) → length written ≡ n → take n (written ++ rest) ≡ written
all_written n written rest e = subst (λ (k : ℕ). take k (written ++ rest) ≡ written) e (take-append_seam written rest)

-- spans that lie within some bytes lie within more
pub weaker : (n m : ℕ) (spans : List HeaderSpan) → n ≤ m → All (IsHeaderWithin n) spans → All (IsHeaderWithin m) spans
weaker n m spans le all = λ k d lt. let h = all k d lt in ((h.0.0, omega (arith, h.0.1)), (h.1.0, omega (arith, h.1.1)))

-- one map behind another
pub map_twice : {A B C : Type 0} (f : B → C) (g : A → B) (xs : List A) → map f (map g xs) ≡ map (λ x. f (g x)) xs
map_twice f g [] = refl
map_twice f g (x ∷ xs) = ap (λ ys. f (g x) ∷ ys) (map_twice f g xs)

field_from : List ℕ × List ℕ → Plain
field_from p = record { name = p.0; value = p.1 }

-- the fields that the spans cover are those of the field lines
pub fields_are : (bytes : List ℕ) (spans : List HeaderSpan) (fs : List Field) → map (header_bytes bytes) spans ≡ map name_and_value fs → map (field_at bytes) spans ≡ map field_of fs
unfolding field_from
fields_are bytes spans fs e =
    sym (map_twice field_from (header_bytes bytes) spans) ∙ ap (map field_from) e ∙ map_twice field_from name_and_value fs
