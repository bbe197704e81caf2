-- The bytes of characters that are read one after the other.
use Rattle.std.proofs.Common.{◌≡◌, ◌∙◌, ℕ, ◌<◌, ◌++◌, ◌&&◌, Bool, true, false, List, [], ◌∷◌, length, Some, None, refl, sym, ap, nat_lt, append_assoc, append-nil}
use Rattle.std.specs.List.{list_all}
use Rattle.std.specs.Char.{encode_utf8}
use Rattle.std.specs.Str.{chars, IsUtf8}
use Rattle.std.proofs.lemmas.Bool.{lt-ltb, ltb-true}
use Rattle.std.proofs.lemmas.Str.{chars_past_char, chars-nil}
use Rattle.gw_requests.specs.Quoted.{bytes_in}

abbrev are_bytes : List ℕ → Bool
are_bytes = list_all (λ c. nat_lt c 256)

-- one character more
pub read_more : (text done rest next : List ℕ) (c : ℕ) → IsUtf8 rest → rest ≡ encode_utf8 c ++ next → chars text ≡ done ++ chars rest
    → chars text ≡ (done ++ c ∷ []) ++ chars next
read_more text done rest next c utf8 begins read =
    read ∙ ap (λ more. done ++ more) (chars_past_char rest next c utf8 begins) ∙ sym (append_assoc done (c ∷ []) (chars next))

pub bytes_more : (done : List ℕ) (c : ℕ) → are_bytes done ≡ true → c < 256 → are_bytes (done ++ c ∷ []) ≡ true
bytes_more [] c all small = rw (lt-ltb c 256 small) refl
bytes_more (b ∷ done) c all small = go (nat_lt b 256) all (bytes_more done c)
  where
    go : (t : Bool) → (t && are_bytes done) ≡ true → (are_bytes done ≡ true → c < 256 → are_bytes (done ++ c ∷ []) ≡ true) → (t && are_bytes (done ++ c ∷ [])) ≡ true
    go true e later = later e small
    go false e later = cc

not_small : (c : ℕ) → (c < 256 → ⊥) → nat_lt c 256 ≡ false
not_small c large = go (nat_lt c 256) refl
  where
    go : (t : Bool) → nat_lt c 256 ≡ t → t ≡ false
    go true e = absurd (large (ltb-true c 256 e))
    go false e = refl

no_bytes : (done more : List ℕ) (c : ℕ) → (c < 256 → ⊥) → are_bytes (done ++ c ∷ more) ≡ false
no_bytes [] more c large = rw (not_small c large) refl
no_bytes (b ∷ done) more c large = rw (no_bytes done more c large) (and_false (nat_lt b 256))
  where
    and_false : (t : Bool) → (t && false) ≡ false
    and_false true = refl
    and_false false = refl

-- a character above U+00FF
pub not_bytes : (text done rest next : List ℕ) (c : ℕ) → IsUtf8 rest → rest ≡ encode_utf8 c ++ next → chars text ≡ done ++ chars rest
    → (c < 256 → ⊥) → bytes_in (chars text) ≡ None
not_bytes text done rest next c utf8 begins read large =
    rw (read, chars_past_char rest next c utf8 begins, no_bytes done (chars next) c large) refl

nothing_left : (rest : List ℕ) → length rest ≡ 0 → chars rest ≡ []
nothing_left [] e = chars-nil
nothing_left (b ∷ rest) e = cc

-- the end of the characters
pub all_bytes : (text done rest : List ℕ) → length rest ≡ 0 → chars text ≡ done ++ chars rest → are_bytes done ≡ true → bytes_in (chars text) ≡ Some done
all_bytes text done rest none read all =
    let whole : chars text ≡ done = read ∙ ap (λ more. done ++ more) (nothing_left rest none) ∙ append-nil done in
    rw (whole, all) refl
