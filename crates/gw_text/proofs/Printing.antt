-- How a text is printed that is UTF-8, and one that isn't.
use Rattle.std.proofs.Common.{◌≡◌, ℕ, List, true, false, refl, encode_utf8_all}
use Rattle.std.specs.Str.{IsUtf8, is_utf8}
use Rattle.std.proofs.lemmas.Str.{IsUtf8-from_is_utf8, is_utf8-from_IsUtf8}
use Rattle.gw_text.specs.model.Forms.{printed}

pub printed_utf8 : (t : List ℕ) → IsUtf8 t → printed t ≡ t
printed_utf8 t h = rw (is_utf8-from_IsUtf8 t h)

pub printed_spelled : (t : List ℕ) → (IsUtf8 t → ⊥) → printed t ≡ encode_utf8_all t
printed_spelled t h = elim (is_utf8 t) as (λ b. is_utf8 t ≡ b → printed t ≡ encode_utf8_all t) [ true ↦ λ e. absurd (h (IsUtf8-from_is_utf8 t e)) | false ↦ λ e. rw e ] refl
