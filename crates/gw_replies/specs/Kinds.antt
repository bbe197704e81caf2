-- What a head is.
use Rattle.std.specs.Prelude.{ℕ, ◌≡◌, ◌<◌, ◌≤◌, ◌⊎◌, Bool, true, false}
use Rattle.gw_replies.specs.model.Responses.{Head, is_bodiless, is_interim, is_misframed, is_refused}
use Rattle.gw_replies.specs.declared.kind.Kind.{Kind}
use Rattle.gw_replies.specs.declared.kind.Kind.TheVariants as kinds

-- The tests that a head passes, behind so many interim responses.
abbrev pub IsKind : Bool → ℕ → Head → Kind → Type 0
IsKind to_head count h kinds.Refused =
    (is_refused h ≡ true) ⊎ ((is_refused h ≡ false) × (is_interim h ≡ true) × (16 ≤ count))
IsKind to_head count h kinds.Interim = (is_refused h ≡ false) × (is_interim h ≡ true) × (count < 16)
IsKind to_head count h kinds.Bodiless =
    (is_refused h ≡ false) × (is_interim h ≡ false) × (is_bodiless to_head h.code ≡ true)
IsKind to_head count h kinds.Misframed =
    (is_refused h ≡ false) × (is_interim h ≡ false) × (is_bodiless to_head h.code ≡ false) × (is_misframed h.fields ≡ true)
IsKind to_head count h kinds.Bodied =
    (is_refused h ≡ false) × (is_interim h ≡ false) × (is_bodiless to_head h.code ≡ false) × (is_misframed h.fields ≡ false)
