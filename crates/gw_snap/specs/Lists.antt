-- The lists of changes for which values stand, and who has seen which.
use Rattle.std.specs.Prelude.{ℕ, zero, suc, List, [], ◌∷◌}
pub use Rattle.gw_lists.specs.Lists.{BeginsWith, SoFar}
pub use Rattle.logbook.specs.Pages.{Book}

-- So many of the same.
abbrev pub copies : {A : Type 0} → ℕ → A → List A
copies zero x = []
copies (suc n) x = x ∷ copies n x

-- A pass: what it has seen, the part that all values of its opening have, which opening it is, how often a reading was refused, and
-- how often it was found ahead of its publisher.
pub record Seen (C F : Type 0) : Type 0 where
  pub seen : List C
  pub fixed : F
  pub book : Book
  pub refused : ℕ
  pub ahead : ℕ

-- A pass that has seen nothing.
abbrev pub fresh : {C F : Type 0} → F → Book → Seen C F
fresh fixed book = record { seen = []; fixed = fixed; book = book; refused = 0; ahead = 0 }

-- A publisher: what was appended, what was published, the part that all values of its opening have, and which opening it is.
pub record Lists (C F : Type 0) : Type 0 where
  pub pending : List C
  pub published : List C
  pub fixed : F
  pub book : Book
