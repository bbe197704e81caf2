-- What was seen of codings.
use Rattle.std.specs.Prelude.{ℕ, List, true, false, codes, if◌then◌else◌}
use Rattle.gw_messages.specs.model.Values.{same_word}
use Rattle.gw_text.specs.model.Names.{is_given}
use Rattle.gw_messages.specs.declared.coding.Coded.{Coded}

-- One coding more.
abbrev pub note : Coded → List ℕ → Coded
note before coding = record { any = true; many = before.any; chunked = same_word (codes "chunked") coding }

-- The same, where it isn't empty.
abbrev pub noted : Coded → List ℕ → Coded
noted before coding = if is_given coding then note before coding else before

-- No coding.
abbrev pub no_coding : Coded
no_coding = record { any = false; many = false; chunked = false }
