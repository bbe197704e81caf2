-- What is told of bytes, where a call changed nothing of it.
use Rattle.std.proofs.Common.{◌≡◌, ℕ, List, ◌++◌, Option, Some, None, ap, refl, sym, subst, ◌∙◌, option_map, IfSome}
use Rattle.gw_link.specs.Pieces.{Gives, IsAtEnd, Keeps, Takes}

pub keeps_self : {A : Type 0} (told : Option A) → Keeps told told
keeps_self None = tt
keeps_self (Some x) = refl

-- what is told stays so, and then again
pub keeps_then : {A : Type 0} (a b c : Option A) → Keeps a b → Keeps b c → Keeps a c
keeps_then None b c first later = tt
keeps_then (Some x) None c first later = absurd (cc first)
keeps_then (Some x) (Some y) c first later = later ∙ first

-- what was written stays so
pub takes_kept : (before middle after : Option (List ℕ)) (piece : List ℕ) → Takes before piece middle → Keeps middle after → Takes before piece after
takes_kept None middle after piece took kept = tt
takes_kept (Some told) None after piece took kept = absurd (cc took)
takes_kept (Some told) (Some m) after piece took kept = kept ∙ took

-- what is left stays so
pub gives_kept : (before middle after : Option (List ℕ)) (piece : List ℕ) → Gives before piece middle → Keeps middle after → Gives before piece after
gives_kept None middle after piece gave kept = tt
gives_kept (Some told) None after piece gave kept = absurd (cc gave)
gives_kept (Some told) (Some m) after piece gave kept = gave ∙ ap (option_map (λ rest. piece ++ rest)) (sym kept)

-- nothing is left, where it tells
pub end_kept : (left middle after : Option (List ℕ)) (piece : List ℕ) → Gives left piece middle → IsAtEnd middle → Keeps middle after → IfSome left (λ told. IsAtEnd after)
end_kept None middle after piece gave is kept = tt
end_kept (Some told) None after piece gave is kept = absurd (cc gave)
end_kept (Some told) (Some m) after piece gave is kept = subst IsAtEnd (sym kept) is
