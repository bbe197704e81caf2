-- Pieces that follow one another, given or taken. Loops and calls above join theirs by these.
use Rattle.std.proofs.Common.{◌≡◌, ℕ, ◌+◌, List, [], ◌++◌, length, take, Option, Some, None, refl, ap, sym, append_assoc, append-nil, arith, length-append, ◌∙◌}
use Rattle.std.proofs.Math.Seq.{take-append-add}
use Rattle.std.proofs.lemmas.List.{take-append-le}
use Rattle.gw_link.specs.Pieces.{Gives, GivesPart, Takes, TakesPart}

-- What changes nothing gave an empty piece.
pub Gives-nothing :
    (left : Option (List ℕ)) →
    Gives left [] left
Gives-nothing None = tt
Gives-nothing (Some rest) = refl

-- Two pieces given one after the other are one piece.
pub Gives-more :
    (before middle after : Option (List ℕ)) (first second : List ℕ) →
    Gives before first middle → Gives middle second after → Gives before (first ++ second) after
Gives-more None middle after first second was is = tt
Gives-more (Some before) None after first second was is = absurd (cc was)
Gives-more (Some before) (Some middle) None first second was is = absurd (cc is)
Gives-more (Some before) (Some middle) (Some rest) first second was is =
    let middle_is : middle ≡ second ++ rest = cc is in
    was ∙ ap (λ t. Some (first ++ t)) middle_is ∙ ap Some (sym (append_assoc first second rest))

-- The same with the counts of given bytes.
pub GivesPart-more :
    (before middle after : Option (List ℕ)) (given given' given'' : ℕ) (first second : List ℕ) →
    Gives before first middle → given' ≡ given + length first → Gives middle second after → given'' ≡ given' + length second → GivesPart before given after given''
GivesPart-more before middle after given given' given'' first second was counted is counted' =
    (first ++ second, (Gives-more before middle after first second was is, omega (arith, length-append first second)))

-- What changes nothing took an empty piece.
pub Takes-nothing :
    (written : Option (List ℕ)) →
    Takes written [] written
Takes-nothing None = tt
Takes-nothing (Some written) = ap Some (sym (append-nil written))

-- Two pieces taken one after the other are one piece.
pub Takes-more :
    (before middle after : Option (List ℕ)) (first second : List ℕ) →
    Takes before first middle → Takes middle second after → Takes before (first ++ second) after
Takes-more None middle after first second was is = tt
Takes-more (Some written) None after first second was is = absurd (cc was)
Takes-more (Some written) (Some middle) after first second was is =
    let middle_is : middle ≡ written ++ first = cc was in
    is ∙ ap (λ t. Some (t ++ second)) middle_is ∙ ap Some (append_assoc written first second)

-- A part of a piece is a part of a longer one.
pub TakesPart-longer :
    (before after : Option (List ℕ)) (first second : List ℕ) →
    TakesPart before first after → TakesPart before (first ++ second) after
TakesPart-longer before after first second (n, (within, taken)) =
    (n, (omega (arith, length-append first second), rw take-append-le taken))

-- A piece and then a part of a second one are a part of both.
pub TakesPart-more :
    (before middle after : Option (List ℕ)) (first second : List ℕ) →
    Takes before first middle → TakesPart middle second after → TakesPart before (first ++ second) after
TakesPart-more before middle after first second was (n, (within, taken)) =
    (length first + n, (omega (arith, length-append first second), rw take-append-add (Takes-more before middle after first (take n second) was taken)))
