-- What is told of exchanges over several calls.
use Rattle.std.proofs.Common.{◌≡◌, ◌∙◌, ℕ, zero, suc, ◌+◌, List, [], ◌∷◌, ◌++◌, length, Option, Some, None, refl, ap, sym, append_assoc, append-nil, arith, get_or}
use Rattle.std.proofs.Math.ListN.{set}
use Rattle.gw_link.specs.Exchanges.{Exchange, sending, receiving, change_last, Tells, Sends, Receives}

-- The last item of a list that ends with it.
pub change_last-snoc : {A : Type 0} (change : A → A) (xs : List A) (x : A) → change_last change (xs ++ x ∷ []) ≡ xs ++ change x ∷ []
change_last-snoc change [] x = refl
change_last-snoc change (y ∷ []) x = refl
change_last-snoc change (y ∷ (z ∷ xs)) x = ap (λ t. y ∷ t) (change_last-snoc change (z ∷ xs) x)

-- A write at the last place.
pub set_last : {A : Type 0} (change : A → A) (xs : List A) (d : A) (i : ℕ) → i + 1 ≡ length xs → set xs i (change (get_or xs i d)) ≡ change_last change xs
set_last change [] d i is = absurd (omega arith)
set_last change (x ∷ []) d zero is = refl
set_last change (x ∷ []) d (suc i) is = absurd (omega arith)
set_last change (x ∷ (y ∷ xs)) d zero is = absurd (omega arith)
set_last change (x ∷ (y ∷ xs)) d (suc i) is = ap (λ t. x ∷ t) (set_last change (y ∷ xs) d i (omega arith))

-- Two changes are one.
pub change_last-twice : {A : Type 0} (first second both : A → A) → ((x : A) → second (first x) ≡ both x) → (xs : List A)
    → change_last second (change_last first xs) ≡ change_last both xs
change_last-twice first second both is [] = refl
change_last-twice first second both is (x ∷ []) = ap (λ t. t ∷ []) (is x)
change_last-twice first second both is (x ∷ (y ∷ [])) = ap (λ t. x ∷ t ∷ []) (is y)
change_last-twice first second both is (x ∷ (y ∷ (z ∷ xs))) = ap (λ t. x ∷ t) (change_last-twice first second both is (y ∷ (z ∷ xs)))

-- A change that changes nothing.
pub change_last-same : {A : Type 0} (change : A → A) → ((x : A) → change x ≡ x) → (xs : List A) → change_last change xs ≡ xs
change_last-same change is [] = refl
change_last-same change is (x ∷ []) = ap (λ t. t ∷ []) (is x)
change_last-same change is (x ∷ (y ∷ xs)) = ap (λ t. x ∷ t) (change_last-same change is (y ∷ xs))

-- No piece was sent.
pub Sends-nothing : (told : Option (List Exchange)) → Sends told [] told
Sends-nothing None = tt
Sends-nothing (Some told) =
    ap Some (sym (change_last-same (sending []) (λ e. ap (λ t. record e { sent = t }) (append-nil e.sent)) told))

-- Two pieces sent one after the other are one piece.
pub Sends-more :
    (before middle after : Option (List Exchange)) (first second : List ℕ) →
    Sends before first middle → Sends middle second after → Sends before (first ++ second) after
Sends-more None middle after first second was is = tt
Sends-more (Some told) None after first second was is = absurd (cc was)
Sends-more (Some told) (Some middle) after first second was is =
    let middle_is : middle ≡ change_last (sending first) told = cc was in
    is ∙ ap (λ t. Some (change_last (sending second) t)) middle_is
    ∙ ap Some (change_last-twice (sending first) (sending second) (sending (first ++ second)) (λ e. ap (λ t. record e { sent = t }) (append_assoc e.sent first second)) told)

-- What was sent in an exchange that is the last one.
pub Tells-sends :
    (before middle after : Option (List Exchange)) (e : Exchange) (piece : List ℕ) →
    Tells before e middle → Sends middle piece after → Tells before (sending piece e) after
Tells-sends None middle after e piece was is = tt
Tells-sends (Some told) None after e piece was is = absurd (cc was)
Tells-sends (Some told) (Some middle) after e piece was is =
    let middle_is : middle ≡ told ++ e ∷ [] = cc was in
    is ∙ ap (λ t. Some (change_last (sending piece) t)) middle_is ∙ ap Some (change_last-snoc (sending piece) told e)

-- What was given in an exchange that is the last one.
pub Tells-receives :
    (before middle after : Option (List Exchange)) (e : Exchange) (piece : List ℕ) →
    Tells before e middle → Receives middle piece after → Tells before (receiving piece e) after
Tells-receives None middle after e piece was is = tt
Tells-receives (Some told) None after e piece was is = absurd (cc was)
Tells-receives (Some told) (Some middle) after e piece was is =
    let middle_is : middle ≡ told ++ e ∷ [] = cc was in
    is ∙ ap (λ t. Some (change_last (receiving piece) t)) middle_is ∙ ap Some (change_last-snoc (receiving piece) told e)
