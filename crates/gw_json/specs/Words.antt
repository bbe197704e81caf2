-- The words in which reading is defined: one step after another, up to the first refusal.
use Rattle.std.specs.Prelude.{◌≡◌, Bool, true, false, List, [], ◌∷◌, ◌++◌, Option, Some, None, Result, Ok, Err, ⊤}
use Rattle.gw_json.specs.declared.refusal.Refusal.{Refusal}
use Rattle.gw_json.specs.declared.refusal.Refusal.TheVariants.{NoMemory}

-- First this, then with its value the next, unless it was refused: what `do` means below.
infixl 10 ◌>>=◌
abbrev pub ◌>>=◌ : {A B : Type 0} → Result A Refusal → (A → Result B Refusal) → Result B Refusal
(Ok x) >>= next = next x
(Err e) >>= next = Err e

-- What is there, or else this refusal.
abbrev pub or : {A : Type 0} → Refusal → Option A → Result A Refusal
or e (Some x) = Ok x
or e None = Err e

-- The test holds, or else this refusal.
abbrev pub want : Refusal → Bool → Result ⊤ Refusal
want e true = Ok tt
want e false = Err e

-- Read where it is given.
abbrev pub optional : {A B : Type 0} → (A → Result B Refusal) → Option A → Result (Option B) Refusal
optional read None = Ok None
optional read (Some x) = read x >>= λ y. Ok (Some y)

-- What was read before, in front of what is still to be read.
abbrev pub after : {B : Type 0} → List B → Result (List B) Refusal → Result (List B) Refusal
after done rest = rest >>= λ ys. Ok (done ++ ys)

-- Each of a list, in order.
abbrev pub each : {A B : Type 0} → (A → Result B Refusal) → List A → Result (List B) Refusal
each read [] = Ok []
each read (x ∷ xs) = read x >>= λ y. each read xs >>= λ ys. Ok (y ∷ ys)

-- Each of a list is tested, in order.
abbrev pub all_of : {A : Type 0} → (A → Result ⊤ Refusal) → List A → Result ⊤ Refusal
all_of test [] = Ok tt
all_of test (x ∷ xs) = test x >>= λ _. all_of test xs

-- The refusal is the one that reading gives, unless memory ran out.
abbrev pub Fails : {Y : Type 0} → Refusal → Result Y Refusal → Type 0
Fails NoMemory read = ⊤
Fails e read = read ≡ Err e

-- The answer, seen by view, is what reading gives, unless memory ran out.
abbrev pub Gives : {X Y : Type 0} → (X → Y) → Result X Refusal → Result Y Refusal → Type 0
Gives view (Ok x) read = read ≡ Ok (view x)
Gives view (Err e) read = Fails e read
