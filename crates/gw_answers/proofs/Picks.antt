-- Picks by equal choices are equal.
use Rattle.std.proofs.Common.{◌≡◌, ℕ, List, Option, ap, subst, ◌∙◌}
use Rattle.gw_text.specs.model.Names.{Key}
use Rattle.gw_text.specs.model.Picks.{Choice, after_draw, drawn_from}
use Rattle.gw_answers.specs.model.Decisions.{item_at}

pub choice_is : {a b : Key} {m n : ℕ} {v w : List ℕ} → a ≡ b → m ≡ n → v ≡ w
    → ◌≡◌ {A = Choice} (record { name = a; number = m; weights = v }) (record { name = b; number = n; weights = w })
choice_is {a} {b} {m} {n} {v} {w} key number weights =
    subst (λ (k : Key). ◌≡◌ {A = Choice} (record { name = a; number = m; weights = v }) (record { name = k; number = n; weights = w })) key
    (subst (λ (k : ℕ). ◌≡◌ {A = Choice} (record { name = a; number = m; weights = v }) (record { name = a; number = k; weights = w })) number
    (ap (λ (k : List ℕ). record { name = a; number = m; weights = k }) weights))

pub picked_by : {T : Type 0} (found : Option T) (items same : List T) (place : Option ℕ) (given choice : Choice) (book : List (Choice × List ℕ))
    → found ≡ item_at items place → items ≡ same → place ≡ drawn_from given book → given ≡ choice → found ≡ item_at same (drawn_from choice book)
picked_by {T} found items same place given choice book is all drawn by =
    is ∙ ap (λ (l : List T). item_at l place) all ∙ ap (item_at same) (drawn ∙ ap (λ (k : Choice). drawn_from k book) by)

pub counted_by : (left : List (Choice × List ℕ)) (given choice : Choice) (book : List (Choice × List ℕ))
    → left ≡ after_draw given book → given ≡ choice → left ≡ after_draw choice book
counted_by left given choice book after by = after ∙ ap (λ (k : Choice). after_draw k book) by
