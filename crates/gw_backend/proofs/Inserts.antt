-- Sockets that are inserted one after another are each there once, at their first places.
use Rattle.std.proofs.Common.{◌≡◌, Bool, true, false, not, List, [], ◌∷◌, ◌++◌, refl, sym, ap, ◌∙◌, filter, append-nil, append_assoc, rules}
use Rattle.std.specs.Cmp.{IsEquivalence}
use Rattle.std.specs.Cmp.Rules.{comparing}
use Rattle.std.specs.List.{list_any}
use Rattle.std.proofs.Math.Bool.{or-false, or-true}
use Rattle.std.proofs.lemmas.List.Folds.{list_any-append}
use Rattle.std.proofs.lemmas.Map.Steps.{list_any_congr}
use Rattle.indexmap.specs.IndexSet.{insert_all}
use Rattle.gw_text.specs.model.Addresses.{Socket}
use Rattle.gw_text.specs.model.Doors.{same_socket}
use Rattle.gw_text.specs.model.References.{each_once}

-- Being the same socket is an equivalence.
laws : IsEquivalence same_socket
laws = search (comparing, rules)

-- The sockets that aren't among these.
abbrev others : List Socket → List Socket → List Socket
others known sockets = filter (λ s. not (list_any (same_socket s) known)) sockets

-- The sockets that differ from this one.
abbrev apart : Socket → List Socket → List Socket
apart s sockets = filter (λ t. not (same_socket s t)) sockets

-- Among those that aren't known, none equals one that is.
others_known : (known : List Socket) (s : Socket) (sockets : List Socket) → list_any (same_socket s) known ≡ true → others known (apart s sockets) ≡ others known sockets
others_known known s [] is = refl
others_known known s (t ∷ sockets) is = by (same_socket s t) refl (others_known known s sockets is)
  where
    by : (b : Bool) → same_socket s t ≡ b → others known (apart s sockets) ≡ others known sockets → others known (apart s (t ∷ sockets)) ≡ others known (t ∷ sockets)
    by true e rest =
        let known_too : list_any (same_socket t) known ≡ true = sym (list_any_congr laws s t known e) ∙ is in
        rw (e, known_too) rest
    by false e rest = rw (e, rest) refl

-- With one more that is known, those that aren't known differ from it.
others_more : (known : List Socket) (s : Socket) (sockets : List Socket) → others (known ++ s ∷ []) sockets ≡ others known (apart s sockets)
others_more known s [] = refl
others_more known s (t ∷ sockets) = by (same_socket s t) refl (others_more known s sockets)
  where
    by : (b : Bool) → same_socket s t ≡ b → others (known ++ s ∷ []) sockets ≡ others known (apart s sockets) → others (known ++ s ∷ []) (t ∷ sockets) ≡ others known (apart s (t ∷ sockets))
    by true e rest =
        let back : same_socket t s ≡ true = laws.symm t s ∙ e in
        rw (list_any-append (same_socket t) known (s ∷ []), back, e, or-true) rest
    by false e rest =
        let back : same_socket t s ≡ false = laws.symm t s ∙ e in
        rw (list_any-append (same_socket t) known (s ∷ []), back, e, or-false, rest) refl

-- What is inserted stands behind what is there, each once, without what is there already.
inserted_after : (known sockets : List Socket) → insert_all same_socket known sockets ≡ known ++ others known (each_once sockets)
inserted_after known [] = sym (append-nil known)
inserted_after known (s ∷ sockets) = by (list_any (same_socket s) known) refl (λ now. inserted_after now sockets)
  where
    by : (b : Bool) → list_any (same_socket s) known ≡ b → ((now : List Socket) → insert_all same_socket now sockets ≡ now ++ others now (each_once sockets)) → insert_all same_socket known (s ∷ sockets) ≡ known ++ others known (each_once (s ∷ sockets))
    by true e rest = rw (e, others_known known s (each_once sockets) e) (rest known)
    by false e rest = rw (e, ← others_more known s (each_once sockets)) (rest (known ++ s ∷ []) ∙ append_assoc known (s ∷ []) (others (known ++ s ∷ []) (each_once sockets)))

-- Where nothing is known, all are others.
nothing_known : (sockets : List Socket) → others [] sockets ≡ sockets
nothing_known [] = refl
nothing_known (s ∷ sockets) = ap (λ (rest : List Socket). s ∷ rest) (nothing_known sockets)

-- Into an empty set, each is inserted once.
pub inserted : (sockets : List Socket) → insert_all same_socket [] sockets ≡ each_once sockets
inserted sockets = inserted_after [] sockets ∙ nothing_known (each_once sockets)
