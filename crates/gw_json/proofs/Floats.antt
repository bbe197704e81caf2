-- Values without floats, which is what printing a line asks for. A literal object of texts and whole numbers computes so;
-- lists, and members that are put in one after another, go by these.
use Rattle.std.proofs.Common.{◌≡◌, ℕ, false, List, [], ◌∷◌, map, Ordering, Less, Equal, Greater, refl}
use Rattle.std.proofs.lemmas.Bool.{or_parts}
use Rattle.std.specs.Ordering.{match_ordering, nat_cmp}
use Rattle.std.specs.Cmp.Lexicographic.{slice_cmp}
use Rattle.serde_json.specs.Data.{Data, Members, no_members, member, put}
use Rattle.serde_json.specs.View.{items_of}
use Rattle.serde_json.specs.Written.{has_float, items_have_float, members_have_float}

-- A list of values that have none. Where it is cited, write f and the list out.
pub items_have_float-map : {A : Type 0} (f : A → Data) (xs : List A) → ((x : A) → has_float (f x) ≡ false) → items_have_float (items_of (map f xs)) ≡ false
items_have_float-map f [] none = refl
items_have_float-map f (x ∷ xs) none = rw (none x) (items_have_float-map f xs none)

-- No member has a float. It is a record, so that the members need not be written where it is cited.
pub record HasNoFloat (ms : Members) : Type 0 where
  pub none : members_have_float ms ≡ false

pub HasNoFloat-nil : HasNoFloat no_members
HasNoFloat-nil = record { none = refl }

pub HasNoFloat-member : {k : List ℕ} {d : Data} {ms : Members} → has_float d ≡ false → HasNoFloat ms → HasNoFloat (member k d ms)
HasNoFloat-member here later = record { none = rw here later.none }

HasNoFloat-match : (o : Ordering) {a b c : Members} → HasNoFloat a → HasNoFloat b → HasNoFloat c → HasNoFloat (match_ordering o a b c)
HasNoFloat-match Less a b c = a
HasNoFloat-match Equal a b c = b
HasNoFloat-match Greater a b c = c

put_none : (k : List ℕ) (d : Data) (ms : Members) → has_float d ≡ false → members_have_float ms ≡ false → HasNoFloat (put k d ms)
put_none k d no_members here none = HasNoFloat-member here HasNoFloat-nil
put_none k d (member l e ms) here none =
    let later : (has_float e ≡ false) × (members_have_float ms ≡ false) = or_parts (has_float e) (members_have_float ms) none in
    HasNoFloat-match (slice_cmp nat_cmp k l) (HasNoFloat-member here (record { none = none })) (HasNoFloat-member here (record { none = later.1 })) (HasNoFloat-member later.0 (put_none k d ms here later.1))

pub HasNoFloat-put : (k : List ℕ) (d : Data) {ms : Members} → has_float d ≡ false → HasNoFloat ms → HasNoFloat (put k d ms)
HasNoFloat-put k d {ms = ms} here later = put_none k d ms here later.none
