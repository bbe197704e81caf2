-- What is said of parts and further ones.
use Rattle.std.proofs.Common.{◌≡◌, ℕ, ℤ, ◌+◌, List, [], ◌∷◌, ◌++◌, map, true, None, ap, refl, sym, ◌∙◌, append_assoc}
use Rattle.gw_admin_texts.specs.declared.resource.Destination.{Destination}
use Rattle.gw_admin_texts.specs.declared.resource.Destination.TheVariants.{Found, NotAllowed, Missing}
use Rattle.gw_admin_texts.specs.declared.resource.Resource.TheVariants.{Changes, Status, Table, Explain, Health}
use Rattle.gw_admin_texts.specs.model.Replies.{reply_text}
use Rattle.gw_admin_texts.specs.model.Resources.{destination_of}
use Rattle.gw_frames.specs.model.Requests.{Step}
use Rattle.gw_lists.proofs.Beginnings.{begins_with-trans}
use Rattle.gw_replies.specs.model.Written.{own}
use Rattle.gw_store.specs.declared.event.Entry.{Entry}
use Rattle.gw_lists.specs.Lists.{BeginsWith}
use Rattle.gw_admin.specs.model.Sessions.{Answered, Handled, IsHandledBy, Part, Place, a_close, a_cut, a_refused, a_request, a_wait, asks_behind, continue_text, is_last, moments_by, moments_of, reply_of, step_of, written_behind}

pub steps_append : (xs ys : List Part) → map step_of (xs ++ ys) ≡ map step_of xs ++ map step_of ys
steps_append [] ys = refl
steps_append (x ∷ xs) ys = ap (λ (l : List Step). step_of x ∷ l) (steps_append xs ys)

pub asks_append : (n : ℕ) (xs ys : List Part) → asks_behind n (xs ++ ys) ≡ asks_behind (asks_behind n xs) ys
asks_append n [] ys = refl
asks_append n (a_request q h ∷ xs) ys = asks_append (n + 1) xs ys
asks_append n (a_wait ∷ xs) ys = asks_append n xs ys
asks_append n (a_refused code ∷ xs) ys = asks_append n xs ys
asks_append n (a_close ∷ xs) ys = asks_append n xs ys
asks_append n (a_cut ∷ xs) ys = asks_append n xs ys

behind : (front all first second : List ℕ) → all ≡ first ++ second → front ++ all ≡ (front ++ first) ++ second
behind front all first second is = ap (λ (l : List ℕ). front ++ l) is ∙ sym (append_assoc front first second)

pub written_append : (p : Place) (n : ℕ) (xs ys : List Part)
    → written_behind p n (xs ++ ys) ≡ written_behind p n xs ++ written_behind p (asks_behind n xs) ys
written_append p n [] ys = refl
written_append p n (a_request q h ∷ xs) ys =
    behind (reply_text (reply_of p q h) (is_last (n + 1) q)) (written_behind p (n + 1) (xs ++ ys)) (written_behind p (n + 1) xs)
    (written_behind p (asks_behind (n + 1) xs) ys) (written_append p (n + 1) xs ys)
written_append p n (a_wait ∷ xs) ys =
    behind continue_text (written_behind p n (xs ++ ys)) (written_behind p n xs) (written_behind p (asks_behind n xs) ys) (written_append p n xs ys)
written_append p n (a_refused code ∷ xs) ys =
    behind (own code None None true) (written_behind p n (xs ++ ys)) (written_behind p n xs) (written_behind p (asks_behind n xs) ys) (written_append p n xs ys)
written_append p n (a_close ∷ xs) ys = written_append p n xs ys
written_append p n (a_cut ∷ xs) ys = written_append p n xs ys

pub moments_append : (xs ys : List Part) → moments_of (xs ++ ys) ≡ moments_of xs ++ moments_of ys
moments_append [] ys = refl
moments_append (a_request q h ∷ xs) ys =
    ap (λ (l : List ℤ). moments_by (destination_of q) h ++ l) (moments_append xs ys) ∙ sym (append_assoc (moments_by (destination_of q) h) (moments_of xs) (moments_of ys))
moments_append (a_wait ∷ xs) ys = moments_append xs ys
moments_append (a_refused code ∷ xs) ys = moments_append xs ys
moments_append (a_close ∷ xs) ys = moments_append xs ys
moments_append (a_cut ∷ xs) ys = moments_append xs ys

-- how a request may be answered behind a list, it may be behind one with which that begins
handled_from : (to : Destination) (a b : List Entry) (body : List ℕ) (h : Handled) → BeginsWith a b → IsHandledBy to b body h → IsHandledBy to a body h
handled_from Missing a b body h first by = tt
handled_from (NotAllowed r) a b body h first by = tt
handled_from (Found Changes) a b body h first by = record { come = by.come; first = by.first; begins = begins_with-trans a b _ first by.begins }
handled_from (Found Status) a b body h first by = tt
handled_from (Found Table) a b body h first by = tt
handled_from (Found Explain) a b body h first by = by
handled_from (Found Health) a b body h first by = tt

answered_from : (a b c : List Entry) (parts : List Part) → BeginsWith a b → Answered b c parts → Answered a c parts
answered_from a b c [] first later = begins_with-trans a b c first later
answered_from a b c (a_request q h ∷ parts) first later =
    (begins_with-trans a b h.changes first later.0, handled_from (destination_of q) a b q.body h first later.1, later.2)
answered_from a b c (a_wait ∷ parts) first later = answered_from a b c parts first later
answered_from a b c (a_refused code ∷ parts) first later = answered_from a b c parts first later
answered_from a b c (a_close ∷ parts) first later = answered_from a b c parts first later
answered_from a b c (a_cut ∷ parts) first later = answered_from a b c parts first later

pub answered_append : (a b c : List Entry) (xs ys : List Part) → Answered a b xs → Answered b c ys → Answered a c (xs ++ ys)
answered_append a b c [] ys first later = answered_from a b c ys first later
answered_append a b c (a_request q h ∷ xs) ys first later = (first.0, first.1, answered_append h.changes b c xs ys first.2 later)
answered_append a b c (a_wait ∷ xs) ys first later = answered_append a b c xs ys first later
answered_append a b c (a_refused code ∷ xs) ys first later = answered_append a b c xs ys first later
answered_append a b c (a_close ∷ xs) ys first later = answered_append a b c xs ys first later
answered_append a b c (a_cut ∷ xs) ys first later = answered_append a b c xs ys first later
