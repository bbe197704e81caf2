-- How requests are answered over what a pass has seen.
use Rattle.std.proofs.Common.{◌≡◌, ◌∙◌, ◌≤◌, ℕ, ℤ, pos, List, [], ◌∷◌, length, take, drop, Option, None, Some, refl, sym, ap, ap₂, subst, arith}
use Rattle.std.proofs.Math.Logic.{∥∥₁_elim}
use Rattle.std.proofs.lemmas.List.{length-map, length-take-le, take-append-drop, take-take}
use Rattle.std.specs.Coded.{Coded, Coded-set, codes}
use Rattle.gw_admin_texts.specs.declared.resource.Destination.{Destination}
use Rattle.gw_admin_texts.specs.declared.resource.Destination.TheVariants.{Found}
use Rattle.gw_admin_texts.specs.declared.resource.Resource.TheVariants.{Changes, Explain, Status as Statuses}
use Rattle.gw_admin_texts.specs.model.Listings.{status_reply}
use Rattle.gw_admin_texts.specs.model.Questions.{IsQuestion, Question}
use Rattle.gw_admin_texts.specs.model.Replies.{Reply}
use Rattle.gw_admin_texts.specs.model.Submissions.{changes_reply}
use Rattle.gw_hub.specs.Turns.{ComeInTurn, IsReceipt, event_lines}
use Rattle.gw_hub.specs.declared.receipt.Receipt.{Receipt}
use Rattle.gw_link.specs.Moments.{Ticks, TicksInTurn}
use Rattle.gw_lists.proofs.Beginnings.{begins_with-self, begins_with-shorter}
use Rattle.gw_lists.specs.Lists.{BeginsWith}
use Rattle.gw_match.specs.model.Telling.{Stands, Tables, tables_of, world_after}
use Rattle.gw_rows.specs.model.DoorRows.{rows_of}
use Rattle.gw_rows.specs.model.Rows.{Rows}
use Rattle.gw_status.specs.StatusText.{statuses_text}
use Rattle.gw_store.specs.declared.event.Entry.{Entry}
use Rattle.gw_text.specs.model.Doors.{Door}
use Rattle.gw_text.specs.model.Statuses.{statuses_of}
use Rattle.gw_admin.specs.Answering.{IsAnswered, IsExplained}
use Rattle.gw_admin.specs.model.Sessions.{Handled, IsHandledBy, Place, moments_by, reply_by}

coded_tables : Coded (List Rows)
coded_tables = hlevel codes

-- tables that were read are those of their doors after all changes that were seen
tables_told : (t : Tables) (seen : List Entry) → ∥ Stands t seen ∥₁ → t.tables ≡ tables_of t.doors t.controller (world_after seen)
tables_told t seen stands = ∥∥₁_elim stands (Coded-set coded_tables _ _) (λ s. s.tables)

pub tables_counted : (t : Tables) (seen : List Entry) → ∥ Stands t seen ∥₁ → length t.tables ≡ length t.doors
tables_counted t seen stands = ap length (tables_told t seen stands) ∙ length-map t.doors (rows_of t.doors t.controller (world_after seen))

pub tables_seen : (t : Tables) (seen : List Entry) (fixed before : List Door × List ℕ) → ∥ Stands t seen ∥₁ → (t.doors, t.controller) ≡ fixed → fixed ≡ before
    → t.tables ≡ tables_of before.0 before.1 (world_after seen)
tables_seen t seen fixed before stands value same =
    tables_told t seen stands ∙ ap (λ (f : List Door × List ℕ). tables_of f.0 f.1 (world_after seen)) (value ∙ same)

-- a list as far as some changes
pub begins_with-take : (n : ℕ) (seen : List Entry) → BeginsWith (take n seen) seen
begins_with-take n seen = (drop n seen, sym (take-append-drop n seen))

-- what is answered without a moment, over this list
abbrev pub over : List Entry → Handled
over changes = record { changes = changes; at = pos 0; first = 0; answers = []; question = None }

-- the same with a question
abbrev pub asked_over : Option Question → List Entry → Handled
asked_over question changes = record { changes = changes; at = pos 0; first = 0; answers = []; question = question }

pub answered_by : (p : Place) (to : Destination) (body : List ℕ) (reply : Reply) (before after : List Entry) (moments : Option (List ℤ)) (h : Handled)
    → reply ≡ reply_by p to body h → IsHandledBy to before body h → BeginsWith before h.changes → BeginsWith h.changes after → moments_by to h ≡ []
    → IsAnswered p to body reply before after moments moments
answered_by p to body reply before after moments h is by begins within none =
    record { handled = h; reply_is = is; by = by; begins = begins; within = within; ticks = subst (λ (ms : List ℤ). TicksInTurn moments ms moments) (sym none) refl }

-- the reply to a question, for a body that asks it
pub answered_question : (p : Place) (body : List ℕ) (q : Question) (reply : Reply) (before after : List Entry) (moments : Option (List ℤ)) → IsQuestion body q
    → IsExplained p q reply before after → IsAnswered p (Found Explain) body reply before after moments moments
answered_question p body q reply before after moments is e =
    answered_by p (Found Explain) body reply before after moments (asked_over (Some q) e.changes) e.reply_is is e.begins e.within refl

length_taken : (n : ℕ) (seen : List Entry) → n ≤ length seen → length (take n seen) ≡ n
length_taken n seen within = length-take-le n seen within

-- the reply with the text of the statuses
pub answered_statuses : (p : Place) (body text : List ℕ) (front : ℕ) (reply : Reply) (before after : List Entry) (moments : Option (List ℤ))
    → text ≡ statuses_text (statuses_of p.doors p.controller (world_after (take front after))) → front ≤ length after → BeginsWith before (take front after)
    → reply ≡ status_reply text front → IsAnswered p (Found Statuses) body reply before after moments moments
answered_statuses p body text front reply before after moments is within begins reply_is =
    answered_by p (Found Statuses) body reply before after moments (over (take front after)) (reply_is ∙ ap₂ status_reply is (sym (length_taken front after within))) tt
    begins (begins_with-take front after) refl

-- the reply with what came of lines
module _ (p : Place) (body : List ℕ) (at : ℤ) (r : Receipt) (before after : List Entry) (receipt : IsReceipt body at r after) (first : length before ≤ r.first) (later : BeginsWith before after) where
  abbrev handled : Handled
  handled = record { changes = take r.front after; at = at; first = r.first; answers = r.answers.items; question = None }

  front_is : length (take r.front after) ≡ r.front
  front_is = length_taken r.front after receipt.within

  first_is : take r.first (take r.front after) ≡ take r.first after
  first_is = take-take r.first r.front after (omega (arith, receipt.counted))

  begins : BeginsWith before (take r.first after)
  begins = begins_with-shorter before (take r.first after) after later (begins_with-take r.first after) (omega (arith, first, length_taken r.first after (omega (arith, receipt.counted, receipt.within))))

  pub answered_changes : (reply : Reply) (moments moments' : Option (List ℤ)) → Ticks moments at moments' → reply ≡ changes_reply body r.answers.items r.first r.accepted r.front
      → IsAnswered p (Found Changes) body reply before after moments moments'
  answered_changes reply moments moments' ticks is = record {
    handled = handled;
    reply_is = is ∙ ap₂ (changes_reply body r.answers.items r.first) (omega (arith, receipt.counted, front_is)) (sym front_is);
    by = record {
      come = subst (λ (l : List Entry). ComeInTurn at (event_lines body) r.answers.items l (take r.front after)) (sym first_is) receipt.come;
      first = omega (arith, receipt.counted, front_is);
      begins = subst (λ (l : List Entry). BeginsWith before l) (sym first_is) begins;
    };
    begins = begins_with-shorter before (take r.front after) after later (begins_with-take r.front after) (omega (arith, first, receipt.counted, front_is));
    within = begins_with-take r.front after;
    ticks = (moments', (ticks, refl));
  }

-- a clock that was asked once
pub once : (before after : Option (List ℤ)) (at : ℤ) → Ticks before at after → (moments : List ℤ) × ((length moments ≤ 1) × TicksInTurn before moments after)
once before after at ticks = (at ∷ [], (omega arith, (after, (ticks, refl))))

-- the same where the opening and the resource are the same
pub answered_as : (p p' : Place) (to to' : Destination) (body : List ℕ) (reply : Reply) (before after : List Entry) (moments moments' : Option (List ℤ))
    → p ≡ p' → to ≡ to' → IsAnswered p to body reply before after moments moments' → IsAnswered p' to' body reply before after moments moments'
answered_as p p' to to' body reply before after moments moments' same_place same_resource a =
    subst (λ (d : Destination). IsAnswered p' d body reply before after moments moments') same_resource
    (subst (λ (q : Place). IsAnswered q to body reply before after moments moments') same_place a)

-- a reply that depends on nothing
pub answered_alone : (p : Place) (to to' : Destination) (body : List ℕ) (reply : Reply) (seen : List Entry) (moments : Option (List ℤ)) → to ≡ to'
    → reply ≡ reply_by p to body (over seen) → IsHandledBy to seen body (over seen) → moments_by to (over seen) ≡ [] → IsAnswered p to' body reply seen seen moments moments
answered_alone p to to' body reply seen moments same is by none =
    answered_as p p to to' body reply seen seen moments moments refl same
    (answered_by p to body reply seen seen moments (over seen) is by (begins_with-self seen) (begins_with-self seen) none)
