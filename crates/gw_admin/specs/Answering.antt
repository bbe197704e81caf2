-- How one request is answered.
use Rattle.std.specs.Prelude.{◌≡◌, ◌≤◌, ℕ, ℤ, List, length, Option, Some}
use Rattle.gw_admin_texts.specs.declared.resource.Destination.{Destination}
use Rattle.gw_admin_texts.specs.model.Questions.{Question}
use Rattle.gw_admin_texts.specs.model.Replies.{Reply, reply_text}
use Rattle.gw_admin_texts.specs.model.Resources.{destination_of}
use Rattle.gw_frames.specs.model.Requests.{Request}
use Rattle.gw_link.specs.Moments.{TicksInTurn}
use Rattle.gw_lists.specs.Lists.{BeginsWith}
use Rattle.gw_store.specs.declared.event.Entry.{Entry}
use Rattle.gw_text.specs.model.Doors.{Door}
use Rattle.gw_admin.specs.model.Sessions.{Handled, IsHandledBy, Place, explained, is_last, moments_by, reply_by, reply_of}

abbrev pub place_of : List Door → List ℕ → Place
place_of doors controller = record { doors = doors; controller = controller }

-- The clock was asked once, or not at all.
abbrev pub TicksAtMostOnce : Option (List ℤ) → Option (List ℤ) → Type 0
TicksAtMostOnce before after = (moments : List ℤ) × ((length moments ≤ 1) × TicksInTurn before moments after)

-- The reply to a request with this body that goes there, where a pass had seen a list of changes before and another behind, and a clock
-- had these moments to come.
pub record IsAnswered (p : Place) (to : Destination) (body : List ℕ) (reply : Reply) (before after : List Entry) (moments moments' : Option (List ℤ)) : Type 0 where
  pub handled : Handled
  pub reply_is : reply ≡ reply_by p to body handled
  pub by : IsHandledBy to before body handled
  pub begins : BeginsWith before handled.changes
  pub within : BeginsWith handled.changes after
  pub ticks : TicksInTurn moments (moments_by to handled) moments'

-- The reply to a question, where a pass had seen a list of changes before and another behind.
pub record IsExplained (p : Place) (q : Question) (reply : Reply) (before after : List Entry) : Type 0 where
  pub changes : List Entry
  pub reply_is : reply ≡ explained p changes (Some q)
  pub begins : BeginsWith before changes
  pub within : BeginsWith changes after

-- The text of the reply to the request of this number.
pub record IsReplied (p : Place) (number : ℕ) (q : Request) (text : List ℕ) (before after : List Entry) (moments moments' : Option (List ℤ)) : Type 0 where
  pub handled : Handled
  pub text_is : text ≡ reply_text (reply_of p q handled) (is_last number q)
  pub by : IsHandledBy (destination_of q) before q.body handled
  pub begins : BeginsWith before handled.changes
  pub within : BeginsWith handled.changes after
  pub ticks : TicksInTurn moments (moments_by (destination_of q) handled) moments'
