-- Two states that give the same text from here on.
use Rattle.std.proofs.Common.{◌≡◌, ℕ, Bool, true, false, cond, List, ◌++◌, length, map, slice_get, bytes_eq, refl, sym, ap, ap₂, ◌∙◌, Option, Some, option_map}
use Rattle.std.proofs.lemmas.List.{length-map, map-append}
use Rattle.std.specs.Map.{update}
use Rattle.gw_answers.specs.declared.books.Books.{Books}
use Rattle.gw_json.specs.Lines.{line_of}
use Rattle.gw_match.specs.model.Telling.{change_of, world_after}
use Rattle.gw_replay.specs.Lines.{totals_data}
use Rattle.gw_replay.specs.Replays.{Client, State, totals_text}
use Rattle.gw_store.specs.declared.event.Entry.{Entry}
use Rattle.gw_text.specs.model.World.{world_of}
use Rattle.gw_replay_laws.proofs.Orders.{order_view}
use Rattle.gw_replay_laws.proofs.Views.{PartView, part_view}

-- a connection, with the views of its parts
pub record ClientView : Type 0 where
  pub worker : ℕ
  pub door : ℕ
  pub bytes : List ℕ
  pub parts : List PartView
  pub text : List ℕ

abbrev pub client_view : Client → ClientView
client_view c = record { worker = c.worker; door = c.door; bytes = c.bytes; parts = map part_view c.parts; text = c.text }

pub record Alike (s t : State) : Type 0 where
  pub changes : map change_of s.changes ≡ map change_of t.changes
  pub published : map change_of s.published ≡ map change_of t.published
  pub workers : s.workers ≡ t.workers
  pub clients : (name : List ℕ) → option_map client_view (s.clients name) ≡ option_map client_view (t.clients name)
  pub orders : map order_view s.orders ≡ map order_view t.orders
  pub statuses : s.statuses ≡ t.statuses
  pub refused : s.refused ≡ t.refused
  pub skipped : s.skipped ≡ t.skipped

pub same_length : {A B : Type 0} (f : A → B) (list other : List A) → map f list ≡ map f other → length list ≡ length other
same_length f list other e = sym (length-map list f) ∙ ap length e ∙ length-map other f

pub same_world : (list other : List Entry) → map change_of list ≡ map change_of other → world_after list ≡ world_after other
same_world list other e = ap world_of e

pub same_join : {A B : Type 0} (f : A → B) (list other more others : List A) → map f list ≡ map f other → map f more ≡ map f others
    → map f (list ++ more) ≡ map f (other ++ others)
same_join {B = B} f list other more others e₁ e₂ =
    map-append f list more ∙ ap₂ (λ (a b : List B). a ++ b) e₁ e₂ ∙ sym (map-append f other others)

pub some_same : {A : Type 0} (a b : A) → Some a ≡ Some b → a ≡ b
some_same a b e = cc

-- workers of one number have the same picks
pub same_books : (workers others : List Books) (number : ℕ) (w v : Books) → workers ≡ others
    → slice_get workers number ≡ Some w → slice_get others number ≡ Some v → w ≡ v
same_books workers others number w v e x y = some_same w v (sym x ∙ ap (λ list. slice_get list number) e ∙ y)

-- the connection of one name changes alike
changed : (test : Bool) (a b c d : Option Client) → option_map client_view a ≡ option_map client_view b → option_map client_view c ≡ option_map client_view d
    → option_map client_view (cond test a c) ≡ option_map client_view (cond test b d)
changed true a b c d e₁ e₂ = e₁
changed false a b c d e₁ e₂ = e₂

pub same_clients : (clients others : List ℕ → Option Client) (name : List ℕ) (client other : Option Client)
    → ((name : List ℕ) → option_map client_view (clients name) ≡ option_map client_view (others name))
    → option_map client_view client ≡ option_map client_view other
    → (key : List ℕ) → option_map client_view (update bytes_eq clients name client key) ≡ option_map client_view (update bytes_eq others name other key)
same_clients clients others name client other same e key =
    changed (bytes_eq name key) client other (clients key) (others key) e (same key)

totals_same : (changes changes₂ published published₂ refused refused₂ skipped skipped₂ : ℕ) (statuses statuses₂ : List ℕ) → changes ≡ changes₂ → published ≡ published₂
    → refused ≡ refused₂ → statuses ≡ statuses₂ → skipped ≡ skipped₂
    → line_of (totals_data changes published refused statuses skipped) ≡ line_of (totals_data changes₂ published₂ refused₂ statuses₂ skipped₂)
totals_same changes changes₂ published published₂ refused refused₂ skipped skipped₂ statuses statuses₂ e₁ e₂ e₃ e₄ e₅ = rw (e₁, e₂, e₃, e₄, e₅) refl

pub same_totals : (s t : State) → Alike s t → totals_text s ≡ totals_text t
same_totals s t same =
    totals_same (length s.changes) (length t.changes) (length s.published) (length t.published) s.refused t.refused s.skipped t.skipped s.statuses t.statuses
    (same_length change_of s.changes t.changes same.changes) (same_length change_of s.published t.published same.published) same.refused same.statuses same.skipped
