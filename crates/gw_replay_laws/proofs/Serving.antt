-- A connection is served alike in two states that are alike.
use Rattle.std.proofs.Common.{◌≡◌, ℕ, ◌==◌, List, ◌++◌, length, map, set, slice_get, refl, sym, ap, ap₂, ◌∙◌, subst, subst₂, Option, Some}
use Rattle.std.proofs.lemmas.List.{append_cancel_left, map-append}
use Rattle.gw_answers.specs.declared.books.Books.{Books}
use Rattle.gw_answers.specs.model.ServedRows.{ServedRow}
use Rattle.gw_frames.specs.declared.ended.Ended.{Ended}
use Rattle.gw_frames.specs.model.Requests.{Asks, a_head, ended}
use Rattle.gw_message_laws.proofs.RequestLaws.{steps_unique}
use Rattle.gw_replay.specs.Lines.{end_text, rows_text, written_text}
use Rattle.gw_replay.specs.Replays.{Client, Serves, State}
use Rattle.gw_worker.specs.model.Sessions.{Part, Place, step_of, written}
use Rattle.gw_replay_laws.proofs.Requests.{AlikeBefore, SameBehind, same_requests}
use Rattle.gw_replay_laws.proofs.States.{Alike, ClientView, client_view, same_books, same_join}
use Rattle.gw_replay_laws.proofs.Views.{PartView, part_view, same_rows, same_steps, same_texts, same_written}

-- what is served alike
pub record SameServed (c d : Client) (ending ending₂ : Option Ended) (s t : State) (text text₂ : List ℕ) : Type 0 where
  pub client : client_view c ≡ client_view d
  pub ends : ending ≡ ending₂
  pub state : Alike s t
  pub text_is : text ≡ text₂

same_more : (parts parts₂ more more₂ : List Part) → map part_view parts ≡ map part_view parts₂ → map step_of (parts ++ more) ≡ map step_of (parts₂ ++ more₂)
    → map step_of more ≡ map step_of more₂
same_more parts parts₂ more more₂ e all =
    append_cancel_left (map step_of parts) (map step_of more) (map step_of more₂)
    (sym (map-append step_of parts more) ∙ all ∙ map-append step_of parts₂ more₂
    ∙ ap (λ front. front ++ map step_of more₂) (sym (same_steps parts parts₂ e)))

same_wrote : (text text₂ wrote wrote₂ all all₂ : List ℕ) → text ≡ text₂ → all ≡ all₂ → text ++ wrote ≡ all → text₂ ++ wrote₂ ≡ all₂ → wrote ≡ wrote₂
same_wrote text text₂ wrote wrote₂ all all₂ e a x y =
    append_cancel_left text wrote wrote₂ (x ∙ a ∙ sym y ∙ ap (λ front. front ++ wrote₂) (sym e))

abbrev client_seen : ℕ → ℕ → List ℕ → List PartView → List ℕ → ClientView
client_seen worker door bytes parts text = record { worker = worker; door = door; bytes = bytes; parts = parts; text = text }

same_client : (worker worker₂ door door₂ : ℕ) (bytes bytes₂ text text₂ : List ℕ) (parts parts₂ : List PartView) → worker ≡ worker₂ → door ≡ door₂ → bytes ≡ bytes₂
    → parts ≡ parts₂ → text ≡ text₂
    → client_seen worker door bytes parts text ≡ client_seen worker₂ door₂ bytes₂ parts₂ text₂
same_client worker worker₂ door door₂ bytes bytes₂ text text₂ parts parts₂ e₁ e₂ e₃ e₄ e₅ = rw (e₁, e₂, e₃, e₄, e₅) refl

-- the text of what was served
same_text : (name : List ℕ) (line : ℕ) (p : Place) (more more₂ : List Part) (wrote wrote₂ : List ℕ) (ending ending₂ : Option Ended)
    → map part_view more ≡ map part_view more₂ → wrote ≡ wrote₂ → ending ≡ ending₂
    → rows_text name line p more ++ written_text name line wrote ++ end_text name line ending
    ≡ rows_text name line p more₂ ++ written_text name line wrote₂ ++ end_text name line ending₂
same_text name line p more more₂ wrote wrote₂ ending ending₂ e₁ e₂ e₃ =
    ap₂ (λ (a b : List ℕ). a ++ b) (ap₂ (λ (a b : List ℕ). a ++ b) (same_texts name line p more more₂ e₁) (ap (written_text name line) e₂))
    (ap (end_text name line) e₃)

same_workers : (workers workers₂ : List Books) (number number₂ : ℕ) (w v : Books) → workers ≡ workers₂ → number ≡ number₂ → w ≡ v
    → set workers number w ≡ set workers₂ number₂ v
same_workers workers workers₂ number number₂ w v e₁ e₂ e₃ = rw (e₁, e₂, e₃) refl

pub same_serves : (p : Place) (line : ℕ) (name piece : List ℕ) (c d c' d' : Client) (ending ending₂ : Option Ended) (s t s' t' : State) (text text₂ : List ℕ)
    → Alike s t → client_view c ≡ client_view d → Serves p line name c c' piece ending s s' text → Serves p line name d d' piece ending₂ t t' text₂
    → SameServed c' d' ending ending₂ s' t' text text₂
same_serves p line name piece c d c' d' ending ending₂ s t s' t' text text₂ same e x y =
    let worker : c.worker ≡ d.worker = ap (λ (v : ClientView). v.worker) e in
    let door : c.door ≡ d.door = ap (λ (v : ClientView). v.door) e in
    let bytes : c.bytes ≡ d.bytes = ap (λ (v : ClientView). v.bytes) e in
    let parts : map part_view c.parts ≡ map part_view d.parts = ap (λ (v : ClientView). v.parts) e in
    let shown : c.text ≡ d.text = ap (λ (v : ClientView). v.text) e in
    let there : Asks a_head 0 (c.bytes ++ piece) (length piece == 0) (map step_of (d.parts ++ y.more)) =
    subst (λ front. Asks a_head 0 (front ++ piece) (length piece == 0) (map step_of (d.parts ++ y.more))) (sym bytes) y.all in
    let all : map step_of (c.parts ++ x.more) ≡ map step_of (d.parts ++ y.more) =
    steps_unique a_head 0 (c.bytes ++ piece) (length piece == 0) (map step_of (c.parts ++ x.more)) (map step_of (d.parts ++ y.more)) x.all there in
    let ends : ending ≡ ending₂ = sym x.ends ∙ ap ended all ∙ y.ends in
    let number : slice_get t.workers c.worker ≡ Some y.before = subst (λ number. slice_get t.workers number ≡ Some y.before) (sym worker) y.worker in
    let before : AlikeBefore s.published t.published s.orders t.orders x.before y.before = record {
      changes = same.published;
      orders_are = same.orders;
      books = same_books s.workers t.workers c.worker x.before y.before same.workers x.worker number;
    } in
    let handled : SameBehind x.after y.after x.more y.more =
    same_requests p s.published t.published s.orders t.orders x.before y.before x.after y.after x.more y.more
    (same_more c.parts d.parts x.more y.more parts all) before
    (record { decided = x.decided; answered = x.answered }) (record { decided = y.decided; answered = y.answered }) in
    let views : map part_view (c.parts ++ x.more) ≡ map part_view (d.parts ++ y.more) = same_join part_view c.parts d.parts x.more y.more parts handled.views in
    let wrote : x.wrote ≡ y.wrote =
    same_wrote c.text d.text x.wrote y.wrote (written p (c.parts ++ x.more)) (written p (d.parts ++ y.more)) shown
    (same_written p 0 (c.parts ++ x.more) (d.parts ++ y.more) views) x.wrote_is y.wrote_is in
    let clients = same_client c.worker d.worker c.door d.door (c.bytes ++ piece) (d.bytes ++ piece) (c.text ++ x.wrote) (d.text ++ y.wrote)
    (map part_view (c.parts ++ x.more)) (map part_view (d.parts ++ y.more)) worker door (ap (λ front. front ++ piece) bytes) views
    (ap₂ (λ (a b : List ℕ). a ++ b) shown wrote) in
    record {
      client = ap client_view x.client ∙ clients ∙ sym (ap client_view y.client);
      ends = ends;
      state = subst₂ Alike (sym x.state) (sym y.state) (record {
        changes = same.changes;
        published = same.published;
        workers = same_workers s.workers t.workers c.worker d.worker x.after y.after same.workers worker handled.books;
        clients = same.clients;
        orders = same.orders;
        statuses = ap₂ (λ (a b : List ℕ). a ++ b) same.statuses (ap (map (λ (row : ServedRow). row.status)) (same_rows p x.more y.more handled.views));
        refused = same.refused;
        skipped = same.skipped;
      });
      text_is = x.text_is ∙ same_text name line p x.more y.more x.wrote y.wrote ending ending₂ handled.views wrote ends ∙ sym y.text_is;
    }
