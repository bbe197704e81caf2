-- What a connection that is ready stands for.
use Rattle.std.proofs.Common.{ℕ, List, ◌++◌, ap, append-nil, subst, ◌∙◌, Result, Ok, Err, IfOk}
use Rattle.gw_conns.specs.Standing.{IsReady, Stands, conn_of}
use Rattle.gw_conns.specs.declared.connection.Connection.{Connection}
use Rattle.gw_conns.specs.declared.connection.Connection.TheVariants.{Called, Polled}
use Rattle.gw_poll.specs.Courses.{unwritten}
use Rattle.gw_worker.specs.Conns.{IsServing, StandsFor}
use Rattle.gw_worker.specs.model.Sessions.{Part, Place}

pub serving_of : (c : Connection) → IsReady c → IsServing (conn_of c)
serving_of (Called conn) ready = ready
serving_of (Polled f) ready = ready.serving

pub stands_for : (c : Connection) (p : Place) (bytes : List ℕ) (parts : List Part) (text : List ℕ) → IsReady c → Stands c p bytes parts text → StandsFor (conn_of c) p bytes parts text
stands_for (Called conn) p bytes parts text ready stands = stands
stands_for (Polled f) p bytes parts text ready stands =
    subst (λ (l : List ℕ). StandsFor f.course.conn p bytes parts l) (ap (λ (l : List ℕ). text ++ l) ready.written ∙ append-nil text)
    (subst (λ (l : List Part). StandsFor f.course.conn p bytes l (text ++ unwritten f.course.stage)) (append-nil parts) stands.1.conn)

-- what is said of a result says less of it
pub if_ok : {A E : Type 0} (r : Result A E) (P Q : A → Type 0) → ((x : A) → P x → Q x) → IfOk r P → IfOk r Q
if_ok (Ok x) P Q weaker holds = weaker x holds
if_ok (Err e) P Q weaker holds = holds
