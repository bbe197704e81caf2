-- Passes of one opening.
use Rattle.std.proofs.Common.{◌≡◌, ℕ, zero, suc, ◌+◌, ◌*◌, ◌<◌, ◌≤◌, List, refl, sym, subst, ◌∙◌, length, ap, arith}
use Rattle.std.proofs.Math.Nat.{mul-suc, mul-le-mul_left}
use Rattle.gw_hub.specs.Control.{Control, beginning}
use Rattle.gw_snap.specs.Lists.{Book, Seen, copies, fresh}
use Rattle.gw_store.specs.declared.event.Entry.{Entry}
use Rattle.gw_text.specs.model.Doors.{Door}
use Rattle.gw_serve.specs.Serving.{AreOf, job_count}

-- Copies of a fresh pass are of its opening.
pub fresh_are_of : (book : Book) (fixed : List Door × List ℕ) (n : ℕ) → AreOf book fixed (copies n (fresh fixed book))
fresh_are_of book fixed zero = tt
fresh_are_of book fixed (suc n) = (refl, (refl, fresh_are_of book fixed n))

-- There are as many copies as were made.
pub copies_length : {A : Type 0} (n : ℕ) (x : A) → length (copies n x) ≡ n
copies_length zero x = refl
copies_length (suc n) x = ap suc (copies_length n x)

-- The passes of an opening are those of its controller.
pub opened_are_of : (control : Control) (passes : List (Seen Entry (List Door × List ℕ))) (doors : List Door) (name : List ℕ) (places : ℕ)
    → control ≡ beginning doors name control.book → passes ≡ copies places (fresh (doors, name) control.book) → AreOf control.book (control.doors, control.controller) passes
opened_are_of control passes doors name places is are =
    let fixed : (doors, name) ≡ (control.doors, control.controller) = sym (ap (λ (c : Control). (c.doors, c.controller)) is) in
    subst (λ (f : List Door × List ℕ). AreOf control.book f passes) fixed
    (subst (AreOf control.book (doors, name)) (sym are) (fresh_are_of control.book (doors, name) places))

-- There is one for each job.
pub opened_count : (control : Control) (passes : List (Seen Entry (List Door × List ℕ))) (doors : List Door) (name : List ℕ) (places workers : ℕ)
    → control ≡ beginning doors name control.book → passes ≡ copies places (fresh (doors, name) control.book) → places ≡ job_count workers doors
    → length passes ≡ job_count workers control.doors
opened_count control passes doors name places workers is are count =
    ap length are ∙ copies_length places (fresh (doors, name) control.book) ∙ count ∙ sym (ap (λ (c : Control). job_count workers c.doors) is)

-- The workers of one door more.
pub one_door_more : (workers door : ℕ) → workers * (door + 1) ≡ workers * door + workers
one_door_more workers door =
    let next : door + 1 ≡ suc door = omega arith in
    ap (λ n. workers * n) next ∙ mul-suc workers door

-- A door's workers are among those of all doors, behind those of the doors before it.
pub door_fits : (workers door count : ℕ) → door < count → workers * door + workers ≤ workers * count
door_fits workers door count below =
    let up_to : workers * suc door ≤ workers * count = mul-le-mul_left workers (omega arith) in
    let more = mul-suc workers door in
    omega arith
