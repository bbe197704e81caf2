-- What holds where a call succeeds, and so what follows from it.
use Rattle.std.proofs.Common.{Result, Ok, Err, IfOk, OnOk}

pub on_ok : {A E P Q : Type 0} (r : Result A E) → OnOk r P → (P → Q) → OnOk r Q
on_ok (Ok x) holds step = step holds
on_ok (Err e) holds step = tt

pub on_ok_two : {A E P Q R : Type 0} (r : Result A E) → OnOk r P → OnOk r Q → (P → Q → R) → OnOk r R
on_ok_two (Ok x) first second step = step first second
on_ok_two (Err e) first second step = tt

pub if_ok : {A E : Type 0} {P Q : A → Type 0} (r : Result A E) → IfOk r P → ((x : A) → P x → Q x) → IfOk r Q
if_ok (Ok x) holds step = step x holds
if_ok (Err e) holds step = tt

pub if_ok_two : {A E : Type 0} {P Q R : A → Type 0} (r : Result A E) → IfOk r P → IfOk r Q → ((x : A) → P x → Q x → R x) → IfOk r R
if_ok_two (Ok x) first second step = step x first second
if_ok_two (Err e) first second step = tt
