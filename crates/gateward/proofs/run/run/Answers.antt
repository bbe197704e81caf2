-- What a run that comes to its text comes to, one that serves, and one that writes a script or runs it.
use Rattle.std.proofs.Common.{arith, inl, inr}
use Rattle.gateward.proofs.Generating.{no_generation, no_service, of_generation, serves_instead, set_to_generate}
use Rattle.gateward.proofs.Running.{ended}
use Rattle.gateward.proofs.Serving.{failed, no_output, served, set_to_serve, write_failed}
use Rattle.gateward.proofs.run.run.Goals as goal

pub returns-in-Ok-output_of-clause-text : goal.returns-in-Ok-output_of-clause-text
returns-in-Ok-output_of-clause-text g c =
    λ few. inr (inr ((ended _ _ c.in-Ok.ensures.start _ _ _ _ _ _ _ _ _ _ c.in-Ok-read_all.ensures.all c.in-Ok-read_all.ensures.end _ _ _
    (rw c.as_slice.ensures.value at c.in-Ok-output_of.ensures.output) c.in-Ok-output_of.ensures.counted c.finish.ensures.finishes).text few))

pub returns-in-Ok-output_of-clause-uncounted : goal.returns-in-Ok-output_of-clause-uncounted
returns-in-Ok-output_of-clause-uncounted g c =
    (ended _ _ c.in-Ok.ensures.start _ _ _ _ _ _ _ _ _ _ c.in-Ok-read_all.ensures.all c.in-Ok-read_all.ensures.end _ _ _
    (rw c.as_slice.ensures.value at c.in-Ok-output_of.ensures.output) c.in-Ok-output_of.ensures.counted c.finish.ensures.finishes).uncounted

pub returns-in-Ok-output_of-clause-begin : goal.returns-in-Ok-output_of-clause-begin
returns-in-Ok-output_of-clause-begin g c =
    λ five.
    let end = (ended _ _ c.in-Ok.ensures.start _ _ _ _ _ _ _ _ _ _ c.in-Ok-read_all.ensures.all c.in-Ok-read_all.ensures.end _ _ _
    (rw c.as_slice.ensures.value at c.in-Ok-output_of.ensures.output) c.in-Ok-output_of.ensures.counted c.finish.ensures.finishes).place five in
    inr (inr (end.0, inr end.1))

pub returns-in-Ok-output_of-clause-above : goal.returns-in-Ok-output_of-clause-above
returns-in-Ok-output_of-clause-above g c = λ eight.
    let end = (ended _ _ c.in-Ok.ensures.start _ _ _ _ _ _ _ _ _ _ c.in-Ok-read_all.ensures.all c.in-Ok-read_all.ensures.end _ _ _
    (rw c.as_slice.ensures.value at c.in-Ok-output_of.ensures.output) c.in-Ok-output_of.ensures.counted c.finish.ensures.finishes).above eight in
    (end.0, inr end.1)

pub returns-in-Ok-output_of-clause-front : goal.returns-in-Ok-output_of-clause-front
returns-in-Ok-output_of-clause-front g c =
    λ four. inr (inr (((ended _ _ c.in-Ok.ensures.start _ _ _ _ _ _ _ _ _ _ c.in-Ok-read_all.ensures.all c.in-Ok-read_all.ensures.end _ _ _
    (rw c.as_slice.ensures.value at c.in-Ok-output_of.ensures.output) c.in-Ok-output_of.ensures.counted c.finish.ensures.finishes).front four).1))

pub returns-in-Ok-output_of-clause-complete : goal.returns-in-Ok-output_of-clause-complete
returns-in-Ok-output_of-clause-complete g c = λ setting starts within source sink places ahead edge crew.
    inl ((ended _ _ c.in-Ok.ensures.start _ _ _ _ _ _ _ _ _ _ c.in-Ok-read_all.ensures.all c.in-Ok-read_all.ensures.end _ _ _
    (rw c.as_slice.ensures.value at c.in-Ok-output_of.ensures.output) c.in-Ok-output_of.ensures.counted c.finish.ensures.finishes).complete sink places ahead)

pub returns-in-Ok-output_of-clause-exits : goal.returns-in-Ok-output_of-clause-exits
returns-in-Ok-output_of-clause-exits g c =
    (ended _ _ c.in-Ok.ensures.start _ _ _ _ _ _ _ _ _ _ c.in-Ok-read_all.ensures.all c.in-Ok-read_all.ensures.end _ _ _
    (rw c.as_slice.ensures.value at c.in-Ok-output_of.ensures.output) c.in-Ok-output_of.ensures.counted c.finish.ensures.finishes).exits

pub returns-in-Some-clause-text : goal.returns-in-Some-clause-text
returns-in-Some-clause-text g c = λ few.
    let end = c.run_service.ensures.served few in
    inl (end.0, served _ _ _ _ _ _ _ c.setting.view_is c.in-Ok.ensures.start c.in-Some.ensures.some _ _ _ _ _ end.1.0 end.1.1.0 end.1.1.1)

pub returns-in-Some-clause-begin : goal.returns-in-Some-clause-begin
returns-in-Some-clause-begin g c = λ five.
    let end = c.run_service.ensures.fault (λ few. omega (arith, five, few)) in
    inl (end.0, (end.1.0, (end.1.1.0, failed _ _ _ _ _ _ _ c.setting.view_is c.in-Ok.ensures.start c.in-Some.ensures.some _ _ _ _ end.0 _ _ end.1.1.1.0 end.1.1.1.1.0 end.1.1.1.1.1)))

pub returns-in-Some-clause-front : goal.returns-in-Some-clause-front
returns-in-Some-clause-front g c = λ four.
    let end = c.run_service.ensures.fault (λ few. omega (arith, four, few)) in
    inl (
      set_to_serve _ _ _ _ _ _ c.in-Ok.ensures.start c.in-Some.ensures.some,
      write_failed end.0 _ _ _ end.1.1.1.0 _ _ _ _ _ four end.1.0 end.1.1.1.1.0 end.1.1.1.1.1,
    )

pub returns-in-Some-clause-served : goal.returns-in-Some-clause-served
returns-in-Some-clause-served g c = λ few set.
    let end = c.run_service.ensures.served few in
    (end.0, served _ _ _ _ _ _ _ c.setting.view_is c.in-Ok.ensures.start c.in-Some.ensures.some _ _ _ _ _ end.1.0 end.1.1.0 end.1.1.1)

pub returns-in-Ok-output_of-clause-served : goal.returns-in-Ok-output_of-clause-served
returns-in-Ok-output_of-clause-served g c = λ few set. absurd (no_output _ _ set _ _ _ _ c.in-Ok.ensures.start c.in-Ok-output_of.ensures.output)

pub returns-in-Ok-output_of-clause-generated : goal.returns-in-Ok-output_of-clause-generated
returns-in-Ok-output_of-clause-generated g c = λ set. absurd (no_generation _ _ c.in-Ok.ensures.start (c.generation.ensures.none c.in_default-generation.is) set)

pub returns-in-Some-clause-generated : goal.returns-in-Some-clause-generated
returns-in-Some-clause-generated g c = λ set. absurd (serves_instead _ _ c.in-Ok.ensures.start _ _ _ _ c.in-Some.ensures.some set)

pub returns-in-Some-generation-clause-text : goal.returns-in-Some-generation-clause-text
returns-in-Some-generation-clause-text g c = λ few. inr (inl (set_to_generate _ _ c.in-Ok.ensures.start _ c.in-Some-generation.ensures.some))

pub returns-in-Some-generation-clause-served : goal.returns-in-Some-generation-clause-served
returns-in-Some-generation-clause-served g c = λ few set. absurd (no_service _ _ c.in-Ok.ensures.start _ c.in-Some-generation.ensures.some set)

pub returns-in-Some-generation-clause-generated : goal.returns-in-Some-generation-clause-generated
returns-in-Some-generation-clause-generated g c = λ set. elim c.run_generation.ensures.generated [
  | inl six ↦ inl six
  | inr is ↦ inr (of_generation _ _ c.in-Ok.ensures.start set _ _ _ _ _ _ _ c.in-Some-generation.ensures.some is)
]

pub returns-in-Some-generation-clause-begin : goal.returns-in-Some-generation-clause-begin
returns-in-Some-generation-clause-begin g c = λ five. inr (inr (c.run_generation.ensures.ends.place five, inl (set_to_generate _ _ c.in-Ok.ensures.start _ c.in-Some-generation.ensures.some)))

pub returns-in-Some-generation-clause-above : goal.returns-in-Some-generation-clause-above
returns-in-Some-generation-clause-above g c = λ eight. (c.run_generation.ensures.ends.above eight, inl (set_to_generate _ _ c.in-Ok.ensures.start _ c.in-Some-generation.ensures.some))

pub returns-in-Some-generation-clause-front : goal.returns-in-Some-generation-clause-front
returns-in-Some-generation-clause-front g c = λ four. inr (inl (set_to_generate _ _ c.in-Ok.ensures.start _ c.in-Some-generation.ensures.some))
