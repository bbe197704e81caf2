-- How a step of the code stands for the plain one.
use Rattle.gw_script.specs.Steps.{Step as Plain, an_event, a_publication, a_beginning, a_sending, an_end, an_answer, a_failure}
use Rattle.gw_script.specs.declared.step.Step.{Step}
use Rattle.gw_script.specs.declared.step.Step.TheVariants.{Event, Publish, Open, Send, End, Answer, Fail}

-- The step, with its parts behind their references.
abbrev pub seen_step : Step → Plain
seen_step (Event bytes) = an_event bytes.now
seen_step Publish = a_publication
seen_step (Open name worker door) = a_beginning name.now worker door
seen_step (Send name bytes) = a_sending name.now bytes.items
seen_step (End name) = an_end name.now
seen_step (Answer socket text fill) = an_answer socket text.items fill
seen_step (Fail socket call) = a_failure socket call
