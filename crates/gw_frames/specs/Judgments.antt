-- Judgments as the definitions have them.
use Rattle.gw_frames.specs.model.Requests.{Judgment as Plain, refused, opened}
use Rattle.gw_frames.specs.declared.judgment.Judgment.{Judgment}
use Rattle.gw_frames.specs.declared.judgment.Judgment.TheVariants.{Refused, Opened}

abbrev pub seen : Judgment → Plain
seen (Refused code) = refused code
seen (Opened o) = opened o
