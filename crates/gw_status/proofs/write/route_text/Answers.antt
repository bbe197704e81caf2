use Rattle.std.proofs.Common.{string_bytes}
use Rattle.serde_json.proofs.FreeTexts.{text_of_value}
use Rattle.gw_status.specs.StatusText.{route_data}
use Rattle.gw_status.proofs.Floats.{route_has_no_float}
use Rattle.gw_status.proofs.write.route_text.Goals as goal

pub returns-in-Ok : goal.returns-in-Ok
returns-in-Ok c =
    let sent = c.in-Ok.ensures.events in
    text_of_value (route_data c.args.status.now) sent.0 (string_bytes c.in-Ok.line) sent.1 sent.2 (route_has_no_float c.args.status.now)
