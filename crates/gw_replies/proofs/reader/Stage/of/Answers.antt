-- A body that ends with the bytes.
use Rattle.std.proofs.Common.{◌≡◌, List, ap, ◌∙◌, subst}
use Rattle.gw_text.specs.model.Fields.{Field}
use Rattle.gw_replies.specs.model.Responses.{Head, by_end, extent_of}
use Rattle.gw_replies.proofs.Replies.{still_to_end}
use Rattle.gw_replies.proofs.reader.Stage.of.Goals as goal

pub returns-in-End-clause-still : goal.returns-in-End-clause-still
returns-in-End-clause-still c = λ to_head count taken bytes over outcome is.
    let extent = subst (λ (fields : List Field). extent_of fields ≡ by_end) (c.as_slice.ensures ∙ ap (λ (h : Head). h.fields) c.head.view_is) c.in-End.ensures in
    still_to_end c.args.head c.in_ok-response.response.value c.args.before bytes over outcome extent c.in_ok-response.ensures is
