-- The parts of the request.
use Rattle.std.proofs.Common.{List, ℕ, ◌||◌, sym, ap, ◌∙◌, take, codes}
use Rattle.gw_messages.specs.model.Values.{has_field, lower, values_of}
use Rattle.gw_frames.specs.model.Heads.{Head, authority_of, host_length}
use Rattle.gw_frames.specs.model.Requests.{closes, request_of}
use Rattle.gw_frames.specs.Targets.{target_of}
use Rattle.gw_frames.proofs.Judging.{request_is}
use Rattle.gw_frames.proofs.judgment.request_of.Goals as goal

pub returns : goal.returns
returns c =
    let t = target_of c.args.target.now in
    let at = sym c.head.view_is in
    request_is (record { method = c.head.inside.method; target = c.head.inside.target; minor = c.head.inside.minor; fields = c.head.inside.fields }) t
    c.in_ok-path.path c.in_ok-authority.authority c.in_ok-host.host c.in_ok-query.query c.in_ok-fields.fields c.from_vec.result c.args.framed c.closes-close.result
    (c.in_ok-path.ensures ∙ c.path_of.ensures)
    (c.in_ok-authority.ensures ∙ ap (λ (h : Head). authority_of t (values_of (codes "host") h.fields)) at)
    (c.in_ok-host.ensures ∙ ap lower (c.split_host.ensures.host ∙ ap (λ (a : List ℕ). take (host_length a) a) c.bytes.ensures))
    c.in_ok-query.ensures
    c.in_ok-fields.ensures
    (c.from_vec.ensures ∙ c.new.ensures.items)
    (c.requires ∙ ap (λ (h : Head). has_field (codes "transfer-encoding") h.fields || has_field (codes "content-length") h.fields) at)
    (c.closes-close.ensures ∙ ap closes at)
    ∙ ap (λ (h : Head). request_of h t) c.head.view_is
