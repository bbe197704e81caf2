-- A reply is written as the response that it is.
use Rattle.std.proofs.Common.{◌≡◌, ℕ, List, Bool, false, Option, None, Some, refl}
use Rattle.gw_replies.specs.model.Written.{reply}
use Rattle.gw_admin_texts.specs.declared.reply.Status.{Status}
use Rattle.gw_admin_texts.specs.declared.reply.Status.TheVariants.{Ok, BadRequest, NotFound, MethodNotAllowed, UnprocessableContent, ServiceUnavailable}
use Rattle.gw_admin_texts.specs.declared.resource.Resource.{Resource}
use Rattle.gw_admin_texts.specs.model.Replies.{Reply, reply_text, response_of}

by_parts : (status : Status) (allow : Option Resource) (body : List ℕ) (close : Bool)
    → reply (response_of (record { status = status; allow = allow; body = body })) false close ≡ reply_text (record { status = status; allow = allow; body = body }) close
unfolding reply reply_text
by_parts Ok None body close = refl
by_parts Ok (Some r) body close = refl
by_parts BadRequest None body close = refl
by_parts BadRequest (Some r) body close = refl
by_parts NotFound None body close = refl
by_parts NotFound (Some r) body close = refl
by_parts MethodNotAllowed None body close = refl
by_parts MethodNotAllowed (Some r) body close = refl
by_parts UnprocessableContent None body close = refl
by_parts UnprocessableContent (Some r) body close = refl
by_parts ServiceUnavailable None body close = refl
by_parts ServiceUnavailable (Some r) body close = refl

pub reply_is : (r : Reply) (close : Bool) → reply (response_of r) false close ≡ reply_text r close
reply_is r close = by_parts r.status r.allow r.body close
