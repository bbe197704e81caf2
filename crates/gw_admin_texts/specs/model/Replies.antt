-- The replies of the admin endpoint. Source: RFC 9110 sections 10.2.1 and 15.
use Rattle.std.specs.Prelude.{ℕ, List, [], ◌∷◌, ◌++◌, length, codes, Bool, Option, None, Some}
use Rattle.gw_text.specs.model.Fields.{Field}
use Rattle.gw_replies.specs.model.Responses.{Response}
use Rattle.gw_replies.specs.model.Written.{close_line, field_line, length_line, message, only_if, phrase_of, status_line}
use Rattle.gw_admin_texts.specs.declared.reply.Status.{Status}
use Rattle.gw_admin_texts.specs.declared.reply.Status.TheVariants.{Ok, BadRequest, NotFound, MethodNotAllowed, UnprocessableContent, ServiceUnavailable}
use Rattle.gw_admin_texts.specs.declared.resource.Resource.{Resource}
use Rattle.gw_admin_texts.specs.model.Resources.{method_of}

-- A reply: its status, the resource whose method is allowed where another one was asked for, and its body.
pub record Reply : Type 0 where
  pub status : Status
  pub allow : Option Resource
  pub body : List ℕ

-- The code of a status.
abbrev pub code_of : Status → ℕ
code_of Ok = 200
code_of BadRequest = 400
code_of NotFound = 404
code_of MethodNotAllowed = 405
code_of UnprocessableContent = 422
code_of ServiceUnavailable = 503

-- A reply with this body.
abbrev pub with_body : Status → List ℕ → Reply
with_body status body = record { status = status; allow = None; body = body }

-- A reply without a body.
abbrev pub without_body : Status → Reply
without_body status = with_body status []

-- Nothing is at the path.
abbrev pub not_found : Reply
not_found = without_body NotFound

-- The resource has another method.
abbrev pub not_allowed : Resource → Reply
not_allowed r = record { status = MethodNotAllowed; allow = Some r; body = [] }

-- The line of Allow, where there is one: the method of the resource.
abbrev pub allow_line : Option Resource → List (List ℕ)
allow_line None = []
allow_line (Some r) = field_line (codes "allow") (method_of r) ∷ []

-- The bytes of a reply: its status line, Allow where the resource has another method, Content-Length, the end of the connection where it
-- ends, and the body.
unfoldable pub reply_text : Reply → Bool → List ℕ
reply_text r close =
    message
    (status_line (code_of r.status) (phrase_of (code_of r.status)) ∷ allow_line r.allow
    ++ length_line (length r.body) ∷ only_if close close_line)
    r.body

-- The fields of a reply, in the form in which they are written.
abbrev pub fields_of : Option Resource → List Field
fields_of None = []
fields_of (Some r) = record { name = codes "allow"; value = method_of r } ∷ []

-- A reply as it is written.
abbrev pub response_of : Reply → Response
response_of r = record {
  code = code_of r.status;
  phrase = phrase_of (code_of r.status);
  fields = fields_of r.allow;
  body = r.body;
  length = None;
}
