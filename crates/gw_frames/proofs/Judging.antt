-- What the judgment on a head rests on.
use Rattle.std.proofs.Common.{◌≡◌, ℕ, Bool, true, false, List, [], ◌∷◌, Option, None, Some, refl, sym, ap, ◌∙◌, inr, codes, take, not, ◌&&◌, ◌||◌, arith}
use Rattle.std.proofs.lemmas.Bool.Decides.{nat_tests}
use Rattle.std.specs.Char.{is_ascii_uppercase, to_ascii_lowercase}
use Rattle.std.specs.List.{list_all}
use Rattle.http_uri.specs.Grammar.{path_of, query_of}
use Rattle.gw_text.specs.model.Fields.{Field}
use Rattle.gw_messages.specs.model.Values.{values_of, has_field, lower}
use Rattle.gw_frames.specs.model.Heads.{Head, Target, IsHead, IsTarget, code_of, authority_of, host_length}
use Rattle.gw_frames.specs.model.Requests.{Opening, IsJudged, refused, opened, judgment_of, request_of, size_of, expects, hosted, closes}

pub refused_by : (bytes : List ℕ) (head : Head) (t : Option Target) (code : ℕ) → IsHead bytes (Some head) → IsTarget head.target t → code_of head t ≡ Some code → IsJudged bytes (refused code)
refused_by bytes head t code h target e = inr (head, t, h, target, sym (ap (λ (c : Option ℕ). judgment_of c head t) e))

pub opened_by : (bytes : List ℕ) (head : Head) (t : Target) (o : Opening) → IsHead bytes (Some head) → IsTarget head.target (Some t) → code_of head (Some t) ≡ None
    → o ≡ record { request = request_of head t; size = size_of head.fields; expects = expects head } → IsJudged bytes (opened o)
opened_by bytes head t o h target e is = inr (head, Some t, h, target, ap opened is ∙ sym (ap (λ (c : Option ℕ). judgment_of c head (Some t)) e))

-- the parts of a request
pub request_is : (h : Head) (t : Target) (path authority host : List ℕ) (query : Option (List ℕ)) (fields : List Field) (body : List ℕ) (framed close : Bool)
    → path ≡ path_of t.path_and_query → authority ≡ authority_of t (values_of (codes "host") h.fields) → host ≡ lower (take (host_length authority) authority)
    → query ≡ query_of t.path_and_query → fields ≡ hosted t.authority h.fields → body ≡ []
    → framed ≡ (has_field (codes "transfer-encoding") h.fields || has_field (codes "content-length") h.fields) → close ≡ closes h
    → record { method = h.method; target = h.target; path = path; authority = authority; host = host; query = query; minor = h.minor; fields = fields; body = body; framed = framed; close = close } ≡ request_of h t
unfolding request_of
request_is h t path authority host query fields body framed close a b c d e f g i = rw (c, a, b, d, e, f, g, i) refl

-- a byte that is no capital is its own in lower case
no_capital : (b : ℕ) → is_ascii_uppercase b ≡ false → to_ascii_lowercase b ≡ b
no_capital b e = grind (arith, nat_tests)

lower_by : (b : ℕ) (text : List ℕ) (t rest : Bool) → is_ascii_uppercase b ≡ t → (rest ≡ true → lower text ≡ text) → (not t && rest) ≡ true → lower (b ∷ text) ≡ b ∷ text
lower_by b text true rest is later e = cc
lower_by b text false rest is later e = ap (λ (c : ℕ). c ∷ lower text) (no_capital b is) ∙ ap (λ (l : List ℕ). b ∷ l) (later e)

-- a text without capitals is in lower case
pub lower_already : (text : List ℕ) → list_all (λ b. not (is_ascii_uppercase b)) text ≡ true → lower text ≡ text
lower_already [] e = refl
lower_already (b ∷ text) e = lower_by b text (is_ascii_uppercase b) (list_all (λ c. not (is_ascii_uppercase c)) text) refl (lower_already text) e
