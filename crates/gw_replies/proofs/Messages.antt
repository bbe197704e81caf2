-- Messages, line by line.
use Rattle.std.proofs.Common.{◌≡◌, ℕ, List, [], ◌∷◌, ◌++◌, Bool, true, if◌then◌else◌, Option, codes, length, refl, ap, ◌∙◌, append_assoc}
use Rattle.std.specs.List.{flat_map}
use Rattle.std.proofs.lemmas.Grind.{flat_map-append}
use Rattle.gw_text.specs.model.Fields.{Field}
use Rattle.gw_replies.specs.model.Responses.{Response, is_bodiless}
use Rattle.gw_replies.specs.Parts.{reply_rest, request_rest}
use Rattle.gw_replies.specs.model.Written.{close_line, ended_line, field_line, field_lines, forward, given_fault, given_line, length_line, only_if, own, phrase_of, reply, reply_length, status_line, via_line}
use Rattle.gw_replies.specs.declared.fault.FaultName.{FaultName}

-- the lines of a request, one after the other
forward_lines : (f : List ℕ → List ℕ) (a b v : List ℕ) (fs os cs : List (List ℕ)) → flat_map f (a ∷ b ∷ fs ++ v ∷ os ++ cs)
    ≡ ((((f a ++ f b) ++ flat_map f fs) ++ f v) ++ flat_map f os) ++ flat_map f cs
forward_lines f a b v fs os cs =
    flat_map-append f (a ∷ b ∷ fs ++ v ∷ os) cs ∙ ap (λ l. l ++ flat_map f cs) (flat_map-append f (a ∷ b ∷ fs) (v ∷ os)) ∙ simp append_assoc

-- the lines of a response
reply_lines : (f : List ℕ → List ℕ) (a : List ℕ) (fs ls cs : List (List ℕ)) → flat_map f (a ∷ fs ++ ls ++ cs) ≡ ((f a ++ flat_map f fs) ++ flat_map f ls) ++ flat_map f cs
reply_lines f a fs ls cs =
    flat_map-append f (a ∷ fs ++ ls) cs ∙ ap (λ l. l ++ flat_map f cs) (flat_map-append f (a ∷ fs) ls)

-- the lines of a reply of one's own
own_lines : (f : List ℕ → List ℕ) (a l : List ℕ) (gs xs cs : List (List ℕ)) → flat_map f (a ∷ gs ++ xs ++ l ∷ cs) ≡ (((f a ++ flat_map f gs) ++ flat_map f xs) ++ f l) ++ flat_map f cs
own_lines f a l gs xs cs =
    flat_map-append f (a ∷ gs ++ xs) (l ∷ cs) ∙ ap (λ k. k ++ (f l ++ flat_map f cs)) (flat_map-append f (a ∷ gs) xs) ∙ simp append_assoc

pub forward_is : (method target host : List ℕ) (minor : ℕ) (fields : List Field) (body : List ℕ) (framed : Bool)
    → forward method target host minor fields body framed
    ≡ request_rest ((([] ++ ended_line (method ++ codes " " ++ target ++ codes " HTTP/1.1")) ++ ended_line (field_line (codes "host") host)) ++ flat_map ended_line (field_lines fields)) minor body framed
unfolding forward
forward_is method target host minor fields body framed =
    ap (λ l. l ++ ended_line [] ++ (if framed then body else []))
    (forward_lines ended_line (method ++ codes " " ++ target ++ codes " HTTP/1.1") (field_line (codes "host") host) (via_line minor)
    (field_lines fields) (only_if framed (length_line (length body))) (only_if true close_line))

pub reply_is : (r : Response) (to_head close : Bool)
    → reply r to_head close ≡ reply_rest (([] ++ ended_line (status_line r.code r.phrase)) ++ flat_map ended_line (field_lines r.fields)) r to_head close
unfolding reply
reply_is r to_head close =
    ap (λ l. l ++ ended_line [] ++ (if is_bodiless to_head r.code then [] else r.body))
    (reply_lines ended_line (status_line r.code r.phrase) (field_lines r.fields) (reply_length r to_head) (only_if close close_line))

pub own_is : (code : ℕ) (location : Option (List ℕ)) (fault : Option FaultName) (close : Bool)
    → own code location fault close
    ≡ ((((([] ++ ended_line (status_line code (phrase_of code))) ++ flat_map ended_line (given_line (codes "location") location))
    ++ flat_map ended_line (given_line (codes "x-gateward-fault") (given_fault fault))) ++ ended_line (length_line 0)) ++ flat_map ended_line (only_if close close_line))
    ++ ended_line [] ++ []
unfolding own
own_is code location fault close =
    ap (λ l. l ++ ended_line [] ++ [])
    (own_lines ended_line (status_line code (phrase_of code)) (length_line 0) (given_line (codes "location") location)
    (given_line (codes "x-gateward-fault") (given_fault fault)) (only_if close close_line))

-- a reply of one's own whose parts were written one after the other
pub own_by : (code : ℕ) (location : Option (List ℕ)) (fault : Option FaultName) (close : Bool) (phrase out empty start_line with_location with_fault with_length with_close : List ℕ)
    → empty ≡ [] → phrase ≡ phrase_of code → start_line ≡ empty ++ ended_line (status_line code phrase)
    → with_location ≡ start_line ++ flat_map ended_line (given_line (codes "location") location)
    → with_fault ≡ with_location ++ flat_map ended_line (given_line (codes "x-gateward-fault") (given_fault fault))
    → with_length ≡ with_fault ++ ended_line (length_line 0) → with_close ≡ with_length ++ flat_map ended_line (only_if close close_line)
    → out ≡ with_close ++ ended_line [] ++ []
    → out ≡ own code location fault close
own_by code location fault close phrase out a0 a1 a2 a3 a4 a5 e0 e1 f1 f2 f3 f4 f5 f6 =
    rw (own_is code location fault close, f6, f5, f4, f3, f2, f1, e0, e1) refl
