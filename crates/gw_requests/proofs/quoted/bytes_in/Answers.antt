-- A character more, one that is no byte, and the end.
use Rattle.std.proofs.Common.{sym}
use Rattle.std.proofs.lemmas.Str.{IsUtf8-past_char}
use Rattle.gw_requests.proofs.Characters.{read_more, bytes_more, not_bytes, all_bytes}
use Rattle.gw_requests.proofs.quoted.bytes_in.Goals as goal

pub returns-in_default : goal.returns-in_default
returns-in_default c =
    let so = c.characters.invariant in
    sym (not_bytes _ _ _ _ c.in-Some.character so.utf8 c.in-Some.ensures.steps.0 so.read c.in_default.ensures)

pub characters-preserved : goal.characters-preserved
characters-preserved c =
    let so = c.characters.invariant in
    record {
      can_next = so.can_next;
      is_finite = so.is_finite;
      utf8 = IsUtf8-past_char _ _ c.in-Some.character so.utf8 c.in-Some.ensures.steps.0;
      read = rw (c.in_ok-push.ensures.items, c.in-Ok.ensures.1) (read_more _ _ _ _ c.in-Some.character so.utf8 c.in-Some.ensures.steps.0 so.read);
      bytes = rw (c.in_ok-push.ensures.items, c.in-Ok.ensures.1) (bytes_more c.characters.bytes.items c.in-Some.character so.bytes c.in-Ok.ensures.0);
    }

pub returns : goal.returns
returns c =
    let so = c.characters.invariant in
    sym (all_bytes _ _ _ c.in-None.ensures.steps.0.0 so.read so.bytes)
