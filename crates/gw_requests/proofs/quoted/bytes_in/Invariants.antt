-- What is read so far, then the rest, is all.
use Rattle.std.proofs.Common.{◌≡◌, ◌++◌, true, nat_lt}
use Rattle.std.specs.List.{list_all}
use Rattle.std.specs.Str.{chars, IsUtf8}
use Rattle.std.specs.Str.Iter.{chars_rest}
use Rattle.gw_requests.proofs.quoted.bytes_in.Given as goal

abbrev pub invariant-characters : goal.invariant-characters
invariant-characters l = record {
  can_next : (goal.iterator-characters).can_next l.character-iterator;
  is_finite : (goal.iterator-characters).is_finite l.character-iterator;
  utf8 : IsUtf8 (chars_rest l.character-iterator);
  read : chars l.text ≡ l.bytes.items ++ chars (chars_rest l.character-iterator);
  bytes : list_all (λ c. nat_lt c 256) l.bytes.items ≡ true;
}
