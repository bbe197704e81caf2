use Rattle.std.proofs.lemmas.Slice.Eq.{bytes_eq-Decides}
use Rattle.gw_text.proofs.key.Key.is_beside.Goals as goal

pub returns-clause-value : goal.returns-clause-value
returns-clause-value c =
    rw (c.eq.ensures, c.bytes.ensures, c.bytes-2.ensures, ← c.self.view_is, ← c.other.view_is) (bytes_eq-Decides _ _)
