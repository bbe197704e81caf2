use Rattle.gw_link.proofs.mem_upstream.MemUpstream.copy_next.Goals as goal

pub returns-in-Some-answer_in-clause-size : goal.returns-in-Some-answer_in-clause-size
returns-in-Some-answer_in-clause-size c =
    rw (← c.self.view_is, c.in-Some.is, ← c.deref.ensures.value, ← c.in-Some-answer_in.ensures) c.copy_piece.ensures.size

pub returns-in-Some-answer_in-clause-bytes : goal.returns-in-Some-answer_in-clause-bytes
returns-in-Some-answer_in-clause-bytes c =
    rw (← c.self.view_is, c.in-Some.is, ← c.deref.ensures.value, ← c.in-Some-answer_in.ensures) c.copy_piece.ensures.bytes

pub returns-in_ok-answer-in-None-clause-size : goal.returns-in_ok-answer-in-None-clause-size
returns-in_ok-answer-in-None-clause-size c =
    rw (← c.self.view_is, c.in-Some.is, ← c.deref.ensures.value, ← c.in-None.ensures, ← c.in_ok-answer-in-None.ensures, ← c.deref-in-None.ensures.value) c.copy_piece-in-None.ensures.size

pub returns-in_ok-answer-in-None-clause-bytes : goal.returns-in_ok-answer-in-None-clause-bytes
returns-in_ok-answer-in-None-clause-bytes c =
    rw (← c.self.view_is, c.in-Some.is, ← c.deref.ensures.value, ← c.in-None.ensures, ← c.in_ok-answer-in-None.ensures, ← c.deref-in-None.ensures.value) c.copy_piece-in-None.ensures.bytes
