-- The link that was served is the next one, and is closed.
use Rattle.gw_edge.proofs.Accepting.{given_then, closed_then}
use Rattle.gw_worker.proofs.next.serve_next.Goals as goal

pub returns-in-Ok-clause-next : goal.returns-in-Ok-clause-next
returns-in-Ok-clause-next c w = record {
  link = record { left = c.A.Conn.Link.left w.in-Ok-Some.link; written = c.A.Conn.Link.written w.in-Ok-Some.link };
  link' = record { left = c.A.Conn.Link.left w.serve_proxy-served.new.link; written = c.A.Conn.Link.written w.serve_proxy-served.new.link };
  passed = record {
    next = given_then _ _ _ _ (rw w.in-Ok-Some.field-0-is at w.in-Ok-Some.ensures.next) w.close.ensures.kept;
    closed = closed_then _ _ _ _ w.in-Ok-Some.ensures.unclosed w.close.ensures.closes;
  };
  served = w.in-Ok.ensures.served;
}

pub returns-in-Err-served-clause-next : goal.returns-in-Err-served-clause-next
returns-in-Err-served-clause-next c w = record {
  link = record { left = c.A.Conn.Link.left w.in-Ok-Some.link; written = c.A.Conn.Link.written w.in-Ok-Some.link };
  link' = record { left = c.A.Conn.Link.left w.serve_proxy-served.new.link; written = c.A.Conn.Link.written w.serve_proxy-served.new.link };
  passed = record {
    next = given_then _ _ _ _ (rw w.in-Ok-Some.field-0-is at w.in-Ok-Some.ensures.next) w.close.ensures.kept;
    closed = closed_then _ _ _ _ w.in-Ok-Some.ensures.unclosed w.close.ensures.closes;
  };
  broke = w.in-Err-served.ensures.broken;
}
