-- A piece more.
use Rattle.std.proofs.Common.{◌∙◌, ℕ, List, [], ◌++◌, take, None, Some, Ok, ap, refl, arith, length-append}
use Rattle.std.proofs.lemmas.List.{length-take-le}
use Rattle.gw_link.proofs.PieceLemmas.{Gives-more, Gives-nothing}
use Rattle.gw_lists.proofs.Beginnings.{begins_with-self, begins_with-trans}
use Rattle.gw_admin.specs.Answering.{place_of}
use Rattle.gw_admin.specs.declared.conn.Flow.TheVariants.{More, Ended}
use Rattle.gw_admin.proofs.Causes.{nothing_then, on_err, risen_then}
use Rattle.gw_admin.proofs.Linking.{empty_size, few_still, open_still, some_bytes, turned_kept, turned_open}
use Rattle.gw_link.proofs.KeptLemmas.{end_kept, gives_kept}
use Rattle.gw_admin.proofs.Turning.{broke_then, reads_on, still_open, turned_none, turned_then}
use Rattle.gw_admin.proofs.serve.pieces.Goals as goal

pub pieces-init : goal.pieces-init
pieces-init g c = record {
  turned = ([], (Gives-nothing _, turned_none (place_of g.N.HubName.doors g.N.HubName.controller) c.args.conn.now _ [] [] _ c.requires.reading, refl));
  few = omega arith;
  serving = c.requires.serving;
  unfinished = c.requires.unfinished;
  counts = record { refused = refl; ahead = refl };
  link_later = omega arith;
  later = begins_with-self _;
  book = refl;
  fixed = refl;
}

pub pieces-preserved : goal.pieces-preserved
pieces-preserved g c =
    let p = place_of g.N.HubName.doors g.N.HubName.controller in
    let i = c.pieces.invariant in
    let bytes : List ℕ = i.turned.0 in
    let piece : List ℕ = take c.in-Ok.size c.read.new.buf in
    let so = c.in_ok-take.ensures in
    let size = length-take-le c.in-Ok.size c.read.new.buf c.in-Ok.ensures.within in
    let t = turned_kept p c.pieces.conn _ bytes [] _ _ _ None i.turned.1.1 c.in-Ok.ensures.unwritten in
    let u = turned_then p c.pieces.conn c.take.new.self _ _ bytes (bytes ++ piece) [] _ _ _ (Some More) t (rw c.in-More.is at (so.turned bytes ([] ++ t.more) (reads_on p c.pieces.conn _ bytes [] _ _ t))) in
    let few = few_still _ (bytes ++ piece) _ u.flows.1 u.flows.0 in
    record {
      turned = (bytes ++ piece, (gives_kept _ _ _ (bytes ++ piece) (Gives-more _ _ _ bytes piece i.turned.1.0 c.in-Ok.ensures.gives) so.unread, turned_open p c.take.new.self _ _ (bytes ++ piece) [] _ _ u, omega (arith, i.turned.1.2, size, length-append bytes piece)));
      few = omega (arith, i.turned.1.2, size, few, length-append bytes piece);
      serving = so.serving (ap Ok c.in-More.is);
      unfinished = so.over ∙ open_still _ (bytes ++ piece) _ u.flows.1 u.flows.0;
      counts = nothing_then _ _ _ i.counts so.counts;
      link_later = omega (arith, i.link_later, c.read.ensures.counts.later, so.link_later);
      later = begins_with-trans _ _ _ i.later so.later;
      book = so.book ∙ i.book;
      fixed = so.fixed ∙ i.fixed;
    }

pub returns-in-Err-clause-stopped : goal.returns-in-Err-clause-stopped
returns-in-Err-clause-stopped g c =
    let p = place_of g.N.HubName.doors g.N.HubName.controller in
    let i = c.pieces.invariant in
    let bytes : List ℕ = i.turned.0 in
    let t = turned_kept p c.pieces.conn _ bytes [] _ _ _ None i.turned.1.1 c.in-Err.ensures.unwritten in
    record {
      bytes = bytes;
      taken = gives_kept _ _ _ bytes i.turned.1.0 c.in-Err.ensures.kept;
      few = omega (arith, i.turned.1.2, i.few);
      broke = broke_then p c.pieces.conn c.pieces.conn _ bytes bytes [] _ _ _ t (still_open p c.pieces.conn bytes ([] ++ t.more) _ (reads_on p c.pieces.conn _ bytes [] _ _ t));
    }

pub returns-in-Err-clause-cause : goal.returns-in-Err-clause-cause
returns-in-Err-clause-cause g c =
    record { counts = c.pieces.invariant.counts; risen = risen_then _ _ _ c.pieces.invariant.link_later c.in-Err.ensures.counts.failed }

pub returns-in_err-take-clause-stopped : goal.returns-in_err-take-clause-stopped
returns-in_err-take-clause-stopped g c = on_err c.from_residual.result (
    let p = place_of g.N.HubName.doors g.N.HubName.controller in
    let i = c.pieces.invariant in
    let bytes : List ℕ = i.turned.0 in
    let piece : List ℕ = take c.in-Ok.size c.read.new.buf in
    let size = length-take-le c.in-Ok.size c.read.new.buf c.in-Ok.ensures.within in
    let t = turned_kept p c.pieces.conn _ bytes [] _ _ _ None i.turned.1.1 c.in-Ok.ensures.unwritten in
    record {
      bytes = bytes ++ piece;
      taken = gives_kept _ _ _ (bytes ++ piece) (Gives-more _ _ _ bytes piece i.turned.1.0 c.in-Ok.ensures.gives) c.in_err-take.ensures.unread;
      few = omega (arith, i.turned.1.2, size, i.few, c.in-Ok.ensures.within, c.read.auto.buf, length-append bytes piece);
      broke = broke_then p c.pieces.conn c.take.new.self _ bytes (bytes ++ piece) [] _ _ _ t (c.in_err-take.ensures.broke bytes ([] ++ t.more) (reads_on p c.pieces.conn _ bytes [] _ _ t));
    })

pub returns-in-Ended-clause-ran : goal.returns-in-Ended-clause-ran
returns-in-Ended-clause-ran g c =
    let p = place_of g.N.HubName.doors g.N.HubName.controller in
    let i = c.pieces.invariant in
    let bytes : List ℕ = i.turned.0 in
    let piece : List ℕ = take c.in-Ok.size c.read.new.buf in
    let size = length-take-le c.in-Ok.size c.read.new.buf c.in-Ok.ensures.within in
    let t = turned_kept p c.pieces.conn _ bytes [] _ _ _ None i.turned.1.1 c.in-Ok.ensures.unwritten in
    let gives = Gives-more _ _ _ bytes piece i.turned.1.0 c.in-Ok.ensures.gives in
    record {
      bytes = bytes ++ piece;
      over = _;
      taken = gives_kept _ _ _ (bytes ++ piece) gives c.in_ok-take.ensures.unread;
      few = omega (arith, i.turned.1.2, size, i.few, c.in-Ok.ensures.within, c.read.auto.buf, length-append bytes piece);
      came = λ over. end_kept _ _ _ (bytes ++ piece) gives (c.in-Ok.ensures.ends (ap Ok (empty_size c.in-Ok.size c.read.new.buf c.in-Ok.ensures.within over))) c.in_ok-take.ensures.unread;
      turned = turned_then p c.pieces.conn c.take.new.self _ _ bytes (bytes ++ piece) [] _ _ _ (Some (Ended c.in-Ended.why)) t
          (rw c.in-Ended.is at (c.in_ok-take.ensures.turned bytes ([] ++ t.more) (reads_on p c.pieces.conn _ bytes [] _ _ t)));
    }

pub pieces-smaller : goal.pieces-smaller
pieces-smaller g c =
    let p = place_of g.N.HubName.doors g.N.HubName.controller in
    let i = c.pieces.invariant in
    let bytes : List ℕ = i.turned.0 in
    let piece : List ℕ = take c.in-Ok.size c.read.new.buf in
    let so = c.in_ok-take.ensures in
    let size = length-take-le c.in-Ok.size c.read.new.buf c.in-Ok.ensures.within in
    let t = turned_kept p c.pieces.conn _ bytes [] _ _ _ None i.turned.1.1 c.in-Ok.ensures.unwritten in
    let u = rw c.in-More.is at (so.turned bytes ([] ++ t.more) (reads_on p c.pieces.conn _ bytes [] _ _ t)) in
    omega (arith, some_bytes piece (open_still _ (bytes ++ piece) _ u.flows.1 u.flows.0), size, i.few)
