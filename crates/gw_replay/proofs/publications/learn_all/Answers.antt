-- A worker that learns.
use Rattle.std.proofs.Common.{◌≡◌, ◌∙◌, ◌<◌, List, refl, sym, subst, ap, length, arith}
use Rattle.std.proofs.lemmas.List.{length-map}
use Rattle.gw_snap.specs.Lists.{BeginsWith}
use Rattle.gw_store.specs.declared.event.Entry.{Entry}
use Rattle.gw_worker.specs.model.Workers.{Worker}
use Rattle.gw_replay.proofs.Keeping.{first_all, first_at, first_more, first_none, picks_same}
use Rattle.gw_replay.proofs.publications.learn_all.Goals as goal

pub workers-init : goal.workers-init
workers-init c = record {
  list = refl;
  book = refl;
  picks = refl;
  seen = λ list fixed have. first_none list c.args.note.now.list fixed c.args.note.now.book c.args.workers.now have;
}

pub learn-requires : goal.learn-requires
learn-requires c =
    let size : length c.workers.workers ≡ length c.args.workers.now
    = omega (arith, ap length c.workers.invariant.picks, length-map c.workers.workers (λ (v : Worker). v.books), length-map c.args.workers.now (λ (v : Worker). v.books)) in
    c.workers.invariant.book ∙ sym (first_at c.workers.place c.args.note.now.list c.requires.1.0 c.args.note.now.book c.workers.workers c.index-workers-place.result (omega (arith, size))
    (c.workers.invariant.seen c.requires.0 c.requires.1.0 c.requires.1.1)).book_is

pub workers-preserved : goal.workers-preserved
workers-preserved c =
    let n = c.workers.place in
    let d = c.index-workers-place.result in
    let w = c.learn.new.self in
    let size : length c.workers.workers ≡ length c.args.workers.now
    = omega (arith, ap length c.workers.invariant.picks, length-map c.workers.workers (λ (v : Worker). v.books), length-map c.args.workers.now (λ (v : Worker). v.books)) in
    let within : n < length c.workers.workers = omega (arith, size) in
    record {
      list = c.learn.ensures.list ∙ c.workers.invariant.list;
      book = c.learn.ensures.of ∙ c.workers.invariant.book;
      picks = picks_same c.workers.workers n d w c.learn.ensures.books ∙ c.workers.invariant.picks;
      seen = λ list fixed have.
          let before = c.workers.invariant.seen list fixed have in
          let of = first_at n c.args.note.now.list fixed c.args.note.now.book c.workers.workers d within before in
          first_more n c.args.note.now.list fixed c.args.note.now.book c.workers.workers w before (record {
            seen = subst (λ (l : List Entry). BeginsWith l w.pass.seen) c.workers.invariant.list c.learn.ensures.theirs;
            of = record { fixed_is = c.learn.ensures.fixed ∙ of.fixed_is; book_is = c.learn.ensures.book ∙ of.book_is };
          });
    }

pub returns-clause-seen : goal.returns-clause-seen
returns-clause-seen c = λ list fixed have.
    first_all c.workers.place c.args.note.now.list fixed c.args.note.now.book c.workers.workers
    (omega (arith, ap length c.workers.invariant.picks, length-map c.workers.workers (λ (v : Worker). v.books), length-map c.args.workers.now (λ (v : Worker). v.books)))
    (c.workers.invariant.seen list fixed have)
