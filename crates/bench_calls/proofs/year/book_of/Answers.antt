use Rattle.std.proofs.Common.{length, sym}
use Rattle.std.proofs.lemmas.Bool.{eqb-true}
use Rattle.bench_calls.proofs.Lines.{all_read, line_read}
use Rattle.bench_calls.proofs.year.book_of.Goals as goal

pub loop-preserved : goal.loop-preserved
loop-preserved c =
    line_read c.args.text.now c.loop.rest.now c.in-Some.line.now c.in-Some.more.now c.loop.book.state c.act.new.book.state c.in-Some.ensures c.in_ok-act.ensures c.loop.invariant

pub returns-then-is_empty : goal.returns-then-is_empty
returns-then-is_empty c =
    all_read c.args.text.now c.loop.rest.now c.loop.book.state (eqb-true (length c.loop.rest.now) 0 (sym c.if-is_empty.ensures)) c.loop.invariant
