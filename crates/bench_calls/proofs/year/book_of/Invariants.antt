use Rattle.bench_calls.proofs.Lines.{IsReadUpTo}
use Rattle.bench_calls.proofs.year.book_of.Given as goal

abbrev pub invariant-loop : goal.invariant-loop
invariant-loop l = IsReadUpTo l.text l.rest l.book.state
