use Rattle.std.proofs.Common.{◌≡◌, None, Err, ap, rules}
use Rattle.std.specs.Prelude.{IsSome}
use Rattle.std.proofs.lemmas.Bool.{not-false, not-true}
use Rattle.ob_base.specs.declared.stop.Fault.TheVariants as faults
use Rattle.ob_stream.specs.Streams.{retries_left}
use Rattle.ob_import.proofs.Wholly.{bookless_of, input_no_store, memory_no_store, nothing_of, whole_of}
use Rattle.ob_import.proofs.whole.import_whole.Goals as goal
use Rattle.ob_store.specs.Keepers.{book_of}

pub returns : goal.returns
returns g c =
    let some : IsSome (book_of c.args.keeper.now) = search rules in
    let fits = c.in-Ok.ensures.whole (not-false _ c.if-not-gathered.false) in
    whole_of g.R.Read.remaining c.args.keeper.now c.import_lines.new.keeper c.args.reader.now c.gather.new.reader c.in-Ok.gathered.bytes.items c.import_lines.result some c.in-Ok.ensures.consumed fits.0 fits.1
    (retries_left c.gather.new.retries) (rw c.new-retries.ensures at (c.in-Ok.ensures.ends (not-false _ c.if-not-gathered.false))) c.import_lines.ensures

pub returns-in_default : goal.returns-in_default
returns-in_default g c =
    let some : IsSome (book_of c.args.keeper.now) = search rules in
    nothing_of g.R.Read.remaining c.args.keeper.now c.args.reader.now c.gather.new.reader faults.OutOfMemory _ some tt memory_no_store (ap Err c.nothing_added.ensures)
    (retries_left c.gather.new.retries) (rw c.new-retries.ensures at c.gather.ensures.tries)

pub returns-then-not-gathered : goal.returns-then-not-gathered
returns-then-not-gathered g c =
    let some : IsSome (book_of c.args.keeper.now) = search rules in
    nothing_of g.R.Read.remaining c.args.keeper.now c.args.reader.now c.gather.new.reader faults.Input _ some (c.in-Ok.ensures.cut (not-true _ c.if-not-gathered.true)) input_no_store (ap Err c.nothing_added-then-not-gathered.ensures)
    (retries_left c.gather.new.retries) (rw c.new-retries.ensures at c.in-Ok.ensures.tries)

pub returns-then-is_none : goal.returns-then-is_none
returns-then-is_none g c =
    let none : book_of c.args.keeper.now ≡ None = search rules in
    bookless_of g.R.Read.remaining c.args.keeper.now c.args.reader.now _ none c.fault_without_book.ensures
