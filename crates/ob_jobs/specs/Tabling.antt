-- The annual table of a keeper's book.
use Rattle.std.specs.Prelude.{◌≡◌, ℕ, ⊤, List, [], Option, Some, None, IsSome, Result, Ok, Err}
use Rattle.ob_base.specs.declared.stop.Stop.{Stop}
use Rattle.ob_base.specs.declared.stop.Stop.TheVariants.{Refused, Fault}
use Rattle.ob_base.specs.declared.stop.Fault.TheVariants.{OutOfMemory, Reopen}
use Rattle.ob_state.specs.State.{BookState}
use Rattle.ob_book.specs.Views.{annual_table_of_book}
use Rattle.ob_selections.specs.IndexText.{indices_text_of}
use Rattle.ob_selections.specs.declared.selection.By.{By}

-- the annual table of a book, where there is one
abbrev pub table_text : Option BookState → List ℕ
table_text None = []
table_text (Some book) = annual_table_of_book book

-- the indices of a book by feeder, month, day, cause or section, where there is one
abbrev pub indices_text : By → ℕ → Option BookState → List ℕ
indices_text by longest None = []
indices_text by longest (Some book) = indices_text_of book by longest

-- there is a book to print the table of; or why none is printed
abbrev pub HasTable : Option BookState → Result ⊤ Stop → Type 0
HasTable book (Ok done) = IsSome book
HasTable book (Err (Refused refusal)) = ⊥
HasTable book (Err (Fault OutOfMemory)) = IsSome book
HasTable book (Err (Fault Reopen)) = book ≡ None
HasTable book (Err (Fault fault)) = ⊥
