-- How often a call of a keeper may search the network of its book.
use Rattle.std.specs.Prelude.{◌≡◌, ◌≤◌, ◌+◌, ℕ, ⊤, List, [], ◌∷◌, Result, Ok, Err, OnOk}
use Rattle.sqlite_trees.specs.declared.store.Store.{Ghosts}
use Rattle.sqlite.specs.Tree.{Trees}
use Rattle.sqlite.specs.Held.{state}
use Rattle.sqlite.specs.State.{HasCleanDisk}
use Rattle.ob_base.specs.declared.stop.Stop.{Stop}
use Rattle.ob_state.specs.State.{BookState}
use Rattle.ob_state.specs.Searches.{all_searches}
use Rattle.ob_book.specs.Acts.{ActState, Referenced, act}
use Rattle.ob_book.specs.Searches.{Bound, searches_of_act, searches_of_replay}
use Rattle.ob_sql_rows.specs.Schema.{book_schema}
use Rattle.ob_sql_read.specs.Listing.{filed_of}
use Rattle.ob_sql_read.specs.Moves.{commands_of}
use Rattle.ob_record.specs.Reached.{IsReached}
use Rattle.ob_store.specs.declared.named.Named.{Named}
use Rattle.ob_store.specs.Acting.{under}
use Rattle.ob_store.specs.Crashing.{Loads}
use Rattle.ob_store.specs.Finding.{IsBookOf}
use Rattle.ob_store.specs.Keeping.{KeeperValue, KeepsBook}
use Rattle.ob_store.specs.Leading.{IsNewBook}
use Rattle.ob_store.specs.Loading.{trees_in}
use Rattle.ob_store.specs.Whole.{Line, after_line}

-- once for a new book of the heading's period, and for each command at most as often as its change may cost
abbrev pub IsSearchedBy : Bound → Named → ℕ → Type 0
IsSearchedBy bound it n =
    (first : BookState) × IsNewBook it.heading first × (n ≤ 1 + all_searches bound first (commands_of (filed_of it.commands.items)))

-- no more often than a replay of the book may whose period and commands the tables name
abbrev pub IsSearchedFor : Bound → Trees → ℕ → Type 0
IsSearchedFor bound trees n = (b : ActState) → IsBookOf trees b → n ≤ searches_of_replay bound b

-- for a line of a list: as for its command
abbrev pub searches_of_line : Bound → ActState → Line → ℕ
searches_of_line bound b (Ok said) = searches_of_act bound b (under said.0 said.1)
searches_of_line bound b (Err refusal) = 0

-- for lines one after another
abbrev pub searches_of_lines : Bound → ActState → List Line → ℕ
searches_of_lines bound b [] = 0
searches_of_lines bound b (line ∷ list) = searches_of_line bound b line + searches_of_lines bound (after_line b line) list

-- a replay of the book after a command costs what one before it did and the command
abbrev pub ReplayGrows : Type 0
ReplayGrows =
    (bound : Bound) (b : ActState) (a : Referenced) → IsReached b
    → searches_of_replay bound (act b a) ≡ searches_of_replay bound b + searches_of_act bound b a

module _ {S : Type 0} (g : Ghosts S) where
  -- for a load: of the tables of version 2 as for a replay of their book; and where it is stopped not at all, as far as the keeper's
  -- book shows
  abbrev pub SearchesOfLoad : Bound → KeeperValue S → KeeperValue S → Result ⊤ Stop → Type 0
  SearchesOfLoad bound old new (Ok done) =
      HasCleanDisk (state g new.conn) → old.conn.schema ≡ book_schema → IsSearchedFor bound (trees_in g old.conn) new.searches
  SearchesOfLoad bound old new (Err stop) = new.searches ≤ old.searches

  -- so a load of a book that the store kept costs no more than a replay of it
  abbrev pub LoadsAsReplayed : Type 0
  LoadsAsReplayed =
      (bound : Bound) (old new : KeeperValue S) (result : Result ⊤ Stop) → Loads g old new result → SearchesOfLoad bound old new result
      → HasCleanDisk (state g new.conn) → (b : ActState) → KeepsBook (state g old.conn) b
      → OnOk result (new.searches ≤ searches_of_replay bound b)
