-- References that stand once, and the states that accepted commands lead to.
use Rattle.std.specs.Prelude.{◌≡◌, ◌≢◌, ℕ, List, Some, map}
use Rattle.std.specs.declared.cmp.Ordering.{Ordering}
use Rattle.std.specs.Ordering.{nat_cmp}
use Rattle.std.specs.Cmp.Lexicographic.{slice_cmp}
use Rattle.std.specs.Borrow.{Bor}
use Rattle.std.specs.List.{AllPairs}
use Rattle.ob_time.specs.Calendar.{Calendar}
use Rattle.ob_state.specs.State.{BookState, empty_book}
use Rattle.ob_state.specs.Next.{next_all}
use Rattle.ob_book.specs.Acts.{Referenced, acts, start}
use Rattle.ob_sql_rows.specs.declared.table.Table.TheVariants.{Moved}
use Rattle.ob_record.specs.Tables.{moved_rows, tables_of}
use Rattle.ob_sql_read.specs.declared.filed.Filed.{Filed}
use Rattle.ob_sql_read.specs.Moves.{commands_of}

-- no reference stands twice
abbrev pub AreDistinct : List Referenced → Type 0
AreDistinct list = AllPairs (λ (a b : Referenced). a.reference ≢ b.reference) list

-- the references of commands
abbrev pub texts_of : List Filed → List (List ℕ)
texts_of list = map (λ (f : Filed). f.reference) list

-- the texts that a list of slices shows
abbrev pub shown_texts : List (Bor (List ℕ)) → List (List ℕ)
shown_texts list = map (λ (b : Bor (List ℕ)). b.now) list

-- the order of texts by their bytes
abbrev pub text_order : Bor (List ℕ) → Bor (List ℕ) → Ordering
text_order a b = slice_cmp nat_cmp a.now b.now

-- commands under references that stand once, each accepted in its turn, lead to the state of an act after act
abbrev pub ReachedByCommands : Type 0
ReachedByCommands =
    (p : Calendar) (list : List Referenced) (s : BookState) → AreDistinct list
    → next_all (empty_book p) (commands_of list) ≡ Some s → acts (start p) list ≡ record { book = s; accepted = list }

-- where acts accept the whole list, no reference stands twice, and each command was accepted in its turn
abbrev pub ActsAreAccepted : Type 0
ActsAreAccepted =
    (p : Calendar) (list : List Referenced) → (acts (start p) list).accepted ≡ list
    → AreDistinct list × (next_all (empty_book p) (commands_of list) ≡ Some (acts (start p) list).book)

-- and the rows of what its commands moved are those of the tables of its state
abbrev pub MovedIsOf : Type 0
MovedIsOf =
    (p : Calendar) (list : List Referenced) → (acts (start p) list).accepted ≡ list
    → moved_rows (empty_book p) 1 list ≡ tables_of (acts (start p) list) Moved
