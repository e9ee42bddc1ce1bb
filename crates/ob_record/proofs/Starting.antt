-- The states that a book of accepted commands can have, and the rows that a new one begins with.
use Rattle.std.proofs.Common.{◌≡◌, ◌∙◌, ℕ, ◌+◌, List, [], ◌∷◌, ◌++◌, None, if◌then◌else◌, map, refl, sym, ap, ap₂, subst, zero, suc, replicate, codes, length, fold, arith}
use Rattle.std.proofs.lemmas.List.Sums.{fold_push}
use Rattle.ob_time.specs.Calendar.{Calendar, day_count, first_second_of, end_second_of}
use Rattle.ob_time.specs.Dates.{day_text}
use Rattle.ob_time.specs.Period.{IsPeriodText}
use Rattle.ob_base.specs.Seconds.{seconds}
use Rattle.ob_post.specs.declared.Dim.{Dim}
use Rattle.ob_post.specs.Keys.{dim_number}
use Rattle.ob_post.proofs.Sums.{sum_of_zeros}
use Rattle.ob_state.specs.Amounts.{amount}
use Rattle.ob_state.specs.State.{BookState, empty_book}
use Rattle.ob_state.specs.Next.{next}
use Rattle.ob_book.specs.Acts.{ActState, PeriodStays, Referenced, StateIsOfCommands, act, acts, of_commands, start, take_on}
use Rattle.ob_sql_rows.specs.Rows.{Columns, cause_row, mark_row, posting_row}
use Rattle.ob_sql_rows.specs.declared.table.Table.TheVariants.{Meta, Cause, Node, Device, Life, Customer, Entry, Mark, Command, Moved, Posting}
use Rattle.ob_sql_write.specs.Amounts.{all_keys, amount_row}
use Rattle.ob_record.specs.Tables.{present}
use Rattle.ob_record.specs.Reached.{AcceptedIsReached, IsReached, ReachedCounts, ReachedIsOfCommands, StartHasFirstRows, StartIsReached}

pub start_is_reached : StartIsReached
start_is_reached p period = record { period = period; in_turn = refl }

pub accepted_is_reached : PeriodStays → AcceptedIsReached
accepted_is_reached stays b a h accepted =
    let same = stays b.book a.command in
    record {
      period = subst (λ (c : Calendar). IsPeriodText (day_text c.first_day) (day_count c) c.zone c) (sym same) h.period;
      in_turn =
          ap (λ c. acts (start c) (b.accepted ++ a ∷ [])) same ∙ fold_push act (start b.book.period) b.accepted a
          ∙ ap (λ s. act s a) h.in_turn ∙ ap (λ t. if t then take_on b a else b) accepted;
    }

-- ---- what accepted commands lead to

-- the state after accepted commands
abbrev pub state_after : BookState → List Referenced → BookState
state_after b cs = fold (λ (s : BookState) (a : Referenced). next s a.command) b cs

pub of_its_commands : StateIsOfCommands → ReachedIsOfCommands
of_its_commands law b h =
    sym h.in_turn ∙ law b.book.period b.accepted ∙ ap (λ (s : ActState). of_commands b.book.period s.accepted) h.in_turn

book_of : (s : ActState) (cs : List Referenced) → (fold take_on s cs).book ≡ state_after s.book cs
book_of s [] = refl
book_of s (a ∷ cs) = book_of (take_on s a) cs

-- the book is what its commands lead to
pub reached_book : StateIsOfCommands → (b : ActState) → IsReached b → b.book ≡ state_after (empty_book b.book.period) b.accepted
reached_book law b h = ap (λ (s : ActState). s.book) (of_its_commands law b h) ∙ book_of (start b.book.period) b.accepted

counted : (b : BookState) (cs : List Referenced) → (state_after b cs).accepted ≡ b.accepted + length cs
counted b [] = omega arith
counted b (a ∷ cs) = omega (arith, counted (next b a.command) cs)

-- it counts its commands
pub reached_count : StateIsOfCommands → ReachedCounts
reached_count law b h =
    let same = ap (λ (s : BookState). s.accepted) (reached_book law b h) in
    omega (arith, same, counted (empty_book b.book.period) b.accepted)

-- ---- the rows of a new book

-- places that hold nothing have no row
none_present : {X : Type 0} (row : ℕ → X → Columns) (n k : ℕ) → present row n (replicate k None) ≡ []
none_present row n zero = refl
none_present row n (suc k) = none_present row (n + 1) k

-- without customers each amount is 0
no_amount : (p : Calendar) (dim : Dim) (key : ℕ) → amount (empty_book p) dim key ≡ 0
no_amount p dim key = sum_of_zeros (seconds (first_second_of p) (end_second_of p))

same_amounts : (f g : Dim → ℕ → ℕ) → ((dim : Dim) (key : ℕ) → f dim key ≡ g dim key) → (ks : List (Dim × ℕ))
    → map (amount_row f) ks ≡ map (amount_row g) ks
same_amounts f g same [] = refl
same_amounts f g same (k ∷ ks) = ap₂ (λ r l. r ∷ l) (ap (posting_row (dim_number k.0) k.1) (same k.0 k.1)) (same_amounts f g same ks)

pub start_has_first_rows : StartHasFirstRows
start_has_first_rows p Meta = refl
start_has_first_rows p Cause = ap (λ l. cause_row 0 (codes "UNASSIGNED") ∷ l) (none_present cause_row 1 63)
start_has_first_rows p Node = refl
start_has_first_rows p Device = refl
start_has_first_rows p Life = refl
start_has_first_rows p Customer = refl
start_has_first_rows p Entry = refl
start_has_first_rows p Mark = none_present mark_row 0 (day_count p)
start_has_first_rows p Command = refl
start_has_first_rows p Moved = refl
start_has_first_rows p Posting = same_amounts (amount (empty_book p)) (λ dim key. 0) (no_amount p) (all_keys (day_count p))
