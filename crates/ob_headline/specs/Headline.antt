-- What is shown of a book: sums of ones over seconds and customers, what each command moved, and the indices of IEEE Std 1366.
use Rattle.std.specs.Prelude.{◌≡◌, ◌↔◌, ◌≤◌, ◌-◌, ◌-ℤ◌, ◌&&◌, ⊤, ℕ, pos, Bool, List, length, Option, Some, None, IsTrue}
use Rattle.std.specs.List.{Contains, sum_by}
use Rattle.ob_base.specs.Seconds.{IsLongest, seconds}
use Rattle.ob_base.specs.declared.interval.Interval.{Interval}
use Rattle.ob_net.specs.Walk.{IsSupplied}
use Rattle.ob_sheet.specs.declared.Entry.{Entry}
use Rattle.ob_sheet.specs.Order.{before, through, upto}
use Rattle.ob_sheet.specs.Positions.{positions}
use Rattle.ob_sheet.specs.Supply.{is_deenergized}
use Rattle.ob_cust.specs.Service.{in_service}
use Rattle.ob_cust.specs.WithoutSupply.{customer_seconds, is_without_supply}
use Rattle.ob_cust.specs.declared.Customer.{Customer}
use Rattle.ob_sweep.specs.Cutters.{cuts_off}
use Rattle.ob_time.specs.Calendar.{day_count, end_second_of, first_second_of}
use Rattle.ob_time.specs.Dates.{day_text}
use Rattle.ob_time.specs.Period.{IsPeriodText}
use Rattle.ob_post.specs.CustomerSeconds.{has_key}
use Rattle.ob_post.specs.Keys.{IsKey, keys}
use Rattle.ob_post.specs.Moved.{delta_of}
use Rattle.ob_post.specs.declared.Dim.{Dim}
use Rattle.ob_index.specs.Counts.{period_length}
use Rattle.ob_index.specs.Indices.{AreIndices}
use Rattle.ob_index.specs.Interruptions.{interruptions}
use Rattle.ob_index.specs.declared.figures.Which.{Which}
use Rattle.ob_index.specs.declared.figures.Which.TheVariants.{All, Unmarked}
use Rattle.ob_json.specs.Indices.{indices_text}
use Rattle.ob_json.specs.Totals.{totals_text}
use Rattle.ob_state.specs.Amounts.{days_of_book}
use Rattle.ob_state.specs.State.{BookState}
use Rattle.ob_book.specs.Acts.{ActState, acts, book_at, reply_of, start}
use Rattle.ob_book.specs.MovedSums.{moved_by_first}
use Rattle.ob_book.specs.Views.{annual_table_of_book, counts_of_book, indices_of_book, service_of_book}
use Rattle.ob_headline.specs.declared.figures.Shown.{Shown}

-- at the second s, where these entries have acted, some walk of closed devices leads from the node to GRID, the source
abbrev pub HasPathUnder : BookState → List Entry → ℕ → ℕ → Type 0
HasPathUnder b set v s = IsSupplied b.network (positions b.network set s) v

-- the same where the kept entries up to that second have acted
abbrev pub HasPath : BookState → ℕ → ℕ → Type 0
HasPath b v s = HasPathUnder b (upto b.entries s) v s

-- the entry, a kept one of the second s, cuts the node off: there is such a walk before the entry, and none with it
abbrev pub CutsOff : BookState → ℕ → ℕ → Entry → Type 0
CutsOff b v s e = IsTrue e.kept × (e.second ≡ s) × HasPathUnder b (before b.entries e) v s × ¬ (HasPathUnder b (through b.entries e) v s)

-- the customer is in service at the second s, and there is no path from its section
abbrev pub IsInterrupted : BookState → Customer → ℕ → Type 0
IsInterrupted b c s = IsTrue (in_service c s) × ¬ (HasPath b c.section s)

-- the test of it
abbrev pub is_interrupted : BookState → Customer → ℕ → Bool
is_interrupted b c s = is_without_supply (is_deenergized b.network b.entries) c s

-- the seconds of the book's period
abbrev pub seconds_of : BookState → List ℕ
seconds_of b = seconds (first_second_of b.period) (end_second_of b.period)

-- one for each second of the period and each customer that is interrupted then
abbrev pub interrupted_seconds : BookState → ℕ
interrupted_seconds b = customer_seconds (is_interrupted b) (seconds_of b) b.customers

-- one for each of these that counts under the key of a dimension
abbrev pub interrupted_seconds_by : BookState → Dim → ℕ → ℕ
interrupted_seconds_by b dim key =
    customer_seconds (λ c s. is_interrupted b c s && has_key b.network b.entries (days_of_book b) dim key c s) (seconds_of b) b.customers

-- there is no book, or it keeps no amount under the key
abbrev pub HasNoAmount : Option BookState → Dim → ℕ → Type 0
HasNoAmount None dim key = ⊤
HasNoAmount (Some b) dim key = ¬ (IsKey (day_count b.period) dim key)

-- what is shown of a book and its accepted commands, for a key of a dimension and one of the two sets of interruptions
pub record IsHeadline (b : ActState) (dim : Dim) (key : ℕ) (which : Which) (shown : Shown) : Type 0 where
  -- the book is what its commands lead to, each accepted in its turn, from a new book of its period
  pub of_list : acts (start b.book.period) b.accepted ≡ b
  -- the period is the one that its first date, its number of days and its zone name: its days begin at midnights of the zone
  pub period : IsPeriodText (day_text b.book.period.first_day) (day_count b.book.period) b.book.period.zone b.book.period
  -- it keeps an amount under the key
  pub kept : IsKey (day_count b.book.period) dim key
  -- its tests hold exactly where there is no path, where a customer is in service and has none, and where an entry cuts a node off
  pub unsupplied : (v s : ℕ) → IsTrue (is_deenergized b.book.network b.book.entries v s) ↔ ¬ (HasPath b.book v s)
  pub interrupted : (c : Customer) (s : ℕ) → IsTrue (is_interrupted b.book c s) ↔ IsInterrupted b.book c s
  pub cuts : (v s : ℕ) (e : Entry) → IsTrue (cuts_off b.book.network b.book.entries v s e) ↔ CutsOff b.book v s e
  -- the amount is the sum of ones that count under the key, and the total the sum of all; it is the amounts of all keys together
  pub amount : shown.amount ≡ interrupted_seconds_by b.book dim key
  pub total : shown.total ≡ interrupted_seconds b.book
  pub parts : shown.total ≡ sum_by (interrupted_seconds_by b.book dim) (keys (day_count b.book.period) dim)
  -- each command moved by what its number records: the sum of ones after it less that before it; all together moved by what is shown
  pub recorded : (n : ℕ) → 1 ≤ n → n ≤ length b.accepted → delta_of (reply_of b n).moved dim key
      ≡ pos (interrupted_seconds_by (book_at b n) dim key) -ℤ pos (interrupted_seconds_by (book_at b (n - 1)) dim key)
  pub adds_up : delta_of (moved_by_first b (length b.accepted)) dim key ≡ pos shown.amount
  -- a customer's interruptions are exactly the longest intervals of the period in which it is interrupted
  pub longest : (c : Customer) (i : Interval) → Contains (interruptions b.book.network b.book.entries b.book.period c) i
      ↔ IsLongest (is_interrupted b.book c) (first_second_of b.book.period) (end_second_of b.book.period) i
  -- each index is its quotient, of the counts of these; and there is one number for it
  pub index : AreIndices (counts_of_book b.book which) (service_of_book b.book) (period_length b.book.period) shown.indices
  pub computed : shown.indices ≡ indices_of_book b.book which
  -- the texts are those of the same sums and the same indices
  pub totals_json : shown.totals_text ≡ totals_text (interrupted_seconds_by b.book) (day_count b.book.period) (interrupted_seconds b.book)
  pub indices_json : shown.indices_text ≡ indices_text (indices_of_book b.book All) (indices_of_book b.book Unmarked)
  pub table : shown.annual_table ≡ annual_table_of_book b.book
