-- The customer-seconds without supply of a state, and what an accepted command moves.
use Rattle.std.specs.Prelude.{ℕ, pos, ◌-ℤ◌, List}
use Rattle.ob_time.specs.Calendar.{first_second_of, end_second_of, days_of, day_count}
use Rattle.ob_post.specs.CustomerSeconds.{Days, customer_seconds_by}
use Rattle.ob_post.specs.Moved.{moves_by}
use Rattle.ob_post.specs.declared.Dim.{Dim}
use Rattle.ob_post.specs.declared.Moved.{Moved}
use Rattle.ob_state.specs.State.{BookState}

-- the seconds and the days of the book's period
abbrev pub days_of_book : BookState → Days
days_of_book b = record { first = first_second_of b.period; end = end_second_of b.period; days = days_of b.period }

-- the customer-seconds without supply of a state that count under a key of a dimension
abbrev pub amount : BookState → Dim → ℕ → ℕ
amount b dim key = customer_seconds_by b.network b.entries b.customers (days_of_book b) dim key

-- the amounts after a change less those before it: by cause, feeder and day and then by key, zeros left out
abbrev pub moves : BookState → BookState → List Moved
moves old new = moves_by (λ dim key. pos (amount new dim key) -ℤ pos (amount old dim key)) (day_count old.period)
