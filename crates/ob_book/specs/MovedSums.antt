-- What accepted commands moved together, which adds up to what is posted.
use Rattle.std.specs.Prelude.{◌≡◌, ℕ, pos, List, length}
use Rattle.std.specs.List.{flat_map, range_with_len}
use Rattle.ob_time.specs.Calendar.{Calendar, day_count}
use Rattle.ob_post.specs.declared.Dim.{Dim}
use Rattle.ob_post.specs.declared.Moved.{Moved}
use Rattle.ob_post.specs.Keys.{IsKey}
use Rattle.ob_post.specs.Moved.{delta_of}
use Rattle.ob_post.specs.Postings.{PostedAmounts, amount_of}
use Rattle.ob_state.specs.Amounts.{amount}
use Rattle.ob_book.specs.Acts.{ActState, Referenced, acts, book_at, reply_of, start}
use Rattle.ob_book.specs.Books.{ArePosted}

-- the rows that the accepted commands 1 to n moved, one command after another
abbrev pub moved_by_first : ActState → ℕ → List Moved
moved_by_first b n = flat_map (λ k. (reply_of b k).moved) (range_with_len 1 n)

-- whatever list of commands was sent: under each key, what the accepted commands 1 to n moved adds up to the customer-seconds
-- without supply of the book after them
abbrev pub MovesAddUp : Type 0
MovesAddUp =
    (p : Calendar) (list : List Referenced) (n : ℕ) → let b = acts (start p) list in (dim : Dim) (key : ℕ)
    → IsKey (day_count p) dim key → delta_of (moved_by_first b n) dim key ≡ pos (amount (book_at b n) dim key)

-- under each key, what all accepted commands moved adds up to what is posted
abbrev pub MovesAddUpToPostings : Type 0
MovesAddUpToPostings =
    (p : Calendar) (list : List Referenced) (posted : PostedAmounts) → let b = acts (start p) list in ArePosted b.book posted
    → (dim : Dim) (key : ℕ) → IsKey (day_count p) dim key → delta_of (moved_by_first b (length b.accepted)) dim key ≡ pos (amount_of posted dim key)
