-- What a book keeps beside its state.
use Rattle.std.specs.Prelude.{◌≡◌, ℕ, List}
use Rattle.ob_sweep.specs.declared.Run.{Run}
use Rattle.ob_time.specs.Calendar.{day_count}
use Rattle.ob_post.specs.Keys.{IsKey}
use Rattle.ob_post.specs.Postings.{PostedAmounts, amount_of}
use Rattle.ob_post.specs.Postings as postings
use Rattle.ob_post.specs.declared.Dim.{Dim}
use Rattle.ob_state.specs.State.{BookState}
use Rattle.ob_state.specs.States.{AreRunsOf}
use Rattle.ob_state.specs.Amounts.{amount}

-- the postings are the state's customer-seconds without supply, by cause, feeder and day
pub record ArePosted (b : BookState) (posted : PostedAmounts) : Type 0 where
  pub days : postings.day_count posted ≡ day_count b.period
  pub amounts : (dim : Dim) (key : ℕ) → IsKey (day_count b.period) dim key → amount_of posted dim key ≡ amount b dim key

-- the runs and the amounts that a book keeps beside its state are the state's
pub record AreKept (b : BookState) (lists : List (List Run)) (amounts : PostedAmounts) : Type 0 where
  pub runs : AreRunsOf b lists
  pub posted : ArePosted b amounts
