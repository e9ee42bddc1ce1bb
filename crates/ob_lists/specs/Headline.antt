-- What is shown of the book that there is after any list of calls, with crashes and openings between them.
use Rattle.std.specs.Prelude.{◌≡◌, ℕ, List, Contains, Option, Some, None, Result, Ok, Err}
use Rattle.ob_base.specs.declared.stop.Stop.{Stop}
use Rattle.ob_time.specs.Calendar.{day_count}
use Rattle.ob_post.specs.Keys.{IsKey}
use Rattle.ob_post.specs.declared.Dim.{Dim}
use Rattle.ob_index.specs.declared.figures.Which.{Which}
use Rattle.ob_book.specs.Acts.{ActState, Referenced}
use Rattle.ob_store.specs.Keepers.{Ghosts, Ties}
use Rattle.ob_store.specs.declared.keeper.Keeper.{Keeper}
use Rattle.ob_headline.specs.Headline.{IsHeadline}
use Rattle.ob_headline.specs.declared.figures.Shown.{Shown}
use Rattle.ob_lists.specs.Standing.{MayBe, Told, acknowledged}
use Rattle.ob_lists.specs.Going.{Holds, LoadsOne}

module _ {S T : Type 0} {g : Ghosts S} (b : ActState) (told : List Told) (k : Keeper S T g) (dim : Dim) (key : ℕ) (which : Which) where
  -- what is shown is the headline of one book, which the keeper has and its store keeps: a book to which the calls may have led from
  -- that at their beginning, such as a new one; it is of the same period, and has each command that was acknowledged
  pub record IsShownAfter (shown : Shown) : Type 0 where
    pub book : ActState
    pub may_be : MayBe b told book
    pub ties : Ties k book
    pub period : book.book.period ≡ b.book.period
    pub has : (a : Referenced) → Contains told (acknowledged a) → Holds book a
    pub headline : IsHeadline book dim key which shown

  -- The same where the book is loaded first, from an earlier state of the keeper. Nothing is shown where the period has no such key; or
  -- a load tells why, or memory was refused.
  abbrev pub LoadsAndShows : Keeper S T g → Result (Option Shown) Stop → Type 0
  LoadsAndShows old (Ok (Some shown)) = IsShownAfter shown
  LoadsAndShows old (Ok None) = ¬ (IsKey (day_count b.book.period) dim key)
  LoadsAndShows old (Err stop) = LoadsOne (MayBe b told) old k (Err stop)
