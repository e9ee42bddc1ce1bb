-- What the figures of selections add up to.
use Rattle.std.specs.Prelude.{◌≡◌}
use Rattle.ob_index.specs.Counts.{period_length}
use Rattle.ob_index.specs.declared.figures.Which.{Which}
use Rattle.ob_state.specs.State.{BookState}
use Rattle.ob_book.specs.Views.{counts_of_book, service_of_book}
use Rattle.ob_selections.specs.Selections.{counts_of_selection, length_of_selection, service_of_selection, whole}

-- with 300 seconds as the longest momentary interruption, the figures of the whole are the book's own
pub record IsBooksOwn (b : BookState) (which : Which) : Type 0 where
  pub counts : counts_of_selection b (whole b which 300) ≡ counts_of_book b which
  pub service : service_of_selection b (whole b which 300) ≡ service_of_book b
  pub length : length_of_selection b (whole b which 300) ≡ period_length b.period

-- so it is of each state and of both sets
abbrev pub WholeIsBooksOwn : Type 0
WholeIsBooksOwn = (b : BookState) (which : Which) → IsBooksOwn b which
