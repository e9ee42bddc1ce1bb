use Rattle.std.proofs.Common.{◌-◌, ◌≤◌, ℕ, sym, subst}
use Rattle.ob_time.specs.Calendar.{end_second_of, first_second_of}
use Rattle.ob_sweep.specs.Windows.{window_searches}
use Rattle.ob_sweep.proofs.KeptOnly.{at_most_window}
use Rattle.ob_sweep.proofs.PartMore.{window_count}
use Rattle.ob_sweep.proofs.windowed.windowed_law.Goals as goal

pub returns-clause-window : goal.returns-clause-window
returns-clause-window c = λ net entries period change of_it is.
    subst (λ (n : ℕ). n ≤ window_searches net of_it entries (end_second_of period - 1))
    (sym (window_count net entries (first_second_of period) (end_second_of period) change of_it is))
    (at_most_window net of_it entries (end_second_of period - 1))
