-- The selections of a book by feeder, month, day, cause or section, each under its key.
use Rattle.std.specs.Prelude.{ℕ, ◌+◌, ◌-◌, ◌==◌, ◌||◌, Bool, not, List, Option, Some, None, codes, decimal, length, take, if◌then◌else◌}
use Rattle.std.specs.List.{filter_map, prefix_len, range_with_len}
use Rattle.std.specs.Option.{option_map}
use Rattle.std.specs.Str.{bytes_eq}
use Rattle.ob_net.specs.Network.{home_feeder}
use Rattle.ob_time.specs.Calendar.{day_count}
use Rattle.ob_index.specs.Table.{date_of}
use Rattle.ob_index.specs.declared.figures.Which.TheVariants.{All}
use Rattle.ob_state.specs.State.{BookState, cause_name_of}
use Rattle.ob_book.specs.Forecasts.{name_of_node}
use Rattle.ob_book.specs.Views as views
use Rattle.ob_selections.specs.Selections.{whole}
use Rattle.ob_selections.specs.declared.selection.By.{By}
use Rattle.ob_selections.specs.declared.selection.By.TheVariants.{Whole, Feeder, Month, Day, Cause, Section}
use Rattle.ob_selections.specs.declared.selection.Selection.{Selection}

-- a key, and the selection that has it
abbrev pub Keyed : Type 0
Keyed = List ℕ × Selection

-- the interruptions of the customers of a feeder, where some section has it
abbrev pub feeder_selection : BookState → ℕ → ℕ → Option Keyed
feeder_selection b longest feeder =
    if views.has_section b.network feeder then Some (decimal feeder, record (whole b All longest) { feeder = Some feeder }) else None

-- the interruptions of a cause, where one has the code
abbrev pub cause_selection : BookState → ℕ → ℕ → Option Keyed
cause_selection b longest code = option_map (λ name. (name, record (whole b All longest) { cause = Some code })) (cause_name_of b.causes code)

-- the interruptions of the customers of a section, where the node is one
abbrev pub section_selection : BookState → ℕ → ℕ → Option Keyed
section_selection b longest v =
    option_map (λ feeder. (name_of_node b v, record (whole b All longest) { section = Some v })) (home_feeder b.network v)

-- the month of a day, `YYYY-MM`
abbrev pub month_of : BookState → ℕ → List ℕ
month_of b day = take 7 (date_of b.period day)

-- two days are of one month
abbrev pub is_same_month : BookState → ℕ → ℕ → Bool
is_same_month b day other = bytes_eq (month_of b day) (month_of b other)

-- the day is the first one of its month in the period
abbrev pub begins_month : BookState → ℕ → Bool
begins_month b day = day == 0 || not (is_same_month b (day - 1) day)

-- the day after the last one of a day's month in the period
abbrev pub month_end : BookState → ℕ → ℕ
month_end b day = day + 1 + prefix_len (is_same_month b day) (range_with_len (day + 1) (day_count b.period - (day + 1)))

-- the interruptions that begin in the month that begins on a day, where one does
abbrev pub month_selection : BookState → ℕ → ℕ → Option Keyed
month_selection b longest day =
    if begins_month b day then Some (month_of b day, record (whole b All longest) { first = day; end = month_end b day }) else None

-- the interruptions that begin on a day, over the customers served of the whole period
abbrev pub day_selection : BookState → ℕ → ℕ → Option Keyed
day_selection b longest day = Some (date_of b.period day, record (whole b All longest) { day = Some day })

-- how many numbers there are to look at: of feeders, of days, of causes, of nodes
abbrev pub places_of : BookState → By → ℕ
places_of b Whole = 1
places_of b Feeder = 256
places_of b Month = day_count b.period
places_of b Day = day_count b.period
places_of b Cause = 64
places_of b Section = length b.network.nodes

-- the selection of a number, under its key, where there is one
abbrev pub selection_at : BookState → By → ℕ → ℕ → Option Keyed
selection_at b Whole longest n = Some (codes "whole", whole b All longest)
selection_at b Feeder longest n = feeder_selection b longest n
selection_at b Month longest n = month_selection b longest n
selection_at b Day longest n = day_selection b longest n
selection_at b Cause longest n = cause_selection b longest n
selection_at b Section longest n = section_selection b longest n

-- all selections, rising
abbrev pub selections_by : BookState → By → ℕ → List Keyed
selections_by b by longest = filter_map (selection_at b by longest) (range_with_len 0 (places_of b by))
