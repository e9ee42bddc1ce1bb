-- Which figures of a book's feeders, sections, months, days and causes add up to those of the whole book.
use Rattle.std.specs.Prelude.{◌≡◌, ◌<◌, ℕ, slice_index, IsSome, IsTrue}
use Rattle.std.specs.List.{All, sum_by}
use Rattle.ob_net.specs.Network.{IsNetwork, home_feeder}
use Rattle.ob_time.specs.Calendar.{IsCalendar}
use Rattle.ob_index.specs.declared.figures.Which.{Which}
use Rattle.ob_state.specs.State.{BookState, has_cause}
use Rattle.ob_selections.specs.Listed.{Keyed, selections_by}
use Rattle.ob_selections.specs.Selections.{figures_of_selection, whole}
use Rattle.ob_selections.specs.declared.figures.Figures.{Figures}
use Rattle.ob_selections.specs.declared.selection.By.{By}
use Rattle.ob_selections.specs.declared.selection.By.TheVariants.{Feeder, Month, Day, Cause, Section}
use Rattle.ob_selections.specs.declared.selection.Selection.{Selection}

-- the selection under a key, over the interruptions of a set, where so many seconds are the longest momentary one
abbrev pub among : Which → ℕ → Keyed → Selection
among which longest keyed = record keyed.1 { which = which; longest = longest }

-- what a number of the figures comes to over all feeders, all sections, all months, all days or all causes
abbrev pub sum_over : BookState → By → Which → ℕ → (Figures → ℕ) → ℕ
sum_over b by which longest number = sum_by (λ keyed. number (figures_of_selection b (among which longest keyed))) (selections_by b by longest)

-- it comes to that of the whole book
abbrev pub AddsUp : BookState → By → Which → ℕ → (Figures → ℕ) → Type 0
AddsUp b by which longest number = sum_over b by which longest number ≡ number (figures_of_selection b (whole b which longest))

-- each has what the whole book has
abbrev pub IsSameForEach : BookState → By → Which → ℕ → (Figures → ℕ) → Type 0
IsSameForEach b by which longest number =
    All (λ keyed. number (figures_of_selection b (among which longest keyed)) ≡ number (figures_of_selection b (whole b which longest))) (selections_by b by longest)

-- CI, CSI and MI add up
pub record InterruptionsAddUp (b : BookState) (by : By) (which : Which) (longest : ℕ) : Type 0 where
  pub sustained : AddsUp b by which longest (λ k. k.counts.ci)
  pub seconds : AddsUp b by which longest (λ k. k.counts.csi)
  pub momentary : AddsUp b by which longest (λ k. k.counts.mi)

-- and so do CN, CN_1 to CN_10 and the customer-seconds in service S; P is that of the whole book
pub record CustomersAddUp (b : BookState) (by : By) (which : Which) (longest : ℕ) : Type 0 where
  pub interruptions : InterruptionsAddUp b by which longest
  pub customers : AddsUp b by which longest (λ k. k.counts.cn)
  pub each : (j : ℕ) → j < 10 → AddsUp b by which longest (λ k. slice_index k.counts.cn_n j)
  pub served : AddsUp b by which longest (λ k. k.served)
  pub length : IsSameForEach b by which longest (λ k. k.length)

-- CI, CSI, MI, S and P add up
pub record PeriodsAddUp (b : BookState) (by : By) (which : Which) (longest : ℕ) : Type 0 where
  pub interruptions : InterruptionsAddUp b by which longest
  pub served : AddsUp b by which longest (λ k. k.served)
  pub length : AddsUp b by which longest (λ k. k.length)

-- CI, CSI and MI add up; S and P are those of the whole book
pub record PartsAddUp (b : BookState) (by : By) (which : Which) (longest : ℕ) : Type 0 where
  pub interruptions : InterruptionsAddUp b by which longest
  pub served : IsSameForEach b by which longest (λ k. k.served)
  pub length : IsSameForEach b by which longest (λ k. k.length)

-- each customer is of a section
abbrev pub HaveSections : BookState → Type 0
HaveSections b = All (λ c. IsSome (home_feeder b.network c.section)) b.customers

-- cause 0 has a name, and so has the cause of each entry
pub record HaveCauseNames (b : BookState) : Type 0 where
  pub unassigned : IsTrue (has_cause b.causes 0)
  pub entries : All (λ e. (e.cause < 64) × IsTrue (has_cause b.causes e.cause)) b.entries

-- over all feeders, where each customer is of a section
abbrev pub FeedersAddUp : Type 0
FeedersAddUp = (b : BookState) (which : Which) (longest : ℕ) → IsNetwork b.network → HaveSections b → CustomersAddUp b Feeder which longest

-- over all sections, where each customer is of one
abbrev pub SectionsAddUp : Type 0
SectionsAddUp = (b : BookState) (which : Which) (longest : ℕ) → HaveSections b → CustomersAddUp b Section which longest

-- over all months
abbrev pub MonthsAddUp : Type 0
MonthsAddUp = (b : BookState) (which : Which) (longest : ℕ) → IsCalendar b.period → PeriodsAddUp b Month which longest

-- over all days
abbrev pub DaysAddUp : Type 0
DaysAddUp = (b : BookState) (which : Which) (longest : ℕ) → IsCalendar b.period → PartsAddUp b Day which longest

-- over all causes, where each that an interruption may have has a name; one without a name has no line
abbrev pub CausesAddUp : Type 0
CausesAddUp = (b : BookState) (which : Which) (longest : ℕ) → HaveCauseNames b → PartsAddUp b Cause which longest
