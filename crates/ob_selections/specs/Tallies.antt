-- What one customer adds to the figures of a selection.
use Rattle.std.specs.Prelude.{ℕ, not, List, if◌then◌else◌}
use Rattle.std.specs.List.{filter, sum_by, count_by}
use Rattle.ob_base.specs.Seconds.{seconds}
use Rattle.ob_base.specs.declared.interval.Interval.{Interval}
use Rattle.ob_cust.specs.Blocks.{service_of}
use Rattle.ob_cust.specs.Service.{in_service}
use Rattle.ob_cust.specs.declared.Customer.{Customer}
use Rattle.ob_cust.specs.declared.SectionBlock.{SectionBlock}
use Rattle.ob_sweep.specs.declared.Run.{Run}
use Rattle.ob_index.specs.Interruptions.{duration}
use Rattle.ob_index.specs.Tallies.{parts_in_service}
use Rattle.ob_state.specs.State.{BookState}
use Rattle.ob_rows.specs.Rows.{customer_with}
use Rattle.ob_selections.specs.Selections.{days_of_selection, has_section, is_selected, lasts_longer, selected}
use Rattle.ob_selections.specs.declared.selection.Selection.{Selection}
use Rattle.ob_selections.specs.declared.figures.Tally.{Tally}

-- the tally of interruptions, where so many seconds are the longest momentary one, with so many seconds of service
abbrev pub tally : ℕ → List Interval → ℕ → Tally
tally longest is served = record {
  sustained = count_by (lasts_longer longest) is;
  seconds = sum_by duration (filter (lasts_longer longest) is);
  momentary = count_by (λ i. not (lasts_longer longest i)) is;
  served = served;
}

-- the seconds of the selection's days at which a customer is in service
abbrev pub service_on : BookState → Selection → Customer → ℕ
service_on b x c = count_by (in_service c) (seconds (days_of_selection b x).since (days_of_selection b x).until)

-- what a customer adds to the figures of a selection
abbrev pub tally_of : BookState → Selection → Customer → Tally
tally_of b x c = tally x.longest (selected b x c) (if has_section b x c.section then service_on b x c else 0)

-- a customer of a block
abbrev pub customer_of : SectionBlock → Customer
customer_of c = customer_with c.section (service_of c.block)

-- the same of a customer of a block of a section that is selected, by the outage intervals of the section
abbrev pub tally_by_runs : BookState → Selection → List Run → SectionBlock → Tally
tally_by_runs b x runs c = tally x.longest (filter (is_selected b x c.section) (parts_in_service (customer_of c) runs)) (service_on b x (customer_of c))
