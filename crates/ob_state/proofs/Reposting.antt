-- One section's runs posted anew, in a state and in the one that a command leads to.
use Rattle.std.proofs.Common.{◌≡◌, ◌∙◌, sym, ap, ℕ, ◌+◌, List, length, Some, Result}
use Rattle.std.specs.Result.{OnOk}
use Rattle.ob_net.specs.Network.{home_feeder}
use Rattle.ob_base.specs.declared.stop.Stop.{Stop}
use Rattle.ob_sheet.specs.declared.Entry.{Entry}
use Rattle.ob_sweep.specs.Timeline.{runs_at}
use Rattle.ob_sweep.specs.declared.Run.{Run}
use Rattle.ob_time.specs.Calendar.{day_count, days_of}
use Rattle.ob_post.specs.SectionAmounts.{amount_of_runs}
use Rattle.ob_post.specs.SectionLaws.{AreOnSections, ByRuns}
use Rattle.ob_post.specs.declared.Dim.{Dim}
use Rattle.ob_post.specs.declared.posting.Posting.{Posting}
use Rattle.ob_state.specs.State.{BookState}
use Rattle.ob_state.specs.States.{AreRunsOf}
use Rattle.ob_state.specs.Amounts.{amount}
use Rattle.ob_state.specs.Retimings.{runs_in}
use Rattle.ob_post.specs.Balances.{together, Balances}
use Rattle.ob_state.specs.Effects.{amount_of_first, with_entries}
use Rattle.ob_state.proofs.Amounting.{all_nodes, is_section}
use Rattle.ob_post.proofs.Balancing.{balances_as}
use Rattle.ob_state.proofs.NodeByNode.{one_section}

-- runs are taken from a posting, under the causes of some entries
abbrev pub Takes : BookState → List Entry → Posting → Posting → ℕ → List Run → Type 0
Takes b entries p q f runs =
    (old new : Dim → ℕ → ℕ) → Balances (day_count b.period) p old new → Balances (day_count b.period) q (together old (amount_of_runs entries b.customers (days_of b.period) f runs)) new

-- runs are given, unless memory is refused
abbrev pub Gives : BookState → List Entry → Result (Unit {0}) Stop → Posting → Posting → ℕ → List Run → Type 0
Gives b entries r p q f runs =
    (old new : Dim → ℕ → ℕ) → Balances (day_count b.period) p old new → OnOk r (Balances (day_count b.period) q old (together new (amount_of_runs entries b.customers (days_of b.period) f runs)))

-- old runs are taken and new ones given, each under the causes of their entries, unless memory is refused
abbrev pub Replaces : BookState → List Entry → List Entry → Result (Unit {0}) Stop → Posting → Posting → ℕ → List Run → List Run → Type 0
Replaces b was now r p q f before after =
    (old new : Dim → ℕ → ℕ) → Balances (day_count b.period) p old new
    → OnOk r (Balances (day_count b.period) q (together old (amount_of_runs was b.customers (days_of b.period) f before)) (together new (amount_of_runs now b.customers (days_of b.period) f after)))

-- runs are posted under other causes, unless memory is refused
abbrev pub Relabels : BookState → List Entry → List Entry → Result (Unit {0}) Stop → Posting → Posting → ℕ → List Run → Type 0
Relabels b was now r p q f runs =
    (old new : Dim → ℕ → ℕ) → Balances (day_count b.period) p old new
    → OnOk r (Balances (day_count b.period) q (together old (amount_of_runs was b.customers (days_of b.period) f runs)) (together new (amount_of_runs now b.customers (days_of b.period) f runs)))

-- all amounts, where entries are other ones
pub entries_balance : (p : Posting) (b : BookState) (entries : List Entry) (n : ℕ) → n ≡ length b.network.nodes → ByRuns → AreOnSections b.network b.customers
    → Balances (day_count b.period) p (amount_of_first b n) (amount_of_first (with_entries b entries) n) → Balances (day_count b.period) p (amount b) (amount (with_entries b entries))
entries_balance p b entries n e by_runs ok h =
    balances_as (day_count b.period) p (amount_of_first b n) (amount_of_first (with_entries b entries) n) (amount b) (amount (with_entries b entries))
    (λ dim key. all_nodes b by_runs ok dim key ∙ ap (λ m. amount_of_first b m dim key) (sym e))
    (λ dim key. all_nodes (with_entries b entries) by_runs ok dim key ∙ ap (λ m. amount_of_first (with_entries b entries) m dim key) (sym e))
    h

-- a section where entries are other ones, with the runs that it has then
pub changed_section : (p : Posting) (b : BookState) (entries : List Entry) (timeline : List (List Run)) (v f : ℕ) (old new : List Run)
    → AreRunsOf b timeline → home_feeder b.network v ≡ Some f → old ≡ runs_at timeline v → new ≡ runs_in (with_entries b entries) v
    → Balances (day_count b.period) p (together (amount_of_first b v) (amount_of_runs b.entries b.customers (days_of b.period) f old))
    (together (amount_of_first (with_entries b entries) v) (amount_of_runs entries b.customers (days_of b.period) f new))
    → Balances (day_count b.period) p (amount_of_first b (v + 1)) (amount_of_first (with_entries b entries) (v + 1))
changed_section p b entries timeline v f old new runs hb eo en h =
    one_section (day_count b.period) p b (with_entries b entries) v f old new hb hb (eo ∙ runs.defined v (is_section _ f hb)) en h
