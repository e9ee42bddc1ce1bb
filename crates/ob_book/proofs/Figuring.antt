-- What the indices of a state are counted from.
use Rattle.std.proofs.Common.{◌≡◌, ◌∙◌, sym, ap, subst, ℕ, List, Option}
use Rattle.ob_net.specs.Network.{Network}
use Rattle.ob_cust.specs.declared.Customer.{Customer}
use Rattle.ob_time.specs.Calendar.{Calendar, first_second_of, end_second_of}
use Rattle.ob_sweep.specs.Timeline.{AreRuns}
use Rattle.ob_sweep.specs.declared.Run.{Run}
use Rattle.ob_index.specs.Counts.{counts}
use Rattle.ob_index.specs.declared.figures.Which.{Which}
use Rattle.ob_state.specs.State.{BookState}
use Rattle.ob_state.specs.States.{AreRunsOf}
use Rattle.ob_book.specs.Views.{counts_of_book}

-- the runs of a state are those of its network over its period
pub runs_over : (b : BookState) (net : Network) (p : Calendar) (lists : List (List Run)) → net ≡ b.network → p ≡ b.period → AreRunsOf b lists
    → AreRuns net b.entries (first_second_of p) (end_second_of p) lists
runs_over b net p lists n q runs =
    subst (λ (m : Network). AreRuns m b.entries (first_second_of p) (end_second_of p) lists) (sym n)
    (subst (λ (c : Calendar). AreRuns b.network b.entries (first_second_of c) (end_second_of c) lists) (sym q) runs)

-- counts over the parts of a state are its own
pub same_counts : (b : BookState) (net : Network) (customers : List Customer) (p : Calendar) (marks : List (Option (List ℕ))) (which : Which)
    → net ≡ b.network → customers ≡ b.customers → p ≡ b.period → marks ≡ b.marks → counts net b.entries customers p marks which ≡ counts_of_book b which
same_counts b net customers p marks which n c q m =
    ap (λ (x : Network). counts x b.entries customers p marks which) n
    ∙ ap (λ (x : List Customer). counts b.network b.entries x p marks which) c
    ∙ ap (λ (x : Calendar). counts b.network b.entries b.customers x marks which) q
    ∙ ap (λ (x : List (Option (List ℕ))). counts b.network b.entries b.customers b.period x which) m
