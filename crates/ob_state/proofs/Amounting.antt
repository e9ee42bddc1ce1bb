-- The amounts of a state as those of its nodes.
use Rattle.std.proofs.Common.{◌≡◌, ◌∙◌, sym, ap₂, subst, refl, ℕ, zero, suc, ◌<◌, ◌≤◌, List, [], ◌∷◌, ◌++◌, length, Option, Some, None, IsSome, slice_get, arith}
use Rattle.std.specs.List.{All}
use Rattle.std.specs.Option.{option_and_then, IfSome}
use Rattle.std.proofs.lemmas.List.Elements.{All-head, All-tail}
use Rattle.ob_net.specs.declared.net.Node.{Node}
use Rattle.ob_net.specs.Network.{Network, IsNetwork, HasFeederOrNone, home_feeder}
use Rattle.ob_cust.specs.declared.Customer.{Customer}
use Rattle.ob_cust.specs.declared.TheConstants.{MOST_CUSTOMERS}
use Rattle.ob_sweep.specs.declared.Run.{Run}
use Rattle.ob_sweep.specs.Timeline.{runs_at}
use Rattle.ob_time.specs.Calendar.{IsCalendar, days_of}
use Rattle.ob_post.specs.SectionAmounts.{amount_of_runs}
use Rattle.ob_state.specs.States.{AreRunsOf}
use Rattle.ob_post.specs.MoveLaws.{AreSmall}
use Rattle.ob_post.specs.SectionLaws.{AreOnSections, ByRuns, OneCustomer}
use Rattle.ob_post.specs.TotalLaws.{AmountsAreSmall}
use Rattle.ob_post.specs.declared.Dim.{Dim}
use Rattle.ob_state.specs.State.{BookState}
use Rattle.ob_state.specs.Amounts.{amount, days_of_book}
use Rattle.ob_state.specs.Effects.{amount_of_customer, amount_of_first}

-- amounts are small
pub small : (b : BookState) → AmountsAreSmall → IsCalendar b.period → length b.customers ≤ MOST_CUSTOMERS → AreSmall (amount b)
small b law cal few dim key = law b.network b.entries b.customers (days_of_book b) dim key few cal.short

-- all amounts are those of the nodes
pub all_nodes : (b : BookState) → ByRuns → AreOnSections b.network b.customers → (dim : Dim) (key : ℕ) → amount b dim key ≡ amount_of_first b (length b.network.nodes) dim key
all_nodes b law ok dim key = law b.network b.entries b.customers (days_of_book b) dim key ok

-- ---- nodes
pub get-before : {X : Type 0} (xs ys : List X) (v : ℕ) → v < length xs → slice_get (xs ++ ys) v ≡ slice_get xs v
get-before [] ys v h = absurd (omega (arith, h))
get-before (x ∷ xs) ys zero h = refl
get-before (x ∷ xs) ys (suc v) h = get-before xs ys v (omega (arith, h))

-- ---- home feeders
some_feeder : (o : Option ℕ) (f : ℕ) → IfSome o (λ feeder. (1 ≤ feeder) × (feeder ≤ 255)) → o ≡ Some f → 1 ≤ f
some_feeder None f h e = cc
some_feeder (Some g) f h e = let same : g ≡ f = cc in let l = h.0 in omega arith

feeder_in : (nodes : List Node) (v f : ℕ) → All HasFeederOrNone nodes → option_and_then (λ (n : Node). n.feeder) (slice_get nodes v) ≡ Some f → 1 ≤ f
feeder_in [] v f h e = cc
feeder_in (x ∷ xs) zero f h e = some_feeder x.feeder f (All-head HasFeederOrNone x xs h) e
feeder_in (x ∷ xs) (suc v) f h e = feeder_in xs v f (All-tail HasFeederOrNone x xs h) e

-- a section's home feeder is numbered from 1
pub feeder_from_one : (net : Network) (v f : ℕ) → IsNetwork net → home_feeder net v ≡ Some f → 1 ≤ f
feeder_from_one net v f ok e = feeder_in net.nodes v f ok.feeders e

pub is_section : (o : Option ℕ) (f : ℕ) → o ≡ Some f → IsSome o
is_section o f e = subst IsSome (sym e) refl

-- ---- one customer
-- what a customer would have, from a roll of it alone and its section's runs
pub one_customer : (b : BookState) (c : Customer) (timeline : List (List Run)) (f : ℕ) (roll : List Customer) (runs : List Run) (dim : Dim) (key : ℕ) → OneCustomer → AreRunsOf b timeline
    → home_feeder b.network c.section ≡ Some f → roll ≡ c ∷ [] → runs ≡ runs_at timeline c.section
    → amount_of_customer b c dim key ≡ amount_of_runs b.entries roll (days_of b.period) f runs dim key
one_customer b c timeline f roll runs dim key law ok h er es =
    law b.network b.entries c (days_of_book b) f dim key h
    ∙ sym (ap₂ (λ (r : List Customer) (rs : List Run). amount_of_runs b.entries r (days_of b.period) f rs dim key) er (es ∙ ok.defined c.section (is_section _ f h)))
