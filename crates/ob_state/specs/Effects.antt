-- Words of the functions that find what a command moves: the amounts of parts of a state.
use Rattle.std.specs.Prelude.{◌≡◌, ℕ, List, [], ◌∷◌}
use Rattle.std.specs.List.{sum_by, range_with_len}
use Rattle.ob_net.specs.Network.{Network, without_last_device, without_last_node}
use Rattle.ob_cust.specs.declared.Customer.{Customer}
use Rattle.ob_sheet.specs.declared.Entry.{Entry}
use Rattle.ob_sweep.specs.Changed.{net_before}
use Rattle.ob_sweep.specs.declared.change.Change.{Change}
use Rattle.ob_post.specs.CustomerSeconds.{customer_seconds_by}
use Rattle.ob_post.specs.SectionAmounts.{amount_at}
use Rattle.ob_post.specs.declared.Dim.{Dim}
use Rattle.ob_time.specs.Calendar.{day_count}
use Rattle.ob_post.specs.Balances.{Balances}
use Rattle.ob_post.specs.declared.posting.Posting.{Posting}
use Rattle.ob_state.specs.declared.effect.Effect.{Effect}
use Rattle.ob_state.specs.State.{BookState}
use Rattle.ob_state.specs.Amounts.{days_of_book, moves}
use Rattle.ob_state.specs.Retimings.{LeadsTo}

-- the customer-seconds of a node's runs in a state
abbrev pub amount_of_node : BookState → ℕ → Dim → ℕ → ℕ
amount_of_node b v dim key = amount_at b.network b.entries b.customers (days_of_book b) v dim key

-- those of some nodes
abbrev pub amount_of_nodes : BookState → List ℕ → Dim → ℕ → ℕ
amount_of_nodes b nodes dim key = sum_by (λ v. amount_of_node b v dim key) nodes

-- those of the first n nodes
abbrev pub amount_of_first : BookState → ℕ → Dim → ℕ → ℕ
amount_of_first b n dim key = sum_by (λ v. amount_of_node b v dim key) (range_with_len 0 n)

-- the customer-seconds that one customer would have in a state
abbrev pub amount_of_customer : BookState → Customer → Dim → ℕ → ℕ
amount_of_customer b c dim key = customer_seconds_by b.network b.entries (c ∷ []) (days_of_book b) dim key

-- an effect that leads from one state to another
pub record IsEffect (b c : BookState) (effect : Effect) : Type 0 where
  pub moved : effect.moves.items ≡ moves b c
  pub retiming : LeadsTo b c effect.retiming

-- the state with another network
abbrev pub with_network : BookState → Network → BookState
with_network b network = record b { network = network }

-- the state with other entries
abbrev pub with_entries : BookState → List Entry → BookState
with_entries b entries = record b { entries = entries }

-- the rows lead from the amounts of the first n nodes to those that these have with other entries
abbrev pub BalancesFirst : BookState → List Entry → ℕ → Posting → Type 0
BalancesFirst b entries n posting =
    Balances (day_count b.period) posting (amount_of_first b n) (amount_of_first (with_entries b entries) n)

-- the state without the node that was added last
abbrev pub without_node : BookState → BookState
without_node b = with_network b (without_last_node b.network)

-- the state without the device that was added last
abbrev pub without_device : BookState → BookState
without_device b = with_network b (without_last_device b.network)

-- the state before a change of the network, where this is the one after it
abbrev pub before_change : Change → BookState → BookState
before_change change b = with_network b (net_before change b.network)
