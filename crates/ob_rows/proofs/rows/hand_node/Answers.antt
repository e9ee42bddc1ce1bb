use Rattle.std.proofs.Common.{◌≡◌, ◌+◌, ◌≤◌, ◌*◌, ◌^◌, ℕ, List, length, map, is_some, Some, Ok, Err, Result, IfOk, sym, ap, subst, ◌∙◌, arith}
use Rattle.std.specs.List.{All, flat_map}
use Rattle.ob_base.specs.declared.stop.Fault.{Fault}
use Rattle.ob_net.specs.Network.{Network, home_feeder}
use Rattle.ob_cust.specs.Blocks.{service_of}
use Rattle.ob_cust.specs.declared.Customer.{Customer}
use Rattle.ob_cust.specs.declared.SectionBlock.{SectionBlock}
use Rattle.ob_sweep.specs.Timeline.{IsSection}
use Rattle.ob_sweep.specs.declared.Run.{Run}
use Rattle.ob_time.specs.Calendar.{Calendar, first_second_of, end_second_of}
use Rattle.ob_state.specs.State.{BookState}
use Rattle.ob_rows.specs.Outages.{IsOutage, rows_of_block}
use Rattle.ob_rows.specs.Rows.{rows_of_node}
use Rattle.ob_rows.specs.Services.{customers_with, services_of}
use Rattle.ob_rows.specs.Sinks.{HandsRows}
use Rattle.ob_rows.specs.declared.row.InterruptionRow.{InterruptionRow}
use Rattle.ob_rows.proofs.Blocks.{counts, few_blocks, plain, services}
use Rattle.ob_rows.proofs.Outages.{are_outages, few_outages, of_own_section, rows_of_blocks}
use Rattle.ob_rows.proofs.rows.hand_node.Goals as goal

section_from : (net : Network) (v feeder : ℕ) → home_feeder net v ≡ Some feeder → IsSection net v
section_from net v feeder home = ap is_some home

pub hand_blocks-requires-clause-counts : goal.hand_blocks-requires-clause-counts
hand_blocks-requires-clause-counts g c =
    let blocks = c.section_blocks-blocks.result.now in
    let of = c.section_blocks-blocks.ensures in
    subst (λ (roll : List Customer). All (λ (b : SectionBlock). b.block.count ≡ customers_with roll b.section (service_of b.block)) blocks) c.roll.ensures
    (counts c.roll.result.now.customers c.args.node blocks of.of_section of.positive of.sums of.ordered)

pub hand_blocks-requires-clause-outages : goal.hand_blocks-requires-clause-outages
hand_blocks-requires-clause-outages g c =
    let state : BookState = c.args.book.now.state in
    let lists = g.T.Timeline.content c.timeline.result.now in
    let runs = c.runs_of.result.now in
    let home : home_feeder state.network c.args.node ≡ Some c.in-Some.feeder = ap (λ (net : Network). home_feeder net c.args.node) (sym c.net.ensures.network) ∙ sym c.feeder_of.ensures ∙ c.in-Some.is in
    let own : All (IsOutage state c.args.node) runs =
    subst (λ (rs : List Run). All (IsOutage state c.args.node) rs) (sym c.runs_of.ensures.runs) (are_outages state lists c.timeline.ensures.runs c.args.node (section_from state.network c.args.node c.in-Some.feeder home)) in
    λ k d l. subst (λ (w : ℕ). All (IsOutage state w) runs) (sym (c.section_blocks-blocks.ensures.of_section k d l)) own

pub hand_blocks-requires-clause-few_blocks : goal.hand_blocks-requires-clause-few_blocks
hand_blocks-requires-clause-few_blocks g c =
    let few = c.section_blocks-blocks.ensures.few in
    omega (arith, few, few_blocks c.section_blocks-blocks.result.now c.section_blocks-blocks.ensures.positive)

pub hand_blocks-requires-clause-few_runs : goal.hand_blocks-requires-clause-few_runs
hand_blocks-requires-clause-few_runs g c =
    let state : BookState = c.args.book.now.state in
    let lists = g.T.Timeline.content c.timeline.result.now in
    let home : home_feeder state.network c.args.node ≡ Some c.in-Some.feeder = ap (λ (net : Network). home_feeder net c.args.node) (sym c.net.ensures.network) ∙ sym c.feeder_of.ensures ∙ c.in-Some.is in
    let few = few_outages state lists c.timeline.ensures.runs c.args.node (section_from state.network c.args.node c.in-Some.feeder home) in
    let period : c.deref.result.now ≡ state.period = c.deref.ensures ∙ c.period.ensures in
    let long : c.length.result + first_second_of state.period ≡ end_second_of state.period = subst (λ (p : Calendar). c.length.result + first_second_of p ≡ end_second_of p) period c.length.ensures.value in
    let short = c.length.ensures.short in
    omega (arith, ap length c.runs_of.ensures.runs, few, long, short)

pub returns-clause-hands : goal.returns-clause-hands
returns-clause-hands g c =
    let state : BookState = c.args.book.now.state in
    let lists = g.T.Timeline.content c.timeline.result.now in
    let blocks = c.section_blocks-blocks.result.now in
    let of = c.section_blocks-blocks.ensures in
    let feeder = c.in-Some.feeder in
    let home : home_feeder state.network c.args.node ≡ Some feeder = ap (λ (net : Network). home_feeder net c.args.node) (sym c.net.ensures.network) ∙ sym c.feeder_of.ensures ∙ c.in-Some.is in
    let period : c.deref.result.now ≡ state.period = c.deref.ensures ∙ c.period.ensures in
    let long : c.length.result + first_second_of state.period ≡ end_second_of state.period = subst (λ (p : Calendar). c.length.result + first_second_of p ≡ end_second_of p) period c.length.ensures.value in
    let own : services_of c.args.node state.customers ≡ map service_of (plain blocks) =
    subst (λ (roll : List Customer). services_of c.args.node roll ≡ map service_of (plain blocks)) c.roll.ensures (services c.roll.result.now.customers c.args.node blocks of.of_section of.positive of.sums of.ordered) in
    let rows : flat_map (λ (b : SectionBlock). rows_of_block state b.section feeder c.runs_of.result.now b) blocks ≡ rows_of_node state c.args.node =
    of_own_section state c.args.node feeder c.runs_of.result.now blocks of.of_section
    ∙ ap (λ (rs : List Run). flat_map (rows_of_block state c.args.node feeder rs) blocks) c.runs_of.ensures.runs
    ∙ rows_of_blocks state lists c.timeline.ensures.runs c.args.node (section_from state.network c.args.node feeder home) feeder blocks (omega (arith, long)) own home in
    subst (λ (all : List InterruptionRow). HandsRows g.V.RowSink.takes c.args.sink.now c.hand_blocks.new.sink all c.hand_blocks.result) rows c.hand_blocks.ensures.hands

few_of_both : (blocks : ℕ) (result : Result ℕ Fault) → blocks ≤ 100_000 → IfOk result (λ rows. rows ≤ blocks * 2 ^ 25) → IfOk result (λ rows. rows ≤ 2 ^ 42)
few_of_both blocks (Ok rows) few most = omega (arith, few, most)
few_of_both blocks (Err fault) few most = tt

pub returns-clause-few : goal.returns-clause-few
returns-clause-few g c =
    let few = c.section_blocks-blocks.ensures.few in
    few_of_both (length c.section_blocks-blocks.result.now) c.hand_blocks.result (omega (arith, few, few_blocks c.section_blocks-blocks.result.now c.section_blocks-blocks.ensures.positive)) c.hand_blocks.ensures.few
