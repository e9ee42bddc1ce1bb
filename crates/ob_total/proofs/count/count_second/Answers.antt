use Rattle.std.proofs.Common.{◌≡◌, ◌∙◌, ap, length, List, not}
use Rattle.std.specs.List.{count_by}
use Rattle.ob_base.specs.declared.Pos.{Pos}
use Rattle.ob_net.specs.Walk.{is_supplied}
use Rattle.ob_cust.specs.WithoutSupply.{is_without_supply}
use Rattle.ob_total.proofs.Counting.{answers_long, counted_by_answer}
use Rattle.ob_total.proofs.count.count_second.Goals as goal

pub count_without-requires : goal.count_without-requires
count_without-requires c =
    let long : length c.deref-2.result.now ≡ length c.args.net.now.network.nodes =
    ap length c.deref-2.ensures.value ∙ answers_long (is_supplied c.args.net.now.network c.deref.result.now) (length c.args.net.now.network.nodes) _ c.in_ok-supplied.ensures.supplied in
    rw long c.requires.sections

pub returns-clause-count : goal.returns-clause-count
returns-clause-count c =
    c.count_without.ensures.count
    ∙ counted_by_answer c.args.net.now.network c.deref.result.now c.args.second c.args.customers.now c.deref-2.result.now (c.deref-2.ensures.value ∙ c.in_ok-supplied.ensures.supplied) c.requires.sections
    ∙ ap (λ (p : List Pos). count_by (λ c'. is_without_supply (λ v t. not (is_supplied c.args.net.now.network p v)) c' c.args.second) c.args.customers.now) (c.deref.ensures.value ∙ c.in_ok-positions.ensures.positions)
