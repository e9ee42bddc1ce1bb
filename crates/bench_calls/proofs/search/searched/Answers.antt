use Rattle.std.proofs.Common.{◌≡◌, ◌∙◌, ◌*◌, ℕ, List, sym, ap, arith, rules, length, map}
use Rattle.std.proofs.lemmas.List.{length-map}
use Rattle.ob_base.specs.declared.Pos.{Pos}
use Rattle.bench_calls.specs.Networks.{position_of}
use Rattle.bench_calls.specs.Searches.{supplied_nodes}
use Rattle.bench_calls.proofs.search.searched.Goals as goal

pub count_supplied-requires : goal.count_supplied-requires
count_supplied-requires c =
    let items : c.in_ok-positions.positions.items ≡ map position_of c.args.closed.now = search rules in
    ap length (c.deref.ensures.value ∙ items ∙ sym c.loop.invariant.joins.normals) ∙ length-map c.loop.net.network.devices (λ d. d.normal)

pub returns : goal.returns
returns c =
    let items : c.in_ok-positions.positions.items ≡ map position_of c.args.closed.now = search rules in
    let all : c.loop.counter ≡ c.args.rounds = omega (arith, c.loop.auto.counter-end, c.loop-test.false) in (
      c.loop.net.network,
      c.loop.invariant.joins,
      c.loop.invariant.sum
          ∙ ap (λ (n : ℕ). n * supplied_nodes c.loop.net.network c.in_ok-positions.positions.items) all
          ∙ ap (λ (positions : List Pos). c.args.rounds * supplied_nodes c.loop.net.network positions) items,
    )
