use Rattle.std.proofs.Common.{ℕ, ◌≡◌, ◌∙◌, sym, ap, arith, length, refl, not}
use Rattle.ob_sheet.specs.Order.{upto}
use Rattle.ob_sheet.specs.Positions.{entered}
use Rattle.ob_sheet.specs.Supply.{is_deenergized}
use Rattle.std.specs.List.{count_by}
use Rattle.ob_net.specs.Network.{Network, as_of}
use Rattle.ob_base.specs.Seconds.{seconds}
use Rattle.ob_net.specs.Walk.{is_supplied}
use Rattle.ob_cust.specs.WithoutSupply.{is_without_supply, seconds_without_supply}
use Rattle.ob_total.proofs.Counting.{fits, more_fits, none_yet, second_more, entered_long}
use Rattle.ob_total.proofs.count.count_seconds.Goals as goal

pub loop-second-init : goal.loop-second-init
loop-second-init c = record {
  network = refl;
  place = omega arith;
  before = λ t h. omega arith;
  entered = c.requires.normal;
  small = omega arith;
  total = none_yet (is_deenergized c.args.net.now.network c.args.sheet.now.entries) c.args.span.first c.args.customers.now;
}

pub advance-place-requires-clause-devices : goal.advance-place-requires-clause-devices
advance-place-requires-clause-devices c =
    let long : length c.loop-second.entered ≡ length c.args.net.now.network.devices =
    ap length c.loop-second.invariant.entered ∙ entered_long c.args.net.now.network _ in
    rw long c.requires.devices

pub count_second-requires-clause-positions : goal.count_second-requires-clause-positions
count_second-requires-clause-positions c =
    ap length (c.advance-place.ensures.moved c.args.net.now.network c.loop-second.invariant.entered)
    ∙ entered_long c.args.net.now.network _ ∙ ap (λ n. length n.devices) (sym c.loop-second.invariant.network)

pub overflow_add-total : goal.overflow_add-total
overflow_add-total c =
    let sum = fits c.loop-second.total c.in_ok-without.without c.loop-second.second c.args.span.first c.args.span.end _
    c.loop-second.invariant.small c.in_ok-without.ensures.few c.requires.few (omega arith) c.requires.span.short in
    omega arith

pub loop-second-preserved : goal.loop-second-preserved
loop-second-preserved c =
    let first = c.loop-second.auto.second in
    let at : c.advance-place.new.positions ≡ entered c.args.net.now.network (upto c.args.sheet.now.entries c.loop-second.second) =
    c.advance-place.ensures.at_second c.args.net.now.network (c.loop-second.invariant.before c.loop-second.second (omega arith)) c.loop-second.invariant.entered in
    let place = c.advance-place.ensures.place (c.loop-second.invariant.before c.loop-second.second (omega arith)) in
    record {
      network = c.count_second.ensures.network ∙ c.loop-second.invariant.network;
      place = c.advance-place.ensures.within;
      before = λ t h. let later = c.advance-place.ensures.later t (omega arith) in omega (arith, place, later);
      entered = c.advance-place.ensures.moved c.args.net.now.network c.loop-second.invariant.entered;
      small = more_fits c.loop-second.total c.in_ok-without.without c.loop-second.second c.args.span.first _ first c.loop-second.invariant.small c.in_ok-without.ensures.few c.requires.few;
      total = second_more c.args.net.now.network c.args.sheet.now.entries c.advance-place.new.positions c.args.span.first c.loop-second.second c.loop-second.total c.in_ok-without.without c.args.customers.now first at
          (c.in_ok-without.ensures.count ∙ ap (λ (n : Network). count_by (λ c'. is_without_supply (λ v t. not (is_supplied n (as_of n.devices c.loop-second.second c.advance-place.new.positions) v)) c' c.loop-second.second) c.args.customers.now) c.loop-second.invariant.network)
          c.loop-second.invariant.total;
    }

pub returns-clause-total : goal.returns-clause-total
returns-clause-total c =
    let end : c.loop-second.second ≡ c.args.span.end = let some = c.requires.span.some in omega arith in
    c.loop-second.invariant.total ∙ ap (λ (s : ℕ). seconds_without_supply (is_deenergized c.args.net.now.network c.args.sheet.now.entries) (seconds c.args.span.first s) c.args.customers.now) end
