use Rattle.std.proofs.Common.{◌≡◌, ◌+◌, ◌<◌, ◌≤◌, refl, arith}
use Rattle.ob_sweep.specs.Lives.{last_lived}
use Rattle.ob_sweep.proofs.Differing.{none_differ, first_is, lived_is}
use Rattle.ob_sweep.proofs.life_window.life_window.Goals.{then-until-end, else-until-end}
use Rattle.ob_sweep.proofs.life_window.life_window.Goals as goal

pub returns-in_err-since : goal.returns-in_err-since
returns-in_err-since c = rw c.from_residual.ensures (none_differ c.args.old c.args.new c.args.first c.args.end c.requires.some c.in_err-since.ensures)

pub returns : goal.returns
returns c =
    let old = c.args.old in
    let new = c.args.new in
    let first = c.args.first in
    let end = c.args.end in
    let x = c.in_ok-since.ensures in
    let some : c.in_ok-since.since < c.in_ok-since.until = x.some in
    let to_b : c.in_ok-since.until ≤ end = x.to_b in
    let z = lived_is old new first end c.in_ok-since.since c.in_ok-since.until x in
    let last : c.if-until-end.end ≡ last_lived old new first end + 1 =
    elim c.if-until-end.branch [
      | then-until-end w ↦ omega (arith, z, w.end-is, w.if-until-end, to_b)
      | else-until-end w ↦ omega (arith, z, w.end-is, w.if-until-end, to_b, some)
    ] in (
      first_is old new first end c.in_ok-since.since c.in_ok-since.until x,
      record {
        first = refl;
        last = last;
        start = c.places_before.ensures.within;
        within = c.places_before-2.ensures.within;
        earlier = c.places_before.ensures.earlier;
        onwards = c.places_before.ensures.from;
        through = c.places_before-2.ensures.earlier;
        later = c.places_before-2.ensures.from;
      },
      c.places_before.ensures.numbered,
    )
