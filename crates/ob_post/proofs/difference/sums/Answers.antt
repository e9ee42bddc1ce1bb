use Rattle.std.proofs.Common.{◌≡◌, ◌∙◌, ap, sym, subst, refl, ℕ, ◌+◌, ◌<◌, length, get_or, set, replicate, ℤ, pos, ◌+ℤ◌, FitsSigned, arith, rules}
use Rattle.std.specs.Int.{w64, int_wrap, int_wrapping_add}
use Rattle.std.proofs.lemmas.Int.{wrapping_add_is}
use Rattle.std.proofs.lemmas.List.{get_or_read}
use Rattle.std.proofs.lemmas.List.Elements.{All-same, All-replicate}
use Rattle.ob_post.specs.Places.{place_of}
use Rattle.ob_post.proofs.Keying.{place_below}
use Rattle.ob_post.proofs.Placed.{absent}
use Rattle.ob_post.proofs.DifferingRows.{AreSums, no_sums, one_sum}
use Rattle.ob_post.proofs.difference.sums.Goals as goal

pub loop-row-init : goal.loop-row-init
loop-row-init c =
    let zeros : c.in_ok-sums.sums.items ≡ replicate 685 (pos 0) = search rules in
    no_sums c.args.rows.now c.in_ok-sums.sums.items (omega (arith, c.in_ok-sums.ensures.len, c.in_ok-sums.sums.ok))
    (All-same (λ (z : ℤ). z ≡ pos 0) c.in_ok-sums.sums.items (replicate 685 (pos 0)) zeros (All-replicate (λ (z : ℤ). z ≡ pos 0) 685 (pos 0) refl))

pub index-requires : goal.index-requires
index-requires c =
    let m = get_or c.args.rows.now c.loop-row.row-index absent in
    omega (arith, c.place_of-place.ensures, c.loop-row.invariant.long, c.loop-row.sums.ok, place_below 366 m.dim m.key (c.requires c.loop-row.row-index absent c.loop-row-test.true))

pub index_mut-requires : goal.index_mut-requires
index_mut-requires c =
    let m = get_or c.args.rows.now c.loop-row.row-index absent in
    omega (arith, c.place_of-place.ensures, c.loop-row.invariant.long, c.loop-row.sums.ok, place_below 366 m.dim m.key (c.requires c.loop-row.row-index absent c.loop-row-test.true))

pub loop-row-preserved : goal.loop-row-preserved
loop-row-preserved c =
    let rows = c.args.rows.now in
    let sums = c.loop-row.sums.items in
    let m = get_or rows c.loop-row.row-index absent in
    let within : c.place_of-place.result < length sums =
    omega (arith, c.place_of-place.ensures, c.loop-row.invariant.long, place_below 366 m.dim m.key (c.requires c.loop-row.row-index absent c.loop-row-test.true)) in
    let had : c.index.result.now ≡ get_or sums (place_of m.dim m.key) (pos 0) =
    get_or_read sums c.place_of-place.result c.index.result.now within c.index.ensures (pos 0) ∙ ap (λ j. get_or sums j (pos 0)) c.place_of-place.ensures in
    let fits_sum : FitsSigned w64 c.index.result.now = search rules in
    let fits_delta : FitsSigned w64 m.delta = search rules in
    let value : int_wrapping_add w64 c.index.result.now m.delta ≡ int_wrap w64 (get_or sums (place_of m.dim m.key) (pos 0) +ℤ m.delta) =
    wrapping_add_is w64 c.index.result.now m.delta fits_sum fits_delta ∙ ap (λ (z : ℤ). int_wrap w64 (z +ℤ m.delta)) had in
    subst (λ (p : ℕ). AreSums rows (set sums p (int_wrapping_add w64 c.index.result.now m.delta)) (c.loop-row.row-index + 1)) (sym c.place_of-place.ensures)
    (one_sum rows sums c.loop-row.row-index absent (int_wrapping_add w64 c.index.result.now m.delta) c.requires c.loop-row.invariant c.loop-row-test.true value)
