use Rattle.std.proofs.Common.{◌≡◌, ◌∙◌, ap, sym, subst, refl, ℕ, ◌+◌, ◌-◌, ◌%◌, ◌^◌, ◌<◌, List, [], ◌∷◌, ◌++◌, Vec, Global, length, get_or, pos, ◌-ℤ◌, FitsSigned, arith, rules}
use Rattle.std.specs.Int.{w64, int_wrap, int_wrapping_sub, cast_signed, cast_unsigned}
use Rattle.std.proofs.lemmas.Int.{wrapping_sub_is, of_z-to_z}
use Rattle.std.proofs.lemmas.List.{get_or_read}
use Rattle.ob_post.specs.declared.Dim.{Dim}
use Rattle.ob_post.specs.declared.Moved.{Moved}
use Rattle.ob_post.specs.Keys.{IsKey}
use Rattle.ob_post.specs.Places.{place_of}
use Rattle.ob_post.proofs.DifferingRows.{AreMoves, difference, one_skipped, one_more, all_moves, keys_of_moves, difference_at}
use Rattle.ob_post.proofs.Listed.{listed}
use Rattle.ob_post.proofs.difference.moves.Goals as goal
use Rattle.ob_post.proofs.difference.moves.Goals.{then-delta-ne0+in_ok-push, else-delta-ne0}

-- a number of 64 bits that are read as 0 is 0
no_bits : (n : ℕ) → n < 2 ^ 64 → cast_signed w64 n ≡ pos 0 → n ≡ 0
no_bits n l e = sym (of_z-to_z w64 n l) ∙ ap (cast_unsigned w64) e

pub loop-place-preserved : goal.loop-place-preserved
loop-place-preserved c =
    let taken = c.args.taken.now in
    let given = c.args.given.now in
    let place = c.loop-place.place in
    let ts = c.in_ok-taken_sums.taken_sums.items in
    let gs = c.in_ok-given_sums.given_sums.items in
    let t_within : place < length ts = omega (arith, c.in_ok-taken_sums.ensures.places, c.loop-place-test.true) in
    let g_within : place < length gs = omega (arith, c.in_ok-given_sums.ensures.places, c.loop-place-test.true) in
    let t_is : c.index-in-loop-place.result.now ≡ get_or ts place (pos 0) =
    get_or_read ts place c.index-in-loop-place.result.now t_within c.index-in-loop-place.ensures (pos 0) in
    let g_is : c.index.result.now ≡ get_or gs place (pos 0) = get_or_read gs place c.index.result.now g_within c.index.ensures (pos 0) in
    let fits_t : FitsSigned w64 c.index-in-loop-place.result.now = search rules in
    let fits_g : FitsSigned w64 c.index.result.now = search rules in
    let z = int_wrapping_sub w64 c.index.result.now c.index-in-loop-place.result.now in
    let bits : ℕ = (cast_unsigned w64 c.index.result.now + (2 ^ 64 - cast_unsigned w64 c.index-in-loop-place.result.now)) % 2 ^ 64 in
    let wraps : z ≡ int_wrap w64 (c.index.result.now -ℤ c.index-in-loop-place.result.now) =
    wrapping_sub_is w64 c.index.result.now c.index-in-loop-place.result.now fits_g fits_t in
    let at : (dim : Dim) (key : ℕ) → IsKey 366 dim key → place_of dim key ≡ place → z ≡ difference taken given dim key =
    λ dim key k here.
    wraps
    ∙ difference_at taken given c.index-in-loop-place.result.now c.index.result.now dim key
    (t_is ∙ ap (λ j. get_or ts j (pos 0)) (sym here) ∙ c.in_ok-taken_sums.ensures.sums dim key k)
    (g_is ∙ ap (λ j. get_or gs j (pos 0)) (sym here) ∙ c.in_ok-given_sums.ensures.sums dim key k)
    (c.requires.fits dim key) in
    elim c.if-delta-ne0.branch [
      | then-delta-ne0+in_ok-push w ↦
          let m : Moved = record { dim = w.key_at-dim.result.0; key = w.key_at-dim.result.1; delta = z } in
          let items : c.if-delta-ne0.moved.items ≡ c.loop-place.moved.items ++ m ∷ [] = ap (λ (v : Vec Moved Global). v.items) w.moved-is ∙ w.in_ok-push.ensures.items in
          subst (λ (xs : List Moved). AreMoves taken given xs (place + 1)) (sym items)
          (one_more taken given c.loop-place.moved.items place z m c.loop-place.invariant at (λ e. w.if-delta-ne0.true (no_bits bits (omega arith) e)) w.key_at-dim.ensures.exists w.key_at-dim.ensures.place refl)
      | else-delta-ne0 w ↦
          subst (λ (v : Vec Moved Global). AreMoves taken given v.items (place + 1)) (sym w.moved-is)
          (one_skipped taken given c.loop-place.moved.items place z c.loop-place.invariant at (ap (cast_signed w64) w.if-delta-ne0.false))
    ]

pub returns-clause-deltas : goal.returns-clause-deltas
returns-clause-deltas c = λ dim key.
    all_moves c.args.taken.now c.args.given.now c.loop-place.moved.items c.loop-place.place dim key c.requires.taken c.requires.given c.loop-place.invariant (omega arith)

pub returns-clause-keys : goal.returns-clause-keys
returns-clause-keys c = λ days ht hg.
    keys_of_moves c.args.taken.now c.args.given.now c.loop-place.moved.items c.loop-place.place days c.requires.taken c.requires.given c.loop-place.invariant (omega arith) ht hg

pub returns-clause-changes : goal.returns-clause-changes
returns-clause-changes c = λ days change ht hg agrees.
    listed c.args.taken.now c.args.given.now c.loop-place.moved.items days change c.loop-place.invariant.order c.loop-place.invariant.no_zero (returns-clause-deltas c) ht hg agrees

pub returns-clause-moves : goal.returns-clause-moves
returns-clause-moves c = λ days ht hg. returns-clause-changes c days (difference c.args.taken.now c.args.given.now) ht hg (λ dim key k. refl)
