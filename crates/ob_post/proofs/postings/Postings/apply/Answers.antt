use Rattle.std.proofs.Common.{◌≡◌, ◌∙◌, ap, ap₂, sym, subst, ℕ, ◌+◌, ◌%◌, ◌^◌, ◌<◌, length, get_or, set, ℤ, FitsSigned, arith, rules}
use Rattle.std.specs.Int.{w64, cast_unsigned}
use Rattle.std.proofs.lemmas.Int.{ints, to_z-of_z}
use Rattle.std.proofs.lemmas.List.{get_or_read}
use Rattle.ob_post.specs.Keys.{IsKey}
use Rattle.ob_post.specs.Places.{place_of}
use Rattle.ob_post.specs.Postings.{PostedAmounts, day_count, amount_after}
use Rattle.ob_post.proofs.Placed.{HaveMoved, may_move, absent, none_moved, row_known, row_within, row_moved, all_moved, days_stay, places_stay}
use Rattle.ob_post.proofs.postings.Postings.apply.Goals as goal

pub loop-row-init : goal.loop-row-init
loop-row-init c = none_moved c.args.moved.now c.self.inside.amounts.items c.self.invariant

pub place_of-place-requires : goal.place_of-place-requires
place_of-place-requires c =
    let r = c.requires in
    let may = may_move c.args.moved.now c.self.inside.amounts.items c.args.self.now c.self.view_is c.self.invariant r.keys r.floor r.ceiling in
    row_known c.args.moved.now c.self.inside.amounts.items c.loop-row.row-index absent may c.loop-row-test.true

pub index-requires : goal.index-requires
index-requires c =
    let r = c.requires in
    let moved = c.args.moved.now in
    let old = c.self.inside.amounts.items in
    let may = may_move moved old c.args.self.now c.self.view_is c.self.invariant r.keys r.floor r.ceiling in
    omega (arith, c.place_of-place.ensures, row_within moved old c.loop-row.self-inside.amounts.items c.loop-row.row-index absent may c.loop-row.invariant c.loop-row-test.true, c.loop-row.self-inside.amounts.ok)

pub index_mut-requires : goal.index_mut-requires
index_mut-requires c =
    let r = c.requires in
    let moved = c.args.moved.now in
    let old = c.self.inside.amounts.items in
    let may = may_move moved old c.args.self.now c.self.view_is c.self.invariant r.keys r.floor r.ceiling in
    omega (arith, c.place_of-place.ensures, row_within moved old c.loop-row.self-inside.amounts.items c.loop-row.row-index absent may c.loop-row.invariant c.loop-row-test.true, c.loop-row.self-inside.amounts.ok)

pub loop-row-preserved : goal.loop-row-preserved
loop-row-preserved c =
    let r = c.requires in
    let moved = c.args.moved.now in
    let old = c.self.inside.amounts.items in
    let new = c.loop-row.self-inside.amounts.items in
    let i = c.loop-row.row-index in
    let m = get_or moved i absent in
    let may = may_move moved old c.args.self.now c.self.view_is c.self.invariant r.keys r.floor r.ceiling in
    let within : c.place_of-place.result < length new =
    omega (arith, c.place_of-place.ensures, row_within moved old new i absent may c.loop-row.invariant c.loop-row-test.true) in
    let now : c.index.result.now ≡ get_or new (place_of m.dim m.key) 0 =
    get_or_read new c.place_of-place.result c.index.result.now within c.index.ensures 0 ∙ ap (λ j. get_or new j 0) c.place_of-place.ensures in
    let fits : FitsSigned w64 m.delta = search rules in
    let is : c.wrapping_add_signed.result ≡ (get_or new (place_of m.dim m.key) 0 + cast_unsigned w64 m.delta) % 2 ^ 64 =
    c.wrapping_add_signed.ensures ∙ ap₂ (λ (n : ℕ) (z : ℤ). (n + cast_unsigned w64 z) % 2 ^ 64) now (to_z-of_z w64 m.delta fits) in
    subst (λ (p : ℕ). HaveMoved moved old (set new p c.wrapping_add_signed.result) (i + 1)) (sym c.place_of-place.ensures)
    (row_moved moved old new i c.wrapping_add_signed.result absent may c.loop-row.invariant c.loop-row-test.true fits is)

pub invariant_of-self : goal.invariant_of-self
invariant_of-self c =
    let r = c.requires in
    let may = may_move c.args.moved.now c.self.inside.amounts.items c.args.self.now c.self.view_is c.self.invariant r.keys r.floor r.ceiling in
    places_stay c.args.moved.now c.self.inside.amounts.items c.loop-row.self-inside.amounts.items c.loop-row.row-index may c.loop-row.invariant (omega arith)

pub returns-clause-amounts : goal.returns-clause-amounts
returns-clause-amounts c = λ dim key k.
    let r = c.requires in
    let may = may_move c.args.moved.now c.self.inside.amounts.items c.args.self.now c.self.view_is c.self.invariant r.keys r.floor r.ceiling in
    let known = subst (λ (a : PostedAmounts). IsKey (day_count a) dim key) (sym c.self.view_is) k in
    all_moved c.args.moved.now c.self.inside.amounts.items c.loop-row.self-inside.amounts.items c.loop-row.row-index dim key may c.loop-row.invariant (omega arith) known
    ∙ ap (λ (a : PostedAmounts). amount_after a c.args.moved.now dim key) c.self.view_is

pub returns-clause-led : goal.returns-clause-led
returns-clause-led c = λ new leads dim key k. omega (arith, ints, returns-clause-amounts c dim key k, leads.after dim key k)

pub returns-clause-days : goal.returns-clause-days
returns-clause-days c =
    days_stay c.args.moved.now c.self.inside.amounts.items c.loop-row.self-inside.amounts.items c.loop-row.row-index c.loop-row.invariant
    ∙ ap day_count c.self.view_is
