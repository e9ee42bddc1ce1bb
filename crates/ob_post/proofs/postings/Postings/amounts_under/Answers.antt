use Rattle.std.proofs.Common.{◌≡◌, ◌∙◌, ap, ap₂, sym, ℕ, ◌-◌, List, length, take, drop, sum, arith}
use Rattle.std.proofs.lemmas.List.{length-take-le, length-drop, take_all}
use Rattle.ob_post.specs.Postings.{PostedAmounts, total_of}
use Rattle.ob_post.specs.Places.{amounts_in}
use Rattle.ob_post.specs.declared.Dim.{Dim}
use Rattle.ob_post.specs.declared.Dim.TheVariants.{Cause, Feeder, Day}
use Rattle.ob_post.proofs.Placed.{causes_sum, feeders_sum, days_sum}
use Rattle.ob_post.proofs.postings.Postings.amounts_under.Goals as goal

pub slice_bounds-result-end : goal.slice_bounds-result-end
slice_bounds-result-end c =
    sym (length-take-le 64 c.deref.result.now (omega (arith, ap length c.deref.ensures.value, c.self.invariant.enough)))

-- the total of the amounts seen, of the dimension that the code has
seen : (places : List ℕ) (a : PostedAmounts) (d dim : Dim) → amounts_in places ≡ a → dim ≡ d → total_of (amounts_in places) d ≡ total_of a dim
seen places a d dim e is = ap₂ total_of e (sym is)

pub returns-in-Cause-clause-sum : goal.returns-in-Cause-clause-sum
returns-in-Cause-clause-sum c =
    let places = c.self.inside.amounts.items in
    ap (λ (xs : List ℕ). sum (take 64 xs)) c.deref.ensures.value ∙ causes_sum places c.self.invariant ∙ seen places c.args.self.now Cause c.args.dim c.self.view_is c.in-Cause.is

pub returns-in-Feeder-clause-sum : goal.returns-in-Feeder-clause-sum
returns-in-Feeder-clause-sum c =
    let places = c.self.inside.amounts.items in
    ap (λ (xs : List ℕ). sum (take 255 (drop 64 xs))) c.deref-in-Feeder.ensures.value
    ∙ feeders_sum places c.self.invariant
    ∙ seen places c.args.self.now Feeder c.args.dim c.self.view_is c.in-Feeder.is

pub returns-in-Feeder-clause-below : goal.returns-in-Feeder-clause-below
returns-in-Feeder-clause-below c = rw (← c.self.view_is) (c.self.invariant.totals c.args.dim)

rest : (xs : List ℕ) → take (length xs - 319) (drop 319 xs) ≡ drop 319 xs
rest xs = take_all (length xs - 319) (drop 319 xs) (omega (arith, length-drop 319 xs))

pub returns-in-Day-clause-sum : goal.returns-in-Day-clause-sum
returns-in-Day-clause-sum c =
    let places = c.self.inside.amounts.items in
    ap sum (rest c.deref-in-Day.result.now)
    ∙ ap (λ (xs : List ℕ). sum (drop 319 xs)) c.deref-in-Day.ensures.value
    ∙ days_sum places
    ∙ seen places c.args.self.now Day c.args.dim c.self.view_is c.in-Day.is

pub returns-in-Day-clause-below : goal.returns-in-Day-clause-below
returns-in-Day-clause-below c = rw (← c.self.view_is) (c.self.invariant.totals c.args.dim)
