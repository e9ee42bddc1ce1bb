use Rattle.std.proofs.Common.{◌≡◌, ◌≤◌, ◌+◌, ◌-◌, ◌*◌, ℕ, Option, List, get_or, subst, sym, ap, ◌∙◌, arith}
use Rattle.ob_cust.specs.declared.SectionBlock.{SectionBlock}
use Rattle.ob_cust.specs.Services.{ServicesState, sum_of, key}
use Rattle.ob_cust.proofs.Held.{one_at, one_there, none_at, one_less}
use Rattle.ob_cust.proofs.services.Services.remove.Goals as goal

-- a block of such a service is there, since the premise counts one of it
pub returns-in_default-clause-sums : goal.returns-in_default-clause-sums
returns-in_default-clause-sums c f =
    let q : ℕ × (ℕ × Option ℕ) = (c.args.section, (c.args.since, c.args.until)) in
    let there = subst (λ (v : ServicesState). one_at q c.args.section c.args.since c.args.until ≤ sum_of (one_at q) v.blocks) (sym c.self.view_is) (c.requires.there (one_at q)) in
    let none = none_at c.deref.result.now c.in_default.field-0 q c.in_default.ensures.below c.in_default.ensures.above in
    let is = ap (λ (bs : List SectionBlock). sum_of (one_at q) bs) c.deref.ensures.value in
    absurd (omega (arith, there, none, is, one_there c.args.section c.args.since c.args.until))

pub returns-then-count-gt1-clause-sums : goal.returns-then-count-gt1-clause-sums
returns-then-count-gt1-clause-sums c f =
    let bs = c.self.inside.blocks.items in
    let at = c.in-Ok.place in
    let b = c.index.result.now in
    let own : key b ≡ (c.args.section, (c.args.since, c.args.until)) = ap key c.index.ensures ∙ ap (λ (cs : List SectionBlock). key (get_or cs at b)) (sym c.deref.ensures.value) ∙ c.in-Ok.ensures.same b in
    let term = ap (λ (q : ℕ × (ℕ × Option ℕ)). f q.0 q.1.0 q.1.1) own in
    let sums = subst (λ (a : SectionBlock). sum_of f c.recount.new.blocks.items + a.block.count * f a.section a.block.since a.block.until ≡ sum_of f bs + (b.block.count - 1) * f a.section a.block.since a.block.until) (sym c.index.ensures) (c.recount.ensures.sums f b) in
    let less = one_less b.block.count (f b.section b.block.since b.block.until) (sum_of f c.recount.new.blocks.items) (sum_of f bs) (omega (arith, c.if-count-gt1.true)) sums in
    rw (← c.self.view_is) (omega (arith, less, term))
