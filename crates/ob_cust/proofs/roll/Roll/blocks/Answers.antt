use Rattle.std.proofs.Common.{◌≡◌, ℕ, ◌<◌, Option, List, map, get_or, subst, sym, ap, ◌∙◌, arith}
use Rattle.std.specs.List.{All, AllPairs}
use Rattle.std.specs.declared.cmp.Ordering.TheVariants.{Less}
use Rattle.std.proofs.lemmas.List.{length-map, get_or-map}
use Rattle.std.proofs.lemmas.List.Elements.{All-map}
use Rattle.ob_cust.specs.declared.Block.{Block}
use Rattle.ob_cust.specs.declared.SectionBlock.{SectionBlock}
use Rattle.ob_cust.specs.Blocks.{service_cmp, service_of, sum_over_blocks, sum_over_customers}
use Rattle.ob_cust.proofs.Order.{AreOrdered, once_from_before}
use Rattle.ob_cust.proofs.Totals.{one_of, count_is, counted_own, count_at, found}
use Rattle.ob_cust.proofs.roll.Roll.blocks.Goals as goal

ordered_map : (xs : List SectionBlock) → AllPairs (λ a b. service_cmp (service_of a.block) (service_of b.block) ≡ Less) xs → AreOrdered (map (λ (b : SectionBlock). b.block) xs)
ordered_map xs h i j d l m =
    let n = length-map xs (λ (b : SectionBlock). b.block) in
    let e : SectionBlock = record { section = 0; block = d } in
    let a = get_or-map (λ (b : SectionBlock). b.block) xs i e d (omega arith) in
    let b = get_or-map (λ (b : SectionBlock). b.block) xs j e d (omega arith) in
    subst (λ (x : Block). service_cmp (service_of x) (service_of (get_or (map (λ (b : SectionBlock). b.block) xs) j d)) ≡ Less) (sym a)
    (subst (λ (y : Block). service_cmp (service_of (get_or xs i e).block) (service_of y) ≡ Less) (sym b) (h i j e l (omega arith)))

ordered : (c : goal.In_ok-blocks) → AreOrdered c.in_ok-blocks.blocks.items
ordered c = subst AreOrdered (sym c.in_ok-blocks.ensures.blocks) (ordered_map c.section_blocks.result.now c.section_blocks.ensures.ordered)

sums : (c : goal.In_ok-blocks) (f : ℕ → Option ℕ → ℕ) → sum_over_blocks f c.in_ok-blocks.blocks.items ≡ sum_over_customers f c.args.section c.args.self.now.customers
sums c f = ap (λ (bs : List Block). sum_over_blocks f bs) c.in_ok-blocks.ensures.blocks ∙ c.section_blocks.ensures.sums f

pub returns-clause-counts : goal.returns-clause-counts
returns-clause-counts c k d l =
    let s = service_of (get_or c.in_ok-blocks.blocks.items k d) in
    sym (count_at c.in_ok-blocks.blocks.items k d (ordered c) l) ∙ sums c (one_of s) ∙ count_is c.args.section s c.args.self.now.customers

pub returns-clause-positive : goal.returns-clause-positive
returns-clause-positive c =
    subst (λ (bs : List Block). All (λ b. 0 < b.count) bs) (sym c.in_ok-blocks.ensures.blocks) (All-map (λ (b : Block). 0 < b.count) (λ (b : SectionBlock). b.block) c.section_blocks.result.now c.section_blocks.ensures.positive)

pub returns-clause-once : goal.returns-clause-once
returns-clause-once c i j d l m =
    let blocks = c.in_ok-blocks.blocks.items in
    once_from_before (service_of (get_or blocks i d)) (service_of (get_or blocks j d)) (ordered c i j d l m)

pub returns-clause-complete : goal.returns-clause-complete
returns-clause-complete c k d l e =
    let own = get_or c.args.self.now.customers k d in
    let s : ℕ × Option ℕ = (own.since, own.until) in
    found s c.in_ok-blocks.blocks.items (omega (arith, sums c (one_of s), counted_own c.args.section c.args.self.now.customers k d l e))

pub returns-clause-ordered : goal.returns-clause-ordered
returns-clause-ordered c = ordered c
