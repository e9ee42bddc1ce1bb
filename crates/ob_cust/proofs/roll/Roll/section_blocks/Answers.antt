use Rattle.std.proofs.Common.{◌≡◌, ℕ, Option, map, ◌∙◌, arith}
use Rattle.ob_cust.specs.Blocks.{sum_over_blocks, sum_over_customers}
use Rattle.ob_cust.specs.declared.SectionBlock.{SectionBlock}
use Rattle.ob_cust.proofs.Served.{section_sums, counts_of}
use Rattle.ob_cust.proofs.Shelved.{shelf_is}
use Rattle.ob_cust.proofs.Totals.{few_customers}
use Rattle.ob_cust.proofs.roll.Roll.section_blocks.Goals as goal

sums : (c : goal.After-of_section) (f : ℕ → Option ℕ → ℕ) → sum_over_blocks f (map (λ (b : SectionBlock). b.block) c.of_section.result.now) ≡ sum_over_customers f c.args.section c.self.inside.customers.items
sums c f =
    c.of_section.ensures.sums f ∙ section_sums f c.args.section _ c.self.inside.room c.self.inside.customers.items c.index-shelf.result.now
    (shelf_is c.args.section c.len.result c.shelf_of.result c.self.inside.room c.self.inside.customers.items c.self.inside.shelves.items c.index-shelf.result.now c.self.invariant.1 (c.len.ensures ∙ c.self.inside.shelves.ok.0) c.shelf_of.ensures.within c.shelf_of.ensures.is c.index-shelf.ensures)

pub returns-clause-sums : goal.returns-clause-sums
returns-clause-sums c f = rw (← c.self.view_is) (sums c f)

pub returns-clause-few : goal.returns-clause-few
returns-clause-few c =
    counts_of c.of_section.result.now _ (omega (arith, sums c (λ since until. 1), few_customers c.args.section c.self.inside.customers.items, c.self.invariant.0.few))
