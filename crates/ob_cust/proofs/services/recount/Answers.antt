use Rattle.std.proofs.Common.{◌≡◌, sym, ap, ◌∙◌, arith}
use Rattle.std.proofs.lemmas.List.{get_or_default, length-set}
use Rattle.ob_cust.specs.declared.SectionBlock.{SectionBlock}
use Rattle.ob_cust.specs.Services.{key}
use Rattle.ob_cust.proofs.Edited.{set_services, set_front, set_later, set_from}
use Rattle.ob_cust.proofs.services.recount.Goals as goal

abbrev changed : goal.After-deref_mut → SectionBlock
changed c = record { section = c.index_mut.result.now.section; block = record { since = c.index_mut.result.now.block.since; until = c.index_mut.result.now.block.until; count = c.args.count } }

-- the section that is carried on is that of the block
own : (c : goal.After-deref_mut) → c.index.result.now.section ≡ (changed c).section
own c =
    let bs = c.args.blocks.now.items in
    let e = c.index_mut.ensures.value in
    ap (λ (b : SectionBlock). b.section) (c.index.ensures ∙ get_or_default bs c.args.place c.index.result.now c.index_mut.result.now c.requires.place ∙ sym e)

pub carry-requires-clause-services : goal.carry-requires-clause-services
carry-requires-clause-services c =
    let bs = c.args.blocks.now.items in
    let is = c.index_mut.ensures.value in
    rw (c.deref.ensures.value) (set_services bs c.args.place (changed c) c.index_mut.result.now c.requires.services.services c.requires.place (ap key is) c.requires.positive
    (omega (arith, c.requires.services.services.small c.args.place c.index_mut.result.now c.requires.place, ap (λ (b : SectionBlock). b.block.since) is))
    (c.requires.few c.index_mut.result.now))

pub carry-requires-clause-front : goal.carry-requires-clause-front
carry-requires-clause-front c =
    rw (c.deref.ensures.value, c.deref_mut.ensures.value) (λ k l m. set_front c.args.blocks.now.items c.args.before.now.items c.args.place (changed c) c.index_mut.result.now c.requires.services c.requires.place k l)

pub carry-requires-clause-from : goal.carry-requires-clause-from
carry-requires-clause-from c =
    let bs = c.args.blocks.now.items in
    let is = ap (λ (b : SectionBlock). b.section) c.index_mut.ensures.value in
    rw (c.deref.ensures.value, own c) (λ k d l m. set_from bs c.args.place (changed c) c.index_mut.result.now c.requires.services.services c.requires.place is k d l (omega (arith, m, length-set bs c.args.place (changed c))))

pub carry-requires-clause-later : goal.carry-requires-clause-later
carry-requires-clause-later c =
    let bs = c.args.blocks.now.items in
    let is = ap (λ (b : SectionBlock). b.section) c.index_mut.ensures.value in
    rw (c.deref.ensures.value, c.deref_mut.ensures.value, own c) (λ k d l m n. set_later bs c.args.before.now.items c.args.place (changed c) c.index_mut.result.now c.requires.services c.requires.place is k d l (omega (arith, m, length-set bs c.args.place (changed c))) n)
