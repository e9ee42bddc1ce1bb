use Rattle.std.proofs.Common.{◌≡◌, ◌∙◌, rules}
use Rattle.std.specs.List.{insert}
use Rattle.ob_cust.specs.declared.services.Before.{Before}
use Rattle.ob_cust.proofs.Edited.{inserted_services, inserted_front, inserted_later}
use Rattle.ob_cust.proofs.services.put.Goals as goal

blocks : (c : goal.After-deref_mut) → c.deref.result.now ≡ insert c.args.blocks.now.items c.args.place c.args.block
blocks c = c.deref.ensures.value ∙ c.in-Ok-Ok.ensures.items

abbrev no_sums : Before
no_sums = record { customers = 0; seconds = 0 }

before : (c : goal.After-deref_mut) → c.deref_mut.result.now ≡ insert c.args.before.now.items c.args.place no_sums
before c = c.deref_mut.ensures.value ∙ c.in-Ok-Ok.ensures'.items

pub carry-requires-clause-services : goal.carry-requires-clause-services
carry-requires-clause-services c =
    rw (blocks c) (inserted_services c.args.blocks.now.items c.args.place c.args.block c.requires.services.services c.requires.place c.requires.below c.requires.above c.requires.positive (search rules) c.requires.few)

pub carry-requires-clause-front : goal.carry-requires-clause-front
carry-requires-clause-front c =
    rw (blocks c, before c) (λ k l m. inserted_front c.args.blocks.now.items c.args.before.now.items c.args.place c.args.block no_sums c.requires.services c.requires.place k l)

pub carry-requires-clause-later : goal.carry-requires-clause-later
carry-requires-clause-later c =
    rw (blocks c, before c) (inserted_later c.args.blocks.now.items c.args.before.now.items c.args.place c.args.block no_sums c.requires.services c.requires.place)
