use Rattle.std.proofs.Common.{◌≡◌, ◌∙◌}
use Rattle.std.specs.List.{remove}
use Rattle.ob_cust.proofs.Edited.{removed_services, removed_front, removed_later, removed_from}
use Rattle.ob_cust.proofs.services.take_out.Goals as goal

blocks : (c : goal.After-deref_mut) → c.deref.result.now ≡ remove c.args.blocks.now.items c.args.place
blocks c = c.deref.ensures.value ∙ c.remove-section.ensures.items

before : (c : goal.After-deref_mut) → c.deref_mut.result.now ≡ remove c.args.before.now.items c.args.place
before c = c.deref_mut.ensures.value ∙ c.remove.ensures.items

pub carry-requires-clause-services : goal.carry-requires-clause-services
carry-requires-clause-services c = rw (blocks c) (removed_services c.args.blocks.now.items c.args.place c.requires.services.services c.requires.place)

pub carry-requires-clause-front : goal.carry-requires-clause-front
carry-requires-clause-front c =
    rw (blocks c, before c) (λ k l m. removed_front c.args.blocks.now.items c.args.before.now.items c.args.place c.requires.services c.requires.place k l)

pub carry-requires-clause-from : goal.carry-requires-clause-from
carry-requires-clause-from c =
    rw (blocks c) (removed_from c.args.blocks.now.items c.args.place c.remove-section.result c.requires.services.services c.requires.place c.remove-section.ensures.value)

pub carry-requires-clause-later : goal.carry-requires-clause-later
carry-requires-clause-later c =
    rw (blocks c, before c) (removed_later c.args.blocks.now.items c.args.before.now.items c.args.place c.remove-section.result c.requires.services c.requires.place c.remove-section.ensures.value)
