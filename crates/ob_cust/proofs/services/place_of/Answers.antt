use Rattle.std.proofs.Common.{rules}
use Rattle.std.proofs.lemmas.List.Sorted.{answers_always}
use Rattle.ob_cust.specs.Services.{key}
use Rattle.ob_cust.proofs.Keyed.{keyed_search}
use Rattle.ob_cust.proofs.services.place_of.Goals as goal

pub returns : goal.returns
returns c =
    let facts = c.binary_search_by_key.ensures in
    let by_key = facts.position key (answers_always _ _ _ (λ f a r g called. search rules)) in
    let place = keyed_search (c.args.section, (c.args.since, c.args.until)) c.args.blocks.now c.binary_search_by_key.result c.requires.ordered facts.bound by_key in
    record { found = place.found; same = place.same; bound = place.bound; below = place.below; above = place.above }
