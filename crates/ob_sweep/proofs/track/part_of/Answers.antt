use Rattle.std.proofs.Common.{◌≡◌, ◌<◌, [], length, map, get_or, sym, ◌∙◌, ap, subst}
use Rattle.std.proofs.lemmas.List.{get_or-map}
use Rattle.ob_sweep.specs.Timeline.{AreOfNode, runs_at}
use Rattle.ob_sweep.proofs.track.part_of.Goals as goal

pub runs_of_source-requires-clause-some : goal.runs_of_source-requires-clause-some
runs_of_source-requires-clause-some c =
    let olds = c.args.old.now in
    let w = c.in-Some.source in
    let x = c.index-old-from.result in
    let within : w < length olds = c.requires.within w c.in-Some.is in
    let was : runs_at (map (λ l. l.items) olds) w ≡ c.deref.result.now =
    get_or-map (λ l. l.items) olds w x [] within
    ∙ ap (λ k. (get_or olds k x).items) (sym c.from.ensures)
    ∙ ap (λ l. l.items) (sym c.index-old-from.is)
    ∙ sym c.deref.ensures.value in
    (subst (AreOfNode w) was (c.requires.old_of_nodes w)).some

pub runs_of_source-requires-clause-rising : goal.runs_of_source-requires-clause-rising
runs_of_source-requires-clause-rising c =
    let olds = c.args.old.now in
    let w = c.in-Some.source in
    let x = c.index-old-from.result in
    let within : w < length olds = c.requires.within w c.in-Some.is in
    let was : runs_at (map (λ l. l.items) olds) w ≡ c.deref.result.now =
    get_or-map (λ l. l.items) olds w x [] within
    ∙ ap (λ k. (get_or olds k x).items) (sym c.from.ensures)
    ∙ ap (λ l. l.items) (sym c.index-old-from.is)
    ∙ sym c.deref.ensures.value in
    (subst (AreOfNode w) was (c.requires.old_of_nodes w)).rising
