use Rattle.std.proofs.Common.{◌≡◌, ◌∙◌, ◌++◌, List, ℕ, ap, arith}
use Rattle.std.specs.List.{filter_map, flat_map, range_with_len}
use Rattle.ob_state.specs.State.{BookState}
use Rattle.ob_selections.specs.IndexText.{key_lines, place_lines}
use Rattle.ob_selections.specs.Listed.{places_of, selection_at}
use Rattle.ob_selections.proofs.Growing.{one_more}
use Rattle.ob_selections.proofs.text.push_all.Goals as goal

pub loop-place-preserved : goal.loop-place-preserved
loop-place-preserved g c =
    let b : BookState = c.args.book.now.state in
    c.in_ok-push_place.ensures.ok
    ∙ ap (λ (t : List ℕ). t ++ place_lines b c.args.by c.args.longest c.loop-place.place) c.loop-place.invariant
    ∙ one_more (selection_at b c.args.by c.args.longest) (key_lines b) c.loop-place.place c.args.text.now.items

pub returns-clause-ok : goal.returns-clause-ok
returns-clause-ok g c =
    let b : BookState = c.args.book.now.state in
    let all : c.loop-place.place ≡ places_of b c.args.by = omega (arith, c.loop-place-test.false, c.loop-place.auto.place-end, c.places_of-place-end.ensures) in
    c.loop-place.invariant
    ∙ ap (λ n. c.args.text.now.items ++ flat_map (key_lines b) (filter_map (selection_at b c.args.by c.args.longest) (range_with_len 0 n))) all
