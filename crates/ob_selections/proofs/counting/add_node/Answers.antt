use Rattle.std.proofs.Common.{◌≡◌, ◌+◌, ◌<◌, ℕ, Option, List, false, true, length, map, refl, ap, sym, subst, ◌∙◌, arith}
use Rattle.std.specs.List.{All}
use Rattle.std.proofs.lemmas.Bool.Decides.{nat_tests}
use Rattle.ob_cust.specs.Blocks.{sum_over_blocks, sum_over_customers}
use Rattle.ob_sweep.specs.Timeline.{IsSection}
use Rattle.ob_sweep.specs.declared.Run.{Run}
use Rattle.ob_time.specs.Calendar.{first_second_of, end_second_of}
use Rattle.ob_index.proofs.Sections.{runs_lie_within, section_of_customers}
use Rattle.ob_index.proofs.Served.{LieWithin}
use Rattle.ob_state.specs.State.{BookState}
use Rattle.ob_rows.specs.Outages.{IsOutage}
use Rattle.ob_rows.proofs.Outages.{are_outages}
use Rattle.ob_selections.specs.Selections.{has_section}
use Rattle.ob_selections.specs.Sums.{at_least}
use Rattle.ob_selections.proofs.Added.{more_none, more_same}
use Rattle.ob_selections.proofs.Bounds.{first_to_end}
use Rattle.ob_selections.proofs.Summed.{nobody, none_selected, over, on_section, over_section, reaches_none}
use Rattle.ob_selections.proofs.counting.add_node.Goals as goal

pub returns-then-not-has_section-clause-more : goal.returns-then-not-has_section-clause-more
returns-then-not-has_section-clause-more g c =
    let b : BookState = c.args.book.now.state in
    let x = c.args.selection.now in
    let off : has_section b x c.args.node ≡ false = sym c.has_section.ensures ∙ c.if-not-has_section.true in
    more_none (over b x (on_section c.args.node b.customers)) c.args.figures.now
    (none_selected b x c.args.node off (λ t. t.sustained) refl)
    (none_selected b x c.args.node off (λ t. t.seconds) refl)
    (none_selected b x c.args.node off (λ t. t.momentary) refl)
    (none_selected b x c.args.node off (λ t. t.served) refl)
    (λ j. none_selected b x c.args.node off (at_least (1 + j)) (reaches_none b x j))

pub add_blocks-requires-clause-outages : goal.add_blocks-requires-clause-outages
add_blocks-requires-clause-outages g c =
    let b : BookState = c.args.book.now.state in
    let lists = g.T.Timeline.content c.timeline.result.now in
    let blocks = c.section_blocks-blocks.result.now in
    let of = c.section_blocks-blocks.ensures in
    let empty = c.is_empty.ensures in
    let test = c.if-not-is_empty.true in
    let some : 0 < length blocks = grind (arith, nat_tests, empty, test) in
    let sums : (f : ℕ → Option ℕ → ℕ) → sum_over_blocks f (map (λ d. d.block) blocks) ≡ sum_over_customers f c.args.node b.customers = λ f. of.sums f ∙ ap (sum_over_customers f c.args.node) c.roll.ensures in
    let section : IsSection b.network c.args.node = section_of_customers b.network c.args.node b.customers blocks c.accepted.ensures.sound.state.sections of.positive sums some in
    subst (λ (rs : List Run). All (IsOutage b c.args.node) rs) (sym c.runs_of-runs.ensures.runs) (are_outages b lists c.timeline.ensures.runs c.args.node section)

pub add_blocks-requires-clause-within : goal.add_blocks-requires-clause-within
add_blocks-requires-clause-within g c =
    let b : BookState = c.args.book.now.state in
    let lists = g.T.Timeline.content c.timeline.result.now in
    let blocks = c.section_blocks-blocks.result.now in
    let of = c.section_blocks-blocks.ensures in
    let empty = c.is_empty.ensures in
    let test = c.if-not-is_empty.true in
    let some : 0 < length blocks = grind (arith, nat_tests, empty, test) in
    let sums : (f : ℕ → Option ℕ → ℕ) → sum_over_blocks f (map (λ d. d.block) blocks) ≡ sum_over_customers f c.args.node b.customers = λ f. of.sums f ∙ ap (sum_over_customers f c.args.node) c.roll.ensures in
    let section : IsSection b.network c.args.node = section_of_customers b.network c.args.node b.customers blocks c.accepted.ensures.sound.state.sections of.positive sums some in
    let first = first_second_of b.period in
    let end = end_second_of b.period in
    subst (λ (rs : List Run). LieWithin first end rs) (sym c.runs_of-runs.ensures.runs) (runs_lie_within b.network b.entries first end lists c.args.node c.timeline.ensures.runs section)

pub returns-then-not-is_empty-clause-more : goal.returns-then-not-is_empty-clause-more
returns-then-not-is_empty-clause-more g c =
    let b : BookState = c.args.book.now.state in
    let x = c.args.selection.now in
    let lists = g.T.Timeline.content c.timeline.result.now in
    let blocks = c.section_blocks-blocks.result.now in
    let of = c.section_blocks-blocks.ensures in
    let empty = c.is_empty.ensures in
    let test = c.if-not-is_empty.true in
    let some : 0 < length blocks = grind (arith, nat_tests, empty, test) in
    let sums : (f : ℕ → Option ℕ → ℕ) → sum_over_blocks f (map (λ d. d.block) blocks) ≡ sum_over_customers f c.args.node b.customers = λ f. of.sums f ∙ ap (sum_over_customers f c.args.node) c.roll.ensures in
    let section : IsSection b.network c.args.node = section_of_customers b.network c.args.node b.customers blocks c.accepted.ensures.sound.state.sections of.positive sums some in
    let has : has_section b x c.args.node ≡ true = sym c.has_section.ensures ∙ c.if-not-has_section.false in
    let le = first_to_end b.period c.accepted.ensures.sound.period in
    more_same _ (over b x (on_section c.args.node b.customers)) c.args.figures.now c.add_blocks.new.figures
    (over_section b x c.args.node blocks sums lists c.timeline.ensures.runs section le has c.runs_of-runs.result.now c.runs_of-runs.ensures.runs of.of_section)
    c.add_blocks.ensures.more

pub returns-else-not-is_empty-clause-more : goal.returns-else-not-is_empty-clause-more
returns-else-not-is_empty-clause-more g c =
    let b : BookState = c.args.book.now.state in
    let x = c.args.selection.now in
    let blocks = c.section_blocks-blocks.result.now in
    let of = c.section_blocks-blocks.ensures in
    let empty = c.is_empty.ensures in
    let test = c.if-not-is_empty.false in
    let none : length blocks ≡ 0 = grind (arith, nat_tests, empty, test) in
    let sums : (f : ℕ → Option ℕ → ℕ) → sum_over_blocks f (map (λ d. d.block) blocks) ≡ sum_over_customers f c.args.node b.customers = λ f. of.sums f ∙ ap (sum_over_customers f c.args.node) c.roll.ensures in
    more_none (over b x (on_section c.args.node b.customers)) c.args.figures.now
    (nobody b x c.args.node blocks sums none (λ t. t.sustained))
    (nobody b x c.args.node blocks sums none (λ t. t.seconds))
    (nobody b x c.args.node blocks sums none (λ t. t.momentary))
    (nobody b x c.args.node blocks sums none (λ t. t.served))
    (λ j. nobody b x c.args.node blocks sums none (at_least (1 + j)))
