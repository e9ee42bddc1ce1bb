use Rattle.std.proofs.Common.{◌≤◌, ◌==◌, ℕ, List, Bor, map, length, Ok, sym, ap, ◌∙◌, arith}
use Rattle.std.proofs.lemmas.List.{length-map}
use Rattle.ob_total.proofs.Unused.{used_here, unused_here, none_left}
use Rattle.ob_total.proofs.command.complete.Goals as goal

pub returns-then-not-is_empty-clause-value : goal.returns-then-not-is_empty-clause-value
returns-then-not-is_empty-clause-value g c =
    let row = map (λ (f : Bor (List ℕ)). f.now) c.args.row.now in
    let within : c.loop-number.number ≤ length row = rw length-map (omega arith) in
    let used = ap (λ (t : List ℕ). length t == 0) (sym c.column.ensures) ∙ sym c.is_empty.ensures ∙ c.if-not-is_empty.true in
    sym (sym c.loop-number.invariant ∙ used_here row c.loop-number.number (Ok c.args.value) (omega arith) within used)

pub loop-number-preserved : goal.loop-number-preserved
loop-number-preserved g c =
    let row = map (λ (f : Bor (List ℕ)). f.now) c.args.row.now in
    let within : c.loop-number.number ≤ length row = rw length-map (omega arith) in
    let empty = ap (λ (t : List ℕ). length t == 0) (sym c.column.ensures) ∙ sym c.is_empty.ensures ∙ c.if-not-is_empty.false in
    sym (unused_here row c.loop-number.number (Ok c.args.value) (omega arith) within empty) ∙ c.loop-number.invariant

pub returns-clause-value : goal.returns-clause-value
returns-clause-value g c =
    let row = map (λ (f : Bor (List ℕ)). f.now) c.args.row.now in
    sym (sym c.loop-number.invariant ∙ none_left row c.loop-number.number (Ok c.args.value) (rw length-map (omega arith)))
