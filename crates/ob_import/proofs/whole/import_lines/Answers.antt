use Rattle.std.proofs.Common.{ℕ, List, Option, Some, Bor, Ok, Err, ap, refl}
use Rattle.ob_csv.specs.Rows.{rows_of}
use Rattle.ob_import.specs.Imports.{after_header}
use Rattle.ob_import.proofs.Taking.{body_of, few_given, no_body, runs_over}
use Rattle.ob_import.proofs.Wholly.{runs_headless, runs_starved}
use Rattle.ob_import.proofs.whole.import_lines.Goals as goal

-- the bytes of a slice
abbrev bytes_in : Bor (List ℕ) → Option (List ℕ)
bytes_in text = Some text.now

pub returns : goal.returns
returns g c =
    let all = rows_of c.args.text.items in
    let it = body_of bytes_in (after_header all) c.in-Ok-Some.lines (rw c.in-Ok-Some.field-0-is at (c.in-Ok-Some.ensures.body all (rw c.as_slice-2.ensures.value refl))) in
    let acted = c.act_all-run.ensures in
    runs_over _ c.args.keeper.now c.act_all-run.new.self all it.0 c.in-Ok-Some.lines c.act_all-run.new.lines g.T.Timeline.bound c.act_all-run.result c.end_of.result it.1 it.2 it.3 it.4 acted.clean (acted.faults c.requires) acted.numbered
    acted.over c.end_of.ensures

pub returns-in-Ok-None : goal.returns-in-Ok-None
returns-in-Ok-None g c =
    let all = rows_of c.args.text.items in
    let none = no_body bytes_in (after_header all) (rw c.in-Ok-None.field-0-is at (c.in-Ok-None.ensures.body all (rw c.as_slice-2.ensures.value refl))) in
    runs_headless c.args.keeper.now all (Ok c.stopped_at.result) none (ap Ok c.stopped_at.ensures)

pub returns-in-Err : goal.returns-in-Err
returns-in-Err g c =
    runs_starved c.args.keeper.now (rows_of c.args.text.items) c.in-Err.fault (Err c.nothing_added.result) c.in-Err.ensures.faults (ap Err c.nothing_added.ensures)

-- ---- what the report counts
pub end_of-requires-clause-few : goal.end_of-requires-clause-few
end_of-requires-clause-few g c =
    let it = body_of bytes_in (after_header (rows_of c.args.text.items)) c.in-Ok-Some.lines (rw c.in-Ok-Some.field-0-is at (c.in-Ok-Some.ensures.body (rows_of c.args.text.items) (rw c.as_slice-2.ensures.value refl))) in
    (few_given _ c.args.keeper.now c.act_all-run.new.self c.in-Ok-Some.lines c.act_all-run.new.lines g.T.Timeline.bound c.act_all-run.result it.3 c.act_all-run.ensures.over).2

pub end_of-requires-clause-added : goal.end_of-requires-clause-added
end_of-requires-clause-added g c =
    let it = body_of bytes_in (after_header (rows_of c.args.text.items)) c.in-Ok-Some.lines (rw c.in-Ok-Some.field-0-is at (c.in-Ok-Some.ensures.body (rows_of c.args.text.items) (rw c.as_slice-2.ensures.value refl))) in
    (few_given _ c.args.keeper.now c.act_all-run.new.self c.in-Ok-Some.lines c.act_all-run.new.lines g.T.Timeline.bound c.act_all-run.result it.3 c.act_all-run.ensures.over).0

pub end_of-requires-clause-place : goal.end_of-requires-clause-place
end_of-requires-clause-place g c =
    let it = body_of bytes_in (after_header (rows_of c.args.text.items)) c.in-Ok-Some.lines (rw c.in-Ok-Some.field-0-is at (c.in-Ok-Some.ensures.body (rows_of c.args.text.items) (rw c.as_slice-2.ensures.value refl))) in
    (few_given _ c.args.keeper.now c.act_all-run.new.self c.in-Ok-Some.lines c.act_all-run.new.lines g.T.Timeline.bound c.act_all-run.result it.3 c.act_all-run.ensures.over).1
