use Rattle.std.proofs.Common.{get_or}
use Rattle.ob_csv.proofs.WholeLaws.{scan_none, scan_on, scan_row, take_byte}
use Rattle.ob_csv.proofs.whole.last_row_end.Goals.{in-RowStart, in_default}
use Rattle.ob_csv.proofs.whole.last_row_end.Goals as goal

pub loop-at-init : goal.loop-at-init
loop-at-init c = scan_none c.args.text.now

pub loop-at-preserved : goal.loop-at-preserved
loop-at-preserved c =
    let text = c.args.text.now in
    let more = take_byte text c.loop-at.at c.loop-at-test.true in
    elim c.match-place.branch [
      | in-RowStart w ↦ rw w.end-is (scan_row text c.loop-at.place c.behind-place.result c.loop-at.at c.loop-at.end (get_or text c.loop-at.at 0) c.loop-at.invariant more c.behind-place.ensures w.in-RowStart.is)
      | in_default w ↦ rw w.end-is (scan_on text c.loop-at.place c.behind-place.result c.loop-at.at c.loop-at.end (get_or text c.loop-at.at 0) c.loop-at.invariant more c.behind-place.ensures w.in_default.not-RowStart)
    ]
