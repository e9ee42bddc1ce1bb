use Rattle.std.proofs.lemmas.Result.{IfOk-weaker}
use Rattle.ob_time.specs.Calendar.{day_count}
use Rattle.ob_post.specs.MoveLaws.{change_from}
use Rattle.ob_post.proofs.posting.Posting.moves.Goals as goal

pub returns-clause-moves : goal.returns-clause-moves
returns-clause-moves c = λ old new b.
    let t = c.deref.ensures.value in
    let g = c.deref-2.ensures.value in
    IfOk-weaker c.moves.result _ _ (λ m h. h (day_count c.args.period.now) (change_from old new) (rw t b.taken) (rw g b.given) (λ dim key k. rw (t, g) (b.change dim key))) c.moves.ensures.changes
