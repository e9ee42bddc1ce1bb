use Rattle.std.proofs.Common.{◌≡◌, not, cond, List, [], ◌∷◌, sym, ◌∙◌, ap}
use Rattle.ob_sweep.specs.declared.Run.{Run}
use Rattle.ob_sweep.specs.Splice.{join}
use Rattle.ob_sweep.specs.declared.track.Track.{Track}
use Rattle.ob_sweep.proofs.Push.{join-nil}
use Rattle.ob_sweep.proofs.track.add_second.Goals as goal
use Rattle.ob_sweep.proofs.track.add_second.Goals.{then-not-is_supplied+in_ok-append_joined, else-not-is_supplied}

pub returns-clause-runs : goal.returns-clause-runs
returns-clause-runs c =
    let was : List Run = c.args.track.now.runs.items in
    let single : Run = record { section = c.args.node; since = c.args.second; until = c.args.end; cutter = c.args.cutter } in
    elim c.if-not-is_supplied.branch as (λ _. c.if-not-is_supplied.track.runs.items ≡ join c.args.second was (cond (not c.args.is_supplied) (single ∷ []) [])) [
      | then-not-is_supplied+in_ok-append_joined w ↦
          ap (λ (x : Track). x.runs.items) w.track-is ∙ w.in_ok-append_joined.ensures
          ∙ sym (ap (λ b. join c.args.second was (cond (not b) (single ∷ []) [])) w.if-not-is_supplied.true)
      | else-not-is_supplied w ↦
          ap (λ (x : Track). x.runs.items) w.track-is ∙ sym (join-nil c.args.second was)
          ∙ sym (ap (λ b. join c.args.second was (cond (not b) (single ∷ []) [])) w.if-not-is_supplied.false)
    ]
