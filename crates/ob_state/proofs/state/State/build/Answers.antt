use Rattle.std.proofs.Common.{◌<◌, ◌≤◌}
use Rattle.std.proofs.lemmas.List.Elements.{All-filter}
use Rattle.ob_time.specs.Calendar.{first_second_of, end_second_of}
use Rattle.ob_state.proofs.state.State.build.Goals as goal

pub build-requires-clause-between : goal.build-requires-clause-between
build-requires-clause-between g c =
    rw c.deref.ensures (All-filter (λ e. e.kept) (λ e. (first_second_of c.self.inside.period ≤ e.second) × (e.second < end_second_of c.self.inside.period)) c.self.inside.sheet.entries c.self.invariant.between)
