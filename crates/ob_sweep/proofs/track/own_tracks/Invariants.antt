use Rattle.std.proofs.Common.{◌≡◌, ◌<◌, ℕ, Some, [], length, get_or}
use Rattle.ob_sweep.specs.declared.track.Track.{Track}
use Rattle.ob_sweep.proofs.track.own_tracks.Given as goal

abbrev pub invariant-loop-node : goal.invariant-loop-node
invariant-loop-node l = record {
  count : length l.tracks.items ≡ l.node;
  each : (v : ℕ) (d : Track) → v < l.node
      → ((get_or l.tracks.items v d).runs.items ≡ []) × ((get_or l.tracks.items v d).reached ≡ l.first) × ((get_or l.tracks.items v d).source ≡ Some v);
}
