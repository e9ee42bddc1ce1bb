use Rattle.std.proofs.Common.{◌≡◌, ◌<◌, ℕ, cond, length, get_or, take}
use Rattle.ob_net.specs.Nodes.{is_among}
use Rattle.ob_sweep.specs.declared.track.Track.{Track}
use Rattle.ob_sweep.proofs.track.set_sources.Given as goal

abbrev pub invariant-loop-node : goal.invariant-loop-node
invariant-loop-node l = record {
  count : length l.tracks ≡ length l.fn.tracks;
  runs : (v : ℕ) (d : Track) → (get_or l.tracks v d).runs ≡ (get_or l.fn.tracks v d).runs;
  reached : (v : ℕ) (d : Track) → (get_or l.tracks v d).reached ≡ (get_or l.fn.tracks v d).reached;
  sources : (v : ℕ) (d : Track) → v < length l.fn.tracks
      → (get_or l.tracks v d).source ≡ cond (is_among (take l.node-index l.nodes) v) l.source (get_or l.fn.tracks v d).source;
}
