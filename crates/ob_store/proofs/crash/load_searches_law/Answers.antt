use Rattle.ob_store.proofs.Searching.{loads_as_replayed, replay_grows}
use Rattle.ob_store.proofs.crash.load_searches_law.Goals as goal

pub returns : goal.returns
returns g c = record {
  grows = replay_grows c.searches_law.ensures.both c.searches_law.ensures.add_up;
  loads = loads_as_replayed g.S.Store c.naming_law.ensures.few;
}
