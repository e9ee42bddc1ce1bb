use Rattle.std.proofs.Common.{◌≡◌, arith, Ok, ap, subst}
use Rattle.std.specs.Option.{option_map_or}
use Rattle.sqlite.specs.Held.{Held}
use Rattle.ob_state.specs.States.{BookValue}
use Rattle.ob_store.specs.Keeping.{KeeperValue}
use Rattle.ob_store.specs.Upgrading.{Migrates}
use Rattle.ob_store.proofs.keeper.Keeper.migrate.Goals as goal

pub returns-in-Ok-clause-migrated : goal.returns-in-Ok-clause-migrated
returns-in-Ok-clause-migrated g c clean schema =
    let conn_is : c.parts.inside.conn ≡ c.args.self.now.parts.conn = ap (λ (k : KeeperValue g.row.S.Denot). k.conn) c.parts.view_is in
    let it = subst (λ (h : Held g.row.S.Denot). Migrates g.S.Store h c.migrate_on.new.conn (Ok c.in-Ok.done)) conn_is c.in-Ok.ensures.migrates in
    it.migrated clean schema

pub returns-in-Ok-clause-searches : goal.returns-in-Ok-clause-searches
returns-in-Ok-clause-searches g c =
    let is : option_map_or (λ (b : BookValue). b.searches) c.parts.inside.book 0 ≡ c.args.self.now.parts.searches = ap (λ (k : KeeperValue g.row.S.Denot). k.searches) c.parts.view_is in
    omega (arith, is)

pub returns-in-Err-clause-searches : goal.returns-in-Err-clause-searches
returns-in-Err-clause-searches g c =
    let is : option_map_or (λ (b : BookValue). b.searches) c.parts.inside.book 0 ≡ c.args.self.now.parts.searches = ap (λ (k : KeeperValue g.row.S.Denot). k.searches) c.parts.view_is in
    omega (arith, is, c.settle.ensures.searches)
