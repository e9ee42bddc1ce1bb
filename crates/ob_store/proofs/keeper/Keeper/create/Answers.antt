use Rattle.std.proofs.Common.{◌≡◌, arith, Err, ap, subst}
use Rattle.std.specs.Prelude.{⊤}
use Rattle.std.specs.Option.{option_map_or}
use Rattle.sqlite.specs.Held.{Held}
use Rattle.ob_state.specs.States.{BookValue}
use Rattle.ob_store.specs.Creating.{HasCreateCause}
use Rattle.ob_store.specs.Keeping.{KeeperValue}
use Rattle.ob_store.proofs.keeper.Keeper.create.Goals as goal

pub returns-in-Err-clause-cause : goal.returns-in-Err-clause-cause
returns-in-Err-clause-cause g c clean store =
    let conn_is : c.parts.inside.conn ≡ c.args.self.now.parts.conn = ap (λ (k : KeeperValue g.row.S.Denot). k.conn) c.parts.view_is in
    subst (λ (h : Held g.row.S.Denot). HasCreateCause g.S.Store {X = ⊤} h c.create_on.new.conn c.args.first.now c.args.days c.args.zone.now (Err c.in-Err.stop)) conn_is
    (c.in-Err.ensures.cause clean) store

pub returns-in-Err-clause-unsearched : goal.returns-in-Err-clause-unsearched
returns-in-Err-clause-unsearched g c =
    let is : option_map_or (λ (b : BookValue). b.searches) c.parts.inside.book 0 ≡ c.args.self.now.parts.searches = ap (λ (k : KeeperValue g.row.S.Denot). k.searches) c.parts.view_is in
    omega (arith, is, c.settle.ensures.searches)
