use Rattle.std.proofs.Common.{◌≡◌, arith, Ok, ap, subst}
use Rattle.std.specs.Option.{option_map, option_map_or}
use Rattle.sqlite.specs.Held.{Held}
use Rattle.ob_state.specs.States.{BookValue}
use Rattle.ob_store.specs.Keeping.{KeeperValue}
use Rattle.ob_store.specs.Finding.{HasNoBook}
use Rattle.ob_store.specs.Loading.{Finding}
use Rattle.ob_store.specs.Versions.{Tells}
use Rattle.ob_store.proofs.Holding.{audited_ok}
use Rattle.ob_store.proofs.keeper.Keeper.audit.Goals as goal

pub returns-in-Ok-clause-audited : goal.returns-in-Ok-clause-audited
returns-in-Ok-clause-audited g c clean schema =
    let new = c.audit_on.new.conn in
    let conn_is : c.parts.inside.conn ≡ c.args.self.now.parts.conn = ap (λ (k : KeeperValue g.row.S.Denot). k.conn) c.parts.view_is in
    let book_is : option_map (λ (b : BookValue). b.state) c.parts.inside.book ≡ c.args.self.now.parts.book = ap (λ (k : KeeperValue g.row.S.Denot). k.book) c.parts.view_is in
    let found = subst (λ (h : Held g.row.S.Denot). Tells g.S.Store Finding HasNoBook h new (Ok c.in-Ok.found)) conn_is c.in-Ok.ensures.tells in
    audited_ok g.S.Store c.args.self.now.parts (record { conn = new; book = option_map (λ (b : BookValue). b.state) c.parts.inside.book; searches = option_map_or (λ (b : BookValue). b.searches) c.parts.inside.book 0 }) schema clean c.in-Ok.found found book_is

pub returns-in-Ok-clause-searches : goal.returns-in-Ok-clause-searches
returns-in-Ok-clause-searches g c =
    let is : option_map_or (λ (b : BookValue). b.searches) c.parts.inside.book 0 ≡ c.args.self.now.parts.searches = ap (λ (k : KeeperValue g.row.S.Denot). k.searches) c.parts.view_is in
    omega (arith, is)

pub returns-in-Err-clause-searches : goal.returns-in-Err-clause-searches
returns-in-Err-clause-searches g c =
    let is : option_map_or (λ (b : BookValue). b.searches) c.parts.inside.book 0 ≡ c.args.self.now.parts.searches = ap (λ (k : KeeperValue g.row.S.Denot). k.searches) c.parts.view_is in
    omega (arith, is, c.settle.ensures.searches)
