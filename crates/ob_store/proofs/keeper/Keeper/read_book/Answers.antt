use Rattle.std.proofs.Common.{◌≡◌, arith, rules, IsTrue, Option, Ok, Err, Some, refl, ap, subst}
use Rattle.std.specs.Prelude.{⊤}
use Rattle.std.specs.Option.{option_map, option_map_or}
use Rattle.sqlite.specs.Held.{Held, state}
use Rattle.sqlite.specs.State.{IsLive}
use Rattle.ob_state.specs.State.{BookState}
use Rattle.ob_state.specs.States.{BookValue}
use Rattle.ob_store.specs.Keeping.{Answers, IsBookAfter, KeeperValue}
use Rattle.ob_store.specs.Versions.{Tells}
use Rattle.ob_store.specs.Loading.{Holding, HoldsNoBook}
use Rattle.ob_store.proofs.Asking.{answers_err, answers_ok}
use Rattle.ob_store.proofs.Holding.{loaded_ok, loaded_stopped}
use Rattle.sqlite.specs.State.{HasCleanDisk}
use Rattle.ob_sql_rows.specs.Schema.{book_schema}
use Rattle.ob_store.specs.Searching.{IsSearchedFor}
use Rattle.ob_store.proofs.keeper.Keeper.read_book.Goals as goal

pub returns-in-Ok-clause-loaded : goal.returns-in-Ok-clause-loaded
returns-in-Ok-clause-loaded g c clean schema =
    let new = c.load_on-read.new.conn in
    let conn_is : c.parts.inside.conn ≡ c.args.self.now.parts.conn = ap (λ (k : KeeperValue g.row.S.Denot). k.conn) c.parts.view_is in
    let found = subst (λ (h : Held g.row.S.Denot). Tells g.S.Store (λ trees (b : BookValue). Holding trees b.state) HoldsNoBook h new (Ok c.in-Ok.book)) conn_is c.in-Ok.ensures.tells in
    let settled = subst (λ (h : Held g.row.S.Denot). IsTrue (state g.S.Store h).is_open → (state g.S.Store h).now ≡ (state g.S.Store h).committed) conn_is (λ live. c.if-prove.ensures.settled (search rules) live) in
    loaded_ok g.S.Store (λ (b : BookValue). b.state) c.args.self.now.parts (record { conn = new; book = Some c.in-Ok.book.state; searches = c.in-Ok.book.searches }) schema clean c.in-Ok.book found
    (subst (λ (h : Held g.row.S.Denot). IsLive (state g.S.Store h)) conn_is c.schema-schema.ensures.live) settled (λ live trees may. g.met.S.Store.settled new.store trees live may) refl

pub returns-in-Ok-clause-answers : goal.returns-in-Ok-clause-answers
returns-in-Ok-clause-answers g c =
    let new = c.load_on-read.new.conn in
    let conn_is : c.parts.inside.conn ≡ c.args.self.now.parts.conn = ap (λ (k : KeeperValue g.row.S.Denot). k.conn) c.parts.view_is in
    answers_ok g.S.Store c.args.self.now.parts.conn new c.in-Ok.book tt (subst (λ (h : Held g.row.S.Denot). Answers g.S.Store h new (Ok c.in-Ok.book)) conn_is c.in-Ok.ensures.answers)

pub returns-in-Err-clause-answers : goal.returns-in-Err-clause-answers
returns-in-Err-clause-answers g c =
    let new = c.load_on-read.new.conn in
    let conn_is : c.parts.inside.conn ≡ c.args.self.now.parts.conn = ap (λ (k : KeeperValue g.row.S.Denot). k.conn) c.parts.view_is in
    answers_err g.S.Store {X = BookValue} {Y = ⊤} c.args.self.now.parts.conn new c.in-Err.stop (subst (λ (h : Held g.row.S.Denot). Answers g.S.Store {X = BookValue} h new (Err c.in-Err.stop)) conn_is c.in-Err.ensures.answers)

pub returns-in-Err-clause-loaded : goal.returns-in-Err-clause-loaded
returns-in-Err-clause-loaded g c clean schema =
    let new = c.load_on-read.new.conn in
    let stop = c.in-Err.stop in
    let book : Option BookState = option_map (λ (b : BookValue). b.state) c.settle.new.book in
    let conn_is : c.parts.inside.conn ≡ c.args.self.now.parts.conn = ap (λ (k : KeeperValue g.row.S.Denot). k.conn) c.parts.view_is in
    let book_is : option_map (λ (b : BookValue). b.state) c.parts.inside.book ≡ c.args.self.now.parts.book = ap (λ (k : KeeperValue g.row.S.Denot). k.book) c.parts.view_is in
    let found = subst (λ (h : Held g.row.S.Denot). Tells g.S.Store (λ trees (b : BookValue). Holding trees b.state) HoldsNoBook h new (Err stop)) conn_is c.in-Err.ensures.tells in
    loaded_stopped g.S.Store (λ (b : BookValue). b.state) c.args.self.now.parts (record { conn = new; book = book; searches = option_map_or (λ (b : BookValue). b.searches) c.settle.new.book 0 }) schema clean stop found
    (subst (λ (o : Option BookState). IsBookAfter o book stop) book_is c.settle.ensures.after)

pub returns-in-Ok-clause-searches : goal.returns-in-Ok-clause-searches
returns-in-Ok-clause-searches g c =
    let conn_is : c.parts.inside.conn ≡ c.args.self.now.parts.conn = ap (λ (k : KeeperValue g.row.S.Denot). k.conn) c.parts.view_is in
    subst (λ (h : Held g.row.S.Denot). HasCleanDisk (state g.S.Store c.load_on-read.new.conn) → h.schema ≡ book_schema → IsSearchedFor g.T.Timeline.bound (state g.S.Store h).now.trees c.in-Ok.book.searches) conn_is c.in-Ok.ensures.searches

pub returns-in-Err-clause-searches : goal.returns-in-Err-clause-searches
returns-in-Err-clause-searches g c =
    let is : option_map_or (λ (b : BookValue). b.searches) c.parts.inside.book 0 ≡ c.args.self.now.parts.searches = ap (λ (k : KeeperValue g.row.S.Denot). k.searches) c.parts.view_is in
    omega (arith, is, c.settle.ensures.searches)
