use Rattle.std.proofs.Common.{◌≡◌, arith, Option, Some, Err, sym, ap, subst, ◌∙◌}
use Rattle.std.specs.Prelude.{⊤, IfSome}
use Rattle.std.specs.Option.{option_map, option_map_or}
use Rattle.sqlite.specs.Held.{Held, state}
use Rattle.sqlite.specs.State.{Survives}
use Rattle.ob_state.specs.State.{BookState}
use Rattle.ob_state.specs.States.{BookValue}
use Rattle.ob_book.specs.Acts.{ActState}
use Rattle.ob_sql_write.specs.Keeps.{KeepsNumbers}
use Rattle.ob_store.specs.Acting.{HasActCause, under}
use Rattle.ob_store.specs.Keeping.{KeeperValue, KeepsBook, Ties}
use Rattle.ob_store.proofs.Searching.{searched_over, searches_of_some, state_of_some}
use Rattle.ob_store.proofs.keeper.Keeper.act.Given as given
use Rattle.ob_store.proofs.keeper.Keeper.act.Goals as goal

-- what the connection survived
survives_from : (g : given.Over) (k : KeeperValue g.row.S.Denot) (conn new : Held g.row.S.Denot) → conn ≡ k.conn
    → Survives (state g.S.Store conn) (state g.S.Store new) (λ _. ⊤) → Survives (state g.S.Store k.conn) (state g.S.Store new) (λ _. ⊤)
survives_from g k conn new conn_is = subst (λ (h : Held g.row.S.Denot). Survives (state g.S.Store h) (state g.S.Store new) (λ _. ⊤)) conn_is

module _ (g : given.Over) (k : KeeperValue g.row.S.Denot) (conn : Held g.row.S.Denot) (conn_is : conn ≡ k.conn) (b : ActState) where
  keeps_in : Ties g.S.Store k b → KeepsBook (state g.S.Store conn) b
  keeps_in ties = subst (λ (h : Held g.row.S.Denot). KeepsBook (state g.S.Store h) b) (sym conn_is) ties.kept

  numbers_in : KeepsNumbers (state g.S.Store k.conn) → KeepsNumbers (state g.S.Store conn)
  numbers_in numbers = subst (λ (h : Held g.row.S.Denot). KeepsNumbers (state g.S.Store h)) (sym conn_is) numbers

  -- the book that there is has the state of the tables' book
  same_in : (book : Option BookValue) (it : BookValue) → option_map (λ (x : BookValue). x.state) book ≡ k.book → book ≡ Some it → Ties g.S.Store k b → it.state ≡ b.book
  same_in book it book_is some ties =
      subst (λ (o : Option BookState). IfSome o (λ s. s ≡ b.book)) (sym book_is ∙ ap (option_map (λ (x : BookValue). x.state)) some) ties.book

pub returns-in-Ok-clause-numbered : goal.returns-in-Ok-clause-numbered
returns-in-Ok-clause-numbered g c b ties numbers =
    let k = c.args.self.now.parts in
    let conn = c.parts.inside.conn in
    let conn_is : conn ≡ k.conn = ap (λ (x : KeeperValue g.row.S.Denot). x.conn) c.parts.view_is in
    let book_is : option_map (λ (x : BookValue). x.state) c.parts.inside.book ≡ k.book = ap (λ (x : KeeperValue g.row.S.Denot). x.book) c.parts.view_is in
    c.act_on.ensures.numbered b (keeps_in g k conn conn_is b ties) (same_in g k conn conn_is b c.parts.inside.book c.in-Some.book book_is c.in-Some.is ties) (numbers_in g k conn conn_is b numbers)

pub returns-in-Err-clause-numbered : goal.returns-in-Err-clause-numbered
returns-in-Err-clause-numbered g c b ties numbers =
    let k = c.args.self.now.parts in
    let conn = c.parts.inside.conn in
    let conn_is : conn ≡ k.conn = ap (λ (x : KeeperValue g.row.S.Denot). x.conn) c.parts.view_is in
    let book_is : option_map (λ (x : BookValue). x.state) c.parts.inside.book ≡ k.book = ap (λ (x : KeeperValue g.row.S.Denot). x.book) c.parts.view_is in
    c.act_on.ensures.numbered b (keeps_in g k conn conn_is b ties) (same_in g k conn conn_is b c.parts.inside.book c.in-Some.book book_is c.in-Some.is ties) (numbers_in g k conn conn_is b numbers)

pub returns-in-Err-clause-cause : goal.returns-in-Err-clause-cause
returns-in-Err-clause-cause g c clean b ties some numbers store =
    let k = c.args.self.now.parts in
    let conn = c.parts.inside.conn in
    let conn_is : conn ≡ k.conn = ap (λ (x : KeeperValue g.row.S.Denot). x.conn) c.parts.view_is in
    let book_is : option_map (λ (x : BookValue). x.state) c.parts.inside.book ≡ k.book = ap (λ (x : KeeperValue g.row.S.Denot). x.book) c.parts.view_is in
    let cause = c.in-Err.ensures.cause clean b (keeps_in g k conn conn_is b ties) (numbers_in g k conn conn_is b numbers) (same_in g k conn conn_is b c.parts.inside.book c.in-Some.book book_is c.in-Some.is ties) in
    subst (λ (h : Held g.row.S.Denot). HasActCause g.S.Store {X = ⊤} h c.act_on.new.conn b (under c.args.reference c.args.command) (Err c.in-Err.stop)) conn_is cause store

pub returns-in-Ok-clause-survives : goal.returns-in-Ok-clause-survives
returns-in-Ok-clause-survives g c = survives_from g c.args.self.now.parts c.parts.inside.conn c.act_on.new.conn (ap (λ (x : KeeperValue g.row.S.Denot). x.conn) c.parts.view_is) c.act_on.ensures.survives

pub returns-in-Err-clause-survives : goal.returns-in-Err-clause-survives
returns-in-Err-clause-survives g c = survives_from g c.args.self.now.parts c.parts.inside.conn c.act_on.new.conn (ap (λ (x : KeeperValue g.row.S.Denot). x.conn) c.parts.view_is) c.act_on.ensures.survives

pub returns-in-Ok-clause-searches : goal.returns-in-Ok-clause-searches
returns-in-Ok-clause-searches g c s is =
    let k = c.args.self.now.parts in
    let book_is : option_map (λ (x : BookValue). x.state) c.parts.inside.book ≡ k.book = ap (λ (x : KeeperValue g.row.S.Denot). x.book) c.parts.view_is in
    let searches_is : option_map_or (λ (x : BookValue). x.searches) c.parts.inside.book 0 ≡ k.searches = ap (λ (x : KeeperValue g.row.S.Denot). x.searches) c.parts.view_is in
    let before = searches_of_some c.parts.inside.book c.in-Some.book c.in-Some.is k.searches searches_is in
    let most = searched_over g.T.Timeline.bound c.in-Some.book.state s c.args.command k.searches c.in-Some.book.searches c.act_on.new.book.searches
    (state_of_some c.parts.inside.book c.in-Some.book c.in-Some.is k.book s book_is is) before c.act_on.ensures.searches in
    most

pub returns-in-Ok-clause-searched : goal.returns-in-Ok-clause-searched
returns-in-Ok-clause-searched g c clean b ties some =
    let k = c.args.self.now.parts in
    let conn = c.parts.inside.conn in
    let conn_is : conn ≡ k.conn = ap (λ (x : KeeperValue g.row.S.Denot). x.conn) c.parts.view_is in
    let book_is : option_map (λ (x : BookValue). x.state) c.parts.inside.book ≡ k.book = ap (λ (x : KeeperValue g.row.S.Denot). x.book) c.parts.view_is in
    let searches_is : option_map_or (λ (x : BookValue). x.searches) c.parts.inside.book 0 ≡ k.searches = ap (λ (x : KeeperValue g.row.S.Denot). x.searches) c.parts.view_is in
    let before = searches_of_some c.parts.inside.book c.in-Some.book c.in-Some.is k.searches searches_is in
    let few = c.act_on.ensures.searched clean b (keeps_in g k conn conn_is b ties) (same_in g k conn conn_is b c.parts.inside.book c.in-Some.book book_is c.in-Some.is ties) in
    omega (arith, before, few)

pub returns-in-Err-clause-searches : goal.returns-in-Err-clause-searches
returns-in-Err-clause-searches g c s is =
    let k = c.args.self.now.parts in
    let book_is : option_map (λ (x : BookValue). x.state) c.parts.inside.book ≡ k.book = ap (λ (x : KeeperValue g.row.S.Denot). x.book) c.parts.view_is in
    let searches_is : option_map_or (λ (x : BookValue). x.searches) c.parts.inside.book 0 ≡ k.searches = ap (λ (x : KeeperValue g.row.S.Denot). x.searches) c.parts.view_is in
    let before = searches_of_some c.parts.inside.book c.in-Some.book c.in-Some.is k.searches searches_is in
    let most = searched_over g.T.Timeline.bound c.in-Some.book.state s c.args.command k.searches c.in-Some.book.searches c.act_on.new.book.searches
    (state_of_some c.parts.inside.book c.in-Some.book c.in-Some.is k.book s book_is is) before c.act_on.ensures.searches in
    omega (arith, most, c.settle.ensures.searches)

pub returns-in-Err-clause-searched : goal.returns-in-Err-clause-searched
returns-in-Err-clause-searched g c clean b ties some =
    let k = c.args.self.now.parts in
    let conn = c.parts.inside.conn in
    let conn_is : conn ≡ k.conn = ap (λ (x : KeeperValue g.row.S.Denot). x.conn) c.parts.view_is in
    let book_is : option_map (λ (x : BookValue). x.state) c.parts.inside.book ≡ k.book = ap (λ (x : KeeperValue g.row.S.Denot). x.book) c.parts.view_is in
    let searches_is : option_map_or (λ (x : BookValue). x.searches) c.parts.inside.book 0 ≡ k.searches = ap (λ (x : KeeperValue g.row.S.Denot). x.searches) c.parts.view_is in
    let before = searches_of_some c.parts.inside.book c.in-Some.book c.in-Some.is k.searches searches_is in
    let few = c.act_on.ensures.searched clean b (keeps_in g k conn conn_is b ties) (same_in g k conn conn_is b c.parts.inside.book c.in-Some.book book_is c.in-Some.is ties) in
    omega (arith, before, few, c.settle.ensures.searches)
