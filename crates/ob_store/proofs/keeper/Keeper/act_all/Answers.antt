use Rattle.std.proofs.Common.{◌≡◌, arith, rules, true, false, Option, Some, None, Err, refl, sym, ap, subst, ◌∙◌}
use Rattle.std.specs.Prelude.{⊤, IfSome}
use Rattle.std.specs.Option.{option_map, option_map_or}
use Rattle.sqlite.specs.Held.{Held, state}
use Rattle.sqlite.specs.State.{HasCleanDisk}
use Rattle.ob_base.specs.declared.stop.Stop.TheVariants.{Fault}
use Rattle.ob_base.specs.declared.stop.Fault.TheVariants.{Reopen}
use Rattle.ob_state.specs.State.{BookState}
use Rattle.ob_state.specs.States.{BookValue}
use Rattle.ob_book.specs.Acts.{ActState}
use Rattle.ob_book.specs.Searches.{Bound}
use Rattle.ob_sql_write.specs.Keeps.{KeepsNumbers}
use Rattle.ob_store.specs.Calls.{ActsOnList}
use Rattle.ob_store.specs.Keepers.{Ghosts, book_of}
use Rattle.ob_store.specs.Keeping.{KeeperValue, KeepsBook, Ties}
use Rattle.ob_store.specs.Lines.{Gives, OverLines}
use Rattle.ob_store.specs.Whole.{HasListCause}
use Rattle.ob_store.specs.declared.keeper.Keeper.{Keeper}
use Rattle.ob_store.proofs.Committing.{acted_ok, commits_of, survives_same}
use Rattle.ob_store.proofs.Giving.{begins_all, over_any, over_each}
use Rattle.ob_store.proofs.Searching.{searches_of_some}
use Rattle.ob_store.proofs.keeper.Keeper.act_all.Given as given
use Rattle.ob_store.proofs.keeper.Keeper.act_all.Goals as goal

module _ (g : given.Over) (k : KeeperValue g.row.S.Denot) (conn : Held g.row.S.Denot) (conn_is : conn ≡ k.conn) (b : ActState) where
  keeps_in : Ties g.S.Store k b → KeepsBook (state g.S.Store conn) b
  keeps_in ties = subst (λ (h : Held g.row.S.Denot). KeepsBook (state g.S.Store h) b) (sym conn_is) ties.kept

  numbers_in : KeepsNumbers (state g.S.Store k.conn) → KeepsNumbers (state g.S.Store conn)
  numbers_in numbers = subst (λ (h : Held g.row.S.Denot). KeepsNumbers (state g.S.Store h)) (sym conn_is) numbers

  -- the book that there is has the state of the tables' book
  same_in : (book : Option BookValue) (it : BookValue) → option_map (λ (x : BookValue). x.state) book ≡ k.book → book ≡ Some it → Ties g.S.Store k b → it.state ≡ b.book
  same_in book it book_is some ties =
      subst (λ (o : Option BookState). IfSome o (λ s. s ≡ b.book)) (sym book_is ∙ ap (option_map (λ (x : BookValue). x.state)) some) ties.book

pub returns-in-Ok-clause-over : goal.returns-in-Ok-clause-over
returns-in-Ok-clause-over g c =
    let k = c.args.self.now.parts in
    let conn = c.parts.inside.conn in
    let conn_is : conn ≡ k.conn = ap (λ (x : KeeperValue g.row.S.Denot). x.conn) c.parts.view_is in
    let book_is : option_map (λ (x : BookValue). x.state) c.parts.inside.book ≡ k.book = ap (λ (x : KeeperValue g.row.S.Denot). x.book) c.parts.view_is in
    let kept = keeps_in g k conn conn_is in
    let same = same_in g k conn conn_is in
    let was_is = sym book_is ∙ ap (option_map (λ (x : BookValue). x.state)) c.in-Some.is in
    let searches_is : option_map_or (λ (x : BookValue). x.searches) c.parts.inside.book 0 ≡ k.searches = ap (λ (x : KeeperValue g.row.S.Denot). x.searches) c.parts.view_is in
    let before = searches_of_some c.parts.inside.book c.in-Some.book c.in-Some.is k.searches searches_is in
    over_each g.L.Lines.gives c.args.lines.now c.act_all_on.new.lines _ _ c.in-Ok.ensures.over (λ list it. record {
      few = it.few;
      within = tt;
      acted = λ clean b ties some. acted_ok g.S.Store c.act_all_on.new.conn c.act_all_on.new.book.state c.act_all_on.new.book.searches b list c.in-Ok.added
          (it.acts clean b (kept b ties) (same b c.parts.inside.book c.in-Some.book book_is c.in-Some.is ties));
      cause = λ clean b ties some numbers. tt;
      commits = commits_of g.S.Store k conn c.act_all_on.new.conn (Some c.act_all_on.new.book.state) c.act_all_on.new.book.searches c.in-Some.book.state list conn_is was_is it.survives;
      searched = λ clean b ties some.
          let few = it.searched clean b (kept b ties) (same b c.parts.inside.book c.in-Some.book book_is c.in-Some.is ties) in
          omega (arith, before, few);
    })

pub returns-in-Err-clause-over : goal.returns-in-Err-clause-over
returns-in-Err-clause-over g c =
    let k = c.args.self.now.parts in
    let conn = c.parts.inside.conn in
    let conn_is : conn ≡ k.conn = ap (λ (x : KeeperValue g.row.S.Denot). x.conn) c.parts.view_is in
    let book_is : option_map (λ (x : BookValue). x.state) c.parts.inside.book ≡ k.book = ap (λ (x : KeeperValue g.row.S.Denot). x.book) c.parts.view_is in
    let kept = keeps_in g k conn conn_is in
    let same = same_in g k conn conn_is in
    let was_is = sym book_is ∙ ap (option_map (λ (x : BookValue). x.state)) c.in-Some.is in
    over_each g.L.Lines.gives c.args.lines.now c.act_all_on.new.lines _ _ c.in-Err.ensures.over (λ list it. record {
      few = tt;
      within = it.within;
      acted = λ clean b ties some. (it.acts clean b (kept b ties) (same b c.parts.inside.book c.in-Some.book book_is c.in-Some.is ties), refl);
      cause = λ clean b ties some numbers store.
          let cause = it.cause clean b (kept b ties) (numbers_in g k conn conn_is b numbers) (same b c.parts.inside.book c.in-Some.book book_is c.in-Some.is ties) in
          subst (λ (h : Held g.row.S.Denot). HasListCause g.S.Store {X = ⊤} h c.act_all_on.new.conn b list (Err c.in-Err.halted)) conn_is cause store;
      commits = commits_of g.S.Store k conn c.act_all_on.new.conn None 0 c.in-Some.book.state list conn_is was_is it.survives;
      searched = λ clean b ties some. omega arith;
    })

-- ---- there is no book
unopened : {S T L : Type 0} {g : Ghosts S} (gives : Gives L) (was : L) (old new : Keeper S T g) (bound : Bound) → new ≡ old → book_of old ≡ None → OverLines gives was was (λ list. ActsOnList old new bound list (Err (record { place = 0; stop = Fault Reopen })))
unopened {S} {T} {L} {g} gives was old new bound same none =
    over_any gives was _ (λ list. subst (λ (k : Keeper S T g). ActsOnList old k bound list (Err (record { place = 0; stop = Fault Reopen }))) (sym same) (record {
      few = tt;
      within = omega arith;
      acted = λ clean b ties some. absurd (let e : false ≡ true = rw none at some in cc);
      cause = λ clean b ties some. absurd (let e : false ≡ true = rw none at some in cc);
      commits = survives_same (state g old.parts.conn) _;
      searched = λ clean b ties some. omega arith;
    }))

pub returns-in_default-clause-over : goal.returns-in_default-clause-over
returns-in_default-clause-over g c = unopened g.L.Lines.gives c.args.lines.now c.args.self.now _ g.T.Timeline.bound (search rules) (search rules)

-- ---- what is said of the store whatever the list is
pub returns-in-Ok-clause-clean : goal.returns-in-Ok-clause-clean
returns-in-Ok-clause-clean g c clean =
    let conn_is : c.parts.inside.conn ≡ c.args.self.now.parts.conn = ap (λ (x : KeeperValue g.row.S.Denot). x.conn) c.parts.view_is in
    let over = c.in-Ok.ensures.over in
    let it = (over.holds over.taken (begins_all over.taken over.ended)).survives in
    subst (λ (h : Held g.row.S.Denot). HasCleanDisk (state g.S.Store h)) conn_is (omega (arith, it.clean, clean))

pub returns-in-Ok-clause-limit : goal.returns-in-Ok-clause-limit
returns-in-Ok-clause-limit g c =
    let conn_is : c.parts.inside.conn ≡ c.args.self.now.parts.conn = ap (λ (x : KeeperValue g.row.S.Denot). x.conn) c.parts.view_is in
    let over = c.in-Ok.ensures.over in
    let it = (over.holds over.taken (begins_all over.taken over.ended)).survives in
    it.limit ∙ ap (λ (h : Held g.row.S.Denot). h.step_limit) conn_is

pub returns-in-Err-clause-clean : goal.returns-in-Err-clause-clean
returns-in-Err-clause-clean g c clean =
    let conn_is : c.parts.inside.conn ≡ c.args.self.now.parts.conn = ap (λ (x : KeeperValue g.row.S.Denot). x.conn) c.parts.view_is in
    let over = c.in-Err.ensures.over in
    let it = (over.holds over.taken (begins_all over.taken over.ended)).survives in
    subst (λ (h : Held g.row.S.Denot). HasCleanDisk (state g.S.Store h)) conn_is (omega (arith, it.clean, clean))

pub returns-in-Err-clause-limit : goal.returns-in-Err-clause-limit
returns-in-Err-clause-limit g c =
    let conn_is : c.parts.inside.conn ≡ c.args.self.now.parts.conn = ap (λ (x : KeeperValue g.row.S.Denot). x.conn) c.parts.view_is in
    let over = c.in-Err.ensures.over in
    let it = (over.holds over.taken (begins_all over.taken over.ended)).survives in
    it.limit ∙ ap (λ (h : Held g.row.S.Denot). h.step_limit) conn_is

pub returns-in-Ok-clause-numbered : goal.returns-in-Ok-clause-numbered
returns-in-Ok-clause-numbered g c b ties numbers =
    let k = c.args.self.now.parts in
    let conn = c.parts.inside.conn in
    let conn_is : conn ≡ k.conn = ap (λ (x : KeeperValue g.row.S.Denot). x.conn) c.parts.view_is in
    let book_is : option_map (λ (x : BookValue). x.state) c.parts.inside.book ≡ k.book = ap (λ (x : KeeperValue g.row.S.Denot). x.book) c.parts.view_is in
    c.act_all_on.ensures.numbered b (keeps_in g k conn conn_is b ties) (same_in g k conn conn_is b c.parts.inside.book c.in-Some.book book_is c.in-Some.is ties) (numbers_in g k conn conn_is b numbers)

pub returns-in-Err-clause-numbered : goal.returns-in-Err-clause-numbered
returns-in-Err-clause-numbered g c b ties numbers =
    let k = c.args.self.now.parts in
    let conn = c.parts.inside.conn in
    let conn_is : conn ≡ k.conn = ap (λ (x : KeeperValue g.row.S.Denot). x.conn) c.parts.view_is in
    let book_is : option_map (λ (x : BookValue). x.state) c.parts.inside.book ≡ k.book = ap (λ (x : KeeperValue g.row.S.Denot). x.book) c.parts.view_is in
    c.act_all_on.ensures.numbered b (keeps_in g k conn conn_is b ties) (same_in g k conn conn_is b c.parts.inside.book c.in-Some.book book_is c.in-Some.is ties) (numbers_in g k conn conn_is b numbers)
