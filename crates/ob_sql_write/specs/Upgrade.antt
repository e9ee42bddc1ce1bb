-- What is left of the tables of version 1 once they were to be made those of version 2.
use Rattle.std.specs.List.{All}
use Rattle.std.specs.Prelude.{◌≡◌, ◌<◌, ℕ, zero, suc, List, [], ◌∷◌, ⊤, fold, IsTrue, Result, IfErr, OnOk}
use Rattle.std.specs.Borrow.{MutBor}
use Rattle.sqlite_trees.specs.declared.store.Store.{Ghosts}
use Rattle.sqlite.specs.Effect.{IsDatabase}
use Rattle.sqlite.specs.Held.{Held, state}
use Rattle.sqlite.specs.State.{State, HasCleanDisk}
use Rattle.sqlite.specs.Tree.{Trees}
use Rattle.ob_base.specs.Life.{whole_life}
use Rattle.ob_base.specs.declared.stop.Stop.{Stop}
use Rattle.ob_base.specs.declared.stop.Stop.TheVariants.{Fault}
use Rattle.ob_base.specs.declared.stop.Fault.TheVariants.{Store}
use Rattle.ob_sql_rows.specs.Creation.{old_schema}
use Rattle.ob_sql_rows.specs.Rows.{HasCommand, HasHeading, Tables, life_row, rebody, reversion, with_change, with_row}
use Rattle.ob_sql_rows.specs.Rules.{AreNumbered, HasKey, HasShort, IsShort}
use Rattle.ob_sql_rows.specs.Steps.{HasFailed, IsStoreFault, Silent}
use Rattle.ob_sql_rows.specs.Versions.{HoldsOld, without_lives}
use Rattle.ob_sql_rows.specs.declared.table.Table.TheVariants.{Command, Device, Life, Meta}
use Rattle.ob_sql_rows.specs.declared.version.Version.TheVariants.{One}
use Rattle.ob_sql_write.specs.Keeps.{KeepsEitherIn, LeavesChangedIn, MakesOf}
use Rattle.ob_sql_write.specs.declared.upgrade.NewBody.{NewBody}

-- while it is open it keeps these tables of version 1; a crash leaves them, or these of version 2
abbrev pub KeepsOldOr : State → Tables → Tables → Type 0
KeepsOldOr s t u = KeepsEitherIn One s t u

-- inside a transaction over the tables of version 1 those of version 2 were made of them so, where they were as is needed
abbrev pub Upgrades : State → State → (Tables → Type 0) → (Tables → Tables) → Type 0
Upgrades old new needs change = MakesOf One old new needs change

-- the tables with the change, of tables of version 1 that the store kept and that were as is needed
abbrev pub LeavesUpgraded : State → (Tables → Type 0) → (Tables → Tables) → Trees → Type 0
LeavesUpgraded s needs change trees = LeavesChangedIn One s needs change trees

-- a command has another body
abbrev pub with_body : NewBody → Tables → Tables
with_body b = with_change Command b.no (rebody b.body.items)

-- commands have other bodies
abbrev pub with_bodies : List NewBody → Tables → Tables
with_bodies bodies t = fold (λ t b. with_body b t) t bodies

-- the commands are there
abbrev pub HasBodies : List NewBody → Tables → Type 0
HasBodies [] t = ⊤
HasBodies (b ∷ bodies) t = HasCommand b.no t × HasBodies bodies (with_body b t)

-- so many devices live always
abbrev pub with_lives : ℕ → Tables → Tables
with_lives zero t = t
with_lives (suc n) t = with_row Life (life_row n whole_life) (with_lives n t)

-- with these bodies, and so many lives
abbrev pub with_rows : List NewBody → ℕ → Tables → Tables
with_rows bodies devices t = with_lives devices (with_bodies bodies t)

-- the commands and the heading are there
abbrev pub CanUpgrade : List NewBody → ℕ → Tables → Type 0
CanUpgrade bodies devices t = HasBodies bodies (without_lives t) × HasHeading (with_rows bodies devices (without_lives t))

-- the tables of version 2, of those of version 1
abbrev pub with_upgrade : List NewBody → ℕ → Tables → Tables
with_upgrade bodies devices t = with_change Meta 1 (reversion 2) (with_rows bodies devices (without_lives t))

-- the rules of the tables let these bodies in: they are short, and so is what else their commands' rows have
abbrev pub LetsBodies : List NewBody → Tables → Type 0
LetsBodies bodies t = All (λ b. IsShort b.body.items × HasShort Command b.no t) bodies

-- and the lives of so many devices, each of which is there and has none
abbrev pub LetsLivesOf : ℕ → Tables → Type 0
LetsLivesOf devices t = (t Life ≡ []) × ((n : ℕ) → n < devices → HasKey Device n t)

-- the rules of the tables let the rows of the upgrade in: the texts of the commands and of the heading fit, and each device
-- is there
pub record LetsUpgrade (bodies : List NewBody) (devices : ℕ) (t : Tables) : Type 0 where
  pub texts : LetsBodies bodies t
  pub living : (n : ℕ) → n < devices → HasKey Device n t
  pub heading : HasShort Meta 1 t

-- a whole database of version 1, whose hidden row numbers rise by one, has these rows; they are as is needed and let in
pub record LetsUpgradeIn (s : State) (needs lets : Tables → Type 0) : Type 0 where
  pub schema : s.now.schema ≡ old_schema
  pub sound : IsDatabase s.now
  pub numbered : AreNumbered s.now.trees
  pub tables : Tables
  pub holds : HoldsOld s.now.trees tables
  pub needed : needs tables
  pub allowed : lets tables

module _ {S : Type 0} (g : Ghosts S) where
  -- statements inside a transaction made of the tables of version 1 those of version 2, or one failed, which it does only
  -- with a cause where the rules of the tables let them in; nothing was committed
  pub record UpgradesOpen {X : Type 0} (old new : MutBor (Held S)) (result : Result X Stop) (needs lets : Tables → Type 0)
      (change : Tables → Tables) : Type 0 where
    pub same_reference : new.ghost_name ≡ old.ghost_name
    pub silent : Silent (state g old.now) (state g new.now)
    pub faults : IfErr result IsStoreFault
    pub makes : HasCleanDisk (state g new.now) → OnOk result (IsTrue (state g old.now).in_transaction
        → Upgrades (state g old.now) (state g new.now) needs change)
    pub cause : HasCleanDisk (state g new.now) → IfErr result (λ stop. stop ≡ Fault Store
        → IsTrue (state g old.now).in_transaction → LetsUpgradeIn (state g old.now) needs lets
        → HasFailed (state g old.now) (state g new.now))
