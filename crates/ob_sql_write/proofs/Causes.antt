-- Why steps inside a transaction fail, one after another.
use Rattle.std.proofs.Common.{◌≡◌, ◌∙◌, sym, subst, inl, inr, arith, IsTrue}
use Rattle.std.specs.Prelude.{Result, Ok, Err, IfErr, IsErrAnd, OnOk}
use Rattle.std.proofs.lemmas.Bool.{cases_Bool}
use Rattle.std.specs.Borrow.{MutBor}
use Rattle.sqlite_trees.specs.declared.store.Store.{Ghosts}
use Rattle.sqlite.specs.Held.{Held, state}
use Rattle.sqlite.specs.State.{State, HasCleanDisk}
use Rattle.ob_base.specs.declared.stop.Stop.{Stop}
use Rattle.ob_base.specs.declared.stop.Stop.TheVariants.{Fault}
use Rattle.ob_base.specs.declared.stop.Fault.TheVariants.{Store}
use Rattle.ob_sql_rows.specs.Rows.{Tables}
use Rattle.ob_sql_rows.specs.Creation.{Creates}
use Rattle.ob_sql_rows.specs.Steps.{Changes, HasFailed, IsStoreFault, LetsIn, Makes, Silent}
use Rattle.ob_sql_rows.proofs.Failing.{failed_after}
use Rattle.ob_sql_rows.proofs.Silence.{silent_then}
use Rattle.ob_sql_write.specs.Keeps.{ChangesOpen}
use Rattle.ob_sql_write.specs.Upgrade.{LetsUpgradeIn, UpgradesOpen}
use Rattle.ob_sql_write.proofs.Steps.{makes_then, on_ok}

-- why the store fails in a transaction, where this is let in
abbrev pub HasCauseIn : State → State → Type 0 → Stop → Type 0
HasCauseIn old new Allowed stop = stop ≡ Fault Store → IsTrue old.in_transaction → Allowed → HasFailed old new

-- the steps before went, and the next is let in
abbrev pub LetsOn : State → State → Type 0 → Type 0 → Type 0
LetsOn old mid Allowed Next = HasCleanDisk mid → IsTrue old.is_open → IsTrue old.in_transaction → Allowed → IsTrue mid.in_transaction × Next

-- so the next fails only with a cause: a store that was shut has one
fails_on : (a b c : State) (Allowed Next : Type 0) → Silent a b → Silent b c → HasCleanDisk c → LetsOn a b Allowed Next → IsTrue a.in_transaction → Allowed → (IsTrue b.in_transaction → Next → HasFailed b c) → HasFailed a c
fails_on a b c Allowed Next one two clean on inside allowed told = elim (cases_Bool a.is_open) [
  | inl live ↦
      let early : HasCleanDisk b = omega (arith, two.survives.clean, clean) in
      let next = on early live inside allowed in
      failed_after a b c _ _ one.survives early two.survives (told next.0 next.1)
  | inr shut ↦ inr (inl shut)
]

-- ---- what is let in
pub lets_weaker : (s : State) (needs lets n l : Tables → Type 0) → ((t : Tables) → needs t → lets t → n t × l t) → LetsIn s needs lets → LetsIn s n l
lets_weaker s needs lets n l enough it =
    let both = enough it.tables it.needed it.allowed in
    record { schema = it.schema; sound = it.sound; numbered = it.numbered; tables = it.tables; holds = it.holds; needed = both.0; allowed = both.1 }

-- after a change the next is let in, where it is in the tables with the change
pub lets_then : (a b : State) (m needs lets n l : Tables → Type 0) (f : Tables → Tables) → ((t : Tables) → needs t → lets t → m t × n (f t) × l (f t)) → Makes a b m f → LetsIn a needs lets → LetsIn b n l
lets_then a b m needs lets n l f enough one it =
    let all = enough it.tables it.needed it.allowed in
    record {
      schema = one.schema it.schema;
      sound = one.sound it.schema it.sound;
      numbered = one.numbered it.schema it.tables it.holds all.0 it.numbered;
      tables = f it.tables;
      holds = one.holds it.schema it.tables it.holds all.0;
      needed = all.1;
      allowed = all.2;
    }

-- ---- the last step failed
pub last_cause : {X : Type 0} {Allowed Next : Type 0} (a b c : State) (r : Result X Stop) → Silent a b → Silent b c → HasCleanDisk c → IfErr r (HasCauseIn b c Next) → LetsOn a b Allowed Next → IfErr r (HasCauseIn a c Allowed)
last_cause a b c (Ok x) one two clean told on = tt
last_cause a b c (Err stop) one two clean told on = λ store inside allowed. fails_on a b c _ _ one two clean on inside allowed (told store)

-- steps that went, and the last one, which is let in then
pub open_then : {S X : Type 0} (g : Ghosts S) (old mid new : MutBor (Held S)) (r : Result X Stop) (m needs lets n l : Tables → Type 0) (f h : Tables → Tables) → mid.ghost_name ≡ old.ghost_name
    → Silent (state g old.now) (state g mid.now)
    → (HasCleanDisk (state g mid.now) → IsTrue (state g old.now).is_open → IsTrue (state g old.now).in_transaction → Makes (state g old.now) (state g mid.now) m f)
    → ChangesOpen g mid new r n l h → ((t : Tables) → needs t → m t × n (f t)) → ((t : Tables) → needs t → lets t → l (f t)) → ChangesOpen g old new r needs lets (λ t. h (f t))
open_then g old mid new r m needs lets n l f h same quiet first last enough allow =
    let a = state g old.now in
    let b = state g mid.now in
    let c = state g new.now in
    record {
      same_reference = last.same_reference ∙ same;
      silent = silent_then a b c quiet last.silent;
      faults = last.faults;
      makes = λ clean. on_ok r (last.makes clean) (λ then live inside.
          let early : HasCleanDisk b = omega (arith, last.silent.survives.clean, clean) in
          let one = first early live inside in
          makes_then a b c m n needs f h enough one (then one.stays one.inside));
      cause = λ clean. last_cause a b c r quiet last.silent clean (last.cause clean) (λ early live inside allowed.
          let one = first early live inside in
          (one.inside, lets_then a b m needs lets n l f (λ t has it. let both = enough t has in (both.0, both.1, allow t has it)) one allowed));
    }

-- ---- a step failed, and its error was handed on
-- a step failed of those that are let in so
pub record Stopped {S : Type 0} (g : Ghosts S) (old new : MutBor (Held S)) (stop : Stop) (Allowed : Type 0) : Type 0 where
  pub same_reference : new.ghost_name ≡ old.ghost_name
  pub silent : Silent (state g old.now) (state g new.now)
  pub fault : IsStoreFault stop
  pub cause : HasCleanDisk (state g new.now) → HasCauseIn (state g old.now) (state g new.now) Allowed stop

pub stopped_first : {S : Type 0} (g : Ghosts S) (old new : MutBor (Held S)) (stop : Stop) {Allowed First : Type 0} → (Allowed → First) → Stopped g old new stop First → Stopped g old new stop Allowed
stopped_first g old new stop first it =
    record { same_reference = it.same_reference; silent = it.silent; fault = it.fault; cause = λ clean store inside allowed. it.cause clean store inside (first allowed) }

pub stopped_after : {S : Type 0} (g : Ghosts S) (old mid new : MutBor (Held S)) (stop : Stop) {Allowed Next : Type 0} → mid.ghost_name ≡ old.ghost_name → Silent (state g old.now) (state g mid.now)
    → Stopped g mid new stop Next → LetsOn (state g old.now) (state g mid.now) Allowed Next → Stopped g old new stop Allowed
stopped_after g old mid new stop same quiet it on =
    let a = state g old.now in
    let b = state g mid.now in
    let c = state g new.now in
    record {
      same_reference = it.same_reference ∙ same;
      silent = silent_then a b c quiet it.silent;
      fault = it.fault;
      cause = λ clean store inside allowed. fails_on a b c _ _ quiet it.silent clean on inside allowed (it.cause clean store);
    }

module _ {S : Type 0} (g : Ghosts S) (old new : MutBor (Held S)) (stop : Stop) {X : Type 0} where
  pub of_change : {needs lets : Tables → Type 0} {change : Tables → Tables} → Changes g {X = X} old new (Err stop) needs lets change → Stopped g old new stop (LetsIn (state g old.now) needs lets)
  of_change it = record { same_reference = it.same_reference; silent = it.silent; fault = it.faults; cause = it.cause }

  pub of_open : {needs lets : Tables → Type 0} {change : Tables → Tables} → ChangesOpen g {X = X} old new (Err stop) needs lets change → Stopped g old new stop (LetsIn (state g old.now) needs lets)
  of_open it = record { same_reference = it.same_reference; silent = it.silent; fault = it.faults; cause = it.cause }

  pub of_creation : {Lets : State → Type 0} {Made : State → State → Type 0} → Creates g {X = X} old new (Err stop) Lets Made → Stopped g old new stop (Lets (state g old.now))
  of_creation it = record { same_reference = it.same_reference; silent = it.silent; fault = it.faults; cause = it.cause }

-- what a `?` hands on
pub handed : {X : Type 0} (r : Result X Stop) (stop : Stop) (Q : Stop → Type 0) → IsErrAnd r (λ s. s ≡ stop) → Q stop → IfErr r Q
handed (Ok x) stop Q is q = tt
handed (Err s) stop Q is q = subst Q (sym is) q

pub no_value : {X : Type 0} (r : Result X Stop) (stop : Stop) (P : Type 0) → IsErrAnd r (λ s. s ≡ stop) → OnOk r P
no_value (Ok x) stop P is = absurd is
no_value (Err s) stop P is = tt

module _ {S : Type 0} (g : Ghosts S) (old new : MutBor (Held S)) {X : Type 0} (r : Result X Stop) (stop : Stop) (is : IsErrAnd r (λ s. s ≡ stop)) where
  pub change_stopped : {needs lets : Tables → Type 0} {change : Tables → Tables} → Stopped g old new stop (LetsIn (state g old.now) needs lets) → Changes g old new r needs lets change
  change_stopped it = record {
    same_reference = it.same_reference;
    silent = it.silent;
    faults = handed r stop IsStoreFault is it.fault;
    makes = λ clean. no_value r stop _ is;
    cause = λ clean. handed r stop (HasCauseIn (state g old.now) (state g new.now) _) is (it.cause clean);
  }

  pub open_stopped : {needs lets : Tables → Type 0} {change : Tables → Tables} → Stopped g old new stop (LetsIn (state g old.now) needs lets) → ChangesOpen g old new r needs lets change
  open_stopped it = record {
    same_reference = it.same_reference;
    silent = it.silent;
    faults = handed r stop IsStoreFault is it.fault;
    makes = λ clean. no_value r stop _ is;
    cause = λ clean. handed r stop (HasCauseIn (state g old.now) (state g new.now) _) is (it.cause clean);
  }

  pub creation_stopped : {Lets : State → Type 0} {Made : State → State → Type 0} → Stopped g old new stop (Lets (state g old.now)) → Creates g old new r Lets Made
  creation_stopped it = record {
    same_reference = it.same_reference;
    silent = it.silent;
    faults = handed r stop IsStoreFault is it.fault;
    creates = λ clean. no_value r stop _ is;
    cause = λ clean. handed r stop (HasCauseIn (state g old.now) (state g new.now) _) is (it.cause clean);
  }

  pub upgrade_stopped : {needs lets : Tables → Type 0} {change : Tables → Tables} → Stopped g old new stop (LetsUpgradeIn (state g old.now) needs lets) → UpgradesOpen g old new r needs lets change
  upgrade_stopped it = record {
    same_reference = it.same_reference;
    silent = it.silent;
    faults = handed r stop IsStoreFault is it.fault;
    makes = λ clean. no_value r stop _ is;
    cause = λ clean. handed r stop (HasCauseIn (state g old.now) (state g new.now) _) is (it.cause clean);
  }
