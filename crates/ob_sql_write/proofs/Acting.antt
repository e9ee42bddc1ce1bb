-- The three steps of a command's rows in one transaction: what they make together, and where one of them stops.
use Rattle.std.proofs.Common.{◌≡◌, ◌∙◌, inl, refl, subst, arith, IsTrue, true}
use Rattle.std.specs.Prelude.{⊤, Result, Ok, Err, IfErr, IsErrAnd}
use Rattle.std.specs.Borrow.{MutBor}
use Rattle.sqlite_trees.specs.declared.store.Store.{Ghosts}
use Rattle.sqlite.specs.Held.{Held, state}
use Rattle.sqlite.specs.State.{HasCleanDisk, IsLive, IsRolledBack, Survives}
use Rattle.ob_base.specs.Stop.{out_of_memory}
use Rattle.ob_base.specs.declared.stop.Stop.{Stop}
use Rattle.ob_base.specs.declared.stop.Stop.TheVariants.{Fault}
use Rattle.ob_base.specs.declared.stop.Fault.TheVariants.{Store}
use Rattle.ob_post.specs.Postings.{PostedAmounts}
use Rattle.ob_sql_rows.specs.Rows.{Always, Tables, with_row, command_row}
use Rattle.ob_sql_rows.specs.Rules.{HasKey, LetsCommand}
use Rattle.ob_sql_rows.specs.Steps.{Changes, IsStoreFault, LetsIn, Makes, Silent}
use Rattle.ob_sql_rows.specs.declared.table.Table.TheVariants.{Command}
use Rattle.ob_sql_rows.proofs.Silence.{silent_then}
use Rattle.ob_sql_write.specs.declared.act.Act.{Act}
use Rattle.ob_sql_write.specs.Acts.{LetsAct, NeedsRows, with_act, with_command}
use Rattle.ob_sql_write.specs.Changing.{LetsRow, NeedsRow, rows_by}
use Rattle.ob_sql_write.specs.Keeps.{ChangesOpen, HasCommitCause, Keeps, KeepsEither, KeepsNumbers, LeavesChanged}
use Rattle.ob_sql_write.specs.Moves.{HasRows, LetsMoves, with_moves}
use Rattle.ob_sql_write.proofs.Causes.{HasCauseIn, Stopped, handed, lets_then, lets_weaker, of_change, of_open, stopped_after, stopped_first}
use Rattle.ob_sql_write.proofs.Commits.{dropped_cause, first_of_either, numbers_survive, silent_begin, survives_drop, undone}
use Rattle.ob_sql_write.proofs.Letting.{lets_command, lets_moves}
use Rattle.ob_sql_write.proofs.Steps.{makes_then}

-- the rows that the command changes: the first step
abbrev pub ChangesRows : {S : Type 0} → Ghosts S → Act → MutBor (Held S) → MutBor (Held S) → Result ⊤ Stop → Type 0
ChangesRows g act old new r = Changes g old new r (NeedsRow act.resolved.now) (LetsRow act.resolved.now) (rows_by act.resolved.now)

-- its own row: the second
abbrev pub AddsCommand : {S : Type 0} → Ghosts S → Act → MutBor (Held S) → MutBor (Held S) → Result ⊤ Stop → Type 0
AddsCommand g act old new r =
    Changes g old new r Always (LetsCommand act.no act.reference.now act.body.now) (with_row Command (command_row act.no act.reference.now act.body.now))

-- those of the amounts that it moves: the third
abbrev pub WritesMoves : {S : Type 0} → Ghosts S → PostedAmounts → Act → MutBor (Held S) → MutBor (Held S) → Result ⊤ Stop → Type 0
WritesMoves g p act old new r =
    ChangesOpen g old new r (HasRows act.no p act.moves.now) (λ t. HasKey Command act.no t × LetsMoves act.no act.moves.now t) (with_moves act.no p act.moves.now)

module _ {S : Type 0} (g : Ghosts S) (p : PostedAmounts) (act : Act) (begun one : MutBor (Held S)) where
  -- the first step stopped
  pub rows_stopped : (stop : Stop) → ChangesRows g act begun one (Err stop) → Stopped g begun one stop (LetsIn (state g begun.now) (NeedsRows p act) (LetsAct act))
  rows_stopped stop it =
      stopped_first g begun one stop
      (lets_weaker (state g begun.now) (NeedsRows p act) (LetsAct act) (NeedsRow act.resolved.now) (LetsRow act.resolved.now) (λ t has it. (has.change, it.change)))
      (of_change g begun one stop it)

  module _ (two : MutBor (Held S)) (x : ⊤) (rows : ChangesRows g act begun one (Ok x)) where
    -- the second stopped
    pub command_stopped : (stop : Stop) → AddsCommand g act one two (Err stop) → Stopped g begun two stop (LetsIn (state g begun.now) (NeedsRows p act) (LetsAct act))
    command_stopped stop it =
        stopped_after g begun one two stop rows.same_reference rows.silent (of_change g one two stop it)
        (λ early live inside allowed.
        let first = rows.makes early inside in (
          first.inside,
          lets_then (state g begun.now) (state g one.now) (NeedsRow act.resolved.now) (NeedsRows p act) (LetsAct act) Always (LetsCommand act.no act.reference.now act.body.now) (rows_by act.resolved.now)
              (λ t has it. (has.change, tt, lets_command act.resolved.now act.no act.reference.now act.body.now t it.command)) first allowed,
        ))

    module _ (y : ⊤) (command : AddsCommand g act one two (Ok y)) where
      -- the first two made this
      pub both_made : HasCleanDisk (state g two.now) → IsTrue (state g begun.now).in_transaction → Makes (state g begun.now) (state g two.now) (NeedsRow act.resolved.now) (with_command act)
      both_made late inside =
          let early : HasCleanDisk (state g one.now) = omega (arith, command.silent.survives.clean, late) in
          let first = rows.makes early inside in
          makes_then (state g begun.now) (state g one.now) (state g two.now) (NeedsRow act.resolved.now) Always (NeedsRow act.resolved.now) (rows_by act.resolved.now)
          (with_row Command (command_row act.no act.reference.now act.body.now)) (λ t has. (has, tt)) first (command.makes late first.inside)

      -- the third stopped
      pub moves_stopped : (last : MutBor (Held S)) (stop : Stop) → WritesMoves g p act two last (Err stop) → Stopped g begun last stop (LetsIn (state g begun.now) (NeedsRows p act) (LetsAct act))
      moves_stopped last stop it =
          stopped_after g begun two last stop (command.same_reference ∙ rows.same_reference) (silent_then (state g begun.now) (state g one.now) (state g two.now) rows.silent command.silent)
          (of_open g two last stop it)
          (λ late live inside allowed.
          let both = both_made late inside in (
            both.inside,
            lets_then (state g begun.now) (state g two.now) (NeedsRow act.resolved.now) (NeedsRows p act) (LetsAct act) (HasRows act.no p act.moves.now)
                (λ t. HasKey Command act.no t × LetsMoves act.no act.moves.now t) (with_command act) (λ t has it. (has.change, has.amounts, lets_moves act t it.moves)) both allowed,
          ))

-- all rows of the command were written in a transaction that began over a connection, and nothing was committed
pub record Written {S : Type 0} (g : Ghosts S) (p : PostedAmounts) (act : Act) (h : Held S) (last : MutBor (Held S)) : Type 0 where
  pub quiet : Silent (state g h) (state g last.now)
  pub makes : HasCleanDisk (state g last.now) → Makes (record (state g h) { in_transaction = true }) (state g last.now) (NeedsRows p act) (with_act p act)

pub act_written : {S : Type 0} (g : Ghosts S) (p : PostedAmounts) (act : Act) (h : Held S) (begun one two last : MutBor (Held S)) (x y z : ⊤) → begun.now ≡ record h { in_transaction = true }
    → ChangesRows g act begun one (Ok x) → AddsCommand g act one two (Ok y) → WritesMoves g p act two last (Ok z) → Written g p act h last
act_written g p act h begun one two last x y z began rows command moves =
    let a = state g begun.now in
    let b = state g two.now in
    let d = state g last.now in
    let quiet : Silent a d = silent_then a b d (silent_then a (state g one.now) b rows.silent command.silent) moves.silent in
    let makes : HasCleanDisk d → IsTrue a.in_transaction → Makes a d (NeedsRows p act) (with_act p act) = λ clean inside.
    let late : HasCleanDisk b = omega (arith, moves.silent.survives.clean, clean) in
    let both = both_made g p act begun one two x rows y command late inside in
    makes_then a b d (NeedsRow act.resolved.now) (HasRows act.no p act.moves.now) (NeedsRows p act) (with_command act) (with_moves act.no p act.moves.now)
    (λ t has. (has.change, has.amounts)) both (moves.makes clean both.stays both.inside) in
    record {
      quiet = silent_begin g h d (subst (λ x. Silent (state g x) d) began quiet);
      makes = λ clean. subst (λ x. IsTrue (state g x).in_transaction → Makes (state g x) d (NeedsRows p act) (with_act p act)) began (makes clean) refl;
    }

-- what a commit promises where a step stopped and the transaction was dropped
pub record Dropped {S X : Type 0} (g : Ghosts S) (h end : Held S) (r : Result X Stop) (needs lets : Tables → Type 0) (change : Tables → Tables) : Type 0 where
  pub faults : IfErr r IsStoreFault
  pub undone : IfErr r (λ stop. stop ≡ out_of_memory → (t : Tables) → Keeps (state g h) t → Keeps (state g end) t)
  pub either : IfErr r (λ stop. (t : Tables) → Keeps (state g h) t → needs t → KeepsEither (state g end) t (change t))
  pub cause : IfErr r (λ stop. stop ≡ Fault Store → HasCleanDisk (state g end) → (t : Tables) → Keeps (state g h) t → KeepsNumbers (state g h) → needs t → lets t → HasCommitCause g (state g h) (state g end) (change t))
  pub numbered : (t : Tables) → Keeps (state g h) t → needs t → KeepsNumbers (state g h) → KeepsNumbers (state g end)
  pub survives : Survives (state g h) (state g end) (LeavesChanged (state g h) needs change)

pub dropped : {S : Type 0} (g : Ghosts S) (h : Held S) (begun last : MutBor (Held S)) (end : Held S) {X : Type 0} (r : Result X Stop) (stop : Stop) (needs lets : Tables → Type 0) (change : Tables → Tables)
    → IsErrAnd r (λ s. s ≡ stop) → begun.now ≡ record h { in_transaction = true } → IsLive (state g h) → (IsTrue (state g h).is_open → (state g h).may_leave (state g h).committed.trees)
    → Stopped g begun last stop (LetsIn (state g begun.now) needs lets) → (HasCleanDisk (state g end) → IsRolledBack (state g last.now) (state g end)) → Survives (state g last.now) (state g end) (λ _. ⊥)
    → Dropped g h end r needs lets change
dropped g h begun last end r stop needs lets change is began live stays it back drops =
    let old = state g h in
    let mid = state g last.now in
    let new = state g end in
    let quiet : Silent old mid = silent_begin g h mid (subst (λ x. Silent (state g x) mid) began it.silent) in
    let kept : (t : Tables) → Keeps old t → Keeps new t = λ t keeps. undone old mid new t quiet back drops keeps in
    record {
      faults = handed r stop IsStoreFault is it.fault;
      undone = handed r stop (λ s. s ≡ out_of_memory → (t : Tables) → Keeps old t → Keeps new t) is (λ memory. kept);
      either = handed r stop (λ s. (t : Tables) → Keeps old t → needs t → KeepsEither new t (change t)) is (λ t keeps needed. first_of_either new t (change t) (kept t keeps));
      cause = handed r stop (λ s. s ≡ Fault Store → HasCleanDisk new → (t : Tables) → Keeps old t → KeepsNumbers old → needs t → lets t → HasCommitCause g old new (change t)) is
          (λ store clean t keeps numbers needed allowed.
          let late : HasCleanDisk mid = omega (arith, drops.clean, clean) in
          let first : HasCleanDisk old = omega (arith, quiet.survives.clean, late) in
          inl (dropped_cause old mid new (λ _. ⊥) t needs lets first live keeps numbers stays needed allowed
          (subst (λ x. HasCauseIn (state g x) mid (LetsIn (state g x) needs lets) stop) began (it.cause late) store refl) drops));
      numbered = λ t keeps needed numbers. numbers_survive mid new drops (numbers_survive old mid quiet.survives numbers);
      survives = survives_drop old mid new (LeavesChanged old needs change) quiet drops;
    }
