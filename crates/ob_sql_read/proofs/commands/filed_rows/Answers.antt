use Rattle.std.proofs.Common.{List, ◌≡◌, ◌+◌, ◌≤◌, Some, [], ◌∷◌, ◌++◌, length, inl, sym, ap, subst, ◌∙◌, arith, rules, ℤ, pos, IsTrue, to_z-of_z, w64}
use Rattle.std.specs.Prelude.{FitsSigned, ◌↔◌}
use Rattle.std.specs.List.{AllByRecursion}
use Rattle.sqlite.specs.Effect.{Database}
use Rattle.sqlite.specs.State.{HasCleanDisk}
use Rattle.sqlite.specs.Held.{state}
use Rattle.sqlite.specs.Given.{HasGiven}
use Rattle.sqlite.proofs.Callers.{unchanged_then}
use Rattle.ob_sql_rows.specs.Steps.{IsStoreFault}
use Rattle.ob_sql_rows.specs.Versions.{schema_of}
use Rattle.ob_sql_read.specs.Listing.{Lists, Ends, filed_of, referenced}
use Rattle.ob_sql_read.specs.declared.filed.Filed.{Filed}
use Rattle.ob_sql_read.specs.Ordered.{rows_under}
use Rattle.ob_sql_read.specs.Reading.{AreFiled, IsNext, Stands, command_listing}
use Rattle.ob_sql_read.specs.Versioned.{IsReferencedIn}
use Rattle.ob_sql_read.proofs.Listing.{still_then}
use Rattle.ob_sql_read.proofs.Passing.{clean_before, no_value, of_error, unchanged_after}
use Rattle.ob_sql_read.proofs.Selects.{lists_commands}
use Rattle.ob_sql_read.proofs.Standing.{all_referenced, pushed_length}
use Rattle.ob_sql_read.proofs.Ordered.{IsRead, all_read, one_read, other_read, rows_read, too_many}
use Rattle.ob_sql_read.proofs.Failing.{answered_over, cause_of_error}
use Rattle.ob_sql_rows.proofs.Failing.{failed_after, no_fault}
use Rattle.ob_sql_read.proofs.commands.filed_rows.Goals as goal

pub returns-in-Other-clause-read : goal.returns-in-Other-clause-read
returns-in-Other-clause-read g c late live v has given shows there =
    let old = state g.S.Store c.args.rows.now.conn.now in
    let mid = state g.S.Store c.commands.rows.conn.now in
    let new = c.next_filed.new.rows.conn.now in
    let early : HasCleanDisk mid = omega (arith, c.next_filed.ensures.survives.clean, late) in
    let was = c.commands.invariant.4 early live in
    let schema = ap (λ (d : Database). d.schema) was.0.now_is ∙ has in
    let pairs = c.commands.invariant.7 in
    let front = rows_under c.args.version pairs in
    let next = subst (λ n. Stands g.S.Store c.args.version c.commands.last n new front) c.in-Other.is (c.in_ok-number.ensures.stands late v schema front (c.commands.invariant.9 early live v has given)) in
    let db : (state g.S.Store new).now ≡ old.now = (c.in_ok-number.ensures.same late).0.now_is ∙ was.0.now_is in
    other_read c.args.version old.now c.commands.commands.items c.commands.last c.commands.counted pairs next.0 next.1 shows c.commands.invariant.8 (subst (λ (d : Database). Lists command_listing d (front ++ (next.0 ∷ next.1))) db next.2) next.3 there

pub returns-in-End-clause-read : goal.returns-in-End-clause-read
returns-in-End-clause-read g c late live v has given shows there =
    let old = state g.S.Store c.args.rows.now.conn.now in
    let mid = state g.S.Store c.commands.rows.conn.now in
    let new = c.next_filed.new.rows.conn.now in
    let early : HasCleanDisk mid = omega (arith, c.next_filed.ensures.survives.clean, late) in
    let was = c.commands.invariant.4 early live in
    let schema = ap (λ (d : Database). d.schema) was.0.now_is ∙ has in
    let pairs = c.commands.invariant.7 in
    let front = rows_under c.args.version pairs in
    let next = subst (λ n. Stands g.S.Store c.args.version c.commands.last n new front) c.in-End.is (c.in_ok-number.ensures.stands late v schema front (c.commands.invariant.9 early live v has given)) in
    let db : (state g.S.Store new).now ≡ old.now = (c.in_ok-number.ensures.same late).0.now_is ∙ was.0.now_is in
    all_read c.args.version old.now (record { commands = c.commands.commands; counted = c.commands.counted }) c.commands.last pairs shows c.commands.invariant.8 (subst (λ (d : Database). Lists command_listing d front) db next) there

pub commands-preserved : goal.commands-preserved
commands-preserved g c =
    let old = state g.S.Store c.args.rows.now.conn.now in
    let mid = state g.S.Store c.commands.rows.conn.now in
    let new = c.next_filed.new.rows.conn.now in
    let step = c.next_filed.ensures in
    let pairs = c.commands.invariant.7 in
    let n = c.in-Higher.number in
    let fits : FitsSigned w64 n = search rules in
    let f = c.in-Higher.filed in
    let pushed : c.push.new.self.items ≡ c.commands.commands.items ++ f ∷ [] = c.in_ok-push-in-Higher.ensures.items in
    let next = subst (IsNext c.args.version c.commands.last) c.in-Higher.is c.in_ok-number.ensures.valid in (
      step.same_reference ∙ c.commands.invariant.0,
      still_then old mid (state g.S.Store new) c.commands.invariant.1 step.survives,
      λ idle. step.mode (c.commands.invariant.2 idle),
      ap length pushed ∙ pushed_length c.commands.commands.items f c.commands.at c.commands.invariant.3,
      λ late live.
          let early : HasCleanDisk mid = omega (arith, step.survives.clean, late) in
          unchanged_then old mid (state g.S.Store new) (c.commands.invariant.4 early live) (c.in_ok-number.ensures.same late),
      subst (λ (items : List Filed). AllByRecursion (IsReferencedIn c.args.version) (filed_of items)) (sym pushed) (all_referenced c.args.version c.commands.commands.items f c.commands.invariant.5 next.1),
      λ v t keeps. step.kept v t (c.commands.invariant.6 v t keeps),
      pairs ++ (n, referenced f) ∷ [],
      subst (λ (k : ℤ). IsRead c.args.version c.push.new.self.items (Some k) c.goes_on_counting-counted.result (pairs ++ (n, referenced f) ∷ [])) (sym (to_z-of_z fits))
          (subst (λ (items : List Filed). IsRead c.args.version items (Some n) c.goes_on_counting-counted.result (pairs ++ (n, referenced f) ∷ [])) (sym pushed)
          (one_read c.args.version c.commands.commands.items c.commands.last c.commands.counted c.goes_on_counting-counted.result pairs n f (c.commands.at + 1) (omega (arith, c.commands.invariant.3)) c.commands.invariant.8 next.0 (subst (λ (k : ℤ). IsTrue c.goes_on_counting-counted.result ↔ (IsTrue c.commands.counted × (k ≡ pos (c.commands.at + 1)))) (to_z-of_z fits) c.goes_on_counting-counted.ensures))),
      λ late live v has given.
          let early : HasCleanDisk mid = omega (arith, step.survives.clean, late) in
          let was = c.commands.invariant.4 early live in
          let schema = ap (λ (d : Database). d.schema) was.0.now_is ∙ has in
          let there = subst (λ n. Stands g.S.Store c.args.version c.commands.last n new (rows_under c.args.version pairs)) c.in-Higher.is (c.in_ok-number.ensures.stands late v schema (rows_under c.args.version pairs) (c.commands.invariant.9 early live v has given)) in
          subst (HasGiven g.S.Store command_listing.text [] new) (rows_read c.args.version pairs n f) there,
    )

pub returns-then-branch-clause-read : goal.returns-then-branch-clause-read
returns-then-branch-clause-read g c late live v has given shows there =
    let old = state g.S.Store c.args.rows.now.conn.now in
    let mid = state g.S.Store c.commands.rows.conn.now in
    let new = c.is_over.new.rows.conn.now in
    let early : HasCleanDisk mid = omega (arith, c.is_over.ensures.survives.clean, late) in
    let was = c.commands.invariant.4 early live in
    let schema = ap (λ (d : Database). d.schema) was.0.now_is ∙ has in
    let pairs = c.commands.invariant.7 in
    let front = rows_under c.args.version pairs in
    let ends = subst (λ b. Ends g.S.Store command_listing b new front) c.if-branch.true (c.in_ok-is_over.ensures.over late (schema_of v) command_listing (lists_commands v) schema front (c.commands.invariant.9 early live v has given)) in
    let db : (state g.S.Store new).now ≡ old.now = (c.in_ok-is_over.ensures.same late).0.now_is ∙ was.0.now_is in
    all_read c.args.version old.now (record { commands = c.commands.commands; counted = c.commands.counted }) c.commands.last pairs shows c.commands.invariant.8 (subst (λ (d : Database). Lists command_listing d front) db ends) there

pub returns-else-branch-clause-read : goal.returns-else-branch-clause-read
returns-else-branch-clause-read g c late live v has given shows there =
    let old = state g.S.Store c.args.rows.now.conn.now in
    let mid = state g.S.Store c.commands.rows.conn.now in
    let new = c.is_over.new.rows.conn.now in
    let early : HasCleanDisk mid = omega (arith, c.is_over.ensures.survives.clean, late) in
    let was = c.commands.invariant.4 early live in
    let schema = ap (λ (d : Database). d.schema) was.0.now_is ∙ has in
    let pairs = c.commands.invariant.7 in
    let front = rows_under c.args.version pairs in
    let ends = subst (λ b. Ends g.S.Store command_listing b new front) c.if-branch.false (c.in_ok-is_over.ensures.over late (schema_of v) command_listing (lists_commands v) schema front (c.commands.invariant.9 early live v has given)) in
    let db : (state g.S.Store new).now ≡ old.now = (c.in_ok-is_over.ensures.same late).0.now_is ∙ was.0.now_is in
    let many : 1000000 ≤ length c.commands.commands.items = omega (arith, c.commands-test.false, c.commands.invariant.3) in
    too_many c.args.version old.now c.commands.commands.items c.commands.last c.commands.counted pairs ends.0 ends.1 shows c.commands.invariant.8 many (subst (λ (d : Database). Lists command_listing d (front ++ (ends.0 ∷ ends.1))) db ends.2) there

pub returns-in_err-number-clause-same_reference : goal.returns-in_err-number-clause-same_reference
returns-in_err-number-clause-same_reference g c = c.next_filed.ensures.same_reference ∙ c.commands.invariant.0

pub returns-in_err-number-clause-survives : goal.returns-in_err-number-clause-survives
returns-in_err-number-clause-survives g c = still_then (state g.S.Store c.args.rows.now.conn.now) (state g.S.Store c.commands.rows.conn.now) (state g.S.Store c.next_filed.new.rows.conn.now) c.commands.invariant.1 c.next_filed.ensures.survives

pub returns-in_err-number-clause-kept : goal.returns-in_err-number-clause-kept
returns-in_err-number-clause-kept g c v t keeps = c.next_filed.ensures.kept v t (c.commands.invariant.6 v t keeps)

pub returns-in_err-number-clause-mode : goal.returns-in_err-number-clause-mode
returns-in_err-number-clause-mode g c idle = c.next_filed.ensures.mode (c.commands.invariant.2 idle)

pub returns-in_err-number-clause-faults : goal.returns-in_err-number-clause-faults
returns-in_err-number-clause-faults g c = of_error c.from_residual.result IsStoreFault c.from_residual.ensures.1 (λ stop is. subst IsStoreFault (sym is) c.in_err-number.ensures.faults)

pub returns-in_err-number-clause-valid : goal.returns-in_err-number-clause-valid
returns-in_err-number-clause-valid g c = no_value c.from_residual.result (AreFiled c.args.version) c.from_residual.ensures.0

pub returns-in_err-number-clause-same : goal.returns-in_err-number-clause-same
returns-in_err-number-clause-same g c late = no_value c.from_residual.result _ c.from_residual.ensures.0

pub returns-in_err-number-clause-read : goal.returns-in_err-number-clause-read
returns-in_err-number-clause-read g c late = no_value c.from_residual.result _ c.from_residual.ensures.0

pub returns-in_err-push-in-Higher-clause-same_reference : goal.returns-in_err-push-in-Higher-clause-same_reference
returns-in_err-push-in-Higher-clause-same_reference g c = c.next_filed.ensures.same_reference ∙ c.commands.invariant.0

pub returns-in_err-push-in-Higher-clause-survives : goal.returns-in_err-push-in-Higher-clause-survives
returns-in_err-push-in-Higher-clause-survives g c = still_then (state g.S.Store c.args.rows.now.conn.now) (state g.S.Store c.commands.rows.conn.now) (state g.S.Store c.next_filed.new.rows.conn.now) c.commands.invariant.1 c.next_filed.ensures.survives

pub returns-in_err-push-in-Higher-clause-kept : goal.returns-in_err-push-in-Higher-clause-kept
returns-in_err-push-in-Higher-clause-kept g c v t keeps = c.next_filed.ensures.kept v t (c.commands.invariant.6 v t keeps)

pub returns-in_err-push-in-Higher-clause-mode : goal.returns-in_err-push-in-Higher-clause-mode
returns-in_err-push-in-Higher-clause-mode g c idle = c.next_filed.ensures.mode (c.commands.invariant.2 idle)

pub returns-in_err-push-in-Higher-clause-faults : goal.returns-in_err-push-in-Higher-clause-faults
returns-in_err-push-in-Higher-clause-faults g c = of_error c.from_residual-in_err-push-in-Higher.result IsStoreFault c.from_residual-in_err-push-in-Higher.ensures.1 (λ stop is. inl is)

pub returns-in_err-push-in-Higher-clause-valid : goal.returns-in_err-push-in-Higher-clause-valid
returns-in_err-push-in-Higher-clause-valid g c = no_value c.from_residual-in_err-push-in-Higher.result (AreFiled c.args.version) c.from_residual-in_err-push-in-Higher.ensures.0

pub returns-in_err-push-in-Higher-clause-same : goal.returns-in_err-push-in-Higher-clause-same
returns-in_err-push-in-Higher-clause-same g c late = no_value c.from_residual-in_err-push-in-Higher.result _ c.from_residual-in_err-push-in-Higher.ensures.0

pub returns-in_err-push-in-Higher-clause-read : goal.returns-in_err-push-in-Higher-clause-read
returns-in_err-push-in-Higher-clause-read g c late = no_value c.from_residual-in_err-push-in-Higher.result _ c.from_residual-in_err-push-in-Higher.ensures.0

pub returns-in-Other-clause-same_reference : goal.returns-in-Other-clause-same_reference
returns-in-Other-clause-same_reference g c = c.next_filed.ensures.same_reference ∙ c.commands.invariant.0

pub returns-in-Other-clause-survives : goal.returns-in-Other-clause-survives
returns-in-Other-clause-survives g c = still_then (state g.S.Store c.args.rows.now.conn.now) (state g.S.Store c.commands.rows.conn.now) (state g.S.Store c.next_filed.new.rows.conn.now) c.commands.invariant.1 c.next_filed.ensures.survives

pub returns-in-Other-clause-kept : goal.returns-in-Other-clause-kept
returns-in-Other-clause-kept g c v t keeps = c.next_filed.ensures.kept v t (c.commands.invariant.6 v t keeps)

pub returns-in-Other-clause-mode : goal.returns-in-Other-clause-mode
returns-in-Other-clause-mode g c idle = c.next_filed.ensures.mode (c.commands.invariant.2 idle)

pub returns-in-Other-clause-same : goal.returns-in-Other-clause-same
returns-in-Other-clause-same g c late =
    let mid = state g.S.Store c.commands.rows.conn.now in
    let new = state g.S.Store c.next_filed.new.rows.conn.now in
    unchanged_after (state g.S.Store c.args.rows.now.conn.now) mid new (c.commands.invariant.4 (clean_before mid new c.next_filed.ensures.survives late)) (c.in_ok-number.ensures.same late)

pub returns-in-End-clause-same_reference : goal.returns-in-End-clause-same_reference
returns-in-End-clause-same_reference g c = c.next_filed.ensures.same_reference ∙ c.commands.invariant.0

pub returns-in-End-clause-survives : goal.returns-in-End-clause-survives
returns-in-End-clause-survives g c = still_then (state g.S.Store c.args.rows.now.conn.now) (state g.S.Store c.commands.rows.conn.now) (state g.S.Store c.next_filed.new.rows.conn.now) c.commands.invariant.1 c.next_filed.ensures.survives

pub returns-in-End-clause-kept : goal.returns-in-End-clause-kept
returns-in-End-clause-kept g c v t keeps = c.next_filed.ensures.kept v t (c.commands.invariant.6 v t keeps)

pub returns-in-End-clause-mode : goal.returns-in-End-clause-mode
returns-in-End-clause-mode g c idle = c.next_filed.ensures.mode (c.commands.invariant.2 idle)

pub returns-in-End-clause-valid : goal.returns-in-End-clause-valid
returns-in-End-clause-valid g c = (omega (arith, c.commands.invariant.3, c.commands.auto.at-end), c.commands.invariant.5)

pub returns-in-End-clause-same : goal.returns-in-End-clause-same
returns-in-End-clause-same g c late =
    let mid = state g.S.Store c.commands.rows.conn.now in
    let new = state g.S.Store c.next_filed.new.rows.conn.now in
    unchanged_after (state g.S.Store c.args.rows.now.conn.now) mid new (c.commands.invariant.4 (clean_before mid new c.next_filed.ensures.survives late)) (c.in_ok-number.ensures.same late)

pub returns-in_err-is_over-clause-same_reference : goal.returns-in_err-is_over-clause-same_reference
returns-in_err-is_over-clause-same_reference g c = c.is_over.ensures.same_reference ∙ c.commands.invariant.0

pub returns-in_err-is_over-clause-survives : goal.returns-in_err-is_over-clause-survives
returns-in_err-is_over-clause-survives g c = still_then (state g.S.Store c.args.rows.now.conn.now) (state g.S.Store c.commands.rows.conn.now) (state g.S.Store c.is_over.new.rows.conn.now) c.commands.invariant.1 c.is_over.ensures.survives

pub returns-in_err-is_over-clause-kept : goal.returns-in_err-is_over-clause-kept
returns-in_err-is_over-clause-kept g c v t keeps = c.is_over.ensures.kept v t (c.commands.invariant.6 v t keeps)

pub returns-in_err-is_over-clause-mode : goal.returns-in_err-is_over-clause-mode
returns-in_err-is_over-clause-mode g c idle = c.is_over.ensures.mode (c.commands.invariant.2 idle)

pub returns-in_err-is_over-clause-faults : goal.returns-in_err-is_over-clause-faults
returns-in_err-is_over-clause-faults g c = of_error c.from_residual-in_err-is_over.result IsStoreFault c.from_residual-in_err-is_over.ensures.1 (λ stop is. subst IsStoreFault (sym is) c.in_err-is_over.ensures.faults)

pub returns-in_err-is_over-clause-valid : goal.returns-in_err-is_over-clause-valid
returns-in_err-is_over-clause-valid g c = no_value c.from_residual-in_err-is_over.result (AreFiled c.args.version) c.from_residual-in_err-is_over.ensures.0

pub returns-in_err-is_over-clause-same : goal.returns-in_err-is_over-clause-same
returns-in_err-is_over-clause-same g c late = no_value c.from_residual-in_err-is_over.result _ c.from_residual-in_err-is_over.ensures.0

pub returns-in_err-is_over-clause-read : goal.returns-in_err-is_over-clause-read
returns-in_err-is_over-clause-read g c late = no_value c.from_residual-in_err-is_over.result _ c.from_residual-in_err-is_over.ensures.0

pub returns-then-branch-clause-same_reference : goal.returns-then-branch-clause-same_reference
returns-then-branch-clause-same_reference g c = c.is_over.ensures.same_reference ∙ c.commands.invariant.0

pub returns-then-branch-clause-survives : goal.returns-then-branch-clause-survives
returns-then-branch-clause-survives g c = still_then (state g.S.Store c.args.rows.now.conn.now) (state g.S.Store c.commands.rows.conn.now) (state g.S.Store c.is_over.new.rows.conn.now) c.commands.invariant.1 c.is_over.ensures.survives

pub returns-then-branch-clause-kept : goal.returns-then-branch-clause-kept
returns-then-branch-clause-kept g c v t keeps = c.is_over.ensures.kept v t (c.commands.invariant.6 v t keeps)

pub returns-then-branch-clause-mode : goal.returns-then-branch-clause-mode
returns-then-branch-clause-mode g c idle = c.is_over.ensures.mode (c.commands.invariant.2 idle)

pub returns-then-branch-clause-valid : goal.returns-then-branch-clause-valid
returns-then-branch-clause-valid g c = (omega (arith, c.commands.invariant.3, c.commands.auto.at-end), c.commands.invariant.5)

pub returns-then-branch-clause-same : goal.returns-then-branch-clause-same
returns-then-branch-clause-same g c late =
    let mid = state g.S.Store c.commands.rows.conn.now in
    let new = state g.S.Store c.is_over.new.rows.conn.now in
    unchanged_after (state g.S.Store c.args.rows.now.conn.now) mid new (c.commands.invariant.4 (clean_before mid new c.is_over.ensures.survives late)) (c.in_ok-is_over.ensures.same late)

pub returns-else-branch-clause-same_reference : goal.returns-else-branch-clause-same_reference
returns-else-branch-clause-same_reference g c = c.is_over.ensures.same_reference ∙ c.commands.invariant.0

pub returns-else-branch-clause-survives : goal.returns-else-branch-clause-survives
returns-else-branch-clause-survives g c = still_then (state g.S.Store c.args.rows.now.conn.now) (state g.S.Store c.commands.rows.conn.now) (state g.S.Store c.is_over.new.rows.conn.now) c.commands.invariant.1 c.is_over.ensures.survives

pub returns-else-branch-clause-kept : goal.returns-else-branch-clause-kept
returns-else-branch-clause-kept g c v t keeps = c.is_over.ensures.kept v t (c.commands.invariant.6 v t keeps)

pub returns-else-branch-clause-mode : goal.returns-else-branch-clause-mode
returns-else-branch-clause-mode g c idle = c.is_over.ensures.mode (c.commands.invariant.2 idle)

pub returns-else-branch-clause-same : goal.returns-else-branch-clause-same
returns-else-branch-clause-same g c late =
    let mid = state g.S.Store c.commands.rows.conn.now in
    let new = state g.S.Store c.is_over.new.rows.conn.now in
    unchanged_after (state g.S.Store c.args.rows.now.conn.now) mid new (c.commands.invariant.4 (clean_before mid new c.is_over.ensures.survives late)) (c.in_ok-is_over.ensures.same late)

pub returns-in_err-number-clause-cause : goal.returns-in_err-number-clause-cause
returns-in_err-number-clause-cause g c late live v has given =
    let old = state g.S.Store c.args.rows.now.conn.now in
    let mid = state g.S.Store c.commands.rows.conn.now in
    let new = state g.S.Store c.next_filed.new.rows.conn.now in
    let early : HasCleanDisk mid = clean_before mid new c.next_filed.ensures.survives late in
    let there = ap (λ (d : Database). d.schema) (c.commands.invariant.4 early live).0.now_is ∙ has in
    cause_of_error old new c.from_residual.result _ c.from_residual.ensures.1
    (λ store. failed_after old mid new _ _ c.commands.invariant.1 early c.next_filed.ensures.survives
    (c.in_err-number.ensures.cause late v there (rows_under c.args.version c.commands.invariant.7) (c.commands.invariant.9 early live v has given) store))

pub returns-in_err-is_over-clause-cause : goal.returns-in_err-is_over-clause-cause
returns-in_err-is_over-clause-cause g c late live v has given =
    let old = state g.S.Store c.args.rows.now.conn.now in
    let mid = state g.S.Store c.commands.rows.conn.now in
    let new = state g.S.Store c.is_over.new.rows.conn.now in
    let early : HasCleanDisk mid = clean_before mid new c.is_over.ensures.survives late in
    let there = ap (λ (d : Database). d.schema) (c.commands.invariant.4 early live).0.now_is ∙ has in
    cause_of_error old new c.from_residual-in_err-is_over.result _ c.from_residual-in_err-is_over.ensures.1
    (λ store. failed_after old mid new _ _ c.commands.invariant.1 early c.is_over.ensures.survives
    (c.in_err-is_over.ensures.cause late command_listing.text (answered_over command_listing (lists_commands v) there) (rows_under c.args.version c.commands.invariant.7) (c.commands.invariant.9 early live v has given) store))

pub returns-in_err-push-in-Higher-clause-cause : goal.returns-in_err-push-in-Higher-clause-cause
returns-in_err-push-in-Higher-clause-cause g c late live v has given =
    no_fault (state g.S.Store c.args.rows.now.conn.now) (state g.S.Store c.next_filed.new.rows.conn.now) c.from_residual-in_err-push-in-Higher.result
    (of_error c.from_residual-in_err-push-in-Higher.result _ c.from_residual-in_err-push-in-Higher.ensures.1 (λ stop is. is))
