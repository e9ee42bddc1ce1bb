use Rattle.std.proofs.Common.{◌≡◌, ◌⊎◌, [], ◌∷◌, Ok, inl, rules, refl, sym, subst, arith}
use Rattle.sqlite.specs.Held.{state}
use Rattle.sqlite.specs.State.{HasCleanDisk, Survives}
use Rattle.sqlite.proofs.StateLemmas.{survives_then}
use Rattle.ob_book.specs.Acts.{ActState}
use Rattle.ob_sql_rows.specs.Steps.{HasFailed, Silent}
use Rattle.ob_sql_rows.proofs.Failing.{failed_before}
use Rattle.ob_sql_write.specs.Keeps.{KeepsNumbers, WasUndone}
use Rattle.ob_sql_write.proofs.Commits.{numbers_survive, silent_begin, survives_drop}
use Rattle.ob_record.specs.Tables.{tables_of}
use Rattle.ob_store.specs.Whole.{ActsAll, EndsAt, KeepsFirstOrLast, LeadTo, LeavesLast}
use Rattle.ob_store.proofs.Committing.{acts_none, commit_cause, ends_at, kept_dropped, kept_either, kept_last, left_last, numbers_last, shows_begun, starved_none, survives_same, whole_begun}
use Rattle.ob_store.proofs.Giving.{begins_all, over_fault, over_first, over_none}
use Rattle.ob_store.proofs.whole.act_all_on.Goals as goal

-- ---- there is no line
pub returns-in-Ok-None-clause-over : goal.returns-in-Ok-None-clause-over
returns-in-Ok-None-clause-over g c =
    let old = state g.S.Store c.args.conn.now in
    over_none g.L.Lines.gives c.args.lines.now c.next.new.self _ (rw c.in-Ok-None.field-0-is at c.in-Ok-None.ensures.given) (record {
      few = omega arith;
      within = tt;
      acts = λ clean b keeps same. acts_none g.S.Store c.args.conn.now c.args.book.now.state b [] refl keeps same;
      cause = λ clean b keeps numbers same. tt;
      survives = survives_same old (LeavesLast old c.args.book.now.state []);
      searched = λ clean b keeps same. omega arith;
    })

-- ---- memory was refused for the first
pub returns-in-Err-clause-over : goal.returns-in-Err-clause-over
returns-in-Err-clause-over g c =
    let old = state g.S.Store c.args.conn.now in
    over_fault g.L.Lines.gives c.args.lines.now c.next.new.self c.in-Err.fault _ c.in-Err.ensures.given (λ list. starved_none g.S.Store g.T.Timeline.bound c.args.conn.now c.args.book.now.state c.args.book.now.searches list c.in-Err.fault c.in-Err.ensures.memory)

-- ---- a line was refused, memory was or the store failed: the transaction is dropped
pub returns-in-Err-act_lines-clause-over : goal.returns-in-Err-act_lines-clause-over
returns-in-Err-act_lines-clause-over g c =
    let h = c.args.conn.now in
    let old = state g.S.Store h in
    let last = state g.S.Store c.act_lines.new.tx.conn.now in
    let end = c.drop-tx.new.self.0 in
    let same_end : end ≡ c.conn-1.given.0 = search rules in
    let quiet : Silent old last = silent_begin g.S.Store h last (subst (λ x. Silent (state g.S.Store x) last) c.transaction-tx.ensures.begun c.act_lines.ensures.silent) in
    over_first g.L.Lines.gives c.args.lines.now c.next.new.self c.act_lines.new.lines c.in-Ok-Some.first _ _ (rw c.in-Ok-Some.field-0-is at c.in-Ok-Some.ensures.given) c.in-Err-act_lines.ensures.over (λ tail it.
    let list = c.in-Ok-Some.first ∷ tail in
    record {
      few = tt;
      within = it.within;
      acts = λ clean b keeps same.
          let done : HasCleanDisk (state g.S.Store end) = subst (λ x. HasCleanDisk (state g.S.Store x)) (sym same_end) clean in
          let late : HasCleanDisk last = omega (arith, c.drop-tx.ensures.survives.clean, done) in
          let first : HasCleanDisk old = omega (arith, quiet.survives.clean, late) in
          let halts = (rw c.transaction-tx.ensures.begun at it.tries) late b (shows_begun old b first keeps) same in
          let stays = kept_dropped old last (state g.S.Store end) b quiet c.drop-tx.ensures.undone c.drop-tx.ensures.survives keeps in
          subst (λ x. EndsAt (state g.S.Store x) b list c.in-Err-act_lines.halted.place c.in-Err-act_lines.halted.stop) same_end
          (ends_at (state g.S.Store end) b list c.in-Err-act_lines.halted.place c.in-Err-act_lines.halted.stop stays c.in-Err-act_lines.ensures.faults halts);
      cause = λ clean b keeps numbers same store.
          let done : HasCleanDisk (state g.S.Store end) = subst (λ x. HasCleanDisk (state g.S.Store x)) (sym same_end) clean in
          let late : HasCleanDisk last = omega (arith, c.drop-tx.ensures.survives.clean, done) in
          let first : HasCleanDisk old = omega (arith, quiet.survives.clean, late) in
          let whole = whole_begun old b first c.schema-schema.ensures.live (λ live. g.met.S.Store.stays h.store live) keeps numbers in
          let failed = (rw c.transaction-tx.ensures.begun at c.in-Err-act_lines.ensures.cause) late b (shows_begun old b first keeps) whole same store in
          inl (subst (λ x. HasFailed old (state g.S.Store x)) same_end (failed_before old last (state g.S.Store end) _ failed c.drop-tx.ensures.survives));
      survives =
          let commits = LeavesLast old c.args.book.now.state list in
          subst (λ x. Survives old (state g.S.Store x) commits) same_end (survives_drop old last (state g.S.Store end) commits quiet c.drop-tx.ensures.survives);
      searched = λ clean b keeps same. tt;
    })

pub returns-in-Err-act_lines-clause-numbered : goal.returns-in-Err-act_lines-clause-numbered
returns-in-Err-act_lines-clause-numbered g c b keeps same numbers =
    let h = c.args.conn.now in
    let old = state g.S.Store h in
    let last = state g.S.Store c.act_lines.new.tx.conn.now in
    let end = c.drop-tx.new.self.0 in
    let same_end : end ≡ c.conn-1.given.0 = search rules in
    let quiet : Silent old last = silent_begin g.S.Store h last (subst (λ x. Silent (state g.S.Store x) last) c.transaction-tx.ensures.begun c.act_lines.ensures.silent) in
    subst (λ x. KeepsNumbers (state g.S.Store x)) same_end
    (numbers_survive last (state g.S.Store end) c.drop-tx.ensures.survives (numbers_survive old last quiet.survives numbers))

-- ---- all lines were written, and the transaction was committed
pub returns-in-Ok-commit-clause-over : goal.returns-in-Ok-commit-clause-over
returns-in-Ok-commit-clause-over g c =
    let h = c.args.conn.now in
    let old = state g.S.Store h in
    let last = state g.S.Store c.act_lines.new.tx.conn.now in
    let end = c.commit.new.self.0 in
    let same_end : end ≡ c.conn-2-1.given.0 = search rules in
    let quiet : Silent old last = silent_begin g.S.Store h last (subst (λ x. Silent (state g.S.Store x) last) c.transaction-tx.ensures.begun c.act_lines.ensures.silent) in
    let added = c.in-Ok.applied.added in
    let memory = c.act_lines.new.book.state in
    over_first g.L.Lines.gives c.args.lines.now c.next.new.self c.act_lines.new.lines c.in-Ok-Some.first _ _ (rw c.in-Ok-Some.field-0-is at c.in-Ok-Some.ensures.given) c.in-Ok.ensures.over (λ tail it.
    let list = c.in-Ok-Some.first ∷ tail in
    record {
      few = omega (arith, it.few.0, it.few.1);
      within = tt;
      acts = λ clean b keeps same.
          let done : HasCleanDisk (state g.S.Store end) = subst (λ x. HasCleanDisk (state g.S.Store x)) (sym same_end) clean in
          let late : HasCleanDisk last = omega (arith, c.commit.ensures.survives.clean, done) in
          let first : HasCleanDisk old = omega (arith, quiet.survives.clean, late) in
          let live = (rw c.transaction-tx.ensures.begun at c.in-Ok.ensures.live) late in
          let led = (rw c.transaction-tx.ensures.begun at it.tries) late b (shows_begun old b first keeps) same in
          subst (λ x. ActsAll g.S.Store x memory b list (Ok added)) same_end (
            led.book,
            led.lead,
            led.count,
            kept_last old last (state g.S.Store end) memory b list added led live c.schema-schema.ensures.live keeps quiet c.commit.ensures.survives (λ clean. (c.in-Ok-commit.ensures.ok clean).1)
                (λ live trees may. g.met.S.Store.settled end.store trees live may),
            led.memory,
          );
      cause = λ clean b keeps numbers same. tt;
      survives =
          let commits = LeavesLast old c.args.book.now.state list in
          subst (λ x. Survives old (state g.S.Store x) commits) same_end
          (survives_then old last (state g.S.Store end) _ _ commits (λ _ db none. absurd none) (λ clean db is b keeps same.
          let late : HasCleanDisk last = omega (arith, c.commit.ensures.survives.clean, clean) in
          let first : HasCleanDisk old = omega (arith, quiet.survives.clean, late) in
          let live = (rw c.transaction-tx.ensures.begun at c.in-Ok.ensures.live) late in
          let led = (rw c.transaction-tx.ensures.begun at it.tries) late b (shows_begun old b first keeps) same in
          (led.book, led.lead, left_last old last (state g.S.Store end) memory b list added led live c.schema-schema.ensures.live keeps quiet c.commit.ensures.survives clean db is))
          quiet.survives c.commit.ensures.survives);
      searched = λ clean b keeps same.
          let done : HasCleanDisk (state g.S.Store end) = subst (λ x. HasCleanDisk (state g.S.Store x)) (sym same_end) clean in
          let late : HasCleanDisk last = omega (arith, c.commit.ensures.survives.clean, done) in
          let first : HasCleanDisk old = omega (arith, quiet.survives.clean, late) in
          (rw c.transaction-tx.ensures.begun at it.searched) late b (shows_begun old b first keeps) same;
    })

pub returns-in-Ok-commit-clause-numbered : goal.returns-in-Ok-commit-clause-numbered
returns-in-Ok-commit-clause-numbered g c b keeps same numbers =
    let h = c.args.conn.now in
    let old = state g.S.Store h in
    let last = state g.S.Store c.act_lines.new.tx.conn.now in
    let end = c.commit.new.self.0 in
    let same_end : end ≡ c.conn-2-1.given.0 = search rules in
    let quiet : Silent old last = silent_begin g.S.Store h last (subst (λ x. Silent (state g.S.Store x) last) c.transaction-tx.ensures.begun c.act_lines.ensures.silent) in
    subst (λ x. KeepsNumbers (state g.S.Store x)) same_end (λ clean trees may.
    let late : HasCleanDisk last = omega (arith, c.commit.ensures.survives.clean, clean) in
    let first : HasCleanDisk old = omega (arith, quiet.survives.clean, late) in
    let live = (rw c.transaction-tx.ensures.begun at c.in-Ok.ensures.live) late in
    let lines = c.in-Ok.ensures.over in
    let list = c.in-Ok-Some.first ∷ lines.taken in
    let it = (rw c.transaction-tx.ensures.begun at (lines.holds lines.taken (begins_all lines.taken lines.ended)).tries) late b (shows_begun old b first keeps) same in
    numbers_last old last (state g.S.Store end) c.act_lines.new.book.state b list c.in-Ok.applied.added it live c.schema-schema.ensures.live keeps quiet c.commit.ensures.survives numbers
    (λ live. g.met.S.Store.stays h.store live) clean trees may)

-- ---- the commit failed
pub returns-in-Err-commit-clause-over : goal.returns-in-Err-commit-clause-over
returns-in-Err-commit-clause-over g c =
    let h = c.args.conn.now in
    let old = state g.S.Store h in
    let last = state g.S.Store c.act_lines.new.tx.conn.now in
    let end = c.commit.new.self.0 in
    let same_end : end ≡ c.conn-2-1.given.0 = search rules in
    let quiet : Silent old last = silent_begin g.S.Store h last (subst (λ x. Silent (state g.S.Store x) last) c.transaction-tx.ensures.begun c.act_lines.ensures.silent) in
    let added = c.in-Ok.applied.added in
    let memory = c.act_lines.new.book.state in
    over_first g.L.Lines.gives c.args.lines.now c.next.new.self c.act_lines.new.lines c.in-Ok-Some.first _ _ (rw c.in-Ok-Some.field-0-is at c.in-Ok-Some.ensures.given) c.in-Ok.ensures.over (λ tail it.
    let list = c.in-Ok-Some.first ∷ tail in
    record {
      few = tt;
      within = it.few.1;
      acts = λ clean b keeps same.
          let done : HasCleanDisk (state g.S.Store end) = subst (λ x. HasCleanDisk (state g.S.Store x)) (sym same_end) clean in
          let late : HasCleanDisk last = omega (arith, c.commit.ensures.survives.clean, done) in
          let first : HasCleanDisk old = omega (arith, quiet.survives.clean, late) in
          let live = (rw c.transaction-tx.ensures.begun at c.in-Ok.ensures.live) late in
          let led = (rw c.transaction-tx.ensures.begun at it.tries) late b (shows_begun old b first keeps) same in
          subst (λ x. KeepsFirstOrLast (state g.S.Store x) b list) same_end
          (kept_either old last (state g.S.Store end) memory b list added led live c.schema-schema.ensures.live keeps quiet c.commit.ensures.survives _ c.in-Err-commit.ensures.err);
      cause = λ clean b keeps numbers same store.
          let done : HasCleanDisk (state g.S.Store end) = subst (λ x. HasCleanDisk (state g.S.Store x)) (sym same_end) clean in
          let late : HasCleanDisk last = omega (arith, c.commit.ensures.survives.clean, done) in
          let first : HasCleanDisk old = omega (arith, quiet.survives.clean, late) in
          let live = (rw c.transaction-tx.ensures.begun at c.in-Ok.ensures.live) late in
          let led = (rw c.transaction-tx.ensures.begun at it.tries) late b (shows_begun old b first keeps) same in
          subst (λ x. HasFailed old (state g.S.Store x) ⊎ ((b2 : ActState) × LeadTo list b b2 × WasUndone g.S.Store (state g.S.Store x) (tables_of b2))) same_end
          (commit_cause g.S.Store old c.act_lines.new.tx.conn.now (state g.S.Store end) memory b list added led live keeps quiet c.commit.ensures.survives _ done (c.in-Err-commit.ensures.err done));
      survives =
          let commits = LeavesLast old c.args.book.now.state list in
          subst (λ x. Survives old (state g.S.Store x) commits) same_end
          (survives_then old last (state g.S.Store end) _ _ commits (λ _ db none. absurd none) (λ clean db is b keeps same.
          let late : HasCleanDisk last = omega (arith, c.commit.ensures.survives.clean, clean) in
          let first : HasCleanDisk old = omega (arith, quiet.survives.clean, late) in
          let live = (rw c.transaction-tx.ensures.begun at c.in-Ok.ensures.live) late in
          let led = (rw c.transaction-tx.ensures.begun at it.tries) late b (shows_begun old b first keeps) same in
          (led.book, led.lead, left_last old last (state g.S.Store end) memory b list added led live c.schema-schema.ensures.live keeps quiet c.commit.ensures.survives clean db is))
          quiet.survives c.commit.ensures.survives);
      searched = λ clean b keeps same. tt;
    })

pub returns-in-Err-commit-clause-numbered : goal.returns-in-Err-commit-clause-numbered
returns-in-Err-commit-clause-numbered g c b keeps same numbers =
    let h = c.args.conn.now in
    let old = state g.S.Store h in
    let last = state g.S.Store c.act_lines.new.tx.conn.now in
    let end = c.commit.new.self.0 in
    let same_end : end ≡ c.conn-2-1.given.0 = search rules in
    let quiet : Silent old last = silent_begin g.S.Store h last (subst (λ x. Silent (state g.S.Store x) last) c.transaction-tx.ensures.begun c.act_lines.ensures.silent) in
    subst (λ x. KeepsNumbers (state g.S.Store x)) same_end (λ clean trees may.
    let late : HasCleanDisk last = omega (arith, c.commit.ensures.survives.clean, clean) in
    let first : HasCleanDisk old = omega (arith, quiet.survives.clean, late) in
    let live = (rw c.transaction-tx.ensures.begun at c.in-Ok.ensures.live) late in
    let lines = c.in-Ok.ensures.over in
    let list = c.in-Ok-Some.first ∷ lines.taken in
    let it = (rw c.transaction-tx.ensures.begun at (lines.holds lines.taken (begins_all lines.taken lines.ended)).tries) late b (shows_begun old b first keeps) same in
    numbers_last old last (state g.S.Store end) c.act_lines.new.book.state b list c.in-Ok.applied.added it live c.schema-schema.ensures.live keeps quiet c.commit.ensures.survives numbers
    (λ live. g.met.S.Store.stays h.store live) clean trees may)
