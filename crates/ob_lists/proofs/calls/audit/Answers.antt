use Rattle.ob_lists.specs.Standing.{MayBe}
use Rattle.ob_lists.proofs.Auditing.{audits_one}
use Rattle.ob_lists.proofs.Standings.{after_result, kept_on}
use Rattle.ob_lists.proofs.calls.audit.Goals as goal
use Rattle.ob_store.specs.Keepers.{book_of}

pub returns-clause-goes : goal.returns-clause-goes
returns-clause-goes g c =
    let old = c.args.keeper.now in
    let new = c.audit.new.self in
    record {
      clean = c.audit.ensures.clean;
      stands = λ clean b before stands. kept_on old new (MayBe b before) c.audit.ensures.answers.keeps
          (after_result (book_of old) (book_of new) c.audit.result c.audit.ensures.found c.audit.ensures.dropped) stands;
    }

pub returns-clause-audits : goal.returns-clause-audits
returns-clause-audits g c =
    let a = c.audit.ensures in
    λ clean b told stands. audits_one c.naming_law.ensures.few c.args.keeper.now c.audit.new.self (MayBe b told) clean (a.clean clean) c.audit.result a.answers a.stops
    a.audited a.outdated stands
