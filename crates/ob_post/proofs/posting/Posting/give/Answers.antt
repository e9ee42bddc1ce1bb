use Rattle.std.proofs.Common.{◌∙◌, refl}
use Rattle.std.proofs.lemmas.Result.{on_ok_weaker}
use Rattle.ob_time.specs.Calendar.{day_count, days_of}
use Rattle.ob_post.specs.SectionAmounts.{amount_of_runs}
use Rattle.ob_post.proofs.Balancing.{more_given}
use Rattle.ob_post.proofs.SmallCauses.{runs_small}
use Rattle.ob_post.proofs.posting.Posting.give.Goals as goal

pub post_runs-requires-clause-causes : goal.post_runs-requires-clause-causes
post_runs-requires-clause-causes c = runs_small c.args.basis.now.sheet.now.entries c.args.runs.now _ (c.deref.ensures.value ∙ c.in_ok-causes.ensures.causes) c.requires.causes

pub returns-clause-given : goal.returns-clause-given
returns-clause-given c = λ old new b.
    on_ok_weaker c.post_runs.result
    (λ more. more_given (day_count c.args.basis.now.period.now) c.args.self.now (record c.args.self.now { given = c.post_runs.new.rows }) old new (amount_of_runs c.args.basis.now.sheet.now.entries c.args.basis.now.roll.now.customers (days_of c.args.basis.now.period.now) c.args.basis.now.feeder c.args.runs.now) refl c.post_runs.ensures.keys more b)
    (c.post_runs.ensures.amounts c.args.basis.now.sheet.now.entries (c.deref.ensures.value ∙ c.in_ok-causes.ensures.causes))
