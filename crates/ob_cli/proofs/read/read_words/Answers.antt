use Rattle.std.proofs.Common.{◌∙◌, Bor, List, map}
use Rattle.clap.specs.Words.{Text}
use Rattle.ob_cli.proofs.Reasons.{error_reason, matched_is_job, no_errors, no_job_reason}
use Rattle.ob_cli.proofs.read.read_words.Goals as goal

abbrev texts : List (Bor Text) → List Text
texts = map (λ w. w.now)

pub returns-in-Err-clause-reason : goal.returns-in-Err-clause-reason
returns-in-Err-clause-reason c =
    error_reason _ (texts c.args.words.now) c.in-Err.error c.reason_of.result c.in_ok-command.ensures
    c.in-Err.ensures.kinds c.reason_of.ensures

pub returns-in-Some-clause-job : goal.returns-in-Some-clause-job
returns-in-Some-clause-job c =
    matched_is_job _ (texts c.args.words.now) _ _ _ c.in_ok-command.ensures
    c.in-Ok.ensures.kinds c.in-Ok.ensures.matches c.in_ok-job.ensures ∙ c.in-Some.is

pub returns-clause-reason : goal.returns-clause-reason
returns-clause-reason c =
    no_job_reason (texts c.args.words.now)
    (no_errors _ (texts c.args.words.now) c.in_ok-command.ensures c.in-Ok.ensures.kinds)
    (matched_is_job _ (texts c.args.words.now) _ _ _ c.in_ok-command.ensures
    c.in-Ok.ensures.kinds c.in-Ok.ensures.matches c.in_ok-job.ensures ∙ c.in-None.is)
