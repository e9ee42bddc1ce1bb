use Rattle.std.proofs.Common.{◌∙◌, ap, pos, rules}
use Rattle.ob_time.specs.Calendar.{days_of}
use Rattle.ob_post.proofs.Posted.{posted_is}
use Rattle.ob_post.proofs.run_amounts.amounts.Goals as goal

pub returns-clause-customer_seconds : goal.returns-clause-customer_seconds
returns-clause-customer_seconds c = λ dim key. search rules

pub returns-clause-without_supply : goal.returns-clause-without_supply
returns-clause-without_supply c = λ net entries p e so dim key.
    returns-clause-customer_seconds c dim key
    ∙ ap pos (posted_is net entries c.args.roll.now.customers p c.args.run.now c.args.cause c.args.feeder (days_of c.args.period.now) dim key e so)
