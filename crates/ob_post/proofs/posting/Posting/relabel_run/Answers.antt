use Rattle.std.proofs.Common.{◌∙◌, sym, ap, ℕ, FitsSigned, arith, rules}
use Rattle.std.specs.Int.{w64, cast_signed, cast_unsigned}
use Rattle.std.proofs.lemmas.Int.{to_z-of_z}
use Rattle.ob_time.specs.Calendar.{day_count, days_of}
use Rattle.ob_post.specs.RunAmounts.{customer_seconds_in}
use Rattle.ob_post.specs.declared.Dim.{Dim}
use Rattle.ob_post.specs.declared.posting.Posting.{Posting}
use Rattle.ob_post.proofs.Balancing.{same_more}
use Rattle.ob_post.proofs.PartByPart.{cause_moved}
use Rattle.ob_post.proofs.posting.Posting.relabel_run.Goals as goal

pub returns-then-before-after-clause-posted : goal.returns-then-before-after-clause-posted
returns-then-before-after-clause-posted c = λ feeder old new b.
    let amount : ℕ → Dim → ℕ → ℕ = λ cause. customer_seconds_in c.args.basis.now.roll.now.customers c.args.run.now cause feeder (days_of c.args.basis.now.period.now) in
    same_more (day_count c.args.basis.now.period.now) c.args.self.now old new (amount c.args.before) (amount c.args.after) (λ dim key. ap (λ cause. amount cause dim key) (sym c.if-before-after.true)) b

pub returns-clause-posted : goal.returns-clause-posted
returns-clause-posted c = λ feeder old new b.
    let fits : FitsSigned w64 c.served_delta-delta.result = search rules in
    let z = cast_signed w64 (cast_unsigned w64 c.served_delta-delta.result) in
    let q : Posting = record c.args.self.now { taken = c.push.new.self; given = c.push-2.new.self } in
    cause_moved (day_count c.args.basis.now.period.now) c.args.self.now q c.args.basis.now.roll.now.customers c.args.run.now c.args.before c.args.after feeder c.from.result c.from-2.result (days_of c.args.basis.now.period.now) z old new
    c.in_ok-push.ensures.items c.in_ok-push-2.ensures.items c.from.ensures c.from-2.ensures (to_z-of_z w64 c.served_delta-delta.result fits ∙ c.served_delta-delta.ensures) c.requires.before c.requires.after (omega arith) b
