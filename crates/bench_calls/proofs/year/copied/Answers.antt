use Rattle.std.proofs.Common.{rules, inr}
use Rattle.std.proofs.Math.Seq.{take-append_seam}
use Rattle.bench_calls.proofs.year.copied.Goals as goal

pub returns : goal.returns
returns c = inr (search (rules, take-append_seam))
