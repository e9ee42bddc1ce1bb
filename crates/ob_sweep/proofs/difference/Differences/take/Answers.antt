use Rattle.std.proofs.Common.{List, map}
use Rattle.ob_sweep.specs.declared.Run.{Run}
use Rattle.ob_sweep.proofs.Gone.{gone_taken}
use Rattle.ob_sweep.proofs.difference.Differences.take.Goals as goal

pub returns-then-any_alters-clause-gone : goal.returns-then-any_alters-clause-gone
returns-then-any_alters-clause-gone c =
    let lists : List (List Run) = map (λ l. l.items) c.args.old.now in
    gone_taken c.args.net.now.network c.args.entries.now c.args.second lists c.args.self.now c.take_second.new.self c.in_ok-take_second.ensures.taken

pub returns-clause-gone : goal.returns-clause-gone
returns-clause-gone c =
    let lists : List (List Run) = map (λ l. l.items) c.args.old.now in
    c.pass.ensures.gone c.args.second lists
