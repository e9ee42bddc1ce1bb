use Rattle.std.proofs.Common.{sym}
use Rattle.ob_net.proofs.Added.{apart_of}
use Rattle.ob_net.proofs.net.Net.ends_of.Goals as goal

pub returns-clause-apart : goal.returns-clause-apart
returns-clause-apart c =
    apart_of c.args.self.now.network c.args.a.now c.args.b.now c.in-Some.a c.in-Some-node_of.b (sym c.in-Some.ensures.node) (sym c.in-Some-node_of.ensures.node)
