use Rattle.std.proofs.Common.{ℕ, List, subst, sym}
use Rattle.ob_base.specs.declared.Pos.{Pos}
use Rattle.ob_net.specs.Joints.{IsComponent}
use Rattle.ob_net.specs.Network.{Network}
use Rattle.ob_net.specs.Walk.{is_supplied}
use Rattle.ob_net.proofs.Supplied.{supplied_part}
use Rattle.ob_net.proofs.net.Net.supplied_among.Goals as goal

pub returns-clause-supplied : goal.returns-clause-supplied
returns-clause-supplied c =
    let net : Network = c.args.self.now.network in
    let ps : List Pos = c.args.positions.now in
    c.supplied_among.ensures.supplied (is_supplied net ps)
    (subst (λ (ends : List (ℕ × ℕ)). IsComponent ends ps 0 (is_supplied net ps)) (sym c.requires.of.ends) (supplied_part net ps))
