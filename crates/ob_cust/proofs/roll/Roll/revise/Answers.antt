use Rattle.std.proofs.Common.{◌==◌, ℕ, ap, ◌∙◌}
use Rattle.std.specs.List.{find}
use Rattle.ob_cust.specs.Roll.{with_service}
use Rattle.ob_cust.proofs.Revised.{found_number}
use Rattle.ob_cust.proofs.roll.Roll.revise.Goals as goal

pub serve-requires-clause-on : goal.serve-requires-clause-on
serve-requires-clause-on c =
    ap (λ (m : ℕ). find (λ d. d.«no» == m) c.args.self.now.customers) (found_number c.args.no c.args.self.now.customers c.in_ok-customer.customer c.in_ok-customer.ensures.found) ∙ c.in_ok-customer.ensures.found

pub returns-clause-ok : goal.returns-clause-ok
returns-clause-ok c =
    c.serve.ensures.customers
    ∙ ap (λ (m : ℕ). with_service m c.args.since c.args.until c.args.self.now.customers) (found_number c.args.no c.args.self.now.customers c.in_ok-customer.customer c.in_ok-customer.ensures.found)
