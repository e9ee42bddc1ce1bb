use Rattle.std.proofs.Common.{◌≡◌, ◌<◌, ◌^◌, ℕ, subst, sym, rules}
use Rattle.jiff_fmt.proofs.ReaderLemmas.{ten_pow-pos}
use Rattle.ob_selections.proofs.decimals.unit_of.Goals as goal

pub returns-clause-positive : goal.returns-clause-positive
returns-clause-positive c =
    let is : c.pow.result ≡ 10 ^ c.args.places = search rules in subst (λ (n : ℕ). 0 < n) (sym is) (ten_pow-pos c.args.places)
