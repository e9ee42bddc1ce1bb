use Rattle.std.proofs.Common.{refl}
use Rattle.matchit.proofs.OnLiterals.{matchit_on_literals}
use Rattle.ob_http_routes.proofs.routes.routes_law.Goals as goal

pub returns : goal.returns
unfolding matchit_on_literals
returns c = record { totals = refl; commands = refl; command = refl; entry = refl; table = refl; indices = refl; import = refl; plan = refl; supply = refl; deeper = refl; empty = refl; word = refl; long = refl }
