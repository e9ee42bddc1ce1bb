-- Rows that move kept amounts by little.
use Rattle.std.specs.Prelude.{◌≤◌}
use Rattle.std.specs.Int.RustNames.{unsigned_abs}
use Rattle.ob_post.specs.declared.Moved.{Moved}
use Rattle.ob_post.specs.Keys.{IsKey}

-- the row moves an amount of the greatest number of days, by at most 10,000
pub record IsSmall (m : Moved) : Type 0 where
  pub key : IsKey 366 m.dim m.key
  pub size : unsigned_abs m.delta ≤ 10000
