-- How often commands that are replayed may search the network.
use Rattle.std.proofs.Common.{◌≡◌, ℕ, ◌+◌, ◌<◌, ◌≤◌, List, drop, get_or, length, ap, arith}
use Rattle.ob_state.specs.State.{BookState}
use Rattle.ob_state.specs.Next.{next}
use Rattle.ob_state.specs.Searches.{all_searches, most_searches}
use Rattle.ob_book.specs.Searches.{Bound}
use Rattle.ob_sql_read.specs.declared.filed.Filed.{Filed}
use Rattle.ob_sql_read.specs.Listing.{filed_of}
use Rattle.ob_sql_read.specs.Moves.{commands_of}
use Rattle.ob_sql_read.proofs.Rowing.{drop_one}

-- those of commands that are left
abbrev pub left_searches : Bound → BookState → List Filed → ℕ
left_searches bound b list = all_searches bound b (commands_of (filed_of list))

module _ (bound : Bound) (b : BookState) (list : List Filed) (i : ℕ) (f : Filed) (low : i < length list) (here : f ≡ get_or list i f) where
  -- are those of the first of them and those of the others
  pub left_on : left_searches bound b (drop i list) ≡ most_searches bound b f.command + left_searches bound (next b f.command) (drop (i + 1) list)
  left_on = ap (left_searches bound b) (drop_one list i f low here)

  -- and no fewer than those of the first
  pub left_one : most_searches bound b f.command ≤ left_searches bound b (drop i list)
  left_one = omega (arith, left_on)

-- and the same from an equal state
pub left_from : (bound : Bound) (b c : BookState) (list : List Filed) → b ≡ c → left_searches bound b list ≡ left_searches bound c list
left_from bound b c list same = ap (λ (s : BookState). left_searches bound s list) same
