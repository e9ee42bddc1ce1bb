-- What the rows of a posting come to.
use Rattle.std.specs.Prelude.{◌≡◌, ⊤, ℕ, ◌+◌, ◌-ℤ◌, Result, OnOk}
use Rattle.ob_base.specs.declared.stop.Stop.{Stop}
use Rattle.ob_post.specs.MoveLaws.{change_from, AreSmall}
use Rattle.ob_post.specs.Moved.{delta_of, HaveKeys}
use Rattle.ob_post.specs.declared.Dim.{Dim}
use Rattle.ob_post.specs.declared.posting.Posting.{Posting}

-- two amounts together
abbrev pub together : (Dim → ℕ → ℕ) → (Dim → ℕ → ℕ) → Dim → ℕ → ℕ
together a b dim key = a dim key + b dim key

-- with this many days, the rows move amounts that are kept, and what is given less what is taken leads from old amounts to new ones
pub record Balances (days : ℕ) (posting : Posting) (old new : Dim → ℕ → ℕ) : Type 0 where
  pub taken : HaveKeys days posting.taken.items
  pub given : HaveKeys days posting.given.items
  pub change : (dim : Dim) (key : ℕ) → delta_of posting.given.items dim key -ℤ delta_of posting.taken.items dim key ≡ change_from old new dim key

-- whatever amounts the rows lead from and to, they lead from those with these taken to those with these given; nothing is
-- said where memory was refused
abbrev pub Posts : ℕ → Posting → Posting → Result ⊤ Stop → (Dim → ℕ → ℕ) → (Dim → ℕ → ℕ) → Type 0
Posts days was is result taken given = (old new : Dim → ℕ → ℕ) → Balances days was old new
    → OnOk result (Balances days is (together old taken) (together new given))

-- with this many days, the rows lead from small amounts to small ones
pub record IsOfSmall (days : ℕ) (posting : Posting) : Type 0 where
  pub old : Dim → ℕ → ℕ
  pub new : Dim → ℕ → ℕ
  pub small_old : AreSmall old
  pub small_new : AreSmall new
  pub balances : Balances days posting old new
