-- Effects, and what leads from runs to runs.
use Rattle.std.proofs.Common.{◌≡◌, ◌∙◌, sym, ap₂, refl, ℕ, ◌++◌, List, [], ◌∷◌, map, ℤ, pos, ◌-ℤ◌, arith}
use Rattle.std.specs.List.{filter}
use Rattle.std.proofs.lemmas.Int.{ints}
use Rattle.std.proofs.lemmas.List.Elements.{filter-append}
use Rattle.ob_time.specs.Calendar.{day_count}
use Rattle.ob_post.specs.Keys.{keys}
use Rattle.ob_post.specs.Moved.{moves_by, changes_under, is_nonzero}
use Rattle.ob_post.specs.declared.Dim.{Dim}
use Rattle.ob_post.specs.declared.Dim.TheVariants.{Cause, Feeder, Day}
use Rattle.ob_post.specs.declared.Moved.{Moved}
use Rattle.ob_state.specs.declared.effect.Effect.{Effect}
use Rattle.ob_state.specs.declared.retiming.Retiming.{Retiming}
use Rattle.ob_state.specs.declared.retiming.Retiming.TheVariants.{Same, By}
use Rattle.ob_state.specs.State.{BookState}
use Rattle.ob_state.specs.Amounts.{amount, moves}
use Rattle.ob_state.specs.Retimings.{LeadsTo}
use Rattle.ob_state.specs.Effects.{IsEffect}

-- how many commands were accepted matters to no effect
leads_next : (b c : BookState) (n : ℕ) (r : Retiming) → LeadsTo b c r → LeadsTo b (record c { accepted = n }) r
leads_next b c n Same h = h
leads_next b c n (By delta) h = h

pub effect_next : (b c : BookState) (n : ℕ) (e : Effect) → IsEffect b c e → IsEffect b (record c { accepted = n }) e
effect_next b c n e h = record { moved = h.moved; retiming = leads_next b c n e.retiming h.retiming }

-- ---- where no amount changes
none_kept : (xs : List ℕ) (dim : Dim) (change : ℕ → ℤ) → ((key : ℕ) → change key ≡ pos 0)
    → filter (λ (m : Moved). is_nonzero m.delta) (map (λ key. record { dim = dim; key = key; delta = change key }) xs) ≡ []
none_kept [] dim change h = refl
none_kept (x ∷ xs) dim change h = rw (h x) (none_kept xs dim change h)

no_moves : (days : ℕ) (change : Dim → ℕ → ℤ) → ((dim : Dim) (key : ℕ) → change dim key ≡ pos 0) → moves_by change days ≡ []
no_moves days change h =
    filter-append (λ (m : Moved). is_nonzero m.delta) (changes_under change days Cause ++ changes_under change days Feeder) (changes_under change days Day)
    ∙ ap₂ (λ (xs ys : List Moved). xs ++ ys)
    (filter-append (λ (m : Moved). is_nonzero m.delta) (changes_under change days Cause) (changes_under change days Feeder)
    ∙ ap₂ (λ (xs ys : List Moved). xs ++ ys) (none_kept (keys days Cause) Cause (change Cause) (h Cause)) (none_kept (keys days Feeder) Feeder (change Feeder) (h Feeder)))
    (none_kept (keys days Day) Day (change Day) (h Day))

-- a command that changes neither the network nor the sheet nor the roll moves nothing
pub nothing_moved : (b c : BookState) (moved : List Moved) → ((dim : Dim) (key : ℕ) → amount c dim key ≡ amount b dim key) → moved ≡ [] → moved ≡ moves b c
nothing_moved b c moved same e =
    e ∙ sym (no_moves (day_count b.period) (λ dim key. pos (amount c dim key) -ℤ pos (amount b dim key)) (λ dim key. let h = same dim key in omega (arith, ints)))
