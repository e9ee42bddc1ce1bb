-- Deltas of runs, as the state's runs have them.
use Rattle.std.proofs.Common.{◌≡◌, ◌∙◌, sym, subst, refl, ℕ, suc, ◌==◌, ◌<◌, ◌≤◌, List, [], ◌∷◌, Some, None, length, arith}
use Rattle.std.specs.List.{All, Contains}
use Rattle.std.proofs.lemmas.Bool.{ne_eqb, cond-false}
use Rattle.ob_net.specs.Network.{Network}
use Rattle.ob_sweep.specs.declared.Run.{Run}
use Rattle.ob_sweep.specs.Deltas.{new_runs, sections_of, Fits, IsDelta}
use Rattle.ob_sweep.specs.Timeline.{runs_at, IsSection}
use Rattle.ob_state.specs.State.{BookState}
use Rattle.ob_state.specs.States.{AreRunsOf}

-- a section that isn't touched has no new runs
pub untouched : (delta : List (ℕ × List Run)) (v : ℕ) → (Contains (sections_of delta) v → ⊥) → new_runs delta v ≡ None
untouched [] v h = refl
untouched (w ∷ ws) v h =
    let other : w.0 ≡ v → ⊥ = λ e. h (0, omega arith, e) in
    let rest : Contains (sections_of ws) v → ⊥ = λ at. h (suc at.0, (let l = at.1 in omega arith), at.2) in
    cond-false (w.0 == v) (Some w.1) (new_runs ws v) (ne_eqb w.0 v other) ∙ untouched ws v rest

-- a delta from lists is one from any lists that hold the same for each section
pub delta_of_same : (net : Network) (one other : List (List Run)) (delta : List (ℕ × List Run)) (now : ℕ → List Run) → length one ≡ length other
    → ((v : ℕ) → IsSection net v → runs_at one v ≡ runs_at other v) → Fits one delta → IsDelta net delta one now → Fits other delta × IsDelta net delta other now
delta_of_same net one other delta now long same fits is = (
  subst (λ (n : ℕ). All (λ (v : ℕ). v < n) (sections_of delta)) long fits,
  record {
    sections = is.sections;
    named = λ v rs e. let named = is.named v rs e in (named.0, λ q. named.1 (q ∙ sym (same v (is.sections v rs e))));
    others = λ v s e. is.others v s e ∙ same v s;
  },
)

-- a delta from the lists that hold a state's runs is one from any lists that hold them, where the sections are the state's
pub delta_of_other : (b : BookState) (net : Network) (one other : List (List Run)) (delta : List (ℕ × List Run)) (now : ℕ → List Run) → AreRunsOf b one → AreRunsOf b other
    → ((v : ℕ) → IsSection net v → IsSection b.network v) → Fits one delta → IsDelta net delta one now → Fits other delta × IsDelta net delta other now
delta_of_other b net one other delta now first second old fits is =
    delta_of_same net one other delta now (first.places ∙ sym second.places) (λ v s. let o = old v s in first.defined v o ∙ sym (second.defined v o)) fits is

-- the same of a state with the same network, with a list for each node
pub delta_of_any : (b : BookState) (one other : List (List Run)) (delta : List (ℕ × List Run)) (now : ℕ → List Run) → AreRunsOf b one → AreRunsOf b other → Fits one delta → IsDelta b.network delta one now
    → (length b.network.nodes ≤ length b.network.nodes) × (length b.network.nodes ≤ length other) × Fits other delta × IsDelta b.network delta other now
delta_of_any b one other delta now first second fits is =
    let given = delta_of_other b b.network one other delta now first second (λ v s. s) fits is in (omega arith, second.count, given.0, given.1)
