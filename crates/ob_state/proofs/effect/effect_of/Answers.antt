use Rattle.std.proofs.Common.{◌+◌, sym, subst, refl, inl, inr}
use Rattle.std.specs.Result.{IfOk}
use Rattle.std.proofs.lemmas.Result.{IfOk-weaker}
use Rattle.ob_state.specs.declared.effect.Effect.{Effect}
use Rattle.ob_state.specs.declared.resolved.Resolved.{Resolved}
use Rattle.ob_state.specs.declared.resolved.Resolved.TheVariants.{Cause, Marked, Unmarked}
use Rattle.ob_state.specs.declared.retiming.Retiming.TheVariants.{Same}
use Rattle.ob_state.specs.Effects.{IsEffect}
use Rattle.ob_state.specs.Resolved.{next_by, CanTake, IsCorrection, IsWithdrawal}
use Rattle.ob_state.proofs.Changing.{effect_entries, sound_replaced, sound_withdrawn, withdrawn_there}
use Rattle.ob_state.proofs.Leading.{effect_next, nothing_moved}
use Rattle.ob_state.proofs.effect.effect_of.Goals as goal

-- a cause or a mark moves nothing, and leaves the runs
pub returns-in-Cause-clause-effect : goal.returns-in-Cause-clause-effect
returns-in-Cause-clause-effect g c =
    let b = c.args.state.now.state in
    let e : Effect = record { moves = c.new.result; retiming = Same } in
    elim c.in-Cause.is as (λ _. IsEffect b (next_by b c.args.resolved.now) e) [
      | inl w ↦ subst (λ (r : Resolved). IsEffect b (next_by b r) e) (sym w.2)
          (record { moved = nothing_moved b (next_by b (Cause w.0 w.1)) c.new.result.items (λ dim key. refl) c.new.ensures.items; retiming = λ lists are. are })
      | inr o ↦ elim o as (λ _. IsEffect b (next_by b c.args.resolved.now) e) [
        | inl w ↦ subst (λ (r : Resolved). IsEffect b (next_by b r) e) (sym w.2)
            (record { moved = nothing_moved b (next_by b (Marked w.0 w.1)) c.new.result.items (λ dim key. refl) c.new.ensures.items; retiming = λ lists are. are })
        | inr w ↦ subst (λ (r : Resolved). IsEffect b (next_by b r) e) (sym w.1)
            (record { moved = nothing_moved b (next_by b (Unmarked w.0)) c.new.result.items (λ dim key. refl) c.new.ensures.items; retiming = λ lists are. are })
      ]
    ]

pub effect_on_sheet-requires-in-Corrected-clause-changed : goal.effect_on_sheet-requires-in-Corrected-clause-changed
effect_on_sheet-requires-in-Corrected-clause-changed g c =
    let b = c.args.state.now.state in
    let takes : IsCorrection b c.in-Corrected.old c.in-Corrected.new = subst (CanTake b) c.in-Corrected.is c.requires.takes in
    sound_replaced b c.in-Corrected.old.«no» c.in-Corrected.new c.accepted.ensures.sound.state takes.of

pub effect_on_sheet-requires-in-Withdrawn-clause-changed : goal.effect_on_sheet-requires-in-Withdrawn-clause-changed
effect_on_sheet-requires-in-Withdrawn-clause-changed g c = sound_withdrawn c.args.state.now.state c.in-Withdrawn.old.«no» c.accepted.ensures.sound.state

pub returns-in-Entered-clause-effect : goal.returns-in-Entered-clause-effect
returns-in-Entered-clause-effect g c =
    let b = c.args.state.now.state in
    let result = c.effect_on_sheet.result in
    subst (λ (r : Resolved). IfOk result (IsEffect b (next_by b r))) (sym c.in-Entered.is)
    (IfOk-weaker result _ _ (λ e h. effect_next b _ (b.accepted + 1) e h) c.effect_on_sheet.ensures.effect)

pub returns-in-Corrected-clause-effect : goal.returns-in-Corrected-clause-effect
returns-in-Corrected-clause-effect g c =
    let b = c.args.state.now.state in
    let result = c.effect_on_sheet-in-Corrected.result in
    subst (λ (r : Resolved). IfOk result (IsEffect b (next_by b r))) (sym c.in-Corrected.is)
    (IfOk-weaker result _ _ (λ e h. effect_next b _ (b.accepted + 1) e h) c.effect_on_sheet-in-Corrected.ensures.effect)

pub returns-in-Withdrawn-clause-effect : goal.returns-in-Withdrawn-clause-effect
returns-in-Withdrawn-clause-effect g c =
    let b = c.args.state.now.state in
    let result = c.effect_on_sheet-in-Withdrawn.result in
    let takes : IsWithdrawal b c.in-Withdrawn.old c.in-Withdrawn.new = subst (CanTake b) c.in-Withdrawn.is c.requires.takes in
    let there = withdrawn_there b c.in-Withdrawn.old c.in-Withdrawn.new c.accepted.ensures.sound.numbered takes in
    subst (λ (r : Resolved). IfOk result (IsEffect b (next_by b r))) (sym c.in-Withdrawn.is)
    (IfOk-weaker result _ _ (λ e h. effect_entries b _ _ e there h) c.effect_on_sheet-in-Withdrawn.ensures.effect)
