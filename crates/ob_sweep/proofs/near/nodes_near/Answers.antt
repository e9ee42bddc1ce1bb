use Rattle.std.proofs.Common.{◌≡◌, ◌++◌, ℕ, List, length, subst, sym, ap, ◌∙◌}
use Rattle.std.proofs.lemmas.List.{take_at}
use Rattle.ob_base.specs.declared.Pos.{Pos}
use Rattle.ob_net.specs.Apart.{IsApart}
use Rattle.ob_net.specs.Reach.{is_reached}
use Rattle.ob_sheet.specs.Sheet.{NameDevices}
use Rattle.ob_sweep.specs.Near.{AreNear}
use Rattle.ob_sweep.proofs.Closing.{near_of}
use Rattle.ob_sweep.proofs.near.nodes_near.Goals as goal

pub close_each-requires : goal.close_each-requires
close_each-requires c =
    let first : c.deref_mut.result.now ≡ c.args.entered.now =
    c.deref_mut.ensures.value ∙ c.in_ok-extend_from_slice.ensures.items ∙ ap (λ (q : List Pos). q ++ c.args.entered.now) c.in_ok-closed.ensures.items in
    record { devices = subst (λ (n : ℕ). NameDevices n c.args.steps.now) (sym (ap length first ∙ c.requires.entered)) c.requires.devices }

pub nodes_near-requires-clause-positions : goal.nodes_near-requires-clause-positions
nodes_near-requires-clause-positions c =
    let first : c.deref_mut.result.now ≡ c.args.entered.now =
    c.deref_mut.ensures.value ∙ c.in_ok-extend_from_slice.ensures.items ∙ ap (λ (q : List Pos). q ++ c.args.entered.now) c.in_ok-closed.ensures.items in
    let whole = c.deref.ensures.value ∙ take_at c.close_each.new.positions _ _ (c.close_each.auto.positions ∙ c.deref_mut.ensures.len) in
    ap length whole ∙ c.close_each.auto.positions ∙ ap length first ∙ c.requires.entered

pub returns-clause-near : goal.returns-clause-near
returns-clause-near c =
    let net = c.args.net.now.network in
    let near = c.in_ok-near.near.items in
    let now : List Pos = c.close_each.new.positions in
    let first : c.deref_mut.result.now ≡ c.args.entered.now =
    c.deref_mut.ensures.value ∙ c.in_ok-extend_from_slice.ensures.items ∙ ap (λ (q : List Pos). q ++ c.args.entered.now) c.in_ok-closed.ensures.items in
    let whole : c.deref.result.now ≡ now = c.deref.ensures.value ∙ take_at now _ _ (c.close_each.auto.positions ∙ c.deref_mut.ensures.len) in
    subst (λ (ps : List Pos). AreNear net ps c.args.steps.now c.args.device (is_reached near)) first
    (near_of net c.args.steps.now c.args.device (is_reached near) c.deref_mut.result.now now c.close_each.ensures.kept c.close_each.ensures.closed c.requires.devices
    (subst (λ (ps : List Pos). IsApart net ps (is_reached near)) whole c.in_ok-near.ensures.apart) c.in_ok-near.ensures.ends)
