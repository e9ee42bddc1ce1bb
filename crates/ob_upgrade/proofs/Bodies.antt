-- A body text of version 1 is read as its command.
use Rattle.std.proofs.Common.{◌≡◌, ◌∙◌, ◌↔◌, sym, ap, subst, refl, ℕ, ◌&&◌, Bool, true, false, true≢false, not, List, [], ◌++◌, append-nil, Option, Some, None, if◌then◌else◌}
use Rattle.std.proofs.lemmas.List.{append_cancel_right}
use Rattle.std.proofs.lemmas.Bool.{and_parts}
use Rattle.ob_command.proofs.Plain.{plain_lives, plain_text}
use Rattle.ob_command.specs.Commands.{body_text, BodiesDiffer, IsCommand}
use Rattle.ob_command.specs.Devices.{plain_end}
use Rattle.ob_command.specs.declared.command.Command.{Command}
use Rattle.ob_command.specs.declared.command.Command.TheVariants.{Cause, Bus, Section, Device, Life, Connect, Revise, Switch, Correct, Withdraw, Mark, Unmark}
use Rattle.ob_command.specs.declared.device.NewDevice.{NewDevice}
use Rattle.ob_upgrade.specs.Laws.{BodiesGrow, OldBodiesDiffer}
use Rattle.ob_upgrade.specs.Old.{is_device, is_old, old_body_text}
use Rattle.ob_upgrade.specs.Reading.{is_of_device, is_old_device, is_old_other, kept_if}

-- a device of version 1 lives always
pub old_device : (d : NewDevice) → is_old (Device d) ≡ true → (d.life.since ≡ 0) × (d.life.until ≡ None)
old_device d h = plain_lives d h

not_false : {X : Type 0} (b : Bool) → b ≡ true → b ≡ false → X
not_false b is not_so = absurd (true≢false (sym is ∙ not_so))

pub bodies_grow : BodiesGrow
bodies_grow (Device d) h = plain_text d h
bodies_grow (Life device life) h = not_false false h refl
bodies_grow (Cause code name) h = sym (append-nil (body_text (Cause code name)))
bodies_grow (Bus name) h = sym (append-nil (body_text (Bus name)))
bodies_grow (Section name feeder) h = sym (append-nil (body_text (Section name feeder)))
bodies_grow (Connect customer section service) h = sym (append-nil (body_text (Connect customer section service)))
bodies_grow (Revise customer service) h = sym (append-nil (body_text (Revise customer service)))
bodies_grow (Switch device o) h = sym (append-nil (body_text (Switch device o)))
bodies_grow (Correct entry revision o) h = sym (append-nil (body_text (Correct entry revision o)))
bodies_grow (Withdraw entry revision) h = sym (append-nil (body_text (Withdraw entry revision)))
bodies_grow (Mark date engineer) h = sym (append-nil (body_text (Mark date engineer)))
bodies_grow (Unmark date engineer) h = sym (append-nil (body_text (Unmark date engineer)))

-- only a device's text begins as one
pub begins : (c : Command) → is_old c ≡ true → is_of_device (old_body_text c) ≡ is_device c
begins (Device d) h = refl
begins (Life device life) h = not_false false h refl
begins (Cause code name) h = refl
begins (Bus name) h = refl
begins (Section name feeder) h = refl
begins (Connect customer section service) h = refl
begins (Revise customer service) h = refl
begins (Switch device o) h = refl
begins (Correct entry revision o) h = refl
begins (Withdraw entry revision) h = refl
begins (Mark date engineer) h = refl
begins (Unmark date engineer) h = refl

-- a device's old text begins as no other's, and so both texts grow by the same words
pub old_bodies_differ : BodiesDiffer → OldBodiesDiffer
old_bodies_differ law c d valid_c valid_d old_c old_d same =
    let kinds : is_device c ≡ is_device d = sym (begins c old_c) ∙ ap is_of_device same ∙ begins d old_d in
    law c d valid_c valid_d (
    bodies_grow c old_c
    ∙ ap (λ t. t ++ (if is_device c then plain_end else [])) same
    ∙ ap (λ b. old_body_text d ++ (if b then plain_end else [])) kinds
    ∙ sym (bodies_grow d old_d)
    )

same_some : (a b : Command) → Some a ≡ Some b → a ≡ b
same_some a b e = cc

kept_so : (test : Command → Bool) (d c : Command) (b : Bool) → test d ≡ b → (if b then Some d else None) ≡ Some c → (Some d ≡ Some c) × (test c ≡ true)
kept_so test d c true h e = (e, subst (λ x. test x ≡ true) (same_some d c e) h)
kept_so test d c false h e = absurd (cc)

kept_is : (test : Command → Bool) (found : Option Command) (c : Command) → kept_if test found ≡ Some c → (found ≡ Some c) × (test c ≡ true)
kept_is test None c e = absurd (cc)
kept_is test (Some d) c e = kept_so test d c (test d) refl e

keeps : (test : Command → Bool) (c : Command) → test c ≡ true → kept_if test (Some c) ≡ Some c
keeps test c h = ap (λ b. if b then Some c else None) h

text_of_device : (c : Command) → is_old_device c ≡ true → body_text c ≡ old_body_text c ++ plain_end
text_of_device c h =
    let parts = and_parts (is_device c) (is_old c) h in
    bodies_grow c parts.1 ∙ ap (λ b. old_body_text c ++ (if b then plain_end else [])) parts.0

other_not : (d o : Bool) → (not d && o) ≡ true → (d ≡ false) × (o ≡ true)
other_not true o h = absurd (true≢false (sym h))
other_not false o h = (refl, h)

text_of_other : (c : Command) → is_old_other c ≡ true → body_text c ≡ old_body_text c
text_of_other c h =
    let parts = other_not (is_device c) (is_old c) h in
    bodies_grow c parts.1 ∙ ap (λ b. old_body_text c ++ (if b then plain_end else [])) parts.0 ∙ append-nil (old_body_text c)

abbrev pub ReadsAs : List ℕ → Option Command → Type 0
ReadsAs text found = (c : Command) → (found ≡ Some c) ↔ (IsCommand c × (text ≡ body_text c))

abbrev pub ReadsAsOld : List ℕ → Option Command → Type 0
ReadsAsOld text found = (c : Command) → (found ≡ Some c) ↔ (IsCommand c × (is_old c ≡ true) × (text ≡ old_body_text c))

pub of_device : (text : List ℕ) (found : Option Command) → is_of_device text ≡ true → ReadsAs (text ++ plain_end) found → ReadsAsOld text (kept_if is_old_device found)
of_device text found here read c = (
  λ e.
      let it = kept_is is_old_device found c e in
      let said = (read c).0 it.0 in
      (said.0, (and_parts (is_device c) (is_old c) it.1).1, append_cancel_right text (old_body_text c) plain_end (said.1 ∙ text_of_device c it.1)),
  λ h.
      let device : is_device c ≡ true = sym (begins c h.1) ∙ ap is_of_device (sym h.2) ∙ here in
      let is : is_old_device c ≡ true = ap (λ b. b && is_old c) device ∙ h.1 in
      ap (kept_if is_old_device) ((read c).1 (h.0, ap (λ t. t ++ plain_end) h.2 ∙ sym (text_of_device c is))) ∙ keeps is_old_device c is,
)

pub of_other : (text : List ℕ) (found : Option Command) → is_of_device text ≡ false → ReadsAs text found → ReadsAsOld text (kept_if is_old_other found)
of_other text found here read c = (
  λ e.
      let it = kept_is is_old_other found c e in
      let said = (read c).0 it.0 in
      (said.0, (other_not (is_device c) (is_old c) it.1).1, said.1 ∙ text_of_other c it.1),
  λ h.
      let other : is_device c ≡ false = sym (begins c h.1) ∙ ap is_of_device (sym h.2) ∙ here in
      let is : is_old_other c ≡ true = ap (λ b. not b && is_old c) other ∙ h.1 in
      ap (kept_if is_old_other) ((read c).1 (h.0, h.2 ∙ sym (text_of_other c is))) ∙ keeps is_old_other c is,
)
