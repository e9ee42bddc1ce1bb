-- A second of two histories that differ in one device, and what each section goes by then and from there on.
use Rattle.std.proofs.Common.{◌≡◌, ℕ, inl, inr, Bool, true, false, cond, List, [], ◌∷◌, Option, None, Some, refl, sym, ◌∙◌, ap, subst}
use Rattle.std.proofs.lemmas.Bool.{cases_Bool, cond-true, cond-false}
use Rattle.ob_base.specs.declared.Pos.{Pos}
use Rattle.ob_base.specs.declared.Pos.TheVariants.{Opened, Closed}
use Rattle.ob_net.specs.Walk.{is_closed}
use Rattle.ob_sweep.specs.Differences.{AllDuring, AreThrough, AtEach, DiffersAt, Has, IsIndifferent, SaySame, StepsDiffer, Supplies}
use Rattle.ob_sweep.specs.Moments.{Moment, Step, after_all, at_end, section_history}
use Rattle.ob_sweep.specs.Runs.{History}
use Rattle.ob_sweep.specs.Tracks.{IsSecond, goes_by, goes_through}
use Rattle.ob_sweep.proofs.OneDevice.{difference_law, each_of}

-- a second differs from itself in any device
no_difference : (d : ℕ) (ps : List Pos) (xs : List Step) → StepsDiffer d ps xs ps xs
no_difference d ps [] = refl
no_difference d ps (x ∷ xs) = (refl, refl, no_difference d x.after xs)

pub say_same_on : (f g h : History) (s : ℕ) → SaySame f g s → SaySame g h s → SaySame f h s
say_same_on f g h s a b = record { deenergized = a.deenergized ∙ b.deenergized; cutter = a.cutter ∙ b.cutter }

pub say_same_back : (f g : History) (s : ℕ) → SaySame f g s → SaySame g f s
say_same_back f g s a = record { deenergized = sym a.deenergized; cutter = sym a.cutter }

-- what each step leaves is left at the end
pub at_last : (P : List Pos → Type 0) (ps : List Pos) (xs : List Step) → AtEach P ps xs → P (after_all ps xs)
at_last P ps [] h = h
at_last P ps (x ∷ xs) h = at_last P x.after xs h.1

module _ (lit : Supplies) (d : ℕ) (old new : ℕ → History) (s : ℕ) (m : Moment) (second : IsSecond lit d old new s m) (other : ℕ) (has : ℕ → Bool) where
  self : DiffersAt lit d (λ t. m) (λ t. m) s
  self = difference_law lit d (λ t. m) (λ t. m) s (no_difference d m.before m.steps)

  goes_inside : (pos : Pos) (v : ℕ) → has v ≡ true → goes_through has other pos v ≡ cond (is_closed pos) (Some other) None
  goes_inside pos v t = cond-true (has v) (cond (is_closed pos) (Some other) None) (Some v) t

  goes_outside : (pos : Pos) (v : ℕ) → has v ≡ false → goes_through has other pos v ≡ Some v
  goes_outside pos v n = cond-false (has v) (cond (is_closed pos) (Some other) None) (Some v) n

  module _ (through : AllDuring (AreThrough lit d other has) m) where
    other_same : SaySame (new other) (old other) s
    other_same = second.same other (each_of (AreThrough lit d other has) (IsIndifferent lit d other) m.before m.steps (λ ps t. t.end) through)

    quiet_inside : (pos : Pos) (v : ℕ) → AllDuring (Has d pos) m → has v ≡ true → SaySame (new v) (goes_by old (cond (is_closed pos) (Some other) None)) s
    quiet_inside Opened v at t =
        let off = self.opened other v has through at t in
        record { deenergized = (second.is v).deenergized ∙ off.deenergized; cutter = (second.is v).cutter ∙ off.cutter }
    quiet_inside Closed v at t =
        say_same_on (new v) (section_history (lit other) (λ t. m)) (old other) s
        (say_same_on (new v) (section_history (lit v) (λ t. m)) (section_history (lit other) (λ t. m)) s (second.is v) (self.closed other v has through at t))
        (say_same_on (section_history (lit other) (λ t. m)) (new other) (old other) s (say_same_back (new other) (section_history (lit other) (λ t. m)) s (second.is other)) other_same)

    -- over a second during which the same set is supplied through the device each section goes by what it went by
    pub quiet_second : (pos : Pos) (v : ℕ) → (has v ≡ true → AllDuring (Has d pos) m) → SaySame (new v) (goes_by old (goes_through has other pos v)) s
    quiet_second pos v at =
        elim (cases_Bool (has v)) as (λ _. SaySame (new v) (goes_by old (goes_through has other pos v)) s) [
          | inl t ↦ subst (λ (o : Option ℕ). SaySame (new v) (goes_by old o) s) (sym (goes_inside pos v t)) (quiet_inside pos v (at t) t)
          | inr n ↦ subst (λ (o : Option ℕ). SaySame (new v) (goes_by old o) s) (sym (goes_outside pos v n))
              (second.same v (each_of (AreThrough lit d other has) (IsIndifferent lit d v) m.before m.steps (λ ps t. t.outside v n) through))
        ]

  module _ (through : AreThrough lit d other has (at_end m)) where
    -- the moment of the end alone
    abbrev last : Moment
    last = record { before = at_end m; steps = [] }

    self_end : DiffersAt lit d (λ t. last) (λ t. last) s
    self_end = difference_law lit d (λ t. last) (λ t. last) s (no_difference d (at_end m) [])

    end_inside : (pos : Pos) (v : ℕ) → Has d pos (at_end m) → has v ≡ true → (new v).deenergized s ≡ (goes_by old (cond (is_closed pos) (Some other) None)).deenergized s
    end_inside Opened v at t = (second.is v).deenergized ∙ (self_end.opened other v has through at t).deenergized
    end_inside Closed v at t =
        (second.is v).deenergized ∙ (self_end.closed other v has through at t).deenergized ∙ sym (second.is other).deenergized ∙ second.end other through.end

    -- at the end of any second each section has the supply of what it goes by from there on
    pub second_end : (pos : Pos) (v : ℕ) → (has v ≡ true → Has d pos (at_end m)) → (new v).deenergized s ≡ (goes_by old (goes_through has other pos v)).deenergized s
    second_end pos v at =
        elim (cases_Bool (has v)) as (λ _. (new v).deenergized s ≡ (goes_by old (goes_through has other pos v)).deenergized s) [
          | inl t ↦ end_inside pos v (at t) t ∙ ap (λ o. (goes_by old o).deenergized s) (sym (goes_inside pos v t))
          | inr n ↦ second.end v (through.outside v n) ∙ ap (λ o. (goes_by old o).deenergized s) (sym (goes_outside pos v n))
        ]
