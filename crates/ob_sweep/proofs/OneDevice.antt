-- Two histories of positions that differ in one device: the laws.
use Rattle.std.proofs.Common.{◌≡◌, ◌&&◌, ◌⊎◌, ℕ, zero, suc, ◌<◌, ◌≤◌, inl, inr, Bool, false, not, cond, List, [], ◌∷◌, None, Some, IsTrue, refl, sym, ◌∙◌, ap, arith, get_or}
use Rattle.std.proofs.Math.ListN.{set}
use Rattle.std.specs.Option.{option_or}
use Rattle.std.proofs.lemmas.List.{set-get_or}
use Rattle.ob_base.specs.declared.Pos.{Pos}
use Rattle.ob_base.specs.declared.Pos.TheVariants.{Opened, Closed}
use Rattle.ob_sweep.specs.Moments.{Step, after_all, last_cut, section_history}
use Rattle.ob_sweep.specs.Runs.{History}
use Rattle.ob_sweep.specs.Differences.{AreSameBut, AreThrough, AtEach, DifferenceLaw, DiffersAt, Has, IsIndifferent, IsStillOff, SaySame, StepsDiffer, StretchLaw, Supplies}
use Rattle.ob_sweep.proofs.Law.{Alike}
use Rattle.ob_sweep.proofs.Pieces.{runs_alike, runs_dark, runs_of_other}

-- the positions with the device's own position
as_is : (ps : List Pos) (d : ℕ) (p : Pos) → Has d p ps → ps ≡ set ps d p
as_is ps d p is = sym (set-get_or ps d Opened) ∙ ap (set ps d) is

set_twice : (ps : List Pos) (d : ℕ) (p q : Pos) → set (set ps d p) d q ≡ set ps d q
set_twice [] d p q = refl
set_twice (x ∷ ps) zero p q = refl
set_twice (x ∷ ps) (suc d) p q = ap (λ r. x ∷ r) (set_twice ps d p q)

-- what is the same but for the device is the same with the device in one position
same_with : (d : ℕ) (ps qs : List Pos) (p : Pos) → AreSameBut d ps qs → set ps d p ≡ set qs d p
same_with d ps qs p same = sym (set_twice ps d Opened p) ∙ ap (λ r. set r d p) same ∙ set_twice qs d Opened p

cases_Pos : (p : Pos) → (p ≡ Opened) ⊎ (p ≡ Closed)
cases_Pos Opened = inl refl
cases_Pos Closed = inr refl

module _ (lit : Supplies) (d : ℕ) where
  -- where the device makes no difference it may as well be open
  may_open : (v : ℕ) (ps : List Pos) → IsIndifferent lit d v ps → lit v ps ≡ lit v (set ps d Opened)
  may_open v ps h =
      elim (cases_Pos (get_or ps d Opened)) as (λ _. lit v ps ≡ lit v (set ps d Opened)) [
        | inl e ↦ ap (lit v) (as_is ps d Opened e)
        | inr e ↦ ap (lit v) (as_is ps d Closed e) ∙ sym h
      ]

  pub still_indifferent : (v : ℕ) (ps qs : List Pos) → AreSameBut d ps qs → IsIndifferent lit d v ps → IsIndifferent lit d v qs
  still_indifferent v ps qs same h = sym (ap (lit v) (same_with d ps qs Opened same)) ∙ h ∙ ap (lit v) (same_with d ps qs Closed same)

  pub indifferent : (v : ℕ) (ps qs : List Pos) → IsIndifferent lit d v ps → AreSameBut d ps qs → lit v qs ≡ lit v ps
  indifferent v ps qs h same =
      may_open v qs (still_indifferent v ps qs same h) ∙ sym (ap (lit v) (same_with d ps qs Opened same)) ∙ sym (may_open v ps h)

  module _ (other v : ℕ) (has : ℕ → Bool) (within : IsTrue (has v)) where
    off : (ps qs : List Pos) → AreThrough lit d other has ps → Has d Opened qs → AreSameBut d ps qs → lit v qs ≡ false
    off ps qs h opening same = ap (lit v) (as_is qs d Opened opening ∙ sym (same_with d ps qs Opened same)) ∙ h.opened v within

    as_other : (ps qs : List Pos) → AreThrough lit d other has ps → Has d Closed qs → AreSameBut d ps qs → lit v qs ≡ lit other ps
    as_other ps qs h closed same =
        ap (lit v) (as_is qs d Closed closed ∙ sym (same_with d ps qs Closed same)) ∙ h.closed v within ∙ sym (may_open other ps h.end)

first_of_each : (P : List Pos → Type 0) (ps : List Pos) (xs : List Step) → AtEach P ps xs → P ps
first_of_each P ps [] h = h
first_of_each P ps (x ∷ xs) h = h.0

first_differ : (d : ℕ) (ps : List Pos) (xs : List Step) (qs : List Pos) (ys : List Step) → StepsDiffer d ps xs qs ys → AreSameBut d ps qs
first_differ d ps [] qs [] h = h
first_differ d ps [] qs (y ∷ ys) h = absurd h
first_differ d ps (x ∷ xs) qs [] h = absurd h
first_differ d ps (x ∷ xs) qs (y ∷ ys) h = h.0

-- where one test says of the new positions what another one says of the old ones, both say the same of the second
module _ (d : ℕ) (P Q : List Pos → Type 0) (f g : List Pos → Bool) (by : (ps qs : List Pos) → P ps → Q qs → AreSameBut d ps qs → g qs ≡ f ps) where
  same_end : (ps : List Pos) (xs : List Step) (qs : List Pos) (ys : List Step) → AtEach P ps xs → AtEach Q qs ys → StepsDiffer d ps xs qs ys
      → g (after_all qs ys) ≡ f (after_all ps xs)
  same_end ps [] qs [] h k m = by ps qs h k m
  same_end ps [] qs (y ∷ ys) h k m = absurd m
  same_end ps (x ∷ xs) qs [] h k m = absurd m
  same_end ps (x ∷ xs) qs (y ∷ ys) h k m = same_end x.after xs y.after ys h.1 k.1 m.2

  same_cut : (ps : List Pos) (xs : List Step) (qs : List Pos) (ys : List Step) → AtEach P ps xs → AtEach Q qs ys → StepsDiffer d ps xs qs ys
      → last_cut g qs ys ≡ last_cut f ps xs
  same_cut ps [] qs [] h k m = refl
  same_cut ps [] qs (y ∷ ys) h k m = absurd m
  same_cut ps (x ∷ xs) qs [] h k m = absurd m
  same_cut ps (x ∷ xs) qs (y ∷ ys) h k m =
      let was : g qs ≡ f ps = by ps qs h.0 k.0 m.0 in
      let now : g y.after ≡ f x.after =
      by x.after y.after (first_of_each P x.after xs h.1) (first_of_each Q y.after ys k.1) (first_differ d x.after xs y.after ys m.2) in
      let rest : last_cut g y.after ys ≡ last_cut f x.after xs = same_cut x.after xs y.after ys h.1 k.1 m.2 in
      ap (λ o. option_or o (cond (g qs && not (g y.after)) (Some y.«no») None)) rest
      ∙ ap (λ b. option_or (last_cut f x.after xs) (cond (b && not (g y.after)) (Some y.«no») None)) was
      ∙ ap (λ b. option_or (last_cut f x.after xs) (cond (f ps && not b) (Some y.«no») None)) now
      ∙ ap (λ n. option_or (last_cut f x.after xs) (cond (f ps && not (f x.after)) (Some n) None)) (sym m.1)

-- nothing cuts off what has no supply
never_cut : (ps : List Pos) (xs : List Step) → last_cut (λ _. false) ps xs ≡ None
never_cut ps [] = refl
never_cut ps (x ∷ xs) = ap (λ o. option_or o None) (never_cut x.after xs)

pub each_of : (P Q : List Pos → Type 0) (ps : List Pos) (xs : List Step) → ((qs : List Pos) → P qs → Q qs) → AtEach P ps xs → AtEach Q ps xs
each_of P Q ps [] f h = f ps h
each_of P Q ps (x ∷ xs) f h = (f ps h.0, each_of P Q x.after xs f h.1)

anything : (ps : List Pos) (xs : List Step) → AtEach (λ _. Unit {0}) ps xs
anything ps [] = tt
anything ps (x ∷ xs) = (tt, anything x.after xs)

pub difference_law : DifferenceLaw
difference_law lit d old new s differ =
    let m = old s in
    let n = new s in
    record {
      indifferent = λ v h.
          let by : (ps qs : List Pos) → IsIndifferent lit d v ps → Unit {0} → AreSameBut d ps qs → lit v qs ≡ lit v ps = λ ps qs k _ same. indifferent lit d v ps qs k same in
          record {
            deenergized = ap not (same_end d (IsIndifferent lit d v) (λ _. Unit {0}) (lit v) (lit v) by m.before m.steps n.before n.steps h (anything n.before n.steps) differ);
            cutter = same_cut d (IsIndifferent lit d v) (λ _. Unit {0}) (lit v) (lit v) by m.before m.steps n.before n.steps h (anything n.before n.steps) differ;
          };
      opened = λ other v has h opening within.
          let by : (ps qs : List Pos) → AreThrough lit d other has ps → Has d Opened qs → AreSameBut d ps qs → lit v qs ≡ false = off lit d other v has within in
          record {
            deenergized = ap not (same_end d (AreThrough lit d other has) (Has d Opened) (λ _. false) (lit v) by m.before m.steps n.before n.steps h opening differ);
            cutter =
                same_cut d (AreThrough lit d other has) (Has d Opened) (λ _. false) (lit v) by m.before m.steps n.before n.steps h opening differ
                ∙ never_cut m.before m.steps;
          };
      closed = λ other v has h closed within.
          let by : (ps qs : List Pos) → AreThrough lit d other has ps → Has d Closed qs → AreSameBut d ps qs → lit v qs ≡ lit other ps = as_other lit d other v has within in
          record {
            deenergized = ap not (same_end d (AreThrough lit d other has) (Has d Closed) (lit other) (lit v) by m.before m.steps n.before n.steps h closed differ);
            cutter = same_cut d (AreThrough lit d other has) (Has d Closed) (lit other) (lit v) by m.before m.steps n.before n.steps h closed differ;
          };
    }

alike_as : (g h : History) (s : ℕ) → SaySame g h s → Alike g h s
alike_as g h s same = record { dead = same.deenergized; cutter = same.cutter }

pub stretch_law : StretchLaw
stretch_law lit d other has old new a b v h =
    let some : a < b = h.some in
    let new_v : History = section_history (lit v) new in
    let at : (s : ℕ) → a ≤ s → s < b → DiffersAt lit d old new s = λ s l k. difference_law lit d old new s (h.differ s l k) in
    record {
      outside = λ apart.
          runs_alike v new_v (section_history (lit v) old) a b (omega arith)
          (λ s l k. alike_as new_v (section_history (lit v) old) s
          ((at s l k).indifferent v
          (each_of (AreThrough lit d other has) (IsIndifferent lit d v) (old s).before (old s).steps (λ ps t. t.outside v apart) (h.through s l k))));
      opened = λ within opening.
          let off : (s : ℕ) → a ≤ s → s < b → IsStillOff new_v s = λ s l k. (at s l k).opened other v has (h.through s l k) (opening s l k) within in
          runs_dark v new_v a b some (λ s l k. (off s l k).deenergized)
          ∙ ap (λ c. record { section = v; since = a; until = b; cutter = c } ∷ []) (off a (omega arith) some).cutter;
      closed = λ within closed.
          runs_alike v new_v (section_history (lit other) old) a b (omega arith)
          (λ s l k. alike_as new_v (section_history (lit other) old) s ((at s l k).closed other v has (h.through s l k) (closed s l k) within))
          ∙ sym (runs_of_other v other (section_history (lit other) old) a b);
    }
