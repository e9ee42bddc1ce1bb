-- Entries that are the same but for those of one device, and what a second of theirs makes of the sections to which it makes no difference.
use Rattle.std.proofs.Common.{◌≡◌, ◌==◌, ◌&&◌, ℕ, zero, suc, inl, inr, Bool, true, false, not, cond, List, [], ◌∷◌, Option, Some, None, refl, sym, ◌∙◌, ap, subst}
use Rattle.std.proofs.Math.ListN.{set}
use Rattle.std.specs.List.{filter}
use Rattle.std.specs.Option.{option_or}
use Rattle.std.proofs.lemmas.Bool.{cases_eq, cond-true, cond-false, eq-eqb, ne_eqb}
use Rattle.std.proofs.lemmas.List.{set-set}
use Rattle.ob_base.specs.declared.Pos.{Pos}
use Rattle.ob_base.specs.declared.Pos.TheVariants.{Opened}
use Rattle.ob_net.specs.Network.{Network}
use Rattle.ob_sheet.specs.declared.Entry.{Entry}
use Rattle.ob_sweep.specs.Acting.{moment_of, moved, moved_all, pos_as_of, steps_from}
use Rattle.ob_sweep.specs.Differences.{AllDuring, AreSameBut, AtEach, IsIndifferent, SaySame, Supplies}
use Rattle.ob_sweep.specs.Moments.{Step, at_end, last_cut, section_history}
use Rattle.ob_sweep.specs.Runs.{History}
use Rattle.ob_sweep.specs.Tracks.{IsSecond}
use Rattle.ob_sweep.proofs.Acted.{end_of_steps}
use Rattle.ob_sweep.proofs.OneDevice.{indifferent, still_indifferent}
use Rattle.ob_sweep.proofs.Quiet.{at_last}

set_apart : (ps : List Pos) (k d : ℕ) (p q : Pos) → (k ≡ d → ⊥) → set (set ps k p) d q ≡ set (set ps d q) k p
set_apart [] k d p q ne = refl
set_apart (x ∷ ps) zero zero p q ne = absurd (ne refl)
set_apart (x ∷ ps) zero (suc d) p q ne = refl
set_apart (x ∷ ps) (suc k) zero p q ne = refl
set_apart (x ∷ ps) (suc k) (suc d) p q ne = ap (λ r. x ∷ r) (set_apart ps k d p q (λ e. ne (ap suc e)))

no_longer : (b : Bool) → (b && not b) ≡ false
no_longer true = refl
no_longer false = refl

or_none : (o : Option ℕ) → option_or o None ≡ o
or_none None = refl
or_none (Some x) = refl

-- the entry is of another device
abbrev pub is_other : ℕ → Entry → Bool
is_other d e = not (e.device == d)

module _ (net : Network) (t d : ℕ) where
  -- one entry in positions that are the same but for the device's
  same_moved : (ps qs : List Pos) (e : Entry) → AreSameBut d ps qs → AreSameBut d (moved net t ps e) (moved net t qs e)
  same_moved ps qs e same =
      let p : Pos = pos_as_of net t e.device e.pos in
      elim (cases_eq e.device d) as (λ _. set (set ps e.device p) d Opened ≡ set (set qs e.device p) d Opened) [
        | inl here ↦
            ap (λ k. set (set ps k p) d Opened) here ∙ set-set ps d p Opened ∙ same ∙ sym (set-set qs d p Opened)
            ∙ sym (ap (λ k. set (set qs k p) d Opened) here)
        | inr apart ↦ set_apart ps e.device d p Opened apart ∙ ap (λ r. set r e.device p) same ∙ sym (set_apart qs e.device d p Opened apart)
      ]

  own_moved : (ps : List Pos) (e : Entry) → e.device ≡ d → AreSameBut d (moved net t ps e) ps
  own_moved ps e here = let p : Pos = pos_as_of net t e.device e.pos in ap (λ k. set (set ps k p) d Opened) here ∙ set-set ps d p Opened

  -- all entries, and those of other devices alone
  pub same_all : (ps qs : List Pos) (es : List Entry) → AreSameBut d ps qs → AreSameBut d (moved_all net t ps es) (moved_all net t qs (filter (is_other d) es))
  same_all ps qs [] same = same
  same_all ps qs (e ∷ es) same =
      let more : List Pos = moved net t ps e in
      let rest : List Entry = filter (is_other d) es in
      elim (cases_eq e.device d) as (λ _. AreSameBut d (moved_all net t more es) (moved_all net t qs (filter (is_other d) (e ∷ es)))) [
        | inl here ↦
            subst (λ fs. AreSameBut d (moved_all net t more es) (moved_all net t qs fs)) (sym (cond-false (is_other d e) (e ∷ rest) rest (ap not (eq-eqb e.device d here))))
            (same_all more qs es (own_moved ps e here ∙ same))
        | inr apart ↦
            subst (λ fs. AreSameBut d (moved_all net t more es) (moved_all net t qs fs)) (sym (cond-true (is_other d e) (e ∷ rest) rest (ap not (ne_eqb e.device d apart))))
            (same_all more (moved net t qs e) es (same_moved ps qs e same))
      ]

  module _ (lit : Supplies) (v : ℕ) where
    abbrev Same : List Pos → Type 0
    Same ps = IsIndifferent lit d v ps

    -- where the device makes no difference at any of the positions it makes none without its own entries, and the other way round
    fewer_same : (ps qs : List Pos) (es : List Entry) → AreSameBut d ps qs → AtEach Same ps (steps_from net t ps es) → AtEach Same qs (steps_from net t qs (filter (is_other d) es))
    fewer_same ps qs [] same h = still_indifferent lit d v ps qs same h
    fewer_same ps qs (e ∷ es) same h =
        let more : List Pos = moved net t ps e in
        let rest : List Entry = filter (is_other d) es in
        elim (cases_eq e.device d) as (λ _. AtEach Same qs (steps_from net t qs (filter (is_other d) (e ∷ es)))) [
          | inl here ↦
              subst (λ fs. AtEach Same qs (steps_from net t qs fs)) (sym (cond-false (is_other d e) (e ∷ rest) rest (ap not (eq-eqb e.device d here))))
              (fewer_same more qs es (own_moved ps e here ∙ same) h.1)
          | inr apart ↦
              subst (λ fs. AtEach Same qs (steps_from net t qs fs)) (sym (cond-true (is_other d e) (e ∷ rest) rest (ap not (ne_eqb e.device d apart))))
              (still_indifferent lit d v ps qs same h.0, fewer_same more (moved net t qs e) es (same_moved ps qs e same) h.1)
        ]

    first_same : (ps : List Pos) (xs : List Step) → AtEach Same ps xs → Same ps
    first_same ps [] h = h
    first_same ps (x ∷ xs) h = h.0

    more_same : (ps qs : List Pos) (es : List Entry) → AreSameBut d ps qs → AtEach Same qs (steps_from net t qs (filter (is_other d) es)) → AtEach Same ps (steps_from net t ps es)
    more_same ps qs [] same h = still_indifferent lit d v qs ps (sym same) h
    more_same ps qs (e ∷ es) same h =
        let more : List Pos = moved net t ps e in
        let rest : List Entry = filter (is_other d) es in
        elim (cases_eq e.device d) as (λ _. AtEach Same ps (steps_from net t ps (e ∷ es))) [
          | inl here ↦
              let without : AtEach Same qs (steps_from net t qs rest) =
              subst (λ fs. AtEach Same qs (steps_from net t qs fs)) (cond-false (is_other d e) (e ∷ rest) rest (ap not (eq-eqb e.device d here))) h in
              (still_indifferent lit d v qs ps (sym same) (first_same qs (steps_from net t qs rest) without), more_same more qs es (own_moved ps e here ∙ same) without)
          | inr apart ↦
              let with_it : AtEach Same qs (steps_from net t qs (e ∷ rest)) =
              subst (λ fs. AtEach Same qs (steps_from net t qs fs)) (cond-true (is_other d e) (e ∷ rest) rest (ap not (ne_eqb e.device d apart))) h in
              (still_indifferent lit d v qs ps (sym same) with_it.0, more_same more (moved net t qs e) es (same_moved ps qs e same) with_it.1)
        ]

    -- and its own entries cut nothing off
    fewer_cuts : (ps qs : List Pos) (es : List Entry) → AreSameBut d ps qs → AtEach Same ps (steps_from net t ps es)
        → last_cut (lit v) ps (steps_from net t ps es) ≡ last_cut (lit v) qs (steps_from net t qs (filter (is_other d) es))
    fewer_cuts ps qs [] same h = refl
    fewer_cuts ps qs (e ∷ es) same h =
        let more : List Pos = moved net t ps e in
        let rest : List Entry = filter (is_other d) es in
        let next : Same more = first_same more (steps_from net t more es) h.1 in
        let last : Option ℕ = last_cut (lit v) more (steps_from net t more es) in
        elim (cases_eq e.device d) as (λ _. last_cut (lit v) ps (steps_from net t ps (e ∷ es)) ≡ last_cut (lit v) qs (steps_from net t qs (filter (is_other d) (e ∷ es)))) [
          | inl here ↦
              let still : lit v more ≡ lit v ps = sym (indifferent lit d v more ps next (own_moved ps e here)) in
              ap (λ b. option_or last (cond (lit v ps && not b) (Some e.«no») None)) still
              ∙ ap (λ b. option_or last (cond b (Some e.«no») None)) (no_longer (lit v ps))
              ∙ or_none last
              ∙ fewer_cuts more qs es (own_moved ps e here ∙ same) h.1
              ∙ sym (ap (λ fs. last_cut (lit v) qs (steps_from net t qs fs)) (cond-false (is_other d e) (e ∷ rest) rest (ap not (eq-eqb e.device d here))))
          | inr apart ↦
              let there : List Pos = moved net t qs e in
              let others : Option ℕ = last_cut (lit v) there (steps_from net t there rest) in
              ap (λ o. option_or o (cond (lit v ps && not (lit v more)) (Some e.«no») None)) (fewer_cuts more there es (same_moved ps qs e same) h.1)
              ∙ ap (λ b. option_or others (cond (b && not (lit v more)) (Some e.«no») None)) (sym (indifferent lit d v ps qs h.0 same))
              ∙ ap (λ b. option_or others (cond (lit v qs && not b) (Some e.«no») None)) (sym (indifferent lit d v more there next (same_moved ps qs e same)))
              ∙ sym (ap (λ fs. last_cut (lit v) qs (steps_from net t qs fs)) (cond-true (is_other d e) (e ∷ rest) rest (ap not (ne_eqb e.device d apart))))
        ]

  -- the second of two histories, under entries that are the same but for the device's own
  module _ (lit : Supplies) (old new : ℕ → History) (s : ℕ) (ps qs : List Pos) (es fs : List Entry) (before : AreSameBut d ps qs)
      (others : filter (is_other d) es ≡ filter (is_other d) fs)
      (olds : (v : ℕ) → SaySame (old v) (section_history (lit v) (λ _. moment_of net t ps es)) s)
      (news : (v : ℕ) → SaySame (new v) (section_history (lit v) (λ _. moment_of net t qs fs)) s) where
    ends : AreSameBut d (moved_all net t ps es) (moved_all net t qs fs)
    ends =
        same_all ps ps es refl
        ∙ ap (λ gs. set (moved_all net t ps gs) d Opened) others
        ∙ sym (same_all qs ps fs (sym before))

    same_supply : (v : ℕ) → IsIndifferent lit d v (at_end (moment_of net t qs fs)) → lit v (at_end (moment_of net t qs fs)) ≡ lit v (at_end (moment_of net t ps es))
    same_supply v h =
        sym (indifferent lit d v (at_end (moment_of net t qs fs)) (at_end (moment_of net t ps es)) h
        (ap (λ r. set r d Opened) (end_of_steps net t qs fs) ∙ sym ends ∙ sym (ap (λ r. set r d Opened) (end_of_steps net t ps es))))

    same_cutter : (v : ℕ) → AllDuring (IsIndifferent lit d v) (moment_of net t qs fs)
        → last_cut (lit v) qs (steps_from net t qs fs) ≡ last_cut (lit v) ps (steps_from net t ps es)
    same_cutter v h =
        let fewer : AtEach (IsIndifferent lit d v) ps (steps_from net t ps (filter (is_other d) es)) =
        subst (λ gs. AtEach (IsIndifferent lit d v) ps (steps_from net t ps gs)) (sym others) (fewer_same lit v qs ps fs (sym before) h) in
        fewer_cuts lit v qs ps fs (sym before) h
        ∙ ap (λ gs. last_cut (lit v) ps (steps_from net t ps gs)) (sym others)
        ∙ sym (fewer_cuts lit v ps ps es refl (more_same lit v ps ps es refl fewer))

    pub second_but_one : IsSecond lit d old new s (moment_of net t qs fs)
    second_but_one =
        record {
          is = news;
          same = λ v h.
              record {
                deenergized = (news v).deenergized
                    ∙ ap not (same_supply v (at_last (IsIndifferent lit d v) qs (steps_from net t qs fs) h))
                    ∙ sym (olds v).deenergized;
                cutter = (news v).cutter ∙ same_cutter v h ∙ sym (olds v).cutter;
              };
          end = λ v h. (news v).deenergized ∙ ap not (same_supply v h) ∙ sym (olds v).deenergized;
        }
