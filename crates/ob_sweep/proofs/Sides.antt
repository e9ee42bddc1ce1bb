-- The history of a node under all steps, and under those alone that have a part in it: of a node of the set, those of devices with an
-- end in it; of another node, those of all other devices.
use Rattle.std.proofs.Common.{◌≡◌, ◌&&◌, ℕ, ◌≤◌, inl, inr, Bool, true, false, not, cond, List, [], ◌∷◌, ◌++◌, Some, refl, sym, ◌∙◌, ap, subst, set, append_assoc, true≢false}
use Rattle.std.specs.List.{AllByRecursion, filter}
use Rattle.std.proofs.lemmas.Bool.{cases_Bool, cases_lt, cases_eq, cond-true, cond-false}
use Rattle.std.proofs.lemmas.List.{append-nil}
use Rattle.ob_base.specs.declared.Pos.{Pos}
use Rattle.ob_net.specs.Apart.{AreAlikeFor, IsApart, device_at, is_at}
use Rattle.ob_net.specs.Network.{Network}
use Rattle.ob_net.proofs.Apart.{alike_both, alike_one, apart_as_of, apart_set}
use Rattle.ob_sheet.specs.declared.Entry.{Entry}
use Rattle.ob_sheet.specs.Order.{is_before}
use Rattle.ob_sheet.specs.Positions.{entered}
use Rattle.ob_sheet.specs.Supply.{is_supplied_under}
use Rattle.ob_sweep.specs.Near.{ClosesWithin, acts_at}
use Rattle.ob_sweep.specs.Runs.{History, history, runs_between}
use Rattle.ob_sweep.proofs.Growth.{AllBefore, adds, upto_after_new, upto_after_old, upto_before}
use Rattle.ob_sweep.proofs.Law.{Alike, Follow}
use Rattle.ob_sweep.proofs.Sweeps.{entered_more, length-entered}
use Rattle.ob_sweep.proofs.Tiles.{transfer}
use Rattle.ob_sweep.proofs.Unique.{CutBy, tiles_are_runs, runs_tile}

-- entries that are all before one, one by one
before_first : (e : Entry) (es : List Entry) (x : Entry) → AllBefore e (es ++ x ∷ []) → AllBefore e es
before_first e [] x h = tt
before_first e (f ∷ fs) x h = (h.0, h.1, before_first e fs x h.2)

before_last : (e : Entry) (es : List Entry) (x : Entry) → AllBefore e (es ++ x ∷ []) → (x.kept ≡ true) × (is_before x e ≡ true)
before_last e [] x h = (h.0, h.1)
before_last e (f ∷ fs) x h = before_last e fs x h.2

before_both : (e : Entry) (es : List Entry) (x : Entry) → AllBefore e es → (x.kept ≡ true) × (is_before x e ≡ true) → AllBefore e (es ++ x ∷ [])
before_both e [] x h k = (k.0, k.1, tt)
before_both e (f ∷ fs) x h k = (h.0, h.1, before_both e fs x h.2 k)

no_cut : (b : Bool) → (b && not b) ≡ false
no_cut true = refl
no_cut false = refl

module _ (net : Network) (has : ℕ → Bool) (v : ℕ) where
  -- some entries and all entries: the set is apart under both, positions are alike for the node, and so is its history
  pub record Keep (some all : List Entry) : Type 0 where
    pub one : IsApart net (entered net some) has
    pub other : IsApart net (entered net all) has
    pub alike : AreAlikeFor has v net.devices (entered net some) (entered net all)
    pub before : (e : Entry) → AllBefore e all → AllBefore e some
    pub same : (s : ℕ) → Alike (history net some v) (history net all v) s

  pub keep_first : (es : List Entry) → IsApart net (entered net es) has → Keep es es
  keep_first es h = record {
    one = h;
    other = h;
    alike = λ k l b. refl;
    before = λ e q. q;
    same = λ s. record { dead = refl; cutter = refl };
  }

  -- the supply is the same under both, with lives as of a second
  supply : (x y : List Entry) (s : ℕ) → IsApart net (entered net x) has → IsApart net (entered net y) has → AreAlikeFor has v net.devices (entered net x) (entered net y)
      → is_supplied_under net x s v ≡ is_supplied_under net y s v
  supply x y s a b h = apart_as_of net (entered net x) (entered net y) has v s a b h

  apart_more : (x : List Entry) (e : Entry) → AllBefore e x → ClosesWithin net has e → IsApart net (entered net x) has → IsApart net (entered net (x ++ e ∷ [])) has
  apart_more x e ok closing h =
      subst (λ (ps : List Pos). IsApart net ps has) (sym (entered_more x e ok net)) (apart_set net (entered net x) has e.device e.pos closing h)

  module _ (x y : List Entry) (e : Entry) (kept : e.kept ≡ true) (ok : AllBefore e y) (closing : ClosesWithin net has e) (h : Keep x y) where
    -- an entry that acts in both
    step_both : (s : ℕ) → is_supplied_under net (x ++ e ∷ []) s v ≡ is_supplied_under net (y ++ e ∷ []) s v → is_supplied_under net (x ++ e ∷ []) e.second v ≡ is_supplied_under net (y ++ e ∷ []) e.second v
        → Alike (history net (x ++ e ∷ []) v) (history net (y ++ e ∷ []) v) s
    step_both s at_s now =
        let okx : AllBefore e x = h.before e ok in
        let p = adds net v x e kept okx s s in
        let q = adds net v y e kept ok s s in
        let was : is_supplied_under net x e.second v ≡ is_supplied_under net y e.second v = supply x y e.second h.one h.other h.alike in
        record {
          dead =
              elim (cases_lt s e.second) as (λ _. (history net (x ++ e ∷ []) v).deenergized s ≡ (history net (y ++ e ∷ []) v).deenergized s) [
                | inl k ↦
                    ap (λ r. not (is_supplied_under net r s v)) (upto_before net v x e kept okx s k)
                    ∙ (h.same s).dead
                    ∙ sym (ap (λ r. not (is_supplied_under net r s v)) (upto_before net v y e kept ok s k))
                | inr k ↦
                    ap (λ r. not (is_supplied_under net r s v)) (upto_after_new net v x e kept okx s k)
                    ∙ ap not at_s
                    ∙ sym (ap (λ r. not (is_supplied_under net r s v)) (upto_after_new net v y e kept ok s k))
              ];
          cutter =
              elim (cases_eq s e.second) as (λ _. (history net (x ++ e ∷ []) v).cutter s ≡ (history net (y ++ e ∷ []) v).cutter s) [
                | inl here ↦
                    ap (history net (x ++ e ∷ []) v).cutter here
                    ∙ p.here
                    ∙ ap (λ b. cond (b && not (is_supplied_under net (x ++ e ∷ []) e.second v)) (Some e.no) ((history net x v).cutter e.second)) was
                    ∙ ap (λ b. cond (is_supplied_under net y e.second v && not b) (Some e.no) ((history net x v).cutter e.second)) now
                    ∙ ap (cond (is_supplied_under net y e.second v && not (is_supplied_under net (y ++ e ∷ []) e.second v)) (Some e.no)) (h.same e.second).cutter
                    ∙ sym q.here
                    ∙ sym (ap (history net (y ++ e ∷ []) v).cutter here)
                | inr apart ↦ p.elsewhere s apart ∙ (h.same s).cutter ∙ sym (q.elsewhere s apart)
              ];
        }

    pub both_more : Keep (x ++ e ∷ []) (y ++ e ∷ [])
    both_more =
        let okx : AllBefore e x = h.before e ok in
        let one : IsApart net (entered net (x ++ e ∷ [])) has = apart_more x e okx closing h.one in
        let other : IsApart net (entered net (y ++ e ∷ [])) has = apart_more y e ok closing h.other in
        let moved : AreAlikeFor has v net.devices (set (entered net x) e.device e.pos) (set (entered net y) e.device e.pos) =
        alike_both net.devices has v (entered net x) (entered net y) e.device e.pos (length-entered net x) (length-entered net y) h.alike in
        let alike : AreAlikeFor has v net.devices (entered net (x ++ e ∷ [])) (entered net (y ++ e ∷ [])) =
        subst (λ (ps : List Pos). AreAlikeFor has v net.devices ps (entered net (y ++ e ∷ []))) (sym (entered_more x e okx net))
        (subst (λ (qs : List Pos). AreAlikeFor has v net.devices (set (entered net x) e.device e.pos) qs) (sym (entered_more y e ok net)) moved) in
        record {
          one = one;
          other = other;
          alike = alike;
          before = λ f all. before_both f x e (h.before f (before_first f y e all)) (before_last f y e all);
          same = λ s. step_both s (supply (x ++ e ∷ []) (y ++ e ∷ []) s one other alike) (supply (x ++ e ∷ []) (y ++ e ∷ []) e.second one other alike);
        }

    -- an entry without a part in the node's history
    step_one : (s : ℕ) → is_supplied_under net y s v ≡ is_supplied_under net (y ++ e ∷ []) s v → is_supplied_under net y e.second v ≡ is_supplied_under net (y ++ e ∷ []) e.second v
        → Alike (history net x v) (history net (y ++ e ∷ []) v) s
    step_one s at_s now =
        let q = adds net v y e kept ok s s in
        let was : Bool = is_supplied_under net y e.second v in
        let still : (history net (y ++ e ∷ []) v).cutter e.second ≡ (history net y v).cutter e.second =
        q.here
        ∙ ap (λ b. cond (was && not b) (Some e.no) ((history net y v).cutter e.second)) (sym now)
        ∙ cond-false (was && not was) (Some e.no) ((history net y v).cutter e.second) (no_cut was) in
        record {
          dead =
              elim (cases_lt s e.second) as (λ _. (history net x v).deenergized s ≡ (history net (y ++ e ∷ []) v).deenergized s) [
                | inl k ↦ (h.same s).dead ∙ sym (ap (λ r. not (is_supplied_under net r s v)) (upto_before net v y e kept ok s k))
                | inr k ↦
                    (h.same s).dead
                    ∙ ap (λ r. not (is_supplied_under net r s v)) (upto_after_old net v y e kept ok s k)
                    ∙ ap not at_s
                    ∙ sym (ap (λ r. not (is_supplied_under net r s v)) (upto_after_new net v y e kept ok s k))
              ];
          cutter =
              elim (cases_eq s e.second) as (λ _. (history net x v).cutter s ≡ (history net (y ++ e ∷ []) v).cutter s) [
                | inl here ↦
                    (h.same s).cutter ∙ ap (history net y v).cutter here ∙ sym still ∙ sym (ap (history net (y ++ e ∷ []) v).cutter here)
                | inr apart ↦ (h.same s).cutter ∙ sym (q.elsewhere s apart)
              ];
        }

    pub one_more : (is_at has (device_at net.devices e.device) ≡ has v → ⊥) → Keep x (y ++ e ∷ [])
    one_more apart =
        let other : IsApart net (entered net (y ++ e ∷ [])) has = apart_more y e ok closing h.other in
        let to_all : (ps : List Pos) → AreAlikeFor has v net.devices ps (entered net y) → AreAlikeFor has v net.devices ps (entered net (y ++ e ∷ [])) = λ ps q.
        subst (λ (qs : List Pos). AreAlikeFor has v net.devices ps qs) (sym (entered_more y e ok net)) (alike_one net.devices has v ps (entered net y) e.device e.pos apart q) in
        let moved : AreAlikeFor has v net.devices (entered net y) (entered net (y ++ e ∷ [])) = to_all (entered net y) (λ k l b. refl) in
        record {
          one = h.one;
          other = other;
          alike = to_all (entered net x) h.alike;
          before = λ f all. h.before f (before_first f y e all);
          same = λ s. step_one s (supply y (y ++ e ∷ []) s h.other other moved) (supply y (y ++ e ∷ []) e.second h.other other moved);
        }

  -- all steps, and those that count
  module _ (counts : Entry → Bool) (without : (e : Entry) → counts e ≡ false → is_at has (device_at net.devices e.device) ≡ has v → ⊥) where
    pub keep_all : (lo : ℕ) (x y steps : List Entry) → Follow lo y steps → AllByRecursion (ClosesWithin net has) steps → Keep x y → Keep (x ++ filter counts steps) (y ++ steps)
    keep_all lo x y [] follow closing h =
        subst (λ (q : List Entry). Keep q (y ++ [])) (sym (append-nil x)) (subst (λ (q : List Entry). Keep x q) (sym (append-nil y)) h)
    keep_all lo x y (e ∷ steps) follow closing h =
        let rest : List Entry = filter counts steps in
        elim (cases_Bool (counts e)) as (λ _. Keep (x ++ filter counts (e ∷ steps)) (y ++ e ∷ steps)) [
          | inl t ↦
              let more = keep_all lo (x ++ e ∷ []) (y ++ e ∷ []) steps follow.3 closing.1 (both_more x y e follow.0 follow.1 closing.0 h) in
              subst (λ (q : List Entry). Keep (x ++ q) (y ++ e ∷ steps)) (sym (cond-true (counts e) (e ∷ rest) rest t))
              (subst (λ (q : List Entry). Keep q (y ++ e ∷ steps)) (append_assoc x (e ∷ []) rest)
              (subst (λ (q : List Entry). Keep ((x ++ e ∷ []) ++ rest) q) (append_assoc y (e ∷ []) steps) more))
          | inr n ↦
              let more = keep_all lo x (y ++ e ∷ []) steps follow.3 closing.1 (one_more x y e follow.0 follow.1 closing.0 h (without e n)) in
              subst (λ (q : List Entry). Keep (x ++ q) (y ++ e ∷ steps)) (sym (cond-false (counts e) (e ∷ rest) rest n))
              (subst (λ (q : List Entry). Keep (x ++ rest) q) (append_assoc y (e ∷ []) steps) more)
        ]

  -- where the histories are alike, so are the runs
  pub keep_runs : (x y : List Entry) (a b : ℕ) → a ≤ b → Keep x y → runs_between v (history net x v) a b ≡ runs_between v (history net y v) a b
  keep_runs x y a b l h =
      let some : History = history net x v in
      let all : History = history net y v in
      tiles_are_runs v some a b (runs_between v all a b) l
      (transfer v all.deenergized some.deenergized (CutBy all) (CutBy some) a b (runs_between v all a b)
      (λ s m k. (h.same s).dead)
      (λ s c m k e. e ∙ sym (h.same s).cutter)
      (runs_tile v all a b l))

-- a step of a device with an end in the set has no part in what is outside, and any other step none in what is inside
pub inside_without : (net : Network) (has : ℕ → Bool) (v : ℕ) → has v ≡ true → (e : Entry) → acts_at net has e ≡ false → is_at has (device_at net.devices e.device) ≡ has v → ⊥
inside_without net has v t e n b = true≢false (sym t ∙ sym b ∙ n)

pub outside_without : (net : Network) (has : ℕ → Bool) (v : ℕ) → has v ≡ false → (e : Entry) → not (acts_at net has e) ≡ false → is_at has (device_at net.devices e.device) ≡ has v → ⊥
outside_without net has v f e n b = true≢false (sym (ap not (b ∙ f)) ∙ n)
