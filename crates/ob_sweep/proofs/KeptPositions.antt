-- Positions and histories with an entry that repeats the position before it, and without it.
use Rattle.std.proofs.Common.{◌≡◌, ◌&&◌, ℕ, zero, suc, ◌≤◌, Bool, true, false, not, nat_le, cond, List, [], ◌∷◌, ◌++◌, Some, refl, sym, ◌∙◌, ap, arith, subst, set, append_assoc, inl, inr}
use Rattle.std.specs.List.{AllByRecursion, filter, slice_get}
use Rattle.std.proofs.lemmas.Bool.{and_from, and_parts, cases_Bool, cases_eq, cases_lt}
use Rattle.std.proofs.lemmas.Bool.Decides.{nat_tests}
use Rattle.std.proofs.lemmas.List.{append-nil}
use Rattle.std.proofs.lemmas.Option.{same_Some}
use Rattle.ob_base.specs.declared.Pos.{Pos}
use Rattle.ob_net.specs.Network.{Network}
use Rattle.ob_sheet.proofs.Sorting.{IsInOrder, IsInOrder-put_in_order, IsNumberedApart, before_on}
use Rattle.ob_sheet.specs.declared.Entry.{Entry}
use Rattle.ob_sheet.specs.Order.{is_before, put_in_order}
use Rattle.ob_sheet.specs.Positions.{entered}
use Rattle.ob_sheet.specs.Supply.{is_supplied_under}
use Rattle.ob_sweep.specs.Runs.{history}
use Rattle.ob_sweep.proofs.Framed.{all_before, follow}
use Rattle.ob_sweep.proofs.Growth.{AllBefore, adds, all_pass, by_second, last_fails, last_passes, upto_after_new, upto_after_old, upto_before}
use Rattle.ob_sweep.proofs.Law.{Alike, Follow, same_after, same_under}
use Rattle.ob_sweep.proofs.Parted.{each_join}
use Rattle.ob_sweep.proofs.Preceding.{first_before, kept_first, kept_rest, place_in}
use Rattle.ob_sweep.proofs.Sweeps.{entered_more}

-- a test that passes each kept entry before one that it passes
abbrev pub PassesEarlier : (Entry → Bool) → Type 0
PassesEarlier q = (f g : Entry) → f.kept ≡ true → is_before f g ≡ true → q g ≡ true → q f ≡ true

still_upto : (kept : Bool) (m n s : ℕ) → m ≤ n → (kept && nat_le n s) ≡ true → nat_le m s ≡ true
still_upto kept m n s l h = grind (arith, nat_tests)

-- up to a second, and before an entry
pub upto_passes : (s : ℕ) → PassesEarlier (λ f. f.kept && nat_le f.second s)
upto_passes s f g kept before passes =
    and_from f.kept (nat_le f.second s) kept (still_upto g.kept f.second g.second s (by_second f g before) passes)

pub before_passes : (e : Entry) → PassesEarlier (λ f. f.kept && is_before f e)
before_passes e f g kept before passes =
    and_from f.kept (is_before f e) kept (before_on f g e before (and_parts g.kept (is_before g e) passes).1)

-- a position that is written where it is already
set_same : (ps : List Pos) (k : ℕ) (p : Pos) → slice_get ps k ≡ Some p → set ps k p ≡ ps
set_same [] k p is = refl
set_same (x ∷ xs) zero p is = ap (λ y. y ∷ xs) (sym (same_Some x p is))
set_same (x ∷ xs) (suc k) p is = ap (λ ys. x ∷ ys) (set_same xs k p is)

module _ (net : Network) where
  -- after the same positions the same entries leave the same ones, as far as a test goes
  same_part : (q : Entry → Bool) → PassesEarlier q → (lo : ℕ) (x y after : List Entry) → entered net x ≡ entered net y → Follow lo x after → Follow lo y after
      → entered net (filter q x) ≡ entered net (filter q y) → entered net (filter q (x ++ after)) ≡ entered net (filter q (y ++ after))
  same_part q earlier lo x y [] same f g base =
      ap (λ w. entered net (filter q w)) (append-nil x) ∙ base ∙ ap (λ w. entered net (filter q w)) (sym (append-nil y))
  same_part q earlier lo x y (e ∷ after) same f g base =
      let next : entered net (x ++ e ∷ []) ≡ entered net (y ++ e ∷ []) =
      entered_more x e f.1 net ∙ ap (λ ps. set ps e.device e.pos) same ∙ sym (entered_more y e g.1 net) in
      let step : entered net (filter q (x ++ e ∷ [])) ≡ entered net (filter q (y ++ e ∷ [])) =
      elim (cases_Bool (q e)) as (λ _. entered net (filter q (x ++ e ∷ [])) ≡ entered net (filter q (y ++ e ∷ []))) [
        | inl t ↦
            ap (entered net) (last_passes q x e t ∙ ap (λ w. w ++ e ∷ []) (all_pass q x e (λ h k b. earlier h e k b t) f.1))
            ∙ next
            ∙ sym (ap (entered net) (last_passes q y e t ∙ ap (λ w. w ++ e ∷ []) (all_pass q y e (λ h k b. earlier h e k b t) g.1)))
        | inr n ↦ ap (entered net) (last_fails q x e n) ∙ base ∙ sym (ap (entered net) (last_fails q y e n))
      ] in
      ap (λ w. entered net (filter q w)) (sym (append_assoc x (e ∷ []) after))
      ∙ same_part q earlier lo (x ++ e ∷ []) (y ++ e ∷ []) after next f.3 g.3 step
      ∙ ap (λ w. entered net (filter q w)) (append_assoc y (e ∷ []) after)

  -- one more entry that repeats the position before it
  module _ (es : List Entry) (e : Entry) (kept : e.kept ≡ true) (ok : AllBefore e es) (repeated : slice_get (entered net es) e.device ≡ Some e.pos) where
    same_entered : entered net (es ++ e ∷ []) ≡ entered net es
    same_entered = entered_more es e ok net ∙ set_same (entered net es) e.device e.pos repeated

    same_as_far : (q : Entry → Bool) → PassesEarlier q → entered net (filter q (es ++ e ∷ [])) ≡ entered net (filter q es)
    same_as_far q earlier =
        elim (cases_Bool (q e)) as (λ _. entered net (filter q (es ++ e ∷ [])) ≡ entered net (filter q es)) [
          | inl t ↦
              let all : filter q es ≡ es = all_pass q es e (λ h k b. earlier h e k b t) ok in
              ap (entered net) (last_passes q es e t ∙ ap (λ w. w ++ e ∷ []) all) ∙ same_entered ∙ ap (entered net) (sym all)
          | inr n ↦ ap (entered net) (last_fails q es e n)
        ]

    not_both : (b : Bool) → (b && not b) ≡ false
    not_both true = refl
    not_both false = refl

    -- cuts nothing off
    alike : (v s : ℕ) → Alike (history net (es ++ e ∷ []) v) (history net es v) s
    alike v s =
        let more = adds net v es e kept ok 0 0 in
        let here : is_supplied_under net (es ++ e ∷ []) e.second v ≡ is_supplied_under net es e.second v = same_under net v (es ++ e ∷ []) es e.second same_entered in
        record {
          dead =
              elim (cases_lt s e.second) as (λ _. (history net (es ++ e ∷ []) v).deenergized s ≡ (history net es v).deenergized s) [
                | inl l ↦ ap (λ q. not (is_supplied_under net q s v)) (upto_before net v es e kept ok s l)
                | inr l ↦
                    ap (λ q. not (is_supplied_under net q s v)) (upto_after_new net v es e kept ok s l)
                    ∙ ap not (same_under net v (es ++ e ∷ []) es s same_entered)
                    ∙ sym (ap (λ q. not (is_supplied_under net q s v)) (upto_after_old net v es e kept ok s l))
              ];
          cutter =
              elim (cases_eq s e.second) as (λ _. (history net (es ++ e ∷ []) v).cutter s ≡ (history net es v).cutter s) [
                | inl at ↦
                    ap (history net (es ++ e ∷ []) v).cutter at
                    ∙ more.here
                    ∙ ap (λ b. cond (is_supplied_under net es e.second v && not b) (Some e.no) ((history net es v).cutter e.second)) here
                    ∙ ap (λ b. cond b (Some e.no) ((history net es v).cutter e.second)) (not_both (is_supplied_under net es e.second v))
                    ∙ sym (ap (history net es v).cutter at)
                | inr apart ↦ more.elsewhere s apart
              ];
        }

  -- the same where others come after it
  module _ (e : Entry) (es : List Entry) (kept : e.kept ≡ true) (rise : IsInOrder es) (kept_es : AllByRecursion (λ f. f.kept ≡ true) es) (apart : IsNumberedApart e es) where
    abbrev left : List Entry
    left = (place_in e es rise kept_es apart).left

    abbrev right : List Entry
    right = (place_in e es rise kept_es apart).right

    all_first : AllBefore e left
    all_first = all_before e left (kept_first e es rise kept_es apart) (first_before e es rise kept_es apart)

    from_start : (fs : List Entry) → AllByRecursion (λ f. 0 ≤ f.second) fs
    from_start [] = tt
    from_start (f ∷ fs) = (omega arith, from_start fs)

    whole_with : put_in_order e es ≡ (left ++ e ∷ []) ++ right
    whole_with = (place_in e es rise kept_es apart).put ∙ sym (append_assoc left (e ∷ []) right)

    follow_with : Follow 0 (left ++ e ∷ []) right
    follow_with =
        let kept_all : AllByRecursion (λ f. f.kept ≡ true) ((left ++ e ∷ []) ++ right) =
        each_join (λ f. f.kept ≡ true) (left ++ e ∷ []) right (each_join (λ f. f.kept ≡ true) left (e ∷ []) (kept_first e es rise kept_es apart) (kept, tt)) (kept_rest e es rise kept_es apart) in
        let rise_all : IsInOrder ((left ++ e ∷ []) ++ right) = subst IsInOrder whole_with (IsInOrder-put_in_order e es apart rise) in
        follow 0 (left ++ e ∷ []) right [] (subst (AllByRecursion (λ f. f.kept ≡ true)) (sym (append-nil ((left ++ e ∷ []) ++ right))) kept_all)
        (subst IsInOrder (sym (append-nil ((left ++ e ∷ []) ++ right))) rise_all) (from_start right)

    follow_without : Follow 0 left right
    follow_without =
        let whole : es ≡ (left ++ right) ++ [] = (place_in e es rise kept_es apart).whole ∙ sym (append-nil (left ++ right)) in
        follow 0 left right [] (subst (AllByRecursion (λ f. f.kept ≡ true)) whole kept_es) (subst IsInOrder whole rise) (from_start right)

    module _ (repeated : slice_get (entered net left) e.device ≡ Some e.pos) where
      pub same_entered_part : (q : Entry → Bool) → PassesEarlier q → entered net (filter q (put_in_order e es)) ≡ entered net (filter q es)
      same_entered_part q earlier =
          ap (λ w. entered net (filter q w)) whole_with
          ∙ same_part q earlier 0 (left ++ e ∷ []) left right (same_entered left e kept all_first repeated) follow_with follow_without
          (same_as_far left e kept all_first repeated q earlier)
          ∙ ap (λ w. entered net (filter q w)) (sym (place_in e es rise kept_es apart).whole)

      pub same_history : (v s : ℕ) → Alike (history net (put_in_order e es) v) (history net es v) s
      same_history v s =
          let x = same_after net v 0 (left ++ e ∷ []) left right (same_entered left e kept all_first repeated) follow_with follow_without
          (λ t l. alike left e kept all_first repeated v t) s (omega arith) in
          let whole = (place_in e es rise kept_es apart).whole in
          record {
            dead = ap (λ w. (history net w v).deenergized s) whole_with ∙ x.dead ∙ ap (λ w. (history net w v).deenergized s) (sym whole);
            cutter = ap (λ w. (history net w v).cutter s) whole_with ∙ x.cutter ∙ ap (λ w. (history net w v).cutter s) (sym whole);
          }
