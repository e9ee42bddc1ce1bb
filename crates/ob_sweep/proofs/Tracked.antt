-- The new runs of a section, found part by part.
use Rattle.std.proofs.Common.{◌≡◌, ℕ, suc, ◌<◌, ◌≤◌, ◌==◌, nat_lt, inl, inr, Bool, cond, List, [], ◌∷◌, Option, None, Some, refl, sym, ◌∙◌, ap, arith, subst, map}
use Rattle.std.proofs.lemmas.Bool.{cases_lt, cases_eq, cond-true, cond-false, cond_both, eq-eqb, ne_eqb, lt-ltb, le-ltb}
use Rattle.ob_sweep.specs.Differences.{SaySame}
use Rattle.ob_sweep.specs.declared.Run.{Run}
use Rattle.ob_sweep.specs.Runs.{History, runs_between}
use Rattle.ob_sweep.specs.Splice.{back, front, join, splice}
use Rattle.ob_sweep.specs.Timeline.{runs_at}
use Rattle.ob_sweep.specs.Tracks.{AreRunsFrom, IsTracked, goes_by, part_of, recut}
use Rattle.ob_sweep.proofs.Law.{Alike}
use Rattle.ob_sweep.proofs.Pieces.{ArePart, dark_part, lit_part, of_section, part_joined, part_of_longer, parts_joined, runs_alike}
use Rattle.ob_sweep.proofs.Seams.{back_tiles}
use Rattle.ob_sweep.proofs.Tiles.{Loose, Tiles, front_tiles, transfer}
use Rattle.ob_sweep.proofs.Unique.{CutBy, runs_tile, tiles_are_runs}

-- the runs of a history with another cutter at its first second are a part
pub from_part : (v : ℕ) (h : History) (lo a b : ℕ) (rs : List Run) → a ≤ b → AreRunsFrom v h lo a b rs → ArePart v h lo a b rs
from_part v h lo a b rs l r =
    let g : History = recut a r.cutter h in
    subst (ArePart v h lo a b) (sym r.are)
    (transfer v h.deenergized h.deenergized (CutBy g) (Loose h.deenergized (CutBy h) lo a) a b (runs_between v g a b) (λ s p q. refl)
    (λ s c p q is none.
    elim (cases_eq s a) as (λ _. c ≡ h.cutter s) [
      | inl e ↦ is ∙ cond-true (s == a) r.cutter (h.cutter s) (eq-eqb s a e) ∙ r.due (λ n f t. none e n t f) ∙ sym (ap h.cutter e)
      | inr n ↦ is ∙ cond-false (s == a) r.cutter (h.cutter s) (ne_eqb s a n)
    ])
    (runs_tile v g a b l))

-- past its first second
past_first : (v : ℕ) (h : History) (lo a from b : ℕ) (c : Option ℕ) (rs : List Run) → a < from → Tiles v h.deenergized (Loose h.deenergized (CutBy h) lo a) from b rs
    → Tiles v h.deenergized (CutBy (recut a c h)) from b rs
past_first v h lo a from b c rs l t =
    transfer v h.deenergized h.deenergized (Loose h.deenergized (CutBy h) lo a) (CutBy (recut a c h)) from b rs (λ s p q. refl)
    (λ s x p q k. k (λ e. absurd (omega arith)) ∙ sym (cond-false (s == a) c (h.cutter s) (ne_eqb s a (λ e. absurd (omega arith)))))
    t

-- and a part is such runs
pub part_from : (v : ℕ) (h : History) (lo a b : ℕ) (rs : List Run) → a ≤ b → ArePart v h lo a b rs → AreRunsFrom v h lo a b rs
part_from v h lo a b [] l t =
    record {
      cutter = h.cutter a;
      are = sym (tiles_are_runs v (recut a (h.cutter a) h) a b [] l t);
      due = λ none. refl;
    }
part_from v h lo a b (r ∷ rs) l t =
    let x = t.0 in
    let starts : a ≤ r.since = x.starts in
    let some : r.since < r.until = x.some in
    elim (cases_eq r.since a) as (λ _. AreRunsFrom v h lo a b (r ∷ rs)) [
      | inl e ↦ record {
        cutter = r.cutter;
        are = sym (tiles_are_runs v (recut a r.cutter h) a b (r ∷ rs) l (
          record {
            section = x.section;
            starts = x.starts;
            some = x.some;
            ends = x.ends;
            lit = x.lit;
            inside = x.inside;
            stops = x.stops;
            cut = sym (cond-true (r.since == a) r.cutter (h.cutter r.since) (eq-eqb r.since a e));
          },
          past_first v h lo a r.until b r.cutter rs (omega arith) t.1,
        ));
        due = λ none. x.cut (λ q s p f. none s f p) ∙ ap h.cutter e;
      }
      | inr n ↦ record {
        cutter = h.cutter a;
        are = sym (tiles_are_runs v (recut a (h.cutter a) h) a b (r ∷ rs) l (
          record {
            section = x.section;
            starts = x.starts;
            some = x.some;
            ends = x.ends;
            lit = x.lit;
            inside = x.inside;
            stops = x.stops;
            cut = x.cut (λ q. absurd (n q)) ∙ sym (cond-false (r.since == a) (h.cutter a) (h.cutter r.since) (ne_eqb r.since a n));
          },
          past_first v h lo a r.until b (h.cutter a) rs (omega arith) t.1,
        ));
        due = λ none. refl;
      }
    ]

-- runs and a part that goes on where they end
pub from_more : (v : ℕ) (h : History) (lo a b c : ℕ) (rs ss : List Run) → a ≤ b → b ≤ c → AreRunsFrom v h lo a b rs → ArePart v h lo b c ss → AreRunsFrom v h lo a c (join b rs ss)
from_more v h lo a b c rs ss l m r t = part_from v h lo a c (join b rs ss) (omega arith) (parts_joined v h lo a b c rs ss l m (from_part v h lo a b rs l r) t)

-- at first nothing is found
pub none_from : (v : ℕ) (h : History) (lo a : ℕ) → AreRunsFrom v h lo a a []
none_from v h lo a = part_from v h lo a a [] (omega arith) (λ s p q. absurd (omega arith))

as_alike : (g h : History) (s : ℕ) → SaySame g h s → Alike g h s
as_alike g h s same = record { dead = same.deenergized; cutter = same.cutter }

module _ (old new : ℕ → History) (lo first : ℕ) (la : lo ≤ first) where
  -- what a section goes by, as a part
  source_part : (lists : List (List Run)) (hi v a b : ℕ) (source : Option ℕ) → ((w : ℕ) → source ≡ Some w → runs_at lists w ≡ runs_between w (old w) lo hi) → lo ≤ a → a ≤ b → b ≤ hi
      → ((s : ℕ) → lo ≤ s → suc s ≡ a → (new v).deenergized s ≡ (goes_by old source).deenergized s)
      → ((s : ℕ) → a ≤ s → s < b → SaySame (new v) (goes_by old source) s)
      → ArePart v (new v) lo a b (part_of lists source v a b)
  source_part lists hi v a b None held l m n before rest =
      elim (cases_lt a b) as (λ _. ArePart v (new v) lo a b (part_of lists None v a b)) [
        | inl some ↦
            subst (ArePart v (new v) lo a b) (sym (cond-true (nat_lt a b) (record { section = v; since = a; until = b; cutter = None } ∷ []) [] (lt-ltb a b some)))
            (dark_part v (new v) lo a b None some (λ s p q. (rest s p q).deenergized) (sym (rest a (omega arith) some).cutter))
        | inr none ↦
            subst (ArePart v (new v) lo a b) (sym (cond-false (nat_lt a b) (record { section = v; since = a; until = b; cutter = None } ∷ []) [] (le-ltb a b none)))
            (lit_part v (new v) lo a b (λ s p q. absurd (omega arith)))
      ]
  source_part lists hi v a b (Some w) held l m n before rest =
      subst (λ rs. ArePart v (new v) lo a b (map (of_section v) (back a (front b rs)))) (sym (held w refl))
      (part_of_longer v w (old w) (new v) lo hi a b l m n (λ s p q. as_alike (new v) (old w) s (rest s p q)) before)

  -- the runs of a section are found up to t
  pub tracked_up : (lists : List (List Run)) (hi t v : ℕ) (runs : List Run) (reached : ℕ) (source : Option ℕ)
      → ((w : ℕ) → source ≡ Some w → runs_at lists w ≡ runs_between w (old w) lo hi) → t ≤ hi
      → IsTracked old new lo first t v runs reached source → IsTracked old new lo first t v (join reached runs (part_of lists source v reached t)) t source
  tracked_up lists hi t v runs reached source held n x =
      let from : first ≤ reached = x.from in
      let upto : reached ≤ t = x.upto in
      record {
        from = omega arith;
        upto = omega arith;
        found = from_more v (new v) lo first reached t runs (part_of lists source v reached t) from upto x.found
            (source_part lists hi v reached t source held (omega arith) upto n x.before x.rest);
        before = λ s p q. elim (cases_lt s reached) as (λ _. (new v).deenergized s ≡ (goes_by old source).deenergized s) [
          | inl early ↦ x.before s p (omega arith)
          | inr late ↦ (x.rest s late (omega arith)).deenergized
        ];
        rest = λ s p q. absurd (omega arith);
      }

  -- one second more, by which nothing changes
  pub tracked_pass : (t v : ℕ) (runs : List Run) (reached : ℕ) (source : Option ℕ) → SaySame (new v) (goes_by old source) t
      → IsTracked old new lo first t v runs reached source → IsTracked old new lo first (suc t) v runs reached source
  tracked_pass t v runs reached source same x =
      let upto : reached ≤ t = x.upto in
      record {
        from = x.from;
        upto = omega arith;
        found = x.found;
        before = x.before;
        rest = λ s p q. elim (cases_lt s t) as (λ _. SaySame (new v) (goes_by old source) s) [
          | inl early ↦ x.rest s p early
          | inr late ↦ let here : t ≡ s = omega arith in subst (SaySame (new v) (goes_by old source)) here same
        ];
      }

  -- one second more, whose history was looked up, and another source from there on
  pub tracked_second : (t v : ℕ) (runs : List Run) (source next : Option ℕ) (dead : Bool) (cutter : Option ℕ)
      → (new v).deenergized t ≡ dead → (new v).cutter t ≡ cutter → (new v).deenergized t ≡ (goes_by old next).deenergized t
      → IsTracked old new lo first t v runs t source
      → IsTracked old new lo first (suc t) v (join t runs (cond dead (record { section = v; since = t; until = suc t; cutter = cutter } ∷ []) [])) (suc t) next
  tracked_second t v runs source next dead cutter is cut seam x =
      let from : first ≤ t = x.from in
      let single : Run = record { section = v; since = t; until = suc t; cutter = cutter } in
      let part : ArePart v (new v) lo t (suc t) (cond dead (single ∷ []) []) =
      cond_both dead (single ∷ []) [] (ArePart v (new v) lo t (suc t))
      (λ e. dark_part v (new v) lo t (suc t) cutter (omega arith) (λ s p q. let here : s ≡ t = omega arith in ap (new v).deenergized here ∙ is ∙ e) (sym cut))
      (λ e. lit_part v (new v) lo t (suc t) (λ s p q. let here : s ≡ t = omega arith in ap (new v).deenergized here ∙ is ∙ e)) in
      record {
        from = omega arith;
        upto = omega arith;
        found = from_more v (new v) lo first t (suc t) runs (cond dead (single ∷ []) []) from (omega arith) x.found part;
        before = λ s p q. let here : s ≡ t = omega arith in ap (new v).deenergized here ∙ seam ∙ sym (ap (goes_by old next).deenergized here);
        rest = λ s p q. absurd (omega arith);
      }

  -- before the first second
  pub tracked_first : (v : ℕ) (source : Option ℕ) → ((s : ℕ) → lo ≤ s → suc s ≡ first → (new v).deenergized s ≡ (goes_by old source).deenergized s)
      → IsTracked old new lo first first v [] first source
  tracked_first v source before =
      record {
        from = omega arith;
        upto = omega arith;
        found = none_from v (new v) lo first;
        before = before;
        rest = λ s p q. absurd (omega arith);
      }

  -- the runs of all seconds, where those outside the window are as they were
  module _ (hi end v : ℕ) (inside : first ≤ end) (within : end ≤ hi) (earlier : (s : ℕ) → lo ≤ s → s < first → SaySame (new v) (old v) s)
      (later : (s : ℕ) → end ≤ s → s < hi → SaySame (new v) (old v) s) (seam : end < hi → (s : ℕ) → suc s ≡ end → (new v).deenergized s ≡ (old v).deenergized s) where
    early_runs : front first (runs_between v (old v) lo hi) ≡ runs_between v (new v) lo first
    early_runs =
        sym (tiles_are_runs v (old v) lo first (front first (runs_between v (old v) lo hi)) la
        (front_tiles v (old v).deenergized (CutBy (old v)) lo hi first (runs_between v (old v) lo hi) (omega arith) (runs_tile v (old v) lo hi (omega arith))))
        ∙ sym (runs_alike v (new v) (old v) lo first la (λ s p q. as_alike (new v) (old v) s (earlier s p q)))

    late_runs : ArePart v (new v) lo end hi (back end (runs_between v (old v) lo hi))
    late_runs =
        let dead : ℕ → Bool = (old v).deenergized in
        let whole : List Run = runs_between v (old v) lo hi in
        transfer v dead (new v).deenergized (Loose dead (CutBy (old v)) lo end) (Loose (new v).deenergized (CutBy (new v)) lo end) end hi (back end whole)
        (λ s p q. (later s p q).deenergized)
        (λ s c p q k none. k (λ e n f t. sym (seam (omega arith) n f) ∙ none e n f t) ∙ sym (later s p q).cutter)
        (back_tiles v dead (CutBy (old v)) lo lo hi end whole (omega arith) (omega arith) within (runs_tile v (old v) lo hi (omega arith)))

    pub tracked_spliced : (runs : List Run) (source : Option ℕ) → IsTracked old new lo first end v runs end source
        → splice first end (runs_between v (old v) lo hi) runs ≡ runs_between v (new v) lo hi
    tracked_spliced runs source x =
        let whole : List Run = runs_between v (old v) lo hi in
        ap (λ q. join end (join first q runs) (back end whole)) early_runs
        ∙ ap (λ q. join end q (back end whole)) (part_joined v (new v) lo first end runs la inside (from_part v (new v) lo first end runs inside x.found))
        ∙ part_joined v (new v) lo end hi (back end whole) (omega arith) within late_runs

    -- a section of which nothing was found goes by its own old runs
    pub untracked : IsTracked old new lo first end v [] first (Some v) → runs_between v (new v) lo hi ≡ runs_between v (old v) lo hi
    untracked x =
        runs_alike v (new v) (old v) lo hi (omega arith)
        (λ s p q. as_alike (new v) (old v) s
        (elim (cases_lt s first) as (λ _. SaySame (new v) (old v) s) [
          | inl a ↦ earlier s p a
          | inr b ↦ elim (cases_lt s end) as (λ _. SaySame (new v) (old v) s) [ inl c ↦ x.rest s b c | inr d ↦ later s d q ]
        ]))
