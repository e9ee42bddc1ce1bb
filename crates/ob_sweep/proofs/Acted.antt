-- The history of a section at a second, from the positions as the entries of that second act one after another.
use Rattle.std.proofs.Common.{◌≡◌, ◌==◌, ◌&&◌, nat_lt, ℕ, suc, ◌<◌, ◌≤◌, inl, inr, Bool, true, false, not, cond, List, [], ◌∷◌, ◌++◌, Option, Some, None, refl, sym, ◌∙◌, ap, arith, subst, append_assoc, length, map}
use Rattle.std.proofs.Math.ListN.{set}
use Rattle.std.specs.List.{AllByRecursion, filter}
use Rattle.std.specs.Option.{option_map, option_map_or, option_or}
use Rattle.std.proofs.lemmas.Bool.{cases_Bool, cases_lt, cases_eq, cond-true, cond-false, eq-eqb, ne_eqb, lt-ltb, le-ltb, ltb-true, eqb-true}
use Rattle.std.proofs.lemmas.List.{append-nil, length-map}
use Rattle.std.proofs.lemmas.Option.{slice_get_cases}
use Rattle.ob_base.specs.Life.{is_alive}
use Rattle.ob_base.specs.declared.life.Life.{Life}
use Rattle.ob_base.specs.declared.Pos.{Pos}
use Rattle.ob_base.specs.declared.Pos.TheVariants.{Opened}
use Rattle.ob_net.specs.Network.{Network, as_of}
use Rattle.ob_net.specs.Walk.{is_supplied}
use Rattle.ob_sheet.proofs.Sorting.{IsBeforeEach, IsInOrder}
use Rattle.ob_sheet.specs.declared.Entry.{Entry}
use Rattle.ob_sheet.specs.Order.{greatest}
use Rattle.ob_sheet.specs.Positions.{entered}
use Rattle.ob_sheet.specs.Supply.{is_supplied_under}
use Rattle.ob_sweep.specs.Acting.{moment_at, moment_of, moved, moved_all, pos_as_of, steps_from}
use Rattle.ob_sweep.specs.Cutters.{cutter_at}
use Rattle.ob_sweep.specs.Differences.{SaySame}
use Rattle.ob_sweep.specs.Moments.{after_all, last_cut, section_history}
use Rattle.ob_sweep.specs.Runs.{history}
use Rattle.ob_sweep.proofs.Framed.{all_earlier, follow, in_order_left, in_order_right}
use Rattle.ob_sweep.proofs.Growth.{AllBefore, adds, by_second}
use Rattle.ob_sweep.proofs.Law.{Follow, later_ignored, upto_whole}
use Rattle.ob_sweep.proofs.Moved.{moved_as_of}
use Rattle.ob_sweep.proofs.Parted.{each_as, each_both, each_filter, each_join, each_left}
use Rattle.ob_sweep.proofs.Sweeps.{AllEarlier, entered_more, no_cuts}

-- the steps end where the entries do
pub end_of_steps : (net : Network) (t : ℕ) (ps : List Pos) (es : List Entry) → after_all ps (steps_from net t ps es) ≡ moved_all net t ps es
end_of_steps net t ps [] = refl
end_of_steps net t ps (e ∷ es) = end_of_steps net t (moved net t ps e) es

none_before : (o : Option ℕ) → option_or o None ≡ o
none_before None = refl
none_before (Some x) = refl

-- the last of some cuts, and one before them, and one before that
or_before : (o : Option ℕ) (b : Bool) (n : ℕ) (c : Option ℕ) → option_or o (cond b (Some n) c) ≡ option_or (option_or o (cond b (Some n) None)) c
or_before None true n c = refl
or_before None false n c = refl
or_before (Some x) b n c = refl

module _ (net : Network) (t : ℕ) where
  -- one more entry in the positions with lives as of t
  pub moved_once : (x : List Entry) (e : Entry) → AllBefore e x → e.device < length net.devices
      → as_of net.devices t (entered net (x ++ e ∷ [])) ≡ moved net t (as_of net.devices t (entered net x)) e
  moved_once x e ok named =
      let lives : List Life = map (λ d. d.life) net.devices in
      let found = slice_get_cases lives e.device in
      ap (as_of net.devices t) (entered_more x e ok net)
      ∙ elim found.1 as (λ _. as_of net.devices t (set (entered net x) e.device e.pos) ≡ moved net t (as_of net.devices t (entered net x)) e) [
        | inl here ↦
            moved_as_of net.devices t (entered net x) e.device e.pos (pos_as_of net t e.device e.pos) here.0 here.2
            (ap (λ (o : Option Life). cond (option_map_or (λ (life : Life). is_alive life t) o false) e.pos Opened) here.2)
        | inr past ↦ absurd (omega (arith, named, past.0, length-map net.devices (λ d. d.life)))
      ]

  module _ (v s : ℕ) (lives : (ps : List Pos) → as_of net.devices s ps ≡ as_of net.devices t ps) where
    abbrev lit : List Pos → Bool
    lit ps = is_supplied net ps v

    abbrev at : List Entry → List Pos
    at x = as_of net.devices t (entered net x)

    under : (x : List Entry) → is_supplied_under net x s v ≡ lit (at x)
    under x = ap lit (lives (entered net x))

    -- the entries of the second one after another
    cut_on : (x group : List Entry) → Follow s x group → AllByRecursion (λ e. (e.second ≡ s) × (e.device < length net.devices)) group
        → cutter_at net (x ++ group) v s ≡ option_or (last_cut lit (at x) (steps_from net t (at x) group)) (cutter_at net x v s)
    cut_on x [] f all = ap (λ q. cutter_at net q v s) (append-nil x)
    cut_on x (e ∷ es) f all =
        let here : e.second ≡ s = all.0.0 in
        let one = adds net v x e f.0 f.1 s s in
        let later : List Pos = moved net t (at x) e in
        let next : at (x ++ e ∷ []) ≡ later = moved_once x e f.1 all.0.1 in
        let cuts : Bool = lit (at x) && not (lit later) in
        let rest : Option ℕ = last_cut lit later (steps_from net t later es) in
        let was : is_supplied_under net x e.second v ≡ lit (at x) = ap (λ n. is_supplied_under net x n v) here ∙ under x in
        let now : is_supplied_under net (x ++ e ∷ []) e.second v ≡ lit later = ap (λ n. is_supplied_under net (x ++ e ∷ []) n v) here ∙ under (x ++ e ∷ []) ∙ ap lit next in
        let first : cutter_at net (x ++ e ∷ []) v s ≡ cond cuts (Some e.«no») (cutter_at net x v s) =
        ap (cutter_at net (x ++ e ∷ []) v) (sym here)
        ∙ one.here
        ∙ ap (λ b. cond (b && not (is_supplied_under net (x ++ e ∷ []) e.second v)) (Some e.«no») (cutter_at net x v e.second)) was
        ∙ ap (λ b. cond (lit (at x) && not b) (Some e.«no») (cutter_at net x v e.second)) now
        ∙ ap (λ n. cond cuts (Some e.«no») (cutter_at net x v n)) here in
        ap (λ q. cutter_at net q v s) (sym (append_assoc x (e ∷ []) es))
        ∙ cut_on (x ++ e ∷ []) es f.3 all.1
        ∙ ap (λ (ps : List Pos). option_or (last_cut lit ps (steps_from net t ps es)) (cutter_at net (x ++ e ∷ []) v s)) next
        ∙ ap (option_or rest) first
        ∙ or_before rest cuts e.«no» (cutter_at net x v s)

    end_on : (x group : List Entry) → Follow s x group → AllByRecursion (λ e. (e.second ≡ s) × (e.device < length net.devices)) group
        → at (x ++ group) ≡ moved_all net t (at x) group
    end_on x [] f all = ap at (append-nil x)
    end_on x (e ∷ es) f all =
        ap at (sym (append_assoc x (e ∷ []) es))
        ∙ end_on (x ++ e ∷ []) es f.3 all.1
        ∙ ap (λ (ps : List Pos). moved_all net t ps es) (moved_once x e f.1 all.0.1)

    -- the history at the second, where the earlier entries, its own and the later ones are known
    pub history_at : (x group after : List Entry) → AllEarlier s x → AllEarlier (suc s) (x ++ group) → Follow s x group → Follow (suc s) (x ++ group) after
        → AllByRecursion (λ e. (e.second ≡ s) × (e.device < length net.devices)) group
        → SaySame (history net ((x ++ group) ++ after) v) (section_history lit (λ _. moment_of net t (at x) group)) s
    history_at x group after earlier through follows later all =
        let rest = later_ignored net v (suc s) (x ++ group) after later s (omega arith) in
        record {
          deenergized =
              rest.dead
              ∙ ap (λ q. not (is_supplied_under net q s v)) (upto_whole s (x ++ group) through)
              ∙ ap not (under (x ++ group))
              ∙ ap (λ (ps : List Pos). not (lit ps)) (end_on x group follows all ∙ sym (end_of_steps net t (at x) group));
          cutter =
              rest.cutter
              ∙ cut_on x group follows all
              ∙ ap (λ q. option_or (last_cut lit (at x) (steps_from net t (at x) group)) (option_map (λ (f : Entry). f.«no») (greatest q))) (no_cuts s net v x x earlier)
              ∙ none_before (last_cut lit (at x) (steps_from net t (at x) group));
        }

-- entries in order about a second: the earlier ones, those of the second, and the later ones
abbrev pub earlier_ones : ℕ → List Entry → List Entry
earlier_ones s es = filter (λ e. nat_lt e.second s) es

abbrev pub its_own : ℕ → List Entry → List Entry
its_own s es = filter (λ e. e.second == s) es

abbrev pub later_ones : ℕ → List Entry → List Entry
later_ones s es = filter (λ e. nat_lt s e.second) es

from_here : (e : Entry) (es : List Entry) → IsBeforeEach e es → AllByRecursion (λ f. e.second ≤ f.second) es
from_here e [] h = tt
from_here e (f ∷ fs) h = (by_second e f h.0, from_here e fs h.1)

none_pass : (p : Entry → Bool) (es : List Entry) → AllByRecursion (λ f. p f ≡ false) es → filter p es ≡ []
none_pass p [] h = refl
none_pass p (e ∷ es) h = cond-false (p e) (e ∷ filter p es) (filter p es) h.0 ∙ none_pass p es h.1

each_fails : (P : Entry → Type 0) (p : Entry → Bool) (es : List Entry) → ((f : Entry) → P f → p f ≡ false) → AllByRecursion P es → AllByRecursion (λ f. p f ≡ false) es
each_fails P p [] by h = tt
each_fails P p (e ∷ es) by h = (by e h.0, each_fails P p es by h.1)

pub split_at : (s : ℕ) (es : List Entry) → IsInOrder es → es ≡ earlier_ones s es ++ (its_own s es ++ later_ones s es)
split_at s [] h = refl
split_at s (e ∷ es) h =
    let rest : es ≡ earlier_ones s es ++ (its_own s es ++ later_ones s es) = split_at s es h.1 in
    let onwards : AllByRecursion (λ f. e.second ≤ f.second) es = from_here e es h.0 in
    elim (cases_lt e.second s) as (λ _. e ∷ es ≡ earlier_ones s (e ∷ es) ++ (its_own s (e ∷ es) ++ later_ones s (e ∷ es))) [
      | inl l ↦
          ap (λ q. e ∷ q) rest
          ∙ sym (ap (λ b. cond b (e ∷ earlier_ones s es) (earlier_ones s es) ++ (its_own s (e ∷ es) ++ later_ones s (e ∷ es))) (lt-ltb e.second s l)
          ∙ ap (λ b. e ∷ (earlier_ones s es ++ (cond b (e ∷ its_own s es) (its_own s es) ++ later_ones s (e ∷ es)))) (ne_eqb e.second s (λ q. absurd (omega arith)))
          ∙ ap (λ b. e ∷ (earlier_ones s es ++ (its_own s es ++ cond b (e ∷ later_ones s es) (later_ones s es)))) (le-ltb s e.second (omega arith)))
      | inr k ↦
          let no_earlier : earlier_ones s es ≡ [] = none_pass (λ f. nat_lt f.second s) es
          (each_fails (λ f. e.second ≤ f.second) (λ f. nat_lt f.second s) es (λ f g. le-ltb f.second s (omega (arith, g, k))) onwards) in
          let first : earlier_ones s (e ∷ es) ≡ [] = cond-false (nat_lt e.second s) (e ∷ earlier_ones s es) (earlier_ones s es) (le-ltb e.second s k) ∙ no_earlier in
          elim (cases_eq e.second s) as (λ _. e ∷ es ≡ earlier_ones s (e ∷ es) ++ (its_own s (e ∷ es) ++ later_ones s (e ∷ es))) [
            | inl here ↦
                ap (λ q. e ∷ q) (rest ∙ ap (λ q. q ++ (its_own s es ++ later_ones s es)) no_earlier)
                ∙ sym (ap (λ q. q ++ (its_own s (e ∷ es) ++ later_ones s (e ∷ es))) first
                ∙ ap (λ b. cond b (e ∷ its_own s es) (its_own s es) ++ later_ones s (e ∷ es)) (eq-eqb e.second s here)
                ∙ ap (λ b. e ∷ (its_own s es ++ cond b (e ∷ later_ones s es) (later_ones s es))) (le-ltb s e.second (omega arith)))
            | inr apart ↦
                let past : s < e.second = omega arith in
                let no_own : its_own s es ≡ [] = none_pass (λ f. f.second == s) es
                (each_fails (λ f. e.second ≤ f.second) (λ f. f.second == s) es (λ f g. ne_eqb f.second s (λ q. omega (arith, g, past, q))) onwards) in
                let none : its_own s (e ∷ es) ≡ [] = cond-false (e.second == s) (e ∷ its_own s es) (its_own s es) (ne_eqb e.second s apart) ∙ no_own in
                ap (λ q. e ∷ q) (rest ∙ ap (λ q. q ++ (its_own s es ++ later_ones s es)) no_earlier ∙ ap (λ q. q ++ later_ones s es) no_own)
                ∙ sym (ap (λ q. q ++ (its_own s (e ∷ es) ++ later_ones s (e ∷ es))) first
                ∙ ap (λ q. q ++ later_ones s (e ∷ es)) none
                ∙ cond-true (nat_lt s e.second) (e ∷ later_ones s es) (later_ones s es) (lt-ltb s e.second past))
          ]
    ]

pub each_passes : (P : Entry → Type 0) (p : Entry → Bool) (es : List Entry) → ((f : Entry) → p f ≡ true → P f) → AllByRecursion P (filter p es)
each_passes P p [] by = tt
each_passes P p (e ∷ es) by =
    elim (cases_Bool (p e)) as (λ _. AllByRecursion P (filter p (e ∷ es))) [
      | inl t ↦ subst (AllByRecursion P) (sym (cond-true (p e) (e ∷ filter p es) (filter p es) t)) (by e t, each_passes P p es by)
      | inr n ↦ subst (AllByRecursion P) (sym (cond-false (p e) (e ∷ filter p es) (filter p es) n)) (each_passes P p es by)
    ]

-- entries about a window, from the second a up to z: those before it, those in it and those after it, each kept, in order and of a device
pub record AreAbout (net : Network) (a z : ℕ) (front steps rest : List Entry) : Type 0 where
  pub kept : AllByRecursion (λ f. f.kept ≡ true) ((front ++ steps) ++ rest)
  pub rise : IsInOrder ((front ++ steps) ++ rest)
  pub earlier : AllByRecursion (λ f. f.second < a) front
  pub inside : AllByRecursion (λ f. (a ≤ f.second) × (f.second ≤ z)) steps
  pub later : AllByRecursion (λ f. z < f.second) rest
  pub named : AllByRecursion (λ f. f.device < length net.devices) steps

module _ (net : Network) (t a z : ℕ) (front steps rest : List Entry) (about : AreAbout net a z front steps rest) where
  pub end_by : (lo : ℕ) (x group : List Entry) → Follow lo x group → AllByRecursion (λ f. f.device < length net.devices) group
      → as_of net.devices t (entered net (x ++ group)) ≡ moved_all net t (as_of net.devices t (entered net x)) group
  end_by lo x [] f all = ap (λ q. as_of net.devices t (entered net q)) (append-nil x)
  end_by lo x (e ∷ es) f all =
      ap (λ q. as_of net.devices t (entered net q)) (sym (append_assoc x (e ∷ []) es))
      ∙ end_by lo (x ++ e ∷ []) es f.3 all.1
      ∙ ap (λ (ps : List Pos). moved_all net t ps es) (moved_once net t x e f.1 all.0)

  module _ (v s : ℕ) (from : a ≤ s) (upto : s ≤ z) (lives : (ps : List Pos) → as_of net.devices s ps ≡ as_of net.devices t ps) where
    abbrev before : List Entry
    before = front ++ earlier_ones s steps

    abbrev own : List Entry
    own = its_own s steps

    abbrev behind : List Entry
    behind = later_ones s steps ++ rest

    in_order_steps : IsInOrder steps
    in_order_steps = in_order_right front steps (in_order_left (front ++ steps) rest about.rise)

    parts : (front ++ steps) ++ rest ≡ (before ++ own) ++ behind
    parts =
        ap (λ q. (front ++ q) ++ rest) (split_at s steps in_order_steps)
        ∙ append_assoc front (earlier_ones s steps ++ (own ++ later_ones s steps)) rest
        ∙ ap (λ q. front ++ q) (append_assoc (earlier_ones s steps) (own ++ later_ones s steps) rest)
        ∙ sym (append_assoc front (earlier_ones s steps) ((own ++ later_ones s steps) ++ rest))
        ∙ ap (λ q. before ++ q) (append_assoc own (later_ones s steps) rest)
        ∙ sym (append_assoc before own behind)

    kept_parts : AllByRecursion (λ f. f.kept ≡ true) ((before ++ own) ++ behind)
    kept_parts = subst (AllByRecursion (λ f. f.kept ≡ true)) parts about.kept

    rise_parts : IsInOrder ((before ++ own) ++ behind)
    rise_parts = subst IsInOrder parts about.rise

    before_earlier : AllByRecursion (λ f. f.second < s) before
    before_earlier =
        each_join (λ f. f.second < s) front (earlier_ones s steps)
        (each_as (λ f. f.second < a) (λ f. f.second < s) front (λ f l. omega (arith, l)) about.earlier)
        (each_passes (λ f. f.second < s) (λ f. nat_lt f.second s) steps (λ f p. ltb-true f.second s p))

    own_at : AllByRecursion (λ f. f.second ≡ s) own
    own_at = each_passes (λ f. f.second ≡ s) (λ f. f.second == s) steps (λ f p. eqb-true f.second s p)

    own_named : AllByRecursion (λ f. f.device < length net.devices) own
    own_named = each_filter (λ f. f.device < length net.devices) (λ f. f.second == s) steps about.named

    before_follows : Follow a front (earlier_ones s steps)
    before_follows =
        follow a front (earlier_ones s steps) (own ++ behind)
        (subst (AllByRecursion (λ f. f.kept ≡ true)) (append_assoc before own behind) kept_parts)
        (subst IsInOrder (append_assoc before own behind) rise_parts)
        (each_filter (λ f. a ≤ f.second) (λ f. nat_lt f.second s) steps
        (each_as (λ f. (a ≤ f.second) × (f.second ≤ z)) (λ f. a ≤ f.second) steps (λ f h. h.0) about.inside))

    own_follows : Follow s before own
    own_follows = follow s before own behind kept_parts rise_parts (each_as (λ f. f.second ≡ s) (λ f. s ≤ f.second) own (λ f e. omega (arith, e)) own_at)

    behind_follows : Follow (suc s) (before ++ own) behind
    behind_follows =
        follow (suc s) (before ++ own) behind []
        (subst (AllByRecursion (λ f. f.kept ≡ true)) (sym (append-nil ((before ++ own) ++ behind))) kept_parts)
        (subst IsInOrder (sym (append-nil ((before ++ own) ++ behind))) rise_parts)
        (each_join (λ f. suc s ≤ f.second) (later_ones s steps) rest
        (each_passes (λ f. suc s ≤ f.second) (λ f. nat_lt s f.second) steps (λ f p. ltb-true s f.second p))
        (each_as (λ f. z < f.second) (λ f. suc s ≤ f.second) rest (λ f l. omega (arith, l)) about.later))

    -- the history at a second of the window is that of its moment
    pub history_of_moment : SaySame (history net ((front ++ steps) ++ rest) v) (section_history (λ ps. is_supplied net ps v) (λ _. moment_at net t (as_of net.devices t (entered net front)) steps s)) s
    history_of_moment =
        let kept_through : AllByRecursion (λ f. f.kept ≡ true) (before ++ own) = each_left (λ f. f.kept ≡ true) (before ++ own) behind kept_parts in
        let found = history_at net t v s lives before own behind
        (all_earlier s before (each_left (λ f. f.kept ≡ true) before own kept_through) before_earlier)
        (all_earlier (suc s) (before ++ own) kept_through
        (each_join (λ f. f.second < suc s) before own
        (each_as (λ f. f.second < s) (λ f. f.second < suc s) before (λ f l. omega (arith, l)) before_earlier)
        (each_as (λ f. f.second ≡ s) (λ f. f.second < suc s) own (λ f e. omega (arith, e)) own_at)))
        own_follows behind_follows
        (each_both (λ f. f.second ≡ s) (λ f. f.device < length net.devices) own own_at own_named) in
        let lit : List Pos → Bool = λ ps. is_supplied net ps v in
        let first : as_of net.devices t (entered net before) ≡ moved_all net t (as_of net.devices t (entered net front)) (earlier_ones s steps) =
        end_by a front (earlier_ones s steps) before_follows (each_filter (λ f. f.device < length net.devices) (λ f. nat_lt f.second s) steps about.named) in
        subst (λ (es : List Entry). SaySame (history net es v) (section_history lit (λ _. moment_at net t (as_of net.devices t (entered net front)) steps s)) s) (sym parts)
        (subst (λ (ps : List Pos). SaySame (history net ((before ++ own) ++ behind) v) (section_history lit (λ _. moment_of net t ps own)) s) first found)
