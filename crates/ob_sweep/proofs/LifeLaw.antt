-- What the runs owe to lives: where two lives of a device hold the same second, the supply is the same then.
use Rattle.std.proofs.Common.{◌≡◌, ℕ, zero, suc, ◌+◌, ◌-◌, ◌<◌, ◌≤◌, ◌==◌, ◌&&◌, ◌||◌, ◌⊎◌, inl, inr, nat_le, Bool, true, false, not, cond, min, List, [], ◌∷◌, Option, Some, None, length, map, take, slice_get, refl, sym, ◌∙◌, ap, arith}
use Rattle.std.specs.List.{enumerate_from}
use Rattle.std.specs.Option.{option_map, option_map_or}
use Rattle.std.proofs.lemmas.Bool.{cases_Bool, cases_lt, le-ltb, and_right, false≢true}
use Rattle.ob_base.specs.Life.{is_alive}
use Rattle.ob_base.specs.declared.life.Life.{Life}
use Rattle.ob_base.specs.declared.Pos.{Pos}
use Rattle.ob_base.specs.declared.Pos.TheVariants.{Opened, Closed}
use Rattle.ob_net.specs.declared.net.Device.{Device}
use Rattle.ob_net.specs.declared.TheConstants.{GRID}
use Rattle.ob_net.specs.Network.{Network, as_of, with_life, with_life_at, without_last_device}
use Rattle.ob_net.specs.Walk.{closed_among, is_closed, is_connected, is_supplied}
use Rattle.ob_sheet.specs.declared.Entry.{Entry}
use Rattle.ob_sheet.specs.Order.{before, through, greatest, upto}
use Rattle.ob_sheet.specs.Positions.{entered, position_of}
use Rattle.ob_sheet.specs.Supply.{is_supplied_under}
use Rattle.ob_sweep.specs.Cutters.{cuts_off}
use Rattle.ob_sweep.specs.Lives.{Bounds, differ_at, first_differing, last_lived, never}
use Rattle.ob_sweep.specs.Runs.{History, history, runs_between}
use Rattle.ob_sweep.specs.Splice.{splice}
use Rattle.ob_sweep.proofs.Differing.{none_differ, first_is, lived_is}
use Rattle.ob_sweep.proofs.Ordered.{filter_alike}
use Rattle.ob_sweep.proofs.Seams.{splice_tiles}
use Rattle.ob_sweep.proofs.Tiles.{transfer}
use Rattle.ob_sweep.proofs.Unique.{CutBy, tiles_are_runs, runs_tile}

-- two lists of devices with the same ends
abbrev SameEnds : List Device → List Device → Type 0
SameEnds [] [] = Unit {0}
SameEnds [] (y ∷ ys) = ⊥
SameEnds (x ∷ xs) [] = ⊥
SameEnds (x ∷ xs) (y ∷ ys) = (x.a ≡ y.a) × (x.b ≡ y.b) × SameEnds xs ys

ends_alike : (xs : List Device) → SameEnds xs xs
ends_alike [] = tt
ends_alike (x ∷ xs) = (refl, refl, ends_alike xs)

either : (p p' q q' r r' t t' w w' : Bool) → p ≡ p' → q ≡ q' → r ≡ r' → t ≡ t' → w ≡ w' → (p || (q && r) || (t && w)) ≡ (p' || (q' && r') || (t' && w'))
either p p' q q' r r' t t' w w' e f g h i = rw (e, f, g, h, i) refl

-- connections are by ends alone
connected_alike : (xs ys : List Device) → SameEnds xs ys → (u v : ℕ) → is_connected xs u v ≡ is_connected ys u v
unfolding is_connected
connected_alike [] [] same u v = refl
connected_alike [] (y ∷ ys) same u v = absurd same
connected_alike (x ∷ xs) [] same u v = absurd same
connected_alike (x ∷ xs) (y ∷ ys) same u v =
    let rest = connected_alike xs ys same.2 in
    either _ _ _ _ _ _ _ _ _ _ (rest u v)
    (rest u x.a ∙ ap (is_connected ys u) same.0) (rest x.b v ∙ ap (λ n. is_connected ys n v) same.1)
    (rest u x.b ∙ ap (is_connected ys u) same.1) (rest x.a v ∙ ap (λ n. is_connected ys n v) same.0)

closed_alike : (ds : List Device) (k : ℕ) (life : Life) (ps : List Pos) → SameEnds (closed_among (with_life_at ds k life) ps) (closed_among ds ps)
closed_alike [] k life ps = tt
closed_alike (x ∷ xs) zero life [] = tt
closed_alike (x ∷ xs) (suc k) life [] = tt
closed_alike (x ∷ xs) zero life (Opened ∷ ps) = ends_alike (closed_among xs ps)
closed_alike (x ∷ xs) zero life (Closed ∷ ps) = (refl, refl, ends_alike (closed_among xs ps))
closed_alike (x ∷ xs) (suc k) life (Opened ∷ ps) = closed_alike xs k life ps
closed_alike (x ∷ xs) (suc k) life (Closed ∷ ps) = (refl, refl, closed_alike xs k life ps)

-- which nodes are supplied doesn't depend on lives, where the positions are given
supplied_alike : (net : Network) (k : ℕ) (life : Life) (ps : List Pos) (v : ℕ) → is_supplied (with_life net k life) ps v ≡ is_supplied net ps v
unfolding is_supplied
supplied_alike net k life ps v =
    connected_alike (closed_among (with_life_at net.devices k life) ps) (closed_among net.devices ps) (closed_alike net.devices k life ps) v GRID

-- positions as of a second that both lives of a device hold, or neither
as_of_with : (ds : List Device) (k : ℕ) (old new : Life) (s : ℕ) (ps : List Pos) → slice_get (map (λ d. d.life) ds) k ≡ Some new → is_alive old s ≡ is_alive new s
    → as_of (with_life_at ds k old) s ps ≡ as_of ds s ps
as_of_with [] k old new s ps has same = refl
as_of_with (x ∷ xs) zero old new s [] has same = refl
as_of_with (x ∷ xs) (suc k) old new s [] has same = refl
as_of_with (x ∷ xs) zero old new s (p ∷ ps) has same =
    let here : new ≡ x.life = sym (ap (λ (o : Option Life). option_map_or (λ l. l) o new) has) in
    ap (λ b. cond b p Opened ∷ as_of xs s ps) (same ∙ ap (λ (l : Life). is_alive l s) here)
as_of_with (x ∷ xs) (suc k) old new s (p ∷ ps) has same =
    ap (λ (q : List Pos). cond (is_alive x.life s) p Opened ∷ q) (as_of_with xs k old new s ps has same)

entered_with : (set : List Entry) (n : ℕ) (ds : List Device) (k : ℕ) (life : Life)
    → map (λ d. position_of set d.0 d.1) (enumerate_from n (with_life_at ds k life)) ≡ map (λ d. position_of set d.0 d.1) (enumerate_from n ds)
entered_with set n [] k life = refl
entered_with set n (x ∷ xs) zero life = refl
entered_with set n (x ∷ xs) (suc k) life = ap (λ (q : List Pos). position_of set n x ∷ q) (entered_with set (n + 1) xs k life)

-- the supply at a second that both lives of a device hold, or neither
pub under_with : (net : Network) (k : ℕ) (old new : Life) (s v : ℕ) → slice_get (map (λ d. d.life) net.devices) k ≡ Some new → is_alive old s ≡ is_alive new s
    → (set : List Entry) → is_supplied_under (with_life net k old) set s v ≡ is_supplied_under net set s v
under_with net k old new s v has same set =
    supplied_alike net k old (as_of (with_life_at net.devices k old) s (entered (with_life net k old) set)) v
    ∙ ap (λ (ps : List Pos). is_supplied net (as_of (with_life_at net.devices k old) s ps) v) (entered_with set 0 net.devices k old)
    ∙ ap (λ (ps : List Pos). is_supplied net ps v) (as_of_with net.devices k old new s (entered net set) has same)

-- a last device that is never alive is as if it weren't there
never_alive : (s : ℕ) → is_alive never s ≡ false
never_alive s = and_right (nat_le 0 s) _ (le-ltb s 0 (omega arith))

closed_first : (x : Device) (xs : List Device) (p : Pos) (ps : List Pos) → closed_among (x ∷ xs) (p ∷ ps) ≡ cond (is_closed p) (x ∷ closed_among xs ps) (closed_among xs ps)
closed_first x xs Opened ps = refl
closed_first x xs Closed ps = refl

closed_never : (set : List Entry) (s n : ℕ) (ds : List Device) (k : ℕ) → length ds ≡ k + 1
    → closed_among (with_life_at ds k never) (as_of (with_life_at ds k never) s (map (λ d. position_of set d.0 d.1) (enumerate_from n (with_life_at ds k never))))
    ≡ closed_among (take k ds) (as_of (take k ds) s (map (λ d. position_of set d.0 d.1) (enumerate_from n (take k ds))))
closed_never set s n [] k long = absurd (omega (arith, long))
closed_never set s n (x ∷ y ∷ ys) zero long = absurd (omega (arith, long))
closed_never set s n (x ∷ []) zero long =
    closed_first (record x { life = never }) [] (cond (is_alive never s) (position_of set n (record x { life = never })) Opened) []
    ∙ ap (λ b. cond (is_closed (cond b (position_of set n (record x { life = never })) Opened)) (record x { life = never } ∷ []) []) (never_alive s)
closed_never set s n (x ∷ xs) (suc k) long =
    let p : Pos = cond (is_alive x.life s) (position_of set n x) Opened in
    let ds : List Device = with_life_at xs k never in
    let es : List Device = take k xs in
    let ps : List Pos = as_of ds s (map (λ d. position_of set d.0 d.1) (enumerate_from (n + 1) ds)) in
    let qs : List Pos = as_of es s (map (λ d. position_of set d.0 d.1) (enumerate_from (n + 1) es)) in
    closed_first x ds p ps
    ∙ ap (λ (q : List Device). cond (is_closed p) (x ∷ q) q) (closed_never set s (n + 1) xs k (omega (arith, long)))
    ∙ sym (closed_first x es p qs)

pub under_never : (net : Network) (k s v : ℕ) → length net.devices ≡ k + 1 → (set : List Entry)
    → is_supplied_under (with_life net k never) set s v ≡ is_supplied_under (without_last_device net) set s v
unfolding is_supplied
under_never net k s v long set =
    let last : k ≡ length net.devices - 1 = omega (arith, long) in
    ap (λ (ds : List Device). is_connected ds v GRID) (closed_never set s 0 net.devices k long)
    ∙ ap (λ n. is_supplied_under (record net { devices = take n net.devices }) set s v) last

-- where the supply is the same at a second under any entries, so are the histories
module _ (net more : Network) (entries : List Entry) (v s : ℕ) (same : (set : List Entry) → is_supplied_under more set s v ≡ is_supplied_under net set s v) where
  pub dead_same : (history more entries v).deenergized s ≡ (history net entries v).deenergized s
  dead_same = ap not (same (upto entries s))

  cuts_same : (e : Entry) → cuts_off more entries v s e ≡ cuts_off net entries v s e
  cuts_same e =
      ap (λ b. e.kept && e.second == s && b && not (is_supplied_under more (through entries e) s v)) (same (before entries e))
      ∙ ap (λ b. e.kept && e.second == s && is_supplied_under net (before entries e) s v && not b) (same (through entries e))

  pub cutter_same : (history more entries v).cutter s ≡ (history net entries v).cutter s
  cutter_same = ap (λ q. option_map (λ (e : Entry). e.no) (greatest q)) (filter_alike (cuts_off more entries v s) (cuts_off net entries v s) entries cuts_same)

-- runs over histories that are the same second by second
pub same_runs : (v : ℕ) (g h : History) (lo hi : ℕ) → lo ≤ hi → ((s : ℕ) → lo ≤ s → s < hi → h.deenergized s ≡ g.deenergized s)
    → ((s : ℕ) → lo ≤ s → s < hi → h.cutter s ≡ g.cutter s) → runs_between v h lo hi ≡ runs_between v g lo hi
same_runs v g h lo hi l dead cuts =
    tiles_are_runs v h lo hi (runs_between v g lo hi) l
    (transfer v g.deenergized h.deenergized (CutBy g) (CutBy h) lo hi (runs_between v g lo hi) dead (λ s c a b e. e ∙ sym (cuts s a b)) (runs_tile v g lo hi l))

-- lives that don't differ at a second
same_at : (x y : Bool) → cond x (not y) y ≡ false → x ≡ y
same_at true true e = refl
same_at true false e = absurd (false≢true (sym e))
same_at false y e = sym e

-- the seconds that pass a test have bounds, or there are none
some_bounds : (p : ℕ → Bool) (n a b : ℕ) → a + n ≡ b → ((s : ℕ) → a ≤ s → s < b → p s ≡ false) ⊎ ((c : ℕ) × (d : ℕ) × Bounds p a b c d)
some_bounds p zero a b e = inl (λ s l h. absurd (omega arith))
some_bounds p (suc n) a b e =
    let next : (a + 1) + n ≡ b = omega arith in
    elim (some_bounds p n (a + 1) b next) as (λ _. ((s : ℕ) → a ≤ s → s < b → p s ≡ false) ⊎ ((c : ℕ) × (d : ℕ) × Bounds p a b c d)) [
      | inl none ↦ elim (cases_Bool (p a)) as (λ _. ((s : ℕ) → a ≤ s → s < b → p s ≡ false) ⊎ ((c : ℕ) × (d : ℕ) × Bounds p a b c d)) [
        | inl t ↦
            let whole : a ≡ a + 1 - 1 = omega arith in
            inr (
              a,
              a + 1,
              record {
                from_a = omega arith;
                some = omega arith;
                to_b = omega arith;
                first = t;
                last = ap p (sym whole) ∙ t;
                before = λ s l h. absurd (omega arith);
                behind = λ s l h. none s l h;
              },
            )
        | inr f ↦ inl (λ s l h. elim (cases_lt a s) as (λ _. p s ≡ false) [ inl k ↦ none s (omega arith) h | inr k ↦ let here : s ≡ a = omega arith in ap p here ∙ f ])
      ]
      | inr found ↦
          let x = found.2 in
          let from_a : a + 1 ≤ found.0 = x.from_a in
          let some : found.0 < found.1 = x.some in
          elim (cases_Bool (p a)) as (λ _. ((s : ℕ) → a ≤ s → s < b → p s ≡ false) ⊎ ((c : ℕ) × (d : ℕ) × Bounds p a b c d)) [
            | inl t ↦ inr (
              a,
              found.1,
              record {
                from_a = omega arith;
                some = omega arith;
                to_b = x.to_b;
                first = t;
                last = x.last;
                before = λ s l h. absurd (omega arith);
                behind = x.behind;
              },
            )
            | inr f ↦ inr (
              found.0,
              found.1,
              record {
                from_a = omega arith;
                some = some;
                to_b = x.to_b;
                first = x.first;
                last = x.last;
                before = λ s l h. elim (cases_lt a s) as (λ _. p s ≡ false) [ inl k ↦ x.before s (omega arith) h | inr k ↦ let here : s ≡ a = omega arith in ap p here ∙ f ];
                behind = x.behind;
              },
            )
          ]
    ]

-- what the window of a life is: both lives hold the same seconds before it, and from its last second on where that isn't the last of all
pub record IsLifeWindow (old new : Life) (lo hi a z : ℕ) : Type 0 where
  pub from_lo : lo ≤ a
  pub some : a ≤ z
  pub within : z < hi
  pub before : (s : ℕ) → lo ≤ s → s < a → is_alive old s ≡ is_alive new s
  pub after : suc z < hi → (s : ℕ) → z ≤ s → s < hi → is_alive old s ≡ is_alive new s

module _ (old new : Life) (lo hi : ℕ) (ok : lo < hi) where
  abbrev Differ : Type 0
  Differ = (c : ℕ) × (d : ℕ) × Bounds (differ_at old new) lo hi c d

  differ_or_not : ((s : ℕ) → lo ≤ s → s < hi → differ_at old new s ≡ false) ⊎ Differ
  differ_or_not = let whole : lo + (hi - lo) ≡ hi = omega arith in some_bounds (differ_at old new) (hi - lo) lo hi whole

  pub window_is : (a : ℕ) → first_differing old new lo hi ≡ Some a → IsLifeWindow old new lo hi a (last_lived old new lo hi)
  window_is a first = elim differ_or_not as (λ _. IsLifeWindow old new lo hi a (last_lived old new lo hi)) [
    | inl none ↦ absurd (false≢true (ap (λ (o : Option ℕ). option_map_or (λ _. true) o false) (sym (none_differ old new lo hi ok none) ∙ first)))
    | inr found ↦
        let x = found.2 in
        let from_a : lo ≤ found.0 = x.from_a in
        let some : found.0 < found.1 = x.some in
        let to_b : found.1 ≤ hi = x.to_b in
        let here : found.0 ≡ a = ap (λ (o : Option ℕ). option_map_or (λ n. n) o a) (sym (first_is old new lo hi found.0 found.1 x) ∙ first) in
        let z : last_lived old new lo hi ≡ min found.1 (hi - 1) = lived_is old new lo hi found.0 found.1 x in
        record {
          from_lo = omega (arith, here, from_a);
          some = omega (arith, here, z, some, to_b);
          within = omega (arith, z, ok);
          before = λ s l h. same_at (is_alive old s) (is_alive new s) (x.before s l (omega (arith, here, h)));
          after = λ more s l h. same_at (is_alive old s) (is_alive new s) (x.behind s (omega (arith, z, more, l)) h);
        }
  ]

  pub none_is : first_differing old new lo hi ≡ None → (s : ℕ) → lo ≤ s → s < hi → is_alive old s ≡ is_alive new s
  none_is none s l h = elim differ_or_not as (λ _. is_alive old s ≡ is_alive new s) [
    | inl alike ↦ same_at (is_alive old s) (is_alive new s) (alike s l h)
    | inr found ↦ absurd (false≢true (ap (λ (o : Option ℕ). option_map_or (λ _. true) o false) (sym none ∙ first_is old new lo hi found.0 found.1 found.2)))
  ]

-- the law of a life's window: where a device has another life, the runs are the old ones with those of the window in their place
module _ (net : Network) (entries : List Entry) (k v : ℕ) (old new : Life) (has : slice_get (map (λ d. d.life) net.devices) k ≡ Some new) where
  abbrev was : History
  was = history (with_life net k old) entries v

  abbrev now : History
  now = history net entries v

  dead_at : (s : ℕ) → is_alive old s ≡ is_alive new s → now.deenergized s ≡ was.deenergized s
  dead_at s same = sym (dead_same net (with_life net k old) entries v s (under_with net k old new s v has same))

  cutter_at_it : (s : ℕ) → is_alive old s ≡ is_alive new s → now.cutter s ≡ was.cutter s
  cutter_at_it s same = sym (cutter_same net (with_life net k old) entries v s (under_with net k old new s v has same))

  pub life_runs : (lo hi a z : ℕ) → IsLifeWindow old new lo hi a z
      → runs_between v (history net entries v) lo hi
      ≡ splice a (suc z) (runs_between v (history (with_life net k old) entries v) lo hi) (runs_between v (history net entries v) a (suc z))
  life_runs lo hi a z w =
      let la : lo ≤ a = w.from_lo in
      let az : a ≤ z = w.some in
      let zh : z < hi = w.within in
      tiles_are_runs v now lo hi (splice a (suc z) (runs_between v was lo hi) (runs_between v now a (suc z))) (omega arith)
      (splice_tiles v lo hi a z was.deenergized now.deenergized (CutBy was) (CutBy now) (runs_between v was lo hi) (runs_between v now a (suc z)) la az zh
      (record {
        before = λ s l h. dead_at s (w.before s l h);
        cut_before = λ s c l h e. e ∙ sym (cutter_at_it s (w.before s l h));
        after = λ more s l h. dead_at s (w.after more s l h);
        cut_after = λ s c l h e. e ∙ sym (cutter_at_it s (w.after (omega arith) s (omega arith) h));
      })
      (runs_tile v was lo hi (omega arith)) (runs_tile v now a (suc z) (omega arith)))

  -- and where both lives hold the same seconds, they stay
  pub life_still : (lo hi : ℕ) → lo ≤ hi → ((s : ℕ) → lo ≤ s → s < hi → is_alive old s ≡ is_alive new s)
      → runs_between v (history net entries v) lo hi ≡ runs_between v (history (with_life net k old) entries v) lo hi
  life_still lo hi l same = same_runs v was now lo hi l (λ s a b. dead_at s (same s a b)) (λ s a b. cutter_at_it s (same s a b))
