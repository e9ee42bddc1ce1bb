-- The runs of a stretch of seconds out of pieces: of its parts, of a longer stretch, of a stretch without supply, and of another section.
use Rattle.std.proofs.Common.{◌≡◌, ℕ, suc, ◌<◌, ◌≤◌, inl, inr, Bool, true, false, List, [], ◌∷◌, Option, refl, sym, ◌∙◌, arith, map}
use Rattle.std.proofs.lemmas.Bool.{cases_lt}
use Rattle.std.proofs.lemmas.Simd.{map-map}
use Rattle.ob_base.specs.Seconds.{intervals}
use Rattle.ob_sweep.specs.declared.Run.{Run}
use Rattle.ob_sweep.specs.Runs.{History, as_run, runs_between}
use Rattle.ob_sweep.specs.Splice.{front, back, join}
use Rattle.ob_sweep.proofs.Law.{Alike}
use Rattle.ob_sweep.proofs.Seams.{back_tiles}
use Rattle.ob_sweep.proofs.Tiles.{Loose, Tiles, front_tiles, join_tiles, looser, transfer}
use Rattle.ob_sweep.proofs.Unique.{CutBy, runs_tile, tiles_are_runs}

module _ (v : ℕ) (h : History) where
  -- a stretch in two parts
  pub runs_parted : (a b c : ℕ) → a ≤ b → b ≤ c → runs_between v h a c ≡ join b (runs_between v h a b) (runs_between v h b c)
  runs_parted a b c l m =
      tiles_are_runs v h a c (join b (runs_between v h a b) (runs_between v h b c)) (omega arith)
      (join_tiles v h.deenergized (CutBy h) a b c (runs_between v h a b) (runs_between v h b c) m l (runs_tile v h a b l)
      (looser v h.deenergized (CutBy h) a b b c (runs_between v h b c) (runs_tile v h b c m)))

  -- supplied at each second
  pub runs_lit : (a b : ℕ) → a ≤ b → ((s : ℕ) → a ≤ s → s < b → h.deenergized s ≡ false) → runs_between v h a b ≡ []
  runs_lit a b l lit = tiles_are_runs v h a b [] l lit

  -- without supply at each second
  pub runs_dark : (a b : ℕ) → a < b → ((s : ℕ) → a ≤ s → s < b → h.deenergized s ≡ true)
      → runs_between v h a b ≡ record { section = v; since = a; until = b; cutter = h.cutter a } ∷ []
  runs_dark a b l dark =
      tiles_are_runs v h a b (record { section = v; since = a; until = b; cutter = h.cutter a } ∷ []) (omega arith) (
        record {
          section = refl;
          starts = omega arith;
          some = l;
          ends = omega arith;
          lit = λ s p q. absurd (omega arith);
          inside = dark;
          stops = λ q. absurd (omega arith);
          cut = refl;
        },
        λ s p q. absurd (omega arith),
      )

-- the runs depend on the history at the stretch's own seconds alone
pub runs_alike : (v : ℕ) (g h : History) (a b : ℕ) → a ≤ b → ((s : ℕ) → a ≤ s → s < b → Alike g h s) → runs_between v g a b ≡ runs_between v h a b
runs_alike v g h a b l same =
    tiles_are_runs v g a b (runs_between v h a b) l
    (transfer v h.deenergized g.deenergized (CutBy h) (CutBy g) a b (runs_between v h a b)
    (λ s m k. (same s m k).dead) (λ s c m k e. e ∙ sym (same s m k).cutter) (runs_tile v h a b l))

-- a run with the number of another section
abbrev pub of_section : ℕ → Run → Run
of_section v r = record r { section = v }

-- the runs of one section with the number of another
pub runs_of_other : (v w : ℕ) (h : History) (a b : ℕ) → map (of_section v) (runs_between w h a b) ≡ runs_between v h a b
runs_of_other v w h a b = map-map (of_section v) (as_run w h) (intervals h.deenergized a b)

-- tiles keep to what they are where each of their runs gets the number of another section
renumbered_tiles : (v w : ℕ) (dead : ℕ → Bool) (C : ℕ → Option ℕ → Type 0) (lo hi : ℕ) (rs : List Run) → Tiles w dead C lo hi rs → Tiles v dead C lo hi (map (of_section v) rs)
renumbered_tiles v w dead C lo hi [] t = t
renumbered_tiles v w dead C lo hi (r ∷ rs) t =
    let x = t.0 in (
      record {
        section = refl;
        starts = x.starts;
        some = x.some;
        ends = x.ends;
        lit = x.lit;
        inside = x.inside;
        stops = x.stops;
        cut = x.cut;
      },
      renumbered_tiles v w dead C r.until hi rs t.1,
    )

-- runs of the seconds from a up to b, where those before a begin at lo: a run that begins at a has the cutter that is due there, unless the
-- section is without supply just before a; then it goes on from there, and its own cutter doesn't matter
abbrev pub ArePart : ℕ → History → ℕ → ℕ → ℕ → List Run → Type 0
ArePart v h lo a b rs = Tiles v h.deenergized (Loose h.deenergized (CutBy h) lo a) a b rs

-- the runs of the stretch itself are
pub own_part : (v : ℕ) (h : History) (lo a b : ℕ) → a ≤ b → ArePart v h lo a b (runs_between v h a b)
own_part v h lo a b l = looser v h.deenergized (CutBy h) lo a a b (runs_between v h a b) (runs_tile v h a b l)

-- joined to the runs before a they are the runs up to b
pub part_joined : (v : ℕ) (h : History) (lo a b : ℕ) (rs : List Run) → lo ≤ a → a ≤ b → ArePart v h lo a b rs → join a (runs_between v h lo a) rs ≡ runs_between v h lo b
part_joined v h lo a b rs l m t =
    sym (tiles_are_runs v h lo b (join a (runs_between v h lo a) rs) (omega arith)
    (join_tiles v h.deenergized (CutBy h) lo a b (runs_between v h lo a) rs m l (runs_tile v h lo a l) t))

-- where nothing stands before a they are the runs
pub part_first : (v : ℕ) (h : History) (a b : ℕ) (rs : List Run) → a ≤ b → ArePart v h a a b rs → rs ≡ runs_between v h a b
part_first v h a b rs m t =
    sym (tiles_are_runs v h a b rs m
    (transfer v h.deenergized h.deenergized (Loose h.deenergized (CutBy h) a a) (CutBy h) a b rs (λ s p q. refl) (λ s c p q k. k (λ e n f g. absurd (omega arith))) t))

-- and joined to another part, which ends where they begin, they are a longer part
pub parts_joined : (v : ℕ) (h : History) (lo a b c : ℕ) (rs ss : List Run) → a ≤ b → b ≤ c → ArePart v h lo a b rs → ArePart v h lo b c ss → ArePart v h lo a c (join b rs ss)
parts_joined v h lo a b c rs ss l m t u =
    let dead : ℕ → Bool = h.deenergized in
    let C : ℕ → Option ℕ → Type 0 = CutBy h in
    join_tiles v dead (Loose dead C lo a) a b c rs ss m l t
    (transfer v dead dead (Loose dead C lo b) (Loose (dead) (Loose dead C lo a) a b) b c ss (λ s p q. refl)
    (λ s x p q k none first. k (λ e n f g. elim (cases_lt n a) as (λ _. dead n ≡ false) [ inl y ↦ first (omega arith) n (omega arith) g | inr y ↦ none e n f y ]))
    u)

-- the part from a up to b of the runs of a longer stretch, perhaps of another section with another history: where that one says the same of
-- these seconds, and of whether there is supply just before a, it is a part of this one's runs
pub part_of_longer : (v w : ℕ) (g h : History) (lo hi a b : ℕ) → lo ≤ a → a ≤ b → b ≤ hi → ((s : ℕ) → a ≤ s → s < b → Alike h g s)
    → ((s : ℕ) → lo ≤ s → suc s ≡ a → h.deenergized s ≡ g.deenergized s) → ArePart v h lo a b (map (of_section v) (back a (front b (runs_between w g lo hi))))
part_of_longer v w g h lo hi a b l m n same before =
    let dead : ℕ → Bool = g.deenergized in
    let C : ℕ → Option ℕ → Type 0 = CutBy g in
    renumbered_tiles v w h.deenergized (Loose h.deenergized (CutBy h) lo a) a b (back a (front b (runs_between w g lo hi)))
    (transfer w dead h.deenergized (Loose dead C lo a) (Loose h.deenergized (CutBy h) lo a) a b (back a (front b (runs_between w g lo hi)))
    (λ s p q. (same s p q).dead)
    (λ s c p q k none. k (λ e t f u. sym (before t u f) ∙ none e t f u) ∙ sym (same s p q).cutter)
    (back_tiles w dead C lo lo b a (front b (runs_between w g lo hi)) (omega arith) l m
    (front_tiles w dead C lo hi b (runs_between w g lo hi) n (runs_tile w g lo hi (omega arith)))))

-- an interval without supply that the cutter due at its first second begins
pub dark_part : (v : ℕ) (h : History) (lo a b : ℕ) (c : Option ℕ) → a < b → ((s : ℕ) → a ≤ s → s < b → h.deenergized s ≡ true) → c ≡ h.cutter a
    → ArePart v h lo a b (record { section = v; since = a; until = b; cutter = c } ∷ [])
dark_part v h lo a b c l dark is = (
  record {
    section = refl;
    starts = omega arith;
    some = l;
    ends = omega arith;
    lit = λ s p q. absurd (omega arith);
    inside = dark;
    stops = λ q. absurd (omega arith);
    cut = λ none. is;
  },
  λ s p q. absurd (omega arith),
)

-- no run where there is supply at each second
pub lit_part : (v : ℕ) (h : History) (lo a b : ℕ) → ((s : ℕ) → a ≤ s → s < b → h.deenergized s ≡ false) → ArePart v h lo a b []
lit_part v h lo a b lit = lit
