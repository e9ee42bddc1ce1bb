-- A sweep up to a second: the positions and the runs then, of any entries that gave the positions before it.
use Rattle.std.proofs.Common.{◌≡◌, ◌+◌, ◌<◌, ◌++◌, ℕ, suc, Bool, List, [], ◌∷◌, length, get_or, refl, sym, ap, subst, ◌∙◌, arith, IsTrue}
use Rattle.std.specs.List.{AllPairs}
use Rattle.std.proofs.lemmas.List.{append-nil, get_or-append-add, length-append}
use Rattle.ob_base.specs.declared.Pos.{Pos}
use Rattle.ob_net.specs.Network.{Network, as_of}
use Rattle.ob_sheet.specs.declared.Entry.{Entry}
use Rattle.ob_sheet.specs.Order.{is_before}
use Rattle.ob_sheet.specs.Positions.{entered}
use Rattle.ob_sweep.specs.Steps.{AreKeptUntil, ArePositionsBefore, all_runs_until, still_runs, supplied_nodes}
use Rattle.ob_sweep.specs.declared.Run.{Run}
use Rattle.ob_sweep.proofs.Passing.{until_earlier}
use Rattle.ob_sweep.proofs.Sweeps.{all_earlier, all_runs_still}

pub length-still_runs : (v : ℕ) (nodes : List Bool) (first end : ℕ) → length (still_runs v nodes first end) ≡ length nodes
length-still_runs v [] first end = refl
length-still_runs v (supplied ∷ nodes) first end = ap suc (length-still_runs (v + 1) nodes first end)

-- what is so at each second of it
pub record Swept (net : Network) (done : List Entry) (at first end : ℕ) (now : List Pos) (lists : List (List Run)) : Type 0 where
  pub until : AreKeptUntil at done
  pub given : now ≡ entered net done
  pub kept : lists ≡ all_runs_until net done at first end

-- before the first step
pub swept_first : (net : Network) (base steps : List Entry) (first end : ℕ) (now : List Pos) (lists : List (List Run)) → first < end
    → ArePositionsBefore net base first steps now → lists ≡ still_runs 0 (supplied_nodes net (as_of net.devices first now)) first end
    → Swept net (base ++ []) first first end now lists
swept_first net base steps first end now lists some before is =
    let none : base ++ [] ≡ base = append-nil base in
    let early = all_earlier first base steps before.kept before.earlier in
    record {
      until = subst (AreKeptUntil first) (sym none) (until_earlier first base early);
      given = before.given ∙ ap (entered net) (sym none);
      kept =
          is
          ∙ ap (λ (ps : List Pos). still_runs 0 (supplied_nodes net (as_of net.devices first ps)) first end) before.given
          ∙ all_runs_still first net base end some early
          ∙ ap (λ (es : List Entry). all_runs_until net es first first end) (sym none);
    }

-- the steps by themselves are in order
pub ordered_steps : (base steps : List Entry) → AllPairs (λ a b. IsTrue (is_before a b)) (base ++ steps) → AllPairs (λ a b. IsTrue (is_before a b)) steps
ordered_steps base steps ordered k j d m n =
    let here : get_or (base ++ steps) (length base + k) d ≡ get_or steps k d = get_or-append-add base steps k d in
    let there : get_or (base ++ steps) (length base + j) d ≡ get_or steps j d = get_or-append-add base steps j d in
    let comes = ordered (length base + k) (length base + j) d (omega (arith, m)) (omega (arith, n, length-append base steps)) in
    subst (λ b. IsTrue (is_before (get_or steps k d) b)) there (subst (λ a. IsTrue (is_before a (get_or (base ++ steps) (length base + j) d))) here comes)
