-- Runs within a window, where they are what stands there.
use Rattle.std.proofs.Common.{◌≡◌, ◌≤◌, ℕ, cond, List, [], ◌∷◌, nat_lt, refl, sym, ap, ◌∙◌}
use Rattle.std.specs.List.{All, AllByRecursion}
use Rattle.std.proofs.lemmas.Bool.{cond-false, le-ltb}
use Rattle.std.proofs.lemmas.List.Elements.{recursion_from_All}
use Rattle.ob_sweep.specs.Splice.{front, back, join, splice}
use Rattle.ob_sweep.specs.declared.Run.{Run}
use Rattle.ob_sweep.proofs.Push.{join-nil}

abbrev Within : ℕ → ℕ → Run → Type 0
Within a w = λ r. (a ≤ r.since) × (r.until ≤ w)

front-within : (a w : ℕ) (rs : List Run) → AllByRecursion (Within a w) rs → front a rs ≡ []
front-within a w [] h = refl
front-within a w (r ∷ rs) h =
    cond-false (nat_lt r.since a) (cond (nat_lt r.until a) (r ∷ front a rs) (record r { until = a } ∷ [])) [] (le-ltb r.since a h.0.0)

back-within : (a w : ℕ) (rs : List Run) → AllByRecursion (Within a w) rs → back w rs ≡ []
back-within a w [] h = refl
back-within a w (r ∷ rs) h =
    cond-false (nat_lt w r.until) (cond (nat_lt r.since w) (record r { since = w }) r ∷ rs) (back w rs) (le-ltb w r.until h.0.1)
    ∙ back-within a w rs h.1

-- the window's runs in the place of the same ones
pub within_same : (a w : ℕ) (xs ys : List Run) → xs ≡ ys → All (λ r. (a ≤ r.since) × (r.until ≤ w)) ys → splice a w xs ys ≡ xs
within_same a w xs ys is h =
    let all : AllByRecursion (Within a w) ys = recursion_from_All (λ r. (a ≤ r.since) × (r.until ≤ w)) ys h in
    ap (λ q. splice a w q ys) is
    ∙ ap (λ q. join w (join a q ys) (back w ys)) (front-within a w ys all)
    ∙ ap (λ q. join w ys q) (back-within a w ys all)
    ∙ join-nil w ys
    ∙ sym is
