use Rattle.std.proofs.Common.{◌≡◌, ◌∙◌, sym, ap, ap₂, ℕ, ◌-◌, List, ◌++◌, length, take, drop}
use Rattle.std.proofs.lemmas.List.{take-append-drop, take_rest}
use Rattle.ob_sweep.specs.declared.Run.{Run}
use Rattle.ob_post.proofs.differing.compare.Goals as goal

-- a list by its front, by what is between, and by its back
parts : (xs front rest back : List Run) (m k : ℕ) → front ≡ take m xs → rest ≡ drop m xs → back ≡ drop k rest → xs ≡ front ++ (take k rest ++ back)
parts xs front rest back m k f r b =
    sym (take-append-drop m xs) ∙ ap₂ (λ (ys zs : List Run). ys ++ zs) (sym f) (sym r ∙ sym (take-append-drop k rest) ∙ ap (λ zs. take k rest ++ zs) (sym b))

pub returns-clause-new : goal.returns-clause-new
returns-clause-new c =
    let new = c.args.new.now in
    let front = c.split_at.result.0.now in
    let rest = take (length new - length front) (drop (length front) new) in
    parts new front rest c.split_at-2.result.1.now (length front) (length rest - c.common_back-count.result)
    (c.split_at.ensures.front ∙ c.common_front.ensures.common ∙ ap (λ m. take m new) (sym c.split_at.ensures.front_len))
    (take_rest new (length front)) (c.split_at-2.ensures.back ∙ c.common_back-count.ensures.common)
