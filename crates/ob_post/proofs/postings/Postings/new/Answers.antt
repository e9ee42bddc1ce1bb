use Rattle.std.proofs.Common.{◌≡◌, ◌∙◌, ap, ℕ, ◌+◌, List, replicate, arith, rules}
use Rattle.std.proofs.lemmas.List.{length-replicate}
use Rattle.ob_post.specs.Places.{amounts_in}
use Rattle.ob_post.specs.Postings.{amount_of, day_count}
use Rattle.ob_post.proofs.Placed.{zeros_are_places, zeros_amount, days_in}
use Rattle.ob_post.proofs.postings.Postings.new.Goals as goal

-- every place holds 0
zeros : (c : goal.In_ok-vec) → c.in_ok-vec.field-0.items ≡ replicate (319 + c.from.result) 0
zeros c = search rules

pub invariant_of-result : goal.invariant_of-result
invariant_of-result c =
    rw (zeros c) (zeros_are_places (319 + c.from.result) (omega arith) (omega (arith, c.from.ensures, c.requires)))

pub returns-clause-zero : goal.returns-clause-zero
returns-clause-zero c = λ dim key.
    ap (λ (xs : List ℕ). amount_of (amounts_in xs) dim key) (zeros c) ∙ zeros_amount (319 + c.from.result) dim key (omega arith)

pub returns-clause-days : goal.returns-clause-days
returns-clause-days c =
    let places = zeros_are_places (319 + c.from.result) (omega arith) (omega (arith, c.from.ensures, c.requires)) in
    ap (λ (xs : List ℕ). day_count (amounts_in xs)) (zeros c)
    ∙ omega (arith, days_in (replicate (319 + c.from.result) 0) places, length-replicate {A = ℕ} (319 + c.from.result) 0, c.from.ensures)
