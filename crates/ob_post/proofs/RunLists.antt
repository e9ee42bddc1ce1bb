-- Lists of runs in parts, and amounts that differ by one run.
use Rattle.std.proofs.Common.{◌≡◌, ◌∙◌, ap, subst, refl, ℕ, zero, suc, ◌+◌, ◌<◌, List, [], ◌∷◌, ◌++◌, length, get_or, sum_by, Some, None, length-append, arith}
use Rattle.std.specs.List.{All, AllPairs}
use Rattle.std.proofs.lemmas.List.{get_or_append_left, get_or-append-add}
use Rattle.std.proofs.lemmas.List.Sums.{sum_by-append, sum_by-cons}
use Rattle.ob_base.specs.declared.interval.Interval.{Interval}
use Rattle.ob_sheet.specs.declared.Entry.{Entry}
use Rattle.ob_cust.specs.declared.Customer.{Customer}
use Rattle.ob_sweep.specs.declared.Run.{Run}
use Rattle.ob_post.specs.RunAmounts.{customer_seconds_in}
use Rattle.ob_post.specs.SectionAmounts.{amount_of_runs, run_cause}
use Rattle.ob_post.specs.declared.Dim.{Dim}
use Rattle.ob_post.specs.declared.posting.Posting.{Posting}
use Rattle.ob_post.specs.Balances.{together, Balances}
use Rattle.ob_post.specs.Causes.{StayBut}
use Rattle.ob_post.proofs.Balancing.{same_change, same_more}

-- ---- what holds of a list holds of its parts
module _ (P : Run → Type 0) where
  pub all_left : (xs ys : List Run) → All P (xs ++ ys) → All P xs
  all_left xs ys h = λ k d l. subst P (get_or_append_left xs ys d k l) (h k d (omega (arith, l, length-append xs ys)))

  pub all_right : (xs ys : List Run) → All P (xs ++ ys) → All P ys
  all_right xs ys h = λ k d l. subst P (get_or-append-add xs ys k d) (h (length xs + k) d (omega (arith, l, length-append xs ys)))

module _ (R : Run → Run → Type 0) where
  pub pairs_left : (xs ys : List Run) → AllPairs R (xs ++ ys) → AllPairs R xs
  pairs_left xs ys h = λ i j d l m.
      let at = h i j d l (omega (arith, m, length-append xs ys)) in
      let first = subst (λ r. R r (get_or (xs ++ ys) j d)) (get_or_append_left xs ys d i (omega (arith, l, m))) at in
      subst (λ r. R (get_or xs i d) r) (get_or_append_left xs ys d j m) first

  pub pairs_right : (xs ys : List Run) → AllPairs R (xs ++ ys) → AllPairs R ys
  pairs_right xs ys h = λ i j d l m.
      let at = h (length xs + i) (length xs + j) d (omega (arith, l)) (omega (arith, m, length-append xs ys)) in
      let first = subst (λ r. R r (get_or (xs ++ ys) (length xs + j) d)) (get_or-append-add xs ys i d) at in
      subst (λ r. R (get_or ys i d) r) (get_or-append-add xs ys j d) first

-- ---- sums
same_sum : (f g : Run → ℕ) (xs : List Run) → ((k : ℕ) (d : Run) → k < length xs → g (get_or xs k d) ≡ f (get_or xs k d)) → sum_by g xs ≡ sum_by f xs
same_sum f g [] same = refl
same_sum f g (x ∷ xs) same =
    let here : g x ≡ f x = same 0 x (omega arith) in
    let rest = same_sum f g xs (λ k d l. same (suc k) d (omega (arith, l))) in
    omega (arith, here, rest, sum_by-cons f x xs, sum_by-cons g x xs)

-- two sums that differ at one place
one_differs : (f g : Run → ℕ) (xs : List Run) (p : ℕ) (d : Run) → p < length xs → ((k : ℕ) (e : Run) → k < length xs → (p ≡ k → ⊥) → g (get_or xs k e) ≡ f (get_or xs k e))
    → sum_by g xs + f (get_or xs p d) ≡ sum_by f xs + g (get_or xs p d)
one_differs f g [] p d l same = absurd (omega arith)
one_differs f g (x ∷ xs) zero d l same =
    let rest = same_sum f g xs (λ k e m. same (suc k) e (omega (arith, m)) (λ q. absurd (omega (arith, q)))) in
    omega (arith, rest, sum_by-cons f x xs, sum_by-cons g x xs)
one_differs f g (x ∷ xs) (suc p) d l same =
    let here : g x ≡ f x = same 0 x (omega arith) (λ q. absurd (omega (arith, q))) in
    let rest = one_differs f g xs p d (omega (arith, l)) (λ k e m ne. same (suc k) e (omega (arith, m)) (λ q. ne (omega (arith, q)))) in
    omega (arith, here, rest, sum_by-cons f x xs, sum_by-cons g x xs)

-- the amount of a list in three parts
pub amount_of_parts : (entries : List Entry) (roll : List Customer) (days : List Interval) (feeder : ℕ) (front mid back runs : List Run) (dim : Dim) (key : ℕ) → runs ≡ front ++ (mid ++ back)
    → amount_of_runs entries roll days feeder runs dim key
    ≡ amount_of_runs entries roll days feeder front dim key + (amount_of_runs entries roll days feeder mid dim key + amount_of_runs entries roll days feeder back dim key)
amount_of_parts entries roll days feeder front mid back runs dim key e =
    let f : Run → ℕ = λ r. customer_seconds_in roll r (run_cause entries r) feeder days dim key in
    ap (sum_by f) e ∙ sum_by-append f front (mid ++ back) ∙ ap (λ n. sum_by f front + n) (sum_by-append f mid back)

-- ---- runs of which one may have another cause
some_apart : (p k : ℕ) → (p ≡ k → ⊥) → Some p ≡ Some k → ⊥
some_apart p k ne e = ne cc

pub one_recaused : (days : ℕ) (p : Posting) (was now : List Entry) (roll : List Customer) (parts : List Interval) (feeder : ℕ) (runs : List Run) (place : ℕ) (d : Run) (before after : ℕ) (old new : Dim → ℕ → ℕ)
    → place < length runs → StayBut (Some place) was now runs → before ≡ run_cause was (get_or runs place d) → after ≡ run_cause now (get_or runs place d)
    → Balances days p (together old (customer_seconds_in roll (get_or runs place d) before feeder parts)) (together new (customer_seconds_in roll (get_or runs place d) after feeder parts))
    → Balances days p (together old (amount_of_runs was roll parts feeder runs)) (together new (amount_of_runs now roll parts feeder runs))
one_recaused days p was now roll parts feeder runs place d before after old new l stay eb ea h =
    let of : ℕ → Dim → ℕ → ℕ = λ cause. customer_seconds_in roll (get_or runs place d) cause feeder parts in
    same_change days p (together old (of before)) (together new (of after)) (together old (amount_of_runs was roll parts feeder runs)) (together new (amount_of_runs now roll parts feeder runs))
    (λ dim key.
    let f : Run → ℕ = λ r. customer_seconds_in roll r (run_cause was r) feeder parts dim key in
    let g : Run → ℕ = λ r. customer_seconds_in roll r (run_cause now r) feeder parts dim key in
    let differ = one_differs f g runs place d l (λ k e m ne. ap (λ cause. customer_seconds_in roll (get_or runs k e) cause feeder parts dim key) (stay k e m (some_apart place k ne))) in
    let b : of before dim key ≡ f (get_or runs place d) = ap (λ cause. of cause dim key) eb in
    let a : of after dim key ≡ g (get_or runs place d) = ap (λ cause. of cause dim key) ea in
    omega (arith, differ, b, a))
    h

pub none_recaused : (days : ℕ) (p : Posting) (was now : List Entry) (roll : List Customer) (parts : List Interval) (feeder : ℕ) (runs : List Run) (old new : Dim → ℕ → ℕ) → StayBut None was now runs
    → Balances days p old new → Balances days p (together old (amount_of_runs was roll parts feeder runs)) (together new (amount_of_runs now roll parts feeder runs))
none_recaused days p was now roll parts feeder runs old new stay h =
    same_more days p old new (amount_of_runs was roll parts feeder runs) (amount_of_runs now roll parts feeder runs)
    (λ dim key. same_sum (λ r. customer_seconds_in roll r (run_cause was r) feeder parts dim key) (λ r. customer_seconds_in roll r (run_cause now r) feeder parts dim key) runs
    (λ k e m. ap (λ cause. customer_seconds_in roll (get_or runs k e) cause feeder parts dim key) (stay k e m (λ q. cc))))
    h
