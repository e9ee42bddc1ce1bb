-- A customer more leaves the others' sections.
use Rattle.std.proofs.Common.{ℕ, ◌<◌, List, [], ◌∷◌, Bool, true, false, if◌then◌else◌, nat_lt}
use Rattle.std.specs.List.{All, AllByRecursion}
use Rattle.std.proofs.lemmas.List.Elements.{All-from_recursion, recursion_from_All}
use Rattle.ob_cust.specs.Roll.{with_customer}
use Rattle.ob_cust.specs.declared.Customer.{Customer}

abbrev IsBelow : ℕ → Customer → Type 0
IsBelow n c = c.section < n

put_or_pass : (n : ℕ) (b : Bool) (xs ys : List Customer) → AllByRecursion (IsBelow n) xs → AllByRecursion (IsBelow n) ys → AllByRecursion (IsBelow n) (if b then xs else ys)
put_or_pass n true xs ys p q = p
put_or_pass n false xs ys p q = q

put : (n : ℕ) (c : Customer) (xs : List Customer) → c.section < n → AllByRecursion (IsBelow n) xs → AllByRecursion (IsBelow n) (with_customer c xs)
put n c [] here others = (here, tt)
put n c (x ∷ xs) here others = put_or_pass n (nat_lt c.«no» x.«no») (c ∷ x ∷ xs) (x ∷ with_customer c xs) (here, others) (others.0, put n c xs here others.1)

-- customers of nodes stay so, where one of a node is put in
pub sections_with : (n : ℕ) (c : Customer) (xs : List Customer) → c.section < n → All (λ d. d.section < n) xs → All (λ d. d.section < n) (with_customer c xs)
sections_with n c xs here others = All-from_recursion (IsBelow n) (with_customer c xs) (put n c xs here (recursion_from_All (IsBelow n) xs others))
