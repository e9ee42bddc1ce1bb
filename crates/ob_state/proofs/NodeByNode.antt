-- What the rows of a posting come to as node after node is posted.
use Rattle.std.proofs.Common.{◌≡◌, ◌∙◌, ap, refl, ℕ, zero, suc, ◌+◌, List, sum_by, None, Some, arith}
use Rattle.std.specs.List.{range_with_len}
use Rattle.std.proofs.lemmas.List.Sums.{sum_by-cons}
use Rattle.ob_net.specs.Network.{home_feeder}
use Rattle.ob_sweep.specs.declared.Run.{Run}
use Rattle.ob_time.specs.Calendar.{days_of}
use Rattle.ob_post.specs.SectionAmounts.{amount_of_runs}
use Rattle.ob_post.specs.declared.Dim.{Dim}
use Rattle.ob_post.specs.declared.posting.Posting.{Posting}
use Rattle.ob_state.specs.State.{BookState}
use Rattle.ob_state.specs.Retimings.{runs_in}
use Rattle.ob_post.specs.Balances.{together, Balances}
use Rattle.ob_state.specs.Effects.{amount_of_node, amount_of_first}
use Rattle.ob_post.proofs.Balancing.{balances_as, same_more}

sum_suc : (f : ℕ → ℕ) (a n : ℕ) → sum_by f (range_with_len a (suc n)) ≡ sum_by f (range_with_len a n) + f (a + n)
sum_suc f a zero = let e : a ≡ a + 0 = omega arith in let at = ap f e in omega (arith, at)
sum_suc f a (suc n) =
    let next : a + 1 + n ≡ a + suc n = omega arith in
    let tail = sum_suc f (a + 1) n in
    let at = ap f next in
    omega (arith, tail, at, sum_by-cons f a (range_with_len (a + 1) (suc n)), sum_by-cons f a (range_with_len (a + 1) n))

pub sum_more : (f : ℕ → ℕ) (a n : ℕ) → sum_by f (range_with_len a (n + 1)) ≡ sum_by f (range_with_len a n) + f (a + n)
sum_more f a n = let e : n + 1 ≡ suc n = omega arith in ap (λ m. sum_by f (range_with_len a m)) e ∙ sum_suc f a n

pub first_more : (b : BookState) (v : ℕ) (dim : Dim) (key : ℕ) → amount_of_first b (v + 1) dim key ≡ amount_of_first b v dim key + amount_of_node b v dim key
first_more b v dim key =
    let e : 0 + v ≡ v = omega arith in
    sum_more (λ w. amount_of_node b w dim key) 0 v ∙ ap (λ w. amount_of_first b v dim key + amount_of_node b w dim key) e

-- one node more
pub node_more : (days : ℕ) (p : Posting) (b c : BookState) (v : ℕ)
    → Balances days p (together (amount_of_first b v) (amount_of_node b v)) (together (amount_of_first c v) (amount_of_node c v))
    → Balances days p (amount_of_first b (v + 1)) (amount_of_first c (v + 1))
node_more days p b c v h =
    balances_as days p (together (amount_of_first b v) (amount_of_node b v)) (together (amount_of_first c v) (amount_of_node c v)) (amount_of_first b (v + 1)) (amount_of_first c (v + 1))
    (first_more b v) (first_more c v) h

-- a node that is no section has no amounts
pub no_amounts : (days : ℕ) (p : Posting) (b c : BookState) (v : ℕ) → home_feeder b.network v ≡ None → home_feeder c.network v ≡ None → (old new : Dim → ℕ → ℕ)
    → Balances days p old new → Balances days p (together old (amount_of_node b v)) (together new (amount_of_node c v))
no_amounts days p b c v hb hc old new h = same_more days p old new (amount_of_node b v) (amount_of_node c v) (λ dim key. rw (hb, hc) refl) h

-- one node more, which is no section
pub no_section : (days : ℕ) (p : Posting) (b c : BookState) (v : ℕ) → home_feeder b.network v ≡ None → home_feeder c.network v ≡ None
    → Balances days p (amount_of_first b v) (amount_of_first c v) → Balances days p (amount_of_first b (v + 1)) (amount_of_first c (v + 1))
no_section days p b c v hb hc h = node_more days p b c v (no_amounts days p b c v hb hc (amount_of_first b v) (amount_of_first c v) h)

pub section_amount : (b : BookState) (v f : ℕ) (runs : List Run) → home_feeder b.network v ≡ Some f → runs ≡ runs_in b v
    → (dim : Dim) (key : ℕ) → amount_of_node b v dim key ≡ amount_of_runs b.entries b.customers (days_of b.period) f runs dim key
section_amount b v f runs h e dim key = rw (h, e) refl

-- a section with these runs before and after
pub one_section : (days : ℕ) (p : Posting) (b c : BookState) (v f : ℕ) (old new : List Run) → home_feeder b.network v ≡ Some f → home_feeder c.network v ≡ Some f
    → old ≡ runs_in b v → new ≡ runs_in c v
    → Balances days p (together (amount_of_first b v) (amount_of_runs b.entries b.customers (days_of b.period) f old)) (together (amount_of_first c v) (amount_of_runs c.entries c.customers (days_of c.period) f new))
    → Balances days p (amount_of_first b (v + 1)) (amount_of_first c (v + 1))
one_section days p b c v f old new hb hc eo en h =
    node_more days p b c v
    (balances_as days p (together (amount_of_first b v) (amount_of_runs b.entries b.customers (days_of b.period) f old)) (together (amount_of_first c v) (amount_of_runs c.entries c.customers (days_of c.period) f new))
    (together (amount_of_first b v) (amount_of_node b v)) (together (amount_of_first c v) (amount_of_node c v))
    (λ dim key. ap (λ n. amount_of_first b v dim key + n) (section_amount b v f old hb eo dim key))
    (λ dim key. ap (λ n. amount_of_first c v dim key + n) (section_amount c v f new hc en dim key))
    h)
