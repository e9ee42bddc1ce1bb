-- Customers without supply, counted at one second and over seconds.
use Rattle.std.proofs.Common.{◌≡◌, ℕ, ◌+◌, ◌-◌, ◌*◌, ◌^◌, ◌<◌, ◌≤◌, ◌&&◌, Bool, false, not, cond, List, [], ◌∷◌, map, length, get_or, refl, sym, ap, ◌∙◌, arith}
use Rattle.std.specs.List.{All, AllByRecursion, count_by, sum_by, range_with_len, enumerate_from}
use Rattle.std.proofs.lemmas.List.{length-map}
use Rattle.std.proofs.lemmas.List.Elements.{recursion_from_All}
use Rattle.std.proofs.lemmas.List.FromFn.{get_or-map-range_with_len, length-range_with_len, length-enumerate_from, sum_by-map-range_with_len_more}
use Rattle.std.proofs.lemmas.List.Sums.{sum_by-cons}
use Rattle.ob_net.specs.Network.{Network, as_of}
use Rattle.ob_base.specs.Seconds.{seconds}
use Rattle.ob_net.specs.Walk.{is_supplied}
use Rattle.ob_base.specs.declared.Pos.{Pos}
use Rattle.ob_sheet.specs.Order.{upto}
use Rattle.ob_sheet.specs.Positions.{position_of, entered as entered_under}
use Rattle.ob_sheet.specs.Supply.{is_deenergized}
use Rattle.ob_sheet.specs.declared.Entry.{Entry}
use Rattle.ob_cust.specs.Service.{in_service}
use Rattle.ob_cust.specs.WithoutSupply.{is_without_supply, seconds_without_supply}
use Rattle.ob_cust.specs.declared.Customer.{Customer}
use Rattle.ob_cust.specs.declared.TheConstants.{MOST_CUSTOMERS}

same_by : (p q : Customer → Bool) (xs : List Customer) → AllByRecursion (λ c. p c ≡ q c) xs → count_by p xs ≡ count_by q xs
same_by p q [] h = refl
same_by p q (x ∷ xs) h =
    sum_by-cons (λ c. cond (p c) 1 0) x xs ∙ ap (λ (n : ℕ). cond (p x) 1 0 + n) (same_by p q xs h.1)
    ∙ ap (λ (b : Bool). cond b 1 0 + count_by q xs) h.0 ∙ sym (sum_by-cons (λ c. cond (q c) 1 0) x xs)

-- tests that say the same of each customer count the same
pub counted_alike : (p q : Customer → Bool) (xs : List Customer) → All (λ c. p c ≡ q c) xs → count_by p xs ≡ count_by q xs
counted_alike p q xs h = same_by p q xs (recursion_from_All (λ c. p c ≡ q c) xs h)

-- an answer for each node, as long as the nodes
pub answers_long : (f : ℕ → Bool) (n : ℕ) (answer : List Bool) → answer ≡ map f (range_with_len 0 n) → length answer ≡ n
answers_long f n answer is = ap length is ∙ length-map (range_with_len 0 n) f ∙ length-range_with_len 0 n

-- the count by an answer is the count by the test that it answers
pub counted_by_answer : (net : Network) (positions : List Pos) (second : ℕ) (customers : List Customer) (answer : List Bool)
    → answer ≡ map (is_supplied net positions) (range_with_len 0 (length net.nodes)) → All (λ c. c.section < length net.nodes) customers
    → count_by (λ c. is_without_supply (λ v s. not (get_or answer v false)) c second) customers ≡ count_by (λ c. is_without_supply (λ v s. not (is_supplied net positions v)) c second) customers
counted_by_answer net positions second customers answer is within =
    counted_alike (λ c. is_without_supply (λ v s. not (get_or answer v false)) c second) (λ c. is_without_supply (λ v s. not (is_supplied net positions v)) c second) customers
    (λ k d l.
    let c : Customer = get_or customers k d in
    let here : get_or answer c.section false ≡ is_supplied net positions c.section =
    ap (λ (xs : List Bool). get_or xs c.section false) is ∙ get_or-map-range_with_len (is_supplied net positions) 0 (length net.nodes) c.section c.section false (within k d l) (omega arith) in
    ap (λ (b : Bool). in_service c second && not b) here)

same_list : (xs : List ℕ) → map (λ (s : ℕ). s) xs ≡ xs
same_list [] = refl
same_list (x ∷ xs) = ap (λ (ys : List ℕ). x ∷ ys) (same_list xs)

-- the sum over one second more
sum_more : (g : ℕ → ℕ) (a s : ℕ) → a ≤ s → sum_by g (seconds a (s + 1)) ≡ sum_by g (seconds a s) + g s
sum_more g a s within =
    let long : s + 1 - a ≡ s - a + 1 = omega arith in
    ap (λ (n : ℕ). sum_by g (range_with_len a n)) long
    ∙ ap (sum_by g) (sym (same_list (range_with_len a (s - a + 1))))
    ∙ sum_by-map-range_with_len_more g (λ (x : ℕ). x) a (s - a) s (omega arith)
    ∙ ap (λ (xs : List ℕ). sum_by g xs + g s) (same_list (range_with_len a (s - a)))

-- no second, no customer-second
pub none_yet : (D : ℕ → ℕ → Bool) (a : ℕ) (customers : List Customer) → 0 ≡ seconds_without_supply D (seconds a a) customers
none_yet D a customers = let e : a - a ≡ 0 = omega arith in rw e refl

-- the total over one second more, where the devices that aren't alive at it are open
pub second_more : (net : Network) (entries : List Entry) (entered : List Pos) (a s total n : ℕ) (customers : List Customer) → a ≤ s
    → entered ≡ entered_under net (upto entries s)
    → n ≡ count_by (λ c. is_without_supply (λ v t. not (is_supplied net (as_of net.devices s entered) v)) c s) customers
    → total ≡ seconds_without_supply (is_deenergized net entries) (seconds a s) customers
    → total + n ≡ seconds_without_supply (is_deenergized net entries) (seconds a (s + 1)) customers
second_more net entries entered a s total n customers within at count so_far =
    let here : n ≡ count_by (λ c. is_without_supply (is_deenergized net entries) c s) customers =
    count ∙ ap (λ (p : List Pos). count_by (λ c. is_without_supply (λ v t. not (is_supplied net (as_of net.devices s p) v)) c s) customers) at in
    ap (λ (k : ℕ). k + n) so_far
    ∙ ap (λ (k : ℕ). seconds_without_supply (is_deenergized net entries) (seconds a s) customers + k) here
    ∙ sym (sum_more (λ t. count_by (λ c. is_without_supply (is_deenergized net entries) c t) customers) a s within)

-- a position for each device
pub entered_long : (net : Network) (set : List Entry) → length (entered_under net set) ≡ length net.devices
entered_long net set = length-map (enumerate_from 0 net.devices) (λ d. position_of set d.0 d.1) ∙ length-enumerate_from 0 net.devices

-- the totals fit, since spans are short and customers are few
pub fits : (total n s a e long : ℕ) → total ≤ (s - a) * MOST_CUSTOMERS → n ≤ long → long ≤ MOST_CUSTOMERS → s < e → e < a + 2 ^ 25 → total + n < 2 ^ 64
fits total n s a e long small few most within short = omega arith

pub more_fits : (total n s a long : ℕ) → a ≤ s → total ≤ (s - a) * MOST_CUSTOMERS → n ≤ long → long ≤ MOST_CUSTOMERS → total + n ≤ (s + 1 - a) * MOST_CUSTOMERS
more_fits total n s a long within small few most = omega arith
