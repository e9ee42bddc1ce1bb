-- Keys of dimensions, and the places of amounts.
use Rattle.std.proofs.Common.{◌≡◌, ◌∙◌, ap, refl, ℕ, zero, suc, ◌+◌, ◌-◌, ◌<◌, ◌≤◌, List, [], ◌∷◌, length, drop, get_or, get_or-take, get_or-drop, sum, sum_by, arith}
use Rattle.std.specs.List.{Contains, range_with_len}
use Rattle.std.proofs.lemmas.List.Sums.{sum_by-cons, get_or-le-sum_by}
use Rattle.std.proofs.lemmas.List.FromFn.{length-range_with_len, get_or-range_with_len}
use Rattle.ob_post.specs.declared.Dim.{Dim}
use Rattle.ob_post.specs.declared.Dim.TheVariants.{Cause, Feeder, Day}
use Rattle.ob_post.specs.Keys.{dim_number, IsKey, keys}
use Rattle.ob_post.specs.Postings.{PostedAmounts, amount_of, total_of}
use Rattle.ob_post.specs.Places.{place_of, amounts_in}
use Rattle.ob_post.proofs.Sums.{sum_where_same}

-- with more days there are the same keys and more
pub key_of_more : (m n : ℕ) (dim : Dim) (key : ℕ) → m ≤ n → IsKey m dim key → IsKey n dim key
key_of_more m n Cause key l h = h
key_of_more m n Feeder key l h = h
key_of_more m n Day key l h = omega arith

pub place_below : (days : ℕ) (dim : Dim) (key : ℕ) → IsKey days dim key → place_of dim key < 319 + days
place_below days Cause key h = omega arith
place_below days Feeder key h = omega (arith, h.1)
place_below days Day key h = omega arith

-- two dimensions of one number are one
pub same_dim : (d e : Dim) → dim_number d ≡ dim_number e → d ≡ e
same_dim Cause Cause h = refl
same_dim Cause Feeder h = absurd (omega (arith, h))
same_dim Cause Day h = absurd (omega (arith, h))
same_dim Feeder Cause h = absurd (omega (arith, h))
same_dim Feeder Feeder h = refl
same_dim Feeder Day h = absurd (omega (arith, h))
same_dim Day Cause h = absurd (omega (arith, h))
same_dim Day Feeder h = absurd (omega (arith, h))
same_dim Day Day h = refl

-- two keys at one place are one
pub same_place : (m n : ℕ) (d e : Dim) (j k : ℕ) → IsKey m d j → IsKey n e k → place_of d j ≡ place_of e k → (d ≡ e) × (j ≡ k)
same_place m n Cause Cause j k g h p = (refl, p)
same_place m n Cause Feeder j k g h p = absurd (omega (arith, h.0, h.1))
same_place m n Cause Day j k g h p = absurd (omega arith)
same_place m n Feeder Cause j k g h p = absurd (omega (arith, g.0, g.1))
same_place m n Feeder Feeder j k g h p = (refl, omega arith)
same_place m n Feeder Day j k g h p = absurd (omega (arith, g.0, g.1))
same_place m n Day Cause j k g h p = absurd (omega arith)
same_place m n Day Feeder j k g h p = absurd (omega (arith, h.0, h.1))
same_place m n Day Day j k g h p = (refl, omega arith)

-- the amount under a key stands at its place
pub amount_at : (places : List ℕ) (days : ℕ) (dim : Dim) (key : ℕ) → IsKey days dim key → amount_of (amounts_in places) dim key ≡ get_or places (place_of dim key) 0
amount_at places days Cause key h = get_or-take 64 places key 0 h
amount_at places days Feeder key h =
    get_or-take 255 (drop 64 places) (key - 1) 0 (omega (arith, h.0, h.1)) ∙ get_or-drop 64 places (key - 1) 0 ∙ ap (λ i. get_or places i 0) (omega (arith, h.0))
amount_at places days Day key h = get_or-drop 319 places key 0 ∙ ap (λ i. get_or places i 0) (omega arith)

-- the keys are those that there are
pub keys_exist : (days : ℕ) (dim : Dim) (i d : ℕ) → i < length (keys days dim) → IsKey days dim (get_or (keys days dim) i d)
unfolding keys
keys_exist days Cause i d l =
    let n : i < 64 = omega (arith, l, length-range_with_len 0 64) in
    omega (arith, get_or-range_with_len 0 64 i d n)
keys_exist days Feeder i d l =
    let n : i < 255 = omega (arith, l, length-range_with_len 1 255) in
    (omega (arith, get_or-range_with_len 1 255 i d n), omega (arith, get_or-range_with_len 1 255 i d n))
keys_exist days Day i d l =
    let n : i < days = omega (arith, l, length-range_with_len 0 days) in
    omega (arith, get_or-range_with_len 0 days i d n)

in_range : (a n key : ℕ) → a ≤ key → key < a + n → Contains (range_with_len a n) key
in_range a n key l h = (key - a, omega (arith, length-range_with_len a n), get_or-range_with_len a n (key - a) key (omega arith) ∙ omega arith)

pub key_among : (days : ℕ) (dim : Dim) (key : ℕ) → IsKey days dim key → Contains (keys days dim) key
unfolding keys
key_among days Cause key h = in_range 0 64 key (omega arith) h
key_among days Feeder key h = in_range 1 255 key h.0 (omega (arith, h.1))
key_among days Day key h = in_range 0 days key (omega arith) (omega arith)

-- a value under one key is at most the values under all
pub at_most_sum : (f : ℕ → ℕ) (days : ℕ) (dim : Dim) (key : ℕ) → IsKey days dim key → f key ≤ sum_by f (keys days dim)
at_most_sum f days dim key h =
    let found = key_among days dim key h in
    let le = get_or-le-sum_by f (keys days dim) found.0 key found.1 in
    rw found.2 at le

-- sums over the keys of a dimension of the same values
pub same_sums : (f g : ℕ → ℕ) (days : ℕ) (dim : Dim) → ((key : ℕ) → IsKey days dim key → f key ≡ g key) → sum_by f (keys days dim) ≡ sum_by g (keys days dim)
same_sums f g days dim h = sum_where_same f g (keys days dim) (λ i d l. h (get_or (keys days dim) i d) (keys_exist days dim i d l))

-- the sum of a list is the sum of what stands at its places
sum_of_places : (f : ℕ → ℕ) (a n : ℕ) (xs : List ℕ) → length xs ≡ n → ((i : ℕ) → i < n → f (a + i) ≡ get_or xs i 0) → sum_by f (range_with_len a n) ≡ sum xs
sum_of_places f a zero [] e h = refl
sum_of_places f a (suc n) [] e h = absurd (omega arith)
sum_of_places f a zero (x ∷ xs) e h = absurd (omega arith)
sum_of_places f a (suc n) (x ∷ xs) e h =
    let first : f a ≡ x = ap f (omega arith) ∙ h 0 (omega arith) in
    let rest : sum_by f (range_with_len (a + 1) n) ≡ sum xs =
    sum_of_places f (a + 1) n xs (omega arith)
    (λ i l.
    let next : a + 1 + i ≡ a + suc i = omega arith in
    ap f next ∙ h (suc i) (omega arith)) in
    omega (arith, sum_by-cons f a (range_with_len (a + 1) n), sum_by-cons (λ (y : ℕ). y) x xs, first, rest)

pub total_of_causes : (a : PostedAmounts) → length a.causes ≡ 64 → total_of a Cause ≡ sum a.causes
unfolding keys
total_of_causes a e = sum_of_places (amount_of a Cause) 0 64 a.causes e (λ i l. ap (amount_of a Cause) (omega arith))

pub total_of_feeders : (a : PostedAmounts) → length a.feeders ≡ 255 → total_of a Feeder ≡ sum a.feeders
unfolding keys
total_of_feeders a e = sum_of_places (amount_of a Feeder) 1 255 a.feeders e (λ i l. ap (λ (j : ℕ). get_or a.feeders j 0) (omega arith))

pub total_of_days : (a : PostedAmounts) → total_of a Day ≡ sum a.days
unfolding keys
total_of_days a = sum_of_places (amount_of a Day) 0 (length a.days) a.days refl (λ i l. ap (amount_of a Day) (omega arith))
