-- Numbers in groups of neighbours that are alike: each is in one group.
use Rattle.std.proofs.Common.{◌≡◌, ◌∙◌, ap, refl, sym, ℕ, zero, suc, ◌+◌, ◌-◌, ◌<◌, ◌≤◌, ◌==◌, ◌||◌, Bool, true, false, not, inl, inr, arith}
use Rattle.std.specs.List.{prefix_len, range_with_len}
use Rattle.std.proofs.lemmas.Bool.{cases_Bool, cases_eq, cases_lt, ne_eqb, true≢false}

-- the numbers of the prefix pass
passes : (p : ℕ → Bool) (s n t : ℕ) → s ≤ t → t < s + prefix_len p (range_with_len s n) → p t ≡ true
passes p s zero t low high = absurd (omega (arith, low, high))
passes p s (suc n) t low high = elim (cases_Bool (p s)) [
  | inl here ↦ elim (cases_eq t s) [
    | inl same ↦ ap p same ∙ here
    | inr apart ↦
        let on : prefix_len p (range_with_len s (suc n)) ≡ 1 + prefix_len p (range_with_len (s + 1) n) = rw here (omega arith) in
        passes p (s + 1) n t (omega (arith, low, apart)) (omega (arith, high, on))
  ]
  | inr off ↦
      let none : prefix_len p (range_with_len s (suc n)) ≡ 0 = rw off refl in
      absurd (omega (arith, low, high, none))
]

-- so many pass
reaches : (p : ℕ → Bool) (s n k : ℕ) → k ≤ n → ((t : ℕ) → s ≤ t → t < s + k → p t ≡ true) → k ≤ prefix_len p (range_with_len s n)
reaches p s n zero le all = omega arith
reaches p s zero (suc k) le all = absurd (omega (arith, le))
reaches p s (suc n) (suc k) le all =
    let rest = reaches p (s + 1) n k (omega (arith, le)) (λ t low high. all t (omega (arith, low)) (omega (arith, high))) in
    rw (all s (omega arith) (omega arith)) (omega (arith, rest))

not_false : (b : Bool) → not b ≡ false → b ≡ true
not_false true h = refl
not_false false h = absurd (true≢false h)

not_true : (b : Bool) → not b ≡ true → b ≡ false
not_true false h = refl
not_true true h = absurd (true≢false (sym h))

or_false : (a b : Bool) → (a || b) ≡ false → b ≡ false
or_false false b h = h
or_false true b h = absurd (true≢false h)

or_other : (a b : Bool) → a ≡ false → (a || b) ≡ true → b ≡ true
or_other false b off h = h
or_other true b off h = absurd (true≢false off)

module _ (same : ℕ → ℕ → Bool) (count : ℕ) (on : (i j k : ℕ) → same i j ≡ true → same j k ≡ true → same i k ≡ true)
    (alike : (i j k : ℕ) → same i j ≡ true → same i k ≡ true → same j k ≡ true) where
  -- the number begins a group
  abbrev pub begins : ℕ → Bool
  begins d = d == 0 || not (same (d - 1) d)

  -- the number after the group's last one
  abbrev pub end : ℕ → ℕ
  end d = d + 1 + prefix_len (same d) (range_with_len (d + 1) (count - (d + 1)))

  -- a group from a number on has another
  pub record Has (first n : ℕ) : Type 0 where
    pub begins : begins first ≡ true
    pub low : first ≤ n
    pub high : n < end first

  -- all numbers from the first up to another are alike
  abbrev Alike : ℕ → ℕ → Type 0
  Alike first n = (t : ℕ) → first < t → t ≤ n → same first t ≡ true

  alike_in : (first n : ℕ) → n < end first → Alike first n
  alike_in first n high t low le = passes (same first) (first + 1) (count - (first + 1)) t (omega (arith, low)) (omega (arith, le, high))

  reached : (first n : ℕ) → first ≤ n → n < count → Alike first n → n < end first
  reached first n low within all =
      let far = reaches (same first) (first + 1) (count - (first + 1)) (n - first) (omega (arith, low, within)) (λ t l h. all t (omega (arith, l)) (omega (arith, h, low))) in
      omega (arith, far, low)

  -- where its group begins
  record Group (n : ℕ) : Type 0 where
    first : ℕ
    begins : begins first ≡ true
    low : first ≤ n
    all : Alike first n

  group : (n : ℕ) → Group n
  group zero = record { first = 0; begins = refl; low = omega arith; all = λ t low le. absurd (omega (arith, low, le)) }
  group (suc n) = elim (cases_Bool (begins (suc n))) [
    | inl here ↦ record { first = suc n; begins = here; low = omega arith; all = λ t low le. absurd (omega (arith, low, le)) }
    | inr off ↦
        let was = group n in
        let back : suc n - 1 ≡ n = omega arith in
        let next : same n (suc n) ≡ true = ap (λ (k : ℕ). same k (suc n)) (sym back) ∙ not_false (same (suc n - 1) (suc n)) (or_false (suc n == 0) (not (same (suc n - 1) (suc n))) off) in
        record { first = was.first; begins = was.begins; low = let l = was.low in omega (arith, l); all = λ t low le. step n was next t low le }
  ]
    where
      step : (n : ℕ) (was : Group n) → same n (suc n) ≡ true → (t : ℕ) → was.first < t → t ≤ suc n → same was.first t ≡ true
      step n was next t low le = elim (cases_lt t (suc n)) [
        | inl less ↦ was.all t low (omega (arith, less))
        | inr last ↦
            let here : t ≡ suc n = omega (arith, last, le) in
            ap (same was.first) here ∙ elim (cases_eq was.first n) [
              | inl first ↦ ap (λ (k : ℕ). same k (suc n)) first ∙ next
              | inr apart ↦ let from = was.low in on was.first n (suc n) (was.all n (omega (arith, from, apart)) (omega arith)) next
            ]
      ]

  -- each number is in a group
  pub found : (n : ℕ) → n < count → (first : ℕ) × Has first n
  found n within = let g = group n in (g.first, record { begins = g.begins; low = g.low; high = reached g.first n g.low within g.all })

  -- which doesn't begin before another that has the number
  earlier : (i j n : ℕ) → i < j → Has i n → Has j n → ⊥
  earlier i j n less one other =
      let le = other.low in
      let low = one.low in
      let here : same i j ≡ true = alike_in i n one.high j less (omega (arith, le)) in
      let some : (j == 0) ≡ false = ne_eqb j 0 (λ e. omega (arith, e, less)) in
      let off : same (j - 1) j ≡ false = not_true (same (j - 1) j) (or_other (j == 0) (not (same (j - 1) j)) some other.begins) in
      let is : same (j - 1) j ≡ true = elim (cases_eq i (j - 1)) [
        | inl next ↦ ap (λ (k : ℕ). same k j) (sym next) ∙ here
        | inr apart ↦ alike i (j - 1) j (alike_in i n one.high (j - 1) (omega (arith, less, apart)) (omega (arith, le))) here
      ] in
      true≢false (sym is ∙ off)

  -- and in no other
  pub only : (i j n : ℕ) → Has i n → Has j n → i ≡ j
  only i j n one other = elim (cases_lt i j) [
    | inl less ↦ absurd (earlier i j n less one other)
    | inr from ↦ elim (cases_eq i j) [
      | inl same ↦ same
      | inr apart ↦ absurd (earlier j i n (omega (arith, from, apart)) other one)
    ]
  ]
