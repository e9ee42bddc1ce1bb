-- How many beginnings and ends of lives lie in an interval of seconds that is taken in parts.
use Rattle.std.proofs.Common.{◌≡◌, ℕ, ◌+◌, ◌<◌, ◌≤◌, ◌||◌, ◌==◌, true, false, cond, List, [], ◌∷◌, Option, Some, None, inl, inr, arith, nat_le, nat_lt, IsTrue}
use Rattle.std.specs.List.{list_any, sum_by}
use Rattle.std.proofs.lemmas.List.Sums.{sum_by-cons}
use Rattle.std.specs.Option.{option_map_or}
use Rattle.std.proofs.lemmas.Bool.{cases_Bool, cond-true, and_from, and_parts, lt-ltb, le-leb, ltb-true, leb-true, eqb-true, false≢true}
use Rattle.ob_base.specs.Life.{turns_at}
use Rattle.ob_base.specs.declared.life.Life.{Life}
use Rattle.ob_net.specs.Network.{Network}
use Rattle.ob_net.specs.declared.net.Device.{Device}
use Rattle.ob_sweep.specs.Turns.{lies_behind, turns_of, turns_between}

-- 1 for a second behind a and up to z, else 0
abbrev one : ℕ → ℕ → ℕ → ℕ
one a z s = cond (lies_behind a z s) 1 0

lies : (a z s : ℕ) → a < s → s ≤ z → lies_behind a z s ≡ true
lies a z s l m = and_from (nat_lt a s) (nat_le s z) (lt-ltb a s l) (le-leb s z m)

lies_from : (a z s : ℕ) → lies_behind a z s ≡ true → (a < s) × (s ≤ z)
lies_from a z s h = let both = and_parts (nat_lt a s) (nat_le s z) h in (ltb-true a s both.0, leb-true s z both.1)

-- one second, in two parts of the interval
one_parts : (a m z s : ℕ) → a ≤ m → m ≤ z → one a m s + one m z s ≤ one a z s
one_parts a m z s l k =
    elim (cases_Bool (lies_behind a m s)) [
      | inl y ↦
          let at = lies_from a m s y in
          elim (cases_Bool (lies_behind m z s)) [
            | inl y' ↦ absurd (omega (arith, at.1, (lies_from m z s y').0))
            | inr n' ↦ rw (y, n', lies a z s at.0 (omega (arith, at.1))) (omega arith)
          ]
      | inr n ↦
          elim (cases_Bool (lies_behind m z s)) [
            | inl y' ↦ let at = lies_from m z s y' in rw (n, y', lies a z s (omega (arith, at.0)) at.1) (omega arith)
            | inr n' ↦ rw (n, n') (omega arith)
          ]
    ]

-- a second is counted up to itself
one_here : (a s : ℕ) → a < s → one a s s ≡ 1
one_here a s l = cond-true (lies_behind a s s) 1 0 (lies a s s l (omega arith))

end_parts : (since : ℕ) (o : Option ℕ) (a m z : ℕ) → a ≤ m → m ≤ z
    → (one a m since + option_map_or (λ until. one a m until) o 0) + (one m z since + option_map_or (λ until. one m z until) o 0)
    ≤ one a z since + option_map_or (λ until. one a z until) o 0
end_parts since None a m z l k = omega (arith, one_parts a m z since l k)
end_parts since (Some until) a m z l k = omega (arith, one_parts a m z since l k, one_parts a m z until l k)

turns_parts : (life : Life) (a m z : ℕ) → a ≤ m → m ≤ z → turns_of life a m + turns_of life m z ≤ turns_of life a z
turns_parts life a m z l k = end_parts life.since life.until a m z l k

end_counts : (since : ℕ) (o : Option ℕ) (a s : ℕ) → a < s → option_map_or (λ until. until == s) o false ≡ true → 1 ≤ one a s since + option_map_or (λ until. one a s until) o 0
end_counts since None a s l h = absurd (false≢true h)
end_counts since (Some until) a s l h = rw (eqb-true until s h, one_here a s l) (omega arith)

-- a life that turns at a second is counted there
turn_counts : (since : ℕ) (o : Option ℕ) (a s : ℕ) → a < s → (since == s || option_map_or (λ until. until == s) o false) ≡ true
    → 1 ≤ one a s since + option_map_or (λ until. one a s until) o 0
turn_counts since o a s l h =
    elim (cases_Bool (since == s)) [
      | inl y ↦ rw (eqb-true since s y, one_here a s l) (omega arith)
      | inr n ↦ end_counts since o a s l (rw n at h)
    ]

-- in parts of the interval, over all devices
parts_of : (ds : List Device) (a m z : ℕ) → a ≤ m → m ≤ z
    → sum_by (λ (d : Device). turns_of d.life a m) ds + sum_by (λ (d : Device). turns_of d.life m z) ds ≤ sum_by (λ (d : Device). turns_of d.life a z) ds
parts_of [] a m z l k = omega arith
parts_of (d ∷ ds) a m z l k =
    omega (
      arith,
      turns_parts d.life a m z l k,
      parts_of ds a m z l k,
      sum_by-cons (λ (d : Device). turns_of d.life a m) d ds,
      sum_by-cons (λ (d : Device). turns_of d.life m z) d ds,
      sum_by-cons (λ (d : Device). turns_of d.life a z) d ds,
    )

pub turns_in_parts : (net : Network) (a m z : ℕ) → a ≤ m → m ≤ z → turns_between net a m + turns_between net m z ≤ turns_between net a z
turns_in_parts net a m z l k = parts_of net.devices a m z l k

some_turn : (ds : List Device) (a s : ℕ) → a < s → list_any (λ (d : Device). turns_at d.life s) ds ≡ true → 1 ≤ sum_by (λ (d : Device). turns_of d.life a s) ds
some_turn [] a s l h = absurd (false≢true h)
some_turn (d ∷ ds) a s l h =
    let more = sum_by-cons (λ (d : Device). turns_of d.life a s) d ds in
    elim (cases_Bool (turns_at d.life s)) [
      | inl y ↦ omega (arith, more, turn_counts d.life.since d.life.until a s l y)
      | inr n ↦ omega (arith, more, some_turn ds a s l (rw n at h))
    ]

-- a second behind another at which some life turns is one more
pub one_turn_more : (net : Network) (a m s : ℕ) → a ≤ m → m < s → IsTrue (list_any (λ (d : Device). turns_at d.life s) net.devices) → turns_between net a m + 1 ≤ turns_between net a s
one_turn_more net a m s l k h = omega (arith, turns_in_parts net a m s l (omega (arith, k)), some_turn net.devices m s k h)
