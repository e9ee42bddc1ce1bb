-- Amounts of runs, part by part.
use Rattle.std.proofs.Common.{◌≡◌, ◌∙◌, sym, ap, ap₂, subst, refl, ℕ, zero, suc, ◌+◌, ◌-◌, ◌<◌, ◌≤◌, ◌==◌, true, cond, max, min, nat_le, nat_lt, List, [], ◌∷◌, ◌++◌, drop, length, sum_by, Option, Some, None, ℤ, pos, ◌+ℤ◌, inl, inr, arith}
use Rattle.std.specs.List.{range_with_len}
use Rattle.std.specs.Prelude.{⊤}
use Rattle.std.specs.Option.{IfSome}
use Rattle.std.proofs.lemmas.Bool.{cases_Bool, cases_lt, cases_eq, cond-true, cond-false, lt-ltb, le-ltb, eq-eqb, ne_eqb, and_from, and_parts, leb-true, le-leb}
use Rattle.std.proofs.lemmas.List.Elements.{All-push, All-tail}
use Rattle.std.proofs.lemmas.List.Sums.{sum_by-cons}
use Rattle.ob_base.specs.Seconds.{seconds}
use Rattle.ob_base.specs.declared.interval.Interval.{Interval}
use Rattle.ob_sheet.specs.declared.Entry.{Entry}
use Rattle.ob_cust.specs.declared.Customer.{Customer}
use Rattle.ob_cust.specs.Service.{served_seconds}
use Rattle.ob_sweep.specs.declared.Run.{Run}
use Rattle.ob_post.specs.RunAmounts.{customer_seconds_in}
use Rattle.ob_post.specs.SectionAmounts.{amount_of_runs, run_cause, LieWithin}
use Rattle.ob_post.specs.Balances.{together, Balances}
use Rattle.ob_post.specs.Parts.{AreOfSameSeconds, amount_of_part, bound_behind, left_from, part_from, rise_from}
use Rattle.ob_post.specs.Keys.{IsKey}
use Rattle.ob_post.specs.Moved.{delta_of, HaveKeys}
use Rattle.ob_post.specs.declared.Dim.{Dim}
use Rattle.ob_post.specs.declared.Dim.TheVariants.{Cause, Feeder, Day}
use Rattle.ob_post.specs.declared.Moved.{Moved}
use Rattle.ob_post.specs.declared.posting.Posting.{Posting}
use Rattle.ob_post.proofs.Balancing.{more_given, more_taken, same_change}
use Rattle.ob_post.proofs.Deltas.{delta_of_push}
use Rattle.ob_post.proofs.Served.{served_is}

-- ---- a run in two parts
sum_split : (f : ℕ → ℕ) (a m n : ℕ) → sum_by f (range_with_len a (m + n)) ≡ sum_by f (range_with_len a m) + sum_by f (range_with_len (a + m) n)
sum_split f a zero n =
    let none : 0 + n ≡ n = omega arith in
    let at : a + 0 ≡ a = omega arith in
    let first : sum_by f (range_with_len a 0) ≡ 0 = refl in
    let long = ap (λ (k : ℕ). sum_by f (range_with_len a k)) none in
    let rest = ap (λ (k : ℕ). sum_by f (range_with_len k n)) at in
    omega (arith, first, long, rest)
sum_split f a (suc m) n =
    let more : suc m + n ≡ suc (m + n) = omega arith in
    let next : a + 1 + m ≡ a + suc m = omega arith in
    let rest = sum_split f (a + 1) m n in
    let front : sum_by f (range_with_len a (suc m)) ≡ f a + sum_by f (range_with_len (a + 1) m) = sum_by-cons f a (range_with_len (a + 1) m) in
    let behind = ap (λ (k : ℕ). sum_by f (range_with_len k n)) next in
    ap (λ (k : ℕ). sum_by f (range_with_len a k)) more ∙ sum_by-cons f a (range_with_len (a + 1) (m + n)) ∙ omega (arith, rest, front, behind)

seconds_split : (f : ℕ → ℕ) (a m b : ℕ) → a ≤ m → m ≤ b → sum_by f (seconds a b) ≡ sum_by f (seconds a m) + sum_by f (seconds m b)
seconds_split f a m b l u =
    let long : b - a ≡ (m - a) + (b - m) = omega arith in
    let mid : a + (m - a) ≡ m = omega arith in
    ap (λ (k : ℕ). sum_by f (range_with_len a k)) long
    ∙ sum_split f a (m - a) (b - m)
    ∙ ap (λ (k : ℕ). sum_by f (range_with_len a (m - a)) + sum_by f (range_with_len k (b - m))) mid

module _ (roll : List Customer) (days : List Interval) (feeder : ℕ) (dim : Dim) (key : ℕ) where
  -- the customer-seconds of a run, cut to end at m and to begin there
  run_split : (r : Run) (cause a m b : ℕ) → a ≤ m → m ≤ b
      → customer_seconds_in roll (record r { since = a; until = b }) cause feeder days dim key
      ≡ customer_seconds_in roll (record r { since = a; until = m }) cause feeder days dim key + customer_seconds_in roll (record r { since = m; until = b }) cause feeder days dim key
  run_split r cause a m b l u = seconds_split _ a m b l u

-- ---- what is left of runs from a second on
-- the runs, the first one cut at a where it begins before
abbrev pub rest : ℕ → List Run → List Run
rest a [] = []
rest a (r ∷ rs) = record r { since = max a r.since } ∷ rs

-- the first run ends behind a, and no other one begins before the one ahead of it ends
abbrev pub IsAhead : ℕ → List Run → Type 0
IsAhead a [] = ⊤
IsAhead a (r ∷ rs) = (a < r.until) × (rise_from r.until rs ≡ true)

same_run : (r : Run) (a : ℕ) → a ≤ r.since → record r { since = max a r.since } ≡ r
same_run r a l =
    let e : max a r.since ≡ r.since = omega arith in
    ap (λ (k : ℕ). record r { since = k }) e

pub rest_whole : (a : ℕ) (rs : List Run) → rise_from a rs ≡ true → rest a rs ≡ rs
rest_whole a [] h = refl
rest_whole a (r ∷ rs) h = ap (λ x. x ∷ rs) (same_run r a (leb-true a r.since (and_parts (nat_le a r.since) (rise_from r.until rs) h).0))

pub ahead_whole : (a lo hi : ℕ) (rs : List Run) → LieWithin lo hi rs → rise_from a rs ≡ true → IsAhead a rs
ahead_whole a lo hi [] within h = tt
ahead_whole a lo hi (r ∷ rs) within h =
    let parts = and_parts (nat_le a r.since) (rise_from r.until rs) h in
    let begins : a ≤ r.since = leb-true a r.since parts.0 in
    let some : r.since < r.until = (within 0 r (omega arith)).1 in
    (omega arith, parts.1)

-- where all lie behind a second, they rise from there
pub rise_later : (lo hi : ℕ) (rs : List Run) → LieWithin lo hi rs → rise_from 0 rs ≡ true → rise_from lo rs ≡ true
rise_later lo hi [] within h = refl
rise_later lo hi (r ∷ rs) within h =
    and_from (nat_le lo r.since) (rise_from r.until rs) (le-leb lo r.since (within 0 r (omega arith)).0) (and_parts (nat_le 0 r.since) (rise_from r.until rs) h).1

-- ---- the next bound
bound_later : (a b : ℕ) (r : Run) (rs : List Run) → a < r.since → bound_behind a b (r ∷ rs) ≡ r.since
bound_later a b r rs l = cond-true (nat_lt a r.since) r.since r.until (lt-ltb a r.since l)

bound_begun : (a b : ℕ) (r : Run) (rs : List Run) → r.since ≤ a → bound_behind a b (r ∷ rs) ≡ r.until
bound_begun a b r rs l = cond-false (nat_lt a r.since) r.since r.until (le-ltb a r.since l)

pub bound_more : (a b : ℕ) (rs : List Run) → a < b → IsAhead a rs → a < bound_behind a b rs
bound_more a b [] l h = l
bound_more a b (r ∷ rs) l h = elim (cases_lt a r.since) [
  | inl later ↦ omega (arith, later, bound_later a b r rs later)
  | inr begun ↦ omega (arith, h.0, bound_begun a b r rs begun)
]

pub bound_within : (a lo hi : ℕ) (rs : List Run) → LieWithin lo hi rs → bound_behind a hi rs ≤ hi
bound_within a lo hi [] h = omega arith
bound_within a lo hi (r ∷ rs) h =
    let some : r.since < r.until = (h 0 r (omega arith)).1 in
    let ends : r.until ≤ hi = (h 0 r (omega arith)).2 in
    elim (cases_lt a r.since) [
      | inl later ↦ omega (arith, bound_later a hi r rs later)
      | inr begun ↦ omega (arith, bound_begun a hi r rs begun)
    ]

-- where the first run lies before a bound, the bound is at most its end
bound_by_end : (a m b : ℕ) (r : Run) (rs : List Run) → r.since < r.until → m ≤ bound_behind a b (r ∷ rs) → m ≤ r.until
bound_by_end a m b r rs some h = elim (cases_lt a r.since) [
  | inl later ↦ omega (arith, h, bound_later a b r rs later)
  | inr begun ↦ omega (arith, h, bound_begun a b r rs begun)
]

-- ---- what is left at the next bound
left_ends : (m : ℕ) (r : Run) (rs : List Run) → r.until ≡ m → left_from m (r ∷ rs) ≡ rs
left_ends m r rs e = cond-true (r.until == m) rs (r ∷ rs) (eq-eqb r.until m e)

left_goes : (m : ℕ) (r : Run) (rs : List Run) → (r.until ≡ m → ⊥) → left_from m (r ∷ rs) ≡ r ∷ rs
left_goes m r rs ne = cond-false (r.until == m) rs (r ∷ rs) (ne_eqb r.until m ne)

pub left_within : (m lo hi : ℕ) (rs : List Run) → LieWithin lo hi rs → LieWithin lo hi (left_from m rs)
left_within m lo hi [] h = h
left_within m lo hi (r ∷ rs) h = elim (cases_eq r.until m) [
  | inl e ↦ subst (LieWithin lo hi) (sym (left_ends m r rs e)) (All-tail (λ (r : Run). (lo ≤ r.since) × (r.since < r.until) × (r.until ≤ hi)) r rs h)
  | inr ne ↦ subst (LieWithin lo hi) (sym (left_goes m r rs ne)) h
]

pub left_ahead : (a m b lo hi : ℕ) (rs : List Run) → LieWithin lo hi rs → IsAhead a rs → m ≤ bound_behind a b rs → IsAhead m (left_from m rs)
left_ahead a m b lo hi [] within h l = tt
left_ahead a m b lo hi (r ∷ rs) within h l =
    let tail : LieWithin lo hi rs = All-tail (λ (r : Run). (lo ≤ r.since) × (r.since < r.until) × (r.until ≤ hi)) r rs within in
    let some : r.since < r.until = (within 0 r (omega arith)).1 in
    let by_end : m ≤ r.until = bound_by_end a m b r rs some l in
    elim (cases_eq r.until m) [
      | inl e ↦ subst (IsAhead m) (sym (left_ends m r rs e)) (ahead_whole m lo hi rs tail (subst (λ (k : ℕ). rise_from k rs ≡ true) e h.1))
      | inr ne ↦ subst (IsAhead m) (sym (left_goes m r rs ne)) (omega (arith, by_end, ne), h.1)
    ]

-- ---- the part up to the next bound
part_later : (a m : ℕ) (r : Run) (rs : List Run) → a < r.since → part_from a m (r ∷ rs) ≡ None
part_later a m r rs l = cond-true (nat_lt a r.since) None (Some (record r { since = a; until = m })) (lt-ltb a r.since l)

part_begun : (a m : ℕ) (r : Run) (rs : List Run) → r.since ≤ a → part_from a m (r ∷ rs) ≡ Some (record r { since = a; until = m })
part_begun a m r rs l = cond-false (nat_lt a r.since) None (Some (record r { since = a; until = m })) (le-ltb a r.since l)

no_part : (r : Run) → None ≡ Some r → ⊥
no_part r e = cc

part_is : (q r : Run) (a m : ℕ) → q.since ≡ a → q.until ≡ m → Some q ≡ Some r → (r.since ≡ a) × (r.until ≡ m)
part_is q r a m s u e =
    let same : q ≡ r = cc in
    (ap (λ (x : Run). x.since) (sym same) ∙ s, ap (λ (x : Run). x.until) (sym same) ∙ u)

-- a part is of the seconds from a up to m
pub part_seconds : (a m : ℕ) (rs : List Run) (r : Run) → part_from a m rs ≡ Some r → (r.since ≡ a) × (r.until ≡ m)
part_seconds a m [] r e = absurd (no_part r e)
part_seconds a m (q ∷ rs) r e = elim (cases_lt a q.since) [
  | inl later ↦ absurd (no_part r (sym (part_later a m q rs later) ∙ e))
  | inr begun ↦ part_is (record q { since = a; until = m }) r a m refl refl (sym (part_begun a m q rs begun) ∙ e)
]

pub same_seconds : (a m : ℕ) (rs qs : List Run) → AreOfSameSeconds (part_from a m rs) (part_from a m qs)
same_seconds a m rs qs r s is_r is_s =
    let of_r = part_seconds a m rs r is_r in
    let of_s = part_seconds a m qs s is_s in
    (of_r.0 ∙ sym of_s.0, of_r.1 ∙ sym of_s.1)

pub part_within : (a m lo hi : ℕ) (rs : List Run) → lo ≤ a → a < m → m ≤ hi → IfSome (part_from a m rs) (λ r. (lo ≤ r.since) × (r.since < r.until) × (r.until ≤ hi))
part_within a m lo hi [] l some u = tt
part_within a m lo hi (r ∷ rs) l some u =
    let P : Run → Type 0 = λ q. (lo ≤ q.since) × (q.since < q.until) × (q.until ≤ hi) in
    elim (cases_lt a r.since) [
      | inl later ↦ subst (λ (o : Option Run). IfSome o P) (sym (part_later a m r rs later)) tt
      | inr begun ↦ subst (λ (o : Option Run). IfSome o P) (sym (part_begun a m r rs begun)) (l, some, u)
    ]

-- ---- amounts
module _ (entries : List Entry) (roll : List Customer) (days : List Interval) (feeder : ℕ) (dim : Dim) (key : ℕ) where
  abbrev of : Run → ℕ
  of r = customer_seconds_in roll r (run_cause entries r) feeder days dim key

  abbrev all : List Run → ℕ
  all rs = amount_of_runs entries roll days feeder rs dim key

  abbrev part : Option Run → ℕ
  part o = amount_of_part entries roll days feeder o dim key

  -- what is left at a is the part up to the next bound, and what is left there
  pub amount_in_parts : (a m b lo hi : ℕ) (rs : List Run) → LieWithin lo hi rs → IsAhead a rs → a < m → m ≤ bound_behind a b rs
      → amount_of_runs entries roll days feeder (rest a rs) dim key
      ≡ amount_of_part entries roll days feeder (part_from a m rs) dim key + amount_of_runs entries roll days feeder (rest m (left_from m rs)) dim key
  amount_in_parts a m b lo hi [] within h l u = refl
  amount_in_parts a m b lo hi (r ∷ rs) within h l u =
      let some : r.since < r.until = (within 0 r (omega arith)).1 in
      elim (cases_lt a r.since) [
        | inl later ↦
            let early : m ≤ r.since = omega (arith, u, bound_later a b r rs later) in
            let at_a : all (rest a (r ∷ rs)) ≡ all (r ∷ rs) = ap (λ x. all (x ∷ rs)) (same_run r a (omega arith)) in
            let at_m : all (rest m (r ∷ rs)) ≡ all (r ∷ rs) = ap (λ x. all (x ∷ rs)) (same_run r m early) in
            let left : all (rest m (left_from m (r ∷ rs))) ≡ all (rest m (r ∷ rs)) = ap (λ q. all (rest m q)) (left_goes m r rs (λ e. omega arith)) in
            let none : part (part_from a m (r ∷ rs)) ≡ 0 = ap part (part_later a m r rs later) in
            at_a ∙ sym at_m ∙ sym left ∙ nothing_more (part (part_from a m (r ∷ rs))) (all (rest m (left_from m (r ∷ rs)))) none
        | inr begun ↦
            let cut : max a r.since ≡ a = omega arith in
            let at_a : all (rest a (r ∷ rs)) ≡ of (record r { since = a }) + all rs =
            ap (λ (k : ℕ). all (record r { since = k } ∷ rs)) cut ∙ sum_by-cons of (record r { since = a }) rs in
            let here : part (part_from a m (r ∷ rs)) ≡ of (record r { since = a; until = m }) = ap part (part_begun a m r rs begun) in
            let by_end : m ≤ r.until = bound_by_end a m b r rs some u in
            elim (cases_eq r.until m) [
              | inl e ↦
                  let left : all (rest m (left_from m (r ∷ rs))) ≡ all rs =
                  ap (λ q. all (rest m q)) (left_ends m r rs e) ∙ ap all (rest_whole m rs (subst (λ (k : ℕ). rise_from k rs ≡ true) e h.1)) in
                  let whole : of (record r { since = a }) ≡ of (record r { since = a; until = m }) = ap (λ (k : ℕ). of (record r { since = a; until = k })) e in
                  at_a ∙ ap₂ (λ (i j : ℕ). i + j) (whole ∙ sym here) (sym left)
              | inr ne ↦
                  let after : max m r.since ≡ m = omega arith in
                  let left : all (rest m (left_from m (r ∷ rs))) ≡ of (record r { since = m }) + all rs =
                  ap (λ q. all (rest m q)) (left_goes m r rs ne)
                  ∙ ap (λ (k : ℕ). all (record r { since = k } ∷ rs)) after
                  ∙ sum_by-cons of (record r { since = m }) rs in
                  let two : of (record r { since = a }) ≡ of (record r { since = a; until = m }) + of (record r { since = m }) =
                  run_split roll days feeder dim key r (run_cause entries r) a m r.until (omega arith) by_end in
                  at_a
                  ∙ ap (λ (k : ℕ). k + all rs) two
                  ∙ add_assoc (of (record r { since = a; until = m })) (of (record r { since = m })) (all rs)
                  ∙ ap₂ (λ (i j : ℕ). i + j) (sym here) (sym left)
            ]
      ]
    where
      add_assoc : (i j k : ℕ) → i + j + k ≡ i + (j + k)
      add_assoc i j k = omega arith

      nothing_more : (i j : ℕ) → i ≡ 0 → j ≡ i + j
      nothing_more i j e = omega arith

-- ---- balances
-- before any part
pub parts_begin : (days : ℕ) (p : Posting) (old new taken given : Dim → ℕ → ℕ) → Balances days p old new → Balances days p (together (together old taken) given) (together (together new given) taken)
parts_begin days p old new taken given b =
    same_change days p old new (together (together old taken) given) (together (together new given) taken) (λ dim key. omega arith) b

-- one part more is taken, and one given
pub parts_more : (days : ℕ) (p : Posting) (old new taken given was is one other was' is' : Dim → ℕ → ℕ)
    → ((dim : Dim) (key : ℕ) → was dim key ≡ one dim key + was' dim key) → ((dim : Dim) (key : ℕ) → is dim key ≡ other dim key + is' dim key)
    → Balances days p (together (together (together old taken) is) one) (together (together (together new given) was) other)
    → Balances days p (together (together old taken) is') (together (together new given) was')
parts_more days p old new taken given was is one other was' is' o n b =
    same_change days p (together (together (together old taken) is) one) (together (together (together new given) was) other) (together (together old taken) is') (together (together new given) was')
    (λ dim key. omega (arith, o dim key, n dim key))
    b

-- after all parts
pub parts_end : (days : ℕ) (p : Posting) (old new taken given was is : Dim → ℕ → ℕ) → ((dim : Dim) (key : ℕ) → was dim key ≡ 0) → ((dim : Dim) (key : ℕ) → is dim key ≡ 0)
    → Balances days p (together (together old taken) is) (together (together new given) was) → Balances days p (together old taken) (together new given)
parts_end days p old new taken given was is o n b =
    same_change days p (together (together old taken) is) (together (together new given) was) (together old taken) (together new given) (λ dim key. omega (arith, o dim key, n dim key)) b

-- ---- all parts, one after another
-- the parts before the second at are posted: what is left there of the old runs and of the new ones isn't
pub record IsPostedUpTo (days lo hi : ℕ) (p q : Posting) (was now : List Entry) (roll : List Customer) (parts : List Interval) (feeder : ℕ) (taken given : List Run) (at old new : ℕ) : Type 0 where
  pub old_in : old ≤ length taken
  pub new_in : new ≤ length given
  pub first : lo ≤ at
  pub old_within : LieWithin lo hi (drop old taken)
  pub new_within : LieWithin lo hi (drop new given)
  pub old_ahead : IsAhead at (drop old taken)
  pub new_ahead : IsAhead at (drop new given)
  pub balances : (x y : Dim → ℕ → ℕ) → Balances days p x y
      → Balances days q (together (together x (amount_of_runs was roll parts feeder taken)) (amount_of_runs now roll parts feeder (rest at (drop new given))))
      (together (together y (amount_of_runs now roll parts feeder given)) (amount_of_runs was roll parts feeder (rest at (drop old taken))))

module _ (days lo hi : ℕ) (p : Posting) (was now : List Entry) (roll : List Customer) (parts : List Interval) (feeder : ℕ) (taken given : List Run) where
  npart_posted : LieWithin lo hi taken → LieWithin lo hi given → rise_from 0 taken ≡ true → rise_from 0 given ≡ true → IsPostedUpTo days lo hi p p was now roll parts feeder taken given lo 0 0
  npart_posted ht hg rt rg =
      let t = rise_later lo hi taken ht rt in
      let g = rise_later lo hi given hg rg in
      record {
        old_in = omega arith;
        new_in = omega arith;
        first = omega arith;
        old_within = ht;
        new_within = hg;
        old_ahead = ahead_whole lo lo hi taken ht t;
        new_ahead = ahead_whole lo lo hi given hg g;
        balances = λ x y b.
            subst (λ (ts : List Run). Balances days p (together (together x (amount_of_runs was roll parts feeder taken)) (amount_of_runs now roll parts feeder (rest lo given))) (together (together y (amount_of_runs now roll parts feeder given)) (amount_of_runs was roll parts feeder ts)))
            (sym (rest_whole lo taken t))
            (subst (λ (gs : List Run). Balances days p (together (together x (amount_of_runs was roll parts feeder taken)) (amount_of_runs now roll parts feeder gs)) (together (together y (amount_of_runs now roll parts feeder given)) (amount_of_runs was roll parts feeder taken)))
            (sym (rest_whole lo given g))
            (parts_begin days p x y (amount_of_runs was roll parts feeder taken) (amount_of_runs now roll parts feeder given) b));
      }

  pub begins : (at : ℕ) → at ≡ lo → LieWithin lo hi taken → LieWithin lo hi given → rise_from 0 taken ≡ true → rise_from 0 given ≡ true → IsPostedUpTo days lo hi p p was now roll parts feeder taken given at 0 0
  begins at e ht hg rt rg = subst (λ (a : ℕ). IsPostedUpTo days lo hi p p was now roll parts feeder taken given a 0 0) (sym e) (npart_posted ht hg rt rg)

  pub part_posted : (q q' : Posting) (at m old new old' new' : ℕ) (o n : Option Run) → IsPostedUpTo days lo hi p q was now roll parts feeder taken given at old new
      → at < m → m ≤ bound_behind at hi (drop old taken) → m ≤ bound_behind at hi (drop new given)
      → old' ≤ length taken → new' ≤ length given → drop old' taken ≡ left_from m (drop old taken) → drop new' given ≡ left_from m (drop new given)
      → o ≡ part_from at m (drop old taken) → n ≡ part_from at m (drop new given)
      → ((x y : Dim → ℕ → ℕ) → Balances days q x y → Balances days q' (together x (amount_of_part was roll parts feeder o)) (together y (amount_of_part now roll parts feeder n)))
      → IsPostedUpTo days lo hi p q' was now roll parts feeder taken given m old' new'
  part_posted q q' at m old new old' new' o n h later by_old by_new old_in new_in old_left new_left is_o is_n posts = record {
    old_in = old_in;
    new_in = new_in;
    first = omega (arith, h.first, later);
    old_within = subst (LieWithin lo hi) (sym old_left) (left_within m lo hi (drop old taken) h.old_within);
    new_within = subst (LieWithin lo hi) (sym new_left) (left_within m lo hi (drop new given) h.new_within);
    old_ahead = subst (IsAhead m) (sym old_left) (left_ahead at m hi lo hi (drop old taken) h.old_within h.old_ahead by_old);
    new_ahead = subst (IsAhead m) (sym new_left) (left_ahead at m hi lo hi (drop new given) h.new_within h.new_ahead by_new);
    balances = λ x y b.
        parts_more days q' x y (amount_of_runs was roll parts feeder taken) (amount_of_runs now roll parts feeder given)
        (amount_of_runs was roll parts feeder (rest at (drop old taken))) (amount_of_runs now roll parts feeder (rest at (drop new given)))
        (amount_of_part was roll parts feeder o) (amount_of_part now roll parts feeder n)
        (amount_of_runs was roll parts feeder (rest m (drop old' taken))) (amount_of_runs now roll parts feeder (rest m (drop new' given)))
        (λ dim key.
        amount_in_parts was roll parts feeder dim key at m hi lo hi (drop old taken) h.old_within h.old_ahead later by_old
        ∙ ap₂ (λ (w : Option Run) (ts : List Run). amount_of_part was roll parts feeder w dim key + amount_of_runs was roll parts feeder (rest m ts) dim key) (sym is_o) (sym old_left))
        (λ dim key.
        amount_in_parts now roll parts feeder dim key at m hi lo hi (drop new given) h.new_within h.new_ahead later by_new
        ∙ ap₂ (λ (w : Option Run) (gs : List Run). amount_of_part now roll parts feeder w dim key + amount_of_runs now roll parts feeder (rest m gs) dim key) (sym is_n) (sym new_left))
        (posts (together (together x (amount_of_runs was roll parts feeder taken)) (amount_of_runs now roll parts feeder (rest at (drop new given)))) (together (together y (amount_of_runs now roll parts feeder given)) (amount_of_runs was roll parts feeder (rest at (drop old taken)))) (h.balances x y b));
  }

  -- the next bound is later, and within the runs' seconds
  pub next_bound : (q : Posting) (at old new end one other m : ℕ) → IsPostedUpTo days lo hi p q was now roll parts feeder taken given at old new → at < end
      → end ≡ hi → one ≡ bound_behind at end (drop old taken) → other ≡ bound_behind at end (drop new given) → m ≡ min one other
      → (at < m) × (m ≤ hi) × (m ≤ bound_behind at hi (drop old taken)) × (m ≤ bound_behind at hi (drop new given))
  next_bound q at old new end one other m h l is_end is_one is_other is =
      let there : at < hi = omega (arith, l, is_end) in
      let first : one ≡ bound_behind at hi (drop old taken) = is_one ∙ ap (λ (e : ℕ). bound_behind at e (drop old taken)) is_end in
      let second : other ≡ bound_behind at hi (drop new given) = is_other ∙ ap (λ (e : ℕ). bound_behind at e (drop new given)) is_end in
      let first_more = bound_more at hi (drop old taken) there h.old_ahead in
      let second_more = bound_more at hi (drop new given) there h.new_ahead in
      let first_within = bound_within at lo hi (drop old taken) h.old_within in
      (omega (arith, is, first, second, first_more, second_more), omega (arith, is, first, first_within), omega (arith, is, first), omega (arith, is, second))

  -- at the end of all seconds none is left
  pub parts_posted : (q : Posting) (at old new end : ℕ) (x y : Dim → ℕ → ℕ) → IsPostedUpTo days lo hi p q was now roll parts feeder taken given at old new → end ≤ at → end ≡ hi
      → Balances days p x y → Balances days q (together x (amount_of_runs was roll parts feeder taken)) (together y (amount_of_runs now roll parts feeder given))
  parts_posted q at old new end x y h l is_end b =
      let past : hi ≤ at = omega (arith, l, is_end) in
      parts_end days q x y (amount_of_runs was roll parts feeder taken) (amount_of_runs now roll parts feeder given)
      (amount_of_runs was roll parts feeder (rest at (drop old taken))) (amount_of_runs now roll parts feeder (rest at (drop new given)))
      (λ dim key. ap (λ (ts : List Run). amount_of_runs was roll parts feeder (rest at ts) dim key) (none_ahead at (drop old taken) h.old_within h.old_ahead past))
      (λ dim key. ap (λ (gs : List Run). amount_of_runs now roll parts feeder (rest at gs) dim key) (none_ahead at (drop new given) h.new_within h.new_ahead past))
      (h.balances x y b)
    where
      none_ahead : (a : ℕ) (rs : List Run) → LieWithin lo hi rs → IsAhead a rs → hi ≤ a → rs ≡ []
      none_ahead a [] within ahead l = refl
      none_ahead a (r ∷ rs) within ahead l =
          let ends : r.until ≤ hi = (within 0 r (omega arith)).2 in
          absurd (omega (arith, ahead.0, ends))

-- ---- one part
-- a part has the amount of a list of it
pub part_as_runs : (entries : List Entry) (roll : List Customer) (days : List Interval) (feeder : ℕ) (o : Option Run) (r : Run) (dim : Dim) (key : ℕ) → o ≡ Some r
    → amount_of_part entries roll days feeder o dim key ≡ amount_of_runs entries roll days feeder (r ∷ []) dim key
part_as_runs entries roll days feeder o r dim key e =
    let g : Run → ℕ = λ q. customer_seconds_in roll q (run_cause entries q) feeder days dim key in
    let one : amount_of_part entries roll days feeder o dim key ≡ g r = ap (λ (q : Option Run). amount_of_part entries roll days feeder q dim key) e in
    let sum : amount_of_runs entries roll days feeder (r ∷ []) dim key ≡ g r + amount_of_runs entries roll days feeder [] dim key = sum_by-cons g r [] in
    let none : amount_of_runs entries roll days feeder [] dim key ≡ 0 = refl in
    omega (arith, one, sum, none)

-- the customer-seconds of a span of a section
abbrev of_span : (roll : List Customer) (cause feeder : ℕ) (days : List Interval) (dim : Dim) (key v a b : ℕ) → ℕ
of_span roll cause feeder days dim key v a b = customer_seconds_in roll (record { section = v; since = a; until = b; cutter = None }) cause feeder days dim key

-- another run of the same section and the same seconds has the same
pub part_as_run : (entries : List Entry) (roll : List Customer) (days : List Interval) (feeder cause : ℕ) (o : Option Run) (r s : Run) (dim : Dim) (key : ℕ) → o ≡ Some s → r.section ≡ s.section
    → (r.since ≡ s.since) × (r.until ≡ s.until) → cause ≡ run_cause entries s → amount_of_part entries roll days feeder o dim key ≡ customer_seconds_in roll r cause feeder days dim key
part_as_run entries roll days feeder cause o r s dim key e v ends c =
    ap (λ (q : Option Run). amount_of_part entries roll days feeder q dim key) e
    ∙ ap (λ (k : ℕ). of_span roll k feeder days dim key s.section s.since s.until) (sym c)
    ∙ ap (λ (k : ℕ). of_span roll cause feeder days dim key k s.since s.until) (sym v)
    ∙ ap (λ (k : ℕ). of_span roll cause feeder days dim key r.section k s.until) (sym ends.0)
    ∙ ap (λ (k : ℕ). of_span roll cause feeder days dim key r.section r.since k) (sym ends.1)

-- ---- another cause
-- so much under one cause, and nothing under any other key
abbrev under_cause : ℕ → ℕ → Dim → ℕ → ℕ
under_cause cause n Cause key = cond (cause == key) n 0
under_cause cause n Feeder key = 0
under_cause cause n Day key = 0

-- one more row of a cause
cause_row : (rows : List Moved) (cause n : ℕ) (z : ℤ) (dim : Dim) (key : ℕ) → z ≡ pos n
    → delta_of (rows ++ record { dim = Cause; key = cause; delta = z } ∷ []) dim key ≡ delta_of rows dim key +ℤ pos (under_cause cause n dim key)
cause_row rows cause n z Cause key e =
    delta_of_push rows (record { dim = Cause; key = cause; delta = z }) Cause key
    ∙ ap (λ (d : ℤ). delta_of rows Cause key +ℤ d) (elim (cases_Bool (cause == key)) [ inl t ↦ rw t e | inr f ↦ rw f refl ])
cause_row rows cause n z Feeder key e = delta_of_push rows (record { dim = Cause; key = cause; delta = z }) Feeder key
cause_row rows cause n z Day key e = delta_of_push rows (record { dim = Cause; key = cause; delta = z }) Day key

add_turned : (i j : ℕ) → i + j ≡ j + i
add_turned i j = omega arith

-- a run's amounts under two causes differ by those under the causes
two_causes : (roll : List Customer) (run : Run) (before after feeder : ℕ) (parts : List Interval) (dim : Dim) (key : ℕ) → run.since ≤ run.until
    → customer_seconds_in roll run after feeder parts dim key + under_cause before (served_seconds roll run.section run.since run.until) dim key
    ≡ customer_seconds_in roll run before feeder parts dim key + under_cause after (served_seconds roll run.section run.since run.until) dim key
two_causes roll run before after feeder parts Cause key l =
    let n : ℕ = served_seconds roll run.section run.since run.until in
    let later : customer_seconds_in roll run after feeder parts Cause key ≡ under_cause after n Cause key = sym (served_is roll run after feeder parts Cause key l) in
    let first : customer_seconds_in roll run before feeder parts Cause key ≡ under_cause before n Cause key = sym (served_is roll run before feeder parts Cause key l) in
    ap₂ (λ (i j : ℕ). i + j) later (sym first) ∙ add_turned (under_cause after n Cause key) (customer_seconds_in roll run before feeder parts Cause key)
two_causes roll run before after feeder parts Feeder key l = refl
two_causes roll run before after feeder parts Day key l = refl

-- a row of the old cause is taken, and one of the new cause given
pub cause_moved : (days : ℕ) (p q : Posting) (roll : List Customer) (run : Run) (before after feeder j k : ℕ) (parts : List Interval) (z : ℤ) (x y : Dim → ℕ → ℕ)
    → q.taken.items ≡ p.taken.items ++ record { dim = Cause; key = j; delta = z } ∷ [] → q.given.items ≡ p.given.items ++ record { dim = Cause; key = k; delta = z } ∷ []
    → j ≡ before → k ≡ after → z ≡ pos (served_seconds roll run.section run.since run.until) → before < 64 → after < 64 → run.since ≤ run.until
    → Balances days p x y → Balances days q (together x (customer_seconds_in roll run before feeder parts)) (together y (customer_seconds_in roll run after feeder parts))
cause_moved days p q roll run before after feeder j k parts z x y t g ej ek ez lb la l b =
    let n : ℕ = served_seconds roll run.section run.since run.until in
    let old : Moved = record { dim = Cause; key = j; delta = z } in
    let new : Moved = record { dim = Cause; key = k; delta = z } in
    let one : Balances days (record p { taken = q.taken }) (together x (under_cause j n)) y =
    more_taken days p (record p { taken = q.taken }) x y (under_cause j n) refl
    (λ keys. subst (HaveKeys days) (sym t) (All-push (λ (m : Moved). IsKey days m.dim m.key) p.taken.items old keys (omega (arith, ej, lb))))
    (λ dim key. ap (λ (rows : List Moved). delta_of rows dim key) t ∙ cause_row p.taken.items j n z dim key ez)
    b in
    let two : Balances days q (together x (under_cause j n)) (together y (under_cause k n)) =
    more_given days (record p { taken = q.taken }) q (together x (under_cause j n)) y (under_cause k n) refl
    (λ keys. subst (HaveKeys days) (sym g) (All-push (λ (m : Moved). IsKey days m.dim m.key) p.given.items new keys (omega (arith, ek, la))))
    (λ dim key. ap (λ (rows : List Moved). delta_of rows dim key) g ∙ cause_row p.given.items k n z dim key ez)
    one in
    same_change days q (together x (under_cause j n)) (together y (under_cause k n)) (together x (customer_seconds_in roll run before feeder parts)) (together y (customer_seconds_in roll run after feeder parts))
    (λ dim key.
    let causes = two_causes roll run before after feeder parts dim key l in
    let is_before : under_cause j n dim key ≡ under_cause before n dim key = ap (λ (i : ℕ). under_cause i n dim key) ej in
    let is_after : under_cause k n dim key ≡ under_cause after n dim key = ap (λ (i : ℕ). under_cause i n dim key) ek in
    omega (arith, causes, is_before, is_after))
    two
