-- Acts of a whole list of commands, each of them accepted.
use Rattle.std.proofs.Common.{◌≡◌, ◌≢◌, ℕ, zero, suc, ◌+◌, ◌<◌, ◌≤◌, ◌&&◌, Bool, true, false, List, [], ◌∷◌, ◌++◌, Some, None, is_none, if◌then◌else◌, length, get_or, refl, sym, ap, ap₂, subst, ◌∙◌, arith, true≢false, bytes_eq, inl, inr, nat_lt, append_assoc, length-append}
use Rattle.std.specs.List.{position_or_len}
use Rattle.std.proofs.Math.Seq.{get_or-append_seam}
use Rattle.std.proofs.lemmas.Bool.{cases_Bool, cases_lt, lt-ltb}
use Rattle.std.proofs.lemmas.Bool.Decides.{nat_tests}
use Rattle.std.proofs.lemmas.List.{append-nil, get_or_append_left}
use Rattle.std.proofs.lemmas.List.Quantifiers.{all_pairs_push}
use Rattle.std.proofs.lemmas.List.Sums.{fails_before_first}
use Rattle.std.proofs.lemmas.Slice.Eq.{bytes_eq-Decides}
use Rattle.ob_command.specs.declared.command.Command.{Command}
use Rattle.ob_state.specs.State.{BookState, empty_book}
use Rattle.ob_state.specs.Refusals.{refusal}
use Rattle.ob_state.specs.Next.{next, next_all}
use Rattle.ob_book.specs.Acts.{ActState, Referenced, act, acts, is_accepted, number_of, start, take_on, PeriodStays}
use Rattle.ob_record.specs.Tables.{moved_rows}
use Rattle.ob_sql_read.specs.Moves.{commands_of}
use Rattle.ob_sql_read.specs.Distinct.{AreDistinct, ReachedByCommands, ActsAreAccepted, MovedIsOf}

same_bytes : (bs : List ℕ) → bytes_eq bs bs ≡ true
same_bytes bs = (bytes_eq-Decides bs bs).1 refl

-- ---- references that stand once
-- no command of the list has the reference
abbrev IsFree : List ℕ → List Referenced → Type 0
IsFree r list = (k : ℕ) (d : Referenced) → k < length list → (get_or list k d).reference ≢ r

all_free : (r : List ℕ) (list : List Referenced) → IsFree r list → position_or_len (λ a. bytes_eq a.reference r) list ≡ length list
all_free r [] free = refl
all_free r (a ∷ list) free = elim (cases_Bool (bytes_eq a.reference r)) [
  | inl same ↦ absurd (free zero a (omega arith) ((bytes_eq-Decides a.reference r).0 same))
  | inr other ↦ let rest = all_free r list (λ k d low. free (suc k) d (omega (arith, low))) in let step : 1 + length list ≡ length (a ∷ list) = omega arith in rw (other, rest) step
]

number_new : (b : ActState) (r : List ℕ) → IsFree r b.accepted → number_of b r ≡ None
number_new b r free =
    let at = all_free r b.accepted free in
    let past : nat_lt (length b.accepted) (length b.accepted) ≡ false = grind (arith, nat_tests) in
    rw (at, past)

none_free : (b : ActState) (r : List ℕ) → number_of b r ≡ None → IsFree r b.accepted
none_free b r none k d low same =
    let has : Referenced → Bool = λ a. bytes_eq a.reference r in
    elim (cases_lt (position_or_len has b.accepted) (length b.accepted)) [
      | inl lt ↦ absurd (let found = rw (lt-ltb (position_or_len has b.accepted) (length b.accepted) lt) at none in cc)
      | inr ge ↦ true≢false (sym ((bytes_eq-Decides (get_or b.accepted k d).reference r).1 same) ∙ fails_before_first has b.accepted k d (omega (arith, ge, low)))
    ]

-- the first of the list is not under a reference of those before it
first_free : (xs ys : List Referenced) (a : Referenced) → AreDistinct (xs ++ a ∷ ys) → IsFree a.reference xs
first_free xs ys a apart k d low same =
    let left = get_or_append_left xs (a ∷ ys) d k low in
    let here = get_or-append_seam xs a ys d in
    apart k (length xs) d low (omega (arith, length-append xs (a ∷ ys))) (ap (λ (x : Referenced). x.reference) left ∙ same ∙ ap (λ (x : Referenced). x.reference) (sym here))

-- ---- from commands to acts
accepted_first : (b : BookState) (c : Command) (more : List Command) (s : BookState) → next_all b (c ∷ more) ≡ Some s → (refusal b c ≡ None) × (next_all (next b c) more ≡ Some s)
accepted_first b c more s led = elim (refusal b c) as (λ o. (if is_none o then next_all (next b c) more else None) ≡ Some s → (o ≡ None) × (next_all (next b c) more ≡ Some s)) [
  | None ↦ λ e. (refl, e)
  | Some r ↦ λ e. absurd cc
] led

same_some : {X : Type 0} (x y : X) → Some x ≡ Some y → x ≡ y
same_some x y e = cc

reach : (b : ActState) (list : List Referenced) (s : BookState) → AreDistinct (b.accepted ++ list) → next_all b.book (commands_of list) ≡ Some s → acts b list ≡ record { book = s; accepted = b.accepted ++ list }
reach b [] s apart led = ap₂ (λ (t : BookState) xs. record { book = t; accepted = xs }) (same_some b.book s led) (sym (append-nil b.accepted))
reach b (a ∷ list) s apart led =
    let it = accepted_first b.book a.command (commands_of list) s led in
    let new = number_new b a.reference (first_free b.accepted list a apart) in
    let none = it.0 in
    let took : act b a ≡ take_on b a = rw (new, none) refl in
    let one = append_assoc b.accepted (a ∷ []) list in
    ap (λ x. acts x list) took ∙ reach (take_on b a) list s (subst AreDistinct (sym one) apart) it.1 ∙ ap (λ xs. record { book = s; accepted = xs }) one

pub reached_by_commands : ReachedByCommands
reached_by_commands p list s apart led = reach (start p) list s apart led

-- ---- from acts to commands
act_adds : (b : ActState) (a : Referenced) → length (act b a).accepted ≤ length b.accepted + 1
act_adds b a = elim (is_accepted b a) as (λ t. length (if t then take_on b a else b).accepted ≤ length b.accepted + 1) [
  | true ↦ omega (arith, length-append b.accepted (a ∷ []))
  | false ↦ omega arith
]

acts_add : (b : ActState) (list : List Referenced) → length (acts b list).accepted ≤ length b.accepted + length list
acts_add b [] = omega arith
acts_add b (a ∷ list) = omega (arith, act_adds b a, acts_add (act b a) list)

accepted_new : (b : ActState) (a : Referenced) → is_accepted b a ≡ true → (number_of b a.reference ≡ None) × (refusal b.book a.command ≡ None)
accepted_new b a h = elim (number_of b a.reference) as (λ n. (is_none n && is_none (refusal b.book a.command)) ≡ true → (n ≡ None) × (refusal b.book a.command ≡ None)) [
  | None ↦ λ e. (refl, elim (refusal b.book a.command) as (λ r. is_none r ≡ true → r ≡ None) [ None ↦ λ x. refl | Some r ↦ λ x. absurd (true≢false (sym x)) ] e)
  | Some n ↦ λ e. absurd (true≢false (sym e))
] h

-- what acts that accept the whole list say of it
abbrev AllTaken : ActState → List Referenced → Type 0
AllTaken b list = AreDistinct (b.accepted ++ list) × (next_all b.book (commands_of list) ≡ Some (acts b list).book)

all_taken : (b : ActState) (list : List Referenced) → AreDistinct b.accepted → (acts b list).accepted ≡ b.accepted ++ list → AllTaken b list
all_taken b [] apart is = (subst AreDistinct (sym (append-nil b.accepted)) apart, refl)
all_taken b (a ∷ list) apart is = elim (cases_Bool (is_accepted b a)) [
  | inr refused ↦ absurd (
      let left : act b a ≡ b = rw refused refl in
      let same : (acts b list).accepted ≡ b.accepted ++ a ∷ list = ap (λ x. (acts x list).accepted) (sym left) ∙ is in
      omega (arith, ap length same, acts_add b list, length-append b.accepted (a ∷ list)))
  | inl accepted ↦
      let took : act b a ≡ take_on b a = rw accepted refl in
      let both = accepted_new b a accepted in
      let one = append_assoc b.accepted (a ∷ []) list in
      let more = all_pairs_push (λ (x y : Referenced). x.reference ≢ y.reference) b.accepted a apart (none_free b a.reference both.0) in
      let same = ap (λ x. (acts x list).accepted) (sym took) ∙ is ∙ sym one in
      let it = all_taken (take_on b a) list more same in
      let none = both.1 in
      let led : next_all b.book (commands_of (a ∷ list)) ≡ Some (acts (take_on b a) list).book = rw none it.1 in
      (subst AreDistinct one it.0, led ∙ ap (λ x. Some (acts x list).book) (sym took))
]

none_apart : AreDistinct []
none_apart i j d below within = absurd (omega (arith, within))

pub acts_are_accepted : ActsAreAccepted
acts_are_accepted p list is = all_taken (start p) list none_apart is

-- ---- what the commands moved
module _ (stays : PeriodStays) where
  act_period : (b : ActState) (a : Referenced) → (act b a).book.period ≡ b.book.period
  act_period b a = elim (is_accepted b a) as (λ t. (if t then take_on b a else b).book.period ≡ b.book.period) [ true ↦ stays b.book a.command | false ↦ refl ]

  acts_period : (b : ActState) (list : List Referenced) → (acts b list).book.period ≡ b.book.period
  acts_period b [] = refl
  acts_period b (a ∷ list) = acts_period (act b a) list ∙ act_period b a

  pub moved_is_of : MovedIsOf
  moved_is_of p list is = ap₂ (λ q xs. moved_rows (empty_book q) 1 xs) (sym (acts_period (start p) list)) (sym is)
