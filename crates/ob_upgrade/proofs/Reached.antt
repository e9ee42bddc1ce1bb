-- Books of version 1 and of today, by their commands under references.
use Rattle.std.proofs.Common.{◌≡◌, ◌∙◌, ◌≤◌, ◌+◌, ◌&&◌, sym, ap, ap₂, refl, suc, Bool, true, false, List, [], ◌∷◌, length, length-append, map, fold, Some, None, is_none, if◌then◌else◌, arith}
use Rattle.std.proofs.lemmas.Bool.{and_parts}
use Rattle.ob_state.specs.Next.{next}
use Rattle.ob_state.specs.Refusals.{refusal}
use Rattle.ob_state.specs.State.{BookState}
use Rattle.ob_book.specs.Acts.{ActState, Referenced, act, acts, is_accepted, number_of, start, take_on}
use Rattle.ob_upgrade.proofs.Whole.{accepted_but_for_parts, goes_on}
use Rattle.ob_upgrade.specs.Laws.{ReachedByBoth}
use Rattle.ob_upgrade.specs.Old.{fits_old, old_accepts, old_act, old_acts, old_is_accepted, old_next_all}

-- commands that pass a test are taken on
module _ (test : ActState → Referenced → Bool) where
  abbrev step : ActState → Referenced → ActState
  step s x = if test s x then take_on s x else s

  at_most : (s : ActState) (list : List Referenced) → length (fold step s list).accepted ≤ length s.accepted + length list
  at_most s [] = omega arith
  at_most s (x ∷ list) = elim (test s x) as (λ t. length (fold step (if t then take_on s x else s) list).accepted ≤ length s.accepted + suc (length list)) [
    | true ↦ let more = at_most (take_on s x) list in omega (arith, more, length-append s.accepted (x ∷ []))
    | false ↦ let more = at_most s list in omega (arith, more)
  ]

  -- where each was taken on, the first passed
  first_passes : (s : ActState) (x : Referenced) (list : List Referenced)
      → length (fold step s (x ∷ list)).accepted ≡ length s.accepted + suc (length list) → test s x ≡ true
  first_passes s x list = elim (test s x) as (λ t. length (fold step (if t then take_on s x else s) list).accepted ≡ length s.accepted + suc (length list) → t ≡ true) [
    | true ↦ λ e. refl
    | false ↦ λ e. let most = at_most s list in absurd (omega (arith, most, e))
  ]

  rest_taken : (s : ActState) (x : Referenced) (list : List Referenced) → test s x ≡ true
      → length (fold step s (x ∷ list)).accepted ≡ length s.accepted + suc (length list)
      → length (fold step (take_on s x) list).accepted ≡ length (take_on s x).accepted + length list
  rest_taken s x list passes e =
      let led : length (fold step s (x ∷ list)).accepted ≡ length (fold step (take_on s x) list).accepted =
      ap (λ t. length (fold step (if t then take_on s x else s) list).accepted) passes in
      omega (arith, e, led, length-append s.accepted (x ∷ []))

-- from a state on
taken_by_both : (s : ActState) (list : List Referenced) → length (old_acts s list).accepted ≡ length s.accepted + length list
    → (acts s list ≡ old_acts s list) × (old_next_all s.book (map (λ a. a.command) list) ≡ Some (old_acts s list).book)
taken_by_both s [] e = (refl, refl)
taken_by_both s (x ∷ list) e =
    let passes = first_passes old_is_accepted s x list e in
    let parts = and_parts (is_none (number_of s x.reference)) (old_accepts s.book x.command) passes in
    let today = and_parts (fits_old s.book.entries x.command) (is_none (refusal s.book x.command)) (sym (accepted_but_for_parts s.book x.command) ∙ parts.1) in
    let taken : is_accepted s x ≡ true = ap₂ (λ a b. a && b) parts.0 today.1 in
    let rest = taken_by_both (take_on s x) list (rest_taken old_is_accepted s x list passes e) in
    let led : old_acts s (x ∷ list) ≡ old_acts (take_on s x) list = ap (λ t. fold old_act (if t then take_on s x else s) list) passes in (
      ap (λ t. fold act (if t then take_on s x else s) list) taken ∙ rest.0 ∙ sym led,
      ap (λ t. if t then old_next_all (next s.book x.command) (map (λ a. a.command) list) else None) parts.1 ∙ rest.1 ∙ ap (λ (b : ActState). Some b.book) (sym led),
    )

taken_by_old : (s : ActState) (list : List Referenced) (c : BookState) → length (acts s list).accepted ≡ length s.accepted + length list
    → old_next_all s.book (map (λ a. a.command) list) ≡ Some c → old_acts s list ≡ acts s list
taken_by_old s [] c e h = refl
taken_by_old s (x ∷ list) c e h =
    let passes = first_passes is_accepted s x list e in
    let fresh = (and_parts (is_none (number_of s x.reference)) (is_none (refusal s.book x.command)) passes).0 in
    let on = goes_on (old_accepts s.book x.command) (old_next_all (next s.book x.command) (map (λ a. a.command) list)) c h in
    let taken : old_is_accepted s x ≡ true = ap₂ (λ a b. a && b) fresh on.0 in
    ap (λ t. fold old_act (if t then take_on s x else s) list) taken
    ∙ taken_by_old (take_on s x) list c (rest_taken is_accepted s x list passes e) on.1
    ∙ sym (ap (λ t. fold act (if t then take_on s x else s) list) passes)

pub reached_by_both : ReachedByBoth
reached_by_both p b = (
  λ h.
      let each : length (old_acts (start p) b.accepted).accepted ≡ length b.accepted = ap (λ (s : ActState). length s.accepted) h in
      let both = taken_by_both (start p) b.accepted (omega (arith, each)) in
      (both.0 ∙ h, both.1 ∙ ap (λ (s : ActState). Some s.book) h),
  λ h.
      let each : length (acts (start p) b.accepted).accepted ≡ length b.accepted = ap (λ (s : ActState). length s.accepted) h.0 in
      taken_by_old (start p) b.accepted b.book (omega (arith, each)) h.1 ∙ h.0,
)
