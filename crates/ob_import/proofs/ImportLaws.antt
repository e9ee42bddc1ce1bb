-- Laws of imports: a text says one import, and its own import once more adds nothing.
use Rattle.std.proofs.Common.{◌≡◌, ◌≤◌, ◌<◌, ◌∙◌, sym, ap, ap₂, subst, refl, ℕ, zero, suc, ◌+◌, ◌-◌, Bool, true, false, true≢false, List, [], ◌∷◌, ◌++◌, length, cond, Option, Some, None, Result, Ok, Err, inl, inr, ◌||◌, if◌then◌else◌, nat_lt, arith, option_map, bytes_eq}
use Rattle.std.specs.Prelude.{slice_get}
use Rattle.std.specs.List.{position_from}
use Rattle.std.specs.Option.{option_map_or}
use Rattle.std.specs.Result.{is_ok}
use Rattle.std.specs.Bool.{MatchBool}
use Rattle.std.proofs.lemmas.Bool.{le-ltb}
use Rattle.std.proofs.lemmas.Slice.Eq.{bytes_eq-Decides}
use Rattle.std.proofs.lemmas.Iterator.Adapters.{position_from-zero}
use Rattle.ob_base.specs.declared.stop.Refusal.{Refusal}
use Rattle.ob_base.specs.declared.stop.Refusal.TheVariants.{Full, RefConflict}
use Rattle.ob_csv.specs.Rows.{Fields}
use Rattle.ob_command.specs.Commands.{body_text}
use Rattle.ob_command.specs.Fields.{IsRow, RowsSayOneThing}
use Rattle.ob_command.specs.declared.command.Command.{Command}
use Rattle.ob_state.specs.Refusals.{refusal}
use Rattle.ob_book.specs.Acts.{ActState, Referenced, act, acts, answer, answer_new, answer_under, is_accepted, is_known, is_repeat, is_same, number_of, reply_of, take_on}
use Rattle.ob_import.specs.Imports.{AreAnswered, EndsAt, Import, ImportedAgain, ImportsBody, ImportsMakeOneThing, ImportsRows, IsRefused, Say, Says, Taken, after_header, once_more}

-- ---- a text says one import

-- a row says one thing
rows_say : RowsSayOneThing → (row : Fields) (x y : Result (List ℕ × Command) Refusal) → IsRow row x → IsRow row y → x ≡ y
rows_say law [] x y p q = p ∙ sym q
rows_say law (a ∷ []) x y p q = p ∙ sym q
rows_say law (a ∷ b ∷ []) x y p q = p ∙ sym q
rows_say law (a ∷ b ∷ c ∷ []) x y p q = p ∙ sym q
rows_say law (a ∷ b ∷ c ∷ d ∷ []) x y p q = p ∙ sym q
rows_say law (a ∷ b ∷ c ∷ d ∷ e ∷ []) x y p q = p ∙ sym q
rows_say law (a ∷ b ∷ c ∷ d ∷ e ∷ f ∷ []) x y p q = p ∙ sym q
rows_say law (a ∷ b ∷ c ∷ d ∷ e ∷ f ∷ g ∷ []) x y p q = p ∙ sym q
rows_say law (a ∷ b ∷ c ∷ d ∷ e ∷ f ∷ g ∷ h ∷ []) x y p q = law a b c d e f g h x y p q
rows_say law (a ∷ b ∷ c ∷ d ∷ e ∷ f ∷ g ∷ h ∷ i ∷ rest) x y p q = p ∙ sym q

-- what is said, or another command
said_or : Referenced → Result (List ℕ × Command) Refusal → Referenced
said_or other (Ok p) = record { reference = p.0; command = p.1 }
said_or other (Err r) = other

same_command : RowsSayOneThing → (row : Fields) (a c : Referenced) → Says row a → Says row c → a ≡ c
unfolding said_or
same_command law row a c p q = ap (said_or a) (rows_say law row (Ok (a.reference, a.command)) (Ok (c.reference, c.command)) p q)

-- a refusal, or another
refusal_or : {X : Type 0} → Refusal → Result X Refusal → Refusal
refusal_or other (Ok x) = other
refusal_or other (Err r) = r

not_both : {X : Type 0} (r : Result X Refusal) (e : Refusal) → is_ok r ≡ true → r ≡ Err e → ⊥
not_both r e ok is = true≢false (sym ok ∙ ap is_ok is)

same_refusal : RowsSayOneThing → (c : ActState) (row : Fields) (r s : Refusal) → IsRefused c row r → IsRefused c row s → r ≡ s
unfolding refusal_or
same_refusal law c row r s (inl p) (inl q) = ap (refusal_or r) (rows_say law row (Err r) (Err s) p q)
same_refusal law c row r s (inl p) (inr (a, q, e)) = absurd (not_both (Ok (a.reference, a.command)) r refl (rows_say law row (Ok (a.reference, a.command)) (Err r) q p))
same_refusal law c row r s (inr (a, p, e)) (inl q) = absurd (not_both (Ok (a.reference, a.command)) s refl (rows_say law row (Ok (a.reference, a.command)) (Err s) p q))
same_refusal law c row r s (inr (a, p, e)) (inr (a2, q, f)) =
    ap (refusal_or r) (sym e ∙ ap (answer c) (same_command law row a a2 p q) ∙ f)

-- a row that was taken isn't refused
not_refused : RowsSayOneThing → (c : ActState) (row : Fields) (a : Referenced) (r : Refusal) → Says row a → is_ok (answer c a) ≡ true → IsRefused c row r → ⊥
not_refused law c row a r says ok (inl p) = not_both (Ok (a.reference, a.command)) r refl (rows_say law row (Ok (a.reference, a.command)) (Err r) says p)
not_refused law c row a r says ok (inr (a2, q, e)) = not_both (answer c a) r ok (ap (answer c) (same_command law row a a2 says q) ∙ e)

same_end : RowsSayOneThing → (c : ActState) (n : ℕ) (rows : List Fields) (s t : Option (ℕ × Refusal)) → EndsAt c n rows s → EndsAt c n rows t → s ≡ t
same_end law c n [] s t p q = p ∙ sym q
same_end law c n (row ∷ rows) s t (r, is, why) (u, at, since) =
    let one : r ≡ u = elim (nat_lt 1_000_000 n) as (λ past. MatchBool past (r ≡ Full 1_000_000) (IsRefused c row r) → MatchBool past (u ≡ Full 1_000_000) (IsRefused c row u) → r ≡ u) [
      | true ↦ λ p q. p ∙ sym q
      | false ↦ λ p q. same_refusal law c row r u p q
    ] why since in
    is ∙ ap (λ x. Some (n, x)) one ∙ sym at

-- where one import goes on, no other stops
goes_on : RowsSayOneThing → (c : ActState) (n : ℕ) (row : Fields) (rows later : List Fields) (a : Referenced) (s : Option (ℕ × Refusal))
    → n ≤ 1_000_000 → later ≡ row ∷ rows → Says row a → is_ok (answer c a) ≡ true → EndsAt c n later s → ⊥
goes_on law c n row rows [] a s few is says ok ends = cc
goes_on law c n row rows (x ∷ xs) a s few is says ok (r, at, why) =
    let within : nat_lt 1_000_000 n ≡ false = le-ltb 1_000_000 n few in
    let head : x ≡ row = cc in
    let refused : IsRefused c row r = subst (λ z. IsRefused c z r) head (rw within at why) in
    not_refused law c row a r says ok refused

one_end : RowsSayOneThing → (n : ℕ) (b : ActState) (xs ys : List Fields) (list others : List Referenced) (later rest : List Fields) (s t : Option (ℕ × Refusal))
    → xs ++ later ≡ ys ++ rest → Say xs list → Say ys others → AreAnswered b list → AreAnswered b others
    → EndsAt (acts b list) (n + length xs) later s → EndsAt (acts b others) (n + length ys) rest t
    → n + length xs ≤ 1_000_001 → n + length ys ≤ 1_000_001
    → (list ≡ others) × (length xs ≡ length ys) × (s ≡ t)
one_end law n b [] [] [] [] later rest s t split p q v w ends stops l m =
    (refl, refl, same_end law b (n + 0) rest s t (subst (λ z. EndsAt b (n + 0) z s) split ends) stops)
one_end law n b [] (y ∷ ys) [] (c ∷ others) later rest s t split p q v w ends stops l m =
    absurd (goes_on law b (n + 0) y (ys ++ rest) later c s (omega (arith, m)) split q.0 w.0 ends)
one_end law n b (x ∷ xs) [] (a ∷ list) [] later rest s t split p q v w ends stops l m =
    absurd (goes_on law b (n + 0) x (xs ++ later) rest a t (omega (arith, l)) (sym split) p.0 v.0 stops)
one_end law n b (x ∷ xs) (y ∷ ys) (a ∷ list) (c ∷ others) later rest s t split p q v w ends stops l m =
    let head : x ≡ y = cc in
    let tail : xs ++ later ≡ ys ++ rest = cc in
    let one : a ≡ c = same_command law y a c (subst (λ z. Says z a) head p.0) q.0 in
    let at : n + length (x ∷ xs) ≡ n + 1 + length xs = omega arith in
    let to : n + length (y ∷ ys) ≡ n + 1 + length ys = omega arith in
    let more = one_end law (n + 1) (act b c) xs ys list others later rest s t tail p.1 q.1 (subst (λ z. AreAnswered (act b z) list) one v.1) w.1
    (subst (λ z. EndsAt (acts (act b z) list) (n + 1 + length xs) later s) one (subst (λ k. EndsAt (acts (act b a) list) k later s) at ends)) (subst (λ k. EndsAt (acts (act b c) others) k rest t) to stops)
    (omega (arith, l)) (omega (arith, m)) in
    (ap₂ (λ z zs. z ∷ zs) one more.0, let same : length xs ≡ length ys = more.1 in omega (arith, same), more.2)
one_end law n b [] [] [] (c ∷ others) later rest s t split p q v w ends stops l m = absurd q
one_end law n b [] [] (a ∷ list) others later rest s t split p q v w ends stops l m = absurd p
one_end law n b [] (y ∷ ys) (a ∷ list) others later rest s t split p q v w ends stops l m = absurd p
one_end law n b [] (y ∷ ys) [] [] later rest s t split p q v w ends stops l m = absurd q
one_end law n b (x ∷ xs) ys [] others later rest s t split p q v w ends stops l m = absurd p
one_end law n b (x ∷ xs) [] (a ∷ list) (c ∷ others) later rest s t split p q v w ends stops l m = absurd q
one_end law n b (x ∷ xs) (y ∷ ys) (a ∷ list) [] later rest s t split p q v w ends stops l m = absurd q

same_import : (s t : ActState) (a c g h : ℕ) (x y : Option (ℕ × Refusal)) → s ≡ t → a ≡ c → g ≡ h → x ≡ y
    → ◌≡◌ {A = Import} (record { state = s; added = a; again = g; stopped = x }) (record { state = t; added = c; again = h; stopped = y })
same_import s t a c g h x y e f i j = rw (e, f, i, j) refl

one_of_rows : RowsSayOneThing → (b : ActState) (rows : List Fields) (i j : Import) → ImportsRows b rows i → ImportsRows b rows j → i ≡ j
one_of_rows law b rows i j (later, (xs, split, p), ends) (rest, (ys, cut, q), stops) =
    let at : i.added + i.again + 1 ≡ 1 + length xs = omega (arith, p.all) in
    let to : j.added + j.again + 1 ≡ 1 + length ys = omega (arith, q.all) in
    let both = one_end law 1 b xs ys p.commands q.commands later rest i.stopped j.stopped (sym split ∙ cut) p.say q.say p.answered q.answered
    (subst (λ c. EndsAt c (1 + length xs) later i.stopped) p.state (subst (λ k. EndsAt i.state k later i.stopped) at ends))
    (subst (λ c. EndsAt c (1 + length ys) rest j.stopped) q.state (subst (λ k. EndsAt j.state k rest j.stopped) to stops))
    (omega (arith, p.few)) (omega (arith, q.few)) in
    let state : i.state ≡ j.state = p.state ∙ ap (acts b) both.0 ∙ sym q.state in
    let total : length i.state.accepted ≡ length j.state.accepted = ap (λ (c : ActState). length c.accepted) state in
    let added : i.added ≡ j.added = omega (arith, p.grown, q.grown, total) in
    let again : i.again ≡ j.again = omega (arith, p.all, q.all, added, both.1) in
    same_import i.state j.state i.added j.added i.again j.again i.stopped j.stopped state added again both.2

pub one_import : RowsSayOneThing → ImportsMakeOneThing
one_import law b rows i j = elim (after_header rows) as (λ body. ImportsBody b body i → ImportsBody b body j → i ≡ j) [
  | None ↦ λ p q. p ∙ sym q
  | Some body ↦ λ p q. one_of_rows law b body i j p q
]

-- ---- an import once more

module _ {X : Type 0} (p : X → Bool) where
  -- an item that is found is found in a longer list
  from_append : (xs ys : List X) (i k : ℕ) → position_from p i xs ≡ Some k → position_from p i (xs ++ ys) ≡ Some k
  from_append [] ys i k e = cc
  from_append (x ∷ xs) ys i k e = elim (p x) as (λ t. cond t (Some i) (position_from p (i + 1) xs) ≡ Some k → cond t (Some i) (position_from p (i + 1) (xs ++ ys)) ≡ Some k) [
    | true ↦ λ h. h
    | false ↦ λ h. from_append xs ys (i + 1) k h
  ] e

  -- an item that passes, after those that don't, is found
  from_push : (xs : List X) (y : X) (i : ℕ) → position_from p i xs ≡ None → p y ≡ true → position_from p i (xs ++ y ∷ []) ≡ Some (i + length xs)
  from_push [] y i none h = rw h (ap Some (let e : i ≡ i + 0 = omega arith in e))
  from_push (x ∷ xs) y i none h = elim (p x) as (λ t. cond t (Some i) (position_from p (i + 1) xs) ≡ None → cond t (Some i) (position_from p (i + 1) (xs ++ y ∷ [])) ≡ Some (i + length (x ∷ xs))) [
    | true ↦ λ e. cc
    | false ↦ λ e. from_push xs y (i + 1) e h ∙ ap Some (let same : i + 1 + length xs ≡ i + length (x ∷ xs) = omega arith in same)
  ] none

  -- the place of an item that passes is in the list
  from_within : (xs : List X) (i k : ℕ) → position_from p i xs ≡ Some k → k < i + length xs
  from_within [] i k e = cc
  from_within (x ∷ xs) i k e = elim (p x) as (λ t. cond t (Some i) (position_from p (i + 1) xs) ≡ Some k → k < i + length (x ∷ xs)) [
    | true ↦ λ h. let at : i ≡ k = cc in omega (arith, at)
    | false ↦ λ h. let later : k < i + 1 + length xs = from_within xs (i + 1) k h in omega (arith, later)
  ] e

get_append : {X : Type 0} (xs ys : List X) (i : ℕ) (x : X) → slice_get xs i ≡ Some x → slice_get (xs ++ ys) i ≡ Some x
get_append [] ys i x e = cc
get_append (z ∷ xs) ys zero x e = e
get_append (z ∷ xs) ys (suc i) x e = get_append xs ys i x e

get_push : {X : Type 0} (xs : List X) (y : X) → slice_get (xs ++ y ∷ []) (length xs) ≡ Some y
get_push [] y = refl
get_push (x ∷ xs) y = get_push xs y

-- the reference is that of an accepted command which is the same
abbrev is_kept : ActState → Referenced → Bool
is_kept b a = option_map_or (λ n. is_repeat b n a.command) (number_of b a.reference) false

-- under which number a reference stands
abbrev place_in : List Referenced → List ℕ → Option ℕ
place_in accepted reference = position_from (λ (c : Referenced). bytes_eq c.reference reference) 0 accepted

number_is : (b : ActState) (r : List ℕ) → number_of b r ≡ option_map (λ place. place + 1) (place_in b.accepted r)
number_is b r = ap (option_map (λ place. place + 1)) (position_from-zero (λ (c : Referenced). bytes_eq c.reference r) b.accepted)

same_bytes : (bs : List ℕ) → bytes_eq bs bs ≡ true
same_bytes bs = (bytes_eq-Decides bs bs).1 refl

repeat_of : (b : ActState) (n : ℕ) (a : Referenced) → slice_get b.accepted (n - 1) ≡ Some a → is_repeat b n a.command ≡ true
repeat_of b n a e = rw e (same_bytes (body_text a.command))

-- a new command that was accepted is kept
new_kept : (b : ActState) (a : Referenced) → number_of b a.reference ≡ None → is_kept (take_on b a) a ≡ true
new_kept b a none =
    let free : place_in b.accepted a.reference ≡ None = elim (place_in b.accepted a.reference) as (λ o. option_map (λ place. place + 1) o ≡ None → o ≡ None) [ None ↦ λ h. refl | Some k ↦ λ h. cc ] (sym (number_is b a.reference) ∙ none) in
    let at : place_in (b.accepted ++ a ∷ []) a.reference ≡ Some (0 + length b.accepted) = from_push (λ (c : Referenced). bytes_eq c.reference a.reference) b.accepted a 0 free (same_bytes a.reference) in
    let number : number_of (take_on b a) a.reference ≡ Some (0 + length b.accepted + 1) = number_is (take_on b a) a.reference ∙ ap (option_map (λ place. place + 1)) at in
    let back : 0 + length b.accepted + 1 - 1 ≡ length b.accepted = omega arith in
    rw number (repeat_of (take_on b a) (0 + length b.accepted + 1) a (rw back (get_push b.accepted a)))

-- what is kept stays so
kept_on : (b : ActState) (c a : Referenced) → is_kept b a ≡ true → is_kept (take_on b c) a ≡ true
kept_on b c a h = elim (place_in b.accepted a.reference) as (λ o. place_in b.accepted a.reference ≡ o → is_kept (take_on b c) a ≡ true) [
  | None ↦ λ e. absurd (true≢false (sym h ∙ ap (λ o. option_map_or (λ n. is_repeat b n a.command) o false) (number_is b a.reference ∙ ap (option_map (λ place. place + 1)) e)))
  | Some k ↦ λ e.
      let was : is_repeat b (k + 1) a.command ≡ true = sym (ap (λ o. option_map_or (λ n. is_repeat b n a.command) o false) (number_is b a.reference ∙ ap (option_map (λ place. place + 1)) e)) ∙ h in
      let number : number_of (take_on b c) a.reference ≡ Some (k + 1) = number_is (take_on b c) a.reference
      ∙ ap (option_map (λ place. place + 1)) (from_append (λ (x : Referenced). bytes_eq x.reference a.reference) b.accepted (c ∷ []) 0 k e) in
      rw number (elim (slice_get b.accepted (k + 1 - 1)) as (λ o. slice_get b.accepted (k + 1 - 1) ≡ o → option_map_or (λ (x : Referenced). is_same x.command a.command) o false ≡ true → is_repeat (take_on b c) (k + 1) a.command ≡ true) [
        | None ↦ λ f g. absurd (true≢false (sym g))
        | Some x ↦ λ f g. rw (get_append b.accepted (c ∷ []) (k + 1 - 1) x f) g
      ] refl was)
] refl

act_keeps : (b : ActState) (c a : Referenced) → is_kept b a ≡ true → is_kept (act b c) a ≡ true
act_keeps b c a h = elim (is_accepted b c) as (λ t. is_kept (if t then take_on b c else b) a ≡ true) [ true ↦ kept_on b c a h | false ↦ h ]

acts_keep : (b : ActState) (list : List Referenced) (a : Referenced) → is_kept b a ≡ true → is_kept (acts b list) a ≡ true
acts_keep b [] a h = h
acts_keep b (c ∷ list) a h = acts_keep (act b c) list a (act_keeps b c a h)

-- a command that was answered is kept, and it was accepted or known
answered_kept : (b : ActState) (a : Referenced) → is_ok (answer b a) ≡ true → (is_kept (act b a) a ≡ true) × ((is_accepted b a || is_known b a) ≡ true)
answered_kept b a ok = elim (number_of b a.reference) as (λ o. number_of b a.reference ≡ o → is_ok (answer_under b a o) ≡ true
    → (is_kept (act b a) a ≡ true) × ((is_accepted b a || is_known b a) ≡ true)) [
      | None ↦ λ e. elim (refusal b.book a.command) as (λ r. refusal b.book a.command ≡ r → is_ok (answer_new b a.command r) ≡ true → (is_kept (act b a) a ≡ true) × ((is_accepted b a || is_known b a) ≡ true)) [
        | None ↦ λ f _. let yes_new : is_accepted b a ≡ true = rw (e, f) refl in
            (rw yes_new (new_kept b a e), rw yes_new refl)
        | Some r ↦ λ f h. absurd (true≢false (sym h))
      ] refl
      | Some n ↦ λ e. elim (is_repeat b n a.command) as (λ t. is_repeat b n a.command ≡ t → is_ok (if t then Ok (reply_of b n) else Err (RefConflict n)) ≡ true → (is_kept (act b a) a ≡ true) × ((is_accepted b a || is_known b a) ≡ true)) [
        | true ↦ λ f _. let old : is_accepted b a ≡ false = rw e refl in
            (rw old (rw (e, f) refl), rw (old, e) refl)
        | false ↦ λ f h. absurd (true≢false (sym h))
      ] refl
    ] refl ok

-- a kept command is answered again, and changes nothing
kept_answered : (b : ActState) (a : Referenced) → is_kept b a ≡ true → (is_ok (answer b a) ≡ true) × (act b a ≡ b)
kept_answered b a h = elim (number_of b a.reference) as (λ o. number_of b a.reference ≡ o → option_map_or (λ n. is_repeat b n a.command) o false ≡ true → (is_ok (answer b a) ≡ true) × (act b a ≡ b)) [
  | None ↦ λ e f. absurd (true≢false (sym f))
  | Some n ↦ λ e f. (rw (e, f) refl, rw e refl)
] refl h

abbrev AllKept : ActState → List Referenced → Type 0
AllKept c [] = Unit {0}
AllKept c (a ∷ list) = (is_kept c a ≡ true) × AllKept c list

all_kept : (b : ActState) (list : List Referenced) → AreAnswered b list → AllKept (acts b list) list
all_kept b [] h = tt
all_kept b (a ∷ list) h = (acts_keep (act b a) list a (answered_kept b a h.0).0, all_kept (act b a) list h.1)

answered_again : (c : ActState) (list : List Referenced) → AllKept c list → AreAnswered c list × (acts c list ≡ c)
answered_again c [] h = (tt, refl)
answered_again c (a ∷ list) h =
    let one = kept_answered c a h.0 in
    let more = answered_again c list h.1 in
    ((one.0, subst (λ s. AreAnswered s list) (sym one.1) more.0), ap (λ s. acts s list) one.1 ∙ more.1)

taken_again : (b c : ActState) (rows : List Fields) (added again : ℕ) → Taken b c rows added again → Taken c c rows 0 (added + again)
taken_again b c rows added again t =
    let both : AreAnswered c t.commands × (acts c t.commands ≡ c) = answered_again c t.commands (subst (λ s. AllKept s t.commands) (sym t.state) (all_kept b t.commands t.answered)) in
    record {
      commands = t.commands;
      say = t.say;
      answered = both.0;
      state = sym both.1;
      grown = let e : length c.accepted + 0 ≡ length c.accepted = omega arith in e;
      all = let e : 0 + (added + again) ≡ length rows = omega (arith, t.all) in e;
      few = t.few;
    }

rows_again : (b : ActState) (rows : List Fields) (i : Import) → ImportsRows b rows i → ImportsRows i.state rows (once_more i)
rows_again b rows i (later, (done, split, t), ends) =
    let at : i.added + i.again + 1 ≡ 0 + (i.added + i.again) + 1 = omega arith in
    (later, (done, split, taken_again b i.state done i.added i.again t), subst (λ k. EndsAt i.state k later i.stopped) at ends)

pub import_again : ImportedAgain
import_again b rows i = elim (after_header rows) as (λ body. ImportsBody b body i → ImportsBody i.state body (once_more i)) [
  | None ↦ λ h. rw h refl
  | Some body ↦ λ h. rows_again b body i h
]
