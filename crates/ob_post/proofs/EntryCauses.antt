-- The causes of runs once one entry of the sheet has changed.
use Rattle.std.proofs.Common.{◌≡◌, ◌∙◌, sym, ap, refl, ℕ, ◌==◌, Bool, true, false, cond, List, [], ◌∷◌, ◌++◌, map, get_or, Option, Some, None, is_some, unwrap_or, nat_eq, eq-eqb, inl, inr, arith}
use Rattle.std.specs.List.{All}
use Rattle.std.specs.Option.{option_eq, option_map_or}
use Rattle.std.proofs.lemmas.Bool.{cases_Bool, eqb-true, eqb-false, ne_eqb, true≢false}
use Rattle.std.proofs.lemmas.List.Elements.{All-tail}
use Rattle.ob_sheet.specs.declared.Entry.{Entry}
use Rattle.ob_sheet.specs.Order.{cause_of, entry_of}
use Rattle.ob_post.specs.CauseLaws.{EnteredCause, ChangedCause, SameCause}

-- ---- an entry more
others_before : (entries : List Entry) (e : Entry) (n : ℕ) → (e.no == n) ≡ false → cause_of (entries ++ e ∷ []) n ≡ cause_of entries n
others_before [] e n f = rw f refl
others_before (d ∷ ds) e n f = elim (cases_Bool (d.no == n)) [ inl t ↦ rw t refl | inr g ↦ rw g (others_before ds e n f) ]

new_one : (entries : List Entry) (e : Entry) (n : ℕ) → All (λ d. (d.no == n) ≡ false) entries → (e.no == n) ≡ true → cause_of (entries ++ e ∷ []) n ≡ e.cause
new_one [] e n h t = rw t refl
new_one (d ∷ ds) e n h t = rw (h 0 d (omega arith)) (new_one ds e n (All-tail (λ x. (x.no == n) ≡ false) d ds h) t)

-- the cutter is the entry with this number
abbrev is_cutter : Option ℕ → ℕ → Bool
is_cutter o number = option_eq nat_eq o (Some number)

after_entered : (entries : List Entry) (e : Entry) (o : Option ℕ) → All (λ d. (d.no == e.no) ≡ false) entries
    → option_map_or (cause_of (entries ++ e ∷ [])) o 0 ≡ cond (is_cutter o e.no) e.cause (option_map_or (cause_of entries) o 0)
after_entered entries e None new = refl
after_entered entries e (Some n) new = elim (cases_Bool (n == e.no)) [
  | inl t ↦ rw t (ap (cause_of (entries ++ e ∷ [])) (eqb-true n e.no t) ∙ new_one entries e e.no new (eq-eqb e.no e.no refl))
  | inr f ↦ rw f (others_before entries e n (ne_eqb e.no n (λ same. eqb-false n e.no f (sym same))))
]

pub entered_cause : EnteredCause
entered_cause entries e r numbered next =
    after_entered entries e r.cutter (λ k d l. ne_eqb (get_or entries k d).no e.no (λ same. absurd (omega (arith, same, next, numbered k d l))))

-- ---- an entry that has changed
-- the entries once those with a number have changed
abbrev changed : (Entry → Entry) → ℕ → List Entry → List Entry
changed change number entries = map (λ d. cond (d.no == number) (change d) d) entries

others_stay : (change : Entry → Entry) (number n : ℕ) (entries : List Entry) → ((d : Entry) → d.no ≡ number → (change d).no ≡ number) → (n == number) ≡ false → cause_of (changed change number entries) n ≡ cause_of entries n
others_stay change number n [] keeps apart = refl
others_stay change number n (d ∷ ds) keeps apart = elim (cases_Bool (d.no == number)) [
  | inl t ↦
      let at : d.no ≡ number = eqb-true d.no number t in
      let out : (d.no == n) ≡ false = ne_eqb d.no n (λ same. eqb-false n number apart (sym same ∙ at)) in
      let out_then : ((change d).no == n) ≡ false = ne_eqb (change d).no n (λ same. eqb-false n number apart (sym same ∙ keeps d at)) in
      rw t (rw out (rw out_then (others_stay change number n ds keeps apart)))
  | inr f ↦
      rw f
      (elim (cases_Bool (d.no == n)) [ inl t ↦ rw t refl | inr g ↦ rw g (others_stay change number n ds keeps apart) ])
]

changed_one : (change : Entry → Entry) (number : ℕ) (entries : List Entry) (e : Entry) → ((d : Entry) → d.no ≡ number → (change d).no ≡ number) → entry_of entries number ≡ Some e
    → cause_of (changed change number entries) number ≡ (change e).cause
changed_one change number [] e keeps h = absurd (true≢false (sym (ap is_some h)))
changed_one change number (d ∷ ds) e keeps h = elim (cases_Bool (d.no == number)) [
  | inl t ↦
      let is : d ≡ e = ap (λ (o : Option Entry). unwrap_or o d) (ap (λ (b : Bool). cond b (Some d) (entry_of ds number)) (sym t) ∙ h) in
      let there : ((change d).no == number) ≡ true = eq-eqb (change d).no number (keeps d (eqb-true d.no number t)) in
      rw t (rw there (ap (λ (x : Entry). (change x).cause) is))
  | inr f ↦ rw f (rw f (changed_one change number ds e keeps (ap (λ (b : Bool). cond b (Some d) (entry_of ds number)) (sym f) ∙ h)))
]

after_changed : (change : Entry → Entry) (number : ℕ) (entries : List Entry) (e : Entry) (o : Option ℕ) → ((d : Entry) → d.no ≡ number → (change d).no ≡ number) → entry_of entries number ≡ Some e
    → option_map_or (cause_of (changed change number entries)) o 0 ≡ cond (is_cutter o number) (change e).cause (option_map_or (cause_of entries) o 0)
after_changed change number entries e None keeps h = refl
after_changed change number entries e (Some n) keeps h = elim (cases_Bool (n == number)) [
  | inl t ↦ rw t (ap (cause_of (changed change number entries)) (eqb-true n number t) ∙ changed_one change number entries e keeps h)
  | inr f ↦ rw f (others_stay change number n entries keeps f)
]

pub changed_cause : ChangedCause
changed_cause entries number change e r keeps h = after_changed change number entries e r.cutter keeps h

still : (entries : List Entry) (number : ℕ) (e : Entry) (o : Option ℕ) → entry_of entries number ≡ Some e → cond (is_cutter o number) e.cause (option_map_or (cause_of entries) o 0) ≡ option_map_or (cause_of entries) o 0
still entries number e None h = refl
still entries number e (Some n) h = elim (cases_Bool (n == number)) [
  | inl t ↦ rw t (sym (ap (cause_of entries) (eqb-true n number t) ∙ ap (λ (q : Option Entry). option_map_or (λ (d : Entry). d.cause) q 0) h))
  | inr f ↦ rw f refl
]

pub same_cause : SameCause
same_cause entries number e r h = still entries number e r.cutter h
