-- A row of a kind that a book alone has: what a book reads in it is no command of `total`.
use Rattle.std.proofs.Common.{◌≡◌, ◌∙◌, ap, sym, refl, ℕ, ◌+◌, true, false, List, [], ◌∷◌, Option, Some, None, Result, Ok, Err, is_ok, option_map, codes, bytes_eq, if◌then◌else◌}
use Rattle.std.proofs.lemmas.Bool.{true≢false}
use Rattle.std.specs.Prelude.{IsOk}
use Rattle.ob_base.specs.Fields.{act_in, cause_in, serial_in}
use Rattle.ob_base.specs.Identifier.{identifier_in}
use Rattle.ob_base.specs.declared.stop.Refusal.{Refusal}
use Rattle.ob_base.specs.declared.stop.Refusal.TheVariants.{BadField}
use Rattle.ob_csv.specs.Rows.{Fields}
use Rattle.ob_command.specs.Commands.{service_between}
use Rattle.ob_command.specs.Fields as fields
use Rattle.ob_command.specs.declared.command.Command.{Command as BookCommand}
use Rattle.ob_command.specs.declared.command.Command.TheVariants.{Revise, Withdraw, Mark, Unmark}
use Rattle.ob_agreement.specs.Readings.{as_counted, is_of_book_alone, read_as_counted}
use Rattle.ob_agreement.proofs.Columns.{of_book, referred_counted}
use Rattle.ob_agreement.proofs.KindTexts.{by_word, is_alone}
use Rattle.ob_agreement.proofs.Lengths.{by_length}

-- what a book reads is a refusal, or no command of `total`
abbrev IsOther : Result BookCommand Refusal → Type 0
IsOther read = is_ok (of_book read) ≡ false

-- ---- it is so whatever the columns say
column_other : {A : Type 0} (n : ℕ) (o : Option A) (g : A → Result BookCommand Refusal) → ((a : A) → IsOther (g a)) → IsOther (fields.with_field n o g)
column_other n None g other = refl
column_other n (Some a) g other = other a

column_read_other : {A B : Type 0} (n : ℕ) (o : Option A) (r : A → Result B Refusal) (g : B → Result BookCommand Refusal)
    → ((a : A) → IsOther (fields.with_read (r a) g)) → IsOther (fields.with_read (fields.with_field n o r) g)
column_read_other n None r g other = refl
column_read_other n (Some a) r g other = other a

rest_other : (n : ℕ) (rest : List (List ℕ)) (k : BookCommand) → is_ok (as_counted k) ≡ false → IsOther (fields.with_unused n rest (Ok k))
rest_other n [] k other = other
rest_other n ([] ∷ rest) k other = rest_other (n + 1) rest k other
rest_other n ((byte ∷ bytes) ∷ rest) k other = refl

after : {said x : Result BookCommand Refusal} → said ≡ x → IsOther x → IsOther said
after is other = ap (λ r. is_ok (of_book r)) is ∙ other

-- behind a bad reference too
referred_other : (o : Option (List ℕ)) (said : Result (List ℕ × BookCommand) Refusal) (P : Result BookCommand Refusal → Type 0)
    → fields.IsReferred o P said → ((command : Result BookCommand Refusal) → P command → IsOther command) → is_ok (read_as_counted said) ≡ false
referred_other None said P is other = ap (λ r. is_ok (read_as_counted r)) is
referred_other (Some name) said P is other = ap (λ r. is_ok (read_as_counted r)) is.2 ∙ ap (λ r. is_ok r) (referred_counted name is.0) ∙ other is.0 is.1

module _ (reference f1 f2 f3 f4 f5 f6 : List ℕ) (said : Result (List ℕ × BookCommand) Refusal) where
  -- a row of this kind, reference and fields in which a book reads a command of `total` is shared
  abbrev IsShared : List ℕ → Type 0
  IsShared kind = fields.IsRow (kind ∷ reference ∷ f1 ∷ f2 ∷ f3 ∷ f4 ∷ f5 ∷ f6 ∷ []) said → is_ok (read_as_counted said) ≡ true → is_alone kind ≡ false

  revise_case : IsShared (codes "revise")
  revise_case is counted =
      absurd (true≢false (sym counted ∙ referred_other (identifier_in 40 reference) said _ is (λ command h. after h.4
      (column_other 3 (serial_in f1) _ (λ customer. column_read_other 4 h.0 _ _ (λ since.
      column_read_other 5 (if bytes_eq f3 [] then Some None else option_map {U = Option ℕ} (λ s. Some s) h.1) _ _ (λ until. rest_other 6 (f4 ∷ f5 ∷ f6 ∷ []) (Revise customer (service_between since until)) refl)))))))

  correct_case : IsShared (codes "correct")
  correct_case is counted =
      absurd (true≢false (sym counted ∙ referred_other (identifier_in 40 reference) said _ is (λ command h. after h.2
      (column_other 3 (serial_in f1) _ (λ entry. column_other 4 (serial_in f2) _ (λ revision. column_read_other 5 (act_in f3) _ _ (λ act. column_read_other 6 h.0 _ _ (λ second.
      column_read_other 7 (cause_in f5) _ _ (λ cause. column_read_other 8 (identifier_in 16 f6) _ _ (λ crew. refl))))))))))

  withdraw_case : IsShared (codes "withdraw")
  withdraw_case is counted =
      absurd (true≢false (sym counted ∙ referred_other (identifier_in 40 reference) said _ is (λ command h. after h
      (column_other 3 (serial_in f1) _ (λ entry. column_other 4 (serial_in f2) _ (λ revision. rest_other 5 (f3 ∷ f4 ∷ f5 ∷ f6 ∷ []) (Withdraw entry revision) refl))))))

  mark_case : IsShared (codes "mark")
  mark_case is counted =
      absurd (true≢false (sym counted ∙ referred_other (identifier_in 40 reference) said _ is (λ command h. after h.2
      (column_other 3 h.0 _ (λ date. column_other 4 (identifier_in 16 f2) _ (λ engineer. rest_other 5 (f3 ∷ f4 ∷ f5 ∷ f6 ∷ []) (Mark date engineer) refl))))))

  unmark_case : IsShared (codes "unmark")
  unmark_case is counted =
      absurd (true≢false (sym counted ∙ referred_other (identifier_in 40 reference) said _ is (λ command h. after h.2
      (column_other 3 h.0 _ (λ date. column_other 4 (identifier_in 16 f2) _ (λ engineer. rest_other 5 (f3 ∷ f4 ∷ f5 ∷ f6 ∷ []) (Unmark date engineer) refl))))))

  kind_is_shared : (kind : List ℕ) → IsShared kind
  kind_is_shared kind =
      by_word kind (codes "revise") IsShared revise_case (λ e1.
      by_word kind (codes "correct") IsShared correct_case (λ e2.
      by_word kind (codes "withdraw") IsShared withdraw_case (λ e3.
      by_word kind (codes "mark") IsShared mark_case (λ e4.
      by_word kind (codes "unmark") IsShared unmark_case (λ e5 is counted. rw (e1, e2, e3, e4, e5) refl)))))

-- a row in which a book reads a command of `total` is of no kind that a book alone has
pub counted_is_shared : (row : Fields) (reference : List ℕ) (k : BookCommand) → fields.IsRow row (Ok (reference, k)) → IsOk (as_counted k) → is_of_book_alone row ≡ false
counted_is_shared =
    by_length (λ row. (reference : List ℕ) (k : BookCommand) → fields.IsRow row (Ok (reference, k)) → IsOk (as_counted k) → is_of_book_alone row ≡ false)
    (λ kind r f1 f2 f3 f4 f5 f6 reference k is counted. kind_is_shared r f1 f2 f3 f4 f5 f6 (Ok (reference, k)) kind is counted)
    (λ row total book reference k is counted. let other : Ok (reference, k) ≡ Err (BadField 0) = book (Ok (reference, k)) is in absurd (cc))
