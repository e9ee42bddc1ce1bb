-- A row without a civil moment, kind by kind: `total` and a book read it alike.
use Rattle.std.proofs.Common.{◌≡◌, ◌∙◌, ap, ap₂, sym, refl, ℕ, ◌||◌, Bool, true, false, List, [], ◌∷◌, Option, Some, None, Result, Ok, Err, codes, arith, bytes_eq}
use Rattle.ob_base.specs.Fields.{act_in, cause_in, feeder_in, normal_in, serial_in, unix_second_in, until_in}
use Rattle.ob_base.specs.Identifier.{identifier_in}
use Rattle.ob_base.specs.Life.{life}
use Rattle.ob_base.specs.declared.stop.Refusal.{Refusal}
use Rattle.ob_base.specs.declared.stop.Refusal.TheVariants.{BadField}
use Rattle.ob_csv.specs.Rows.{Fields}
use Rattle.ob_command.specs.Commands.{operation_of, service_between}
use Rattle.ob_command.specs.Fields as fields
use Rattle.ob_command.specs.declared.command.Command.{Command as BookCommand}
use Rattle.ob_command.specs.declared.command.Command.TheVariants as commands
use Rattle.ob_total.specs.Commands as total
use Rattle.ob_total.specs.Commands.{command_of, with_value, since_in}
use Rattle.ob_total.specs.declared.command.Command.{Command}
use Rattle.ob_total.specs.declared.command.Command.TheVariants as counted
use Rattle.ob_agreement.specs.Readings.{read_as_counted, is_of_book_alone, HasUnixSeconds, RowsAreReadAlike}
use Rattle.ob_agreement.proofs.Columns.{of_book, after, column_alike, column_read_alike, ends_alike, moment_alike, referred_counted, rest_alike, until_alike}
use Rattle.ob_agreement.proofs.KindTexts.{by_word}
use Rattle.ob_agreement.proofs.Lengths.{by_length}

-- a bad reference is refused alike, and what follows a good one is read alike
referred_alike : (o : Option (List ℕ)) (said : Result (List ℕ × BookCommand) Refusal) (lhs : Result Command Refusal) (P : Result BookCommand Refusal → Type 0)
    → fields.IsReferred o P said → ((command : Result BookCommand Refusal) → P command → lhs ≡ of_book command) → with_value 2 o (λ r. lhs) ≡ read_as_counted said
referred_alike None said lhs P is same = ap read_as_counted (sym is)
referred_alike (Some name) said lhs P is same = same is.0 is.1 ∙ sym (referred_counted name is.0) ∙ ap read_as_counted (sym is.2)

-- what a row of this kind, reference and fields has to show
abbrev IsAlike : List ℕ → List ℕ → List ℕ → List ℕ → List ℕ → List ℕ → List ℕ → Result (List ℕ × BookCommand) Refusal → List ℕ → Type 0
IsAlike reference f1 f2 f3 f4 f5 f6 said kind =
    let row : Fields = kind ∷ reference ∷ f1 ∷ f2 ∷ f3 ∷ f4 ∷ f5 ∷ f6 ∷ [] in
    fields.IsRow row said → is_of_book_alone row ≡ false → HasUnixSeconds row → command_of row ≡ read_as_counted said

-- a device and a life: an empty beginning is 0
device_alike : (reference f1 f2 f3 f4 f5 f6 : List ℕ) (s : Option ℕ) (u : Option (Option ℕ)) → s ≡ since_in f5 → u ≡ until_in unix_second_in f6
    → total.device_of (codes "device" ∷ reference ∷ f1 ∷ f2 ∷ f3 ∷ f4 ∷ f5 ∷ f6 ∷ []) ≡ of_book (fields.device_of f1 f2 f3 f4 s u)
device_alike reference f1 f2 f3 f4 f5 f6 s u from to =
    column_alike 3 (identifier_in 24 f1) _ _ (λ name. column_alike 4 (identifier_in 24 f2) _ _ (λ a. ends_alike 5 a f3 _ _ (λ b. column_alike 6 (normal_in f4) _ _ (λ normal.
    column_read_alike 7 (since_in f5) _ _ _ (λ since. column_read_alike 8 (until_in unix_second_in f6) _ _ _ (λ until. refl))))))
    ∙ ap₂ (λ m n. of_book (fields.device_of f1 f2 f3 f4 m n)) (sym from) (sym to)

device_case : (reference f1 f2 f3 f4 f5 f6 : List ℕ) (said : Result (List ℕ × BookCommand) Refusal) → IsAlike reference f1 f2 f3 f4 f5 f6 said (codes "device")
device_case reference f1 f2 f3 f4 [] f6 said is shared plain =
    referred_alike (identifier_in 40 reference) said _ _ is (λ command h.
    after h.4 (device_alike reference f1 f2 f3 f4 [] f6 _ _ refl (until_alike f6 h.1 h.3 (plain 7 [] (omega arith)))))
device_case reference f1 f2 f3 f4 (byte ∷ bytes) f6 said is shared plain =
    referred_alike (identifier_in 40 reference) said _ _ is (λ command h.
    after h.4 (device_alike reference f1 f2 f3 f4 (byte ∷ bytes) f6 _ _ (moment_alike (byte ∷ bytes) h.0 h.2 (plain 6 [] (omega arith))) (until_alike f6 h.1 h.3 (plain 7 [] (omega arith)))))

life_alike : (reference f1 f2 f3 f4 f5 f6 : List ℕ) (s : Option ℕ) (u : Option (Option ℕ)) → s ≡ since_in f2 → u ≡ until_in unix_second_in f3
    → total.life_of (codes "life" ∷ reference ∷ f1 ∷ f2 ∷ f3 ∷ f4 ∷ f5 ∷ f6 ∷ []) ≡ of_book (fields.life_of f1 s u (f4 ∷ f5 ∷ f6 ∷ []))
life_alike reference f1 f2 f3 f4 f5 f6 s u from to =
    column_alike 3 (identifier_in 24 f1) _ _ (λ device. column_read_alike 4 (since_in f2) _ _ _ (λ since. column_read_alike 5 (until_in unix_second_in f3) _ _ _
    (λ until. rest_alike 6 (f4 ∷ f5 ∷ f6 ∷ []) (counted.Life device (life since until)) (commands.Life device (service_between since until)) refl)))
    ∙ ap₂ (λ m n. of_book (fields.life_of f1 m n (f4 ∷ f5 ∷ f6 ∷ []))) (sym from) (sym to)

life_case : (reference f1 f2 f3 f4 f5 f6 : List ℕ) (said : Result (List ℕ × BookCommand) Refusal) → IsAlike reference f1 f2 f3 f4 f5 f6 said (codes "life")
life_case reference f1 [] f3 f4 f5 f6 said is shared plain =
    referred_alike (identifier_in 40 reference) said _ _ is (λ command h.
    after h.4 (life_alike reference f1 [] f3 f4 f5 f6 _ _ refl (until_alike f3 h.1 h.3 (plain 4 [] (omega arith)))))
life_case reference f1 (byte ∷ bytes) f3 f4 f5 f6 said is shared plain =
    referred_alike (identifier_in 40 reference) said _ _ is (λ command h.
    after h.4 (life_alike reference f1 (byte ∷ bytes) f3 f4 f5 f6 _ _ (moment_alike (byte ∷ bytes) h.0 h.2 (plain 3 [] (omega arith))) (until_alike f3 h.1 h.3 (plain 4 [] (omega arith)))))

module _ (reference f1 f2 f3 f4 f5 f6 : List ℕ) (said : Result (List ℕ × BookCommand) Refusal) where
  abbrev IsSo : List ℕ → Type 0
  IsSo kind = IsAlike reference f1 f2 f3 f4 f5 f6 said kind

  cause_case : IsSo (codes "cause")
  cause_case is shared plain =
      referred_alike (identifier_in 40 reference) said _ _ is (λ command h. after h
      (column_alike 3 (cause_in f1) _ _ (λ code. column_alike 4 (identifier_in 24 f2) _ _ (λ name. rest_alike 5 (f3 ∷ f4 ∷ f5 ∷ f6 ∷ []) counted.Cause (commands.Cause code name) refl))))

  bus_case : IsSo (codes "bus")
  bus_case is shared plain =
      referred_alike (identifier_in 40 reference) said _ _ is (λ command h. after h
      (column_alike 3 (identifier_in 24 f1) _ _ (λ name. rest_alike 4 (f2 ∷ f3 ∷ f4 ∷ f5 ∷ f6 ∷ []) (counted.Bus name) (commands.Bus name) refl)))

  section_case : IsSo (codes "section")
  section_case is shared plain =
      referred_alike (identifier_in 40 reference) said _ _ is (λ command h. after h
      (column_alike 3 (identifier_in 24 f1) _ _ (λ name. column_alike 4 (feeder_in f2) _ _ (λ feeder. rest_alike 5 (f3 ∷ f4 ∷ f5 ∷ f6 ∷ []) (counted.Section name feeder) (commands.Section name feeder) refl))))

  connect_alike : (s : Option ℕ) (u : Option (Option ℕ)) → s ≡ unix_second_in f3 → u ≡ until_in unix_second_in f4
      → total.connect_of (codes "connect" ∷ reference ∷ f1 ∷ f2 ∷ f3 ∷ f4 ∷ f5 ∷ f6 ∷ [])
      ≡ of_book (fields.with_field 3 (serial_in f1) (λ customer. fields.with_field 4 (identifier_in 24 f2) (λ section.
      fields.with_read (fields.service_in 5 s u) (λ service. fields.with_unused 7 (f5 ∷ f6 ∷ []) (Ok (commands.Connect customer section service))))))
  connect_alike s u from to =
      column_alike 3 (serial_in f1) _ _ (λ customer. column_alike 4 (identifier_in 24 f2) _ _ (λ section. column_read_alike 5 (unix_second_in f3) _ _ _ (λ since. column_read_alike 6 (until_in unix_second_in f4) _ _ _
      (λ until. rest_alike 7 (f5 ∷ f6 ∷ []) (counted.Connect customer section since until) (commands.Connect customer section (service_between since until)) refl))))
      ∙ ap₂ (λ m n. of_book (fields.with_field 3 (serial_in f1) (λ customer. fields.with_field 4 (identifier_in 24 f2) (λ section.
      fields.with_read (fields.service_in 5 m n) (λ service. fields.with_unused 7 (f5 ∷ f6 ∷ []) (Ok (commands.Connect customer section service))))))) (sym from) (sym to)

  connect_case : IsSo (codes "connect")
  connect_case is shared plain =
      referred_alike (identifier_in 40 reference) said _ _ is (λ command h. after h.4
      (connect_alike _ _ (moment_alike f3 h.0 h.2 (plain 4 [] (omega arith))) (until_alike f4 h.1 h.3 (plain 5 [] (omega arith)))))

  switch_alike : (m : Option ℕ) → m ≡ unix_second_in f3
      → total.switch_of (codes "switch" ∷ reference ∷ f1 ∷ f2 ∷ f3 ∷ f4 ∷ f5 ∷ f6 ∷ [])
      ≡ of_book (fields.with_field 3 (identifier_in 24 f1) (λ device. fields.with_read (fields.with_field 4 (act_in f2) (λ act. fields.with_field 5 m (λ second.
      fields.with_field 6 (cause_in f4) (λ cause. fields.with_field 7 (identifier_in 16 f5) (λ crew. Ok (operation_of act second cause crew))))))
      (λ operation. fields.with_unused 8 (f6 ∷ []) (Ok (commands.Switch device operation)))))
  switch_alike m when =
      column_alike 3 (identifier_in 24 f1) _ _ (λ device. column_read_alike 4 (act_in f2) _ _ _ (λ act. column_read_alike 5 (unix_second_in f3) _ _ _ (λ second. column_read_alike 6 (cause_in f4) _ _ _ (λ cause.
      column_read_alike 7 (identifier_in 16 f5) _ _ _ (λ crew. rest_alike 8 (f6 ∷ []) (counted.Switch device act second cause crew) (commands.Switch device (operation_of act second cause crew)) refl)))))
      ∙ ap (λ n. of_book (fields.with_field 3 (identifier_in 24 f1) (λ device. fields.with_read (fields.with_field 4 (act_in f2) (λ act. fields.with_field 5 n (λ second.
      fields.with_field 6 (cause_in f4) (λ cause. fields.with_field 7 (identifier_in 16 f5) (λ crew. Ok (operation_of act second cause crew))))))
      (λ operation. fields.with_unused 8 (f6 ∷ []) (Ok (commands.Switch device operation)))))) (sym when)

  switch_case : IsSo (codes "switch")
  switch_case is shared plain =
      referred_alike (identifier_in 40 reference) said _ _ is (λ command h. after h.2 (switch_alike _ (moment_alike f3 h.0 h.1 (plain 4 [] (omega arith)))))

  -- none of the words: both refuse column 1
  or_false : (a b : Bool) → (a || b) ≡ false → (a ≡ false) × (b ≡ false)
  or_false true b is = absurd (cc)
  or_false false b is = (refl, is)

  unknown_case : (kind : List ℕ) → bytes_eq kind (codes "cause") ≡ false → bytes_eq kind (codes "bus") ≡ false → bytes_eq kind (codes "section") ≡ false → bytes_eq kind (codes "device") ≡ false
      → bytes_eq kind (codes "life") ≡ false → bytes_eq kind (codes "connect") ≡ false → bytes_eq kind (codes "switch") ≡ false → IsSo kind
  unknown_case kind e1 e2 e3 e4 e5 e6 e7 is shared plain =
      let a = or_false (bytes_eq kind (codes "revise")) _ shared in
      let b = or_false (bytes_eq kind (codes "correct")) _ a.1 in
      let c = or_false (bytes_eq kind (codes "withdraw")) _ b.1 in
      let d = or_false (bytes_eq kind (codes "mark")) _ c.1 in
      let e = or_false (bytes_eq kind (codes "unmark")) false d.1 in
      let unknown : said ≡ Err (BadField 1) = rw (e1, e2, e3, e4, e5, e6, a.0, e7, b.0, c.0, d.0, e.0) at is in
      rw (e1, e2, e3, e4, e5, e6, e7) (ap read_as_counted (sym unknown))

  row_alike : (kind : List ℕ) → IsSo kind
  row_alike kind =
      by_word kind (codes "cause") IsSo cause_case (λ e1.
      by_word kind (codes "bus") IsSo bus_case (λ e2.
      by_word kind (codes "section") IsSo section_case (λ e3.
      by_word kind (codes "device") IsSo (device_case reference f1 f2 f3 f4 f5 f6 said) (λ e4.
      by_word kind (codes "life") IsSo (life_case reference f1 f2 f3 f4 f5 f6 said) (λ e5.
      by_word kind (codes "connect") IsSo connect_case (λ e6.
      by_word kind (codes "switch") IsSo switch_case (λ e7. unknown_case kind e1 e2 e3 e4 e5 e6 e7)))))))

pub rows_are_read_alike : RowsAreReadAlike
rows_are_read_alike =
    by_length (λ row. (said : Result (List ℕ × BookCommand) Refusal) → fields.IsRow row said → is_of_book_alone row ≡ false → HasUnixSeconds row → command_of row ≡ read_as_counted said)
    (λ kind reference f1 f2 f3 f4 f5 f6 said is shared plain. row_alike reference f1 f2 f3 f4 f5 f6 said kind is shared plain)
    (λ row total book said is shared plain. total ∙ ap read_as_counted (sym (book said is)))
