-- A kind and six fields of a body are read exactly where they are those of a command.
use Rattle.std.proofs.Common.{◌≡◌, ◌≢◌, ◌↔◌, ◌∙◌, inl, inr, ap, ap₂, sym, refl, subst, ℕ, ℤ, ◌++◌, ◌≤ℤ◌, pos, negsuc, ◌+◌, ◌<◌, ◌≤◌, ◌^◌, ◌&&◌, nat_lt, nat_le, true, true≢false, List, [], ◌∷◌, length, codes, decimal, Option, Some, None, Result, Ok, Err, if◌then◌else◌, arith, ltb-true, bytes_eq}
use Rattle.std.specs.Prelude.{⊤}
use Rattle.std.specs.List.{list_all}
use Rattle.std.proofs.lemmas.Bool.{and_parts, false_from_ne_true}
use Rattle.std.proofs.lemmas.Fmt.{decimal_nonempty}
use Rattle.std.proofs.lemmas.Slice.Eq.{bytes_eq-Decides}
use Rattle.jiff.proofs.Family.{epoch_day_same, parse_date-date_text, same_date}
use Rattle.jiff.proofs.SpanFacts.{signed_arith}
use Rattle.jiff.specs.Types.{Date}
use Rattle.jiff.specs.Words.{date_parts, date_text}
use Rattle.jiff_fmt.specs.Temporal.{DateParts}
use Rattle.jiff_fmt.specs.Text.{pad2, year_text}
use Rattle.ob_base.specs.declared.Pos.{Pos}
use Rattle.ob_base.specs.declared.Pos.TheVariants.{Opened, Closed}
use Rattle.ob_base.specs.declared.TheConstants.{LAST_SECOND}
use Rattle.ob_base.specs.declared.stop.Refusal.{Refusal}
use Rattle.ob_base.specs.declared.stop.Refusal.TheVariants.{BadField}
use Rattle.ob_base.specs.Fields.{normal_in, cause_in}
use Rattle.ob_base.specs.Identifier.{is_identifier, is_identifier_byte}
use Rattle.ob_time.specs.Moment.{IsDateText}
use Rattle.ob_command.specs.Ranges.{EndNames, end_names, IsCauseCode, IsFeederNumber, IsSerial, IsMoment, IsCivilDate}
use Rattle.ob_command.specs.Commands.{BodiesDiffer, act_text, normal_text, operation_of, service_between, until_text, words, body_text, AreEndsOfDevice, IsName, IsCrew, IsEnd, IsOperation, IsService, IsCommand}
use Rattle.ob_command.specs.Spellings.{crew_in, end_as, ends_from, ends_in, name_in, number_as, Gives}
use Rattle.ob_command.specs.Fields.{cause_of, section_of, device_of, life_of, connect_of, revise_of, switch_of, correct_of, withdraw_of, mark_of, unmark_of, kind_in, operation_in, service_in, with_field, with_read, with_unused, AreFieldsOf, IsOfKind}
use Rattle.ob_command.specs.Splits.{seven_texts, words_in}
use Rattle.ob_command.specs.declared.command.Command.{Command}
use Rattle.ob_command.specs.declared.command.Command.TheVariants.{Cause, Bus, Section, Device, Life, Connect, Revise, Switch, Correct, Withdraw, Mark, Unmark}
use Rattle.ob_command.specs.declared.device.NewDevice.{NewDevice}
use Rattle.ob_command.specs.declared.fields.Fields.{Fields}
use Rattle.ob_command.specs.declared.kind.Kind.{Kind}
use Rattle.ob_command.specs.declared.kind.Kind.TheVariants as kinds
use Rattle.ob_command.specs.declared.operation.Operation.{Operation}
use Rattle.ob_command.specs.declared.service.Service.{Service}
use Rattle.ob_command.specs.declared.spelling.Spelling.TheVariants.{Body}
use Rattle.ob_command.proofs.Cuts.{date-lacks, identifier-lacks, same-some}
use Rattle.ob_command.proofs.Readings.{IsReading, second_in, chained, if-cases, code-reading, feeder-reading, serial-reading, moment-reading, until-reading, identifier-reading, act-reading, normal-reading, number-lacks, same-bytes}
use Rattle.ob_command.proofs.Splits.{AreWords, IsWord, left, padded, trim, trim-padded, words-back, words-found}

abbrev same : List ℕ → List ℕ
same text = text

name-reading : IsReading IsName same name_in
name-reading = identifier-reading 24

crew-reading : IsReading IsCrew same crew_in
crew-reading = identifier-reading 16

-- the words of a command

identifier-word : (limit : ℕ) (name : List ℕ) → is_identifier limit name ≡ true → IsWord name
identifier-word limit name h =
    let outer = and_parts (nat_lt 0 (length name) && nat_le (length name) limit) (list_all is_identifier_byte name) h in
    let inner = and_parts (nat_lt 0 (length name)) (nat_le (length name) limit) outer.0 in
    (ltb-true 0 (length name) inner.0, identifier-lacks limit name h)

name-word : (name : List ℕ) → IsName name → IsWord name
name-word name h = identifier-word 24 name h

crew-word : (crew : List ℕ) → IsCrew crew → IsWord crew
crew-word crew h = identifier-word 16 crew h

number-word : (greatest n : ℕ) → greatest < 2 ^ 60 → n ≤ greatest → IsWord (decimal n)
number-word greatest n small h = (decimal_nonempty n (omega arith), number-lacks greatest n small h)

code-word : (n : ℕ) → IsCauseCode n → IsWord (decimal n)
code-word n h = number-word 63 n (omega arith) h.1

feeder-word : (n : ℕ) → IsFeederNumber n → IsWord (decimal n)
feeder-word n h = number-word 255 n (omega arith) h.1

serial-word : (n : ℕ) → IsSerial n → IsWord (decimal n)
serial-word n h = number-word 4_294_967_295 n (omega arith) h.1

moment-word : (n : ℕ) → IsMoment n → IsWord (decimal n)
moment-word n h = number-word LAST_SECOND n (omega arith) h

until-word : (u : Option ℕ) → IsEnd u → IsWord (until_text u)
until-word None h = (omega arith, refl)
until-word (Some s) h = moment-word s h

act-word : (p : Pos) → IsWord (act_text p)
act-word Opened = (omega arith, refl)
act-word Closed = (omega arith, refl)

normal-word : (p : Pos) → IsWord (normal_text p)
normal-word Opened = (omega arith, refl)
normal-word Closed = (omega arith, refl)

year-some : (year : ℤ) (month day : ℕ) → pos 0 ≤ℤ year → 0 < length (year_text year ++ 45 ∷ [] ++ pad2 month ++ 45 ∷ [] ++ pad2 day)
year-some (pos n) month day h = omega arith
year-some (negsuc n) month day h = absurd (omega (arith, signed_arith))

date-word : (d : Date) → IsCivilDate d → IsWord (date_text d)
date-word d h = (year-some d.year d.month d.day h, date-lacks d h)

words-are : (c : Command) → IsCommand c → AreWords (words c) × (length (words c) ≤ 7)
words-are (Cause code name) h = (((omega arith, refl), (code-word code h.0, (name-word name h.1, tt))), omega arith)
words-are (Bus name) h = (((omega arith, refl), (name-word name h, tt)), omega arith)
words-are (Section name feeder) h = (((omega arith, refl), (name-word name h.0, (feeder-word feeder h.1, tt))), omega arith)
words-are (Device d) h =
    (((omega arith, refl), (name-word d.name h.0, (name-word d.ends.a h.1.0, (name-word d.ends.b h.1.1, (normal-word d.normal, (moment-word d.life.since h.2.0, (until-word d.life.until h.2.1, tt))))))), omega arith)
words-are (Life device life) h =
    (((omega arith, refl), (name-word device h.0, (moment-word life.since h.1.0, (until-word life.until h.1.1, tt)))), omega arith)
words-are (Connect customer section service) h =
    (((omega arith, refl), (serial-word customer h.0, (name-word section h.1, (moment-word service.since h.2.0, (until-word service.until h.2.1, tt))))), omega arith)
words-are (Revise customer service) h =
    (((omega arith, refl), (serial-word customer h.0, (moment-word service.since h.1.0, (until-word service.until h.1.1, tt)))), omega arith)
words-are (Switch device o) h =
    (((omega arith, refl), (name-word device h.0, (act-word o.act, (moment-word o.second h.1.0, (code-word o.cause h.1.1, (crew-word o.crew h.1.2, tt)))))), omega arith)
words-are (Correct entry revision o) h =
    (((omega arith, refl), (serial-word entry h.0, (serial-word revision h.1, (act-word o.act, (moment-word o.second h.2.0, (code-word o.cause h.2.1, (crew-word o.crew h.2.2, tt))))))), omega arith)
words-are (Withdraw entry revision) h = (((omega arith, refl), (serial-word entry h.0, (serial-word revision h.1, tt))), omega arith)
words-are (Mark date engineer) h = (((omega arith, refl), (date-word date h.0, (crew-word engineer h.1, tt))), omega arith)
words-are (Unmark date engineer) h = (((omega arith, refl), (date-word date h.0, (crew-word engineer h.1, tt))), omega arith)

joined : (c : Command) → left (words c) ≡ Some (body_text c)
joined (Cause code name) = refl
joined (Bus name) = refl
joined (Section name feeder) = refl
joined (Device d) = refl
joined (Life device life) = refl
joined (Connect customer section service) = refl
joined (Revise customer service) = refl
joined (Switch device o) = refl
joined (Correct entry revision o) = refl
joined (Withdraw entry revision) = refl
joined (Mark date engineer) = refl
joined (Unmark date engineer) = refl

-- the kind and the fields of a command are read

-- what the texts of a kind and its fields say
abbrev pub IsSeven : List (List ℕ) → Result Command Refusal → Type 0
IsSeven (kind ∷ f1 ∷ f2 ∷ f3 ∷ f4 ∷ f5 ∷ f6 ∷ []) r = IsOfKind (kind_in kind) (λ k. AreFieldsOf Body k f1 f2 f3 f4 f5 f6 r) (r ≡ Err (BadField 1))
IsSeven fs r = ⊥

ends-back : (ends : EndNames) → AreEndsOfDevice ends → ends_from ends.a ends.b ≡ Some ends
ends-back ends h =
    rw (name-reading.back ends.b h.1)
    (ap (λ t. if t then None else Some (end_names ends.a ends.b)) (false_from_ne_true (bytes_eq ends.a ends.b) (λ e. h.2 (same-bytes ends.a ends.b e))))

date-same : (a b : Date) → date_text a ≡ date_text b → a ≡ b
date-same a b e =
    let parts : date_parts a ≡ date_parts b = cc (parse_date-date_text a, parse_date-date_text b, e) in
    same_date a b (epoch_day_same a b (ap (λ (p : DateParts). p.year) parts) (ap (λ (p : DateParts). p.month) parts) (ap (λ (p : DateParts). p.day) parts))

date-gives : (d : Date) → IsCivilDate d → Gives IsDateText (date_text d) (Some d)
date-gives d h = λ v. (
  λ e. let s = same-some d v e in (subst IsCivilDate s h, ap date_text s),
  λ k. ap (λ x. Some x) (date-same d v k.1),
)

-- what the readings of valid fields give
service-value : (column : ℕ) (s : Service) → IsService s → service_in column (second_in (decimal s.since)) (end_as Body (until_text s.until) (second_in (until_text s.until))) ≡ Ok s
service-value column s h =
    ap₂ (λ o p. with_field column o (λ from. with_field (column + 1) p (λ to. Ok (service_between from to)))) (moment-reading.back s.since h.0) (until-reading.back s.until h.1)

operation-value : (column : ℕ) (o : Operation) → IsOperation o → operation_in Body column (act_text o.act) (second_in (decimal o.second)) (decimal o.cause) o.crew ≡ Ok o
operation-value column o h =
    ap₂ (λ p q. with_field column p (λ a. with_field (column + 1) q (λ s. with_field (column + 2) (number_as Body cause_in (decimal o.cause)) (λ k. with_field (column + 3) (crew_in o.crew) (λ by. Ok (operation_of a s k by))))))
    (act-reading.back o.act tt) (moment-reading.back o.second h.0)
    ∙ ap₂ (λ p q. with_field (column + 2) p (λ k. with_field (column + 3) q (λ by. Ok (operation_of o.act o.second k by)))) (code-reading.back o.cause h.1) (crew-reading.back o.crew h.2)

connect-value : (customer : ℕ) (section : List ℕ) (s : Service) → IsCommand (Connect customer section s)
    → connect_of Body (decimal customer) section (second_in (decimal s.since)) (end_as Body (until_text s.until) (second_in (until_text s.until))) ([] ∷ [] ∷ []) ≡ Ok (Connect customer section s)
connect-value customer section s h =
    rw (serial-reading.back customer h.0) (rw (name-reading.back section h.1) (ap (λ r. with_read r (λ v. Ok (Connect customer section v))) (service-value 5 s h.2)))

revise-value : (customer : ℕ) (s : Service) → IsCommand (Revise customer s)
    → revise_of Body (decimal customer) (second_in (decimal s.since)) (end_as Body (until_text s.until) (second_in (until_text s.until))) ([] ∷ [] ∷ [] ∷ []) ≡ Ok (Revise customer s)
revise-value customer s h = rw (serial-reading.back customer h.0) (ap (λ r. with_read r (λ v. Ok (Revise customer v))) (service-value 4 s h.1))

switch-value : (device : List ℕ) (o : Operation) → IsCommand (Switch device o)
    → switch_of Body device (act_text o.act) (second_in (decimal o.second)) (decimal o.cause) o.crew ([] ∷ []) ≡ Ok (Switch device o)
switch-value device o h = rw (name-reading.back device h.0) (ap (λ r. with_read r (λ v. Ok (Switch device v))) (operation-value 4 o h.1))

correct-value : (entry revision : ℕ) (o : Operation) → IsCommand (Correct entry revision o)
    → correct_of Body (decimal entry) (decimal revision) (act_text o.act) (second_in (decimal o.second)) (decimal o.cause) o.crew ≡ Ok (Correct entry revision o)
correct-value entry revision o h =
    ap₂ (λ p q. with_field 3 p (λ e. with_field 4 q (λ r. with_read (operation_in Body 5 (act_text o.act) (second_in (decimal o.second)) (decimal o.cause) o.crew) (λ v. Ok (Correct e r v)))))
    (serial-reading.back entry h.0) (serial-reading.back revision h.1)
    ∙ ap (λ r. with_read r (λ v. Ok (Correct entry revision v))) (operation-value 5 o h.2)

cause-value : (code : ℕ) (name : List ℕ) → IsCommand (Cause code name) → cause_of Body (decimal code) name ([] ∷ [] ∷ [] ∷ [] ∷ []) ≡ Ok (Cause code name)
cause-value code name h =
    ap₂ (λ o p. with_field 3 o (λ x. with_field 4 p (λ y. Ok (Cause x y)))) (code-reading.back code h.0) (name-reading.back name h.1)

section-value : (name : List ℕ) (feeder : ℕ) → IsCommand (Section name feeder) → section_of Body name (decimal feeder) ([] ∷ [] ∷ [] ∷ [] ∷ []) ≡ Ok (Section name feeder)
section-value name feeder h =
    ap₂ (λ o p. with_field 3 o (λ x. with_field 4 p (λ y. Ok (Section x y)))) (name-reading.back name h.0) (feeder-reading.back feeder h.1)

device-value : (d : NewDevice) → IsCommand (Device d)
    → device_of d.name d.ends.a d.ends.b (normal_text d.normal) (second_in (decimal d.life.since)) (end_as Body (until_text d.life.until) (second_in (until_text d.life.until))) ≡ Ok (Device d)
device-value d h =
    ap₂ (λ o p. with_field 3 o (λ x. with_field 4 p (λ a. with_field 5 (ends_from a d.ends.b) (λ y. with_field 6 (normal_in (normal_text d.normal)) (λ z.
    with_read (service_in 7 (second_in (decimal d.life.since)) (end_as Body (until_text d.life.until) (second_in (until_text d.life.until)))) (λ s.
    Ok (Device (record { name = x; ends = y; normal = z; life = s }))))))))
    (name-reading.back d.name h.0) (name-reading.back d.ends.a h.1.0)
    ∙ ap₂ (λ o p. with_field 5 o (λ y. with_field 6 p (λ z.
    with_read (service_in 7 (second_in (decimal d.life.since)) (end_as Body (until_text d.life.until) (second_in (until_text d.life.until)))) (λ s.
    Ok (Device (record d { ends = y; normal = z; life = s }))))))
    (ends-back d.ends h.1) (normal-reading.back d.normal tt)
    ∙ ap (λ r. with_read r (λ s. Ok (Device (record d { life = s })))) (service-value 7 d.life h.2)

life-value : (device : List ℕ) (s : Service) → IsCommand (Life device s)
    → life_of device (second_in (decimal s.since)) (end_as Body (until_text s.until) (second_in (until_text s.until))) ([] ∷ [] ∷ [] ∷ []) ≡ Ok (Life device s)
life-value device s h = rw (name-reading.back device h.0) (ap (λ r. with_read r (λ v. Ok (Life device v))) (service-value 4 s h.1))

withdraw-value : (entry revision : ℕ) → IsCommand (Withdraw entry revision) → withdraw_of Body (decimal entry) (decimal revision) ([] ∷ [] ∷ [] ∷ [] ∷ []) ≡ Ok (Withdraw entry revision)
withdraw-value entry revision h =
    ap₂ (λ o p. with_field 3 o (λ x. with_field 4 p (λ y. Ok (Withdraw x y)))) (serial-reading.back entry h.0) (serial-reading.back revision h.1)

mark-value : (day : Option Date) (date : Date) (engineer : List ℕ) → IsCommand (Mark date engineer) → day ≡ Some date → mark_of day engineer ([] ∷ [] ∷ [] ∷ [] ∷ []) ≡ Ok (Mark date engineer)
mark-value day date engineer h e =
    ap₂ (λ o p. with_field 3 o (λ x. with_field 4 p (λ y. Ok (Mark x y)))) e (crew-reading.back engineer h.1)

unmark-value : (day : Option Date) (date : Date) (engineer : List ℕ) → IsCommand (Unmark date engineer) → day ≡ Some date → unmark_of day engineer ([] ∷ [] ∷ [] ∷ [] ∷ []) ≡ Ok (Unmark date engineer)
unmark-value day date engineer h e =
    ap₂ (λ o p. with_field 3 o (λ x. with_field 4 p (λ y. Ok (Unmark x y)))) e (crew-reading.back engineer h.1)

-- a command is what its words say
made : (c : Command) → IsCommand c → IsSeven (padded 7 (words c)) (Ok c)
made (Cause code name) h = sym (cause-value code name h)
made (Bus name) h = sym (ap (λ o. with_field 3 o (λ x. Ok (Bus x))) (name-reading.back name h))
made (Section name feeder) h = sym (section-value name feeder h)
made (Device d) h = (second_in (decimal d.life.since), second_in (until_text d.life.until), refl, refl, sym (device-value d h))
made (Life device s) h = (second_in (decimal s.since), second_in (until_text s.until), refl, refl, sym (life-value device s h))
made (Connect customer section s) h = (second_in (decimal s.since), second_in (until_text s.until), refl, refl, sym (connect-value customer section s h))
made (Revise customer s) h = (second_in (decimal s.since), second_in (until_text s.until), refl, refl, sym (revise-value customer s h))
made (Switch device o) h = (second_in (decimal o.second), refl, sym (switch-value device o h))
made (Correct entry revision o) h = (second_in (decimal o.second), refl, sym (correct-value entry revision o h))
made (Withdraw entry revision) h = sym (withdraw-value entry revision h)
made (Mark date engineer) h = (Some date, date-gives date h.0, sym (mark-value (Some date) date engineer h refl))
made (Unmark date engineer) h = (Some date, date-gives date h.0, sym (unmark-value (Some date) date engineer h refl))

-- and its words say nothing else
back : (c : Command) (r : Result Command Refusal) → IsCommand c → IsSeven (padded 7 (words c)) r → r ≡ Ok c
back (Cause code name) r h is = is ∙ cause-value code name h
back (Bus name) r h is = is ∙ ap (λ o. with_field 3 o (λ x. Ok (Bus x))) (name-reading.back name h)
back (Section name feeder) r h is = is ∙ section-value name feeder h
back (Device d) r h is =
    is.4 ∙ ap₂ (λ a b. device_of d.name d.ends.a d.ends.b (normal_text d.normal) a (end_as Body (until_text d.life.until) b)) is.2 is.3 ∙ device-value d h
back (Life device s) r h is =
    is.4 ∙ ap₂ (λ a b. life_of device a (end_as Body (until_text s.until) b) ([] ∷ [] ∷ [] ∷ [])) is.2 is.3 ∙ life-value device s h
back (Connect customer section s) r h is =
    is.4 ∙ ap₂ (λ a b. connect_of Body (decimal customer) section a (end_as Body (until_text s.until) b) ([] ∷ [] ∷ [])) is.2 is.3 ∙ connect-value customer section s h
back (Revise customer s) r h is =
    is.4 ∙ ap₂ (λ a b. revise_of Body (decimal customer) a (end_as Body (until_text s.until) b) ([] ∷ [] ∷ [] ∷ [])) is.2 is.3 ∙ revise-value customer s h
back (Switch device o) r h is =
    is.2 ∙ ap (λ a. switch_of Body device (act_text o.act) a (decimal o.cause) o.crew ([] ∷ [])) is.1 ∙ switch-value device o h
back (Correct entry revision o) r h is =
    is.2 ∙ ap (λ a. correct_of Body (decimal entry) (decimal revision) (act_text o.act) a (decimal o.cause) o.crew) is.1 ∙ correct-value entry revision o h
back (Withdraw entry revision) r h is = is ∙ withdraw-value entry revision h
back (Mark date engineer) r h is = is.2 ∙ mark-value is.0 date engineer h ((is.1 date).1 (h.0, refl))
back (Unmark date engineer) r h is = is.2 ∙ unmark-value is.0 date engineer h ((is.1 date).1 (h.0, refl))

-- what is read is a command of these texts

same-ok : {A : Type 0} (a b : A) → ◌≡◌ {A = Result A Refusal} (Ok a) (Ok b) → a ≡ b
same-ok a b e = cc

with-Ok : {A B : Type 0} (n : ℕ) (o : Option A) (rest : A → Result B Refusal) (b : B) → with_field n o rest ≡ Ok b → (v : A) × (o ≡ Some v) × (rest v ≡ Ok b)
with-Ok n None rest b e = absurd (cc)
with-Ok n (Some v) rest b e = (v, refl, e)

read-Ok : {A B : Type 0} (r : Result A Refusal) (rest : A → Result B Refusal) (b : B) → with_read r rest ≡ Ok b → (v : A) × (r ≡ Ok v) × (rest v ≡ Ok b)
read-Ok (Err x) rest b e = absurd (cc)
read-Ok (Ok v) rest b e = (v, refl, e)

abbrev AreEmpty : List (List ℕ) → Type 0
AreEmpty [] = ⊤
AreEmpty (f ∷ fs) = (f ≡ []) × AreEmpty fs

unused-Ok : (n : ℕ) (fs : List (List ℕ)) (a c : Command) → with_unused n fs (Ok a) ≡ Ok c → AreEmpty fs × (a ≡ c)
unused-Ok n [] a c e = (tt, same-ok a c e)
unused-Ok n ([] ∷ fs) a c e = let u = unused-Ok (n + 1) fs a c e in ((refl, u.0), u.1)
unused-Ok n ((b ∷ bs) ∷ fs) a c e = absurd (cc)

abbrev kind_text : Kind → List ℕ
kind_text kinds.Cause = codes "cause"
kind_text kinds.Bus = codes "bus"
kind_text kinds.Section = codes "section"
kind_text kinds.Device = codes "device"
kind_text kinds.Life = codes "life"
kind_text kinds.Connect = codes "connect"
kind_text kinds.Revise = codes "revise"
kind_text kinds.Switch = codes "switch"
kind_text kinds.Correct = codes "correct"
kind_text kinds.Withdraw = codes "withdraw"
kind_text kinds.Mark = codes "mark"
kind_text kinds.Unmark = codes "unmark"

one-kind : (text word : List ℕ) (x k : Kind) (y : Option Kind) → (if bytes_eq text word then Some x else y) ≡ Some k → word ≡ kind_text x → (y ≡ Some k → text ≡ kind_text k) → text ≡ kind_text k
one-kind text word x k y e named more = elim (if-cases (bytes_eq text word) (Some x) y k e) [
  | inl h ↦ same-bytes text word h.0 ∙ named ∙ ap kind_text (same-some x k h.1)
  | inr h ↦ more h.1
]

kind-found : (text : List ℕ) (k : Kind) → kind_in text ≡ Some k → text ≡ kind_text k
kind-found text k e =
    one-kind text (codes "cause") kinds.Cause k _ e refl (λ e. one-kind text (codes "bus") kinds.Bus k _ e refl (λ e.
    one-kind text (codes "section") kinds.Section k _ e refl (λ e. one-kind text (codes "device") kinds.Device k _ e refl (λ e.
    one-kind text (codes "life") kinds.Life k _ e refl (λ e.
    one-kind text (codes "connect") kinds.Connect k _ e refl (λ e. one-kind text (codes "revise") kinds.Revise k _ e refl (λ e.
    one-kind text (codes "switch") kinds.Switch k _ e refl (λ e. one-kind text (codes "correct") kinds.Correct k _ e refl (λ e.
    one-kind text (codes "withdraw") kinds.Withdraw k _ e refl (λ e. one-kind text (codes "mark") kinds.Mark k _ e refl (λ e.
    one-kind text (codes "unmark") kinds.Unmark k None e refl (λ e. absurd (cc)))))))))))))

-- the command has these texts
abbrev IsOfTexts : Kind → List ℕ → List ℕ → List ℕ → List ℕ → List ℕ → List ℕ → Command → Type 0
IsOfTexts k f1 f2 f3 f4 f5 f6 c = IsCommand c × (kind_text k ∷ f1 ∷ f2 ∷ f3 ∷ f4 ∷ f5 ∷ f6 ∷ [] ≡ padded 7 (words c))

texts : (k f1 f2 f3 f4 f5 f6 g1 g2 g3 g4 g5 g6 : List ℕ) → f1 ≡ g1 → f2 ≡ g2 → f3 ≡ g3 → f4 ≡ g4 → f5 ≡ g5 → f6 ≡ g6
    → k ∷ f1 ∷ f2 ∷ f3 ∷ f4 ∷ f5 ∷ f6 ∷ [] ≡ k ∷ g1 ∷ g2 ∷ g3 ∷ g4 ∷ g5 ∷ g6 ∷ []
texts k f1 f2 f3 f4 f5 f6 g1 g2 g3 g4 g5 g6 a b c d e f = λ i. k ∷ a i ∷ b i ∷ c i ∷ d i ∷ e i ∷ f i ∷ []

ends-found : (a text : List ℕ) (ends : EndNames) → IsName a → ends_from a text ≡ Some ends → AreEndsOfDevice ends × (a ≡ ends.a) × (text ≡ ends.b)
ends-found a text ends named e =
    let o = chained (λ b. ends_in a b) (name_in text) ends e in
    let name = name-reading.found text o.0 o.1 in
    elim (if-cases (bytes_eq a o.0) None (Some (end_names a o.0)) ends o.2) [
      | inl h ↦ absurd (cc)
      | inr h ↦
          let whole = same-some (end_names a o.0) ends h.1 in
          let apart : a ≢ o.0 = λ s. true≢false (sym ((bytes_eq-Decides a o.0).1 s) ∙ h.0) in
          (subst AreEndsOfDevice whole (named, name.0, apart), ap (λ w. w.a) whole, name.1 ∙ ap (λ w. w.b) whole)
    ]

service-found : (column : ℕ) (f g : List ℕ) (s : Service) → service_in column (second_in f) (end_as Body g (second_in g)) ≡ Ok s → IsService s × (f ≡ decimal s.since) × (g ≡ until_text s.until)
service-found column f g s e =
    let a = with-Ok column _ _ s e in
    let b = with-Ok (column + 1) _ _ s a.2 in
    let x = moment-reading.found f a.0 a.1 in
    let y = until-reading.found g b.0 b.1 in
    subst (λ (t : Service). IsService t × (f ≡ decimal t.since) × (g ≡ until_text t.until)) (same-ok (service_between a.0 b.0) s b.2) ((x.0, y.0), x.1, y.1)

operation-found : (column : ℕ) (f g k l : List ℕ) (o : Operation) → operation_in Body column f (second_in g) k l ≡ Ok o
    → IsOperation o × (f ≡ act_text o.act) × (g ≡ decimal o.second) × (k ≡ decimal o.cause) × (l ≡ o.crew)
operation-found column f g k l o e =
    let a = with-Ok column _ _ o e in
    let b = with-Ok (column + 1) _ _ o a.2 in
    let c = with-Ok (column + 2) _ _ o b.2 in
    let d = with-Ok (column + 3) _ _ o c.2 in
    let x = act-reading.found f a.0 a.1 in
    let y = moment-reading.found g b.0 b.1 in
    let z = code-reading.found k c.0 c.1 in
    let w = crew-reading.found l d.0 d.1 in
    subst (λ (p : Operation). IsOperation p × (f ≡ act_text p.act) × (g ≡ decimal p.second) × (k ≡ decimal p.cause) × (l ≡ p.crew))
    (same-ok (operation_of a.0 b.0 c.0 d.0) o d.2) ((y.0, z.0, w.0), x.1, y.1, z.1, w.1)

found : (k : Kind) (f1 f2 f3 f4 f5 f6 : List ℕ) (c : Command) → AreFieldsOf Body k f1 f2 f3 f4 f5 f6 (Ok c) → IsOfTexts k f1 f2 f3 f4 f5 f6 c
found kinds.Cause f1 f2 f3 f4 f5 f6 c is =
    let a = with-Ok 3 _ _ c (sym is) in
    let b = with-Ok 4 _ _ c a.2 in
    let u = unused-Ok 5 (f3 ∷ f4 ∷ f5 ∷ f6 ∷ []) (Cause a.0 b.0) c b.2 in
    let x = code-reading.found f1 a.0 a.1 in
    let y = name-reading.found f2 b.0 b.1 in
    subst (IsOfTexts kinds.Cause f1 f2 f3 f4 f5 f6) u.1 ((x.0, y.0), texts _ f1 f2 f3 f4 f5 f6 _ _ _ _ _ _ x.1 y.1 u.0.0 u.0.1.0 u.0.1.1.0 u.0.1.1.1.0)
found kinds.Bus f1 f2 f3 f4 f5 f6 c is =
    let a = with-Ok 3 _ _ c (sym is) in
    let u = unused-Ok 4 (f2 ∷ f3 ∷ f4 ∷ f5 ∷ f6 ∷ []) (Bus a.0) c a.2 in
    let x = name-reading.found f1 a.0 a.1 in
    subst (IsOfTexts kinds.Bus f1 f2 f3 f4 f5 f6) u.1 (x.0, texts _ f1 f2 f3 f4 f5 f6 _ _ _ _ _ _ x.1 u.0.0 u.0.1.0 u.0.1.1.0 u.0.1.1.1.0 u.0.1.1.1.1.0)
found kinds.Section f1 f2 f3 f4 f5 f6 c is =
    let a = with-Ok 3 _ _ c (sym is) in
    let b = with-Ok 4 _ _ c a.2 in
    let u = unused-Ok 5 (f3 ∷ f4 ∷ f5 ∷ f6 ∷ []) (Section a.0 b.0) c b.2 in
    let x = name-reading.found f1 a.0 a.1 in
    let y = feeder-reading.found f2 b.0 b.1 in
    subst (IsOfTexts kinds.Section f1 f2 f3 f4 f5 f6) u.1 ((x.0, y.0), texts _ f1 f2 f3 f4 f5 f6 _ _ _ _ _ _ x.1 y.1 u.0.0 u.0.1.0 u.0.1.1.0 u.0.1.1.1.0)
found kinds.Device f1 f2 f3 f4 f5 f6 c is =
    let a = with-Ok 3 _ _ c (sym is.4) in
    let b = with-Ok 4 _ _ c a.2 in
    let d = with-Ok 5 _ _ c b.2 in
    let g = with-Ok 6 _ _ c d.2 in
    let m = read-Ok _ _ c g.2 in
    let u = same-ok (Device (record { name = a.0; ends = d.0; normal = g.0; life = m.0 })) c m.2 in
    let x = name-reading.found f1 a.0 a.1 in
    let y = name-reading.found f2 b.0 b.1 in
    let z = ends-found b.0 f3 d.0 y.0 d.1 in
    let w = normal-reading.found f4 g.0 g.1 in
    let s = service-found 7 f5 f6 m.0 (ap₂ (λ m n. service_in 7 m (end_as Body f6 n)) (sym is.2) (sym is.3) ∙ m.1) in
    subst (IsOfTexts kinds.Device f1 f2 f3 f4 f5 f6) u ((x.0, z.0, s.0), texts _ f1 f2 f3 f4 f5 f6 _ _ _ _ _ _ x.1 (y.1 ∙ z.1) z.2 w.1 s.1 s.2)
found kinds.Life f1 f2 f3 f4 f5 f6 c is =
    let a = with-Ok 3 _ _ c (sym is.4) in
    let m = read-Ok _ _ c a.2 in
    let u = unused-Ok 6 (f4 ∷ f5 ∷ f6 ∷ []) (Life a.0 m.0) c m.2 in
    let x = name-reading.found f1 a.0 a.1 in
    let s = service-found 4 f2 f3 m.0 (ap₂ (λ m n. service_in 4 m (end_as Body f3 n)) (sym is.2) (sym is.3) ∙ m.1) in
    subst (IsOfTexts kinds.Life f1 f2 f3 f4 f5 f6) u.1 ((x.0, s.0), texts _ f1 f2 f3 f4 f5 f6 _ _ _ _ _ _ x.1 s.1 s.2 u.0.0 u.0.1.0 u.0.1.1.0)
found kinds.Connect f1 f2 f3 f4 f5 f6 c is =
    let a = with-Ok 3 _ _ c (sym is.4) in
    let b = with-Ok 4 _ _ c a.2 in
    let m = read-Ok _ _ c b.2 in
    let u = unused-Ok 7 (f5 ∷ f6 ∷ []) (Connect a.0 b.0 m.0) c m.2 in
    let x = serial-reading.found f1 a.0 a.1 in
    let y = name-reading.found f2 b.0 b.1 in
    let s = service-found 5 f3 f4 m.0 (ap₂ (λ m n. service_in 5 m (end_as Body f4 n)) (sym is.2) (sym is.3) ∙ m.1) in
    subst (IsOfTexts kinds.Connect f1 f2 f3 f4 f5 f6) u.1 ((x.0, y.0, s.0), texts _ f1 f2 f3 f4 f5 f6 _ _ _ _ _ _ x.1 y.1 s.1 s.2 u.0.0 u.0.1.0)
found kinds.Revise f1 f2 f3 f4 f5 f6 c is =
    let a = with-Ok 3 _ _ c (sym is.4) in
    let m = read-Ok _ _ c a.2 in
    let u = unused-Ok 6 (f4 ∷ f5 ∷ f6 ∷ []) (Revise a.0 m.0) c m.2 in
    let x = serial-reading.found f1 a.0 a.1 in
    let s = service-found 4 f2 f3 m.0 (ap₂ (λ m n. service_in 4 m (end_as Body f3 n)) (sym is.2) (sym is.3) ∙ m.1) in
    subst (IsOfTexts kinds.Revise f1 f2 f3 f4 f5 f6) u.1 ((x.0, s.0), texts _ f1 f2 f3 f4 f5 f6 _ _ _ _ _ _ x.1 s.1 s.2 u.0.0 u.0.1.0 u.0.1.1.0)
found kinds.Switch f1 f2 f3 f4 f5 f6 c is =
    let a = with-Ok 3 _ _ c (sym is.2) in
    let m = read-Ok _ _ c a.2 in
    let u = unused-Ok 8 (f6 ∷ []) (Switch a.0 m.0) c m.2 in
    let x = name-reading.found f1 a.0 a.1 in
    let o = operation-found 4 f2 f3 f4 f5 m.0 (ap (λ t. operation_in Body 4 f2 t f4 f5) (sym is.1) ∙ m.1) in
    subst (IsOfTexts kinds.Switch f1 f2 f3 f4 f5 f6) u.1 ((x.0, o.0), texts _ f1 f2 f3 f4 f5 f6 _ _ _ _ _ _ x.1 o.1 o.2 o.3 o.4 u.0.0)
found kinds.Correct f1 f2 f3 f4 f5 f6 c is =
    let a = with-Ok 3 _ _ c (sym is.2) in
    let b = with-Ok 4 _ _ c a.2 in
    let m = read-Ok _ _ c b.2 in
    let u = same-ok (Correct a.0 b.0 m.0) c m.2 in
    let x = serial-reading.found f1 a.0 a.1 in
    let y = serial-reading.found f2 b.0 b.1 in
    let o = operation-found 5 f3 f4 f5 f6 m.0 (ap (λ t. operation_in Body 5 f3 t f5 f6) (sym is.1) ∙ m.1) in
    subst (IsOfTexts kinds.Correct f1 f2 f3 f4 f5 f6) u ((x.0, y.0, o.0), texts _ f1 f2 f3 f4 f5 f6 _ _ _ _ _ _ x.1 y.1 o.1 o.2 o.3 o.4)
found kinds.Withdraw f1 f2 f3 f4 f5 f6 c is =
    let a = with-Ok 3 _ _ c (sym is) in
    let b = with-Ok 4 _ _ c a.2 in
    let u = unused-Ok 5 (f3 ∷ f4 ∷ f5 ∷ f6 ∷ []) (Withdraw a.0 b.0) c b.2 in
    let x = serial-reading.found f1 a.0 a.1 in
    let y = serial-reading.found f2 b.0 b.1 in
    subst (IsOfTexts kinds.Withdraw f1 f2 f3 f4 f5 f6) u.1 ((x.0, y.0), texts _ f1 f2 f3 f4 f5 f6 _ _ _ _ _ _ x.1 y.1 u.0.0 u.0.1.0 u.0.1.1.0 u.0.1.1.1.0)
found kinds.Mark f1 f2 f3 f4 f5 f6 c is =
    let a = with-Ok 3 _ _ c (sym is.2) in
    let b = with-Ok 4 _ _ c a.2 in
    let u = unused-Ok 5 (f3 ∷ f4 ∷ f5 ∷ f6 ∷ []) (Mark a.0 b.0) c b.2 in
    let x = (is.1 a.0).0 a.1 in
    let y = crew-reading.found f2 b.0 b.1 in
    subst (IsOfTexts kinds.Mark f1 f2 f3 f4 f5 f6) u.1 ((x.0, y.0), texts _ f1 f2 f3 f4 f5 f6 _ _ _ _ _ _ x.1 y.1 u.0.0 u.0.1.0 u.0.1.1.0 u.0.1.1.1.0)
found kinds.Unmark f1 f2 f3 f4 f5 f6 c is =
    let a = with-Ok 3 _ _ c (sym is.2) in
    let b = with-Ok 4 _ _ c a.2 in
    let u = unused-Ok 5 (f3 ∷ f4 ∷ f5 ∷ f6 ∷ []) (Unmark a.0 b.0) c b.2 in
    let x = (is.1 a.0).0 a.1 in
    let y = crew-reading.found f2 b.0 b.1 in
    subst (IsOfTexts kinds.Unmark f1 f2 f3 f4 f5 f6) u.1 ((x.0, y.0), texts _ f1 f2 f3 f4 f5 f6 _ _ _ _ _ _ x.1 y.1 u.0.0 u.0.1.0 u.0.1.1.0 u.0.1.1.1.0)

-- body texts

cut-body : (text : List ℕ) (c : Command) → IsCommand c → text ≡ body_text c → words_in 7 (Some text) ≡ Some (padded 7 (words c))
cut-body text c h e =
    let ws = words-are c h in
    ap (λ t. words_in 7 (Some t)) e ∙ ap (λ t. words_in 7 t) (sym (joined c)) ∙ words-back 7 (words c) ws.0 ws.1

-- where the words are not cut, the text is no body
pub uncut : (text : List ℕ) → words_in 7 (Some text) ≡ None → (c : Command) → (None ≡ Some c) ↔ (IsCommand c × (text ≡ body_text c))
uncut text none c = (λ e. absurd (cc), λ h. let cut = cut-body text c h.0 h.1 in absurd (cc))

-- where they are and have a kind, it is the body of the command that they say
pub is-body : (text kind : List ℕ) (k : Kind) (f : Fields) (r : Result Command Refusal) → words_in 7 (Some text) ≡ Some (seven_texts (kind, f)) → kind_in kind ≡ Some k
    → AreFieldsOf Body k f.f1.now f.f2.now f.f3.now f.f4.now f.f5.now f.f6.now r → (c : Command) → (r ≡ Ok c) ↔ (IsCommand c × (text ≡ body_text c))
is-body text kind k f r cut named is c = (
  λ e.
      let g = found k f.f1.now f.f2.now f.f3.now f.f4.now f.f5.now f.f6.now c (subst (AreFieldsOf Body k f.f1.now f.f2.now f.f3.now f.f4.now f.f5.now f.f6.now) e is) in
      let ws = words-are c g.0 in
      let word = ap (λ t. t ∷ f.f1.now ∷ f.f2.now ∷ f.f3.now ∷ f.f4.now ∷ f.f5.now ∷ f.f6.now ∷ []) (kind-found kind k named) in
      let whole = words-found 7 (Some text) (seven_texts (kind, f)) cut ∙ ap (λ fs. left (trim fs)) (word ∙ g.1) ∙ ap left (trim-padded 7 (words c) ws.0 ws.1) ∙ joined c in
      (g.0, same-some text (body_text c) whole),
  λ h.
      let one = same-some (seven_texts (kind, f)) (padded 7 (words c)) (sym cut ∙ cut-body text c h.0 h.1) in
      let said : IsSeven (seven_texts (kind, f)) r = rw named is in
      back c r h.0 (subst (λ fs. IsSeven fs r) one said),
)

-- where they have none, it is no body
pub no-kind : (text kind : List ℕ) (f : Fields) → words_in 7 (Some text) ≡ Some (seven_texts (kind, f)) → kind_in kind ≡ None
    → (c : Command) → (None ≡ Some c) ↔ (IsCommand c × (text ≡ body_text c))
no-kind text kind f cut none c = (
  λ e. absurd (cc),
  λ h.
      let one = same-some (seven_texts (kind, f)) (padded 7 (words c)) (sym cut ∙ cut-body text c h.0 h.1) in
      let refused : IsSeven (seven_texts (kind, f)) (Err (BadField 1)) = rw none refl in
      let no = back c (Err (BadField 1)) h.0 (subst (λ fs. IsSeven fs (Err (BadField 1))) one refused) in
      absurd (cc),
)

-- two commands have two bodies
pub bodies_differ : BodiesDiffer
bodies_differ a b p q e =
    let same_words = same-some (padded 7 (words a)) (padded 7 (words b)) (sym (cut-body (body_text a) a p refl) ∙ cut-body (body_text a) b q e) in
    same-ok a b (back b (Ok a) q (subst (λ fs. IsSeven fs (Ok a)) same_words (made a p)))

-- the answers of a reader that keeps the command alone
pub kept : (text kind : List ℕ) (k : Kind) (f : Fields) (d : Command) → words_in 7 (Some text) ≡ Some (seven_texts (kind, f)) → kind_in kind ≡ Some k
    → AreFieldsOf Body k f.f1.now f.f2.now f.f3.now f.f4.now f.f5.now f.f6.now (Ok d) → (c : Command) → (Some d ≡ Some c) ↔ (IsCommand c × (text ≡ body_text c))
kept text kind k f d cut named is c =
    let one = is-body text kind k f (Ok d) cut named is c in
    (λ e. one.0 (ap (λ x. Ok x) (same-some d c e)), λ h. ap (λ x. Some x) (same-ok d c (one.1 h)))

pub refused : (text kind : List ℕ) (k : Kind) (f : Fields) (e : Refusal) → words_in 7 (Some text) ≡ Some (seven_texts (kind, f)) → kind_in kind ≡ Some k
    → AreFieldsOf Body k f.f1.now f.f2.now f.f3.now f.f4.now f.f5.now f.f6.now (Err e) → (c : Command) → (None ≡ Some c) ↔ (IsCommand c × (text ≡ body_text c))
refused text kind k f e cut named is c =
    let one = is-body text kind k f (Err e) cut named is c in
    (λ n. absurd (cc), λ h. let no = one.1 h in absurd (cc))
