-- The texts of the row of a command are short: its reference and its body.
use Rattle.std.proofs.Common.{◌≡◌, ℕ, ℤ, ◌+◌, ◌*◌, ◌/◌, ◌%◌, ◌≤◌, ◌==◌, Bool, true, false, zero, suc, pos, negsuc, List, [], ◌∷◌, ◌++◌, length, codes, decimal, Option, Some, None, refl, arith, inl, inr, length-append}
use Rattle.std.specs.Fmt.{digit_glyph, digits, digits_onto}
use Rattle.std.specs.List.{AllByRecursion, join_with_byte}
use Rattle.std.proofs.lemmas.Bool.{cases_Bool}
use Rattle.jiff.specs.Types.{Date}
use Rattle.jiff.specs.Words.{date_text}
use Rattle.jiff_fmt.specs.Text.{pad2, year_text}
use Rattle.ob_base.specs.declared.Pos.{Pos}
use Rattle.ob_base.specs.declared.Pos.TheVariants.{Opened, Closed}
use Rattle.ob_base.specs.Identifier.{is_identifier}
use Rattle.ob_command.specs.Commands.{IsCommand, IsName, IsCrew, act_text, body_text, normal_text, until_text, words}
use Rattle.ob_command.specs.declared.command.Command.{Command}
use Rattle.ob_command.specs.declared.command.Command.TheVariants.{Cause, Bus, Section, Device, Life, Connect, Revise, Switch, Correct, Withdraw, Mark, Unmark}
use Rattle.ob_sql_rows.specs.Rules.{IsShort}
use Rattle.ob_sql_rows.proofs.Identifiers.{identifier_long}

-- a reference is short
pub short_reference : (reference : List ℕ) → is_identifier 40 reference ≡ true → IsShort reference
short_reference reference h = let long = identifier_long 40 reference h in omega (arith, long)

-- ---- words of commands
-- the word has at most 64 bytes
abbrev IsBrief : List ℕ → Type 0
IsBrief word = length word ≤ 64

brief : (word : List ℕ) (n : ℕ) → length word ≡ n → n ≤ 64 → IsBrief word
brief word n long h = omega (arith, long, h)

digits_brief : (k base : ℕ) (upper : Bool) (n : ℕ) (acc : List ℕ) → length (digits_onto k base upper n acc) ≤ k + length acc
digits_brief zero base upper n acc = omega arith
digits_brief (suc k) base upper n acc = elim (cases_Bool (n / base == 0)) [
  | inl last ↦ rw last (omega arith)
  | inr more ↦ (let rest = digits_brief k base upper (n / base) (digit_glyph upper (n % base) ∷ acc) in rw more (omega (arith, rest)))
]

number_brief : (n : ℕ) → IsBrief (decimal n)
unfolding digits
number_brief n = digits_brief 64 10 false n []

name_brief : (name : List ℕ) → IsName name → IsBrief name
name_brief name h = let long = identifier_long 24 name h in omega (arith, long)

crew_brief : (crew : List ℕ) → IsCrew crew → IsBrief crew
crew_brief crew h = let long = identifier_long 16 crew h in omega (arith, long)

normal_brief : (p : Pos) → IsBrief (normal_text p)
normal_brief Opened = brief (codes "open") 4 refl (omega arith)
normal_brief Closed = brief (codes "closed") 6 refl (omega arith)

act_brief : (p : Pos) → IsBrief (act_text p)
act_brief Opened = brief (codes "open") 4 refl (omega arith)
act_brief Closed = brief (codes "close") 5 refl (omega arith)

until_brief : (until : Option ℕ) → IsBrief (until_text until)
until_brief None = brief (codes "-") 1 refl (omega arith)
until_brief (Some s) = number_brief s

date_parts : (year : ℤ) (month day : ℕ) → IsBrief (year_text year ++ 45 ∷ [] ++ pad2 month ++ 45 ∷ [] ++ pad2 day)
date_parts (pos n) month day = brief (year_text (pos n) ++ 45 ∷ [] ++ pad2 month ++ 45 ∷ [] ++ pad2 day) 10 refl (omega arith)
date_parts (negsuc n) month day = brief (year_text (negsuc n) ++ 45 ∷ [] ++ pad2 month ++ 45 ∷ [] ++ pad2 day) 13 refl (omega arith)

date_brief : (d : Date) → IsBrief (date_text d)
date_brief d = date_parts d.year d.month d.day

words_brief : (command : Command) → IsCommand command → AllByRecursion IsBrief (words command)
words_brief (Cause code name) is =
    (brief (codes "cause") 5 refl (omega arith), (number_brief code, (name_brief name is.1, tt)))
words_brief (Bus name) is =
    (brief (codes "bus") 3 refl (omega arith), (name_brief name is, tt))
words_brief (Section name feeder) is =
    (brief (codes "section") 7 refl (omega arith), (name_brief name is.0, (number_brief feeder, tt)))
words_brief (Device d) is =
    (brief (codes "device") 6 refl (omega arith), (name_brief d.name is.0, (name_brief d.ends.a is.1.0, (name_brief d.ends.b is.1.1, (normal_brief d.normal, (number_brief d.life.since, (until_brief d.life.until, tt)))))))
words_brief (Life device life) is =
    (brief (codes "life") 4 refl (omega arith), (name_brief device is.0, (number_brief life.since, (until_brief life.until, tt))))
words_brief (Connect customer section service) is =
    (brief (codes "connect") 7 refl (omega arith), (number_brief customer, (name_brief section is.1, (number_brief service.since, (until_brief service.until, tt)))))
words_brief (Revise customer service) is =
    (brief (codes "revise") 6 refl (omega arith), (number_brief customer, (number_brief service.since, (until_brief service.until, tt))))
words_brief (Switch device o) is =
    (brief (codes "switch") 6 refl (omega arith), (name_brief device is.0, (act_brief o.act, (number_brief o.second, (number_brief o.cause, (crew_brief o.crew is.1.2, tt))))))
words_brief (Correct entry revision o) is =
    (brief (codes "correct") 7 refl (omega arith), (number_brief entry, (number_brief revision, (act_brief o.act, (number_brief o.second, (number_brief o.cause, (crew_brief o.crew is.2.2, tt)))))))
words_brief (Withdraw entry revision) is =
    (brief (codes "withdraw") 8 refl (omega arith), (number_brief entry, (number_brief revision, tt)))
words_brief (Mark date engineer) is =
    (brief (codes "mark") 4 refl (omega arith), (date_brief date, (crew_brief engineer is.1, tt)))
words_brief (Unmark date engineer) is =
    (brief (codes "unmark") 6 refl (omega arith), (date_brief date, (crew_brief engineer is.1, tt)))

few_words : (command : Command) → length (words command) ≤ 7
few_words (Cause code name) = omega arith
few_words (Bus name) = omega arith
few_words (Section name feeder) = omega arith
few_words (Device d) = omega arith
few_words (Life device life) = omega arith
few_words (Connect customer section service) = omega arith
few_words (Revise customer service) = omega arith
few_words (Switch device o) = omega arith
few_words (Correct entry revision o) = omega arith
few_words (Withdraw entry revision) = omega arith
few_words (Mark date engineer) = omega arith
few_words (Unmark date engineer) = omega arith

joined_brief : (ws : List (List ℕ)) → AllByRecursion IsBrief ws → length (join_with_byte 32 ws) ≤ 65 * length ws
joined_brief [] all = omega arith
joined_brief (w ∷ []) all = omega (arith, all.0)
joined_brief (w ∷ v ∷ ws) all =
    let rest = joined_brief (v ∷ ws) all.1 in
    let whole : length (join_with_byte 32 (w ∷ v ∷ ws)) ≡ length w + length (32 ∷ join_with_byte 32 (v ∷ ws)) = length-append w (32 ∷ join_with_byte 32 (v ∷ ws)) in
    omega (arith, all.0, rest, whole)

-- so is the body of a command
pub short_body : (command : Command) → IsCommand command → IsShort (body_text command)
short_body command is = let joined = joined_brief (words command) (words_brief command is) in let few = few_words command in omega (arith, joined, few)
