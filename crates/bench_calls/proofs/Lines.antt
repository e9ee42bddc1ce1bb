-- The lines of a year, read one after another.
use Rattle.std.proofs.Common.{◌≡◌, ◌∙◌, sym, ap, ap₂, refl, ℕ, suc, ◌+◌, ◌==◌, List, [], ◌∷◌, ◌++◌, Some, None, length, take, drop, get_or, arith}
use Rattle.std.specs.List.{All, position}
use Rattle.std.proofs.Math.Seq.{drop-cons}
use Rattle.std.proofs.lemmas.Bool.{eqb-true}
use Rattle.std.proofs.lemmas.List.{append-nil, append_assoc, flat_map_more, take-append-drop}
use Rattle.std.proofs.lemmas.List.Elements.{All-nil, All-push}
use Rattle.std.proofs.lemmas.List.Quantifiers.{position-Some}
use Rattle.ob_time.specs.Calendar.{Calendar}
use Rattle.ob_command.specs.Commands.{body_text, IsCommand}
use Rattle.ob_command.specs.declared.command.Command.{Command}
use Rattle.ob_state.specs.State.{BookState, empty_book}
use Rattle.ob_state.specs.Refusals.{refusal}
use Rattle.ob_state.specs.Next.{after, next, next_all}
use Rattle.bench_calls.specs.Years.{IsStep, IsYear, IsYear2024, line_of, lines_of}

-- commands were read from the front of the text, and the rest of it was not; whatever comes after them goes on from this state
pub record IsReadUpTo (text rest : List ℕ) (b : BookState) : Type 0 where
  pub period : Calendar
  pub year : IsYear2024 period
  pub commands : List Command
  pub valid : All IsCommand commands
  pub front : lines_of commands ++ rest ≡ text
  pub goes_on : (more : List Command) → after period (commands ++ more) ≡ next_all b more

-- an accepted command goes on to the state after it
goes_on_from : (b c : BookState) (command : Command) (more : List Command) → refusal b command ≡ None → c ≡ next b command → next_all b (command ∷ more) ≡ next_all c more
goes_on_from b c command more accepted is = rw (accepted, is) refl

-- where the first line feed stands, a text is cut into the line before it and the rest
pub cut_at : (text : List ℕ) (at : ℕ) → position (λ b. b == 10) text ≡ Some at → text ≡ take at text ++ 10 ∷ drop (at + 1) text
cut_at text at found =
    let here = position-Some (λ b. b == 10) text at 0 found in
    let step : suc at ≡ at + 1 = omega arith in
    sym (take-append-drop at text)
    ∙ ap (λ (t : List ℕ). take at text ++ t) (drop-cons text at 0 here.0 ∙ ap₂ (λ (x : ℕ) (t : List ℕ). x ∷ t) (eqb-true _ 10 here.1) (ap (λ (n : ℕ). drop n text) step))

-- a line more was read
pub line_read : (text rest line left : List ℕ) (b c : BookState) → rest ≡ line ++ 10 ∷ left → IsStep line b c → IsReadUpTo text rest b → IsReadUpTo text left c
line_read text rest line left b c cut (command, valid, is, accepted, after_it) h = record {
  period = h.period;
  year = h.year;
  commands = h.commands ++ command ∷ [];
  valid = All-push IsCommand h.commands command h.valid valid;
  front =
      ap (λ (t : List ℕ). t ++ left) (sym (flat_map_more line_of [] h.commands command))
      ∙ append_assoc (lines_of h.commands) (line_of command) left
      ∙ ap (λ (t : List ℕ). lines_of h.commands ++ t) (append_assoc (body_text command) (10 ∷ []) left ∙ ap (λ (t : List ℕ). t ++ 10 ∷ left) (sym is) ∙ sym cut)
      ∙ h.front;
  goes_on = λ more.
      ap (after h.period) (append_assoc h.commands (command ∷ []) more)
      ∙ h.goes_on (command ∷ more)
      ∙ goes_on_from b c command more accepted after_it;
}

none_left : (xs : List ℕ) → length xs ≡ 0 → xs ≡ []
none_left [] h = refl
none_left (x ∷ xs) h = absurd (cc)

-- where no rest is left, the text is a year's
pub all_read : (text rest : List ℕ) (b : BookState) → length rest ≡ 0 → IsReadUpTo text rest b → IsYear text b
all_read text rest b end h =
    let whole : lines_of h.commands ++ [] ≡ text = ap (λ (t : List ℕ). lines_of h.commands ++ t) (sym (none_left rest end)) ∙ h.front in (
      h.period,
      h.commands,
      h.year,
      h.valid,
      sym whole ∙ append-nil (lines_of h.commands),
      ap (after h.period) (sym (append-nil h.commands)) ∙ h.goes_on [],
    )
