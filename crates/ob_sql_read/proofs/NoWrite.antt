-- A text that is a query shows the rows of no write, whatever the schema, so it commits nothing.
use Rattle.std.proofs.Common.{◌≡◌, inl, inr, ℕ, List, Option, None, Result, Ok, Err, refl, sym, ap, subst, ◌∙◌}
use Rattle.std.specs.Prelude.{IfOk}
use Rattle.std.proofs.lemmas.Bool.{cases_Bool}
use Rattle.sqlite.specs.Order.{Row}
use Rattle.sqlite.specs.Schema.{Schema}
use Rattle.sqlite.specs.Listing.{if_select, is_select, listing_schema, reads_listing, understood}
use Rattle.sqlite.specs.State.{State, CommitsShowing}
use Rattle.sqlite.specs.Command.{Command}
use Rattle.sqlite_schema.specs.declared.command.Returning.{Returning}
use Rattle.sqlite_trees.specs.Tree.{Trees}
use Rattle.sqlite_resolve.specs.declared.compiled.Compiled.{Compiled}
use Rattle.sqlite_resolve.specs.declared.error.CompileError.{CompileError}
use Rattle.sqlite_resolve.specs.Compile.{compiled, command, first, meaning, planned, returning, with_command}
use Rattle.sqlite_resolve.specs.Lowering.{Checked, and_then}
use Rattle.ob_sql_read.specs.Listing.{ShowsNoWrite}

-- it was read as a statement that shows no rows of a write
abbrev pub IsQueryText : List ℕ → Type 0
IsQueryText text = (schema : Schema) (base : ℕ) → IfOk (first text) (λ p. returning schema base p.statement ≡ Ok None)

-- what two steps gave, each gave
through : {A B : Type 0} (r : Checked A) (f : A → Checked B) (b : B) → and_then r f ≡ Ok b → (a : A) × (r ≡ Ok a) × (f a ≡ Ok b)
through (Ok a) f b e = (a, refl, e)
through (Err error) f b e = absurd cc

same_ok : {A : Type 0} {a b : A} → Path (Checked A) (Ok a) (Ok b) → a ≡ b
same_ok e = cc

-- the steps hand on what is shown
as_shown : {formats : List (List ℕ)} (p : _) (c : Compiled) (plan : List (List ℕ) × (Command × Option Returning)) (made : Command × Option Returning) (ran : Command) (shown : Option Returning)
    → with_command p plan ≡ c → (formats, made) ≡ plan → (ran, shown) ≡ made → shown ≡ None → c.returning ≡ None
as_shown p c plan made ran shown c_is plan_is made_is none =
    sym (ap (λ (x : Compiled). x.returning) c_is) ∙ sym (ap (λ (x : List (List ℕ) × (Command × Option Returning)). x.1.1) plan_is) ∙ sym (ap (λ (x : Command × Option Returning). x.1) made_is) ∙ none

compiled_quiet : (text : List ℕ) → IsQueryText text → (schema : Schema) (c : Compiled) → compiled schema text ≡ Ok c → c.returning ≡ None
unfolding compiled planned meaning
compiled_quiet text is schema c e =
    let whole = through (first text) _ c e in
    let plan = through (planned schema whole.0) _ c whole.2 in
    let made = through (meaning schema whole.0 _) _ plan.0 plan.1 in
    let shown = through (returning schema _ whole.0.statement) _ made.0 made.1 in
    let ran = through (command schema _ _ whole.0.statement) _ made.0 shown.2 in
    let none : returning schema _ whole.0.statement ≡ Ok None = rw whole.1 at is schema _ in
    as_shown whole.0 c plan.0 made.0 ran.0 shown.0 (same_ok plan.2) (same_ok made.2) (same_ok ran.2) (same_ok (sym shown.1 ∙ none))

pub shows_no_write : (text : List ℕ) → IsQueryText text → ShowsNoWrite text
unfolding understood
shows_no_write text is schema c e = elim (cases_Bool (reads_listing schema text)) [
  | inl lists ↦ if_quiet (compiled listing_schema text) (compiled_quiet text is listing_schema) (rw lists at e)
  | inr plain ↦ compiled_quiet text is schema c (rw plain at e)
]
  where
    if_quiet : (r : Result Compiled CompileError) → ((x : Compiled) → r ≡ Ok x → x.returning ≡ None) → if_select r ≡ Ok c → c.returning ≡ None
    if_quiet (Ok x) quiet h = elim (cases_Bool (is_select x.command)) [
      | inl so ↦ let same : x ≡ c = same_ok (rw so at h) in subst (λ (y : Compiled). y.returning ≡ None) same (quiet x refl)
      | inr not_so ↦ absurd (let e = rw not_so at h in cc)
    ]
    if_quiet (Err error) quiet h = absurd cc

-- it commits nothing
pub commits_no_write : (text : List ℕ) → ShowsNoWrite text → (params : Row) (s : State) (db : Trees) → ¬ CommitsShowing text params s db
unfolding CommitsShowing
commits_no_write text none params s db h = let e = rw (none s.now.schema h.0 h.1.is) at h.2 in cc
