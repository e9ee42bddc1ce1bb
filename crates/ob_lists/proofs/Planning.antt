-- What a plan says of a book that the store may have.
use Rattle.std.proofs.Common.{◌≡◌, ◌↔◌, inl, inr, ap, refl, sym, ◌∙◌, ℕ, List, Option, Some, None, IfSome, Result, Ok, Err, is_ok, true≢false}
use Rattle.std.specs.Prelude.{IfOk}
use Rattle.ob_base.specs.declared.stop.Fault.TheVariants.{Reopen}
use Rattle.ob_base.specs.declared.stop.Refusal.{Refusal}
use Rattle.ob_base.specs.declared.stop.Stop.{Stop}
use Rattle.ob_base.specs.declared.stop.Stop.TheVariants.{Refused, Fault}
use Rattle.ob_command.specs.declared.command.Command.{Command}
use Rattle.ob_state.specs.Refusals.{refusal}
use Rattle.ob_state.specs.State.{BookState}
use Rattle.ob_book.specs.Acts.{ActState}
use Rattle.ob_book.specs.Forecasts.{forecast_text_of}
use Rattle.ob_store.specs.Keepers.{Ghosts, OnlySearches, book_of}
use Rattle.ob_store.specs.declared.keeper.Keeper.{Keeper}
use Rattle.ob_store.proofs.Searching.{still_stores}
use Rattle.ob_lists.specs.Going.{PlansOne, RefusesOne}
use Rattle.ob_lists.specs.Standing.{Stands}
use Rattle.ob_lists.proofs.Standings.{kept_on}

not_stopped : {X : Type 0} (x : X) (stop : Stop) → ◌≡◌ {A = Result X Stop} (Ok x) (Err stop) → ⊥
not_stopped x stop e = true≢false (ap is_ok e)

-- a command that no refusal stops is accepted
unrefused : {X : Type 0} (x : X) (b : BookState) (command : Command) (why : Option Refusal) → refusal b command ≡ why
    → ((r : Refusal) → ◌≡◌ {A = Result X Stop} (Ok x) (Err (Refused r)) ↔ (refusal b command ≡ Some r)) → refusal b command ≡ None
unrefused x b command None why refuses = why
unrefused x b command (Some r) why refuses = absurd (not_stopped x (Refused r) ((refuses r).1 why))

-- a refusal isn't told where there is no book
not_refused : {X : Type 0} (why : Refusal) → ◌≡◌ {A = Result X Stop} (Err (Refused why)) (Err (Fault Reopen)) → ⊥
not_refused why e = cc

module _ {S T X : Type 0} {g : Ghosts S} (Is : ActState → Type 0) (k : Keeper S T g) (items : X → List ℕ) (command : Command) where
  -- the plan of the book that the keeper has, which is this one's
  of_book : (x : X) (o : Option BookState) (a : ActState) → book_of k ≡ o → Is a → IfSome o (λ s. s ≡ a.book)
      → (book_of k ≡ None → ◌≡◌ {A = Result X Stop} (Ok x) (Err (Fault Reopen)))
      → ((b : BookState) → book_of k ≡ Some b → (r : Refusal) → ◌≡◌ {A = Result X Stop} (Ok x) (Err (Refused r)) ↔ (refusal b command ≡ Some r))
      → ((b : BookState) → book_of k ≡ Some b → items x ≡ forecast_text_of b command) → PlansOne Is command (items x)
  of_book x None a at is same reopen refuses text = absurd (not_stopped x (Fault Reopen) (reopen at))
  of_book x (Some b) a at is same reopen refuses text =
      let here : book_of k ≡ Some a.book = at ∙ ap Some same in
      (a, is, unrefused x a.book command (refusal a.book command) refl (refuses a.book here), text a.book here)

  pub plans_one : (result : Result X Stop) → (book_of k ≡ None → result ≡ Err (Fault Reopen))
      → ((b : BookState) → book_of k ≡ Some b → (r : Refusal) → (result ≡ Err (Refused r)) ↔ (refusal b command ≡ Some r))
      → ((b : BookState) → book_of k ≡ Some b → IfOk result (λ x. items x ≡ forecast_text_of b command))
      → Stands Is k → IfOk result (λ x. PlansOne Is command (items x))
  plans_one (Err stop) reopen refuses text stands = tt
  plans_one (Ok x) reopen refuses text (inl it) = of_book x (book_of k) it.book refl it.is it.ties.book reopen refuses text
  plans_one (Ok x) reopen refuses text (inr (inl it)) = absurd (not_stopped x (Fault Reopen) (reopen it.lost))
  plans_one (Ok x) reopen refuses text (inr (inr (inl it))) = absurd (not_stopped x (Fault Reopen) (reopen it.lost))
  plans_one (Ok x) reopen refuses text (inr (inr (inr it))) = absurd (not_stopped x (Fault Reopen) (reopen it.lost))

  -- and its refusal
  refused_by : (result : Result X Stop) (o : Option BookState) (a : ActState) → book_of k ≡ o → Is a → IfSome o (λ s. s ≡ a.book)
      → (book_of k ≡ None → result ≡ Err (Fault Reopen))
      → ((b : BookState) → book_of k ≡ Some b → (r : Refusal) → (result ≡ Err (Refused r)) ↔ (refusal b command ≡ Some r))
      → (why : Refusal) → result ≡ Err (Refused why) → RefusesOne Is command why
  refused_by result None a at is same reopen refuses why told = absurd (not_refused why (sym told ∙ reopen at))
  refused_by result (Some b) a at is same reopen refuses why told =
      let here : book_of k ≡ Some a.book = at ∙ ap Some same in
      (a, is, (refuses a.book here why).0 told)

  pub refuses_one : (result : Result X Stop) → (book_of k ≡ None → result ≡ Err (Fault Reopen))
      → ((b : BookState) → book_of k ≡ Some b → (r : Refusal) → (result ≡ Err (Refused r)) ↔ (refusal b command ≡ Some r))
      → Stands Is k → (why : Refusal) → result ≡ Err (Refused why) → RefusesOne Is command why
  refuses_one result reopen refuses (inl it) why told = refused_by result (book_of k) it.book refl it.is it.ties.book reopen refuses why told
  refuses_one result reopen refuses (inr (inl it)) why told = absurd (not_refused why (sym told ∙ reopen it.lost))
  refuses_one result reopen refuses (inr (inr (inl it))) why told = absurd (not_refused why (sym told ∙ reopen it.lost))
  refuses_one result reopen refuses (inr (inr (inr it))) why told = absurd (not_refused why (sym told ∙ reopen it.lost))

-- what stands still does after searches of the network
pub searched_stands : {S T : Type 0} {g : Ghosts S} (Is : ActState → Type 0) (old new : Keeper S T g) → OnlySearches old new → Stands Is old → Stands Is new
searched_stands Is old new same = kept_on old new Is (still_stores old new same) (inl same.1)
