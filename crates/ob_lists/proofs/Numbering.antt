-- The hidden row numbers that a crash leaves: over a command, and from a new book on.
use Rattle.std.proofs.Common.{◌≡◌, inl, inr, ℕ, List, [], ◌++◌, None, Result, Ok, Err, IsSome, OnOk, refl, sym, ap, subst, append-nil, ◌∙◌, is_some, true≢false}
use Rattle.std.specs.Prelude.{⊤}
use Rattle.ob_base.specs.declared.stop.Stop.{Stop}
use Rattle.ob_base.specs.declared.stop.Stop.TheVariants.{Fault}
use Rattle.ob_base.specs.declared.stop.Fault.TheVariants.{Reopen}
use Rattle.ob_book.specs.Acts.{ActState, Referenced, start}
use Rattle.ob_store.specs.Calls.{Created, HasCommandCause, TellsFaults}
use Rattle.ob_store.specs.Keepers.{Ghosts, StoresNumbers, Ties, book_of}
use Rattle.ob_store.specs.declared.reply.Reply.{Reply as GivenReply}
use Rattle.ob_store.specs.declared.keeper.Keeper.{Keeper}
use Rattle.ob_lists.specs.Standing.{MayBe, Stands, Told}
use Rattle.ob_lists.specs.Going.{ActsForCause, BegunNumbered, TellsOverList}
use Rattle.ob_lists.proofs.Standings.{by_book}

module _ {S T : Type 0} {g : Ghosts S} (old new : Keeper S T g) (Is : ActState → Type 0) where
  -- one of the books that may stand
  standing : Stands Is old → (x : ActState) × Is x
  standing (inl it) = (it.book, it.is)
  standing (inr (inl it)) = (it.book, it.is)
  standing (inr (inr (inl it))) = (it.book, it.is)
  standing (inr (inr (inr it))) = (it.book, it.is)

  module _ (a : Referenced) where
    -- without a book the keeper tells that, and no fault of the store
    not_opened : (r : Result GivenReply Stop) → r ≡ Err (Fault Reopen) → (x : ActState) → HasCommandCause {X = GivenReply} old new x a r
    not_opened r e x = subst (λ (r : Result GivenReply Stop). HasCommandCause {X = GivenReply} old new x a r) (sym e) (λ store. absurd cc)

    pub acts_for_cause : (r : Result GivenReply Stop) → (book_of old ≡ None → r ≡ Err (Fault Reopen))
        → ((x : ActState) → Ties old x → IsSome (book_of old) → HasCommandCause {X = GivenReply} old new x a r) → Stands Is old → ActsForCause {X = GivenReply} Is old new a r
    acts_for_cause r reopen cause stands = elim (by_book old new Is (book_of old) refl stands) [
      | inl none ↦ let it = standing stands in (it.0, it.1, not_opened r (reopen none) it.0)
      | inr it ↦ (it.0, it.1, cause it.0 it.2 it.3)
    ]

  pub numbers_act : (book_of old ≡ None → new ≡ old) → ((x : ActState) → Ties old x → StoresNumbers new) → Stands Is old → StoresNumbers old
      → StoresNumbers new
  numbers_act unopened numbered stands numbers = elim (by_book old new Is (book_of old) refl stands) [
    | inl none ↦ subst (λ (k : Keeper S T g). StoresNumbers k) (sym (unopened none)) numbers
    | inr it ↦ numbered it.0 it.2
  ]

-- what a call tells of the store's faults, of whichever book there may be
pub tells_over : {S T : Type 0} {g : Ghosts S} (old new : Keeper S T g) (F : Type 0) → (book_of old ≡ None → new ≡ old) → TellsFaults old new F → TellsOverList old new F
tells_over old new F unopened tells = record {
  forgets = tells.forgets;
  numbered = λ b told stands numbers. elim (by_book old new (MayBe b told) (book_of old) refl stands) [
    | inl none ↦ subst (λ k. StoresNumbers k) (sym (unopened none)) numbers
    | inr it ↦ (λ clean. tells.numbered clean it.0 it.2 it.3 numbers clean)
  ];
  cause = λ clean b told stands some numbers fails. elim (by_book old new (MayBe b told) (book_of old) refl stands) [
    | inl none ↦ absurd (true≢false (sym some ∙ ap is_some none))
    | inr it ↦ (it.0, it.1, tells.cause clean it.0 it.2 it.3 numbers fails)
  ];
}

-- a new book, and what is told of it since
module _ {S T R U : Type 0} {g : Ghosts S} {h : Ghosts R} (old made : Keeper S T g) (new : Keeper R U h) (first : List ℕ) (days : ℕ) (zone : List ℕ) (told : List Told) where
  pub begun_numbered : (r : Result ⊤ Stop) → Created old made first days zone r → OnOk r (StoresNumbers made)
      → ((b : ActState) → Stands (MayBe b []) made → StoresNumbers made → Stands (MayBe b (told ++ [])) new × StoresNumbers new)
      → OnOk r (BegunNumbered first days zone told new)
  begun_numbered (Ok done) created numbers on =
      let b = start created.0 in
      let got = on b (inl (record { book = b; is = refl; ties = created.3 })) numbers in
      (created.0, created.1, subst (λ (told : List Told). Stands (MayBe b told) new) (append-nil told) got.0, got.1)
  begun_numbered (Err stop) created numbers on = tt
