-- What is answered under a known reference, and after a fault of the store.
use Rattle.std.proofs.Common.{◌≡◌, ◌≢◌, ◌≤◌, inl, inr, ℕ, ◌-◌, true, List, Some, Result, Ok, Err, refl, sym, ap, subst, ◌∙◌}
use Rattle.std.specs.Prelude.{slice_get, IfOk, IfErr}
use Rattle.std.specs.List.{AllByRecursion}
use Rattle.std.specs.Str.{bytes_eq}
use Rattle.std.proofs.lemmas.Bool.{cases_Bool}
use Rattle.std.proofs.lemmas.Slice.Eq.{bytes_eq-Decides}
use Rattle.sqlite_trees.specs.declared.store.Store.{Ghosts}
use Rattle.sqlite.specs.Held.{Held, state}
use Rattle.sqlite.specs.State.{State, HasCleanDisk, Survives}
use Rattle.ob_base.specs.declared.stop.Stop.{Stop}
use Rattle.ob_base.specs.declared.stop.Refusal.TheVariants.{RefConflict}
use Rattle.ob_command.specs.Commands.{body_text}
use Rattle.ob_command.specs.declared.command.Command.{Command}
use Rattle.ob_state.specs.State.{BookState}
use Rattle.ob_book.specs.Acts.{ActState, Referenced, act, answer, is_accepted, number_of, reply_of, take_on}
use Rattle.ob_sql_rows.specs.Steps.{HasFaultCause, IsStoreFault}
use Rattle.ob_sql_write.proofs.Commits.{first_of_either}
use Rattle.ob_record.specs.Tables.{tables_of}
use Rattle.ob_record.specs.Naming.{IsReferenced}
use Rattle.ob_record.specs.Reached.{AcceptedIsReached, IsReached}
use Rattle.ob_store.proofs.Accepting.{valid_more}
use Rattle.ob_store.proofs.Failing.{failed_since}
use Rattle.ob_store.specs.Keeping.{KeepsBook, KeepsEitherBook}
use Rattle.ob_store.specs.Acting.{Acts, HasActCause, reply_as, under}
use Rattle.ob_store.specs.declared.reply.Reply.{Reply as GivenReply}

-- a command leads from what is reached to what is reached
pub reached_act : AcceptedIsReached → (b : ActState) (a : Referenced) → IsReached b → IsReached (act b a)
reached_act law b a reached = elim (cases_Bool (is_accepted b a)) [
  | inl t ↦ subst IsReached (let e : take_on b a ≡ act b a = rw t in e) (law b a reached t)
  | inr f ↦ subst IsReached (let e : b ≡ act b a = rw f in e) reached
]

-- and its references and commands stay what their types keep
pub valid_act : (b : ActState) (a : Referenced) → AllByRecursion IsReferenced b.accepted → IsReferenced a → AllByRecursion IsReferenced (act b a).accepted
valid_act b a valid named = elim (cases_Bool (is_accepted b a)) [
  | inl t ↦ subst (λ (x : ActState). AllByRecursion IsReferenced x.accepted) (let e : take_on b a ≡ act b a = rw t in e) (valid_more b.accepted a valid named)
  | inr f ↦ subst (λ (x : ActState). AllByRecursion IsReferenced x.accepted) (let e : b ≡ act b a = rw f in e) valid
]

module _ (b : ActState) (r : List ℕ) (command : Command) (id : ℕ) (known : number_of b r ≡ Some id) where
  -- a command under a known reference changes nothing
  pub stays : act b (under r command) ≡ b
  stays = rw known

  module _ (found : Referenced) (there : slice_get b.accepted (id - 1) ≡ Some found) where
    pub again : body_text found.command ≡ body_text command → answer b (under r command) ≡ Ok (reply_of b id)
    again same =
        let same_text : bytes_eq (body_text found.command) (body_text command) ≡ true = (bytes_eq-Decides (body_text found.command) (body_text command)).1 same in
        rw (known, there, same_text)

    pub conflict : body_text found.command ≢ body_text command → answer b (under r command) ≡ Err (RefConflict id)
    conflict other = elim (cases_Bool (bytes_eq (body_text found.command) (body_text command))) [
      | inl t ↦ absurd (other ((bytes_eq-Decides (body_text found.command) (body_text command)).0 t))
      | inr f ↦ rw (known, there, f)
    ]

pub either_of : (s : State) (b : ActState) (a : Referenced) → KeepsBook s b → IsReached (act b a) → IsReferenced a → KeepsEitherBook s b (act b a)
either_of s b a keeps reached named = record {
  kept = first_of_either s (tables_of b) (tables_of (act b a)) keeps.kept;
  reached = keeps.reached;
  other_reached = reached;
  valid = keeps.valid;
  other_valid = valid_act b a keeps.valid named;
}

module _ {S : Type 0} (g : Ghosts S) (new : Held S) (was : BookState) (b : ActState) (a : Referenced) (keeps : KeepsBook (state g new) b) (reached : IsReached (act b a)) (named : IsReferenced a) where
  -- a fault of a read
  pub fault_acts : (stop : Stop) → IsStoreFault stop → Acts g new was was b a (Err stop)
  fault_acts stop (inl memory) = subst (λ s. Acts g new was was b a (Err s)) (sym memory) (keeps, refl)
  fault_acts stop (inr store) = subst (λ s. Acts g new was was b a (Err s)) (sym store) (either_of (state g new) b a keeps reached named)

  -- the reply once more, or a fault
  pub again_acts : (id : ℕ) (r : Result GivenReply Stop) → IfErr r IsStoreFault → IfOk r (λ x. reply_as x ≡ reply_of b id) → act b a ≡ b → answer b a ≡ Ok (reply_of b id) → was ≡ b.book
      → Acts g new was was b a r
  again_acts id (Ok x) faults reply same answered is =
      (answered ∙ ap Ok (sym reply), subst (KeepsBook (state g new)) (sym same) keeps, is ∙ ap (λ s. s.book) (sym same))
  again_acts id (Err stop) faults reply same answered is = fault_acts stop faults

pub each_ok : {X E : Type 0} {P Q : X → Type 0} (r : Result X E) → IfOk r P → ((x : X) → P x → Q x) → IfOk r Q
each_ok (Ok x) p f = f x p
each_ok (Err e) p f = p

-- ---- why the store fails
-- a reading that fails, fails with a cause
pub read_cause : {X : Type 0} {S : Type 0} (g : Ghosts S) (old new : Held S) (b : ActState) (a : Referenced) (r : Result X Stop) → HasFaultCause (state g old) (state g new) r → HasActCause g old new b a r
read_cause g old new b a (Ok x) cause = tt
read_cause g old new b a (Err stop) cause = λ store. inl (cause store)

-- and so does what fails after a reading
pub cause_since : {X : Type 0} {S : Type 0} (g : Ghosts S) (old mid new : Held S) (b : ActState) (a : Referenced) (r : Result X Stop) → Survives (state g old) (state g mid) (λ _. ⊥)
    → HasCleanDisk (state g mid) → (state g mid).faults ≤ (state g new).faults → HasActCause g mid new b a r → HasActCause g old new b a r
cause_since g old mid new b a (Ok x) one clean up cause = tt
cause_since g old mid new b a (Err stop) one clean up cause = λ store. elim (cause store) [
  | inl failed ↦ inl (failed_since (state g old) (state g mid) (state g new) one clean up failed)
  | inr undone ↦ inr undone
]
