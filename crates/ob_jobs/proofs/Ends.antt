-- How a job ends: its work, and the text that tells it.
use Rattle.std.proofs.Common.{◌≡◌, ◌≢◌, ℕ, List, Option, Some, Result, Ok, Err, inl, inr, refl, sym, subst, ◌∙◌}
use Rattle.std.specs.Bool.{⊤}
use Rattle.ob_base.specs.declared.stop.Stop.{Stop}
use Rattle.ob_base.specs.declared.stop.Stop.TheVariants.{Refused, Fault}
use Rattle.ob_base.specs.declared.stop.Fault.TheVariants.{OutOfMemory, Store, Reopen, Input, Output}
use Rattle.ob_sql_read.specs.Reading.{IsReadFault}
use Rattle.ob_state.specs.State.{BookState}
use Rattle.ob_book.specs.Views.{annual_table_of_book}
use Rattle.ob_store.specs.Keepers.{Ghosts}
use Rattle.ob_store.specs.declared.keeper.Keeper.{Keeper}
use Rattle.ob_stream.specs.declared.watched.Watched.{Watched}
use Rattle.ob_jobs.specs.Making.{MakingOf}
use Rattle.ob_selections.specs.IndexText.{indices_text_of}
use Rattle.ob_selections.specs.declared.selection.By.{By}
use Rattle.ob_jobs.specs.Tabling.{HasTable, indices_text, table_text}
use Rattle.ob_jobs.specs.Telling.{Tells, Told, WritesNothing}

module _ {X W : Type 0} (Works : Result X Stop → Type 0) (text : X → List ℕ) (contents : W → Option (List ℕ)) (old new : Watched W) where
  -- the work was done, and the writer failed on its text
  pub untold : (stop : Stop) (x : X) → Works (Ok x) → Told contents old new (text x) (Err stop)
      → Tells Works text contents old new (Err stop)
  untold (Refused refusal) x works told = absurd told
  untold (Fault OutOfMemory) x works told = absurd told
  untold (Fault Store) x works told = absurd told
  untold (Fault Reopen) x works told = absurd told
  untold (Fault Input) x works told = absurd told
  untold (Fault Output) x works told = (x, works, told)

  -- it stopped, other than by a fault of output
  pub stopped : (stop : Stop) → Works (Err stop) → stop ≢ Fault Output → WritesNothing contents old new
      → Tells Works text contents old new (Err stop)
  stopped (Refused refusal) works other nothing = (works, nothing)
  stopped (Fault OutOfMemory) works other nothing = (works, nothing)
  stopped (Fault Store) works other nothing = (works, nothing)
  stopped (Fault Reopen) works other nothing = (works, nothing)
  stopped (Fault Input) works other nothing = (works, nothing)
  stopped (Fault Output) works other nothing = absurd (other refl)

-- no reading of tables ends with a fault of output
pub other_than_output : (stop : Stop) → IsReadFault stop → stop ≢ Fault Output
other_than_output stop (inl (inl memory)) output = let same = sym memory ∙ output in cc
other_than_output stop (inl (inr store)) output = let same = sym store ∙ output in cc
other_than_output stop (inr bad) output = let same = sym bad ∙ output in cc

-- no making of a book does
pub making_other : {S T : Type 0} {g : Ghosts S} (old new : Keeper S T g) (first : List ℕ) (days : ℕ) (zone : List ℕ) (stop : Stop)
    → MakingOf old new first days zone (Err stop) → stop ≢ Fault Output
making_other old new first days zone stop making output =
    let so = subst (λ s. MakingOf old new first days zone (Err s)) output making in absurd so.created

-- the work gave nothing but its text, and that was told
pub ended : {W : Type 0} (Works : Result ⊤ Stop → Type 0) (text : List ℕ) (contents : W → Option (List ℕ)) (old new : Watched W)
    (r : Result ⊤ Stop) → Works (Ok tt) → Told contents old new text r → Tells Works (λ _. text) contents old new r
ended Works text contents old new (Ok tt) works told = (works, told)
ended Works text contents old new (Err stop) works told = untold Works (λ _. text) contents old new stop tt works told

-- the table of a book that there is
pub printed : {W : Type 0} (contents : W → Option (List ℕ)) (old new : Watched W) (held : Option BookState) (b : BookState)
    (text : List ℕ) (r : Result ⊤ Stop) → held ≡ Some b → text ≡ annual_table_of_book b → Told contents old new text r
    → Tells (HasTable held) (λ _. table_text held) contents old new r
printed {W} contents old new held b text r is same told =
    subst (λ (h : Option BookState). Tells (HasTable h) (λ _. table_text h) contents old new r) (sym is)
    (ended (HasTable (Some b)) (annual_table_of_book b) contents old new r refl
    (subst (λ (t : List ℕ). Told contents old new t r) same told))

-- its indices
pub listed : {W : Type 0} (by : By) (longest : ℕ) (contents : W → Option (List ℕ)) (old new : Watched W) (held : Option BookState) (b : BookState)
    (text : List ℕ) (r : Result ⊤ Stop) → held ≡ Some b → text ≡ indices_text_of b by longest → Told contents old new text r
    → Tells (HasTable held) (λ _. indices_text by longest held) contents old new r
listed {W} by longest contents old new held b text r is same told =
    subst (λ (h : Option BookState). Tells (HasTable h) (λ _. indices_text by longest h) contents old new r) (sym is)
    (ended (HasTable (Some b)) (indices_text_of b by longest) contents old new r refl
    (subst (λ (t : List ℕ). Told contents old new t r) same told))
