-- How a job that takes memory for its line ends.
use Rattle.std.proofs.Common.{◌≡◌, inl, inr, subst, sym, ℕ, List, Option, Result, Ok, Err}
use Rattle.ob_base.specs.declared.stop.Stop.{Stop}
use Rattle.ob_base.specs.declared.stop.Stop.TheVariants.{Refused, Fault}
use Rattle.ob_base.specs.declared.stop.Fault.TheVariants.{OutOfMemory, Store, Reopen, Input, Output}
use Rattle.ob_stream.specs.declared.watched.Watched.{Watched}
use Rattle.ob_jobs.specs.After.{TellsAfter}
use Rattle.ob_jobs.specs.Telling.{Told, WritesNothing}

module _ {X W : Type 0} (Works : Result X Stop → Type 0) (text : X → List ℕ) (contents : W → Option (List ℕ)) (old new : Watched W) where
  -- the work stopped
  pub stopped_after : (stop : Stop) → Works (Err stop) → WritesNothing contents old new → TellsAfter Works text contents old new (Err stop)
  stopped_after (Refused refusal) works nothing = (works, nothing)
  stopped_after (Fault OutOfMemory) works nothing = (inl works, nothing)
  stopped_after (Fault Store) works nothing = (works, nothing)
  stopped_after (Fault Reopen) works nothing = (works, nothing)
  stopped_after (Fault Input) works nothing = (works, nothing)
  stopped_after (Fault Output) works nothing = inl (works, nothing)

  -- the work was done, and the writer failed on its line
  pub untold_after : (stop : Stop) (x : X) → Works (Ok x) → Told contents old new (text x) (Err stop) → TellsAfter Works text contents old new (Err stop)
  untold_after (Refused refusal) x works told = absurd told
  untold_after (Fault OutOfMemory) x works told = absurd told
  untold_after (Fault Store) x works told = absurd told
  untold_after (Fault Reopen) x works told = absurd told
  untold_after (Fault Input) x works told = absurd told
  untold_after (Fault Output) x works told = inr (x, works, told)

  -- the work was done, and then its line was told, or not
  pub told_after : (x : X) → Works (Ok x) → (r : Result X Stop) → TellsAfter (λ done. done ≡ Ok x) text contents old new r → TellsAfter Works text contents old new r
  told_after x works (Ok y) it = (subst Works (sym it.0) works, it.1)
  told_after x works (Err (Refused refusal)) it = (subst Works (sym it.0) works, it.1)
  told_after x works (Err (Fault OutOfMemory)) it = (elim it.0 [ inl is ↦ inl (subst Works (sym is) works) | inr is ↦ inr (is.0, subst Works (sym is.1) works) ], it.1)
  told_after x works (Err (Fault Store)) it = (subst Works (sym it.0) works, it.1)
  told_after x works (Err (Fault Reopen)) it = (subst Works (sym it.0) works, it.1)
  told_after x works (Err (Fault Input)) it = (subst Works (sym it.0) works, it.1)
  told_after x works (Err (Fault Output)) it = elim it [ inl is ↦ inl (subst Works (sym is.0) works, is.1) | inr is ↦ inr (is.0, subst Works (sym is.1) works, is.2) ]
