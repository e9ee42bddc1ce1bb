-- What passes on from step to step, and through the exit of a `?`.
use Rattle.std.proofs.Common.{◌≡◌, Bool, true, false, IsTrue, IsErr, IsErrAnd, IfErr, IfOk, Result, Ok, Err, true≢false, sym, arith}
use Rattle.sqlite.specs.State.{State, HasCleanDisk, IsUnchanged, Survives}
use Rattle.sqlite.proofs.Callers.{unchanged_then}

pub clean_before : (a b : State) → Survives a b (λ _. ⊥) → HasCleanDisk b → HasCleanDisk a
clean_before a b step late = omega (arith, step.clean, late)

-- what a step left unchanged that was unchanged before it
pub unchanged_after : (a b c : State) → (IsTrue a.is_open → IsUnchanged a b) → IsUnchanged b c → IsTrue a.is_open → IsUnchanged a c
unchanged_after a b c was step live = unchanged_then a b c (was live) step

-- of the result of a `?` that an error ends
pub no_value : {X E : Type 0} (r : Result X E) (P : X → Type 0) → IsErr r → IfOk r P
no_value (Ok x) P e = absurd (true≢false (sym e))
no_value (Err y) P e = tt

pub of_error : {X E : Type 0} (r : Result X E) {P : E → Type 0} (Q : E → Type 0) → IsErrAnd r P → ((y : E) → P y → Q y) → IfErr r Q
of_error (Ok x) Q h f = absurd h
of_error (Err y) Q h f = f y h

-- a result is one of its two, and an answer is yes or no
pub no_is_no : {E : Type 0} → ◌≡◌ {A = Result Bool E} (Ok false) (Ok true) → ⊥
no_is_no e = cc

pub error_is_no_value : {X E : Type 0} {x : X} {y : E} → ◌≡◌ {A = Result X E} (Err y) (Ok x) → ⊥
error_is_no_value e = cc
