-- What is said with a reference filled in.
use Rattle.std.proofs.Common.{◌≡◌, refl, subst, ℕ, Bool, true, false, List, [], ◌∷◌, Option, Some, None, Result, Ok, Err, codes, MatchBool}
use Rattle.serde_json.specs.Data.{Data, Members}
use Rattle.serde_json.specs.Find.{as_object}
use Rattle.ob_base.specs.declared.stop.Refusal.{Refusal}
use Rattle.ob_base.specs.declared.stop.Refusal.TheVariants.{BadField}
use Rattle.ob_base.specs.declared.stop.Stop.{Stop}
use Rattle.ob_base.specs.declared.stop.Stop.TheVariants as stops
use Rattle.ob_command.specs.declared.command.Command.{Command}
use Rattle.ob_http_replies.specs.JsonCommands.{are_columns, json_in, texts_of, with_reference, AreTextsOf, IsObjectOf, IsValueOf, Reads, ReadsJsonCommand, ReadsJsonPlan}

abbrev Said : Type 0
Said = Result (List ℕ × Command) Refusal

-- an empty reference in the place of an empty one
empty_for_empty : (texts : List (Option (List ℕ))) → with_reference [] texts ≡ texts
empty_for_empty [] = refl
empty_for_empty (kind ∷ []) = refl
empty_for_empty (kind ∷ None ∷ fields) = refl
empty_for_empty (kind ∷ Some [] ∷ fields) = refl
empty_for_empty (kind ∷ Some (byte ∷ bytes) ∷ fields) = refl

columns_as_given : (columns : Bool) (d : Data) (r : Said)
    → MatchBool columns (AreTextsOf (with_reference [] (texts_of d)) r) (r ≡ Err (BadField 0)) → MatchBool columns (AreTextsOf (texts_of d) r) (r ≡ Err (BadField 0))
columns_as_given true d r says = subst (λ (texts : List (Option (List ℕ))). AreTextsOf texts r) (empty_for_empty (texts_of d)) says
columns_as_given false d r says = says

object_as_given : (o : Option Members) (d : Data) (r : Said) → IsObjectOf (with_reference []) o d r → IsObjectOf (λ texts. texts) o d r
object_as_given None d r says = says
object_as_given (Some members) d r says = columns_as_given (are_columns members) d r says

as_given : (o : Option Data) (r : Said) → IsValueOf (with_reference []) o r → IsValueOf (λ texts. texts) o r
as_given None r says = says
as_given (Some d) r says = object_as_given (as_object d) d r says

-- a command is read with its texts as they are given
pub reads_as_given : (body : List ℕ) (r : Result (List ℕ × Command) Stop) → Reads (IsValueOf (with_reference []) (json_in body)) r → ReadsJsonCommand body r
reads_as_given body (Ok command) reads = as_given (json_in body) (Ok command) reads
reads_as_given body (Err (stops.Refused refusal)) reads = as_given (json_in body) (Err refusal) reads
reads_as_given body (Err (stops.Fault fault)) reads = reads

-- a plan stops where its reading does
pub stops_a_plan : (body : List ℕ) (stop : Stop) → Reads (IsValueOf (with_reference (codes "-")) (json_in body)) (Err stop) → ReadsJsonPlan body (Err stop)
stops_a_plan body (stops.Refused refusal) reads = (Err refusal, reads, refl)
stops_a_plan body (stops.Fault fault) reads = reads
