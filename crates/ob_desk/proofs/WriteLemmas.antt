-- Bytes written one after the other.
use Rattle.std.proofs.Common.{ℕ, List, [], ◌++◌, Option, None, Some, refl, sym, ap, ◌∙◌, append_assoc, append-nil}
use Rattle.std.specs.Io.KnownBytes.{Appends, Keeps}

pub Appends-then : (u v w : Option (List ℕ)) (a b : List ℕ) → Appends u v a → Appends v w b → Appends u w (a ++ b)
Appends-then None v w a b x y = tt
Appends-then (Some xs) None w a b x y = absurd x
Appends-then (Some xs) (Some ys) None a b x y = absurd y
Appends-then (Some xs) (Some ys) (Some zs) a b x y = y ∙ ap (λ (t : List ℕ). t ++ b) x ∙ append_assoc xs a b

pub Appends-nothing : (u v : Option (List ℕ)) → Keeps u v → Appends u v []
Appends-nothing None v k = tt
Appends-nothing (Some xs) None k = absurd k
Appends-nothing (Some xs) (Some ys) k = k ∙ sym (append-nil xs)

pub Keeps-same : (u : Option (List ℕ)) → Keeps u u
Keeps-same None = tt
Keeps-same (Some xs) = refl
