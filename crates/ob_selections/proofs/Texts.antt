-- Texts put together part by part.
use Rattle.std.proofs.Common.{◌≡◌, ℕ, List, ◌++◌, append_assoc}

pub three_parts : (t a b c : List ℕ) → ((t ++ a) ++ b) ++ c ≡ t ++ (a ++ b ++ c)
three_parts t a b c = simp append_assoc

pub five_parts : (t a b c d e : List ℕ) → ((((t ++ a) ++ b) ++ c) ++ d) ++ e ≡ t ++ (a ++ b ++ c ++ d ++ e)
five_parts t a b c d e = simp append_assoc
