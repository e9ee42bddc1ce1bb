use Rattle.std.proofs.Common.{◌≡◌, ◌++◌, ℕ, Bool, List, length, take, sym, ap, subst, ◌∙◌}
use Rattle.std.proofs.Math.Seq.{take-append_seam}
use Rattle.ob_net.specs.Apart.{HasEnds, KeepTo}
use Rattle.ob_net.specs.Reach.{is_reached}
use Rattle.ob_net.proofs.Marked.{has_ends}
use Rattle.ob_net.proofs.search.find_near.Goals as goal

-- the marks, as they stand in their `Vec` once they are written
in_vec : (near : List Bool) (rest : List Bool) (count : ℕ) → length near ≡ count → near ≡ take count (near ++ rest)
in_vec near rest count long = sym (ap (λ n. take n (near ++ rest)) (sym long) ∙ take-append_seam near rest)

pub returns-clause-keeps : goal.returns-clause-keeps
returns-clause-keeps c =
    let devices = c.args.devices.now in
    subst (λ (near : List Bool). KeepTo (is_reached near) devices c.args.positions.now (length devices)) (in_vec _ _ _ (c.mark_trees.auto.marks ∙ c.deref_mut.ensures.len))
    (c.mark_trees.ensures.treewise devices c.args.positions.now (length devices) c.join_behind.ensures.trees)

pub returns-clause-ends : goal.returns-clause-ends
returns-clause-ends c =
    subst (λ (near : List Bool). HasEnds (is_reached near) c.args.device) (in_vec _ _ _ (c.mark_trees.auto.marks ∙ c.deref_mut.ensures.len))
    (has_ends _ _ c.requires.joins_device.apart c.mark_trees.ensures.a c.mark_trees.ensures.b)
