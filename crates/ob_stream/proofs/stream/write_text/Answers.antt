use Rattle.std.proofs.Common.{◌≡◌, ℕ, ◌+◌, ◌-◌, ◌≤◌, List, ◌++◌, arith, length, take, drop, sym, ap, ◌∙◌, subst, length-drop}
use Rattle.std.proofs.lemmas.List.{take_rest}
use Rattle.std.specs.Io.KnownBytes.{Appends}
use Rattle.std.proofs.KnownBytes.{Appends-trans}
use lib.Seq.{take-add}
use Rattle.ob_stream.proofs.Counting.{ends_by_answer}
use Rattle.ob_stream.proofs.stream.write_text.Goals as goal

-- what was written, and a front of what is left, is a longer front
front_more : (text : List ℕ) (at count : ℕ) → take at text ++ take count (take (length text - at) (drop at text)) ≡ take (at + count) text
front_more text at count = ap (λ l. take at text ++ take count l) (take_rest text at) ∙ sym (take-add at count text)

pub loop-at-preserved-in-Ok : goal.loop-at-preserved-in-Ok
loop-at-preserved-in-Ok g c =
    let (within, front, taken, ends) = c.loop-at.invariant in
    let text = c.args.text.now in
    let at = c.loop-at.at in
    let fits : c.in-Ok.count ≤ length (drop at text) = rw (take_rest text at) at c.in-Ok.ensures.bound in
    let tries = ends_by_answer _ _ c.args.writer.now c.loop-at.writer c.write.new.self taken c.in-Ok.count c.in-Ok.ensures.counts in (
      omega (arith, length-drop at text),
      subst (Appends _ _) (front_more text at c.in-Ok.count) (Appends-trans _ _ _ _ _ front c.in-Ok.ensures.bytes),
      tries.taken,
      λ _. tries.ends,
    )
