use Rattle.std.proofs.Common.{◌≡◌, ℕ, ◌<◌, ◌≤◌, length, slice_index_or}
use Rattle.ob_cust.specs.declared.SectionBlock.{SectionBlock}
use Rattle.ob_cust.specs.Services.{IsBeforeAt}
use Rattle.ob_cust.proofs.services.carry.Given as goal

abbrev pub invariant-loop-at : goal.invariant-loop-at
invariant-loop-at l = record {
  len : length l.before ≡ length l.blocks;
  front : (k : ℕ) → k < l.at → k < length l.blocks → IsBeforeAt l.blocks l.before k;
  later : (k : ℕ) (d : SectionBlock) → l.at ≤ k → k < length l.blocks → l.section < (slice_index_or l.blocks k d).section → IsBeforeAt l.blocks l.before k;
  begun : l.place ≤ l.at;
}
