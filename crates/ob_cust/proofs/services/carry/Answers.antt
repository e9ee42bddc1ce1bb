use Rattle.std.proofs.Common.{◌≢◌, ℕ, ◌<◌, ◌≤◌, List, length, get_or, None, ap, ◌∙◌, arith, inl, inr}
use Rattle.std.proofs.lemmas.Bool.{cases_lt}
use Rattle.std.proofs.lemmas.List.{get_or_default, length-set}
use Rattle.ob_cust.specs.declared.SectionBlock.{SectionBlock}
use Rattle.ob_cust.specs.Services.{AreServices}
use Rattle.ob_cust.proofs.Keyed.{sections_rise}
use Rattle.ob_cust.proofs.Running.{put_next, kept_later}
use Rattle.ob_cust.proofs.services.carry.Goals as goal

-- behind a block of another section all are of later ones
behind : (bs : List SectionBlock) (at k section : ℕ) (e d : SectionBlock) → AreServices bs → at ≤ k → k < length bs → section ≤ (get_or bs at e).section → (get_or bs at e).section ≢ section → section < (get_or bs k d).section
behind bs at k section e d h l m from ne =
    let a = ap (λ (b : SectionBlock). b.section) (get_or_default bs at e d (omega arith)) in
    let b : section < (get_or bs at e).section = omega arith in
    omega (arith, a, b, sections_rise bs h.ordered at k d l m)

pub returns-then-blocks-at : goal.returns-then-blocks-at
returns-then-blocks-at c =
    let bs = c.args.blocks.now in
    let at = c.loop-at.at in
    let none : SectionBlock = record { section = 0; block = record { since = 0; until = None; count = 0 } } in
    let l : at < length bs = omega (arith, c.loop-at-test.true, c.loop-at.auto.at-end) in
    record {
      services = record {
        services = c.requires.services;
        len = c.loop-at.invariant.len;
        sums = λ k m d e. elim (cases_lt k at) [
          | inl lt ↦ c.loop-at.invariant.front k lt m d e
          | inr ge ↦ c.loop-at.invariant.later k d ge m (behind bs at k c.args.section none d c.requires.services ge m (c.requires.from at none c.loop-at.invariant.begun l) c.if-blocks-at.true) d e
        ];
      };
    }

pub sums_at-requires-clause-front : goal.sums_at-requires-clause-front
sums_at-requires-clause-front c k l = c.loop-at.invariant.front k l (omega (arith, l, c.loop-at-test.true, c.loop-at.auto.at-end))

pub loop-at-preserved : goal.loop-at-preserved
loop-at-preserved c =
    let bs = c.args.blocks.now in
    let ss = c.loop-at.before in
    let at = c.loop-at.at in
    let l : at < length bs = omega (arith, c.loop-at-test.true, c.loop-at.auto.at-end) in
    record {
      len = length-set ss at c.sums_at.result ∙ c.loop-at.invariant.len;
      front = put_next bs ss at c.sums_at.result c.loop-at.invariant.len l c.loop-at.invariant.front c.sums_at.ensures;
      later = λ k d m n o. kept_later bs ss at k c.sums_at.result (omega arith) (c.loop-at.invariant.later k d (omega arith) n o);
      begun = omega (arith, c.loop-at.invariant.begun);
    }

pub returns : goal.returns
returns c = record {
  services = record {
    services = c.requires.services;
    len = c.loop-at.invariant.len;
    sums = λ k m. c.loop-at.invariant.front k (omega (arith, m, c.loop-at-test.false, c.loop-at.auto.at-end)) m;
  };
}
