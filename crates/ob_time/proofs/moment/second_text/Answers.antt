use Rattle.std.proofs.Common.{◌∙◌, ◌≤◌, ap, inr, arith}
use Rattle.jiff.proofs.SpanFacts.{signed_arith}
use Rattle.jiff.specs.Words.{civil_nanos}
use Rattle.ob_time.proofs.MomentLemmas.{IsUtcText-civil, IsUtcText-length}
use Rattle.ob_time.proofs.moment.second_text.Goals as goal

pub returns-clause-ok : goal.returns-clause-ok
returns-clause-ok c =
    let low : c.args.second ≤ 99_999_999_999 = c.requires in
    let wide = c.from.ensures in
    record {
      datetime = c.from_plain-datetime.result;
      instant = ap civil_nanos c.from_plain-datetime.ensures ∙ c.from_nanosecond_in_range.ensures ∙ rw wide (omega (arith, signed_arith));
      text_is = c.in_ok-format.ensures.ok;
    }

pub returns-clause-reads_back : goal.returns-clause-reads_back
returns-clause-reads_back c =
    inr (IsUtcText-civil _ c.args.second c.requires (returns-clause-ok c))

pub returns-clause-long : goal.returns-clause-long
returns-clause-long c = IsUtcText-length _ c.args.second c.requires (returns-clause-ok c)
