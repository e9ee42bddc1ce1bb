use Rattle.std.proofs.Common.{rules, arith, ◌≡◌, ◌∙◌, ap, ◌-ℤ◌, FitsSigned, w64}
use Rattle.jiff.proofs.SpanFacts.{signed_arith}
use Rattle.jiff.specs.Types.{DateTime}
use Rattle.ob_time.proofs.MidnightLemmas.{cast_unsigned-value}
use Rattle.ob_time.proofs.MomentLemmas.{civil_seconds-parts, IsCivilText-value, IsOffsetText-bound}
use Rattle.ob_time.proofs.moment.read_civil.Goals as goal
use Rattle.ob_time.proofs.moment.read_civil.Goals.{then-second-lt0-via-then-second-lt0, then-second-lt0-via-else-second-lt0+then-second}

pub returns-in_err-offset-clause-none : goal.returns-in_err-offset-clause-none
returns-in_err-offset-clause-none c =
    rw c.from_residual-in_err-offset.ensures (λ s h. c.in_err-offset.ensures.none h.offset (rw c.split_at.ensures.back h.offset_is))

pub utc_second-second-requires : goal.utc_second-second-requires
utc_second-second-requires c =
    let bound = c.to_second.ensures.bound in
    let small = IsOffsetText-bound _ _ c.in_ok-offset.ensures.found in
    record {
      civil = (omega (arith, signed_arith), omega (arith, signed_arith));
      offset = (omega (arith, signed_arith), omega (arith, signed_arith));
    }

pub returns-then-second-lt0-clause-none : goal.returns-then-second-lt0-clause-none
returns-then-second-lt0-clause-none c = λ s h.
    let date = c.in_ok-date.date in
    let time = c.in_ok-time.time in
    let offset = c.in_ok-offset.offset in
    let z = rw c.split_at.ensures.back at c.in_ok-offset.ensures.found in
    let small = IsOffsetText-bound _ _ z in
    let same = civil_seconds-parts c.to_plain.result date time offset (ap (λ (dt : DateTime). dt.date) c.to_plain.ensures ∙ c.to_datetime.ensures.date) (ap (λ (dt : DateTime). dt.time) c.to_plain.ensures ∙ c.to_datetime.ensures.time) in
    let value = IsCivilText-value c.args.text.now s date time offset c.in_ok-date.ensures.found c.in_ok-time.ensures.found z h in
    let bound = c.to_second.ensures.bound in
    let second = c.to_second.ensures.value in
    let within = h.within in
    elim c.then-second-lt0.branch [
      | then-second-lt0-via-then-second-lt0 w ↦ omega (arith, signed_arith, w.if-second-lt0.true)
      | then-second-lt0-via-else-second-lt0+then-second w ↦ omega (arith, signed_arith, w.if-second.true)
    ]

pub returns-clause-found : goal.returns-clause-found
returns-clause-found c =
    let date = c.in_ok-date.date in
    let time = c.in_ok-time.time in
    let offset = c.in_ok-offset.offset in
    let z = rw c.split_at.ensures.back at c.in_ok-offset.ensures.found in
    let small = IsOffsetText-bound _ _ z in
    let same = civil_seconds-parts c.to_plain.result date time offset (ap (λ (dt : DateTime). dt.date) c.to_plain.ensures ∙ c.to_datetime.ensures.date) (ap (λ (dt : DateTime). dt.time) c.to_plain.ensures ∙ c.to_datetime.ensures.time) in
    let bound = c.to_second.ensures.bound in
    let second = c.to_second.ensures.value in
    let sum = c.utc_second-second.result in
    let sum_is : sum ≡ c.to_second.result -ℤ offset = rw c.utc_second-second.ensures (omega (arith, signed_arith)) in
    let fits : FitsSigned w64 sum = search rules in
    let cast = cast_unsigned-value sum fits c.if-second-lt0.false in
    record {
      date = date;
      time = time;
      offset = offset;
      long = c.if-text-lt19.false;
      date_is = c.in_ok-date.ensures.found;
      separator = c.if-text-ne84.false;
      time_is = c.in_ok-time.ensures.found;
      offset_is = z;
      value = cast ∙ sum_is ∙ ap (λ v. v -ℤ offset) second ∙ same;
      within = omega (arith, signed_arith, cast, c.if-second.false);
    }
