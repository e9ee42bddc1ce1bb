use Rattle.std.proofs.Common.{◌≡◌, ◌∙◌, ℕ, ap, arith, get_or, rules, sym, take}
use Rattle.ob_base.specs.declared.life.Life.{Life}
use Rattle.ob_time.specs.Calendar.{first_second_of}
use Rattle.bench_calls.specs.Builds.{Case, case_of}
use Rattle.bench_calls.specs.Lives.{life_from, with_lives, with_one_life}
use Rattle.bench_calls.proofs.Lived.{lives_more}
use Rattle.bench_calls.proofs.lives.live.Goals as goal

pub loop-place-preserved : goal.loop-place-preserved
loop-place-preserved c =
    let m = c.args.made.now in
    let case = case_of m.net.network m.sheet.entries m.year in
    let lived = c.args.lived.now in
    let since = c.args.since.now in
    let until = c.args.until.now in
    let at = c.loop-place.place in
    let now = with_lives case (take at lived) (take at since) (take at until) in
    let first : c.first_second-first.result ≡ first_second_of m.year = c.first_second-first.ensures.value ∙ ap first_second_of c.deref.ensures in
    let life : c.in_ok-life.life ≡ life_from (first_second_of m.year) (get_or since at 0) (get_or until at 0) =
    c.in_ok-life.ensures ∙ ap (λ (s : ℕ). life_from s (get_or since at 0) (get_or until at 0)) first in
    record {
      places = search rules;
      first = ap (λ (x : Case). x.year) c.in_ok-live_one.ensures.case ∙ c.loop-place.invariant.first;
      case =
          c.in_ok-live_one.ensures.case
          ∙ ap (λ (x : Case). with_one_life x (get_or lived at 0) c.in_ok-life.life) c.loop-place.invariant.case
          ∙ ap (λ (x : Life). with_one_life now (get_or lived at 0) x) life
          ∙ sym (lives_more lived since until case at (omega (arith, c)) (omega (arith, c)) (omega (arith, c)));
      runs = c.in_ok-live_one.ensures.runs;
    }
