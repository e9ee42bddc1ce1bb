use Rattle.std.proofs.Common.{◌≡◌, ap, ℕ, ◌<◌, ◌≤◌, [], ◌∷◌, arith, rules}
use Rattle.std.proofs.lemmas.List.Elements.{All-cons, All-nil}
use Rattle.ob_time.specs.Calendar.{first_second_of, end_second_of}
use Rattle.ob_sweep.specs.declared.Run.{Run}
use Rattle.ob_post.specs.SectionAmounts.{LieWithin}
use Rattle.ob_index_tests.proofs.run_amounts.post.Goals as goal

-- two runs of these bounds lie within the period
two_within : (a b : ℕ) (r s : Run) → a ≤ 1704067200 → 1704153700 ≤ b → r.since ≡ 1704070800 → r.until ≡ 1704071400 → s.since ≡ 1704153400 → s.until ≡ 1704153700 → LieWithin a b (r ∷ s ∷ [])
two_within a b r s l u rs ru ss su =
    All-cons (λ (q : Run). (a ≤ q.since) × (q.since < q.until) × (q.until ≤ b)) r (s ∷ []) (omega arith, omega arith, omega arith)
    (All-cons (λ (q : Run). (a ≤ q.since) × (q.since < q.until) × (q.until ≤ b)) s [] (omega arith, omega arith, omega arith) (All-nil (λ (q : Run). (a ≤ q.since) × (q.since < q.until) × (q.until ≤ b))))

pub post_runs-requires-clause-within : goal.post_runs-requires-clause-within
post_runs-requires-clause-within g c =
    let first : first_second_of c.args.period.now ≤ 1704067200 = search rules in
    let end : 1704153700 ≤ end_second_of c.args.period.now = search rules in
    two_within (first_second_of c.args.period.now) (end_second_of c.args.period.now) c.run-first.result c.run-second.result first end
    (ap (λ (r : Run). r.since) c.run-first.ensures) (ap (λ (r : Run). r.until) c.run-first.ensures) (ap (λ (r : Run). r.since) c.run-second.ensures) (ap (λ (r : Run). r.until) c.run-second.ensures)
