use Rattle.std.proofs.Common.{◌≡◌, ◌<◌, ◌≤◌, ◌-◌, ◌∙◌, ℕ, List, refl, sym, subst, ap, arith}
use Rattle.std.specs.List.{range_with_len}
use Rattle.sqlite.specs.State.{HasCleanDisk}
use Rattle.sqlite.specs.Held.{state}
use Rattle.ob_sql_rows.specs.Steps.{Makes}
use Rattle.ob_sql_rows.specs.Rows.{Always}
use Rattle.ob_sql_rows.proofs.Silence.{silent_same, silent_then}
use Rattle.ob_post.specs.Keys.{dim_number, keys}
use Rattle.ob_sql_rows.specs.Rules.{LetsPosting}
use Rattle.ob_sql_write.specs.NewBook.{LetsZeros, with_zeros, keys_of}
use Rattle.ob_sql_write.proofs.Causes.{lets_then, of_change, open_stopped, stopped_after}
use Rattle.ob_sql_write.proofs.Letting.{lets_key_from}
use Rattle.ob_sql_write.proofs.Zeros.{zeros_none, next_key}
use Rattle.ob_sql_write.proofs.writing.write_keys.Goals as goal

pub loop-key-init : goal.loop-key-init
loop-key-init g c =
    let old = state g.S.Store c.args.tx.now.conn.now in
    (refl, silent_same old, λ clean live inside. zeros_none old c.args.dim c.keys-keys.result.start live inside)

pub loop-key-preserved : goal.loop-key-preserved
loop-key-preserved g c =
    let old = state g.S.Store c.args.tx.now.conn.now in
    let mid = state g.S.Store c.loop-key.tx.conn.now in
    let new = state g.S.Store c.add_posting.new.tx.conn.now in
    let step = c.add_posting.ensures in (
      step.same_reference ∙ c.loop-key.invariant.0,
      silent_then old mid new c.loop-key.invariant.1 step.silent,
      λ late live inside.
          let early : HasCleanDisk mid = omega (arith, step.silent.survives.clean, late) in
          let was = c.loop-key.invariant.2 early live inside in
          next_key old mid new c.args.dim c.keys-keys.result.start c.loop-key.key (omega (arith, c.loop-key.auto.key)) was
          (rw (c.from-dim_no.ensures, c.number.ensures, c.from.ensures) at (c.in_ok-add_posting.ensures.makes late was.inside)),
    )

pub returns : goal.returns
returns g c =
    let old = state g.S.Store c.args.tx.now.conn.now in
    let now = state g.S.Store c.loop-key.tx.conn.now in
    let first = c.keys-keys.result.start in
    let all : c.loop-key.key ≡ c.keys-keys.result.end = omega (arith, c.loop-key-test.false, c.loop-key.auto.key-end, c.keys-keys.ensures.order) in
    let these : range_with_len first (c.loop-key.key - first) ≡ keys c.args.days c.args.dim = ap (λ (n : ℕ). range_with_len first (n - first)) all ∙ sym c.keys-keys.ensures.all in
    record {
      same_reference = c.loop-key.invariant.0;
      silent = c.loop-key.invariant.1;
      faults = tt;
      makes = λ clean live inside. subst (λ (l : List ℕ). Makes old now Always (with_zeros (keys_of c.args.dim l))) these (c.loop-key.invariant.2 clean live inside);
      cause = λ clean. tt;
    }

pub returns-in_err-add_posting : goal.returns-in_err-add_posting
returns-in_err-add_posting g c =
    let old = state g.S.Store c.args.tx.now.conn.now in
    let mid = state g.S.Store c.loop-key.tx.conn.now in
    let dim = c.args.dim in
    let first = c.keys-keys.result.start in
    let end = c.keys-keys.result.end in
    let key = c.loop-key.key in
    let from : first ≤ key = omega (arith, c.loop-key.auto.key) in
    let low : key < end = omega (arith, c.loop-key-test.true) in
    open_stopped g.S.Store c.args.tx.now.conn c.add_posting.new.tx.conn c.from_residual.result _ c.from_residual.ensures.1
    (stopped_after g.S.Store c.args.tx.now.conn c.loop-key.tx.conn c.add_posting.new.tx.conn _ c.loop-key.invariant.0 c.loop-key.invariant.1
    (of_change g.S.Store _ _ _ (rw (c.from-dim_no.ensures, c.number.ensures, c.from.ensures) at c.in_err-add_posting.ensures))
    (λ early live inside allowed.
    let was = c.loop-key.invariant.2 early live inside in (
      was.inside,
      lets_then old mid Always Always (LetsZeros (keys_of dim (keys c.args.days dim))) Always (LetsPosting (dim_number dim) key) (with_zeros (keys_of dim (range_with_len first (key - first))))
          (λ t any it. (tt, tt, lets_key_from dim first end key t from low (subst (λ (l : List ℕ). LetsZeros (keys_of dim l) t) c.keys-keys.ensures.all it))) was allowed,
    )))
