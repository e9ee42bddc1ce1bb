use Rattle.std.proofs.Common.{◌≡◌, length, List, rules, sym, to_z-of_z, w64, FitsSigned, pos, get_or}
use Rattle.std.specs.Prelude.{ℕ, ℤ}
use Rattle.ob_sql_rows.specs.declared.block.MovedAmount.{MovedAmount}
use Rattle.ob_sql_rows.proofs.Eight.{eight_params}
use Rattle.ob_sql_rows.proofs.block.block_values.Goals as goal

abbrev delta_at : List MovedAmount → ℕ → ℤ
delta_at amounts i = (get_or amounts i (record { dim = 0; key = 0; delta = pos 0 })).delta

pub returns : goal.returns
returns c =
    let long : length c.args.amounts.now ≡ 8 = search rules in
    let d0 : FitsSigned w64 (delta_at c.args.amounts.now 0) = search rules in
    let d1 : FitsSigned w64 (delta_at c.args.amounts.now 1) = search rules in
    let d2 : FitsSigned w64 (delta_at c.args.amounts.now 2) = search rules in
    let d3 : FitsSigned w64 (delta_at c.args.amounts.now 3) = search rules in
    let d4 : FitsSigned w64 (delta_at c.args.amounts.now 4) = search rules in
    let d5 : FitsSigned w64 (delta_at c.args.amounts.now 5) = search rules in
    let d6 : FitsSigned w64 (delta_at c.args.amounts.now 6) = search rules in
    let d7 : FitsSigned w64 (delta_at c.args.amounts.now 7) = search rules in
    rw (
      c.int.ensures,
      c.int-2.ensures,
      c.int-3.ensures,
      c.signed_value.ensures,
      c.int-4.ensures,
      c.int-5.ensures,
      c.signed_value-2.ensures,
      c.int-6.ensures,
      c.int-7.ensures,
      c.signed_value-3.ensures,
      c.int-8.ensures,
      c.int-9.ensures,
      c.signed_value-4.ensures,
      c.int-10.ensures,
      c.int-11.ensures,
      c.signed_value-5.ensures,
      c.int-12.ensures,
      c.int-13.ensures,
      c.signed_value-6.ensures,
      c.int-14.ensures,
      c.int-15.ensures,
      c.signed_value-7.ensures,
      c.int-16.ensures,
      c.int-17.ensures,
      c.signed_value-8.ensures,
      to_z-of_z d0,
      to_z-of_z d1,
      to_z-of_z d2,
      to_z-of_z d3,
      to_z-of_z d4,
      to_z-of_z d5,
      to_z-of_z d6,
      to_z-of_z d7,
    ) (sym (eight_params c.args.no c.args.amounts.now long))
