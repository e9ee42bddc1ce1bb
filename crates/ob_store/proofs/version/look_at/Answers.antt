use Rattle.std.proofs.Common.{[], inl, refl, arith}
use Rattle.sqlite.specs.Held.{state}
use Rattle.sqlite.specs.Listing.{understood}
use Rattle.ob_sql_read.proofs.Asking.{no_outline}
use Rattle.ob_sql_read.proofs.Headings.{meta_listing, no_meaning}
use Rattle.ob_store.proofs.Asking.{looked_empty, looked_failed, looked_foreign, looked_same, looked_still}
use Rattle.ob_store.proofs.version.look_at.Goals as goal

pub returns : goal.returns
returns g c = record {
  mode = c.prepare.ensures.mode;
  clean = λ clean. omega (arith, c.prepare.ensures.survives.clean, clean);
  survives = c.prepare.ensures.survives;
  faults = tt;
  cause = λ clean v schema. tt;
  whole = c.schema-schema.ensures.live;
  left = λ live trees may. g.met.S.Store.settled c.args.conn.now.store trees live may;
  still = λ clean. inl (c.in_default.ensures.ok clean).1;
  same = λ clean answer. (c.in_default.ensures.ok clean).1;
  foreign = λ clean. tt;
  empty = λ clean none. absurd (no_outline (understood c.args.conn.now.schema meta_listing.text) _ (no_meaning c.args.conn.now.schema meta_listing.text none refl) (c.in_default.ensures.shape clean));
}

pub returns-in-Err : goal.returns-in-Err
returns-in-Err g c =
    let old = state g.S.Store c.args.conn.now in
    let new = state g.S.Store c.prepare.new.self in
    let e = c.in-Err.error in
    let stop = c.stop_of_look in
    record {
      mode = c.prepare.ensures.mode;
      clean = λ clean. omega (arith, c.prepare.ensures.survives.clean, clean);
      survives = c.prepare.ensures.survives;
      faults = stop.ensures.faults;
      cause = λ clean v schema is. looked_failed old new e (c.in-Err.ensures.err clean []) v schema stop.result stop.ensures.memory is;
      whole = c.schema-schema.ensures.live;
      left = λ live trees may. g.met.S.Store.settled c.args.conn.now.store trees live may;
      still = λ clean. looked_still old new e (c.in-Err.ensures.err clean []);
      same = λ clean answer. looked_same old new e (c.in-Err.ensures.err clean []) stop.result stop.ensures.faults stop.ensures.foreign answer;
      foreign = λ clean bad. looked_foreign old new e (c.in-Err.ensures.err clean []) (stop.ensures.foreign bad);
      empty = λ clean none. looked_empty old new e (c.in-Err.ensures.err clean []) stop.result stop.ensures.missed stop.ensures.memory none;
    }
