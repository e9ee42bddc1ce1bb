use Rattle.std.proofs.Common.{ℕ, [], ◌∷◌, rules, subst, sym}
use Rattle.std.specs.Prelude.{unwrap_or}
use Rattle.sqlite.specs.declared.types.Value.TheVariants.{Text}
use Rattle.ob_net.specs.declared.net.Device.{Device as NetDevice}
use Rattle.ob_net.specs.declared.net.Node.{Node as NetNode}
use Rattle.ob_time.specs.Calendar.{day_count}
use Rattle.ob_state.specs.Amounts.{amount}
use Rattle.ob_state.specs.State.{BookState}
use Rattle.ob_sql_rows.specs.Rows.{node_kind, number, number_or_null, position_number}
use Rattle.ob_sql_rows.specs.Versions.{Has}
use Rattle.ob_sql_rows.specs.declared.table.Table.TheVariants.{Posting}
use Rattle.ob_sql_write.specs.Amounts.{amount_rows}
use Rattle.ob_sql_read.specs.Parts.{Compares}
use Rattle.ob_sql_check.specs.Parts.{parts_in}
use Rattle.ob_sql_check.proofs.Rising.{rise_numbered}
use Rattle.ob_sql_check.proofs.part.holds_part.Goals as goal

-- rows under numbers rise
pub holds_numbered-requires : goal.holds_numbered-requires
holds_numbered-requires g c =
    record { rises = rise_numbered (λ (id : ℕ) (n : NetNode). Text n.name ∷ number (node_kind id n) ∷ number (unwrap_or n.feeder 0) ∷ []) c.nodes.result.now }

pub holds_numbered-requires-in-Device : goal.holds_numbered-requires-in-Device
holds_numbered-requires-in-Device g c =
    record { rises = rise_numbered (λ (id : ℕ) (d : NetDevice). Text d.name ∷ number d.a ∷ number d.b ∷ number (position_number d.normal) ∷ []) c.devices.result.now }

pub holds_numbered-requires-in-Life : goal.holds_numbered-requires-in-Life
holds_numbered-requires-in-Life g c =
    record { rises = rise_numbered (λ (id : ℕ) (d : NetDevice). number d.life.since ∷ number_or_null d.life.until ∷ []) c.devices-in-Life.result.now }

pub returns-in-Mark : goal.returns-in-Mark
returns-in-Mark g c = search rules

pub returns-in-Posting : goal.returns-in-Posting
returns-in-Posting g c b same =
    let v = c.args.version in
    let held = c.holds_posted.ensures v (subst (Has v) c.in-Posting.is c.requires.has) in
    let of_book = subst
    (λ (s : BookState). Compares g.S.Store v Posting (amount_rows (day_count s.period) (amount s)) c.args.conn.now c.holds_posted.new.conn c.holds_posted.result)
    (sym same) held in
    subst (λ t. Compares g.S.Store v t (parts_in v b t) c.args.conn.now c.holds_posted.new.conn c.holds_posted.result)
    (sym c.in-Posting.is) of_book
