use Rattle.ob_sql_write.proofs.Changing.{changes_as}
use Rattle.ob_sql_write.proofs.change.write_rows.Goals as goal

pub returns-in-Cause : goal.returns-in-Cause
returns-in-Cause g c = changes_as g.S.Store _ _ _ _ _ c.in-Cause.is (rw c.get.ensures.value at c.add_cause.ensures)

pub returns-in-Node : goal.returns-in-Node
returns-in-Node g c = changes_as g.S.Store _ _ _ _ _ c.in-Node.is c.add_node.ensures

pub returns-in-Device : goal.returns-in-Device
returns-in-Device g c = changes_as g.S.Store _ _ _ _ _ c.in-Device.is c.add_device_and_life.ensures

pub returns-in-Life : goal.returns-in-Life
returns-in-Life g c = changes_as g.S.Store _ _ _ _ _ c.in-Life.is c.set_life.ensures

pub returns-in-Customer : goal.returns-in-Customer
returns-in-Customer g c = changes_as g.S.Store _ _ _ _ _ c.in-Customer.is c.add_customer.ensures

pub returns-in-Service : goal.returns-in-Service
returns-in-Service g c = changes_as g.S.Store _ _ _ _ _ c.in-Service.is c.set_service.ensures

pub returns-in-Entered : goal.returns-in-Entered
returns-in-Entered g c = changes_as g.S.Store _ _ _ _ _ c.in-Entered.is c.add_entry.ensures

pub returns-in-Corrected : goal.returns-in-Corrected
returns-in-Corrected g c = changes_as g.S.Store _ _ _ _ _ c.in-Corrected.is c.correct_entry.ensures

pub returns-in-Withdrawn : goal.returns-in-Withdrawn
returns-in-Withdrawn g c = changes_as g.S.Store _ _ _ _ _ c.in-Withdrawn.is c.withdraw_entry.ensures

pub returns-in-Marked : goal.returns-in-Marked
returns-in-Marked g c = changes_as g.S.Store _ _ _ _ _ c.in-Marked.is c.add_mark.ensures

pub returns-in-Unmarked : goal.returns-in-Unmarked
returns-in-Unmarked g c = changes_as g.S.Store _ _ _ _ _ c.in-Unmarked.is c.drop_mark.ensures
