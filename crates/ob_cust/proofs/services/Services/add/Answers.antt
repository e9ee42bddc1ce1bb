use Rattle.std.proofs.Common.{arith}
use Rattle.ob_cust.proofs.Held.{fewer_blocks}
use Rattle.ob_cust.proofs.services.Services.add.Goals as goal

pub put-requires-clause-room : goal.put-requires-clause-room
put-requires-clause-room c = omega (arith, fewer_blocks c.self.inside.blocks.items c.self.invariant.services.positive, rw (← c.self.view_is) at c.requires.room)

pub put-requires-clause-room_before : goal.put-requires-clause-room_before
put-requires-clause-room_before c = omega (arith, fewer_blocks c.self.inside.blocks.items c.self.invariant.services.positive, rw (← c.self.view_is) at c.requires.room)
