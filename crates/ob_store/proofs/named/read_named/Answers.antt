use Rattle.std.proofs.Common.{Err}
use Rattle.ob_store.specs.Finding.{Finds, HasNoBookIn, IsNamed}
use Rattle.ob_store.proofs.Reading.{fails, read_err, read_ok, then_bad, then_good, then_more}
use Rattle.ob_store.proofs.Naming.{CommandsRead, HeadingRead, named, no_commands, no_heading}
use Rattle.ob_store.proofs.named.read_named.Goals as goal

pub returns-in-Ok-None-clause-finds : goal.returns-in-Ok-None-clause-finds
returns-in-Ok-None-clause-finds g c =
    let it = c.in-Ok-None in
    let first : Finds g.S.Store c.args.version HeadingRead (HasNoBookIn c.args.version) c.args.conn.now c.read_heading.new.conn _ = read_ok g.S.Store c.args.version HeadingRead (HasNoBookIn c.args.version) c.args.conn.now c.read_heading.new.conn it.field-0 it.ensures.mode it.ensures.survives it.ensures.clean (it.ensures.kept c.args.version) (λ clean. it.ensures.same clean c.args.version) (λ clean. it.ensures.read clean c.args.version) in
    then_bad g.S.Store c.args.version HeadingRead (HasNoBookIn c.args.version) (IsNamed c.args.version) (HasNoBookIn c.args.version) c.args.conn.now c.read_heading.new.conn it.field-0 first (λ trees. no_heading c.args.version trees it.field-0 it.field-0-is)

pub returns-in-Ok-Some-read_commands-clause-finds : goal.returns-in-Ok-Some-read_commands-clause-finds
returns-in-Ok-Some-read_commands-clause-finds g c =
    let h = c.in-Ok-Some in
    let l = c.in-Ok-Some-read_commands in
    let first = read_ok g.S.Store c.args.version HeadingRead (HasNoBookIn c.args.version) c.args.conn.now c.read_heading.new.conn h.field-0 h.ensures.mode h.ensures.survives h.ensures.clean (h.ensures.kept c.args.version) (λ clean. h.ensures.same clean c.args.version) (λ clean. h.ensures.read clean c.args.version) in
    let second = read_ok g.S.Store c.args.version (CommandsRead c.args.version) (HasNoBookIn c.args.version) c.read_heading.new.conn c.read_commands.new.conn l.field-0 l.ensures.mode l.ensures.survives l.ensures.clean (l.ensures.kept c.args.version) (λ clean. l.ensures.same clean c.args.version) (λ clean schema. (l.ensures.valid, l.ensures.read clean c.args.version schema)) in
    let both = then_more g.S.Store c.args.version HeadingRead (HasNoBookIn c.args.version) (CommandsRead c.args.version) (HasNoBookIn c.args.version) c.args.conn.now c.read_heading.new.conn c.read_commands.new.conn h.field-0 _ first second in
    then_good g.S.Store c.args.version (λ trees z. HeadingRead trees h.field-0 × CommandsRead c.args.version trees z) (λ trees. HeadingRead trees h.field-0 × HasNoBookIn c.args.version trees) (IsNamed c.args.version) (HasNoBookIn c.args.version) c.args.conn.now c.read_commands.new.conn l.field-0 both
    (record { heading = h.heading; commands = l.read.commands; counted = l.read.counted }) (λ trees read. named c.args.version trees h.heading l.read h.field-0 l.field-0 h.field-0-is l.field-0-is read.0 read.1)

pub returns-in-Ok-None-read_commands-clause-finds : goal.returns-in-Ok-None-read_commands-clause-finds
returns-in-Ok-None-read_commands-clause-finds g c =
    let h = c.in-Ok-Some in
    let l = c.in-Ok-None-read_commands in
    let first = read_ok g.S.Store c.args.version HeadingRead (HasNoBookIn c.args.version) c.args.conn.now c.read_heading.new.conn h.field-0 h.ensures.mode h.ensures.survives h.ensures.clean (h.ensures.kept c.args.version) (λ clean. h.ensures.same clean c.args.version) (λ clean. h.ensures.read clean c.args.version) in
    let second = read_ok g.S.Store c.args.version (CommandsRead c.args.version) (HasNoBookIn c.args.version) c.read_heading.new.conn c.read_commands.new.conn l.field-0 l.ensures.mode l.ensures.survives l.ensures.clean (l.ensures.kept c.args.version) (λ clean. l.ensures.same clean c.args.version) (λ clean schema. (l.ensures.valid, l.ensures.read clean c.args.version schema)) in
    let both = then_more g.S.Store c.args.version HeadingRead (HasNoBookIn c.args.version) (CommandsRead c.args.version) (HasNoBookIn c.args.version) c.args.conn.now c.read_heading.new.conn c.read_commands.new.conn h.field-0 _ first second in
    then_bad g.S.Store c.args.version (λ trees z. HeadingRead trees h.field-0 × CommandsRead c.args.version trees z) (λ trees. HeadingRead trees h.field-0 × HasNoBookIn c.args.version trees) (IsNamed c.args.version) (HasNoBookIn c.args.version) c.args.conn.now c.read_commands.new.conn l.field-0 both
    (λ trees read. no_commands c.args.version trees l.field-0 l.field-0-is read.1)

pub returns-in-Ok-Some-read_commands-clause-few : goal.returns-in-Ok-Some-read_commands-clause-few
returns-in-Ok-Some-read_commands-clause-few g c =
    let l = c.in-Ok-Some-read_commands in
    (rw l.field-0-is at l.ensures.valid).0

pub returns-in-Err-clause-finds : goal.returns-in-Err-clause-finds
returns-in-Err-clause-finds g c =
    let h = c.in-Err in
    let e = h.ensures in
    read_err g.S.Store c.args.version (IsNamed c.args.version) (HasNoBookIn c.args.version) c.args.conn.now c.read_heading.new.conn h.stop e.mode e.survives e.clean (e.kept c.args.version) e.faults (λ clean. e.cause clean c.args.version) (λ clean bad. e.foreign clean bad c.args.version)

pub returns-in-Err-read_commands-clause-finds : goal.returns-in-Err-read_commands-clause-finds
returns-in-Err-read_commands-clause-finds g c =
    let h = c.in-Ok-Some in
    let l = c.in-Err-read_commands in
    let e = l.ensures in
    let first = read_ok g.S.Store c.args.version HeadingRead (HasNoBookIn c.args.version) c.args.conn.now c.read_heading.new.conn h.field-0 h.ensures.mode h.ensures.survives h.ensures.clean (h.ensures.kept c.args.version) (λ clean. h.ensures.same clean c.args.version) (λ clean. h.ensures.read clean c.args.version) in
    let second : Finds g.S.Store c.args.version (CommandsRead c.args.version) (HasNoBookIn c.args.version) c.read_heading.new.conn c.read_commands.new.conn (Err l.stop) =
    read_err g.S.Store c.args.version (CommandsRead c.args.version) (HasNoBookIn c.args.version) c.read_heading.new.conn c.read_commands.new.conn l.stop e.mode e.survives e.clean (e.kept c.args.version) e.faults (λ clean. e.cause clean c.args.version) (λ clean bad. e.foreign clean bad c.args.version) in
    let both = then_more g.S.Store c.args.version HeadingRead (HasNoBookIn c.args.version) (CommandsRead c.args.version) (HasNoBookIn c.args.version) c.args.conn.now c.read_heading.new.conn c.read_commands.new.conn h.field-0 (Err l.stop) first second in
    fails g.S.Store c.args.version (λ trees z. HeadingRead trees h.field-0 × CommandsRead c.args.version trees z) (λ trees. HeadingRead trees h.field-0 × HasNoBookIn c.args.version trees) (IsNamed c.args.version) (HasNoBookIn c.args.version) c.args.conn.now c.read_commands.new.conn l.stop (λ trees none. none.1) both
