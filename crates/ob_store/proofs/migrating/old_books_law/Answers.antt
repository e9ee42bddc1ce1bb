use Rattle.ob_sql_rows.specs.declared.version.Version.TheVariants.{One}
use Rattle.ob_store.proofs.Laws.{laws_old}
use Rattle.ob_store.proofs.migrating.old_books_law.Goals as goal

pub returns : goal.returns
returns c =
    laws_old c.naming_law.ensures.few c.reaching_law.ensures.accepted c.reaching_law.ensures.reached c.reaching_law.ensures.moved c.next_law.ensures.period c.version_law.ensures.accepted c.version_law.ensures.reached
    c.upgrade_law.ensures.reached c.upgrade_law.ensures.alike (c.reaching_law.ensures.ordered One)
