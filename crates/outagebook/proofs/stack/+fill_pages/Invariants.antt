use Rattle.outagebook.proofs.stack.+fill_pages.Given as goal

abbrev pub decreases-fill_pages : goal.decreases-fill_pages
decreases-fill_pages l = l.pages
