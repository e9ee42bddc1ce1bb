-- Which store a keeper is over.
use Rattle.sqlite_trees.specs.declared.store.Store.{Ghosts}

-- the keeper is over a store that makes these promises; it says nothing else
abbrev pub IsOver : {S : Type 0} → Ghosts S → Type 0
IsOver {S} g = Unit {0}
