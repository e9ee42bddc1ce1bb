-- Queries that no database of a schema refuses.
use Rattle.std.specs.Prelude.{◌≡◌, ◌≤◌, ℕ, List, [], length, Option, None, Result, Ok, Err, IsSome}
use Rattle.sqlite.specs.Order.{Row}
use Rattle.sqlite.specs.Effect.{Database, RefusesToRead}
use Rattle.sqlite.specs.Listing.{IsSourceOf, reads_listing, understood}
use Rattle.sqlite.specs.Schema.{Schema}
use Rattle.sqlite.specs.declared.error.Error.{Error}
use Rattle.sqlite_resolve.specs.declared.compiled.Compiled.{Compiled}
use Rattle.sqlite_resolve.specs.declared.error.CompileError.{CompileError}

-- the text is one statement, with as many parameters, and a query that a database of the schema refuses only where steps
-- are limited
pub record IsAnswered (schema : Schema) (text : List ℕ) (params : Row) (c : Compiled) : Type 0 where
  pub whole : length text ≤ c.tail
  pub given : length params ≡ length c.names
  pub timeless : c.formats ≡ []
  pub plain : c.returning ≡ None
  pub accepted : (limit : Option ℕ) (now db : Database) (e : Error) → now.schema ≡ schema
      → IsSourceOf (reads_listing schema text) now db → RefusesToRead limit c.command db params e → IsSome limit

abbrev pub IsAnsweredAs : Schema → List ℕ → Row → Result Compiled CompileError → Type 0
IsAnsweredAs schema text params (Ok c) = IsAnswered schema text params c
IsAnsweredAs schema text params (Err e) = ⊥

-- at the schema the text is a query that, with these parameters, fails only where the store does or steps are limited
abbrev pub IsAlwaysAnswered : Schema → List ℕ → Row → Type 0
IsAlwaysAnswered schema text params = IsAnsweredAs schema text params (understood schema text)
