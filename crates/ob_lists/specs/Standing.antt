-- What the store of a keeper has of a book after a list of calls, and which book that may be.
use Rattle.std.specs.Prelude.{◌≡◌, ◌⊎◌, ℕ, List, [], ◌∷◌, Option, None, Result, Ok, Err}
use Rattle.ob_base.specs.declared.stop.Stop.{Stop}
use Rattle.ob_base.specs.declared.stop.Stop.TheVariants.{Refused, Fault}
use Rattle.ob_base.specs.declared.stop.Fault.{Fault as AFault}
use Rattle.ob_base.specs.declared.stop.Fault.TheVariants.{Reopen, Store}
use Rattle.ob_csv.specs.Rows.{Fields}
use Rattle.ob_book.specs.Acts.{ActState, Referenced, act, acts}
use Rattle.ob_store.specs.Keepers.{Ghosts, StoresEither, StoresEitherVersion, StoresOld, Ties, book_of}
use Rattle.ob_store.specs.declared.reply.Reply.{Reply as GivenReply}
use Rattle.ob_store.specs.declared.keeper.Keeper.{Keeper}
use Rattle.ob_desk.specs.declared.stream.Served.{Served}
use Rattle.ob_lists.specs.Importing.{Ended, MakesOf}
use Rattle.ob_lists.specs.Streaming.{AnswersStream, IsAnswered, Stream}

-- what a call has told: a command is acknowledged by its reply, or a fault of the store has left it in doubt; an import of the rows
-- of a text, where these are known, ended so; a stream was served; or streams were, of which no more is told
pub data Told : Type 0 where
  acknowledged : Referenced → Told
  doubted : Referenced → Told
  imported : Option (List Fields) → Ended → Told
  streamed : Stream → Told
  served : Told

-- what the answer to a command tells; a refusal tells nothing, nor does want of memory
abbrev pub told_by : Referenced → Result GivenReply Stop → List Told
told_by a (Ok reply) = acknowledged a ∷ []
told_by a (Err (Refused refusal)) = []
told_by a (Err (Fault Store)) = doubted a ∷ []
told_by a (Err (Fault fault)) = []

-- what the end of an import tells; that there is no book tells nothing
abbrev pub unless_reopen : AFault → Told → List Told
unless_reopen Reopen told = []
unless_reopen fault told = told ∷ []

abbrev pub told_by_import : Option (List Fields) → Ended → List Told
told_by_import known (Ok report) = imported known (Ok report) ∷ []
told_by_import known (Err e) = unless_reopen e.fault (imported known (Err e))

-- what the end of a stream tells, by what is known of its bytes and of those written before it and after it
abbrev pub told_by_stream : Option (List ℕ) → Option (List ℕ) → Option (List ℕ) → Result Served AFault → List Told
told_by_stream bytes had has ended = streamed (record { bytes = bytes; had = had; has = has; ended = ended }) ∷ []

-- the books that there may be once this was told, the newest first, from a book on: it has each command that is acknowledged, in
-- the order in which they were sent, and of those in doubt any; what each import made of it, and each stream; and where no more is
-- told of streams, some commands
abbrev pub MayBe : ActState → List Told → ActState → Type 0
MayBe b [] x = x ≡ b
MayBe b (acknowledged a ∷ before) x = (y : ActState) × MayBe b before y × IsAnswered y a × (x ≡ act y a)
MayBe b (doubted a ∷ before) x = (y : ActState) × MayBe b before y × ((x ≡ y) ⊎ (x ≡ act y a))
MayBe b (imported known ended ∷ before) x = (y : ActState) × MayBe b before y × MakesOf y known ended x
MayBe b (streamed stream ∷ before) x = (y : ActState) × MayBe b before y × AnswersStream y stream x
MayBe b (served ∷ before) x = (y : ActState) × MayBe b before y × (commands : List Referenced) × (x ≡ acts y commands)

module _ {S T : Type 0} {g : Ghosts S} (Is : ActState → Type 0) (k : Keeper S T g) where
  -- its store keeps a book of this kind, and its own book, where it has one, is that
  pub record Kept : Type 0 where
    pub book : ActState
    pub is : Is book
    pub ties : Ties k book

  -- its store keeps the first of two, or a crash leaves the other; the keeper has no book
  pub record InDoubt : Type 0 where
    pub book : ActState
    pub other : ActState
    pub is : Is book
    pub other_is : Is other
    pub keeps : StoresEither k book other
    pub lost : book_of k ≡ None

  -- its store keeps a book in the tables of version 1, and the keeper has none
  pub record KeptOld : Type 0 where
    pub book : ActState
    pub is : Is book
    pub keeps : StoresOld k book
    pub lost : book_of k ≡ None

  -- its store keeps a book in these, or a crash leaves it in those of version 2; the keeper has none
  pub record InUpgrade : Type 0 where
    pub book : ActState
    pub is : Is book
    pub keeps : StoresEitherVersion k book
    pub lost : book_of k ≡ None

  -- one of these
  abbrev pub Stands : Type 0
  Stands = Kept ⊎ (InDoubt ⊎ (KeptOld ⊎ InUpgrade))
