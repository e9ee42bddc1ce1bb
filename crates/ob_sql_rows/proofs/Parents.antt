-- Each row of a book has its parents after an edit of one table, where each had them before.
use Rattle.std.proofs.Common.{◌≡◌, ◌≢◌, ◌⊎◌, inl, inr, ℕ, ◌==◌, ℤ, Bool, true, false, not, ◌||◌, List, [], ◌∷◌, filter, codes, Option, Some, None, refl, sym, ap, ap₂, subst, ◌∙◌, true≢false}
use Rattle.std.specs.List.{AllByRecursion, list_any}
use Rattle.std.proofs.lemmas.Bool.{cases_Bool, cases_eq, and_from, or_cases, or_left, or_right}
use Rattle.sqlite_value.specs.declared.keys.Key.{Key}
use Rattle.sqlite_value.specs.Keys.{plain, joined, first_key}
use Rattle.sqlite_value.proofs.KeyLemmas.{first_key-plain}
use Rattle.sqlite.specs.Order.{Row, column}
use Rattle.sqlite.specs.Table as sql
use Rattle.sqlite.specs.Schema.{Schema}
use Rattle.sqlite.specs.Tree.{Trees, rowid, has_rowid, without_rowid}
use Rattle.sqlite.specs.Effect.{IsDatabase}
use Rattle.sqlite.specs.State.{State}
use Rattle.sqlite.specs.Collation.TheVariants.{Binary}
use Rattle.sqlite_trees.specs.Tree.{IsAscending}
use Rattle.sqlite_schema.specs.declared.schema.Constraint.TheVariants.{ForeignKey}
use Rattle.sqlite_schema.specs.declared.schema.Keys.TheVariants.{Enforced}
use Rattle.sqlite_schema.specs.declared.schema.Among.TheVariants.{All}
use Rattle.sqlite_schema.specs.declared.schema.Reference.{Reference}
use Rattle.sqlite_schema.specs.Names.{same_name}
use Rattle.sqlite_schema.specs.Rules.{ParentKey, parent_key, equal, agree, is_held, has_parent, Refers}
use Rattle.sqlite_rules.specs.Lists.{Has}
use Rattle.sqlite_rules.specs.InPlace.{AgreeAt}
use Rattle.sqlite_rules.specs.Edit.{Edit, without_all, left_by, Applies}
use Rattle.sqlite_rules.proofs.ListLemmas.{all_has, all_from, some_has, some_from, has_kept}
use Rattle.sqlite_rules.proofs.TableLemmas.{put_all_has, put_all_keeps, put_all_adds, without_all_has, some_found}
use Rattle.sqlite_rules.proofs.RuleLemmas.{same_table, parent_is_table, refers_at, refers_from}
use Rattle.sqlite_rules.proofs.PlaceLemmas.{agree_same, agrees_itself, null_same}
use Rattle.sqlite_catalog.specs.Listing.{IsSound}
use Rattle.ob_sql_rows.specs.Schema.{book_schema, refers}
use Rattle.ob_sql_rows.specs.Rows.{Tables, tree_of, shown, Holds, number}
use Rattle.ob_sql_rows.specs.Rules.{HasKey}
use Rattle.ob_sql_rows.specs.declared.table.Table.{Table}
use Rattle.ob_sql_rows.specs.declared.table.Table.TheVariants.{Cause, Node, Device, Command}
use Rattle.ob_sql_rows.proofs.Keys.{any_alike, key_there, trees_apart}
use Rattle.ob_sql_rows.proofs.Trees.{stays}

-- ---- each reference of a book goes to a rowid
abbrev to_rowid : ℕ → ParentKey
to_rowid n = (n, 0 ∷ [], plain)

-- the tree is that of a table that others refer to
abbrev pub is_parent : ℕ → Bool
is_parent n = (n == 1) || ((n == 3) || ((n == 5) || (n == 10)))

abbrev IsToRowid : Reference → Type 0
IsToRowid ref = (n : ℕ) × (parent_key book_schema.tables ref ≡ Some (to_rowid n)) × (is_parent n ≡ true)

to_node : (place : ℕ) → IsToRowid (refers place (codes "node") (codes "id"))
unfolding same_name joined
to_node place = (3, refl, refl)

to_device : (place : ℕ) → IsToRowid (refers place (codes "device") (codes "id"))
unfolding same_name joined
to_device place = (5, refl, refl)

to_cause : (place : ℕ) → IsToRowid (refers place (codes "cause") (codes "code"))
unfolding same_name joined
to_cause place = (1, refl, refl)

to_command : (place : ℕ) → IsToRowid (refers place (codes "cmd") (codes "id"))
unfolding same_name joined
to_command place = (10, refl, refl)

to_rowids : AllByRecursion (λ (t : sql.Table). AllByRecursion IsToRowid t.references) book_schema.tables
to_rowids =
    (tt, (tt, (tt, ((to_node 3, (to_node 4, tt)), ((to_node 2, tt), ((to_device 3, (to_cause 6, tt)), (tt, (tt, ((to_command 1, tt), (tt, ((to_device 0, tt), tt)))))))))))

is_to_rowid : (t : sql.Table) (ref : Reference) → Has book_schema.tables t → Has t.references ref → IsToRowid ref
is_to_rowid t ref known has = all_has IsToRowid t.references ref (all_has (λ (u : sql.Table). AllByRecursion IsToRowid u.references) book_schema.tables t to_rowids known) has

pub sound_book : (s : State) → s.now.schema ≡ book_schema → IsDatabase s.now → IsSound book_schema s.now.trees
sound_book s has sound = subst (λ (schema : Schema). IsSound schema s.now.trees) has sound

refers_of : (db : Trees) → IsSound book_schema db → Refers All book_schema db
refers_of db sound = sound.obeys.rules ForeignKey

-- ---- what becomes of parents
-- in place of each row there is one with its rowid
abbrev Heirs : Trees → Trees → ℕ → Type 0
Heirs db next tree = (r : Row) → Has (db tree) r → (h : Row) × Has (next tree) h × (rowid h ≡ rowid r)

-- a row has the rowid that the columns of another have
abbrev is_held_by : List ℕ → Row → Row → Bool
is_held_by places row parent = agree plain (0 ∷ []) parent places row

-- rows with the same values where a reference has its columns have the same parents
held_alike : (db : Trees) (places : List ℕ) (was anew : Row) → AgreeAt places was anew → (o : Option ParentKey) → is_held db places anew o ≡ is_held db places was o
held_alike db places was anew same None = refl
held_alike db places was anew same (Some key) =
    any_alike (λ p. agree key.2 key.1 p places anew) (λ p. agree key.2 key.1 p places was) (λ p. agree_same key.2 key.1 places p p was anew (agrees_itself key.1 p) same) (db key.0)

parent_alike : (schema : Schema) (db : Trees) (was anew : Row) (ref : Reference) → AgreeAt ref.columns was anew → has_parent schema.tables db anew ref ≡ has_parent schema.tables db was ref
parent_alike schema db was anew ref same = ap₂ ◌||◌ (null_same ref.columns was anew same) (held_alike db ref.columns was anew same (parent_key schema.tables ref))

module _ (schema : Schema) (apart : IsAscending (λ (a b : sql.Table). a.tree ≡ b.tree → ⊥) schema.tables) (db next : Trees) (edit : Edit) (listed : Has schema.tables edit.table)
    (done : Applies schema Enforced db edit next) where
  other_same : (t : sql.Table) → Has schema.tables t → t.tree ≢ edit.table.tree → next t.tree ≡ db t.tree
  other_same t known = all_has (λ (u : sql.Table). u.tree ≢ edit.table.tree → next u.tree ≡ db u.tree) schema.tables t done.tables known

  -- a row is new, or was there before
  came : (t : sql.Table) (row : Row) → Has schema.tables t → Has (next t.tree) row → ((t ≡ edit.table) × Has edit.news row) ⊎ Has (db t.tree) row
  came t row known there = elim (cases_eq t.tree edit.table.tree) [
    | inl same ↦
        let is : t ≡ edit.table = same_table schema.tables t edit.table apart known listed same in
        elim (put_all_has edit.news (left_by db edit) row (subst (λ l. Has l row) done.rows (subst (λ n. Has (next n) row) same there))) [
          | inl fresh ↦ inl (is, fresh)
          | inr left ↦ inr (subst (λ n. Has (db n) row) (sym same) (without_all_has edit.gone (db edit.table.tree) row left))
        ]
    | inr other ↦ inr (subst (λ l. Has l row) (other_same t known other) there)
  ]

  held_still : (places : List ℕ) (row : Row) (n : ℕ) (t : sql.Table) → Has schema.tables t → t.tree ≡ n → (n ≡ edit.table.tree → Heirs db next edit.table.tree)
      → list_any (is_held_by places row) (db n) ≡ true → list_any (is_held_by places row) (next n) ≡ true
  held_still places row n t known tree heirs held =
      let parent = some_has (is_held_by places row) (db n) held in
      elim (cases_eq n edit.table.tree) [
        | inl here ↦
            let heir = heirs here parent.0 (subst (λ m. Has (db m) parent.0) here parent.1) in
            some_from (is_held_by places row) (next n) heir.0 (subst (λ m. Has (next m) heir.0) (sym here) heir.1)
            (agree_same plain (0 ∷ []) places parent.0 heir.0 row row (sym heir.2, tt) (agrees_itself places row) ∙ parent.2)
        | inr other ↦
            let kept : next n ≡ db n = subst (λ m. next m ≡ db m) tree (other_same t known (λ e. other (sym tree ∙ e))) in
            some_from (is_held_by places row) (next n) parent.0 (subst (λ l. Has l parent.0) (sym kept) parent.1) parent.2
      ]

  parent_still : (row : Row) (ref : Reference) (n : ℕ) → parent_key schema.tables ref ≡ Some (to_rowid n) → (n ≡ edit.table.tree → Heirs db next edit.table.tree)
      → has_parent schema.tables db row ref ≡ true → has_parent schema.tables next row ref ≡ true
  parent_still row ref n is heirs had = elim (or_cases _ _ had) [
    | inl null ↦ or_left _ _ null
    | inr held ↦
        let table = parent_is_table schema.tables ref (to_rowid n) is in
        let was : is_held db ref.columns row (Some (to_rowid n)) ≡ true = subst (λ o. is_held db ref.columns row o ≡ true) is held in
        or_right _ _ (subst (λ o. is_held next ref.columns row o ≡ true) (sym is) (held_still ref.columns row n table.0 table.1 table.2 heirs was))
  ]

  refers_after : ((t : sql.Table) (ref : Reference) → Has schema.tables t → Has t.references ref → (n : ℕ) × (parent_key schema.tables ref ≡ Some (to_rowid n)) × (n ≡ edit.table.tree → Heirs db next edit.table.tree))
      → ((row : Row) (ref : Reference) → Has edit.news row → Has edit.table.references ref → has_parent schema.tables next row ref ≡ true) → Refers All schema db → Refers All schema next
  refers_after keeps own refers = refers_from All schema next (λ t ref row known has among there. elim (came t row known there) [
    | inl fresh ↦ own row ref fresh.1 (subst (λ (u : sql.Table). Has u.references ref) fresh.0 has)
    | inr before ↦ let key = keeps t ref known has in parent_still row ref key.0 key.1 key.2 (refers_at All schema db t row ref refers known before has refl)
  ])

  -- where nothing is taken out each row is its own heir
  kept_heirs : edit.gone ≡ [] → Heirs db next edit.table.tree
  kept_heirs none r there =
      let left : left_by db edit ≡ db edit.table.tree = ap (without_all (db edit.table.tree)) none in
      (r, subst (λ l. Has l r) (sym done.rows) (put_all_keeps edit.news (left_by db edit) r done.fresh (subst (λ l. Has l r) (sym left) there)), refl)

  -- the heir of the one row of a rowid is the row that is put for it
  changed_heirs : (id : ℤ) (was anew : Row) → edit.gone ≡ id ∷ [] → edit.news ≡ anew ∷ [] → filter (has_rowid id) (db edit.table.tree) ≡ was ∷ [] → rowid anew ≡ rowid was → Heirs db next edit.table.tree
  changed_heirs id was anew gone news one same r there = elim (cases_Bool (has_rowid id r)) [
    | inl here ↦
        let only : Has (was ∷ []) r = subst (λ l. Has l r) one (has_kept (has_rowid id) (db edit.table.tree) r there here) in
        let put : Has (next edit.table.tree) anew = subst (λ l. Has l anew) (sym done.rows) (put_all_adds edit.news (left_by db edit) anew done.fresh (subst (λ l. Has l anew) (sym news) (inl refl))) in
        elim only [ inl e ↦ (anew, put, same ∙ ap rowid (sym e)) | inr none ↦ absurd none ]
    | inr other ↦
        let left : left_by db edit ≡ without_rowid id (db edit.table.tree) = ap (without_all (db edit.table.tree)) gone in
        let kept : Has (left_by db edit) r = subst (λ l. Has l r) (sym left) (has_kept (λ x. not (has_rowid id x)) (db edit.table.tree) r there (ap not other)) in
        (r, subst (λ l. Has l r) (sym done.rows) (put_all_keeps edit.news (left_by db edit) r done.fresh kept), refl)
  ]

-- ---- after an edit of a book
module _ (db next : Trees) (edit : Edit) (listed : Has book_schema.tables edit.table) (sound : IsSound book_schema db) (done : Applies book_schema Enforced db edit next) where
  book_after : (is_parent edit.table.tree ≡ true → Heirs db next edit.table.tree)
      → ((row : Row) (ref : Reference) → Has edit.news row → Has edit.table.references ref → has_parent book_schema.tables next row ref ≡ true) → Refers All book_schema next
  book_after heirs own = refers_after book_schema trees_apart db next edit listed done
      (λ t ref known has. let key = is_to_rowid t ref known has in (key.0, key.1, λ e. heirs (subst (λ n. is_parent n ≡ true) e key.2))) own (refers_of db sound)

  -- an old row's parent is that of the row that is put for it, where the columns stay
  kept_parent : Heirs db next edit.table.tree → (was anew : Row) (ref : Reference) → Has (db edit.table.tree) was → Has edit.table.references ref → AgreeAt ref.columns was anew
      → has_parent book_schema.tables next anew ref ≡ true
  kept_parent heirs was anew ref there has same =
      let key = is_to_rowid edit.table ref listed has in
      let had = refers_at All book_schema db edit.table was ref (refers_of db sound) listed there has refl in
      parent_alike book_schema next was anew ref same ∙ parent_still book_schema trees_apart db next edit listed done was ref key.0 key.1 (λ _. heirs) had

-- of the one row that is put
own_row : (tables : List sql.Table) (next : Trees) (refs : List Reference) (news : List Row) (row : Row) → news ≡ row ∷ [] → AllByRecursion (λ ref. has_parent tables next row ref ≡ true) refs
    → (x : Row) (ref : Reference) → Has news x → Has refs ref → has_parent tables next x ref ≡ true
own_row tables next refs news row is own x ref fresh has = elim (subst (λ l. Has l x) is fresh) [
  | inl e ↦ subst (λ r. has_parent tables next r ref ≡ true) (sym e) (all_has (λ q. has_parent tables next row q ≡ true) refs ref own has)
  | inr none ↦ absurd none
]

-- an INSERT of rows that have their parents
pub inserted_all_refers : (db : Trees) (edit : Edit) → Has book_schema.tables edit.table → IsSound book_schema db → edit.gone ≡ []
    → ((next : Trees) → Applies book_schema Enforced db edit next → (row : Row) (ref : Reference) → Has edit.news row → Has edit.table.references ref → has_parent book_schema.tables next row ref ≡ true)
    → (next : Trees) → Applies book_schema Enforced db edit next → Refers All book_schema next
inserted_all_refers db edit listed sound gone own next done =
    book_after db next edit listed sound done (λ _. kept_heirs book_schema trees_apart db next edit listed done gone) (own next done)

-- of one row
pub inserted_refers : (db : Trees) (edit : Edit) → Has book_schema.tables edit.table → IsSound book_schema db → edit.gone ≡ [] → (row : Row) → edit.news ≡ row ∷ []
    → ((next : Trees) → Applies book_schema Enforced db edit next → AllByRecursion (λ ref. has_parent book_schema.tables next row ref ≡ true) edit.table.references)
    → (next : Trees) → Applies book_schema Enforced db edit next → Refers All book_schema next
inserted_refers db edit listed sound gone row news own =
    inserted_all_refers db edit listed sound gone (λ next done. own_row book_schema.tables next edit.table.references edit.news row news (own next done))

-- an UPDATE of the one row of a rowid, which stays: each reference is as it was, or goes to what is there
pub updated_refers : (db : Trees) (edit : Edit) → Has book_schema.tables edit.table → IsSound book_schema db
    → (id : ℤ) (was anew : Row) → edit.gone ≡ id ∷ [] → edit.news ≡ anew ∷ [] → filter (has_rowid id) (db edit.table.tree) ≡ was ∷ [] → rowid anew ≡ rowid was
    → ((next : Trees) → Applies book_schema Enforced db edit next → AllByRecursion (λ ref. AgreeAt ref.columns was anew ⊎ (has_parent book_schema.tables next anew ref ≡ true)) edit.table.references)
    → (next : Trees) → Applies book_schema Enforced db edit next → Refers All book_schema next
updated_refers db edit listed sound id was anew gone news one same own next done =
    let heirs = changed_heirs book_schema trees_apart db next edit listed done id was anew gone news one same in
    let there = (some_found id (db edit.table.tree) was one).0 in
    book_after db next edit listed sound done (λ _. heirs) (own_row book_schema.tables next edit.table.references edit.news anew news
    (all_from (λ ref. has_parent book_schema.tables next anew ref ≡ true) edit.table.references (λ ref has.
    elim (all_has (λ q. AgreeAt q.columns was anew ⊎ (has_parent book_schema.tables next anew q ≡ true)) edit.table.references ref (own next done) has) [
      | inl kept ↦ kept_parent db next edit listed sound done heirs was anew ref there has kept
      | inr there_is ↦ there_is
    ])))

-- a DELETE from a table that nothing refers to
pub deleted_refers : (db : Trees) (edit : Edit) → Has book_schema.tables edit.table → IsSound book_schema db → edit.news ≡ [] → is_parent edit.table.tree ≡ false
    → (next : Trees) → Applies book_schema Enforced db edit next → Refers All book_schema next
deleted_refers db edit listed sound none alone next done =
    book_after db next edit listed sound done (λ is. absurd (true≢false (sym is ∙ alone))) (λ row ref fresh has. absurd (subst (λ l. Has l row) none fresh))

-- ---- a row has its parent
-- a row that has the number of a key refers to the row of the key
module _ (table : Table) (fronted : (r : Row) → column (shown table r) 0 ≡ rowid r) (db next : Trees) (edit : Edit) (done : Applies book_schema Enforced db edit next) where
  finds_parent : (t : Tables) (key place : ℕ) (row : Row) (ref : Reference) → tree_of table ≢ edit.table.tree → Holds db t → HasKey table key t → column row place ≡ number key
      → ref.columns ≡ place ∷ [] → parent_key book_schema.tables ref ≡ Some (to_rowid (tree_of table)) → has_parent book_schema.tables next row ref ≡ true
  finds_parent t key place row ref other held has is at to =
      let parent = key_there table fronted key db t held has in
      let kept : next (tree_of table) ≡ db (tree_of table) = stays next db edit.table.tree table done.tables other in
      let same : equal (first_key plain).collation (rowid parent.0) (column row place) ≡ true =
      ap (λ (k : Key). equal k.collation (rowid parent.0) (column row place)) first_key-plain ∙ ap (equal Binary (rowid parent.0)) is ∙ parent.2 in
      let there : list_any (is_held_by (place ∷ []) row) (next (tree_of table)) ≡ true =
      some_from (is_held_by (place ∷ []) row) (next (tree_of table)) parent.0 (subst (λ l. Has l parent.0) (sym kept) parent.1) (and_from _ _ same refl) in
      or_right _ _ (subst (λ o. is_held next ref.columns row o ≡ true) (sym to) (subst (λ ps. is_held next ps row (Some (to_rowid (tree_of table))) ≡ true) (sym at) there))

module _ (db next : Trees) (edit : Edit) (done : Applies book_schema Enforced db edit next) (t : Tables) (key place : ℕ) (row : Row) where
  pub finds_node : 3 ≢ edit.table.tree → Holds db t → HasKey Node key t → column row place ≡ number key → has_parent book_schema.tables next row (refers place (codes "node") (codes "id")) ≡ true
  unfolding to_node
  finds_node other held has is = finds_parent Node (λ r. refl) db next edit done t key place row (refers place (codes "node") (codes "id")) other held has is refl (to_node place).1

  pub finds_device : 5 ≢ edit.table.tree → Holds db t → HasKey Device key t → column row place ≡ number key → has_parent book_schema.tables next row (refers place (codes "device") (codes "id")) ≡ true
  unfolding to_device
  finds_device other held has is = finds_parent Device (λ r. refl) db next edit done t key place row (refers place (codes "device") (codes "id")) other held has is refl (to_device place).1

  pub finds_cause : 1 ≢ edit.table.tree → Holds db t → HasKey Cause key t → column row place ≡ number key → has_parent book_schema.tables next row (refers place (codes "cause") (codes "code")) ≡ true
  unfolding to_cause
  finds_cause other held has is = finds_parent Cause (λ r. refl) db next edit done t key place row (refers place (codes "cause") (codes "code")) other held has is refl (to_cause place).1

  pub finds_command : 10 ≢ edit.table.tree → Holds db t → HasKey Command key t → column row place ≡ number key → has_parent book_schema.tables next row (refers place (codes "cmd") (codes "id")) ≡ true
  unfolding to_command
  finds_command other held has is = finds_parent Command (λ r. refl) db next edit done t key place row (refers place (codes "cmd") (codes "id")) other held has is refl (to_command place).1
