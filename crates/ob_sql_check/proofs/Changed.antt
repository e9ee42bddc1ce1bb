-- Each table, once tables of version 1 were made those of version 2.
use Rattle.std.proofs.Common.{◌≡◌, ◌∙◌, ℕ, ◌==◌, false, zero, suc, List, [], ◌∷◌, ◌++◌, filter, if◌then◌else◌, refl, ap}
use Rattle.ob_base.specs.Life.{whole_life}
use Rattle.ob_sql_rows.specs.Rows.{HasHeading, Tables, change_where, is_key, life_row, meta_row, rebody, reversion, tree_of}
use Rattle.ob_sql_rows.specs.Versions.{without_lives}
use Rattle.ob_sql_rows.specs.declared.table.Table.{Table}
use Rattle.ob_sql_rows.specs.declared.table.Table.TheVariants.{Meta, Cause, Node, Device, Life, Customer, Entry, Mark, Command, Moved, Posting}
use Rattle.ob_sql_write.specs.Upgrade.{with_bodies, with_body, with_lives, with_rows, with_upgrade}
use Rattle.ob_sql_write.specs.declared.upgrade.NewBody.{NewBody}
use Rattle.ob_record.proofs.Keyed.{key_is}
use Rattle.ob_sql_check.specs.Laws.{IsAlike}
use Rattle.ob_sql_check.specs.OldTables.{texts_of}
use Rattle.ob_sql_check.proofs.Rowing.{bodies_rows, lives_rows, rows_with, whole_rows}

-- the bodies and the lives are rows of one table each
bodies_leave : (other : Table) → (tree_of Command == tree_of other) ≡ false → (bodies : List NewBody) (t : Tables) → with_bodies bodies t other ≡ t other
bodies_leave other apart [] t = refl
bodies_leave other apart (b ∷ bodies) t =
    bodies_leave other apart bodies (with_body b t)
    ∙ ap (λ same. if same then change_where (is_key b.no) (rebody b.body.items) (t other) else t other) apart

lives_leave : (other : Table) → (tree_of Life == tree_of other) ≡ false → (k : ℕ) (t : Tables) → with_lives k t other ≡ t other
lives_leave other apart zero t = refl
lives_leave other apart (suc k) t =
    ap (λ same. if same then with_lives k t other ++ life_row k whole_life ∷ [] else with_lives k t other) apart ∙ lives_leave other apart k t

module _ (bodies : List NewBody) (devices : ℕ) (t : Tables) where
  both_leave : (other : Table) → (tree_of Command == tree_of other) ≡ false → (tree_of Life == tree_of other) ≡ false
      → with_rows bodies devices (without_lives t) other ≡ without_lives t other
  both_leave other no_body no_life =
      lives_leave other no_life devices (with_bodies bodies (without_lives t)) ∙ bodies_leave other no_body bodies (without_lives t)

  pub commands_are : with_upgrade bodies devices t Command ≡ rows_with (texts_of bodies) (t Command)
  commands_are = lives_leave Command refl devices (with_bodies bodies (without_lives t)) ∙ bodies_rows bodies (without_lives t)

  pub lives_are : with_upgrade bodies devices t Life ≡ whole_rows 0 devices
  lives_are = lives_rows devices (with_bodies bodies (without_lives t)) (bodies_leave Life refl bodies (without_lives t))

  -- the heading has another version
  module _ (first_day : List ℕ) (days : ℕ) (zone : List ℕ) (is : t Meta ≡ meta_row 1 first_day days zone ∷ []) where
    heading_is : with_rows bodies devices (without_lives t) Meta ≡ meta_row 1 first_day days zone ∷ []
    heading_is = both_leave Meta refl refl ∙ is

    pub has_heading : HasHeading (with_rows bodies devices (without_lives t))
    has_heading = record {
      version = 1;
      first_day = first_day;
      days = days;
      zone = zone;
      row = ap (filter (is_key 1)) heading_is ∙ (let one = key_is 1 1 (meta_row 1 first_day days zone) refl in rw one refl);
    }

    pub heading_anew : with_upgrade bodies devices t Meta ≡ meta_row 2 first_day days zone ∷ []
    heading_anew =
        ap (change_where (is_key 1) (reversion 2)) heading_is
        ∙ ap (λ b. (if b then meta_row 2 first_day days zone else meta_row 1 first_day days zone) ∷ []) (key_is 1 1 (meta_row 1 first_day days zone) refl)

  -- the others are left
  pub others_are : (other : Table) → IsAlike other → with_upgrade bodies devices t other ≡ t other
  others_are Meta alike = absurd alike
  others_are Command alike = absurd alike
  others_are Life alike = absurd alike
  others_are Cause alike = both_leave Cause refl refl
  others_are Node alike = both_leave Node refl refl
  others_are Device alike = both_leave Device refl refl
  others_are Customer alike = both_leave Customer refl refl
  others_are Entry alike = both_leave Entry refl refl
  others_are Mark alike = both_leave Mark refl refl
  others_are Moved alike = both_leave Moved refl refl
  others_are Posting alike = both_leave Posting refl refl
