-- Step after step over the tables of version 1.
use Rattle.std.proofs.Common.{◌≡◌, refl, sym, subst, arith, ℕ, zero, suc, ◌+◌, ◌<◌, List, [], ◌∷◌, length, take, get_or}
use Rattle.sqlite.specs.State.{State}
use Rattle.ob_base.specs.Life.{whole_life}
use Rattle.ob_sql_rows.specs.Rows.{Tables, Always, HasCommand, HasHeading, life_row, with_row}
use Rattle.ob_sql_rows.specs.Steps.{LetsIn, Makes}
use Rattle.ob_sql_rows.specs.Rules.{HasShort}
use Rattle.ob_sql_rows.specs.Versions.{MakesLife, without_lives}
use Rattle.ob_sql_rows.specs.declared.table.Table.TheVariants.{Life, Meta}
use Rattle.ob_sql_write.specs.Upgrade.{CanUpgrade, LetsBodies, LetsLivesOf, LetsUpgrade, LetsUpgradeIn, with_body, with_bodies, with_lives, with_rows, HasBodies, Upgrades}
use Rattle.ob_sql_write.specs.declared.upgrade.NewBody.{NewBody}
use Rattle.ob_sql_write.proofs.Steps.{makes_as, makes_then, more}

-- the table of lives is made, and then the rows are
pub then_rows : (a b c : State) (needs : Tables → Type 0) (change : Tables → Tables) → MakesLife a b → Makes b c needs change
    → Upgrades a c (λ t. needs (without_lives t)) (λ t. change (without_lives t))
then_rows a b c needs change made rows = record {
  live = made.live;
  stays = rows.stays;
  inside = rows.inside;
  schema = λ has. rows.schema (made.schema has);
  sound = λ has whole. rows.sound (made.schema has) (made.sound has whole);
  holds = λ has t held need. rows.holds (made.schema has) (without_lives t) (made.holds has t held) need;
  numbered = λ has t held need are. rows.numbered (made.schema has) (without_lives t) (made.holds has t held) need (made.numbered has are);
}

-- what the rows ask of the tables once that of lives is there
abbrev pub NeedsRest : List NewBody → ℕ → Tables → Type 0
NeedsRest bodies devices t = HasBodies bodies t × HasHeading (with_rows bodies devices t)

abbrev pub LetsRest : List NewBody → ℕ → Tables → Type 0
LetsRest bodies devices t = LetsBodies bodies t × LetsLivesOf devices t × HasShort Meta 1 t

pub lets_over : (a b : State) (bodies : List NewBody) (devices : ℕ) → MakesLife a b → LetsUpgradeIn a (CanUpgrade bodies devices) (LetsUpgrade bodies devices) → LetsIn b (NeedsRest bodies devices) (LetsRest bodies devices)
lets_over a b bodies devices made it = record {
  schema = made.schema it.schema;
  sound = made.sound it.schema it.sound;
  numbered = made.numbered it.schema it.numbered;
  tables = without_lives it.tables;
  holds = made.holds it.schema it.tables it.holds;
  needed = it.needed;
  allowed = (it.allowed.texts, (refl, it.allowed.living), it.allowed.heading);
}

bodies_suc : (bs : List NewBody) (n : ℕ) (d : NewBody) (t : Tables) → n < length bs → HasBodies (take (suc n) bs) t
    → HasBodies (take n bs) t × HasCommand (get_or bs n d).no (with_bodies (take n bs) t)
bodies_suc [] n d t low h = absurd (omega (arith, low))
bodies_suc (b ∷ bs) zero d t low h = (tt, h.0)
bodies_suc (b ∷ bs) (suc n) d t low h = let rest = bodies_suc bs n d (with_body b t) (omega (arith, low)) h.1 in ((h.0, rest.0), rest.1)

-- the bodies so far and one more
pub next_body : (old mid new : State) (bodies : List NewBody) (at : ℕ) (b : NewBody) → at < length bodies → b ≡ get_or bodies at b → Makes old mid (HasBodies (take at bodies)) (with_bodies (take at bodies))
    → Makes mid new (HasCommand b.no) (with_body b) → Makes old new (HasBodies (take (at + 1) bodies)) (with_bodies (take (at + 1) bodies))
next_body old mid new bodies at b low here was step =
    let e : suc at ≡ at + 1 = omega arith in
    let it = get_or bodies at b in
    let next : Makes mid new (HasCommand it.no) (with_body it) = subst (λ (x : NewBody). Makes mid new (HasCommand x.no) (with_body x)) here step in
    subst (λ n. Makes old new (HasBodies (take n bodies)) (with_bodies (take n bodies))) e
    (makes_as old new _ _ (with_bodies (take (suc at) bodies)) (λ t. sym (more (λ (t : Tables) (x : NewBody). with_body x t) t bodies at b low))
    (makes_then old mid new (HasBodies (take at bodies)) (HasCommand it.no) (HasBodies (take (suc at) bodies)) (with_bodies (take at bodies)) (with_body it) (λ t. bodies_suc bodies at b t low) was next))

-- the lives so far and one more
pub next_life : (old mid new : State) (at : ℕ) → Makes old mid Always (with_lives at) → Makes mid new Always (with_row Life (life_row at whole_life)) → Makes old new Always (with_lives (at + 1))
next_life old mid new at was step =
    let e : suc at ≡ at + 1 = omega arith in
    subst (λ n. Makes old new Always (with_lives n)) e (makes_then old mid new Always Always Always (with_lives at) (with_row Life (life_row at whole_life)) (λ t any. (tt, tt)) was step)
