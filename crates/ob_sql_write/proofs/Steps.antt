-- Step after step inside a transaction.
use Rattle.std.proofs.Common.{◌≡◌, ℕ, ◌<◌, zero, suc, List, [], ◌∷◌, length, take, get_or, fold, refl, subst, arith}
use Rattle.std.specs.Prelude.{Result, Ok, Err, OnOk, IsTrue}
use Rattle.sqlite.specs.State.{State}
use Rattle.ob_sql_rows.specs.Rows.{Tables, Holds}
use Rattle.ob_sql_rows.specs.Steps.{Makes}

pub on_ok : {X E : Type 0} (r : Result X E) {P Q : Type 0} → OnOk r P → (P → Q) → OnOk r Q
on_ok (Ok x) h f = f h
on_ok (Err e) h f = h

pub makes_then : (a b c : State) (m n l : Tables → Type 0) (f h : Tables → Tables) → ((t : Tables) → l t → m t × n (f t)) → Makes a b m f → Makes b c n h → Makes a c l (λ t. h (f t))
makes_then a b c m n l f h enough one two = record {
  live = one.live;
  stays = two.stays;
  inside = two.inside;
  schema = λ has. two.schema (one.schema has);
  sound = λ has whole. two.sound (one.schema has) (one.sound has whole);
  holds = λ has t held needs. two.holds (one.schema has) (f t) (one.holds has t held (enough t needs).0) (enough t needs).1;
  numbered = λ has t held needs are. two.numbered (one.schema has) (f t) (one.holds has t held (enough t needs).0) (enough t needs).1 (one.numbered has t held (enough t needs).0 are);
}

-- no step yet
pub makes_none : (a : State) (needs : Tables → Type 0) → IsTrue a.is_open → IsTrue a.in_transaction → Makes a a needs (λ t. t)
makes_none a needs live inside = record {
  live = live;
  stays = live;
  inside = inside;
  schema = λ has. has;
  sound = λ has whole. whole;
  holds = λ has t held need. held;
  numbered = λ has t held need are. are;
}

-- two changes that make the same of any tables
pub makes_as : (a b : State) (needs : Tables → Type 0) (f h : Tables → Tables) → ((t : Tables) → f t ≡ h t) → Makes a b needs f → Makes a b needs h
makes_as a b needs f h same it = record {
  live = it.live;
  stays = it.stays;
  inside = it.inside;
  schema = it.schema;
  sound = it.sound;
  holds = λ has t held need. subst (Holds b.now.trees) (same t) (it.holds has t held need);
  numbered = it.numbered;
}

-- one more element
pub more : {A X : Type 0} (f : A → X → A) (a : A) (xs : List X) (n : ℕ) (d : X) → n < length xs → fold f a (take (suc n) xs) ≡ f (fold f a (take n xs)) (get_or xs n d)
more f a [] n d low = absurd (omega (arith, low))
more f a (x ∷ xs) zero d low = refl
more f a (x ∷ xs) (suc n) d low = more f (f a x) xs n d (omega (arith, low))
