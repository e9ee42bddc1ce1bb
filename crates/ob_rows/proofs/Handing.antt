-- A sink that takes one list of rows and then another takes both, or fails among them.
use Rattle.std.proofs.Common.{◌≡◌, ℕ, ◌+◌, ◌<◌, ◌≤◌, List, [], ◌∷◌, ◌++◌, length, take, drop, get_or, Result, Ok, Err, IsErrAnd, refl, sym, ap, subst, ◌∙◌, arith}
use Rattle.std.specs.List.{flat_map}
use Rattle.std.proofs.lemmas.Grind.{flat_map-append}
use Rattle.std.proofs.lemmas.List.{append_assoc, append-nil, length-append, take-append-drop, take_all, take_more}
use Rattle.ob_base.specs.declared.stop.Fault.{Fault}
use Rattle.ob_rows.specs.declared.row.InterruptionRow.{InterruptionRow}
use Rattle.ob_rows.specs.Sinks.{Takes, TakesAll, FailsAmong, HandsRows}

-- ---- lists made of lists
module _ {X A : Type 0} (f : X → List A) where
  -- the first n, and one more
  pub flat_map_more : (xs : List X) (i : ℕ) (d : X) → i < length xs → flat_map f (take (i + 1) xs) ≡ flat_map f (take i xs) ++ f (get_or xs i d)
  flat_map_more xs i d l =
      ap (flat_map f) (take_more xs i d l) ∙ flat_map-append f (take i xs) (get_or xs i d ∷ [])
      ∙ ap (λ (l : List A). flat_map f (take i xs) ++ l) (append-nil (f (get_or xs i d)))

  -- those of the rest follow
  pub flat_map_rest : (xs : List X) (i : ℕ) → flat_map f xs ≡ flat_map f (take i xs) ++ flat_map f (drop i xs)
  flat_map_rest xs i = ap (flat_map f) (sym (take-append-drop i xs)) ∙ flat_map-append f (take i xs) (drop i xs)

module _ {V : Type 0} (takes : Takes V) where
  pub takes_both : (was mid is : V) (xs ys : List InterruptionRow) → TakesAll takes was xs mid → TakesAll takes mid ys is → TakesAll takes was (xs ++ ys) is
  takes_both was mid is [] ys first then = subst (λ (v : V). TakesAll takes v ys is) first then
  takes_both was mid is (x ∷ xs) ys first then = (first.0, first.1, takes_both first.0 mid is xs ys first.2 then)

  pub fails_later : (was mid is : V) (xs ys : List InterruptionRow) (fault : Fault) → TakesAll takes was xs mid → FailsAmong takes mid ys fault is → FailsAmong takes was (xs ++ ys) fault is
  fails_later was mid is xs ys fault first then = record {
    front = xs ++ then.front;
    it = then.it;
    rest = then.rest;
    parts = ap (λ (l : List InterruptionRow). xs ++ l) then.parts ∙ sym (append_assoc xs then.front (then.it ∷ then.rest));
    mid = then.mid;
    took = takes_both was mid then.mid xs then.front first then.took;
    failed = then.failed;
  }

  pub fails_sooner : (was is : V) (xs ys : List InterruptionRow) (fault : Fault) → FailsAmong takes was xs fault is → FailsAmong takes was (xs ++ ys) fault is
  fails_sooner was is xs ys fault then = record {
    front = then.front;
    it = then.it;
    rest = then.rest ++ ys;
    parts = ap (λ (l : List InterruptionRow). l ++ ys) then.parts ∙ append_assoc then.front (then.it ∷ then.rest) ys;
    mid = then.mid;
    took = then.took;
    failed = then.failed;
  }

  -- no row
  pub hands_none : (v : V) (n : ℕ) → n ≡ 0 → HandsRows takes v v [] (Ok n)
  hands_none v n none = (refl, none)

  -- one row
  pub hands_one : (was is : V) (r : InterruptionRow) (n : ℕ) → n ≡ 1 → takes was r (Ok tt) is → HandsRows takes was is (r ∷ []) (Ok n)
  hands_one was is r n one took = ((is, took, refl), one)

  pub fails_one : (was is : V) (r : InterruptionRow) (fault : Fault) → takes was r (Err fault) is → HandsRows takes was is (r ∷ []) (Err fault)
  fails_one was is r fault failed = record { front = []; it = r; rest = []; parts = refl; mid = was; took = refl; failed = failed }

  pub fails_first : (was is : V) (r : InterruptionRow) (rows : List InterruptionRow) (fault : Fault) (result : Result ℕ Fault) → rows ≡ r ∷ [] → result ≡ Err fault → takes was r (Err fault) is → HandsRows takes was is rows result
  fails_first was is r rows fault result one err failed = rw (one, err) (fails_one was is r fault failed)

  -- ---- the rows of a list, element by element
  module _ {X : Type 0} (f : X → List InterruptionRow) (xs : List X) (i : ℕ) (d : X) (l : i < length xs) where
    -- those of the first, and of one more
    pub hands_more : (was mid is : V) (n m k : ℕ) → HandsRows takes was mid (flat_map f (take i xs)) (Ok n) → HandsRows takes mid is (f (get_or xs i d)) (Ok m) → k ≡ n + m → HandsRows takes was is (flat_map f (take (i + 1) xs)) (Ok k)
    hands_more was mid is n m k first then sum =
        let whole = flat_map_more f xs i d l in (
          subst (λ (rows : List InterruptionRow). TakesAll takes was rows is) (sym whole) (takes_both was mid is (flat_map f (take i xs)) (f (get_or xs i d)) first.0 then.0),
          omega (arith, sum, first.1, then.1, ap length whole, length-append (flat_map f (take i xs)) (f (get_or xs i d))),
        )

    -- a failure among those of one more
    fails_among : (was mid is : V) (n : ℕ) (fault : Fault) → HandsRows takes was mid (flat_map f (take i xs)) (Ok n) → HandsRows takes mid is (f (get_or xs i d)) (Err fault) → HandsRows takes was is (flat_map f xs) (Err fault)
    fails_among was mid is n fault first then =
        let whole = flat_map_more f xs i d l in
        subst (λ (rows : List InterruptionRow). FailsAmong takes was rows fault is)
        (ap (λ (rows : List InterruptionRow). rows ++ flat_map f (drop (i + 1) xs)) (sym whole) ∙ sym (flat_map_rest f xs (i + 1)))
        (fails_sooner was is (flat_map f (take i xs) ++ f (get_or xs i d)) (flat_map f (drop (i + 1) xs)) fault
        (fails_later was mid is (flat_map f (take i xs)) (f (get_or xs i d)) fault first.0 then))

    pub hands_failing : (was mid is : V) (n : ℕ) (fault : Fault) (result : Result ℕ Fault) → result ≡ Err fault → HandsRows takes was mid (flat_map f (take i xs)) (Ok n) → HandsRows takes mid is (f (get_or xs i d)) (Err fault) → HandsRows takes was is (flat_map f xs) result
    hands_failing was mid is n fault result err first then = rw err (fails_among was mid is n fault first then)

  -- at the end those of all
  pub hands_all : {X : Type 0} (f : X → List InterruptionRow) (xs : List X) (i : ℕ) (was is : V) (n : ℕ) → length xs ≤ i → HandsRows takes was is (flat_map f (take i xs)) (Ok n) → HandsRows takes was is (flat_map f xs) (Ok n)
  hands_all {X = X} f xs i was is n l all = subst (λ (ys : List X). HandsRows takes was is (flat_map f ys) (Ok n)) (take_all i xs l) all

-- an error that is passed on is the same
pub err_from : {A E : Type 0} (r : Result A E) (e : E) → IsErrAnd r (λ f. f ≡ e) → r ≡ Err e
err_from (Ok a) e is = elim is [ ]
err_from {A = A} (Err f) e is = ap (λ (x : _). Err x) is
