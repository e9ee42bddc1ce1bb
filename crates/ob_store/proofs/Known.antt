-- What the rows under a reference say of the accepted commands.
use Rattle.std.proofs.Common.{◌≡◌, ◌≢◌, inl, inr, ℕ, ◌+◌, ◌-◌, ◌^◌, ◌<◌, ◌≤◌, ◌&&◌, Bool, true, false, List, [], ◌∷◌, length, filter, Some, None, refl, sym, ap, ap₂, ◌∙◌, arith, suc, true≢false, Ordering, Less, Equal, Greater, nat_lt}
use Rattle.std.specs.Prelude.{nat_eq, slice_get, slice_index_or}
use Rattle.std.specs.Ordering.{is_eq, nat_cmp, ordering_then}
use Rattle.std.specs.Cmp.Lexicographic.{slice_cmp}
use Rattle.std.specs.List.{position_or_len}
use Rattle.std.specs.Str.{bytes_eq}
use Rattle.std.proofs.lemmas.Bool.{cases_Bool}
use Rattle.std.proofs.lemmas.Bool.Decides.{nat_tests}
use Rattle.std.proofs.lemmas.Slice.Eq.{bytes_eq-Decides}
use Rattle.sqlite_value.proofs.OrderLemmas.{value_cmp-Text}
use Rattle.sqlite_sql.specs.Ops.{binary, is_true, from_truth}
use Rattle.sqlite_schema.specs.Rules.{equal}
use Rattle.sqlite.specs.declared.types.Value.TheVariants.{Text}
use Rattle.sqlite.specs.Collation.TheVariants.{Binary}
use Rattle.ob_command.specs.Commands.{body_text}
use Rattle.ob_book.specs.Acts.{ActState, Referenced, number_of}
use Rattle.ob_sql_rows.specs.Rows.{Columns, command_row, is_reference}
use Rattle.ob_sql_rows.specs.declared.table.Table.TheVariants.{Command as Commands}
use Rattle.ob_sql_write.specs.Known.{AreOfOne}
use Rattle.ob_sql_read.specs.Distinct.{ActsAreAccepted, AreDistinct}
use Rattle.ob_record.specs.Reached.{IsReached, ReachedAreFew}
use Rattle.ob_record.specs.Tables.{numbered, row_of_command, tables_of}

truth_is : (b : Bool) → is_true (from_truth (Some b)) ≡ b
truth_is true = refl
truth_is false = refl

same_numbers : (x y : ℕ) (rest : Ordering) (more : Bool) → is_eq rest ≡ more → is_eq (ordering_then (nat_cmp x y) rest) ≡ (nat_eq x y && more)
same_numbers x y rest more is = elim (cases_Bool (nat_eq x y)) [
  | inl same ↦ let e : nat_cmp x y ≡ Equal = grind (arith, nat_tests) in rw (e, same) is
  | inr other ↦ elim (nat_cmp x y) as (λ o. nat_cmp x y ≡ o → is_eq (ordering_then o rest) ≡ (nat_eq x y && more)) [
    | Less ↦ λ e. rw other
    | Equal ↦ λ e. absurd (true≢false (let yes : nat_eq x y ≡ true = grind (arith, nat_tests) in sym yes ∙ other))
    | Greater ↦ λ e. rw other
  ] refl
]

same_texts : (s t : List ℕ) → is_eq (slice_cmp nat_cmp s t) ≡ bytes_eq s t
same_texts [] [] = refl
same_texts [] (y ∷ ys) = refl
same_texts (x ∷ xs) [] = refl
same_texts (x ∷ xs) (y ∷ ys) = same_numbers x y (slice_cmp nat_cmp xs ys) (bytes_eq xs ys) (same_texts xs ys)

equal_texts : (s t : List ℕ) → equal Binary (Text s) (Text t) ≡ bytes_eq s t
unfolding binary
equal_texts s t = truth_is _ ∙ ap is_eq (value_cmp-Text s t) ∙ same_texts s t

-- the test of the rows is that of the references
test_is : (r : List ℕ) (n : ℕ) (a : Referenced) → is_reference r (row_of_command n a) ≡ bytes_eq a.reference r
test_is r n a = elim (cases_Bool (bytes_eq a.reference r)) [
  | inl same ↦ rw (equal_texts a.reference r, same)
  | inr other ↦ rw (equal_texts a.reference r, other)
]

module _ (r : List ℕ) where
  -- the command has the reference
  abbrev pub has : Referenced → Bool
  has a = bytes_eq a.reference r

  none_at : (n : ℕ) (list : List Referenced) → filter (is_reference r) (numbered row_of_command n list) ≡ [] → position_or_len has list ≡ length list
  none_at n [] none = refl
  none_at n (a ∷ list) none = elim (cases_Bool (bytes_eq a.reference r)) [
    | inl same ↦ absurd (let some = ap length (rw (test_is r n a, same) at none) in omega (arith, some))
    | inr other ↦ let rest = none_at (n + 1) list (rw (test_is r n a, other) at none) in let step : 1 + length list ≡ length (a ∷ list) = omega arith in rw (other, rest) step
  ]

  -- no row has the reference
  pub is_new : (b : ActState) → filter (is_reference r) (numbered row_of_command 1 b.accepted) ≡ [] → number_of b r ≡ None
  is_new b none =
      let at = none_at 1 b.accepted none in
      let past : nat_lt (length b.accepted) (length b.accepted) ≡ false = grind (arith, nat_tests) in
      rw (at, past)

  -- the first command with the reference, its place and its body
  pub record IsFirst (n id : ℕ) (body : List ℕ) (list : List Referenced) : Type 0 where
    pub place : ℕ
    pub at : position_or_len has list ≡ place
    pub low : place < length list
    pub number : id ≡ n + place
    pub found : Referenced
    pub there : slice_get list place ≡ Some found
    pub body_is : body_text found.command ≡ body

  pub one_at : (n id : ℕ) (body : List ℕ) (list : List Referenced) → filter (is_reference r) (numbered row_of_command n list) ≡ command_row id r body ∷ [] → IsFirst n id body list
  one_at n id body [] one = absurd (let none = ap length one in omega (arith, none))
  one_at n id body (a ∷ list) one = elim (cases_Bool (bytes_eq a.reference r)) [
    | inl same ↦
        let rows : row_of_command n a ∷ filter (is_reference r) (numbered row_of_command (n + 1) list) ≡ command_row id r body ∷ [] = rw (test_is r n a, same) at one in
        let id_is : n ≡ id = cc in
        let body_is : body_text a.command ≡ body = cc in
        record {
          place = 0;
          at = rw same;
          low = omega arith;
          number = omega (arith, id_is);
          found = a;
          there = refl;
          body_is = body_is;
        }
    | inr other ↦
        let rest = one_at (n + 1) id body list (rw (test_is r n a, other) at one) in
        record {
          place = rest.place + 1;
          at = let e : 1 + rest.place ≡ rest.place + 1 = omega arith in rw (other, rest.at) e;
          low = omega (arith, rest.low);
          number = omega (arith, rest.number);
          found = rest.found;
          there = let e : rest.place + 1 ≡ suc rest.place = omega arith in ap (slice_get (a ∷ list)) e ∙ rest.there;
          body_is = rest.body_is;
        }
  ]

  -- the reference is that of the accepted command of this number, with this body
  pub record IsKnown (b : ActState) (id : ℕ) (body : List ℕ) : Type 0 where
    pub number : number_of b r ≡ Some id
    pub found : Referenced
    pub there : slice_get b.accepted (id - 1) ≡ Some found
    pub body_is : body_text found.command ≡ body
    pub least : 1 ≤ id
    pub most : id ≤ length b.accepted

  -- a row has the reference: it is that of the first command with it
  pub is_known : (b : ActState) (id : ℕ) (body : List ℕ) → filter (is_reference r) (numbered row_of_command 1 b.accepted) ≡ command_row id r body ∷ [] → IsKnown b id body
  is_known b id body one =
      let it = one_at 1 id body b.accepted one in
      let inside : nat_lt it.place (length b.accepted) ≡ true = grind (arith, nat_tests, it.low) in
      let number : it.place + 1 ≡ id = omega (arith, it.number) in
      let place : id - 1 ≡ it.place = omega (arith, it.number) in
      record {
        number = rw (it.at, inside) (ap Some number);
        found = it.found;
        there = ap (slice_get b.accepted) place ∙ it.there;
        body_is = it.body_is;
        least = omega (arith, it.number);
        most = omega (arith, it.low, it.number);
      }

  -- ---- no reference stands twice
  -- none of the list is under the reference
  none_under : (n : ℕ) (list : List Referenced) → ((k : ℕ) (d : Referenced) → k < length list → (slice_index_or list k d).reference ≢ r) → filter (is_reference r) (numbered row_of_command n list) ≡ []
  none_under n [] free = refl
  none_under n (a ∷ list) free = elim (cases_Bool (bytes_eq a.reference r)) [
    | inl same ↦ absurd (free 0 a (omega arith) ((bytes_eq-Decides a.reference r).0 same))
    | inr other ↦ rw (test_is r n a, other) (none_under (n + 1) list (λ k d low. free (suc k) d (omega (arith, low))))
  ]

  one_under : (n : ℕ) (list : List Referenced) → AreDistinct list → n + length list < 2 ^ 32 → AreOfOne (filter (is_reference r) (numbered row_of_command n list)) r
  one_under n [] apart low = inl refl
  one_under n (a ∷ list) apart low = elim (cases_Bool (bytes_eq a.reference r)) [
    | inl same ↦
        let is : a.reference ≡ r = (bytes_eq-Decides a.reference r).0 same in
        let more : filter (is_reference r) (numbered row_of_command (n + 1) list) ≡ [] = none_under (n + 1) list (λ k d l e. apart 0 (suc k) d (omega arith) (omega (arith, l)) (is ∙ sym e)) in
        let own : filter (is_reference r) (numbered row_of_command n (a ∷ list)) ≡ row_of_command n a ∷ filter (is_reference r) (numbered row_of_command (n + 1) list) = rw (test_is r n a, same) refl in
        inr (n, omega (arith, low), body_text a.command, own ∙ ap₂ (λ (x : List ℕ) (l : List Columns). command_row n x (body_text a.command) ∷ l) is more)
    | inr other ↦ rw (test_is r n a, other) (one_under (n + 1) list (λ i j d l m. apart (suc i) (suc j) d (omega (arith, l)) (omega (arith, m))) (omega (arith, low)))
  ]

  -- in a reached book a reference stands in one row, or in none
  pub of_one : ActsAreAccepted → ReachedAreFew → (b : ActState) → IsReached b → AreOfOne (filter (is_reference r) (tables_of b Commands)) r
  of_one law most b reached =
      let few = most b reached in
      one_under 1 b.accepted (law b.book.period b.accepted (ap (λ (s : ActState). s.accepted) reached.in_turn)).0 (omega (arith, few))
