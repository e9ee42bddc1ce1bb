-- Texts that stand twice, in a sorted list and in any order.
use Rattle.std.proofs.Common.{◌≡◌, ◌≢◌, ℕ, zero, suc, ◌+◌, ◌-◌, ◌<◌, ◌≤◌, Bool, true, false, List, [], ◌∷◌, length, get_or, refl, sym, ap, ◌∙◌, arith, true≢false, bytes_eq, inl, inr, AllPairs, IsPermutation, IsSorted, Ordering, Less, Equal, Greater}
use Rattle.std.specs.Ordering.{is_eq, is_lt, nat_cmp, ordering_reverse}
use Rattle.std.specs.Cmp.Lexicographic.{slice_cmp}
use Rattle.std.specs.Borrow.{Bor}
use Rattle.std.proofs.lemmas.Bool.{cases_Bool, cases_lt}
use Rattle.std.proofs.lemmas.Cmp.{nat_list_cmp_total}
use Rattle.std.proofs.lemmas.List.{get_or-map, length-map}
use Rattle.std.proofs.lemmas.List.Sorted.{sorted_far, ranks_by}
use Rattle.std.proofs.lemmas.Map.Keys.{IsDistinct-IsPermutation}
use Rattle.std.proofs.lemmas.Map.Made.{AllPairs-from_IsDistinct, IsDistinct-from_AllPairs}
use Rattle.std.proofs.lemmas.Map.Text.{is_eq-slice_cmp}
use Rattle.std.proofs.lemmas.Slice.Eq.{bytes_eq-Decides}
use Rattle.ob_book.specs.Acts.{Referenced}
use Rattle.ob_sql_read.specs.declared.filed.Filed.{Filed}
use Rattle.ob_sql_read.specs.Listing.{filed_of, referenced}
use Rattle.ob_sql_read.specs.Distinct.{AreDistinct, shown_texts, texts_of, text_order}

abbrev pub Text : Type 0
Text = List ℕ

-- no text stands twice
abbrev pub Apart : List Text → Type 0
Apart texts = AllPairs (λ (a b : Text). a ≢ b) texts

-- ---- in any order
flips : (a b : Text) → bytes_eq a b ≡ bytes_eq b a
flips a b = elim (cases_Bool (bytes_eq a b)) [
  | inl same ↦ same ∙ sym ((bytes_eq-Decides b a).1 (sym ((bytes_eq-Decides a b).0 same)))
  | inr other ↦ elim (cases_Bool (bytes_eq b a)) [
    | inl back ↦ absurd (true≢false (sym ((bytes_eq-Decides a b).1 (sym ((bytes_eq-Decides b a).0 back))) ∙ other))
    | inr never ↦ other ∙ sym never
  ]
]

pub apart_moved : (xs ys : List Text) → IsPermutation xs ys → Apart xs → Apart ys
apart_moved xs ys moved apart = AllPairs-from_IsDistinct bytes_eq-Decides ys (IsDistinct-IsPermutation bytes_eq flips xs ys moved (IsDistinct-from_AllPairs bytes_eq-Decides xs apart))

-- ---- the references of commands
pub apart_texts : (list : List Filed) → Apart (texts_of list) → AreDistinct (filed_of list)
apart_texts [] apart i j d below within same = absurd (omega (arith, within))
apart_texts (f ∷ list) apart i j d below within same =
    let all : List Filed = f ∷ list in
    let text : Filed → Text = λ x. x.reference in
    let high : j < length all = omega (arith, within, length-map all referenced) in
    let low : i < length all = omega (arith, high, below) in
    let first = get_or-map text all i f f.reference low ∙ sym (ap (λ (a : Referenced). a.reference) (get_or-map referenced all i f d low)) in
    let second = get_or-map text all j f f.reference high ∙ sym (ap (λ (a : Referenced). a.reference) (get_or-map referenced all j f d high)) in
    apart i j f.reference below (omega (arith, high, length-map all text)) (first ∙ same ∙ sym second)

pub texts_apart : (list : List Filed) → AreDistinct (filed_of list) → Apart (texts_of list)
texts_apart [] apart i j d below within same = absurd (omega (arith, within))
texts_apart (f ∷ list) apart i j d below within same =
    let all : List Filed = f ∷ list in
    let text : Filed → Text = λ x. x.reference in
    let any = referenced f in
    let high : j < length all = omega (arith, within, length-map all text) in
    let low : i < length all = omega (arith, high, below) in
    let first = get_or-map text all i f d low ∙ sym (ap (λ (a : Referenced). a.reference) (get_or-map referenced all i f any low)) in
    let second = get_or-map text all j f d high ∙ sym (ap (λ (a : Referenced). a.reference) (get_or-map referenced all j f any high)) in
    apart i j any below (omega (arith, high, length-map all referenced)) (sym first ∙ same ∙ second)

-- ---- a sorted list
level : (o : Ordering) → is_lt o ≡ false → is_lt (ordering_reverse o) ≡ false → is_eq o ≡ true
level Less up down = absurd (true≢false up)
level Equal up down = refl
level Greater up down = absurd (true≢false down)

-- texts of which neither is below the other are the same
neither : (a b : Text) → is_lt (slice_cmp nat_cmp a b) ≡ false → is_lt (slice_cmp nat_cmp b a) ≡ false → a ≡ b
neither a b up down = (bytes_eq-Decides a b).0 (sym (is_eq-slice_cmp a b) ∙ level (slice_cmp nat_cmp a b) up (ap is_lt (sym (nat_list_cmp_total.antisymm b a)) ∙ down))

abbrev shown : Bor Text → Text
shown b = b.now

-- where neighbours differ, all texts do: what is the same as a later text is the same as what stands between them
pub sorted_apart : (list : List (Bor Text)) → IsSorted text_order list → ((k : ℕ) (d : Bor Text) → k + 1 < length list → (get_or list k d).now ≢ (get_or list (k + 1) d).now) → Apart (shown_texts list)
sorted_apart [] rises near i j d below within same = absurd (omega (arith, within))
sorted_apart (b ∷ list) rises near i j d below within same =
    let all : List (Bor Text) = b ∷ list in
    let high : j < length all = omega (arith, within, length-map all shown) in
    let at : ℕ → Text = λ k. (get_or all k b).now in
    let alike : at i ≡ at j = sym (get_or-map shown all i b d (omega (arith, high, below))) ∙ same ∙ get_or-map shown all j b d high in
    let far = sorted_far (λ x y. is_lt (text_order x y)) (ranks_by nat_list_cmp_total shown) all rises in
    let up = ap (λ t. is_lt (slice_cmp nat_cmp t (at (i + 1)))) alike ∙ far (i + 1) j b (omega (arith, below)) high in
    near i b (omega (arith, below, high)) (neither (at i) (at (i + 1)) up (far i (i + 1) b (omega arith) (omega (arith, below, high))))

-- neighbours that are the same
pub twins : (list : List (Bor Text)) (k : ℕ) (d : Bor Text) → k + 1 < length list → (get_or list k d).now ≡ (get_or list (k + 1) d).now → Apart (shown_texts list) → ⊥
twins list k d low same apart =
    apart k (k + 1) d.now (omega arith) (omega (arith, low, length-map list shown))
    (get_or-map shown list k d d.now (omega (arith, low)) ∙ same ∙ sym (get_or-map shown list (k + 1) d d.now low))

any_default : (list : List (Bor Text)) (k : ℕ) (d e : Bor Text) → k < length list → get_or list k d ≡ get_or list k e
any_default [] k d e low = absurd (omega (arith, low))
any_default (b ∷ list) zero d e low = refl
any_default (b ∷ list) (suc k) d e low = any_default list k d e (omega (arith, low))

module _ (list : List (Bor Text)) (at : ℕ) (first : 1 ≤ at) (low : at < length list) (d e : Bor Text) (is : Bool) (tells : is ≡ bytes_eq (get_or list (at - 1) d).now (get_or list at e).now) where
  -- a text and the one before it are the same
  pub twins_here : is ≡ true → Apart (shown_texts list) → ⊥
  twins_here equal apart =
      let next : at ≡ at - 1 + 1 = omega (arith, first) in
      let same = (bytes_eq-Decides (get_or list (at - 1) d).now (get_or list at e).now).0 (sym tells ∙ equal) in
      let there = any_default list at e d low ∙ ap (λ k. get_or list k d) next in
      twins list (at - 1) d (omega (arith, first, low)) (same ∙ ap shown there) apart

  -- a text differs from the one before it, as those before do
  pub differs_here : is ≡ false → ((k : ℕ) (b : Bor Text) → k + 1 < at → (get_or list k b).now ≢ (get_or list (k + 1) b).now)
      → (k : ℕ) (b : Bor Text) → k + 1 < at + 1 → (get_or list k b).now ≢ (get_or list (k + 1) b).now
  differs_here unequal before k b below same = elim (cases_lt (k + 1) at) [
    | inl lt ↦ before k b lt same
    | inr ge ↦
        let next : k + 1 ≡ at = omega (arith, below, ge) in
        let here : k ≡ at - 1 = omega (arith, below, ge) in
        let one = any_default list (at - 1) d b (omega (arith, low)) ∙ ap (λ n. get_or list n b) (sym here) in
        let two = any_default list at e b low ∙ ap (λ n. get_or list n b) (sym next) in
        true≢false (sym ((bytes_eq-Decides (get_or list (at - 1) d).now (get_or list at e).now).1 (ap shown one ∙ same ∙ sym (ap shown two))) ∙ sym tells ∙ unequal)
  ]
