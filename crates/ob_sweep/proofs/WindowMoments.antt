-- The seconds of a window's entries, from three parts of them: those before a second, its own and those after it.
use Rattle.std.proofs.Common.{◌≡◌, ◌==◌, nat_lt, ℕ, ◌<◌, Bool, true, false, List, [], ◌∷◌, ◌++◌, refl, sym, ◌∙◌, ap, arith, take, drop}
use Rattle.std.specs.List.{All, filter}
use Rattle.std.proofs.lemmas.Bool.{cond-false, cond-true, eq-eqb, le-ltb, lt-ltb, ne_eqb}
use Rattle.std.proofs.lemmas.List.{append-nil, take-append-drop}
use Rattle.std.proofs.lemmas.List.Elements.{All-head, All-tail, All-weaker, filter-append}
use Rattle.ob_base.specs.declared.Pos.{Pos}
use Rattle.ob_net.specs.Network.{Network}
use Rattle.ob_sheet.specs.declared.Entry.{Entry}
use Rattle.ob_sweep.specs.Acting.{moment_at, moment_of, moved_all}
use Rattle.ob_sweep.proofs.Acted.{earlier_ones, its_own}

keeps_none : (p : Entry → Bool) (es : List Entry) → All (λ e. p e ≡ false) es → filter p es ≡ []
keeps_none p [] h = refl
keeps_none p (e ∷ es) h =
    cond-false (p e) (e ∷ filter p es) (filter p es) (All-head (λ f. p f ≡ false) e es h) ∙ keeps_none p es (All-tail (λ f. p f ≡ false) e es h)

keeps_all : (p : Entry → Bool) (es : List Entry) → All (λ e. p e ≡ true) es → filter p es ≡ es
keeps_all p [] h = refl
keeps_all p (e ∷ es) h =
    cond-true (p e) (e ∷ filter p es) (filter p es) (All-head (λ f. p f ≡ true) e es h) ∙ ap (λ q. e ∷ q) (keeps_all p es (All-tail (λ f. p f ≡ true) e es h))

-- what a test keeps of three parts
keeps_of : (p : Entry → Bool) (xs ys zs ks bs cs : List Entry) → filter p xs ≡ ks → filter p ys ≡ bs → filter p zs ≡ cs → filter p (xs ++ (ys ++ zs)) ≡ ks ++ (bs ++ cs)
keeps_of p xs ys zs ks bs cs a b c =
    filter-append p xs (ys ++ zs)
    ∙ ap (λ q. filter p xs ++ q) (filter-append p ys zs)
    ∙ ap (λ q. q ++ (filter p ys ++ filter p zs)) a
    ∙ ap (λ q. ks ++ (q ++ filter p zs)) b
    ∙ ap (λ q. ks ++ (bs ++ q)) c

module _ (s : ℕ) (xs ys zs : List Entry) (before : All (λ e. e.second < s) xs) (own : All (λ e. e.second ≡ s) ys) (behind : All (λ e. s < e.second) zs) where
  earlier_part : earlier_ones s (xs ++ (ys ++ zs)) ≡ xs
  earlier_part =
      let p : Entry → Bool = λ e. nat_lt e.second s in
      keeps_of p xs ys zs xs [] []
      (keeps_all p xs (All-weaker (λ (e : Entry). e.second < s) (λ e. p e ≡ true) (λ e l. lt-ltb e.second s l) xs before))
      (keeps_none p ys (All-weaker (λ (e : Entry). e.second ≡ s) (λ e. p e ≡ false) (λ e l. le-ltb e.second s (omega (arith, l))) ys own))
      (keeps_none p zs (All-weaker (λ (e : Entry). s < e.second) (λ e. p e ≡ false) (λ e l. le-ltb e.second s (omega (arith, l))) zs behind))
      ∙ append-nil xs

  own_part : its_own s (xs ++ (ys ++ zs)) ≡ ys
  own_part =
      let p : Entry → Bool = λ e. e.second == s in
      keeps_of p xs ys zs [] ys []
      (keeps_none p xs (All-weaker (λ (e : Entry). e.second < s) (λ e. p e ≡ false) (λ e l. ne_eqb e.second s (λ q. absurd (omega (arith, l, q)))) xs before))
      (keeps_all p ys (All-weaker (λ (e : Entry). e.second ≡ s) (λ e. p e ≡ true) (λ e l. eq-eqb e.second s l) ys own))
      (keeps_none p zs (All-weaker (λ (e : Entry). s < e.second) (λ e. p e ≡ false) (λ e l. ne_eqb e.second s (λ q. absurd (omega (arith, l, q)))) zs behind))
      ∙ append-nil ys

  -- the second is that of its own entries, with the positions after the earlier ones
  pub moment_of_parts : (net : Network) (t : ℕ) (positions : List Pos) (entries : List Entry) → entries ≡ xs ++ (ys ++ zs)
      → moment_at net t positions entries s ≡ moment_of net t (moved_all net t positions xs) ys
  moment_of_parts net t positions entries are =
      ap (λ (es : List Entry). moment_at net t positions es s) are
      ∙ ap (λ (es : List Entry). moment_of net t (moved_all net t positions es) (its_own s (xs ++ (ys ++ zs)))) earlier_part
      ∙ ap (λ (es : List Entry). moment_of net t (moved_all net t positions xs) es) own_part

-- a second without entries
pub moment_of_none : (net : Network) (t : ℕ) (positions : List Pos) (entries : List Entry) (place s : ℕ) → All (λ e. e.second < s) (take place entries)
    → All (λ e. s < e.second) (drop place entries) → moment_at net t positions entries s ≡ moment_of net t (moved_all net t positions (take place entries)) []
moment_of_none net t positions entries place s before behind =
    moment_of_parts s (take place entries) [] (drop place entries) before (λ k d l. absurd (omega (arith, l))) behind net t positions entries (sym (take-append-drop place entries))
