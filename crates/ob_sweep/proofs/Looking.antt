-- The supply and the last cutter of each of some nodes, as entries act one after another.
use Rattle.std.proofs.Common.{◌≡◌, ◌&&◌, ◌<◌, ℕ, Bool, true, false, not, cond, List, [], ◌∷◌, ◌++◌, Option, None, Some, refl, sym, ◌∙◌, ap, arith, length, get_or, map}
use Rattle.std.specs.Option.{option_or}
use Rattle.std.proofs.lemmas.List.{get_or-map}
use Rattle.ob_base.specs.declared.Pos.{Pos}
use Rattle.ob_net.specs.Network.{Network}
use Rattle.ob_net.specs.Walk.{is_supplied}
use Rattle.ob_sheet.specs.declared.Entry.{Entry}
use Rattle.ob_sweep.specs.Acting.{moved, moved_all, steps_from}
use Rattle.ob_sweep.specs.CutOffs.{AreLooked}
use Rattle.ob_sweep.specs.Moments.{last_cut}
use Rattle.ob_sweep.proofs.Collecting.{moved_more}

first_or : (b : Bool) (n : ℕ) (o c : Option ℕ) → option_or (cond b (Some n) o) c ≡ cond b (Some n) (option_or o c)
first_or true n o c = refl
first_or false n o c = refl

-- one more entry
pub cut_more : (lit : List Pos → Bool) (net : Network) (t : ℕ) (ps : List Pos) (es : List Entry) (e : Entry)
    → last_cut lit ps (steps_from net t ps (es ++ e ∷ []))
    ≡ cond (lit (moved_all net t ps es) && not (lit (moved net t (moved_all net t ps es) e))) (Some e.«no») (last_cut lit ps (steps_from net t ps es))
cut_more lit net t ps [] e = refl
cut_more lit net t ps (x ∷ es) e =
    let next : List Pos = moved net t ps x in
    let here : Option ℕ = cond (lit ps && not (lit next)) (Some x.«no») None in
    ap (λ o. option_or o here) (cut_more lit net t next es e)
    ∙ first_or (lit (moved_all net t next es) && not (lit (moved net t (moved_all net t next es) e))) e.«no» (last_cut lit next (steps_from net t next es)) here

pub looked_first : (net : Network) (t : ℕ) (ps : List Pos) (nodes : List ℕ) (supplied : List Bool) (cutters : List (Option ℕ)) → supplied ≡ map (is_supplied net ps) nodes
    → length cutters ≡ length nodes → ((k : ℕ) (d : Option ℕ) → k < length nodes → get_or cutters k d ≡ None) → AreLooked net t ps [] nodes supplied cutters
looked_first net t ps nodes supplied cutters is count none = record { supplied_now = is; count = count; last = none }

pub looked_more : (net : Network) (t : ℕ) (ps qs : List Pos) (es : List Entry) (e : Entry) (nodes : List ℕ) (supplied next : List Bool) (cutters more : List (Option ℕ))
    → AreLooked net t ps es nodes supplied cutters → qs ≡ moved net t (moved_all net t ps es) e → next ≡ map (is_supplied net qs) nodes → length more ≡ length cutters
    → ((k : ℕ) (d : Option ℕ) → k < length cutters → get_or more k d ≡ cond (get_or supplied k false && not (get_or next k false)) (Some e.«no») (get_or cutters k d))
    → AreLooked net t ps (es ++ e ∷ []) nodes next more
looked_more net t ps qs es e nodes supplied next cutters more h there is count by =
    let now : List Pos = moved_all net t ps es in
    let later : List Pos = moved net t now e in
    let all : moved_all net t ps (es ++ e ∷ []) ≡ later = moved_more net t ps es e in
    let is_later : next ≡ map (is_supplied net later) nodes = is ∙ ap (λ (rs : List Pos). map (is_supplied net rs) nodes) there in
    record {
      supplied_now = is_later ∙ ap (λ (rs : List Pos). map (is_supplied net rs) nodes) (sym all);
      count = count ∙ h.count;
      last = λ k d l.
          let v : ℕ = get_or nodes k 0 in
          let lit : List Pos → Bool = λ rs. is_supplied net rs v in
          let was : get_or supplied k false ≡ lit now = ap (λ bs. get_or bs k false) h.supplied_now ∙ get_or-map (is_supplied net now) nodes k 0 false l in
          let is_now : get_or next k false ≡ lit later = ap (λ bs. get_or bs k false) is_later ∙ get_or-map (is_supplied net later) nodes k 0 false l in
          by k d (omega (arith, l, h.count))
          ∙ ap (λ b. cond (b && not (get_or next k false)) (Some e.«no») (get_or cutters k d)) was
          ∙ ap (λ b. cond (lit now && not b) (Some e.«no») (get_or cutters k d)) is_now
          ∙ ap (cond (lit now && not (lit later)) (Some e.«no»)) (h.last k d l)
          ∙ sym (cut_more lit net t ps es e);
    }
