-- Feeders and sections: each customer is of one.
use Rattle.std.proofs.Common.{◌≡◌, ◌∙◌, ap, refl, sym, subst, ℕ, ◌+◌, ◌<◌, ◌≤◌, ◌==◌, ◌&&◌, Bool, true, false, not, cond, List, [], length, slice_get, get_or, slice_index, nat_le, sum_by, count_by, decimal, is_some, Option, Some, None, IfSome, eq-eqb, arith}
use Rattle.std.specs.List.{All, filter, filter_map, range_with_len}
use Rattle.std.specs.Option.{IsSome, option_and_then, option_map, option_map_or}
use Rattle.std.proofs.lemmas.Bool.{ne_eqb, true≢false}
use Rattle.std.proofs.lemmas.Bool.Decides.{nat_tests}
use Rattle.std.proofs.lemmas.List.Folds.{list_any_at}
use Rattle.std.proofs.lemmas.List.FromFn.{length-range_with_len, get_or-range_with_len, get_or-map-range_with_len}
use Rattle.std.proofs.lemmas.Option.{get_or_from_slice_get, slice_get_within}
use Rattle.ob_base.specs.declared.interval.Interval.{Interval}
use Rattle.ob_net.specs.Network.{HasFeederOrNone, IsNetwork, Network, home_feeder}
use Rattle.ob_net.specs.declared.net.Node.{Node}
use Rattle.ob_cust.specs.declared.Customer.{Customer}
use Rattle.ob_index.specs.Interruptions.{duration, interruptions}
use Rattle.ob_index.specs.declared.figures.Which.{Which}
use Rattle.ob_index.specs.declared.figures.Which.TheVariants.{All as AllOfThem}
use Rattle.ob_state.specs.State.{BookState}
use Rattle.ob_book.specs.Forecasts.{name_of_node}
use Rattle.ob_book.specs.Views as views
use Rattle.ob_post.proofs.Sums.{sum_of_same}
use Rattle.ob_selections.specs.Listed.{Keyed, places_of, selection_at}
use Rattle.ob_selections.specs.Selections.{figures_of_selection, fits_feeder, has_section, interrupted_beyond, is_selected, lasts_longer, length_of_selection, selected, whole}
use Rattle.ob_selections.specs.SumLaws.{CustomersAddUp, FeedersAddUp, HaveSections, SectionsAddUp, among}
use Rattle.ob_selections.specs.declared.selection.By.{By}
use Rattle.ob_selections.specs.declared.selection.By.TheVariants.{Feeder, Section}
use Rattle.ob_selections.specs.declared.selection.Selection.{Selection}
use Rattle.ob_selections.proofs.Shares.{IsOneOf, found_hold, numbers_add_up, service_adds_up}

-- the value of an option that has one
some_of : {X : Type 0} (o : Option X) → IsSome o → (x : X) × (o ≡ Some x)
some_of None some = absurd (true≢false (sym some))
some_of (Some x) some = (x, refl)

-- the node of a section
node_of : (o : Option Node) → IsSome (option_and_then (λ n. n.feeder) o) → (n : Node) × (o ≡ Some n)
node_of None some = absurd (true≢false (sym some))
node_of (Some n) some = (n, refl)

known_small : (q : Option ℕ) (f : ℕ) → q ≡ Some f → IfSome q (λ feeder. (1 ≤ feeder) × (feeder ≤ 255)) → f ≤ 255
known_small q f is within = (subst (λ (r : Option ℕ). IfSome r (λ feeder. (1 ≤ feeder) × (feeder ≤ 255))) is within).1

small_feeder : (net : Network) (o : Option Node) (f : ℕ) → ((n : Node) → o ≡ Some n → HasFeederOrNone n) → option_and_then (λ n. n.feeder) o ≡ Some f → f ≤ 255
small_feeder net None f kept is = absurd (true≢false (sym (ap is_some is)))
small_feeder net (Some n) f kept is = known_small n.feeder f is (kept n refl)

feeder_small : (net : Network) (v f : ℕ) → IsNetwork net → home_feeder net v ≡ Some f → f ≤ 255
feeder_small net v f kept is =
    small_feeder net (slice_get net.nodes v) f
    (λ n at. subst (λ (m : Node). HasFeederOrNone m) (get_or_from_slice_get net.nodes v n n at) (kept.feeders v n (slice_get_within net.nodes v n at))) is

module _ (b : BookState) (which : Which) (longest : ℕ) where
  selected_when : (x : Selection) (c : Customer) → has_section b x c.section ≡ true → selected b x c ≡ filter (is_selected b x c.section) (interruptions b.network b.entries b.period c)
  selected_when x c has = rw has refl

  -- ---- what holds where each customer is in one selection
  module _ (by : By) (each : All (λ c. IsOneOf b which longest (selection_at b by longest) (places_of b by) c) b.customers)
      (same : (n : ℕ) → IfSome (selection_at b by longest n) (λ k. length_of_selection b (among which longest k) ≡ length_of_selection b (whole b which longest))) where
    abbrev reached : ℕ → List Interval → ℕ
    reached n is = cond (nat_le n (length (filter (lasts_longer longest) is))) 1 0

    none_reached : (n : ℕ) → reached (1 + n) [] ≡ 0
    none_reached n = let none : nat_le (1 + n) 0 ≡ false = grind (arith, nat_tests) in ap (λ (t : Bool). cond {A = ℕ} t 1 0) none

    reached_add_up : (n : ℕ) → sum_by (λ k. interrupted_beyond longest (selected b (among which longest k)) b.customers (1 + n)) (filter_map (selection_at b by longest) (range_with_len 0 (places_of b by)))
        ≡ interrupted_beyond longest (selected b (whole b which longest)) b.customers (1 + n)
    reached_add_up n = numbers_add_up b which longest (selection_at b by longest) (places_of b by) (reached (1 + n)) (none_reached n) each

    place_is : (x : Selection) (j : ℕ) → j < 10 → slice_index (figures_of_selection b x).counts.cn_n j ≡ interrupted_beyond x.longest (selected b x) b.customers (1 + j)
    place_is x j small = get_or-map-range_with_len (interrupted_beyond x.longest (selected b x) b.customers) 1 10 j (1 + j) 0 small (omega arith)

    customers : CustomersAddUp b by which longest
    customers = record {
      interruptions = record {
        sustained = numbers_add_up b which longest (selection_at b by longest) (places_of b by) (count_by (lasts_longer longest)) refl each;
        seconds = numbers_add_up b which longest (selection_at b by longest) (places_of b by) (λ is. sum_by duration (filter (lasts_longer longest) is)) refl each;
        momentary = numbers_add_up b which longest (selection_at b by longest) (places_of b by) (count_by (λ i. not (lasts_longer longest i))) refl each;
      };
      customers = reached_add_up 0;
      each = λ j small.
          sum_of_same (λ k. slice_index (figures_of_selection b (among which longest k)).counts.cn_n j) (λ k. interrupted_beyond longest (selected b (among which longest k)) b.customers (1 + j))
          (filter_map (selection_at b by longest) (range_with_len 0 (places_of b by))) (λ k. place_is (among which longest k) j small)
          ∙ reached_add_up j
          ∙ sym (place_is (whole b which longest) j small);
      served = service_adds_up b which longest (selection_at b by longest) (places_of b by) each;
      length = found_hold (λ k. length_of_selection b (among which longest k) ≡ length_of_selection b (whole b which longest)) (selection_at b by longest) (range_with_len 0 (places_of b by)) same;
    }

  -- ---- sections
  abbrev section_key : ℕ → Keyed
  section_key v = (name_of_node b v, record (whole b AllOfThem longest) { section = Some v })

  other_section : (o : Option ℕ) (j v : ℕ) → (j ≡ v → ⊥) → option_map_or (λ k. has_section b (among which longest k) v) (option_map (λ (feeder : ℕ). section_key j) o) false ≡ false
  other_section None j v apart = refl
  other_section (Some f) j v apart = ap (λ (t : Bool). t && true) (ne_eqb j v apart)

  section_once : (c : Customer) → IsSome (home_feeder b.network c.section) → IsOneOf b which longest (selection_at b Section longest) (places_of b Section) c
  section_once c some =
      let v = c.section in
      let home = some_of (home_feeder b.network v) some in
      let on = node_of (slice_get b.network.nodes v) some in
      let has : has_section b (among which longest (section_key v)) v ≡ true = ap (λ (t : Bool). t && true) (eq-eqb v v refl) in
      record {
        place = v;
        within = slice_get_within b.network.nodes v on.0 on.1;
        key = section_key v;
        found = ap (option_map (λ (feeder : ℕ). section_key v)) home.1;
        has = has;
        same = selected_when (among which longest (section_key v)) c has;
        days = refl;
        others = λ j l apart. other_section (home_feeder b.network j) j v apart;
      }

  section_length : (o : Option ℕ) (n : ℕ) → IfSome (option_map (λ (feeder : ℕ). section_key n) o) (λ k. length_of_selection b (among which longest k) ≡ length_of_selection b (whole b which longest))
  section_length None n = tt
  section_length (Some f) n = refl

  pub sections : HaveSections b → CustomersAddUp b Section which longest
  sections on = customers Section (λ i d l. section_once (get_or b.customers i d) (on i d l)) (λ n. section_length (home_feeder b.network n) n)

  -- ---- feeders
  abbrev feeder_key : ℕ → Keyed
  feeder_key f = (decimal f, record (whole b AllOfThem longest) { feeder = Some f })

  has_feeder : (v f : ℕ) → v < length b.network.nodes → home_feeder b.network v ≡ Some f → views.has_section b.network f ≡ true
  has_feeder v f within home =
      let ns = range_with_len 0 (length b.network.nodes) in
      let long = length-range_with_len 0 (length b.network.nodes) in
      let at = get_or-range_with_len 0 (length b.network.nodes) v 0 within in
      let test : ℕ → Bool = λ w. option_map_or (λ g. g == f) (home_feeder b.network w) false in
      let here : get_or ns v 0 ≡ v = omega (arith, at) in
      list_any_at test ns v 0 (omega (arith, long, within)) (ap test here ∙ ap (λ (o : Option ℕ). option_map_or (λ g. g == f) o false) home ∙ eq-eqb f f refl)

  other_feeder : (t : Bool) (j v f : ℕ) → home_feeder b.network v ≡ Some f → (j ≡ f → ⊥)
      → option_map_or (λ k. has_section b (among which longest k) v) (cond t (Some (feeder_key j)) None) false ≡ false
  other_feeder false j v f home apart = refl
  other_feeder true j v f home apart = ap (λ (o : Option ℕ). fits_feeder (Some j) o) home ∙ ne_eqb j f apart

  feeder_once : IsNetwork b.network → (c : Customer) → IsSome (home_feeder b.network c.section) → IsOneOf b which longest (selection_at b Feeder longest) (places_of b Feeder) c
  feeder_once kept c some =
      let v = c.section in
      let home = some_of (home_feeder b.network v) some in
      let on = node_of (slice_get b.network.nodes v) some in
      let f = home.0 in
      let small = feeder_small b.network v f kept home.1 in
      let has : has_section b (among which longest (feeder_key f)) v ≡ true = ap (λ (o : Option ℕ). fits_feeder (Some f) o) home.1 ∙ eq-eqb f f refl in
      record {
        place = f;
        within = omega (arith, small);
        key = feeder_key f;
        found = ap (λ (t : Bool). cond t (Some (feeder_key f)) None) (has_feeder v f (slice_get_within b.network.nodes v on.0 on.1) home.1);
        has = has;
        same = selected_when (among which longest (feeder_key f)) c has;
        days = refl;
        others = λ j l apart. other_feeder (views.has_section b.network j) j v f home.1 apart;
      }

  feeder_length : (t : Bool) (n : ℕ) → IfSome (cond t (Some (feeder_key n)) None) (λ k. length_of_selection b (among which longest k) ≡ length_of_selection b (whole b which longest))
  feeder_length false n = tt
  feeder_length true n = refl

  pub feeders : IsNetwork b.network → HaveSections b → CustomersAddUp b Feeder which longest
  feeders kept on = customers Feeder (λ i d l. feeder_once kept (get_or b.customers i d) (on i d l)) (λ n. feeder_length (views.has_section b.network n) n)

pub sections_add_up : SectionsAddUp
sections_add_up b which longest on = sections b which longest on

pub feeders_add_up : FeedersAddUp
feeders_add_up b which longest kept on = feeders b which longest kept on
