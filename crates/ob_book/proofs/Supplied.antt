-- The supply at a second: sections and devices one by one.
use Rattle.std.proofs.Common.{◌≡◌, ◌∙◌, sym, ap, refl, arith, ℕ, zero, suc, ◌+◌, ◌<◌, ◌≤◌, ◌&&◌, ◌++◌, Bool, true, false, cond, List, [], ◌∷◌, map, length, take, nat_le, nat_lt, Option, Some, None, is_some, unwrap_or}
use Rattle.std.specs.List.{All, enumerate_from, find, prefix_len, slice_get, slice_index_or}
use Rattle.std.specs.Option.{option_map, option_map_or}
use Rattle.std.proofs.lemmas.List.{take_more}
use Rattle.std.proofs.lemmas.Option.{get_or_from_slice_get, slice_get-map, slice_get_within}
use Rattle.ob_base.specs.Life.{is_alive}
use Rattle.ob_base.specs.declared.Pos.{Pos}
use Rattle.ob_base.specs.declared.life.Life.{Life}
use Rattle.ob_net.specs.Network.{home_feeder}
use Rattle.ob_net.specs.declared.net.Device.{Device}
use Rattle.ob_net.specs.declared.net.Node.{Node}
use Rattle.ob_sheet.specs.declared.Entry.{Entry}
use Rattle.ob_sheet.specs.Order.{in_order, upto}
use Rattle.ob_sheet.specs.Positions.{entered, position_of}
use Rattle.ob_sheet.specs.Sheet.{AreNumbered}
use Rattle.ob_sheet.proofs.Ordered.{length-upto}
use Rattle.ob_sweep.specs.Timeline.{runs_at}
use Rattle.ob_sweep.specs.declared.Run.{Run}
use Rattle.ob_post.specs.SectionAmounts.{run_cause}
use Rattle.ob_json.specs.declared.supply.DeviceState.{DeviceState}
use Rattle.ob_json.specs.declared.supply.UnsuppliedSection.{UnsuppliedSection}
use Rattle.ob_state.specs.Retimings.{runs_in}
use Rattle.ob_state.specs.State.{BookState}
use Rattle.ob_state.specs.States.{AreRunsOf}
use Rattle.ob_book.specs.Forecasts.{interval_in, name_of_node}
use Rattle.ob_book.specs.Supplies.{customers_at, device_state, holds, unsupplied}

same_value : {X : Type 0} (x y : X) → Some x ≡ Some y → x ≡ y
same_value x y e = ap (λ (o : Option _). unwrap_or o x) e

-- ---- sections
either : {X Y : Type 0} (f : X → Y) (x : X) (b : Bool) (o : Option Y) (q : Option X) → o ≡ option_map f q → cond b (Some (f x)) o ≡ option_map f (cond b (Some x) q)
either f x true o q e = refl
either f x false o q e = e

find_of_map : {X Y : Type 0} (p : Y → Bool) (f : X → Y) (xs : List X) → find p (map f xs) ≡ option_map f (find (λ x. p (f x)) xs)
find_of_map p f [] = refl
find_of_map p f (x ∷ xs) = either f x (p (f x)) (find p (map f xs)) (find (λ y. p (f y)) xs) (find_of_map p f xs)

map_twice : {X Y Z : Type 0} (g : Y → Z) (f : X → Y) (o : Option X) → option_map g (option_map f o) ≡ option_map (λ x. g (f x)) o
map_twice g f None = refl
map_twice g f (Some x) = refl

-- the run holds the second
abbrev pub run_holds : ℕ → Run → Bool
run_holds s r = nat_le r.since s && nat_lt s r.until

-- a section with these parts of its run
abbrev section_of : List ℕ → Run → ℕ → ℕ → UnsuppliedSection
section_of name r cause customers = record { section = name; since = r.since; until = r.until; entry = r.cutter; cause = cause; customers = customers }

abbrev section_in : BookState → ℕ → ℕ → Run → UnsuppliedSection
section_in b s v r = section_of (name_of_node b v) r (run_cause b.entries r) (customers_at b v s)

-- by the run of the second
by_run : (b : BookState) (lists : List (List Run)) (s v : ℕ) → AreRunsOf b lists → is_some (home_feeder b.network v) ≡ true
    → unsupplied b s v ≡ option_map (section_in b s v) (find (run_holds s) (runs_at lists v))
by_run b lists s v are section =
    rw section
    (ap (option_map _) (find_of_map (holds s) (interval_in b) (runs_in b v))
    ∙ map_twice _ (interval_in b) (find (run_holds s) (runs_in b v))
    ∙ ap (λ (rs : List Run). option_map (section_in b s v) (find (run_holds s) rs)) (sym (are.defined v section)))

name_from : (nodes : Option Node) (name : List ℕ) → option_map (λ n. n.name) nodes ≡ Some name → name ≡ option_map_or (λ n. n.name) nodes []
name_from None name e = cc
name_from (Some n) name e = sym (same_value n.name name e)

-- the name of a node of the network
pub node_name_is : (b : BookState) (v : ℕ) (name : List ℕ) → slice_get (map (λ n. n.name) b.network.nodes) v ≡ Some name → name ≡ name_of_node b v
node_name_is b v name e = name_from (slice_get b.network.nodes v) name (sym (slice_get-map (λ n. n.name) b.network.nodes v) ∙ e)

-- a section that some run of its holds the second
pub section_is : (b : BookState) (lists : List (List Run)) (s v : ℕ) (r : Run) (name : List ℕ) (cause customers : ℕ) → AreRunsOf b lists → is_some (home_feeder b.network v) ≡ true
    → find (run_holds s) (runs_at lists v) ≡ Some r → name ≡ name_of_node b v → cause ≡ run_cause b.entries r → customers ≡ customers_at b v s
    → Some (section_of name r cause customers) ≡ unsupplied b s v
section_is b lists s v r name cause customers are section found is_name is_cause is_customers =
    ap (λ (n : List ℕ). Some (section_of n r cause customers)) is_name
    ∙ ap (λ (k : ℕ). Some (section_of (name_of_node b v) r k customers)) is_cause
    ∙ ap (λ (k : ℕ). Some (section_of (name_of_node b v) r (run_cause b.entries r) k)) is_customers
    ∙ sym (by_run b lists s v are section ∙ ap (option_map (section_in b s v)) found)

-- a section that no run of its holds the second
pub supplied_is : (b : BookState) (lists : List (List Run)) (s v : ℕ) → AreRunsOf b lists → is_some (home_feeder b.network v) ≡ true → find (run_holds s) (runs_at lists v) ≡ None → None ≡ unsupplied b s v
supplied_is b lists s v are section none = sym (by_run b lists s v are section ∙ ap (option_map (section_in b s v)) none)

-- a bus
pub bus_is : (b : BookState) (s v : ℕ) → is_some (home_feeder b.network v) ≡ false → None ≡ unsupplied b s v
bus_is b s v bus = rw bus refl

-- ---- devices
abbrev state_under : List Entry → ℕ → (ℕ × Device) → DeviceState
state_under set s d = record { device = d.1.name; position = position_of set d.0 d.1; alive = is_alive d.1.life s }

abbrev state_of : List ℕ → Pos → Bool → DeviceState
state_of name pos alive = record { device = name; position = pos; alive = alive }

device_from : (set : List Entry) (s n k : ℕ) (ds : List Device) (name : List ℕ) (life : Life) (pos : Pos)
    → slice_get (map (λ d. d.name) ds) k ≡ Some name → slice_get (map (λ d. d.life) ds) k ≡ Some life
    → pos ≡ slice_index_or (map (λ d. position_of set d.0 d.1) (enumerate_from n ds)) k pos
    → slice_get (map (state_under set s) (enumerate_from n ds)) k ≡ Some (state_of name pos (is_alive life s))
device_from set s n k [] name life pos is_name is_life is_pos = cc
device_from set s n zero (d ∷ ds) name life pos is_name is_life is_pos =
    ap (λ (x : List ℕ). Some (state_of x (position_of set n d) (is_alive d.life s))) (same_value d.name name is_name)
    ∙ ap (λ (p : Pos). Some (state_of name p (is_alive d.life s))) (sym is_pos)
    ∙ ap (λ (l : Life). Some (state_of name pos (is_alive l s))) (same_value d.life life is_life)
device_from set s n (suc k) (d ∷ ds) name life pos is_name is_life is_pos = device_from set s (n + 1) k ds name life pos is_name is_life is_pos

-- a device at a second
pub device_is : (b : BookState) (s k : ℕ) (positions : List Pos) (name : List ℕ) (life : Life) (pos : Pos) (alive : Bool) → positions ≡ entered b.network (upto b.entries s)
    → slice_get (map (λ d. d.name) b.network.devices) k ≡ Some name → slice_get (map (λ d. d.life) b.network.devices) k ≡ Some life
    → pos ≡ slice_index_or positions k pos → alive ≡ is_alive life s
    → slice_get (map (device_state b s) (enumerate_from 0 b.network.devices)) k ≡ Some (state_of name pos alive)
device_is b s k positions name life pos alive are is_name is_life is_pos is =
    device_from (upto b.entries s) s 0 k b.network.devices name life pos is_name is_life (is_pos ∙ ap (λ (ps : List Pos). slice_index_or ps k pos) are)
    ∙ ap (λ (t : Bool). Some (state_of name pos t)) (sym is)

-- one more of a list
pub next_of : {X : Type 0} (all so_far : List X) (k : ℕ) (x : X) → so_far ≡ take k all → slice_get all k ≡ Some x → so_far ++ x ∷ [] ≡ take (k + 1) all
next_of all so_far k x before at =
    ap (λ xs. xs ++ x ∷ []) before
    ∙ ap (λ y. take k all ++ y ∷ []) (sym (get_or_from_slice_get all k x x at))
    ∙ sym (take_more all k x (slice_get_within all k x at))

-- ---- entries before a second
passes : (a s : ℕ) → a < s → nat_le a s ≡ true
passes a s l = grind arith

reaches : (s n : ℕ) (es : List Entry) → n ≤ length es → All (λ e. e.second < s) (take n es) → n ≤ prefix_len (λ e. nat_le e.second s) es
reaches s zero es within early = omega arith
reaches s (suc n) [] within early = omega (arith, within)
reaches s (suc n) (e ∷ es) within early =
    rw (passes e.second s (early 0 e (omega arith)))
    (let rest = reaches s n es (omega (arith, within)) (λ k d l. early (suc k) d (omega (arith, l))) in omega (arith, rest))

-- there are no more of them than up to and at it
pub earlier_within : (entries : List Entry) (s place : ℕ) → AreNumbered entries → place ≤ length (in_order entries) → All (λ e. e.second < s) (take place (in_order entries)) → place ≤ length (upto entries s)
earlier_within entries s place numbered within early =
    let all = reaches s place (in_order entries) within early in
    let same = length-upto entries s numbered in
    omega (arith, all, same)
