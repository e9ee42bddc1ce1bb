-- The book that the commands in the tables lead to.
use Rattle.std.proofs.Common.{◌≡◌, inl, inr, ℕ, Bool, false, List, [], ◌∷◌, map, Option, Some, None, refl, sym, ap, ap₂, subst, ◌∙◌, arith, IsTrue}
use Rattle.std.specs.Prelude.{◌↔◌, IsSome}
use Rattle.std.proofs.Common.{true≢false}
use Rattle.std.proofs.Common.{pos, ◌+ℤ◌}
use Rattle.std.proofs.lemmas.Int.{ints}
use Rattle.ob_time.specs.Moment.{IsTextOfDay}
use Rattle.std.specs.List.Sorted.{IsPermutation}
use Rattle.std.proofs.lemmas.List.Sorted.{IsPermutation-refl, IsPermutation-sym, IsPermutation-trans}
use Rattle.sqlite.specs.Tree.{Trees}
use Rattle.sqlite.proofs.Callers.{one_permutation}
use Rattle.ob_base.specs.declared.stop.Refusal.{Refusal}
use Rattle.ob_base.specs.declared.stop.Refusal.TheVariants.{BadPeriod}
use Rattle.ob_base.specs.declared.stop.Stop.{Stop}
use Rattle.ob_base.specs.declared.stop.Stop.TheVariants.{Refused, Fault}
use Rattle.ob_base.specs.Stop.{IsRefusedOrNoMemory}
use Rattle.ob_time.specs.Calendar.{Calendar, day_count}
use Rattle.ob_time.specs.Dates.{day_text}
use Rattle.ob_time.specs.Period.{IsPeriodText}
use Rattle.ob_state.specs.State.{BookState, empty_book}
use Rattle.ob_state.specs.Next.{next_all}
use Rattle.ob_book.specs.Acts.{ActState, Referenced}
use Rattle.ob_sql_rows.specs.Rows.{Columns, shown, tree_of}
use Rattle.ob_sql_rows.specs.declared.table.Table.TheVariants.{Meta, Command, Moved}
use Rattle.ob_sql_rows.specs.declared.version.Version.{Version}
use Rattle.ob_sql_rows.specs.declared.version.Version.TheVariants.{Two}
use Rattle.ob_record.specs.Tables.{Shows, moved_rows}
use Rattle.ob_sql_read.specs.Reading.{heading_row}
use Rattle.sqlite_value.specs.declared.value.Value.{Value}
use Rattle.ob_sql_read.specs.Listing.{filed_of}
use Rattle.ob_sql_read.specs.Moves.{HasMoved, commands_of}
use Rattle.ob_sql_read.specs.declared.filed.Filed.{Filed}
use Rattle.ob_sql_read.specs.Distinct.{AreDistinct}
use Rattle.ob_sql_read.specs.Versioned.{next_all_in}
use Rattle.ob_sql_read.specs.declared.heading.Heading.{Heading}
use Rattle.ob_store.specs.declared.named.Named.{Named}
use Rattle.ob_store.specs.Books.{IsReachedIn, tables_in}
use Rattle.ob_store.specs.Finding.{HasNoBook, HasNoBookIn, IsBookIn, IsNamed}
use Rattle.ob_store.specs.Leading.{HasNoPeriodOf, IsLedBy, IsLedIn, IsNewBook, LeadsNowhere, MovesAre}
use Rattle.ob_store.specs.Laws.{Laws}
use Rattle.ob_store.proofs.Laws.{dated_in, rows_are}

abbrev made : BookState → List Referenced → ActState
made s list = record { book = s; accepted = list }

not_both : {X : Type 0} (o : Option X) (x : X) → o ≡ Some x → o ≡ None → ⊥
not_both o x some none = absurd (let e : Some x ≡ None = sym some ∙ none in cc)

module _ (v : Version) (laws : Laws v) (trees : Trees) (it : Named) (named : IsNamed v trees it) (b : ActState) (of : IsBookIn v trees b) where
  abbrev list : List Referenced
  list = filed_of it.commands.items

  -- a book of the tables has the commands that were read
  pub commands_are : b.accepted ≡ list
  commands_are = laws.ordered (map (shown Command) (trees (tree_of Command))) b.accepted list of.valid named.valid of.commands named.commands

  row_is : heading_row named.heading.0 named.heading.1 it.heading.first_day.items it.heading.days it.heading.zone.items ≡ heading_row of.period.0 of.period.1 (day_text b.book.period.first_day) (day_count b.book.period) b.book.period.zone
  row_is =
      let rows : heading_row named.heading.0 named.heading.1 it.heading.first_day.items it.heading.days it.heading.zone.items ∷ [] ≡ heading_row of.period.0 of.period.1 (day_text b.book.period.first_day) (day_count b.book.period) b.book.period.zone ∷ [] =
      one_permutation _ _ (IsPermutation-trans _ _ _ (IsPermutation-sym _ _ of.period.2) named.heading.2) in
      cc

  -- and the period that the heading names
  pub period_is : IsPeriodText it.heading.first_day.items it.heading.days it.heading.zone.items b.book.period
  period_is =
      let row = row_is in
      let f : day_text b.book.period.first_day ≡ it.heading.first_day.items = cc in
      let n : day_count b.book.period ≡ it.heading.days = cc in
      let z : b.book.period.zone ≡ it.heading.zone.items = cc in
      subst (λ y. IsPeriodText it.heading.first_day.items it.heading.days y b.book.period) z
      (subst (λ k. IsPeriodText it.heading.first_day.items k b.book.period.zone b.book.period) n
      (subst (λ t. IsPeriodText t (day_count b.book.period) b.book.period.zone b.book.period) f (dated_in v b of.reached)))

  -- no reference stands twice
  pub distinct_is : AreDistinct list
  distinct_is = subst AreDistinct commands_are (laws.accepted b of.reached).0

  -- from a new book of the heading's period
  pub from_is : (first : BookState) → IsNewBook it.heading first → first ≡ empty_book b.book.period
  from_is first new = new.new ∙ ap empty_book (sym (new.only b.book.period period_is))

  -- the commands lead to it
  pub led_is : (first : BookState) → IsNewBook it.heading first → next_all_in v first (commands_of list) ≡ Some b.book
  led_is first new = ap₂ (λ x l. next_all_in v x (commands_of l)) (from_is first new) (sym commands_are) ∙ (laws.accepted b of.reached).1

  -- and what they moved is what its table has
  pub moved_is : (first : BookState) → IsNewBook it.heading first → moved_rows first 1 list ≡ tables_in v b Moved
  moved_is first new = ap₂ (λ x l. moved_rows x 1 l) (from_is first new) (sym commands_are) ∙ laws.moved b of.reached

-- the tables are those of no book
module _ (v : Version) (laws : Laws v) (trees : Trees) (it : Named) (named : IsNamed v trees it) where
  pub twice : ¬ (AreDistinct (filed_of it.commands.items)) → HasNoBookIn v trees
  twice not_so b of = not_so (distinct_is v laws trees it named b of)

  pub no_period : HasNoPeriodOf it.heading → HasNoBookIn v trees
  no_period none b of = none b.book.period (period_is v laws trees it named b of)

pub nowhere : Laws Two → (trees : Trees) (it : Named) → IsNamed Two trees it → LeadsNowhere it → HasNoBook trees
nowhere laws trees it named (inl none) b of = no_period Two laws trees it named none b of
nowhere laws trees it named (inr at) b of = not_both (next_all at.0 (commands_of (filed_of it.commands.items))) b.book (led_is Two laws trees it named b of at.0 at.1) at.2

-- the commands lead to the book of the tables
module _ (v : Version) (laws : Laws v) (trees : Trees) (it : Named) (named : IsNamed v trees it) (distinct : AreDistinct (filed_of it.commands.items)) (s : BookState) (by : IsLedBy v it s) where
  abbrev book_of : ActState
  book_of = record { book = s; accepted = filed_of it.commands.items }

  from_first : next_all_in v (empty_book by.first.period) (commands_of (filed_of it.commands.items)) ≡ Some s
  from_first = ap (λ (x : BookState). next_all_in v x (commands_of (filed_of it.commands.items))) (sym by.new.new) ∙ by.led

  period_of : s.period ≡ by.first.period
  period_of = laws.stays by.first.period (commands_of (filed_of it.commands.items)) s from_first

  from_start : next_all_in v (empty_book s.period) (commands_of (filed_of it.commands.items)) ≡ Some s
  from_start = ap (λ (p : Calendar). next_all_in v (empty_book p) (commands_of (filed_of it.commands.items))) period_of ∙ from_first

  is_reached : IsReachedIn v book_of
  is_reached = laws.reached by.first.period (filed_of it.commands.items) s period_of by.new.period distinct from_first

  row_of : (id version : Value) → heading_row id version it.heading.first_day.items it.heading.days it.heading.zone.items ≡ heading_row id version (day_text s.period.first_day) (day_count s.period) s.period.zone
  row_of id version =
      ap (λ f. heading_row id version f it.heading.days it.heading.zone.items) by.new.first_day
      ∙ ap₂ (λ n z. heading_row id version (day_text by.first.period.first_day) n z) by.new.days by.new.zone
      ∙ ap (λ (p : Calendar). heading_row id version (day_text p.first_day) (day_count p) p.zone) (sym period_of)

  is_book_of : IsBookIn v trees book_of
  is_book_of = record {
    reached = is_reached;
    valid = named.valid;
    few = laws.few book_of is_reached;
    period = (named.heading.0, named.heading.1, subst (λ (r : Columns). Shows trees Meta (r ∷ [])) (row_of named.heading.0 named.heading.1) named.heading.2);
    commands = named.commands;
  }

  only_it : (other : ActState) → IsBookIn v trees other → other ≡ book_of
  only_it other of =
      let p : other.book.period ≡ s.period = by.new.only other.book.period (period_is v laws trees it named other of) ∙ sym period_of in
      let a : other.accepted ≡ filed_of it.commands.items = commands_are v laws trees it named other of in
      let to : Some other.book ≡ Some s = sym (laws.accepted other of.reached).1 ∙ ap₂ (λ (q : Calendar) l. next_all_in v (empty_book q) (commands_of l)) p a ∙ from_start in
      let same : other.book ≡ s = cc in
      ap₂ made same a

  moves_are : (moved : Bool) → MovesAre v it trees moved → IsTrue moved ↔ Shows trees Moved (tables_in v book_of Moved)
  moves_are moved at =
      let rows = map (shown Moved) (trees (tree_of Moved)) in
      let here = at.2 rows (IsPermutation-refl rows) in
      let are = moved_is v laws trees it named book_of is_book_of at.0 at.1 in (
        λ so. let has = here.0 so in subst (IsPermutation rows) are has.2,
        λ shows. here.1 (s, led_is v laws trees it named book_of is_book_of at.0 at.1, subst (IsPermutation rows) (sym are) shows),
      )

  pub is_led : (counted : Bool) → counted ≡ it.counted → (moved : Bool) → MovesAre v it trees moved → IsLedIn v trees s counted moved
  is_led counted counted_is moved are = record {
    book = book_of;
    is_book = is_book_of;
    only = only_it;
    state = refl;
    counts = subst (λ c. IsTrue c ↔ Shows trees Command (tables_in v book_of Command)) (sym counted_is) (subst (λ rows. IsTrue it.counted ↔ Shows trees Command rows) (rows_are v book_of) named.counts);
    moves = moves_are moved are;
  }

-- a new book of the heading's texts
module _ (h : Heading) (p : Calendar) (text : List ℕ) (of_text : IsPeriodText h.first_day.items h.days h.zone.items p) (text_is : text ≡ day_text p.first_day) (first_is : h.first_day.items ≡ text)
    (only : (c : Calendar) → IsPeriodText h.first_day.items h.days h.zone.items c → c ≡ p) where
  count_is : h.days ≡ day_count p
  count_is = omega (arith, of_text.period.midnights.count)

  own_text : IsPeriodText (day_text p.first_day) (day_count p) p.zone p
  own_text =
      subst (λ z. IsPeriodText (day_text p.first_day) (day_count p) z p) (sym of_text.zone_is)
      (subst (λ n. IsPeriodText (day_text p.first_day) n h.zone.items p) count_is
      (subst (λ f. IsPeriodText f h.days h.zone.items p) (first_is ∙ text_is) of_text))

  pub is_new : (b : BookState) → b ≡ empty_book p → IsNewBook h b
  is_new b is = subst (λ (x : BookState). IsNewBook h x) (sym is) (record { new = refl; period = own_text; first_day = first_is ∙ text_is; days = count_is; zone = sym of_text.zone_is; only = only })

module _ (h : Heading) (f z : List ℕ) (f_is : f ≡ h.first_day.items) (z_is : z ≡ h.zone.items) where
  of_heading : (p : Calendar) → IsPeriodText f h.days z p → IsPeriodText h.first_day.items h.days h.zone.items p
  of_heading p it = subst (λ y. IsPeriodText h.first_day.items h.days y p) z_is (subst (λ x. IsPeriodText x h.days z p) f_is it)

  of_texts : (p : Calendar) → IsPeriodText h.first_day.items h.days h.zone.items p → IsPeriodText f h.days z p
  of_texts p it = subst (λ y. IsPeriodText f h.days y p) (sym z_is) (subst (λ x. IsPeriodText x h.days h.zone.items p) (sym f_is) it)

  pub no_period_of : ((p : Calendar) → ¬ (IsPeriodText f h.days z p)) → HasNoPeriodOf h
  no_period_of none p it = none p (of_texts p it)

  pub new_of : (p : Calendar) (t : List ℕ) → IsPeriodText f h.days z p → ((q : Calendar) → IsPeriodText f h.days z q → q ≡ p) → t ≡ day_text (p.first_day +ℤ pos 0)
      → ((text : List ℕ) → IsTextOfDay text (p.first_day +ℤ pos 0) → text ≡ t) → (b : BookState) → b ≡ empty_book p → IsNewBook h b
  new_of p t it only value spelled b is =
      let of_text = of_heading p it in
      let at : p.first_day +ℤ pos 0 ≡ p.first_day = omega (arith, ints) in
      let dated : IsTextOfDay h.first_day.items (p.first_day +ℤ pos 0) = (of_text.date, sym of_text.period.first ∙ sym at, of_text.date_is) in
      is_new h p t of_text (value ∙ ap day_text at) (spelled h.first_day.items dated) (λ q other. only q (of_texts q other)) b is

-- a refusal of a period has one cause
pub bad_period : (stop : Stop) (r : Refusal) → stop ≡ Refused r → IsRefusedOrNoMemory BadPeriod stop → stop ≡ Refused BadPeriod
bad_period (Refused r) x at is = ap Refused is
bad_period (Fault f) x at is = absurd cc

-- a book that was led along commands of a version which were read from a list of these
module _ (v : Version) (it : Named) (first : BookState) (new : IsNewBook it.heading first) (list : List Filed) (list_is : list ≡ it.commands.items) where
  pub led_by : (s : BookState) → next_all_in v first (commands_of (filed_of list)) ≡ Some s → IsLedBy v it s
  led_by s led = record { first = first; new = new; led = ap (λ l. next_all_in v first (commands_of (filed_of l))) (sym list_is) ∙ led }

  -- what its moves were found to be
  pub moves_found : (trees : Trees) (found moved : Bool) → found ≡ moved → ((rows : List Columns) → Shows trees Moved rows → IsTrue found ↔ HasMoved v rows first (filed_of list)) → MovesAre v it trees moved
  moves_found trees found moved is so =
      (first, new, λ rows shows. subst (λ l. IsTrue moved ↔ HasMoved v rows first (filed_of l)) list_is (subst (λ m. IsTrue m ↔ HasMoved v rows first (filed_of list)) is (so rows shows)))

-- commands that aren't accepted in their turn lead nowhere
none_led : (o : Option BookState) → ¬ (IsSome o) → o ≡ None
none_led None not_so = refl
none_led (Some s) not_so = absurd (not_so refl)

pub stuck : (it : Named) (first : BookState) → IsNewBook it.heading first → (list : List Filed) → list ≡ it.commands.items → (is : Bool) → is ≡ false → IsTrue is ↔ IsSome (next_all first (commands_of (filed_of list))) → LeadsNowhere it
stuck it first new list list_is is off accepted =
    let so : ¬ (IsSome (next_all first (commands_of (filed_of list)))) = λ some. true≢false (sym (accepted.1 some) ∙ off) in
    inr (first, new, ap (λ l. next_all first (commands_of (filed_of l))) (sym list_is) ∙ none_led (next_all first (commands_of (filed_of list))) so)
