-- What is current, as the plan of a consumer sees it, is as the tables have it.
--
-- Item by item: whether it may be used and whether Vary matches, by head, request and moment, where kind and length
-- don't matter (`allowed_kind`). Then what is wanted, and the first hole in that (`hole_as`). Who is bound has some work:
-- the entry keeps the same ones as the tables, in ascending order, and all are bound in one way (`are_seen`). For who
-- writes alone is the only one. `seen_as` joins them for `decide`; ages stay in range (`age_small`).
use Rattle.std.{proofs.{Common.{◌≡◌, ℕ, ◌<◌, ◌≤◌, ◌^◌, List, [], ◌∷◌, Bool, true, false, min, Option, Some, None, refl, ap, sym, ◌∙◌, arith}, lemmas.Bool.Decides.{nat_tests}}, specs.{Prelude.{is_some, map, option_map, codes, ◌&&◌, if◌then◌else◌}, Option.{option_and_then, unwrap_or}, Str.Parse.{digits_value}, Char.{is_ascii_digit}, List.{list_all}}}
use Rattle.hc_text.proofs.Basics.{false_true, some_inj as some_is}
use Rattle.hc_effects.proofs.Vocabulary.{Limits, Request, RequestClass, least, lesser, class_of, range_of, wanted_of, Lawful, candidate, hole_of, bound, is_bound, is_written, Tables, Representation, exclusive}
use Rattle.hc_cachectl.specs.{Directives.{of_request, of_response}, Seconds.{plain_seconds, most_seconds}}
use Rattle.hc_fields.specs.FirstValues.{first_value}
use Rattle.hc_record.specs.{Head.{Head, sealed_head}, declared.{head.StoredHead.{StoredHead}, kind.Kind.{Kind, TheVariants.{the_data as kinds}}}, Plain.{plain}}
use Rattle.hc_range.specs.{declared.range.RangeSpec.{RangeSpec}, Spans.{IsInOrder}}
use Rattle.hc_sparse.specs.Cells.{EndsBy}
use Rattle.hc_text.specs.Sorted.{is_sorted, is_among, itself}
use Rattle.hc_store.specs.{declared.backend.Backend.{Ghosts}, Slots.{Held}}
use Rattle.hc_rules.specs.{declared.admission.{Admission.{Admission}, BoundKind.{BoundKind}}, Admissions.{admission_of}}
use Rattle.hc_entry.specs.Used.{bound_as}
use Rattle.hc_stored.specs.{declared.{entries.Entries.{Entries}, view.EntryView.{EntryView}}, Entries.{shelf_of}, Kept.{Kept}, Rows.{Row, rows_of, kept_by, kept_of}, Shelf.{cells_at, cells_in}, Views.{facts_in, view_of, bound_in}}
use Rattle.hc_fresh.specs.{declared.facts.HeadFacts.{HeadFacts}, Allowed.{allowed_by}, Lifetimes.{lifetime}, Vary.{matches_vary}, Ages.{age, age_value, corrected_initial_age}, Facts.{head_facts, allowed}}
use Rattle.hc_model.specs.Rows as rows
use Rattle.hc_effects.proofs.{Bounded.{range_order}, Exclusives.{exclusive_parts}, Tests.{none_some}}
use Rattle.hc_state.specs.{declared.rows.Rows.{Rows}, Candidates.{kind_in}, Facts.{Facts}, Kept.{IsKept}, Stands.{RowsStand}, Stored.{IsEntry}}
use Rattle.hc_txn.specs.{declared.{plan.Current.{Current}, transaction.Transaction.{Transaction as Consumer}}, Plans.{SeesUsers, has_holes, hole_in}}
use Rattle.hc_state.proofs.{CurrentTies.{stored_ends, stays_stored, total_reported, entry_at}, TurnTies.{least_alike, filter_in, among_in}, Classes.{class_is}}
use Rattle.hc_on_poll.proofs.{HoleTies.{hole_as}, UsersSeen.{AreSeen, are_seen}}

-- AGES

-- an age is told up to a bound
seconds_most : (text : List ℕ) → unwrap_or (plain_seconds text) 0 ≤ most_seconds
seconds_most [] = omega arith
seconds_most (d ∷ ds) = by_test (list_all is_ascii_digit (d ∷ ds))
  where
    by_test : (b : Bool) → unwrap_or (if b then Some (min (digits_value 10 (d ∷ ds)) most_seconds) else None) 0 ≤ most_seconds
    by_test true = omega arith
    by_test false = omega arith

age_most : (head : Head) → age_value head.fields ≤ most_seconds
age_most head = by_value (first_value (codes "age") head.fields)
  where
    by_value : (o : Option (List ℕ)) → unwrap_or (option_and_then plain_seconds o) 0 ≤ most_seconds
    by_value None = omega arith
    by_value (Some text) = seconds_most text

-- how old a head was when it came is in range
pub age_small : (head : Head) → head.answered < 2 ^ 62 → corrected_initial_age head < 2 ^ 63
unfolding corrected_initial_age
age_small head early = (let least = age_most head in omega arith)

-- what a head that is kept says of its freshness
pub facts_kept : (o : Option Kept) (said : HeadFacts) → option_map facts_in o ≡ Some said → (e : Kept) × (o ≡ Some e) × (head_facts e.head ≡ said)
facts_kept None said is = none_some said is
facts_kept (Some e) said is = (e, refl, some_is (head_facts e.head) said is)

pub range_of_class : (request : Request) → (class_of request).range ≡ range_of request
unfolding class_of
range_of_class request = refl

-- a stored head that was read is the one that is kept
pub headed_entry : (o : Option Kept) (head : StoredHead) → option_map (λ (k : Kept). k.head) o ≡ Some (plain head) → (e : Kept) × (o ≡ Some e) ×
    (e.head ≡ plain head)
headed_entry None head is = none_some (plain head) is
headed_entry (Some e) head is = (e, refl, some_is e.head (plain head) is)

pub head_at_is : (o : Option Kept) (e : Kept) (head : StoredHead) → o ≡ Some e → option_map (λ (k : Kept). k.head) o ≡ Some (plain head) → e.head ≡ plain head
head_at_is o e head at is = some_is e.head (plain head) (sym (ap (option_map (λ (k : Kept). k.head)) at) ∙ is)

-- the range that is kept of a request is in order
pub in_order : (t : Tables) (k : Consumer) (v : rows.Consumer) → IsKept t k v → (asked : RangeSpec) → k.class.range ≡ Some asked → IsInOrder asked
in_order t k v kept asked is = range_order v.request asked (sym (ap (λ (z : RequestClass). z.range) (class_is kept) ∙ range_of_class v.request) ∙ is)

-- WHO IS BOUND

-- who is bound, by what is kept, stands sorted
pub bound_ascends : {B : Type 0} {g : Ghosts B} (a : Entries B g) (q : ℕ) (e : Kept) → (shelf_of a).kept q ≡ Some e → is_sorted itself e.bound ≡ true
bound_ascends {B} {g} a q e at = by_row (rows_of a.rows q) refl at
  where
    by_held : (row : Row) (o : Option Held) → rows_of a.rows q ≡ Some row → option_map (kept_of row) o ≡ Some e → is_sorted itself e.bound ≡ true
    by_held row None is at = none_some e at
    by_held row (Some held) is at = ap (λ (z : Kept). is_sorted itself z.bound) (sym (some_is (kept_of row held) e at)) ∙ (a.shelved.each q row is).ascending

    by_row : (o : Option Row) → rows_of a.rows q ≡ o → kept_by (g.slots a.store) o ≡ Some e → is_sorted itself e.bound ≡ true
    by_row None is at = none_some e at
    by_row (Some row) is at = by_held row (g.slots a.store row.slot) is at

bound_in_starts : (t : Tables) (law : Lawful t) (q c : ℕ) → is_among c (bound t q) ≡ is_bound q (t.consumer c)
unfolding bound
bound_in_starts t law q c = filter_in (λ d. is_bound q (t.consumer d)) c t.starts ∙ by_test (is_bound q (t.consumer c)) refl
  where
    there : (o : Option rows.Consumer) → is_bound q o ≡ true → is_some o ≡ true
    there None on = on
    there (Some k) on = refl

    by_test : (b : Bool) → is_bound q (t.consumer c) ≡ b → (b && is_among c t.starts) ≡ b
    by_test false is = refl
    by_test true is = among_in c t.starts (law.sound.numbered.lists.started c (there (t.consumer c) is))

-- the least of those is the least that is bound
pub least_bound_as : (t : Tables) (law : Lawful t) (q : ℕ) (e : Kept) (p : Representation) → IsEntry t q e p → least e.bound ≡ least (bound t q)
least_bound_as t law q e p is = least_alike e.bound (bound t q) (λ c. is.bound c ∙ sym (bound_in_starts t law q c))

-- somebody is bound to what a writer group writes
group_bound : (t : Tables) (law : Lawful t) (q : ℕ) (p : Representation) → t.representation q ≡ Some p → is_written t p ≡ true →
    is_some (least (bound t q)) ≡ true
group_bound t law q p here on = by_bound (bound t q) refl
  where
    by_bound : (ds : List ℕ) → bound t q ≡ ds → is_some (least (bound t q)) ≡ true
    by_bound [] none = absurd (law.sound.writes.has_bound q p here on none)
    by_bound (d ∷ ds) some = ap (λ (l : List ℕ). is_some (least l)) some ∙ by_least (least ds)
      where
        by_least : (o : Option ℕ) → is_some (lesser o d) ≡ true
        by_least None = refl
        by_least (Some m) = refl

-- nobody writes that alone
group_alone : (t : Tables) (q : ℕ) (p : Representation) → is_written t p ≡ true → exclusive t q p ≡ None
group_alone t q p on = by_writer (exclusive t q p) refl
  where
    by_writer : (o : Option ℕ) → exclusive t q p ≡ o → o ≡ None
    by_writer None is = refl
    by_writer (Some d) is = false_true (sym (exclusive_parts t q d p is).unwritten ∙ on)

-- who writes alone is the least
alone_least : (t : Tables) (law : Lawful t) (q : ℕ) (p : Representation) → t.representation q ≡ Some p → p.is_lost ≡ false → (d : ℕ) →
    exclusive t q p ≡ Some d → least (bound t q) ≡ Some d
alone_least t law q p here stays d is = ap least (law.alone.is_only q d p here stays is).only

-- WHAT ITS HEAD SAYS

lifetime_kind : (head : Head) (kind : Kind) (total : Option ℕ) → lifetime (sealed_head kind total head) ≡ lifetime head
unfolding lifetime
lifetime_kind head kind total = grind (arith, nat_tests)

allowed_kind : (head : Head) (kind : Kind) (total : Option ℕ) (request : Request) (now : ℕ) →
    allowed (sealed_head kind total head) request now ≡ allowed head request now
unfolding corrected_initial_age
allowed_kind head kind total request now =
    ap (λ (n : ℕ). allowed_by (of_response head.fields).no_cache (of_response head.fields).must_revalidate (of_request request.fields) request.load
    (age head now) n) (lifetime_kind head kind total)

-- ALL OF IT

module _ {B : Type 0} {g : Ghosts B} {limits : Limits} (r : Rows B g) (t : Tables) (facts : Facts limits t) (stands : RowsStand limits r t) (now q : ℕ)
    (k : Consumer) (v : rows.Consumer) (is_kept : IsKept t k v) (p : Representation) (here : t.representation q ≡ Some p) (stays : p.is_gone ≡ false)
    (e : Kept) (kept : (shelf_of r.entries).kept q ≡ Some e) where
  is : IsEntry t q e p
  is = entry_at r t stands q e kept p here

  stored : EndsBy p.reach p.stored
  stored = stored_ends t facts.law q p here (stays_stored t facts.law q p here stays)

  -- who is bound, as the table of plans sees it
  seen_bound : AreSeen e.bound (is_written t p) (exclusive t q p) (least (bound t q))
  seen_bound = are_seen e.bound (bound_ascends r.entries q e kept) (least (bound t q)) (least_bound_as t facts.law q e p is) (is_written t p) (exclusive t q p)
      (group_bound t facts.law q p here)
      (group_alone t q p)
      (alone_least t facts.law q p here (stays_stored t facts.law q p here stays))

  pub seen_as : (seen : Current) (view : EntryView) (head : StoredHead) (how : BoundKind) (a : Admission) → seen.allowed ≡ allowed e.head k.request now →
      view_of e ≡ view → e.head ≡ plain head → seen.vary ≡ matches_vary (plain head) k.request → seen.wanted ≡ wanted_of k.class.range view.total →
      seen.hole ≡ hole_in (cells_at (shelf_of r.entries) q) seen.wanted → how ≡ kind_in t q p →
      a ≡ admission_of (map (bound_as how) (bound_in ((shelf_of r.entries).kept q))) (is_some k.class.range) (has_holes seen) →
      SeesUsers (is_some k.class.range) seen a (candidate t now q v.request p) (map (bound_as (kind_in t q p)) e.bound)
  seen_as seen view head how a allows viewed head_is varies wants hole_is kind_is admits =
      let span : seen.wanted ≡ wanted_of (range_of v.request) p.head.total =
      wants ∙ (ap (λ (z : RequestClass). wanted_of z.range view.total) (class_is is_kept)
      ∙ (ap (λ (o : Option RangeSpec). wanted_of o view.total) (range_of_class v.request)
      ∙ ap (wanted_of (range_of v.request)) (ap (λ (z : EntryView). z.total) (sym viewed) ∙ total_reported t q e p is stays))) in
      let allowed_is : seen.allowed ≡ allowed p.head v.request now =
      allows ∙ (ap (λ (z : Request). allowed e.head z now) is_kept.request
      ∙ (sym (allowed_kind e.head kinds.Growing p.head.total v.request now) ∙ ap (λ (h : Head). allowed h v.request now) is.head)) in
      let vary_is : seen.vary ≡ matches_vary p.head v.request =
      varies ∙ (ap (λ (h : Head). matches_vary h k.request) (sym head_is)
      ∙ (ap (matches_vary e.head) is_kept.request ∙ ap (λ (h : Head). matches_vary h v.request) is.head)) in
      let hole : seen.hole ≡ hole_of p (wanted_of (range_of v.request) p.head.total) =
      hole_is ∙ (ap (λ (o : Option Kept). hole_in (λ n. cells_in o n) seen.wanted) kept
      ∙ (hole_as p e.cells stored is.cells seen.wanted ∙ ap (hole_of p) span)) in
      record {
        current_is = λ i. record { allowed = allowed_is i; vary = vary_is i; wanted = span i; hole = hole i };
        sees = record {
          writer_group = seen_bound.writer_group;
          together = seen_bound.together;
          exclusive = seen_bound.exclusive_is;
          least = seen_bound.least_is;
        };
        alone = alone_least t facts.law q p here (stays_stored t facts.law q p here stays);
        admission_is = admits
            ∙ (ap (λ (o : Option Kept). admission_of (map (bound_as how) (bound_in o)) (is_some k.class.range) (has_holes seen)) kept
            ∙ ap (λ (z : BoundKind). admission_of (map (bound_as z) e.bound) (is_some k.class.range) (has_holes seen)) kind_is);
      }
