-- What the case of a head looks at is what the tables say.
--
-- The code looks at need and request of the exchange, whether its consumer was shown a head, and the entry that it is
-- about. Whether a 206 joins has the work. Tag and length are told of the entry, unless it is gone and all of it came.
-- Then no hole is left, so neither joins (`no_hole_left`, `joins_same`). `view_is` joins these; `case_is` is for all
-- cases but a 304 that selects.
use Rattle.std.{proofs.{Common.{◌≡◌, ◌≤◌, ◌<◌, ℕ, List, [], Bool, true, false, Option, Some, None, refl, ap, ap₂, sym, ◌∙◌, subst, arith}, lemmas.Bool.Decides.{nat_tests}}, specs.{Prelude.{codes, is_some, nat_eq, nat_le, option_and_then, option_map, ◌==◌, if◌then◌else◌}, Option.{IfSome}, HashMap.{get}}}
use Rattle.hc_text.proofs.Basics.{eqb-same, false_true, some_inj as some_is}
use Rattle.hc_effects.proofs.Vocabulary.{Limits, Need, Request, Response, RequestClass, HeadCase, HeadView, head_case, is_conditional, is_storable, fits_to_found, length_of, is_bad, content_range_in, content_range_of, class_of, range_of, Route, route_of, BoundBy, joins_by, joins_row, fits_asker, was_shown, head_view, row_of, IsAwaiting, bound, is_bound, InHole, Tables, Exchange, Representation, range, case, route, place, need}
use Rattle.hc_store.specs.declared.backend.Backend.{Ghosts}
use Rattle.hc_range.specs.{declared.range.{RangeSpec.{RangeSpec, TheVariants.{FromTo}}, Span.{Span}}, Spans.{IsInOrder}}
use Rattle.hc_sparse.specs.Cells.{Covers}
use Rattle.hc_fields.specs.{FieldList.{values_of}, FirstValues.{only_of}}
use Rattle.hc_etag.specs.{declared.tag.Tag.{Tag}, Tags.{value_of}}
use Rattle.hc_record.specs.Head.{Head}
use Rattle.hc_rules.specs.{declared.joins.HoleAnswer.TheVariants.{the_data as answer}, Joins.{joins, hole_answer}}
use Rattle.hc_rules.proofs.RangeReads.{content_range_in-some}
use Rattle.hc_exch.specs.{declared.row.Open.{Open}, Exchanges.{table_of}}
use Rattle.hc_stored.specs.{declared.view.EntryView.{EntryView}, Entries.{shelf_of}, Kept.{Kept}, Shelf.{Shelf}, Views.{view_of, tag_in}}
use Rattle.hc_model.specs.Owners as owners
use Rattle.hc_model.specs.Rows as rows
use Rattle.hc_effects.proofs.{Bounded.{range_order}, Joining.{filling}, ExclusiveWriters.{filter_some}, Tests.{none_some}}
use Rattle.hc_state.specs.{declared.rows.Rows.{Rows}, Facts.{Facts}, Heads.{aim_in, kept_at, joins_kept, heard_view}, Kept.{IsRunning, KeepsConsumer, role_awaited}, Stands.{RowsStand}, Stored.{KeepsEntry, IsEntry, KnowsLength, reported, unreported}}
use Rattle.hc_txn.specs.declared.transaction.Transaction.{Transaction as Consumer}
use Rattle.hc_on_leave.proofs.{HeadCases.{case_same}, HeardRows.{Asker, runs_as}}
use Rattle.hc_state.proofs.{Maps.{merely_true}, Ties.{kept_row}, Classes.{class_is}}

-- THE RANGE

merely_at_most : {P : Type 0} (n m : ℕ) → ∥ P ∥₁ → (P → n ≤ m) → n ≤ m
merely_at_most n m some h =
    let test : nat_le n m ≡ true = merely_true (nat_le n m) some (λ p. (let le : n ≤ m = h p in grind (arith, nat_tests, le))) in
    grind (arith, nat_tests, test)

pub merely_ordered : {P : Type 0} (o : Option RangeSpec) → ∥ P ∥₁ → (P → IfSome o IsInOrder) → IfSome o IsInOrder
merely_ordered (Some (FromTo first last)) some h = merely_at_most first last some h
merely_ordered _ some h = tt

request_ordered : (request : Request) (o : Option RangeSpec) → range_of request ≡ o → IfSome o IsInOrder
request_ordered request None is = tt
request_ordered request (Some asked) is = range_order request asked is

-- what a consumer asks for is in order
pub range_ordered : {B : Type 0} {g : Ghosts B} {limits : Limits} (r : Rows B g) (t : Tables) (c : ℕ) (k : Consumer) → get nat_eq r.consumers c ≡ Some k →
    RowsStand limits r t → IfSome k.class.range IsInOrder
unfolding class_of
range_ordered r t c k at stands =
    let found = kept_row t k (t.consumer c) (subst (λ o. KeepsConsumer t o (t.consumer c)) at (stands.consumers c)) in
    subst (λ (z : RequestClass). IfSome z.range IsInOrder) (sym (class_is found.2)) (request_ordered found.0.request (range_of found.0.request) refl)

-- THE HOLE

pub joins_reported : (tag : Bool × List ℕ) (total : ℕ) (hole : Span) (response : Response) → hole_answer tag total hole response ≡ answer.Joins →
    joins tag total hole response ≡ true
unfolding hole_answer
joins_reported tag total hole response is = grind (arith, nat_tests)

pub joins_not : (tag : Bool × List ℕ) (total : ℕ) (hole : Span) (response : Response) → (hole_answer tag total hole response ≡ answer.Joins → ⊥) →
    joins tag total hole response ≡ false
unfolding hole_answer
joins_not tag total hole response off = grind (arith, nat_tests)

-- what is kept has this tag and this length
pub joins_of_kept : (kept : Option Kept) (from to total : ℕ) (entry : EntryView) (tag : Tag) (response : Response) (b : Bool) →
    Some entry ≡ option_map view_of kept → Some tag.opaque ≡ tag_in kept → tag.weak ≡ false → entry.total ≡ Some total
    → joins (value_of tag) total (record { lo = from; hi = to }) response ≡ b → b ≡ joins_kept (need.Hole from to) kept response
joins_of_kept kept from to total entry tag response b there tagged strong length is = grind (arith, nat_tests)

-- at the hole of what is named
pub joins_at : (s : Shelf) (n : Need) (aim : Option ℕ) (from to r : ℕ) (response : Response) (b : Bool) → n ≡ need.Hole from to → aim ≡ Some r →
    b ≡ joins_kept (need.Hole from to) (s.kept r) response → b ≡ joins_kept n (kept_at s aim) response
joins_at s n aim from to r response b hole named is = is ∙ ap₂ (λ (z : Need) (a : Option ℕ). joins_kept z (kept_at s a) response) (sym hole) (sym named)

-- a part that is told ends within the whole
within_text : (text : List ℕ) (first last total : ℕ) → content_range_in text ≡ Some (range.Part first last (Some total)) → (first ≤ last) × (last < total)
within_text text first last total is = grind (arith, nat_tests, content_range_in-some)

within_value : (o : Option (List ℕ)) (first last total : ℕ) → option_and_then content_range_in o ≡ Some (range.Part first last (Some total)) →
    (first ≤ last) × (last < total)
within_value None first last total is = none_some _ is
within_value (Some text) first last total is = within_text text first last total is

pub part_within : (response : Response) (first last total : ℕ) → content_range_of response.fields ≡ Some (range.Part first last (Some total)) →
    (first ≤ last) × (last < total)
part_within response first last total is = within_value (only_of (values_of (codes "content-range") response.fields)) first last total is

-- a hole where something came already isn't filled
pub no_hole_left : (from to total : ℕ) (v : Representation) (response : Response) → v.head.total ≡ Some total → Covers v.body 0 total →
    ((p : ℕ) → from ≤ p → p < to → v.body p ≡ None) → joins_row (need.Hole from to) (Some v) response ≡ false
no_hole_left from to total v response known came absent = by_test (joins_row (need.Hole from to) (Some v) response) refl
  where
    never : joins_row (need.Hole from to) (Some v) response ≡ true → ⊥
    never on =
        let f = filling (need.Hole from to) (Some v) response on in
        let first : from ≡ f.from = (let same : need.Hole from to ≡ need.Hole f.from f.to = f.need_is in cc) in
        let last : to ≡ f.to = (let same : need.Hole from to ≡ need.Hole f.from f.to = f.need_is in cc) in
        let one : v ≡ f.v = some_is v f.v f.row in
        let length : total ≡ f.total = some_is total f.total (sym known ∙ (ap (λ (z : Representation). z.head.total) one ∙ f.known)) in
        let part = part_within response f.from f.last f.total f.part in
        let order = part.0 in
        let ends = part.1 in
        let within = f.within in
        let none = absent from (omega arith) (omega (arith, first, last, order, within)) in
        false_true (ap (λ z. is_some z) (sym none) ∙ came from (omega arith) (omega (arith, first, length, order, ends)))

    by_test : (b : Bool) → joins_row (need.Hole from to) (Some v) response ≡ b → b ≡ false
    by_test false at = refl
    by_test true at = absurd (never at)

-- what is kept joins as what is stored does
joins_same : (t : Tables) (r from to : ℕ) (e : Kept) (v : Representation) (response : Response) → IsEntry t r e v →
    ((p : ℕ) → from ≤ p → p < to → v.body p ≡ None) → joins_kept (need.Hole from to) (Some e) response ≡ joins_row (need.Hole from to) (Some v) response
joins_same t r from to e v response is absent = by_length is.length
  where
    hole : Span
    hole = record { lo = from; hi = to }

    joining : e.head.joining ≡ v.head.joining
    joining = ap (λ (h : Head). h.joining) is.head

    by_length : KnowsLength e v → joins_kept (need.Hole from to) (Some e) response ≡ joins_row (need.Hole from to) (Some v) response
    by_length (reported same) = ap₂ (λ (t : Option (List ℕ)) (n : Option ℕ). joins_by t n hole response) joining same
    by_length (unreported u) =
        ap (λ (n : Option ℕ). joins_by e.head.joining n hole response) u.unreported
        ∙ (no_total e.head.joining ∙ sym (no_hole_left from to u.total v response u.known u.came absent))
      where
        no_total : (t : Option (List ℕ)) → joins_by t None hole response ≡ false
        no_total None = refl
        no_total (Some opaque) = refl

-- WHAT THE TABLES SAY

module _ {B : Type 0} {g : Ghosts B} {limits : Limits} (r : Rows B g) (t : Tables) (facts : Facts limits t) (stands : RowsStand limits r t) (x : ℕ)
    (w : Exchange) (a : Asker r t x w) (o : Open) (running : (table_of r.exchanges x).running ≡ Some o) (response : Response) where
  runs : IsRunning t x o w
  runs = runs_as r t x o w stands running a.awaits.row

  role_is : o.role ≡ role_awaited (route_of w.need) w.aim
  role_is = runs.role ∙ (let bare = a.awaits.headless in rw bare refl)

  -- what it was opened about, where it may read or write what is stored
  pub aim_is : (way : Route) → route_of w.need ≡ way → (way ≡ route.Direct → ⊥) → aim_in o.role ≡ w.aim
  aim_is way at apart = grind (arith, nat_tests)

  abbrev kept : Option Kept
  kept = kept_at (shelf_of r.entries) (aim_in o.role)

  hole_apart : route.Hole ≡ route.Direct → ⊥
  hole_apart is = cc

  module _ (from to : ℕ) (is : w.need ≡ need.Hole from to) where
    way : route_of w.need ≡ route.Hole
    way = ap route_of is

    -- the hole is one of what its consumer is bound to
    module _ (q lo : ℕ) (hi : Option ℕ) (how : BoundBy) (aim : w.aim ≡ Some q) (at : a.v.place ≡ place.Bound q lo hi how) where
      aim_kept : aim_in o.role ≡ Some q
      aim_kept = aim_is route.Hole way hole_apart ∙ aim

      bound_here : is_bound q (t.consumer w.c) ≡ true
      bound_here = ap (is_bound q) a.awaits.asker ∙ rw at (eqb-same q)

      used : bound t q ≡ [] → ⊥
      unfolding bound
      used none = filter_some (λ d. is_bound q (t.consumer d)) w.c t.starts
          (facts.law.sound.numbered.lists.started w.c (ap (λ z. is_some z) a.awaits.asker)) bound_here none

      by_kept : (e : Option Kept) (v : Option Representation) → t.representation q ≡ v → KeepsEntry t q e v →
          joins_kept (need.Hole from to) e response ≡ joins_row (need.Hole from to) v response
      by_kept None None there keeps = refl
      by_kept None (Some v) there keeps = absurd (used keeps.unused)
      by_kept (Some e) None there keeps = absurd keeps
      by_kept (Some e) (Some v) there keeps = joins_same t q from to e v response keeps
          (λ p above below. facts.law.sound.waits.holes x w q v p a.awaits.row a.awaits.is_open a.awaits.headless aim there
          (subst (λ (z : Need). InHole z p) (sym is) (above, below)))

      joined : joins_kept (need.Hole from to) kept response ≡ joins_row (need.Hole from to) (row_of t w.aim) response
      joined = grind (arith, nat_tests, kept_at, aim_kept, by_kept, row_of)

    holes_joined : joins_kept (need.Hole from to) kept response ≡ joins_row (need.Hole from to) (row_of t w.aim) response
    holes_joined = grind (arith, nat_tests, kept, row_of, way, joined)

  joins_is : joins_kept o.need kept response ≡ joins_row w.need (row_of t w.aim) response
  joins_is = grind (arith, nat_tests, kept, row_of, holes_joined)

  fits_is : fits_to_found a.k.class.range response ≡ fits_asker (t.consumer w.c) response
  unfolding class_of
  fits_is = ap (λ (z : RequestClass). fits_to_found z.range response) (class_is a.is) ∙
      sym (ap (λ (z : Option rows.Consumer). fits_asker z response) a.awaits.asker)

  -- but for whether a 304 selects what is stored
  abbrev pub unselected : HeadView
  unselected = record (head_view t false w response) { selects = false }

  pub view_is : heard_view o a.k kept response ≡ unselected
  view_is =
      let needs = runs.need in
      let asks = runs.request in
      let fits = fits_is in
      λ i. record {
        need = needs i;
        shown = (a.is.shown ∙ sym (ap was_shown a.awaits.asker)) i;
        status = response.status;
        bad = is_bad (length_of (needs i) (asks i) response);
        conditional = is_conditional (needs i) (asks i);
        selects = false;
        storable = is_storable (asks i) response;
        fits = fits i;
        joins = joins_is i;
        lost = false;
      }

  -- the case that the rows tell is that of the tables, unless it is a 304 that may select what is stored
  pub case_is : (g : HeadCase) → g ≡ head_case (heard_view o a.k kept response) → (g ≡ case.NotValidated → ⊥) → head_case (head_view t false w response) ≡ g
  case_is g is off = case_same (head_view t false w response) (head_view t false w response).selects g off (sym (is ∙ ap head_case view_is))
