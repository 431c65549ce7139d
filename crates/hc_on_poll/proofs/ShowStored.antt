-- The stored head is shown to who is bound: what is shown is what the tables say.
--
-- Only length and fields of a head are shown (`shown_as_reported`). The length has the work. The entry of what is gone may
-- not tell it, and then it is where the reader stops, as the code takes it (`total_is`). Where a part is shown, it
-- isn't empty and lies within the length (`part_fits`, `part_known`). Who waits for the head of a first hole waits on
-- (`first_waits_answered`); all others are shown the head (`stored_answered`).
use Rattle.std.{proofs.Common.{◌≡◌, ℕ, ◌<◌, ◌≤◌, ◌^◌, List, [], ◌∷◌, ◌++◌, Bool, true, false, Option, Some, None, refl, ap, ap₂, sym, ◌∙◌, subst, arith}, specs.{Prelude.{is_some, is_none, nat_eq, option_and_then, option_map, not, ◌&&◌, if◌then◌else◌}, Option.{option_or}, HashMap.{get}}}
use Rattle.hc_text.proofs.Basics.{eqb-same, false_true, some_inj as some_is}
use Rattle.hc_effects.proofs.Vocabulary.{brings_part, Limits, Act, Why, Response, class_of, RequestClass, BoundBy, is_number, total_in, with_consumer, with_event, is_headless, Lawful, Move, Shows, acts_of, span_to, shows_stored, is_ranged, move_of, shows_head, shows_at, shows_bound, has_joined, if_headless, waits_for_head, by_place, or_else, own_open, hi_of, lo_of, reads, Numbers, Tables, Exchange, Representation, IsToBeShown, status_in, came_alone, act, wait, event, by, place}
use Rattle.hc_store.specs.declared.backend.Backend.{Ghosts}
use Rattle.hc_event.specs.declared.act.Why.TheVariants as why
use Rattle.hc_range.specs.{Spans.{IsWithin}, declared.range.Span.{Span}}
use Rattle.hc_record.specs.{Head.{Head, sealed_head}, declared.kind.Kind.TheVariants.{the_data as kinds}}
use Rattle.hc_validate.specs.Showing.{shown_response}
use Rattle.hc_stored.specs.{Entries.{shelf_of}, Shelf.{head_at, is_kept}, Views.{has_user}}
use Rattle.hc_stored.specs.Kept as entry
use Rattle.hc_stored.specs.Shelf as shelf
use Rattle.hc_exch.specs.{Exchanges.{table_of, next_of}, declared.row.Open.{Open}}
use Rattle.hc_model.specs.Moves as moves
use Rattle.hc_model.specs.Rows as rows
use Rattle.hc_model.specs.Sound as sound
use Rattle.hc_effects.proofs.{ShowEffects.{shows_reader}, Tests.{none_some}, Basics.{some_row}}
use Rattle.hc_state.specs.{declared.rows.Rows.{Rows}, Changes.{ChangesAt}, Facts.{Facts}, Kept.{IsKept, answer_at, KeepsConsumer, KeepsExchange, KeepsRunning, held_for}, Leaving.{IsUserAt}, Reads.{IsUnshownBy, is_headless_open, waits_for_first, may_be_part, is_part, why_shown}, Stands.{RowsStand, Stands, Answered}, Stored.{IsEntry, KnowsLength, reported, unreported, KeepsEntry, is_first}}
use Rattle.hc_txn.specs.{declared.transaction.Transaction.{Transaction as Consumer}, Transactions.{once_shown}}
use Rattle.hc_state.proofs.{Answering.{does_answered}, Counting.{stands_counted}, QueueHandler.{becomes_by}, ReaderSteps.{held_same, exchange_reading, stands_reading}, Ties.{kept_row}, Unbinding.{user_kept}, Words.{few_received}, Classes.{class_is}}
use Rattle.hc_on_poll.proofs.{ReadLemmas.{first_is, second_is}, WaitHandlers.{head_waits}}

-- WHO IS BOUND

-- a consumer that is bound, as it is kept and as the tables have it
pub record IsBoundRow (t : Tables) (c q : ℕ) (how : BoundBy) (k : Consumer) : Type 0 where
  pub v : rows.Consumer
  pub row : t.consumer c ≡ Some v
  pub kept : IsKept t k v
  pub lo : ℕ
  pub hi : Option ℕ
  pub at : v.place ≡ place.Bound q lo hi how
  pub p : Representation
  pub there : t.representation q ≡ Some p

pub bound_row_of : {B : Type 0} {g : Ghosts B} {limits : Limits} (r : Rows B g) (t : Tables) (law : Lawful t) (c q lo : ℕ) (hi : Option ℕ) (how : BoundBy)
    (k : Consumer) → RowsStand limits r t → get nat_eq r.consumers c ≡ Some k → k.place ≡ place.Bound q lo hi how → IsBoundRow t c q how k
bound_row_of r t law c q lo hi how k stands there at =
    let (v, row, kept) = kept_row t k (t.consumer c) (subst (λ o. KeepsConsumer t o (t.consumer c)) there (stands.consumers c)) in
    let here = sym kept.place ∙ at in
    let rep = some_row (t.representation q) (law.sound.numbered.bound_to q c v (sound.is_bound lo hi how row here)) in
    record { v = v; row = row; kept = kept; lo = lo; hi = hi; at = here; p = rep.0; there = rep.1 }

-- who is bound to what is kept
pub bound_entry : {B : Type 0} {g : Ghosts B} {limits : Limits} (r : Rows B g) (t : Tables) (q : ℕ) (e : entry.Kept) (p : Representation) →
    RowsStand limits r t → (shelf_of r.entries).kept q ≡ Some e → t.representation q ≡ Some p → IsEntry t q e p
bound_entry r t q e p stands kept there =
    subst (KeepsEntry t q (Some e)) there (subst (λ o. KeepsEntry t q o (t.representation q)) kept (stands.entries.each q))

-- what somebody is bound to is kept
pub bound_kept : {B : Type 0} {g : Ghosts B} {limits : Limits} (r : Rows B g) (t : Tables) (law : Lawful t) (c q : ℕ) (how : BoundBy) (k : Consumer) →
    RowsStand limits r t → IsBoundRow t c q how k → is_kept (shelf_of r.entries) q ≡ true
bound_kept r t law c q how k stands rd = by_kept ((shelf_of r.entries).kept q) user
  where
    user : has_user c ((shelf_of r.entries).kept q) ≡ true
    user = subst (λ p. IsUserAt p c (shelf_of r.entries)) rd.at
        (user_kept t law.sound.numbered.lists.started c rd.v rd.row
        (λ n lo hi how at. law.sound.numbered.bound_to n c rd.v (sound.is_bound lo hi how rd.row at)) (shelf_of r.entries) stands.entries)

    by_kept : (o : Option entry.Kept) → has_user c o ≡ true → is_some o ≡ true
    by_kept None on = false_true on
    by_kept (Some e) on = refl

-- a head that is stored is that of what is kept
pub entry_of_head : (o : Option entry.Kept) (head : Head) → option_map (λ (e : entry.Kept). e.head) o ≡ Some head → (e : entry.Kept) × (o ≡ Some e) ×
    (e.head ≡ head)
entry_of_head None head is = none_some head is
entry_of_head (Some e) head is = (e, refl, some_is e.head head is)

-- an exchange has no head yet
pub headless_as : (t : Tables) (x : ℕ) (o : Option Open) (row : Option Exchange) → KeepsRunning t x o row → is_headless_open o ≡ is_headless row
headless_as t x None None keeps = refl
headless_as t x None (Some w) keeps = rw keeps refl
headless_as t x (Some o) None keeps = absurd keeps
headless_as t x (Some o) (Some w) keeps = let on = keeps.is_open in let headed = keeps.headed in rw (on, headed) (by_head w.head)
  where
    by_head : (h : Option Response) → not (is_some h) ≡ is_none h
    by_head None = refl
    by_head (Some a) = refl

-- WHAT IS SHOWN

same_status : (head other : Head) (n : Option ℕ) → sealed_head kinds.Growing n head ≡ other → head.status ≡ other.status
same_status head other n is = ap (λ (h : Head). h.status) is

-- only its length and its fields are shown
shown_as_reported : (head other : Head) (n : Option ℕ) (reason : Why) (span : Option Span) (ranged : Bool) →
    sealed_head kinds.Growing other.total head ≡ other → n ≡ other.total →
    shown_response (record head { total = n }) reason span ranged ≡ shown_response other reason span ranged
shown_as_reported head other n reason span ranged is same =
    ap (λ (m : Option ℕ). shown_response (record head { total = m }) reason span ranged) same ∙ ap (λ (h : Head). shown_response h reason span ranged) is

-- whatever they come from
pub same_shown : (head : Head) (a b : Why) (x y : Option Span) (p q : Bool) → a ≡ b → x ≡ y → p ≡ q → shown_response head a x p ≡ shown_response head b y q
same_shown head a b x y p q one two three = ap (λ (z : Why). shown_response head z x p) one ∙
    (ap (λ (z : Option Span). shown_response head b z p) two ∙ ap (shown_response head b y) three)

module _ (t : Tables) {limits : _} (facts : Facts limits t) (c q : ℕ) (how : BoundBy) (k : Consumer) (rd : IsBoundRow t c q how k) (e : entry.Kept)
    (is : IsEntry t q e rd.p) where
  -- where it stops reading
  end_is : k.hi ≡ option_or rd.hi rd.p.head.total
  end_is = rd.kept.ends ∙ (ap (hi_of t) rd.at ∙ ap (λ (z : Option Representation). option_or rd.hi (total_in z)) rd.there)

  -- who came alone is kept as that
  first_kept : came_alone t (place.Bound q rd.lo rd.hi how) ≡ true → e.first ≡ None → {P : Type 0} → P
  first_kept alone none =
      let on : is_first t q (t.consumer c) ≡ true = ap (is_first t q) rd.row ∙ at_it rd.v rd.at alone in
      false_true (sym (ap (λ (o : Option ℕ). is_number o c) none) ∙ (is.first c ∙ on))
    where
      at_it : (v : rows.Consumer) → v.place ≡ place.Bound q rd.lo rd.hi how → came_alone t (place.Bound q rd.lo rd.hi how) ≡ true → is_first t q (Some v) ≡ true
      at_it v at alone = rw (at, eqb-same q) alone

  -- whose plan bound it was shown a head
  shown_by_plan : how ≡ by.Plan → rd.v.shown ≡ false → {P : Type 0} → P
  shown_by_plan plan unshown = by_way how plan (facts.law.sound.unshown c q rd.lo rd.hi how rd.v rd.row rd.at unshown)
    where
      by_way : (b : BoundBy) → b ≡ by.Plan → IsToBeShown t rd.v b → {P : Type 0} → P
      by_way _ is sound.founded = cc
      by_way _ is _ = cc

  -- what ends somewhere has a length
  length_known : (h : ℕ) → rd.hi ≡ Some h → (n : ℕ) × (rd.p.head.total ≡ Some n) × (h ≤ n)
  length_known h to =
      let ends = facts.measures.ends q c rd.lo h how rd.v rd.p rd.row (rd.at ∙ ap (λ (o : Option ℕ). place.Bound q rd.lo o how) to) rd.there in
      (ends.total, ends.known, ends.ends)

  came_as : (b : BoundBy) → how ≡ b → came_alone t (place.Bound q rd.lo rd.hi b) ≡ true → came_alone t (place.Bound q rd.lo rd.hi how) ≡ true
  came_as b same alone = ap (λ (z : BoundBy). came_alone t (place.Bound q rd.lo rd.hi z)) same ∙ alone

  -- who founded with the whole reads all of it
  whole_is : (h : ℕ) → how ≡ by.Founding → rd.hi ≡ Some h → brings_part rd.p.head.status ≡ false → rd.p.head.total ≡ Some h
  whole_is h founding to status =
      facts.parts.whole c q rd.lo h rd.v rd.p rd.row
      (rd.at ∙ (ap (λ (o : Option ℕ). place.Bound q rd.lo o how) to ∙ ap (place.Bound q rd.lo (Some h)) founding)) rd.there status

  alone_by_part : brings_part rd.p.head.status ≡ true → came_alone t (place.Bound q rd.lo rd.hi by.Founding) ≡ true
  alone_by_part status = ap (λ (z : Option Representation). brings_part (status_in z)) rd.there ∙ status

  -- its length is told, or where it stops reading is
  total_is : rd.v.shown ≡ false → option_or e.head.total k.hi ≡ rd.p.head.total
  total_is unshown = by_length is.length
    where
      none_reported : (o : Option ℕ) → rd.hi ≡ o → rd.p.head.total ≡ None → k.hi ≡ None
      none_reported None to none = end_is ∙ rw (to, none) refl
      none_reported (Some h) to none = none_some (length_known h to).0 (sym none ∙ (length_known h to).1)

      by_reported : (o : Option ℕ) → rd.p.head.total ≡ o → e.head.total ≡ rd.p.head.total → option_or e.head.total k.hi ≡ rd.p.head.total
      by_reported (Some n) known same = ap (λ (o : Option ℕ). option_or o k.hi) (same ∙ known) ∙ sym known
      by_reported None none same = ap (λ (o : Option ℕ). option_or o k.hi) (same ∙ none) ∙ (none_reported rd.hi refl none ∙ sym none)

      by_founding : (n h : ℕ) (b : Bool) → rd.p.head.total ≡ Some n → e.first ≡ None → how ≡ by.Founding → rd.hi ≡ Some h →
          brings_part rd.p.head.status ≡ b → Some h ≡ Some n
      by_founding n h true known nobody founding to on = first_kept (came_as by.Founding founding (alone_by_part on)) nobody
      by_founding n h false known nobody founding to off = sym (whole_is h founding to off) ∙ known

      by_way : (n h : ℕ) (b : BoundBy) → rd.p.head.total ≡ Some n → e.first ≡ None → how ≡ b → rd.hi ≡ Some h → Some h ≡ Some n
      by_way n h by.Founding known nobody same to = by_founding n h (brings_part rd.p.head.status) known nobody same to refl
      by_way n h (by.FirstHole y) known nobody same to = first_kept (came_as (by.FirstHole y) same refl) nobody
      by_way n h by.Plan known nobody same to = shown_by_plan same unshown

      by_end : (n : ℕ) (o : Option ℕ) → rd.p.head.total ≡ Some n → e.first ≡ None → rd.hi ≡ o → option_or o rd.p.head.total ≡ Some n
      by_end n None known nobody to = known
      by_end n (Some h) known nobody to = by_way n h how known nobody refl to

      by_length : KnowsLength e rd.p → option_or e.head.total k.hi ≡ rd.p.head.total
      by_length (reported same) = by_reported rd.p.head.total refl same
      by_length (unreported u) = ap (λ (o : Option ℕ). option_or o k.hi) u.unreported ∙ (end_is ∙ (by_end u.total rd.hi u.known u.first refl ∙ sym u.known))

  -- WHAT FITS

  module _ (numbers : Numbers t) (small : t.received < 2 ^ 62) where
    total_small : (n : ℕ) → rd.p.head.total ≡ Some n → n < 2 ^ 62
    total_small n known = let below = numbers.totals q n rd.p rd.there known in omega (arith, below, small)

    pub end_small : (n : ℕ) → k.hi ≡ Some n → n < 2 ^ 62
    end_small n to = by_end rd.hi refl (sym end_is ∙ to)
      where
        by_end : (o : Option ℕ) → rd.hi ≡ o → option_or o rd.p.head.total ≡ Some n → n < 2 ^ 62
        by_end None at known = total_small n known
        by_end (Some h) at is_n =
            let known = length_known h at in
            let below = total_small known.0 known.1 in
            let same : h ≡ n = some_is h n is_n in
            let within = known.2 in
            omega (arith, below, same, within)

    -- a part that is shown isn't empty, and within what is so long
    pub part_fits : (x : Span) (n : ℕ) → rd.v.shown ≡ false → is_part k.class how e.head.status ≡ true → span_to k.lo k.hi ≡ Some x →
        option_or e.head.total k.hi ≡ Some n → IsWithin x n
    unfolding class_of
    part_fits x n unshown on span total = by_end k.hi refl span
      where
        both : (a b : Bool) → (a && b) ≡ true → (a ≡ true) × (b ≡ true)
        both true b h = (refl, h)
        both false b h = false_true h

        ranged : is_ranged rd.v ≡ true
        ranged = ap (λ (z : RequestClass). is_some z.range) (sym (class_is rd.kept)) ∙ (both (is_some k.class.range) (may_be_part how e.head.status) on).0

        known : rd.p.head.total ≡ Some n
        known = sym (total_is unshown) ∙ total

        begins : k.lo ≡ rd.lo
        begins = rd.kept.begins ∙ ap (lo_of t) rd.at

        part : may_be_part how e.head.status ≡ true
        part = (both (is_some k.class.range) (may_be_part how e.head.status) on).1

        -- who came alone knows where it stops reading
        alone_by : (b : BoundBy) → how ≡ b → may_be_part b e.head.status ≡ true → came_alone t (place.Bound q rd.lo rd.hi b) ≡ true
        alone_by by.Founding same on = alone_by_part (sym (ap brings_part (same_status e.head rd.p.head rd.p.head.total is.head)) ∙ on)
        alone_by (by.FirstHole y) same on = refl
        alone_by by.Plan same on = shown_by_plan same unshown

        known_end : is_some rd.hi ≡ true
        known_end = facts.law.sound.writes.known_end q c rd.lo rd.hi how rd.v rd.row rd.at (came_as how refl (alone_by how refl part))

        some_part : (h : ℕ) (b : BoundBy) → rd.hi ≡ Some h → how ≡ b → may_be_part b e.head.status ≡ true → rd.lo < h
        some_part h by.Founding to same on =
            facts.parts.founded c q rd.lo h rd.v rd.p rd.row
            (rd.at ∙ (ap (λ (o : Option ℕ). place.Bound q rd.lo o how) to ∙ ap (place.Bound q rd.lo (Some h)) same)) rd.there
            (sym (ap brings_part (same_status e.head rd.p.head rd.p.head.total is.head)) ∙ on) ranged
        some_part h (by.FirstHole y) to same on =
            facts.parts.first c q rd.lo h y rd.v rd.row
            (rd.at ∙ (ap (λ (o : Option ℕ). place.Bound q rd.lo o how) to ∙ ap (place.Bound q rd.lo (Some h)) same)) ranged
        some_part h by.Plan to same on = shown_by_plan same unshown

        at_end : (h : ℕ) → rd.hi ≡ Some h → k.hi ≡ Some h
        at_end h to = end_is ∙ ap (λ (o : Option ℕ). option_or o rd.p.head.total) to

        fits_at : (m h : ℕ) → k.hi ≡ Some m → rd.hi ≡ Some h → Some (record { lo = k.lo; hi = m }) ≡ Some x → IsWithin x n
        fits_at m h to ends is_x =
            let same : m ≡ h = some_is m h (sym to ∙ at_end h ends) in
            let lt = some_part h how ends refl part in
            let long = length_known h ends in
            let one : long.0 ≡ n = some_is long.0 n (sym long.1 ∙ known) in
            let le = long.2 in
            let below = total_small n known in
            subst (λ (z : Span). IsWithin z n) (some_is (record { lo = k.lo; hi = m }) x is_x)
            (record { not_empty = omega (arith, lt, same, begins); within = omega (arith, le, one, same); small = below })

        by_end : (o : Option ℕ) → k.hi ≡ o → span_to k.lo o ≡ Some x → IsWithin x n
        by_end None to none = none_some x none
        by_end (Some m) to is_x = let ends = some_row rd.hi known_end in fits_at m ends.0 to ends.1 is_x

    -- then its length is known
    pub part_known : rd.v.shown ≡ false → is_part k.class how e.head.status ≡ true → (x : Span) → span_to k.lo k.hi ≡ Some x →
        option_or e.head.total k.hi ≡ None → ⊥
    part_known unshown on x span none = by_end k.hi refl span
      where
        none_of : (o z : Option ℕ) → option_or o z ≡ None → z ≡ None
        none_of None z is = is
        none_of (Some n) z is = none_some n (sym is)

        by_end : (o : Option ℕ) → k.hi ≡ o → span_to k.lo o ≡ Some x → ⊥
        by_end None to is_x = none_some x is_x
        by_end (Some m) to is_x = none_some m (sym (none_of e.head.total k.hi none) ∙ to)

-- in some run
module _ {B : Type 0} {g : Ghosts B} (r : Rows B g) (c q : ℕ) (how : BoundBy) (k : Consumer) (there : get nat_eq r.consumers c ≡ Some k)
    (at : IsUnshownBy q how k) (head : Head) (stored : head_at (shelf_of r.entries) q ≡ Some head) (s : Stands r) where
  abbrev t : Tables
  t = s.t

  facts : Facts s.limits t
  facts = s.facts

  rd : IsBoundRow t c q how k
  rd = bound_row_of r t facts.law c q at.0.0 at.0.1 how k s.rows there at.0.2

  few : t.received < 2 ^ 62
  few = few_received s.received

  unshown : rd.v.shown ≡ false
  unshown = sym rd.kept.shown ∙ at.1

  record IsStoredAs : Type 0 where
    e : entry.Kept
    is : IsEntry t q e rd.p
    head_is : e.head ≡ head

  as_stored : IsStoredAs
  as_stored = let (e, kept_e, same) = entry_of_head ((shelf_of r.entries).kept q) head stored in
      record { e = e; is = bound_entry r t q e rd.p s.rows kept_e rd.there; head_is = same }

  pub run_end_small : (n : ℕ) → k.hi ≡ Some n → n < 2 ^ 62
  run_end_small n to = end_small t facts c q how k rd as_stored.e as_stored.is s.numbers few n to

  part_on : is_part k.class how head.status ≡ true → is_part k.class how as_stored.e.head.status ≡ true
  part_on on = ap (λ (h : Head). is_part k.class how h.status) as_stored.head_is ∙ on

  pub run_part_fits : (x : Span) (n : ℕ) → is_part k.class how head.status ≡ true → span_to k.lo k.hi ≡ Some x → option_or head.total k.hi ≡ Some n →
      IsWithin x n
  run_part_fits x n on span total =
      part_fits t facts c q how k rd as_stored.e as_stored.is s.numbers few x n unshown (part_on on) span
      (ap (λ (h : Head). option_or h.total k.hi) as_stored.head_is ∙ total)

  pub run_part_known : (x : Span) → is_part k.class how head.status ≡ true → span_to k.lo k.hi ≡ Some x → option_or head.total k.hi ≡ None → ⊥
  run_part_known x on span none =
      part_known t facts c q how k rd as_stored.e as_stored.is s.numbers few unshown (part_on on) x span
      (ap (λ (h : Head). option_or h.total k.hi) as_stored.head_is ∙ none)

-- MOVES

module _ {B : Type 0} {g : Ghosts B} {limits : Limits} (r : Rows B g) (t : Tables) (facts : Facts limits t) (stands : RowsStand limits r t)
    (now want c q : ℕ) (how : BoundBy) (k : Consumer) (rd : IsBoundRow t c q how k) (unshown : rd.v.shown ≡ false) where
  to_be_shown : IsToBeShown t rd.v how
  to_be_shown = facts.law.sound.unshown c q rd.lo rd.hi how rd.v rd.row rd.at unshown

  headless_is : (y : ℕ) → is_headless_open (table_of r.exchanges y).running ≡ is_headless (t.exchange y)
  headless_is y = headless_as t y (table_of r.exchanges y).running (t.exchange y) (stands.exchanges y).running

  shows_as : shows_head t rd.v ≡ shows_bound t rd.v q rd.lo (hi_of t rd.v.place) how
  shows_as = by_shown rd.v.shown unshown ∙ ap (shows_at t rd.v) rd.at
    where
      by_shown : (b : Bool) → b ≡ false → (if b then None else shows_at t rd.v rd.v.place) ≡ shows_at t rd.v rd.v.place
      by_shown false is = refl
      by_shown true is = false_true (sym is)

  -- what joined has a head
  not_both : (y : ℕ) → has_joined (t.exchange y) ≡ true → is_headless (t.exchange y) ≡ true → ⊥
  not_both y joined bare = by_row (t.exchange y) refl joined bare
    where
      both : (a b : Bool) → (a && b) ≡ true → b ≡ true
      both true b on = on
      both false b on = false_true on

      none_of : (h : Option Response) → is_none h ≡ true → h ≡ None
      none_of None on = refl
      none_of (Some a) on = false_true on

      by_row : (o : Option Exchange) → t.exchange y ≡ o → has_joined o ≡ true → is_headless o ≡ true → ⊥
      by_row None at joined bare = false_true joined
      by_row (Some w) at joined bare =
          let none = (facts.law.sound.waits.headless y w at (none_of w.head (both w.is_open (is_none w.head) bare))).1 in
          false_true (sym (ap (λ (o : Option ℕ). is_some o) none) ∙ joined)

  -- who waits for the head of its first hole
  pub first_waits : (y : ℕ) → how ≡ by.FirstHole y → is_headless_open (table_of r.exchanges y).running ≡ true →
      move_of t now want c rd.v ≡ moves.Waits (wait.Head y)
  first_waits y same on =
      let bare : is_headless (t.exchange y) ≡ true = sym (headless_is y) ∙ on in
      let none : shows_head t rd.v ≡ None = shows_as ∙
      (ap (shows_bound t rd.v q rd.lo (hi_of t rd.v.place)) same ∙ unjoined (has_joined (t.exchange y)) refl bare) in
      let headless : if_headless t y ≡ Some y = rw bare refl in
      let waits : waits_for_head (option_and_then (if_headless t) (own_open t rd.v)) ≡ Some (moves.Waits (wait.Head y)) =
      ap (λ (o : Option ℕ). waits_for_head (option_and_then (if_headless t) o)) (own_is to_be_shown same bare) ∙ ap waits_for_head headless in
      second_is (shows_head t rd.v) (waits_for_head (option_and_then (if_headless t) (own_open t rd.v))) (by_place t now want c rd.v rd.v.place)
      (moves.Waits (wait.Head y)) none waits
    where
      unjoined : (b : Bool) → has_joined (t.exchange y) ≡ b → is_headless (t.exchange y) ≡ true →
          (if b then Some (shows_stored q (why.Validated y) (is_ranged rd.v) rd.lo (hi_of t rd.v.place) (t.representation q)) else None) ≡ None
      unjoined false is bare = refl
      unjoined true is bare = absurd (not_both y is bare)

      own_is : IsToBeShown t rd.v how → how ≡ by.FirstHole y → is_headless (t.exchange y) ≡ true → own_open t rd.v ≡ Some y
      own_is shows same bare = by_way how same shows
        where
          by_way : (b : BoundBy) → b ≡ by.FirstHole y → IsToBeShown t rd.v b → own_open t rd.v ≡ Some y
          by_way _ is sound.founded = absurd (let never : by.Founding ≡ by.FirstHole y = is in cc)
          by_way _ is (sound.joined z joined) = let one : z ≡ y = cc in
              absurd (not_both y (subst (λ (n : ℕ). has_joined (t.exchange n) ≡ true) one joined) bare)
          by_way _ is (sound.waits z own headless) = let one : z ≡ y = cc in own ∙ ap Some one

  -- who is shown the stored head
  module _ (ready : waits_for_first (table_of r.exchanges) how ≡ false) (e : entry.Kept) (is : IsEntry t q e rd.p) where
    part_is : (b : BoundBy) → Bool
    part_is b = is_part k.class b e.head.status

    ranged_is : is_some k.class.range ≡ is_ranged rd.v
    unfolding class_of
    ranged_is = ap (λ (z : RequestClass). is_some z.range) (class_is rd.kept)

    begins_at : k.lo ≡ rd.lo
    begins_at = rd.kept.begins ∙ ap (lo_of t) rd.at

    and_true : (b : Bool) → (b && true) ≡ b
    and_true true = refl
    and_true false = refl

    -- as the tables have it
    shows_it : (b : BoundBy) → how ≡ b →
        shows_bound t rd.v q rd.lo (hi_of t rd.v.place) b ≡ Some
        (Shows q (why_shown q b) (shown_response rd.p.head (why_shown q b) (span_to rd.lo (hi_of t rd.v.place)) (is_part k.class b e.head.status)) rd.lo
        (hi_of t rd.v.place))
    shows_it by.Founding same =
        let status : brings_part (status_in (t.representation q)) ≡ brings_part e.head.status =
        ap (λ (z : Option Representation). brings_part (status_in z)) rd.there ∙ ap brings_part (sym (same_status e.head rd.p.head rd.p.head.total is.head)) in
        ap (λ (z : Option Representation). Some
        (shows_stored q (why.Fetched q) (is_ranged rd.v && brings_part (status_in (t.representation q))) rd.lo (hi_of t rd.v.place) z)) rd.there
        ∙ ap (λ (b : Bool). Some
        (Shows q (why.Fetched q) (shown_response rd.p.head (why.Fetched q) (span_to rd.lo (hi_of t rd.v.place)) b) rd.lo (hi_of t rd.v.place)))
        (ap₂ (λ (a b : Bool). a && b) (sym ranged_is) status)
    shows_it (by.FirstHole y) same =
        ap (λ (b : Bool). if b then Some (shows_stored q (why.Validated y) (is_ranged rd.v) rd.lo (hi_of t rd.v.place) (t.representation q)) else None)
        (joined_is to_be_shown)
        ∙ (ap (λ (z : Option Representation). Some (shows_stored q (why.Validated y) (is_ranged rd.v) rd.lo (hi_of t rd.v.place) z)) rd.there
        ∙ ap (λ (b : Bool). Some
        (Shows q (why.Validated y) (shown_response rd.p.head (why.Validated y) (span_to rd.lo (hi_of t rd.v.place)) b) rd.lo (hi_of t rd.v.place)))
        (sym ranged_is ∙ sym (and_true (is_some k.class.range))))
      where
        not_bare : is_headless (t.exchange y) ≡ true → ⊥
        not_bare bare = false_true (sym ready ∙ (ap (waits_for_first (table_of r.exchanges)) same ∙ (headless_is y ∙ bare)))

        joined_is : IsToBeShown t rd.v how → has_joined (t.exchange y) ≡ true
        joined_is shows = by_way how same shows
          where
            by_way : (b : BoundBy) → b ≡ by.FirstHole y → IsToBeShown t rd.v b → has_joined (t.exchange y) ≡ true
            by_way _ is sound.founded = absurd (let never : by.Founding ≡ by.FirstHole y = is in cc)
            by_way _ is (sound.joined z joined) = let one : z ≡ y = cc in subst (λ (n : ℕ). has_joined (t.exchange n) ≡ true) one joined
            by_way _ is (sound.waits z own headless) = let one : z ≡ y = cc in
                absurd (not_bare (subst (λ (n : ℕ). is_headless (t.exchange n) ≡ true) one headless))
    shows_it by.Plan same = shown_by_plan t facts c q how k rd e is same unshown

    pub stored_shows : (total : Option ℕ) → total ≡ option_or e.head.total k.hi →
        move_of t now want c rd.v ≡ Shows q (why_shown q how)
        (shown_response (record e.head { total = total }) (why_shown q how) (span_to k.lo k.hi) (is_part k.class how e.head.status)) k.lo k.hi
    stored_shows total total_at =
        let ends : k.hi ≡ hi_of t rd.v.place = rd.kept.ends in
        let head = shown_as_reported e.head rd.p.head total (why_shown q how) (span_to k.lo k.hi) (is_part k.class how e.head.status) is.head
        (total_at ∙ total_is t facts c q how k rd e is unshown) in
        first_is (shows_head t rd.v) (or_else (waits_for_head (option_and_then (if_headless t) (own_open t rd.v))) (by_place t now want c rd.v rd.v.place)) _
        (shows_as ∙ (shows_it how refl
        ∙ (ap₂ (λ (n : ℕ) (o : Option ℕ). Some
        (Shows q (why_shown q how) (shown_response rd.p.head (why_shown q how) (span_to n o) (is_part k.class how e.head.status)) n o)) (sym begins_at)
        (sym ends)
        ∙ ap (λ (h : Response). Some (Shows q (why_shown q how) h k.lo k.hi)) (sym head))))

-- THE HANDLER

module _ {B : Type 0} {g : Ghosts B} {limits : Limits} (r u : Rows B g) (t : Tables) (facts : Facts limits t) (stands : RowsStand limits r t)
    (now want c q : ℕ) (how : BoundBy) (k : Consumer) (there : get nat_eq r.consumers c ≡ Some k) (at : IsUnshownBy q how k) (before out : List Act) where
  mine : IsBoundRow t c q how k
  mine = bound_row_of r t facts.law c q at.0.0 at.0.1 how k stands there at.0.2

  unshown_v : mine.v.shown ≡ false
  unshown_v = sym mine.kept.shown ∙ at.1

  pub first_waits_answered : (y : ℕ) → how ≡ by.FirstHole y → is_headless_open (table_of r.exchanges y).running ≡ true → out ≡ before ++
      (act.Pending c (wait.Head y) ∷ []) → Answered limits (shelf_of r.entries).faults r t before out now (event.Poll c want)
  first_waits_answered y same on acts =
      head_waits limits (shelf_of r.entries).faults r t facts.law now c want mine.v mine.row before out y
      (first_waits r t facts stands now want c q how k mine unshown_v y same on) acts stands

  pub stored_answered : waits_for_first (table_of r.exchanges) how ≡ false → (head : Head) → head_at (shelf_of r.entries) q ≡ Some head →
      (total : Option ℕ) → total ≡ option_or head.total k.hi → (answer : Response)
      → answer ≡ shown_response (record head { total = total }) (why_shown q how) (span_to k.lo k.hi) (is_part k.class how head.status) → out ≡ before ++
      (act.Shown c q (why_shown q how) answer.status answer.fields k.lo k.hi ∷ [])
      → u.last_start ≡ r.last_start → u.keys ≡ r.keys → u.entries ≡ r.entries → u.exchanges ≡ r.exchanges → ChangesAt r.consumers u.consumers c once_shown
      → Answered limits (shelf_of r.entries).faults u t before out now (event.Poll c want)
  stored_answered ready head stored total total_at answer answer_is acts last same_keys same_entries exchanges changes =
      let ev = event.Poll c want in
      let (e, kept_e, head_is) = entry_of_head ((shelf_of r.entries).kept q) head stored in
      let is = bound_entry r t q e mine.p stands kept_e mine.there in
      let v = mine.v in
      let kp = mine.kept in
      let s : Tables = with_consumer c (Some (record v { shown = true })) t in
      let move = stored_shows r t facts stands now want c q how k mine unshown_v ready e is total
      (total_at ∙ ap (λ (h : Head). option_or h.total k.hi) (sym head_is)) in
      let same_answer = ap (λ (h : Head). shown_response (record h { total = total }) (why_shown q how) (span_to k.lo k.hi)
      (is_part k.class how h.status)) head_is ∙ sym answer_is in
      let m : Move = Shows q (why_shown q how) answer k.lo k.hi in
      does_answered limits (shelf_of r.entries).faults u t (with_event now ev s) before out (acts_of c m) now ev
      (shows_reader limits t facts.law now c want v mine.row q (why_shown q how) answer k.lo k.hi
      (move ∙ ap (λ (h : Response). Shows q (why_shown q how) h k.lo k.hi) same_answer) (ap reads mine.at)) refl refl acts
      (stands_counted u s now ev refl
      (stands_reading t c v true v.given mine.row r u stands kp.is_there last same_keys (ap (λ z. next_of z) exchanges)
      (subst (λ z. shelf.Stays (shelf_of r.entries) (shelf_of z)) (sym same_entries) (record { kept = λ n. refl; order = refl; used = refl; limits = refl }))
      (once_shown k) (becomes_by r.consumers u.consumers c k once_shown there changes)
      (assumption (kp, kp.answer ∙ no_answer mine.v.shown))
      (λ y. subst (λ z. KeepsExchange s y (table_of z y)) (sym exchanges)
      (exchange_reading t c v true v.given mine.row y (table_of r.exchanges y) (held_shown y (t.exchange y)) (stands.exchanges y)))))
    where
      no_answer : (b : Bool) → (if b then None else answer_at t mine.v.place) ≡ None
      no_answer true = refl
      no_answer false = ap (answer_at t) mine.at

      held_shown : (y : ℕ) (o : Option Exchange) → held_for (with_consumer c (Some (record mine.v { shown = true })) t) y o ≡ held_for t y o
      held_shown y None = refl
      held_shown y (Some z) = held_same t c mine.v true mine.v.given mine.row y z (λ its. refl) (λ p here alone. refl)
