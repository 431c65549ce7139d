-- A head that founds is answered, where the store takes what it founds, and where it refuses that.
--
-- The code has its consumer read past the store first, then lets go what is replaced and what is current, and makes
-- room. By these steps the tables have room as the rules say, and one gives way at most (`one_way`). Nothing has the
-- number of what is founded yet (`m_fresh`), so `FoundRows` applies (`founds_answered`). Where the store refuses, the
-- consumer reads on past it, and the loss is of a kind that the room allows (`lost_answered`). `found` uses both.
use Rattle.std.{proofs.{Common.{◌≡◌, ◌≢◌, ◌⊎◌, inl, inr, ℕ, ◌+◌, ◌<◌, ◌≤◌, List, [], ◌∷◌, ◌++◌, Bool, true, false, Option, Some, None, refl, ap, ap₂, sym, ◌∙◌, subst, arith}, lemmas.{Bool.{cases_Bool, Decides.{nat_tests}}, List.{append_assoc}}}, specs.{Prelude.{◌&&◌, not, is_some, nat_eq, nat_le, filter, map, option_map, unwrap_or, if◌then◌else◌}, HashMap.{get}, Option.{option_or}}}
use Rattle.hc_text.proofs.Basics.{eqb-other, eqb-same, false_true, same_or, some_inj as some_is}
use Rattle.hc_store.specs.declared.backend.Backend.{Ghosts}
use Rattle.hc_range.specs.declared.range.Span.{Span}
use Rattle.hc_effects.proofs.Vocabulary.{brings_part, Act, LostKind, Event, Need, Request, Response, HeadCase, Limits, Room, head_case, length_of, promise_of, content_range_of, range_of, wanted_of, room_of, gives_way, Place, head_view, is_founding, back_in_line, idle_now, current, denial, doomed_by_case, with_event, as_gone, let_all_go, let_some_go, with_consumer, with_answer, with_founding, just_founded, entry_without_acts, promise_in, family, NoFlaw, Loses, flaw_in, goes_by_case, founded_total, total_of_part, IsInUse, MayMakeRoom, MayLetGo, weight_now, weights_now, room_now, giving_way, AreOnce, bound, is_bound, Tables, Exchange, Representation, has_room, may_lose, Among, with_item_first, evicted, room_for, is_fault, act, kind as kinds, event, case, wanted, room, write, by, place}
use Rattle.hc_stored.specs.Entries.{shelf_of}
use Rattle.hc_exch.specs.{Exchanges.{table_of}, Known.{length_by}, declared.row.Open.{Open}}
use Rattle.hc_model.specs.LettingGo.{first_idle}
use Rattle.hc_model.specs.Rows as rows
use Rattle.hc_model.specs.Sound as sound
use Rattle.hc_effects.proofs.{FoundCases.{founding_writes}, FoundDoes.{Founds, whole, part, replaced, founds_does, founds_goes, lost_does, replaces, founder, status_is, total_whole, empty_total, part_wanted, founder_unshown, is_part}, FoundEffects.{all_one, room_apart, room_one, current_there}, FoundOrder.{founded_last, past_last}, FoundRoom.{room_same, gives_same}, KeyActs.{HasRow}, LettingGo.{may_let_go, keeps_may, keeps_may_all}, SameTables.{is_in, waits_for_any, back_from_any, without, all_go_is}, WeightsLeft.{all_weigh_less, all_weigh_apart, fits_after, one_gives_way}, Tests.{none_some}}
use Rattle.hc_state.specs.{declared.{rows.Rows.{Rows}, founded.Founding.{Founding}}, Facts.{Facts}, Founding.{BeginsFounding, IsFounding, is_shared_by, part_by, total_by}, Heads.{AwaitsHead, IsReadAlone, goes_with}, Kept.{IsRunning}, Room.{GivesWay}, Stands.{Answered, RowsStand}}
use Rattle.hc_txn.specs.declared.transaction.Transaction.{Transaction as Consumer}
use Rattle.hc_state.proofs.{Counting.{stands_counted}, OneOfEach.{bound_same}, Rooms.{used_is}}
use Rattle.hc_on_leave.proofs.{FoundRows.{IsUnfounded, founded_stands}, HeardRows.{runs_as}, PieceRoom.{may_make_room}, UnstoredHandlers.{may_moved, read_then}}

-- WHAT WAS LET GO

-- whoever waited and starts over wasn't bound
pub bound_back : (now : ℕ) (es : List ℕ) (q : ℕ) (o : Option rows.Consumer) → is_bound q (option_map (back_from_any now es) o) ≡ is_bound q o
bound_back now es q o = grind (arith, nat_tests)

pub bound_without : (now : ℕ) (es : List ℕ) (t : Tables) (q : ℕ) → bound (without now es t) q ≡ bound t q
bound_without now es t q = bound_same t (without now es t) q refl (λ d. bound_back now es q (t.consumer d))

-- who is bound where others were before
none_left : (f g : ℕ → Bool) → ((d : ℕ) → g d ≡ false → f d ≡ false) → (ds : List ℕ) → filter g ds ≡ [] → filter f ds ≡ []
none_left f g fewer [] none = refl
none_left f g fewer (d ∷ ds) none = elim (cases_Bool (g d)) [
  | inl on ↦ absurd (let never : d ∷ filter g ds ≡ [] = rw on at none in cc)
  | inr off ↦ let too = fewer d off in rw too (none_left f g fewer ds (rw off at none))
]

-- room may be made where some were let go
pub make_gone : (now : ℕ) (rs : List ℕ) (s : Tables) → MayMakeRoom s → MayMakeRoom (let_all_go now rs s)
make_gone now rs s may = record {
  may = keeps_may_all now rs s may.may;
  used = subst (λ (z : Tables). AreOnce z.used) (sym (all_go_is now rs s)) may.used;
  founded = subst (λ (z : Tables). AreOnce z.founded) (sym (all_go_is now rs s)) may.founded;
  sized = λ q p there used. by_row q (s.representation q) refl (is_in rs q) (sym (ap (λ (z : Tables). z.representation q) (all_go_is now rs s)) ∙ there)
      (λ gone none. used gone (ap (λ (z : Tables). bound z q) (all_go_is now rs s) ∙ (bound_without now rs s q ∙ none)));
}
  where
    by_row : (q : ℕ) (o : Option Representation) → s.representation q ≡ o → (b : Bool) {p : Representation} →
        (if b then option_map as_gone o else o) ≡ Some p → IsInUse s q p → p.size ≡ Rattle.hc_sparse.specs.Cells.size p.stored
    by_row q (Some a) at true {p} is used =
        (let one : as_gone a ≡ p = some_is (as_gone a) p is in
        subst (λ (z : Representation). z.size ≡ Rattle.hc_sparse.specs.Cells.size z.stored) one
        (may.sized q a at (λ gone. used (ap (λ (z : Representation). z.is_gone) (sym one)))))
    by_row q (Some a) at false {p} is used =
        (let one : a ≡ p = some_is a p is in
        subst (λ (z : Representation). z.size ≡ Rattle.hc_sparse.specs.Cells.size z.stored) one
        (may.sized q a at (λ gone. used (ap (λ (z : Representation). z.is_gone) (sym one) ∙ gone))))
    by_row q None at true {p} is used = none_some p is
    by_row q None at false {p} is used = none_some p is

some_may : (now : ℕ) (o : Option ℕ) (s : Tables) → MayLetGo s → MayLetGo (let_some_go now o s)
some_may now None s may = may
some_may now (Some q) s may = keeps_may now q s may

module _ (limits : Limits) (t : Tables) (facts : Facts limits t) (now x : ℕ) (w : Exchange) (v : rows.Consumer) (awaits : AwaitsHead t x w v)
    (as_gone : Option ℕ) where
  -- its consumer reads past the store
  abbrev pub past : rows.Consumer
  past = record v { place = place.Direct x }

  abbrev pub fallback : Tables
  fallback = with_consumer w.c (Some past) t

  abbrev pub its_current : Option ℕ
  its_current = current t w.request.key

  abbrev pub first : Tables
  first = let_some_go now as_gone fallback

  abbrev pub second : Tables
  second = let_some_go now its_current first

  abbrev goes_first : List ℕ
  goes_first = with_item_first as_gone (with_item_first its_current [])

  second_is : second ≡ let_all_go now goes_first fallback
  second_is = sym (all_one now as_gone (with_item_first its_current []) fallback ∙ all_one now its_current [] first)

  pub may_fallback : MayLetGo fallback
  may_fallback = may_moved t w.c v past awaits.asker (λ q kept h. (let never : place.Direct x ≡ place.Passed q kept = h in absurd (cc)))
      (may_let_go t facts.law)

  pub may_first : MayLetGo first
  may_first = some_may now as_gone fallback may_fallback

  -- what nobody was bound to nobody is bound to
  still : (q : ℕ) → bound t q ≡ [] → bound fallback q ≡ []
  unfolding bound
  still q none = grind (arith, nat_tests, none_left, is_bound)

  make_fallback : MayMakeRoom fallback
  make_fallback = let may = may_make_room t facts in
      record {
        may = may_fallback;
        used = may.used;
        founded = may.founded;
        sized =
            λ q p there used. may.sized q p there (λ gone none. used gone (still q none));
      }

  pub make_second : MayMakeRoom second
  make_second = subst MayMakeRoom (sym second_is) (make_gone now goes_first fallback make_fallback)

  fits_second : weights_now second ≤ limits.max_total
  fits_second =
      let gone_less : weights_now (let_all_go now goes_first fallback) ≤ weights_now fallback = all_weigh_less now goes_first fallback may_fallback in
      let fallback_less : weights_now fallback ≤ weights_now t = all_weigh_apart w.c past t (λ q. refl) in
      let all : weights_now t ≤ limits.max_total = facts.fits in
      subst (λ (z : Tables). weights_now z ≤ limits.max_total) (sym second_is) (omega (arith, gone_less, fallback_less, all))

  -- one gives way at most
  pub one_way : (count : ℕ) → room_now limits second write.Slot ≡ room.After count → count ≤ 1
  one_way count is = one_gives_way limits second write.Slot count fits_second (omega arith) is

  -- WHERE THAT MADE ROOM

  abbrev pub es : List ℕ
  es = giving_way limits second write.Slot

  abbrev pub m : Tables
  m = let_all_go now es second

  abbrev all_gone : List ℕ
  all_gone = with_item_first as_gone (with_item_first its_current es)

  m_is : m ≡ let_all_go now all_gone fallback
  m_is = sym (all_one now as_gone (with_item_first its_current es) fallback ∙ all_one now its_current es first)

  make_m : MayMakeRoom m
  make_m = make_gone now es second make_second

  m_without : m ≡ without now all_gone fallback
  m_without = m_is ∙ all_go_is now all_gone fallback

  m_row : m.exchange x ≡ Some w
  m_row = ap (λ (z : Tables). z.exchange x) m_without ∙ awaits.row

  pub m_asker : m.consumer w.c ≡ Some past
  m_asker = ap (λ (z : Tables). z.consumer w.c) m_without ∙ rw (eqb-same w.c) refl

  m_other : (d : ℕ) (u : rows.Consumer) → m.consumer d ≡ Some u → w.c ≢ d → (t.consumer d ≡ Some u) ⊎ (u.place ≡ place.Line)
  m_other d u is ne = by_row (t.consumer d) refl (sym (ap (λ (z : Tables). z.consumer d) m_without ∙ rw (eqb-other w.c d ne) refl) ∙ is)
    where
      by_test : (a : rows.Consumer) (b : Bool) → t.consumer d ≡ Some a → (if b then back_in_line now a else a) ≡ u →
          (t.consumer d ≡ Some u) ⊎ (u.place ≡ place.Line)
      by_test a true at same = inr (ap (λ (z : rows.Consumer). z.place) (sym same))
      by_test a false at same = inl (at ∙ ap Some same)

      by_row : (o : Option rows.Consumer) → t.consumer d ≡ o → option_map (back_from_any now all_gone) o ≡ Some u →
          (t.consumer d ≡ Some u) ⊎ (u.place ≡ place.Line)
      by_row None at same = none_some u same
      by_row (Some a) at same = by_test a (waits_for_any all_gone a.place) at (some_is _ u same)

  unfounded : t.representation x ≡ None
  unfounded = facts.law.sound.numbered.names.unfounded x w awaits.row awaits.headless

  pub m_unfounded : m.representation x ≡ None
  m_unfounded = ap (λ (z : Tables). z.representation x) m_without ∙
      (ap (λ (o : Option Representation). if is_in all_gone x then option_map Rattle.hc_model.specs.Effects.as_gone o else o) unfounded ∙
      grind (arith, nat_tests))

  pub m_fresh : IsUnfounded m x
  m_fresh = record {
    listed = subst (λ (z : Tables). Among x z.openings) (sym m_without)
        (facts.law.sound.numbered.lists.opened x (ap (λ (o : Option Exchange). is_some o) awaits.row));
    unbound = λ d lo hi how u is at. elim (same_or w.c d) [
      | inl e ↦ (let one : past ≡ u = some_is past u (sym (ap m.consumer (sym e) ∙ m_asker) ∙ is) in
          let never : place.Direct x ≡ place.Bound x lo hi how = ap (λ (z : rows.Consumer). z.place) one ∙ at in absurd (cc))
      | inr ne ↦ elim (m_other d u is ne) [
        | inl was ↦ none_there (t.representation x) unfounded (facts.law.sound.numbered.bound_to x d u (sound.is_bound lo hi how was at))
        | inr lined ↦ (let never : place.Line ≡ place.Bound x lo hi how = sym lined ∙ at in absurd (cc))
      ]
    ];
    apart = λ y e ne at same. by_joined y e ne (sym (ap (λ (z : Tables). z.exchange y) m_without) ∙ at) e.joined refl same;
  }
    where
      none_there : (o : Option Representation) → o ≡ None → is_some o ≡ true → ⊥
      none_there None is on = false_true on
      none_there (Some p) is on = none_some p (sym is)

      by_joined : (y : ℕ) (e : Exchange) → y ≢ x → t.exchange y ≡ Some e → (o : Option ℕ) → e.joined ≡ o → family y e ≡ x → ⊥
      by_joined y e ne at None is same = ne (sym (ap (λ (o : Option ℕ). unwrap_or o y) is) ∙ same)
      by_joined y e ne at (Some q) is same =
          let one : q ≡ x = sym (ap (λ (o : Option ℕ). unwrap_or o y) is) ∙ same in
          none_there (t.representation x) unfounded (facts.law.sound.numbered.names.joined y x e at (is ∙ ap Some one))

  module _ (unshown : v.shown ≡ false) where
    pub m_alone : IsReadAlone m x w past
    m_alone = read_then t facts.law x w v awaits m past m_asker m_other m_row m_unfounded
        (λ q lo hi h. (let never : place.Direct x ≡ place.Bound q lo hi (by.FirstHole x) = h in absurd (cc))) refl unshown

-- THE ROOM

slot_full : (limits : Limits) (sum : ℕ) (ws : List ℕ) → sum + 32768 ≤ limits.max_total → room_of limits sum write.Slot ws ≡ room.Full → ⊥
unfolding room_of
slot_full limits sum ws le full = by_list ws full
  where
    fits : nat_le (sum + 32768) limits.max_total ≡ true
    fits = grind (arith, nat_tests, le)

    by_list : (ws : List ℕ) → room_of limits sum write.Slot ws ≡ room.Full → ⊥
    by_list [] is = (let never : room.After 0 ≡ room.Full = sym (rw fits refl) ∙ is in cc)
    by_list (n ∷ ns) is = (let never : room.After 0 ≡ room.Full = sym (rw fits refl) ∙ is in cc)

slot_small : (limits : Limits) (sum : ℕ) (ws : List ℕ) → room_of limits sum write.Slot ws ≡ room.TooLarge → ⊥
unfolding room_of
slot_small limits sum ws large = grind (arith, nat_tests)

-- there is room where the slot fits once that gave way
slot_room : (limits : Limits) (now : ℕ) (s : Tables) → weights_now (let_all_go now (giving_way limits s write.Slot) s) + 32768 ≤ limits.max_total →
    has_room (room_now limits s write.Slot) ≡ true
slot_room limits now s le = grind (arith, nat_tests, slot_small, slot_full)

-- and it is full where the slot doesn't
slot_none : (limits : Limits) (now : ℕ) (s : Tables) → MayMakeRoom s →
    limits.max_total < weights_now (let_all_go now (giving_way limits s write.Slot) s) + 32768 → room_now limits s write.Slot ≡ room.Full
slot_none limits now s may past = grind (arith, nat_tests, fits_after, slot_small)

evicts_quietly : (qs : List ℕ) → flaw_in (map act.Evicted qs) ≡ NoFlaw
evicts_quietly [] = refl
evicts_quietly (q ∷ qs) = evicts_quietly qs

evicts_lossy : (qs : List ℕ) (r : ℕ) (kind : LostKind) → flaw_in (map act.Evicted qs ++ (act.Lost r kind ∷ [])) ≡ Loses r kind
evicts_lossy [] r kind = refl
evicts_lossy (q ∷ qs) r kind = evicts_lossy qs r kind

-- THE CASES

goes_founds : (t : Tables) (w : Exchange) (response : Response) (g : HeadCase) → Founds g → goes_with t w response g ≡ replaces w g
goes_founds t w response _ whole = refl
goes_founds t w response _ part = refl
goes_founds t w response _ replaced = refl

founds_founding : (g : HeadCase) → Founds g → is_founding (Some g) ≡ true
founds_founding _ whole = refl
founds_founding _ part = refl
founds_founding _ replaced = refl

doomless : (w : Exchange) (response : Response) (g : HeadCase) → Founds g → doomed_by_case (Some g) w response ≡ None
doomless w response _ whole = refl
doomless w response _ part = refl
doomless w response _ replaced = refl

founder_waits : (x : ℕ) (response : Response) (w : Exchange) (v : rows.Consumer) (rs : List ℕ) (g : HeadCase) → Founds g →
    waits_for_any rs (founder x response w g v).place ≡ false
founder_waits x response w v rs _ whole = refl
founder_waits x response w v rs _ replaced = refl
founder_waits x response w v rs _ part = grind (arith, nat_tests)

-- what is kept of what is founded is what the tables say
shared_is : (g : HeadCase) → Founds g → is_shared_by g ≡ not (is_part g)
shared_is _ whole = refl
shared_is _ part = refl
shared_is _ replaced = refl

or_same : (p : Option ℕ) → option_or p p ≡ p
or_same p = grind (arith, nat_tests)

-- its consumer reads it as the tables say
founder_is : (x : ℕ) (response : Response) (w : Exchange) (v : rows.Consumer) (lo : ℕ) (hi : Option ℕ) (shared : Bool) (g : HeadCase) → Founds g →
    (is_part g ≡ false → founded_total w response ≡ promise_in w response) →
    (is_part g ≡ true → (span : Span) × (wanted_of (range_of v.request) (founded_total w response) ≡ wanted.Interval span))
    → shared ≡ is_shared_by g → lo ≡ (part_by (is_shared_by g) (range_of v.request) (founded_total w response)).0 →
    hi ≡ (part_by (is_shared_by g) (range_of v.request) (founded_total w response)).1
    → record v { place = place.Bound x lo hi by.Founding; own = if shared then None else v.own } ≡ founder x response w g v
founder_is x response w v lo hi shared _ whole wholes parts shares from to =
    rw (from, to, shares) (ap (λ (p : Option ℕ). record v { place = place.Bound x 0 p by.Founding; own = None }) (wholes refl))
founder_is x response w v lo hi shared _ replaced wholes parts shares from to =
    rw (from, to, shares) (ap (λ (p : Option ℕ). record v { place = place.Bound x 0 p by.Founding; own = None }) (wholes refl))
founder_is x response w v lo hi shared _ part wholes parts shares from to = (let span = parts refl in let wants = span.1 in rw (from, to, shares, wants) refl)

founder_ends : (response : Response) (w : Exchange) (v : rows.Consumer) (hi : Option ℕ) (g : HeadCase) → Founds g →
    (is_part g ≡ true → (span : Span) × (wanted_of (range_of v.request) (founded_total w response) ≡ wanted.Interval span))
    → hi ≡ (part_by (is_shared_by g) (range_of v.request) (founded_total w response)).1 → option_or hi (founded_total w response) ≡ hi
founder_ends response w v hi _ whole parts to = rw to (or_same (founded_total w response))
founder_ends response w v hi _ replaced parts to = rw to (or_same (founded_total w response))
founder_ends response w v hi _ part parts to = (let span = parts refl in let wants = span.1 in rw (to, wants) refl)

module _ (limits : Limits) (t : Tables) (facts : Facts limits t) (now x : ℕ) (response : Response) (goes : denial t (event.Head x response) ≡ None)
    (w : Exchange) (v : rows.Consumer) (awaits : AwaitsHead t x w v) (g : HeadCase) (founds : Founds g)
    (is : head_case (head_view t false w response) ≡ g) (as_gone : Option ℕ) (same : as_gone ≡ goes_with t w response g) where
  abbrev ev : Event
  ev = event.Head x response

  gone_is : as_gone ≡ replaces w g
  gone_is = same ∙ goes_founds t w response g founds

  unshown : v.shown ≡ false
  unshown = founder_unshown limits t facts.law now x response goes w awaits.row v awaits.asker g founds is

  abbrev left : Tables
  left = second limits t facts now x w v awaits as_gone

  abbrev roomy : Tables
  roomy = m limits t facts now x w v awaits as_gone

  pub read_alone : IsReadAlone roomy x w (past limits t facts now x w v awaits as_gone)
  read_alone = m_alone limits t facts now x w v awaits as_gone unshown

  tests : (r : ℕ) (p : Representation) → t.representation r ≡ Some p → goes_by_case t (entry_without_acts now ev) r (Some g) w ≡ is_in
      (with_item_first as_gone (with_item_first (current t w.request.key) [])) r
  tests r p there =
      founds_goes limits t facts.law now x response goes w awaits.row v awaits.asker g founds r
      ∙ ap (λ (o : Option ℕ). is_in (with_item_first o (with_item_first (current t w.request.key) [])) r) (sym gone_is)

  room_is_left : room_for limits t now ev ≡ room_now limits left write.Slot
  room_is_left =
      room_same limits t facts.law now x response goes w awaits.row v awaits.asker g is (doomless w response g founds) (founds_founding g founds)
      (with_item_first as_gone (with_item_first (current t w.request.key) [])) tests (may_fallback limits t facts now x w v awaits as_gone)
      ∙ ap (λ (s : Tables). room_now limits s write.Slot) (sym (second_is limits t facts now x w v awaits as_gone))

  evicts_left : evicted limits t now ev ≡ es limits t facts now x w v awaits as_gone
  evicts_left =
      gives_same limits t facts.law now x response goes w awaits.row v awaits.asker g is (doomless w response g founds) (founds_founding g founds)
      (with_item_first as_gone (with_item_first (current t w.request.key) [])) tests (may_fallback limits t facts now x w v awaits as_gone)
      ∙ ap (λ (s : Tables). giving_way limits s write.Slot) (sym (second_is limits t facts now x w v awaits as_gone))

  -- WHAT IS FOUNDED

  replaced_there : (h : HeadCase) → Founds h → (q : ℕ) → replaces w h ≡ Some q → HasRow t q
  replaced_there _ whole q at = none_some q at
  replaced_there _ part q at = none_some q at
  replaced_there _ replaced q at = row_there (t.representation q) (facts.law.sound.numbered.names.aims x q w awaits.row at)
    where
      row_there : (o : Option Representation) → is_some o ≡ true → (p : Representation) × (o ≡ Some p)
      row_there None on = false_true on
      row_there (Some p) on = (p, refl)

  abbrev all_left : List ℕ
  all_left = with_item_first as_gone (with_item_first (current t w.request.key) (es limits t facts now x w v awaits as_gone))

  apart : is_in all_left x ≡ false
  apart =
      room_one limits t facts.law now x response goes w awaits.row v awaits.asker as_gone
      (with_item_first (current t w.request.key) (es limits t facts now x w v awaits as_gone)) (λ q at. replaced_there g founds q (sym gone_is ∙ at))
      (room_one limits t facts.law now x response goes w awaits.row v awaits.asker (current t w.request.key) (es limits t facts now x w v awaits as_gone)
      (current_there limits t facts.law now x response goes w awaits.row v awaits.asker)
      (subst (λ (rs : List ℕ). is_in rs x ≡ false) evicts_left (room_apart limits t facts.law now x response goes w awaits.row v awaits.asker)))

  -- what is done last was done first
  last_first : (s : Tables) →
      let_all_go now (evicted limits t now ev) (let_some_go now (current t w.request.key) (let_some_go now (replaces w g) s)) ≡ let_all_go now all_left s
  last_first s = grind (arith, nat_tests, current, replaces, evicts_left, gone_is, all_one)

  module _ {B : Type 0} {b : Ghosts B} (a : Rows B b) (faults : ℕ) (before mid : List Act)
      (gives : GivesWay limits a left now (es limits t facts now x w v awaits as_gone) before mid) where
    abbrev fallback_row : rows.Consumer
    fallback_row = past limits t facts now x w v awaits as_gone

    used_left : (shelf_of a.entries).used ≡ weights_now roomy
    used_left = used_is a roomy (make_m limits t facts now x w v awaits as_gone) gives.rows

    -- the store takes it
    module _ (u : Rows B b) (k asked : Consumer) (o : Open) (f : Founding) (there : get nat_eq a.consumers w.c ≡ Some k)
        (running : (table_of a.exchanges x).running ≡ Some o)
        (range_is : asked.class.range ≡ range_of v.request) (founding : IsFounding o asked g now response f)
        (begins : BeginsFounding a u x w.c f response) (le : (shelf_of a.entries).used + 32768 ≤ limits.max_total) where
      runs : IsRunning roomy x o w
      runs = runs_as a roomy x o w gives.rows running (m_row limits t facts now x w v awaits as_gone)

      total_is : total_by o response ≡ founded_total w response
      total_is = ap₂ (λ (n : Need) (e : Request). if brings_part response.status then total_of_part (content_range_of response.fields) else
          promise_of (length_of n e response)) runs.need runs.request

      part_is : (f.lo, f.hi) ≡ part_by (is_shared_by g) (range_of v.request) (founded_total w response)
      part_is = grind (arith, nat_tests, part_by, total_by, total_is)

      parts : is_part g ≡ true → (span : Span) × (wanted_of (range_of v.request) (founded_total w response) ≡ wanted.Interval span)
      parts on = part_wanted limits t facts.law now x response goes w awaits.row v awaits.asker (by_case g founds on is)
        where
          by_case : (h : HeadCase) → Founds h → is_part h ≡ true → head_case (head_view t false w response) ≡ h →
              head_case (head_view t false w response) ≡ case.FoundsRange
          by_case _ whole on same = false_true on
          by_case _ replaced on same = false_true on
          by_case _ part on same = same

      abbrev q : rows.Consumer
      q = record fallback_row { place = place.Bound x f.lo f.hi by.Founding; own = if f.shared then None else v.own }

      q_is : q ≡ founder x response w g v
      q_is =
          founder_is x response w v f.lo f.hi f.shared g founds
          (total_whole limits t facts.law now x response goes w awaits.row v awaits.asker g founds is) parts founding.shared
          (ap (λ z. z.0) part_is) (ap (λ z. z.1) part_is)

      abbrev founded : rows.Consumer → Tables → Tables
      founded z s = with_consumer w.c (Some z) (with_answer now x response w.joined w (with_founding x (just_founded now x response w) s))

      rows_then : RowsStand limits u (founded q roomy)
      rows_then =
          founded_stands a u roomy now x response w fallback_row k o f (length_of w.need w.request response) gives.rows read_alone
          (m_fresh limits t facts now x w v awaits as_gone) there running refl
          founding.key founding.head
          (founding.shared ∙ (shared_is g founds ∙ ap not (sym (status_is limits t facts.law now x response goes w awaits.row v awaits.asker g founds is))))
          (founder_ends response w v f.hi g founds parts (ap (λ z. z.1) part_is))
          (empty_total limits t facts.law now x response goes w awaits.row v awaits.asker g founds is) begins
          (ap (λ z. length_by z response) running ∙ ap₂ (λ (n : Need) (e : Request). length_of n e response) runs.need runs.request) gives.rows.limits

      tables_are : let_all_go now (evicted limits t now ev)
          (let_some_go now (current t w.request.key) (let_some_go now (replaces w g) (founded (founder x response w g v) t))) ≡ founded q roomy
      tables_are =
          last_first (founded (founder x response w g v) t)
          ∙ (founded_last now x w.c response w.joined w (founder x response w g v) all_left t (just_founded now x response w) fallback_row apart
          (founder_waits x response w v all_left g founds)
          ∙ (ap (founded (founder x response w g v)) (sym (m_is limits t facts now x w v awaits as_gone)) ∙
          ap (λ (z : rows.Consumer). founded z roomy) (sym q_is)))

      pub founds_answered : Answered limits faults u t before mid now ev
      founds_answered =
          let done = founds_does limits t facts.law now x response goes w awaits.row v awaits.asker g founds is in
          record {
            flaw = NoFlaw;
            acts = gives.acts ∙ ap (λ ys. before ++ ys) (ap (map act.Evicted) (sym evicts_left) ∙ sym done.acts_are);
            shown = ap flaw_in done.acts_are ∙ evicts_quietly (evicted limits t now ev);
            may = ap has_room room_is_left ∙ slot_room limits now left (subst (λ n. n + 32768 ≤ limits.max_total) used_left le);
            caused = λ is. false_true is;
            rows = subst (RowsStand limits u) (sym (done.tables_are ∙ ap (with_event now ev) tables_are))
                (stands_counted u (founded q roomy) now ev refl rows_then);
          }

    -- and the store refuses it
    module _ (u : Rows B b) (kind : LostKind) (out : List Act) (rows_then : RowsStand limits u (with_answer now x response w.joined w roomy))
        (reported : out ≡ mid ++ (act.Lost x kind ∷ [])) (may : may_lose (room_for limits t now ev) kind ≡ true)
        (caused : is_fault (Loses x kind) ≡ true → faults < (shelf_of u.entries).faults) where
      lost_tables : let_all_go now (evicted limits t now ev)
          (let_some_go now (current t w.request.key)
          (let_some_go now (replaces w g) (with_consumer w.c (Some fallback_row) (with_answer now x response w.joined w t)))) ≡ with_answer now x response
          w.joined w roomy
      lost_tables = grind (arith, nat_tests, last_first, past_last, all_left, m_is)

      may_fail : (a : Bool) → a ≡ true → (nat_eq x x && true && a) ≡ true
      may_fail a on = (let self = eqb-same x in rw (self, on) refl)

      pub lost_answered : Answered limits faults u t before out now ev
      lost_answered =
          let done = lost_does limits t facts.law now x response goes w awaits.row v awaits.asker kind g founds is in
          let writes = founding_writes limits t now x response w (Loses x kind) awaits.row (ap (λ h. is_founding (Some h)) is ∙ founds_founding g founds) in
          let none = unfounded limits t facts now x w v awaits as_gone in
          record {
            flaw = Loses x kind;
            acts = reported ∙ (ap (λ ys. ys ++ (act.Lost x kind ∷ [])) gives.acts
                ∙ (append_assoc before (map act.Evicted (es limits t facts now x w v awaits as_gone)) (act.Lost x kind ∷ [])
                ∙ ap (λ ys. before ++ ys) (ap (λ rs. map act.Evicted rs ++ (act.Lost x kind ∷ [])) (sym evicts_left) ∙ sym done.acts_are)));
            shown = ap flaw_in done.acts_are ∙ evicts_lossy (evicted limits t now ev) x kind;
            may = rw (writes, none) (may_fail (may_lose (room_for limits t now ev) kind) may);
            caused = caused;
            rows = subst (RowsStand limits u) (sym (done.tables_are ∙ ap (with_event now ev) lost_tables))
                (stands_counted u (with_answer now x response w.joined w roomy) now ev refl rows_then);
          }

    -- it is full where the store says so
    pub full_reported : limits.max_total < (shelf_of a.entries).used + 32768 → may_lose (room_for limits t now ev) kinds.Full ≡ true
    full_reported past = ap (λ (e : Room). may_lose e kinds.Full)
        (room_is_left ∙ slot_none limits now left (make_second limits t facts now x w v awaits as_gone)
        (subst (λ n. limits.max_total < n + 32768) used_left past))
