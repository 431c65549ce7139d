-- What a doom does: who waits for the key starts over, what they wait for is closed, and what is current is let go.
--
-- An exchange is closed exactly where it is awaited for the key (`closes_as_awaited`). What is current for the key
-- goes, and nothing else (`current_is`, `goes`); no other row changes (`rows`). A consumer starts over where it waits
-- for the key, or for what goes (`consumers`). `tables_are` joins these rows, and `doom_does` adds the acts. The
-- handler of a doom is proved by it.
use Rattle.std.{proofs.Common.{◌≡◌, inl, inr, ℕ, List, [], Bool, true, false, Option, Some, None, refl, ap, ap₂, sym, ◌∙◌}, specs.Prelude.{◌&&◌, ◌||◌, is_none, bytes_eq, if◌then◌else◌, map, filter, reverse, option_map}}
use mathlib.Core.Path.{fun_ext}
use Rattle.hc_text.proofs.Basics.{and_left, and_right, bool_cases, not_some as none_some, never_true as not_so, and_off as then_false}
use Rattle.hc_text.specs.declared.names.Key.{Key}
use Rattle.hc_effects.proofs.Vocabulary.{brings_whole, act, Event, Limits, closing, closes_row, awaits, consumer_after, back_in_line, current, is_current, is_number, denial, doomed_key_of, Does, with_event, let_some_go, let_all_go, as_gone, over, all_closed, sent_back, woken, is_awaited, awaited_and, Entry, family, NoFlaw, beside, becomes_gone, ends_early, ends_founding, Lawful, representation_after, Tables, Exchange, Representation, Consumer, after_accepted, with_item_first}
use Rattle.hc_event.specs.declared.event.Event.TheVariants as event
use Rattle.hc_rules.specs.Refusals as refusals
use Rattle.hc_rules.proofs.RangeReads.{bytes_eq-same, same_bytes}
use Rattle.hc_effects.proofs.{Basics.{false_true, number_is}, ConsumerEffects.{some_all}, DoomFrames.{sent_as, awaited_apart}, FewClosings.{nothing_lost}, KeyNames.{current_key}, SameTables.{is_in, in_one, back_from_any, all_closed_is}, Standing.{after_heard}, Dues.{undue_of, stop_none}, ReportedFrames.{dooms, says_little, exchange_other, goes_as, closes_as, far, representation_by, representation_none, beside_same, starts_is, reported_by, reported_plainly}, Untouched.{loss_spared, spared_bodiless, consumer_absent}}
use Rattle.hc_effects.proofs.ReportedFrames as reported

module _ (limits : Limits) (t : Tables) (law : Lawful t) (now : ℕ) (key : Key) where
  abbrev ev : Event
  ev = event.Doom key

  abbrev xs : List ℕ
  xs = awaited_and t key None

  abbrev it : Entry
  it = reported.e t now ev (dooms key) NoFlaw xs

  abbrev b : Entry
  b = record { now = now; event = ev; acts = [] }

  -- WHAT IS CLOSED

  closes_as_awaited : (y : ℕ) (z : Option Exchange) → closes_row t b y z ≡ is_awaited t key y z
  unfolding doomed_key_of
  closes_as_awaited y None = refl
  closes_as_awaited y (Some w) =
      rw ((says_little t now ev (dooms key)).caseless [], nothing_lost t b (λ r v there. refl) y (family y w))
      (absorbs (bytes_eq key w.request.key) w.is_open (is_none w.head) (awaits (t.consumer w.c) y))
    where
      absorbs : (a o h c : Bool) → ((false || ((a && (o && h)) && c) || false || false) && o) ≡ ((a && (o && h)) && c)
      absorbs true true true true = refl
      absorbs true true true false = refl
      absorbs true true false c = refl
      absorbs true false h c = refl
      absorbs false o h c = refl

  closing_is : closing t b ≡ xs
  unfolding closing
  closing_is = ap (λ (test : ℕ → Bool). filter test (reverse t.openings)) (fun_ext (λ y. closes_as_awaited y (t.exchange y)))

  -- nothing is founded by what waits for its head
  unfounded : (r : ℕ) (v : Representation) → t.representation r ≡ Some v → is_in xs r ≡ false
  unfounded = awaited_apart t key law.sound None (λ x is. absurd (none_some x is))

  -- WHAT GOES

  current_is : (r : ℕ) (v : Representation) → t.representation r ≡ Some v → (is_current t v.key r && bytes_eq key v.key) ≡ is_number (current t key) r
  current_is r v there = elim (bool_cases (is_number (current t key) r)) [
    | inl on ↦
        let now_is : current t key ≡ Some r = number_is (current t key) r on in
        let same : v.key ≡ key = current_key t key r v now_is there in
        let first : is_current t v.key r ≡ true = ap (λ k. is_number (current t k) r) same ∙ on in
        let second : bytes_eq key v.key ≡ true = ap (bytes_eq key) same ∙ bytes_eq-same key key refl in
        rw (first, second) (sym on)
    | inr off ↦
        not_so (is_current t v.key r && bytes_eq key v.key) (λ both.
        let same : key ≡ v.key = same_bytes key v.key (and_right (is_current t v.key r) _ both) in
        false_true (sym off ∙ (ap (λ k. is_number (current t k) r) same ∙ and_left (is_current t v.key r) _ both)))
        ∙ sym off
  ]

  abbrev rs : List ℕ
  rs = with_item_first (current t key) []

  goes : (r : ℕ) (v : Representation) → t.representation r ≡ Some v → becomes_gone t it r v ≡ is_in rs r
  unfolding doomed_key_of
  goes r v there =
      goes_as t now ev (dooms key) NoFlaw xs r v
      ∙ (rw ends_none (drop (is_current t v.key r && bytes_eq key v.key)) ∙ (current_is r v there ∙ sym (in_one (current t key) r)))
    where
      drop : (a : Bool) → (a || false || false) ≡ a
      drop true = refl
      drop false = refl

      by_row : (z : Option Exchange) → ends_founding it r z ≡ false
      by_row None = refl
      by_row (Some w) = then_false w.is_open _ (closes_as t now ev (dooms key) NoFlaw xs r ∙ unfounded r v there)

      ends_none : ends_early t it r v ≡ false
      ends_none = then_false (brings_whole v.head.status) _ (by_row (t.exchange r))

  rows : (r : ℕ) → representation_after t it r (t.representation r) ≡ (if is_in rs r then option_map as_gone (t.representation r) else t.representation r)
  rows r = by_row (t.representation r) refl
    where
      by_row : (z : Option Representation) → t.representation r ≡ z → representation_after t it r z ≡ (if is_in rs r then option_map as_gone z else z)
      by_row None there = representation_none t now ev (dooms key) NoFlaw xs r (is_in rs r)
      by_row (Some v) there = representation_by t now ev (dooms key) NoFlaw xs r v v (is_in rs r) refl refl (goes r v there)

  -- WHO STARTS OVER

  stays : (c : ℕ) (k : Consumer) → t.consumer c ≡ Some k → beside t it c k ≡ k
  stays c k row =
      let spared = spared_bodiless t it k.place refl in
      beside_same t now ev (dooms key) NoFlaw xs c k
      (undue_of t it c k (record { stop = stop_none t it k refl; loss = loss_spared t it c k.place spared; head = refl })) spared (law.owned.idle_due c k row)

  consumers : (c : ℕ) → consumer_after t it c (t.consumer c) ≡ option_map (back_from_any now rs) (option_map (sent_back t now key) (t.consumer c))
  unfolding doomed_key_of
  consumers c = by_row (t.consumer c) refl
    where
      by_row : (z : Option Consumer) → t.consumer c ≡ z → consumer_after t it c z ≡ option_map (back_from_any now rs) (option_map (sent_back t now key) z)
      by_row None row = consumer_absent t it c refl
      by_row (Some k) row =
          after_heard t it c k (far t now ev (dooms key) NoFlaw xs c) refl (Some k) refl
          ∙ (ap Some (ap₂ (λ (a : Bool) (q : Consumer). if a then back_in_line now k else q)
          (starts_is t now ev (dooms key) NoFlaw xs law rs goes c k row) (stays c k row)) ∙ sent_as t now key rs k)

  -- WHAT IT DOES

  never_denied : denial t ev ≡ None
  unfolding refusals.refusal_of
  never_denied = refl

  tables_are : after_accepted t it ≡ with_event now ev (let_some_go now (current t key) (all_closed xs (woken now key t)))
  tables_are =
      reported_by t now ev (dooms key) NoFlaw xs rs (λ y. if is_in xs y then option_map over (t.exchange y) else t.exchange y) t.representation
      (woken now key t).consumer
      (λ y. exchange_other t now ev (dooms key) NoFlaw xs y (λ x is. absurd (none_some x is)))
      rows consumers
      ∙ (ap (λ (u : Tables). with_event now ev (let_all_go now rs u)) (sym (all_closed_is xs (woken now key t)))
      ∙ ap (with_event now ev) (some_all now (current t key) (all_closed xs (woken now key t))))

  pub doom_does : Does limits t now ev NoFlaw (map act.Close (awaited_and t key None))
      (with_event now ev (let_some_go now (current t key) (all_closed (awaited_and t key None) (woken now key t))))
  doom_does = reported_plainly t now ev (dooms key) NoFlaw xs limits law never_denied (let_some_go now (current t key) (all_closed xs (woken now key t)))
      closing_is tables_are refl
