-- Who waits for a head keeps its own exchange, and this isn't closed, until its consumer leaves or starts over.
--
-- A headless exchange has a waiter, its consumer (`waiter_of`). A head or a fault for that is of this exchange
-- (`head_is_own`, `fault_is_own`), so any other event says nothing to it (`heard_same`). The acts leave it its own
-- exchange (`own_acted`). This isn't closed either (`unclosed_unless`): nobody else can leave it, and a doom or a loss
-- of what it is about makes its consumer start over. Many files use this.
use Rattle.std.{proofs.{Common.{◌≡◌, ◌⊎◌, inl, inr, ℕ, Bool, true, false, Option, Some, None, refl, ap, sym, ◌∙◌, subst, arith}, lemmas.Bool.Decides.{nat_tests}}, specs.{Prelude.{if◌then◌else◌, is_some, is_none, ◌&&◌, ◌==◌, not, nat_eq, unwrap_or}, Option.{option_and_then}}}
use Rattle.hc_text.proofs.Basics.{both_true as and_both, and_left, and_right, bool_cases, not_some as none_some, never_true as not_so, or_cases, or_left, same_some as same_row, some_inj}
use Rattle.hc_effects.proofs.Vocabulary.{Opening, opening_in, leaves_in, closes_in, Event, Response, Place, BoundBy, case_at, case_of, must_close, is_refused, brings_head, is_doomed, awaits, has_no_survivor, is_left, is_left_by, is_last_reader, leaver, leaver_by, consumer_heard, by_head, by_fault, by_opening, own_after, left_to, waiting, is_number, denial, doomed_key_of, doomed_in, doomed_by_head, doomed_by_case, is_key, Entry, family, exchange_in, is_headless, is_open, entry_of, IsAwaiting, own_open, if_open, is_written, shared_exchange, group_in, Tables, Exchange, Representation, Consumer, IsAbout, IsExclusiveWriter, starts_over, waits_at, awaited_exchange, loses_group, survivor, event, place}
use Rattle.hc_model.specs.Owners as owners
use Rattle.hc_model.specs.Sound as sound
use Rattle.hc_effects.proofs.{Basics.{false_true, number_is}, BoundFrom.{place_inj}, Closed.{before}, FirstKeeps.{is_new}, MoveBy.{IsHeard}, OpensFrom.{hole_is}, OwnersKeep.{is_opened}, PieceKeeps.{eq_cases}, ExclusiveWriters.{row_of, writer_some}, SaidActs.{loss_is, leaver_leaves}, Stops.{writer_about}, Unclosed.{had_to}, StaysOn.{unopened}, Step.{Step}}
use Rattle.hc_rules.specs.Refusals as refusals

-- c waits for the head of its own exchange y
pub record IsWaiter (t : Tables) (c y : ℕ) (k : Consumer) (w : Exchange) : Type 0 where
  pub row : t.consumer c ≡ Some k
  pub exchange_row : t.exchange y ≡ Some w
  pub for_it : w.c ≡ c
  pub own : k.own ≡ Some y
  pub was_open : w.is_open ≡ true
  pub bare : w.head ≡ None
  pub key_is : w.request.key ≡ k.request.key
  pub at : IsAwaiting y w k.place

module _ (step : Step) where
  open step use {limits, tables as t, now, flaw, sound as s, owners as o, event as ev, accepted as goes}

  abbrev e : Entry
  e = entry_of limits t now ev flaw

  abbrev b : Entry
  b = before limits t now flaw s ev

  -- an exchange that waits for its head has a waiter
  pub waiter_of : (y : ℕ) (w : Exchange) → t.exchange y ≡ Some w → w.is_open ≡ true → w.head ≡ None → (k : Consumer) × IsWaiter t w.c y k w
  waiter_of y w row on bare =
      let a = o.waiting y w row on bare in
      let p = o.opener y w row in (
        a.k,
        record {
          row = a.row;
          exchange_row = row;
          for_it = refl;
          own = a.own;
          was_open = on;
          bare = bare;
          key_is = p.key_is ∙
              ap (λ (z : Consumer). z.request.key) (same_row (t.consumer w.c) p.k a.k p.row a.row);
          at = a.at;
        },
      )

  -- who is that consumer
  pub waiter_as : (c y : ℕ) (k : Consumer) (w : Exchange) → t.consumer c ≡ Some k → t.exchange y ≡ Some w → w.c ≡ c → w.is_open ≡ true → w.head ≡ None →
      IsWaiter t c y k w
  waiter_as c y k w k_row row mine on bare =
      let got = waiter_of y w row on bare in
      let one : got.0 ≡ k = same_row (t.consumer c) got.0 k (sym (ap t.consumer mine) ∙ got.1.row) k_row in
      subst (λ n. IsWaiter t n y k w) mine (subst (λ (q : Consumer). IsWaiter t w.c y q w) one got.1)

  pub case_same : case_at t e ≡ case_at t b
  case_same = ap (λ lost. case_of t lost ev) (loss_is limits t now flaw s ev)

  doomed_row : (response : Response) (z : Option Exchange) → doomed_by_head t e response z ≡ doomed_by_head t b response z
  doomed_row response None = refl
  doomed_row response (Some w) = ap (λ z. doomed_by_case z w response) case_same

  doomed_by : (v : Event) → doomed_in t e v ≡ doomed_in t b v
  doomed_by (event.Head x response) = doomed_row response (t.exchange x)
  doomed_by _ = refl

  pub doomed_same : doomed_key_of t e ≡ doomed_key_of t b
  unfolding doomed_key_of
  doomed_same = doomed_by ev

  -- an accepted fault is one of an open exchange
  pub fault_open_of : (x : ℕ) (u : Exchange) → denial t (event.Fault x) ≡ None → t.exchange x ≡ Some u → u.is_open ≡ true
  unfolding refusals.refusal_of
  fault_open_of x u h row = grind (arith, nat_tests)

  -- WHO LEAVES

  module _ (c y : ℕ) (k : Consumer) (row : t.consumer c ≡ Some k) (own : k.own ≡ Some y) where
    pub left_number : (d : ℕ) (q : Consumer) → t.consumer d ≡ Some q → own_open t q ≡ Some y → d ≡ c
    left_number d q its theirs = grind (arith, nat_tests)

    -- it is the exchange of no writing
    not_writer : (r : ℕ) (z : Option Representation) → t.representation r ≡ z → group_in t z ≡ Some y → ⊥
    not_writer r z there h = grind (arith, nat_tests)

    not_shared : (p : Place) → shared_exchange t p ≡ Some y → ⊥
    not_shared (place.Bound r lo hi how) h = not_writer r (t.representation r) refl h
    not_shared _ h = none_some y h

    left_row : (d : ℕ) (z : Option Consumer) → t.consumer d ≡ z → is_left_by t y d z ≡ true → d ≡ c
    left_row d None its h = absurd (false_true h)
    left_row d (Some q) its h = elim (or_cases (is_number (own_open t q) y) _ h) [
      | inl mine ↦ left_number d q its (number_is (own_open t q) y mine)
      | inr group ↦ absurd (not_shared q.place (number_is (shared_exchange t q.place) y (and_left _ (is_last_reader t d q.place) group)))
    ]

    left_is : (z : Option ℕ) → is_left t y z ≡ true → z ≡ Some c
    left_is None h = absurd (false_true h)
    left_is (Some d) h = ap Some (left_row d (t.consumer d) refl h)

    leaves_by : (v : Event) → ev ≡ v → leaver_by v b.acts ≡ Some c → (leaves_in c e.acts ≡ true) ⊎ (v ≡ event.Cancel c)
    leaves_by (event.Cancel d) at h = inr (let same : d ≡ c = some_inj d c h in ap event.Cancel same)
    leaves_by _ at h = inl (leaver_leaves limits t now flaw s ev c h)

    -- as long as it doesn't leave, its own exchange isn't left
    pub unleft : (ev ≡ event.Cancel c → ⊥) → leaves_in c e.acts ≡ false → is_left t y (leaver b) ≡ true → ⊥
    unleft cancels stays left = elim (leaves_by ev refl (left_is (leaver b) left)) [
      | inl leaves ↦ false_true (sym stays ∙ leaves)
      | inr cancelled ↦ cancels cancelled
    ]

  module _ (c y : ℕ) (k : Consumer) (w : Exchange) (is : IsWaiter t c y k w) where
    pub headless_is : is_headless (t.exchange y) ≡ true
    headless_is = grind (arith, nat_tests)

    pub own_open_is : own_open t k ≡ Some y
    own_open_is = ap (option_and_then (if_open t)) is.own ∙ ap (λ (v : Bool). if v then Some y else None) (ap is_open is.exchange_row ∙ is.was_open)

    -- it isn't told anything but to wait
    pub not_heard : IsHeard t k → ⊥
    not_heard heard = let never : Some y ≡ None = rw (own_open_is, headless_is) at heard in cc

    -- a head for it is that of its exchange
    pub head_is_own : (x : ℕ) (response : Response) (z : Exchange) → ev ≡ event.Head x response → t.exchange x ≡ Some z → z.c ≡ c → x ≡ y
    head_is_own x response z at row here =
        let new = is_new limits t now flaw s ev goes x response z at row in
        let a = o.waiting x z row new.is_open new.bare in
        let one : a.k ≡ k = same_row (t.consumer c) a.k k (sym (ap t.consumer here) ∙ a.row) is.row in
        some_inj x y (sym a.own ∙ (ap (λ (q : Consumer). q.own) one ∙ is.own))

    pub no_opening : (p : Opening) → opening_in e.acts ≡ Some p → p.c ≡ c → ⊥
    no_opening p opens here =
        let opened = is_opened step p opens in
        let one : opened.k ≡ k = same_row (t.consumer c) opened.k k (sym (ap t.consumer here) ∙ opened.row) is.row in
        not_heard (subst (IsHeard t) one opened.way.heard)

    -- of what it reads no writing is on
    pub asks_about : (r lo : ℕ) (hi : Option ℕ) (how : BoundBy) → k.place ≡ place.Bound r lo hi how → IsAwaiting y w k.place → IsAbout t r y
    asks_about r lo hi how at (owners.direct way stands) = absurd (let never : place.Direct y ≡ place.Bound r lo hi how = sym stands ∙ at in cc)
    asks_about r lo hi how at (owners.turn way stands) = absurd (let never : place.Turn y ≡ place.Bound r lo hi how = sym stands ∙ at in cc)
    asks_about r lo hi how at (owners.hole q a z d way aim stands) =
        let same = place_inj q a z d r lo hi how (sym stands ∙ at) in
        let hole = hole_is w.need way in
        sound.asks w hole.from hole.to is.exchange_row is.was_open is.bare hole.is (aim ∙ ap Some same.number)

    pub unwritten : (r lo : ℕ) (hi : Option ℕ) (how : BoundBy) (v : Representation) (x : Option ℕ) → k.place ≡ place.Bound r lo hi how →
        t.representation r ≡ Some v → is_written t v ≡ true → v.writer ≡ x → ⊥
    unwritten r lo hi how v None at row on writer = writer_some t v on writer
    unwritten r lo hi how v (Some x) at row on writer =
        let one : x ≡ y = s.one_about r x y (writer_about t r x v s row on writer) (asks_about r lo hi how at is.at) in
        let grows = (s.rows r v row).growing x on writer in
        let g = grows.1 in
        let same : grows.0 ≡ w = same_row (t.exchange y) grows.0 w (sym (ap t.exchange one) ∙ g.row) is.exchange_row in
        false_true (sym (ap is_some (ap (λ (z : Exchange). z.head) same ∙ is.bare)) ∙ g.headed)

    left_by : (r lo : ℕ) (hi : Option ℕ) (how : BoundBy) (z : Option Representation) → k.place ≡ place.Bound r lo hi how → t.representation r ≡ z →
        left_to t e c r z (Some y) ≡ Some y
    left_by r lo hi how None at row = refl
    left_by r lo hi how (Some v) at row = elim (bool_cases (loses_group t e r v && is_number (survivor t r v) c)) [
      | inr off ↦ rw off refl
      | inl on ↦ absurd (let losing : loses_group t e r v ≡ true = and_left (loses_group t e r v) (is_number (survivor t r v) c) on in
          unwritten r lo hi how v v.writer at row (and_right _ _ losing) refl)
    ]

    pub own_stays : (p : Place) → k.place ≡ p → own_after t e c p (Some y) ≡ Some y
    own_stays (place.Bound r lo hi how) at = left_by r lo hi how (t.representation r) at refl
    own_stays _ at = refl

    pub opening_stays : (q : Consumer) (z : Option Opening) → opening_in e.acts ≡ z → by_opening t c z q ≡ q
    opening_stays q z opens = unopened t e c q z (λ p is. no_opening p (opens ∙ is))

    -- what the acts leave it
    pub own_acted : own_after t e c k.place (by_opening t c (opening_in e.acts) (waiting t e c k)).own ≡ Some y
    own_acted =
        let opened : (by_opening t c (opening_in e.acts) (waiting t e c k)).own ≡ Some y =
        ap (λ (q : Consumer). q.own) (opening_stays (waiting t e c k) (opening_in e.acts) refl) ∙ is.own in
        ap (own_after t e c k.place) opened ∙ own_stays k.place refl

    -- a fault before a head for it is that of its exchange
    fault_is_own : (x : ℕ) (u : Exchange) → ev ≡ event.Fault x → t.exchange x ≡ Some u → (u.c == c) ≡ true → is_none u.head ≡ true → x ≡ y
    fault_is_own x u at row here none =
        let on = fault_open_of x u (sym (ap (denial t) at) ∙ goes) row in
        let a = o.waiting x u row on (none_of u.head none) in
        let test : nat_eq u.c c ≡ true = here in
        let same : u.c ≡ c = grind (arith, nat_tests) in
        let one : a.k ≡ k = same_row (t.consumer c) a.k k (sym (ap t.consumer same) ∙ a.row) is.row in
        some_inj x y (sym a.own ∙ (ap (λ (q : Consumer). q.own) one ∙ is.own))
      where
        none_of : (z : Option Response) → is_none z ≡ true → z ≡ None
        none_of None h = refl
        none_of (Some response) h = absurd (false_true h)

    -- an event of another exchange, by which it doesn't leave, says nothing to it
    pub heard_same : (v : Event) → ev ≡ v → (exchange_in v ≡ Some y → ⊥) → (v ≡ event.Cancel c → ⊥) → consumer_heard t e c v k ≡ k
    heard_same (event.Head x response) at other stays = by_row (t.exchange x) refl
      where
        by_row : (z : Option Exchange) → t.exchange x ≡ z → by_head t e c x response z k ≡ k
        by_row None row = refl
        by_row (Some u) row = elim (eq_cases u.c c) [
          | inl here ↦ absurd (other (ap Some (head_is_own x response u at row here.1)))
          | inr off ↦ rw off.0 refl
        ]
    heard_same (event.Fault x) at other stays = by_row (t.exchange x) refl
      where
        by_row : (z : Option Exchange) → t.exchange x ≡ z → by_fault c x z k ≡ k
        by_row None row = refl
        by_row (Some u) row = elim (bool_cases (u.c == c && is_none u.head && not k.shown)) [
          | inl here ↦ absurd (other (ap Some (fault_is_own x u at row (and_left _ _ (and_left _ _ here)) (and_right _ _ (and_left _ _ here)))))
          | inr off ↦ rw off refl
        ]
    heard_same (event.Cancel d) at other stays = elim (eq_cases d c) [
      | inl here ↦ absurd (stays (ap event.Cancel here.1))
      | inr off ↦ rw off.0 refl
    ]
    heard_same _ at other stays = refl

    -- NOT CLOSED

    waits_place : (p : Place) → awaited_exchange p ≡ Some y → waits_at t p ≡ true
    waits_place p waits = grind (arith, nat_tests)

    doomed_over : is_doomed t b y w ≡ true → starts_over t e c k ≡ true
    unfolding starts_over
    doomed_over h =
        let keyed : is_key (doomed_key_of t b) w.request.key ≡ true = and_left _ _ (and_left _ (awaits (t.consumer w.c) y) h) in
        let key : is_key (doomed_key_of t e) k.request.key ≡ true = ap (λ z. is_key z k.request.key) doomed_same ∙
        (sym (ap (is_key (doomed_key_of t b)) is.key_is) ∙ keyed) in
        let waits : is_number (awaited_exchange k.place) y ≡ true = sym (ap (λ z. awaits z y) (ap t.consumer is.for_it ∙ is.row)) ∙
        and_right _ (awaits (t.consumer w.c) y) h in
        or_left _ _ (or_left _ _ (and_both _ _ key (waits_place k.place (number_is (awaited_exchange k.place) y waits))))

    lost_by : (r : ℕ) (z : Option Representation) → z ≡ None → has_no_survivor t b y r z ≡ true → ⊥
    lost_by r None none h = false_true h
    lost_by r (Some v) none h = let never : Some v ≡ None = none in cc

    unlost : has_no_survivor t b y (family y w) (t.representation (family y w)) ≡ true → ⊥
    unlost h =
        let own : family y w ≡ y = ap (λ (z : Option ℕ). unwrap_or z y) ((s.waits.headless y w is.exchange_row is.bare).1) in
        lost_by (family y w) (t.representation (family y w)) (ap t.representation own ∙ s.numbered.names.unfounded y w is.exchange_row is.bare) h

    refused_by : (v : Event) → brings_head y v ≡ true → (exchange_in v ≡ Some y → ⊥) → ⊥
    refused_by (event.Head x response) h other = let test : nat_eq x y ≡ true = h in let same : x ≡ y = grind (arith, nat_tests) in other (ap Some same)
    refused_by _ h other = false_true h

    -- as long as it neither leaves nor starts over, nor is its head refused, its own exchange isn't closed
    pub unclosed_unless : ((is_refused (case_at t b) && brings_head y ev) ≡ true → ⊥) → (ev ≡ event.Cancel c → ⊥) → leaves_in c e.acts ≡ false →
        starts_over t e c k ≡ false → closes_in y e.acts ≡ false
    unclosed_unless unrefused cancels stays over = not_so (closes_in y e.acts) (λ closed. by_cause (had_to limits t now flaw s ev y w is.exchange_row closed))
      where
        by_cause : must_close t b y w ≡ true → ⊥
        by_cause must = elim (or_cases _ (is_left t y (leaver b)) must) [
          | inr left ↦ unleft c y k is.row is.own cancels stays left
          | inl more ↦ elim (or_cases _ (has_no_survivor t b y (family y w) (t.representation (family y w))) more) [
            | inr lost ↦ unlost lost
            | inl less ↦ elim (or_cases (is_refused (case_at t b) && brings_head y ev) (is_doomed t b y w) less) [
              | inl refused ↦ unrefused refused
              | inr doomed_key_of ↦ false_true (sym over ∙ doomed_over doomed_key_of)
            ]
          ]
        ]

    -- so an event of another exchange leaves it open
    pub unclosed : (exchange_in ev ≡ Some y → ⊥) → (ev ≡ event.Cancel c → ⊥) → leaves_in c e.acts ≡ false → starts_over t e c k ≡ false → closes_in
        y e.acts ≡ false
    unclosed other = unclosed_unless (λ refused. refused_by ev (and_right _ _ refused) other)

  -- who waits for a hole of r has nothing due, and is the exclusive writer
  pub waits_undue : (r c x lo : ℕ) (hi : Option ℕ) (how : BoundBy) (v : Representation) (k : Consumer) (w : Exchange) → IsWaiter t c x k w →
      k.place ≡ place.Bound r lo hi how → t.representation r ≡ Some v → (k.due ≡ None) × IsExclusiveWriter t r v c
  waits_undue r c x lo hi how v k w is at there = by_had (s.writes.had r x v there (asks_about c x k w is r lo hi how at is.at))
    where
      by_had : sound.IsHad t r v x → (k.due ≡ None) × IsExclusiveWriter t r v c
      by_had (sound.shared on writer) = absurd (unwritten c x k w is r lo hi how v v.writer at there on refl)
      by_had (sound.own g z reader theirs none exclusive_writer) =
          let mine : g ≡ c = left_number c x k is.row is.own g z (row_of t r g z reader) theirs in
          let one : z ≡ k = same_row (t.consumer c) z k (sym (ap t.consumer mine) ∙ row_of t r g z reader) is.row in
          (sym (ap (λ (q : Consumer). q.due) one) ∙ none, subst (IsExclusiveWriter t r v) mine exclusive_writer)
