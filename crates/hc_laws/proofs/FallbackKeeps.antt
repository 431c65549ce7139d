-- An answer past the store stays apart, who was shown a head hasn't the turn, and what ended isn't open: in every run.
--
-- The three are carried together, as `IsFallback`. No event opens again what ended (`heard_shut`, `shut_after`). Who
-- was shown a head stays or is idle, and who is shown one now comes to stand where it reads (`landing`); so neither has
-- the turn (`unturned_by`). The most work: who stands at an answer past the store is shown the head of just that, so
-- that is there (`shown_headed`). `fallback_kept` joins these.
use Rattle.std.{proofs.Common.{◌≡◌, ◌⊎◌, inl, inr, ℕ, [], ◌∷◌, Bool, true, false, cond, Option, Some, None, refl, ap, sym, ◌∙◌, subst}, specs.{Prelude.{is_some, not}, Option.{option_and_then}}}
use Rattle.hc_text.proofs.Basics.{and_off as and_none, not_some as none_some, or_rest as or_right, same_some as same_row, some_inj}
use Rattle.hc_effects.proofs.Vocabulary.{opening_in, shows_in, closes_in, Event, Response, Why, Place, consumer_made, consumer_after, Entry, exchange_after, exchange_heard, exchange_acted, exchange_made, is_headless, shown_in, entry_of, Move, Shows, IsPast, move_of, if_headless, shows_at, shows_direct, shows_answer, reads, own_open, Tables, Exchange, Consumer, may_stand, after_accepted, after_denied, first_tables, Contents, event, by, place}
use Rattle.hc_model.specs.Owners as owners
use Rattle.hc_effects.proofs.{Basics.{false_true}, ExchangeFrom.{IsHeaded}, Forward.{is_on}, MoveBy.{MoveBy, IsHeard, move_by}, PastApart.{IsHeadedRow, unfounded_kept}, PieceKeeps.{eq_cases}, PollActs.{ToOne, to_one}, ShownStays.{IsIdle, StaysOrIdle, IsFallback, Lands, shown_stays, shown_at}, TurnPlaces.{is_after}, Step.{Step}}
use Rattle.hc_effects.proofs.MoveBy as by_move
use Rattle.hc_effects.proofs.PollActs as acts_to
use Rattle.hc_effects.proofs.ShownStays as stands

-- A NEW CONSUMER

made_unshown : (c now : ℕ) (ev : Event) (u : Consumer) → consumer_made c now ev ≡ Some u → u.shown ≡ false
made_unshown c now (event.Start d request) u h = elim (eq_cases d c) [
  | inl here ↦ sym (ap (λ (z : Consumer). z.shown) (some_inj _ u (rw here.0 at h)))
  | inr off ↦ absurd (none_some u (rw off.0 at h))
]
made_unshown c now _ u h = absurd (none_some u h)

pub new_unshown : (t : Tables) (e : Entry) (c : ℕ) (q : Option Consumer) (u : Consumer) → q ≡ None → consumer_after t e c q ≡ Some u → u.shown ≡ false
unfolding consumer_after
new_unshown t e c None u none h = made_unshown c e.now e.event u h
new_unshown t e c (Some k) u none h = absurd (let no : Some k ≡ None = none in cc)

-- WHAT ENDED

abbrev IsShut : Exchange → Type 0
IsShut w = w.is_ended ≡ true → w.is_open ≡ false

heard_shut : (t : Tables) (e : Entry) (x : ℕ) (ev : Event) (w : Exchange) → IsShut w → IsShut (exchange_heard t e x ev w)
heard_shut t e x (event.Head y response) w shut = elim (eq_cases y x) [
  | inl hit ↦ rw hit.0 (λ over. and_none _ w.is_open (shut over))
  | inr off ↦ rw off.0 shut
]
heard_shut t e x (event.Piece y bytes) w shut = elim (eq_cases y x) [
  | inl hit ↦ rw hit.0 (λ over. and_none _ w.is_open (shut over))
  | inr off ↦ rw off.0 shut
]
heard_shut t e x (event.End y) w shut = elim (eq_cases y x) [
  | inl hit ↦ rw hit.0 (λ over. refl)
  | inr off ↦ rw off.0 shut
]
heard_shut t e x (event.Fault y) w shut = elim (eq_cases y x) [
  | inl hit ↦ rw hit.0 (λ over. refl)
  | inr off ↦ rw off.0 shut
]
heard_shut t e x _ w shut = shut

module _ (t : Tables) (e : Entry) (x : ℕ) where
  opened_shut : (z : Option Rattle.hc_event.specs.Filters.Opening) (u : Exchange) → exchange_made t e x z ≡ Some u → u.is_ended ≡ true → u.is_open ≡ false
  opened_shut None u h over = absurd (none_some u h)
  opened_shut (Some p) u h over = elim (eq_cases p.x x) [
    | inl here ↦ absurd (false_true (ap (λ (z : Exchange). z.is_ended) (some_inj _ u (rw here.0 at h)) ∙ over))
    | inr off ↦ absurd (none_some u (rw off.0 at h))
  ]

  shut_after : (q : Option Exchange) (u : Exchange) → ((w : Exchange) → q ≡ Some w → IsShut w) → exchange_after t e x q ≡ Some u → IsShut u
  unfolding exchange_after
  shut_after None u before h over = opened_shut (opening_in e.acts) u h over
  shut_after (Some w) u before h over =
      let made : exchange_acted x e.acts (exchange_heard t e x e.event w) ≡ u = some_inj _ u h in
      let shut : (exchange_heard t e x e.event w).is_open ≡ false =
      heard_shut t e x e.event w (before w refl) (ap (λ (z : Exchange). z.is_ended) made ∙ over) in
      sym (ap (λ (z : Exchange). z.is_open) made) ∙ and_none (not (closes_in x e.acts)) _ shut

-- AT AN ENTRY

module _ (step : Step) where
  open step use {limits, tables as t, now, flaw, sound as s, owners as o, event as ev}

  abbrev e : Entry
  e = entry_of limits t now ev flaw

  abbrev now_on : Tables
  now_on = after_accepted t e

  -- it is shown a head by its poll
  pub record IsLanding (c : ℕ) (k u : Consumer) : Type 0 where
    pub want : ℕ
    pub r : ℕ
    pub why : Why
    pub head : Response
    pub lo : ℕ
    pub hi : Option ℕ
    pub at : ev ≡ event.Poll c want
    pub move_is : move_of t now want c k ≡ Shows r why head lo hi
    pub reported : shown_in c e.acts ≡ record { r = r; why = why; lo = lo; hi = hi } ∷ []
    pub lands : Lands k.place u.place r lo hi

  pub landing_by : (c : ℕ) (k u : Consumer) → t.consumer c ≡ Some k → now_on.consumer c ≡ Some u → shows_in c e.acts ≡ true → ToOne t now c ev e.acts →
      IsLanding c k u
  landing_by c k u row after on (acts_to.quiet gives shows off) = absurd (false_true (sym off ∙ on))
  landing_by c k u row after on (acts_to.gives want q run at there is gives shows off) = absurd (false_true (sym off ∙ on))
  landing_by c k u row after on (acts_to.shows want q r why head lo hi at there is gives shows showing) =
      let move_is : move_of t now want c k ≡ Shows r why head lo hi = sym (ap (move_of t now want c) (same_row (t.consumer c) q k there row)) ∙ is in
      record {
        want = want;
        r = r;
        why = why;
        head = head;
        lo = lo;
        hi = hi;
        at = at;
        move_is = move_is;
        reported = shows;
        lands = shown_at step c want k row at r why head lo hi move_is showing u after;
      }

  pub landing : (c : ℕ) (k u : Consumer) → t.consumer c ≡ Some k → now_on.consumer c ≡ Some u → k.shown ≡ false → u.shown ≡ true → IsLanding c k u
  landing c k u row after off on =
      landing_by c k u row after (sym (or_right (shows_in c e.acts) k.shown off) ∙ (sym (is_after t e c k u row after).shown ∙ on))
      (to_one t now c limits flaw ev)

  -- an exchange that has its head keeps it
  pub head_stays : (y : ℕ) → IsHeadedRow t y → IsHeadedRow now_on y
  head_stays y h = let on = is_on t e y h.w h.row in record { w = on.u; row = on.row; headed = by_heard on.u on.same.heard_or }
    where
      by_heard : (z : Exchange) → ((z.head ≡ h.w.head) × (z.joined ≡ h.w.joined)) ⊎ IsHeaded t e y h.w z → is_some z.head ≡ true
      by_heard z (inl still) = ap (λ (q : Option Response). is_some q) still.0 ∙ h.headed
      by_heard z (inr got) = ap (λ (q : Option Response). is_some q) got.head_is

  idle_not : (p q : Place) → q ≡ p → IsIdle q → (IsIdle p → ⊥) → ⊥
  idle_not p q is i never = never (subst IsIdle is i)

  -- who stands at an answer past the store and is shown a head is shown that, which is there
  module _ (c y want r lo : ℕ) (why : Why) (head : Response) (hi : Option ℕ) (k : Consumer) (row : t.consumer c ≡ Some k) (at : k.place ≡ place.Direct y)
      (off : k.shown ≡ false) (is : move_of t now want c k ≡ Shows r why head lo hi) where
    unheard : (w : Exchange) → k.own ≡ Some y → t.exchange y ≡ Some w → w.is_open ≡ true → w.head ≡ None → IsHeard t k → ⊥
    unheard w mine there opened bare heard =
        let own : own_open t k ≡ Some y = rw (mine, there, opened) refl in
        let headless : is_headless (t.exchange y) ≡ true = rw (there, opened, bare) refl in
        let no : Some y ≡ None = sym (ap (option_and_then (if_headless t)) own ∙ ap (λ b. cond b (Some y) None) headless) ∙ heard in cc

    bare_shows : (w : Exchange) (m : Move) → t.exchange y ≡ Some w → w.head ≡ None → shows_at t k k.place ≡ Some m → ⊥
    bare_shows w m there bare shows = none_some m (sym (ap (shows_at t k) at ∙ (ap (shows_direct t y) there ∙ ap (shows_answer t y w) bare)) ∙ shows)

    by_waits : (w : Exchange) → k.own ≡ Some y → t.exchange y ≡ Some w → w.is_open ≡ true → w.head ≡ None → (m : Move) → MoveBy t now want c k m →
        m ≡ Shows r why head lo hi → ⊥
    by_waits w mine there opened bare m (by_move.shows _ unshown shows) same = bare_shows w m there bare shows
    by_waits w mine there opened bare _ (by_move.reads shown heard) same = false_true (sym off ∙ shown)
    by_waits w mine there opened bare _ (by_move.plans unshown free none heard) same = unheard w mine there opened bare heard
    by_waits w mine there opened bare _ _ same = cc

    past_headed : IsPast t y k → IsHeadedRow t y
    past_headed (owners.answered w there headed) = record { w = w; row = there; headed = headed }
    past_headed (owners.waits w mine there opened bare) = absurd (by_waits w mine there opened bare (move_of t now want c k) (move_by t now want c k s row) is)

    pub shown_headed : IsHeadedRow t y
    shown_headed = past_headed (o.past c y k row at off)

  module _ (stand : may_stand limits t (entry_of limits t now ev flaw) ≡ true) (a : IsFallback t) where
    headed_by : (c y : ℕ) (u : Consumer) (b : Bool) (k : Consumer) → t.consumer c ≡ Some k → k.shown ≡ b → now_on.consumer c ≡ Some u →
        u.place ≡ place.Direct y → u.shown ≡ true → IsHeadedRow now_on y
    headed_by c y u true k row shown after at on = by_place (shown_stays step a c k row shown u after)
      where
        by_place : StaysOrIdle k.place u.place → IsHeadedRow now_on y
        by_place (stands.same is) = head_stays y (a.apart.headed c y k row (sym is ∙ at) shown)
        by_place (stands.idle i) = absurd (idle_not (place.Direct y) u.place at i (λ z. z))
    headed_by c y u false k row off after at on =
        let l = landing c k u row after off on in
        by_lands l.want l.r l.lo l.why l.head l.hi l.move_is l.lands
      where
        by_lands : (want r lo : ℕ) (why : Why) (head : Response) (hi : Option ℕ) → move_of t now want c k ≡ Shows r why head lo hi →
            Lands k.place u.place r lo hi → IsHeadedRow now_on y
        by_lands want r lo why head hi move_is (stands.back i) = absurd (idle_not (place.Direct y) u.place at i (λ z. z))
        by_lands want r lo why head hi move_is (stands.stays old is) = head_stays y (shown_headed c y want r lo why head hi k row (sym is ∙ at) off move_is)
        by_lands want r lo why head hi move_is (stands.planned free is) = absurd (let no : place.Bound r lo hi by.Plan ≡ place.Direct y = sym is ∙ at in cc)

    headed_row : (c y : ℕ) (u : Consumer) (q : Option Consumer) → t.consumer c ≡ q → now_on.consumer c ≡ Some u → u.place ≡ place.Direct y →
        u.shown ≡ true → IsHeadedRow now_on y
    headed_row c y u None none after at on = absurd (false_true (sym (new_unshown t e c (t.consumer c) u none after) ∙ on))
    headed_row c y u (Some k) row after at on = headed_by c y u k.shown k row refl after at on

    unturned_by : (c x : ℕ) (u : Consumer) (b : Bool) (k : Consumer) → t.consumer c ≡ Some k → k.shown ≡ b → now_on.consumer c ≡ Some u →
        u.place ≡ place.Turn x → u.shown ≡ true → ⊥
    unturned_by c x u true k row shown after at on = by_place (shown_stays step a c k row shown u after)
      where
        by_place : StaysOrIdle k.place u.place → ⊥
        by_place (stands.same is) = a.unturned c x k row (sym is ∙ at) shown
        by_place (stands.idle i) = idle_not (place.Turn x) u.place at i (λ z. z)
    unturned_by c x u false k row off after at on = let l = landing c k u row after off on in by_lands l.r l.lo l.hi l.lands
      where
        by_lands : (r lo : ℕ) (hi : Option ℕ) → Lands k.place u.place r lo hi → ⊥
        by_lands r lo hi (stands.back i) = idle_not (place.Turn x) u.place at i (λ z. z)
        by_lands r lo hi (stands.stays old is) = false_true (sym (ap reads (sym is ∙ at)) ∙ old)
        by_lands r lo hi (stands.planned free is) = let no : place.Bound r lo hi by.Plan ≡ place.Turn x = sym is ∙ at in cc

    unturned_row : (c x : ℕ) (u : Consumer) (q : Option Consumer) → t.consumer c ≡ q → now_on.consumer c ≡ Some u → u.place ≡ place.Turn x → u.shown ≡ true → ⊥
    unturned_row c x u None none after at on = false_true (sym (new_unshown t e c (t.consumer c) u none after) ∙ on)
    unturned_row c x u (Some k) row after at on = unturned_by c x u k.shown k row refl after at on

    pub fallback_kept : IsFallback now_on
    fallback_kept = record {
      apart = record {
        unfounded = unfounded_kept step stand a.apart;
        headed = λ c y u after at on. headed_row c y u (t.consumer c) refl after at on;
      };
      unturned = λ c x u after at on. unturned_row c x u (t.consumer c) refl after at on;
      ended = λ x u after over. shut_after t e x (t.exchange x) u (a.ended x) after over;
    }

pub fallback_begun : (contents : Contents) → IsFallback (first_tables contents)
fallback_begun contents = record {
  apart = record {
    unfounded = λ c x k row at. absurd (none_some k row);
    headed = λ c x k row at shown. absurd (none_some k row);
  };
  unturned = λ c x k row at shown. none_some k row;
  ended = λ x w row over. absurd (none_some w row);
}

pub fallback_denied : (t : Tables) (e : Entry) → IsFallback t → IsFallback (after_denied t e)
fallback_denied t e a = record {
  apart = record {
    unfounded = a.apart.unfounded;
    headed = λ c x k row at shown. let h = a.apart.headed c x k row at shown in record { w = h.w; row = h.row; headed = h.headed };
  };
  unturned = a.unturned;
  ended = a.ended;
}
