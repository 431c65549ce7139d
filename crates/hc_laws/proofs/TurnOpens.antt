-- Who opens an exchange waits for its head; and a poll after which nobody leaves closes and loses nothing.
--
-- A poll after which nobody leaves needn't close anything (`free`); nothing is lost, or goes but what is bypassed or
-- misread (`goes_none`). An exchange is opened by such a poll, and `OpensFor` tells why (`opened_at`). Its consumer
-- doesn't start over, since what it waits for is neither doomed nor lost (`loses_nothing`). So it stands where the acts
-- leave it, with the new exchange as its own (`opener_after`, `opener_stands`).
use Rattle.std.{proofs.Common.{◌≡◌, ◌⊎◌, inl, inr, ℕ, ◌+◌, List, [], ◌∷◌, ◌++◌, length, Bool, true, false, Option, Some, None, refl, ap, sym, ◌∙◌, subst}, specs.Prelude.{◌&&◌, ◌||◌, nat_eq, not, is_none, if◌then◌else◌}}
use Rattle.hc_text.proofs.Basics.{and_left, and_none, eq_itself as eq-refl, not_some as none_some, plus_none, some_inj}
use Rattle.hc_effects.proofs.Vocabulary.{brings_whole, Opening, opening_in, closes_in, leaves_in, shows_in, given_in, Act, Need, Event, Request, Limits, route_of, is_bypassing, BoundBy, Place, wait_in, fails_in, leaver_in, loses_in, misreads_in, has_loss, without_losses, Showing, showing_in, loss_acts, case_at, case_of, must_close, is_doomed, is_left, leaver, leaver_by, is_refused, brings_head, has_no_survivor, awaits, consumer_after, consumer_settled, consumer_acted, consumer_heard, by_opening, waiting, waiting_place, shown_place, own_after, left_to, due_after, back_in_line, unless_bound, opened_place, is_number, is_current, doomed_key_of, doomed_in, bypass_key, bypassed_by, bypassed_for, is_key, Entry, exchange_at, is_headless, family, Flaw, Loses, flaw_in, becomes_gone, goes_by_head, goes_by_exchange, ends_early, ends_founding, stops_early, goes_in, Turns, StandsFor, turn_with, Move, acts_of, bound_to, is_written, Tables, Exchange, Representation, Consumer, may_be, Sound, starts_over, sends_back, loses_what_it_waits_for, brings_body, loses_group, survivor, written_representation, written_in, seals_at, stops, first_found, lossless, need, wait, event, route, by}
use Rattle.hc_event.specs.declared.place.Place.TheVariants as place
use Rattle.hc_model.specs.ConsumerRows.{with_opening}
use Rattle.hc_model.specs.Laws as laws
use Rattle.hc_model.specs.Moves as moves
use Rattle.hc_effects.proofs.{ActParts.{leaver_lost}, Basics.{number_is}, KeysKeep.{opening, IsOpening, opened_is}, TurnMoves.{Does}, KeyActs.{closes_lossless}}
use Rattle.hc_laws.proofs.TurnFacts.{IsTaken, AtPoll, acts_is, seen, behind, far_behind, opens_behind, at_poll, stays_open, loses_as, misreads_behind, evicts_asked, may_be_so}
use Rattle.hc_laws.proofs.TurnFacts as facts
use Rattle.hc_effects.proofs.TurnMoves as does

abbrev is_poll : Event → Bool
is_poll (event.Poll c want) = true
is_poll _ = false

-- A CALM POLL

pub found_none : (f : ℕ → Option ℕ) (xs : List ℕ) → ((x : ℕ) → f x ≡ None) → first_found f xs ≡ None
found_none f [] all = refl
found_none f (x ∷ xs) all = rw (all x) (found_none f xs all)

-- after which nobody leaves
module _ (limits : Limits) (t : Tables) (e : Entry) (taken : IsTaken limits t e) (c want : ℕ) (at : e.event ≡ event.Poll c want)
    (nobody : leaver_in (seen limits t e taken).acts ≡ None) where
  abbrev saw : Entry
  saw = seen limits t e taken

  keeps_group : (x r : ℕ) (o : Option Representation) → has_no_survivor t saw x r o ≡ false
  keeps_group x r None = refl
  keeps_group x r (Some v) =
      let none : loses_group t saw r v ≡ false = ap (λ b. b && loses_in r saw.acts && is_written t v) (ap brings_body at) in
      ap (λ b. is_number v.writer x && b && is_none (survivor t r v)) none ∙ ap (λ b. b && is_none (survivor t r v)) (and_none (is_number v.writer x))

  doom_seen : doomed_key_of t saw ≡ None
  unfolding doomed_key_of
  doom_seen = ap (doomed_in t saw) at

  not_doomed : (x : ℕ) (w : Exchange) → is_doomed t saw x w ≡ false
  not_doomed x w = ap (λ o. is_key o w.request.key && is_headless (Some w) && awaits (t.consumer w.c) x) doom_seen

  free : (x : ℕ) (w : Exchange) → must_close t saw x w ≡ false
  free x w = all_false (is_refused (case_at t saw) && brings_head x e.event) (is_doomed t saw x w)
      (has_no_survivor t saw x (family x w) (t.representation (family x w))) (is_left t x (leaver saw))
      (ap (λ ev. is_refused (case_at t saw) && brings_head x ev) at ∙ and_none (is_refused (case_at t saw)))
      (not_doomed x w) (keeps_group x (family x w) (t.representation (family x w)))
      (ap (is_left t x) (ap (λ ev. leaver_by ev saw.acts) at ∙ nobody))
    where
      all_false : (a b d f : Bool) → a ≡ false → b ≡ false → d ≡ false → f ≡ false → (a || b || d || f) ≡ false
      all_false a b d f p q y z = rw (p, q, y, z) refl

  -- nothing is closed
  pub closes_none : (x : ℕ) → closes_in x e.acts ≡ false
  closes_none x = stays_open limits t e taken x (λ w row. free x w)

  seals_none : (x : ℕ) → seals_at t (lossless e) x ≡ None
  seals_none x =
      let a : stops x e.event ≡ false = ap (stops x) at in
      let b : closes_in x (without_losses e.acts) ≡ false = closes_lossless x e.acts ∙ closes_none x in
      rw (a, b) refl

  writes_none : written_representation t e ≡ None
  unfolding written_representation
  writes_none = ap (written_in t (lossless e)) at ∙ found_none (seals_at t (lossless e)) t.openings seals_none

  lost_none : (r : ℕ) (f : Flaw) → may_be limits t e f ≡ true → loses_in r (loss_acts f) ≡ false
  lost_none r (Loses q kind) may =
      absurd (none_some q (sym writes_none ∙ number_is (written_representation t e) q (and_left _ _ (and_left _ _ may))))
  lost_none r _ may = refl

  -- nothing is lost
  pub loses_none : (r : ℕ) → loses_in r e.acts ≡ false
  loses_none r = loses_as limits t e taken r ∙ lost_none r (flaw_in e.acts) (may_be_so limits t e taken)

  pub doom_none : doomed_key_of t e ≡ None
  unfolding doomed_key_of
  doom_none = ap (doomed_in t e) at

  head_none : (r : ℕ) → goes_by_head t e r ≡ false
  head_none r = ap (λ ev. goes_by_exchange t e r (exchange_at t ev)) at

  ends_none : (r : ℕ) (o : Option Exchange) → ends_founding e r o ≡ false
  ends_none r None = refl
  ends_none r (Some w) = ap (λ b. w.is_open && b) (rw (ap (stops_early w r) at) (closes_none r)) ∙ and_none w.is_open

  -- and nothing goes, but what is bypassed or misread
  pub goes_none : (r : ℕ) (v : Representation) → bypass_key e ≡ None → misreads_in r e.acts ≡ false → becomes_gone t e r v ≡ false
  unfolding becomes_gone
  goes_none r v past reads =
      let none : doomed_key_of t e ≡ None = doom_none in
      let early : ends_early t e r v ≡ false = ap (λ b. brings_whole v.head.status && b) (ends_none r (t.exchange r)) ∙ and_none (brings_whole v.head.status) in
      rw (none, past, head_none r, loses_none r, reads, early, evicts_asked limits t e taken r (ap facts.is_asking at))
      (facts.none_goes v (is_current t v.key r))

-- WHO OPENS

abbrev is_opening : Move → Bool
is_opening (moves.Opens x n request) = true
is_opening _ = false

abbrev number_of : Move → ℕ
number_of (moves.Opens x n request) = x
number_of _ = 0

abbrev need_of : Move → Need
need_of (moves.Opens x n request) = n
need_of _ = need.Miss

-- a move that opens
opened_does : (c : ℕ) (m : Move) (rest : List Act) (o : Opening) → opening_in rest ≡ None → opening_in (acts_of c m ++ rest) ≡ Some o →
    m ≡ moves.Opens o.x o.need o.request
opened_does c (moves.Opens x n request) rest o none h = ap (λ (q : Opening). moves.Opens q.x q.need q.request) (some_inj _ o h)
opened_does c _ rest o none h = absurd (none_some o (sym none ∙ h))

-- why a poll opened, told of what it opened
pub data OpensFor (t : Tables) (c : ℕ) (k : Consumer) (x : ℕ) (n : Need) : Type 0 where
  past : route_of n ≡ route.Direct → does.IsNew k → OpensFor t c k x n
  fetches : route_of n ≡ route.Turn → does.IsNew k → does.Queues k → turn_with t k.request.key c ≡ c →
      (n ≡ need.Validate → (r : ℕ) × does.MayRead t k r) → (n ≡ need.Bypass → is_bypassing k.request ≡ true) → OpensFor t c k x n
  first : (r lo : ℕ) (hi : Option ℕ) → route_of n ≡ route.Hole → does.IsNew k → opened_place t x k route.Hole ≡ place.Bound r lo hi (by.FirstHole x) →
      OpensFor t c k x n
  later : (r lo : ℕ) (hi : Option ℕ) (how : BoundBy) → route_of n ≡ route.Hole → k.shown ≡ true → k.place ≡ place.Bound r lo hi how → OpensFor t c k x n

opens_for : (t : Tables) (c : ℕ) (k : Consumer) (x : ℕ) (n : Need) (request : Request) (m : Move) → Does t c k m → m ≡ moves.Opens x n request →
    (x ≡ t.opened + 1) × OpensFor t c k x n
opens_for t c k x n request _ (does.past n' request' way is_new) is =
    (sym (ap number_of is), past (ap route_of (sym (ap need_of is)) ∙ way) is_new)
opens_for t c k x n request _ (does.fetches n' request' way is_new queues turn_is varied bypass) is =
    let same = ap need_of is in
    (sym (ap number_of is), fetches (ap route_of (sym same) ∙ way) is_new queues turn_is (λ h. varied (same ∙ h)) (λ h. bypass (same ∙ h)))
opens_for t c k x n request _ (does.first n' request' r lo hi way is_new bound) is =
    let number : t.opened + 1 ≡ x = ap number_of is in (
      sym number,
      first r lo hi (ap route_of (sym (ap need_of is)) ∙ way) is_new
          (subst (λ y. opened_place t y k route.Hole ≡ place.Bound r lo hi (by.FirstHole y)) number bound),
    )
opens_for t c k x n request _ (does.later n' request' r lo hi how way shown at) is =
    (sym (ap number_of is), later r lo hi how (ap route_of (sym (ap need_of is)) ∙ way) shown at)
opens_for t c k x n request _ _ is = absurd (let no_one : true ≡ false = sym (ap is_opening is) in cc)

-- the poll that opens an exchange
pub record IsOpenedAt (limits : Limits) (t : Tables) (e : Entry) (taken : IsTaken limits t e) (o : Opening) : Type 0 where
  pub want : ℕ
  pub k : Consumer
  pub at : e.event ≡ event.Poll o.c want
  pub row : t.consumer o.c ≡ Some k
  pub same_key : o.request.key ≡ k.request.key
  pub next : o.x ≡ t.opened + 1
  pub why : OpensFor t o.c k o.x o.need
  pub acts : e.acts ≡ acts_of o.c (moves.Opens o.x o.need o.request) ++ behind limits t e taken
  pub saw : (seen limits t e taken).acts ≡ acts_of o.c (moves.Opens o.x o.need o.request) ++ loss_acts (flaw_in e.acts)

pub opened_at : (limits : Limits) (t : Tables) (e : Entry) (taken : IsTaken limits t e) → Sound t → Turns t → (o : Opening) → opening_in e.acts ≡ Some o →
    IsOpenedAt limits t e taken o
opened_at limits t e taken s turns o is =
    by_opening_of (opened_is limits t e.now e.event (flaw_in e.acts) o (sym (ap opening_in (acts_is limits t e taken)) ∙ is))
  where
    by_poll_of : (want : ℕ) (k : Consumer) → e.event ≡ event.Poll o.c want → t.consumer o.c ≡ Some k → o.request.key ≡ k.request.key →
        AtPoll limits t e taken o.c k → IsOpenedAt limits t e taken o
    by_poll_of want k at row same (facts.misreads want' r at' all reported) =
        absurd (none_some o (sym (ap opening_in all ∙ opens_behind limits t e taken) ∙ is))
    by_poll_of want k at row same (facts.moves_on want' m at' m_is does_so all reported) =
        let it = opened_does o.c m (behind limits t e taken) o (opens_behind limits t e taken) (sym (ap opening_in all) ∙ is) in
        let both = opens_for t o.c k o.x o.need o.request m does_so it in
        record {
          want = want;
          k = k;
          at = at;
          row = row;
          same_key = same;
          next = both.0;
          why = both.1;
          acts = all ∙ ap (λ z. acts_of o.c z ++ behind limits t e taken) it;
          saw = reported ∙ ap (λ z. acts_of o.c z ++ loss_acts (flaw_in e.acts)) it;
        }

    by_opening_of : IsOpening t e.event o → IsOpenedAt limits t e taken o
    by_opening_of (opening want k at row same) = by_poll_of want k at row same (at_poll limits t e taken o.c want k s turns row at)

module _ (limits : Limits) (t : Tables) (e : Entry) (taken : IsTaken limits t e) (s : Sound t) (turns : Turns t) (o : Opening)
    (is : opening_in e.acts ≡ Some o) where
  abbrev pub opened : IsOpenedAt limits t e taken o
  opened = opened_at limits t e taken s turns o is

  abbrev pub c : ℕ
  c = o.c

  abbrev pub k : Consumer
  k = opened.k

  nobody : leaver_in (seen limits t e taken).acts ≡ None
  nobody = ap leaver_in opened.saw ∙ leaver_lost (flaw_in e.acts)

  -- IT DOESN'T START OVER

  route_apart : {A : Type 0} (n : Need) → n ≡ need.Bypass → route_of n ≡ route.Direct ⊎ (route_of n ≡ route.Hole) → A
  route_apart n is (inl way) = absurd (let no_one : route.Turn ≡ route.Direct = ap route_of (sym is) ∙ way in cc)
  route_apart n is (inr way) = absurd (let no_one : route.Turn ≡ route.Hole = ap route_of (sym is) ∙ way in cc)

  not_bypass : OpensFor t c k o.x o.need → is_bypassing k.request ≡ false → o.need ≡ need.Bypass → ⊥
  not_bypass (past way is_new) plain h = route_apart o.need h (inl way)
  not_bypass (first r lo hi way is_new bound) plain h = route_apart o.need h (inr way)
  not_bypass (later r lo hi how way shown at) plain h = route_apart o.need h (inr way)
  not_bypass (fetches way is_new queues turn_is varied bypass) plain h = let no_one : true ≡ false = sym (bypass h) ∙ plain in cc

  past_none : (n : Need) (key : List ℕ) → (n ≡ need.Bypass → ⊥) → bypassed_for n key ≡ None
  past_none need.Bypass key other = absurd (other refl)
  past_none _ key other = refl

  bypassed_none : is_bypassing k.request ≡ false → bypass_key e ≡ None
  bypassed_none plain = ap bypassed_by is ∙ past_none o.need o.request.key (not_bypass opened.why plain)

  loses_nothing : (p : Place) → k.place ≡ p → loses_what_it_waits_for t e c p ≡ false
  loses_nothing (place.Passed r kept) at =
      let h = turns.passed c r kept k opened.row at in
      let stays = goes_none limits t e taken c opened.want opened.at nobody r h.v (bypassed_none h.plain)
      (ap (misreads_in r) opened.acts ∙ misreads_behind limits t e taken r) in
      ap (λ z. goes_in t e r z && not (fails_in c e.acts)) h.row ∙ ap (λ b. b && not (fails_in c e.acts)) stays
  loses_nothing _ at = refl

  no_case : sends_back (case_at t e) ≡ false
  unfolding case_of
  no_case = ap (λ ev. sends_back (case_of t (has_loss e.acts) ev)) opened.at

  not_over : starts_over t e c k ≡ false
  unfolding starts_over
  not_over = rw (doom_none limits t e taken c opened.want opened.at nobody, no_case) (loses_nothing k.place refl)

  -- AFTER THE ENTRY

  abbrev pub place_after : Place
  place_after = unless_bound (bound_to k.place) k.place (opened_place t o.x k (route_of o.need))

  heard_same : consumer_heard t e c e.event k ≡ k
  heard_same = ap (λ ev. consumer_heard t e c ev k) opened.at

  pending_head : wait_in c (acts_of c (moves.Opens o.x o.need o.request) ++ behind limits t e taken) ≡ Some (wait.Head o.x)
  pending_head = rw (eq-refl c) refl

  waits_same : waiting t e c k ≡ k
  waits_same = ap (λ w. record k { place = waiting_place t k w }) (ap (wait_in c) opened.acts ∙ pending_head)

  pub record IsOpener (z : Consumer) : Type 0 where
    pub place : z.place ≡ place_after
    pub own : z.own ≡ Some o.x
    pub shown : z.shown ≡ k.shown
    pub given : z.given ≡ k.given
    pub request : z.request ≡ k.request

  left_same : (r : ℕ) (own : Option ℕ) (v : Option Representation) → left_to t e c r v own ≡ own
  left_same r own None = refl
  left_same r own (Some v) =
      let none : loses_group t e r v ≡ false = ap (λ b. b && loses_in r e.acts && is_written t v) (ap brings_body opened.at) in
      rw none refl

  own_same : (p : Place) (own : Option ℕ) → own_after t e c p own ≡ own
  own_same (place.Bound r lo hi how) own = left_same r own (t.representation r)
  own_same _ own = refl

  opening_same : by_opening t c (opening_in e.acts) (waiting t e c k) ≡ with_opening t o k
  opening_same = ap (λ q. by_opening t c (opening_in e.acts) q) waits_same ∙ (ap (λ z. by_opening t c z k) is ∙ rw (eq-refl c) refl)

  acted_is : IsOpener (consumer_acted t e c k)
  acted_is =
      let far = far_behind limits t e taken c in
      let leaves : leaves_in c e.acts ≡ false = ap (leaves_in c) opened.acts ∙ far.leaves in
      let q = by_opening t c (opening_in e.acts) (waiting t e c k) in
      record {
        place = rw leaves (showing_none (showing_in e.acts) q.place (λ z h. far.showing z (sym (ap showing_in opened.acts) ∙ h)) ∙
            ap (λ (z : Consumer). z.place) opening_same);
        own = own_same k.place q.own ∙ ap (λ (z : Consumer). z.own) opening_same;
        shown = ap (λ b. b || q.shown) (ap (shows_in c) opened.acts ∙ far.shows) ∙ ap (λ (z : Consumer). z.shown) opening_same;
        given = ap (λ (bytes : List ℕ). q.given + length bytes) (ap (given_in c) opened.acts ∙ far.given) ∙
            (plus_none q.given ∙ ap (λ (z : Consumer). z.given) opening_same);
        request = ap (λ (z : Consumer). z.request) opening_same;
      }
    where
      showing_none : (s : Option Showing) (p : Place) → ((z : Showing) → s ≡ Some z → nat_eq z.c c ≡ false) → shown_place c s p ≡ p
      showing_none None p far = refl
      showing_none (Some z) p far = rw (far z refl) refl

  settled_is : (b : Bool) (q : Consumer) → b ≡ false → IsOpener q → IsOpener (if b then back_in_line e.now q else due_after t e c k q)
  settled_is true q h same = absurd (let no_one : true ≡ false = h in cc)
  settled_is false q h same = record { place = same.place; own = same.own; shown = same.shown; given = same.given; request = same.request }

  pub opener_after : (z : Consumer) × (consumer_after t e c (t.consumer c) ≡ Some z) × IsOpener z
  unfolding consumer_after
  opener_after =
      let q = consumer_acted t e c (consumer_heard t e c e.event k) in (
        consumer_settled t e c k q,
        ap (consumer_after t e c) opened.row,
        settled_is (starts_over t e c k) q not_over (subst (λ z. IsOpener (consumer_acted t e c z)) (sym heard_same) acted_is),
      )

  stands_by : (z : Consumer) → IsOpener z → OpensFor t c k o.x o.need → StandsFor o.x z (route_of o.need)
  stands_by z at (past way is_new) = subst (StandsFor o.x z) (sym way) (laws.direct (at.place ∙ rw (is_new.bound, way) refl))
  stands_by z at (fetches way is_new queues turn_is varied bypass) =
      subst (StandsFor o.x z) (sym way) (laws.has_turn (at.place ∙ rw (is_new.bound, way) refl) (at.shown ∙ is_new.shown))
  stands_by z at (first r lo hi way is_new bound) =
      subst (StandsFor o.x z) (sym way) (laws.first r lo hi (at.place ∙ rw (is_new.bound, way) bound) (at.shown ∙ is_new.shown))
  stands_by z at (later r lo hi how way shown bound) =
      subst (StandsFor o.x z) (sym way)
      (laws.later r lo hi how (at.place ∙ (ap (λ p. unless_bound (bound_to p) p (opened_place t o.x k (route_of o.need))) bound)) (at.shown ∙ shown))

  pub opener_stands : (z : Consumer) × (consumer_after t e c (t.consumer c) ≡ Some z) × (z.own ≡ Some o.x) × StandsFor o.x z (route_of o.need)
  opener_stands =
      let a = opener_after in
      (a.0, a.1, a.2.own, stands_by a.0 a.2 opened.why)
