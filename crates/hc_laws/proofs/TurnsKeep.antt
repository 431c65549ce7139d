-- Of a key at most one exchange of the turn waits for its head, and its consumer has the turn.
--
-- At most one exchange is of the turn, as two of one key have one consumer, which waits for one alone
-- (`turns_are_one`). The parts of `Turns` are kept entry by entry. A headless exchange was headless or is new
-- (`was_headless`), and its consumer waits on (`stands_on`) or has just opened it. Who may pass has the most work: it
-- has passed, waits for a busy one, or is let through by a 304 (`let_through`). `turns_kept` joins the parts.
use Rattle.std.{proofs.Common.{◌≡◌, ◌⊎◌, inl, inr, ℕ, List, [], ◌∷◌, ◌++◌, Bool, true, false, Option, Some, None, refl, ap, sym, ◌∙◌, subst}, specs.{Prelude.{length, ◌&&◌, ◌||◌, ◌==◌, not, is_none, is_some, if◌then◌else◌, filter, find, unwrap_or, bytes_eq}, Option.{option_or}}}
use Rattle.hc_text.proofs.Basics.{and_left, and_right as and_then, bool_cases, eq_itself as eq-refl, not_some as none_some, never_true as not_true, or_cases, or_off_right as or_last, same_some as same_row, some_inj}
use Rattle.hc_effects.proofs.Vocabulary.{Opening, opening_in, closes_in, leaves_in, shows_in, Act, Need, Wait, Event, Request, Response, least, route_of, head_refusal, is_bypassing, is_disabled, is_only, Route, Limits, Place, wait_in, fails_in, leaver_in, misreads_in, loss_acts, case_at, consumer_after, consumer_made, new_consumer, unless_bound, opened_place, current, is_usable, denial, as_open, bypassed_by, doomed_key_of, is_key, Entry, exchange_after, exchange_heard, exchange_acted, exchange_opened, aim_of, aim_from, is_headless, exchange_at, is_for, promised_bytes, is_reached, flaw_in, becomes_gone, goes_in, IsOfOneKey, entry_of, Turns, IsAwaited, StandsFor, HasPassed, HasOneTurn, turn, turn_with, holder, holds_turn, holds_place, line, is_in_line, stands_in_line, Move, acts_of, has_joined, bound_to, representation_after, representation_heard, representation_acted, Tables, Exchange, Representation, Consumer, Sound, Among, IsListed, OneCurrent, starts_over, loses_what_it_waits_for, sends_back, waits_at, after_accepted, need, wait, route, case, by, place}
use Rattle.hc_event.specs.declared.event.Event.TheVariants as event
use Rattle.hc_fresh.specs.Vary.{matches_vary}
use Rattle.hc_rules.specs.Refusals as refusals
use Rattle.hc_rules.proofs.RangeReads.{bytes_eq-same, same_bytes}
use Rattle.hc_model.specs.ExchangeRows as exchanges
use Rattle.hc_model.specs.Laws.{IsInTurn, TurnsAreKept, TurnsBegin, TurnsAreOne}
use Rattle.hc_model.specs.Laws as laws
use Rattle.hc_model.specs.Moves as moves
use Rattle.hc_effects.proofs.{ActParts.{leaver_lost}, CurrentKeeps.{heard_same, find_only, usable, usable_row, one_current_is_kept}, KeyNames.{opener_key, current_key}, KeysKeep.{same_exchange, exchange_was}, NumbersKeep.{numbers_are_kept}, Owed.{goes}, PieceKeeps.{eq_cases}, PollKeeps.{current_stays}, TurnMoves.{Does, MayRead, Queues}, TurnPlaces.{ComesFrom, IsPlain, IsAfter, StaysOrPlain, is_after}}
use Rattle.hc_effects.proofs.KeysKeep as keeps
use Rattle.hc_laws.proofs.{TurnFacts.{moves_on, misreads, IsTaken, AtPoll, acts_is, seen, behind, far_behind, opens_behind, misreads_behind, at_poll, far_from, fails_leaves}, TurnHeads.{goes_none, valid_is}, TurnOpens.{OpensFor, IsOpenedAt, IsOpener, opened_at, opener_after, opener_stands}, TurnStays.{head_opens, head_none, stands_on}, VaryKeeps.{same_agreement}}
use Rattle.hc_effects.proofs.TurnMoves as does
use Rattle.hc_laws.proofs.TurnOpens as opens
use Rattle.hc_effects.proofs.TurnPlaces as places

-- WHOSE TURN IT IS

-- the first of those let in that passes the test, where only one number is both
find_let_in : (let_in test : ℕ → Bool) (ns : List ℕ) (d : ℕ) → Among d ns → let_in d ≡ true → test d ≡ true →
    ((n : ℕ) → let_in n ≡ true → test n ≡ true → n ≡ d) → find test (filter let_in ns) ≡ Some d
find_let_in let_in test [] d among inside passes one = absurd among
find_let_in let_in test (n ∷ ns) d among inside passes one = elim (bool_cases (let_in n)) [
  | inr out ↦ rw out (find_let_in let_in test ns d (others among out) inside passes one)
  | inl also ↦ rw also (elim (bool_cases (test n)) [
    | inl too ↦ rw too (ap Some (one n also too))
    | inr fails ↦ rw fails (find_let_in let_in test ns d (others_too among fails) inside passes one)
  ])
]
  where
    others : Among d (n ∷ ns) → let_in n ≡ false → Among d ns
    others (inl here) out = absurd (let no_one : true ≡ false = sym inside ∙ (ap let_in (sym here) ∙ out) in cc)
    others (inr there) out = there

    others_too : Among d (n ∷ ns) → test n ≡ false → Among d ns
    others_too (inl here) out = absurd (let no_one : true ≡ false = sym passes ∙ (ap test (sym here) ∙ out) in cc)
    others_too (inr there) out = there

module _ (t : Tables) (s : Sound t) (turns : Turns t) where
  in_line : (key : List ℕ) (d y : ℕ) (k : Consumer) → t.consumer d ≡ Some k → k.place ≡ place.Turn y → k.request.key ≡ key →
      is_in_line key (t.consumer d) ≡ true
  in_line key d y k row at same =
      let queued = turns.queued d y k row at in
      ap (is_in_line key) row ∙ rw (bytes_eq-same k.request.key key same, at, queued.0, queued.1) refl

  record IsHolder (key : List ℕ) (n : ℕ) : Type 0 where
    k : Consumer
    row : t.consumer n ≡ Some k
    of_key : k.request.key ≡ key
    y : ℕ
    at : k.place ≡ place.Turn y

  holds_at : (key : List ℕ) (n : ℕ) (k : Consumer) (p : Place) → t.consumer n ≡ Some k → k.request.key ≡ key → k.place ≡ p → holds_place p ≡ true →
      IsHolder key n
  holds_at key n k (place.Turn y) row same at h = record { k = k; row = row; of_key = same; y = y; at = at }
  holds_at key n k _ row same at h = absurd (let no_one : false ≡ true = h in cc)

  holds_row : (key : List ℕ) (n : ℕ) (o : Option Consumer) → t.consumer n ≡ o → is_in_line key o ≡ true → holds_turn o ≡ true → IsHolder key n
  holds_row key n None row inside h = absurd (let no_one : false ≡ true = h in cc)
  holds_row key n (Some k) row inside h =
      let same = same_bytes k.request.key key
      (and_left (bytes_eq k.request.key key) _
      (and_left (bytes_eq k.request.key key && stands_in_line k.place) _
      (and_left (bytes_eq k.request.key key && stands_in_line k.place && not (is_disabled k.request)) _ inside))) in
      holds_at key n k k.place row same refl h

  pub holder_is : (key : List ℕ) (d y : ℕ) (k : Consumer) → t.consumer d ≡ Some k → k.place ≡ place.Turn y → k.request.key ≡ key → holder t key ≡ Some d
  unfolding line
  holder_is key d y k row at same =
      find_let_in (λ c. is_in_line key (t.consumer c)) (λ c. holds_turn (t.consumer c)) t.starts d
      (s.numbered.lists.started d (ap is_some row)) (in_line key d y k row at same) (ap holds_turn row ∙ ap holds_place at)
      (λ n inside holds. let h = holds_row key n (t.consumer n) refl inside holds in
      turns.one_holder n d h.y y h.k k h.row row h.at at (h.of_key ∙ sym same))

  -- where the consumer stands for whom it waits
  record IsHeld (x : ℕ) (w : Exchange) : Type 0 where
    k : Consumer
    row : t.consumer w.c ≡ Some k
    at : k.place ≡ place.Turn x
    of_key : k.request.key ≡ w.request.key

  held_by : IsOfOneKey t → (x : ℕ) (w : Exchange) → IsInTurn t x w → IsHeld x w
  held_by one x w waits =
      let it = turns.awaited x w waits.row waits.headless in
      record {
        k = it.k;
        row = it.row;
        at = turn_place x it.k (route_of w.need) it.stands waits.by_turn;
        of_key =
            sym (opener_key t x w it.k one.exchanges waits.row it.row);
      }
    where
      turn_place : (x : ℕ) (k : Consumer) (way : Route) → StandsFor x k way → way ≡ route.Turn → k.place ≡ place.Turn x
      turn_place x k _ (laws.has_turn at unshown) is = at
      turn_place x k _ _ is = cc

  abbrev turn_in : Place → ℕ
  turn_in (place.Turn x) = x
  turn_in _ = 0

  -- two of one key have one consumer, which waits for one of them alone
  one_held : (x y : ℕ) (w z : Exchange) → IsHeld x w → IsHeld y z → w.request.key ≡ z.request.key → x ≡ y
  one_held x y w z a b same =
      let c_is : w.c ≡ z.c = turns.one_holder w.c z.c x y a.k b.k a.row b.row a.at b.at (a.of_key ∙ (same ∙ sym b.of_key)) in
      ap turn_in (sym a.at ∙ (ap (λ (k : Consumer). k.place) (same_row (t.consumer z.c) a.k b.k (sym (ap t.consumer c_is) ∙ a.row) b.row) ∙ b.at))

  pub has_one : IsOfOneKey t → HasOneTurn t
  unfolding turn
  has_one one = record {
    holder = λ x w waits. let h = held_by one x w waits in
        ap (λ o. option_or o (least (line t w.request.key))) (holder_is w.request.key w.c x h.k h.row h.at h.of_key);
    one = λ x y w z waits also same. one_held x y w z (held_by one x w waits) (held_by one y z also) same;
  }

pub turns_are_one : TurnsAreOne
turns_are_one t s one turns = has_one t s turns one

-- PLACES

abbrev is_turn : Place → Bool
is_turn (place.Turn x) = true
is_turn _ = false

abbrev number_of : Place → ℕ
number_of (place.Turn x) = x
number_of (place.Bound r lo hi (by.FirstHole y)) = y
number_of _ = 0

abbrev is_passed : Place → Bool
is_passed (place.Passed r kept) = true
is_passed _ = false

abbrev row_in : Place → ℕ
row_in (place.Passed r kept) = r
row_in _ = 0

abbrev is_first : Place → Bool
is_first (place.Bound r lo hi (by.FirstHole y)) = true
is_first _ = false

apart : {A : Type 0} (test : Place → Bool) (p q : Place) → test p ≡ true → test q ≡ false → p ≡ q → A
apart test p q a b is = absurd (let no_one : true ≡ false = sym a ∙ (ap test is ∙ b) in cc)

-- HEADLESS BEFORE

module _ (t : Tables) (e : Entry) (x : ℕ) (w : Exchange) where
  abbrev pub Stays : Exchange → Type 0
  Stays z = is_headless (Some (exchange_acted x e.acts z)) ≡ true

  still : Stays w → is_headless (Some w) ≡ true
  still h = rw (and_then (not (closes_in x e.acts)) w.is_open (and_left _ (is_none w.head) h)) (and_then _ (is_none w.head) h)

  if_headed : (b : Bool) (z : Exchange) → is_none z.head ≡ false → Stays (if b then z else w) → Stays w
  if_headed true z headed h = absurd (let no_one : false ≡ true = sym headed ∙ and_then _ (is_none z.head) h in cc)
  if_headed false z headed h = h

  if_closed : (b : Bool) (z : Exchange) → z.is_open ≡ false → Stays (if b then z else w) → Stays w
  if_closed true z closed h =
      absurd (let no_one : false ≡ true = sym closed ∙ and_then (not (closes_in x e.acts)) z.is_open (and_left _ (is_none z.head) h) in cc)
  if_closed false z closed h = h

  if_pieced : (b : Bool) (bytes : List ℕ) → Stays (if b then exchanges.with_piece bytes w else w) → is_headless (Some w) ≡ true
  if_pieced true bytes h =
      let open_yet = and_then (not (closes_in x e.acts)) _ (and_left _ (is_none w.head) h) in
      rw (and_then (not (is_reached (promised_bytes w) (length (w.body ++ bytes)))) w.is_open open_yet) (and_then _ (is_none w.head) h)
  if_pieced false bytes h = still h

  headless_before : (ev : Event) → Stays (exchange_heard t e x ev w) → is_headless (Some w) ≡ true
  headless_before (event.Head y response) h = still (if_headed (y == x) (exchanges.with_head t e response w) refl h)
  headless_before (event.Piece y bytes) h = if_pieced (y == x) bytes h
  headless_before (event.End y) h = still (if_closed (y == x) (record w { is_ended = true; is_open = false }) refl h)
  headless_before (event.Fault y) h = still (if_closed (y == x) (record w { is_open = false }) refl h)
  headless_before _ h = still h

-- WHO OPENED FOR THE TURN

opens_turn : (t : Tables) (c : ℕ) (k : Consumer) (x : ℕ) (n : Need) → OpensFor t c k x n → route_of n ≡ route.Turn → Queues k ×
    (turn_with t k.request.key c ≡ c)
opens_turn t c k x n (opens.fetches way is_new queues turn_is varied bypass) is = (queues, turn_is)
opens_turn t c k x n (opens.past way is_new) is = absurd (let no_one : route.Direct ≡ route.Turn = sym way ∙ is in cc)
opens_turn t c k x n (opens.first r lo hi way is_new bound) is = absurd (let no_one : route.Hole ≡ route.Turn = sym way ∙ is in cc)
opens_turn t c k x n (opens.later r lo hi how way shown at) is = absurd (let no_one : route.Hole ≡ route.Turn = sym way ∙ is in cc)

and_first : (a b : Bool) → b ≡ false → (a && not b) ≡ false → a ≡ false
and_first true b fails h = absurd (let no_one : true ≡ false = sym (ap not fails) ∙ h in cc)
and_first false b fails h = refl

-- what a move lets its consumer wait for
abbrev waits_of : Move → Option Wait
waits_of (moves.Waits w) = Some w
waits_of (moves.Asks x) = Some (wait.Body x)
waits_of (moves.Opens x n request) = Some (wait.Head x)
waits_of _ = None

move_waits : (c : ℕ) (m : Move) (rest : List Act) → wait_in c rest ≡ None → wait_in c (acts_of c m ++ rest) ≡ waits_of m
move_waits c (moves.Waits w) rest none = rw (eq-refl c) refl
move_waits c (moves.Asks x) rest none = rw (eq-refl c) refl
move_waits c (moves.Opens x n request) rest none = rw (eq-refl c) refl
move_waits c _ rest none = none

abbrev is_busy : Option Wait → Bool
is_busy (Some (wait.Busy d)) = true
is_busy _ = false

abbrev poller : Event → ℕ
poller (event.Poll c want) = c
poller _ = 0

abbrev is_poll : Event → Bool
is_poll (event.Poll c want) = true
is_poll _ = false

poll_of : (ev : Event) (c : ℕ) → ((want : ℕ) × (ev ≡ event.Poll c want)) ⊎ ((want : ℕ) → ev ≡ event.Poll c want → ⊥)
poll_of (event.Poll d want) c = elim (eq_cases d c) [
  | inl here ↦ inl (want, ap (λ n. event.Poll n want) here.1)
  | inr other ↦ inr (λ want' is. other.1 (ap poller is))
]
poll_of _ c = inr (λ want is. let no_one : false ≡ true = ap is_poll is in cc)

module _ (limits : Limits) (t : Tables) (e : Entry) (taken : IsTaken limits t e) (s : Sound t) (one : IsOfOneKey t) (turns : Turns t) where
  abbrev u : Tables
  u = after_accepted t e

  -- EXCHANGES

  pub data WasHeadless (x : ℕ) (z : Exchange) : Type 0 where
    was : (w : Exchange) → t.exchange x ≡ Some w → is_headless (Some w) ≡ true → z ≡ exchange_acted x e.acts (exchange_heard t e x e.event w) →
        Stays t e x w (exchange_heard t e x e.event w) → WasHeadless x z
    new : (o : Opening) → opening_in e.acts ≡ Some o → o.x ≡ x → z ≡ exchange_opened t e o → WasHeadless x z

  new_headless : (x : ℕ) (z : Exchange) → t.exchange x ≡ None → keeps.WasExchange t e x z → WasHeadless x z
  new_headless x z none (keeps.was w row same) = absurd (none_some w (sym none ∙ row))
  new_headless x z none (keeps.new o is here made absent) = new o is here made

  pub was_headless : (x : ℕ) (o : Option Exchange) (z : Exchange) → t.exchange x ≡ o → exchange_after t e x o ≡ Some z → is_headless (Some z) ≡ true →
      WasHeadless x z
  unfolding exchange_after
  was_headless x None z row h bare = new_headless x z row (exchange_was t e x None z row h)
  was_headless x (Some w) z row h bare =
      let is = some_inj (exchange_acted x e.acts (exchange_heard t e x e.event w)) z h in
      let stays = ap (λ (q : Exchange). is_headless (Some q)) is ∙ bare in
      was w row (headless_before t e x w e.event stays) (sym is) stays

  awaited_of : (x : ℕ) (z : Exchange) → WasHeadless x z → IsAwaited u x z
  awaited_of x z (was w row bare is stays) =
      let a = stands_on limits t e taken s one turns x w row bare stays in
      let same = same_exchange t e x e.event w in
      record {
        k = a.0;
        row = ap (λ d. consumer_after t e d (t.consumer d)) (ap (λ (q : Exchange). q.c) is ∙ same.c_is) ∙ a.1;
        own = a.2;
        stands = subst (StandsFor x a.0) (ap route_of (sym (ap (λ (q : Exchange). q.need) is ∙ same.need_is))) a.3;
      }
  awaited_of x z (new o is here made) =
      let a = opener_stands limits t e taken s turns o is in
      let stands : StandsFor o.x a.0 (route_of z.need) = subst (StandsFor o.x a.0) (ap (λ (q : Exchange). route_of q.need) (sym made)) a.3 in
      record {
        k = a.0;
        row = ap (λ d. consumer_after t e d (t.consumer d)) (ap (λ (q : Exchange). q.c) made) ∙ a.1;
        own = a.2 ∙ ap Some here;
        stands = subst (λ n. StandsFor n a.0 (route_of z.need)) here stands;
      }

  -- CONSUMERS

  data WasConsumer (c : ℕ) (z : Consumer) : Type 0 where
    there : (k : Consumer) → t.consumer c ≡ Some k → IsAfter t e c k z → WasConsumer c z
    begins : z.place ≡ place.Line → WasConsumer c z

  started_line : (c : ℕ) (z : Consumer) (ev : Event) → consumer_made c e.now ev ≡ Some z → WasConsumer c z
  started_line c z (event.Start d request) h = by_test (d == c) h
    where
      by_test : (b : Bool) → (if b then Some (new_consumer e.now request) else None) ≡ Some z → WasConsumer c z
      by_test true is = begins (ap (λ (q : Consumer). q.place) (sym (some_inj (new_consumer e.now request) z is)))
      by_test false is = absurd (none_some z is)
  started_line c z _ h = absurd (none_some z h)

  was_consumer : (c : ℕ) (o : Option Consumer) (z : Consumer) → t.consumer c ≡ o → consumer_after t e c o ≡ Some z → WasConsumer c z
  unfolding consumer_after
  was_consumer c None z row h = started_line c z e.event h
  was_consumer c (Some k) z row h = there k row (is_after t e c k z row (ap (consumer_after t e c) row ∙ h))

  consumer_of : (c : ℕ) (z : Consumer) → u.consumer c ≡ Some z → WasConsumer c z
  consumer_of c z h = was_consumer c (t.consumer c) z refl h

  -- THE TURN

  data TurnFrom (c x : ℕ) (z : Consumer) : Type 0 where
    stayed : (k : Consumer) → t.consumer c ≡ Some k → k.place ≡ place.Turn x → z.request ≡ k.request → TurnFrom c x z
    opened : (o : Opening) (k : Consumer) → opening_in e.acts ≡ Some o → o.c ≡ c → route_of o.need ≡ route.Turn → t.consumer c ≡ Some k →
        z.request ≡ k.request → TurnFrom c x z

  turn_place : (c x : ℕ) (k z : Consumer) (p : Place) → t.consumer c ≡ Some k → z.request ≡ k.request → ComesFrom t e c k p → p ≡ place.Turn x → TurnFrom c x z
  turn_place c x k z _ row same places.kept is = stayed k row is same
  turn_place c x k z _ row same (places.plain p plain) is = absurd (subst IsPlain is plain)
  turn_place c x k z _ row same (places.turned o opens_it mine way) is = opened o k opens_it mine way row same
  turn_place c x k z _ row same _ is = apart is_turn (place.Turn x) _ refl refl (sym is)

  turn_from : (c x : ℕ) (z : Consumer) → WasConsumer c z → z.place ≡ place.Turn x → TurnFrom c x z
  turn_from c x z (there k row after) at = turn_place c x k z z.place row after.request after.from at
  turn_from c x z (begins line_is) at = apart is_turn (place.Turn x) place.Line refl refl (sym at ∙ line_is)

  opener_is : (o : Opening) (c : ℕ) (k : Consumer) (is : opening_in e.acts ≡ Some o) → o.c ≡ c → t.consumer c ≡ Some k →
      (opened_at limits t e taken s turns o is).k ≡ k
  opener_is o c k is mine row = same_row (t.consumer c) _ k (ap t.consumer (sym mine) ∙ (opened_at limits t e taken s turns o is).row) row

  opened_stayed : (o : Opening) (c d y : ℕ) (k v : Consumer) → opening_in e.acts ≡ Some o → o.c ≡ c → route_of o.need ≡ route.Turn →
      t.consumer c ≡ Some k → t.consumer d ≡ Some v → v.place ≡ place.Turn y → k.request.key ≡ v.request.key → c ≡ d
  opened_stayed o c d y k v is mine way row row' at same =
      let w = opened_at limits t e taken s turns o is in
      let held = holder_is t s turns w.k.request.key d y v row' at (sym same ∙ ap (λ (q : Consumer). q.request.key) (sym (opener_is o c k is mine row))) in
      sym mine ∙ (sym ((opens_turn t o.c w.k o.x o.need w.why way).1) ∙ ap (λ h. unwrap_or (option_or h (least (o.c ∷ line t w.k.request.key))) o.c) held)

  one_of : (c d x y : ℕ) (z v : Consumer) → TurnFrom c x z → TurnFrom d y v → z.request.key ≡ v.request.key → c ≡ d
  one_of c d x y z v (stayed k row at same) (stayed k' row' at' same') key =
      turns.one_holder c d x y k k' row row' at at' (ap (λ (r : Request). r.key) (sym same) ∙ (key ∙ ap (λ (r : Request). r.key) same'))
  one_of c d x y z v (opened o k is mine way row same) (stayed k' row' at' same') key =
      opened_stayed o c d y k k' is mine way row row' at' (ap (λ (r : Request). r.key) (sym same) ∙ (key ∙ ap (λ (r : Request). r.key) same'))
  one_of c d x y z v (stayed k row at same) (opened o k' is mine way row' same') key =
      sym (opened_stayed o d c x k' k is mine way row' row at (ap (λ (r : Request). r.key) (sym same') ∙ (sym key ∙ ap (λ (r : Request). r.key) same)))
  one_of c d x y z v (opened o k is mine way row same) (opened o' k' is' mine' way' row' same') key =
      sym mine ∙ (ap (λ (q : Opening). q.c) (same_row (opening_in e.acts) o o' is is') ∙ mine')

  queued_of : (c x : ℕ) (z : Consumer) → TurnFrom c x z → (is_disabled z.request ≡ false) × (is_only z.request ≡ false)
  queued_of c x z (stayed k row at same) = let q = turns.queued c x k row at in (ap is_disabled same ∙ q.0, ap is_only same ∙ q.1)
  queued_of c x z (opened o k is mine way row same) =
      let w = opened_at limits t e taken s turns o is in
      let q = (opens_turn t o.c w.k o.x o.need w.why way).0 in
      let request_is : z.request ≡ w.k.request = same ∙ ap (λ (q : Consumer). q.request) (sym (opener_is o c k is mine row)) in
      (ap is_disabled request_is ∙ q.cached, ap is_only request_is ∙ q.asks)

  -- WHAT IS CURRENT STAYS SO

  pub same_entry : entry_of limits t e.now e.event (flaw_in e.acts) ≡ e
  same_entry = ap entry_with (sym (acts_is limits t e taken))
    where
      entry_with : List Act → Entry
      entry_with acts = record { now = e.now; event = e.event; acts = acts }

  goes_on : denial t e.event ≡ None
  goes_on = goes limits t e taken.owed taken.not_denied

  listed : IsListed u
  listed = subst (λ z. IsListed (after_accepted t z)) same_entry (numbers_are_kept limits t e.now (flaw_in e.acts) s e.event goes_on)

  one_current : OneCurrent u
  one_current = subst (λ z. OneCurrent (after_accepted t z)) same_entry (one_current_is_kept limits t e.now (flaw_in e.acts) s e.event)

  current_of : (key : List ℕ) (r : ℕ) (v : Representation) → u.representation r ≡ Some v → v.key ≡ key → v.is_gone ≡ false → current u key ≡ Some r
  unfolding current
  current_of key r v row of_key fresh =
      find_only (λ q. is_usable key (u.representation q)) u.founded r (listed.founded r (ap is_some row)) (usable key (u.representation r) v row of_key fresh)
      (λ n passes. let h = usable_row u key n (u.representation n) refl passes in
      one_current n r h.v v h.row row h.fresh fresh (h.of_key ∙ sym of_key))

  record MayPass (r : ℕ) (k : Consumer) : Type 0 where
    v : Representation
    row : t.representation r ≡ Some v
    now : current t k.request.key ≡ Some r
    agrees : matches_vary v.head k.request ≡ true
    plain : is_bypassing k.request ≡ false
    cached : is_disabled k.request ≡ false
    asks : is_only k.request ≡ false
    stays : becomes_gone t e r v ≡ false

  has_passed : (r : ℕ) (k z : Consumer) → z.request ≡ k.request → MayPass r k → HasPassed u r z
  unfolding representation_after
  has_passed r k z same may =
      let v = may.v in
      let h = representation_heard t e r e.event v in
      let w = representation_acted t e r v h in
      let row : u.representation r ≡ Some w = ap (representation_after t e r) may.row in
      let heard = heard_same t e r e.event v in
      let fresh : w.is_gone ≡ false = ap (λ b. b || h.is_gone) may.stays ∙ (heard.gone_is ∙ current_stays t k.request.key r v may.now may.row) in
      record {
        current_is = current_of z.request.key r w row
            (heard.key_is ∙ (current_key t k.request.key r v may.now may.row ∙ ap (λ (q : Request). q.key) (sym same))) fresh;
        plain = ap is_bypassing same ∙ may.plain;
        cached = ap is_disabled same ∙ may.cached;
        asks = ap is_only same ∙ may.asks;
        v = w;
        row = row;
        agrees = same_agreement t e r z.request v ∙ (ap (matches_vary v.head) same ∙ may.agrees);
      }

  -- who has passed and stays so
  not_lost : (c r : ℕ) (keep : Option ℕ) (k : Consumer) → k.place ≡ place.Passed r keep → starts_over t e c k ≡ false → leaves_in c e.acts ≡ false →
      goes_in t e r (t.representation r) ≡ false
  unfolding starts_over
  not_lost c r keep k at over leaves =
      let fails : fails_in c e.acts ≡ false = not_true (fails_in c e.acts) (λ h. let no_one : true ≡ false = sym (fails_leaves c e.acts h) ∙ leaves in cc) in
      let waits : loses_what_it_waits_for t e c k.place ≡ false =
      or_last ((is_key (doomed_key_of t e) k.request.key && waits_at t k.place) || (sends_back (case_at t e) && is_for (exchange_at t e.event) c))
      (loses_what_it_waits_for t e c k.place) over in
      and_first (goes_in t e r (t.representation r)) (fails_in c e.acts) fails (sym (ap (loses_what_it_waits_for t e c) at) ∙ waits)

  stays_passed : (c r : ℕ) (keep : Option ℕ) (k : Consumer) → t.consumer c ≡ Some k → k.place ≡ place.Passed r keep → StaysOrPlain t e c k k.place → MayPass r k
  stays_passed c r keep k row at (places.is_plain plain) = absurd (subst IsPlain at plain)
  stays_passed c r keep k row at (places.stayed over leaves) =
      let h = turns.passed c r keep k row at in
      record {
        v = h.v;
        row = h.row;
        now = h.current_is;
        agrees = h.agrees;
        plain = h.plain;
        cached = h.cached;
        asks = h.asks;
        stays = sym (ap (goes_in t e r) h.row) ∙ not_lost c r keep k at over leaves;
      }

  -- who is to wait for a busy one
  busy_move : (c d r want : ℕ) (k : Consumer) (m : Move) → e.event ≡ event.Poll c want → current t k.request.key ≡ Some r → e.acts ≡ acts_of c m ++
      behind limits t e taken → (seen limits t e taken).acts ≡ acts_of c m ++ loss_acts (flaw_in e.acts) → Does t c k m →
      waits_of m ≡ Some (wait.Busy d) → MayPass r k
  busy_move c d r want k _ at now all saw (does.passes d' r' is_new queues may) is =
      record {
        v = may.v;
        row = ap t.representation (sym (some_inj r' r (sym may.current ∙ now))) ∙ may.row;
        now = now;
        agrees = may.agrees;
        plain = may.plain;
        cached = queues.cached;
        asks = queues.asks;
        stays = opens.goes_none limits t e taken c want at (ap leaver_in saw ∙ leaver_lost (flaw_in e.acts)) r may.v
            (ap bypassed_by (ap opening_in all ∙ opens_behind limits t e taken)) (ap (misreads_in r) all ∙ misreads_behind limits t e taken r);
      }
  busy_move c d r want k _ at now all saw _ is = absurd (let no_one : true ≡ false = sym (ap is_busy is) in cc)

  busy_poll : (c d r : ℕ) (k : Consumer) → current t k.request.key ≡ Some r → wait_in c e.acts ≡ Some (wait.Busy d) → AtPoll limits t e taken c k → MayPass r k
  busy_poll c d r k now waits (moves_on want m at is does_so all saw) =
      busy_move c d r want k m at now all saw does_so
      (sym (ap (wait_in c) all ∙ move_waits c m (behind limits t e taken) (far_behind limits t e taken c).waits) ∙ waits)
  busy_poll c d r k now waits (misreads want q at all saw) =
      absurd (none_some (wait.Busy d) (sym (ap (wait_in c) all ∙ (far_behind limits t e taken c).waits) ∙ waits))

  waits_busy : (c d r : ℕ) (k : Consumer) → t.consumer c ≡ Some k → current t k.request.key ≡ Some r → wait_in c e.acts ≡ Some (wait.Busy d) → MayPass r k
  waits_busy c d r k row now waits = elim (poll_of e.event c) [
    | inl polled ↦ busy_poll c d r k now waits (at_poll limits t e taken c polled.0 k s turns row polled.1)
    | inr other ↦ absurd (none_some (wait.Busy d) (sym (far_from limits t e taken c other).waits ∙ waits))
  ]

  -- who is let through by a 304
  head_goes : (x : ℕ) (response : Response) (w : Exchange) → e.event ≡ event.Head x response → t.exchange x ≡ Some w → is_headless (Some w) ≡ true
  unfolding refusals.refusal_of
  head_goes x response w at row = head_opens w (sym (ap (λ o. head_refusal (as_open o)) row) ∙ (sym (ap (denial t) at) ∙ goes_on))

  has_turn_by : (x : ℕ) (k : Consumer) (way : Route) → StandsFor x k way → way ≡ route.Turn → k.place ≡ place.Turn x
  has_turn_by x k _ (laws.has_turn at unshown) is = at
  has_turn_by x k _ _ is = cc

  let_through : (c x r : ℕ) (response : Response) (w : Exchange) (k : Consumer) → t.consumer c ≡ Some k → e.event ≡ event.Head x response →
      t.exchange x ≡ Some w → w.c ≡ c → case_at t e ≡ Some case.Validated → w.aim ≡ Some r → MayPass r k
  let_through c x r response w k is_row at row mine found aim =
      let valid = valid_is t e x r response w at row found aim in
      let bare = head_goes x response w at row in
      let it = turns.awaited x w row bare in
      let mine_row : t.consumer w.c ≡ Some k = ap t.consumer mine ∙ is_row in
      let me : it.k ≡ k = same_row (t.consumer w.c) it.k k it.row mine_row in
      let queued = turns.queued c x k is_row (ap (λ (q : Consumer). q.place) (sym me) ∙ has_turn_by x it.k (route_of w.need) it.stands valid.turn) in
      let has = one.exchanges.aims x r w row aim in
      let may = turns.validates x r w k has.0 row bare valid.need_is aim mine_row has.1 in
      record {
        v = has.0;
        row = has.1;
        now = ap (current t) (sym (opener_key t x w k one.exchanges row mine_row)) ∙ valid.current;
        agrees = may.1;
        plain = may.0;
        cached = queued.0;
        asks = queued.1;
        stays = goes_none limits t e taken x response w at row found valid.lossless r has.0;
      }

  passed_place : (c r : ℕ) (keep : Option ℕ) (k : Consumer) (p : Place) → t.consumer c ≡ Some k → ComesFrom t e c k p → StaysOrPlain t e c k p →
      p ≡ place.Passed r keep → MayPass r k
  passed_place c r keep k _ row places.kept stays is = stays_passed c r keep k row is stays
  passed_place c r keep k _ row (places.plain p plain) stays is = absurd (subst IsPlain is plain)
  passed_place c r keep k _ row (places.busy d q keep' waits now) stays is = waits_busy c d r k row (now ∙ ap Some (ap row_in is)) waits
  passed_place c r keep k _ row (places.validated y q response w at its_row mine found aim) stays is =
      let_through c y r response w k row at its_row mine found (aim ∙ ap Some (ap row_in is))
  passed_place c r keep k _ row _ stays is = apart is_passed (place.Passed r keep) _ refl refl (sym is)

  passed_of : (c r : ℕ) (keep : Option ℕ) (z : Consumer) → WasConsumer c z → z.place ≡ place.Passed r keep → HasPassed u r z
  passed_of c r keep z (there k row after) at = has_passed r k z after.request (passed_place c r keep k z.place row after.from after.stays at)
  passed_of c r keep z (begins line_is) at = apart is_passed (place.Passed r keep) place.Line refl refl (sym at ∙ line_is)

  -- FIRST HOLES

  abbrev Headed : ℕ → Type 0
  Headed y = (w : Exchange) × (u.exchange y ≡ Some w) × (is_headless (Some w) ≡ false)

  stays_headed : (y : ℕ) (w : Exchange) → t.exchange y ≡ Some w → is_headless (Some w) ≡ false → Headed y
  unfolding exchange_after
  stays_headed y w row headed =
      let z = exchange_acted y e.acts (exchange_heard t e y e.event w) in (
        z,
        ap (exchange_after t e y) row,
        not_true (is_headless (Some z)) (λ h.
            let no_one : false ≡ true = sym headed ∙ headless_before t e y w e.event h in cc),
      )

  joined_row : (y : ℕ) (o : Option Exchange) → t.exchange y ≡ o → has_joined o ≡ true → Headed y
  joined_row y None row h = absurd (let no_one : false ≡ true = h in cc)
  joined_row y (Some w) row h =
      stays_headed y w row (not_true (is_headless (Some w)) (λ bare.
      let no_one : false ≡ true = sym (ap is_some ((s.waits.headless y w row (head_none w bare)).1)) ∙ h in
      cc))

  shown_move : (c r lo y want : ℕ) (hi : Option ℕ) (k : Consumer) (m : Move) → k.place ≡ place.Bound r lo hi (by.FirstHole y) → Does t c k m → shows_in
      c (acts_of c m ++ behind limits t e taken) ≡ true → Headed y
  shown_move c r lo y want hi k _ at (does.shows q why head low high joined) h = joined_row y (t.exchange y) refl (joined r lo y hi at)
  shown_move c r lo y want hi k _ at _ h = absurd (let no_one : false ≡ true = sym (far_behind limits t e taken c).shows ∙ h in cc)

  shown_poll : (c r lo y : ℕ) (hi : Option ℕ) (k : Consumer) → k.place ≡ place.Bound r lo hi (by.FirstHole y) → shows_in c e.acts ≡ true →
      AtPoll limits t e taken c k → Headed y
  shown_poll c r lo y hi k at h (moves_on want m here is does_so all saw) = shown_move c r lo y want hi k m at does_so (sym (ap (shows_in c) all) ∙ h)
  shown_poll c r lo y hi k at h (misreads want q here all saw) =
      absurd (let no_one : false ≡ true = sym (ap (shows_in c) all ∙ (far_behind limits t e taken c).shows) ∙ h in cc)

  shown_now : (c r lo y : ℕ) (hi : Option ℕ) (k : Consumer) → t.consumer c ≡ Some k → k.place ≡ place.Bound r lo hi (by.FirstHole y) → shows_in
      c e.acts ≡ true → Headed y
  shown_now c r lo y hi k row at h = elim (poll_of e.event c) [
    | inl polled ↦ shown_poll c r lo y hi k at h (at_poll limits t e taken c polled.0 k s turns row polled.1)
    | inr other ↦ absurd (let no_one : false ≡ true = sym (far_from limits t e taken c other).shows ∙ h in cc)
  ]

  first_stays : (c r lo y : ℕ) (hi : Option ℕ) (k : Consumer) → t.consumer c ≡ Some k → k.place ≡ place.Bound r lo hi (by.FirstHole y) →
      (shows_in c e.acts || k.shown) ≡ true → Headed y
  first_stays c r lo y hi k row at shown = elim (or_cases (shows_in c e.acts) k.shown shown) [
    | inl now ↦ shown_now c r lo y hi k row at now
    | inr was_shown ↦ let h = turns.first_hole c r lo y hi k row at was_shown in stays_headed y h.0 h.1 h.2
  ]

  -- who has just opened for a first hole was shown nothing
  opened_first : (o : Opening) (r lo y : ℕ) (hi : Option ℕ) (z : Consumer) (is : opening_in e.acts ≡ Some o) → u.consumer o.c ≡ Some z →
      z.place ≡ place.Bound r lo hi (by.FirstHole y) → z.shown ≡ true → route_of o.need ≡ route.Hole → Headed y
  opened_first o r lo y hi z is row at shown way = by_why (opened_at limits t e taken s turns o is).why
    where
      w : IsOpenedAt limits t e taken o
      w = opened_at limits t e taken s turns o is

      a : (q : Consumer) × (u.consumer o.c ≡ Some q) × IsOpener limits t e taken s turns o is q
      a = opener_after limits t e taken s turns o is

      me : a.0 ≡ z
      me = same_row (u.consumer o.c) a.0 z a.1 row

      was_shown : w.k.shown ≡ true
      was_shown = sym a.2.shown ∙ (ap (λ (q : Consumer). q.shown) me ∙ shown)

      by_why : OpensFor t o.c w.k o.x o.need → Headed y
      by_why (opens.past way' is_new) = absurd (let no_one : route.Direct ≡ route.Hole = sym way' ∙ way in cc)
      by_why (opens.fetches way' is_new queues turn_is varied bypass) = absurd (let no_one : route.Turn ≡ route.Hole = sym way' ∙ way in cc)
      by_why (opens.first q low high way' is_new bound) = absurd (let no_one : false ≡ true = sym is_new.shown ∙ was_shown in cc)
      by_why (opens.later q low high how way' had bound) =
          let stays : a.0.place ≡ w.k.place = a.2.place ∙ (ap (λ b. unless_bound b w.k.place (opened_place t o.x w.k (route_of o.need))) (ap bound_to bound)) in
          let h = turns.first_hole o.c r lo y hi w.k w.row (sym stays ∙ (ap (λ (p : Consumer). p.place) me ∙ at)) had in
          stays_headed y h.0 h.1 h.2

  first_place : (c r lo y : ℕ) (hi : Option ℕ) (k z : Consumer) (p : Place) → t.consumer c ≡ Some k → u.consumer c ≡ Some z →
      z.place ≡ place.Bound r lo hi (by.FirstHole y) → z.shown ≡ true → (shows_in c e.acts || k.shown) ≡ true → ComesFrom t e c k p →
      p ≡ place.Bound r lo hi (by.FirstHole y) → Headed y
  first_place c r lo y hi k z _ row after at shown reported places.kept is = first_stays c r lo y hi k row is reported
  first_place c r lo y hi k z _ row after at shown reported (places.plain p plain) is = absurd (subst IsPlain is plain)
  first_place c r lo y hi k z _ row after at shown reported (places.first_of o q low high opens_it mine way) is =
      opened_first o r lo y hi z opens_it (ap u.consumer mine ∙ after) at shown way
  first_place c r lo y hi k z _ row after at shown reported _ is = apart is_first (place.Bound r lo hi (by.FirstHole y)) _ refl refl (sym is)

  first_of : (c r lo y : ℕ) (hi : Option ℕ) (z : Consumer) → u.consumer c ≡ Some z → WasConsumer c z → z.place ≡ place.Bound r lo hi (by.FirstHole y) →
      z.shown ≡ true → Headed y
  first_of c r lo y hi z row (there k row' after) at shown = first_place c r lo y hi k z z.place row' row at shown (sym after.shown ∙ shown) after.from at
  first_of c r lo y hi z row (begins line_is) at shown = apart is_first (place.Bound r lo hi (by.FirstHole y)) place.Line refl refl (sym at ∙ line_is)

  -- WHAT IS VALIDATED

  agrees_after : (r : ℕ) (request : Request) (v z : Representation) → t.representation r ≡ Some v → u.representation r ≡ Some z →
      matches_vary z.head request ≡ matches_vary v.head request
  unfolding representation_after
  agrees_after r request v z row after =
      let is = some_inj (representation_acted t e r v (representation_heard t e r e.event v)) z (sym (ap (representation_after t e r) row) ∙ after) in
      ap (λ (q : Representation). matches_vary q.head request) (sym is) ∙ same_agreement t e r request v

  aim_unbound : (key : List ℕ) (p : Place) → bound_to p ≡ None → aim_from t key p ≡ current t key
  aim_unbound key (place.Bound r lo hi how) free = absurd (let no_one : Some r ≡ None = free in cc)
  aim_unbound key _ free = refl

  abbrev Validates : Consumer → Representation → Type 0
  Validates k v = (is_bypassing k.request ≡ false) × (matches_vary v.head k.request ≡ true)

  validates_of : (x r : ℕ) (z : Exchange) (q : Consumer) (v : Representation) → WasHeadless x z → z.need ≡ need.Validate → z.aim ≡ Some r →
      u.consumer z.c ≡ Some q → u.representation r ≡ Some v → Validates q v
  validates_of x r z q v (was w row bare is stays) need_is aim after there_now =
      let same = same_exchange t e x e.event w in
      let aim_was : w.aim ≡ Some r = sym (ap (λ (y : Exchange). y.aim) is ∙ same.aim_is) ∙ aim in
      let it = turns.awaited x w row bare in
      let has = one.exchanges.aims x r w row aim_was in
      let may = turns.validates x r w it.k has.0 row bare (sym (ap (λ (y : Exchange). y.need) is ∙ same.need_is) ∙ need_is) aim_was it.row has.1 in
      let request_is = (is_after t e w.c it.k q it.row (ap u.consumer (sym (ap (λ (y : Exchange). y.c) is ∙ same.c_is)) ∙ after)).request in
      (ap is_bypassing request_is ∙ may.0, agrees_after r q.request has.0 v has.1 there_now ∙ (ap (matches_vary has.0.head) request_is ∙ may.1))
  validates_of x r z q v (new o is here made) need_is aim after there_now =
      by_why w.why
    where
      w : IsOpenedAt limits t e taken o
      w = opened_at limits t e taken s turns o is

      need_was : o.need ≡ need.Validate
      need_was = ap (λ (y : Exchange). y.need) (sym made) ∙ need_is

      request_is : q.request ≡ w.k.request
      request_is = (is_after t e o.c w.k q w.row (ap (λ (y : Exchange). u.consumer y.c) (sym made) ∙ after)).request

      not_turn : {A : Type 0} (way : Route) → route_of o.need ≡ way → (route.Turn ≡ way → ⊥) → A
      not_turn way is other = absurd (other (sym (ap route_of need_was) ∙ is))

      by_current : (q' : ℕ) → MayRead t w.k q' → bound_to w.k.place ≡ None → Validates q v
      by_current q' may free =
          let aim_is : aim_of t (t.consumer o.c) ≡ Some r = ap (λ (y : Exchange). y.aim) (sym made) ∙ aim in
          let same : q' ≡ r = some_inj q' r (sym may.current ∙ (sym (aim_unbound w.k.request.key w.k.place free) ∙ (sym (ap (aim_of t) w.row) ∙ aim_is))) in (
            ap is_bypassing request_is ∙ may.plain,
            agrees_after r q.request may.v v (ap t.representation (sym same) ∙ may.row) there_now ∙
                (ap (matches_vary may.v.head) request_is ∙ may.agrees),
          )

      by_why : OpensFor t o.c w.k o.x o.need → Validates q v
      by_why (opens.fetches way is_new queues turn_is varied bypass) = let may = varied need_was in by_current may.0 may.1 is_new.bound
      by_why (opens.past way is_new) = not_turn route.Direct way (λ same. let no_one : route.Turn ≡ route.Direct = same in cc)
      by_why (opens.first q' lo hi way is_new bound) = not_turn route.Hole way (λ same. let no_one : route.Turn ≡ route.Hole = same in cc)
      by_why (opens.later q' lo hi how way shown bound) = not_turn route.Hole way (λ same. let no_one : route.Turn ≡ route.Hole = same in cc)

  -- ALL OF IT

  pub turns_kept : Turns u
  turns_kept = record {
    awaited = λ x z row bare. awaited_of x z (was_headless x (t.exchange x) z refl row bare);
    one_holder = λ c d x y z v row row' at at' key. one_of c d x y z v (turn_from c x z (consumer_of c z row) at)
        (turn_from d y v (consumer_of d v row') at') key;
    queued = λ c x z row at. queued_of c x z (turn_from c x z (consumer_of c z row) at);
    passed = λ c r keep z row at. passed_of c r keep z (consumer_of c z row) at;
    first_hole = λ c r lo y hi z row at shown. first_of c r lo y hi z row (consumer_of c z row) at shown;
    validates = λ x r z q v row bare need_is aim after there_now. validates_of x r z q v (was_headless x (t.exchange x) z refl row bare) need_is aim after
        there_now;
  }

pub turns_are_kept : TurnsAreKept
turns_are_kept limits t e s one turns owed not_denied = turns_kept limits t e (record { owed = owed; not_denied = not_denied }) s one turns

pub turns_begin : TurnsBegin
turns_begin contents = record {
  awaited = λ x w row bare. absurd (none_some w row);
  one_holder = λ c d x y k v row row' at at' key. absurd (none_some k row);
  queued = λ c x k row at. absurd (none_some k row);
  passed = λ c r keep k row at. absurd (none_some k row);
  first_hole = λ c r lo y hi k row at shown. absurd (none_some k row);
  validates = λ x r w k v row bare need_is aim after there_now. absurd (none_some w row);
}
