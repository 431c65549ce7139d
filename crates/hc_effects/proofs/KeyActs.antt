-- The acts of an entry say nothing of exchanges, representations and consumers of another key, but for what makes room.
--
-- Acts come from the move of a poll, from closings, from a loss and from what makes room; each part is looked at by
-- itself. A move is near: it asks for what its consumer reads from, and opens for its key. So an exchange of another
-- key is not asked. It is not closed: it was not refused, doomed, or left, and its writing was not lost, each of which
-- is of the key of the event. A representation of another key is not written, so not lost, and is not read by the poll,
-- so not misread.
use Rattle.std.{proofs.{lemmas.Bool.Decides.{nat_tests}, Common.{arith, ◌≡◌, ◌⊎◌, inl, inr, ℕ, List, [], ◌∷◌, ◌++◌, Bool, true, false, Option, Some, None, refl, ap, sym, ◌∙◌, subst}}, specs.{Prelude.{◌||◌, ◌==◌, nat_eq, if◌then◌else◌, map, filter, reverse, take, zero, suc}, Option.{option_or, option_map}}}
use Rattle.hc_text.proofs.Basics.{and_left, and_right as and_then, bool_cases, eq_reports as eq_is, not_some as none_some, never_true as not_true, or_cases, some_inj}
use Rattle.hc_effects.proofs.Vocabulary.{Opening, opening_in, asks_in, closes_in, evicts_in, Act, Cause, Need, Event, Response, Limits, Room, loses_in, misreads_in, leaver_in, without_losses, accepted_acts, answer_acts, loss_acts, case_at, is_founding, is_joining, must_close, closes_row, closing, brings_head, is_doomed, has_no_survivor, is_left, is_left_by, leaver_by, is_number, bypass_key, bypassed_by, bypassed_for, Entry, entry_without_acts, family, Flaw, Misreads, flaw_in, key_of, key_of_exchange, is_of_key, ExchangeKeys, ConsumerKeys, Move, Fails, acts_of, source, Tables, Exchange, Representation, Consumer, may_be, may_misread, evicted, first_idle, idle, is_idle, room_for, brings_body, loses_group, written_representation, written_in, head_writes, may_validate, piece_writes, unless_lost, sealed_representation, seals_at, sealed_by, stops, first_found, lossless, act, need, room}
use Rattle.hc_event.specs.declared.act.Cause.TheVariants as cause
use Rattle.hc_event.specs.declared.event.Event.TheVariants as event
use Rattle.hc_model.specs.Runs.{is_near}
use Rattle.hc_effects.proofs.{ActParts.{IsAnswer, IsSaid, IsFarFrom, AllPass, answer_is, said_is, asks_evicted, asks_closed, asks_closes, asks_lost, asks_loss, closes_evicted, closes_lost, closes_before, closes_filter, loses_evicted, loses_closed, loses_before, evicts_closes, evicts_lost, evicts_closed, evicts_all, said_closes, far_loss, far_lost_only, far_closing, far_closed, far_evicted, far_said, leaver_lost}, Basics.{number_is}, KeyNames.{aims_key, writer_key, key_is, IsOther, not_other, doomed_key, family_key, own_key, shared_key, source_key, near_key}, PieceKeeps.{eq_cases}, PollKeys.{IsNear}}
use Rattle.hc_effects.proofs.ActParts as parts
use Rattle.hc_effects.proofs.PollKeys as polls

-- it is of the event's key, or it isn't
pub key_cases : (t : Tables) (ev : Event) (key : List ℕ) → (key_of t ev ≡ Some key) ⊎ IsOther t ev key
key_cases t ev key = elim (bool_cases (is_of_key (key_of t ev) (Some key))) [
  | inl same ↦ inl (key_is (key_of t ev) key same)
  | inr other ↦ inr other
]

-- MOVES

asks_move : (x : ℕ) (t : Tables) (c : ℕ) (k : Consumer) (m : Move) (rest : List Act) → IsNear t k m →
    ((y : ℕ) → source t k ≡ Some y → nat_eq y x ≡ false) → asks_in x (acts_of c m ++ rest) ≡ asks_in x rest
asks_move x t c k _ rest (polls.asks y from) other = rw (other y from) refl
asks_move x t c k _ rest _ other = refl

-- what a move opens is of its consumer's key
opens_move : (t : Tables) (c : ℕ) (k : Consumer) (m : Move) (rest : List Act) (o : Opening) → IsNear t k m → opening_in rest ≡ None → opening_in
    (acts_of c m ++ rest) ≡ Some o → o.request.key ≡ k.request.key
opens_move t c k _ rest o (polls.opens y n request same) none h = ap (λ (q : Opening). q.request.key) (sym (some_inj _ o h)) ∙ same
opens_move t c k _ rest o _ none h = absurd (none_some o (sym none ∙ h))

-- a read that fails is the flaw that the acts show
misread_cause : (r c : ℕ) (cause : Cause) (rest : List Act) → misreads_in r rest ≡ false → misreads_in r (act.Failed c cause ∷ rest) ≡ true → flaw_in
    (act.Failed c cause ∷ rest) ≡ Misreads r
misread_cause r c cause rest none h = grind (arith, nat_tests)

misread_move : (r c : ℕ) (m : Move) (rest : List Act) → misreads_in r rest ≡ false → misreads_in r (acts_of c m ++ rest) ≡ true → flaw_in
    (acts_of c m ++ rest) ≡ Misreads r
misread_move r c (Fails cause) rest none h = misread_cause r c cause rest none h
misread_move r c _ rest none h = absurd (let never : false ≡ true = sym none ∙ h in cc)

-- who leaves by a poll is the polled one
leaver_move : (c d : ℕ) (m : Move) (flaw : Flaw) → leaver_in (acts_of c m ++ loss_acts flaw) ≡ Some d → c ≡ d
leaver_move c d m flaw h = grind (arith, nat_tests)

-- WHAT IS WRITTEN

first_some : (f : ℕ → Option ℕ) (x : ℕ) (others : Option ℕ) (r : ℕ) (o : Option ℕ) → f x ≡ o → option_or o others ≡ Some r →
    (others ≡ Some r → (y : ℕ) × (f y ≡ Some r)) → (y : ℕ) × (f y ≡ Some r)
first_some f x others r None is h rest = rest h
first_some f x others r (Some q) is h rest = (x, is ∙ h)

pub found_some : (f : ℕ → Option ℕ) (xs : List ℕ) (r : ℕ) → first_found f xs ≡ Some r → (x : ℕ) × (f x ≡ Some r)
found_some f [] r h = absurd (none_some r h)
found_some f (x ∷ xs) r h = first_some f x (first_found f xs) r (f x) refl h (λ rest. found_some f xs r rest)

pub closes_lossless : (x : ℕ) (acts : List Act) → closes_in x (without_losses acts) ≡ closes_in x acts
closes_lossless x [] = refl
closes_lossless x (act.Close y ∷ acts) = ap (λ b. (y == x) || b) (closes_lossless x acts)
closes_lossless x (_ ∷ acts) = closes_lossless x acts

pub test_some : {A : Type 0} (b : Bool) (o : Option A) (a : A) → (if b then o else None) ≡ Some a → (b ≡ true) × (o ≡ Some a)
test_some true o a h = (refl, h)
test_some false o a h = absurd (none_some a h)

-- THE ENTRY

-- WHAT IS IDLE

abbrev pub HasRow : Tables → ℕ → Type 0
HasRow t r = (v : Representation) × (t.representation r ≡ Some v)

idle_row : (t : Tables) (e' : Entry) (r : ℕ) (o : Option Representation) → t.representation r ≡ o → is_idle t e' r o ≡ true → HasRow t r
idle_row t e' r None row h = absurd (let never : false ≡ true = h in cc)
idle_row t e' r (Some v) row h = (v, row)

taken_rows : (t : Tables) (n : ℕ) (rs : List ℕ) → AllPass (HasRow t) rs → AllPass (HasRow t) (take n rs)
taken_rows t zero rs all = tt
taken_rows t (suc n) [] all = tt
taken_rows t (suc n) (r ∷ rs) all = (all.0, taken_rows t n rs all.1)

idle_rows : (t : Tables) (e' : Entry) (rs : List ℕ) → AllPass (HasRow t) (filter (λ r. is_idle t e' r (t.representation r)) rs)
idle_rows t e' [] = tt
idle_rows t e' (r ∷ rs) = elim (bool_cases (is_idle t e' r (t.representation r))) [
  | inl passes ↦ rw passes (idle_row t e' r (t.representation r) refl passes, idle_rows t e' rs)
  | inr fails ↦ rw fails (idle_rows t e' rs)
]

first_rows : (t : Tables) (e' : Entry) (place : Room) → AllPass (HasRow t) (first_idle t e' place)
unfolding idle
first_rows t e' (room.After count) = taken_rows t count _ (idle_rows t e' (reverse t.used))
first_rows t e' _ = tt

-- what makes room has a row
pub evicted_rows : (limits : Limits) (t : Tables) (now : ℕ) (ev : Event) → AllPass (HasRow t) (evicted limits t now ev)
evicted_rows limits t now ev = first_rows t (entry_without_acts now ev) (room_for limits t now ev)

module _ (limits : Limits) (t : Tables) (e : Entry) (flaw : Flaw) (exchanges : ExchangeKeys t) (consumers : ConsumerKeys t)
    (acts_is : e.acts ≡ accepted_acts limits t e.now e.event flaw) (flaw_is : flaw_in e.acts ≡ flaw) (may : may_be limits t e flaw ≡ true) where
  abbrev Other : List ℕ → Type 0
  Other key = IsOther t e.event key

  abbrev answered : List Act → Type 0
  answered acts = IsAnswer limits t e.now e.event flaw acts

  abbrev IsSaidHere : List Act → Type 0
  IsSaidHere acts = IsSaid t e.now e.event flaw acts

  abbrev asked_of : List Act
  asked_of = answer_acts t e.now e.event flaw

  said_here : IsSaidHere asked_of
  said_here = said_is t e.now e.event flaw

  -- what closings look at
  abbrev seen : Entry
  seen = record { now = e.now; event = e.event; acts = asked_of ++ loss_acts flaw }

  abbrev closings : List ℕ
  closings = closing t seen

  pub is_answer : answered (accepted_acts limits t e.now e.event flaw)
  is_answer = answer_is limits t e.now e.event flaw

  pub poll_key : (c want : ℕ) (k : Consumer) → e.event ≡ event.Poll c want → t.consumer c ≡ Some k → key_of t e.event ≡ Some k.request.key
  poll_key c want k at row = ap (key_of t) at ∙ ap (option_map (λ (k : Consumer). k.request.key)) row

  head_key : (x : ℕ) (response : Response) (w : Exchange) → e.event ≡ event.Head x response → t.exchange x ≡ Some w → key_of t e.event ≡ Some w.request.key
  head_key x response w at row = ap (key_of t) at ∙ ap (option_map (λ (w : Exchange). w.request.key)) row

  -- ASKED

  module _ (x : ℕ) (w : Exchange) (row : t.exchange x ≡ Some w) (other : Other w.request.key) where
    no_source : (c want : ℕ) (k : Consumer) → e.event ≡ event.Poll c want → t.consumer c ≡ Some k → (y : ℕ) → source t k ≡ Some y → nat_eq y x ≡ false
    no_source c want k at is_row y from = elim (eq_cases y x) [
      | inr not_it ↦ not_it.0
      | inl here ↦ absurd (let same = source_key t c k exchanges consumers is_row y w from (ap t.exchange here.1 ∙ row) in
          not_other t e.event w.request.key (poll_key c want k at is_row ∙ ap Some (sym same)) other)
    ]

    asks_said : (acts rest : List Act) → IsSaidHere acts → asks_in x (acts ++ rest) ≡ asks_in x rest
    asks_said _ rest (parts.does c want k m at is_row is near) = asks_move x t c k m rest near (no_source c want k at is_row)
    asks_said _ rest _ = refl

    asks_by : (acts : List Act) → answered acts → asks_in x acts ≡ false
    asks_by _ (parts.reported silent) = (asks_evicted x 0 (evicted limits t e.now e.event) _).asks ∙
        ((asks_lost x 0 flaw _).asks ∙ (asks_closes x 0 closings).asks)
    asks_by _ parts.asked = asks_said asked_of _ said_here ∙ ((asks_closed x 0 closings _).asks ∙ (asks_loss x 0 flaw).asks)

    -- an exchange of another key isn't asked
    pub asks_none : asks_in x e.acts ≡ false
    asks_none = ap (asks_in x) acts_is ∙ asks_by _ is_answer

  -- WRITTEN BY A HEAD OR A PIECE

  lost_written : (r : ℕ) (f : Flaw) → may_be limits t e f ≡ true → loses_in r (loss_acts f) ≡ true → written_representation t e ≡ Some r
  lost_written r f may_so h = grind (arith, nat_tests)

  module _ (r : ℕ) (v : Representation) (there : t.representation r ≡ Some v) where
    by_exchange : (x : ℕ) (w : Exchange) → t.exchange x ≡ Some w → v.key ≡ w.request.key → key_of_exchange t x ≡ Some v.key
    by_exchange x w row same = ap (option_map (λ (w : Exchange). w.request.key)) row ∙ ap Some (sym same)

    head_cases : (x : ℕ) (w : Exchange) (a b : Bool) → t.exchange x ≡ Some w → (if a then Some x else if b then w.aim else None) ≡ Some r →
        v.key ≡ w.request.key
    head_cases x w true b row h = exchanges.founded r w v (ap t.exchange (sym (some_inj x r h)) ∙ row) there
    head_cases x w false true row h = aims_key t x r w v exchanges row h there
    head_cases x w false false row h = absurd (none_some r h)

    head_row : (x : ℕ) (response : Response) (o : Option Exchange) → t.exchange x ≡ o → head_writes t (lossless e) x response o ≡ Some r →
        key_of_exchange t x ≡ Some v.key
    head_row x response None row h = absurd (none_some r h)
    head_row x response (Some w) row h =
        by_exchange x w row (head_cases x w (is_founding (case_at t (lossless e))) (may_validate t w response || is_joining (case_at t (lossless e))) row h)

    lost_some : (q : ℕ) (o : Option Representation) → unless_lost q o ≡ Some r → q ≡ r
    lost_some q o h = grind (arith, nat_tests)

    piece_row : (x : ℕ) (o : Option Exchange) → t.exchange x ≡ o → piece_writes t x o ≡ Some r → key_of_exchange t x ≡ Some v.key
    piece_row x None row h = absurd (none_some r h)
    piece_row x (Some w) row h = by_exchange x w row (family_key t x r w v exchanges row (lost_some (family x w) (t.representation (family x w)) h) there)

    pub body_written : (ev : Event) → brings_body ev ≡ true → written_in t (lossless e) ev ≡ Some r → key_of t ev ≡ Some v.key
    body_written (event.Head x response) body h = head_row x response (t.exchange x) refl h
    body_written (event.Piece x bytes) body h = piece_row x (t.exchange x) refl h
    body_written _ body h = absurd (let never : false ≡ true = body in cc)

    body_lost : brings_body e.event ≡ true → loses_in r (loss_acts flaw) ≡ true → key_of t e.event ≡ Some v.key
    unfolding written_representation
    body_lost body h = body_written e.event body (lost_written r flaw may h)

  -- CLOSED

  module _ (x : ℕ) (w : Exchange) (row : t.exchange x ≡ Some w) (other : Other w.request.key) where
    abbrev not_it : key_of t e.event ≡ Some w.request.key → ⊥
    not_it same = not_other t e.event w.request.key same other

    not_refused : (ev : Event) → e.event ≡ ev → brings_head x ev ≡ true → ⊥
    not_refused (event.Head y response) at h = not_it (head_key y response w at (ap t.exchange (eq_is y x h) ∙ row))
    not_refused _ at h = let never : false ≡ true = h in cc

    not_doomed : is_doomed t seen x w ≡ true → ⊥
    not_doomed h = not_it (doomed_key t seen w.request.key (key_is _ w.request.key (and_left _ _ (and_left _ _ h))))

    not_lost : (r : ℕ) (o : Option Representation) → t.representation r ≡ o → has_no_survivor t seen x r o ≡ true → ⊥
    not_lost r None there h = let never : false ≡ true = h in cc
    not_lost r (Some v) there h =
        let both = and_left _ _ h in
        let writes : v.writer ≡ Some x = number_is v.writer x (and_left _ _ both) in
        let losing = and_left _ _ (and_then (is_number v.writer x) (loses_group t seen r v) both) in
        let now_lost : loses_in r (loss_acts flaw) ≡ true = sym (said_closes x r t e.now e.event flaw asked_of (loss_acts flaw) said_here).loses ∙
        and_then _ _ losing in
        not_it (body_lost r v there (and_left _ _ losing) now_lost ∙ ap Some (writer_key t r x w v exchanges there writes row))

    left_by : (c : ℕ) (o : Option Consumer) → t.consumer c ≡ o → ((k : Consumer) → t.consumer c ≡ Some k → key_of t e.event ≡ Some k.request.key) →
        is_left_by t x c o ≡ true → ⊥
    left_by c None is_row of_key h = let never : false ≡ true = h in cc
    left_by c (Some k) is_row of_key h = elim (or_cases _ _ h) [
      | inl own ↦ not_it (of_key k is_row ∙ ap Some (sym (own_key t c k exchanges consumers is_row x w (number_is _ x own) row)))
      | inr shares ↦ not_it (of_key k is_row ∙
          ap Some (sym (shared_key t c k exchanges consumers is_row k.place x w refl (number_is _ x (and_left _ _ shares)) row)))
    ]

    -- by the leaver of a poll
    left_said : (acts : List Act) (o : Option ℕ) → IsSaidHere acts → leaver_in (acts ++ loss_acts flaw) ≡ o → is_left t x o ≡ true → ⊥
    left_said acts None said_so is h = let never : false ≡ true = h in cc
    left_said _ (Some d) parts.silent is h = none_some d (sym (leaver_lost flaw) ∙ is)
    left_said _ (Some d) (parts.does c want k m at is_row does near) is h =
        let same : c ≡ d = leaver_move c d m flaw is in
        left_by d (t.consumer d) refl (λ u there. poll_key d want u (at ∙ ap (λ n. event.Poll n want) same) there) h
    left_said _ (Some d) (parts.misreads c want r at reads) is h =
        let same : c ≡ d = some_inj c d is in
        left_by d (t.consumer d) refl (λ u there. poll_key d want u (at ∙ ap (λ n. event.Poll n want) same) there) h

    not_left : (ev : Event) → e.event ≡ ev → is_left t x (leaver_by ev (asked_of ++ loss_acts flaw)) ≡ true → ⊥
    not_left (event.Cancel c) at h = left_by c (t.consumer c) refl (λ k there. ap (key_of t) at ∙ ap (option_map (λ (k : Consumer). k.request.key)) there) h
    not_left _ at h = left_said asked_of (leaver_in (asked_of ++ loss_acts flaw)) said_here refl h

    stays_open : must_close t seen x w ≡ true → ⊥
    stays_open h = elim (or_cases _ _ h) [
      | inr left ↦ not_left e.event refl left
      | inl rest ↦ elim (or_cases _ _ rest) [
        | inr gone ↦ not_lost (family x w) (t.representation (family x w)) refl gone
        | inl first ↦ elim (or_cases _ _ first) [
          | inl refused ↦ not_refused e.event refl (and_then _ _ refused)
          | inr doom ↦ not_doomed doom
        ]
      ]
    ]

    fails_row : closes_row t seen x (t.exchange x) ≡ false
    fails_row = ap (closes_row t seen x) row ∙ not_true _ (λ h. stays_open (and_left _ _ h))

    closes_closing : closes_in x (map act.Close closings) ≡ false
    unfolding closing
    closes_closing = closes_filter x (λ y. closes_row t seen y (t.exchange y)) (reverse t.openings) fails_row

    closes_by : (acts : List Act) → answered acts → closes_in x acts ≡ false
    closes_by _ (parts.reported silent) = closes_evicted x (evicted limits t e.now e.event) _ ∙ (closes_lost x flaw _ ∙ closes_closing)
    closes_by _ parts.asked = (said_closes x 0 t e.now e.event flaw asked_of _ said_here).closes ∙ (closes_before x closings flaw ∙ closes_closing)

    -- nor is it closed
    pub closes_none : closes_in x e.acts ≡ false
    closes_none = ap (closes_in x) acts_is ∙ closes_by _ is_answer

  -- LOST

  module _ (r : ℕ) (v : Representation) (there : t.representation r ≡ Some v) where
    stop_key : (x : ℕ) (w : Exchange) (ev : Event) → t.exchange x ≡ Some w → stops x ev ≡ true → key_of t ev ≡ Some w.request.key
    stop_key x w ev row h = grind (arith, nat_tests)

    ends_key : (x : ℕ) (w : Exchange) → t.exchange x ≡ Some w → (stops x e.event || closes_in x (without_losses e.acts)) ≡ true →
        key_of t e.event ≡ Some w.request.key
    ends_key x w row h = elim (key_cases t e.event w.request.key) [
      | inl same ↦ same
      | inr other ↦ elim (or_cases _ _ h) [
        | inl stop ↦ stop_key x w e.event row stop
        | inr close ↦ absurd (let never : true ≡ false = sym close ∙ (closes_lossless x e.acts ∙ closes_none x w row other) in cc)
      ]
    ]

    seal_row : (x : ℕ) (o : Option Exchange) → t.exchange x ≡ o → (stops x e.event || closes_in x (without_losses e.acts)) ≡ true →
        sealed_by t (lossless e) x o ≡ Some r → key_of t e.event ≡ Some v.key
    seal_row x None row ends h = absurd (none_some r h)
    seal_row x (Some w) row ends h =
        let is : family x w ≡ r = some_inj _ r (test_some _ (Some (family x w)) r h).1 in
        ends_key x w row ends ∙ ap Some (sym (family_key t x r w v exchanges row is there))

    sealed_key : sealed_representation t (lossless e) ≡ Some r → key_of t e.event ≡ Some v.key
    sealed_key h =
        let found = found_some (seals_at t (lossless e)) t.openings r h in
        let both = test_some (stops found.0 e.event || closes_in found.0 (without_losses e.acts)) (sealed_by t (lossless e) found.0 (t.exchange found.0))
        r found.1 in
        seal_row found.0 (t.exchange found.0) refl both.0 both.1

    written_by : (ev : Event) → e.event ≡ ev → written_in t (lossless e) ev ≡ Some r → key_of t e.event ≡ Some v.key
    written_by (event.Head x response) at h = ap (key_of t) at ∙ body_written r v there (event.Head x response) refl h
    written_by (event.Piece x bytes) at h = ap (key_of t) at ∙ body_written r v there (event.Piece x bytes) refl h
    written_by _ at h = sealed_key h

    written_key : written_representation t e ≡ Some r → key_of t e.event ≡ Some v.key
    unfolding written_representation
    written_key h = written_by e.event refl h

    loses_by : (acts : List Act) → answered acts → loses_in r acts ≡ loses_in r (loss_acts flaw)
    loses_by _ (parts.reported silent) = loses_evicted r (evicted limits t e.now e.event) _ ∙ loses_before r flaw closings
    loses_by _ parts.asked = (said_closes 0 r t e.now e.event flaw asked_of _ said_here).loses ∙ loses_closed r closings (loss_acts flaw)

    -- a representation of another key isn't lost
    pub loses_none : Other v.key → loses_in r e.acts ≡ false
    loses_none other = not_true _ (λ h.
        let now_lost = sym (ap (loses_in r) acts_is ∙ loses_by _ is_answer) ∙ h in
        not_other t e.event v.key (written_key (lost_written r flaw may now_lost)) other)

    -- MISREAD

    near_row : (c want : ℕ) (o : Option Consumer) → e.event ≡ event.Poll c want → t.consumer c ≡ o → is_near t r o ≡ true → key_of t e.event ≡ Some v.key
    near_row c want None at row h = absurd (let never : false ≡ true = h in cc)
    near_row c want (Some k) at row h = poll_key c want k at row ∙ ap Some (sym (near_key t c k exchanges consumers row r v there h))

    misread_key : (c want : ℕ) → e.event ≡ event.Poll c want → flaw ≡ Misreads r → key_of t e.event ≡ Some v.key
    misread_key c want at is =
        let reads : may_misread t r e.event ≡ true = sym (ap (may_be limits t e) is) ∙ may in
        near_row c want (t.consumer c) at refl (sym (ap (may_misread t r) at) ∙ reads)

    misread_said : (acts rest : List Act) → IsSaidHere acts → misreads_in r rest ≡ false → flaw_in (acts ++ rest) ≡ flaw → misreads_in
        r (acts ++ rest) ≡ true → key_of t e.event ≡ Some v.key
    misread_said _ rest parts.silent none is h = absurd (let never : false ≡ true = sym none ∙ h in cc)
    misread_said _ rest (parts.does c want k m at row does near) none is h = misread_key c want at (sym is ∙ misread_move r c m rest none h)
    misread_said _ rest (parts.misreads c want q at reads) none is h = misread_key c want at (sym is ∙ misread_cause r c (cause.StoreRead q) rest none h)

    misread_by : (acts : List Act) → answered acts → flaw_in acts ≡ flaw → misreads_in r acts ≡ true → key_of t e.event ≡ Some v.key
    misread_by _ (parts.reported silent) is h =
        absurd (let never : false ≡ true =
        sym ((asks_evicted 0 r (evicted limits t e.now e.event) _).misreads ∙ ((asks_lost 0 r flaw _).misreads ∙ (asks_closes 0 r closings).misreads)) ∙
        h in cc)
    misread_by _ parts.asked is h =
        misread_said asked_of _ said_here ((asks_closed 0 r closings _).misreads ∙ (asks_loss 0 r flaw).misreads) is h

    -- nor misread
    pub misreads_none : Other v.key → misreads_in r e.acts ≡ false
    misreads_none other = not_true _ (λ h.
        not_other t e.event v.key (misread_by _ is_answer (sym (ap flaw_in acts_is) ∙ flaw_is) (sym (ap (misreads_in r) acts_is) ∙ h)) other)

  -- OPENED

  opens_said : (acts rest : List Act) (o : Opening) → IsSaidHere acts → opening_in rest ≡ None → opening_in (acts ++ rest) ≡ Some o →
      key_of t e.event ≡ Some o.request.key
  opens_said _ rest o (parts.does c want k m at row does near) none h = poll_key c want k at row ∙ ap Some (sym (opens_move t c k m rest o near none h))
  opens_said _ rest o _ none h = absurd (none_some o (sym none ∙ h))

  opens_by : (acts : List Act) (o : Opening) → answered acts → opening_in acts ≡ Some o → key_of t e.event ≡ Some o.request.key
  opens_by _ o (parts.reported silent) h =
      absurd (none_some o (sym
      ((asks_evicted 0 0 (evicted limits t e.now e.event) _).opens ∙ ((asks_lost 0 0 flaw _).opens ∙ (asks_closes 0 0 closings).opens)) ∙ h))
  opens_by _ o parts.asked h = opens_said asked_of _ o said_here ((asks_closed 0 0 closings _).opens ∙ (asks_loss 0 0 flaw).opens) h

  -- what is opened is of the event's key
  pub opens_key : (o : Opening) → opening_in e.acts ≡ Some o → key_of t e.event ≡ Some o.request.key
  opens_key o h = opens_by _ o is_answer (sym (ap opening_in acts_is) ∙ h)

  -- and so is what is bypassed
  pub bypassed_key : (key : List ℕ) → bypass_key e ≡ Some key → key_of t e.event ≡ Some key
  bypassed_key key h = by_opening (opening_in e.acts) refl h
    where
      by_need : (n : Need) (k : List ℕ) → bypassed_for n k ≡ Some key → k ≡ key
      by_need need.Bypass k h = some_inj k key h
      by_need _ k h = absurd (none_some key h)

      by_opening : (o : Option Opening) → opening_in e.acts ≡ o → bypassed_by o ≡ Some key → key_of t e.event ≡ Some key
      by_opening None is h = absurd (none_some key h)
      by_opening (Some o) is h = opens_key o is ∙ ap Some (by_need o.need o.request.key h)

  -- SAID

  -- nothing is said to a consumer of another key
  pub far : (c : ℕ) (k : Consumer) → t.consumer c ≡ Some k → Other k.request.key → IsFarFrom c e.acts
  far c k row other = subst (IsFarFrom c) (sym acts_is) (by_answer _ is_answer)
    where
      apart : (d want : ℕ) → e.event ≡ event.Poll d want → nat_eq d c ≡ false
      apart d want at = elim (eq_cases d c) [
        | inr not_it ↦ not_it.0
        | inl here ↦ absurd (not_other t e.event k.request.key (poll_key d want k at (ap t.consumer here.1 ∙ row)) other)
      ]

      by_answer : (acts : List Act) → answered acts → IsFarFrom c acts
      by_answer _ (parts.reported silent) = far_evicted c (evicted limits t e.now e.event) _ (far_loss c flaw _ (far_closed c closings))
      by_answer _ parts.asked = far_said c t e.now e.event flaw asked_of _ apart said_here (far_closing c closings _ (far_lost_only c flaw))

  -- EVICTED

  evicts_by : (r : ℕ) (acts : List Act) → answered acts → evicts_in r acts ≡ true → HasRow t r
  evicts_by r _ (parts.reported silent) h =
      evicts_all r (evicted limits t e.now e.event) _ (HasRow t) (evicted_rows limits t e.now e.event) (evicts_lost r flaw _ ∙ evicts_closes r closings) h
  evicts_by r _ parts.asked h =
      absurd (let never : false ≡ true = sym ((said_closes 0 r t e.now e.event flaw asked_of _ said_here).evicts ∙ evicts_closed r closings flaw) ∙ h in cc)

  -- what is evicted has a row
  pub evicted_row : (r : ℕ) → evicts_in r e.acts ≡ true → HasRow t r
  evicted_row r h = evicts_by r _ is_answer (sym (ap (evicts_in r) acts_is) ∙ h)
