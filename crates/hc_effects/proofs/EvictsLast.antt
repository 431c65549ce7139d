-- What makes room comes last: an accepted event does what it does without it, and then each of those goes.
--
-- What makes room is there and idle (`there_idle`), and shows no flaw (`flaw_same`). So the event does the same without
-- it, and nobody stands where an eviction would move it first: who waits for a head waits for no representation
-- (`awaiting_waits`, `head_moves`, `heard_moves`). A consumer's own event makes no room (`asked_last`).
-- `evictions_come_last` says so of any accepted event; effects are proved without evictions by it.
use Rattle.std.{proofs.{lemmas.Bool.Decides.{nat_tests}, Common.{arith, ◌≡◌, inl, inr, ℕ, zero, suc, List, [], ◌∷◌, ◌++◌, Bool, true, false, Option, Some, None, refl, ap, sym, ◌∙◌}}, specs.Prelude.{map, filter, take, reverse, is_some, ◌==◌}}
use Rattle.hc_text.proofs.Basics.{bool_cases, same_some as same_row}
use Rattle.hc_effects.proofs.Vocabulary.{evicts_in, Act, Event, Response, HeadCase, Limits, Room, Place, has_loss, fails_in, without_losses, accepted_acts, answer_acts, loss_acts, close_acts, case_at, case_of, head_view, consumer_heard, consumer_acted, by_head, place_by_case, closing, denial, Entry, entry_without_acts, evict_all, unevicting, Flaw, Loses, flaw_in, entry_of, Owners, IsAwaiting, Tables, Exchange, Representation, Consumer, may_be, Sound, starts_over, after_accepted, is_idle, idle, evicted, first_idle, room_for, write_in, written_representation, written_in, act, case, room}
use Rattle.hc_event.specs.declared.event.Event.TheVariants as event
use Rattle.hc_model.specs.Evictions.{unevicting_entry, EvictsLast, EvictionsComeLast}
use Rattle.hc_effects.proofs.{ActParts.{evicts_closes, evicts_lost, far_loss, far_closed}, Alike.{alike_evicted, written_same}, Basics.{false_true}, EvictedRows.{tables_last}, FirstKeeps.{is_new, case_of_head}, FoundBy.{CaseBy}, GivingWay.{writes_nothing}, PieceKeeps.{eq_cases}, PieceServes.{IsQuietActs, quiet_acts}, PollEffects.{none_waits}, SameTables.{is_in, waits_for_any}}
use Rattle.hc_effects.proofs.FoundBy as cases

-- WHAT MAKES ROOM IS THERE

there_row : (t : Tables) (e : Entry) (r : ℕ) (z : Option Representation) → is_idle t e r z ≡ true → is_some z ≡ true
there_row t e r z is = grind (arith, nat_tests)

there_idle : (t : Tables) (e : Entry) (r : ℕ) (rs : List ℕ) → is_in (filter (λ q. is_idle t e q (t.representation q)) rs) r ≡ true →
    is_some (t.representation r) ≡ true
there_idle t e r [] h = absurd (false_true h)
there_idle t e r (q ∷ rs) h = elim (bool_cases (is_idle t e q (t.representation q))) [
  | inr off ↦ there_idle t e r rs (rw off at h)
  | inl on ↦ elim (eq_cases q r) [
    | inl here ↦ there_row t e r (t.representation r) (sym (ap (λ n. is_idle t e n (t.representation n)) here.1) ∙ on)
    | inr other ↦ there_idle t e r rs (rw (on, other.0) at h)
  ]
]

gone_taken : (n r : ℕ) (rs : List ℕ) → is_in (take n rs) r ≡ true → is_in rs r ≡ true
gone_taken zero r rs h = absurd (false_true h)
gone_taken (suc n) r [] h = absurd (false_true h)
gone_taken (suc n) r (q ∷ rs) h = elim (bool_cases (q == r)) [
  | inl here ↦ rw here refl
  | inr other ↦ rw other (gone_taken n r rs (rw other at h))
]

there_first : (t : Tables) (e : Entry) (r : ℕ) (z : Room) → is_in (first_idle t e z) r ≡ true → is_some (t.representation r) ≡ true
unfolding idle
there_first t e r (room.After count) h =
    there_idle t e r (reverse t.used) (gone_taken count r (filter (λ q. is_idle t e q (t.representation q)) (reverse t.used)) h)
there_first t e r _ h = absurd (false_true h)

-- IT SHOWS NO FLAW

pub flaw_same : (rs : List ℕ) (b : List Act) → flaw_in (map act.Evicted rs ++ b) ≡ flaw_in b
flaw_same [] b = refl
flaw_same (r ∷ rs) b = flaw_same rs b

without_same : (rs : List ℕ) (b : List Act) → without_losses (map act.Evicted rs ++ b) ≡ map act.Evicted rs ++ without_losses b
without_same [] b = refl
without_same (r ∷ rs) b = ap (λ acts. act.Evicted r ∷ acts) (without_same rs b)

-- A HEAD

-- who waits for a head waits for no representation
awaiting_waits : (rs : List ℕ) (x : ℕ) (w : Exchange) (p : Place) → IsAwaiting x w p → waits_for_any rs p ≡ false
awaiting_waits rs x w p it4 = grind (arith, nat_tests)

placed_waits : (rs : List ℕ) (x : ℕ) (response : Response) (w : Exchange) (k : Consumer) (g : Option HeadCase) → (g ≡ Some case.Validated → rs ≡ []) →
    waits_for_any rs k.place ≡ false → waits_for_any rs (place_by_case x response w k g) ≡ false
placed_waits rs x response w k g empty off = grind (arith, nat_tests)

not_lost : (t : Tables) (loss_acts : Bool) (w : Exchange) (response : Response) → CaseBy (head_view t loss_acts w response) case.Validated → loss_acts ≡ false
not_lost t loss_acts w response (cases.validated way status conditional kept) = kept

module _ (limits : Limits) (t : Tables) (now : ℕ) (ev : Event) (flaw : Flaw) where
  abbrev rs : List ℕ
  rs = evicted limits t now ev

  abbrev b : List Act
  b = loss_acts flaw ++ close_acts t now ev flaw

  abbrev a : List Act
  a = map act.Evicted rs ++ b

  abbrev f : Entry
  f = record { now = now; event = ev; acts = b }

  evicts_none : (r : ℕ) → evicts_in r b ≡ false
  evicts_none r = evicts_lost r flaw (close_acts t now ev flaw) ∙
      evicts_closes r (closing t (record { now = now; event = ev; acts = answer_acts t now ev flaw ++ loss_acts flaw }))

  fails_none : (c : ℕ) → fails_in c b ≡ false
  fails_none c = let far =
      far_loss c flaw (close_acts t now ev flaw)
      (far_closed c (closing t (record { now = now; event = ev; acts = answer_acts t now ev flaw ++ loss_acts flaw }))) in far.fails

  quiet : IsQuietActs b
  quiet = quiet_acts [] (closing t (record { now = now; event = ev; acts = answer_acts t now ev flaw ++ loss_acts flaw })) flaw

  acted_place : (c : ℕ) (h : Consumer) → (consumer_acted t f c h).place ≡ h.place
  acted_place c h = rw (quiet.waits c, quiet.opens, quiet.leaves c, quiet.showing) refl

  none_evicted : write_in t (entry_without_acts now ev) ev ≡ None → rs ≡ []
  none_evicted none = (writes_nothing limits t now ev none).1

  -- a 304 makes no room
  none_validated : (x : ℕ) (response : Response) (w : Exchange) → ev ≡ event.Head x response → t.exchange x ≡ Some w → case_at t f ≡ Some case.Validated →
      rs ≡ []
  none_validated x response w here row is =
      let kept : has_loss b ≡ false = not_lost t (has_loss b) w response (case_of_head t f x response w case.Validated here row is) in
      let same : case_at t (entry_without_acts now ev) ≡ Some case.Validated = ap (λ l. case_of t l ev) (sym kept) ∙ is in
      none_evicted (ap (write_in t (entry_without_acts now ev)) here ∙ rw same refl)

  -- what is evicted has a row
  there : (r : ℕ) → is_in rs r ≡ true → is_some (t.representation r) ≡ true
  there r h = there_first t (entry_without_acts now ev) r (room_for limits t now ev) h

  module _ (s : Sound t) (o : Owners t) (goes : denial t ev ≡ None) where
    head_moves : (c x : ℕ) (response : Response) (k : Consumer) (z : Option Exchange) → ev ≡ event.Head x response → t.consumer c ≡ Some k →
        t.exchange x ≡ z → waits_for_any rs (by_head t f c x response z k).place ≡ waits_for_any rs k.place
    head_moves c x response k None here row is_row = refl
    head_moves c x response k (Some w) here row is_row = elim (eq_cases w.c c) [
      | inr other ↦ rw other.0 refl
      | inl mine ↦
          let new = is_new limits t now flaw s ev goes x response w here is_row in
          let waits = o.waiting x w is_row new.is_open new.bare in
          let one : waits.k ≡ k = same_row (t.consumer c) waits.k k (sym (ap t.consumer mine.1) ∙ waits.row) row in
          let off : waits_for_any rs k.place ≡ false = sym (ap (λ (q : Consumer). waits_for_any rs q.place) one) ∙
          awaiting_waits rs x w waits.k.place waits.at in
          rw mine.0 (placed_waits rs x response w k (case_at t f) (none_validated x response w here is_row) off ∙ sym off)
    ]

    heard_moves : (z : Event) → ev ≡ z → (c : ℕ) (k : Consumer) → t.consumer c ≡ Some k →
        waits_for_any rs (consumer_heard t f c z k).place ≡ waits_for_any rs k.place
    heard_moves (event.Start d request) here c k row = refl
    heard_moves (event.Poll d want) here c k row = refl
    heard_moves (event.Head x response) here c k row = head_moves c x response k (t.exchange x) here row refl
    heard_moves (event.Piece x bytes) here c k row = refl
    heard_moves (event.End x) here c k row = refl
    heard_moves (event.Doom key) here c k row = refl
    heard_moves some_ev here c k row =
        let none : rs ≡ [] = none_evicted (ap (write_in t (entry_without_acts now ev)) here) in
        let off : (p : Place) → waits_for_any rs p ≡ false = λ p. ap (λ ys. waits_for_any ys p) none ∙ none_waits p in
        off (consumer_heard t f c some_ev k).place ∙ sym (off k.place)

    moves : (c : ℕ) (k : Consumer) → t.consumer c ≡ Some k → starts_over t f c k ≡ false →
        waits_for_any rs (consumer_acted t f c (consumer_heard t f c ev k)).place ≡ waits_for_any rs k.place
    moves c k row on = ap (waits_for_any rs) (acted_place c (consumer_heard t f c ev k)) ∙ heard_moves ev refl c k row

    reported_last : after_accepted t (record { now = now; event = ev; acts = a }) ≡ evict_all rs (after_accepted t f)
    reported_last = tables_last t now ev rs b evicts_none fails_none there moves

  -- WHAT THE STORE MAY FAIL

  written_last : written_representation t (record { now = now; event = ev; acts = a }) ≡ written_representation t f
  unfolding written_representation
  written_last =
      ap (λ (acts : List Act). written_in t (record { now = now; event = ev; acts = acts }) ev) (without_same rs b)
      ∙ written_same t now ev (map act.Evicted rs ++ without_losses b) (without_losses b) (alike_evicted rs (without_losses b)) ev

  may_last : (other : Flaw) → may_be limits t (record { now = now; event = ev; acts = a }) other ≡ may_be limits t f other
  may_last (Loses r kind) = rw written_last refl
  may_last _ = refl

  flaw_last : flaw_in a ≡ flaw_in b
  flaw_last = flaw_same rs b

  -- an event of its consumer's own makes no room
  asked_last : write_in t (entry_without_acts now ev) ev ≡ None → accepted_acts limits t now ev flaw ≡ unevicting t now ev flaw →
      EvictsLast limits t now ev flaw
  asked_last none same =
      let empty = none_evicted none in
      let entry : entry_of limits t now ev flaw ≡ unevicting_entry t now ev flaw =
      ap (λ (acts : List Act). record { now = now; event = ev; acts = acts }) same in
      record {
        acts = same ∙ sym (ap (λ ys. map act.Evicted ys ++ unevicting t now ev flaw) empty);
        shown = ap flaw_in same;
        may = λ other. ap (λ (z : Entry). may_be limits t z other) entry;
        tables = ap (after_accepted t) entry ∙ sym (ap (λ ys. evict_all ys (after_accepted t (unevicting_entry t now ev flaw))) empty);
      }

pub evictions_come_last : EvictionsComeLast
evictions_come_last limits t now (event.Poll c want) flaw s o goes = asked_last limits t now (event.Poll c want) flaw refl refl
evictions_come_last limits t now (event.Cancel c) flaw s o goes = asked_last limits t now (event.Cancel c) flaw refl refl
evictions_come_last limits t now ev flaw s o goes =
    record { acts = refl; shown = flaw_last limits t now ev flaw; may = may_last limits t now ev flaw; tables = reported_last limits t now ev flaw s o goes }
