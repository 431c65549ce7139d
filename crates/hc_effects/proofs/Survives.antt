-- Who survives the loss of a writer group goes on alone, from where its exchange goes on; nothing past that came.
--
-- The survivor is one whose position is where what is stored ends (`survivor_offset`). It goes on reading, and the
-- exchange of the writing is left to it, which has its head and feeds what it reads. While the writing was on its front
-- was where what is stored ends, and the event moves it by the piece alone that is lost (`fronts`). So nothing past
-- that came. `survivor_alone` joins these, and `goes_on` takes it to any survivor.
use Rattle.std.{proofs.{Common.{◌≡◌, ◌⊎◌, inl, inr, ℕ, ◌+◌, ◌<◌, ◌≤◌, List, [], ◌∷◌, length, true, Option, Some, None, refl, ap, sym, ◌∙◌, subst, arith, length-append}, lemmas.Bool.Decides.{nat_tests}}, specs.Prelude.{if◌then◌else◌, is_some, ◌||◌, not, nat_eq, map, filter}}
use Rattle.hc_text.proofs.Basics.{both_true as and_both, and_left, and_right, bool_cases, not_some as none_some, never_true as not_so, same_some as same_row}
use Rattle.hc_sparse.specs.Cells.{Cells, Covers, cells_with}
use Rattle.hc_sparse.proofs.CellLemmas.{inside-past, inside-yes}
use Rattle.hc_effects.proofs.Vocabulary.{leaves_in, given_in, opening_in, Response, Member, least, lesser, stands_at, BoundBy, loses_in, by_opening, own_after, left_to, waiting, is_number, Entry, base, front, is_open, flaw_in, entry_of, Measures, is_written, bound, offset, lo_of, Tables, Exchange, Representation, Consumer, IsBound, IsAlone, IsGrowing, after_accepted, brings_body, loses_group, survivor, member, offset_in, event, place}
use Rattle.hc_model.specs.Laws.{SurvivorsGoOn}
use Rattle.hc_model.specs.Sound as sound
use Rattle.hc_effects.proofs.{Basics.{false_true, number_yes}, BoundStays.{bound_stays}, ConsumerFilters.{acted}, ExchangeFrom.{IsSame, IsHeaded}, Fills.{Fills, fills, Brings, brings}, FirstKeeps.{is_new}, ApartKeeps.{is_on}, HadKeeps.{survivor_bound}, LossBy.{IsReal, fresh}, MeasuresKeep.{IsHeld, held, one_piece}, ExclusiveWriters.{writer_some}, OfEntries.{of_real}, HasBound.{reader_of}, RepFrom.{RepFrom, rep_from, IsKept}, Said.{leaving_by}, Step.{Step, step_of}}
use Rattle.hc_effects.proofs.Fills as fills_by
use Rattle.hc_effects.proofs.Forward as forward
use Rattle.hc_effects.proofs.MemberStays as member_stays
use Rattle.hc_effects.proofs.RepFrom as rep

-- its own is the exchange of the writing, which has its head
pub record GoesOn (t : Tables) (v : Representation) (k : Consumer) (writer : Option ℕ) : Type 0 where
  pub is : IsAlone t v k
  pub own_is : writer ≡ Some is.x
  pub headed : is_some is.w.head ≡ true

-- IT STANDS WHERE WHAT IS STORED ENDS

least_there : (t : Tables) (end c : ℕ) (ds : List ℕ) → least (map (λ (m : Member). m.c) (filter (stands_at end) (map (member t) ds))) ≡ Some c →
    stands_at end (member t c) ≡ true
least_there t end c [] h = absurd (none_some c h)
least_there t end c (d ∷ ds) h = elim (bool_cases (stands_at end (member t d))) [
  | inr off ↦ least_there t end c ds (rw off at h)
  | inl on ↦ by_least (least (map (λ (m : Member). m.c) (filter (stands_at end) (map (member t) ds)))) refl on (rw on at h) (λ a is. least_there t end a ds is)
]
  where
    by_least : (z : Option ℕ) → least (map (λ (m : Member). m.c) (filter (stands_at end) (map (member t) ds))) ≡ z → stands_at end (member t d) ≡ true →
        lesser (least (map (λ (m : Member). m.c) (filter (stands_at end) (map (member t) ds)))) d ≡ Some c →
        ((a : ℕ) → least (map (λ (m : Member). m.c) (filter (stands_at end) (map (member t) ds))) ≡ Some a → stands_at end (member t a) ≡ true) →
        stands_at end (member t c) ≡ true
    by_least z is on h again = grind (arith, nat_tests)

pub survivor_offset : (t : Tables) (r c : ℕ) (v : Representation) (k : Consumer) → t.consumer c ≡ Some k → survivor t r v ≡ Some c → offset t k ≡ v.reach
survivor_offset t r c v k row is =
    let test : nat_eq (offset_in t (t.consumer c)) v.reach ≡ true = least_there t v.reach c (bound t r) is in
    let here : offset_in t (t.consumer c) ≡ v.reach = grind (arith, nat_tests) in
    sym (ap (offset_in t) row) ∙ here

module _ (step : Step) (m : Measures step.tables) (real : IsReal step.limits step.tables step.now step.event step.flaw) where
  open step use {limits, tables as t, now, flaw, sound as s, event as ev, accepted as goes}

  abbrev e : Entry
  e = entry_of limits t now ev flaw

  abbrev now_on : Tables
  now_on = after_accepted t e

  module _ (r c x lo : ℕ) (hi : Option ℕ) (how : BoundBy) (k u : Consumer) (v p : Representation) (row : t.consumer c ≡ Some k)
      (at : k.place ≡ place.Bound r lo hi how) (there : t.representation r ≡ Some v) (kept : IsKept t e r v p) (on : is_written t v ≡ true)
      (writer : v.writer ≡ Some x) (survives : survivor t r v ≡ Some c) (loses : loses_in r e.acts ≡ true) (brings_one : brings_body ev ≡ true)
      (after_row : now_on.consumer c ≡ Some u) where
    losing : loses_group t e r v ≡ true
    losing = and_both _ _ (and_both _ _ brings_one loses) on

    unpolled : (d want : ℕ) → ev ≡ event.Poll d want → ⊥
    unpolled d want polls = false_true (sym (ap brings_body polls) ∙ brings_one)

    -- what its exchange has brought is there, and what isn't stored came from it
    record IsPrefix (z : Exchange) : Type 0 where
      covered : (n : ℕ) → v.reach ≤ n → Covers p.body n (front z)
      ahead : (q : ℕ) → front z ≤ q → p.stored q ≡ p.body q

    fronts : (w z : Exchange) → IsGrowing t r v x w → IsSame t e x w z → w.is_open ≡ true → IsHeld step m x w z → Brings t e x w z → Fills t e r v p →
        IsPrefix z
    fronts w z g same opened keeps (fills_by.still none body_is) (fills_by.still none_of same_body stored_is reach_is) =
        let first : base z ≡ base w = keeps.base_is in
        let count : length z.body ≡ length w.body = ap (λ (b : List ℕ). length b) body_is in
        let was : front w ≡ v.reach = g.front_is in
        record {
          covered = λ n le q from_n lt. absurd (let below : q < front z = lt in omega arith);
          ahead = λ q le. ap (λ (f : Cells). f q) stored_is ∙
              ((s.rows r v there).store.all_stored (fresh step m real r v there loses) q ∙ sym (ap (λ (f : Cells). f q) same_body));
        }
    fronts w z g same opened keeps (fills_by.still none body_is) (fills_by.more y bytes a is same_body stored_is reach_is) =
        absurd (let it = one_piece step m x r y bytes w a v g.row opened g.headed g.family_is kept.row is in
        none bytes (is.at ∙ ap (λ n. event.Piece n bytes) it.0))
    fronts w z g same opened keeps (fills_by.more bytes here body_is) (fills_by.still none_of same_body stored_is reach_is) =
        absurd (none_of x bytes w (record { at = here; row = g.row; of_r = g.family_is }))
    fronts w z g same opened keeps (fills_by.more bytes here body_is) (fills_by.more y more a is same_body stored_is reach_is) =
        let it = one_piece step m x r y more w a v g.row opened g.headed g.family_is kept.row is in
        let bytes_same : bytes ≡ more = piece_bytes x y bytes more (sym here ∙ is.at) in
        let longer : length z.body ≡ length w.body + length bytes = ap (λ (b : List ℕ). length b) body_is ∙ length-append w.body bytes in
        let first : base z ≡ base w = keeps.base_is in
        let was : front w ≡ v.reach = g.front_is in
        let front_is : front a ≡ front w = ap (λ (b : Exchange). front b) it.1 in
        let count : length more ≡ length bytes = ap (λ (b : List ℕ). length b) (sym bytes_same) in
        let new = fresh step m real r v there loses in
        let quiet : (v.is_lost || loses_in r e.acts) ≡ true = rw (new, loses) refl in
        let stored_now : p.stored ≡ v.stored = stored_is ∙ ap (λ b. if not b then cells_with (front a) y more v.stored else v.stored) quiet in
        record {
          covered = λ n le q from_n lt. ap (λ (f : Cells). is_some (f q)) same_body ∙
              (let below : q < front z = lt in let yes = inside-yes (front a) (length more) q (omega arith) (omega arith) in rw yes refl);
          ahead = λ q le. ap (λ (f : Cells). f q) stored_now ∙
              ((s.rows r v there).store.all_stored new q ∙
              sym (ap (λ (f : Cells). f q) same_body ∙
              (let past : front z ≤ q = le in let off = inside-past (front a) (length more) q (omega arith) in rw off refl)));
        }
      where
        piece_bytes : (a b : ℕ) (d f : List ℕ) → event.Piece a d ≡ event.Piece b f → d ≡ f
        piece_bytes a b d f is = cc

    pub survivor_alone : GoesOn now_on p u (Some x)
    survivor_alone =
        let waiterless = member_stays.no_waiter step c r lo hi how k v row at there on in
        let st = bound_stays step c r lo hi how k row at waiterless (λ here. false_true (sym (ap brings_body here) ∙ brings_one))
        (not_so (leaves_in c e.acts) (λ leaves. let got = leaving_by limits t now flaw s ev goes c leaves in unpolled c got.want got.poll.at)) in
        let one : st.u ≡ u = same_row (now_on.consumer c) st.u u st.after after_row in
        let mine : is_number (survivor t r v) c ≡ true = number_yes (survivor t r v) c survives in
        let left : (n : Option ℕ) → own_after t e c k.place n ≡ Some x =
        (λ n. ap (λ a. own_after t e c a n) at ∙ (ap (λ a. left_to t e c r a n) there ∙ (rw (losing, mine) writer))) in
        let own_st : st.u.own ≡ Some x = sym (ap (λ (q : Consumer). q.own) st.is) ∙
        (ap (λ (h : Consumer). own_after t e c h.place (by_opening t c (opening_in e.acts) (waiting t e c h)).own) st.heard_is ∙
        left (by_opening t c (opening_in e.acts) (waiting t e c k)).own) in
        let grows = (s.rows r v there).growing x on writer in
        let g = grows.1 in
        let goes_on = forward.is_on t e x grows.0 g.row in
        let a = acted t e c k in
        let given_now : st.u.given ≡ k.given + length (given_in c e.acts) = sym (ap (λ (q : Consumer). q.given) st.is) ∙ a.given_is in
        let was_at : offset t k ≡ v.reach = survivor_offset t r c v k row survives in
        let place_at : offset t k ≡ lo + k.given = ap (λ q. lo_of t q + k.given) at in
        let stands_u : offset now_on u ≡ lo + st.u.given = ap (λ (q : Consumer). offset now_on q) (sym one) ∙ ap (λ q. lo_of now_on q + st.u.given) st.stands in
        let f = by_heard grows.0 goes_on.u g goes_on.row goes_on.same goes_on.same.heard_or in
        record {
          is = record {
            x = x;
            w = goes_on.u;
            own = sym (ap (λ (q : Consumer). q.own) one) ∙ own_st;
            row = goes_on.row;
            covered = f.covered (offset now_on u) (omega arith);
            ahead = λ q le from_offset. f.ahead q le;
          };
          own_is = refl;
          headed = still_headed grows.0 goes_on.u g goes_on.same.heard_or;
        }
      where
        still_headed : (w z : Exchange) → IsGrowing t r v x w → ((z.head ≡ w.head) × (z.joined ≡ w.joined)) ⊎ IsHeaded t e x w z → is_some z.head ≡ true
        still_headed w z g (inl still) = ap (λ (a : Option Response). is_some a) still.0 ∙ g.headed
        still_headed w z g (inr got) = ap (λ (a : Option Response). is_some a) got.head_is

        by_heard : (w z : Exchange) → IsGrowing t r v x w → now_on.exchange x ≡ Some z → IsSame t e x w z →
            ((z.head ≡ w.head) × (z.joined ≡ w.joined)) ⊎ IsHeaded t e x w z → IsPrefix z
        by_heard w z g after_x same (inl still) =
            fronts w z g same (sym (ap is_open g.row) ∙ (is_on t v x on writer).open_now) (held step m x w z same still.0 still.1)
            (brings t e x w z g.row after_x) (fills t e r v p kept)
        by_heard w z g after_x same (inr got) =
            let none = (is_new limits t now flaw s ev goes x got.response w got.at g.row).bare in
            absurd (false_true (sym (ap (λ (a : Option Response). is_some a) none) ∙ g.headed))

  -- of any reader that survives
  by_reader : (r c x : ℕ) (k u : Consumer) (v p : Representation) → IsBound t r c k → t.representation r ≡ Some v → IsKept t e r v p →
      is_written t v ≡ true → v.writer ≡ Some x → survivor t r v ≡ Some c → loses_in r e.acts ≡ true → brings_body ev ≡ true →
      now_on.consumer c ≡ Some u → GoesOn now_on p u (Some x)
  by_reader r c x k u v p (sound.is_bound lo hi how row at) there kept on writer is loses brings_one after_row =
      survivor_alone r c x lo hi how k u v p row at there kept on writer is loses brings_one after_row

  by_writer : (r c : ℕ) (z : Option ℕ) (u : Consumer) (v p : Representation) → t.representation r ≡ Some v → IsKept t e r v p →
      loses_group t e r v ≡ true → v.writer ≡ z → survivor t r v ≡ Some c → now_on.consumer c ≡ Some u → GoesOn now_on p u z
  by_writer r c None u v p there kept losing writer is after_row = absurd (writer_some t v (and_right _ _ losing) writer)
  by_writer r c (Some x) u v p there kept losing writer is after_row =
      let reader = reader_of t r c (survivor_bound t r c v is) in
      by_reader r c x reader.0 u v p reader.1 there kept (and_right _ _ losing) writer is (and_right _ _ (and_left _ _ losing))
      (and_left _ _ (and_left _ _ losing)) after_row

  pub goes_on : (r c : ℕ) (v p : Representation) (u : Consumer) → t.representation r ≡ Some v → loses_group t e r v ≡ true → survivor t r v ≡ Some c →
      now_on.representation r ≡ Some p → now_on.consumer c ≡ Some u → GoesOn now_on p u v.writer
  goes_on r c v p u there losing is after after_row = by_rep (rep_from t e r (t.representation r) p refl after)
    where
      by_rep : RepFrom t e r p → GoesOn now_on p u v.writer
      by_rep (rep.founded response w none here exchange_row on made) = absurd (none_some v (sym none ∙ there))
      by_rep (rep.was q kept) =
          let one : q ≡ v = same_row (t.representation r) q v kept.row there in
          by_writer r c v.writer u v p there (subst (λ (a : Representation). IsKept t e r a p) one kept) losing refl is after_row

-- Who survives goes on alone.
pub survivors_go_on : SurvivorsGoOn
survivors_go_on limits t e s o m owed not_denied r c v p u there losing is after after_row =
    of_real limits t e (λ z. loses_group t z r v ≡ true → (after_accepted t z).representation r ≡ Some p → (after_accepted t z).consumer c ≡ Some u →
    IsAlone (after_accepted t z) p u) owed not_denied
    (λ going real losing_now after_now row_now.
    (goes_on (step_of limits t e.now (flaw_in e.acts) s o e.event going) m real r c v p u there losing_now is after_now row_now).is) losing after after_row
