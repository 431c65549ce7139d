-- After an entry the detached reader reads on soundly.
--
-- It was bound before (`was_there`): it went on alone then, or what it wrote alone is lost now (`by_exclusive_writer`).
-- Up to the front of its exchange the body must be there, and past it all must be stored (`made`). An exchange that it
-- keeps leaves that so, as nothing lost is written any more (`kept_ahead`, `stored_same`). It opens one only where an
-- earlier one has nothing more ahead of it (`past_hole`). `go_alone` joins this.
use Rattle.std.{proofs.Common.{◌≡◌, ◌⊎◌, inl, inr, ℕ, ◌+◌, ◌≤◌, List, [], ◌∷◌, length, true, false, Option, Some, None, refl, ap, sym, ◌∙◌, subst, arith, length-append}, specs.{Prelude.{if◌then◌else◌, is_some, ◌||◌, not}, Option.{option_and_then}}}
use Rattle.hc_text.proofs.Basics.{bool_cases, not_true, or_cases, and_left, and_right, not_some as none_some, same_some as same_row, some_inj, lt_or as split}
use Rattle.hc_sparse.specs.Cells.{Cells, Covers, cells_with}
use Rattle.hc_sparse.proofs.CellLemmas.{inside-past}
use Rattle.hc_effects.proofs.Vocabulary.{Opening, opening_in, Act, Response, HeadCase, BoundBy, Showing, showing_in, loses_in, has_loss, case_at, is_joining, consumer_heard, consumer_acted, by_opening, waiting, becomes_shared, is_resumed, row_of, Entry, base, front, length_by, stop_cause, cause_of_head, covers, entry_of, Measures, is_written, own_open, if_open, bound_to, offset, hi_of, reads, resumes, Tables, Exchange, Representation, Consumer, Sound, IsBound, IsAlone, IsExclusiveWriter, IsHad, after_accepted, brings_body, has_more, lacks_some, act, event, case, place}
use Rattle.hc_model.specs.Sound as sound
use Rattle.hc_effects.proofs.{Forward.{is_on}, AboutKeeps.{own_open_of}, Basics.{or_false, false_true, true_false, some_row}, Beside.{IsBeside, goes_on_at}, BoundFrom.{BoundFrom, IsRow, IsShown, bound_from}, BoundKeeps.{planned_at}, Covers.{headed_at, offset_more}, Dues.{due_before, due_none, undue_of, stop_none, loss_at}, EventsKeep.{deliveries_are_kept}, ExchangeFrom.{IsSame, IsHeaded}, Exclusives.{IsExclusive}, Fills.{Fills, fills, Brings, brings}, FirstKeeps.{is_new, is_opener}, HoleLemmas.{covers_yes}, HolesOpened.{stored_ends}, LossBy.{IsReal}, Losses.{HasRest}, MeasuresKeep.{IsHeld, held, piece_taken}, OwnFrom.{OwnFrom, own_from}, OwnersKeep.{is_opened, there_kept}, ExclusiveWriters.{one_exclusive_writer, has_exclusive_writer}, PollKeeps.{current_stays, not_come}, RepFrom.{RepFrom, rep_from, IsKept}, Said.{ShowsBy, showing_by}, ShownFrom.{ShownAs, IsPlanned}, Survives.{goes_on}, ToBeShown.{heard_place}, Step.{Step}, OpensLater.{OpensLater, opens_later}}
use Rattle.hc_effects.proofs.BoundFrom as from
use Rattle.hc_laws.proofs.{CoversKept.{covered_kept, not_alone}, OwnNone.{IsShared, own_none}, ExclusiveWriterFrom.{ExclusiveWriterFrom, alone_from}, SoundKept.{GoAlone}, StoreKeeps.{stores_are_kept}}
use Rattle.hc_effects.proofs.Fills as fills_by
use Rattle.hc_effects.proofs.OwnFrom as own
use Rattle.hc_laws.proofs.ExclusiveWriterFrom as exclusive_writers
use Rattle.hc_effects.proofs.RepFrom as rep
use Rattle.hc_effects.proofs.ShownFrom as shown_as
use Rattle.hc_laws.proofs.TogetherHeads as together

-- where something is lost, there is a loss
loses_some : (r : ℕ) (acts : List Act) → loses_in r acts ≡ true → has_loss acts ≡ true
loses_some r [] h = absurd (false_true h)
loses_some r (act.Lost q kind ∷ acts) h = refl
loses_some r (_ ∷ acts) h = loses_some r acts h

-- a joining head that is written together is lost nowhere
resumed_of : (t : Tables) (e : Entry) (response : Response) (w : Exchange) (g : Option HeadCase) → is_joining g ≡ true →
    becomes_shared t e response w g ≡ true → is_resumed t e response w (row_of t w.aim) ≡ true
resumed_of t e response w (Some case.FirstJoins) j h = h
resumed_of t e response w (Some case.LaterJoins) j h = h
resumed_of t e response w _ j h = absurd (false_true j)

-- an exchange without a head has no front
pub bare_front : (z : Exchange) → z.head ≡ None → z.body ≡ [] → front z ≡ 0
bare_front z bare empty =
    let first : base z ≡ 0 = ap (λ l. Rattle.hc_rules.specs.Lengths.base_of l) (ap (length_by z) bare) in
    let none_yet : length z.body ≡ 0 = ap (λ (b : List ℕ). length b) empty in
    omega arith

-- who has all the rest has no more to come, without an exchange
pub rest_more : (t : Tables) (r : ℕ) (v : Representation) (k : Consumer) → Sound t → t.representation r ≡ Some v → k.own ≡ None → HasRest t v k →
    has_more t v k ≡ true → ⊥
rest_more t r v k s there none rest more =
    let unopened : own_open t k ≡ None = ap (λ (q : Option ℕ). option_and_then (if_open t) q) none in
    let covered : covers v.stored v.reach (offset t k) rest.hi ≡ true =
    covers_yes v.stored v.reach (offset t k) rest.hi (stored_ends t r v (s.rows r v there)) rest.covered in
    let lacks : lacks_some v (offset t k) (hi_of t k.place) ≡ false = ap (lacks_some v (offset t k)) rest.end ∙ rw covered refl in
    true_false (sym more ∙ rw (unopened, lacks) refl)

module _ (step : Step) (m : Measures step.tables) (i : IsBeside step.tables) (real : IsReal step.limits step.tables step.now step.event step.flaw) where
  open step use {limits, tables as t, now, flaw, sound as s, owners as o, event as ev, accepted as goes}

  abbrev e : Entry
  e = entry_of limits t now ev flaw

  abbrev now_on : Tables
  now_on = after_accepted t e

  -- what is lost isn't stored any more
  pub stored_same : (r : ℕ) (v p : Representation) → IsKept t e r v p → (v.is_lost || loses_in r e.acts) ≡ true → p.stored ≡ v.stored
  stored_same r v p kept lost = by_fills (fills t e r v p kept)
    where
      by_fills : Fills t e r v p → p.stored ≡ v.stored
      by_fills (fills_by.still none_of body_is stored_is reach_is) = stored_is
      by_fills (fills_by.more y bytes w is body_is stored_is reach_is) = stored_is ∙
          ap (λ b. if not b then cells_with (front w) y bytes v.stored else v.stored) lost

  -- whether or not a failure is due
  module _ (r c lo : ℕ) (hi : Option ℕ) (how : BoundBy) (u : Consumer) (p : Representation) (after : now_on.representation r ≡ Some p)
      (after_row : now_on.consumer c ≡ Some u) (stands : u.place ≡ place.Bound r lo hi how) (lost_now : p.is_lost ≡ true) (is_alone : p.alone ≡ Some c) where
    module _ (k : Consumer) (v : Representation) (row : IsRow t e c r lo hi how k u) (at : k.place ≡ place.Bound r lo hi how)
        (there : t.representation r ≡ Some v) (kept : IsKept t e r v p) where
      -- a writing that is left to it is lost now
      pub left_number : (x : ℕ) (q : Consumer) → t.consumer c ≡ Some q → (l : own.IsLeft t e c x (consumer_heard t e c ev q).place) → l.r ≡ r
      left_number x q q_row l =
          let brings_one : brings_body ev ≡ true = and_left _ _ (and_left _ _ l.loses) in
          let placed : u.place ≡ (consumer_heard t e c ev k).place =
          heard_place step c r lo hi how k u (λ d want polls. false_true (sym (ap brings_body polls) ∙ brings_one)) row in
          let one : q ≡ k = same_row (t.consumer c) q k q_row row.row in
          (from.place_inj l.r l.lo l.hi l.how r lo hi how
          (sym (ap (λ (b : Consumer). (consumer_heard t e c ev b).place) (sym one) ∙ l.at) ∙ (sym placed ∙ stands))).number

      pub left_loses : (x : ℕ) (q : Consumer) → t.consumer c ≡ Some q → own.IsLeft t e c x (consumer_heard t e c ev q).place → (is_written t v ≡ true) ×
          (loses_in r e.acts ≡ true)
      left_loses x q q_row l =
          let number : l.r ≡ r = left_number x q q_row l in
          let same_v : l.v ≡ v = same_row (t.representation r) l.v v (sym (ap t.representation number) ∙ l.row) there in
          (ap (is_written t) (sym same_v) ∙ and_right _ _ l.loses, ap (λ n. loses_in n e.acts) (sym number) ∙ and_right _ _ (and_left _ _ l.loses))

      pub unwritten_lost : v.is_lost ≡ true → is_written t v ≡ false
      unfolding is_written
      unwritten_lost lost = rw lost refl

      -- who opens an exchange has no failure due
      pub opens_undue : (q : Opening) → opening_in e.acts ≡ Some q → q.c ≡ c → u.due ≡ None
      opens_undue q opens mine =
          let by_poll = is_opened step q opens in
          let before : k.due ≡ None = (opens_later step c r lo hi how k q row.row at opens mine).at_hole.none_due in
          let off : brings_body ev ≡ false = ap brings_body by_poll.at in
          due_none t e c k (consumer_acted t e c (consumer_heard t e c ev k)) u row.is (ap reads stands) before (undue_of t e c k (record {
            stop = stop_none t e k (ap (stop_cause t) by_poll.at);
            loss = loss_at t e c r lo hi how k v at there (rw off refl);
            head = ap (cause_of_head t e c) by_poll.at;
          }))

    -- IT BECAME BOUND

    opens_not : (k : Consumer) (q : Opening) → IsRow t e c r lo hi how k u → opening_in e.acts ≡ Some q → q.c ≡ c →
        bound_to (waiting t e c (consumer_heard t e c ev k)).place ≡ None →
        from.IsFirstHole t e c r lo hi how q (waiting t e c (consumer_heard t e c ev k)) → RepFrom t e r p → ⊥
    opens_not k q row opens mine free hole (rep.founded response w none_there here exchange_row on is_made) =
        false_true (ap (λ (b : Representation). b.is_lost) is_made ∙ lost_now)
    opens_not k q row opens mine free hole (rep.was v kept) =
        let by_poll = is_opened step q opens in
        let opener = is_opener limits t now flaw s ev goes c k q row.row opens mine in
        not_alone step m i real r c v p k row.row (sym (ap bound_to opener.place_is) ∙ free) kept.row (current_stays t _ r v hole.current_is kept.row)
        (ap brings_body by_poll.at) kept lost_now is_alone

    shown_not : (k : Consumer) (a : Showing) → IsRow t e c r lo hi how k u → showing_in e.acts ≡ Some a →
        IsShown t e c r lo hi how a (by_opening t c (opening_in e.acts) (waiting t e c (consumer_heard t e c ev k))).place → RepFrom t e r p → ⊥
    shown_not k a row is all (rep.founded response w none_there here exchange_row on is_made) =
        false_true (ap (λ (b : Representation). b.is_lost) is_made ∙ lost_now)
    shown_not k a row is all (rep.was v kept) =
        not_alone step m i real r c v p k row.row planned.free kept.row (current_v planned.shown_as) (ap brings_body shows.poll.at) kept lost_now is_alone
      where
        planned : IsPlanned t now a.c k a
        planned = planned_at limits t now flaw s ev goes a k (ap t.consumer all.at ∙ row.row) is
            (subst (λ d. reads (by_opening t d (opening_in e.acts) (waiting t e d (consumer_heard t e d ev k))).place ≡ false) (sym all.at) all.free)

        shows : ShowsBy t now ev a
        shows = showing_by limits t now flaw s ev goes a is

        current_v : ShownAs t now a.c k a.r a.lo a.hi → v.is_gone ≡ false
        current_v (shown_as.joins q current_is q_row on from_is to) = current_stays t _ r v (current_is ∙ ap Some all.of_r) kept.row
        current_v (shown_as.stored q span current_is q_row off wanted_is none_is from_is to) = current_stays t _ r v (current_is ∙ ap Some all.of_r) kept.row

    founds_not : (x : ℕ) (response : Response) (w : Exchange) → ev ≡ event.Head x response → t.exchange x ≡ Some w → x ≡ r → RepFrom t e r p → ⊥
    founds_not x response w here exchange_row of_it (rep.founded answer z none_there also row_too on is_made) =
        false_true (ap (λ (b : Representation). b.is_lost) is_made ∙ lost_now)
    founds_not x response w here exchange_row of_it (rep.was v kept) =
        none_some v (sym (is_new limits t now flaw s ev goes x response w here exchange_row).unfounded ∙ (ap t.representation of_it ∙ kept.row))

    -- SO IT WAS BOUND BEFORE

    pub record WasThere : Type 0 where
      pub k : Consumer
      pub v : Representation
      pub row : IsRow t e c r lo hi how k u
      pub at : k.place ≡ place.Bound r lo hi how
      pub kept : IsKept t e r v p

    pub was_there : WasThere
    was_there = by_way (bound_from t e c r lo hi how (t.consumer c) u refl after_row stands) (rep_from t e r (t.representation r) p refl after)
      where
        by_way : BoundFrom t e c r lo hi how u → RepFrom t e r p → WasThere
        by_way (from.stays k row at) (rep.was v kept) = record { k = k; v = v; row = row; at = at; kept = kept }
        by_way (from.stays k row at) (rep.founded response w none_there here exchange_row on is_made) =
            absurd (false_true (ap (λ (b : Representation). b.is_lost) is_made ∙ lost_now))
        by_way (from.founds k x response w row here exchange_row mine of_it by_is all) from_rep =
            absurd (founds_not x response w here exchange_row of_it from_rep)
        by_way (from.opens k q row opens mine free way hole) from_rep = absurd (opens_not k q row opens mine free hole from_rep)
        by_way (from.shows k a row is all) from_rep = absurd (shown_not k a row is all from_rep)

  module _ (r c lo : ℕ) (hi : Option ℕ) (how : BoundBy) (u : Consumer) (p : Representation) (after : now_on.representation r ≡ Some p)
      (after_row : now_on.consumer c ≡ Some u) (stands : u.place ≡ place.Bound r lo hi how) (none : u.due ≡ None) (lost_now : p.is_lost ≡ true)
      (is_alone : p.alone ≡ Some c) where
    reader_now : IsBound now_on r c u
    reader_now = sound.is_bound lo hi how after_row stands

    made : (x : ℕ) (z : Exchange) → u.own ≡ Some x → now_on.exchange x ≡ Some z → ((d : ℕ) → front z ≤ d → offset now_on u ≤ d → p.stored d ≡ p.body d) →
        IsAlone now_on p u
    made x z owned row_z ahead = record { x = x; w = z; own = owned; row = row_z; covered = by_head z.head refl; ahead = ahead }
      where
        all : Covers p.body (offset now_on u) (goes_on_at z z.head)
        all = covered_kept step m i real r c x p u z after (sound.alone lost_now is_alone) reader_now none owned row_z

        by_head : (a : Option Response) → z.head ≡ a → Covers p.body (offset now_on u) (front z)
        by_head None bare d from_u lt =
            let zero_is : front z ≡ 0 = bare_front z bare (((deliveries_are_kept limits t now flaw s ev goes).waits.headless x z row_z bare).0) in
            absurd (omega arith)
        by_head (Some response) is d from_u lt = subst (Covers p.body (offset now_on u)) (headed_at z (Some response) is refl) all d from_u lt

    -- IT WAS BOUND

    module _ (k : Consumer) (v : Representation) (row : IsRow t e c r lo hi how k u) (at : k.place ≡ place.Bound r lo hi how)
        (there : t.representation r ≡ Some v) (kept : IsKept t e r v p) where
      reader : IsBound t r c k
      reader = sound.is_bound lo hi how row.row at

      none_before : k.due ≡ None
      none_before = (due_before t e c k (consumer_acted t e c (consumer_heard t e c ev k)) u row.is (ap reads stands) none).0

      more_offset : offset t k ≤ offset now_on u
      more_offset = offset_more step m i real r c lo hi how k u row at stands

      -- its exchange isn't written together
      shared_not : (v.is_lost || loses_in r e.acts) ≡ true → IsShared t e c → ⊥
      shared_not lost sh = by_parts (resumed_of t e sh.response sh.w (case_at t e) (together.joins step r c lo hi how k u row at stands none sh) sh.shared)
        where
          aim : sh.w.aim ≡ Some r
          aim = (together.way step r c lo hi how k u row at stands none sh).1

          by_parts : is_resumed t e sh.response sh.w (row_of t sh.w.aim) ≡ true → ⊥
          by_parts resumed =
              let at_v : is_resumed t e sh.response sh.w (Some v) ≡ true = sym (ap (is_resumed t e sh.response sh.w) (ap (row_of t) aim ∙ there)) ∙ resumed in
              let quiet = or_false v.is_lost (has_loss e.acts)
              (not_true (v.is_lost || has_loss e.acts) (and_right (resumes t sh.response sh.w v) (not (v.is_lost || has_loss e.acts)) at_v)) in
              elim (or_cases v.is_lost (loses_in r e.acts) lost) [
                | inl was ↦ false_true (sym quiet.0 ∙ was)
                | inr loses ↦ false_true (sym quiet.1 ∙ loses_some r e.acts loses)
              ]

      -- past the front of its own exchange nothing comes

      own_piece : (y : ℕ) (bytes : List ℕ) (a : Exchange) → is_written t v ≡ false → IsExclusiveWriter t r v c → fills_by.IsPiece t e r y bytes a →
          k.own ≡ Some y
      own_piece y bytes a off exclusive_writer is =
          by_had (s.writes.had r y v there (sound.headed a is.row taken.is_open taken.headed is.of_r (ap is_some there)))
        where
          taken : Rattle.hc_effects.proofs.Once.IsTaken a (length bytes)
          taken = piece_taken step m y bytes a is.at is.row

          by_row : (d : ℕ) (q : Consumer) → IsBound t r d q → d ≡ c → own_open t q ≡ Some y → k.own ≡ Some y
          by_row d q (sound.is_bound l h g q_row q_at) same owned =
              ap (λ (w : Consumer). w.own) (sym (same_row (t.consumer c) q k (sym (ap t.consumer same) ∙ q_row) row.row)) ∙ (own_open_of t q y owned).own

          by_had : IsHad t r v y → k.own ≡ Some y
          by_had (sound.shared on writer) = absurd (false_true (sym off ∙ on))
          by_had (sound.own d q theirs owned none_due their_exclusive_writer) =
              by_row d q theirs (one_exclusive_writer t r v d c s their_exclusive_writer exclusive_writer) owned

      past_front : (x : ℕ) (w z : Exchange) → is_written t v ≡ false → IsExclusiveWriter t r v c → k.own ≡ Some x → t.exchange x ≡ Some w →
          IsSame t e x w z → now_on.exchange x ≡ Some z → (d : ℕ) → front z ≤ d → p.body d ≡ v.body d
      past_front x w z off exclusive_writer owned exchange_row same after_x d le = by_fills (fills t e r v p kept)
        where
          no_head : (bytes : List ℕ) → ev ≡ event.Piece x bytes → ((z.head ≡ w.head) × (z.joined ≡ w.joined)) ⊎ IsHeaded t e x w z → IsHeld step m x w z
          no_head bytes here (inl still) = held step m x w z same still.0 still.1
          no_head bytes here (inr got) = absurd (let no : event.Piece x bytes ≡ event.Head x got.response = sym here ∙ got.at in cc)

          by_brings : (bytes : List ℕ) → ev ≡ event.Piece x bytes → Brings t e x w z → front w + length bytes ≤ d
          by_brings bytes here (fills_by.still none_of body_is) = absurd (none_of bytes here)
          by_brings bytes here (fills_by.more other also body_is) =
              let count : length bytes ≡ length other = ap (λ (b : List ℕ). length b) cc in
              let first : base z ≡ base w = (no_head bytes here same.heard_or).base_is in
              let longer : length z.body ≡ length w.body + length other = ap (λ (b : List ℕ). length b) body_is ∙ length-append w.body other in
              omega arith

          by_fills : Fills t e r v p → p.body d ≡ v.body d
          by_fills (fills_by.still none_of body_is stored_is reach_is) = ap (λ (f : Cells). f d) body_is
          by_fills (fills_by.more y bytes a is body_is stored_is reach_is) =
              let number : y ≡ x = some_inj y x (sym (own_piece y bytes a off exclusive_writer is) ∙ owned) in
              let far : front w + length bytes ≤ d = by_brings bytes (is.at ∙ ap (λ n. event.Piece n bytes) number) (brings t e x w z exchange_row after_x) in
              let front_is : front a ≡ front w =
              ap (λ (b : Exchange). front b) (same_row (t.exchange x) a w (sym (ap t.exchange number) ∙ is.row) exchange_row) in
              ap (λ (f : Cells). f d) body_is ∙ (let past = inside-past (front a) (length bytes) d (omega arith) in rw past refl)

      -- at a poll nothing comes
      body_same : (d want : ℕ) → ev ≡ event.Poll d want → p.body ≡ v.body
      body_same d want polls = by_fills (fills t e r v p kept)
        where
          by_fills : Fills t e r v p → p.body ≡ v.body
          by_fills (fills_by.still none_of body_is stored_is reach_is) = body_is
          by_fills (fills_by.more y bytes a is body_is stored_is reach_is) = absurd (let no : event.Poll d want ≡ event.Piece y bytes = sym polls ∙ is.at in cc)

      -- IT WENT ON ALONE

      went : v.is_lost ≡ true → loses_in r e.acts ≡ false → v.alone ≡ Some c → IsAlone now_on p u
      went lost quiet v_alone = by_own u.own refl
        where
          a : IsAlone t v k
          a = s.alone r c v k there v_alone reader none_before

          still : p.stored ≡ v.stored
          still = stored_same r v p kept (rw lost refl)

          kept_ahead : (x : ℕ) → k.own ≡ Some x → u.own ≡ Some x → IsAlone now_on p u
          kept_ahead x owned owned_now =
              let w_row : t.exchange x ≡ Some a.w = sym (ap t.exchange (some_inj a.x x (sym a.own ∙ owned))) ∙ a.row in
              let g = is_on t e x a.w w_row in
              made x g.u owned_now g.row (λ d le from_u.
              let begins : offset now_on u ≤ d = from_u in
              let before : offset t k ≤ offset now_on u = more_offset in
              let was : front a.w ≤ d = fronts x a.w g.u g.same g.row w_row d le in
              ap (λ (f : Cells). f d) still ∙
              (a.ahead d was (omega arith) ∙
              sym (past_front x a.w g.u (unwritten_lost r c lo hi how u p after after_row stands lost_now is_alone k v row at there kept lost)
              (sound.alone lost v_alone) owned w_row g.same g.row d le)))
            where
              by_brings : (x : ℕ) (w z : Exchange) → IsHeld step m x w z → Brings t e x w z → front w ≤ front z
              by_brings x w z keeps (fills_by.still none_of body_is) = let first : base z ≡ base w = keeps.base_is in
                  let count : length z.body ≡ length w.body = ap (λ (b : List ℕ). length b) body_is in omega arith
              by_brings x w z keeps (fills_by.more bytes here body_is) = let first : base z ≡ base w = keeps.base_is in
                  let longer : length z.body ≡ length w.body + length bytes = ap (λ (b : List ℕ). length b) body_is ∙ length-append w.body bytes in omega arith

              by_heard : (x : ℕ) (w z : Exchange) → IsSame t e x w z → now_on.exchange x ≡ Some z → t.exchange x ≡ Some w → (d : ℕ) → front z ≤ d →
                  ((z.head ≡ w.head) × (z.joined ≡ w.joined)) ⊎ IsHeaded t e x w z → front w ≤ d
              by_heard x w z same after_x w_row d le (inl head_same) = let more : front w ≤ front z =
                  by_brings x w z (held step m x w z same head_same.0 head_same.1) (brings t e x w z w_row after_x) in omega arith
              by_heard x w z same after_x w_row d le (inr got) =
                  let bare = (is_new limits t now flaw s ev goes x got.response w got.at w_row).bare in
                  let zero_is : front w ≡ 0 = bare_front w bare (s.waits.headless x w w_row bare).0 in
                  omega arith

              fronts : (x : ℕ) (w z : Exchange) → IsSame t e x w z → now_on.exchange x ≡ Some z → t.exchange x ≡ Some w → (d : ℕ) → front z ≤ d → front w ≤ d
              fronts x w z same after_x w_row d le = by_heard x w z same after_x w_row d le same.heard_or

          past_hole : (q : Opening) → OpensLater t c k q.need → front a.w ≤ offset t k
          past_hole q l =
              let one : l.v ≡ v = same_row (t.representation r) l.v v (sym (ap t.representation (bound_number l.r l.at_hole.is_reader)) ∙ l.at_hole.row)
              there in
              let gone : v.body (offset t k) ≡ None = ap (λ (b : Representation). b.body (offset t k)) (sym one) ∙
              not_come t l.r c l.end l.most l.v k s l.at_hole l.unheld (has_exclusive_writer t l.r c l.end l.v k s l.at_hole) in
              elim (split (offset t k) (front a.w)) [
                | inl before ↦ absurd (let has = a.covered (offset t k) (omega arith) before in let never : false ≡ true = rw gone at has in false_true never)
                | inr past ↦ past
              ]
            where
              bound_number : (q : ℕ) → IsBound t q c k → q ≡ r
              bound_number q (sound.is_bound l h g q_row q_at) = (from.place_inj q l h g r lo hi how (sym q_at ∙ at)).number

          opened_ahead : (x : ℕ) (q : Opening) → opening_in e.acts ≡ Some q → q.c ≡ c → u.own ≡ Some x → IsAlone now_on p u
          opened_ahead x q opens mine owned_now =
              let by_poll = is_opened step q opens in
              let z = some_row (now_on.exchange x) (there_kept step c x u after_row owned_now) in
              let far : front a.w ≤ offset t k = past_hole q (opens_later step c r lo hi how k q row.row at opens mine) in
              made x z.0 owned_now z.1 (λ d le from_u.
              let begins : offset now_on u ≤ d = from_u in
              let before : offset t k ≤ offset now_on u = more_offset in
              ap (λ (f : Cells). f d) still ∙ (a.ahead d (omega arith) (omega arith) ∙ sym (ap (λ (f : Cells). f d) (body_same q.c by_poll.want by_poll.at))))

          by_from : (x : ℕ) → u.own ≡ Some x → OwnFrom t e c x u → IsAlone now_on p u
          by_from x owned_now (own.kept q q_row mine heard_mine) =
              kept_ahead x (ap (λ (b : Consumer). b.own) (same_row (t.consumer c) k q row.row q_row.row) ∙ mine) owned_now
          by_from x owned_now (own.opened q p_open q_row opens mine this) = opened_ahead x p_open opens mine owned_now
          by_from x owned_now (own.left q q_row l) =
              absurd (false_true (sym quiet ∙ (left_loses r c lo hi how u p after after_row stands lost_now is_alone k v row at there kept x q q_row.row l).1))

          by_none : (k.own ≡ None) ⊎ IsShared t e c → IsAlone now_on p u
          by_none (inl none_own) = absurd (none_some a.x (sym none_own ∙ a.own))
          by_none (inr sh) = absurd (shared_not (rw lost refl) sh)

          by_own : (z : Option ℕ) → u.own ≡ z → IsAlone now_on p u
          by_own None is = by_none (own_none t e c k u row.is is)
          by_own (Some x) is = by_from x is (own_from t e c x (t.consumer c) u refl after_row is)

      -- IT WROTE ALONE WHAT IS LOST NOW

      wrote_it : v.is_lost ≡ false → loses_in r e.acts ≡ true → IsExclusive t r c v → IsAlone now_on p u
      wrote_it fresh loses x_alone = by_own u.own refl
        where
          lost : (v.is_lost || loses_in r e.acts) ≡ true
          lost = rw (fresh, loses) refl

          still : (d : ℕ) → p.stored d ≡ v.body d
          still d = ap (λ (f : Cells). f d) (stored_same r v p kept lost) ∙ (s.rows r v there).store.all_stored fresh d

          kept_ahead : (x : ℕ) → k.own ≡ Some x → u.own ≡ Some x → IsAlone now_on p u
          kept_ahead x owned owned_now =
              let w = some_row (t.exchange x) (o.there c x k row.row owned) in
              let g = is_on t e x w.0 w.1 in
              made x g.u owned_now g.row
              (λ d le from_u. still d ∙ sym (past_front x w.0 g.u x_alone.unwritten (sound.first fresh x_alone.first) owned w.1 g.same g.row d le))

          opened_ahead : (x : ℕ) (q : Opening) → opening_in e.acts ≡ Some q → u.own ≡ Some x → IsAlone now_on p u
          opened_ahead x q opens owned_now =
              let by_poll = is_opened step q opens in
              let z = some_row (now_on.exchange x) (there_kept step c x u after_row owned_now) in
              made x z.0 owned_now z.1 (λ d le from_u. still d ∙ sym (ap (λ (f : Cells). f d) (body_same q.c by_poll.want by_poll.at)))

          by_from : (x : ℕ) → u.own ≡ Some x → OwnFrom t e c x u → IsAlone now_on p u
          by_from x owned_now (own.kept q q_row mine heard_mine) =
              kept_ahead x (ap (λ (b : Consumer). b.own) (same_row (t.consumer c) k q row.row q_row.row) ∙ mine) owned_now
          by_from x owned_now (own.opened q p_open q_row opens mine this) = opened_ahead x p_open opens owned_now
          by_from x owned_now (own.left q q_row l) =
              absurd (false_true (sym x_alone.unwritten ∙
              (left_loses r c lo hi how u p after after_row stands lost_now is_alone k v row at there kept x q q_row.row l).0))

          by_row : (q : Consumer) → IsBound t r c q → has_more t v q ≡ true → k.own ≡ None → ⊥
          by_row q (sound.is_bound l h g q_row q_at) more none_own =
              let one : q ≡ k = same_row (t.consumer c) q k q_row row.row in
              rest_more t r v k s there none_own (i.rested r c v k there fresh x_alone.first reader none_before none_own x_alone.unwritten)
              (ap (has_more t v) (sym one) ∙ more)

          by_none : (k.own ≡ None) ⊎ IsShared t e c → IsAlone now_on p u
          by_none (inl none_own) = absurd (by_row x_alone.k x_alone.reader x_alone.more none_own)
          by_none (inr sh) = absurd (shared_not lost sh)

          by_own : (z : Option ℕ) → u.own ≡ z → IsAlone now_on p u
          by_own None is = by_none (own_none t e c k u row.is is)
          by_own (Some x) is = by_from x is (own_from t e c x (t.consumer c) u refl after_row is)

      by_exclusive_writer : ExclusiveWriterFrom step m real r c v → IsAlone now_on p u
      by_exclusive_writer (exclusive_writers.first fresh quiet is) = absurd (false_true (sym (kept.lost_is ∙ rw (quiet, fresh) refl) ∙ lost_now))
      by_exclusive_writer (exclusive_writers.alone lost quiet is) = went lost quiet is
      by_exclusive_writer (exclusive_writers.wrote fresh loses x) = wrote_it fresh loses x
      by_exclusive_writer (exclusive_writers.survives losing is) = (goes_on step m real r c v p u there losing is after after_row).is

      was_bound : IsAlone now_on p u
      was_bound = by_exclusive_writer (alone_from step m real r c v p there kept lost_now is_alone)

  pub lost_of : (r c : ℕ) (p : Representation) → now_on.representation r ≡ Some p → p.alone ≡ Some c → p.is_lost ≡ true
  lost_of r c p after is_alone = elim (bool_cases p.is_lost) [
    | inl lost ↦ lost
    | inr fresh ↦ absurd (none_some c (sym ((stores_are_kept limits t now flaw s ev goes r p after).nobody_alone fresh) ∙ is_alone))
  ]

  -- The detached reader reads on soundly.
  pub go_alone : GoAlone now_on
  go_alone r c p u after is_alone (sound.is_bound lo hi how after_row stands) none =
      let lost = lost_of r c p after is_alone in
      let b = was_there r c lo hi how u p after after_row stands lost is_alone in
      was_bound r c lo hi how u p after after_row stands none lost is_alone b.k b.v b.row b.at b.kept.row b.kept
