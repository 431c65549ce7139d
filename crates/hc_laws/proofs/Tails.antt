-- What the detached reader's own exchange brought since the loss is held, and all else ahead is stored: at each entry.
--
-- As long as nothing is lost all that came is stored, so at the loss the tail begins at the front (`fresh_tail`). Later
-- a piece of the body is of that exchange alone (`own_piece`), and isn't stored; so the tail grows with it
-- (`by_brings`). The reader's own exchange is the one it had (`kept_tail`), one that is opened now (`opened_tail`), or
-- that of the writing (`written_tail`). `by_own` joins these for `tails_kept`.
use Rattle.std.{proofs.Common.{◌≡◌, ◌⊎◌, inl, inr, ℕ, ◌+◌, ◌≤◌, ◌<◌, List, [], length, length-append, Bool, true, false, Option, Some, None, refl, ap, sym, ◌∙◌, arith}, specs.Prelude.{is_some, ◌||◌, unwrap_or}}
use Rattle.hc_text.proofs.Basics.{and_right, not_some as none_some, same_some as same_row, some_inj}
use Rattle.hc_sparse.specs.Cells.{Cells, inside, cells_with}
use Rattle.hc_sparse.proofs.CellLemmas.{inside-cases}
use Rattle.hc_effects.proofs.Vocabulary.{Opening, opening_in, Response, base_of, BoundBy, loses_in, consumer_heard, denial, Entry, base, front, family, entry_of, Measures, is_written, offset, own_open, Tables, Exchange, Representation, Consumer, Sound, IsBound, IsAbout, IsExclusiveWriter, IsHad, after_accepted, event, place}
use Rattle.hc_model.specs.Sound as sound
use Rattle.hc_effects.proofs.{AboutKeeps.{own_open_of, own_open_is}, ApartKeeps.{is_on}, Basics.{false_true}, Beside.{IsBeside}, BoundFrom.{IsRow}, Covers.{offset_more}, ExchangeFrom.{ExchangeFrom, exchange_from, IsSame}, Fills.{Fills, fills, IsPiece, brings, length_same}, FirstKeeps.{is_new}, LossBy.{IsReal}, MeasuresKeep.{piece_taken}, Once.{delivers_once}, OwnFrom.{OwnFrom, own_from}, OwnersKeep.{new_number}, ExclusiveWriters.{one_exclusive_writer}, RepFrom.{IsKept}, Stops.{writer_about}, Survives.{goes_on}, Step.{Step}}
use Rattle.hc_effects.proofs.ExchangeFrom as exchange
use Rattle.hc_effects.proofs.Fills as fills_by
use Rattle.hc_laws.proofs.{GoAlone.{bare_front, stored_same, was_there, left_loses, lost_of, opens_undue}, ExclusiveWriterFrom.{ExclusiveWriterFrom, alone_from}}
use Rattle.hc_effects.proofs.OwnFrom as own
use Rattle.hc_laws.proofs.ExclusiveWriterFrom as exclusive_writers

-- from this position on nothing is stored of what its exchange brought
pub record IsTail (t : Tables) (r : ℕ) (v : Representation) (k : Consumer) (x : ℕ) (w : Exchange) : Type 0 where
  pub from : ℕ
  pub after_base : base w ≤ from
  pub within : from ≤ front w
  pub stored : (p : ℕ) → offset t k ≤ p → (p < from) ⊎ (front w ≤ p) → v.stored p ≡ v.body p
  pub unstored : (p : ℕ) → offset t k ≤ p → from ≤ p → p < front w → v.stored p ≡ None
  pub of_r : from < front w → family x w ≡ r

pub record AreTails (t : Tables) : Type 0 where
  pub tail : (r c x : ℕ) (v : Representation) (k : Consumer) (w : Exchange) → t.representation r ≡ Some v → v.alone ≡ Some c → IsBound t r c k →
      k.own ≡ Some x → t.exchange x ≡ Some w → IsTail t r v k x w

-- as long as it isn't lost all that came is stored
fresh_tail : (t : Tables) (r x : ℕ) (v : Representation) (k : Consumer) (w : Exchange) → Sound t → t.representation r ≡ Some v → v.is_lost ≡ false →
    IsTail t r v k x w
fresh_tail t r x v k w s there fresh = record {
  from = front w;
  after_base = omega arith;
  within = omega arith;
  stored = λ p ahead far. (s.rows r v there).store.all_stored fresh p;
  unstored = λ p ahead low under. absurd (omega arith);
  of_r = λ lt. absurd (omega arith);
}

module _ (step : Step) (m : Measures step.tables) (i : IsBeside step.tables) (real : IsReal step.limits step.tables step.now step.event step.flaw) where
  open step use {limits, tables as t, now, flaw, sound as s, owners as o, event as ev, accepted as goes}

  abbrev e : Entry
  e = entry_of limits t now ev flaw

  abbrev now_on : Tables
  now_on = after_accepted t e

  -- ITS EXCHANGE STAYS

  module _ (r x : ℕ) (k u : Consumer) (v p : Representation) (w z : Exchange) (there : t.representation r ≡ Some v) (kept : IsKept t e r v p)
      (lost : (v.is_lost || loses_in r e.acts) ≡ true) (more : offset t k ≤ offset now_on u) (row : t.exchange x ≡ Some w)
      (after_x : now_on.exchange x ≡ Some z) (same : IsSame t e x w z) (only : (y : ℕ) → IsAbout t r y → y ≡ x)
      (of_x : w.is_open ≡ true → is_some w.head ≡ true → family x w ≡ r) (tail : IsTail t r v k x w) where
    stored_at : (q : ℕ) → p.stored q ≡ v.stored q
    stored_at q = ap (λ (f : Cells). f q) (stored_same step m i real r v p kept lost)

    ahead_of : (q : ℕ) → offset now_on u ≤ q → offset t k ≤ q
    ahead_of q le = let a : offset t k ≤ offset now_on u = more in let b : offset now_on u ≤ q = le in omega arith

    -- a piece of r is its own
    own_piece : (y : ℕ) (bytes : List ℕ) (a : Exchange) → IsPiece t e r y bytes a → y ≡ x
    own_piece y bytes a is =
        let taken = piece_taken step m y bytes a is.at is.row in
        only y (sound.headed a is.row taken.is_open taken.headed is.of_r (ap (λ (q : Option Representation). is_some q) there))

    unfilled : ((bytes : List ℕ) → ev ≡ event.Piece x bytes → ⊥) → p.body ≡ v.body
    unfilled none = by_fills (fills t e r v p kept)
      where
        by_fills : Fills t e r v p → p.body ≡ v.body
        by_fills (fills_by.still none_of body stored reach) = body
        by_fills (fills_by.more y bytes a is body stored reach) = absurd (none bytes (is.at ∙ ap (λ n. event.Piece n bytes) (own_piece y bytes a is)))

    -- it brings nothing now
    quiet : base z ≡ base w → front z ≡ front w → family x z ≡ family x w → p.body ≡ v.body → IsTail now_on r p u x z
    quiet first ends fam body = record {
      from = tail.from;
      after_base = let a : base w ≤ tail.from = tail.after_base in omega arith;
      within = let a : tail.from ≤ front w = tail.within in omega arith;
      stored = λ q le far. stored_at q ∙ (tail.stored q (ahead_of q le) (by_far q far) ∙ sym (ap (λ (f : Cells). f q) body));
      unstored = λ q le low under. stored_at q ∙ tail.unstored q (ahead_of q le) low (let a : front z ≡ front w = ends in omega arith);
      of_r = λ lt. fam ∙ tail.of_r (let a : front z ≡ front w = ends in omega arith);
    }
      where
        by_far : (q : ℕ) → (q < tail.from) ⊎ (front z ≤ q) → (q < tail.from) ⊎ (front w ≤ q)
        by_far q (inl low) = inl low
        by_far q (inr past) = inr (let a : front z ≡ front w = ends in omega arith)

    -- a piece comes
    pieced : (bytes : List ℕ) → ev ≡ event.Piece x bytes → base z ≡ base w → front z ≡ front w + length bytes → family x z ≡ family x w → family x w ≡ r →
        p.body ≡ cells_with (front w) x bytes v.body → IsTail now_on r p u x z
    pieced bytes here first ends fam of_it body = record {
      from = tail.from;
      after_base = let a : base w ≤ tail.from = tail.after_base in omega arith;
      within = let a : tail.from ≤ front w = tail.within in omega arith;
      stored = λ q le far. stored_at q ∙ (tail.stored q (ahead_of q le) (by_far q far) ∙ sym (ap (λ (f : Cells). f q) body ∙ outside q far));
      unstored = λ q le low under. stored_at q ∙ by_place q le low under (inside-cases (front w) (length bytes) q);
      of_r = λ lt. fam ∙ of_it;
    }
      where
        by_far : (q : ℕ) → (q < tail.from) ⊎ (front z ≤ q) → (q < tail.from) ⊎ (front w ≤ q)
        by_far q (inl low) = inl low
        by_far q (inr past) = inr (let a : front z ≡ front w + length bytes = ends in omega arith)

        outside : (q : ℕ) → (q < tail.from) ⊎ (front z ≤ q) → cells_with (front w) x bytes v.body q ≡ v.body q
        outside q far = elim (inside-cases (front w) (length bytes) q) [
          | inr off ↦ rw off.0 refl
          | inl on ↦ absurd (not_on far on.1 on.2)
        ]
          where
            not_on : (q < tail.from) ⊎ (front z ≤ q) → front w ≤ q → q < front w + length bytes → ⊥
            not_on (inl low) ge lt = let a : tail.from ≤ front w = tail.within in omega arith
            not_on (inr past) ge lt = let a : front z ≡ front w + length bytes = ends in omega arith

        by_place : (q : ℕ) → offset now_on u ≤ q → tail.from ≤ q → q < front z →
            ((inside (front w) (length bytes) q ≡ true) × (front w ≤ q) × (q < front w + length bytes)) ⊎
            ((inside (front w) (length bytes) q ≡ false) × ((q < front w) ⊎ (front w + length bytes ≤ q))) → v.stored q ≡ None
        by_place q le low under (inl on) = tail.stored q (ahead_of q le) (inr on.1) ∙
            delivers_once t s x bytes w v (sym (ap (denial t) here) ∙ goes) row (ap t.representation of_it ∙ there) q on.1 on.2
        by_place q le low under (inr off) = by_off off.1
          where
            by_off : (q < front w) ⊎ (front w + length bytes ≤ q) → v.stored q ≡ None
            by_off (inl lt) = tail.unstored q (ahead_of q le) low lt
            by_off (inr past) = absurd (let a : front z ≡ front w + length bytes = ends in omega arith)

    by_brings : (z.head ≡ w.head) × (z.joined ≡ w.joined) → fills_by.Brings t e x w z → IsTail now_on r p u x z
    by_brings still (fills_by.still none body_is) =
        let first : base z ≡ base w = ap base_of (length_same w z same.need_is same.request_is still.0) in
        let count : length z.body ≡ length w.body = ap (λ (b : List ℕ). length b) body_is in
        quiet first (omega arith) (ap (λ (q : Option ℕ). unwrap_or q x) still.1) (unfilled none)
    by_brings still (fills_by.more bytes here body_is) =
        let first : base z ≡ base w = ap base_of (length_same w z same.need_is same.request_is still.0) in
        let count : length z.body ≡ length w.body + length bytes = ap (λ (b : List ℕ). length b) body_is ∙ length-append w.body bytes in
        let taken = piece_taken step m x bytes w here row in
        let of_it = of_x taken.is_open taken.headed in
        pieced bytes here first (omega arith) (ap (λ (q : Option ℕ). unwrap_or q x) still.1) of_it (by_fills of_it (fills t e r v p kept))
      where
        by_fills : family x w ≡ r → Fills t e r v p → p.body ≡ cells_with (front w) x bytes v.body
        by_fills of_it (fills_by.still none body stored reach) = absurd (none x bytes w (record { at = here; row = row; of_r = of_it }))
        by_fills of_it (fills_by.more y other a is body stored reach) =
            let both : (y ≡ x) × (other ≡ bytes) = (cc, cc) in
            let one : a ≡ w = same_row (t.exchange x) a w (sym (ap t.exchange both.0) ∙ is.row) row in
            body ∙ (ap (λ n. cells_with (front a) n other v.body) both.0 ∙
            (ap (λ b. cells_with (front a) x b v.body) both.1 ∙ ap (λ (q : Exchange). cells_with (front q) x bytes v.body) one))

    -- its head comes: nothing of it came before
    by_head : exchange.IsHeaded t e x w z → IsTail now_on r p u x z
    by_head got =
        let bare = (is_new limits t now flaw s ev goes x got.response w got.at row).bare in
        let nothing = (s.waits.headless x w row bare).0 in
        let low : front w ≡ 0 = bare_front w bare nothing in
        let empty : length z.body ≡ 0 = ap (λ (b : List ℕ). length b) (got.body_is ∙ nothing) in
        let body = unfilled (λ bytes piece. let no : event.Head x got.response ≡ event.Piece x bytes = sym got.at ∙ piece in cc) in
        record {
          from = front z;
          after_base = omega arith;
          within = omega arith;
          stored = λ q le far. stored_at q ∙ (tail.stored q (ahead_of q le) (inr (omega arith)) ∙ sym (ap (λ (f : Cells). f q) body));
          unstored = λ q le ge under. absurd (omega arith);
          of_r = λ lt. absurd (omega arith);
        }

    steps_to : IsTail now_on r p u x z
    steps_to = elim same.heard_or [ inl still ↦ by_brings still (brings t e x w z row after_x) | inr got ↦ by_head got ]

  -- IN EACH WAY

  module _ (was : AreTails t) (later : Sound now_on) (r c x lo : ℕ) (hi : Option ℕ) (how : BoundBy) (u : Consumer) (p : Representation) (z : Exchange)
      (after : now_on.representation r ≡ Some p) (after_row : now_on.consumer c ≡ Some u) (stands : u.place ≡ place.Bound r lo hi how)
      (lost_now : p.is_lost ≡ true) (is_alone : p.alone ≡ Some c) (owned : u.own ≡ Some x) (after_x : now_on.exchange x ≡ Some z) where
    -- what is opened now brought nothing
    bare_tail : u.due ≡ None → z.head ≡ None → z.body ≡ [] → IsTail now_on r p u x z
    bare_tail none bare empty =
        let a = later.alone r c p u after is_alone (sound.is_bound lo hi how after_row stands) none in
        let low : front z ≡ 0 = bare_front z bare empty in
        let one : a.w ≡ z = same_row (now_on.exchange x) a.w z (sym (ap now_on.exchange (some_inj a.x x (sym a.own ∙ owned))) ∙ a.row) after_x in
        let ends : front a.w ≡ front z = ap (λ (q : Exchange). front q) one in
        record {
          from = front z;
          after_base = omega arith;
          within = omega arith;
          stored = λ q le far. a.ahead q (omega arith) le;
          unstored = λ q le ge under. absurd (omega arith);
          of_r = λ lt. absurd (omega arith);
        }

    module _ (k : Consumer) (v : Representation) (row : IsRow t e c r lo hi how k u) (at : k.place ≡ place.Bound r lo hi how)
        (there : t.representation r ≡ Some v) (kept : IsKept t e r v p) where
      reader : IsBound t r c k
      reader = sound.is_bound lo hi how row.row at

      more : offset t k ≤ offset now_on u
      more = offset_more step m i real r c lo hi how k u row at stands

      lost_then : (v.is_lost || loses_in r e.acts) ≡ true
      lost_then = or_swap (loses_in r e.acts) v.is_lost (sym kept.lost_is ∙ lost_now)
        where
          or_swap : (b d : Bool) → (b || d) ≡ true → (d || b) ≡ true
          or_swap b true h = refl
          or_swap true false h = refl
          or_swap false false h = h

      -- of the exclusive writer
      exclusive_writer_only : is_written t v ≡ false → IsExclusiveWriter t r v c → k.own ≡ Some x → (y : ℕ) → IsAbout t r y → y ≡ x
      exclusive_writer_only off exclusive_writer mine y about = by_had (s.writes.had r y v there about)
        where
          by_row : (d : ℕ) (q : Consumer) → IsBound t r d q → d ≡ c → own_open t q ≡ Some y → y ≡ x
          by_row d q (sound.is_bound l h g q_row q_at) same opened =
              let one : q ≡ k = same_row (t.consumer c) q k (sym (ap t.consumer same) ∙ q_row) row.row in
              some_inj y x (sym (ap (λ (b : Consumer). b.own) (sym one) ∙ (own_open_of t q y opened).own) ∙ mine)

          by_had : IsHad t r v y → y ≡ x
          by_had (sound.shared on writer) = absurd (false_true (sym off ∙ on))
          by_had (sound.own d q theirs opened none_due their_exclusive_writer) =
              by_row d q theirs (one_exclusive_writer t r v d c s their_exclusive_writer exclusive_writer) opened

      of_own : (w : Exchange) → k.own ≡ Some x → t.exchange x ≡ Some w → w.is_open ≡ true → is_some w.head ≡ true → family x w ≡ r
      of_own w mine w_row on headed = by_about (s.writes.own_about r c x k reader (own_open_is t k x (record { own = mine; w = w; row = w_row; opened = on })))
        where
          by_about : IsAbout t r x → family x w ≡ r
          by_about (sound.headed q q_row q_on q_headed fam q_there) = ap (family x) (same_row (t.exchange x) w q w_row q_row) ∙ fam
          by_about (sound.asks q b d q_row q_on bare hole aim) =
              absurd (false_true (sym (ap (λ (h : Option Response). is_some h)
              (ap (λ (y : Exchange). y.head) (same_row (t.exchange x) w q w_row q_row) ∙ bare)) ∙ headed))

      by_exclusive_writer : (w : Exchange) → k.own ≡ Some x → t.exchange x ≡ Some w → IsSame t e x w z → ExclusiveWriterFrom step m real r c v →
          IsTail now_on r p u x z
      by_exclusive_writer w mine w_row same (exclusive_writers.first fresh quiet is) =
          absurd (false_true (sym (kept.lost_is ∙ rw (quiet, fresh) refl) ∙ lost_now))
      by_exclusive_writer w mine w_row same (exclusive_writers.alone lost quiet is) =
          steps_to r x k u v p w z there kept lost_then
          more w_row after_x same (exclusive_writer_only
          (Rattle.hc_laws.proofs.GoAlone.unwritten_lost step m i real r c lo hi how u p after after_row stands lost_now is_alone k v row at there kept
          lost) (sound.alone lost is) mine) (of_own w mine w_row)
          (was.tail r c x v k w there is reader mine w_row)
      by_exclusive_writer w mine w_row same (exclusive_writers.wrote fresh loses writes) =
          steps_to r x k u v p w z there kept lost_then
          more w_row after_x same (exclusive_writer_only writes.unwritten (sound.first fresh writes.first) mine) (of_own w mine w_row)
          (fresh_tail t r x v k w s there fresh)
      by_exclusive_writer w mine w_row same (exclusive_writers.survives losing is) =
          let g = goes_on step m real r c v p u there losing is after after_row in
          absurd (o.apart r x c v k there (and_right _ _ losing) (g.own_is ∙ ap Some (some_inj g.is.x x (sym g.is.own ∙ owned))) row.row mine)

      kept_tail : k.own ≡ Some x → ExchangeFrom t e x z → IsTail now_on r p u x z
      kept_tail mine (exchange.was w w_row same) = by_exclusive_writer w mine w_row same (alone_from step m real r c v p there kept lost_now is_alone)
      kept_tail mine (exchange.new q no_row opens number made) =
          absurd (false_true (sym (ap (λ (y : Option Exchange). is_some y) no_row) ∙ o.there c x k row.row mine))

      opened_tail : (q : Opening) → opening_in e.acts ≡ Some q → q.c ≡ c → q.x ≡ x → ExchangeFrom t e x z → IsTail now_on r p u x z
      opened_tail q opens to_it number (exchange.was w w_row same) = absurd (none_some w (sym (new_number step q x opens number) ∙ w_row))
      opened_tail q opens to_it number (exchange.new g no_row also here made) =
          bare_tail (opens_undue step m i real r c lo hi how u p after after_row stands lost_now is_alone k v row at there kept q opens to_it)
          (ap (λ (y : Exchange). y.head) (sym made)) (ap (λ (y : Exchange). y.body) (sym made))

      -- the writing was left to it
      written_tail : is_written t v ≡ true → v.writer ≡ Some x → ExchangeFrom t e x z → IsTail now_on r p u x z
      written_tail on writer from_x = by_growing ((s.rows r v there).growing x on writer) from_x
        where
          by_growing : ((w : Exchange) × sound.IsGrowing t r v x w) → ExchangeFrom t e x z → IsTail now_on r p u x z
          by_growing all (exchange.new q no_row opens number made) = absurd (none_some all.0 (sym no_row ∙ all.1.row))
          by_growing all (exchange.was w w_row same) =
              let one : all.0 ≡ w = same_row (t.exchange x) all.0 w all.1.row w_row in
              steps_to r x k u v p w z there kept lost_then
              more w_row after_x same (λ y about. s.one_about r y x about (writer_about t r x v s there on writer))
              (λ opened headed. ap (family x) (sym one) ∙ all.1.family_is) (fresh_tail t r x v k w s there (is_on t v x on writer).kept)

      by_own : OwnFrom t e c x u → IsTail now_on r p u x z
      by_own (own.kept q its mine heard) =
          kept_tail (ap (λ (b : Consumer). b.own) (same_row (t.consumer c) k q row.row its.row) ∙ mine) (exchange_from t e x (t.exchange x) z refl after_x)
      by_own (own.opened q g its opens mine number) = opened_tail g opens mine number (exchange_from t e x (t.exchange x) z refl after_x)
      by_own (own.left q its l) = by_left q its.row l
        where
          by_left : (q : Consumer) → t.consumer c ≡ Some q → own.IsLeft t e c x (consumer_heard t e c ev q).place → IsTail now_on r p u x z
          by_left q q_row l =
              let both = left_loses step m i real r c lo hi how u p after after_row stands lost_now is_alone k v row at there kept x q q_row l in
              let number = Rattle.hc_laws.proofs.GoAlone.left_number step m i real r c lo hi how u p after after_row stands lost_now is_alone k v row at
              there kept x q q_row l in
              written_tail both.0 (ap (λ (y : Representation). y.writer)
              (sym (same_row (t.representation r) l.v v (sym (ap t.representation number) ∙ l.row) there)) ∙ l.writer_is)
              (exchange_from t e x (t.exchange x) z refl after_x)

    tail_now : IsTail now_on r p u x z
    tail_now =
        let b = was_there step m i real r c lo hi how u p after after_row stands lost_now is_alone in
        by_own b.k b.v b.row b.at b.kept.row b.kept (own_from t e c x (t.consumer c) u refl after_row owned)

  pub tails_kept : AreTails t → Sound now_on → AreTails now_on
  tails_kept was later = record { tail = by_reader }
    where
      by_reader : (r c x : ℕ) (p : Representation) (u : Consumer) (z : Exchange) → now_on.representation r ≡ Some p → p.alone ≡ Some c →
          IsBound now_on r c u → u.own ≡ Some x → now_on.exchange x ≡ Some z → IsTail now_on r p u x z
      by_reader r c x p u z after is_alone (sound.is_bound lo hi how after_row stands) owned after_x =
          tail_now was later r c x lo hi how u p z after after_row stands (lost_of step m i real r c p after is_alone) is_alone owned after_x
