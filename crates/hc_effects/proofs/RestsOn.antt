-- Who came alone and rests, rests after each entry, until what it reads is lost: it has no open exchange, and no hole ahead.
--
-- It opens nothing, since it stands at no hole (`opened_not`), and no writing is left to it (`left_not`). So it has no
-- open exchange, if it had none (`unowned_now`), and what is stored stays (`rests_by`). Where a writing that was on is
-- over, all of it is stored (`group_rests`). Hence nobody writes alone now, if nobody did before (`none_writes`): who
-- comes alone comes to what nobody is bound to. `rests_kept` joins these.
use Rattle.std.{proofs.Common.{◌≡◌, ◌≢◌, ◌⊎◌, inl, inr, ℕ, ◌+◌, ◌≤◌, List, [], length, Bool, true, false, Option, Some, None, refl, ap, sym, ◌∙◌, subst, arith, max}, specs.Prelude.{if◌then◌else◌, is_some, is_none, ◌||◌, not}}
use Rattle.hc_text.proofs.Basics.{or_off_left, all_three, and_left, and_right, bool_cases, not_some as none_some, or_off_right as or_right, same_some as same_row}
use Rattle.hc_sparse.specs.Cells.{Cells, EndsBy, cells_with}
use Rattle.hc_sparse.proofs.CellLemmas.{inside-past}
use Rattle.hc_effects.proofs.Vocabulary.{Opening, opening_in, Response, by_opening, waiting, covers, front, BoundBy, loses_in, consumer_heard, consumer_acted, Entry, is_open, becomes_due, entry_of, Measures, bound, is_written, own_open, offset, hi_of, reads, Tables, Exchange, Representation, Consumer, Sound, IsBound, IsFirst, after_accepted, came_alone, may_write, has_more, lacks_some, exclusive, brings_body, event, place}
use Rattle.hc_event.specs.declared.act.Cause.{Cause}
use Rattle.hc_model.specs.Sound as sound
use Rattle.hc_effects.proofs.{AboutKeeps.{own_open_of, own_open_is}, ApartKeeps.{written_by}, Basics.{false_true, or_false}, BoundFrom.{BoundFrom, IsRow, bound_from, place_inj}, BoundKeeps.{shown_place_is}, Dues.{due_before}, Exclusives.{IsExclusive, exclusive_parts}, ExchangeFrom.{ExchangeFrom, exchange_from}, Fills.{Fills, fills}, FirstKeeps.{is_new, came_kept, open_free}, HoleLemmas.{covers_yes}, HolesOpened.{stored_ends}, LossBy.{IsReal}, Losses.{HasRest, exclusive_is, no_more, or_end}, OpensLater.{opens_later}, OwnFrom.{OwnFrom, own_from}, ExclusiveWriters.{IsAtHole, bound_some, shares_source, writer_some}, RepFrom.{RepFrom, rep_from, IsKept, IsResumed}, ServedKeeps.{rest_by, still_rests, resumed_not}, Stops.{writer_about}, ToBeShown.{heard_place}, WriterEnds.{all_stored}, Step.{Step}}
use Rattle.hc_model.specs.Resting.{RestsOn}
use Rattle.hc_effects.proofs.BoundFrom as from
use Rattle.hc_effects.proofs.ExchangeFrom as exchange
use Rattle.hc_effects.proofs.Fills as fills_by
use Rattle.hc_effects.proofs.OwnFrom as own
use Rattle.hc_effects.proofs.RepFrom as rep

-- it reads what is stored, and nothing comes for it
pub record IsResting (t : Tables) (v : Representation) (k : Consumer) : Type 0 where
  pub unowned : own_open t k ≡ None
  pub rest : HasRest t v k

none_left : (q : Option ℕ) → is_some q ≡ false → q ≡ None
none_left None h = refl
none_left (Some x) h = absurd (false_true (sym h))

-- who has nothing more to come rests, where its end is known
pub rests_without : (t : Tables) (v : Representation) (k : Consumer) → is_some (hi_of t k.place) ≡ true → has_more t v k ≡ false → IsResting t v k
rests_without t v k known enough = record {
  unowned = none_left (own_open t k) (or_off_left (is_some (own_open t k)) (lacks_some v (offset t k) (hi_of t k.place)) enough);
  rest = no_more t v k (hi_of t k.place) refl known (or_right (is_some (own_open t k)) (lacks_some v (offset t k) (hi_of t k.place)) enough);
}

-- and who rests has nothing more
pub none_more : (t : Tables) (v : Representation) (k : Consumer) → EndsBy v.reach v.stored → IsResting t v k → has_more t v k ≡ false
none_more t v k ends i =
    let enough : covers v.stored v.reach (offset t k) i.rest.hi ≡ true = covers_yes v.stored v.reach (offset t k) i.rest.hi ends i.rest.covered in
    rw (i.unowned, i.rest.end, enough) refl

-- who came alone knows its end
pub first_end : (t : Tables) (r c lo : ℕ) (hi : Option ℕ) (how : BoundBy) (k : Consumer) → Sound t → t.consumer c ≡ Some k →
    k.place ≡ place.Bound r lo hi how → came_alone t (place.Bound r lo hi how) ≡ true → is_some (hi_of t k.place) ≡ true
first_end t r c lo hi how k s row at alone =
    ap (λ p. is_some (hi_of t p)) at ∙ or_end hi _ (s.writes.known_end r c lo hi how k row at alone)

-- where it isn't the exclusive writer
pub resting_is : (t : Tables) (r c lo : ℕ) (hi : Option ℕ) (how : BoundBy) (v : Representation) (k : Consumer) → Sound t → t.consumer c ≡ Some k →
    k.place ≡ place.Bound r lo hi how → came_alone t (place.Bound r lo hi how) ≡ true → k.due ≡ None → is_written t v ≡ false → exclusive t r v ≡ None →
    IsResting t v k
resting_is t r c lo hi how v k s row at alone none off free = elim (bool_cases (has_more t v k)) [
  | inl more ↦
      let may : may_write t v (Some k) ≡ true =
      all_three (came_alone t k.place) (is_none k.due) (has_more t v k) (ap (came_alone t) at ∙ alone)
      (ap (λ (q : Option Cause). is_none q) none) more in
      absurd (none_some c (sym free ∙ exclusive_is t r c v k s (sound.is_bound lo hi how row at) off may))
  | inr enough ↦ rests_without t v k (first_end t r c lo hi how k s row at alone) enough
]

ends_more : (f : Cells) (at x reach : ℕ) (bytes : List ℕ) (b : Bool) → EndsBy reach f →
    EndsBy (max reach (at + length bytes)) (if b then cells_with at x bytes f else f)
ends_more f at x reach bytes true ends p le =
    let here : at + length bytes ≤ p = omega arith in
    let before : reach ≤ p = omega arith in
    rw (inside-past at (length bytes) p here) (ends p before)
ends_more f at x reach bytes false ends p le = ends p (omega arith)

module _ (step : Step) (m : Measures step.tables) (real : IsReal step.limits step.tables step.now step.event step.flaw) where
  open step use {limits, tables as t, now, flaw, sound as s, owners as o, event as ev, accepted as goes}

  abbrev e : Entry
  e = entry_of limits t now ev flaw

  abbrev now_on : Tables
  now_on = after_accepted t e

  -- what is stored ends where the body ends, after it too
  ends_now : (r : ℕ) (v p : Representation) → t.representation r ≡ Some v → IsKept t e r v p → EndsBy p.reach p.stored
  ends_now r v p there kept = by_fills (fills t e r v p kept)
    where
      ends_by : (f : Cells) (n : ℕ) → p.stored ≡ f → p.reach ≡ n → EndsBy n f → EndsBy p.reach p.stored
      ends_by f n stored reach ends q le = ap (λ (g : Cells). g q) stored ∙ ends q (rw reach at le)

      by_fills : Fills t e r v p → EndsBy p.reach p.stored
      by_fills (fills_by.still none body stored reach) = ends_by v.stored v.reach stored reach (stored_ends t r v (s.rows r v there))
      by_fills (fills_by.more x bytes w is body stored reach) = ends_by _ _ stored reach
          (ends_more v.stored (front w) x v.reach bytes (not (v.is_lost || loses_in r e.acts))
          (stored_ends t r v (s.rows r v there)))

  module _ (r c lo : ℕ) (hi : Option ℕ) (how : BoundBy) (a k : Consumer) (v p : Representation) (there : t.representation r ≡ Some v)
      (after : now_on.representation r ≡ Some p) (kept : IsKept t e r v p) (fresh_now : p.is_lost ≡ false) (row : IsRow t e c r lo hi how a k)
      (at : a.place ≡ place.Bound r lo hi how) (after_row : now_on.consumer c ≡ Some k) (stands : k.place ≡ place.Bound r lo hi how) (none : k.due ≡ None) where
    pub parts : (loses_in r e.acts ≡ false) × (v.is_lost ≡ false)
    parts = or_false (loses_in r e.acts) v.is_lost (sym kept.lost_is ∙ fresh_now)

    pub before : (a.due ≡ None) × (becomes_due t e c a ≡ None)
    before = due_before t e c a (consumer_acted t e c (consumer_heard t e c ev a)) k row.is (ap reads stands) none

    reader : IsBound t r c a
    reader = sound.is_bound lo hi how row.row at

    same_r : (q n : ℕ) (w : Representation) → IsAtHole t q c n w a → q ≡ r
    same_r q n w hole = by_reader hole.is_reader
      where
        by_reader : IsBound t q c a → q ≡ r
        by_reader (sound.is_bound b d g also at_q) = (place_inj q b d g r lo hi how (sym at_q ∙ at)).number

    -- no writing was left to it, since nothing is lost
    left_not : (y : ℕ) (q : Consumer) → t.consumer c ≡ Some q → own.IsLeft t e c y (consumer_heard t e c ev q).place → ⊥
    left_not y q q_row l =
        let brings_one : brings_body ev ≡ true = and_left _ _ (and_left _ _ l.loses) in
        let placed : k.place ≡ (consumer_heard t e c ev a).place =
        heard_place step c r lo hi how a k (λ d want polls. false_true (sym (ap brings_body polls) ∙ brings_one)) row in
        let one : q ≡ a = same_row (t.consumer c) q a q_row row.row in
        let at_l : (consumer_heard t e c ev a).place ≡ place.Bound l.r l.lo l.hi l.how =
        ap (λ (b : Consumer). (consumer_heard t e c ev b).place) (sym one) ∙ l.at in
        let number : l.r ≡ r = (place_inj l.r l.lo l.hi l.how r lo hi how (sym at_l ∙ (sym placed ∙ stands))).number in
        false_true (sym parts.0 ∙ (ap (λ n. loses_in n e.acts) (sym number) ∙ and_right _ _ (and_left _ _ l.loses)))

    -- nothing was opened for it, since it stands at no hole
    opened_not : ((q n : ℕ) (w : Representation) → IsAtHole t q c n w a → ⊥) → (g : Opening) → opening_in e.acts ≡ Some g → g.c ≡ c → ⊥
    opened_not no_hole g opens mine = let l = opens_later step c r lo hi how a g row.row at opens mine in no_hole l.r l.end l.v l.at_hole

    -- so it has no open exchange, if it had none
    unowned_now : ((y : ℕ) → own_open t a ≡ Some y → ⊥) → ((q n : ℕ) (w : Representation) → IsAtHole t q c n w a → ⊥) → own_open now_on k ≡ None
    unowned_now had_none no_hole = by_own (own_open now_on k) refl
      where
        by_exchange : (y : ℕ) (z : Exchange) → a.own ≡ Some y → z.is_open ≡ true → ExchangeFrom t e y z → ⊥
        by_exchange y z mine on (exchange.was w w_row same) =
            had_none y (own_open_is t a y (record { own = mine; w = w; row = w_row; opened = same.was_open on }))
        by_exchange y z mine on (exchange.new q no_row opens here made) =
            false_true (sym (ap (λ (x : Option Exchange). is_some x) no_row) ∙ o.there c y a row.row mine)

        by_from : (y : ℕ) (z : Exchange) → z.is_open ≡ true → now_on.exchange y ≡ Some z → OwnFrom t e c y k → ⊥
        by_from y z on z_row (own.kept q its mine heard) =
            by_exchange y z (ap (λ (b : Consumer). b.own) (same_row (t.consumer c) a q row.row its.row) ∙ mine) on
            (exchange_from t e y (t.exchange y) z refl z_row)
        by_from y z on z_row (own.opened q g its opens mine number) = opened_not no_hole g opens mine
        by_from y z on z_row (own.left q its l) = left_not y q its.row l

        by_own : (q : Option ℕ) → own_open now_on k ≡ q → q ≡ None
        by_own None is = refl
        by_own (Some y) is = let i = own_open_of now_on k y is in
            absurd (by_from y i.w i.opened i.row (own_from t e c y (t.consumer c) k refl after_row i.own))

    -- its writing is over
    group_by : is_written now_on p ≡ false → is_written t v ≡ true → (z : Option ℕ) → v.writer ≡ z → IsResting now_on p k
    group_by unwritten on None writer = absurd (writer_some t v on writer)
    group_by unwritten on (Some x) writer = record { unowned = unowned_now had_none no_hole; rest = by_open (is_open (now_on.exchange x)) refl }
      where
        had_none : (y : ℕ) → own_open t a ≡ Some y → ⊥
        had_none y owned =
            let one : y ≡ x = s.one_about r y x (s.writes.own_about r c y a reader owned) (writer_about t r x v s there on writer) in
            o.apart r x c v a there on writer row.row ((own_open_of t a y owned).own ∙ ap Some one)

        no_hole : (q n : ℕ) (w : Representation) → IsAtHole t q c n w a → ⊥
        no_hole q n w hole =
            let one : w ≡ v = same_row (t.representation r) w v (sym (ap t.representation (same_r q n w hole)) ∙ hole.row) there in
            shares_source t q c w a w.writer hole.row hole.is_reader (ap (is_written t) one ∙ on) refl hole.no_source

        by_writer : (p.writer ≡ v.writer) ⊎ IsResumed t e r v p.writer → p.writer ≡ Some x
        by_writer (inl same) = same ∙ writer
        by_writer (inr R) = absurd (resumed_not step m real r c lo hi how k p after after_row stands a v row at there kept before.0 before.1 on x writer R)

        by_open : (b : Bool) → is_open (now_on.exchange x) ≡ b → HasRest now_on p k
        by_open false off = rest_by step m real r c lo hi how k p after after_row stands
            (all_stored step m real r c x lo hi how a k v p row at stands there on writer before.1 kept (inl parts.0) off) hi refl
        by_open true still = absurd (false_true (sym unwritten ∙ written_by now_on p x fresh_now (by_writer kept.writer_is) still))

    pub group_rests : is_written now_on p ≡ false → is_written t v ≡ true → IsResting now_on p k
    group_rests unwritten on = group_by unwritten on v.writer refl

    -- it rests already
    pub rests_by : IsResting t v a → IsResting now_on p k
    rests_by i = record {
      unowned = unowned_now (λ y owned. none_some y (sym i.unowned ∙ owned)) no_hole;
      rest = still_rests step m real r c lo hi how k p after after_row stands a v row at there kept before.0 before.1 i.rest.hi i.rest.end i.rest.covered;
    }
      where
        no_hole : (q n : ℕ) (w : Representation) → IsAtHole t q c n w a → ⊥
        no_hole q n w hole =
            let one : w ≡ v = same_row (t.representation r) w v (sym (ap t.representation (same_r q n w hole)) ∙ hole.row) there in
            let same : i.rest.hi ≡ n = same_row (hi_of t a.place) i.rest.hi n i.rest.end hole.end in
            false_true (sym (ap is_some (ap (λ (z : Representation). z.stored (offset t a)) (sym one) ∙ hole.missing)) ∙
            i.rest.covered (offset t a) (omega arith) (omega arith))

    -- where nobody writes it for several, if it rested where nobody did
    pub comes_to_rest : is_written now_on p ≡ false → (is_written t v ≡ false → IsResting t v a) → IsResting now_on p k
    comes_to_rest unwritten rests = elim (bool_cases (is_written t v)) [
      | inl on ↦ group_rests unwritten on
      | inr off ↦ rests_by (rests off)
    ]

  -- WHO CAME ALONE

  module _ (r : ℕ) (v p : Representation) (there : t.representation r ≡ Some v) (after : now_on.representation r ≡ Some p) (fresh_now : p.is_lost ≡ false) where
    kept : IsKept t e r v p
    kept = by_rep (rep_from t e r (t.representation r) p refl after)
      where
        by_rep : RepFrom t e r p → IsKept t e r v p
        by_rep (rep.was q is) = subst (λ (z : Representation). IsKept t e r z p) (same_row (t.representation r) q v is.row there) is
        by_rep (rep.founded response w none here x_row on made) = absurd (none_some v (sym none ∙ there))

    -- a head founds what wasn't there
    unfounded : (x : ℕ) (response : Response) (w : Exchange) → ev ≡ event.Head x response → t.exchange x ≡ Some w → x ≡ r → ⊥
    unfounded x response w here row of_r =
        none_some v (sym (sym (ap t.representation of_r) ∙ (is_new limits t now flaw s ev goes x response w here row).unfounded) ∙ there)

    more_kept : (c lo : ℕ) (hi : Option ℕ) (how : BoundBy) (a k : Consumer) → IsRow t e c r lo hi how a k → a.place ≡ place.Bound r lo hi how →
        now_on.consumer c ≡ Some k → k.place ≡ place.Bound r lo hi how → k.due ≡ None → came_alone t (place.Bound r lo hi how) ≡ true →
        has_more t v a ≡ false → has_more now_on p k ≡ false
    more_kept c lo hi how a k row at after_row stands none came enough =
        none_more now_on p k (ends_now r v p there kept) (rests_by r c lo hi how a k v p there after kept fresh_now row at after_row stands none
        (rests_without t v a (first_end t r c lo hi how a s row.row at came) enough))

    -- who came alone and has nothing more to come has nothing more
    rests_first : (c : ℕ) (a k : Consumer) → IsFirst t r c → t.consumer c ≡ Some a → IsBound now_on r c k → k.due ≡ None → has_more t v a ≡ false →
        has_more now_on p k ≡ false
    rests_first c a k (sound.first q lo hi how q_row q_at came) a_row (sound.is_bound lo_k hi_k how_k k_row k_at) none enough =
        by_way (bound_from t e c r lo_k hi_k how_k (t.consumer c) k refl k_row k_at)
      where
        one : q ≡ a
        one = same_row (t.consumer c) q a q_row a_row

        reads_r : IsBound t r c a
        reads_r = sound.is_bound lo hi how a_row (ap (λ (z : Consumer). z.place) (sym one) ∙ q_at)

        by_way : BoundFrom t e c r lo_k hi_k how_k k → has_more now_on p k ≡ false
        by_way (from.stays b row at) =
            let same : q ≡ b = same_row (t.consumer c) q b q_row row.row in
            more_kept c lo_k hi_k how_k b k row at k_row k_at none
            (ap (came_alone t) (sym at ∙ (ap (λ (z : Consumer). z.place) (sym same) ∙ q_at)) ∙ came)
            (subst (λ (z : Consumer). has_more t v z ≡ false) (sym one ∙ same) enough)
        by_way (from.founds b x response w row here x_row mine of_r by_is all) = absurd (unfounded x response w here x_row of_r)
        by_way (from.opens b g row opens mine free way hole) =
            absurd (bound_some t r c a s.numbered reads_r (open_free limits t now flaw s ev goes c r b g row.row opens mine free way hole.current_is))
        by_way (from.shows b z row is all) =
            let same : q ≡ b = same_row (t.consumer c) q b q_row row.row in
            let placed : (by_opening t c (opening_in e.acts) (waiting t e c (consumer_heard t e c ev b))).place ≡ b.place =
            subst (λ f. (by_opening t f (opening_in e.acts) (waiting t e f (consumer_heard t e f ev b))).place ≡ b.place) all.at
            (shown_place_is limits t now flaw s ev goes z b is) in
            absurd (false_true (sym all.free ∙ (ap reads placed ∙ ap reads (ap (λ (f : Consumer). f.place) (sym same) ∙ q_at))))

    -- WHO WRITES ALONE

    -- whoever was bound then and now rests, if nobody wrote
    rests_bound : exclusive t r v ≡ None → is_written now_on p ≡ false → (c lo : ℕ) (hi : Option ℕ) (how : BoundBy) (a k : Consumer) →
        IsRow t e c r lo hi how a k → a.place ≡ place.Bound r lo hi how → now_on.consumer c ≡ Some k → k.place ≡ place.Bound r lo hi how → k.due ≡ None →
        came_alone now_on (place.Bound r lo hi how) ≡ true → IsResting now_on p k
    rests_bound free unwritten c lo hi how a k row at after_row stands none came =
        comes_to_rest r c lo hi how a k v p there after kept fresh_now row at after_row stands none unwritten
        (λ off. resting_is t r c lo hi how v a s row.row at came_was
        (before r c lo hi how a k v p there after kept fresh_now row at after_row stands none).0 off free)
      where
        came_was : came_alone t (place.Bound r lo hi how) ≡ true
        came_was = sym (came_kept limits t now flaw s ev goes r lo hi how (ap is_some there)) ∙ came

    none_writes : bound t r ≢ [] → exclusive t r v ≡ None → (c : ℕ) → IsExclusive now_on r c p → ⊥
    none_writes some free c x = by_first x.k x.reader x.first x.none_due x.more
      where
        by_first : (k : Consumer) → IsBound now_on r c k → IsFirst now_on r c → k.due ≡ None → has_more now_on p k ≡ true → ⊥
        by_first k (sound.is_bound lo hi how row at) (sound.first q lo_q hi_q how_q q_row q_at came_q) none more =
            by_way (bound_from t e c r lo hi how (t.consumer c) k refl row at)
          where
            came : came_alone now_on (place.Bound r lo hi how) ≡ true
            came = ap (came_alone now_on) (sym at ∙ (ap (λ (z : Consumer). z.place) (sym (same_row (now_on.consumer c) q k q_row row)) ∙ q_at)) ∙ came_q

            by_way : BoundFrom t e c r lo hi how k → ⊥
            by_way (from.stays a its at_was) =
                let resting = rests_bound free x.unwritten c lo hi how a k its at_was row at none came in
                false_true (sym (none_more now_on p k (ends_now r v p there kept) resting) ∙ more)
            by_way (from.founds b y response w its here y_row mine of_r by_is all) = unfounded y response w here y_row of_r
            by_way (from.opens b g its opens mine bare way hole) =
                some (open_free limits t now flaw s ev goes c r b g its.row opens mine bare way hole.current_is)
            by_way (from.shows b z its is all) =
                false_true (subst (λ (g : BoundBy). came_alone now_on (place.Bound r lo hi g) ≡ true) all.by_is came)

    none_exclusive : bound t r ≢ [] → exclusive t r v ≡ None → exclusive now_on r p ≡ None
    none_exclusive some free = by_option (exclusive now_on r p) refl
      where
        by_option : (q : Option ℕ) → exclusive now_on r p ≡ q → q ≡ None
        by_option None is = refl
        by_option (Some c) is = absurd (none_writes some free c (exclusive_parts now_on r c p is))

  pub rests_kept : RestsOn t now_on
  rests_kept = record {
    rests = λ r c v p k u there after fresh first row reader none enough. rests_first r v p there after fresh c k u first row reader none enough;
    unwritten = λ r v p there after fresh some free. none_exclusive r v p there after fresh some free;
  }
