-- The exclusive writer has all up to where its exchange goes on.
--
-- An exchange without a head goes on at its hole, and with one at its front (`bare_at`, `headed_at`). What came stays,
-- and a reader only moves on. If its exchange brings nothing all is as before (`further`, `still_bare`). If it brings a
-- piece, that is written at its front (`piece_body`, `by_brings`); if its head comes, it begins no later than the hole
-- (`comes`). `own_covers` joins these. A later hole begins where it stands (`later_start`).
use Rattle.std.{proofs.Common.{◌≡◌, ◌⊎◌, inl, inr, ℕ, ◌+◌, ◌<◌, ◌≤◌, List, length, true, Option, Some, None, refl, ap, sym, ◌∙◌, subst, arith, length-append}, specs.Prelude.{is_some}}
use Rattle.hc_text.proofs.Basics.{same_some as same_row, some_inj, lt_or as split}
use Rattle.hc_sparse.specs.Cells.{Cells, Cell, Covers, cells_with}
use Rattle.hc_sparse.proofs.CellLemmas.{inside-yes}
use Rattle.hc_effects.proofs.Vocabulary.{Opening, opening_in, given_in, Need, Response, BoundBy, consumer_heard, consumer_acted, Entry, aim_from, base, front, family, entry_of, Measures, bound, offset, lo_of, reads, hole_start, Tables, Exchange, Representation, Consumer, IsBound, IsAbout, IsExclusiveWriter, after_accepted, need, event, place}
use Rattle.hc_model.specs.Sound as sound
use Rattle.hc_effects.proofs.{AboutKeeps.{own_open_is}, Basics.{false_true}, Beside.{IsBeside, goes_on_at}, BoundFrom.{IsRow}, ConsumerFilters.{acted}, Dues.{due_before}, ExchangeFrom.{IsSame, IsHeaded}, Fills.{Fills, fills, Brings, brings}, FirstKeeps.{is_new, is_opener}, HeadTo.{front_within}, LossBy.{IsReal}, MeasuresKeep.{IsHeld, held, piece_taken}, OpensFrom.{IsHole, opens_hole}, ExclusiveWriters.{bound_some}, PollTree.{OpensHole}, RepFrom.{IsKept}, Stays.{bodies_are_kept}, Step.{Step}}
use Rattle.hc_effects.proofs.Fills as fills_by
use Rattle.hc_effects.proofs.PollTree as tree

some_stays : (a b : Option Cell) → ((cell : Cell) → a ≡ Some cell → b ≡ Some cell) → is_some a ≡ true → is_some b ≡ true
some_stays None b keeps there = absurd (false_true there)
some_stays (Some cell) b keeps there = ap (λ (z : Option Cell). is_some z) (keeps cell refl)

piece_inj : (x y : ℕ) (a b : List ℕ) → event.Piece x a ≡ event.Piece y b → (x ≡ y) × (a ≡ b)
piece_inj x y a b is = (cc, cc)

-- where an exchange goes on that has no head, and that has one
pub bare_at : (z : Exchange) → z.head ≡ None → goes_on_at z z.head ≡ hole_start z.need
bare_at z bare = ap (goes_on_at z) bare

pub headed_at : (z : Exchange) (a : Option Response) → z.head ≡ a → is_some a ≡ true → goes_on_at z z.head ≡ front z
headed_at z None is there = absurd (false_true there)
headed_at z (Some response) is there = ap (goes_on_at z) is

module _ (step : Step) (m : Measures step.tables) (i : IsBeside step.tables) (real : IsReal step.limits step.tables step.now step.event step.flaw) where
  open step use {limits, tables as t, now, flaw, sound as s, event as ev, accepted as goes}

  abbrev e : Entry
  e = entry_of limits t now ev flaw

  abbrev now_on : Tables
  now_on = after_accepted t e

  -- what came stays
  pub grown : (r : ℕ) (v p : Representation) (a b : ℕ) → t.representation r ≡ Some v → now_on.representation r ≡ Some p → Covers v.body a b → Covers p.body a b
  grown r v p a b there after all d from_a lt =
      some_stays (v.body d) (p.body d) (λ cell is. bodies_are_kept limits t now flaw s ev goes r d cell v p there after is) (all d from_a lt)

  module _ (r c lo : ℕ) (hi : Option ℕ) (how : BoundBy) (k u : Consumer) (row : IsRow t e c r lo hi how k u) (at : k.place ≡ place.Bound r lo hi how)
      (stands : u.place ≡ place.Bound r lo hi how) where
    pub offset_more : offset t k ≤ offset now_on u
    offset_more =
        let a = acted t e c k in
        let now_given : u.given ≡ k.given + length (given_in c e.acts) = sym (ap (λ (q : Consumer). q.given) row.is) ∙ a.given_is in
        let before : offset t k ≡ lo + k.given = ap (λ q. lo_of t q + k.given) at in
        let after : offset now_on u ≡ lo + u.given = ap (λ q. lo_of now_on q + u.given) stands in
        omega arith

    pub reader : IsBound t r c k
    reader = sound.is_bound lo hi how row.row at

    pub none_before : u.due ≡ None → k.due ≡ None
    none_before none = (due_before t e c k (consumer_acted t e c (consumer_heard t e c ev k)) u row.is (ap reads stands) none).0

    -- A PIECE OF ITS OWN EXCHANGE

    module _ (x : ℕ) (w : Exchange) (v p : Representation) (there : t.representation r ≡ Some v) (kept : IsKept t e r v p) (own : k.own ≡ Some x)
        (exchange_row : t.exchange x ≡ Some w) where
      -- an own open exchange with its head is of what it reads
      pub of_r : w.is_open ≡ true → is_some w.head ≡ true → family x w ≡ r
      of_r opened headed = by_about (s.writes.own_about r c x k reader (own_open_is t k x (record { own = own; w = w; row = exchange_row; opened = opened })))
        where
          by_about : IsAbout t r x → family x w ≡ r
          by_about (sound.headed q q_row q_open q_head fam q_there) = ap (family x) (same_row (t.exchange x) w q exchange_row q_row) ∙ fam
          by_about (sound.asks q a b q_row q_open bare needs aim) =
              absurd (false_true (sym (ap (λ (z : Option Response). is_some z) bare) ∙
              (ap (λ (z : Exchange). is_some z.head) (same_row (t.exchange x) q w q_row exchange_row) ∙ headed)))

      pub piece_body : (bytes : List ℕ) → ev ≡ event.Piece x bytes → p.body ≡ cells_with (front w) x bytes v.body
      piece_body bytes here = by_fills (fills t e r v p kept)
        where
          taken : Rattle.hc_effects.proofs.Once.IsTaken w (length bytes)
          taken = piece_taken step m x bytes w here exchange_row

          by_fills : Fills t e r v p → p.body ≡ cells_with (front w) x bytes v.body
          by_fills (fills_by.still none_of body_is stored_is reach_is) =
              absurd (none_of x bytes w (record { at = here; row = exchange_row; of_r = of_r taken.is_open taken.headed }))
          by_fills (fills_by.more y more a is body_is stored_is reach_is) =
              let same = piece_inj x y bytes more (sym here ∙ is.at) in
              let one : a ≡ w = same_row (t.exchange x) a w (ap t.exchange same.0 ∙ is.row) exchange_row in
              body_is ∙ (ap (λ (q : Exchange). cells_with (front q) y more v.body) one ∙
              (ap (λ n. cells_with (front w) n more v.body) (sym same.0) ∙ ap (λ d. cells_with (front w) x d v.body) (sym same.1)))

    -- ITS OWN EXCHANGE STAYS

    module _ (x : ℕ) (w z : Exchange) (v p : Representation) (there : t.representation r ≡ Some v) (kept : IsKept t e r v p)
        (after : now_on.representation r ≡ Some p) (none : u.due ≡ None) (own : k.own ≡ Some x) (exchange_row : t.exchange x ≡ Some w)
        (same : IsSame t e x w z) (after_x : now_on.exchange x ≡ Some z) (exclusive_writer : IsExclusiveWriter t r v c) where
      was : Covers v.body (offset t k) (goes_on_at w w.head)
      was = i.covered r c x v k w there exclusive_writer reader (none_before none) own exchange_row

      further : (a : ℕ) → a ≤ goes_on_at w w.head → Covers p.body (offset now_on u) a
      further a le d from_u lt =
          grown r v p (offset t k) (goes_on_at w w.head) there after was d
          (let more : offset t k ≤ offset now_on u = offset_more in let begins : offset now_on u ≤ d = from_u in omega arith) (omega arith)

      still_bare : z.head ≡ w.head → w.head ≡ None → Covers p.body (offset now_on u) (goes_on_at z z.head)
      still_bare head_is bare =
          let start : hole_start z.need ≡ hole_start w.need = ap hole_start same.need_is in
          let now_at : goes_on_at z z.head ≡ hole_start z.need = bare_at z (head_is ∙ bare) in
          let was_at : goes_on_at w w.head ≡ hole_start w.need = bare_at w bare in
          further (goes_on_at z z.head) (omega arith)

      by_brings : IsHeld step m x w z → is_some w.head ≡ true → Brings t e x w z → Covers p.body (offset now_on u) (front z)
      by_brings keeps headed (fills_by.still none_of body_is) d from_u lt =
          let first : base z ≡ base w = keeps.base_is in
          let count : length z.body ≡ length w.body = ap (λ (b : List ℕ). length b) body_is in
          let was_at : goes_on_at w w.head ≡ front w = headed_at w w.head refl headed in
          further (front z) (omega arith) d from_u lt
      by_brings keeps headed (fills_by.more bytes here body_is) d from_u lt =
          let first : base z ≡ base w = keeps.base_is in
          let longer : length z.body ≡ length w.body + length bytes = ap (λ (b : List ℕ). length b) body_is ∙ length-append w.body bytes in
          let was_at : goes_on_at w w.head ≡ front w = headed_at w w.head refl headed in
          let below : d < front z = lt in
          elim (split d (front w)) [
            | inl before ↦ further (front w) (omega arith) d from_u before
            | inr past ↦ ap (λ (f : Cells). is_some (f d)) (piece_body x w v p there kept own exchange_row bytes here) ∙
                (let yes = inside-yes (front w) (length bytes) d past (omega arith) in rw yes refl)
          ]

      still_headed : z.head ≡ w.head → z.joined ≡ w.joined → is_some w.head ≡ true → Covers p.body (offset now_on u) (goes_on_at z z.head)
      still_headed head_is joined_is headed =
          let there_now : is_some z.head ≡ true = ap (λ (a : Option Response). is_some a) head_is ∙ headed in
          subst (Covers p.body (offset now_on u)) (sym (headed_at z z.head refl there_now))
          (by_brings (held step m x w z same head_is joined_is) headed (brings t e x w z exchange_row after_x))

      still_by : z.head ≡ w.head → z.joined ≡ w.joined → (a : Option Response) → w.head ≡ a → Covers p.body (offset now_on u) (goes_on_at z z.head)
      still_by head_is joined_is None is = still_bare head_is is
      still_by head_is joined_is (Some response) is = still_headed head_is joined_is (ap (λ (a : Option Response). is_some a) is)

      comes : IsHeaded t e x w z → Covers p.body (offset now_on u) (goes_on_at z z.head)
      comes got =
          let bare = (is_new limits t now flaw s ev goes x got.response w got.at exchange_row).bare in
          let was_at : goes_on_at w w.head ≡ hole_start w.need = bare_at w bare in
          let le : front z ≤ hole_start w.need = front_within step r c x lo hi how k u w z row at stands none own exchange_row same got in
          let now_at : goes_on_at z z.head ≡ front z = headed_at z (Some got.response) got.head_is refl in
          further (goes_on_at z z.head) (omega arith)

      pub own_covers : Covers p.body (offset now_on u) (goes_on_at z z.head)
      own_covers = by_heard same.heard_or
        where
          by_heard : ((z.head ≡ w.head) × (z.joined ≡ w.joined)) ⊎ IsHeaded t e x w z → Covers p.body (offset now_on u) (goes_on_at z z.head)
          by_heard (inl still) = still_by still.0 still.1 w.head refl
          by_heard (inr got) = comes got

    -- A LATER HOLE IS OPENED FOR IT

    start_or : (n : Need) → (hole_start n ≡ 0) ⊎ IsHole n
    start_or (need.Hole from to) = inr (record { from = from; to = to; is = refl })
    start_or _ = inl refl

    pub later_from : (from to : ℕ) → OpensHole t c k from to → from ≡ offset t k
    later_from from to (tree.first q v span hole is aims there nobody found lo_is hi_is) =
        let number : r ≡ q = some_inj r q (sym (ap (aim_from t k.request.key) at) ∙ aims) in
        absurd (bound_some t r c k s.numbered reader (ap (bound t) number ∙ nobody))
    later_from from to (tree.later q end n v stands_at none lo_is up) = lo_is

    -- it begins where it stands
    pub later_start : (p : Opening) → opening_in e.acts ≡ Some p → p.c ≡ c → hole_start p.need ≤ offset t k
    later_start p opens mine = elim (start_or p.need) [
      | inl none_is ↦ (let zero_is : hole_start p.need ≡ 0 = none_is in omega arith)
      | inr hole ↦
          let opener = is_opener limits t now flaw s ev goes c k p row.row opens mine in
          let same : hole.from ≡ offset t k =
          later_from hole.from hole.to (opens_hole t c k p now opener.want s row.row opener.opening hole.from hole.to hole.is) in
          let start : hole_start p.need ≡ hole.from = ap hole_start hole.is in
          omega arith
    ]
