-- What an exchange brought stands in its body, and nothing else there is from it, in every run.
--
-- A byte from an exchange was there, or comes with this piece, and lies in what the exchange has brought by then
-- (`new_cell`, `by_fills`). What it brought stays: no piece comes over it (`not_over`, `kept_there`), and where its
-- body begins stays too, once it has a head (`base_same`). What it brings now is the piece. `brings_kept` joins both
-- ways for an entry, and `brings_in_runs` carries them.
use Rattle.std.{proofs.{Common.{◌≡◌, ◌≤◌, ◌<◌, ◌⊎◌, inl, inr, ℕ, ◌+◌, ◌-◌, List, ◌++◌, length, length-append, true, Option, Some, None, refl, ap, sym, ◌∙◌, subst, arith}, Math.{ListN.{get_or-append}, Seq.{get_or-append_right}}}, specs.Prelude.{is_some, slice_index, unwrap_or}}
use Rattle.hc_text.proofs.Basics.{not_some as none_some, same_some as same_row, some_inj}
use Rattle.hc_sparse.specs.Cells.{Cell, inside, cells_with}
use Rattle.hc_sparse.proofs.CellLemmas.{inside-cases}
use Rattle.hc_effects.proofs.Vocabulary.{Response, base_of, denial, Entry, base, front, family, entry_of, OfRuns, Brings, cell_from, Measures, Origins, MayDeliver, Tables, Exchange, Representation, after_accepted, event}
use Rattle.hc_model.specs.Origins as origins
use Rattle.hc_effects.proofs.{Basics.{false_true}, ExchangeFrom.{ExchangeFrom, exchange_from, IsSame}, Fills.{Fills, fills, IsPiece, brings, length_same}, FirstKeeps.{is_new}, NumbersKeep.{opens_next}, Once.{delivers_once}, RepFrom.{RepFrom, rep_from, IsKept}, Step.{Step, step_of}}
use Rattle.hc_effects.proofs.ExchangeFrom as exchange
use Rattle.hc_effects.proofs.Fills as fills_by
use Rattle.hc_laws.proofs.{OriginRuns.{origins_in_runs}, RunFacts.{in_runs_with}}
use Rattle.hc_effects.proofs.RepFrom as rep

-- what comes behind the bytes of w
pub more_bytes : (w : Exchange) (bytes : List ℕ) (p : ℕ) → base w ≤ p → front w ≤ p →
    slice_index (w.body ++ bytes) (p - base w) ≡ slice_index bytes (p - front w)
more_bytes w bytes p low past = get_or-append_right w.body bytes (p - base w) 0 (omega arith) ∙ ap (slice_index bytes) (omega arith)

pub old_bytes : (w : Exchange) (bytes : List ℕ) (p : ℕ) → base w ≤ p → p < front w →
    slice_index (w.body ++ bytes) (p - base w) ≡ slice_index w.body (p - base w)
old_bytes w bytes p low under = let lt : p - base w < length w.body = omega arith in get_or-append w.body bytes 0 (p - base w) lt

-- a cell of x is told by its byte
cell_is : (x a b : ℕ) → a ≡ b → (let c : Cell = record { byte = a; x = x } in Some c) ≡ Some (record { byte = b; x = x })
cell_is x a b same = ap (λ n. Some (record { byte = n; x = x })) same

module _ (step : Step) (m : Measures step.tables) (g : Origins step.tables) (was : Brings step.tables) where
  open step use {limits, tables as t, now, flaw, sound as s, event as ev, accepted as goes}

  abbrev e : Entry
  e = entry_of limits t now ev flaw

  abbrev now_on : Tables
  now_on = after_accepted t e

  -- a head that came stays, and so does where the body begins
  pub base_same : (x : ℕ) (w z : Exchange) → t.exchange x ≡ Some w → is_some w.head ≡ true → IsSame t e x w z → base z ≡ base w
  base_same x w z row headed same = elim same.heard_or [
    | inl still ↦ ap base_of (length_same w z same.need_is same.request_is still.0)
    | inr got ↦ absurd (false_true (sym (ap (λ (q : Option Response). is_some q) (is_new limits t now flaw s ev goes x got.response w got.at row).bare) ∙
        headed))
  ]

  -- WHAT IS FROM IT

  came_headed : (r x : ℕ) (w : Exchange) → t.exchange x ≡ Some w → MayDeliver t r x → is_some w.head ≡ true
  came_headed r x w row (origins.begun none) = absurd (none_some w (sym none ∙ row))
  came_headed r x w row (origins.came q q_row headed of_r) = ap (λ (a : Exchange). is_some a.head) (same_row (t.exchange x) w q row q_row) ∙ headed

  module _ (r x p : ℕ) (cell : Cell) (u : Representation) (z : Exchange) (after : now_on.representation r ≡ Some u) (there : u.body p ≡ Some cell)
      (from : cell.x ≡ x) (after_x : now_on.exchange x ≡ Some z) where
    old_cell : (v : Representation) → t.representation r ≡ Some v → v.body p ≡ Some cell → ExchangeFrom t e x z → (base z ≤ p) × (p < front z)
    old_cell v row here (exchange.new q none opens number made) =
        let most : x ≤ t.opened = (g.given_out r x (origins.has_byte p cell v row here from)).1 in
        let next : q.x ≡ t.opened + 1 = opens_next limits t now flaw s ev q goes opens in
        absurd (omega arith)
    old_cell v row here (exchange.was w w_row same) =
        let headed = came_headed r x w w_row (g.delivered r x (origins.has_byte p cell v row here from)) in
        let within = was.only r x p cell w v row here from w_row in
        by_brings within.0 within.1 (base_same x w z w_row headed same) (brings t e x w z w_row after_x)
      where
        by_brings : base w ≤ p → p < front w → base z ≡ base w → fills_by.Brings t e x w z → (base z ≤ p) × (p < front z)
        by_brings low under first (fills_by.still none body_is) = let count : length z.body ≡ length w.body = ap (λ (b : List ℕ). length b) body_is in
            (omega arith, omega arith)
        by_brings low under first (fills_by.more bytes here_too body_is) = let count : length z.body ≡ length w.body + length bytes =
            ap (λ (b : List ℕ). length b) body_is ∙ length-append w.body bytes in (omega arith, omega arith)

    -- it comes with this piece
    new_cell : (bytes : List ℕ) (w : Exchange) → IsPiece t e r x bytes w → front w ≤ p → p < front w + length bytes → ExchangeFrom t e x z →
        (base z ≤ p) × (p < front z)
    new_cell bytes w is low under (exchange.new q none opens number made) = absurd (none_some w (sym none ∙ is.row))
    new_cell bytes w is low under (exchange.was a a_row same) =
        by_brings (subst (λ (q : Exchange). IsSame t e x q z) (same_row (t.exchange x) a w a_row is.row) same) (brings t e x w z is.row after_x)
      where
        by_brings : IsSame t e x w z → fills_by.Brings t e x w z → (base z ≤ p) × (p < front z)
        by_brings same_w (fills_by.still none body_is) = absurd (none bytes is.at)
        by_brings same_w (fills_by.more other also body_is) =
            let count : length bytes ≡ length other = cc in
            let first : base z ≡ base w = by_heard same_w.heard_or in
            let longer : length z.body ≡ length w.body + length other = ap (λ (b : List ℕ). length b) body_is ∙ length-append w.body other in
            (omega arith, omega arith)
          where
            by_heard : ((z.head ≡ w.head) × (z.joined ≡ w.joined)) ⊎ exchange.IsHeaded t e x w z → base z ≡ base w
            by_heard (inl still) = ap base_of (length_same w z same_w.need_is same_w.request_is still.0)
            by_heard (inr got) = absurd (let no : event.Piece x bytes ≡ event.Head x got.response = sym is.at ∙ got.at in cc)

    by_fills : (v : Representation) → t.representation r ≡ Some v → Fills t e r v u → (base z ≤ p) × (p < front z)
    by_fills v row (fills_by.still none body stored reach) =
        old_cell v row (sym (ap (λ f. f p) body) ∙ there) (exchange_from t e x (t.exchange x) z refl after_x)
    by_fills v row (fills_by.more y bytes a is body stored reach) = elim (inside-cases (front a) (length bytes) p) [
      | inl in_it ↦
          let at : cells_with (front a) y bytes v.body p ≡ Some cell = sym (ap (λ f. f p) body) ∙ there in
          let same : y ≡ x = ap (λ (q : Cell). q.x) (some_inj _ cell (rw in_it.0 at at)) ∙ from in
          new_cell bytes a (subst (λ n. IsPiece t e r n bytes a) same is) in_it.1 in_it.2 (exchange_from t e x (t.exchange x) z refl after_x)
      | inr off ↦
          let at : cells_with (front a) y bytes v.body p ≡ Some cell = sym (ap (λ f. f p) body) ∙ there in
          old_cell v row (rw off.0 at at) (exchange_from t e x (t.exchange x) z refl after_x)
    ]

    from_rep : RepFrom t e r u → (base z ≤ p) × (p < front z)
    from_rep (rep.was v kept) = by_fills v kept.row (fills t e r v u kept)
    from_rep (rep.founded response w none here w_row on made) = absurd (none_some cell (ap (λ (q : Representation). q.body p) made ∙ there))

    only_kept : (base z ≤ p) × (p < front z)
    only_kept = from_rep (rep_from t e r (t.representation r) u refl after)

  -- WHAT IT BROUGHT

  module _ (x p : ℕ) (w z : Exchange) (u : Representation) (row : t.exchange x ≡ Some w) (after_x : now_on.exchange x ≡ Some z) (same : IsSame t e x w z)
      (still_head : z.head ≡ w.head) (still_joined : z.joined ≡ w.joined) (headed : is_some w.head ≡ true) (low : base z ≤ p) (under : p < front z) where
    abbrev r : ℕ
    r = family x w

    first : base z ≡ base w
    first = base_same x w z row headed same

    -- it was there
    old_there : (v : Representation) → t.representation r ≡ Some v → p < front w → v.body p ≡ Some (cell_from x w p)
    old_there v there lt = was.stands x p w v row headed there (let same_base : base z ≡ base w = first in omega arith) lt

    -- no piece comes over it
    not_over : (v : Representation) (y : ℕ) (bytes : List ℕ) (a : Exchange) → t.representation r ≡ Some v → IsPiece t e r y bytes a → p < front w →
        (front a ≤ p) → p < front a + length bytes → ⊥
    not_over v y bytes a there is lt from to =
        let absent : v.body p ≡ None =
        delivers_once t s y bytes a v (sym (ap (denial t) is.at) ∙ goes) is.row (ap t.representation is.of_r ∙ there) p from to in
        none_some (cell_from x w p) (sym absent ∙ old_there v there lt)

    kept_there : (v : Representation) → t.representation r ≡ Some v → Fills t e r v u → p < front w → u.body p ≡ Some (cell_from x w p)
    kept_there v there (fills_by.still none body stored reach) lt = ap (λ f. f p) body ∙ old_there v there lt
    kept_there v there (fills_by.more y bytes a is body stored reach) lt = ap (λ f. f p) body ∙ elim (inside-cases (front a) (length bytes) p) [
      | inl in_it ↦ absurd (not_over v y bytes a there is lt in_it.1 in_it.2)
      | inr off ↦ rw off.0 (old_there v there lt)
    ]

    by_still : (v : Representation) → t.representation r ≡ Some v → IsKept t e r v u → fills_by.Brings t e x w z → u.body p ≡ Some (cell_from x z p)
    by_still v there kept (fills_by.still none body_is) =
        let same_base : base z ≡ base w = first in
        let count : length z.body ≡ length w.body = ap (λ (b : List ℕ). length b) body_is in
        kept_there v there (fills t e r v u kept) (omega arith) ∙
        cell_is x _ _ (ap (λ (b : List ℕ). slice_index b (p - base w)) (sym body_is) ∙ ap (λ n. slice_index z.body (p - n)) (sym first))
    by_still v there kept (fills_by.more bytes here body_is) = elim (inside-cases (front w) (length bytes) p) [
      | inr off ↦ old_one off.1
      | inl in_it ↦ by_fills in_it.0 in_it.1 (fills t e r v u kept)
    ]
      where
        byte_is : slice_index z.body (p - base z) ≡ slice_index (w.body ++ bytes) (p - base w)
        byte_is = ap (λ (b : List ℕ). slice_index b (p - base z)) body_is ∙ ap (λ n. slice_index (w.body ++ bytes) (p - n)) first

        old_one : (p < front w) ⊎ (front w + length bytes ≤ p) → u.body p ≡ Some (cell_from x z p)
        old_one (inl lt) = kept_there v there (fills t e r v u kept) lt ∙
            cell_is x _ _ (sym (old_bytes w bytes p (let same_base : base z ≡ base w = first in omega arith) lt) ∙ sym byte_is)
        old_one (inr past) =
            let same_base : base z ≡ base w = first in
            let count : length z.body ≡ length w.body + length bytes = ap (λ (b : List ℕ). length b) body_is ∙ length-append w.body bytes in
            absurd (omega arith)

        by_fills : inside (front w) (length bytes) p ≡ true → front w ≤ p → Fills t e r v u → u.body p ≡ Some (cell_from x z p)
        by_fills in_it from (fills_by.still none body stored reach) = absurd (none x bytes w (record { at = here; row = row; of_r = refl }))
        by_fills in_it from (fills_by.more y other a is body stored reach) =
            let both : (y ≡ x) × (other ≡ bytes) = (cc, cc) in
            let one : a ≡ w = same_row (t.exchange x) a w (sym (ap t.exchange both.0) ∙ is.row) row in
            let body_at : u.body p ≡ cells_with (front w) x bytes v.body p = ap (λ f. f p) body ∙
            (ap (λ n. cells_with (front a) n other v.body p) both.0 ∙
            (ap (λ b. cells_with (front a) x b v.body p) both.1 ∙ ap (λ (q : Exchange). cells_with (front q) x bytes v.body p) one)) in
            body_at ∙ (rw in_it refl ∙ cell_is x _ _ (sym (more_bytes w bytes p (let same_base : base z ≡ base w = first in omega arith) from) ∙ sym byte_is))

    -- what it is of was there
    by_rep : RepFrom t e r u → u.body p ≡ Some (cell_from x z p)
    by_rep (rep.was v kept) = by_still v kept.row kept (brings t e x w z row after_x)
    by_rep (rep.founded response q none here q_row on made) = by_joined w.joined refl
      where
        by_joined : (j : Option ℕ) → w.joined ≡ j → u.body p ≡ Some (cell_from x z p)
        by_joined (Some n) joined =
            let of_n : r ≡ n = ap (λ (a : Option ℕ). unwrap_or a x) joined in
            absurd (false_true (sym (ap (λ (a : Option Representation). is_some a) none) ∙
            (ap (λ a. is_some (t.representation a)) of_n ∙ s.numbered.names.joined x n w row joined)))
        by_joined None alone =
            let bare = (is_new limits t now flaw s ev goes x response w
            (here ∙ ap (λ n. event.Head n response) (ap (λ (a : Option ℕ). unwrap_or a x) alone)) row).bare in
            absurd (false_true (sym (ap (λ (a : Option Response). is_some a) bare) ∙ headed))

  stands_by : (x p : ℕ) (z : Exchange) (u : Representation) → now_on.exchange x ≡ Some z → is_some z.head ≡ true →
      now_on.representation (family x z) ≡ Some u → base z ≤ p → p < front z → ExchangeFrom t e x z → u.body p ≡ Some (cell_from x z p)
  stands_by x p z u after_x headed after low under (exchange.new q none opens number made) =
      let empty : length z.body ≡ 0 = ap (λ (a : Exchange). length a.body) (sym made) in
      absurd (omega arith)
  stands_by x p z u after_x headed after low under (exchange.was w row same) = elim same.heard_or [
    | inl still ↦
        let fam : family x z ≡ family x w = ap (λ (a : Option ℕ). unwrap_or a x) still.1 in
        by_rep x p w z u row after_x same still.0 still.1 (ap (λ (a : Option Response). is_some a) (sym still.0) ∙ headed) low under
        (rep_from t e (family x w) (t.representation (family x w)) u refl (ap now_on.representation (sym fam) ∙ after))
    | inr got ↦
        let bare = (is_new limits t now flaw s ev goes x got.response w got.at row).bare in
        let empty : length z.body ≡ 0 = ap (λ (b : List ℕ). length b) (got.body_is ∙ (s.waits.headless x w row bare).0) in
        absurd (omega arith)
  ]

  brings_kept : Brings now_on
  brings_kept = record {
    stands = λ x p z u after_x headed after low under. stands_by x p z u after_x headed after low under (exchange_from t e x (t.exchange x) z refl after_x);
    only = λ r x p cell z u after there from after_x. only_kept r x p cell u z after there from after_x;
  }

-- IN RUNS

pub brings_in_runs : OfRuns Brings
brings_in_runs = in_runs_with (λ limits t. Brings t) (λ limits t. Origins t) origins_in_runs
    (λ limits contents may. record { stands = λ x p w v row. absurd (none_some w row); only = λ r x p cell w v there here from row. absurd (none_some w row) })
    (λ limits t e later was. record { stands = was.stands; only = was.only })
    (λ limits t now flaw ev s g was. let c = s.before in brings_kept (step_of limits t now flaw c.is_sound c.is_owned ev s.going) c.is_measured g was)
