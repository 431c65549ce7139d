-- What is kept still once whoever asked by a 304 stands in line again: what is current, and what writes it for several.
--
-- Who waits in its key waits to found or to join, so it may be sent back in line (`awaits_it`). Then the rows represent
-- tables in which what is current isn't gone, so it is kept still (`kept_still`). The exchange that writes it has a
-- head, so it isn't the one that was heard and closed: it is open still (`open_still`). `lose_asked` needs both before
-- it loses what is current.
use Rattle.std.{proofs.{lemmas.Bool.Decides.{nat_tests}, Common.{arith, ◌≡◌, ◌≢◌, ℕ, List, Bool, true, false, Option, Some, None, refl, ap, sym, ◌∙◌, subst}}, specs.{Prelude.{is_some, nat_eq, bytes_eq, not, IsSomeAnd, ◌||◌, if◌then◌else◌}, HashMap.{get}}}
use Rattle.hc_text.proofs.Basics.{false_true, same_some as same_row, and_off as then_false}
use Rattle.hc_effects.proofs.Vocabulary.{Limits, Request, route_of, head_refusal, BoundBy, back_in_line, with_consumer, is_headless, StandsFor, is_in_line, stands_in_line, has_passed, Tables, Exchange, Representation, awaited_exchange, place, by}
use Rattle.hc_effects.proofs.{Tests.{none_some}, EventsKeep.{no_head}}
use Rattle.hc_store.specs.declared.backend.Backend.{Ghosts}
use Rattle.hc_stored.specs.{Entries.{shelf_of}, Kept.{Kept}, Shelf.{is_kept}}
use Rattle.hc_exch.specs.Exchanges as exch
use Rattle.hc_exch.specs.{Exchanges.{table_of}, Known.{Table, is_open}}
use Rattle.hc_exch.specs.Known as known
use Rattle.hc_model.specs.Laws as laws
use Rattle.hc_model.specs.Rows as rows
use Rattle.hc_state.specs.{declared.rows.Rows.{Rows}, Handlers.{IsInKey}, Facts.{Facts}, Heads.{AwaitsHead, IsAskedBy}, Leaving.{writer_group_of}, Lines.{is_passed, is_away, is_away_at}, Stands.{RowsStand, Stands, open_at}, Stored.{KeepsEntry, is_usable_kept}}
use Rattle.hc_on_leave.proofs.{AnswerHandler.{known_other}, HeardRows.{Asker, asker, asked_by, headless_of, heard_row}, LoseTurn.{grows}}
use Rattle.hc_state.proofs.{CurrentTies.{entry_row}, KeySteps.{not_lined}, Maps.{known_of, merely_true}}
use Rattle.hc_on_head.proofs.HeadReported.{past_of_runs}

-- WHO WAITS FOR ITS KEY

module _ {B : Type 0} {g : Ghosts B} {limits : Limits} (r : Rows B g) (t : Tables) (facts : Facts limits t) (stands : RowsStand limits r t) (x : ℕ)
    (w : Exchange) (a : Asker r t x w) (waits : IsSomeAnd (get nat_eq r.consumers w.c) (IsInKey r.keys w.c)) where
  abbrev key : List ℕ
  key = a.v.request.key

  in_key : (is_in_line key (Some a.v) || is_passed key (Some a.v) || is_away t key (Some a.v)) ≡ true
  in_key = grind (arith, nat_tests)

  -- who stands elsewhere doesn't
  never : stands_in_line a.v.place ≡ false → has_passed a.v.place ≡ false → is_away_at t a.v.place ≡ false → ⊥
  never off unpassed here = grind (arith, nat_tests)

  -- it waits for the head of its exchange to found or to join by it
  pub awaits_it : awaited_exchange a.v.place ≡ Some x
  awaits_it = by_stands (route_of w.need) a.stands
    where
      by_stands : (way : _) → StandsFor x a.v way → awaited_exchange a.v.place ≡ Some x
      by_stands _ (laws.direct at) = absurd (never (ap stands_in_line at) (ap has_passed at) (ap (is_away_at t) at))
      by_stands _ (laws.has_turn at unshown) = ap awaited_exchange at
      by_stands _ (laws.first q lo hi at unshown) = ap awaited_exchange at
      by_stands _ (laws.later q lo hi how at shown) = absurd (never (ap stands_in_line at) (ap has_passed at) (ap (is_away_at t) at ∙ by_how how refl))
        where
          by_how : (b : BoundBy) → how ≡ b → is_away_at t (place.Bound q lo hi b) ≡ false
          by_how (by.FirstHole y) is =
              let f = facts.turns.first_hole w.c q lo y hi a.v a.awaits.asker (at ∙ ap (place.Bound q lo hi) is) shown in
              ap is_headless f.1 ∙ f.2
          by_how _ is = refl

-- WHAT IS OPEN

pub group_open : (table : Table) (o : Option Kept) (y : ℕ) → writer_group_of table o ≡ Some y → is_open y table ≡ true
group_open table o y is = grind (arith, nat_tests)

-- ONCE IT STANDS IN LINE AGAIN

usable_there : (o : Option Kept) → is_usable_kept o ≡ true → (e : Kept) × (o ≡ Some e) × (e.is_gone ≡ false)
usable_there None on = false_true on
usable_there (Some e) on = (e, refl, by_test e.is_gone on)
  where
    by_test : (b : Bool) → not b ≡ true → b ≡ false
    by_test false h = refl
    by_test true h = false_true h

module _ {B : Type 0} {g : Ghosts B} (r first second : Rows B g) (now x c q : ℕ) (some : ∥ Stands r ∥₁) (accepted : head_refusal (open_at r x) ≡ None)
    (asks : IsAskedBy c (table_of r.exchanges x).running) (waits : IsSomeAnd (get nat_eq r.consumers c) (IsInKey r.keys c))
    (usable : is_usable_kept ((shelf_of r.entries).kept q) ≡ true)
    (sends : (limits : Limits) (t : Tables) (x : ℕ) (w : Exchange) (k : rows.Consumer) → Facts limits t → AwaitsHead t x w k → w.c ≡ c →
    awaited_exchange k.place ≡ Some x → RowsStand limits r t → RowsStand limits first (with_consumer c (Some (back_in_line now k)) t))
    (same_entries : second.entries ≡ first.entries) (same_exchanges : first.exchanges ≡ r.exchanges)
    (becomes : exch.Becomes known.without_exchange x first.exchanges second.exchanges) where
  record Now (t : Tables) : Type 0 where
    w : Exchange
    row : t.exchange x ≡ Some w
    a : Asker r t x w
    for_it : w.c ≡ c

  now_of : {limits : Limits} (t : Tables) → Facts limits t → RowsStand limits r t → Now t
  now_of t facts stands =
      let h = headless_of (table_of r.exchanges x).running accepted in
      let hr = heard_row r t x h.o stands h.there in
      let bare = no_head hr.w.head (sym hr.is.headed ∙ h.headless) in
      record { w = hr.w; row = hr.row; a = asker r t facts x hr.w stands hr.row hr.is.is_open bare; for_it = asked_by r t x c hr.w stands accepted asks hr.row }

  -- what is current is kept still
  pub kept_still : is_kept (shelf_of second.entries) q ≡ true
  kept_still = ap (λ z. is_kept (shelf_of z) q) same_entries ∙ merely_true (is_kept (shelf_of first.entries) q) some (λ p.
      let s = past_of_runs r p in
      let n = now_of s.0 s.1 s.2 in
      let stood = sends _ s.0 x n.w n.a.v s.1 n.a.awaits n.for_it
      (awaits_it r s.0 s.1 s.2 x n.w n.a (subst (λ (d : ℕ). IsSomeAnd (get nat_eq r.consumers d) (IsInKey r.keys d)) (sym n.for_it) waits)) s.2 in
      let u = usable_there ((shelf_of r.entries).kept q) usable in
      let e = entry_row r s.0 s.2 q u.0 u.1 in
      by_kept s.0 n.a.v e.0 ((shelf_of first.entries).kept q) refl e.1 (sym e.2.is_gone ∙ u.2)
      (subst (KeepsEntry (with_consumer c (Some (back_in_line now n.a.v)) s.0) q ((shelf_of first.entries).kept q)) e.1 (stood.entries.each q)))
    where
      by_kept : (t : Tables) (v : rows.Consumer) (p : Representation) (o : Option Kept) → (shelf_of first.entries).kept q ≡ o →
          t.representation q ≡ Some p → p.is_gone ≡ false →
          KeepsEntry (with_consumer c (Some (back_in_line now v)) t) q ((shelf_of first.entries).kept q) (Some p) → is_kept (shelf_of first.entries) q ≡ true
      by_kept t v p (Some e) at there stays keeps = ap (λ (o : Option Kept). is_some o) at
      by_kept t v p None at there stays keeps =
          (let dropped = subst (λ (o : Option Kept). KeepsEntry (with_consumer c (Some (back_in_line now v)) t) q o (Some p)) at keeps in
          false_true (sym stays ∙ dropped.gone))

  -- what writes it for several is open still
  pub open_still : (y : ℕ) → writer_group_of (table_of r.exchanges) ((shelf_of r.entries).kept q) ≡ Some y → is_open y (table_of second.exchanges) ≡ true
  open_still y writer_group = merely_true (is_open y (table_of second.exchanges)) some (λ p.
      let s = past_of_runs r p in
      let n = now_of s.0 s.1 s.2 in
      let u = usable_there ((shelf_of r.entries).kept q) usable in
      let e = entry_row r s.0 s.2 q u.0 u.1 in
      let z = grows r s.0 s.1 s.2 q e.0 e.1 y writer_group in
      let apart : y ≢ x = λ same. (let one : n.w ≡ z.0 = same_row (s.0.exchange x) n.w z.0 n.row (ap s.0.exchange (sym same) ∙ z.1.row) in
      false_true (sym (ap (λ (k : Exchange). is_some k.head) (sym one) ∙ ap (λ h. is_some h) n.a.awaits.headless) ∙ z.1.headed)) in
      ap (λ (k : known.Known). is_some k.running) (known_other known.without_exchange x y first.exchanges second.exchanges becomes apart)
      ∙ (ap (λ z. is_open y (table_of z)) same_exchanges ∙ group_open (table_of r.exchanges) ((shelf_of r.entries).kept q) y writer_group))
