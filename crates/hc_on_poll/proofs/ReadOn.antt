-- Who is bound reads on: what its calls need holds wherever some tables are represented.
--
-- What a call needs is a plain fact of rows and numbers. So it may be taken from tables of which is known just that
-- there are some (`merely_most`, `merely_within`). `BoundReads` gives it for each step. What is given stays in range,
-- what is asked is open, and a hole is within the length. Then `BoundGives` answers what was done (`gives_stored`,
-- `gives_held`, `asks_for`). `read_bound` uses these where something is stored, and else `read_on`.
use Rattle.std.{proofs.{Common.{◌≡◌, ℕ, ◌+◌, ◌<◌, ◌≤◌, ◌^◌, List, ◌++◌, length, take, true, false, Option, Some, None, ap, ap₂, sym, ◌∙◌, subst, arith}, lemmas.Grind.{not_there}}, specs.{Prelude.{is_some, nat_eq, option_map, IsSomeAnd}, HashMap.{get}}}
use Rattle.hc_text.proofs.Basics.{some_inj as some_is}
use Rattle.hc_effects.proofs.Vocabulary.{Limits, Act, ReadView, read_step, is_at_end, acts_of, Tables, event}
use Rattle.hc_effects.proofs.Tests.{none_some}
use Rattle.hc_store.specs.declared.backend.Backend.{Ghosts}
use Rattle.hc_range.specs.{Spans.{IsWithin}, declared.range.Span.{Span}}
use Rattle.hc_record.specs.Head.{Head}
use Rattle.hc_sparse.specs.{Runs.{end_of}, declared.run.Run.{Run}}
use Rattle.hc_rules.specs.declared.reading.ReadStep.TheVariants as step
use Rattle.hc_stored.specs.{Entries.{shelf_of}, Shelf.{head_at, is_kept}}
use Rattle.hc_exch.specs.Exchanges as exch
use Rattle.hc_exch.specs.Exchanges.{table_of}
use Rattle.hc_exch.specs.Known as known
use Rattle.hc_state.specs.{declared.rows.Rows.{Rows}, Handlers.{most, given_acts, asks_or_waits, asked_in}, Changes.{ChangesAt}, Facts.{Facts}, Reads.{IsShownAt, WaitsForNoHead, IsRunAhead, IsInLength, ReadViewIs}, Stands.{RowsStand, Stands, Answered}}
use Rattle.hc_txn.specs.{declared.transaction.Transaction.{Transaction as Consumer}, Transactions.{once_given}}
use Rattle.hc_on_poll.proofs.BoundGives as gives
use Rattle.hc_on_poll.proofs.BoundReads as bound
use Rattle.hc_state.proofs.{Maps.{merely_true, merely_below}, Words.{few_received}}
use Rattle.hc_on_poll.proofs.ShowStored.{IsBoundRow, bound_row_of, bound_kept}

-- WHEREVER THERE IS SOME PAST

-- at most so many
merely_most : {P : Type 0} (n m : ℕ) → ∥ P ∥₁ → (P → n < m + 1) → n ≤ m
merely_most n m some h = let below = merely_below n (m + 1) some h in omega (arith, below)

-- a span within a length
merely_within : {P : Type 0} (z : Option ℕ) (x : Span) → ∥ P ∥₁ → (P → (n : ℕ) × (z ≡ Some n) × IsWithin x n) → IsSomeAnd z (IsWithin x)
merely_within None x some h = absurd (not_there some (λ p. let all = h p in none_some all.0 all.1))
merely_within {P} (Some n) x some h = record {
  not_empty = merely_below x.lo x.hi some (λ p. (its p).not_empty);
  within = merely_most x.hi n some (λ p. let le = (its p).within in omega (arith, le));
  small = merely_below n (2 ^ 62) some (λ p. (its p).small);
}
  where
    its : P → IsWithin x n
    its p = let all = h p in subst (IsWithin x) (sym (some_is n all.0 all.1)) all.2

merely_in_length : {P : Type 0} (o : Option Head) (x : Span) → ∥ P ∥₁ →
    (P → (head : Head) × (o ≡ Some head) × ((n : ℕ) × (head.total ≡ Some n) × IsWithin x n)) → IsSomeAnd o (IsInLength x)
merely_in_length None x some h = absurd (not_there some (λ p. let all = h p in none_some all.0 all.1))
merely_in_length (Some head) x some h = merely_within head.total x some (λ p.
    let all = h p in
    let same : all.0 ≡ head = sym (some_is head all.0 all.1) in
    (all.2.0, ap (λ (z : Head). z.total) (sym same) ∙ all.2.1, all.2.2))

-- WHO READS ON

module _ {B : Type 0} {g : Ghosts B} (r : Rows B g) (c q : ℕ) (k : Consumer) (at : get nat_eq r.consumers c ≡ Some k) (reads : IsShownAt q k) where
  -- its row
  pub row_of : {limits : Limits} (t : Tables) → Facts limits t → RowsStand limits r t → IsBoundRow t c q reads.0.2 k
  row_of t facts stands = bound_row_of r t facts.law c q reads.0.0 reads.0.1 reads.0.2 k stands at reads.0.3

  module _ (some : ∥ Stands r ∥₁) where
    module _ (s : Stands r) where
      abbrev t : Tables
      t = s.t

      facts : Facts s.limits t
      facts = s.facts

      rd : IsBoundRow t c q reads.0.2 k
      rd = row_of t facts s.rows

    -- what it reads is kept
    pub kept : is_kept (shelf_of r.entries) q ≡ true
    kept = merely_true (is_kept (shelf_of r.entries) q) some (λ s. bound_kept r (t s) (facts s).law c q reads.0.2 k s.rows (rd s))

    module _ where
      pub offset_fits : k.lo + k.given ≤ 2 ^ 62
      offset_fits = merely_most (k.lo + k.given) (2 ^ 62) some
          (λ s. bound.offset_small r (t s) (facts s) s.rows c q reads.0.2 k (rd s) s.numbers (few_received s.received))

      module _ (want : ℕ) (wants : 0 < want) (run : Option Run) (run_is : IsRunAhead (shelf_of r.entries) q want run k) where
        pub run_fits : (z : Run) → run ≡ Some z → k.given + length z.bytes ≤ 2 ^ 62
        run_fits z is = merely_most (k.given + length z.bytes) (2 ^ 62) some
            (λ s. bound.run_small r (t s) (facts s) s.rows c q reads.0.2 k (rd s) s.numbers (few_received s.received) want wants run run_is z is)

        module _ (heard : WaitsForNoHead (table_of r.exchanges) k) (view : ReadView) (view_is : ReadViewIs r q c (option_map end_of run) view k) where
          -- where it is of its own exchange it has one
          pub own_there : read_step view ≡ step.Held → is_some k.own ≡ true
          own_there is = merely_true (is_some k.own) some
              (λ s. ap (λ (z : Option ℕ). is_some z)
              (bound.held_move r (t s) (facts s) s.rows c q reads.0.2 k (rd s) 0 want reads.1 heard wants run run_is view view_is is).0.own)

          pub held_fits : read_step view ≡ step.Held → (x n : ℕ) → k.own ≡ Some x → k.given + length (take n (table_of r.exchanges x).held) ≤ 2 ^ 62
          held_fits is x n own = merely_most (k.given + length (take n (table_of r.exchanges x).held)) (2 ^ 62) some (λ s.
              let h = (bound.held_move r (t s) (facts s) s.rows c q reads.0.2 k (rd s) 0 want reads.1 heard wants run run_is view view_is is).0 in
              let same : h.x ≡ x = some_is h.x x (sym h.own ∙ own) in
              subst (λ (y : ℕ). k.given + length (take n (table_of r.exchanges y).held) < 2 ^ 62 + 1) same
              (bound.held_small r (t s) (facts s) s.rows c q reads.0.2 k (rd s) s.numbers (few_received s.received) h n))

          -- what it waits for is open
          pub source_runs : (x : ℕ) → read_step view ≡ step.Waits x → known.is_open x (table_of r.exchanges) ≡ true
          source_runs x is = merely_true (known.is_open x (table_of r.exchanges)) some
              (λ s. (bound.waits_move r (t s) (facts s) s.rows c q reads.0.2 k (rd s) 0 want reads.1 heard wants run run_is view view_is x is).is_open)

          -- a hole is within the length
          pub hole_within : (hole : Span) → read_step view ≡ step.Hole hole → IsSomeAnd (head_at (shelf_of r.entries) q) (IsInLength hole)
          hole_within hole is = merely_in_length (head_at (shelf_of r.entries) q) hole some (λ s.
              let f = bound.hole_move r (t s) (facts s) s.rows c q reads.0.2 k (rd s) 0 want reads.1 heard wants run run_is view view_is hole is in
              (f.head, f.head_is, (f.total, f.known, f.within s.numbers (few_received s.received))))

  -- WHAT IT DOES

  module _ {limits : Limits} (u : Rows B g) (before out : List Act) (now want : ℕ) (wants : 0 < want) (run : Option Run)
      (run_is : IsRunAhead (shelf_of r.entries) q want run k) (heard : WaitsForNoHead (table_of r.exchanges) k)
      (last : u.last_start ≡ r.last_start) (same_keys : u.keys ≡ r.keys) (same_entries : u.entries ≡ r.entries) (t : Tables) (facts : Facts limits t)
      (stands : RowsStand limits r t) where
    abbrev its : IsBoundRow t c q reads.0.2 k
    its = row_of t facts stands

    -- what is stored is given
    pub gives_stored : is_at_end k.hi (k.lo + k.given) ≡ false → (z : Run) → run ≡ Some z → out ≡ before ++ given_acts c z.x z.at z.bytes →
        u.exchanges ≡ r.exchanges → ChangesAt r.consumers u.consumers c (once_given (length z.bytes)) →
        Answered limits (shelf_of r.entries).faults u t before out now (event.Poll c want)
    gives_stored off z read acts exchanges changes =
        let m = bound.stored_move r t facts stands c q reads.0.2 k its now want reads.1 heard wants run run_is off z read in
        let a = m.ahead_of in
        gives.stored_answered r u t facts stands now want c q reads.0.2 k its at before out last same_keys same_entries z a.at a.within
        a.each m.move_is acts exchanges changes

    module _ (view : ReadView) (view_is : ReadViewIs r q c (option_map end_of run) view k) where
      -- what is held is given
      pub gives_held : read_step view ≡ step.Held → (x o n : ℕ) (bytes : List ℕ) → k.own ≡ Some x → o ≡ view.offset → n ≡ most view.hi view.offset want →
          bytes ≡ take n (table_of r.exchanges x).held → out ≡ before ++ given_acts c x o bytes →
          exch.Becomes (known.without_first n) x r.exchanges u.exchanges → ChangesAt r.consumers u.consumers c (once_given (length bytes))
          → Answered limits (shelf_of r.entries).faults u t before out now (event.Poll c want)
      gives_held is x o n bytes own o_is n_is bytes_are acts becomes changes =
          let found = bound.held_move r t facts stands c q reads.0.2 k its now want reads.1 heard wants run run_is view view_is is in
          let h = found.0 in
          let same : x ≡ h.x = some_is x h.x (sym own ∙ h.own) in
          let at_offset : o ≡ k.lo + k.given = o_is ∙ ap (λ (y : ReadView). y.offset) view_is.is in
          let as_many : n ≡ most k.hi (k.lo + k.given) want = n_is ∙ ap (λ (y : ReadView). most y.hi y.offset want) view_is.is in
          let taken : bytes ≡ take (most k.hi (k.lo + k.given) want) (table_of r.exchanges h.x).held = bytes_are ∙
          ap₂ (λ (m y : ℕ). take m (table_of r.exchanges y).held) as_many same in
          let reported : out ≡ before ++ given_acts c h.x (k.lo + k.given) (take (most k.hi (k.lo + k.given) want) (table_of r.exchanges h.x).held) =
          acts ∙ (ap (λ (y : ℕ). before ++ given_acts c y o bytes) same ∙
          (ap (λ (y : ℕ). before ++ given_acts c h.x y bytes) at_offset ∙ ap (λ (ys : List ℕ). before ++ given_acts c h.x (k.lo + k.given) ys) taken)) in
          gives.held_answered r u t facts stands now want c q reads.0.2 k its at before out last same_keys same_entries h (most k.hi (k.lo + k.given) want)
          (subst (λ (y : ℕ). exch.Becomes (known.without_first (most k.hi (k.lo + k.given) want)) y r.exchanges u.exchanges) same
          (subst (λ (m : ℕ). exch.Becomes (known.without_first m) x r.exchanges u.exchanges) as_many becomes))
          found.1.move_is reported (subst (λ (ys : List ℕ). ChangesAt r.consumers u.consumers c (once_given (length ys))) taken changes)

      -- it asks, or waits
      pub asks_for : (x : ℕ) → read_step view ≡ step.Waits x → u.consumers ≡ r.consumers → exch.Becomes known.with_asking x r.exchanges u.exchanges →
          out ≡ before ++ acts_of c (asks_or_waits (asked_in (table_of r.exchanges x).running) x) →
          Answered limits (shelf_of r.entries).faults u t before out now (event.Poll c want)
      asks_for x is consumers becomes acts =
          let m = bound.waits_move r t facts stands c q reads.0.2 k its now want reads.1 heard wants run run_is view view_is x is in
          gives.asks_answered r u t facts stands now want c q reads.0.2 k its at before out last same_keys same_entries x consumers becomes m.move_is acts
