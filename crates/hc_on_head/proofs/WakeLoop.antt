-- The loop of a doom over the seats of its key: who started over so far, and is bound to nothing.
--
-- `IsWokenBelow` says that those with a seat below i stand in line, that nobody else changed, and that the entries
-- represent these consumers. A step is by the seat: nobody has it (`no_seat`), or a consumer that waits and didn't
-- change yet (`one_back`). Where it is bound, its entry has it as bound, and it leaves that by `Unbinding`, which has
-- the work. At the end everyone who waits has a seat (`all_over`, `entries_then`). The loop of `wake` uses this.
use Rattle.std.{proofs.{lemmas.Bool.Decides.{nat_tests}, Common.{◌≡◌, ◌≢◌, inl, inr, ℕ, ◌+◌, ◌<◌, ◌≤◌, List, Bool, true, false, Option, Some, None, refl, ap, sym, ◌∙◌, subst, arith}}, specs.{Prelude.{is_some, nat_eq, option_map}, HashMap.{get}}}
use Rattle.hc_text.proofs.Basics.{eqb-other, eqb-same, false_true, mapped, same_or, same_some as same_row, some_inj as some_is}
use Rattle.hc_store.specs.declared.backend.Backend.{Ghosts}
use Rattle.hc_stored.specs.{Entries.{shelf_of}, Shelf.{Shelf}}
use Rattle.hc_entry.specs.{declared.keys.KeyTable.{KeyTable}, Keys.{kept_of, line_of, seated_at, AllAreSeatedBelow, IsItsSeat}, Kept.{on_line}, Lines.{is_in, all_back}}
use Rattle.hc_entry.specs.Keys as keys
use Rattle.hc_effects.proofs.Vocabulary.{place, back_in_line, is_live, with_consumer, woken, Lawful, is_bound, Tables, Among}
use Rattle.hc_effects.proofs.Tests.{none_some}
use Rattle.hc_model.specs.Rows as rows
use Rattle.hc_model.specs.Sound as sound
use Rattle.hc_state.specs.{declared.rows.Rows.{Rows}, Changes.{ChangesAt, ChangesAmong}, Dooms.{KeepsLine, KeepsSomeLine, IsUser, Unbinds}, Kept.{KeepsConsumer}, Leaving.{IsUserAt, UnbindsAt}, Lines.{KeepsKey}, Stored.{KeepsEntries, is_first}}
use Rattle.hc_txn.specs.{declared.transaction.Transaction.{Transaction as Consumer}, Transactions.{once_over}}
use Rattle.hc_state.proofs.{Dropping.{merely_user, unbinds_limits}, OneOfEach.{entries_same}, Ties.{kept_row}, Unbinding.{entries_unbound, user_kept}}
use Rattle.hc_on_leave.proofs.SeatLoops.{AreChangedBelow, none_changed, nobody_more, one_more, all_changed, last_or}
use Rattle.hc_on_head.proofs.Woken.{stands_for, Stood, nobody, back, beside, stays, stood, Waits, waits_of, starts_over, stays_so, waiting_lives}

-- with these consumers
abbrev pub of_consumers : (ℕ → Option rows.Consumer) → Tables → Tables
of_consumers f t = record t { consumer = f }

-- Those with a seat below i stand in line, nobody else changed, and so what is kept of representations.
pub record IsWokenBelow (i : ℕ) (kept : KeyTable) (key : List ℕ) (now : ℕ) (t : Tables) (s : Shelf) : Type 0 where
  pub f : ℕ → Option rows.Consumer
  pub changed : (j d : ℕ) → j < i → seated_at kept key j ≡ Some d → f d ≡ option_map (back_in_line now) (t.consumer d)
  pub rest : (d : ℕ) → ((j : ℕ) → j < i → seated_at kept key j ≡ Some d → ⊥) → f d ≡ t.consumer d
  pub there : (d : ℕ) → is_some (f d) ≡ is_some (t.consumer d)
  pub entries : KeepsEntries (of_consumers f t) s

module _ (kept : KeyTable) (key : List ℕ) (now : ℕ) (t : Tables) where
  pub none_woken : (s : Shelf) → KeepsEntries t s → IsWokenBelow 0 kept key now t s
  none_woken s entries = record {
    f = t.consumer;
    changed = λ j d lt is. absurd (omega (arith, lt));
    rest = λ d none. refl;
    there = λ d. refl;
    entries =
        entries;
  }

  pub none_more : (i : ℕ) (s : Shelf) → IsWokenBelow i kept key now t s → seated_at kept key i ≡ None → IsWokenBelow (i + 1) kept key now t s
  none_more i s was none = record {
    f = was.f;
    changed = λ j d lt is. elim (last_or j i lt)
        [ inl same ↦ none_some d (sym none ∙ (ap (seated_at kept key) (sym same) ∙ is)) | inr below ↦ was.changed j d below is ];
    rest = λ d unseated. was.rest d (λ j lt is. unseated j (omega (arith, lt)) is);
    there = was.there;
    entries = was.entries;
  }

  module _ (law : Lawful t) (line : KeepsKey t key (kept_of kept key)) where
    stands_is : (d : ℕ) → is_in d (line_of kept key) ≡ stands_for t key (t.consumer d)
    stands_is d = rw (line.in_line d, line.passed d, line.away d) refl

    pub waits : (d : ℕ) → is_in d (line_of kept key) ≡ true → Waits t key (t.consumer d)
    waits d on = waits_of t key (t.consumer d) (stood t key law d) (sym (stands_is d) ∙ on)

    module _ (i c : ℕ) (s : Shelf) (was : IsWokenBelow i kept key now t s) (seat : seated_at kept key i ≡ Some c)
        (inside : is_in c (line_of kept key) ≡ true) (its : IsItsSeat kept key i c) where
      abbrev u : Tables
      u = of_consumers was.f t

      w : Waits t key (t.consumer c)
      w = waits c inside

      untouched : was.f c ≡ t.consumer c
      untouched = was.rest c (λ j lt is. (let same = its j is in absurd (omega (arith, lt, same))))

      row : was.f c ≡ Some w.k
      row = untouched ∙ w.row

      started : (d : ℕ) → is_some (was.f d) ≡ true → Among d t.starts
      started d some = law.sound.numbered.lists.started d (sym (was.there d) ∙ some)

      -- where it is bound, it is kept that it is
      pub is_user : (o : Option Consumer) → KeepsConsumer t o (t.consumer c) → IsUser o c s
      is_user None each = tt
      is_user (Some k) each =
          let found = kept_row t k (t.consumer c) each in
          let one : found.0 ≡ w.k = same_row (t.consumer c) found.0 w.k found.1 w.row in
          subst (λ p. IsUserAt p c s) (sym (found.2.place ∙ ap (λ (z : rows.Consumer). z.place) one))
          (user_kept u started c w.k row (λ q lo hi how at. law.sound.numbered.bound_to q c w.k (sound.is_bound lo hi how w.row at)) s was.entries)

      module _ (o : Option Consumer) (each : KeepsConsumer t o (t.consumer c)) (s_after : Shelf) (unbinds : Unbinds o c s s_after) where
        abbrev then : Tables
        then = with_consumer c (Some (back_in_line now w.k)) u

        by_kept : (o : Option Consumer) → KeepsConsumer t o (t.consumer c) → Unbinds o c s s_after → KeepsEntries then s_after
        by_kept None gone same = false_true (sym gone ∙ (ap is_live w.row ∙ waiting_lives t key w.k.place w.waits))
        by_kept (Some k) kept_it unbound =
            let found = kept_row t k (t.consumer c) kept_it in
            let one : found.0 ≡ w.k = same_row (t.consumer c) found.0 w.k found.1 w.row in
            let same : k.place ≡ w.k.place = found.2.place ∙ ap (λ (z : rows.Consumer). z.place) one in
            entries_unbound u started c w.k (back_in_line now w.k) row (λ q. refl) s s_after was.entries (subst (λ p. UnbindsAt p c s s_after) same unbound)

        here : then.consumer c ≡ option_map (back_in_line now) (t.consumer c)
        here = rw (eqb-same c) (sym (ap (option_map (back_in_line now)) w.row))

        elsewhere : (d : ℕ) → c ≢ d → then.consumer d ≡ was.f d
        elsewhere d ne = rw (eqb-other c d ne) refl

        one_at : (j d : ℕ) → j ≡ i → seated_at kept key j ≡ Some d → c ≡ d
        one_at j d same is = some_is c d (sym seat ∙ (ap (seated_at kept key) (sym same) ∙ is))

        there_then : (d : ℕ) → is_some (then.consumer d) ≡ is_some (t.consumer d)
        there_then d = elim (same_or c d) [
          | inl same ↦ subst (λ n. is_some (then.consumer n) ≡ is_some (t.consumer n)) same
              (ap (λ z. is_some z) here ∙ mapped (back_in_line now) (t.consumer c))
          | inr ne ↦ ap (λ z. is_some z) (elsewhere d ne) ∙ was.there d
        ]

        pub one_woken : IsWokenBelow (i + 1) kept key now t s_after
        one_woken = record {
          f = then.consumer;
          changed = λ j d lt is. elim (last_or j i lt) [
            | inl same ↦ subst (λ n. then.consumer n ≡ option_map (back_in_line now) (t.consumer n)) (one_at j d same is) here
            | inr below ↦ elsewhere d (λ one. (let same = its j (is ∙ ap Some (sym one)) in absurd (omega (arith, below, same)))) ∙ was.changed j d below is
          ];
          rest = λ d unseated. elsewhere d (λ one. unseated i (omega arith) (seat ∙ ap Some one)) ∙ was.rest d (λ j lt is. unseated j (omega (arith, lt)) is);
          there = there_then;
          entries = by_kept o each unbinds;
        }

    -- AT THE END

    module _ (end i : ℕ) (s : Shelf) (seats : AllAreSeatedBelow end kept key) (le : end ≤ i) (was : IsWokenBelow i kept key now t s)
        (inside : (j d : ℕ) → j < i → seated_at kept key j ≡ Some d → is_in d (line_of kept key) ≡ true) where
      abbrev v : Tables
      v = woken now key t

      out : (d : ℕ) → stands_for t key (t.consumer d) ≡ false → was.f d ≡ t.consumer d
      out d off = was.rest d (λ j lt is. false_true (sym (stands_is d ∙ off) ∙ inside j d lt is))

      into : (d : ℕ) → stands_for t key (t.consumer d) ≡ true → was.f d ≡ option_map (back_in_line now) (t.consumer d)
      into d on = let (j, lt, there) = seats d (stands_is d ∙ on) in was.changed j d (omega (arith, lt, le)) there

      -- who is bound, and is the only one, is told alike
      alike : (P : Option rows.Consumer → Bool) → ((k : rows.Consumer) → k.place ≡ place.Line → P (Some k) ≡ false) → (d : ℕ) → P (v.consumer d) ≡ P (was.f d)
      alike P free d = by_stood (stood t key law d)
        where
          by_stood : Stood t key (t.consumer d) → P (v.consumer d) ≡ P (was.f d)
          by_stood (nobody none) = ap P (rw none refl) ∙ sym (ap P (out d (ap (stands_for t key) none) ∙ none))
          by_stood (back k is same waiting stands) = ap P (starts_over t key now (t.consumer d) k is same waiting) ∙
              sym (ap P (into d stands ∙ ap (option_map (back_in_line now)) is))
          by_stood (beside k is same at stands) =
              ap P (starts_over t key now (t.consumer d) k is same (rw at refl)) ∙ (free (back_in_line now k) refl ∙ sym (ap P (out d stands ∙ is) ∙ free k at))
          by_stood (stays k is off stands) = ap P (stays_so t key now (t.consumer d) k is off) ∙ sym (ap P (out d stands))

      pub all_woken : KeepsEntries v s
      all_woken =
          entries_same (of_consumers was.f t) v s (λ q. refl) refl refl
          (λ q d. alike (is_bound q) (λ k at. rw at refl) d)
          (λ q d. alike (is_first (of_consumers was.f t) q) (λ k at. rw at refl) d)
          (λ q. refl) (λ y on. on) was.entries

-- WHAT CHANGED SO FAR

pub record WokenSoFar {B : Type 0} {g : Ghosts B} (r u : Rows B g) (i now : ℕ) (key : List ℕ) : Type 0 where
  pub over : AreChangedBelow i r.keys key (once_over now) r.consumers u.consumers
  pub entries : (t : Tables) → Lawful t → KeepsLine r t key → IsWokenBelow i r.keys key now t (shelf_of u.entries)
  pub bounded : (shelf_of u.entries).limits ≡ (shelf_of r.entries).limits
  pub faults : (shelf_of u.entries).faults ≡ (shelf_of r.entries).faults
  pub keys : u.keys ≡ r.keys
  pub last_start : u.last_start ≡ r.last_start
  pub exchanges : u.exchanges ≡ r.exchanges

pub begins : {B : Type 0} {g : Ghosts B} (r : Rows B g) (now : ℕ) (key : List ℕ) → WokenSoFar r r 0 now key
begins r now key = record {
  over = none_changed r.keys key (once_over now) r.consumers;
  entries = λ t law keeps. none_woken r.keys key now t (shelf_of r.entries) keeps.entries;
  bounded = refl;
  faults = refl;
  keys = refl;
  last_start = refl;
  exchanges = refl;
}

unbound_limits : (o : Option Consumer) (c : ℕ) (a b : Shelf) → Unbinds o c a b → b.limits ≡ a.limits
unbound_limits o c a b same = grind (arith, nat_tests)

module _ {B : Type 0} {g : Ghosts B} (r mid : Rows B g) (i now : ℕ) (key : List ℕ) (so_far : WokenSoFar r mid i now key) where
  pub no_seat : seated_at mid.keys key i ≡ None → WokenSoFar r mid (i + 1) now key
  no_seat none =
      let here : seated_at r.keys key i ≡ None = subst (λ (k : KeyTable). seated_at k key i ≡ None) so_far.keys none in
      record {
        over = nobody_more r.keys key (once_over now) r.consumers i mid.consumers so_far.over here;
        entries = λ t law keeps. none_more r.keys key now t i (shelf_of mid.entries) (so_far.entries t law keeps) here;
        bounded = so_far.bounded;
        faults = so_far.faults;
        keys = so_far.keys;
        last_start = so_far.last_start;
        exchanges = so_far.exchanges;
      }

  module _ (c : ℕ) (there : seated_at mid.keys key i ≡ Some c) (inside : is_in c (line_of mid.keys key) ≡ true) (its : IsItsSeat mid.keys key i c) where
    seat : seated_at r.keys key i ≡ Some c
    seat = subst (λ (k : KeyTable). seated_at k key i ≡ Some c) so_far.keys there

    in_line : is_in c (line_of r.keys key) ≡ true
    in_line = subst (λ (k : KeyTable). is_in c (line_of k key) ≡ true) so_far.keys inside

    alone : IsItsSeat r.keys key i c
    alone = subst (λ (k : KeyTable). IsItsSeat k key i c) so_far.keys its

    -- it didn't change yet
    as_was : get nat_eq mid.consumers c ≡ get nat_eq r.consumers c
    as_was = so_far.over.rest c (λ j lt is. (let same = alone j is in absurd (omega (arith, lt, same))))

    kept_yet : (t : Tables) → KeepsLine r t key → KeepsConsumer t (get nat_eq mid.consumers c) (t.consumer c)
    kept_yet t keeps = subst (λ o. KeepsConsumer t o (t.consumer c)) (sym as_was) (keeps.consumers c)

    user_by : (s : KeepsSomeLine r key) → IsUser (get nat_eq mid.consumers c) c (shelf_of mid.entries)
    user_by s = is_user r.keys key now s.t s.law s.keeps.line i c (shelf_of mid.entries) (so_far.entries s.t s.law s.keeps) seat in_line alone
        (get nat_eq mid.consumers c) (kept_yet s.t s.keeps)

    by_some : (o : Option Consumer) → ∥ KeepsSomeLine r key ∥₁ → (KeepsSomeLine r key → IsUser o c (shelf_of mid.entries)) → IsUser o c (shelf_of mid.entries)
    by_some None some h = tt
    by_some (Some k) some h = merely_user k.place c (shelf_of mid.entries) some h

    pub user : ∥ KeepsSomeLine r key ∥₁ → IsUser (get nat_eq mid.consumers c) c (shelf_of mid.entries)
    user some = by_some (get nat_eq mid.consumers c) some user_by

    module _ (u : Rows B g) (over : ChangesAt mid.consumers u.consumers c (once_over now))
        (unbound : Unbinds (get nat_eq mid.consumers c) c (shelf_of mid.entries) (shelf_of u.entries))
        (faults : (shelf_of u.entries).faults ≡ (shelf_of mid.entries).faults)
        (keys : u.keys ≡ mid.keys) (last : u.last_start ≡ mid.last_start) (exchanges : u.exchanges ≡ mid.exchanges) where
      pub one_back : WokenSoFar r u (i + 1) now key
      one_back = record {
        over = one_more r.keys key (once_over now) r.consumers i c mid.consumers u.consumers so_far.over seat in_line alone over;
        entries = λ t law keeps. one_woken r.keys key now t law keeps.line i c (shelf_of mid.entries) (so_far.entries t law keeps) seat in_line alone
            (get nat_eq mid.consumers c) (kept_yet t keeps) (shelf_of u.entries) unbound;
        bounded = unbound_limits (get nat_eq mid.consumers c) c (shelf_of mid.entries) (shelf_of u.entries) unbound ∙ so_far.bounded;
        faults = faults ∙ so_far.faults;
        keys = keys ∙ so_far.keys;
        last_start = last ∙ so_far.last_start;
        exchanges = exchanges ∙ so_far.exchanges;
      }

  module _ (end : ℕ) (seats : AllAreSeatedBelow end r.keys key) (le : end ≤ i) where
    pub all_over : ChangesAmong r.consumers mid.consumers (λ c. is_in c (line_of r.keys key)) (once_over now)
    all_over = all_changed r.keys key (once_over now) r.consumers end i mid.consumers seats le so_far.over

    pub entries_then : (t : Tables) → Lawful t → KeepsLine r t key → KeepsEntries (woken now key t) (shelf_of mid.entries)
    entries_then t law keeps = all_woken r.keys key now t law keeps.line end i (shelf_of mid.entries) seats le (so_far.entries t law keeps) so_far.over.inside

    pub all_lined : (new : KeyTable) → keys.Becomes (on_line all_back) key mid.keys new → keys.Becomes (on_line all_back) key r.keys new
    all_lined new becomes = subst (λ (k : KeyTable). keys.Becomes (on_line all_back) key k new) so_far.keys becomes
