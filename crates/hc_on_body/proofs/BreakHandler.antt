-- An exchange breaks: before its head its consumer is put down, and else whoever reads from it fails.
use Rattle.std.{proofs.Common.{◌≡◌, ◌≢◌, inl, inr, ℕ, [], ◌∷◌, ◌++◌, true, false, Option, Some, None, refl, ap, sym, ◌∙◌, subst}, specs.{Prelude.{nat_eq, option_map, ◌&&◌, ◌==◌, if◌then◌else◌}, HashMap.{get}}}
use mathlib.Core.Path.{fun_ext}
use Rattle.hc_text.proofs.Basics.{eqb-other, eqb-same, same_or, same_some as same_row, some_inj as some_is, and_off as then_false}
use Rattle.hc_effects.proofs.Vocabulary.{Limits, Cause, tables_after_close, over, with_consumer, with_exchange, family, brings_to, Lawful, IsAwaiting, Tables, Exchange, Representation, place, by}
use Rattle.hc_effects.proofs.Tests.{none_some}
use Rattle.hc_store.specs.declared.backend.Backend.{Ghosts}
use Rattle.hc_exch.specs.Exchanges as exch
use Rattle.hc_exch.specs.Known as known
use Rattle.hc_model.specs.Effects as effects
use Rattle.hc_model.specs.Owners as owners
use Rattle.hc_model.specs.Rows as rows
use Rattle.hc_state.specs.{declared.rows.Rows.{Rows}, Changes.{ChangesAt}, Kept.{answer_for, answer_at}, Leaving.{LeavesPlace}, Stands.{RowsStand}, Stopped.{NobodyAwaits, Waited}}
use Rattle.hc_txn.specs.{declared.transaction.Transaction.{Transaction as Consumer}, Transactions.{put_down}}
use Rattle.hc_state.proofs.{Closing.{stands_unstored}, Dropping.{stands_down, moved_to}}

-- the rows once it is closed, told in two ways
abbrev mapped_over : Tables → ℕ → ℕ → Option Exchange
mapped_over t x y = if x == y then option_map over (t.exchange y) else t.exchange y

abbrev reported_over : Tables → ℕ → Exchange → ℕ → Option Exchange
reported_over t x w y = if x == y then Some (over w) else t.exchange y

over_rows : (t : Tables) (x : ℕ) (w : Exchange) → t.exchange x ≡ Some w → mapped_over t x ≡ reported_over t x w
over_rows t x w row = fun_ext (λ y. elim (same_or x y) [
  | inl e ↦
      let on : nat_eq x y ≡ true = ap (nat_eq x) (sym e) ∙ eqb-same x in
      let here : t.exchange y ≡ Some w = sym (ap t.exchange e) ∙ row in
      rw (on, here) refl
  | inr ne ↦ rw (eqb-other x y ne) refl
])

pub closed_is : (t : Tables) (x : ℕ) (w : Exchange) → t.exchange x ≡ Some w → tables_after_close x t ≡ with_exchange x (Some (over w)) t
closed_is t x w row = ap (λ (f : ℕ → Option Exchange). record t { exchange = f }) (over_rows t x w row)

-- BEFORE ITS HEAD

module _ (t : Tables) (law : Lawful t) (x c : ℕ) (w : Exchange) (k : rows.Consumer) (waits : Waited t x c w k) (why : Cause) where
  abbrev s : Tables
  s = with_consumer c (Some (moved_to (place.Down why) k)) t

  -- it has no head to be shown
  unanswered : answer_for t k ≡ None
  unanswered = ap (λ b. if b then None else answer_at t k.place) waits.unshown ∙ by_place (subst (λ (z : rows.Consumer). IsAwaiting x w z.place) same awaits.at)
    where
      awaits : Rattle.hc_model.specs.Owners.Awaits t x w
      awaits = law.owned.waiting x w waits.row waits.is_open waits.bare

      same : awaits.k ≡ k
      same = same_row (t.consumer w.c) awaits.k k awaits.row (ap t.consumer waits.for_it ∙ waits.consumer)

      by_place : IsAwaiting x w k.place → answer_at t k.place ≡ None
      by_place (owners.direct way at) = ap (answer_at t) at ∙ (ap Rattle.hc_state.specs.Kept.head_in waits.row ∙ waits.bare)
      by_place (owners.turn way at) = ap (answer_at t) at
      by_place (owners.hole r lo hi how way aim at) = ap (answer_at t) at

  unawaited : NobodyAwaits s x
  unawaited d r lo hi u is at = elim (same_or c d) [
    | inl e ↦
        let here : s.consumer c ≡ Some (moved_to (place.Down why) k) = rw (eqb-same c) refl in
        let mine : u ≡ moved_to (place.Down why) k = some_is u (moved_to (place.Down why) k) (sym is ∙ (sym (ap s.consumer e) ∙ here)) in
        absurd (down_not_bound (sym (ap (λ (z : rows.Consumer). z.place) mine) ∙ at))
    | inr ne ↦
        let first = law.owned.first_own d r lo x hi u (sym (rw (eqb-other c d ne) refl) ∙ is) at in
        let same_w : first.w ≡ w = same_row (t.exchange x) first.w w first.row waits.row in
        absurd (ne (sym waits.for_it ∙ (ap (λ (z : Exchange). z.c) (sym same_w) ∙ first.for_it)))
  ]
    where
      down_not_bound : place.Down why ≡ place.Bound r lo hi (by.FirstHole x) → ⊥
      down_not_bound h = cc

  -- it founded nothing
  apart : (q : ℕ) (p : Representation) → t.representation q ≡ Some p → p.is_gone ≡ false → brings_to q x (t.exchange x) ≡ false
  apart q p there stays = ap (brings_to q x) waits.row ∙ elim (same_or (family x w) q) [
    | inl e ↦
        let joined = (law.sound.waits.headless x w waits.row waits.bare).1 in
        let own : family x w ≡ x = rw joined refl in
        let none : t.representation q ≡ None = ap t.representation (sym e ∙ own) ∙ law.sound.numbered.names.unfounded x w waits.row waits.bare in
        none_some p (sym none ∙ there)
    | inr ne ↦ then_false w.is_open (nat_eq (family x w) q) (eqb-other (family x w) q ne)
  ]

  pub stands_broken : {B : Type 0} {g : Ghosts B} {limits : Limits} (r mid down u : Rows B g) (q : Consumer) → RowsStand limits r t →
      get nat_eq r.consumers c ≡ Some q → LeavesPlace r mid c q
      → down.last_start ≡ mid.last_start → down.exchanges ≡ mid.exchanges → down.keys ≡ mid.keys → down.entries ≡ mid.entries →
      ChangesAt mid.consumers down.consumers c (put_down why)
      → u.last_start ≡ down.last_start → u.consumers ≡ down.consumers → u.keys ≡ down.keys → u.entries ≡ down.entries →
      exch.Becomes known.without_exchange x down.exchanges u.exchanges
      → RowsStand limits u (with_consumer c (Some (effects.put_down why k)) (with_exchange x (Some (over w)) t))
  stands_broken {limits = limits} r mid down u q stands at left last exchanges keys entries changes last_u consumers_u keys_u entries_u closes =
      subst (RowsStand limits u) (closed_is s x w waits.row)
      (stands_unstored down u s x now unawaited apart last_u consumers_u keys_u entries_u closes)
    where
      now : RowsStand limits down s
      now = stands_down r down t law c q k waits.consumer at stands (last ∙ left.last_start)
          (subst (λ z. Rattle.hc_state.specs.Leaving.LeavesKey c q.request.key r.keys z) (sym keys) left.line)
          (subst (λ z. Rattle.hc_state.specs.Leaving.Forgets q.own r.exchanges z) (sym exchanges) left.forgets)
          (subst (λ z. Rattle.hc_state.specs.Leaving.UnbindsAt q.place c (Rattle.hc_stored.specs.Entries.shelf_of r.entries)
          (Rattle.hc_stored.specs.Entries.shelf_of z)) (sym entries) left.unbinds)
          why unanswered (subst (λ z. ChangesAt z down.consumers c (put_down why)) left.consumers changes)
