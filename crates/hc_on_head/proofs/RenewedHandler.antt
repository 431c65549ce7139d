-- The head of a representation is renewed: what is kept represents the tables then.
--
-- An update changes fields and moments of a head, and no length, status or key. So what looks at none of these is told
-- as before (`reported_same`): consumers, what is held, what is current, and other entries. Its own entry has the same
-- fields and moments, since the code updates it by the same rule from the same opening (`entry_renewed`).
-- `stands_renewed` joins these; `TurnHandler` uses it for a 304 that selects.
use Rattle.std.{proofs.{Common.{◌≡◌, ◌≢◌, inl, inr, ℕ, List, Option, Some, None, refl, ap, sym, ◌∙◌, subst, arith}, lemmas.Bool.Decides.{nat_tests}}, specs.{Prelude.{is_some, nat_eq, option_map}, HashMap.{get, hash_map_len}}}
use Rattle.hc_text.proofs.Basics.{eqb-other, eqb-same, filters_same, finds_same, same_or}
use Rattle.hc_effects.proofs.Vocabulary.{Limits, Response, current, is_usable, total_in, with_representation, with_refreshed_head, family, kind_of, bound, Tables, Exchange, Representation, status_in}
use Rattle.hc_store.specs.declared.backend.Backend.{Ghosts}
use Rattle.hc_record.specs.Head.{Head}
use Rattle.hc_validate.specs.Updates.{updated_fields}
use Rattle.hc_stored.specs.{Entries.{shelf_of}, Kept.{Kept, with_head}, Shelf.{Shelf, same_order}}
use Rattle.hc_stored.specs.Shelf as shelf
use Rattle.hc_entry.specs.Keys.{kept_of}
use Rattle.hc_exch.specs.Exchanges.{table_of, next_of}
use Rattle.hc_state.specs.{declared.rows.Rows.{Rows}, Kept.{held_alone, held_of, held_for}, Renewals.{KeepsBeside, renewed_head}, Stands.{RowsStand}, Stored.{IsEntry, KnowsLength, reported, unreported, KeepsEntry, KeepsEntries, is_usable_row}}
use Rattle.hc_state.proofs.{Fallbacks.{unstored_moved}, OneOfEach.{first_by}, Ties.{consumer_same, exchange_same, entry_same, key_same}}

module _ (t : Tables) (now : ℕ) (response : Response) (w : Exchange) (r : ℕ) (v : Representation) (row : t.representation r ≡ Some v) where
  abbrev z : Representation
  z = with_refreshed_head now response w v

  abbrev pub s : Tables
  s = with_representation r (Some z) t

  here : s.representation r ≡ Some z
  here = rw (eqb-same r) refl

  others : (q : ℕ) → r ≢ q → s.representation q ≡ t.representation q
  others q ne = rw (eqb-other r q ne) refl

  -- what an update leaves is told as before
  reported_same : {A : Type 0} (f : Option Representation → A) → f (Some z) ≡ f (Some v) → (q : ℕ) → f (s.representation q) ≡ f (t.representation q)
  reported_same f leaves q = grind (arith, nat_tests)

  -- WHAT IS HELD

  alone_moved : (y : ℕ) (e : Exchange) (u : Representation) (o : Option ℕ) → held_alone s y e u o ≡ held_alone t y e u o
  alone_moved y e u o = grind (arith, nat_tests)

  alone_renewed : (y : ℕ) (e : Exchange) (o : Option ℕ) → held_alone t y e z o ≡ held_alone t y e v o
  alone_renewed y e o = grind (arith, nat_tests)

  held_renewed : (y : ℕ) (o : Option Exchange) → held_for s y o ≡ held_for t y o
  held_renewed y o = grind (arith, nat_tests)

  -- KEYS

  current_same : (key : List ℕ) → current s key ≡ current t key
  unfolding current
  current_same key = finds_same (λ q. is_usable key (t.representation q)) (λ q. is_usable key (s.representation q)) (reported_same (is_usable key) refl)
      t.founded

  -- REPRESENTATIONS

  entry_renewed : (e : Kept) → IsEntry t r e v → IsEntry s r (with_head (renewed_head w.opened now response.fields e.head) e) z
  unfolding bound kind_of
  entry_renewed e is =
      let renewed = λ (h : Head). record h {
        requested = w.opened;
        answered = now;
        fields = updated_fields h.fields response.fields;
      } in
      assumption (
        is,
        ap renewed is.head,
        by_length is.length,
        (λ (c : ℕ). is.first c ∙ sym (first_by t s (reported_same status_in refl) r (t.consumer c))),
      )
    where
      by_length : KnowsLength e v → KnowsLength (with_head (renewed_head w.opened now response.fields e.head) e) z
      by_length (reported same) = reported same
      by_length (unreported u) =
          unreported (record { gone = u.gone; unreported = u.unreported; total = u.total; known = u.known; came = u.came; first = u.first })

  entries_renewed : (a b : Shelf) (e : Kept) → a.kept r ≡ Some e → KeepsEntries t a →
      shelf.Becomes (option_map (with_head (renewed_head w.opened now response.fields e.head))) same_order r a b → KeepsEntries s b
  unfolding bound kind_of
  entries_renewed a b e at kept becomes = record {
    each = λ q. elim (same_or r q) [
      | inl same_q ↦ subst (λ n. KeepsEntry s n (b.kept n) (s.representation n)) same_q its
      | inr ne ↦ rw (becomes.kept q, eqb-other r q ne)
          (entry_same t s q (a.kept q) (t.representation q) refl
          (record {
            users = λ d. refl;
            first = λ d. first_by t s (reported_same status_in refl) q (t.consumer d);
            list = refl;
            kind = λ p there. refl;
            overs =
                λ y on. on;
          }) (kept.each q))
    ];
    order = becomes.order ∙ (kept.order ∙
        sym (filters_same (λ q. is_usable_row (t.representation q)) (λ q. is_usable_row (s.representation q)) (reported_same is_usable_row refl) t.used));
  }
    where
      its : KeepsEntry s r (b.kept r) (s.representation r)
      its =
          let is : IsEntry t r e v = subst (λ k. KeepsEntry t r k (Some v)) at (subst (KeepsEntry t r (a.kept r)) row (kept.each r)) in
          let after : b.kept r ≡ Some (with_head (renewed_head w.opened now response.fields e.head) e) = becomes.kept r ∙ rw (eqb-same r, at) refl in
          subst (λ k. KeepsEntry s r k (s.representation r)) (sym after)
          (subst (KeepsEntry s r (Some (with_head (renewed_head w.opened now response.fields e.head) e))) (sym here) (entry_renewed e is))

-- ALL OF IT

pub stands_renewed : {B : Type 0} {g : Ghosts B} {limits : Limits} (r u : Rows B g) (t : Tables) (now : ℕ) (response : Response) (w : Exchange) (q : ℕ)
    (v : Representation) (e : Kept) → t.representation q ≡ Some v → RowsStand limits r t → KeepsBeside r u → (shelf_of r.entries).kept q ≡ Some e
    → shelf.Becomes (option_map (with_head (renewed_head w.opened now response.fields e.head))) same_order q (shelf_of r.entries) (shelf_of u.entries) →
    RowsStand limits u (with_representation q (Some (with_refreshed_head now response w v)) t)
stands_renewed r u t now response w q v e row stands rest at becomes =
    let m : Tables = with_representation q (Some (with_refreshed_head now response w v)) t in
    let consumers = rest.consumers in
    let exchanges = rest.exchanges in
    let same_keys = rest.keys in
    record {
      limits = becomes.limits ∙ stands.limits;
      last_start = rest.last_start ∙ stands.last_start;
      next = ap (λ z. next_of z) exchanges ∙ stands.next;
      count = ap (λ z. hash_map_len z) consumers ∙ stands.count;
      consumers = λ d. rw consumers
          (consumer_same t m (get nat_eq r.consumers d) (t.consumer d)
          (λ k is. record { past = λ x stood. refl; length = λ n lo hi how stood. reported_same t now response w q v row total_in refl n }) (stands.consumers d));
      exchanges = λ y. rw exchanges
          (exchange_same t m y (table_of r.exchanges y)
          (record {
            row = refl;
            brings = λ e is. reported_same t now response w q v row (λ o. is_some o) refl (family y e);
            held =
                held_renewed t now response w q v row y (t.exchange y);
          }) (stands.exchanges y));
      keys = λ key. rw same_keys
          (key_same t m key (kept_of r.keys key)
          (record { current = current_same t now response w q v row key; in_line = λ d. refl; passed = λ d. refl; away = λ d. refl; turn = λ d. refl })
          (stands.keys key));
      entries = entries_renewed t now response w q v row (shelf_of r.entries) (shelf_of u.entries) e at stands.entries becomes;
    }
