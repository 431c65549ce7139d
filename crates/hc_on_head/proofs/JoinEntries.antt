-- The head of an exchange came that brings bytes of a hole: what is kept of representations represents the tables then.
--
-- What other exchanges bring stays, and so do users, so every other entry is kept as it was (`others_then`). The one
-- that is joined has the work. Where it isn't gone, its head is renewed, and more comes of it, since the exchange goes
-- on. So its kind is that of what grows (`entry_growing`). Where it is gone, its entry tells as before (`entry_gone`).
-- `entries_joined` is for all of them; `JoinHandler` uses these for `JoinRows`.
use Rattle.std.{proofs.{lemmas.Bool.Decides.{nat_tests}, Common.{arith, ◌≡◌, ◌≢◌, inl, inr, ℕ, true, false, Option, Some, refl, ap, sym, ◌∙◌, subst, []}}, specs.Prelude.{nat_eq}}
use Rattle.hc_text.proofs.Basics.{eqb-other, eqb-same, false_true, filters_same, same_or, and_off as then_false}
use Rattle.hc_effects.proofs.Vocabulary.{Response, is_number, promise_in, family, is_reached, brings_to, is_growing, kind_of, bound, is_bound, Tables, Exchange, Representation, status_in}
use Rattle.hc_effects.proofs.Tests.{none_some}
use Rattle.hc_record.specs.{Head.{Head, sealed_head}, declared.kind.Kind.TheVariants.{the_data as kinds}}
use Rattle.hc_stored.specs.{Kept.{Kept}, Shelf.{Shelf}}
use Rattle.hc_model.specs.Rows as rows
use Rattle.hc_state.specs.Stored.{IsEntry, KnowsLength, reported, unreported, KeepsEntry, KeepsEntries, is_first, is_usable_row, KnowsWriter}
use Rattle.hc_on_head.proofs.JoinRows.{IsJoinable, s, z, reported_consumer, reported_representation, exchange_here, exchange_other, representation_here, representation_other}
use Rattle.hc_state.proofs.{OneOfEach.{bound_same, first_by, growing_same, kind_same}, Ties.{entry_same, OversStay, overs_open, writer_then}}
use Rattle.hc_on_leave.proofs.FoundRows.{any_some}
use Rattle.hc_sparse.specs.Cells.{Covers}

module _ (t : Tables) (now x q : ℕ) (response : Response) (w : Exchange) (v : rows.Consumer) (p : Representation) (j : IsJoinable t x q w v p) (h : Head)
    (total : h.total ≡ p.head.total) (status : h.status ≡ p.head.status) (wr : Option ℕ) (own : Option ℕ)
    (apart : (y : ℕ) → x ≢ y → is_number own y ≡ false) where
  abbrev m : Tables
  m = s t now x q response w v p j h total wr own apart

  abbrev now_row : Representation
  now_row = z t now x q response w v p j h total wr own apart

  overs : OversStay t.exchange m.exchange
  overs = overs_open t.exchange m.exchange x w j.row j.is_open (exchange_other t now x q response w v p j h total wr own apart)

  users : (n d : ℕ) → is_bound n (m.consumer d) ≡ is_bound n (t.consumer d)
  users n = reported_consumer t now x q response w v p j h total wr own apart (is_bound n) refl

  firsts : (n d : ℕ) → is_first m n (m.consumer d) ≡ is_first t n (t.consumer d)
  firsts n d = grind (arith, nat_tests)

  lists : (n : ℕ) → bound m n ≡ bound t n
  lists n = bound_same t m n refl (users n)

  -- what another one brings stays
  brings_else : (n y : ℕ) (o : Representation) → q ≢ n → t.representation n ≡ Some o → brings_to n y (m.exchange y) ≡ brings_to n y (t.exchange y)
  brings_else n y o ne there = grind (arith, nat_tests)

  others_then : (shelf : Shelf) (n : ℕ) → q ≢ n → KeepsEntry t n (shelf.kept n) (t.representation n) → KeepsEntry m n (shelf.kept n) (m.representation n)
  others_then shelf n ne kept =
      subst (KeepsEntry m n (shelf.kept n)) (sym (representation_other t now x q response w v p j h total wr own apart n ne))
      (entry_same t m n (shelf.kept n) (t.representation n) refl
      (record {
        users = users n;
        first = firsts n;
        list = lists n;
        kind =
            λ o there. kind_same t m n o (growing_same t m n refl (λ y. brings_else n y o ne there));
        overs = overs;
      }) kept)

  -- more comes of it
  growing_now : is_reached (promise_in w response) 0 ≡ false → kind_of m q now_row ≡ kinds.Growing
  unfolding kind_of
  growing_now on =
      let here : brings_to q x (m.exchange x) ≡ true = ap (brings_to q x) (exchange_here t now x q response w v p j h total wr own apart) ∙
      (let opened = j.is_open in rw (on, opened) (eqb-same q)) in
      let grows : is_growing m q ≡ true = any_some (λ y. brings_to q y (m.exchange y)) x t.openings j.listed here in
      rw grows refl

  -- where its head tells that
  pub entry_growing : (e : Kept) (k : Head) (writer : Option ℕ) → IsEntry t q e p → is_reached (promise_in w response) 0 ≡ false →
      sealed_head kinds.Growing h.total k ≡ h → k.total ≡ e.head.total → k.kind ≡ kinds.Growing → KnowsWriter t.exchange writer wr →
      IsEntry m q (record e { head = k; writer = writer }) now_row
  unfolding bound
  entry_growing e k writer is on sealed reported_as kind_is by =
      let whole : (n : ℕ) → k.kind ≡ kinds.Whole → k.total ≡ Some n → Covers p.stored 0 n = λ n whole known. cc in
      assumption (
        is,
        sealed,
        by_length is.length,
        whole,
        writer_then overs by,
        (λ (gone : p.is_gone ≡ true) (none : bound m q ≡ []). is.used gone (sym (lists q) ∙ none)),
        (λ (stays : p.is_gone ≡ false). kind_is ∙ sym (growing_now on)),
        (λ (d : ℕ). is.bound d ∙ sym (users q d)),
        (λ (d : ℕ). is.first d ∙ sym (firsts q d)),
      )
    where
      by_length : KnowsLength e p → KnowsLength (record e { head = k; writer = writer }) now_row
      by_length (reported same) = reported (reported_as ∙ (same ∙ sym total))
      by_length (unreported u) =
          unreported (record {
            gone = u.gone;
            unreported = reported_as ∙ u.unreported;
            total = u.total;
            known = total ∙ u.known;
            came = u.came;
            first =
                u.first;
          })

  -- what is gone tells as before
  pub entry_gone : (e : Kept) → IsEntry t q e p → p.is_gone ≡ true → h ≡ p.head → wr ≡ p.writer → IsEntry m q e now_row
  unfolding bound
  entry_gone e is gone same by =
      let kind : p.is_gone ≡ false → e.head.kind ≡ kind_of m q now_row = λ stays. false_true (sym stays ∙ gone) in
      assumption (
        is,
        ap (λ (n : Head). sealed_head kinds.Growing n.total e.head) same ∙ (is.head ∙ sym same),
        by_length is.length,
        kind,
        writer_then overs (subst (KnowsWriter t.exchange e.writer) (sym by) is.writer),
        (λ (gone : p.is_gone ≡ true) (none : bound m q ≡ []). is.used gone (sym (lists q) ∙ none)),
        (λ (d : ℕ). is.bound d ∙ sym (users q d)),
        (λ (d : ℕ). is.first d ∙ sym (firsts q d)),
      )
    where
      by_length : KnowsLength e p → KnowsLength e now_row
      by_length (reported known) = reported (known ∙ sym total)
      by_length (unreported u) =
          unreported (record { gone = u.gone; unreported = u.unreported; total = u.total; known = total ∙ u.known; came = u.came; first = u.first })

  -- all of them
  pub entries_joined : (a b : Shelf) (e : Kept) → KeepsEntries t a → b.order ≡ a.order → ((n : ℕ) → q ≢ n → b.kept n ≡ a.kept n) → b.kept q ≡ Some e →
      IsEntry m q e now_row → KeepsEntries m b
  entries_joined a b e kept order others at is = record {
    each = λ n. elim (same_or q n) [
      | inl same ↦ subst (λ (k : ℕ). KeepsEntry m k (b.kept k) (m.representation k)) same
          (subst (λ (o : Option Kept). KeepsEntry m q o (m.representation q)) (sym at)
          (subst (KeepsEntry m q (Some e)) (sym (representation_here t now x q response w v p j h total wr own apart)) is))
      | inr ne ↦ subst (λ (o : Option Kept). KeepsEntry m n o (m.representation n)) (sym (others n ne)) (others_then a n ne (kept.each n))
    ];
    order = order ∙ (kept.order ∙
        sym (filters_same (λ n. is_usable_row (t.representation n)) (λ n. is_usable_row (m.representation n))
        (reported_representation t now x q response w v p j h total wr own apart is_usable_row refl) t.used));
  }
