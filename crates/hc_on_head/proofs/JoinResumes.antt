-- Whether an exchange brings all that is missing, for who asks for the whole, is what the tables say.
--
-- Four tests tell it: the request has no range, the part is the last one, all before it is stored, and nothing else is.
-- The entry of what isn't lost has the same bytes, as many, and tells the length, so each test is the same
-- (`resumes_is`). The code joins the last three (`lacks_is`), and asks for them only if there is no range. With one the
-- exchange doesn't resume (`resumes_not`); else it does just where they hold (`resumes_as`). `resumes` uses these.
use Rattle.std.{proofs.{Common.{◌≡◌, ℕ, Bool, true, false, Option, Some, None, refl, ap, sym, ◌∙◌, subst, arith}, lemmas.Bool.Decides.{nat_tests}}, specs.{Prelude.{is_some, is_none, nat_eq, option_map, ◌&&◌, ◌==◌, ◌↔◌, IsTrue}, HashMap.{get}}}
use Rattle.hc_text.proofs.Basics.{eqb-same, false_true, some_inj as some_is}
use Rattle.hc_effects.proofs.Vocabulary.{Limits, Response, RequestClass, content_range_of, class_of, covers, asks_whole, hole_start, is_last_part, resumes, Tables, Exchange, Representation, need}
use Rattle.hc_store.specs.declared.backend.Backend.{Ghosts}
use Rattle.hc_sparse.specs.Cells.{Covers, size}
use Rattle.hc_range.specs.declared.range.RangeSpec.{RangeSpec}
use Rattle.hc_stored.specs.{Entries.{shelf_of}, Kept.{Kept}, declared.view.EntryView.{EntryView}, Shelf.{cells_in}, Views.{view_of}}
use Rattle.hc_exch.specs.{declared.row.{Open.{Open}, Opening.{Opening}}, Exchanges.{table_of}, Known.{begins_with}, Openings.{opened_with}}
use Rattle.hc_model.specs.Rows as rows
use Rattle.hc_effects.proofs.{Tests.{none_some}, HoleLemmas.{covers_all}}
use Rattle.hc_state.specs.{declared.rows.Rows.{Rows}, Facts.{Facts}, Joining.{LacksOnly}, Kept.{KeepsConsumer, KeepsRunning}, Stands.{RowsStand}, Stored.{IsEntry}}
use Rattle.hc_txn.specs.declared.transaction.Transaction.{Transaction as Consumer}
use Rattle.hc_on_leave.proofs.{AnswerHandler.{opened_as}, StoreHandler.{stored_size}}
use Rattle.hc_state.proofs.{CurrentTies.{covers_as, entry_at, stored_ends}, Ties.{kept_row}}

-- a request for the whole has no range
whole_as : (k : Consumer) (v : rows.Consumer) → k.class ≡ class_of v.request → is_none k.class.range ≡ asks_whole (Some v)
unfolding class_of
whole_as k v is = ap (λ (z : RequestClass). is_none z.range) is

-- what is told of it tells that
pub lacks_is : (o : Option Kept) (view : EntryView) (from : ℕ) (response : Response) (b : Bool) → option_map view_of o ≡ Some view → view.size ≡ from →
    is_last_part view.total (content_range_of response.fields) ≡ true → (IsTrue b ↔ Covers (λ n. cells_in o n) 0 from) → IsTrue b ↔ LacksOnly from response o
lacks_is None view from response b viewed size_is last reports = none_some view viewed
lacks_is (Some k) view from response b viewed size_is last reports =
    let one : view_of k ≡ view = some_is (view_of k) view viewed in
    let known : is_last_part k.head.total (content_range_of response.fields) ≡ true =
    ap (λ (z : EntryView). is_last_part z.total (content_range_of response.fields)) one ∙ last in
    ((λ on. (known, ((ap (λ (z : EntryView). z.size) one ∙ size_is), reports.0 on))), (λ lacks. reports.1 lacks.1.1))

-- THE HOLE

module _ {B : Type 0} {g : Ghosts B} {limits : Limits} (r : Rows B g) (t : Tables) (x : ℕ) (op : Opening) (w : Exchange) (from to : ℕ)
    (stands : RowsStand limits r t) (row : t.exchange x ≡ Some w) (opened : w.is_open ≡ true)
    (opens : Some (opened_with op) ≡ option_map begins_with (table_of r.exchanges x).running) (hole : w.need ≡ need.Hole from to) where
  need_is : op.need.now ≡ need.Hole from to
  need_is = grind (arith, nat_tests)

  pub no_hole : {P : Type 0} → ((a b : ℕ) → op.need.now ≡ need.Hole a b → ⊥) → P
  no_hole off = absurd (off from to need_is)

  pub is_start : (a b : ℕ) → op.need.now ≡ need.Hole a b → a ≡ from
  is_start a b is = (let same : need.Hole a b ≡ need.Hole from to = sym is ∙ need_is in cc)

module _ {B : Type 0} {g : Ghosts B} {limits : Limits} (r : Rows B g) (t : Tables) (facts : Facts limits t) (stands : RowsStand limits r t)
    (q c from to : ℕ) (response : Response) (w : Exchange) (p : Representation) (k : Consumer) (e : Kept)
    (hole : w.need ≡ need.Hole from to) (for_it : w.c ≡ c) (there : get nat_eq r.consumers c ≡ Some k) (row : t.representation q ≡ Some p)
    (stays : p.is_lost ≡ false) (kept : (shelf_of r.entries).kept q ≡ Some e) (reported : e.head.total ≡ p.head.total) where
  is : IsEntry t q e p
  is = entry_at r t stands q e kept p row

  asks : asks_whole (t.consumer w.c) ≡ is_none k.class.range
  asks = grind (arith, nat_tests, kept_row, whole_as)

  size_is : size e.cells ≡ p.size
  size_is = stored_size r t facts q p e t row is.used is

  resumes_is : resumes t response w
      p ≡ (is_none k.class.range && is_last_part e.head.total (content_range_of response.fields) && covers p.stored p.reach 0 from && (size e.cells == from))
  resumes_is = rw (asks, reported, (ap hole_start hole), size_is) refl

  -- it asks for a part
  pub resumes_not : is_some k.class.range ≡ true → false ≡ resumes t response w p
  resumes_not some = grind (arith, nat_tests, resumes_is, covers, size)

  -- it asks for the whole
  pub resumes_as : is_some k.class.range ≡ false → (b : Bool) → (IsTrue b ↔ LacksOnly from response ((shelf_of r.entries).kept q)) → b ≡ resumes t response w p
  resumes_as none b reports = by_test b refl ∙ sym resumes_is
    where
      whole : is_none k.class.range ≡ true
      whole = by_range k.class.range none
        where
          by_range : (o : Option RangeSpec) → is_some o ≡ false → is_none o ≡ true
          by_range None off = refl
          by_range (Some asked) off = false_true (sym off)

      both : IsTrue b ↔ LacksOnly from response (Some e)
      both = subst (λ (o : Option Kept). IsTrue b ↔ LacksOnly from response o) kept reports

      covered : (a : Bool) → (IsTrue a ↔ Covers e.cells 0 from) → a ≡ covers p.stored p.reach 0 from
      covered a says = covers_as t q e p is (stored_ends t facts.law q p row stays) a 0 from says

      all : Bool
      all = is_none k.class.range && is_last_part e.head.total (content_range_of response.fields) && covers p.stored p.reach 0 from && (size e.cells == from)

      and_parts : (a b : Bool) → (a && b) ≡ true → (a ≡ true) × (b ≡ true)
      and_parts true true on = (refl, refl)
      and_parts _ _ on = cc

      by_test : (a : Bool) → b ≡ a →
          a ≡ (is_none k.class.range && is_last_part e.head.total (content_range_of response.fields) && covers p.stored p.reach 0 from
          && (size e.cells == from))
      by_test true on =
          let lacks = both.0 on in
          let last = lacks.0 in
          let same : (size e.cells == from) ≡ true = ap (λ n. n == from) lacks.1.0 ∙ eqb-same from in
          let yes : true ≡ covers p.stored p.reach 0 from = covered true ((λ h. lacks.1.1), (λ h. refl)) in
          rw (whole, last, sym yes, same) refl
      by_test false off = by_all all refl
        where
          by_all : (z : Bool) → all ≡ z → false ≡ all
          by_all false none_left = sym none_left
          by_all true on =
              let first = and_parts (is_none k.class.range && is_last_part e.head.total (content_range_of response.fields) && covers p.stored p.reach 0
              from) (size e.cells == from) on in
              let second = and_parts (is_none k.class.range && is_last_part e.head.total (content_range_of response.fields))
              (covers p.stored p.reach 0 from) first.0 in
              let third = and_parts (is_none k.class.range) (is_last_part e.head.total (content_range_of response.fields)) second.0 in
              let same : size e.cells ≡ from = (let test = first.1 in grind (arith, nat_tests, test)) in
              false_true (sym off ∙ both.1 (third.1, (same, holds second.1)))
            where
              holds : covers p.stored p.reach 0 from ≡ true → Covers e.cells 0 from
              holds on n low high = ap (λ z. is_some z) (is.cells n) ∙ covers_all p.stored p.reach 0 from on n low high
