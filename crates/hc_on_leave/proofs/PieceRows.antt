-- An exchange brings bytes: what is kept represents the tables then.
--
-- What becomes of representations is left open, but each is like it was in what others look at (`IsLike`). It is there,
-- has its length and status, and is usable. So consumers and keys are told the same. The exchange has the work: it is
-- over where all that its head promised came, and else has brought so many bytes more. `stands_pieced` joins them with
-- the entry of what it brings, which its users prove: pieces that are stored, held or dropped.
use Rattle.std.{proofs.{lemmas.{Bool.Decides.{nat_tests}, List.{length-append}}, Common.{arith, ◌≡◌, ◌≢◌, inl, inr, ℕ, ◌+◌, List, ◌++◌, length, Bool, true, false, cond, Option, Some, None, refl, ap, ap₂, sym, ◌∙◌, subst}}, specs.{Prelude.{is_some, is_none, nat_eq, bytes_eq, ◌&&◌, if◌then◌else◌}, HashMap.{get}}}
use Rattle.hc_text.proofs.Basics.{eqb-other, eqb-same, false_true, filters_same, finds_same, same_or, and_off as then_false}
use Rattle.hc_effects.proofs.Vocabulary.{Limits, route_of, Place, current, is_usable, total_in, with_event, with_exchange, with_piece, family, promised_bytes, is_reached, is_headless, is_growing, brings_to, base_in, end_in, end_of_direct, Tables, Exchange, Representation, status_in, event, place, by}
use Rattle.hc_store.specs.declared.backend.Backend.{Ghosts}
use Rattle.hc_stored.specs.{Entries.{shelf_of}, Shelf.{Shelf}}
use Rattle.hc_entry.specs.Kept as keyed
use Rattle.hc_entry.specs.Keys.{kept_of}
use Rattle.hc_exch.specs.Exchanges as exch
use Rattle.hc_exch.specs.{Exchanges.{table_of}, Known.{Known, is_all, is_last_of}, declared.{role.Role.{Role, TheVariants.{the_data as role}}, row.Open.{Open}}}
use Rattle.hc_exch.specs.Known as known
use Rattle.hc_model.specs.Rows as rows
use Rattle.hc_state.specs.{declared.rows.Rows.{Rows}, Kept.{IsRunning, KeepsRunning, KeepsExchange, head_in, held_for, role_awaited}, Lines.{KeepsKey, is_away, is_away_at}, Stands.{RowsStand}, Stored.{KeepsEntry, KeepsEntries, is_usable_row}}
use Rattle.hc_on_leave.proofs.AnswerHandler.{all_reached, known_here, known_other}
use Rattle.hc_state.proofs.{OneOfEach.{first_by, bound_same, growing_same, kind_same}, PastRows.{SeesAlike, consumer_alike}, Ties.{key_same, entry_same, exchange_same, overs_open}}

-- what bytes don't change of a representation
pub record IsLike (o p : Option Representation) : Type 0 where
  pub there : is_some p ≡ is_some o
  pub total : total_in p ≡ total_in o
  pub status : status_in p ≡ status_in o
  pub usable : (key : List ℕ) → is_usable key p ≡ is_usable key o
  pub usable_row : is_usable_row p ≡ is_usable_row o

pub like_same : (o p : Option Representation) → p ≡ o → IsLike o p
like_same o p is = record {
  there = ap (λ (z : Option Representation). is_some z) is;
  total = ap total_in is;
  status = ap status_in is;
  usable = λ key. ap (is_usable key) is;
  usable_row = ap is_usable_row is;
}

pub none_is : {A : Type 0} (o : Option A) → is_some o ≡ true → is_none o ≡ false
none_is o h = grind (arith, nat_tests)

module _ (t : Tables) (now x : ℕ) (w : Exchange) (bytes : List ℕ) (vs : ℕ → Option Representation) where
  -- it brought these bytes, and of representations this is said
  abbrev pub s : Tables
  s = with_event now (event.Piece x bytes) (record (with_exchange x (Some (with_piece bytes w)) t) { representation = vs })

  abbrev pub z : Exchange
  z = with_piece bytes w

  module _ (row : t.exchange x ≡ Some w) (opened : w.is_open ≡ true) (headed : is_some w.head ≡ true) where
    pub here : s.exchange x ≡ Some z
    here = rw (eqb-same x) refl

    pub others : (y : ℕ) → x ≢ y → s.exchange y ≡ t.exchange y
    others y ne = rw (eqb-other x y ne) refl

    -- what is told of it before and after is told of all
    reported : {A : Type 0} (f : Option Exchange → A) → f (Some z) ≡ f (Some w) → (y : ℕ) → f (s.exchange y) ≡ f (t.exchange y)
    reported f alike y = grind (arith, nat_tests)

    -- CONSUMERS

    ends_so : w.is_ended ≡ false → (o : Option ℕ) → end_of_direct o z ≡ end_of_direct o w
    ends_so unended o = grind (arith, nat_tests)

    sees : w.is_ended ≡ false → ((q : ℕ) → IsLike (t.representation q) (vs q)) → SeesAlike t s
    sees unended like = record {
      head = reported head_in refl;
      begins = reported base_in refl;
      ends = reported end_in (ends_so unended (promised_bytes w));
      length = λ q. (like q).total;
    }

    -- KEYS

    away_same : (key : List ℕ) (o : Option rows.Consumer) → is_away s key o ≡ is_away t key o
    away_same key o = grind (arith, nat_tests)

    key_pieced : ((q : ℕ) → IsLike (t.representation q) (vs q)) → (key : List ℕ) (k : keyed.Kept) → KeepsKey t key k → KeepsKey s key k
    unfolding current
    key_pieced like key k kept =
        let usable = λ (q : ℕ). (like q).usable key in
        let current = finds_same (λ q. is_usable key (t.representation q)) (λ q. is_usable key (vs q)) usable t.founded in
        key_same t s key k (assumption (current, (λ (d : ℕ). away_same key (t.consumer d)))) kept

    -- REPRESENTATIONS

    brings_other : (q : ℕ) → family x w ≢ q → (y : ℕ) → brings_to q y (s.exchange y) ≡ brings_to q y (t.exchange y)
    brings_other q ne y = grind (arith, nat_tests)

    -- where it stays open, all that grew grows
    pub grows_on : z.is_open ≡ true → (q : ℕ) → is_growing s q ≡ is_growing t q
    grows_on still q = grind (arith, nat_tests)

    entries_pieced : (a b : Shelf) → ((q : ℕ) → IsLike (t.representation q) (vs q)) → ((q : ℕ) → family x w ≢ q → vs q ≡ t.representation q) →
        ((q : ℕ) → family x w ≢ q → b.kept q ≡ a.kept q) → b.order ≡ a.order
        → KeepsEntry s (family x w) (b.kept (family x w)) (vs (family x w)) → KeepsEntries t a → KeepsEntries s b
    entries_pieced a b like apart kept_else order its kept = record {
      each = λ q. elim (same_or (family x w) q) [
        | inl e ↦ subst (λ (n : ℕ). KeepsEntry s n (b.kept n) (vs n)) e its
        | inr ne ↦
            subst (λ o. KeepsEntry s q o (vs q)) (sym (kept_else q ne)) (subst (KeepsEntry s q (a.kept q)) (sym (apart q ne))
            (entry_same t s q (a.kept q) (t.representation q) refl
            (record {
              users = λ d. refl;
              first = λ d. first_by t s (λ n. (like n).status) q (t.consumer d);
              list = bound_same t s q refl (λ d. refl);
              kind = λ v at. kind_same t s q v (growing_same t s q refl (brings_other q ne));
              overs =
                  overs_open t.exchange s.exchange x w row opened others;
            }) (kept.each q)))
      ];
      order = order ∙ (kept.order ∙ sym (filters_same (λ q. is_usable_row (t.representation q)) (λ q. is_usable_row (vs q)) (λ q. (like q).usable_row) t.used));
    }

    -- THE EXCHANGE

    module _ (o : Open) (is : IsRunning t x o w) (like : IsLike (t.representation (family x w)) (vs (family x w))) where
      count_is : o.delivered + length bytes ≡ length (w.body ++ bytes)
      count_is = ap (λ n. n + length bytes) is.delivered ∙ sym (length-append w.body bytes)

      pub last_is : is_last_of (Some o) (length bytes) ≡ is_reached (promised_bytes w) (length (w.body ++ bytes))
      last_is = ap₂ is_all is.promised_is count_is ∙ all_reached (promised_bytes w) (length (w.body ++ bytes))

      abbrev role_with : Bool → Role
      role_with founded = if is_none w.head then role_awaited (route_of w.need) w.aim else if founded then role.Body (family x w) else role.Direct

      running_after : (b : Bool) → is_reached (promised_bytes w) (length (w.body ++ bytes)) ≡ b →
          KeepsRunning s x (cond b None (Some (record o { delivered = o.delivered + length bytes; asked = false }))) (Some z)
      running_after true reached = rw reached refl
      running_after false reached =
          let is_open : z.is_open ≡ true = rw reached opened in
          assumption (is, is_open, count_is, is.role ∙ ap role_with (sym like.there))

      -- what is known of it then
      pub known_pieced : (k : Known) (hold : Bool) → k.running ≡ Some o → (known.with_piece bytes hold k).held ≡ held_for s x (Some z) →
          KeepsExchange s x (known.with_piece bytes hold k)
      known_pieced k hold running held = record {
        running = rw (running, last_is, eqb-same x) (running_after (is_reached (promised_bytes w) (length (w.body ++ bytes))) refl);
        held = held ∙ ap (held_for s x) (sym here);
      }

    -- ALL OF IT

    module _ {B : Type 0} {g : Ghosts B} {limits : Limits} (r u : Rows B g) (stands : RowsStand limits r t) (unended : w.is_ended ≡ false)
        (like : (q : ℕ) → IsLike (t.representation q) (vs q)) (apart : (q : ℕ) → family x w ≢ q → vs q ≡ t.representation q) (hold : Bool) (o : Open)
        (running : (table_of r.exchanges x).running ≡ Some o)
        (last : u.last_start ≡ r.last_start) (same_map : u.consumers ≡ r.consumers) (same_keys : u.keys ≡ r.keys)
        (becomes : exch.Becomes (known.with_piece bytes hold) x r.exchanges u.exchanges)
        (held_here : (known.with_piece bytes hold (table_of r.exchanges x)).held ≡ held_for s x (Some z))
        (held_else : (y : ℕ) (e : Exchange) → x ≢ y → t.exchange y ≡ Some e → held_for s y (Some e) ≡ held_for t y (Some e))
        (bounded : (shelf_of u.entries).limits ≡ limits)
        (kept_else : (q : ℕ) → family x w ≢ q → (shelf_of u.entries).kept q ≡ (shelf_of r.entries).kept q)
        (order : (shelf_of u.entries).order ≡ (shelf_of r.entries).order)
        (its : KeepsEntry s (family x w) ((shelf_of u.entries).kept (family x w)) (vs (family x w))) where
      is_running : IsRunning t x o w
      is_running = subst (KeepsRunning t x (Some o)) row (subst (λ (k : Option Open). KeepsRunning t x k (t.exchange x)) running (stands.exchanges x).running)

      held_row : (y : ℕ) (e : Option Exchange) → x ≢ y → t.exchange y ≡ e → held_for s y e ≡ held_for t y e
      held_row y None ne at = refl
      held_row y (Some e) ne at = held_else y e ne at

      all_exchanges : (y : ℕ) → KeepsExchange s y (table_of u.exchanges y)
      all_exchanges y = elim (same_or x y) [
        | inl e ↦ subst (λ (n : ℕ). KeepsExchange s n (table_of u.exchanges n)) e
            (subst (KeepsExchange s x) (sym (known_here (known.with_piece bytes hold) x r.exchanges u.exchanges becomes))
            (known_pieced o is_running (like (family x w)) (table_of r.exchanges x) hold running held_here))
        | inr ne ↦ subst (KeepsExchange s y) (sym (known_other (known.with_piece bytes hold) x y r.exchanges u.exchanges becomes (λ e. ne (sym e))))
            (exchange_same t s y (table_of r.exchanges y)
            (record { row = others y ne; brings = λ e at. (like (family y e)).there; held = held_row y (t.exchange y) ne refl }) (stands.exchanges y))
      ]

      pub stands_pieced : RowsStand limits u s
      stands_pieced = record {
        limits = bounded;
        last_start = last ∙ stands.last_start;
        next = becomes.next ∙ stands.next;
        count = rw same_map stands.count;
        consumers = λ d. rw same_map (consumer_alike t s (sees unended like) (get nat_eq r.consumers d) (t.consumer d) (stands.consumers d));
        exchanges = all_exchanges;
        keys = λ key. rw same_keys (key_pieced like key (kept_of r.keys key) (stands.keys key));
        entries = entries_pieced (shelf_of r.entries) (shelf_of u.entries) like apart kept_else order its stands.entries;
      }
