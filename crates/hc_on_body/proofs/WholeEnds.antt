-- An exchange ends whose head told no length: what came is all. What is kept represents that.
--
-- First the exchange is over and ended; then what it founded has that length. Whatever doesn't look at the length is
-- told as before (`reported_longer`), so exchanges, keys and other entries stay. Who is bound learns where the body ends
-- (`one_knows`): that has the work. Its entry is sealed with the length, or is gone and doesn't tell it. `stands_whole`
-- joins this with the entries; `stands_past` is for an exchange past the store. `WholeAnswers` uses both.
use Rattle.std.{proofs.Common.{◌≡◌, ◌≢◌, inl, inr, ℕ, List, length, Bool, true, false, Option, Some, None, refl, ap, sym, ◌∙◌, subst}, specs.{Prelude.{is_some, nat_eq, filter, option_map, if◌then◌else◌}, Option.{option_or}, HashMap.{get}}}
use Rattle.hc_text.proofs.Basics.{eq_reports, eqb-other, eqb-same, false_true, filters_same, finds_same, same_or, same_some as same_row, and_off as then_false}
use Rattle.hc_effects.proofs.Vocabulary.{Limits, Response, Place, BoundBy, current, is_number, is_usable, total_in, at_end, with_exchange, with_length, family, promised_bytes, kind_of, is_growing, is_complete, covers_all, brings_to, Lawful, bound, is_bound, is_bound_place, base_in, end_in, end_of_direct, lo_of, hi_of, with_total_if_none, Tables, Exchange, Representation, status_in, place}
use Rattle.hc_store.specs.declared.backend.Backend.{Ghosts}
use Rattle.hc_record.specs.{declared.kind.Kind.TheVariants.{the_data as kinds}, Head.{Head, sealed_head}}
use Rattle.hc_sparse.specs.Cells.{Covers, EndsBy}
use Rattle.hc_stored.specs.{Entries.{shelf_of}, Kept.{Kept, sealed_kept}, Shelf.{Shelf}}
use Rattle.hc_entry.specs.Keys.{kept_of}
use Rattle.hc_entry.specs.Kept as keyed
use Rattle.hc_exch.specs.Exchanges as exch
use Rattle.hc_exch.specs.{Exchanges.{table_of}, Known.{Known}}
use Rattle.hc_exch.specs.Known as known
use Rattle.hc_model.specs.Rows as rows
use Rattle.hc_effects.proofs.{HoleLemmas.{covers_yes}, Tests.{none_some}}
use Rattle.hc_state.specs.{declared.rows.Rows.{Rows}, Changes.{ChangesAt, ChangesAmong}, Kept.{IsKept, KeepsConsumer, KeepsExchange, head_in, answer_at, held_for, held_of, held_alone, unstored_bytes, answer_for}, Lines.{KeepsKey}, Stands.{RowsStand}, Stopped.{NobodyAwaits}, Stored.{IsEntry, KnowsLength, reported, unreported, KeepsEntry, KeepsEntries, is_first, is_usable_row, is_over, KnowsWriter}}
use Rattle.hc_txn.specs.{declared.transaction.Transaction.{Transaction as Consumer}, Transactions.{with_end}}
use Rattle.hc_state.proofs.{Fallbacks.{unstored_moved}, Closing.{exchange_closed, key_closed, entries_closed}, OneOfEach.{first_by, growing_same, kind_same, entries_same}, Ties.{entry_same, exchange_same, key_same, kept_same, put_over, writer_then}}
use Rattle.hc_on_body.proofs.{BreakHandler.{closed_is}, CameAlone.{NobodyFirst}, Ended.{with_over, reported_alike, runs_end, held_end, away_end, base_end, promise_end}}

-- THE EXCHANGE

module _ (t : Tables) (x : ℕ) (w : Exchange) (row : t.exchange x ≡ Some w) where
  abbrev pub z : Tables
  z = with_exchange x (Some (at_end w)) t

  pub exchange_ends : (y : ℕ) (before after : Known) → after ≡ (if nat_eq x y then known.without_exchange before else before) → KeepsExchange t y before →
      KeepsExchange z y after
  exchange_ends y before after is kept =
      let closes : KeepsExchange (with_over x w t.exchange t) y after =
      subst (λ (s : Tables). KeepsExchange s y after) (closed_is t x w row) (exchange_closed t x y before after is kept) in
      record {
        running = runs_end t t.exchange x w y (nat_eq x y) after.running closes.running;
        held = closes.held ∙ sym (held_end t t.exchange x w y);
      }

  pub key_ends : NobodyAwaits t x → (key : List ℕ) (k : keyed.Kept) → KeepsKey t key k → KeepsKey z key k
  unfolding current
  key_ends nobody key k kept =
      let closes : KeepsKey (with_over x w t.exchange t) key k =
      subst (λ (s : Tables). KeepsKey s key k) (closed_is t x w row) (key_closed t x nobody key k kept) in
      key_same (with_over x w t.exchange t) z key k
      (record { current = refl; in_line = λ d. refl; passed = λ d. refl; away = λ d. away_end t t.exchange x w key (t.consumer d); turn = λ d. refl }) closes

  -- of what is of no family of it nothing else comes
  pub growing_apart : (q : ℕ) → family x w ≢ q → is_growing z q ≡ is_growing t q
  growing_apart q ne = growing_same t z q refl (λ y. elim (same_or x y) [
    | inl e ↦
        let after : z.exchange y ≡ Some (at_end w) = rw (e, eqb-same y) refl in
        let before : t.exchange y ≡ Some w = sym (ap t.exchange e) ∙ row in
        ap (brings_to q y) after ∙
        sym (ap (brings_to q y) before ∙ then_false w.is_open (nat_eq (family y w) q) (ap (λ n. nat_eq (family n w) q) (sym e) ∙ eqb-other (family x w) q ne))
    | inr off ↦ ap (brings_to q y) (let same : z.exchange y ≡ t.exchange y = rw (eqb-other x y off) refl in same)
  ])

-- WHAT IT FOUNDED IS SO LONG

module _ (t : Tables) (x n : ℕ) (v : Representation) (there : t.representation x ≡ Some v) (unreported_yet : v.head.total ≡ None) where
  abbrev pub f : Tables
  f = with_length x n t

  here : f.representation x ≡ Some (with_total_if_none n v)
  here = rw (eqb-same x, there) refl

  others : (q : ℕ) → x ≢ q → f.representation q ≡ t.representation q
  others q ne = rw (eqb-other x q ne) refl

  pub length_is : (with_total_if_none n v).head.total ≡ Some n
  length_is = ap (λ o. option_or o (Some n)) unreported_yet

  -- what doesn't look at the length is told as before
  pub reported_longer : {A : Type 0} (h : Option Representation → A) → ((u : Representation) → h (Some (with_total_if_none n u)) ≡ h (Some u)) → (q : ℕ) →
      h (f.representation q) ≡ h (t.representation q)
  reported_longer h alike q = by_test (nat_eq x q) (t.representation q)
    where
      by_test : (b : Bool) (o : Option Representation) → h (if b then option_map (with_total_if_none n) o else o) ≡ h o
      by_test true None = refl
      by_test true (Some u) = alike u
      by_test false o = refl

  held_longer : (y : ℕ) (o : Option Exchange) → held_for f y o ≡ held_for t y o
  held_longer y None = refl
  held_longer y (Some u) = by_test (nat_eq x (family y u)) (t.representation (family y u))
    where
      unstored_longer : (p : Representation) (o : Option rows.Consumer) → unstored_bytes f y u (with_total_if_none n p) o ≡ unstored_bytes t y u p o
      unstored_longer p None = refl
      unstored_longer p (Some k) = unstored_moved t f y u p (Some k)

      alone_longer : (p : Representation) (o : Option ℕ) → held_alone f y u (with_total_if_none n p) o ≡ held_alone t y u p o
      alone_longer p None = refl
      alone_longer p (Some c) = unstored_longer p (t.consumer c)

      alone_moved : (p : Representation) (o : Option ℕ) → held_alone f y u p o ≡ held_alone t y u p o
      alone_moved p None = refl
      alone_moved p (Some c) = unstored_moved t f y u p (t.consumer c)

      by_test : (b : Bool) (o : Option Representation) → held_of f y u (if b then option_map (with_total_if_none n) o else o) ≡ held_of t y u o
      by_test true (Some p) = alone_longer p p.alone
      by_test false (Some p) = alone_moved p p.alone
      by_test true None = refl
      by_test false None = refl

  pub exchange_longer : (y : ℕ) (k : Known) → KeepsExchange t y k → KeepsExchange f y k
  exchange_longer y k kept =
      exchange_same t f y k (record
      { row = refl; brings = λ u at. reported_longer (λ o. is_some o) (λ p. refl) (family y u); held = held_longer y (t.exchange y) }) kept

  pub key_longer : (key : List ℕ) (k : keyed.Kept) → KeepsKey t key k → KeepsKey f key k
  unfolding current
  key_longer key k kept = key_same t f key k
      (record {
        current = finds_same (λ q. is_usable key (t.representation q)) (λ q. is_usable key (f.representation q))
            (reported_longer (is_usable key) (λ p. refl)) t.founded;
        in_line = λ d. refl;
        passed = λ d. refl;
        away = λ d. refl;
        turn = λ d. refl;
      }) kept

  pub first_longer : (q : ℕ) (o : Option rows.Consumer) → is_first f q o ≡ is_first t q o
  first_longer q o = first_by t f (λ p. reported_longer status_in (λ u. refl) p) q o

  -- REPRESENTATIONS

  pub head_longer : (e : Kept) → sealed_head kinds.Growing v.head.total e.head ≡ v.head →
      sealed_head kinds.Growing (with_total_if_none n v).head.total e.head ≡ (with_total_if_none n v).head
  head_longer e is = ap (λ (h : Head). record h { total = (with_total_if_none n v).head.total }) is

  pub unreported_kept : (e : Kept) → KnowsLength e v → e.head.total ≡ None
  unreported_kept e (reported same) = same ∙ unreported_yet
  unreported_kept e (unreported u) = u.unreported

  -- every other stays
  pub other_longer : (q : ℕ) → x ≢ q → (k : Option Kept) → KeepsEntry t q k (t.representation q) → KeepsEntry f q k (f.representation q)
  unfolding bound kind_of
  other_longer q ne k kept =
      subst (KeepsEntry f q k) (sym (others q ne))
      (entry_same t f q k (t.representation q) refl
      (record { users = λ d. refl; first = λ d. first_longer q (t.consumer d); list = refl; kind = λ p at. refl; overs = λ y on. on }) kept)

  pub order_longer : (order : List ℕ) → order ≡ filter (λ q. is_usable_row (t.representation q)) t.used →
      order ≡ filter (λ q. is_usable_row (f.representation q)) f.used
  order_longer order is = is ∙
      sym (filters_same (λ q. is_usable_row (t.representation q)) (λ q. is_usable_row (f.representation q)) (reported_longer is_usable_row (λ p. refl)) t.used)

-- where the exchange has stopped
module _ (a : Tables) (x n : ℕ) (z : Option Exchange) (v : Representation) (there : a.representation x ≡ Some v) (unreported_yet : v.head.total ≡ None) where
  abbrev t : Tables
  t = with_exchange x z a

  abbrev pub longer : Tables
  longer = with_length x n t

  -- who came first is told as before, and what is over stays so
  first_then : (d : ℕ) → is_first longer x (a.consumer d) ≡ is_first a x (a.consumer d)
  first_then d = first_longer t x n v there unreported_yet x (a.consumer d) ∙ first_by a t (λ p. refl) x (a.consumer d)

  writer_longer : {k m : Option ℕ} → is_over z ≡ true → KnowsWriter a.exchange k m → KnowsWriter longer.exchange k m
  writer_longer done = writer_then (λ y on. put_over (nat_eq x y) z (a.exchange y) done on)

  -- nobody is kept as the one who came alone, where nobody did
  none_first : NobodyFirst a x → (e : Kept) → IsEntry a x e v → e.first ≡ None
  none_first nobody e is = by_first e.first refl
    where
      by_first : (o : Option ℕ) → e.first ≡ o → o ≡ None
      by_first None at = refl
      by_first (Some d) at = false_true (sym (nobody d) ∙ (sym (is.first d) ∙ (ap (λ (z : Option ℕ). is_number z d) at ∙ eqb-same d)))

  -- once it is gone its length isn't told
  pub gone_longer : is_over z ≡ true → v.is_gone ≡ true → Covers v.body 0 n → NobodyFirst a x → (k : Option Kept) → KeepsEntry a x k (Some v) →
      KeepsEntry longer x k (Some (with_total_if_none n v))
  unfolding bound kind_of
  gone_longer done is_gone came nobody None kept = record { gone = kept.gone; unused = kept.unused }
  gone_longer done is_gone came nobody (Some e) is =
      let length : KnowsLength e (with_total_if_none n v) = unreported (record {
        gone = is_gone;
        unreported = unreported_kept t x n v there unreported_yet e is.length;
        total = n;
        known = length_is t x n v there unreported_yet;
        came = came;
        first = none_first nobody e is;
      }) in
      let kind : v.is_gone ≡ false → e.head.kind ≡ kind_of longer x (with_total_if_none n v) =
      λ stays. false_true (sym stays ∙ is_gone) in
      assumption (
        is,
        head_longer t x n v there unreported_yet e is.head,
        length,
        kind,
        writer_longer done is.writer,
        (λ (d : ℕ). is.first d ∙ sym (first_then d)),
      )

  -- what is sealed as whole and so long is
  pub sealed_longer : is_over z ≡ true → is_growing t x ≡ false → Covers v.stored 0 n → EndsBy v.reach v.stored → (e : Kept) → IsEntry a x e v →
      IsEntry longer x (sealed_kept kinds.Whole (Some n) e) (with_total_if_none n v)
  unfolding bound kind_of
  sealed_longer done still all ends e is =
      let whole : (m : ℕ) → kinds.Whole ≡ kinds.Whole → Some n ≡ Some m → Covers v.stored 0 m =
      λ m whole known. subst (λ (b : ℕ). Covers v.stored 0 b) (let same : n ≡ m = cc in same) all in
      let length : KnowsLength (sealed_kept kinds.Whole (Some n) e) (with_total_if_none n v) =
      reported (sym (length_is t x n v there unreported_yet)) in
      assumption (
        is,
        head_longer t x n v there unreported_yet e is.head,
        length,
        sym kind_is,
        whole,
        writer_longer done is.writer,
        (λ (d : ℕ). is.first d ∙ sym (first_then d)),
      )
    where
      complete : is_complete (with_total_if_none n v) ≡ true
      complete = ap (covers_all (with_total_if_none n v)) (length_is t x n v there unreported_yet) ∙ covers_yes v.stored v.reach 0 n ends all

      kind_is : (if is_growing t x then kinds.Growing else if is_complete (with_total_if_none n v) then kinds.Whole else
          if Rattle.hc_model.specs.Kinds.is_prefix (with_total_if_none n v) then kinds.Truncated else kinds.Ranges) ≡ kinds.Whole
      kind_is = rw (still, complete) refl

-- ALL OF IT

module _ {B : Type 0} {g : Ghosts B} {limits : Limits} (r u : Rows B g) (t : Tables) (x : ℕ) (w : Exchange) (n : ℕ) (v : Representation)
    (row : t.exchange x ≡ Some w) (there : t.representation x ≡ Some v) (own : family x w ≡ x) (unreported_yet : v.head.total ≡ None)
    (stands : RowsStand limits r t)
    (unread : (d : ℕ) (k : rows.Consumer) → t.consumer d ≡ Some k → k.place ≡ place.Direct x → ⊥) (unawaited : NobodyAwaits t x)
    (last : u.last_start ≡ r.last_start) (keys : u.keys ≡ r.keys) (becomes : exch.Becomes known.without_exchange x r.exchanges u.exchanges)
    (users : ℕ → Bool) (users_are : (d : ℕ) → users d ≡ is_bound x (t.consumer d)) (knows : ChangesAmong r.consumers u.consumers users (with_end n))
    (bounded : (shelf_of u.entries).limits ≡ (shelf_of r.entries).limits) where
  abbrev mid : Tables
  mid = with_exchange x (Some (at_end w)) t

  abbrev pub whole : Tables
  whole = with_length x n mid

  -- CONSUMERS

  no_length : (q : ℕ) → x ≢ q → total_in (whole.representation q) ≡ total_in (t.representation q)
  no_length q ne = rw (eqb-other x q ne) refl

  knows_end : (k : Consumer) (c : rows.Consumer) (lo : ℕ) (hi : Option ℕ) (how : BoundBy) → c.place ≡ place.Bound x lo hi how → IsKept t k c →
      IsKept whole (with_end n k) c
  knows_end k c lo hi how at kept =
      let ends = kept.ends ∙ (ap (hi_of t) at ∙ ap (λ (o : Option Representation). option_or hi (total_in o)) there) in
      let reported = ap (hi_of whole) at ∙ ap (λ (o : Option Representation). option_or hi (total_in o)) here_now in
      let answer : answer_for t c ≡ answer_for whole c = rw at refl in
      let begins : lo_of t c.place ≡ lo_of whole c.place = rw at refl in
      assumption (
        kept,
        kept.answer ∙ answer,
        kept.begins ∙ begins,
        ap (λ (o : Option ℕ). option_or o (Some n)) ends ∙ (by_hi hi ∙ sym reported),
      )
    where
      here_now : whole.representation x ≡ Some (with_total_if_none n v)
      here_now = rw (eqb-same x, there) refl

      by_hi : (o : Option ℕ) → option_or (option_or o v.head.total) (Some n) ≡ option_or o (with_total_if_none n v).head.total
      by_hi None = refl
      by_hi (Some h) = refl

  one_knows : (d : ℕ) (b : Bool) (o : Option Consumer) (c : Option rows.Consumer) → t.consumer d ≡ c → is_bound x c ≡ b → KeepsConsumer t o c →
      KeepsConsumer whole (if b then option_map (with_end n) o else o) c
  one_knows d true None c at on kept = kept
  one_knows d false None c at on kept = kept
  one_knows d b (Some k) None at on kept = absurd kept
  one_knows d true (Some k) (Some c) at on kept = by_place c.place refl
    where
      by_place : (p : Place) → c.place ≡ p → IsKept whole (with_end n k) c
      by_place (place.Bound q lo hi how) is =
          let one : q ≡ x = eq_reports q x (sym (ap (is_bound_place x) is) ∙ on) in
          knows_end k c lo hi how (is ∙ ap (λ m. place.Bound m lo hi how) one) kept
      by_place _ is = false_true (sym (ap (is_bound_place x) is) ∙ on)
  one_knows d false (Some k) (Some c) at off kept =
      kept_same t whole k c (record { past = λ y is. other y is; length = λ q lo hi how is. no_length q (apart q lo hi how is) }) kept
    where
      other : (y : ℕ) → c.place ≡ place.Direct y → whole.exchange y ≡ t.exchange y
      other y is = elim (same_or x y) [
        | inl e ↦ absurd (unread d c at (is ∙ ap (λ m. place.Direct m) (sym e)))
        | inr ne ↦ rw (eqb-other x y ne) refl
      ]

      apart : (q lo : ℕ) (hi : Option ℕ) (how : BoundBy) → c.place ≡ place.Bound q lo hi how → x ≢ q
      apart q lo hi how is e = false_true (sym off ∙ (ap (is_bound_place x) is ∙ (ap (λ m. nat_eq m x) (sym e) ∙ eqb-same x)))

  pub stands_whole : KeepsEntries whole (shelf_of u.entries) → RowsStand limits u whole
  stands_whole entries = record {
    limits = bounded ∙ stands.limits;
    last_start = last ∙ stands.last_start;
    next = becomes.next ∙ stands.next;
    count = knows.len ∙ stands.count;
    consumers = λ d. subst (λ o. KeepsConsumer whole o (t.consumer d))
        (sym (knows.places d ∙ ap (λ b. if b then option_map (with_end n) (get nat_eq r.consumers d) else get nat_eq r.consumers d) (users_are d)))
        (one_knows d (is_bound x (t.consumer d)) (get nat_eq r.consumers d) (t.consumer d) refl refl (stands.consumers d));
    exchanges = λ y. exchange_longer mid x n v there unreported_yet y (table_of u.exchanges y)
        (exchange_ends t x w row y (table_of r.exchanges y) (table_of u.exchanges y) (by_here y) (stands.exchanges y));
    keys = λ key. rw keys (key_longer mid x n v there unreported_yet key (kept_of r.keys key)
        (key_ends t x w row unawaited key (kept_of r.keys key) (stands.keys key)));
    entries = entries;
  }
    where
      by_here : (y : ℕ) → table_of u.exchanges y ≡ (if nat_eq x y then known.without_exchange (table_of r.exchanges y) else table_of r.exchanges y)
      by_here y = becomes.table y ∙ elim (same_or x y) [
        | inl e ↦ rw (e, eqb-same y) refl
        | inr ne ↦ rw (eqb-other x y ne) refl
      ]

  -- REPRESENTATIONS

  -- every other is kept as it was
  pub entries_whole : (b : Shelf) → b.order ≡ (shelf_of r.entries).order → ((q : ℕ) → x ≢ q → b.kept q ≡ (shelf_of r.entries).kept q) →
      KeepsEntry whole x (b.kept x) (whole.representation x) → KeepsEntries whole b
  unfolding bound
  entries_whole b order kept here_kept = record {
    each = λ q. elim (same_or x q) [
      | inl e ↦ subst (λ m. KeepsEntry whole m (b.kept m) (whole.representation m)) e here_kept
      | inr ne ↦
          subst (λ k. KeepsEntry whole q k (whole.representation q)) (sym (kept q ne))
          (other_longer mid x n v there unreported_yet q ne ((shelf_of r.entries).kept q)
          (entry_same t mid q ((shelf_of r.entries).kept q) (t.representation q) refl
          (record {
            users = λ d. refl;
            first = λ d. first_by t mid (λ p. refl) q (t.consumer d);
            list = refl;
            kind =
                λ p at. kind_same t mid q p (growing_apart t x w row q (λ same. ne (sym own ∙ same)));
            overs =
                λ y on. put_over (nat_eq x y) (Some (at_end w)) (t.exchange y) refl on;
          }) (stands.entries.each q)))
    ];
    order = order_longer mid x n v there unreported_yet b.order (order ∙ stands.entries.order);
  }

-- PAST THE STORE

module _ {B : Type 0} {g : Ghosts B} {limits : Limits} (r u : Rows B g) (t : Tables) (law : Lawful t) (x : ℕ) (w : Exchange) (row : t.exchange x ≡ Some w)
    (opened : w.is_open ≡ true) (headed : is_some w.head ≡ true) (none : t.representation (family x w) ≡ None) (reports_none : promised_bytes w ≡ None)
    (n : ℕ) (all : n ≡ length w.body) (stands : RowsStand limits r t) (unawaited : NobodyAwaits t x)
    (last : u.last_start ≡ r.last_start) (keys : u.keys ≡ r.keys) (entries : u.entries ≡ r.entries)
    (becomes : exch.Becomes known.without_exchange x r.exchanges u.exchanges) (c : ℕ) (its : c ≡ w.c)
    (knows : ChangesAt r.consumers u.consumers c (with_end n)) where
  abbrev pub past : Tables
  past = with_exchange x (Some (at_end w)) t

  unended : w.is_ended ≡ false
  unended = by_test w.is_ended refl
    where
      by_test : (b : Bool) → w.is_ended ≡ b → b ≡ false
      by_test false is = refl
      by_test true is = false_true (sym (law.places.ended x w row is) ∙ opened)

  here_past : past.exchange x ≡ Some (at_end w)
  here_past = rw (eqb-same x) refl

  no_end : end_in (Some w) ≡ None
  no_end = ap (λ o. end_of_direct o w) reports_none ∙ ap (λ b. if b then Some (length w.body) else None) unended

  an_end : end_in (Some (at_end w)) ≡ Some n
  an_end = ap (λ o. end_of_direct o (at_end w)) (promise_end w ∙ reports_none) ∙ ap Some (sym all)

  reader_knows : (k : Consumer) (v : rows.Consumer) → v.place ≡ place.Direct x → IsKept t k v → IsKept past (with_end n k) v
  reader_knows k v at kept =
      let shows = λ (o : Option Response). if v.shown then None else o in
      let answer = ap (answer_at t) at ∙ (ap head_in row ∙ sym (ap head_in here_past)) in
      let begins = ap base_in row ∙ (sym (base_end w) ∙ (sym (ap base_in here_past) ∙ sym (ap (lo_of past) at))) in
      let ends = kept.ends ∙ (ap (hi_of t) at ∙ (ap end_in row ∙ no_end)) in
      assumption (
        kept,
        kept.answer ∙ (ap shows answer ∙ sym (ap shows (ap (answer_at past) at))),
        kept.begins ∙ (ap (lo_of t) at ∙ begins),
        ap (λ (o : Option ℕ). option_or o (Some n)) ends
            ∙ (sym an_end ∙ (sym (ap end_in here_past) ∙ sym (ap (hi_of past) at))),
      )

  reader : Rattle.hc_model.specs.Places.IsReadPast t x w
  reader = law.places.read x w row opened headed none

  consumer_past : (d : ℕ) (b : Bool) → nat_eq c d ≡ b → (o : Option Consumer) (z : Option rows.Consumer) → t.consumer d ≡ z → KeepsConsumer t o z →
      KeepsConsumer past (if b then option_map (with_end n) o else o) z
  consumer_past d true on None z at kept = kept
  consumer_past d false off None z at kept = kept
  consumer_past d b on (Some k) None at kept = absurd kept
  consumer_past d true on (Some k) (Some v) at kept =
      let one : w.c ≡ d = sym its ∙ eq_reports c d on in
      let same : v ≡ reader.k = same_row (t.consumer d) v reader.k at (sym (ap t.consumer one) ∙ reader.row) in
      reader_knows k v (ap (λ (q : rows.Consumer). q.place) same ∙ reader.place_is) kept
  consumer_past d false off (Some k) (Some v) at kept = kept_same t past k v (record { past = λ y is. other y is; length = λ q lo hi how is. refl }) kept
    where
      other : (y : ℕ) → v.place ≡ place.Direct y → past.exchange y ≡ t.exchange y
      other y is = elim (same_or x y) [
        | inl e ↦
            let reads = law.places.direct d x v at (is ∙ ap (λ m. place.Direct m) (sym e)) in
            let same_w : reads.w ≡ w = same_row (t.exchange x) reads.w w reads.row row in
            let one : c ≡ d = its ∙ (ap (λ (q : Exchange). q.c) (sym same_w) ∙ reads.for_it) in
            false_true (sym off ∙ (ap (nat_eq c) (sym one) ∙ eqb-same c))
        | inr ne ↦ rw (eqb-other x y ne) refl
      ]

  apart : (q : ℕ) (p : Representation) → t.representation q ≡ Some p → p.is_gone ≡ false → brings_to q x (t.exchange x) ≡ false
  apart q p there stays = ap (brings_to q x) row ∙ elim (same_or (family x w) q) [
    | inl e ↦ none_some p (sym none ∙ (ap t.representation e ∙ there))
    | inr ne ↦ then_false w.is_open (nat_eq (family x w) q) (eqb-other (family x w) q ne)
  ]

  pub stands_past : RowsStand limits u past
  stands_past = record {
    limits = ap (λ e. (shelf_of e).limits) entries ∙ stands.limits;
    last_start = last ∙ stands.last_start;
    next = becomes.next ∙ stands.next;
    count = knows.len ∙ stands.count;
    consumers = λ d. subst (λ o. KeepsConsumer past o (t.consumer d)) (sym (knows.places d ∙ by_number d))
        (consumer_past d (nat_eq c d) refl (get nat_eq r.consumers d) (t.consumer d) refl (stands.consumers d));
    exchanges = λ y. exchange_ends t x w row y (table_of r.exchanges y) (table_of u.exchanges y) (by_here y) (stands.exchanges y);
    keys = λ key. rw keys (key_ends t x w row unawaited key (kept_of r.keys key) (stands.keys key));
    entries = rw entries (entries_end
        (subst (λ (s : Tables). KeepsEntries s (shelf_of r.entries)) (closed_is t x w row) (entries_closed t x (shelf_of r.entries) apart stands.entries)));
  }
    where
      by_here : (y : ℕ) → table_of u.exchanges y ≡ (if nat_eq x y then known.without_exchange (table_of r.exchanges y) else table_of r.exchanges y)
      by_here y = becomes.table y ∙ elim (same_or x y) [
        | inl e ↦ rw (e, eqb-same y) refl
        | inr ne ↦ rw (eqb-other x y ne) refl
      ]

      by_number : (d : ℕ) → (if nat_eq c d then option_map (with_end n) (get nat_eq r.consumers c) else get nat_eq r.consumers d) ≡ (if nat_eq c d then
          option_map (with_end n) (get nat_eq r.consumers d) else get nat_eq r.consumers d)
      by_number d = elim (same_or c d) [
        | inl e ↦ rw (e, eqb-same d) refl
        | inr ne ↦ rw (eqb-other c d ne) refl
      ]

      entries_end : KeepsEntries (with_over x w t.exchange t) (shelf_of r.entries) → KeepsEntries past (shelf_of r.entries)
      entries_end kept = entries_same (with_over x w t.exchange t) past (shelf_of r.entries) (λ q. refl) refl refl (λ q d. refl) (λ q d. refl)
          (λ q. growing_same (with_over x w t.exchange t) past q refl (λ y. reported_alike t t.exchange x w (brings_to q y) refl y))
          (λ y on. reported_alike t t.exchange x w is_over refl y ∙ on) kept
