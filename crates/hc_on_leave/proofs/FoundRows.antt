-- An exchange founds a representation for its one reader past the store: what is kept represents the tables then.
--
-- Nobody else reads the exchange, and nothing has its number yet (`IsUnfounded`). So all other rows stay: of them
-- nothing is held otherwise, other keys say the same, and other entries keep their users. The work is its own items.
-- The consumer is bound now, the exchange brings a body, the key has it as current, and its entry is new
-- (`began_kept`). `founded_stands` joins them for `FoundHandler`.
use Rattle.std.{proofs.{Common.{◌≡◌, ◌≢◌, ◌⊎◌, inl, inr, ℕ, List, [], ◌∷◌, Bool, true, false, Option, Some, None, refl, ap, ap₂, sym, ◌∙◌, subst, arith}, lemmas.Bool.Decides.{nat_tests}}, specs.{Prelude.{◌==◌, ◌&&◌, ◌||◌, not, nat_eq, bytes_eq, filter, find, is_some, if◌then◌else◌}, HashMap.{get}, List.{list_any}, Option.{option_or}}}
use Rattle.hc_text.proofs.Basics.{any_none, eqb-other, eqb-same, false_true, never_true as not_true, same_or, some_inj as some_is}
use Rattle.hc_effects.proofs.Vocabulary.{brings_part, Limits, Need, Request, Response, Length, length_of, base_of, promise_of, content_range_of, Place, BoundBy, current, is_number, is_usable, total_in, is_live, exchange_with_head, just_founded, with_consumer, with_founding, promise_in, family, is_reached, founded_total, total_of_part, varied_by, kind_of, is_growing, brings_to, is_bound, is_bound_place, Tables, Exchange, Representation, Among, came_alone, is_in_line, by, bound, place}
use Rattle.hc_effects.proofs.Tests.{and_false}
use Rattle.hc_store.specs.declared.backend.Backend.{Ghosts}
use Rattle.hc_sparse.specs.Cells.{Covers, nothing}
use Rattle.hc_text.specs.Sorted.{has, itself}
use Rattle.hc_record.specs.{Head.{Head, sealed_head}, Plain.{plain}, declared.kind.Kind.TheVariants.{the_data as kinds}}
use Rattle.hc_rules.proofs.RangeReads.{bytes_eq-same, same_bytes}
use Rattle.hc_stored.specs.{Entries.{shelf_of}, Kept.{Kept, alone_if, founded_kept}}
use Rattle.hc_entry.specs.{Keys.{kept_of}, Kept.{with_current}}
use Rattle.hc_entry.specs.Kept as keyed
use Rattle.hc_exch.specs.{declared.{role.Role.TheVariants.{the_data as role}, row.Open.{Open}}, Exchanges.{table_of}, Known.{Known, is_all, length_by}}
use Rattle.hc_model.specs.{Heads.{founded_head}, Effects.{with_answer}}
use Rattle.hc_model.specs.Rows as rows
use Rattle.hc_state.specs.{declared.{rows.Rows.{Rows}, founded.Founding.{Founding}}, Changes.{BecomesAt}, Founding.{BeginsFounding, brings_body, head_by, total_by, kind_begun, writer_by}, Heads.{IsReadAlone}, Kept.{IsKept, IsRunning, KeepsConsumer, KeepsExchange, KeepsRunning, answer_for, held_alone, held_for, held_of, unread, unstored_bytes, role_of}, Lines.{KeepsKey, has_turn, is_away, is_passed}, Stands.{RowsStand}, Stored.{IsEntry, KeepsEntry, KeepsEntries, is_first, is_usable_row, as_written, KnowsLength, KnowsWriter}}
use Rattle.hc_txn.specs.{declared.transaction.Transaction.{Transaction as Consumer}, Transactions.{founding as founds_with}}
use Rattle.hc_state.specs.Stored as stored
use Rattle.hc_on_leave.proofs.{AnswerHandler.{all_reached}, HeardExchange.{entries_heard, key_heard, held_empty}, HeardRows.{runs_as, kept_as}}
use Rattle.hc_state.proofs.{Fallbacks.{unstored_moved}, FallbackSteps.{live_same}, KeySteps.{IsUnsaid, apart_unsaid}, OneOfEach.{bound_same, kind_same}, QueueHandler.{becomes_by}, Ties.{consumer_same, entry_same, exchange_same}}

-- It is listed, nobody is bound to what has its number, and no other exchange brings that.
pub record IsUnfounded (m : Tables) (x : ℕ) : Type 0 where
  pub listed : Among x m.openings
  pub unbound : (d lo : ℕ) (hi : Option ℕ) (how : BoundBy) (u : rows.Consumer) → m.consumer d ≡ Some u → u.place ≡ place.Bound x lo hi how → ⊥
  pub apart : (y : ℕ) (e : Exchange) → y ≢ x → m.exchange y ≡ Some e → family y e ≢ x

pub any_some : (f : ℕ → Bool) (n : ℕ) (ns : List ℕ) → Among n ns → f n ≡ true → list_any f ns ≡ true
any_some f n [] among on = absurd among
any_some f n (m ∷ ns) (inl here) on = let first : f m ≡ true = ap f here ∙ on in rw first refl
any_some f n (m ∷ ns) (inr there) on = let rest : list_any f ns ≡ true = any_some f n ns there on in rw rest (either (f m))
  where
    either : (b : Bool) → (b || true) ≡ true
    either true = refl
    either false = refl

filters_but : (f h : ℕ → Bool) (x : ℕ) (ns : List ℕ) → f x ≡ false → ((n : ℕ) → n ≢ x → h n ≡ f n) → filter h (filter (λ n. not (n == x)) ns) ≡ filter f ns
filters_but f h x [] off same = refl
filters_but f h x (n ∷ ns) off same = by_number (same_or n x) (filters_but f h x ns off same)
  where
    by_test : n ≢ x → (b : Bool) → f n ≡ b → filter h (filter (λ q. not (q == x)) ns) ≡ filter f ns →
        filter h (n ∷ filter (λ q. not (q == x)) ns) ≡ filter f (n ∷ ns)
    by_test ne true on rest = let here : h n ≡ true = same n ne ∙ on in rw (here, on) (ap (λ qs. n ∷ qs) rest)
    by_test ne false fails rest = let here : h n ≡ false = same n ne ∙ fails in rw (here, fails) rest

    by_number : (n ≡ x) ⊎ (n ≢ x) → filter h (filter (λ q. not (q == x)) ns) ≡ filter f ns → filter h (filter (λ q. not (q == x)) (n ∷ ns)) ≡ filter f (n ∷ ns)
    by_number (inl e) rest = let here : f n ≡ false = ap f e ∙ off in let self : nat_eq n x ≡ true = ap (λ i. nat_eq i x) e ∙ eqb-same x in rw (self, here) rest
    by_number (inr ne) rest = rw (eqb-other n x ne) (by_test ne (f n) refl rest)

module _ {B : Type 0} {g : Ghosts B} {limits : Limits} (a u : Rows B g) (m : Tables) (now x : ℕ) (response : Response) (w : Exchange)
    (past : rows.Consumer) (k : Consumer) (o : Open) (f : Founding) (l : Length)
    (stands : RowsStand limits a m) (alone : IsReadAlone m x w past) (fresh : IsUnfounded m x) (there : get nat_eq a.consumers w.c ≡ Some k)
    (running : (table_of a.exchanges x).running ≡ Some o) (reported : l ≡ length_of w.need w.request response)
    (key_is : f.key ≡ o.request.key) (head_is : plain f.head ≡ head_by o now response) (shares : f.shared ≡ not (brings_part response.status))
    (ends : option_or f.hi (founded_total w response) ≡ f.hi) (empties : promise_in w response ≡ Some 0 → founded_total w response ≡ Some 0)
    (begins : BeginsFounding a u x w.c f response) (length_is : length_by (table_of a.exchanges x).running response ≡ l)
    (limits_are : (shelf_of a.entries).limits ≡ limits) where
  abbrev z : Exchange
  z = exchange_with_head now response w.joined w

  abbrev v : Representation
  v = just_founded now x response w

  abbrev q : rows.Consumer
  q = record past { place = place.Bound x f.lo f.hi by.Founding; own = if f.shared then None else past.own }

  abbrev heard : Tables
  heard = with_answer now x response w.joined w m

  abbrev pub s : Tables
  s = with_consumer w.c (Some q) (with_answer now x response w.joined w (with_founding x v m))

  is : IsKept m k past
  is = kept_as a m w.c past k stands alone.asker there

  runs : IsRunning m x o w
  runs = runs_as a m x o w stands running alone.bare.row

  -- THE ROWS OF THE TABLES

  x_here : s.exchange x ≡ Some z
  x_here = rw (eqb-same x) refl

  x_else : (y : ℕ) → y ≢ x → s.exchange y ≡ m.exchange y
  x_else y ne = rw (eqb-other x y (λ e. ne (sym e))) refl

  r_here : s.representation x ≡ Some v
  r_here = rw (eqb-same x) refl

  r_else : (n : ℕ) → n ≢ x → s.representation n ≡ m.representation n
  r_else n ne = rw (eqb-other x n (λ e. ne (sym e))) refl

  c_here : s.consumer w.c ≡ Some q
  c_here = rw (eqb-same w.c) refl

  c_else : (d : ℕ) → d ≢ w.c → s.consumer d ≡ m.consumer d
  c_else d ne = rw (eqb-other w.c d (λ e. ne (sym e))) refl

  own_family : family x z ≡ x
  own_family = (let unjoined = alone.bare.unjoined in rw unjoined refl)

  -- THE CONSUMER

  live_each : (d : ℕ) → is_live (s.consumer d) ≡ is_live (m.consumer d)
  live_each d = grind (arith, nat_tests)

  answer_none : answer_for m past ≡ None
  answer_none = rw (alone.unshown, alone.at, alone.bare.row) alone.bare.headless

  consumer_kept : IsKept s (founds_with x f.shared f.lo f.hi k) q
  consumer_kept =
      let answer : None ≡ answer_for s q = sym (rw alone.unshown refl) in
      assumption (
        is,
        ap (λ (n : Option ℕ). if f.shared then None else n) is.own,
        is.answer ∙ (answer_none ∙ answer),
        sym (ap (λ (row : Option Representation). option_or f.hi (total_in row)) r_here ∙ ends),
      )

  consumers_kept : (d : ℕ) → KeepsConsumer s (get nat_eq u.consumers d) (s.consumer d)
  consumers_kept d = elim (same_or w.c d) [
    | inl e ↦ subst (λ (n : ℕ). KeepsConsumer s (get nat_eq u.consumers n) (s.consumer n)) e
        (subst (λ p. KeepsConsumer s p (s.consumer w.c)) (sym here_map)
        (subst (KeepsConsumer s (Some (founds_with x f.shared f.lo f.hi k))) (sym c_here) consumer_kept))
    | inr ne ↦
        let off : d ≢ w.c = λ e. ne (sym e) in
        subst (λ p. KeepsConsumer s p (s.consumer d)) (sym (else_map d ne))
        (subst (KeepsConsumer s (get nat_eq a.consumers d)) (sym (c_else d off))
        (consumer_same m s (get nat_eq a.consumers d) (m.consumer d) (λ e at. record {
          past = λ y stood. x_else y (λ same. off (alone.only d e at (stood ∙ ap (λ (n : ℕ). place.Direct n) same)));
          length = λ n lo hi how stood. ap total_in (r_else n (λ same. fresh.unbound d lo hi how e at (stood ∙ ap (λ (i : ℕ). place.Bound i lo hi how) same)));
        }) (stands.consumers d)))
  ]
    where
      became : BecomesAt a.consumers u.consumers w.c (Some (founds_with x f.shared f.lo f.hi k))
      became = becomes_by a.consumers u.consumers w.c k (founds_with x f.shared f.lo f.hi) there begins.consumers

      here_map : get nat_eq u.consumers w.c ≡ Some (founds_with x f.shared f.lo f.hi k)
      here_map = became.places w.c ∙ rw (eqb-same w.c) refl

      else_map : (d : ℕ) → w.c ≢ d → get nat_eq u.consumers d ≡ get nat_eq a.consumers d
      else_map d ne = became.places d ∙ rw (eqb-other w.c d ne) refl

  -- THE EXCHANGE

  reached_is : is_all (promise_of l) 0 ≡ is_reached (promise_in w response) 0
  reached_is = all_reached (promise_of l) 0 ∙ ap (λ (n : Length). is_reached (promise_of n) 0) reported

  abbrev opened : Open
  opened = record o { role = role.Body x; headed = true; base = base_of l; promised = promise_of l }

  known_is : table_of u.exchanges x ≡ brings_body x l (table_of a.exchanges x)
  known_is = begins.exchanges.table x ∙ (rw (eqb-same x) (ap (λ n. brings_body x n (table_of a.exchanges x)) length_is))

  running_is : (b : Bool) → is_all (promise_of l) 0 ≡ b → (brings_body x l (table_of a.exchanges x)).running ≡ (if b then None else Some opened)
  running_is b over = grind (arith, nat_tests)

  held_is : (b : Bool) → is_all (promise_of l) 0 ≡ b → (brings_body x l (table_of a.exchanges x)).held ≡ (table_of a.exchanges x).held
  held_is b over = grind (arith, nat_tests)

  runs_then : (b : Bool) → is_reached (promise_in w response) 0 ≡ b → KeepsRunning s x (if b then None else Some opened) (Some z)
  runs_then true over = rw over refl
  runs_then false over =
      let is_open : z.is_open ≡ true = rw over alone.bare.is_open in
      let role : role.Body x ≡ role_of s x z = rw (alone.bare.unjoined, eqb-same x) refl in
      assumption (runs, is_open, role, ap base_of reported, ap promise_of reported)

  held_none : held_for s x (Some z) ≡ []
  held_none = rw (alone.bare.unjoined, eqb-same x) refl

  exchange_kept : KeepsExchange s x (table_of u.exchanges x)
  exchange_kept = record {
    running = subst (λ (e : Option Exchange). KeepsRunning s x (table_of u.exchanges x).running e) (sym x_here)
        (subst (λ (e : Option Open). KeepsRunning s x e (Some z))
        (sym (ap (λ (e : Known). e.running) known_is ∙ running_is (is_reached (promise_in w response) 0) reached_is))
        (runs_then (is_reached (promise_in w response) 0) refl));
    held = ap (λ (e : Known). e.held) known_is
        ∙ (held_is (is_all (promise_of l) 0) refl
        ∙ ((stands.exchanges x).held
        ∙ (ap (held_for m x) alone.bare.row
        ∙ (held_empty m x w alone.bare.empty alone.bare.unjoined alone.bare.unfounded
        ∙ sym (ap (held_for s x) x_here ∙ held_none)))));
  }

  -- WHAT IS HELD OF THE OTHERS

  unread_else : (y d : ℕ) (e : Exchange) → y ≢ x → unread y e (s.consumer d) ≡ unread y e (m.consumer d)
  unread_else y d e ne = elim (same_or w.c d) [
    | inl one ↦ rw (← one, c_here, alone.asker, alone.at, eqb-other x y (λ same. ne (sym same))) refl
    | inr off ↦ ap (unread y e) (c_else d (λ one. off (sym one)))
  ]

  unstored_else : (y d : ℕ) (e : Exchange) (p : Representation) → family y e ≢ x → unstored_bytes s y e p (s.consumer d) ≡ unstored_bytes m y e p (m.consumer d)
  unstored_else y d e p ne = elim (same_or w.c d) [
    | inl one ↦ rw (← one, c_here, alone.asker, alone.at, eqb-other x (family y e) (λ same. ne (sym same))) refl
    | inr off ↦ ap (unstored_bytes s y e p) (c_else d (λ one. off (sym one))) ∙ unstored_moved m s y e p (m.consumer d)
  ]

  alone_else : (y : ℕ) (e : Exchange) (p : Representation) (n : Option ℕ) → family y e ≢ x → held_alone s y e p n ≡ held_alone m y e p n
  alone_else y e p None ne = refl
  alone_else y e p (Some d) ne = unstored_else y d e p ne

  held_else : (y : ℕ) (e : Option Exchange) → y ≢ x → m.exchange y ≡ e → held_for s y e ≡ held_for m y e
  held_else y None ne at = refl
  held_else y (Some e) ne at = ap (held_of s y e) (r_else (family y e) (fresh.apart y e ne at)) ∙ by_row (m.representation (family y e))
    where
      by_row : (p : Option Representation) → held_of s y e p ≡ held_of m y e p
      by_row None = unread_else y e.c e ne
      by_row (Some p) = alone_else y e p p.alone (fresh.apart y e ne at)

  exchanges_kept : (y : ℕ) → KeepsExchange s y (table_of u.exchanges y)
  exchanges_kept y = elim (same_or y x) [
    | inl same ↦ subst (λ (n : ℕ). KeepsExchange s n (table_of u.exchanges n)) (sym same) exchange_kept
    | inr ne ↦ subst (KeepsExchange s y) (sym (begins.exchanges.table y ∙ rw (eqb-other x y (λ e. ne (sym e))) refl))
        (exchange_same m s y (table_of a.exchanges y) (record {
          row = x_else y ne;
          brings = λ e at. ap (λ p. is_some p) (r_else (family y e) (fresh.apart y e ne at));
          held = held_else y (m.exchange y) ne refl;
        }) (stands.exchanges y))
  ]

  -- BY KEY

  unsaid_was : (key : List ℕ) → IsUnsaid heard key (Some past)
  unsaid_was key = apart_unsaid heard key past (rw alone.at refl) (rw alone.at refl) (rw alone.at refl)

  unsaid_now : (key : List ℕ) → IsUnsaid s key (Some q)
  unsaid_now key = apart_unsaid s key q refl refl refl

  says : (f h : Option rows.Consumer → Bool) → f (Some past) ≡ false → h (Some q) ≡ false → ((e : Option rows.Consumer) → h e ≡ f e) → (d : ℕ) →
      h (s.consumer d) ≡ f (m.consumer d)
  says f h was now same d = grind (arith, nat_tests)

  key_said : (key : List ℕ) (e : keyed.Kept) (n : Option ℕ) → KeepsKey m key e → n ≡ current s key → KeepsKey s key (with_current n e)
  key_said key e n kept now_is =
      let was = key_heard m x w z alone.bare alone.bare.unjoined key e kept in
      record {
        current = now_is;
        in_line = λ d. was.in_line d ∙ sym (says (is_in_line key) (is_in_line key) (unsaid_was key).in_line (unsaid_now key).in_line (λ p. refl) d);
        passed = λ d. was.passed d ∙ sym (says (is_passed key) (is_passed key) (unsaid_was key).passed (unsaid_now key).passed (λ p. refl) d);
        away = λ d. was.away d ∙ sym (says (is_away heard key) (is_away s key) (unsaid_was key).away (unsaid_now key).away (λ p. away_same key p) d);
        holder = λ d. was.holder d ∙ sym (says (has_turn key) (has_turn key) (unsaid_was key).turn (unsaid_now key).turn (λ p. refl) d);
      }
    where
      away_same : (key : List ℕ) (p : Option rows.Consumer) → is_away s key p ≡ is_away heard key p
      away_same key None = refl
      away_same key (Some e) = refl

  current_its : current s w.request.key ≡ Some x
  unfolding current
  current_its = (let self = bytes_eq-same w.request.key w.request.key refl in rw (eqb-same x, self) refl)

  current_else : (key : List ℕ) → bytes_eq w.request.key key ≡ false → current s key ≡ current m key
  unfolding current
  current_else key off = rw (eqb-same x, off) (others m.founded)
    where
      usable_same : (n : ℕ) → is_usable key (s.representation n) ≡ is_usable key (m.representation n)
      usable_same n = elim (same_or n x) [
        | inl e ↦ ap (λ (i : ℕ). is_usable key (s.representation i)) e ∙
            (ap (is_usable key) r_here ∙ (rw off refl ∙ sym (ap (λ (i : ℕ). is_usable key (m.representation i)) e ∙ ap (is_usable key) alone.bare.unfounded)))
        | inr ne ↦ ap (is_usable key) (r_else n ne)
      ]

      others : (ns : List ℕ) → find (λ n. is_usable key (s.representation n)) ns ≡ find (λ n. is_usable key (m.representation n)) ns
      others [] = refl
      others (n ∷ ns) = rw (usable_same n, others ns) refl

  keys_kept : (key : List ℕ) → KeepsKey s key (kept_of u.keys key)
  keys_kept key = by_test (bytes_eq w.request.key key) refl
    where
      kept_is : kept_of u.keys key ≡ (if bytes_eq w.request.key key then with_current (Some x) (kept_of a.keys w.request.key) else kept_of a.keys key)
      kept_is = begins.keys o running key ∙
          ap (λ (e : Request). if bytes_eq e.key key then with_current (Some x) (kept_of a.keys e.key) else kept_of a.keys key) runs.request

      by_test : (b : Bool) → bytes_eq w.request.key key ≡ b → KeepsKey s key (kept_of u.keys key)
      by_test true on =
          let one : w.request.key ≡ key = same_bytes w.request.key key on in
          subst (KeepsKey s key) (sym (kept_is ∙ rw on refl))
          (subst (λ (n : List ℕ). KeepsKey s n (with_current (Some x) (kept_of a.keys w.request.key))) one
          (key_said w.request.key (kept_of a.keys w.request.key) (Some x) (stands.keys w.request.key) (sym current_its)))
      by_test false off =
          subst (KeepsKey s key) (sym (kept_is ∙ rw off refl))
          (key_said key (kept_of a.keys key) (kept_of a.keys key).current (stands.keys key) ((stands.keys key).current ∙ sym (current_else key off)))

  -- REPRESENTATIONS

  users_else : (n : ℕ) → n ≢ x → (d : ℕ) → is_bound n (s.consumer d) ≡ is_bound n (m.consumer d)
  users_else n ne d = elim (same_or w.c d) [
    | inl e ↦ rw (← e, c_here, alone.asker, alone.at) (eqb-other x n (λ same. ne (sym same)))
    | inr off ↦ ap (is_bound n) (c_else d (λ e. off (sym e)))
  ]

  first_same : (n : ℕ) → n ≢ x → (p : Option rows.Consumer) → is_first s n p ≡ is_first heard n p
  first_same n ne None = refl
  first_same n ne (Some e) = by_place e.place refl
    where
      by_place : (p : Place) → e.place ≡ p → is_first s n (Some e) ≡ is_first heard n (Some e)
      by_place (place.Bound r lo hi by.Founding) at = rw at (elim (same_or x r) [
        | inl same ↦ rw (← same, eqb-other x n (λ e. ne (sym e))) refl
        | inr off ↦ rw (eqb-other x r off) refl
      ])
      by_place _ at = rw at refl

  first_else : (n : ℕ) → n ≢ x → (d : ℕ) → is_first s n (s.consumer d) ≡ is_first heard n (m.consumer d)
  first_else n ne d = grind (arith, nat_tests, same_or, c_here, and_false, eqb-other, is_first, c_else, first_same)

  entry_else : (n : ℕ) (e : Option Kept) → n ≢ x → KeepsEntry heard n e (m.representation n) → KeepsEntry s n e (s.representation n)
  entry_else n e ne kept = subst (KeepsEntry s n e) (sym (r_else n ne))
      (entry_same heard s n e (m.representation n) refl
      (record {
        users = users_else n ne;
        first = first_else n ne;
        list = bound_same heard s n refl (users_else n ne);
        kind =
            λ p at. kind_same heard s n p refl;
        overs = λ y on. on;
      }) kept)

  -- ITSELF

  abbrev began : Kept
  began = founded_kept f.key (plain f.head) w.c (not f.shared) (writer_by f.shared x)

  total_is : total_by o response ≡ founded_total w response
  total_is = ap₂ (λ (n : Need) (e : Request). if brings_part response.status then total_of_part (content_range_of response.fields) else
      promise_of (length_of n e response)) runs.need runs.request

  head_sealed : sealed_head kinds.Growing v.head.total (plain f.head) ≡ v.head
  head_sealed = grind (arith, nat_tests)

  kind_is : (plain f.head).kind ≡ kind_begun (promise_in w response)
  kind_is = ap (λ (h : Head). h.kind) head_is ∙ ap₂ (λ (n : Need) (e : Request). kind_begun (promise_of (length_of n e response))) runs.need runs.request

  total_reported : (plain f.head).total ≡ v.head.total
  total_reported = ap (λ (h : Head). h.total) head_is ∙ total_is

  grows : is_growing s x ≡ not (is_reached (promise_in w response) 0)
  grows = by_test (is_reached (promise_in w response) 0) refl
    where
      z_open : (b : Bool) → is_reached (promise_in w response) 0 ≡ b → z.is_open ≡ not b
      z_open true over = rw over refl
      z_open false over = rw over alone.bare.is_open

      else_off : (y : ℕ) → y ≢ x → brings_to x y (s.exchange y) ≡ false
      else_off y ne = ap (brings_to x y) (x_else y ne) ∙ by_row (m.exchange y) refl
        where
          by_row : (e : Option Exchange) → m.exchange y ≡ e → brings_to x y e ≡ false
          by_row None at = refl
          by_row (Some e) at = (let off : nat_eq (family y e) x ≡ false = eqb-other (family y e) x (fresh.apart y e ne at) in rw off (and_off e.is_open))
            where
              and_off : (b : Bool) → (b && false) ≡ false
              and_off true = refl
              and_off false = refl

      here_is : (b : Bool) → is_reached (promise_in w response) 0 ≡ b → brings_to x x (s.exchange x) ≡ not b
      here_is b over = ap (brings_to x x) x_here ∙
          (ap (λ (e : Bool). e && nat_eq (family x z) x) (z_open b over) ∙
          (ap (λ (n : ℕ). not b && nat_eq n x) own_family ∙ (rw (eqb-same x) (and_on (not b)))))
        where
          and_on : (b : Bool) → (b && true) ≡ b
          and_on true = refl
          and_on false = refl

      by_test : (b : Bool) → is_reached (promise_in w response) 0 ≡ b → is_growing s x ≡ not b
      by_test false over = any_some (λ y. brings_to x y (s.exchange y)) x m.openings fresh.listed (here_is false over)
      by_test true over = any_none (λ y. brings_to x y (s.exchange y)) m.openings (λ y. elim (same_or y x) [
        | inl same ↦ ap (λ (n : ℕ). brings_to x n (s.exchange n)) same ∙ here_is true over
        | inr ne ↦ else_off y ne
      ])

  kind_then : (plain f.head).kind ≡ kind_of s x v
  unfolding kind_of
  kind_then = kind_is ∙ by_promise (promise_in w response) refl
    where
      by_test : (n : ℕ) (b : Bool) → promise_in w response ≡ Some n → (n == 0) ≡ b → (if n == 0 then kinds.Whole else kinds.Growing) ≡ kind_of s x v
      by_test n false is off =
          let on : is_growing s x ≡ true = grows ∙ (ap (λ (p : Option ℕ). not (is_reached p 0)) is ∙ ap not off) in
          rw (off, on) refl
      by_test n true is over =
          let off : is_growing s x ≡ false = grows ∙ (ap (λ (p : Option ℕ). not (is_reached p 0)) is ∙ ap not over) in
          let all : founded_total w response ≡ Some 0 = empties (is ∙ ap Some (grind (arith, nat_tests, over))) in
          rw (over, off, all) refl

      by_promise : (p : Option ℕ) → promise_in w response ≡ p → kind_begun (promise_in w response) ≡ kind_of s x v
      by_promise None is = (let on : is_growing s x ≡ true = grows ∙ ap (λ (p : Option ℕ). not (is_reached p 0)) is in ap kind_begun is ∙ sym (rw on refl))
      by_promise (Some n) is = ap kind_begun is ∙ by_test n (n == 0) is refl

  whole_then : (n : ℕ) → (plain f.head).kind ≡ kinds.Whole → (plain f.head).total ≡ Some n → Covers nothing 0 n
  whole_then n whole total = by_promise (promise_in w response) refl
    where
      none_in : founded_total w response ≡ Some 0 → Covers nothing 0 n
      none_in all p low high = (let same : n ≡ 0 = some_is n 0 (sym total ∙ (total_reported ∙ all)) in absurd (omega (arith, same, high)))

      by_promise : (p : Option ℕ) → promise_in w response ≡ p → Covers nothing 0 n
      by_promise None is = absurd (let never : kinds.Growing ≡ kinds.Whole = sym (kind_is ∙ ap kind_begun is) ∙ whole in cc)
      by_promise (Some i) is = elim (same_or i 0) [
        | inl none ↦ none_in (empties (is ∙ ap Some none))
        | inr some ↦ absurd (let never : kinds.Growing ≡ kinds.Whole = sym (kind_is ∙ (ap kind_begun is ∙ rw (eqb-other i 0 some) refl)) ∙ whole in cc)
      ]

  status_shares : brings_part response.status ≡ not f.shared
  status_shares = sym (ap not shares ∙ grind (arith, nat_tests))

  began_bound : (d : ℕ) → has itself d (w.c ∷ []) ≡ is_bound x (s.consumer d)
  began_bound d = elim (same_or w.c d) [
    | inl e ↦ rw (← e, c_here, eqb-same w.c, eqb-same x) refl
    | inr ne ↦ rw (eqb-other w.c d ne) (sym (not_true (is_bound x (m.consumer d)) (λ on. unbound_row d (m.consumer d) refl on)))
  ]
    where
      by_place : (d : ℕ) (e : rows.Consumer) (p : Place) → m.consumer d ≡ Some e → e.place ≡ p → is_bound_place x p ≡ true → ⊥
      by_place d e (place.Bound r lo hi how) at stood on =
          (let same : r ≡ x = grind (arith, nat_tests, on) in fresh.unbound d lo hi how e at (stood ∙ ap (λ (n : ℕ). place.Bound n lo hi how) same))
      by_place d e _ at stood on = false_true on

      unbound_row : (d : ℕ) (e : Option rows.Consumer) → m.consumer d ≡ e → is_bound x e ≡ true → ⊥
      unbound_row d None at on = false_true on
      unbound_row d (Some e) at on = by_place d e e.place at refl on

  began_first : (d : ℕ) → is_number (alone_if (not f.shared) w.c) d ≡ is_first s x (s.consumer d)
  began_first d = elim (same_or w.c d) [
    | inl e ↦ rw (← e, c_here, eqb-same x, status_shares) (its (not f.shared))
    | inr ne ↦ none (not f.shared) (eqb-other w.c d ne) ∙ sym (by_row (s.consumer d) (sym (began_bound d) ∙ rw (eqb-other w.c d ne) refl))
  ]
    where
      its : (b : Bool) → is_number (alone_if b w.c) w.c ≡ b
      its true = eqb-same w.c
      its false = refl

      none : (b : Bool) → nat_eq w.c d ≡ false → is_number (alone_if b w.c) d ≡ false
      none true off = off
      none false off = refl

      by_row : (e : Option rows.Consumer) → is_bound x e ≡ false → is_first s x e ≡ false
      by_row None off = refl
      by_row (Some e) off = and_false (is_bound_place x e.place) (came_alone s e.place) off

  began_writer : writer_by f.shared x ≡ v.writer
  began_writer = ap (λ b. writer_by b x) shares ∙ grind (arith, nat_tests)

  began_kept : IsEntry s x began v
  began_kept =
      let used : false ≡ true → bound s x ≢ [] = λ gone. false_true gone in
      let key : began.key ≡ v.key = key_is ∙ ap (λ (e : Request). e.key) runs.request in
      let length : KnowsLength began v = stored.reported total_reported in
      let writer : KnowsWriter s.exchange began.writer v.writer = as_written began_writer in
      assumption (used, key, head_sealed, length, kind_then, whole_then, began_bound, began_first, writer)

  entries_kept : KeepsEntries s (shelf_of u.entries)
  entries_kept = record {
    each = λ n. elim (same_or n x) [
      | inl same ↦ subst (λ (i : ℕ). KeepsEntry s i ((shelf_of u.entries).kept i) (s.representation i)) (sym same)
          (subst (λ e. KeepsEntry s x e (s.representation x)) (sym kept_here) (subst (KeepsEntry s x (Some began)) (sym r_here) began_kept))
      | inr ne ↦ subst (λ e. KeepsEntry s n e (s.representation n)) (sym (kept_else n ne)) (entry_else n ((shelf_of a.entries).kept n) ne (heard_kept.each n))
    ];
    order = begins.entries.order ∙
        (ap (λ ns. x ∷ ns) (stands.entries.order ∙
        sym (filters_but (λ n. is_usable_row (m.representation n)) (λ n. is_usable_row (s.representation n)) x m.used (rw alone.bare.unfounded refl)
        (λ n ne. ap is_usable_row (r_else n ne)))) ∙ sym (rw (ap is_usable_row r_here) refl));
  }
    where
      kept_here : (shelf_of u.entries).kept x ≡ Some began
      kept_here = begins.entries.kept x ∙ rw (eqb-same x) refl

      kept_else : (n : ℕ) → n ≢ x → (shelf_of u.entries).kept n ≡ (shelf_of a.entries).kept n
      kept_else n ne = begins.entries.kept n ∙ rw (eqb-other x n (λ e. ne (sym e))) refl

      heard_kept : KeepsEntries heard (shelf_of a.entries)
      heard_kept = entries_heard m x w z alone.bare alone.bare.unjoined (shelf_of a.entries) stands.entries

  -- ALL OF IT

  pub founded_stands : RowsStand limits u s
  founded_stands = record {
    limits = begins.entries.limits ∙ limits_are;
    last_start = begins.last_start ∙ stands.last_start;
    next = begins.exchanges.next ∙ stands.next;
    count = begins.consumers.len ∙ (stands.count ∙ sym (live_same m s refl live_each));
    consumers = consumers_kept;
    exchanges = exchanges_kept;
    keys = keys_kept;
    entries = entries_kept;
  }
