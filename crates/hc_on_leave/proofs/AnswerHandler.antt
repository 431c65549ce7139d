-- The head of an answer past the store came: what is kept represents the tables then.
--
-- Its consumer alone reads the exchange, which brought and founded nothing yet: so by `HeardExchange` all else stays.
-- The consumer is kept with the answer that it is to be shown, and where its body begins and ends. The exchange is over
-- if all that it promised came with the head, and else goes on past the store (`running_is`). `stands_answered` joins
-- this; `stands_answered_as` says it by what `have_answer` of `hc_on_head` looked up.
use Rattle.std.{proofs.{lemmas.Bool.Decides.{nat_tests}, Common.{◌≡◌, ◌≢◌, ℕ, Bool, true, false, cond, Option, Some, None, refl, ap, sym, ◌∙◌, subst, arith}}, specs.{Prelude.{nat_eq, option_map}, HashMap.{get}}}
use Rattle.hc_text.proofs.Basics.{eqb-other, eqb-same, false_true, some_inj as some_is}
use Rattle.hc_effects.proofs.Vocabulary.{Limits, Response, Length, length_of, is_bad, base_of, promise_of, head_refusal, exchange_with_head, is_reached, promised_bytes, lo_of, hi_of, Tables, Exchange, place}
use Rattle.hc_store.specs.declared.backend.Backend.{Ghosts}
use Rattle.hc_rules.specs.declared.length.Length.TheVariants as says
use Rattle.hc_stored.specs.Entries.{shelf_of}
use Rattle.hc_exch.specs.{declared.{role.Role.TheVariants.{the_data as role}, row.{Open.{Open}, Opening.{Opening}}, exchanges.Exchanges.{Exchanges}}, Exchanges.{table_of}, Known.{Known, is_all, open_view, begins_with, length_by, turned_into, with_good_head}, Openings.{opened_with}}
use Rattle.hc_exch.specs.Exchanges as exch
use Rattle.hc_model.specs.Effects as effects
use Rattle.hc_model.specs.Rows as rows
use Rattle.hc_state.specs.{declared.rows.Rows.{Rows}, Changes.{Numbered, ChangesAt}, Heads.{IsReadAlone, EndsInRange, answered_by, end_of_answer, end_from}, Kept.{IsKept, IsRunning, KeepsConsumer, KeepsExchange, KeepsRunning, answer_for, held_for, role_of}, Stands.{RowsStand}}
use Rattle.hc_txn.specs.{declared.transaction.Transaction.{Transaction as Consumer}, Transactions.{with_answer}}
use Rattle.hc_effects.proofs.{ReportedNumbers.{EndsEarly}, Tests.{none_some}}
use Rattle.hc_on_leave.proofs.{HeardExchange.{held_empty, held_else, here, others, key_heard, entries_heard}, HeardRows.{headless_of, runs_as, kept_as}}
use Rattle.hc_state.proofs.{OneOfEach.{stands_then}, QueueHandler.{becomes_by}}

-- all that is promised has come
pub all_reached : (o : Option ℕ) (n : ℕ) → is_all o n ≡ is_reached o n
all_reached o n = grind (arith, nat_tests)

-- what is known of one that changes, and of another
pub known_here : (f : Known → Known) (x : ℕ) (a b : Exchanges) → exch.Becomes f x a b → table_of b x ≡ f (table_of a x)
known_here f x a b becomes = becomes.table x ∙ rw (eqb-same x) refl

pub known_other : (f : Known → Known) (x y : ℕ) (a b : Exchanges) → exch.Becomes f x a b → y ≢ x → table_of b y ≡ table_of a y
known_other f x y a b becomes ne = becomes.table y ∙ rw (eqb-other x y (λ e. ne (sym e))) refl

module _ {B : Type 0} {g : Ghosts B} {limits : Limits} (r u : Rows B g) (t : Tables) (now x : ℕ) (response copied : Response) (w : Exchange)
    (v : rows.Consumer) (k : Consumer) (o : Open) (l : Length) (mid : Exchanges) (stands : RowsStand limits r t) (alone : IsReadAlone t x w v)
    (there : get nat_eq r.consumers w.c ≡ Some k) (running : (table_of r.exchanges x).running ≡ Some o)
    (reported : l ≡ length_of w.need w.request response) (copies : copied ≡ response)
    (last : u.last_start ≡ r.last_start) (same_keys : u.keys ≡ r.keys) (same_entries : u.entries ≡ r.entries)
    (turned : exch.Becomes (turned_into role.Direct) x r.exchanges mid) (headed : exch.Becomes (with_good_head l) x mid u.exchanges)
    (changes : ChangesAt r.consumers u.consumers w.c (answered_by copied l)) where
  abbrev z : Exchange
  z = exchange_with_head now response w.joined w

  abbrev s : Tables
  s = effects.with_answer now x response w.joined w t

  is : IsKept t k v
  is = kept_as r t w.c v k stands alone.asker there

  runs : IsRunning t x o w
  runs = runs_as r t x o w stands running alone.bare.row

  s_here : s.exchange x ≡ Some z
  s_here = here t x w z alone.bare alone.bare.unjoined

  -- THE CONSUMER

  answer_is : answer_for s v ≡ Some response
  answer_is = rw (alone.unshown, alone.at, eqb-same x) refl

  begins : lo_of s v.place ≡ base_of l
  begins = rw (alone.at, eqb-same x, reported) refl

  ends : hi_of s v.place ≡ end_of_answer l
  ends = grind (arith, nat_tests)

  consumer_kept : IsKept s (answered_by copied l k) v
  consumer_kept = assumption (is, ap Some copies ∙ sym answer_is, sym begins, sym ends)

  -- THE EXCHANGE

  known_then : table_of u.exchanges x ≡ with_good_head l (turned_into role.Direct (table_of r.exchanges x))
  known_then = known_here (with_good_head l) x mid u.exchanges headed ∙ ap (with_good_head l) (known_here (turned_into role.Direct) x r.exchanges mid turned)

  abbrev opened : Open
  opened = record o { role = role.Direct; headed = true; base = base_of l; promised = promise_of l }

  running_is : (b : Bool) → is_all (promise_of l) 0 ≡ b →
      (with_good_head l (turned_into role.Direct (table_of r.exchanges x))).running ≡ cond b None (Some opened)
  running_is b over = grind (arith, nat_tests)

  held_same : (b : Bool) → is_all (promise_of l) 0 ≡ b →
      (with_good_head l (turned_into role.Direct (table_of r.exchanges x))).held ≡ (table_of r.exchanges x).held
  held_same b over = grind (arith, nat_tests)

  reached_is : is_all (promise_of l) 0 ≡ is_reached (promise_of (length_of w.need w.request response)) 0
  reached_is = all_reached (promise_of l) 0 ∙ ap (λ (q : Length). is_reached (promise_of q) 0) reported

  runs_then : (b : Bool) → is_reached (promise_of (length_of w.need w.request response)) 0 ≡ b → KeepsRunning s x (cond b None (Some opened)) (Some z)
  runs_then true over = rw over refl
  runs_then false over =
      let is_open : z.is_open ≡ true = rw over alone.bare.is_open in
      let role : role.Direct ≡ role_of s x z = rw (alone.bare.unjoined, alone.bare.unfounded) refl in
      assumption (runs, is_open, role, ap base_of reported, ap promise_of reported)

  exchange_kept : KeepsExchange s x (table_of u.exchanges x)
  exchange_kept = record {
    running = subst (λ (q : Option Exchange). KeepsRunning s x (table_of u.exchanges x).running q) (sym s_here)
        (subst (λ (q : Option Open). KeepsRunning s x q (Some z))
        (sym (ap (λ (q : Known). q.running) known_then ∙ running_is (is_reached (promise_of (length_of w.need w.request response)) 0) reached_is))
        (runs_then (is_reached (promise_of (length_of w.need w.request response)) 0) refl));
    held = ap (λ (q : Known). q.held) known_then
        ∙ (held_same (is_all (promise_of l) 0) refl
        ∙ ((stands.exchanges x).held
        ∙ (ap (held_for t x) alone.bare.row
        ∙ (held_empty t x w alone.bare.empty alone.bare.unjoined alone.bare.unfounded
        ∙ sym (ap (held_for s x) s_here ∙ held_empty s x z alone.bare.empty alone.bare.unjoined alone.bare.unfounded)))));
  }

  pub stands_answered : RowsStand limits u s
  stands_answered =
      stands_then r u t s w.c x (Some (answered_by copied l k)) stands (last ∙ stands.last_start) (headed.next ∙ (turned.next ∙ stands.next))
      (changes.len ∙ stands.count) (becomes_by r.consumers u.consumers w.c k (answered_by copied l) there changes)
      (λ y ne. known_other (with_good_head l) x y mid u.exchanges headed ne ∙ known_other (turned_into role.Direct) x y r.exchanges mid turned ne)
      (λ d ne. refl) (λ y ne. others t x w z alone.bare alone.bare.unjoined y ne) (λ q. refl)
      (subst (KeepsConsumer s (Some (answered_by copied l k))) (sym alone.asker) consumer_kept) exchange_kept
      (λ key. rw same_keys (key_heard t x w z alone.bare alone.bare.unjoined key _ (stands.keys key)))
      (λ d j ne row at. ne (alone.only d j row at))
      (λ y e ne row. held_else t x w z alone.bare alone.bare.unjoined y e)
      (rw same_entries stands.limits) (rw same_entries (entries_heard t x w z alone.bare alone.bare.unjoined (shelf_of r.entries) stands.entries))

-- BY WHAT THE CODE LOOKED UP

pub ends_in_range : (l : Length) → EndsEarly l → EndsInRange l
ends_in_range (says.Promised m) early = λ n is. (let same : m ≡ n = some_is m n is in omega (arith, same, early))
ends_in_range (says.Part first m) early = λ n is. (let same : m ≡ n = some_is m n is in omega (arith, same, early))
ends_in_range _ early = λ n is. none_some n is

-- what it was opened with
pub opened_as : (op : Opening) (running : Option Open) (o : Open) → Some (opened_with op) ≡ option_map begins_with running → running ≡ Some o →
    (op.need.now ≡ o.need) × (op.request.now ≡ o.request)
opened_as op running o is at = grind (arith, nat_tests)

-- whoever reads past the store is kept
pub reader_kept : {B : Type 0} {g : Ghosts B} {limits : Limits} (r : Rows B g) (t : Tables) (c x : ℕ) (v : rows.Consumer) → RowsStand limits r t →
    t.consumer c ≡ Some v → v.place ≡ place.Direct x → (k : Consumer) × (get nat_eq r.consumers c ≡ Some k)
reader_kept r t c x v stands row at = by_kept (get nat_eq r.consumers c) refl (subst (KeepsConsumer t (get nat_eq r.consumers c)) row (stands.consumers c))
  where
    by_kept : (o : Option Consumer) → get nat_eq r.consumers c ≡ o → KeepsConsumer t o (Some v) → (k : Consumer) × (get nat_eq r.consumers c ≡ Some k)
    by_kept None there kept = false_true (sym kept ∙ rw at refl)
    by_kept (Some k) there kept = (k, there)

pub stands_answered_as : {B : Type 0} {g : Ghosts B} {limits : Limits} (r u : Rows B g) (t : Tables) (now x c : ℕ) (response copied : Response)
    (w : Exchange) (v : rows.Consumer) (op : Opening) (l : Length) (mid : Exchanges) → RowsStand limits r t → IsReadAlone t x w v → w.c ≡ c
    → head_refusal (option_map open_view (table_of r.exchanges x).running) ≡ None →
    Some (opened_with op) ≡ option_map begins_with (table_of r.exchanges x).running → l ≡ length_of op.need.now op.request.now response
    → is_bad (length_by (table_of r.exchanges x).running response) ≡ false → copied ≡ response → u.last_start ≡ r.last_start → u.keys ≡ r.keys →
    u.entries ≡ r.entries
    → exch.Becomes (turned_into role.Direct) x r.exchanges mid →
    (is_bad (length_by (table_of mid x).running response) ≡ false →
    exch.Becomes (with_good_head (length_by (table_of mid x).running response)) x mid u.exchanges)
    → ChangesAt r.consumers u.consumers c (answered_by copied l) → RowsStand limits u (effects.with_answer now x response w.joined w t)
stands_answered_as r u t now x c response copied w v op l mid stands alone for_it accepted opens reported good copies last same_keys same_entries turned
    headed changes =
    let h = headless_of (table_of r.exchanges x).running accepted in
    let o = h.o in
    let runs = runs_as r t x o w stands h.there alone.bare.row in
    let same = opened_as op (table_of r.exchanges x).running o opens h.there in
    let k = reader_kept r t w.c x v stands alone.asker alone.at in
    let reported_by : l ≡ length_of o.need o.request response = reported ∙
    (ap (λ n. length_of n op.request.now response) same.0 ∙ ap (λ q. length_of o.need q response) same.1) in
    let by_role : Option Open → Length = λ z. length_by (option_map (λ (q : Open). record q { role = role.Direct }) z) response in
    let mid_is : length_by (table_of mid x).running response ≡ length_by (table_of r.exchanges x).running response =
    ap (λ (z : Known). length_by z.running response) (known_here (turned_into role.Direct) x r.exchanges mid turned)
    ∙ (ap by_role h.there ∙ sym (ap (λ (z : Option Open). length_by z response) h.there)) in
    let here_is : length_by (table_of r.exchanges x).running response ≡ length_of o.need o.request response =
    ap (λ (z : Option Open). length_by z response) h.there in
    stands_answered r u t now x response copied w v k.0 o l mid stands alone k.1 h.there
    (reported_by ∙ (ap (λ n. length_of n o.request response) runs.need ∙ ap (λ q. length_of w.need q response) runs.request)) copies last same_keys
    same_entries turned
    (subst (λ (q : Length). exch.Becomes (with_good_head q) x mid u.exchanges) (mid_is ∙ (here_is ∙ sym reported_by)) (headed (ap is_bad mid_is ∙ good)))
    (subst (λ (d : ℕ). ChangesAt r.consumers u.consumers d (answered_by copied l)) (sym for_it) changes)

pub changes_as_reported : (m n : Numbered Consumer) (c : ℕ) (answer : Response) (l : Length) (lo : ℕ) (hi : Option ℕ) → lo ≡ base_of l →
    hi ≡ end_of_answer l → ChangesAt m n c (with_answer answer lo hi) → ChangesAt m n c (answered_by answer l)
changes_as_reported m n c answer l lo hi begins ends changes =
    subst (λ (b : ℕ). ChangesAt m n c (with_answer answer b (end_of_answer l))) begins
    (subst (λ (e : Option ℕ). ChangesAt m n c (with_answer answer lo e)) ends changes)
