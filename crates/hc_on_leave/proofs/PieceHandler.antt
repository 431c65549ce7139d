-- A piece is answered that isn't stored: what is kept represents the tables then.
--
-- First what it means that a piece isn't denied. Its exchange is open and has its head, and no more comes than that
-- promised (`not_too_long`, `brought_of`, `runs_of`). Whether it brings something is told by its role (`brings_it`,
-- `brings_none`). All files on pieces use these. Past the store its one reader has read no more than came, so what is
-- held for it grows by just the piece (`held_then`). By `PieceRows` that is answered.
use Rattle.std.{proofs.{Common.{◌≡◌, ℕ, ◌+◌, ◌<◌, ◌≤◌, ◌^◌, List, [], ◌++◌, length, drop, Bool, true, false, cond, Option, Some, None, refl, ap, sym, ◌∙◌, subst, arith}, lemmas.{Bool.Decides.{nat_tests}, List.{append-nil, drop-append-le}}}, specs.Prelude.{is_some, is_none, nat_lt, not, option_map, ◌==◌}}
use Rattle.hc_text.proofs.Basics.{eqb-same, false_true, never_true as not_true, not_false as on_by, same_some as same_row, some_inj as some_is}
use Rattle.hc_effects.proofs.Vocabulary.{Limits, Act, Refusal, piece_refusal, overlong, denial, as_open, entry_without_acts, with_piece, family, promised_bytes, base, Lawful, Numbers, Tables, Exchange, Representation, write_in, event}
use Rattle.hc_store.specs.declared.backend.Backend.{Ghosts}
use Rattle.hc_rules.specs.Refusals as refusals
use Rattle.hc_stored.specs.{Entries.{shelf_of}, Kept.{Kept}, declared.entries.Entries.{Entries}}
use Rattle.hc_exch.specs.Exchanges as exch
use Rattle.hc_exch.specs.{Exchanges.{table_of}, Known.{open_view, EndsBelow}, declared.row.Open.{Open}}
use Rattle.hc_exch.specs.Known as known
use Rattle.hc_effects.proofs.{Once.{IsTaken, taken}, Tests.{none_some}}
use Rattle.hc_effects.proofs.PieceEffects as does
use Rattle.hc_state.specs.{declared.rows.Rows.{Rows}, Facts.{Facts}, Kept.{IsRunning, KeepsRunning, unread, held_of, held_for}, Stands.{Answered, RowsStand, Stands}, Stops.{body_of, brought_by}, Stored.{KeepsEntry}}
use Rattle.hc_state.proofs.{Answering.{does_answered}, Fallbacks.{held_alike, same}, Maps.{merely_below}}
use Rattle.hc_on_leave.proofs.{HeardRows.{heard_row}, PieceRows.{s, like_same, stands_pieced, none_is}}

-- HOW FAR IT REACHES

test_off : (b : Bool) (r : Refusal) (rest : Option Refusal) → cond b (Some r) rest ≡ None → (b ≡ false) × (rest ≡ None)
test_off b r rest is = grind (arith, nat_tests)

within : (p got : ℕ) (r : Refusal) → cond (nat_lt p got) (Some r) None ≡ None → got ≤ p
within p got r is = let off = (test_off (nat_lt p got) r None is).0 in grind (arith, nat_tests, off)

pub not_overlong : (o : Option ℕ) (got p : ℕ) → overlong o got ≡ None → o ≡ Some p → got ≤ p
not_overlong o got p none is = grind (arith, nat_tests)

-- it has a head, and brings no more than that promised
pub not_too_long : (o : Open) (n : ℕ) → piece_refusal (Some (open_view o)) n ≡ None → (o.headed ≡ true) × (0 < n) ×
    ((p : ℕ) → o.promised ≡ Some p → o.delivered + n ≤ p)
not_too_long o n none = grind (arith, nat_tests)

pub piece_below : {B : Type 0} {g : Ghosts B} {limits : Limits} (r : Rows B g) (t : Tables) (facts : Facts limits t) (x n : ℕ) (o : Open) → Numbers t →
    t.received < 2 ^ 61 → n < 2 ^ 61 → RowsStand limits r t → (table_of r.exchanges x).running ≡ Some o → piece_refusal (Some (open_view o)) n ≡ None →
    o.base + o.delivered + n < 2 ^ 62 + 1
piece_below r t facts x n o numbers few short stands running none =
    let allowed = not_too_long o n none in
    let h = heard_row r t x o stands running in
    let w = h.w in
    by_promise w (promised_bytes w) refl h.is.delivered h.is.base_is (facts.law.places.received x w h.row) (λ p is. allowed.2 p (h.is.promised_is ∙ is))
    (λ none. numbers.unpromised x w h.row none) (λ p is. numbers.promises x p w h.row is)
  where
    by_promise : (w : Exchange) (p : Option ℕ) → promised_bytes w ≡ p → o.delivered ≡ length w.body → o.base ≡ base w → length w.body ≤ t.received →
        ((m : ℕ) → promised_bytes w ≡ Some m → o.delivered + n ≤ m)
        → (promised_bytes w ≡ None → base w ≡ 0) → ((m : ℕ) → promised_bytes w ≡ Some m → base w + m ≤ 2 ^ 62) → o.base + o.delivered + n < 2 ^ 62 + 1
    by_promise w None is came begins got fits start most = let zero : base w ≡ 0 = start is in omega (arith, zero, came, begins, got, few, short)
    by_promise w (Some m) is came begins got fits start most = let le = fits m is in let reach = most m is in omega (arith, le, reach, begins)

-- what the counts of an exchange need
pub ends_below : {B : Type 0} {g : Ghosts B} (r : Rows B g) (x n : ℕ) → ∥ Stands r ∥₁ → n < 2 ^ 61 → (running : Option Open) →
    (table_of r.exchanges x).running ≡ running → piece_refusal (option_map open_view running) n ≡ None → EndsBelow n running
ends_below r x n some short None is none = tt
ends_below r x n some short (Some o) is none =
    let below : o.base + o.delivered + n < 2 ^ 62 + 1 =
    merely_below (o.base + o.delivered + n) (2 ^ 62 + 1) some (λ p. piece_below r p.t p.facts x n o p.numbers p.received short p.rows is none) in
    omega (arith, below)

-- ITS EXCHANGE

pub record Brought (t : Tables) (x n : ℕ) : Type 0 where
  pub w : Exchange
  pub row : t.exchange x ≡ Some w
  pub taken : IsTaken w n

pub brought_of : (t : Tables) (x : ℕ) (bytes : List ℕ) → denial t (event.Piece x bytes) ≡ None → Brought t x (length bytes)
unfolding refusals.refusal_of
brought_of t x bytes goes = by_row (t.exchange x) refl goes
  where
    by_row : (e : Option Exchange) → t.exchange x ≡ e → piece_refusal (as_open (t.exchange x)) (length bytes) ≡ None → Brought t x (length bytes)
    by_row None at accepted = none_some _ (sym (ap (λ e. piece_refusal (as_open e) (length bytes)) (sym at) ∙ accepted))
    by_row (Some w) at accepted =
        record { w = w; row = at; taken = taken (length bytes) w (sym (ap (λ e. piece_refusal (as_open e) (length bytes)) at) ∙ accepted) }

pub open_unended : (t : Tables) (law : Lawful t) (x : ℕ) (w : Exchange) → t.exchange x ≡ Some w → w.is_open ≡ true → w.is_ended ≡ false
open_unended t law x w row opened = not_true w.is_ended (λ on. false_true (sym (law.places.ended x w row on) ∙ opened))

-- as the rows have it
pub record Runs {B : Type 0} {g : Ghosts B} (r : Rows B g) (t : Tables) (x : ℕ) (w : Exchange) : Type 0 where
  pub o : Open
  pub running : (table_of r.exchanges x).running ≡ Some o
  pub is : IsRunning t x o w

pub runs_of : {B : Type 0} {g : Ghosts B} {limits : Limits} (r : Rows B g) (t : Tables) (x : ℕ) (w : Exchange) → RowsStand limits r t →
    t.exchange x ≡ Some w → w.is_open ≡ true → Runs r t x w
runs_of r t x w stands row opened =
    by_open (table_of r.exchanges x).running refl (subst (KeepsRunning t x (table_of r.exchanges x).running) row (stands.exchanges x).running)
  where
    by_open : (k : Option Open) → (table_of r.exchanges x).running ≡ k → KeepsRunning t x k (Some w) → Runs r t x w
    by_open None at kept = false_true (sym kept ∙ opened)
    by_open (Some o) at kept = record { o = o; running = at; is = kept }

-- what it brings where it has a head
pub brings_none : (t : Tables) (x : ℕ) (o : Open) (w : Exchange) → IsRunning t x o w → is_some w.head ≡ true → body_of o.role ≡ None →
    t.representation (family x w) ≡ None
brings_none t x o w is headed none = grind (arith, nat_tests)

pub brings_it : (t : Tables) (x q : ℕ) (o : Open) (w : Exchange) → IsRunning t x o w → is_some w.head ≡ true → body_of o.role ≡ Some q →
    (family x w ≡ q) × ((v : Representation) × (t.representation (family x w) ≡ Some v))
brings_it t x q o w is headed some = by_row (t.representation (family x w)) refl
  where
    by_row : (e : Option Representation) → t.representation (family x w) ≡ e → (family x w ≡ q) ×
        ((v : Representation) × (t.representation (family x w) ≡ Some v))
    by_row None at = none_some q (sym (ap body_of is.role ∙ rw (none_is w.head headed, at) refl) ∙ some)
    by_row (Some v) at = (some_is (family x w) q (sym (ap body_of is.role ∙ rw (none_is w.head headed, at) refl) ∙ some), (v, at))

-- PAST THE STORE

module _ {B : Type 0} {g : Ghosts B} {limits : Limits} (r u : Rows B g) (t : Tables) (facts : Facts limits t) (stands : RowsStand limits r t) (now x : ℕ)
    (bytes : List ℕ) (goes : denial t (event.Piece x bytes) ≡ None) (past : brought_by (table_of r.exchanges x).running ≡ None)
    (last : u.last_start ≡ r.last_start) (same_map : u.consumers ≡ r.consumers) (same_keys : u.keys ≡ r.keys) (same_entries : u.entries ≡ r.entries)
    (becomes : exch.Becomes (known.with_piece bytes true) x r.exchanges u.exchanges) where
  b : Brought t x (length bytes)
  b = brought_of t x bytes goes

  runs : Runs r t x b.w
  runs = runs_of r t x b.w stands b.row b.taken.is_open

  none : t.representation (family x b.w) ≡ None
  none = brings_none t x runs.o b.w runs.is b.taken.headed (sym (ap brought_by runs.running) ∙ past)

  abbrev after : Tables
  after = s t now x b.w bytes t.representation

  held_then : held_for after x (Some (with_piece bytes b.w)) ≡ held_for t x (Some b.w) ++ bytes
  held_then =
      let reads = facts.law.places.read x b.w b.row b.taken.is_open b.taken.headed none in
      let k = reads.k in
      let at = reads.place_is in
      let past = facts.law.places.direct b.w.c x k reads.row at in
      let same_w : past.w ≡ b.w = same_row (t.exchange x) past.w b.w past.row b.row in
      let old : unread x b.w (Some k) ≡ drop k.given b.w.body = rw (at, eqb-same x) refl in
      ap (held_of after x (with_piece bytes b.w)) none
      ∙ (ap (unread x (with_piece bytes b.w)) reads.row
      ∙ ((rw (at, eqb-same x) refl)
      ∙ (drop-append-le k.given b.w.body bytes (subst (λ (e : Exchange). k.given ≤ length e.body) same_w past.given)
      ∙ ap (λ (ys : List ℕ). ys ++ bytes) (sym (ap (held_of t x b.w) none ∙ (ap (unread x b.w) reads.row ∙ old))))))

  kept_none : KeepsEntry after (family x b.w) ((shelf_of u.entries).kept (family x b.w)) (t.representation (family x b.w))
  kept_none = subst (λ (e : Entries B g). KeepsEntry after (family x b.w) ((shelf_of e).kept (family x b.w)) (t.representation (family x b.w)))
      (sym same_entries) (subst (KeepsEntry after (family x b.w) ((shelf_of r.entries).kept (family x b.w))) (sym none)
      (by_kept ((shelf_of r.entries).kept (family x b.w))
      (subst (KeepsEntry t (family x b.w) ((shelf_of r.entries).kept (family x b.w))) none (stands.entries.each (family x b.w)))))
    where
      by_kept : (k : Option Kept) → KeepsEntry t (family x b.w) k None → KeepsEntry after (family x b.w) k None
      by_kept None kept = tt
      by_kept (Some k) kept = absurd kept

  past_stands : RowsStand limits u after
  past_stands =
      stands_pieced t now x b.w bytes t.representation b.row b.taken.is_open b.taken.headed r u stands
      (open_unended t facts.law x b.w b.row b.taken.is_open) (λ q. like_same (t.representation q) (t.representation q) refl) (λ q ne. refl) true runs.o
      runs.running
      last same_map same_keys becomes
      (ap (λ (ys : List ℕ). ys ++ bytes) ((stands.exchanges x).held ∙ ap (held_for t x) b.row) ∙ sym held_then)
      (λ y e ne at. held_alike t after (λ d. same refl) y e refl)
      (rw same_entries stands.limits) (λ q ne. rw same_entries refl) (rw same_entries refl) kept_none

  pub past_answered : (before : List Act) → Answered limits (shelf_of r.entries).faults u t before before now (event.Piece x bytes)
  past_answered before =
      does_answered limits (shelf_of r.entries).faults u t after before before [] now (event.Piece x bytes)
      (does.past limits t facts.law now x bytes b.w b.row goes none) unwritten refl (sym (append-nil before)) past_stands
    where
      unwritten : write_in t (entry_without_acts now (event.Piece x bytes)) (event.Piece x bytes) ≡ None
      unwritten =
          let at = b.row in
          let gone = none in
          rw (at, gone) refl
