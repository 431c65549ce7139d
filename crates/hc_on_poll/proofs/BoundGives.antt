-- A bound reader is given what is stored ahead or held for it, or waits for more: the rows represent the tables then.
--
-- In all three cases only the consumer's count of bytes changes, or that an exchange is asked. What is held has the
-- work. If stored bytes are given, what is held for the reader stays: its first lacking byte is past them all the same
-- (`lacks_same`). If held bytes are given, nothing behind them is stored, so just these go (`lacking`). More bytes are
-- asked for by `Asking`. `ReadOn` uses the three lemmas `.._answered`.
use Rattle.std.{proofs.{Common.{◌≡◌, ◌≢◌, inl, inr, ℕ, zero, suc, ◌+◌, ◌-◌, ◌<◌, ◌≤◌, List, [], ◌++◌, length, drop, take, min, Bool, true, false, Option, Some, None, refl, ap, ap₂, sym, ◌∙◌, subst, arith}, Math.ListN.{drop_of_length-le}, lemmas.{Bool.Decides.{nat_tests}, Grind.{common_steps}}}, specs.{Prelude.{is_some, is_none, nat_eq, ◌&&◌, if◌then◌else◌}, HashMap.{get}}}
use Rattle.hc_text.proofs.Basics.{and_both as both_true, eqb-other, eqb-same, false_true, lt_cases as lt_or, same_or, same_some as same_row}
use Rattle.hc_effects.proofs.Vocabulary.{Limits, Act, Event, BoundBy, is_number, Does, with_consumer, with_ask, with_event, base, front, family, NoFlaw, first_place, absent_from, Gives, Asks, acts_of, move_of, is_bound_place, lo_of, offset, Tables, Exchange, Representation, wait, event, place}
use Rattle.hc_store.specs.declared.backend.Backend.{Ghosts}
use Rattle.hc_sparse.specs.{Cells.{Cells}, Runs.{end_of}, declared.run.Run.{Run}}
use Rattle.hc_stored.specs.Entries.{shelf_of}
use Rattle.hc_stored.specs.Shelf as shelf
use Rattle.hc_exch.specs.Exchanges as exch
use Rattle.hc_exch.specs.{Exchanges.{table_of, next_of}, Known.{Known, with_asking, without_first}}
use Rattle.hc_model.specs.Moves as moves
use Rattle.hc_model.specs.Rows as rows
use Rattle.hc_effects.proofs.{AskEffects.{asks}, GiveEffects.{gives_bytes}, WaitEffects.{waits_on}}
use Rattle.hc_state.specs.{declared.rows.Rows.{Rows}, Handlers.{asks_or_waits, asked_in, given_acts}, Changes.{ChangesAt}, Facts.{Facts}, Kept.{KeepsExchange, KeepsRunning, held_for, held_of, held_alone, unread, unstored_bytes, first_lacking}, Stands.{RowsStand, Answered}}
use Rattle.hc_txn.specs.{declared.transaction.Transaction.{Transaction as Consumer}, Transactions.{once_given}}
use Rattle.hc_state.proofs.{Answering.{does_answered}, Counting.{stands_counted}, QueueHandler.{becomes_by}, ReaderSteps.{held_same, exchange_reading, stands_reading}, Ties.{runs_same}}
use Rattle.hc_on_poll.proofs.{Asking.{stands_asked, stands_asked_already}, BoundViews.{Holds, absent_here, offset_is, unstored_own, unread_bound}, ShowStored.{IsBoundRow}, ReadPast.{itself}}
use Rattle.hc_partial.proofs.HoleLemmas.{present-none}

-- WHAT ISN'T STORED, PAST WHAT IS

same_places : (f : Cells) (a b m n : ℕ) → a ≡ b → m ≡ n → first_place is_none f a m ≡ first_place is_none f b n
same_places f a b m n p q = ap₂ (λ (i j : ℕ). first_place is_none f i j) p q

first_skip : (f : Cells) (l n p : ℕ) → ((i : ℕ) → i < l → is_some (f (p + i)) ≡ true) → l ≤ n →
    first_place is_none f p n ≡ first_place is_none f (p + l) (n - l)
first_skip f zero n p each le = same_places f p (p + 0) n (n - 0) (omega arith) (omega arith)
first_skip f (suc l) zero p each le = absurd (let none : ⊥ = omega (arith, le) in none)
first_skip f (suc l) (suc n) p each le =
    let here : is_some (f p) ≡ true = subst (λ (m : ℕ). is_some (f m) ≡ true) (let at : p + 0 ≡ p = omega arith in at) (each 0 (omega arith)) in
    let rest = first_skip f l n (p + 1)
    (λ i lt. subst (λ (m : ℕ). is_some (f m) ≡ true) (let at : p + (i + 1) ≡ p + 1 + i = omega arith in at) (each (i + 1) (omega (arith, lt))))
    (omega (arith, le)) in
    ap (λ (b : Bool). if b then p else first_place is_none f (p + 1) n) (present-none (f p) here)
    ∙ (rest ∙ same_places f (p + 1 + l) (p + suc l) (n - l) (suc n - suc l) (omega arith) (omega arith))

first_end : (f : Cells) (n p : ℕ) → ((i : ℕ) → i < n → is_some (f (p + i)) ≡ true) → first_place is_none f p n ≡ p + n
first_end f n p each = first_skip f n n p each (omega arith) ∙ ap (first_place is_none f (p + n)) (let none : n - n ≡ 0 = omega arith in none)

-- as much isn't stored, past what is stored
lacks_same : (f : Cells) (reach o l base n : ℕ) (body : List ℕ) → ((i : ℕ) → i < l → is_some (f (o + i)) ≡ true) → o + l ≤ reach →
    n ≡ base + length body → drop (absent_from f reach (o + l) n - base) body ≡ drop (absent_from f reach o n - base) body
lacks_same f reach o l base n body each within front_is = elim (lt_or (min n reach) (o + l)) [
  | inr le ↦
      let up = le.1 in
      let same : absent_from f reach o n ≡ absent_from f reach (o + l) n = first_skip f l (min n reach - o) o each (omega (arith, up)) ∙
      ap (first_place is_none f (o + l)) (let less : min n reach - o - l ≡ min n reach - (o + l) = omega arith in less) in
      ap (λ (m : ℕ). drop (m - base) body) (sym same)
  | inl less ↦
      let lt = less.1 in
      let none : min n reach - (o + l) ≡ 0 = omega (arith, lt) in
      let then_at : absent_from f reach (o + l) n ≡ o + l = ap (first_place is_none f (o + l)) none in
      let at : absent_from f reach o n ≡ o + (min n reach - o) =
      first_end f (min n reach - o) o (λ i few. each i (let less_i = few in omega (arith, less_i, lt))) in
      let empty : drop (absent_from f reach (o + l) n - base) body ≡ [] = drop_of_length-le body (omega (arith, then_at, lt, within, front_is)) in
      empty ∙ sym (drop_of_length-le body (omega (arith, at, lt, within, front_is)))
]

if_same : (b : Bool) (xs ys : List ℕ) → (b ≡ true → xs ≡ ys) → (if b then xs else []) ≡ (if b then ys else [])
if_same true xs ys same = same refl
if_same false xs ys same = refl

given_drop : (n m : ℕ) (body bytes : List ℕ) → bytes ≡ take n (drop m body) → drop n (drop m body) ≡ drop (m + length bytes) body
given_drop n m body bytes is = taken n m body ∙ ap (λ (xs : List ℕ). drop (m + length xs) body) (sym is)
  where
    taken : (n m : ℕ) (xs : List ℕ) → drop n (drop m xs) ≡ drop (m + length (take n (drop m xs))) xs
    taken n m xs = grind (arith, common_steps)

-- WHAT IS DONE

module _ {B : Type 0} {g : Ghosts B} {limits : Limits} (r u : Rows B g) (t : Tables) (facts : Facts limits t) (stands : RowsStand limits r t)
    (now want c q : ℕ) (how : BoundBy) (k : Consumer) (rd : IsBoundRow t c q how k) (there : get nat_eq r.consumers c ≡ Some k) (before out : List Act)
    (last : u.last_start ≡ r.last_start) (same_keys : u.keys ≡ r.keys) (same_entries : u.entries ≡ r.entries) where
  abbrev ev : Event
  ev = event.Poll c want

  abbrev o : ℕ
  o = k.lo + k.given

  unread_store : shelf.Stays (shelf_of r.entries) (shelf_of u.entries)
  unread_store = subst (λ z. shelf.Stays (shelf_of r.entries) (shelf_of z)) (sym same_entries)
      (record { kept = λ n. refl; order = refl; used = refl; limits = refl })

  -- IT IS GIVEN SO MANY MORE

  module _ (l : ℕ) where
    abbrev w : rows.Consumer
    w = record rd.v { given = rd.v.given + l }

    abbrev s : Tables
    s = with_consumer c (Some w) t

    -- it stands behind them
    offset_then : (z : Tables) → offset z w ≡ o + l
    offset_then z =
        let was : offset t rd.v ≡ rd.lo + rd.v.given = ap (λ (n : ℕ). n + rd.v.given) (ap (lo_of t) rd.at) in
        let same = offset_is r t facts stands c q how k rd in
        let here : offset z w ≡ rd.lo + (rd.v.given + l) = ap (λ (n : ℕ). n + (rd.v.given + l)) (ap (lo_of z) rd.at) in
        omega (arith, here, was, same)

    -- none of it is past the store
    unread_same : (y : ℕ) (z : Exchange) → unread y z (Some w) ≡ unread y z (Some rd.v)
    unread_same y z = unread_bound y z w q rd.lo rd.hi how rd.at ∙ sym (unread_bound y z rd.v q rd.lo rd.hi how rd.at)

    module _ (changes : ChangesAt r.consumers u.consumers c (once_given l)) (next : next_of u.exchanges ≡ next_of r.exchanges)
        (exchanges : (y : ℕ) → KeepsExchange s y (table_of u.exchanges y)) where
      stands_given : RowsStand limits u s
      stands_given =
          let kp = rd.kept in
          stands_reading t c rd.v rd.v.shown (rd.v.given + l) rd.row r u stands kp.is_there last same_keys next unread_store
          (once_given l k) (becomes_by r.consumers u.consumers c k (once_given l) there changes)
          (assumption (kp, ap (λ (n : ℕ). n + l) kp.given))
          exchanges

      gives_answered : (run : Run) → length run.bytes ≡ l → move_of t now want c rd.v ≡ Gives run → out ≡ before ++ acts_of c (Gives run) →
          Answered limits (shelf_of r.entries).faults u t before out now ev
      gives_answered run long move acts =
          does_answered limits (shelf_of r.entries).faults u t (with_event now ev s) before out (acts_of c (Gives run)) now ev
          (subst (λ (n : ℕ). Does limits t now ev NoFlaw (acts_of c (Gives run))
          (with_event now ev (with_consumer c (Some (record rd.v { given = rd.v.given + n })) t))) long
          (gives_bytes limits t facts.law now c want rd.v rd.row run move)) refl refl acts
          (stands_counted u s now ev refl stands_given)

  -- OF WHAT IS STORED

  module _ (z : Run) (at : z.at ≡ o) (within : end_of z ≤ rd.p.reach) (each : (p : ℕ) → o ≤ p → p < o + length z.bytes → is_some (rd.p.stored p) ≡ true) where
    abbrev l : ℕ
    l = length z.bytes

    -- what is held for it stays
    held_on : (y : ℕ) (row : Option Exchange) → held_for (with_consumer c (Some (record rd.v { given = rd.v.given + l })) t) y row ≡ held_for t y row
    held_on y None = refl
    held_on y (Some e) = held_same t c rd.v rd.v.shown (rd.v.given + l) rd.row y e (λ mine. unread_same l y e) by_lost
      where
        by_lost : (p : Representation) → t.representation (family y e) ≡ Some p → p.alone ≡ Some c →
            unstored_bytes t y e p (Some (record rd.v { given = rd.v.given + l })) ≡ unstored_bytes t y e p (Some rd.v)
        by_lost p founded alone = if_same (is_bound_place (family y e) rd.v.place && is_number rd.v.own y) _ _ (λ on.
            let bound : is_bound_place (family y e) (place.Bound q rd.lo rd.hi how) ≡ true = sym (ap (is_bound_place (family y e)) rd.at) ∙
            (both_true (is_bound_place (family y e) rd.v.place) (is_number rd.v.own y) on).0 in
            let of_q : q ≡ family y e = grind (arith, nat_tests, bound) in
            let one : rd.p ≡ p = same_row (t.representation (family y e)) rd.p p (sym (ap t.representation of_q) ∙ rd.there) founded in
            let lacks : drop (absent_from p.stored p.reach (o + l) (front e) - base e) e.body ≡ drop (absent_from p.stored p.reach o (front e) - base e)
            e.body =
            subst (λ (b : Representation). drop (absent_from b.stored b.reach (o + l) (front e) - base e) e.body ≡ drop
            (absent_from b.stored b.reach o (front e) - base e) e.body) one
            (lacks_same rd.p.stored rd.p.reach o l (base e) (front e) e.body (λ i few. each (o + i) (omega arith) (let lt = few in omega (arith, lt)))
            (omega (arith, at, within)) refl) in
            ap (λ (n : ℕ). drop (absent_from p.stored p.reach n (front e) - base e) e.body) (offset_then l t)
            ∙ (lacks ∙ ap (λ (n : ℕ). drop (absent_from p.stored p.reach n (front e) - base e) e.body) (offset_is r t facts stands c q how k rd)))

    pub stored_answered : move_of t now want c rd.v ≡ Gives z → out ≡ before ++ given_acts c z.x z.at z.bytes → u.exchanges ≡ r.exchanges →
        ChangesAt r.consumers u.consumers c (once_given l) → Answered limits (shelf_of r.entries).faults u t before out now ev
    stored_answered move acts exchanges changes =
        gives_answered l changes (ap (λ (x : _). next_of x) exchanges)
        (λ y. subst (λ x. KeepsExchange (with_consumer c (Some (record rd.v { given = rd.v.given + l })) t) y (table_of x y)) (sym exchanges)
        (exchange_reading t c rd.v rd.v.shown (rd.v.given + l) rd.row y (table_of r.exchanges y) (held_on y (t.exchange y)) (stands.exchanges y)))
        z refl move acts

  -- OF WHAT IS HELD

  module _ (h : Holds r t c q k rd.v rd.p) (n : ℕ) (becomes : exch.Becomes (without_first n) h.x r.exchanges u.exchanges) where
    abbrev bytes : List ℕ
    bytes = take n (table_of r.exchanges h.x).held

    abbrev more : ℕ
    more = length bytes

    abbrev then_on : Tables
    then_on = with_consumer c (Some (record rd.v { given = rd.v.given + more })) t

    here : table_of u.exchanges h.x ≡ without_first n (table_of r.exchanges h.x)
    here = becomes.table h.x ∙ rw (eqb-same h.x) refl

    left : (table_of u.exchanges h.x).held ≡ drop (o - base h.w + more) h.w.body
    left =
        ap (λ (z : Known). z.held) here
        ∙ (ap (drop n) h.known ∙ given_drop n (o - base h.w) h.w.body bytes (ap (take n) h.known))

    -- from there on nothing of it is stored
    lacking : first_lacking then_on h.w rd.p (record rd.v { given = rd.v.given + more }) ≡ o + more
    lacking = ap (λ (m : ℕ). absent_from rd.p.stored rd.p.reach m (front h.w)) (offset_then more then_on) ∙ elim (lt_or (o + more) (front h.w)) [
      | inl lt ↦ (let below = lt.1 in absent_here rd.p.stored rd.p.reach (o + more) (front h.w) (h.lacks (o + more) (omega arith) below))
      | inr past ↦ (let up = past.1 in
          ap (first_place is_none rd.p.stored (o + more)) (let none : min (front h.w) rd.p.reach - (o + more) ≡ 0 = omega (arith, up) in none))
    ]

    held_then : held_for then_on h.x (t.exchange h.x) ≡ drop (o - base h.w + more) h.w.body
    held_then =
        let own : rd.v.own ≡ Some h.x = sym rd.kept.own ∙ h.own in
        let low = h.after_base in
        ap (held_for then_on h.x) h.row
        ∙ (ap (held_of then_on h.x h.w) (ap t.representation h.of_q ∙ rd.there)
        ∙ (ap (held_alone then_on h.x h.w rd.p) h.alone
        ∙ (ap (unstored_bytes then_on h.x h.w rd.p) (itself t c (Some (record rd.v { given = rd.v.given + more })))
        ∙ (unstored_own then_on h.x h.w rd.p (record rd.v { given = rd.v.given + more }) q rd.lo rd.hi how rd.at own h.of_q
        ∙ ap (λ (m : ℕ). drop m h.w.body) (let far : first_lacking then_on h.w rd.p (record rd.v { given = rd.v.given + more }) ≡ o + more = lacking in
        let sum : first_lacking then_on h.w rd.p (record rd.v { given = rd.v.given + more }) - base h.w ≡ o - base h.w + more = omega (arith, far, low) in
        sum)))))

    -- and of every other as much is held as was
    elsewhere : (y : ℕ) (row : Option Exchange) → h.x ≢ y → held_for then_on y row ≡ held_for t y row
    elsewhere y None ne = refl
    elsewhere y (Some e) ne =
        held_same t c rd.v rd.v.shown (rd.v.given + more) rd.row y e (λ mine. unread_same more y e)
        (λ p founded alone. if_same (is_bound_place (family y e) rd.v.place && is_number rd.v.own y) _ _ (λ on.
        let other : is_number (Some h.x) y ≡ true = sym (ap (λ (z : Option ℕ). is_number z y) (sym rd.kept.own ∙ h.own)) ∙
        (both_true (is_bound_place (family y e) rd.v.place) (is_number rd.v.own y) on).1 in
        false_true (sym (eqb-other h.x y ne) ∙ other)))

    each_exchange : (y : ℕ) → KeepsExchange then_on y (table_of u.exchanges y)
    each_exchange y = elim (same_or h.x y) [
      | inl e ↦ subst (λ (m : ℕ). KeepsExchange then_on m (table_of u.exchanges m)) e (record {
        running = runs_same t then_on h.x (table_of u.exchanges h.x).running (t.exchange h.x) (λ z is. refl)
            (subst (λ z. KeepsRunning t h.x z (t.exchange h.x)) (sym (ap (λ (z : Known). z.running) here)) (stands.exchanges h.x).running);
        held = left ∙ sym held_then;
      })
      | inr ne ↦
          subst (KeepsExchange then_on y) (sym (becomes.table y ∙ rw (eqb-other h.x y ne) refl))
          (exchange_reading t c rd.v rd.v.shown (rd.v.given + more) rd.row y (table_of r.exchanges y) (elsewhere y (t.exchange y) ne) (stands.exchanges y))
    ]

    pub held_answered : move_of t now want c rd.v ≡ Gives (record { x = h.x; at = o; bytes = bytes }) → out ≡ before ++ given_acts c h.x o bytes →
        ChangesAt r.consumers u.consumers c (once_given more) → Answered limits (shelf_of r.entries).faults u t before out now ev
    held_answered move acts changes = gives_answered more changes becomes.next each_exchange (record { x = h.x; at = o; bytes = bytes }) refl move acts

  -- IT ASKS FOR MORE, OR WAITS FOR THAT

  module _ (x : ℕ) (consumers : u.consumers ≡ r.consumers) (becomes : exch.Becomes with_asking x r.exchanges u.exchanges) where
    waits_by : (b : Bool) → asked_in (table_of r.exchanges x).running ≡ b → move_of t now want c rd.v ≡ asks_or_waits b x → out ≡ before ++
        acts_of c (asks_or_waits b x) → Answered limits (shelf_of r.entries).faults u t before out now ev
    waits_by false is move acts =
        does_answered limits (shelf_of r.entries).faults u t (with_event now ev (with_ask x t)) before out (acts_of c (Asks x)) now ev
        (asks limits t facts.law now c want rd.v rd.row x move) refl refl acts
        (stands_counted u (with_ask x t) now ev refl (stands_asked r u t x stands last consumers same_keys becomes unread_store))
    waits_by true is move acts =
        does_answered limits (shelf_of r.entries).faults u t (with_event now ev t) before out (acts_of c (moves.Waits (wait.Body x))) now ev
        (waits_on limits t facts.law now c want rd.v rd.row (wait.Body x) move refl) refl refl acts
        (stands_counted u t now ev refl (stands_asked_already r u t x stands is last consumers same_keys becomes unread_store))

    pub asks_answered : move_of t now want c rd.v ≡ asks_or_waits (asked_in (table_of r.exchanges x).running) x → out ≡ before ++
        acts_of c (asks_or_waits (asked_in (table_of r.exchanges x).running) x) → Answered limits (shelf_of r.entries).faults u t before out now ev
    asks_answered move acts = waits_by (asked_in (table_of r.exchanges x).running) refl move acts
