-- Whether something would be handed to the cache now.
--
-- Of the open exchanges in their order, one brings something where its part is wanted, and a part or an error stands
-- next. As long as none does, the tables stay, and the rows of those that follow; a row of which nothing whole stands
-- next is read to its end, which is no event. The close of a connection brings nothing, since of one that has ended a
-- part stands next. From the first that brings something on there is an event. Whoever is open and isn't among the news
-- brings nothing.
use Rattle.std.{proofs.{Common.{◌≡◌, inl, inr, ◌≤◌, ℕ, ◌+◌, List, [], ◌∷◌, length, Bool, true, false, Option, Some, None, refl, ap, sym, ◌∙◌, subst, arith}, lemmas.Bool.Decides.{nat_tests}}, specs.{Prelude.{◌&&◌, ◌||◌, ◌==◌, nat_eq, not, if◌then◌else◌}, List.{list_any}}}
use Rattle.hc_text.proofs.Basics.{true_false}
use Rattle.hc_effects.proofs.Vocabulary.{event, is_open, is_wanted, Limits}
use Rattle.hc_msg.specs.{Inputs.{Next, Waits, Reports, Brings, Ends, Fails, look_of}, Reading.{Reading, Asks, Answers, Byte}}
use Rattle.hc_proxy.specs.{Headed.{AreHeaded, IsReadAs}, Hearing.{has_next, IsHeardAt}, Invariants.{is_part, is_due_by, IsHeardOut}, Network.{has_news, next_of, read_to, hands, hands_if, handed, closes_if, closed, is_last_denied, open_exchanges, each_heard, heard}, Rows.{Upstream, Proxy, with_upstream}, Steps.{with_entry, stepped}, Waiting.{hears_nothing}}
use Rattle.hc_proxy.proofs.{AnswerNext.{IsAnswerNext, answer_next}, IdleExchanges.{Idle, heard_one, idle_skips}, NetworkKeeps.{IsKeptByNetwork, closed_by, each_keeps}, SkippedSteps.{among, Ascends, not_below}, HandedOn.{wanted_open}}

-- something is brought
abbrev pub brings_by : Bool → Option Upstream → Bool
brings_by wanted None = false
brings_by wanted (Some v) = wanted && has_news v && has_next (look_of (next_of v))

abbrev pub brings : Proxy → ℕ → Bool
brings p y = brings_by (is_wanted (p.tables.exchange y)) (p.upstream y)

-- EVENTS ARE NOT UNDONE

module _ (limits : Limits) where
  grows : IsKeptByNetwork limits (λ p q. length p.part ≤ length q.part)
  unfolding with_entry
  grows = record {
    none = λ p. omega arith;
    both = λ p q r a b. omega arith;
    reads = λ x change p. omega arith;
    steps = λ ev off p. omega arith;
  }

  -- ONE EXCHANGE

  -- nothing happened, and the other rows stay
  pub record IsUnmoved (z : ℕ) (q r : Proxy) : Type 0 where
    pub tables : r.tables ≡ q.tables
    pub part : r.part ≡ q.part
    pub rows : (y : ℕ) → nat_eq y z ≡ false → r.upstream y ≡ q.upstream y

  unmoved : (z : ℕ) (q : Proxy) → IsUnmoved z q q
  unmoved z q = record { tables = refl; part = refl; rows = λ y off. refl }

  next_waits : (n : Next) → has_next (look_of n) ≡ false → (reading : Reading) × (n ≡ Waits reading)
  next_waits (Waits reading) off = (reading, refl)
  next_waits (Reports token reading rest) off = true_false off
  next_waits (Brings bytes reading rest) off = true_false off
  next_waits Ends off = true_false off
  next_waits (Fails e) off = true_false off

  not_ended : (z : ℕ) (q : Proxy) (v : Upstream) (reading : Reading) → IsHeardAt z q → is_open (q.tables.exchange z) ≡ true → q.upstream z ≡ Some v →
      next_of v ≡ Waits reading → (b : Bool) → v.ended ≡ b → v.ended ≡ false
  not_ended z q v reading heard on row waits false is = is
  not_ended z q v reading heard on row waits true is = absurd (let never : false ≡ true = sym (ap is_part waits) ∙ heard v on row is in cc)

  -- it is wanted, and nothing whole stands next
  waits_unmoved : (z : ℕ) (q : Proxy) (v : Upstream) → q.upstream z ≡ Some v → IsHeardAt z q → (is_wanted (q.tables.exchange z) && has_news v) ≡ true →
      is_wanted (q.tables.exchange z) ≡ true → has_next (look_of (next_of v)) ≡ false → IsUnmoved z q (heard_one limits z q)
  waits_unmoved z q v row heard wants wanted off =
      let w = next_waits (next_of v) off in
      let r = with_upstream z (read_to w.0 []) q in
      let first : handed limits z q ≡ r =
      ap (λ (o : Option Upstream). hands_if limits z o q) row ∙ (rw wants (ap (λ (n : Next). hands limits z n q) w.1)) in
      let here : r.upstream z ≡ Some (read_to w.0 [] v) = (let one : nat_eq z z ≡ true = grind (arith, nat_tests) in rw (one, row) refl) in
      let ended : v.ended ≡ false = not_ended z q v w.0 heard (wanted_open (q.tables.exchange z) wanted) row w.1 v.ended refl in
      let second : closed limits z r ≡ r = ap (λ (o : Option Upstream). closes_if limits z o r) here ∙ rw ended refl in
      subst (IsUnmoved z q) (sym (ap (closed limits z) first ∙ second)) (record { tables = refl; part = refl; rows = λ y apart. rw apart refl })

  idle_by : (z : ℕ) (q : Proxy) (v : Upstream) → q.upstream z ≡ Some v → IsHeardAt z q → (is_wanted (q.tables.exchange z) && has_news v) ≡ false →
      (b : Bool) → is_open (q.tables.exchange z) ≡ b → Idle limits q z
  idle_by z q v row heard unwanted false shut = inl shut
  idle_by z q v row heard unwanted true on = inr (ap (is_due_by (is_wanted (q.tables.exchange z))) row ∙ rw unwanted (by_end v.ended refl))
    where
      by_end : (b : Bool) → v.ended ≡ b → (b && not (is_part (next_of v))) ≡ false
      by_end false is = refl
      by_end true ended = rw (heard v on row ended) refl

  -- nothing is brought
  pub one_idle : (z : ℕ) (q : Proxy) → IsHeardAt z q → brings q z ≡ false → IsUnmoved z q (heard_one limits z q)
  one_idle z q heard off = by_row (q.upstream z) refl
    where
      by_want : (v : Upstream) → q.upstream z ≡ Some v → (b : Bool) → is_wanted (q.tables.exchange z) ≡ b → (c : Bool) → has_news v ≡ c →
          brings q z ≡ false → IsUnmoved z q (heard_one limits z q)
      by_want v row false unwanted c news none =
          subst (IsUnmoved z q) (sym (idle_skips limits z q (idle_by z q v row heard (rw unwanted refl) (is_open (q.tables.exchange z)) refl))) (unmoved z q)
      by_want v row true wanted false news none =
          subst (IsUnmoved z q) (sym (idle_skips limits z q (idle_by z q v row heard (rw (wanted, news) refl) (is_open (q.tables.exchange z)) refl)))
          (unmoved z q)
      by_want v row true wanted true news none =
          waits_unmoved z q v row heard (rw (wanted, news) refl) wanted
          (sym (rw (wanted, news) refl) ∙ (sym (ap (brings_by (is_wanted (q.tables.exchange z))) row) ∙ none))

      by_row : (o : Option Upstream) → q.upstream z ≡ o → IsUnmoved z q (heard_one limits z q)
      by_row None row =
          let first : handed limits z q ≡ q = ap (λ (o : Option Upstream). hands_if limits z o q) row in
          let second : closed limits z q ≡ q = ap (λ (o : Option Upstream). closes_if limits z o q) row in
          subst (IsUnmoved z q) (sym (ap (closed limits z) first ∙ second)) (unmoved z q)
      by_row (Some v) row = by_want v row (is_wanted (q.tables.exchange z)) refl (has_news v) refl off

  -- what stands next is an event
  hands_some : (z : ℕ) (n : Next) (q : Proxy) → IsAnswerNext n → has_next (look_of n) ≡ true → 1 ≤ length (hands limits z n q).part
  unfolding with_entry
  hands_some z (Waits reading) q answers next = true_false (sym next)
  hands_some z (Reports (Answers response) reading rest) q answers next = omega arith
  hands_some z (Reports (Asks request) reading rest) q answers next = absurd answers
  hands_some z (Reports (Byte b) reading rest) q answers next = absurd answers
  hands_some z (Brings bytes reading rest) q answers next =
      by_denial (stepped limits (event.Piece z bytes) (with_upstream z (read_to reading rest) q))
      (is_last_denied (stepped limits (event.Piece z bytes) (with_upstream z (read_to reading rest) q)).part) (omega arith)
    where
      by_denial : (r : Proxy) (b : Bool) → 1 ≤ length r.part → 1 ≤ length (if b then stepped limits (event.Fault z) r else r).part
      by_denial r true some = omega arith
      by_denial r false some = some
  hands_some z Ends q answers next = omega arith
  hands_some z (Fails e) q answers next = omega arith

  -- something is brought
  pub one_busy : (z : ℕ) (q : Proxy) →
      ((v : Upstream) → is_open (q.tables.exchange z) ≡ true → q.upstream z ≡ Some v → IsReadAs v.reading (q.tables.exchange z)) → brings q z ≡ true →
      1 ≤ length (heard_one limits z q).part
  one_busy z q headed on =
      let made : 1 ≤ length (handed limits z q).part = by_row (q.upstream z) refl in
      let more : length (handed limits z q).part ≤ length (closed limits z (handed limits z q)).part =
      closed_by limits (λ p r. length p.part ≤ length r.part) grows z ((handed limits z q).upstream z) (handed limits z q) in
      omega arith
    where
      first : (a b : Bool) → (a && b) ≡ true → a ≡ true
      first true b g = refl
      first false b g = g

      second : (a b : Bool) → (a && b) ≡ true → b ≡ true
      second true b g = g
      second false b g = true_false (sym g)

      by_parts : (v : Upstream) → q.upstream z ≡ Some v → (is_wanted (q.tables.exchange z) && has_news v && has_next (look_of (next_of v))) ≡ true →
          1 ≤ length (handed limits z q).part
      by_parts v row all =
          let both : (is_wanted (q.tables.exchange z) && has_news v) ≡ true =
          first (is_wanted (q.tables.exchange z) && has_news v) (has_next (look_of (next_of v))) all in
          let next : has_next (look_of (next_of v)) ≡ true = second (is_wanted (q.tables.exchange z) && has_news v) (has_next (look_of (next_of v))) all in
          let wanted : is_wanted (q.tables.exchange z) ≡ true = first (is_wanted (q.tables.exchange z)) (has_news v) both in
          let news : has_news v ≡ true = second (is_wanted (q.tables.exchange z)) (has_news v) both in
          let is : handed limits z q ≡ hands limits z (next_of v) q = ap (λ (o : Option Upstream). hands_if limits z o q) row ∙ rw (wanted, news) refl in
          let answers : IsAnswerNext (next_of v) = answer_next 16384 v.reading v.input (headed v (wanted_open (q.tables.exchange z) wanted) row).0 in
          subst (λ (r : Proxy). 1 ≤ length r.part) (sym is) (hands_some z (next_of v) q answers next)

      by_row : (o : Option Upstream) → q.upstream z ≡ o → 1 ≤ length (handed limits z q).part
      by_row None row = absurd (let never : false ≡ true = sym (ap (brings_by (is_wanted (q.tables.exchange z))) row) ∙ on in cc)
      by_row (Some v) row = by_parts v row (sym (ap (brings_by (is_wanted (q.tables.exchange z))) row) ∙ on)

  -- ALL OF THEM

  module _ (p : Proxy) (heard_out : IsHeardOut p) (headed : AreHeaded p) where
    -- nothing happened so far, and these are left
    pub record IsStill (q : Proxy) (xs : List ℕ) : Type 0 where
      pub tables : q.tables ≡ p.tables
      pub part : q.part ≡ []
      pub rows : (y : ℕ) → among y xs ≡ true → q.upstream y ≡ p.upstream y

    among_first : (x : ℕ) (xs : List ℕ) → among x (x ∷ xs) ≡ true
    among_first x xs = let one : nat_eq x x ≡ true = grind (arith, nat_tests) in rw one refl

    open_as : (q : Proxy) (z : ℕ) → q.tables ≡ p.tables → is_open (q.tables.exchange z) ≡ is_open (p.tables.exchange z)
    open_as q z same = ap (λ t. is_open (t.exchange z)) same

    heard_as : (q : Proxy) (z : ℕ) (xs : List ℕ) → IsStill q (z ∷ xs) → IsHeardAt z q
    heard_as q z xs s v on row = heard_out z v (sym (open_as q z s.tables) ∙ on) (sym (s.rows z (among_first z xs)) ∙ row)

    read_as : (q : Proxy) (z : ℕ) (xs : List ℕ) → IsStill q (z ∷ xs) → (v : Upstream) → is_open (q.tables.exchange z) ≡ true → q.upstream z ≡ Some v →
        IsReadAs v.reading (q.tables.exchange z)
    read_as q z xs s v on row =
        subst (λ t. IsReadAs v.reading (t.exchange z)) (sym s.tables) (headed z v (sym (open_as q z s.tables) ∙ on) (sym (s.rows z (among_first z xs)) ∙ row))

    brings_as : (q : Proxy) (z : ℕ) (xs : List ℕ) → IsStill q (z ∷ xs) → brings q z ≡ brings p z
    brings_as q z xs s =
        ap (λ t. brings_by (is_wanted (t.exchange z)) (q.upstream z)) s.tables
        ∙ ap (brings_by (is_wanted (p.tables.exchange z))) (s.rows z (among_first z xs))

    still_on : (q : Proxy) (n z : ℕ) (xs : List ℕ) → IsStill q (z ∷ xs) → Ascends n (z ∷ xs) → IsUnmoved z q (heard_one limits z q) →
        IsStill (heard_one limits z q) xs
    still_on q n z xs s up u = record {
      tables = u.tables ∙ s.tables;
      part = u.part ∙ s.part;
      rows = λ y there. u.rows y (apart y there) ∙ s.rows y (either (nat_eq y z) (among y xs) there);
    }
      where
        either : (a b : Bool) → b ≡ true → (a || b) ≡ true
        either true b h = refl
        either false b h = h

        by_number : (y : ℕ) → among y xs ≡ true → (b : Bool) → nat_eq y z ≡ b → nat_eq y z ≡ false
        by_number y there false off = off
        by_number y there true here = let same : y ≡ z = grind (arith, nat_tests) in true_false (sym there ∙ not_below (z + 1) xs up.1 y (omega arith))

        apart : (y : ℕ) → among y xs ≡ true → nat_eq y z ≡ false
        apart y there = by_number y there (nat_eq y z) refl

    some_left : (n : ℕ) → 1 ≤ n → (n == 0) ≡ false
    some_left n some = grind (arith, nat_tests)

    pub any_brings : (xs : List ℕ) (n : ℕ) (q : Proxy) → Ascends n xs → IsStill q xs →
        (length (each_heard limits xs q).part == 0) ≡ not (list_any (brings p) xs)
    any_brings [] n q up s = ap (λ es. length es == 0) s.part
    any_brings (z ∷ xs) n q up s = by_test (λ next. any_brings xs (z + 1) (heard_one limits z q) up.1 next) (brings p z) refl
      where
        by_test : (IsStill (heard_one limits z q) xs → (length (each_heard limits xs (heard_one limits z q)).part == 0) ≡ not (list_any (brings p) xs)) →
            (b : Bool) → brings p z ≡ b → (length (each_heard limits (z ∷ xs) q).part == 0) ≡ not (list_any (brings p) (z ∷ xs))
        by_test rest true on =
            let made : 1 ≤ length (heard_one limits z q).part = one_busy z q (read_as q z xs s) (brings_as q z xs s ∙ on) in
            let more : length (heard_one limits z q).part ≤ length (each_heard limits xs (heard_one limits z q)).part =
            each_keeps limits (λ a b. length a.part ≤ length b.part) grows xs (heard_one limits z q) in
            some_left (length (each_heard limits xs (heard_one limits z q)).part) (omega arith) ∙ rw on refl
        by_test rest false off =
            rest (still_on q n z xs s up (one_idle z q (heard_as q z xs s) (brings_as q z xs s ∙ off)))
            ∙ rw off refl

    pub nothing_brought : Ascends 0 (open_exchanges p.tables) → hears_nothing limits p ≡ not (list_any (brings p) (open_exchanges p.tables))
    unfolding heard
    nothing_brought up = any_brings (open_exchanges p.tables) 0 (record p { part = [] }) up (record { tables = refl; part = refl; rows = λ y there. refl })
