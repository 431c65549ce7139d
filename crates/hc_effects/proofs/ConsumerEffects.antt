-- What an event of a consumer comes to: itself, what is let go, and what it makes of exchanges and lists.
use Rattle.std.{proofs.{lemmas.Bool.Decides.{nat_tests}, Common.{arith, ◌≡◌, ℕ, ◌+◌, List, [], ◌∷◌, Bool, true, false, Option, Some, None, refl, ap, sym, ◌∙◌}}, specs.Prelude.{◌==◌, nat_eq, if◌then◌else◌, option_map}}
use Rattle.hc_effects.proofs.Vocabulary.{opening_in, Place, loses_in, consumer_after, back_in_line, with_consumer, with_event, as_gone, let_go, let_all_go, let_some_go, Entry, exchange_after, becomes_gone, goes_in, Lawful, representation_after, Tables, Representation, Consumer, after_accepted, last_start_after, starts_after, opened_after, openings_after, received_in, with_item_first, to_front, binds, place}
use Rattle.hc_effects.proofs.{ActParts.{IsFarFrom}, OfConsumers.{BringsNothing, consumer_alone, founds_nobody}, SameTables.{same_tables, is_in, waits_for_any, back_from_any, without, all_go_is}, Untouched.{goes_from, representation_frame, representation_absent, consumer_absent}}

-- u has what the entry makes of all but c, once these are let go
pub record ComesTo (t : Tables) (e : Entry) (c : ℕ) (rs : List ℕ) (u : Tables) : Type 0 where
  pub entries : t.entries ≡ u.entries
  pub received : t.received ≡ u.received
  pub last_start : last_start_after e.event t.last_start ≡ u.last_start
  pub starts : starts_after e.event t.starts ≡ u.starts
  pub opened : opened_after (opening_in e.acts) t.opened ≡ u.opened
  pub openings : openings_after (opening_in e.acts) t.openings ≡ u.openings
  pub founded : t.founded ≡ u.founded
  pub used : to_front (binds t e) t.used ≡ u.used
  pub exchange : (x : ℕ) → exchange_after t e x (t.exchange x) ≡ u.exchange x
  pub representation : (r : ℕ) →
      representation_after t e r (t.representation r) ≡ (if is_in rs r then option_map as_gone (u.representation r) else u.representation r)
  pub consumer : (d : ℕ) → nat_eq c d ≡ false → consumer_after t e d (t.consumer d) ≡ option_map (back_from_any e.now rs) (u.consumer d)

-- who waits starts over exactly where that is let go
module _ (t : Tables) (e : Entry) (law : Lawful t) (rs : List ℕ)
    (goes : (r : ℕ) (v : Representation) → t.representation r ≡ Some v → becomes_gone t e r v ≡ is_in rs r) where
  pub waits_as : (d : ℕ) (k : Consumer) → t.consumer d ≡ Some k → (p : Place) → k.place ≡ p → goes_from t e p ≡ waits_for_any rs p
  waits_as d k row (place.Passed r kept) at = let w = law.passed.waits d r kept k row at in ap (goes_in t e r) w.row ∙ goes r w.v w.row
  waits_as d k row _ at = refl

module _ (t : Tables) (e : Entry) (c : ℕ) (n : BringsNothing t e c) where
  -- the tables after it: c is q, and waits for nothing that is let go
  pub after_by : (rs : List ℕ) (u : Tables) (q : Consumer) → ComesTo t e c rs u → consumer_after t e c (t.consumer c) ≡ Some q →
      waits_for_any rs q.place ≡ false
      → after_accepted t e ≡ with_event e.now e.event (let_all_go e.now rs (with_consumer c (Some q) u))
  after_by rs u q comes row waits =
      same_tables (after_accepted t e) (with_event e.now e.event (without e.now rs (with_consumer c (Some q) u))) (record {
        moment = refl;
        entries = ap (λ n. n + 1) comes.entries;
        received = ap (λ n. n + received_in e.event) comes.received;
        last_start = comes.last_start;
        starts = comes.starts;
        opened = comes.opened;
        openings = comes.openings;
        founded = ap (λ (o : Option ℕ). with_item_first o t.founded) (founds_nobody t e c n) ∙ comes.founded;
        used = comes.used;
        exchange = comes.exchange;
        representation = comes.representation;
        consumer = by_number;
      })
      ∙ ap (with_event e.now e.event) (sym (all_go_is e.now rs (with_consumer c (Some q) u)))
    where
      by_number : (d : ℕ) → consumer_after t e d (t.consumer d) ≡ option_map (back_from_any e.now rs) (if c == d then Some q else u.consumer d)
      by_number d = grind (arith, nat_tests)

  module _ (law : Lawful t) (far : (d : ℕ) → nat_eq c d ≡ false → IsFarFrom d e.acts) (rs : List ℕ)
      (goes : (r : ℕ) (v : Representation) → t.representation r ≡ Some v → becomes_gone t e r v ≡ is_in rs r) where
    pub others : (d : ℕ) → nat_eq c d ≡ false → consumer_after t e d (t.consumer d) ≡ option_map (back_from_any e.now rs) (t.consumer d)
    others d other = by_row (t.consumer d) refl
      where
        by_row : (o : Option Consumer) → t.consumer d ≡ o → consumer_after t e d o ≡ option_map (back_from_any e.now rs) o
        by_row None row = consumer_absent t e d (n.made d other)
        by_row (Some k) row =
            consumer_alone t e c n d k (far d other) (n.heard d k other) (law.owned.idle_due d k row)
            ∙ ap (λ (b : Bool). Some (if b then back_in_line e.now k else k)) (waits_as t e law rs goes d k row k.place refl)

    pub representations : ((r : ℕ) → loses_in r e.acts ≡ false) → (r : ℕ) →
        representation_after t e r (t.representation r) ≡ (if is_in rs r then option_map as_gone (t.representation r) else t.representation r)
    representations lossless r = by_row (t.representation r) refl
      where
        by_test : (b : Bool) (v : Representation) → Some (if b then as_gone v else v) ≡ (if b then Some (as_gone v) else Some v)
        by_test true v = refl
        by_test false v = refl

        none_left : (b : Bool) → None ≡ (if b then option_map as_gone None else None)
        none_left true = refl
        none_left false = refl

        by_row : (o : Option Representation) → t.representation r ≡ o → representation_after t e r o ≡ (if is_in rs r then option_map as_gone o else o)
        by_row None row = representation_absent t e r (n.founds_none r) ∙ none_left (is_in rs r)
        by_row (Some v) row = representation_frame t e r v (n.representation r v) (lossless r) ∙
            (ap (λ (b : Bool). Some (if b then as_gone v else v)) (goes r v row) ∙ by_test (is_in rs r) v)

-- ONE OR TWO ARE LET GO

pub some_all : (now : ℕ) (o : Option ℕ) (t : Tables) → let_all_go now (with_item_first o []) t ≡ let_some_go now o t
some_all now o t = grind (arith, nat_tests)

pub two_all : (now r : ℕ) (o : Option ℕ) (t : Tables) → let_all_go now (with_item_first o (r ∷ [])) t ≡ let_go now r (let_some_go now o t)
two_all now r o t = grind (arith, nat_tests)
