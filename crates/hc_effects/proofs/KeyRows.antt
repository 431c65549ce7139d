-- The law of one key: rows of other keys stay, but for what makes room and who waits for that.
--
-- An event of another key is not of the exchange, the representation or the consumer in question, by the keys that rows
-- have. So each row hears nothing, and the acts, which are of the key of the event, say nothing of it. Nothing becomes
-- due to the consumer: its source is of its own key, and what it reads is not lost. What is left is that room is made:
-- a representation goes by that alone, and who waits for it starts over.
use Rattle.std.{proofs.{lemmas.Bool.Decides.{nat_tests}, Common.{arith, ◌≡◌, inl, inr, ℕ, List, Bool, true, false, Option, Some, None, refl, ap, sym, ◌∙◌, subst, ◌⊎◌}}, specs.{Prelude.{◌&&◌, ◌||◌, ◌==◌, nat_eq, not, if◌then◌else◌, is_none}, Option.{option_map}}}
use Rattle.hc_text.proofs.Basics.{and_left, and_right as and_then, bool_cases, eq_reports as eq_is, not_some as none_some, never_true as not_true, or_cases, both_false as or_none}
use Rattle.hc_effects.proofs.Vocabulary.{asks_in, closes_in, evicts_in, Event, Response, HeadCase, is_same_number, Place, BoundBy, loses_in, misreads_in, case_at, consumer_after, consumer_settled, consumer_acted, consumer_heard, by_head, by_fault, due_after, back_in_line, is_current, doomed_key_of, bypass_key, is_key, Entry, exchange_after, exchange_heard, exchange_acted, family, exchange_in, exchange_at, is_for, becomes_due, cause_of_stop, cause_of_head, becomes_gone, goes_itself, goes_by_head, goes_by_exchange, goes_by_case, is_current_of, ends_early, ends_founding, stops_early, is_keepable, goes_in, key_of, key_of_exchange, ExchangeKeys, ConsumerKeys, source, representation_after, representation_heard, representation_acted, representation_after_head, updates, representation_after_piece, Tables, Exchange, Representation, Consumer, starts_over, sends_back, loses_what_it_waits_for, waits_at, loses_group, event}
use Rattle.hc_event.specs.declared.place.Place.TheVariants as place
use Rattle.hc_model.specs.Keys.{loses}
use Rattle.hc_effects.proofs.{ActParts.{IsFarFrom}, Basics.{number_is}, KeyNames.{aims_key, opener_key, of_row, key_is, IsOther, not_other, doomed_key, family_key, current_key, source_key, bound_key}, PieceKeeps.{eq_cases}, Untouched.{acted_stays, due_stays, loss_spared}}

-- WORDS

all_none : (a b c d f : Bool) → a ≡ false → b ≡ false → c ≡ false → d ≡ false → f ≡ false → (a || b || c || d || f) ≡ false
all_none a b c d f p q x y z = rw (p, q, x, y, z) refl

pub same_number : (o p : Option ℕ) (x : ℕ) → p ≡ Some x → is_same_number o p ≡ true → o ≡ Some x
same_number o p x is h = grind (arith, nat_tests)

and_yes : (b : Bool) → (b && not false) ≡ b
and_yes b = grind (arith, nat_tests)

no_none : (o : Option ℕ) → is_same_number o None ≡ true → ⊥
no_none o h = grind (arith, nat_tests)

-- what an entry does to rows of another key: it is asked, closed, lost or misread nowhere, and nothing is said to it
pub record IsFarEntry (t : Tables) (e : Entry) : Type 0 where
  pub asks : (x : ℕ) (w : Exchange) → t.exchange x ≡ Some w → IsOther t e.event w.request.key → asks_in x e.acts ≡ false
  pub closes : (x : ℕ) (w : Exchange) → t.exchange x ≡ Some w → IsOther t e.event w.request.key → closes_in x e.acts ≡ false
  pub loses : (r : ℕ) (v : Representation) → t.representation r ≡ Some v → IsOther t e.event v.key → loses_in r e.acts ≡ false
  pub misreads : (r : ℕ) (v : Representation) → t.representation r ≡ Some v → IsOther t e.event v.key → misreads_in r e.acts ≡ false
  pub bypassed : (key : List ℕ) → bypass_key e ≡ Some key → key_of t e.event ≡ Some key
  pub says : (c : ℕ) (k : Consumer) → t.consumer c ≡ Some k → IsOther t e.event k.request.key → IsFarFrom c e.acts
  pub comes : (x : ℕ) → exchange_in e.event ≡ Some x → (w : Exchange) × (t.exchange x ≡ Some w)
  pub evicted : (r : ℕ) → evicts_in r e.acts ≡ true → (v : Representation) × (t.representation r ≡ Some v)

module _ (t : Tables) (e : Entry) (exchanges : ExchangeKeys t) (consumers : ConsumerKeys t) (far : IsFarEntry t e) where
  exchange_key : (x : ℕ) (w : Exchange) → t.exchange x ≡ Some w → key_of_exchange t x ≡ Some w.request.key
  exchange_key x w row = ap (option_map (λ (w : Exchange). w.request.key)) row

  -- EXCHANGES

  module _ (x : ℕ) (w : Exchange) (row : t.exchange x ≡ Some w) (other : IsOther t e.event w.request.key) where
    not_here : (y : ℕ) (u : Exchange) → key_of t e.event ≡ key_of_exchange t y → (if y == x then u else w) ≡ w
    not_here y u of_key = elim (eq_cases y x) [
      | inr not_it ↦ rw not_it.0 refl
      | inl here ↦ absurd (not_other t e.event w.request.key (of_key ∙ exchange_key y w (ap t.exchange here.1 ∙ row)) other)
    ]

    heard_exchange : (ev : Event) → e.event ≡ ev → exchange_heard t e x ev w ≡ w
    heard_exchange (event.Head y response) at = not_here y _ (ap (key_of t) at)
    heard_exchange (event.Piece y bytes) at = not_here y _ (ap (key_of t) at)
    heard_exchange (event.End y) at = not_here y _ (ap (key_of t) at)
    heard_exchange (event.Fault y) at = not_here y _ (ap (key_of t) at)
    heard_exchange _ at = refl

    acted_exchange : exchange_acted x e.acts w ≡ w
    acted_exchange = rw (far.asks x w row other, far.closes x w row other) refl

    pub exchange_stays : exchange_after t e x (t.exchange x) ≡ Some w
    unfolding exchange_after
    exchange_stays = ap (exchange_after t e x) row ∙ ap Some (ap (exchange_acted x e.acts) (heard_exchange e.event refl) ∙ acted_exchange)

  -- REPRESENTATIONS

  module _ (r : ℕ) (v : Representation) (there : t.representation r ≡ Some v) (other : IsOther t e.event v.key) where
    not_ours : (x : ℕ) (w : Exchange) → key_of t e.event ≡ key_of_exchange t x → t.exchange x ≡ Some w → v.key ≡ w.request.key → ⊥
    not_ours x w of_key row same = not_other t e.event v.key (of_key ∙ (exchange_key x w row ∙ ap Some (sym same))) other

    stays_if : (b : Bool) (u : Representation) → (b ≡ true → ⊥) → (if b then u else v) ≡ v
    stays_if b u never_so = let fails = not_true b never_so in rw fails refl

    head_stays : (x : ℕ) (response : Response) (o : Option Exchange) → key_of t e.event ≡ key_of_exchange t x → t.exchange x ≡ o →
        representation_after_head t e r x response o v ≡ v
    head_stays x response None of_key row = refl
    head_stays x response (Some w) of_key row = stays_if (updates t e r w v) _ (λ h.
        not_ours x w of_key row (aims_key t x r w v exchanges row (number_is w.aim r (and_then _ _ (and_left _ _ h))) there))

    piece_stays : (x : ℕ) (bytes : List ℕ) (o : Option Exchange) → key_of t e.event ≡ key_of_exchange t x → t.exchange x ≡ o →
        representation_after_piece e r x bytes o v ≡ v
    piece_stays x bytes None of_key row = refl
    piece_stays x bytes (Some w) of_key row = stays_if (family x w == r) _ (λ h.
        not_ours x w of_key row (family_key t x r w v exchanges row (eq_is (family x w) r h) there))

    heard_representation : (ev : Event) → e.event ≡ ev → representation_heard t e r ev v ≡ v
    heard_representation (event.Head x response) at = head_stays x response (t.exchange x) (ap (key_of t) at) refl
    heard_representation (event.Piece x bytes) at = piece_stays x bytes (t.exchange x) (ap (key_of t) at) refl
    heard_representation (event.End x) at =
        let row = far.comes x (ap exchange_in at) in
        stays_if (x == r) _ (λ h.
        not_ours x row.0 (ap (key_of t) at) row.1 (exchanges.founded r row.0 v (ap t.exchange (sym (eq_is x r h)) ∙ row.1) there))
    heard_representation _ at = refl

    -- nor does it become gone by itself
    not_doomed : (is_current t v.key r && (is_key (doomed_key_of t e) v.key || is_key (bypass_key e) v.key)) ≡ true → ⊥
    not_doomed h = elim (or_cases _ _ (and_then _ _ h)) [
      | inl doom ↦ not_other t e.event v.key (doomed_key t e v.key (key_is _ v.key doom)) other
      | inr past ↦ not_other t e.event v.key (far.bypassed v.key (key_is _ v.key past)) other
    ]

    by_case : (o : Option HeadCase) (w : Exchange) → goes_by_case t e r o w ≡ true → (w.aim ≡ Some r) ⊎ (is_current_of t w r ≡ true)
    by_case o w h = grind (arith, nat_tests)

    by_exchange : (x : ℕ) (o : Option Exchange) → key_of t e.event ≡ key_of_exchange t x → t.exchange x ≡ o → goes_by_exchange t e r o ≡ true → ⊥
    by_exchange x None of_key row h = let never : false ≡ true = h in cc
    by_exchange x (Some w) of_key row h = elim (by_case (case_at t e) w h) [
      | inl aims ↦ not_ours x w of_key row (aims_key t x r w v exchanges row aims there)
      | inr now ↦ not_ours x w of_key row (current_key t w.request.key r v (number_is _ r now) there)
    ]

    not_by_head : (ev : Event) → e.event ≡ ev → goes_by_exchange t e r (exchange_at t ev) ≡ true → ⊥
    not_by_head (event.Head x response) at h = by_exchange x (t.exchange x) (ap (key_of t) at) refl h
    not_by_head (event.Piece x bytes) at h = by_exchange x (t.exchange x) (ap (key_of t) at) refl h
    not_by_head (event.End x) at h = by_exchange x (t.exchange x) (ap (key_of t) at) refl h
    not_by_head (event.Fault x) at h = by_exchange x (t.exchange x) (ap (key_of t) at) refl h
    not_by_head _ at h = let never : false ≡ true = h in cc

    stops_here : (w : Exchange) (ev : Event) → e.event ≡ ev → t.exchange r ≡ Some w → stops_early w r ev ≡ true → ⊥
    stops_here w (event.Fault x) at row h = not_ours x w (ap (key_of t) at) (ap t.exchange (eq_is x r h) ∙ row) (exchanges.founded r w v row there)
    stops_here w (event.End x) at row h = not_ours x w (ap (key_of t) at) (ap t.exchange (eq_is x r (and_left _ _ h)) ∙ row) (exchanges.founded r w v row there)
    stops_here w _ at row h = let never : false ≡ true = h in cc

    not_ended : (o : Option Exchange) → t.exchange r ≡ o → ends_founding e r o ≡ true → ⊥
    not_ended None row h = let never : false ≡ true = h in cc
    not_ended (Some w) row h = elim (or_cases _ _ (and_then _ _ h)) [
      | inl stop ↦ stops_here w e.event refl row stop
      | inr close ↦ let never : true ≡ false = sym close ∙ far.closes r w row (subst (IsOther t e.event) (exchanges.founded r w v row there) other) in cc
    ]

    pub not_going : goes_itself t e r v ≡ false
    not_going =
        all_none (is_current t v.key r && (is_key (doomed_key_of t e) v.key || is_key (bypass_key e) v.key)) (goes_by_head t e r) (loses_in r e.acts)
        (misreads_in r e.acts) (ends_early t e r v && not (is_keepable v))
        (not_true _ not_doomed) (not_true _ (not_by_head e.event refl)) (far.loses r v there other) (far.misreads r v there other)
        (not_true _ (λ h. not_ended (t.exchange r) refl (and_then _ _ (and_left _ _ h))))

    goes_as : becomes_gone t e r v ≡ evicts_in r e.acts
    unfolding becomes_gone
    goes_as = ap (λ b. b || evicts_in r e.acts) not_going

    acted_gone : (gone : Bool) → evicts_in r e.acts ≡ gone → representation_acted t e r v v ≡ record v { is_gone = gone || v.is_gone }
    acted_gone gone is = rw (far.loses r v there other, goes_as, is) refl

    pub representation_row : (gone : Bool) → evicts_in r e.acts ≡ gone →
        representation_after t e r (t.representation r) ≡ Some (record v { is_gone = gone || v.is_gone })
    unfolding representation_after
    representation_row gone is =
        ap (representation_after t e r) there
        ∙ ap Some (ap (representation_acted t e r v) (heard_representation e.event refl) ∙ acted_gone gone is)

  -- CONSUMERS

  module _ (c : ℕ) (k : Consumer) (is_row : t.consumer c ≡ Some k) (other : IsOther t e.event k.request.key) where
    said : IsFarFrom c e.acts
    said = far.says c k is_row other

    not_mine : (x : ℕ) (w : Exchange) → key_of t e.event ≡ key_of_exchange t x → t.exchange x ≡ Some w → nat_eq w.c c ≡ true → ⊥
    not_mine x w of_key row h =
        let same = opener_key t x w k exchanges row (ap t.consumer (eq_is w.c c h) ∙ is_row) in
        not_other t e.event k.request.key (of_key ∙ (exchange_key x w row ∙ ap Some same)) other

    keeps_if : (b : Bool) (u : Consumer) → (b ≡ true → ⊥) → (if b then u else k) ≡ k
    keeps_if b u never_so = let fails = not_true b never_so in rw fails refl

    head_keeps : (x : ℕ) (response : Response) (o : Option Exchange) → key_of t e.event ≡ key_of_exchange t x → t.exchange x ≡ o →
        by_head t e c x response o k ≡ k
    head_keeps x response None of_key row = refl
    head_keeps x response (Some w) of_key row = keeps_if (w.c == c) _ (not_mine x w of_key row)

    fault_keeps : (x : ℕ) (o : Option Exchange) → key_of t e.event ≡ key_of_exchange t x → t.exchange x ≡ o → by_fault c x o k ≡ k
    fault_keeps x None of_key row = refl
    fault_keeps x (Some w) of_key row = keeps_if (w.c == c && is_none w.head && not k.shown) _ (λ h. not_mine x w of_key row (and_left _ _ (and_left _ _ h)))

    heard_consumer : (ev : Event) → e.event ≡ ev → consumer_heard t e c ev k ≡ k
    heard_consumer (event.Head x response) at = head_keeps x response (t.exchange x) (ap (key_of t) at) refl
    heard_consumer (event.Fault x) at = fault_keeps x (t.exchange x) (ap (key_of t) at) refl
    heard_consumer (event.Cancel d) at = keeps_if (d == c) _ (λ h.
        not_other t e.event k.request.key (ap (key_of t) at ∙ ap (option_map (λ (k : Consumer). k.request.key)) (ap t.consumer (eq_is d c h) ∙ is_row)) other)
    heard_consumer _ at = refl

    -- what is lost is of another key
    not_losing : (r lo : ℕ) (hi : Option ℕ) (how : BoundBy) (v : Representation) → k.place ≡ place.Bound r lo hi how → t.representation r ≡ Some v →
        loses_group t e r v ≡ false
    not_losing r lo hi how v at there = not_true _ (λ h.
        let same = bound_key t c k exchanges consumers is_row r lo hi how v at there in
        let none = far.loses r v there (subst (IsOther t e.event) (sym same) other) in
        let now : loses_in r e.acts ≡ true = and_then _ _ (and_left _ _ h) in
        let never : true ≡ false = sym now ∙ none in cc)

    acted_is : consumer_acted t e c k ≡ k
    acted_is = acted_stays t e c k said not_losing (heard_consumer e.event refl)

    -- DUE

    for_it : (x : ℕ) (o : Option Exchange) → key_of t e.event ≡ key_of_exchange t x → t.exchange x ≡ o → is_for o c ≡ true → ⊥
    for_it x None of_key row h = let never : false ≡ true = h in cc
    for_it x (Some w) of_key row h = not_mine x w of_key row h

    not_for : (ev : Event) → e.event ≡ ev → is_for (exchange_at t ev) c ≡ true → ⊥
    not_for (event.Head x response) at h = for_it x (t.exchange x) (ap (key_of t) at) refl h
    not_for (event.Piece x bytes) at h = for_it x (t.exchange x) (ap (key_of t) at) refl h
    not_for (event.End x) at h = for_it x (t.exchange x) (ap (key_of t) at) refl h
    not_for (event.Fault x) at h = for_it x (t.exchange x) (ap (key_of t) at) refl h
    not_for _ at h = let never : false ≡ true = h in cc

    about : (x : ℕ) (ev : Event) → exchange_in ev ≡ Some x → key_of t ev ≡ key_of_exchange t x
    about x ev h = grind (arith, nat_tests)

    not_source : (x : ℕ) → exchange_in e.event ≡ Some x → source t k ≡ Some x → ⊥
    not_source x is from =
        let row = far.comes x is in
        let same = source_key t c k exchanges consumers is_row x row.0 from row.1 in
        not_other t e.event k.request.key (about x e.event is ∙ (exchange_key x row.0 row.1 ∙ ap Some same)) other

    not_same : (o : Option ℕ) → exchange_in e.event ≡ o → is_same_number (source t k) o ≡ true → ⊥
    not_same None is h = no_none (source t k) h
    not_same (Some x) is h = not_source x is (same_number (source t k) (Some x) x refl h)

    no_stop : cause_of_stop t e k ≡ None
    no_stop = let fails = not_true _ (not_same (exchange_in e.event) refl) in rw fails refl

    no_cause : (ev : Event) → e.event ≡ ev → cause_of_head t e c ev ≡ None
    no_cause (event.Head x response) at = let fails = not_true _ (for_it x (t.exchange x) (ap (key_of t) at) refl) in rw fails refl
    no_cause _ at = refl

    not_due : becomes_due t e c k ≡ None
    unfolding becomes_due
    not_due = rw (no_stop, loss_spared t e c k.place not_losing) (no_cause e.event refl)

    due_row : due_after t e c k k ≡ k
    due_row = due_stays t e c k not_due (consumers.undue c k is_row)

    -- STARTING OVER

    not_sent : ((is_key (doomed_key_of t e) k.request.key && waits_at t k.place) || (sends_back (case_at t e) && is_for (exchange_at t e.event) c)) ≡ false
    not_sent =
        or_none (is_key (doomed_key_of t e) k.request.key && waits_at t k.place) (sends_back (case_at t e) && is_for (exchange_at t e.event) c)
        (not_true _ (λ doom. not_other t e.event k.request.key (doomed_key t e k.request.key (key_is _ k.request.key (and_left _ _ doom))) other))
        (not_true _ (λ sent. not_for e.event refl (and_then _ _ sent)))

    going_row : (r : ℕ) (v : Representation) → t.representation r ≡ Some v → v.key ≡ k.request.key → becomes_gone t e r v ≡ evicts_in r e.acts
    going_row r v there same = goes_as r v there (subst (IsOther t e.event) (sym same) other)

    goes_row : (r : ℕ) (kept : Option ℕ) (o : Option Representation) → k.place ≡ place.Passed r kept → t.representation r ≡ o → goes_in
        t e r o ≡ evicts_in r e.acts
    goes_row r kept None at there = elim (bool_cases (evicts_in r e.acts)) [
      | inr none ↦ sym none
      | inl gone ↦ absurd (none_some _ (sym there ∙ (far.evicted r gone).1))
    ]
    goes_row r kept (Some v) at there = going_row r v there (of_row t r k.request.key v (consumers.passed r c kept k is_row at) there)

    waits_for : (place : Place) → k.place ≡ place → loses_what_it_waits_for t e c place ≡ loses e.acts place
    waits_for (place.Passed r kept) at = rw said.fails (and_yes _ ∙ goes_row r kept (t.representation r) at refl)
    waits_for _ at = refl

    over_as : starts_over t e c k ≡ loses e.acts k.place
    unfolding starts_over
    over_as = rw not_sent (waits_for k.place refl)

    pub consumer_row : (over : Bool) → loses e.acts k.place ≡ over → consumer_after t e c (t.consumer c) ≡ Some (if over then back_in_line e.now k else k)
    unfolding consumer_after
    consumer_row over is =
        ap (consumer_after t e c) is_row
        ∙ ap Some (ap (consumer_settled t e c k) (ap (consumer_acted t e c) (heard_consumer e.event refl) ∙ acted_is) ∙ settled over (over_as ∙ is))
      where
        settled : (b : Bool) → starts_over t e c k ≡ b → consumer_settled t e c k k ≡ (if b then back_in_line e.now k else k)
        settled true h = rw h refl
        settled false h = rw h due_row
