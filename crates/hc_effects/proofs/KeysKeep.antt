-- What is of one key stays so: rows of exchanges and representations.
--
-- A row keeps what it says of its key: an exchange its consumer, need and request, and what it is about
-- (`same_exchange`). A new exchange is opened by a poll, for the key of its consumer (`opened_is`, `opened_by`). What
-- is current for a key has a row of that key (`current_row`). So an exchange after an entry was there, or is such a new
-- one (`exchange_was`). The law of one key is kept by these.
use Rattle.std.{proofs.{lemmas.Bool.Decides.{nat_tests}, Common.{arith, ◌≡◌, ◌⊎◌, inl, inr, ℕ, List, ◌++◌, Bool, true, false, Option, Some, None, refl, ap, sym, ◌∙◌, subst}}, specs.{Prelude.{◌&&◌, ◌==◌, if◌then◌else◌}, Option.{option_map}}}
use Rattle.hc_text.proofs.Basics.{and_left, and_right as and_then, bool_cases, eq_itself as eq-refl, eq_reports as eq_is, not_some as none_some, some_inj}
use Rattle.hc_effects.proofs.Vocabulary.{family, Opening, opening_in, Act, Event, Request, Response, Limits, accepted_acts, answer_acts, loss_acts, case_at, is_founding, is_joining, closing, current, is_usable, Entry, exchange_after, exchange_heard, exchange_acted, exchange_made, exchange_opened, Flaw, HasRow, Move, acts_of, representation_after, representation_heard, representation_acted, founded_at, new_representation, representation_after_head, with_renewed_head, updates, resumes, representation_after_piece, with_total_if_none, length_in, writer_at, Tables, Exchange, Representation, Consumer, after_accepted, evicted}
use Rattle.hc_event.specs.declared.event.Event.TheVariants as event
use Rattle.hc_rules.proofs.RangeReads.{same_bytes}
use Rattle.hc_effects.proofs.{ActParts.{IsAnswer, IsSaid, answer_is, said_is, asks_evicted, asks_closed, asks_closes, asks_lost, asks_loss}, Basics.{number_is}, CurrentKeeps.{heard_same}, PieceKeeps.{eq_cases}, PollKeeps.{find_passes}, PollKeys.{IsNear}}
use Rattle.hc_effects.proofs.ActParts as parts
use Rattle.hc_effects.proofs.PollKeys as polls

-- an exchange that is there, of this key
abbrev pub HasExchange : Tables → ℕ → List ℕ → Type 0
HasExchange t x key = (w : Exchange) × (t.exchange x ≡ Some w) × (w.request.key ≡ key)

-- WHAT IS CURRENT

usable_row : (t : Tables) (r : ℕ) (key : List ℕ) (o : Option Representation) → t.representation r ≡ o → is_usable key o ≡ true → HasRow t r key
usable_row t r key None row h = absurd (let no_one : false ≡ true = h in cc)
usable_row t r key (Some v) row h = (v, row, same_bytes v.key key (and_left _ _ h))

pub current_row : (t : Tables) (r : ℕ) (key : List ℕ) → current t key ≡ Some r → HasRow t r key
unfolding current
current_row t r key is = usable_row t r key (t.representation r) refl (find_passes (λ q. is_usable key (t.representation q)) t.founded r is)

-- WHAT IS OPENED

-- an exchange is opened by a poll of its consumer, for its key
pub data IsOpening (t : Tables) (ev : Event) (o : Opening) : Type 0 where
  opening : (want : ℕ) (k : Consumer) → ev ≡ event.Poll o.c want → t.consumer o.c ≡ Some k → o.request.key ≡ k.request.key → IsOpening t ev o

opened_move : (t : Tables) (c : ℕ) (k : Consumer) (m : Move) (rest : List Act) (o : Opening) → IsNear t k m → opening_in rest ≡ None → opening_in
    (acts_of c m ++ rest) ≡ Some o → (c ≡ o.c) × (o.request.key ≡ k.request.key)
opened_move t c k _ rest o (polls.opens y n request same) none h =
    (ap (λ (q : Opening). q.c) (some_inj _ o h), ap (λ (q : Opening). q.request.key) (sym (some_inj _ o h)) ∙ same)
opened_move t c k _ rest o _ none h = absurd (none_some o (sym none ∙ h))

opened_said : (t : Tables) (now : ℕ) (ev : Event) (flaw : Flaw) (acts rest : List Act) (o : Opening) → IsSaid t now ev flaw acts → opening_in
    rest ≡ None → opening_in (acts ++ rest) ≡ Some o → IsOpening t ev o
opened_said t now ev flaw _ rest o (parts.does c want k m at row does near) none h =
    let both = opened_move t c k m rest o near none h in
    opening want k (at ∙ ap (λ d. event.Poll d want) both.0) (ap t.consumer (sym both.0) ∙ row) both.1
opened_said t now ev flaw _ rest o _ none h = absurd (none_some o (sym none ∙ h))

opened_by : (limits : Limits) (t : Tables) (now : ℕ) (ev : Event) (flaw : Flaw) (acts : List Act) (o : Opening) → IsAnswer limits t now ev flaw acts →
    opening_in acts ≡ Some o → IsOpening t ev o
opened_by limits t now ev flaw _ o (parts.reported silent) h =
    let seen : Entry = record { now = now; event = ev; acts = answer_acts t now ev flaw ++ loss_acts flaw } in
    absurd (none_some o (sym
    ((asks_evicted 0 0 (evicted limits t now ev) _).opens ∙ ((asks_lost 0 0 flaw _).opens ∙ (asks_closes 0 0 (closing t seen)).opens)) ∙ h))
opened_by limits t now ev flaw _ o parts.asked h =
    let seen : Entry = record { now = now; event = ev; acts = answer_acts t now ev flaw ++ loss_acts flaw } in
    opened_said t now ev flaw (answer_acts t now ev flaw) _ o (said_is t now ev flaw)
    ((asks_closed 0 0 (closing t seen) _).opens ∙ (asks_loss 0 0 flaw).opens) h

pub opened_is : (limits : Limits) (t : Tables) (now : ℕ) (ev : Event) (flaw : Flaw) (o : Opening) → opening_in
    (accepted_acts limits t now ev flaw) ≡ Some o → IsOpening t ev o
opened_is limits t now ev flaw o h = opened_by limits t now ev flaw _ o (answer_is limits t now ev flaw) h

-- ROWS BEFORE AND AFTER

-- of an exchange stays for whom it is, its need, its request and what it is about
pub record IsSameExchange (w z : Exchange) : Type 0 where
  pub c_is : z.c ≡ w.c
  pub need_is : z.need ≡ w.need
  pub request_is : z.request ≡ w.request
  pub aim_is : z.aim ≡ w.aim
  pub joined_is : (z.joined ≡ w.joined) ⊎ (z.joined ≡ w.aim)

joined_by : (b : Bool) (w : Exchange) → ((if b then w.aim else w.joined) ≡ w.joined) ⊎ ((if b then w.aim else w.joined) ≡ w.aim)
joined_by b w = grind (arith, nat_tests)

abbrev renews : Bool → ℕ → Option ℕ → Option ℕ
renews b x old = if b then Some x else old

module _ (t : Tables) (e : Entry) where
  same_if : (x : ℕ) (b : Bool) (w z : Exchange) → IsSameExchange w (exchange_acted x e.acts z) → IsSameExchange w (exchange_acted x e.acts (if b then z else w))
  same_if x true w z same = same
  same_if x false w z same = record { c_is = refl; need_is = refl; request_is = refl; aim_is = refl; joined_is = inl refl }

  pub same_exchange : (x : ℕ) (ev : Event) (w : Exchange) → IsSameExchange w (exchange_acted x e.acts (exchange_heard t e x ev w))
  same_exchange x (event.Head y response) w =
      same_if x (y == x) w _ (record { c_is = refl; need_is = refl; request_is = refl; aim_is = refl; joined_is = joined_by (is_joining (case_at t e)) w })
  same_exchange x (event.Piece y bytes) w =
      same_if x (y == x) w _ (record { c_is = refl; need_is = refl; request_is = refl; aim_is = refl; joined_is = inl refl })
  same_exchange x (event.End y) w = same_if x (y == x) w _ (record { c_is = refl; need_is = refl; request_is = refl; aim_is = refl; joined_is = inl refl })
  same_exchange x (event.Fault y) w = same_if x (y == x) w _ (record { c_is = refl; need_is = refl; request_is = refl; aim_is = refl; joined_is = inl refl })
  same_exchange x _ w = record { c_is = refl; need_is = refl; request_is = refl; aim_is = refl; joined_is = inl refl }

  -- an exchange after an entry was there, or is opened
  pub data WasExchange (x : ℕ) (z : Exchange) : Type 0 where
    was : (w : Exchange) → t.exchange x ≡ Some w → IsSameExchange w z → WasExchange x z
    new : (o : Opening) → opening_in e.acts ≡ Some o → o.x ≡ x → z ≡ exchange_opened t e o → t.exchange x ≡ None → WasExchange x z

  made_exchange : (x : ℕ) (z : Exchange) (o : Option Opening) → opening_in e.acts ≡ o → t.exchange x ≡ None → exchange_made t e x o ≡ Some z → WasExchange x z
  made_exchange x z None is none h = absurd (none_some z h)
  made_exchange x z (Some o) is none h = elim (eq_cases o.x x) [
    | inl here ↦ new o is here.1 (sym (some_inj _ z (rw here.0 at h))) none
    | inr other ↦ absurd (none_some z (rw other.0 at h))
  ]

  pub exchange_was : (x : ℕ) (o : Option Exchange) (z : Exchange) → t.exchange x ≡ o → exchange_after t e x o ≡ Some z → WasExchange x z
  unfolding exchange_after
  exchange_was x None z row h = made_exchange x z (opening_in e.acts) refl row h
  exchange_was x (Some w) z row h = was w row (subst (IsSameExchange w) (some_inj _ z h) (same_exchange x e.event w))

  pub exchange_stays : (x : ℕ) (key : List ℕ) → HasExchange t x key → HasExchange (after_accepted t e) x key
  unfolding exchange_after
  exchange_stays x key has =
      let z = exchange_acted x e.acts (exchange_heard t e x e.event has.0) in
      (z, ap (exchange_after t e x) has.1, ap (λ (r : Request). r.key) (same_exchange x e.event has.0).request_is ∙ has.2)

  -- what is opened has its row
  pub exchange_new : (x : ℕ) (o : Opening) → opening_in e.acts ≡ Some o → o.x ≡ x → t.exchange x ≡ None → HasExchange (after_accepted t e) x o.request.key
  unfolding exchange_after
  exchange_new x o is here none = (
    exchange_opened t e o,
    ap (exchange_after t e x) none ∙
        (ap (exchange_made t e x) is ∙ rw here (ap (λ b. if b then Some (exchange_opened t e o) else None) (eq-refl x))),
    refl,
  )

  pub representation_stays : (r : ℕ) (key : List ℕ) → HasRow t r key → HasRow (after_accepted t e) r key
  unfolding representation_after
  representation_stays r key has = (
    representation_acted t e r has.0 (representation_heard t e r e.event has.0),
    ap (representation_after t e r) has.1,
    (heard_same t e r e.event has.0).key_is ∙ has.2,
  )

  -- WRITERS

  -- a writer is what it was, or the exchange of a head about the representation
  pub data WasWriter (r : ℕ) (v u : Representation) : Type 0 where
    kept : u.writer ≡ v.writer → WasWriter r v u
    resumed : (x : ℕ) (w : Exchange) → t.exchange x ≡ Some w → w.aim ≡ Some r → u.writer ≡ Some x → WasWriter r v u

  kept_if : (r : ℕ) (b : Bool) (v u : Representation) → WasWriter r v u → WasWriter r v (if b then u else v)
  kept_if r true v u is = is
  kept_if r false v u is = kept refl

  writer_if : (r x : ℕ) (response : Response) (w : Exchange) (v : Representation) (b : Bool) →
      renews b x v.writer ≡ (with_renewed_head t e x response w v).writer → t.exchange x ≡ Some w → w.aim ≡ Some r →
      WasWriter r v (with_renewed_head t e x response w v)
  writer_if r x response w v true is row aim = resumed x w row aim (sym is)
  writer_if r x response w v false is row aim = kept (sym is)

  headed_writer : (r x : ℕ) (response : Response) (v : Representation) (o : Option Exchange) → t.exchange x ≡ o →
      WasWriter r v (representation_after_head t e r x response o v)
  headed_writer r x response v None row = kept refl
  headed_writer r x response v (Some w) row = elim (bool_cases (updates t e r w v)) [
    | inr stays ↦ rw stays (kept refl)
    | inl goes ↦ rw goes (writer_if r x response w v (is_joining (case_at t e) && resumes t response w v) refl row
        (number_is w.aim r (and_then _ _ (and_left _ _ goes))))
  ]

  pieced_writer : (r x : ℕ) (bytes : List ℕ) (v : Representation) (o : Option Exchange) → WasWriter r v (representation_after_piece e r x bytes o v)
  pieced_writer r x bytes v None = kept refl
  pieced_writer r x bytes v (Some w) = kept_if r (family x w == r) v _ (kept refl)

  heard_writer : (r : ℕ) (v : Representation) (ev : Event) → WasWriter r v (representation_heard t e r ev v)
  heard_writer r v (event.Head x response) = headed_writer r x response v (t.exchange x) refl
  heard_writer r v (event.Piece x bytes) = pieced_writer r x bytes v (t.exchange x)
  heard_writer r v (event.End x) = kept_if r (x == r) v (with_total_if_none (length_in (t.exchange x)) v) (kept refl)
  heard_writer r v _ = kept refl

  acted_writer : (r : ℕ) (v u : Representation) → representation_acted t e r v (representation_heard t e r e.event v) ≡ u →
      WasWriter r v (representation_heard t e r e.event v) → WasWriter r v u
  acted_writer r v u is (kept same) = kept (ap (λ (z : Representation). z.writer) (sym is) ∙ same)
  acted_writer r v u is (resumed x w row aim same) = resumed x w row aim (ap (λ (z : Representation). z.writer) (sym is) ∙ same)

  -- a representation after an entry was there, or is founded by a head
  pub data WasRow (r : ℕ) (u : Representation) : Type 0 where
    was_row : (v : Representation) → t.representation r ≡ Some v → u.key ≡ v.key → WasWriter r v u → WasRow r u
    new_row : (response : Response) (w : Exchange) → t.exchange r ≡ Some w → u.key ≡ w.request.key → u.writer ≡ writer_at r response → WasRow r u

  founded_with : (r x : ℕ) (response : Response) (u : Representation) (b : Bool) (o : Option Exchange) → (b ≡ true → x ≡ r) → t.exchange x ≡ o →
      (if b then option_map (new_representation r e response) o else None) ≡ Some u → WasRow r u
  founded_with r x response u false o here row h = absurd (none_some u h)
  founded_with r x response u true None here row h = absurd (none_some u h)
  founded_with r x response u true (Some w) here row h =
      let is = sym (some_inj (new_representation r e response w) u h) in
      new_row response w (ap t.exchange (sym (here refl)) ∙ row) (ap (λ (z : Representation). z.key) is) (ap (λ (z : Representation). z.writer) is)

  founded_new : (r : ℕ) (u : Representation) (ev : Event) → founded_at t e r ev ≡ Some u → WasRow r u
  founded_new r u (event.Head x response) h =
      founded_with r x response u (is_founding (case_at t e) && (x == r)) (t.exchange x) (λ b. eq_is x r (and_then _ _ b)) refl h
  founded_new r u _ h = absurd (none_some u h)

  pub representation_was : (r : ℕ) (o : Option Representation) (u : Representation) → t.representation r ≡ o → representation_after t e r o ≡ Some u →
      WasRow r u
  unfolding representation_after
  representation_was r None u row h = founded_new r u e.event h
  representation_was r (Some v) u row h =
      let is = some_inj (representation_acted t e r v (representation_heard t e r e.event v)) u h in
      was_row v row (ap (λ (z : Representation). z.key) (sym is) ∙ (heard_same t e r e.event v).key_is) (acted_writer r v u is (heard_writer r v e.event))
