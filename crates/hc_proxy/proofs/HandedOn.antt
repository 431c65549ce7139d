-- A part is handed to the cache of one exchange: from what the table took to the tables of the definitions.
--
-- An open exchange has its row on both sides, since all that were opened are dialled while the acts are quiet. So what
-- the table took is what stands next. A head is stepped before the row is read on: behind it the exchange has its head,
-- as reading on asks for. All else is read first. A piece takes as many bytes from what wasn't read as the cache
-- receives. Behind a piece that was denied a fault shuts the exchange; so two steps are made only where it isn't open
-- any more.
use Rattle.std.{proofs.{Common.{◌≡◌, ◌⊎◌, inl, inr, ◌≤◌, ℕ, ◌+◌, List, [], ◌∷◌, length, Bool, true, false, Option, Some, None, refl, ap, sym, ◌∙◌, subst, arith}, lemmas.Bool.Decides.{nat_tests}}, specs.Prelude.{◌&&◌, ◌||◌, nat_eq, nat_lt, option_map}}
use Rattle.hc_text.proofs.Basics.{some_inj, true_false}
use Rattle.hc_core.specs.Steps.{faults_in, steps, bytes_received}
use Rattle.hc_effects.proofs.Vocabulary.{is_denied, Act, Event, Response, Entry, is_open, is_wanted, Lawful, Tables, Exchange, Among, after, act, event}
use Rattle.hc_effects.proofs.OfConsumers.{open_there}
use Rattle.hc_msg.specs.declared.message.WirePart.TheVariants as part
use Rattle.hc_msg.specs.{Inputs.{Next, Waits, Reports, Brings, Ends, Fails}, Reading.{Reading, Done, Failed, Answers}}
use Rattle.hc_peers.specs.Origins as origins
use Rattle.hc_peers.specs.{Upstreams.{upstream_of, is_news, is_touched, has_news_at, Becomes, ListsStay}, declared.upstreams.Upstreams.{Upstreams}}
use Rattle.hc_peers.specs.declared.upstream.Upstream as origin
use Rattle.hc_store.specs.declared.backend.Backend.{Ghosts}
use Rattle.hc_proxy.specs.declared.proxy.Proxy as loop
use Rattle.hc_proxy.specs.{Carrying.{acts_in}, Connections.{taken_at}, Headed.{is_begun, has_head, IsReadAs}, Hearing.{IsApart, HasHanded, FaultStepped, PieceStepped}, Invariants.{OpensUp, unread, unread_of}, Keeping.{Turn, HasCache, IsUpstream, IsUpstreamAt, KeepsBut, Stepped, RestStays, Goes}, Network.{has_news, next_of, read_to, unless_denied, hands, hands_if, handed}, Rows.{Upstream, Proxy, with_upstream}, Steps.{with_entry}, Waiting.{is_poll}}
use Rattle.hc_proxy.specs.Steps as steps_of
use Rattle.hc_laws.proofs.Accepted as accepted
use Rattle.hc_proxy.proofs.{Alike.{cache_moves}, AnswerNext.{IsAnswerNext, answer_next}, DoneFor.{but_stepped}, NextBegun.{begun_waits, begun_brings, begun_ends}, OpenAfter.{was_open}, OriginRows.{row_changed}, QuietActs.{AreQuiet, is_quiet_entry, quiet_opens_none}, StepOn.{law_of}, TakenParts.{news_same, next_same, TakenNone, TakenErr, IsTakenAs, IsReadOff, brought_off, reported_off}, Unread.{among, unread_grows, unread_falls}}

-- quiet acts open nothing
pub quiet_up : (acts : List Act) (n m : ℕ) → AreQuiet acts → OpensUp n acts m → n ≡ m
quiet_up [] n m quiet up = up
quiet_up (act.Denied refusal ∷ acts) n m quiet up = quiet_up acts n m quiet up
quiet_up (act.Close x ∷ acts) n m quiet up = quiet_up acts n m quiet up
quiet_up (act.Lost r kind ∷ acts) n m quiet up = quiet_up acts n m quiet up
quiet_up (act.Evicted r ∷ acts) n m quiet up = quiet_up acts n m quiet up
quiet_up (act.Opened x c need request ∷ acts) n m quiet up = true_false (sym quiet)
quiet_up (act.Ask x ∷ acts) n m quiet up = true_false (sym quiet)
quiet_up (act.Shown c r why status fields lo hi ∷ acts) n m quiet up = true_false (sym quiet)
quiet_up (act.Given c x at bytes ∷ acts) n m quiet up = true_false (sym quiet)
quiet_up (act.Ended c ∷ acts) n m quiet up = true_false (sym quiet)
quiet_up (act.Failed c cause ∷ acts) n m quiet up = true_false (sym quiet)
quiet_up (act.Pending c wait ∷ acts) n m quiet up = true_false (sym quiet)

pub wanted_open : (o : Option Exchange) → is_wanted o ≡ true → is_open o ≡ true
wanted_open None h = h
wanted_open (Some w) h = by_open w.is_open _ h
  where
    by_open : (b c : Bool) → (b && c) ≡ true → b ≡ true
    by_open true c g = refl
    by_open false c g = g

-- who is open was opened
pub open_number : (t : Tables) → Lawful t → (z : ℕ) → is_open (t.exchange z) ≡ true → (b : Bool) → nat_lt t.opened z ≡ b → z ≤ t.opened
open_number t law z on true past = true_false (sym on ∙ ap is_open (law.sound.numbered.lists.new_exchanges z (grind (arith, nat_tests))))
open_number t law z on false past = grind (arith, nat_tests)

-- an open exchange stands among those that were opened
listed_is : (z : ℕ) (ys : List ℕ) → Among z ys → among z ys ≡ true
listed_is z [] there = absurd there
listed_is z (y ∷ ys) (inl here) = let one : nat_eq y z ≡ true = (let same : y ≡ z = here in grind (arith, nat_tests)) in rw one refl
listed_is z (y ∷ ys) (inr more) = either (nat_eq y z) (among z ys) (listed_is z ys more)
  where
    either : (a b : Bool) → b ≡ true → (a || b) ≡ true
    either true b h = refl
    either false b h = h

open_listed : (t : Tables) → Lawful t → (z : ℕ) → is_open (t.exchange z) ≡ true → among z t.openings ≡ true
open_listed t law z on = listed_is z t.openings (law.sound.numbered.lists.opened z (open_there (t.exchange z) on))

-- what is open behind an entry whose acts are quiet was open before
pub apart_entry : (z : ℕ) (p : Proxy) (e : Entry) → AreQuiet e.acts → IsApart z p (with_entry e p)
unfolding with_entry
apart_entry z p e quiet = record {
  rows = λ y off. refl;
  opens = λ y on. elim (was_open p.tables e y on) as (λ _. is_open (p.tables.exchange y) ≡ true) [
    | inl was ↦ was
    | inr opens ↦ absurd (let never : None ≡ Some opens.q = sym (quiet_opens_none e.acts quiet) ∙ opens.opens in cc)
  ];
}

pub apart_row : (z : ℕ) (change : Upstream → Upstream) (p : Proxy) → IsApart z p (with_upstream z change p)
apart_row z change p = record { rows = λ y off. rw off refl; opens = λ y on. on }

pub apart_both : (z : ℕ) (p q r : Proxy) → IsApart z p q → IsApart z q r → IsApart z p r
apart_both z p q r a b = record { rows = λ y off. b.rows y off ∙ a.rows y off; opens = λ y on. a.opens y (b.opens y on) }

pub apart_none : (z : ℕ) (p : Proxy) → IsApart z p p
apart_none z p = record { rows = λ y off. refl; opens = λ y on. on }

-- A ROW AND ITS ROW in the definitions

pub record BothRows (taken : ℕ → ℕ) (a : Option origin.Upstream) (b : Option Upstream) : Type 0 where
  pub u : origin.Upstream
  pub v : Upstream
  pub is_u : a ≡ Some u
  pub is_v : b ≡ Some v
  pub alike : IsUpstream (taken u.k) u v

rows_both : (taken : ℕ → ℕ) (a : Option origin.Upstream) (b : Option Upstream) → IsUpstreamAt taken a b → BothRows taken a b
rows_both taken None None at = absurd at
rows_both taken None (Some v) at = absurd at
rows_both taken (Some u) None at = absurd at
rows_both taken (Some u) (Some v) at = record { u = u; v = v; is_u = refl; is_v = refl; alike = at }

module _ {B : Type 0} {g : Ghosts B} where
  -- EVENTS OF z

  pub head_but : (z : ℕ) (t : Turn) (x x' : loop.Proxy B g) (p : Proxy) (response : Response) → KeepsBut z t x p →
      (s : Stepped t.frame x x' (event.Head z response) p) → RestStays x x' → x'.moved ≡ true → steps x'.cache ≡ steps x.cache + 1 →
      KeepsBut z t x' (with_entry s.e p)
  head_but z t x x' p response h s r moved one =
      but_stepped z t x x' p (event.Head z response) h s r refl (λ y stops. sym stops) moved one
      (λ c is. let never : event.Head z response ≡ event.Cancel c = is in cc) (λ c starts. starts)

  pub piece_but : (z : ℕ) (t : Turn) (x x' : loop.Proxy B g) (p : Proxy) (bytes : List ℕ) → KeepsBut z t x p →
      (s : Stepped t.frame x x' (event.Piece z bytes) p) → RestStays x x' → x'.moved ≡ true → steps x'.cache ≡ steps x.cache + 1 →
      KeepsBut z t x' (with_entry s.e p)
  piece_but z t x x' p bytes h s r moved one =
      but_stepped z t x x' p (event.Piece z bytes) h s r refl (λ y stops. sym stops) moved one
      (λ c is. let never : event.Piece z bytes ≡ event.Cancel c = is in cc) (λ c starts. starts)

  pub end_but : (z : ℕ) (t : Turn) (x x' : loop.Proxy B g) (p : Proxy) → KeepsBut z t x p → (s : Stepped t.frame x x' (event.End z) p) → RestStays x x' →
      x'.moved ≡ true → steps x'.cache ≡ steps x.cache + 1 → KeepsBut z t x' (with_entry s.e p)
  end_but z t x x' p h s r moved one =
      but_stepped z t x x' p (event.End z) h s r refl (λ y stops. sym stops) moved one (λ c is. let never : event.End z ≡ event.Cancel c = is in cc)
      (λ c starts. starts)

  pub fault_but : (z : ℕ) (t : Turn) (x x' : loop.Proxy B g) (p : Proxy) → KeepsBut z t x p → (s : Stepped t.frame x x' (event.Fault z) p) →
      RestStays x x' → x'.moved ≡ true → steps x'.cache ≡ steps x.cache + 1 → KeepsBut z t x' (with_entry s.e p)
  fault_but z t x x' p h s r moved one =
      but_stepped z t x x' p (event.Fault z) h s r refl (λ y stops. sym stops) moved one (λ c is. let never : event.Fault z ≡ event.Cancel c = is in cc)
      (λ c starts. starts)

  -- behind them
  pub apart_step : (z : ℕ) (t : Turn) (x x' : loop.Proxy B g) (p : Proxy) (ev : Event) → is_poll ev ≡ false → (s : Stepped t.frame x x' ev p) →
      IsApart z p (with_entry s.e p)
  apart_step z t x x' p ev off s = apart_entry z p s.e (is_quiet_entry t.frame.limits p.tables s.e s.is_owed (ap is_poll s.event_is ∙ off))

  pub fault_shuts : (z : ℕ) (t : Turn) (x x' : loop.Proxy B g) (p : Proxy) (s : Stepped t.frame x x' (event.Fault z) p) →
      is_open ((with_entry s.e p).tables.exchange z) ≡ false
  unfolding with_entry
  fault_shuts z t x x' p s = by_open (is_open ((after p.tables s.e).exchange z)) refl
    where
      row_shut : (o : Option Exchange) → p.tables.exchange z ≡ o → is_open o ≡ true → is_open ((after p.tables s.e).exchange z) ≡ false
      row_shut None row on = true_false (sym on)
      row_shut (Some w) row on = accepted.fault_closes t.frame.limits p.tables s.e s.is_owed z w row on s.event_is

      by_open : (b : Bool) → is_open ((after p.tables s.e).exchange z) ≡ b → is_open ((after p.tables s.e).exchange z) ≡ false
      by_open false off = off
      by_open true on = row_shut (p.tables.exchange z) refl ((apart_step z t x x' p (event.Fault z) refl s).opens z on)

  -- A ROW AND ITS ROW

  pub open_within : (t : Turn) (z : ℕ) (x : loop.Proxy B g) (p : Proxy) → KeepsBut z t x p → (y : ℕ) → is_open (p.tables.exchange y) ≡ true →
      y ≤ length t.dialled
  open_within t z x p h y on =
      let le : y ≤ p.tables.opened = open_number p.tables (law_of t.frame x p h.cache) y on (nat_lt p.tables.opened y) refl in
      let same : length t.dialled ≡ p.tables.opened = quiet_up (acts_in p.part) (length t.dialled) p.tables.opened h.quiet h.upstreams.opens in
      omega arith

  pub both_rows : (t : Turn) (z : ℕ) (x : loop.Proxy B g) (p : Proxy) → KeepsBut z t x p → is_open (p.tables.exchange z) ≡ true →
      BothRows (taken_at t.call) (upstream_of x.upstreams z) (p.upstream z)
  both_rows t z x p h on = rows_both (taken_at t.call) (upstream_of x.upstreams z) (p.upstream z) (h.upstreams.rows z on (open_within t z x p h z on))

  module _ (z : ℕ) (t : Turn) (x : loop.Proxy B g) (p : Proxy) (h : KeepsBut z t x p) where
    law : Lawful p.tables
    law = law_of t.frame x p h.cache

    -- where no part is wanted, or none may stand next
    pub wants_not : (v : Upstream) → p.upstream z ≡ Some v → (is_wanted (p.tables.exchange z) && has_news_at (upstream_of x.upstreams z)) ≡ false →
        (b : Bool) → is_wanted (p.tables.exchange z) ≡ b → (b && has_news v) ≡ false
    wants_not v is off false unwanted = refl
    wants_not v is off true on =
        let r = both_rows t z x p h (wanted_open (p.tables.exchange z) on) in
        let same : r.v ≡ v = some_inj r.v v (sym r.is_v ∙ is) in
        ap has_news (sym same) ∙ (sym (news_same (taken_at t.call r.u.k) r.u r.v r.alike)
        ∙ (sym (ap has_news_at r.is_u) ∙ (sym (ap (λ (b : Bool). b && has_news_at (upstream_of x.upstreams z)) on) ∙ off)))

    pub passed_over : (is_wanted (p.tables.exchange z) && has_news_at (upstream_of x.upstreams z)) ≡ false → handed t.frame.limits z p ≡ p
    passed_over off = by_row (p.upstream z) refl
      where
        by_row : (o : Option Upstream) → p.upstream z ≡ o → hands_if t.frame.limits z o p ≡ p
        by_row None is = refl
        by_row (Some v) is = rw (wants_not v is off (is_wanted (p.tables.exchange z)) refl) refl

    pub none_handed : (is_wanted (p.tables.exchange z) && has_news_at (upstream_of x.upstreams z)) ≡ false →
        Goes (HasHanded z t p (steps x.cache)) (faults_in x.cache) x (handed t.frame.limits z p)
    none_handed off = record {
      q = p;
      keeps = record { keeps = h; apart = apart_none z p; most = omega arith; once = λ on. omega arith; none = λ shut. omega arith };
      later = omega arith;
      same = λ same. sym (passed_over off);
    }

    first_on : (a b : Bool) → (a && b) ≡ true → a ≡ true
    first_on true b g = refl
    first_on false b g = g

    second_on : (a b : Bool) → (a && b) ≡ true → b ≡ true
    second_on true b g = g
    second_on false b g = true_false (sym g)

    pub wants_open : (is_wanted (p.tables.exchange z) && has_news_at (upstream_of x.upstreams z)) ≡ true → is_open (p.tables.exchange z) ≡ true
    wants_open wants = wanted_open (p.tables.exchange z) (first_on (is_wanted (p.tables.exchange z)) (has_news_at (upstream_of x.upstreams z)) wants)

    module _ (is_open_now : is_open (p.tables.exchange z) ≡ true) where
      pub rows : BothRows (taken_at t.call) (upstream_of x.upstreams z) (p.upstream z)
      rows = both_rows t z x p h is_open_now

      shut_never : {A : Type 0} → is_open (p.tables.exchange z) ≡ false → A
      shut_never shut = true_false (sym is_open_now ∙ shut)

      pub next_is : (n : Next) → origins.next_of rows.u ≡ n → next_of rows.v ≡ n
      next_is n is = sym (next_same (taken_at t.call rows.u.k) rows.u rows.v rows.alike) ∙ is

      -- what stands next is handed, where a part is wanted
      pub wants_handed : (is_wanted (p.tables.exchange z) && has_news_at (upstream_of x.upstreams z)) ≡ true → (n : Next) → origins.next_of rows.u ≡ n →
          handed t.frame.limits z p ≡ hands t.frame.limits z n p
      wants_handed wants n is =
          let wanted : is_wanted (p.tables.exchange z) ≡ true = first_on (is_wanted (p.tables.exchange z)) (has_news_at (upstream_of x.upstreams z)) wants in
          let news : has_news rows.v ≡ true =
          sym (news_same (taken_at t.call rows.u.k) rows.u rows.v rows.alike)
          ∙ (sym (ap has_news_at rows.is_u) ∙ second_on (is_wanted (p.tables.exchange z)) (has_news_at (upstream_of x.upstreams z)) wants) in
          ap (λ (o : Option Upstream). hands_if t.frame.limits z o p) rows.is_v
          ∙ (rw (wanted, news) (ap (λ (m : Next). hands t.frame.limits z m p) (next_is n is)))

      -- THE ROW IS READ ON

      module _ (reading : Reading) (rest : List ℕ) (s : Upstreams) (becomes : Becomes z (Some (origins.read_to reading rest rows.u)) x.upstreams s)
          (lists : ListsStay x.upstreams s) (shorter : length rest ≤ length rows.u.input) where
        alike : (v : Upstream) → IsUpstream (taken_at t.call rows.u.k) rows.u v →
            IsUpstream (taken_at t.call rows.u.k) (origins.read_to reading rest rows.u) (read_to reading rest v)
        alike v a = record { reading = refl; input = refl; ended = a.ended; within = a.within; unsent = a.unsent }

        less_here : (o : Option Upstream) → p.upstream z ≡ o → unread_of (option_map (read_to reading rest) o) ≤ unread_of o + 0
        less_here None is = omega arith
        less_here (Some v) is =
            let same : rows.v ≡ v = some_inj rows.v v (sym rows.is_v ∙ is) in
            let a : length rows.u.input ≡ length rows.v.input = ap length rows.alike.input in
            let b : length rows.v.input ≡ length v.input = ap (λ (w : Upstream). length w.input) same in
            omega arith

        read_room : unread (with_upstream z (read_to reading rest) p) + bytes_received x.cache ≤ t.frame.bytes
        read_room =
            let grows : unread (with_upstream z (read_to reading rest) p) ≤ unread p + 0 =
            unread_grows p (p.tables.opened + 1) law.order.openings z (read_to reading rest) 0 (less_here (p.upstream z) refl) in
            let all : unread p + bytes_received x.cache ≤ t.frame.bytes = h.cache.small in
            omega arith

        pub read_keeps : IsReadAs reading (p.tables.exchange z) → KeepsBut z t (record x { upstreams = s }) (with_upstream z (read_to reading rest) p)
        read_keeps heads =
            row_changed z t x p h (read_to reading rest) rows.u (origins.read_to reading rest rows.u) rows.is_u s becomes refl refl
            (λ v is a. alike v a) (λ y off. lists.0 y) (λ y off. lists.1 y) (λ v on is. heads) read_room

      -- it was read behind its head before
      read_was : IsReadAs rows.u.reader (p.tables.exchange z)
      read_was = subst (λ (r : Reading). IsReadAs r (p.tables.exchange z)) (sym rows.alike.reading) (h.cache.headed z rows.v is_open_now rows.is_v)

      pub headed_was : is_begun rows.u.reader ≡ true → has_head (p.tables.exchange z) ≡ true
      headed_was = read_was.1

      pub answers_next : (n : Next) → origins.next_of rows.u ≡ n → IsAnswerNext n
      answers_next n is = subst IsAnswerNext is (answer_next 16384 rows.u.reader rows.u.input read_was.0)

      -- WHAT WAS TAKEN IS HANDED

      module _ (handed_is : (n : Next) → origins.next_of rows.u ≡ n → handed t.frame.limits z p ≡ hands t.frame.limits z n p) (s : Upstreams)
          (lists : ListsStay x.upstreams s) (new : origin.Upstream) (becomes : Becomes z (Some new) x.upstreams s) where
        abbrev y : loop.Proxy B g
        y = record x { upstreams = s }

        now_is : (reading : Reading) (rest : List ℕ) → new ≡ origins.read_to reading rest rows.u →
            Becomes z (Some (origins.read_to reading rest rows.u)) x.upstreams s
        now_is reading rest is = subst (λ (n : origin.Upstream). Becomes z (Some n) x.upstreams s) is becomes

        -- nothing
        pub waits_goes : TakenNone (origins.next_of rows.u) rows.u new →
            Goes (HasHanded z t p (steps x.cache)) (faults_in x.cache) y (handed t.frame.limits z p)
        waits_goes taken = record {
          q = with_upstream z (read_to taken.reading []) p;
          keeps = record {
            keeps = read_keeps taken.reading [] s (now_is taken.reading [] taken.now) lists (omega arith) (
              answers_next (Waits taken.reading) taken.next,
              λ begun. headed_was (begun_waits 16384 rows.u.reader rows.u.input taken.reading taken.next begun),
            );
            apart = apart_row z (read_to taken.reading []) p;
            most = omega arith;
            once = λ on. omega arith;
            none = λ shut. omega arith;
          };
          later = omega arith;
          same = λ same. sym (handed_is (Waits taken.reading) taken.next);
        }

        -- an error, by a fault
        pub fails_goes : TakenErr (origins.next_of rows.u) rows.u new → (x' : loop.Proxy B g) →
            ((q : Proxy) → HasCache t.frame y q → Stepped t.frame y x' (event.Fault z) q) → RestStays y x' → x'.moved ≡ true →
            steps x'.cache ≡ steps x.cache + 1 → Goes (HasHanded z t p (steps x.cache)) (faults_in x.cache) x' (handed t.frame.limits z p)
        fails_goes taken x' stepped rest moved one =
            let q = with_upstream z (read_to (Failed taken.e) []) p in
            let kept = read_keeps (Failed taken.e) [] s (now_is (Failed taken.e) [] taken.now) lists (omega arith) (refl, λ begun. true_false (sym begun)) in
            let st = stepped q kept.cache in
            let count : steps x'.cache ≡ steps x.cache + 1 = one in
            record {
              q = with_entry st.e q;
              keeps = record {
                keeps = fault_but z t y x' q kept st rest moved one;
                apart = apart_both z p q (with_entry st.e q) (apart_row z (read_to (Failed taken.e) []) p) (apart_step z t y x' q (event.Fault z) refl st);
                most = omega arith;
                once = λ on. omega arith;
                none = shut_never;
              };
              later = st.later;
              same = λ same. ap (λ (e : Entry). with_entry e q) (st.same same) ∙ sym (handed_is (Fails taken.e) taken.next);
            }

        -- the end
        pub end_goes : IsTakenAs part.End (origins.next_of rows.u) rows.u new → (x' : loop.Proxy B g) →
            ((q : Proxy) → HasCache t.frame y q → Stepped t.frame y x' (event.End z) q) → RestStays y x' → x'.moved ≡ true →
            steps x'.cache ≡ steps x.cache + 1 → Goes (HasHanded z t p (steps x.cache)) (faults_in x.cache) x' (handed t.frame.limits z p)
        end_goes taken x' stepped rest moved one =
            let q = with_upstream z (read_to Done []) p in
            let kept = read_keeps Done [] s (now_is Done [] taken.1) lists (omega arith)
            (refl, λ begun. headed_was (begun_ends 16384 rows.u.reader rows.u.input taken.0)) in
            let st = stepped q kept.cache in
            let count : steps x'.cache ≡ steps x.cache + 1 = one in
            record {
              q = with_entry st.e q;
              keeps = record {
                keeps = end_but z t y x' q kept st rest moved one;
                apart = apart_both z p q (with_entry st.e q) (apart_row z (read_to Done []) p) (apart_step z t y x' q (event.End z) refl st);
                most = omega arith;
                once = λ on. omega arith;
                none = shut_never;
              };
              later = st.later;
              same = λ same. ap (λ (e : Entry). with_entry e q) (st.same same) ∙ sym (handed_is Ends taken.0);
            }

        -- A PIECE

        module _ (bytes : List ℕ) (taken : IsTakenAs (part.Piece bytes) (origins.next_of rows.u) rows.u new) where
          abbrev rest_of : List ℕ
          rest_of = taken.1

          abbrev pub r : Proxy
          r = with_upstream z (read_to taken.0 taken.1) p

          off : IsReadOff bytes taken.1 rows.u.input
          off = brought_off rows.u.reader rows.u.input bytes taken.0 taken.1 taken.2

          pub piece_kept : KeepsBut z t y r
          piece_kept = read_keeps taken.0 taken.1 s (now_is taken.0 taken.1 taken.3) lists
              (let all : length taken.1 + length bytes ≤ length rows.u.input = off.all in omega arith) (
                answers_next (Brings bytes taken.0 taken.1) taken.2,
                λ begun. headed_was (begun_brings 16384 rows.u.reader rows.u.input bytes taken.0 taken.1 taken.2),
              )

          falls_here : (o : Option Upstream) → p.upstream z ≡ o → unread_of (option_map (read_to taken.0 taken.1) o) + length bytes ≤ unread_of o
          falls_here None is = absurd (let never : None ≡ Some rows.v = sym is ∙ rows.is_v in cc)
          falls_here (Some v) is =
              let same : rows.v ≡ v = some_inj rows.v v (sym rows.is_v ∙ is) in
              let a : length rows.u.input ≡ length rows.v.input = ap length rows.alike.input in
              let b : length rows.v.input ≡ length v.input = ap (λ (w : Upstream). length w.input) same in
              let all : length taken.1 + length bytes ≤ length rows.u.input = off.all in
              omega arith

          pub piece_room : unread r + bytes_received y.cache + length bytes ≤ t.frame.bytes
          piece_room =
              let falls : unread r + length bytes ≤ unread p =
              unread_falls p (p.tables.opened + 1) law.order.openings z (read_to taken.0 taken.1) (length bytes) (falls_here (p.upstream z) refl)
              (open_listed p.tables law z is_open_now) in
              let all : unread p + bytes_received x.cache ≤ t.frame.bytes = h.cache.small in
              omega arith

          module _ (x' : loop.Proxy B g) (made : PieceStepped t.frame y x' z bytes r) (moved : x'.moved ≡ true) where
            abbrev e : Entry
            e = made.first.e

            piece_then : KeepsBut z t made.mid (with_entry e r)
            piece_then = piece_but z t y made.mid r bytes piece_kept made.first made.rest made.moved made.one

            apart_piece : IsApart z p (with_entry e r)
            apart_piece = apart_both z p r (with_entry e r) (apart_row z (read_to taken.0 taken.1) p)
                (apart_step z t y made.mid r (event.Piece z bytes) refl made.first)

            -- the same as in the definitions, but for what is behind a denial
            same_first : faults_in made.mid.cache ≡ faults_in x.cache → unless_denied t.frame.limits z (with_entry e r) ≡ handed t.frame.limits z p
            same_first same = ap (λ (d : Entry). unless_denied t.frame.limits z (with_entry d r)) (made.first.same same) ∙
                sym (handed_is (Brings bytes taken.0 taken.1) taken.2)

            undenied : is_denied e.acts ≡ false → unless_denied t.frame.limits z (with_entry e r) ≡ with_entry e r
            unfolding with_entry
            undenied on = rw on refl

            denied : is_denied e.acts ≡ true →
                unless_denied t.frame.limits z (with_entry e r) ≡ steps_of.stepped t.frame.limits (event.Fault z) (with_entry e r)
            unfolding with_entry
            denied off = rw off refl

            one_made : is_denied e.acts ≡ false → Goes (HasHanded z t p (steps x.cache)) (faults_in x.cache) made.mid (handed t.frame.limits z p)
            one_made on =
                let count : steps made.mid.cache ≡ steps x.cache + 1 = made.one in
                record {
                  q = with_entry e r;
                  keeps = record { keeps = piece_then; apart = apart_piece; most = omega arith; once = λ still. omega arith; none = shut_never };
                  later = made.first.later;
                  same = λ same. sym (undenied on) ∙ same_first same;
                }

            two_made : is_denied e.acts ≡ true → FaultStepped t.frame made.mid x' z (with_entry e r) →
                Goes (HasHanded z t p (steps x.cache)) (faults_in x.cache) x' (handed t.frame.limits z p)
            two_made off fault =
                let q = with_entry fault.stepped.e (with_entry e r) in
                let count : steps made.mid.cache ≡ steps x.cache + 1 = made.one in
                let again : steps x'.cache ≡ steps made.mid.cache + 1 = fault.one in
                let a : faults_in x.cache ≤ faults_in made.mid.cache = made.first.later in
                let b : faults_in made.mid.cache ≤ faults_in x'.cache = fault.stepped.later in
                record {
                  q = q;
                  keeps = record {
                    keeps = fault_but z t made.mid x' (with_entry e r) piece_then fault.stepped fault.rest moved fault.one;
                    apart = apart_both z p (with_entry e r) q apart_piece (apart_step z t made.mid x' (with_entry e r) (event.Fault z) refl fault.stepped);
                    most = omega arith;
                    once = λ on. true_false (sym on ∙ fault_shuts z t made.mid x' (with_entry e r) fault.stepped);
                    none = shut_never;
                  };
                  later = omega arith;
                  same = λ same.
                      let c : faults_in x'.cache ≡ faults_in x.cache = same in
                      let before : faults_in made.mid.cache ≡ faults_in x.cache = omega arith in
                      let behind : faults_in x'.cache ≡ faults_in made.mid.cache = omega arith in
                      ap (λ (d : Entry). with_entry d (with_entry e r)) (fault.stepped.same behind) ∙ (sym (denied off) ∙ same_first before);
                }

            pub piece_goes : Goes (HasHanded z t p (steps x.cache)) (faults_in x.cache) x' (handed t.frame.limits z p)
            piece_goes = by_denial made.behind
              where
                by_denial : ((is_denied e.acts ≡ false) × (x' ≡ made.mid)) ⊎
                    ((is_denied e.acts ≡ true) × FaultStepped t.frame made.mid x' z (with_entry e r)) →
                    Goes (HasHanded z t p (steps x.cache)) (faults_in x.cache) x' (handed t.frame.limits z p)
                by_denial (inl on) = subst
                    (λ (w : loop.Proxy B g). Goes (HasHanded z t p (steps x.cache)) (faults_in x.cache) w (handed t.frame.limits z p)) (sym on.1)
                    (one_made on.0)
                by_denial (inr off) = two_made off.0 off.1

        -- A HEAD, which is stepped before the row is read on

        module _ (response : Response) (taken : IsTakenAs (part.Head response) (origins.next_of rows.u) rows.u new) (x' : loop.Proxy B g)
            (stepped : Stepped t.frame y x' (event.Head z response) p) (rest : RestStays y x') (moved : x'.moved ≡ true)
            (one : steps x'.cache ≡ steps x.cache + 1) where
          abbrev unread_yet : loop.Proxy B g
          unread_yet = record x' { upstreams = x.upstreams }

          abbrev reported : Proxy
          reported = with_entry stepped.e p

          abbrev st : Stepped t.frame x unread_yet (event.Head z response) p
          st = record {
            e = stepped.e;
            now = stepped.now;
            event_is = stepped.event_is;
            is_owed = stepped.is_owed;
            acts = stepped.acts;
            cache = cache_moves t.frame x' unread_yet reported refl refl refl refl refl stepped.cache;
            later = stepped.later;
            same = stepped.same;
          }

          before_read : KeepsBut z t unread_yet reported
          before_read = head_but z t x unread_yet p response h st
              (record {
                now = rest.now;
                starts = rest.starts;
                front = rest.front;
                clients = rest.clients;
                upstreams = refl;
                closed = rest.closed;
                round = rest.round;
              }) moved one

          row_headed : (o u : Option Exchange) → p.tables.exchange z ≡ o → is_open o ≡ true → (after p.tables stepped.e).exchange z ≡ u →
              is_open u ≡ true → has_head u ≡ true
          row_headed None u row was behind on = true_false (sym was)
          row_headed (Some w) None row was behind on = true_false (sym on)
          row_headed (Some w) (Some u) row was behind on =
              accepted.has_head t.frame.limits p.tables stepped.e stepped.is_owed z w row was response stepped.event_is u behind

          heads : (v : Upstream) → is_open (reported.tables.exchange z) ≡ true → reported.upstream z ≡ Some v →
              IsReadAs (read_to taken.0 taken.1 v).reading (reported.tables.exchange z)
          unfolding with_entry
          heads v on is = (
            answers_next (Reports (Answers response) taken.0 taken.1) taken.2,
            λ begun. row_headed (p.tables.exchange z) ((after p.tables stepped.e).exchange z) refl is_open_now refl on,
          )

          reported_row : reported.upstream z ≡ p.upstream z
          unfolding with_entry
          reported_row = refl

          shorter : length taken.1 ≤ length rows.u.input
          shorter = reported_off rows.u.reader rows.u.input (Answers response) taken.0 taken.1 taken.2

          less_reported : unread_of (option_map (read_to taken.0 taken.1) (reported.upstream z)) ≤ unread_of (reported.upstream z) + 0
          less_reported = subst (λ (o : Option Upstream). unread_of (option_map (read_to taken.0 taken.1) o) ≤ unread_of o + 0) (sym reported_row)
              (less_here taken.0 taken.1 s (now_is taken.0 taken.1 taken.3) lists shorter (p.upstream z) refl)

          reported_room : unread (with_upstream z (read_to taken.0 taken.1) reported) + bytes_received x'.cache ≤ t.frame.bytes
          reported_room =
              let grows : unread (with_upstream z (read_to taken.0 taken.1) reported) ≤ unread reported + 0 =
              unread_grows reported (reported.tables.opened + 1) (law_of t.frame unread_yet reported before_read.cache).order.openings z
              (read_to taken.0 taken.1) 0 less_reported in
              let all : unread reported + bytes_received x'.cache ≤ t.frame.bytes = stepped.cache.small in
              omega arith

          head_kept : KeepsBut z t x' (with_upstream z (read_to taken.0 taken.1) reported)
          head_kept =
              row_changed z t unread_yet reported before_read (read_to taken.0 taken.1) rows.u (origins.read_to taken.0 taken.1 rows.u) rows.is_u x'.upstreams
              (subst (λ (up : Upstreams). Becomes z (Some (origins.read_to taken.0 taken.1 rows.u)) x.upstreams up) (sym rest.upstreams)
              (now_is taken.0 taken.1 taken.3))
              refl refl (λ v is a. alike taken.0 taken.1 s (now_is taken.0 taken.1 taken.3) lists shorter v a)
              (λ w apart. ap (λ (up : Upstreams). is_news up w) rest.upstreams ∙ lists.0 w)
              (λ w apart. ap (λ (up : Upstreams). is_touched up w) rest.upstreams ∙ lists.1 w)
              heads reported_room

          commutes : (d : Entry) → with_upstream z (read_to taken.0 taken.1) (with_entry d p) ≡ with_entry d (with_upstream z (read_to taken.0 taken.1) p)
          unfolding with_entry
          commutes d = refl

          pub head_goes : Goes (HasHanded z t p (steps x.cache)) (faults_in x.cache) x' (handed t.frame.limits z p)
          head_goes =
              let count : steps x'.cache ≡ steps x.cache + 1 = one in
              record {
                q = with_upstream z (read_to taken.0 taken.1) reported;
                keeps = record {
                  keeps = head_kept;
                  apart = apart_both z p reported (with_upstream z (read_to taken.0 taken.1) reported)
                      (apart_step z t x unread_yet p (event.Head z response) refl st) (apart_row z (read_to taken.0 taken.1) reported);
                  most = omega arith;
                  once = λ on. omega arith;
                  none = shut_never;
                };
                later = stepped.later;
                same = λ same.
                    commutes stepped.e
                    ∙ (ap (λ (d : Entry). with_entry d (with_upstream z (read_to taken.0 taken.1) p)) (stepped.same same)
                    ∙ sym (handed_is (Reports (Answers response) taken.0 taken.1) taken.2));
              }
