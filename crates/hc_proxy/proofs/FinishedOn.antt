-- The connection of an exchange has ended: what its close comes to.
--
-- Where a part stands next, nothing is done. An error is a fault. Where all was read, the row is read to the end of the
-- connection, and the end is stepped, or a fault. Either shuts the exchange: an end since whoever reads behind a head
-- has that. So the row of the code need not be that of the definitions, which stays: behind the step it is let go.
use Rattle.std.{proofs.Common.{◌≡◌, inl, inr, ◌≤◌, ◌<◌, ℕ, ◌+◌, [], Bool, true, false, Option, Some, None, refl, ap, sym, ◌∙◌, subst, arith}, specs.{Prelude.{◌&&◌, nat_eq, option_map, if◌then◌else◌, Result, Ok, Err}, Result.{is_ok}}}
use Rattle.hc_text.proofs.Basics.{some_inj, true_false}
use Rattle.hc_core.specs.Steps.{faults_in, steps, bytes_received}
use Rattle.hc_effects.proofs.Vocabulary.{Event, Entry, is_open, is_wanted, Exchange, owed, after, event}
use Rattle.hc_head.specs.declared.message.MsgError.{MsgError}
use Rattle.hc_effects.proofs.PieceKeeps.{eq_cases}
use Rattle.hc_msg.specs.{declared.message.{Look.{Look}, WirePart.{WirePart}}, Inputs.{Next, Waits, Reports, Brings, Ends, Fails, look_of}, Reading.{Reading, Heading, Counts, Runs, Sizing, Chunk, ChunkEnd, ChunkReturn, Trailing, Whole, Done, Failed}, Taking.{ending, reading_at_end}}
use Rattle.hc_msg.specs.declared.message.Look.TheVariants as look
use Rattle.hc_peers.specs.Origins as origins
use Rattle.hc_peers.specs.{Upstreams.{upstream_of, has_ended_at, look_at, Becomes, ListsStay}, declared.upstreams.Upstreams.{Upstreams}}
use Rattle.hc_peers.specs.declared.upstream.Upstream as origin
use Rattle.hc_store.specs.declared.backend.Backend.{Ghosts}
use Rattle.hc_proxy.specs.declared.proxy.Proxy as loop
use Rattle.hc_proxy.specs.{Carrying.{acts_in}, Connections.{taken_at}, Headed.{is_answer, is_begun, has_head}, Hearing.{IsApart, IsHeardAt, HasFinished}, Invariants.{IsHolder, is_part, is_due_by, unread}, Keeping.{Turn, HasCache, HasUpstreamsBut, IsUpstreamAt, KeepsBut, Stepped, RestStays, Goes}, Network.{next_of, read_to, event_at_close, closes, closes_if, closed}, Rows.{Upstream, Proxy, with_upstream}, Steps.{with_entry}, Waiting.{is_poll}}
use Rattle.hc_laws.proofs.Accepted as accepted
use Rattle.hc_proxy.proofs.{Alike.{cache_moves, cache_rows}, HandedOn.{BothRows, rows, next_is, read_keeps, headed_was, apart_none, apart_step, end_but, fault_but, fault_shuts}, NextBegun.{begun_waits}, QuietActs.{AreQuiet, is_quiet_entry, quiet_opens_none}, TakenParts.{TakenNone, looks_fails}, Unread.{unread_entry}}

-- READ TO THE END OF THE CONNECTION

begun_at_end : (r : Reading) → is_begun (reading_at_end r) ≡ true → is_begun r ≡ true
begun_at_end (Heading kind scan text) h = h
begun_at_end (Counts left) h = refl
begun_at_end Runs h = refl
begun_at_end (Sizing text) h = refl
begun_at_end (Chunk left) h = refl
begun_at_end ChunkEnd h = refl
begun_at_end ChunkReturn h = refl
begun_at_end (Trailing place count) h = refl
begun_at_end Whole h = refl
begun_at_end Done h = refl
begun_at_end (Failed e) h = h

answer_at_end : (r : Reading) → is_answer (reading_at_end r) ≡ true
answer_at_end (Heading kind scan text) = refl
answer_at_end (Counts left) = refl
answer_at_end Runs = refl
answer_at_end (Sizing text) = refl
answer_at_end (Chunk left) = refl
answer_at_end ChunkEnd = refl
answer_at_end ChunkReturn = refl
answer_at_end (Trailing place count) = refl
answer_at_end Whole = refl
answer_at_end Done = refl
answer_at_end (Failed e) = refl

-- an answer that is whole by the close was read behind its head
begun_ending : (r : Reading) → is_ok (ending r) ≡ true → is_begun r ≡ true
begun_ending (Heading kind scan text) h = h
begun_ending (Counts left) h = refl
begun_ending Runs h = refl
begun_ending (Sizing text) h = refl
begun_ending (Chunk left) h = refl
begun_ending ChunkEnd h = refl
begun_ending ChunkReturn h = refl
begun_ending (Trailing place count) h = refl
begun_ending Whole h = refl
begun_ending Done h = refl
begun_ending (Failed e) h = h

ends_so : (z : ℕ) (r : Result WirePart MsgError) → is_ok r ≡ true → event_at_close z r ≡ event.End z
ends_so z (Ok part) h = refl
ends_so z (Err e) h = true_false (sym h)

fails_so : (z : ℕ) (r : Result WirePart MsgError) → is_ok r ≡ false → event_at_close z r ≡ event.Fault z
fails_so z (Ok part) h = true_false h
fails_so z (Err e) h = refl

looks_part : (n : Next) → look_of n ≡ look.Part → is_part n ≡ true
looks_part (Reports token reading rest) is = refl
looks_part (Brings bytes reading rest) is = refl
looks_part Ends is = refl
looks_part (Waits reading) is = absurd (let never : look.Waits ≡ look.Part = is in cc)
looks_part (Fails e) is = absurd (let never : look.Fails ≡ look.Part = is in cc)

unread_quiet : (p : Proxy) (e : Entry) → AreQuiet e.acts → unread (with_entry e p) ≡ unread p
unread_quiet p e quiet = unread_entry p e (λ o opens. absurd (let never : None ≡ Some o = sym (quiet_opens_none e.acts quiet) ∙ opens in cc))

module _ {B : Type 0} {g : Ghosts B} where
  -- THE ROW OF A SHUT EXCHANGE is any

  module _ (z : ℕ) (t : Turn) (x : loop.Proxy B g) (q : Proxy) (change : Upstream → Upstream) (h : KeepsBut z t x (with_upstream z change q))
      (shut : is_open (q.tables.exchange z) ≡ false) (small : unread q + bytes_received x.cache ≤ t.frame.bytes) where
    off_is : (y : ℕ) → nat_eq y z ≡ false → (with_upstream z change q).upstream y ≡ q.upstream y
    off_is y off = rw off refl

    open_off : (y : ℕ) → is_open (q.tables.exchange y) ≡ true → nat_eq y z ≡ false
    open_off y on = elim (eq_cases y z) [
      | inr off ↦ off.0
      | inl here ↦ true_false (sym on ∙ (ap (λ n. is_open (q.tables.exchange n)) here.1 ∙ shut))
    ]

    none_was : (o : Option Upstream) → option_map change o ≡ None → o ≡ None
    none_was None is = refl
    none_was (Some v) is = absurd (let never : Some (change v) ≡ None = is in cc)

    unopened : (y : ℕ) → q.tables.opened < y → q.upstream y ≡ None
    unopened y lt = elim (eq_cases y z) as (λ _. q.upstream y ≡ None) [
      | inr off ↦ sym (off_is y off.0) ∙ h.cache.unopened y lt
      | inl here ↦ none_was (q.upstream y) (sym (rw here.0 refl) ∙ h.cache.unopened y lt)
    ]

    cache : HasCache t.frame x q
    cache = cache_rows t.frame x (with_upstream z change q) q.upstream unopened (λ y v on is. h.cache.headed y v on (off_is y (open_off y on) ∙ is)) small
        h.cache

    upstreams : HasUpstreamsBut z t x q (acts_in q.part)
    upstreams = record {
      rows = λ y on le. subst (λ o. IsUpstreamAt (taken_at t.call) (upstream_of x.upstreams y) o) (off_is y (open_off y on)) (h.upstreams.rows y on le);
      numbers = h.upstreams.numbers;
      over = h.upstreams.over;
      news = λ y off on none asks. ap (λ o. is_due_by (is_wanted (q.tables.exchange y)) o) (sym (off_is y off)) ∙ h.upstreams.news y off on none asks;
      touched = h.upstreams.touched;
      opens = h.upstreams.opens;
      names = h.upstreams.names;
      strangers = h.upstreams.strangers;
    }

    pub row_free : KeepsBut z t x q
    row_free = record {
      cache = cache;
      acts = h.acts;
      clients = record { rows = h.clients.rows; order = h.clients.order; listed = h.clients.listed; few = h.clients.few };
      consumers = record {
        held = λ j c w. h.consumers.held j c (back j c w);
        started = λ j c w. h.consumers.started j c (back j c w);
        live =
            λ c is. (let w = h.consumers.live c is in (w.0, on w.0 c w.1));
        alive = λ j c w. h.consumers.alive j c (back j c w);
        idle = h.consumers.idle;
      };
      upstreams = upstreams;
      wire = h.wire;
      numbers = h.numbers;
      opened = h.opened;
      seen = h.seen;
      shut = h.shut;
      known = h.known;
      moved = h.moved;
      quiet = h.quiet;
    }
      where
        back : (j c : ℕ) → IsHolder q j c → IsHolder (with_upstream z change q) j c
        back j c w = record { row = w.row; at = w.at; here = w.here; consumer = w.consumer }

        on : (j c : ℕ) → IsHolder (with_upstream z change q) j c → IsHolder q j c
        on j c w = record { row = w.row; at = w.at; here = w.here; consumer = w.consumer }

  -- WHERE NOTHING IS DONE

  module _ (z : ℕ) (t : Turn) (x : loop.Proxy B g) (p : Proxy) (h : KeepsBut z t x p) where
    same_finished : closed t.frame.limits z p ≡ p → IsHeardAt z p → Goes (HasFinished z t p (steps x.cache)) (faults_in x.cache) x (closed t.frame.limits z p)
    same_finished is heard = record {
      q = p;
      keeps = record { keeps = h; apart = apart_none z p; heard = heard; most = omega arith; none = λ shut. omega arith };
      later = omega arith;
      same = λ same. sym is;
    }

    shut_off : (a b : Bool) → b ≡ false → (a && b) ≡ false
    shut_off true b h = h
    shut_off false b h = refl

    -- it isn't open
    pub shut_finished : is_open (p.tables.exchange z) ≡ false → Goes (HasFinished z t p (steps x.cache)) (faults_in x.cache) x (closed t.frame.limits z p)
    shut_finished shut = same_finished (by_row (p.upstream z)) (λ v on is ended. true_false (sym on ∙ shut))
      where
        by_row : (o : Option Upstream) → closes_if t.frame.limits z o p ≡ p
        by_row None = refl
        by_row (Some v) = rw (shut_off v.ended (is_open (p.tables.exchange z)) shut) refl

    module _ (on : is_open (p.tables.exchange z) ≡ true) where
      abbrev r : BothRows (taken_at t.call) (upstream_of x.upstreams z) (p.upstream z)
      r = rows z t x p h on

      ended_is : (b : Bool) → has_ended_at (upstream_of x.upstreams z) ≡ b → r.v.ended ≡ b
      ended_is b is = sym r.alike.ended ∙ (sym (ap has_ended_at r.is_u) ∙ is)

      -- its connection hasn't ended
      pub unended_finished : has_ended_at (upstream_of x.upstreams z) ≡ false →
          Goes (HasFinished z t p (steps x.cache)) (faults_in x.cache) x (closed t.frame.limits z p)
      unended_finished off =
          same_finished (ap (λ (o : Option Upstream). closes_if t.frame.limits z o p) r.is_v ∙ rw (ended_is false off) refl)
          (λ v here is ended. true_false (sym ended ∙ (ap (λ (w : Upstream). w.ended) (some_inj v r.v (sym is ∙ r.is_v)) ∙ ended_is false off)))

      module _ (ended : has_ended_at (upstream_of x.upstreams z) ≡ true) where
        closed_is : (n : Next) → origins.next_of r.u ≡ n → closed t.frame.limits z p ≡ closes t.frame.limits z n p
        closed_is n is =
            ap (λ (o : Option Upstream). closes_if t.frame.limits z o p) r.is_v
            ∙ (rw (ended_is true ended, on) (ap (λ (m : Next). closes t.frame.limits z m p) (next_is z t x p h on n is)))

        looks_as : (l : Look) → look_at (upstream_of x.upstreams z) ≡ l → look_of (origins.next_of r.u) ≡ l
        looks_as l is = sym (ap look_at r.is_u) ∙ is

        part_closes : (n : Next) → is_part n ≡ true → closes t.frame.limits z n p ≡ p
        part_closes (Waits reading) h = true_false (sym h)
        part_closes (Reports token reading rest) h = refl
        part_closes (Brings bytes reading rest) h = refl
        part_closes Ends h = refl
        part_closes (Fails e) h = true_false (sym h)

        -- a part stands next
        pub part_finished : look_at (upstream_of x.upstreams z) ≡ look.Part →
            Goes (HasFinished z t p (steps x.cache)) (faults_in x.cache) x (closed t.frame.limits z p)
        part_finished looks =
            let stands : is_part (origins.next_of r.u) ≡ true = looks_part (origins.next_of r.u) (looks_as look.Part looks) in
            same_finished (closed_is (origins.next_of r.u) refl ∙ part_closes (origins.next_of r.u) stands)
            (λ v here is ends. ap (λ (w : Upstream). is_part (next_of w)) (some_inj v r.v (sym is ∙ r.is_v)) ∙
            (ap is_part (next_is z t x p h on (origins.next_of r.u) refl) ∙ stands))

        -- an error does
        pub fails_finished : look_at (upstream_of x.upstreams z) ≡ look.Fails → (x' : loop.Proxy B g) → Stepped t.frame x x' (event.Fault z) p →
            RestStays x x' → x'.moved ≡ true → steps x'.cache ≡ steps x.cache + 1 →
            Goes (HasFinished z t p (steps x.cache)) (faults_in x.cache) x' (closed t.frame.limits z p)
        fails_finished looks x' st rest moved one =
            let e = looks_fails (origins.next_of r.u) (looks_as look.Fails looks) in
            let count : steps x'.cache ≡ steps x.cache + 1 = one in
            record {
              q = with_entry st.e p;
              keeps = record {
                keeps = fault_but z t x x' p h st rest moved one;
                apart = apart_step z t x x' p (event.Fault z) refl st;
                heard = λ v still is ends. true_false (sym still ∙ fault_shuts z t x x' p st);
                most = omega arith;
                none = λ shut. true_false (sym on ∙ shut);
              };
              later = st.later;
              same = λ same. ap (λ (d : Entry). with_entry d p) (st.same same) ∙ sym (closed_is (Fails e.0) e.1);
            }

        -- WHAT CAME IS READ TO ITS END

        module _ (looks : look_at (upstream_of x.upstreams z) ≡ look.Waits) (s s' : Upstreams) (after_take : origin.Upstream)
            (taken : TakenNone (origins.next_of r.u) r.u after_take) (takes : Becomes z (Some after_take) x.upstreams s) (took : ListsStay x.upstreams s)
            (finishes : Becomes z (Some (origins.finished after_take)) s s') (stays : ListsStay s s') where
          abbrev y : loop.Proxy B g
          y = record x { upstreams = s' }

          abbrev last : Reading
          last = reading_at_end taken.reading

          abbrev change : Upstream → Upstream
          change = read_to last []

          becomes : Becomes z (Some (origins.read_to last [] r.u)) x.upstreams s'
          becomes w = elim (eq_cases w z) as (λ _. upstream_of s' w ≡ (if nat_eq w z then Some (origins.read_to last [] r.u) else upstream_of x.upstreams w)) [
            | inl here ↦ finishes w ∙ rw here.0 (ap (λ (u : origin.Upstream). Some (origins.finished u)) taken.now)
            | inr off ↦ finishes w ∙ (rw off.0 (takes w ∙ rw off.0 refl))
          ]

          lists : ListsStay x.upstreams s'
          lists = (λ w. stays.0 w ∙ took.0 w, λ w. stays.1 w ∙ took.1 w)

          has_head_if : is_begun taken.reading ≡ true → has_head (p.tables.exchange z) ≡ true
          has_head_if begun = headed_was z t x p h on (begun_waits 16384 r.u.reader r.u.input taken.reading taken.next begun)

          pub read_out : KeepsBut z t y (with_upstream z change p)
          read_out = read_keeps z t x p h on last [] s' becomes lists (omega arith)
              (answer_at_end taken.reading, λ begun. has_head_if (begun_at_end taken.reading begun))

          closes_as : closed t.frame.limits z p ≡ closes t.frame.limits z (Waits taken.reading) p
          closes_as = closed_is (Waits taken.reading) taken.next

          module _ (ev : Event) (off : is_poll ev ≡ false) (ends_as : event_at_close z (ending taken.reading) ≡ ev) (x' : loop.Proxy B g)
              (stepped : (q : Proxy) → HasCache t.frame y q → Stepped t.frame y x' ev q) (rest : RestStays y x')
              (one : steps x'.cache ≡ steps x.cache + 1) where
            abbrev st : Stepped t.frame y x' ev (with_upstream z change p)
            st = stepped (with_upstream z change p) read_out.cache

            cache_here : HasCache t.frame y p
            cache_here = cache_moves t.frame x y p refl refl refl refl refl h.cache

            abbrev as_is : Stepped t.frame y x' ev p
            as_is = stepped p cache_here

            quiet_of : (q : Proxy) (s : Stepped t.frame y x' ev q) → AreQuiet s.e.acts
            quiet_of q s = is_quiet_entry t.frame.limits q.tables s.e s.is_owed (ap is_poll s.event_is ∙ off)

            room : unread (with_entry st.e p) + bytes_received x'.cache ≤ t.frame.bytes
            room =
                let a : unread (with_entry st.e p) ≡ unread p = unread_quiet p st.e (quiet_of (with_upstream z change p) st) in
                let b : unread (with_entry as_is.e p) ≡ unread p = unread_quiet p as_is.e (quiet_of p as_is) in
                let c : unread (with_entry as_is.e p) + bytes_received x'.cache ≤ t.frame.bytes = as_is.cache.small in
                omega arith

            commutes : with_entry st.e (with_upstream z change p) ≡ with_upstream z change (with_entry st.e p)
            unfolding with_entry
            commutes = refl

            shut_here : is_open ((with_entry st.e (with_upstream z change p)).tables.exchange z) ≡ false →
                is_open ((with_entry st.e p).tables.exchange z) ≡ false
            unfolding with_entry
            shut_here shut = shut

            apart : IsApart z p (with_entry st.e p)
            unfolding with_entry
            apart = let a = apart_step z t y x' (with_upstream z change p) ev off st in record { rows = λ w other. refl; opens = a.opens }

            pub close_goes : KeepsBut z t x' (with_entry st.e (with_upstream z change p)) →
                is_open ((with_entry st.e (with_upstream z change p)).tables.exchange z) ≡ false →
                Goes (HasFinished z t p (steps x.cache)) (faults_in x.cache) x' (closed t.frame.limits z p)
            close_goes kept shut =
                let count : steps x'.cache ≡ steps x.cache + 1 = one in
                record {
                  q = with_entry st.e p;
                  keeps = record {
                    keeps = row_free z t x' (with_entry st.e p) change (subst (λ (q : Proxy). KeepsBut z t x' q) commutes kept) (shut_here shut) room;
                    apart = apart;
                    heard = λ v still is ends. true_false (sym still ∙ shut_here shut);
                    most = omega arith;
                    none = λ shut. true_false (sym on ∙ shut);
                  };
                  later = st.later;
                  same = λ same.
                      ap (λ (d : Entry). with_entry d p) (st.same same)
                      ∙ sym (closes_as ∙ ap (λ (d : Event). with_entry (owed t.frame.limits p.tables p.moment d) p) ends_as);
                }

          -- it was cut off
          pub cut_finished : is_ok (ending after_take.reader) ≡ false → (x' : loop.Proxy B g) →
              ((q : Proxy) → HasCache t.frame y q → Stepped t.frame y x' (event.Fault z) q) → RestStays y x' → x'.moved ≡ true →
              steps x'.cache ≡ steps x.cache + 1 → Goes (HasFinished z t p (steps x.cache)) (faults_in x.cache) x' (closed t.frame.limits z p)
          cut_finished cut x' stepped rest moved one =
              let st = stepped (with_upstream z change p) read_out.cache in
              close_goes (event.Fault z) refl
              (fails_so z (ending taken.reading) (sym (ap (λ (u : origin.Upstream). is_ok (ending u.reader)) taken.now) ∙ cut)) x' stepped rest one
              (fault_but z t y x' (with_upstream z change p) read_out st rest moved one) (fault_shuts z t y x' (with_upstream z change p) st)

          -- it is whole
          whole_shuts : is_ok (ending taken.reading) ≡ true → (x' : loop.Proxy B g) (st : Stepped t.frame y x' (event.End z) (with_upstream z change p)) →
              is_open ((with_entry st.e (with_upstream z change p)).tables.exchange z) ≡ false
          unfolding with_entry
          whole_shuts whole x' st = by_row (p.tables.exchange z) refl on (has_head_if (begun_ending taken.reading whole))
            where
              by_row : (o : Option Exchange) → p.tables.exchange z ≡ o → is_open o ≡ true → has_head o ≡ true →
                  is_open ((after p.tables st.e).exchange z) ≡ false
              by_row None row runs headed = true_false (sym runs)
              by_row (Some w) row runs headed = accepted.end_closes t.frame.limits p.tables st.e st.is_owed z w row runs st.event_is headed

          pub whole_finished : is_ok (ending after_take.reader) ≡ true → (x' : loop.Proxy B g) →
              ((q : Proxy) → HasCache t.frame y q → Stepped t.frame y x' (event.End z) q) → RestStays y x' → x'.moved ≡ true →
              steps x'.cache ≡ steps x.cache + 1 → Goes (HasFinished z t p (steps x.cache)) (faults_in x.cache) x' (closed t.frame.limits z p)
          whole_finished whole x' stepped rest moved one =
              let st = stepped (with_upstream z change p) read_out.cache in
              let ok : is_ok (ending taken.reading) ≡ true = sym (ap (λ (u : origin.Upstream). is_ok (ending u.reader)) taken.now) ∙ whole in
              close_goes (event.End z) refl (ends_so z (ending taken.reading) ok) x' stepped rest one
              (end_but z t y x' (with_upstream z change p) read_out st rest moved one) (whole_shuts ok x' st)
