-- What happened is written, carried out and sent, one behind another.
--
-- What is written changes nothing of what is kept but how much of the record is left. The dials and closes of the acts
-- send nothing, and what is sent then is a first part of what is owed. So the turn may be cut short anywhere.
-- `written_keeps` is of the record, `cut_sending` of a turn that is cut short while it sends, and `finishes` of one
-- that is made.
use Rattle.std.{proofs.Common.{◌≡◌, ◌≤◌, ℕ, List, [], ◌∷◌, ◌++◌, Bool, true, false, Option, None, Some, refl, ap, sym, ◌∙◌, subst, arith, append-nil, length-append}, specs.Prelude.{nat_eq, length, map, option_map, if◌then◌else◌}}
use Rattle.hc_io.specs.Sink.{Takes, TakesPrefix}
use Rattle.hc_store.specs.declared.backend.Backend.{Ghosts}
use Rattle.hc_wire.specs.{Events.{Stage, Unseen}, Logs.{Log, stage_in}}
use Rattle.hc_proxy.specs.declared.proxy.Proxy as loop
use Rattle.hc_proxy.specs.{Connections.{dials_from, dials_in}, declared.record.Record.{Record}, Carrying.{answered, carried, acts_in}, Endings.{SentOn}, Keeping.{Turn, HasCache, KeepsPolled}, Logging.{Dials, AreApart}, Records.{text_of, last_of}, Resting.{Rests}, Rows.{Client, Proxy, Setting}, Serving.{FinishesTurn, CutsTurn}, TurnSteps.{CarriedOut, CarriedSome, SentAll, SentSome}, Underway.{OnWire}, Waiting.{waits}}
use Rattle.hc_proxy.proofs.{DialsSent.{dials_sent}, Later.{record_carried}, MoreConnections.{dials_more}, OpensUp.{up_grows}, Turning.{IsCarried, open_any, carried_keeps}}

-- WHERE NO CLIENT WAS, none is behind the acts

abbrev NoneStays : ℕ → Proxy → Proxy → Type 0
NoneStays k p q = p.client k ≡ None → q.client k ≡ None

none_out : (k : ℕ) → IsCarried (λ x. Unit {0}) (NoneStays k)
none_out k = record {
  none = λ p is. is;
  both = λ p q r a b is. b (a is);
  answers = λ j a p is. by_test (answered a) (nat_eq k j) (p.client k) is;
  opens = λ x request p may is. is;
}
  where
    by_test : (change : Client → Client) (b : Bool) (o : Option Client) → o ≡ None → (if b then option_map change o else o) ≡ None
    by_test change true o is = ap (option_map change) is
    by_test change false o is = is

none_carried : (k : ℕ) (p : Proxy) → p.client k ≡ None → (carried p).client k ≡ None
none_carried k p = carried_keeps (λ x. Unit {0}) (NoneStays k) (none_out k) p (open_any (acts_in p.part))

-- THE RECORD IS WRITTEN

-- so much of it was written, and this is left
abbrev pub writing : Turn → List ℕ → Turn
writing t text = record t { frame = record t.frame { written = t.frame.written ++ text } }

module _ {B : Type 0} {g : Ghosts B} (t : Turn) (q : Proxy) (y : loop.Proxy B g) (k : KeepsPolled t y q) (w : Record) (empty : text_of w ≡ [])
    (last : last_of w ≡ last_of y.record) where
  abbrev pub y' : loop.Proxy B g
  y' = record y { «record» = w }

  written_cache : HasCache (writing t (text_of y.record)).frame y' q
  written_cache =
      let c = k.keeps.cache in
      record {
        setting = c.setting;
        stands = c.stands;
        same = c.same;
        limits = c.limits;
        now = c.now;
        early = c.early;
        last = c.last;
        starts = c.starts;
        front = c.front;
        last_start = c.last_start;
        text = c.text ∙ (sym (append-nil (t.frame.written ++ text_of y.record)) ∙ ap (λ (z : List ℕ). (t.frame.written ++ text_of y.record) ++ z) (sym empty));
        recorded = last ∙ c.recorded;
        before = c.before;
        unopened = c.unopened;
        headed = c.headed;
        small = c.small;
        bounded = c.bounded;
        room = c.room;
        targets = c.targets;
        timed = c.timed;
      }

  pub written_keeps : KeepsPolled (writing t (text_of y.record)) y' q
  written_keeps =
      let s = k.keeps in
      record {
        keeps = record {
          cache = written_cache;
          acts = s.acts;
          clients = record { rows = s.clients.rows; order = s.clients.order; listed = s.clients.listed; few = s.clients.few };
          consumers = s.consumers;
          upstreams = record {
            rows = s.upstreams.rows;
            numbers = s.upstreams.numbers;
            over = s.upstreams.over;
            news = s.upstreams.news;
            touched = s.upstreams.touched;
            opens = s.upstreams.opens;
            names = s.upstreams.names;
            strangers = s.upstreams.strangers;
          };
          wire = record { clients = s.wire.clients; upstreams = s.wire.upstreams; all = s.wire.all; closed = s.wire.closed };
          numbers = s.numbers;
          opened = s.opened;
          seen = s.seen;
          shut = s.shut;
          known = s.known;
        };
        moved = k.moved;
        heard = k.heard;
        served = k.served;
        over = k.over;
        shut = k.shut;
        plain = k.plain;
        undialled = k.undialled;
        known = k.known;
      }

pub written_wire : (t : Turn) (text : List ℕ) (log : Log) (reported : Option Log) (stages : ℕ → Stage) → OnWire t log reported stages →
    OnWire (writing t text) log reported stages
written_wire t text log reported stages on = record { follows = on.follows; stands = on.stands; dialled = on.dialled; taken = on.taken }

pub takes_all : (out out' : Option (List ℕ)) (text : List ℕ) → Takes out out' text → TakesPrefix out out' text
takes_all out out' text takes = record { front = text; rest = []; whole = append-nil text; takes = takes }

-- nothing is left behind what all of it is
left_none : (xs ys : List ℕ) → xs ++ ys ≡ xs → ys ≡ []
left_none xs ys is = by_length ys (let size = length-append xs ys in let same : length (xs ++ ys) ≡ length xs = ap length is in omega arith)
  where
    by_length : (zs : List ℕ) → length zs ≡ 0 → zs ≡ []
    by_length [] none = refl
    by_length (z ∷ zs) none = absurd (omega arith)

-- ALL STEPS

module _ {B : Type 0} {g : Ghosts B} (t : Turn) (q : Proxy) (log : Log) (y : loop.Proxy B g) (k : KeepsPolled t y q) (reported : Option Log)
    (stages : ℕ → Stage) (on : OnWire t log reported stages) where
  nobody : (j : ℕ) → stage_in log.takers j ≡ Unseen → (carried q).client j ≡ None
  nobody j is = none_carried j q (k.keeps.seen j (sym (on.stands j) ∙ (on.follows.stands j ∙ is))).0

  before_is : dials_in q log ≡ t.dialled
  before_is = ap (λ (c : Setting). dials_from c log.dialled) k.keeps.cache.setting ∙ on.dialled

  few_dialled : length t.dialled ≤ q.tables.opened
  few_dialled = up_grows (acts_in q.part) (length t.dialled) q.tables.opened k.keeps.upstreams.opens

  few_dials : length (dials_in q log) ≤ q.tables.opened
  few_dials = subst (λ (ks : List (Option ℕ)). length ks ≤ q.tables.opened) (sym before_is) few_dialled

  dialled_sent : (more : List ℕ) (log' : Log) → Dials more log log' → AreApart log'.takers → SentOn (carried q) log log'
  dialled_sent more log' d apart sent = dials_sent (carried q) more log log' d apart nobody sent

  -- WHERE IT IS CUT SHORT

  module _ (out out' : Option (List ℕ)) where
    pub cut_writing : TakesPrefix out out' (text_of y.record) → CutsTurn q log y reported out out'
    cut_writing takes = record {
      log' = log;
      more = [];
      reported_is = on.follows.reported_is;
      takes = takes;
      calls = refl;
      bound = refl;
      dialled = sym (append-nil log.dialled);
      few = few_dials;
      sent = λ sent. sent;
    }

    module _ (takes : Takes out out' (text_of y.record)) (reported1 : Option Log) (stages1 : ℕ → Stage) where
      pub cut_carrying : CarriedSome (writing t (text_of y.record)) q log reported1 stages1 → CutsTurn q log y reported1 out out'
      cut_carrying s = record {
        log' = s.log';
        more = s.more;
        reported_is = s.follows.reported_is;
        takes = takes_all out out' (text_of y.record) takes;
        calls = s.dials.calls;
        bound = s.dials.bound;
        dialled = s.dials.dialled;
        few = subst (λ (ks : List (Option ℕ)). length ks ≤ q.tables.opened) (sym more_is) s.opened;
        sent = dialled_sent s.more s.log' s.dials s.follows.apart;
      }
        where
          more_is : dials_in q s.log' ≡ t.dialled ++ map Some s.more
          more_is = ap (dials_from q.setting) s.dials.dialled
              ∙ (dials_more q.setting log.dialled s.more ∙ ap (λ (ks : List (Option ℕ)). ks ++ map Some s.more) before_is)

      module _ (y2 : loop.Proxy B g) (c : CarriedOut (writing t (text_of y.record)) q log y2 reported1 stages1) where
        -- the turn behind the acts
        abbrev pub behind : Turn
        behind = record (writing t (text_of y.record)) { dialled = t.dialled ++ map Some c.more; stages = stages1 }

        all_dialled : length (dials_in q c.log') ≡ q.tables.opened
        all_dialled = ap (λ (d : Setting). length (dials_from d c.log'.dialled)) k.keeps.cache.setting ∙ (ap length c.on_wire.dialled ∙ c.opened few_dialled)

        few_now : (log' : Log) → log'.dialled ≡ c.log'.dialled → length (dials_in q log') ≤ q.tables.opened
        few_now log' same =
            let is : length (dials_in q log') ≡ q.tables.opened = ap (λ (ks : List ℕ). length (dials_from q.setting ks)) same ∙ all_dialled in
            omega arith

        carried_sent : SentOn (carried q) log c.log'
        carried_sent = dialled_sent c.more c.log' c.dials c.on_wire.follows.apart

        pub cut_sending : (reported2 : Option Log) → SentSome (carried q) c.log' reported2 → CutsTurn q log y reported2 out out'
        cut_sending reported2 s = record {
          log' = s.log';
          more = c.more;
          reported_is = s.reported_is;
          takes = takes_all out out' (text_of y.record) takes;
          calls = s.calls ∙ c.dials.calls;
          bound = s.bound ∙ c.dials.bound;
          dialled = s.dialled ∙ c.dials.dialled;
          few = few_now s.log' s.dialled;
          sent = λ sent. s.sent (carried_sent sent);
        }

        module _ (y3 : loop.Proxy B g) (reported2 : Option Log) (stages2 : ℕ → Stage) (a : SentAll behind (carried q) c.log' y3 reported2 stages2) where
          pub cut_waiting : CutsTurn q log y reported2 out out'
          cut_waiting = record {
            log' = a.log';
            more = c.more;
            reported_is = a.follows.reported_is;
            takes = takes_all out out' (text_of y.record) takes;
            calls = a.calls ∙ c.dials.calls;
            bound = a.bound ∙ c.dials.bound;
            dialled = a.dialled ∙ c.dials.dialled;
            few = few_now a.log' a.dialled;
            sent = λ sent. a.sent (carried_sent sent);
          }

          -- THE TURN IS MADE

          pub finishes : (y4 : loop.Proxy B g) (again : Bool) → Rests behind.frame y4 (carried q) a.log' → again ≡ waits t.frame.limits (carried q) →
              FinishesTurn t q log y y4 reported2 stages2 out out' again
          finishes y4 again rests waits_so = record {
            log' = a.log';
            more = c.more;
            rests = rests;
            follows = a.follows;
            takes = takes;
            written = left_none (t.frame.written ++ text_of y.record) (text_of y4.record)
                (sym rests.cache.text ∙ (record_carried q ∙ k.keeps.cache.text));
            again_is = waits_so;
            calls = a.calls ∙ c.dials.calls;
            bound = a.bound ∙ c.dials.bound;
            dialled = a.dialled ∙ c.dials.dialled;
            sent = λ sent. a.sent (carried_sent sent);
          }
