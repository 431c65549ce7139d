-- What is told of the answer of an exchange is what the first bytes of its connection tell, and an end is told behind a
-- whole answer.
use Rattle.std.{proofs.{Common.{◌≡◌, ◌⊎◌, inl, inr, ℕ, List, [], ◌∷◌, ◌++◌, Bool, true, Option, Some, None, refl, ap, sym, ◌∙◌, subst, arith}, lemmas.Bool.Decides.{nat_tests}}, specs.Prelude.{nat_eq}}
use Rattle.hc_text.proofs.Basics.{nothing_first as front_nil, false_true as never_true}
use Rattle.hc_effects.proofs.Vocabulary.{Entry, History, Limits}
use Rattle.hc_msg.specs.Reading.{Reading, Responses, Whole, Token, Leads, heading}
use Rattle.hc_wire.specs.Logs.{Log}
use Rattle.hc_proxy.specs.{Asked.{got_from}, Connections.{dials_from, connection_of}, Rows.{Upstream, Proxy, unused, Setting}, Received.{received_of, HasSent, IsReceived, nothing, since, EventsAreReceived}, Ended.{IsClosed, IsWhole, EndsAreReceived}, Turns.{so_far, turned_by, behind_all}}
use Rattle.hc_proxy.proofs.{DialsHeard.{came_by, is_end, IsCutBy}, HeardRows.{IsHeard, IsEnd, HasEnds, HasHeard}, HeardTurns.{turns_on}}

module _ (limits : Limits) (c : Setting) (log : Log) (x : ℕ) where
  abbrev dials : List (Option ℕ)
  dials = dials_from c log.dialled

  is_sent : (v : Upstream) (tokens : List Token) → IsHeard limits c dials x (so_far (behind_all limits c log) dials) log.calls v tokens →
      IsReceived limits c log x tokens
  is_sent v tokens r = by_connection (connection_of dials x) refl r.sent
    where
      by_connection : (o : Option ℕ) → connection_of dials x ≡ o → HasSent v.no_body (came_by o r.behind) tokens → IsReceived limits c log x tokens
      by_connection None at s =
          nothing (subst (λ (xs : List ℕ). Leads (heading (Responses v.no_body)) xs tokens s.reading) (front_nil s.front s.rest s.whole) s.reads).0
      by_connection (Some k) at s = since (record {
        call = r.opens.call;
        p = turned_by limits dials r.opens.before (unused c);
        at = record { before = r.opens.before; after = r.behind; calls = r.opens.calls_are; tables = refl };
        request = r.opens.request;
        opened = r.opens.opens;
        k = k;
        connection = at;
        sent = subst (λ (b : Bool). HasSent b (got_from k r.behind) tokens) r.opens.kind s;
      })

  is_whole : (tokens : List Token) → IsEnd limits c dials x log.calls tokens → IsWhole limits c log x tokens
  is_whole tokens n = by_connection (connection_of dials x) refl n.answered.sent n.answered.whole
    where
      -- nothing came
      nobody : (sent : HasSent n.no_body [] tokens) → (sent.reading ≡ Whole) ⊎ IsCutBy None n.behind sent.front sent.reading → ⊥
      nobody sent (inr c) = never_true c.over
      nobody sent (inl whole) =
          let leads : Leads (heading (Responses n.no_body)) [] tokens sent.reading =
          subst (λ (xs : List ℕ). Leads (heading (Responses n.no_body)) xs tokens sent.reading) (front_nil sent.front sent.rest sent.whole) sent.reads in
          let never : heading (Responses n.no_body) ≡ Whole = sym leads.1 ∙ whole in
          cc

      by_close : (k : ℕ) (front : List ℕ) (reading : Reading) → (reading ≡ Whole) ⊎ IsCutBy (Some k) n.behind front reading →
          (reading ≡ Whole) ⊎ IsClosed k n.behind front reading
      by_close k front reading (inl whole) = inl whole
      by_close k front reading (inr c) = inr (record { until = c.first; later = c.last; calls_are = c.calls_are; over = c.over; all = c.all; ends = c.ends })

      by_connection : (o : Option ℕ) → connection_of dials x ≡ o → (sent : HasSent n.no_body (came_by o n.behind) tokens) →
          (sent.reading ≡ Whole) ⊎ IsCutBy o n.behind sent.front sent.reading → IsWhole limits c log x tokens
      by_connection None at sent whole = absurd (nobody sent whole)
      by_connection (Some k) at sent whole = record {
        reported = record {
          call = n.opens.call;
          p = turned_by limits dials n.opens.before (unused c);
          at = record { before = n.opens.before; after = n.behind; calls = n.opens.calls_are; tables = refl };
          request = n.opens.request;
          opened = n.opens.opens;
          k = k;
          connection = at;
          sent = record {
            front = sent.front;
            rest = sent.rest;
            reading = sent.reading;
            whole = sent.whole;
            reads =
                subst (λ (b : Bool). Leads (heading (Responses b)) sent.front tokens sent.reading) n.opens.kind sent.reads;
          };
        };
        whole = by_close k sent.front sent.reading whole;
      }

  -- each end among the events
  end_at : (later earlier : History) (e : Entry) → HasEnds limits c dials x log.calls (later ++ e ∷ earlier) → is_end x e.event ≡ true →
      IsEnd limits c dials x log.calls (received_of x earlier)
  end_at [] earlier e ends on = ends.0 on
  end_at (d ∷ later) earlier e ends on = end_at later earlier e ends.1 on

  is_reported : (o : Option Upstream) (tokens : List Token) →
      HasHeard limits c dials x (so_far (behind_all limits c log) dials) log.calls o tokens → IsReceived limits c log x tokens
  is_reported None tokens row = nothing row
  is_reported (Some v) tokens row = is_sent v tokens row

pub events_are_received : EventsAreReceived
events_are_received limits c log x may =
    let p : Proxy = behind_all limits c log in
    is_reported limits c log x (p.upstream x) (received_of x p.history) (turns_on limits c (dials_from c log.dialled) x may log.calls [] (refl, tt)).0

pub ends_are_received : EndsAreReceived
ends_are_received limits c log x later earlier e may at is =
    let dialled = dials_from c log.dialled in
    let ends : HasEnds limits c dialled x log.calls (behind_all limits c log).history = (turns_on limits c dialled x may log.calls [] (refl, tt)).1 in
    let same : nat_eq x x ≡ true = grind (arith, nat_tests) in
    is_whole limits c log x (received_of x earlier)
    (end_at limits c log x later earlier e (subst (HasEnds limits c dialled x log.calls) at ends) (ap (is_end x) is ∙ same))
