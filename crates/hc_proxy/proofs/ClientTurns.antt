-- What each client asked for, and what it is owed, behind all calls of a log.
--
-- Each client is followed over the calls: from a turn's beginning to its polls (`before_polls`), over these
-- (`polls_on`), and where the acts are carried out (`carries_on`). The events of a turn stand before the history that
-- was carried out before it (`turn_part`). Behind the last call its row says which requests its first bytes asked for,
-- that its consumers were started for just these, and that it is owed the answers to them, and an error answer behind
-- them where the reading failed.
use Rattle.std.proofs.Common.{◌≡◌, ℕ, List, [], ◌∷◌, ◌++◌, false, true, Option, Some, None, refl, ap, sym, ◌∙◌, subst, arith, append_assoc, append-nil}
use Rattle.hc_effects.proofs.Vocabulary.{Request, may_begin, Entry, Limits}
use Rattle.hc_wire.specs.Logs.{Called, Log}
use Rattle.hc_peers.specs.declared.reply.Asking.{Asking}
use Rattle.hc_proxy.specs.{Asked.{got_from, starts_of, HasAsked, IsAsked, nothing, since, AreClients, StartsAreAsked}, Connections.{dials_from, exchange_of}, Handling.{begun, handled}, Network.{heard}, Rendered.{answers_to, consumers_of, error_answer, IsAnswered, AnswersAreOwed}, Rows.{Client, Proxy, unused, Setting}, Starts.{started_all}, Turns.{so_far, happened, turned, turned_by, behind_all}}
use Rattle.hc_proxy.proofs.{Asked.{more_calls, place_shorter, IsRead}, ClientEvents.{seen_row, before_polls}, ClientPolls.{Rested, polls_on, carries_on}, ClientSteps.{IsRow, Follows, row_on}, Later.{carried_is_same}, Parts.{turn_part}, Stands.{begins_turn, turn_goes, unused_stands, contents_stay}}

-- A TURN

module _ (limits : Limits) (k : ℕ) where
  begins_on : (ds : List (Option ℕ)) (calls : List Called) (call : Called) (p : Proxy) → Rested limits k ds calls p →
      Follows limits p.history k ds calls (begun call p)
  begins_on ds calls call p s = record {
    all = record {
      count = s.count;
      clients = s.clients;
      stands = (begins_turn limits call p s.stands).stands;
      named = s.named;
      fresh = s.fresh;
      over = λ c leaves. absurd (let never : false ≡ true = leaves in cc);
      quiet = refl;
    };
    row = row_on limits p.history k ds calls p _ (seen_row limits p.history k ds calls call p) (p.client k) s.row;
  }

  module _ (dialled : List (Option ℕ)) where
    -- the events of a turn stand before the history of those before
    turn_base : (call : Called) (p : Proxy) → let q : Proxy = happened limits (so_far p dialled) call (begun call p) in q.history ≡ q.part ++ p.history
    unfolding turned
    turn_base call p =
        let q : Proxy = happened limits (so_far p dialled) call (begun call p) in
        let same : _ = carried_is_same q in
        sym same.history ∙ ((turn_part limits dialled call p).first ∙ ap (λ (es : List Entry). es ++ p.history) same.part)

    turned_on : (calls : List Called) (call : Called) (p : Proxy) → Rested limits k (so_far p dialled) calls p →
        Rested limits k (so_far p dialled) (more_calls k calls call) (turned limits dialled call p)
    unfolding turned
    turned_on calls call p s =
        let ds : List (Option ℕ) = so_far p dialled in
        let q : Proxy = started_all limits call (heard limits (handled limits ds call (begun call p))) in
        let f : Follows limits p.history k ds (more_calls k calls call) q =
        before_polls limits p.history k ds calls call (begun call p) (begins_on ds calls call p s) in
        carries_on limits p.history k ds (more_calls k calls call) call q (happened limits ds call (begun call p)) f
        (polls_on limits p.history k ds (more_calls k calls call) call q f) (turn_base call p)

    weaker : (ds more : List (Option ℕ)) (calls : List Called) (p : Proxy) → (exchange_of more k ≡ None → exchange_of ds k ≡ None) →
        Rested limits k ds calls p →
        Rested limits k more calls p
    weaker ds more calls p less s =
        record { count = s.count; clients = s.clients; stands = s.stands; named = s.named; fresh = s.fresh; row = by_row (p.client k) s.row }
      where
        read_on : (client : Client) (requests : List Request) (r : IsRow limits p.history k ds calls p (Some client)) →
            IsRead k p.setting.front ds calls client requests r.asked → IsRead k p.setting.front more calls client requests r.asked
        read_on client requests row r = record {
          behind = r.behind;
          accepted = r.accepted;
          wires = r.wires;
          first = r.first;
          rest = r.rest;
          whole = r.whole;
          reads = r.reads;
          asked_are = r.asked_are;
          are = r.are;
          asking = r.asking;
          all = λ here off. r.all here (less off);
        }

        by_row : (o : Option Client) → IsRow limits p.history k ds calls p o → IsRow limits p.history k more calls p o
        by_row None r = record { none = r.none; nobody = r.nobody; unheld = r.unheld }
        by_row (Some client) r = record { asked = r.asked; read = read_on client (starts_of p.holder k p.history) r r.read; owes = r.owes; live = r.live }

    abbrev Now : List Called → Proxy → Type 0
    Now calls p = Rested limits k (so_far p dialled) calls p

    turn_on : (calls : List Called) (call : Called) (p : Proxy) → Now calls p → Now (more_calls k calls call) (turned limits dialled call p)
    turn_on calls call p s =
        let ds : List (Option ℕ) = so_far p dialled in
        let q : Proxy = turned limits dialled call p in
        weaker ds (so_far q dialled) (more_calls k calls call) q
        (place_shorter 1 k p.tables.opened q.tables.opened dialled (turn_goes limits dialled call p s.stands).opened) (turned_on calls call p s)

    turns_on : (rest calls : List Called) (p : Proxy) → Now calls p → Now (calls ++ rest) (turned_by limits dialled rest p)
    turns_on [] calls p s = subst (λ (cs : List Called). Now cs p) (sym (append-nil calls)) s
    turns_on (call ∷ rest) calls p s =
        subst (λ (cs : List Called). Now cs (turned_by limits dialled rest (turned limits dialled call p))) (append_assoc calls (call ∷ []) rest)
        (turns_on rest (more_calls k calls call) (turned limits dialled call p) (turn_on calls call p s))

    begins : (c : Setting) → may_begin limits c.contents ≡ true → Now [] (unused c)
    begins c may = record {
      count = omega arith;
      clients = tt;
      stands = unused_stands limits c may;
      named = λ d j is. absurd (let never : None ≡ Some j = is in cc);
      fresh = λ d lt. refl;
      row = record { none = refl; nobody = refl; unheld = λ d is. let never : None ≡ Some k = is.1 in cc };
    }

  rested_all : (c : Setting) (log : Log) → may_begin limits c.contents ≡ true →
      Rested limits k (so_far (behind_all limits c log) (dials_from c log.dialled)) log.calls (behind_all limits c log)
  rested_all c log may =
      let dialled : List (Option ℕ) = dials_from c log.dialled in
      turns_on dialled log.calls [] (unused c) (begins dialled c may)

-- THE LAWS

module _ (limits : Limits) (c : Setting) (log : Log) (k : ℕ) where
  abbrev p : Proxy
  p = behind_all limits c log

  abbrev ds : List (Option ℕ)
  ds = so_far p (dials_from c log.dialled)

  abbrev OfRow : Option Client → Type 0
  OfRow o = IsRow limits p.history k ds log.calls p o

  abbrev has_asked : (client : Client) (r : OfRow (Some client)) → HasAsked p.setting.front (got_from k r.read.behind) (starts_of p.holder k p.history)
  has_asked client r = record {
    first = r.read.first;
    rest = client.input ++ r.read.rest;
    asked = r.read.wires;
    reading = client.reading;
    whole = r.read.whole;
    reads = r.read.reads;
    are = r.read.are;
  }

  is_asked : (o : Option Client) → OfRow o → IsAsked p.setting.front k log.calls (starts_of p.holder k p.history)
  is_asked None r = nothing r.none
  is_asked (Some client) r = since r.read.accepted.0 r.read.behind r.read.accepted.1 r.read.accepted.2 r.read.accepted.3 (has_asked client r)

  is_answered : (client : Client) → OfRow (Some client) → IsAnswered k log.calls p client
  is_answered client r = record {
    before = r.read.accepted.0;
    after = r.read.behind;
    call = r.read.accepted.1;
    calls_are = r.read.accepted.2;
    accepted = r.read.accepted.3;
    asks = has_asked client r;
    owed_is = r.owes.owed_is ∙ ap (λ (rs : List Asking). answers_to rs (consumers_of p.holder k p.history) p.history ++ error_answer client.reading)
        r.read.asked_are;
  }

pub starts_are_asked : StartsAreAsked
starts_are_asked limits c log may =
    let p : Proxy = behind_all limits c log in
    record {
      clients = subst (λ (d : Setting). AreClients d.contents.last_consumer p.holder p.history) (contents_stay limits c log may)
          (rested_all limits 0 c log may).clients;
      each = λ k. subst (λ (d : Setting). IsAsked d.front k log.calls (starts_of p.holder k p.history)) (contents_stay limits c log may)
          (is_asked limits c log k (p.client k) (rested_all limits k c log may).row);
    }

pub answers_are_owed : AnswersAreOwed
answers_are_owed limits c log k client may at =
    let p : Proxy = behind_all limits c log in
    is_answered limits c log k client
    (subst (λ (o : Option Client). IsRow limits p.history k (so_far p (dials_from c log.dialled)) log.calls p o) at (rested_all limits k c log may).row)
