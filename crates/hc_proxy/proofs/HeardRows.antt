-- What is told of the answer of an exchange is what the first bytes of its connection tell: its row, over the calls.
--
-- One exchange is followed over the calls. It is opened in a turn, once, and its row is new then. From there on its
-- first bytes were read, and told just what its events tell. Behind them stand those that wait, and no others unless
-- its number was dialled twice. What stands next is read as its bytes lead: a head or bytes of a body, which are the
-- next event, or nothing that is told. An end is told where the first bytes lead to the end of the answer, or where the
-- connection has ended and all that came was read.
use Rattle.std.{proofs.{Common.{◌≡◌, ◌<◌, ◌⊎◌, inl, inr, ℕ, ◌+◌, List, [], ◌∷◌, ◌++◌, Bool, true, false, Option, Some, None, refl, ap, sym, ◌∙◌, subst, arith, append_assoc, append-nil}, lemmas.Bool.Decides.{nat_tests}}, specs.Prelude.{◌&&◌, nat_eq, nat_lt, length, is_none, Result, Ok, Err, if◌then◌else◌, Contains}}
use Rattle.hc_text.proofs.Basics.{false_true as never_true}
use Rattle.hc_effects.proofs.Vocabulary.{Act, Need, Event, Request, History, is_open, is_wanted, owed, Limits, act, event}
use Rattle.hc_head.specs.declared.message.{MsgError.{MsgError}, WireRequest.{WireRequest}}
use Rattle.hc_msg.specs.{Inputs.{Next, Waits, Reports, Brings, Ends, Fails, next_in}, NextParts.{StandsNext, IsReadOn}, Reading.{Reading, Responses, Whole, Done, Failed, Token, Asks, Answers, Byte, Leads, heading}, Taking.{byte_tokens, ending}, declared.message.WirePart.{WirePart}}
use Rattle.hc_msg.specs.declared.message.WirePart.TheVariants as part
use Rattle.hc_msg.proofs.{Inputs.{done_takes}, Leading.{leads_on, reports_leads}, NextParts.{stands_next}}
use Rattle.hc_peers.specs.Renderings.{is_head, asked_of, reply_to}
use Rattle.hc_wire.specs.Logs.{Called}
use Rattle.hc_proxy.specs.{Carrying.{answers, opened, carried_out, all_carried_out, carried, acts_in}, Connections.{exchange_of, connection_of}, Handling.{clients_here, client_comes, left, cancelled, leaves, origin_sends, ends}, Headed.{is_answer}, Network.{open_exchanges, has_news, next_of, read_to, is_last_denied, unless_denied, hands_head, hands, hands_if, event_at_close, closes, closes_if, handed, closed, each_heard, heard}, Polls.{polled_all, each_polled, polled, may_be_polled, live_consumers}, Rows.{Client, Upstream, Proxy, unused, with_client, with_upstream, Setting}, Starts.{asks, with_holder, started, hears_request, hears, hears_if, is_ready, started_all}, Steps.{with_entry, stepped}, Received.{received_by, received_of, HasSent, IsOpenedFor}, Turns.{turned, turned_by}}
use Rattle.hc_proxy.specs.Starts as starts
use Rattle.hc_proxy.proofs.{AnswerNext.{IsAnswerNext, answer_next}, OpenEnded.{never_done}, Turning.{OpenOnly, with_new, with_opened}, DialsHeard.{came_by, new_by, came_more, ended_by, ended_more, is_end, end_is, none_came, among_all, IsCutBy}}

module _ (limits : Limits) (began : Setting) (dialled : List (Option ℕ)) (x : ℕ) where
  abbrev pub came : List Called → List ℕ
  came calls = came_by (connection_of dialled x) calls

  abbrev pub new_of : Called → List ℕ
  new_of call = new_by (connection_of dialled x) call

  -- ITS ROW

  -- it was opened in a turn, and these calls came since
  pub record IsOpened (calls behind : List Called) (no_body : Bool) : Type 0 where
    pub before : List Called
    pub call : Called
    pub request : Request
    pub calls_are : calls ≡ before ++ call ∷ behind
    pub opens : IsOpenedFor x request (acts_in (turned limits dialled call (turned_by limits dialled before (unused began))).part)
    pub kind : no_body ≡ is_head request

  -- its first bytes were read and told this, the others wait
  pub record IsReading (ds : List (Option ℕ)) (behind : List Called) (v : Upstream) (tokens : List Token) : Type 0 where
    pub front : List ℕ
    pub rest : List ℕ
    pub whole : front ++ (v.input ++ rest) ≡ came behind
    pub reads : Leads (heading (Responses v.no_body)) front tokens v.reading
    pub all : (k : ℕ) → exchange_of ds k ≡ Some x → rest ≡ []

  abbrev pub IsCut : List Called → List ℕ → Reading → Type 0
  IsCut behind front reading = IsCutBy (connection_of dialled x) behind front reading

  -- the first bytes make an answer
  pub record IsAnswered (behind : List Called) (no_body : Bool) (tokens : List Token) : Type 0 where
    pub sent : HasSent no_body (came behind) tokens
    pub whole : (sent.reading ≡ Whole) ⊎ IsCut behind sent.front sent.reading

  pub record IsOver (behind : List Called) (v : Upstream) (tokens : List Token) : Type 0 where
    pub done : v.reading ≡ Done
    pub answered : IsAnswered behind v.no_body tokens

  -- its connection has ended
  pub record IsShut (ds : List (Option ℕ)) (behind : List Called) : Type 0 where
    pub k : ℕ
    pub at : exchange_of ds k ≡ Some x
    pub over : ended_by (connection_of dialled x) behind ≡ true

  pub record IsHeard (ds : List (Option ℕ)) (calls : List Called) (v : Upstream) (tokens : List Token) : Type 0 where
    pub behind : List Called
    pub opens : IsOpened calls behind v.no_body
    pub sent : HasSent v.no_body (came behind) tokens
    pub answer : is_answer v.reading ≡ true
    pub on : IsOver behind v tokens ⊎ IsReading ds behind v tokens
    pub shut : v.ended ≡ true → IsShut ds behind

  -- an end was told behind these tokens
  pub record IsEnd (calls : List Called) (tokens : List Token) : Type 0 where
    pub behind : List Called
    pub no_body : Bool
    pub opens : IsOpened calls behind no_body
    pub answered : IsAnswered behind no_body tokens

  abbrev pub HasEnds : List Called → History → Type 0
  HasEnds calls [] = Unit {0}
  HasEnds calls (e ∷ h) = (is_end x e.event ≡ true → IsEnd calls (received_of x h)) × HasEnds calls h

  abbrev pub HasHeard : List (Option ℕ) → List Called → Option Upstream → List Token → Type 0
  HasHeard ds calls None tokens = tokens ≡ []
  HasHeard ds calls (Some v) tokens = IsHeard ds calls v tokens

  abbrev pub Follows : List (Option ℕ) → List Called → Proxy → Type 0
  Follows ds calls p = HasHeard ds calls (p.upstream x) (received_of x p.history) × HasEnds calls p.history

  -- the bytes that were read
  sent_of : (ds : List (Option ℕ)) (behind : List Called) (v : Upstream) (tokens : List Token) → IsReading ds behind v tokens →
      HasSent v.no_body (came behind) tokens
  sent_of ds behind v tokens r = record { front = r.front; rest = v.input ++ r.rest; reading = v.reading; whole = r.whole; reads = r.reads }

  -- A CALL MORE

  abbrev pub more_calls : List Called → Called → List Called
  more_calls calls call = calls ++ call ∷ []

  pub later : (calls behind : List Called) (no_body : Bool) (call : Called) → IsOpened calls behind no_body →
      IsOpened (more_calls calls call) (more_calls behind call) no_body
  later calls behind no_body call is = record {
    before = is.before;
    call = is.call;
    request = is.request;
    calls_are = ap (λ (cs : List Called). cs ++ call ∷ []) is.calls_are ∙ append_assoc is.before (is.call ∷ behind) (call ∷ []);
    opens = is.opens;
    kind = is.kind;
  }

  pub more_sent : (behind : List Called) (call : Called) (no_body : Bool) (tokens : List Token) → HasSent no_body (came behind) tokens →
      HasSent no_body (came (more_calls behind call)) tokens
  more_sent behind call no_body tokens s = record {
    front = s.front;
    rest = s.rest ++ new_of call;
    reading = s.reading;
    whole = sym (append_assoc s.front s.rest (new_of call)) ∙
        (ap (λ (xs : List ℕ). xs ++ new_of call) s.whole ∙ sym (came_more (connection_of dialled x) behind call));
    reads = s.reads;
  }

  more_answered : (behind : List Called) (call : Called) (no_body : Bool) (tokens : List Token) → IsAnswered behind no_body tokens →
      IsAnswered (more_calls behind call) no_body tokens
  unfolding more_sent
  more_answered behind call no_body tokens a = record { sent = more_sent behind call no_body tokens a.sent; whole = by_end a.whole }
    where
      by_end : (a.sent.reading ≡ Whole) ⊎ IsCut behind a.sent.front a.sent.reading →
          (a.sent.reading ≡ Whole) ⊎ IsCut (more_calls behind call) a.sent.front a.sent.reading
      by_end (inl whole) = inl whole
      by_end (inr c) = inr (record {
        first = c.first;
        last = c.last ++ call ∷ [];
        calls_are = ap (λ (cs : List Called). cs ++ call ∷ []) c.calls_are ∙
            append_assoc c.first c.last (call ∷ []);
        over = c.over;
        all = c.all;
        ends = c.ends;
      })

  pub more_over : (behind : List Called) (call : Called) (v : Upstream) (tokens : List Token) → IsOver behind v tokens →
      IsOver (more_calls behind call) v tokens
  more_over behind call v tokens o = record { done = o.done; answered = more_answered behind call v.no_body tokens o.answered }

  pub more_shut : (ds : List (Option ℕ)) (behind : List Called) (call : Called) → IsShut ds behind → IsShut ds (more_calls behind call)
  more_shut ds behind call s = record { k = s.k; at = s.at; over = ended_more (connection_of dialled x) behind call s.over }

  pub more_ends : (calls : List Called) (call : Called) (h : History) → HasEnds calls h → HasEnds (more_calls calls call) h
  more_ends calls call [] ends = tt
  more_ends calls call (e ∷ h) ends = (λ on. later_end (ends.0 on), more_ends calls call h ends.1)
    where
      later_end : IsEnd calls (received_of x h) → IsEnd (more_calls calls call) (received_of x h)
      later_end n = record {
        behind = more_calls n.behind call;
        no_body = n.no_body;
        opens = later calls n.behind n.no_body call n.opens;
        answered =
            more_answered n.behind call n.no_body (received_of x h) n.answered;
      }

  module _ (ds : List (Option ℕ)) (calls : List Called) (call : Called) where
    -- none that are its own come
    unfoldable pub passes : (v : Upstream) (tokens : List Token) → ((k : ℕ) → exchange_of ds k ≡ Some x → new_of call ≡ []) → IsHeard ds calls v tokens →
        IsHeard ds (more_calls calls call) v tokens
    passes v tokens none s = record {
      behind = more_calls s.behind call;
      opens = later calls s.behind v.no_body call s.opens;
      sent = more_sent s.behind call v.no_body tokens s.sent;
      answer = s.answer;
      on = by_place s.on;
      shut = λ on. more_shut ds s.behind call (s.shut on);
    }
      where
        reading_on : IsReading ds s.behind v tokens → IsReading ds (more_calls s.behind call) v tokens
        reading_on r = record {
          front = r.front;
          rest = r.rest ++ new_of call;
          whole =
              let one : r.front ++ (v.input ++ (r.rest ++ new_of call)) ≡ (r.front ++ (v.input ++ r.rest)) ++ new_of call =
              ap (λ (xs : List ℕ). r.front ++ xs) (sym (append_assoc v.input r.rest (new_of call))) ∙
              sym (append_assoc r.front (v.input ++ r.rest) (new_of call)) in
              one ∙ (ap (λ (xs : List ℕ). xs ++ new_of call) r.whole ∙ sym (came_more (connection_of dialled x) s.behind call));
          reads = r.reads;
          all = λ k at. ap (λ (xs : List ℕ). xs ++ new_of call) (r.all k at) ∙ none k at;
        }

        by_place : IsOver s.behind v tokens ⊎ IsReading ds s.behind v tokens →
            IsOver (more_calls s.behind call) v tokens ⊎ IsReading ds (more_calls s.behind call) v tokens
        by_place (inl o) = inl (more_over s.behind call v tokens o)
        by_place (inr r) = inr (reading_on r)

    -- or they wait
    pub waits : (v : Upstream) (tokens : List Token) (k : ℕ) → exchange_of ds k ≡ Some x → IsHeard ds calls v tokens →
        IsHeard ds (more_calls calls call) (origin_sends (new_of call) v) tokens
    waits v tokens k at s = record {
      behind = more_calls s.behind call;
      opens = later calls s.behind v.no_body call s.opens;
      sent = more_sent s.behind call v.no_body tokens s.sent;
      answer = s.answer;
      on = by_place s.on;
      shut = λ on. more_shut ds s.behind call (s.shut on);
    }
      where
        reading_on : IsReading ds s.behind v tokens → IsReading ds (more_calls s.behind call) (origin_sends (new_of call) v) tokens
        reading_on r = record {
          front = r.front;
          rest = [];
          whole =
              let none : r.rest ≡ [] = r.all k at in
              let before : r.front ++ v.input ≡ came s.behind =
              ap (λ (xs : List ℕ). r.front ++ xs) (sym (append-nil v.input) ∙ ap (λ (xs : List ℕ). v.input ++ xs) (sym none)) ∙ r.whole in
              ap (λ (xs : List ℕ). r.front ++ xs) (append-nil (v.input ++ new_of call)) ∙ (sym (append_assoc r.front v.input (new_of call))
              ∙ (ap (λ (xs : List ℕ). xs ++ new_of call) before ∙ sym (came_more (connection_of dialled x) s.behind call)));
          reads = r.reads;
          all = λ j there. refl;
        }

        by_place : IsOver s.behind v tokens ⊎ IsReading ds s.behind v tokens →
            IsOver (more_calls s.behind call) (origin_sends (new_of call) v) tokens ⊎ IsReading ds (more_calls s.behind call)
            (origin_sends (new_of call) v) tokens
        by_place (inl o) = let m = more_over s.behind call v tokens o in inl (record { done = m.done; answered = m.answered })
        by_place (inr r) = inr (reading_on r)

  -- CHANGES

  module _ (ds : List (Option ℕ)) (calls : List Called) where
    abbrev S : Proxy → Type 0
    S p = Follows ds calls p

    abbrev Row : Option Upstream → List Token → Type 0
    Row o tokens = HasHeard ds calls o tokens

    pub still : (b : Bool) (p q : Proxy) → S p → S q → S (if b then q else p)
    still true p q a b = b
    still false p q a b = a

    -- an event that tells these
    step_on : (ev : Event) (p : Proxy) (tokens : List Token) → received_by x ev ≡ tokens → Row (p.upstream x) (received_of x p.history ++ tokens) →
        (is_end x ev ≡ true → IsEnd calls (received_of x p.history)) → HasEnds calls p.history → S (stepped limits ev p)
    unfolding with_entry owed
    step_on ev p tokens reports row end ends = (subst (λ (ts : List Token). Row (p.upstream x) (received_of x p.history ++ ts)) (sym reports) row, (end, ends))

    -- an end of x
    end_on : (z : ℕ) (p : Proxy) → IsEnd calls (received_of x p.history) → S p → S (stepped limits (event.End z) p)
    end_on z p end s = step_on (event.End z) p [] refl (subst (Row (p.upstream x)) (sym (append-nil (received_of x p.history))) s.0) (λ on. end) s.1

    -- or nothing of x
    pub other_on : (ev : Event) (p : Proxy) → received_by x ev ≡ [] → is_end x ev ≡ false → S p → S (stepped limits ev p)
    other_on ev p reports off s =
        step_on ev p [] reports (subst (Row (p.upstream x)) (sym (append-nil (received_of x p.history))) s.0) (λ on. never_true (sym off ∙ on)) s.1

    denies : (z : ℕ) (p : Proxy) → S p → S (unless_denied limits z p)
    denies z p s = still (is_last_denied p.part) p (stepped limits (event.Fault z) p) s (other_on (event.Fault z) p refl refl s)

    -- ANOTHER EXCHANGE is heard

    module _ (z : ℕ) (off : nat_eq x z ≡ false) where
      origin_off : (change : Upstream → Upstream) (p : Proxy) → S p → S (with_upstream z change p)
      origin_off change p s =
          let same : (with_upstream z change p).upstream x ≡ p.upstream x = rw off refl in
          (subst (λ (o : Option Upstream). Row o (received_of x p.history)) (sym same) s.0, s.1)

      head_off : (token : Token) (p : Proxy) → S p → S (hands_head limits z token p)
      head_off (Answers response) p s = other_on (event.Head z response) p (rw off refl) refl s
      head_off (Asks request) p s = s
      head_off (Byte b) p s = s

      hands_off : (n : Next) (p : Proxy) → S p → S (hands limits z n p)
      hands_off (Waits t) p s = origin_off (read_to t []) p s
      hands_off (Reports token t rest) p s = head_off token (with_upstream z (read_to t rest) p) (origin_off (read_to t rest) p s)
      hands_off (Brings bytes t rest) p s =
          let q : Proxy = with_upstream z (read_to t rest) p in
          denies z (stepped limits (event.Piece z bytes) q) (other_on (event.Piece z bytes) q (rw off refl) refl (origin_off (read_to t rest) p s))
      hands_off Ends p s = other_on (event.End z) (with_upstream z (read_to Done []) p) refl off (origin_off (read_to Done []) p s)
      hands_off (Fails e) p s = other_on (event.Fault z) (with_upstream z (read_to (Failed e) []) p) refl refl (origin_off (read_to (Failed e) []) p s)

    -- THIS EXCHANGE is heard

    -- bytes that tell this were read
    reads_on : (v : Upstream) (tokens more : List Token) (first rest : List ℕ) (t : Reading) → first ++ rest ≡ v.input → Leads v.reading first more t →
        is_answer t ≡ true → (r : IsHeard ds calls v tokens) → IsReading ds r.behind v tokens
        → IsHeard ds calls (read_to t rest v) (tokens ++ more)
    reads_on v tokens more first rest t is leads answer h r =
        let now : IsReading ds h.behind (read_to t rest v) (tokens ++ more) = record {
          front = r.front ++ first;
          rest = r.rest;
          whole = append_assoc r.front first (rest ++ r.rest)
              ∙ (ap (λ (xs : List ℕ). r.front ++ xs) (sym (append_assoc first rest r.rest) ∙ ap (λ (xs : List ℕ). xs ++ r.rest) is) ∙ r.whole);
          reads = leads_on (heading (Responses v.no_body)) r.front first tokens more v.reading t r.reads leads;
          all = r.all;
        } in
        record {
          behind = h.behind;
          opens = h.opens;
          sent = sent_of ds h.behind (read_to t rest v) (tokens ++ more) now;
          answer = answer;
          on = inr now;
          shut = h.shut;
        }

    -- all of them were, and told nothing
    all_read : (v : Upstream) (tokens : List Token) (t : Reading) → Leads v.reading v.input [] t → is_answer t ≡ true → (h : IsHeard ds calls v tokens) →
        IsReading ds h.behind v tokens → IsHeard ds calls (read_to t [] v) tokens
    all_read v tokens t leads answer h r =
        subst (IsHeard ds calls (read_to t [] v)) (append-nil tokens) (reads_on v tokens [] v.input [] t (append-nil v.input) leads answer h r)

    -- or it is over
    over : (v : Upstream) (tokens : List Token) (t : Reading) → t ≡ Done → is_answer t ≡ true → (r : IsHeard ds calls v tokens) →
        IsAnswered r.behind v.no_body tokens → IsHeard ds calls (read_to t [] v) tokens
    over v tokens t done answer r a =
        record { behind = r.behind; opens = r.opens; sent = r.sent; answer = answer; on = inl (record { done = done; answered = a }); shut = r.shut }

    -- no bytes lead behind an end that was told
    not_done : (v : Upstream) (tokens : List Token) (behind : List Called) → IsReading ds behind v tokens → v.reading ≡ Done → ⊥
    not_done v tokens behind r done = never_done (heading (Responses v.no_body)) r.front tokens v.reading r.reads refl done

    -- where the end was told it waits
    waits_over : (v : Upstream) (n : Next) → n ≡ next_of v → v.reading ≡ Done → n ≡ Waits v.reading
    waits_over v n is done = is ∙ done_takes 16384 v.reading v.input (sym done)

    wait_on : (v : Upstream) (tokens : List Token) (t : Reading) → Waits t ≡ next_of v → IsReadOn v.reading v.input t → is_answer t ≡ true →
        IsHeard ds calls v tokens → IsHeard ds calls (read_to t [] v) tokens
    wait_on v tokens t is next answer r = by_place r.on
      where
        -- an answer that is read on doesn't stand behind its end
        by_next : IsReading ds r.behind v tokens → IsReadOn v.reading v.input t → IsHeard ds calls (read_to t [] v) tokens
        by_next reading (inl on) = all_read v tokens t on.0 answer r reading
        by_next reading (inr done) = absurd (not_done v tokens r.behind reading done.0)

        by_place : IsOver r.behind v tokens ⊎ IsReading ds r.behind v tokens → IsHeard ds calls (read_to t [] v) tokens
        by_place (inl o) = let same : t ≡ v.reading = (let one : Waits t ≡ Waits v.reading = waits_over v (Waits t) is o.done in cc) in
            over v tokens t (same ∙ o.done) answer r o.answered
        by_place (inr reading) = by_next reading next

    -- so it is read on where no wait stands next
    reading_of : (v : Upstream) (tokens : List Token) (n : Next) → n ≡ next_of v → ((t : Reading) → n ≡ Waits t → ⊥) → (r : IsHeard ds calls v tokens) →
        IsReading ds r.behind v tokens
    reading_of v tokens n is off r = by_place r.on
      where
        by_place : IsOver r.behind v tokens ⊎ IsReading ds r.behind v tokens → IsReading ds r.behind v tokens
        by_place (inl o) = absurd (off v.reading (waits_over v n is o.done))
        by_place (inr reading) = reading

    module _ (z : ℕ) (on : nat_eq x z ≡ true) where
      here : (change : Upstream → Upstream) (p : Proxy) (v : Upstream) (tokens : List Token) → p.upstream x ≡ Some v →
          IsHeard ds calls (change v) tokens → Row ((with_upstream z change p).upstream x) tokens
      here change p v tokens at r =
          let same : (with_upstream z change p).upstream x ≡ Some (change v) = rw (on, at) refl in
          subst (λ (o : Option Upstream). Row o tokens) (sym same) r

      hands_here : (n : Next) (p : Proxy) (v : Upstream) → p.upstream x ≡ Some v → n ≡ next_of v → StandsNext 16384 v.reading v.input n → IsAnswerNext n →
          IsHeard ds calls v (received_of x p.history) → S p → S (hands limits z n p)
      hands_here (Waits t) p v at is next answer r s =
          (here (read_to t []) p v (received_of x p.history) at (wait_on v (received_of x p.history) t is next answer r), s.1)
      hands_here (Reports (Answers response) t rest) p v at is next answer r s =
          let tokens : List Token = received_of x p.history in
          let reading : IsReading ds r.behind v tokens =
          reading_of v tokens (Reports (Answers response) t rest) is (λ u never. let no_wait : Reports (Answers response) t rest ≡ Waits u = never in cc) r in
          let read : IsHeard ds calls (read_to t rest v) (tokens ++ Answers response ∷ []) =
          reads_on v tokens (Answers response ∷ []) next.front rest t next.whole (reports_leads v.reading next.front (Answers response) t next.reports)
          answer r reading in
          step_on (event.Head z response) (with_upstream z (read_to t rest) p) (Answers response ∷ []) (rw on refl)
          (here (read_to t rest) p v (tokens ++ Answers response ∷ []) at read) (λ is_not. never_true is_not) s.1
      hands_here (Reports (Asks request) t rest) p v at is next answer r s = absurd answer
      hands_here (Reports (Byte b) t rest) p v at is next answer r s = absurd answer
      hands_here (Brings bytes t rest) p v at is next answer r s =
          let tokens : List Token = received_of x p.history in
          let reading : IsReading ds r.behind v tokens =
          reading_of v tokens (Brings bytes t rest) is (λ u never. let no_wait : Brings bytes t rest ≡ Waits u = never in cc) r in
          let read : IsHeard ds calls (read_to t rest v) (tokens ++ byte_tokens bytes) =
          reads_on v tokens (byte_tokens bytes) (next.front ++ bytes) rest t (append_assoc next.front bytes rest ∙ next.whole)
          (leads_on v.reading next.front bytes [] (byte_tokens bytes) next.mid t next.passes next.gives) answer r reading in
          let q : Proxy = with_upstream z (read_to t rest) p in
          denies z (stepped limits (event.Piece z bytes) q)
          (step_on (event.Piece z bytes) q (byte_tokens bytes) (rw on refl) (here (read_to t rest) p v (tokens ++ byte_tokens bytes) at read)
          (λ is_not. never_true is_not) s.1)
      hands_here Ends p v at is next answer r s =
          let tokens : List Token = received_of x p.history in
          let reading : IsReading ds r.behind v tokens = reading_of v tokens Ends is (λ u never. let no_wait : Ends ≡ Waits u = never in cc) r in
          let answered : IsAnswered r.behind v.no_body tokens = record {
            sent = record {
              front = reading.front ++ next.front;
              rest = next.rest ++ reading.rest;
              reading = Whole;
              whole = append_assoc reading.front next.front (next.rest ++ reading.rest)
                  ∙ (ap (λ (xs : List ℕ). reading.front ++ xs)
                  (sym (append_assoc next.front next.rest reading.rest) ∙ ap (λ (xs : List ℕ). xs ++ reading.rest) next.whole) ∙ reading.whole);
              reads = subst (λ (ts : List Token). Leads (heading (Responses v.no_body)) (reading.front ++ next.front) ts Whole) (append-nil tokens)
                  (leads_on (heading (Responses v.no_body)) reading.front next.front tokens [] v.reading Whole reading.reads next.ends);
            };
            whole = inl refl;
          } in
          let q : Proxy = with_upstream z (read_to Done []) p in
          end_on z q (record { behind = r.behind; no_body = v.no_body; opens = r.opens; answered = answered })
          (here (read_to Done []) p v tokens at (over v tokens Done refl refl r answered), s.1)
      hands_here (Fails e) p v at is next answer r s =
          let tokens : List Token = received_of x p.history in
          let reading : IsReading ds r.behind v tokens = reading_of v tokens (Fails e) is (λ u never. let no_wait : Fails e ≡ Waits u = never in cc) r in
          other_on (event.Fault z) (with_upstream z (read_to (Failed e) []) p) refl refl
          (here (read_to (Failed e) []) p v tokens at (all_read v tokens (Failed e) next refl r reading), s.1)

    -- ITS CLOSE, where its connection has ended and all that came was read

    closing : (v : Upstream) (tokens : List Token) (t : Reading) → v.ended ≡ true → Waits t ≡ next_of v → IsReadOn v.reading v.input t →
        ending t ≡ Ok part.End → IsHeard ds calls v tokens → IsEnd calls tokens
    closing v tokens t ended is next ends r = record { behind = r.behind; no_body = v.no_body; opens = r.opens; answered = by_place r.on }
      where
        by_next : IsReading ds r.behind v tokens → IsReadOn v.reading v.input t → IsAnswered r.behind v.no_body tokens
        by_next reading (inl on) =
            let shut : IsShut ds r.behind = r.shut ended in
            let none : reading.rest ≡ [] = reading.all shut.k shut.at in
            let all : reading.front ++ v.input ≡ came r.behind =
            ap (λ (xs : List ℕ). reading.front ++ xs) (sym (append-nil v.input) ∙ ap (λ (xs : List ℕ). v.input ++ xs) (sym none)) ∙ reading.whole in
            record {
              sent = record {
                front = reading.front ++ v.input;
                rest = [];
                reading = t;
                whole = append-nil (reading.front ++ v.input) ∙ all;
                reads = subst (λ (ts : List Token). Leads (heading (Responses v.no_body)) (reading.front ++ v.input) ts t) (append-nil tokens)
                    (leads_on (heading (Responses v.no_body)) reading.front v.input tokens [] v.reading t reading.reads on.0);
              };
              whole = inr (record { first = r.behind; last = []; calls_are = sym (append-nil r.behind); over = shut.over; all = all; ends = ends });
            }
        by_next reading (inr done) = absurd (not_done v tokens r.behind reading done.0)

        by_place : IsOver r.behind v tokens ⊎ IsReading ds r.behind v tokens → IsAnswered r.behind v.no_body tokens
        by_place (inl o) = o.answered
        by_place (inr reading) = by_next reading next

    close_here : (z : ℕ) (p : Proxy) (v : Upstream) (n : Next) → v.ended ≡ true → n ≡ next_of v → StandsNext 16384 v.reading v.input n →
        IsHeard ds calls v (received_of x p.history) → S p → S (closes limits z n p)
    close_here z p v (Waits t) ended is next r s = by_result (ending t) refl
      where
        by_result : (result : Result WirePart MsgError) → ending t ≡ result → S (stepped limits (event_at_close z result) p)
        by_result (Err e) at = other_on (event.Fault z) p refl refl s
        by_result (Ok given) at = end_on z p (closing v (received_of x p.history) t ended is next (end_is t given at) r) s
    close_here z p v (Reports token t rest) ended is next r s = s
    close_here z p v (Brings bytes t rest) ended is next r s = s
    close_here z p v Ends ended is next r s = s
    close_here z p v (Fails e) ended is next r s = other_on (event.Fault z) p refl refl s

    -- ALL OF THEM

    next_on : (z : ℕ) (v : Upstream) (p : Proxy) → p.upstream z ≡ Some v → S p → S (hands limits z (next_of v) p)
    next_on z v p at s = by_number (nat_eq x z) refl
      where
        by_number : (b : Bool) → nat_eq x z ≡ b → S (hands limits z (next_of v) p)
        by_number false off = hands_off z off (next_of v) p s
        by_number true on =
            let same : x ≡ z = grind (arith, nat_tests) in
            let row : p.upstream x ≡ Some v = ap p.upstream same ∙ at in
            let r : IsHeard ds calls v (received_of x p.history) = subst (λ (o : Option Upstream). Row o (received_of x p.history)) row s.0 in
            hands_here z on (next_of v) p v row refl (stands_next 16384 v.reading v.input) (answer_next 16384 v.reading v.input r.answer) r s

    handed_on : (z : ℕ) (o : Option Upstream) (p : Proxy) → p.upstream z ≡ o → S p → S (hands_if limits z o p)
    handed_on z None p at s = s
    handed_on z (Some v) p at s = still (is_wanted (p.tables.exchange z) && has_news v) p (hands limits z (next_of v) p) s (next_on z v p at s)

    close_off : (z : ℕ) → nat_eq x z ≡ false → (r : Result WirePart MsgError) (p : Proxy) → S p → S (stepped limits (event_at_close z r) p)
    close_off z off (Ok part) p s = other_on (event.End z) p refl off s
    close_off z off (Err e) p s = other_on (event.Fault z) p refl refl s

    closes_off : (z : ℕ) → nat_eq x z ≡ false → (n : Next) (p : Proxy) → S p → S (closes limits z n p)
    closes_off z off (Waits t) p s = close_off z off (ending t) p s
    closes_off z off (Reports token t rest) p s = s
    closes_off z off (Brings bytes t rest) p s = s
    closes_off z off Ends p s = s
    closes_off z off (Fails e) p s = other_on (event.Fault z) p refl refl s

    closes_on : (z : ℕ) (v : Upstream) (p : Proxy) → p.upstream z ≡ Some v → v.ended ≡ true → S p → S (closes limits z (next_of v) p)
    closes_on z v p at ended s = by_number (nat_eq x z) refl
      where
        by_number : (b : Bool) → nat_eq x z ≡ b → S (closes limits z (next_of v) p)
        by_number false off = closes_off z off (next_of v) p s
        by_number true on =
            let same : x ≡ z = grind (arith, nat_tests) in
            let row : p.upstream x ≡ Some v = ap p.upstream same ∙ at in
            let r : IsHeard ds calls v (received_of x p.history) = subst (λ (o : Option Upstream). Row o (received_of x p.history)) row s.0 in
            close_here z p v (next_of v) ended refl (stands_next 16384 v.reading v.input) r s

    closed_on : (z : ℕ) (o : Option Upstream) (p : Proxy) → p.upstream z ≡ o → S p → S (closes_if limits z o p)
    closed_on z None p at s = s
    closed_on z (Some v) p at s = by_ended v.ended refl (is_open (p.tables.exchange z))
      where
        by_ended : (a : Bool) → v.ended ≡ a → (b : Bool) → S (if a && b then closes limits z (next_of v) p else p)
        by_ended true ended true = closes_on z v p at ended s
        by_ended true ended false = s
        by_ended false ended b = s

    each_on : (zs : List ℕ) (p : Proxy) → S p → S (each_heard limits zs p)
    each_on [] p s = s
    each_on (z ∷ zs) p s =
        let q : Proxy = handed limits z p in
        each_on zs (closed limits z q) (closed_on z (q.upstream z) q refl (handed_on z (p.upstream z) p refl s))

    pub hears_on : (p : Proxy) → S p → S (heard limits p)
    unfolding heard
    hears_on p s = each_on (open_exchanges p.tables) p s

    -- CLIENTS

    starts_on : (k : ℕ) (request : WireRequest) (p : Proxy) → S p → S (started limits k request p)
    starts_on k request p s =
        other_on (event.Start (p.starts + 1) (asked_of p.setting.front request))
        (with_holder (p.starts + 1) k (with_client k (asks (p.starts + 1) (reply_to p.setting.front request)) p)) refl refl s

    token_on : (k : ℕ) (token : Token) (p : Proxy) → S p → S (hears_request limits k token p)
    token_on k (Asks request) p s = starts_on k request p s
    token_on k (Answers response) p s = s
    token_on k (Byte b) p s = s

    asks_on : (k : ℕ) (n : Next) (p : Proxy) → S p → S (hears limits k n p)
    asks_on k (Waits t) p s = s
    asks_on k (Reports token t rest) p s = token_on k token (with_client k (starts.read_to t rest) p) s
    asks_on k (Brings bytes t rest) p s = s
    asks_on k Ends p s = s
    asks_on k (Fails e) p s = s

    module _ (call : Called) where
      client_on : (k : ℕ) (o : Option Client) (p : Proxy) → S p → S (hears_if limits call k o p)
      client_on k None p s = s
      client_on k (Some client) p s =
          still (is_ready call k client) p (hears limits k (next_in 1 client.reading client.input) p) s (asks_on k (next_in 1 client.reading client.input) p s)

      each_asks : (ks : List ℕ) (p : Proxy) → S p → S (starts.each_heard limits call ks p)
      each_asks [] p s = s
      each_asks (k ∷ ks) p s = each_asks ks (hears_if limits call k (p.client k) p) (client_on k (p.client k) p s)

      pub all_ask : (p : Proxy) → S p → S (started_all limits call p)
      unfolding started_all
      all_ask p s = each_asks (clients_here p) p s

      polls_on : (cs : List ℕ) (p : Proxy) → S p → S (each_polled limits call cs p)
      polls_on [] p s = s
      polls_on (c ∷ cs) p s = polls_on cs (polled limits call c p)
          (still (may_be_polled call p (p.holder c)) p (stepped limits (event.Poll c 16384) p) s (other_on (event.Poll c 16384) p refl refl s))

      pub all_polled : (p : Proxy) → S p → S (polled_all limits call p)
      unfolding polled_all
      all_polled p s = polls_on (live_consumers p.tables) p s

    pub leaves_on : (k : ℕ) (o : Option Client) (p : Proxy) → S p → S (leaves limits k o p)
    leaves_on k None p s = s
    leaves_on k (Some client) p s = still client.gone (with_client k left (cancelled limits client.consumer p)) p (cancels client.consumer) s
      where
        cancels : (o : Option ℕ) → S (with_client k left (cancelled limits o p))
        cancels None = s
        cancels (Some c) = other_on (event.Cancel c) p refl refl s

    pub comes_on : (k : ℕ) (p : Proxy) → S p → S (client_comes k p)
    comes_on k p s = still (is_none (p.client k) && nat_lt (length (clients_here p)) 512) p (with_new k p) s s

    -- CARRYING OUT, where exchanges are opened of which nothing was told

    answers_on : (o : Option ℕ) (a : Act) (p : Proxy) → S p → S (answers o a p)
    answers_on None a p s = s
    answers_on (Some k) a p s = s

  module _ (ds : List (Option ℕ)) (before : List Called) (call : Called) where
    abbrev calls : List Called
    calls = more_calls before call

    abbrev first : Proxy
    first = turned_by limits dialled before (unused began)

    abbrev all : List Act
    all = acts_in (turned limits dialled call first).part

    -- it was opened before, or nothing is told of it
    abbrev IsOld : Proxy → Type 0
    IsOld p = first.tables.opened < x → received_of x p.history ≡ []

    abbrev NewOnly : List Act → Type 0
    NewOnly acts = OpenOnly (λ y. first.tables.opened < y) acts

    -- a row that is new
    new_row : (request : Request) (c : ℕ) (need : Need) (tokens : List Token) → Contains all (act.Opened x c need request) → tokens ≡ [] →
        IsHeard ds calls (opened request) tokens
    new_row request c need tokens among none =
        let reading : IsReading ds [] (opened request) tokens =
        record { front = []; rest = []; whole = none_came (connection_of dialled x); reads = (none, refl); all = λ k at. refl } in
        record {
          behind = [];
          opens = record {
            before = before;
            call = call;
            request = request;
            calls_are = refl;
            opens = record { c = c; need = need; among = among };
            kind =
                refl;
          };
          sent = sent_of ds [] (opened request) tokens reading;
          answer = refl;
          on = inr reading;
          shut = λ on. never_true on;
        }

    opens_on : (y c : ℕ) (need : Need) (request : Request) (p : Proxy) → first.tables.opened < y → Contains all (act.Opened y c need request) → IsOld p →
        Follows ds calls p → Follows ds calls (with_opened y request p)
    opens_on y c need request p above among old s = (by_number (nat_eq x y) refl, s.1)
      where
        by_number : (b : Bool) → nat_eq x y ≡ b → HasHeard ds calls (if b then Some (opened request) else p.upstream x) (received_of x p.history)
        by_number false off = s.0
        by_number true on =
            let same : y ≡ x = grind (arith, nat_tests) in
            new_row request c need (received_of x p.history) (subst (λ (n : ℕ). Contains all (act.Opened n c need request)) same among) (old (omega arith))

    answers_old : (o : Option ℕ) (a : Act) (p : Proxy) → IsOld p → IsOld (answers o a p)
    answers_old None a p old = old
    answers_old (Some k) a p old = old

    act_old : (a : Act) (p : Proxy) → IsOld p → IsOld (carried_out a p)
    act_old (act.Denied refusal) p old = old
    act_old (act.Opened y c need request) p old = old
    act_old (act.Ask y) p old = old
    act_old (act.Close y) p old = old
    act_old (act.Shown c q why status fields lo hi) p old = answers_old (p.holder c) (act.Shown c q why status fields lo hi) p old
    act_old (act.Given c y at bytes) p old = answers_old (p.holder c) (act.Given c y at bytes) p old
    act_old (act.Ended c) p old = answers_old (p.holder c) (act.Ended c) p old
    act_old (act.Failed c cause) p old = answers_old (p.holder c) (act.Failed c cause) p old
    act_old (act.Pending c wait) p old = old
    act_old (act.Lost q kind) p old = old
    act_old (act.Evicted q) p old = old

    act_on : (a : Act) (acts : List Act) (p : Proxy) → Contains all a → NewOnly (a ∷ acts) → IsOld p → Follows ds calls p →
        Follows ds calls (carried_out a p) × NewOnly acts
    act_on (act.Denied refusal) acts p among only old s = (s, only)
    act_on (act.Opened y c need request) acts p among only old s = (opens_on y c need request p only.0 among old s, only.1)
    act_on (act.Ask y) acts p among only old s = (s, only)
    act_on (act.Close y) acts p among only old s = (s, only)
    act_on (act.Shown c q why status fields lo hi) acts p among only old s =
        (answers_on ds calls (p.holder c) (act.Shown c q why status fields lo hi) p s, only)
    act_on (act.Given c y at bytes) acts p among only old s = (answers_on ds calls (p.holder c) (act.Given c y at bytes) p s, only)
    act_on (act.Ended c) acts p among only old s = (answers_on ds calls (p.holder c) (act.Ended c) p s, only)
    act_on (act.Failed c cause) acts p among only old s = (answers_on ds calls (p.holder c) (act.Failed c cause) p s, only)
    act_on (act.Pending c wait) acts p among only old s = (s, only)
    act_on (act.Lost q kind) acts p among only old s = (s, only)
    act_on (act.Evicted q) acts p among only old s = (s, only)

    acts_on : (done acts : List Act) (p : Proxy) → done ++ acts ≡ all → NewOnly acts → IsOld p → Follows ds calls p → Follows ds calls (all_carried_out acts p)
    acts_on done [] p is only old s = s
    acts_on done (a ∷ acts) p is only old s =
        let next = act_on a acts p (subst (λ (acts_all : List Act). Contains acts_all a) is (among_all done acts a)) only old s in
        acts_on (done ++ a ∷ []) acts (carried_out a p) (append_assoc done (a ∷ []) acts ∙ is) next.1 (act_old a p old) next.0

    pub carries_on : (p : Proxy) → acts_in p.part ≡ all → NewOnly (acts_in p.part) → IsOld p → Follows ds calls p → Follows ds calls (carried p)
    unfolding carried
    carries_on p is only old s = acts_on [] (acts_in p.part) p is only old s
