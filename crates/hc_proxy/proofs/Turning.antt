-- What each change of the tables keeps, a turn keeps.
--
-- A turn is made of few kinds of changes: one row of a client or of a connection to the origin, a new
-- client, the holder of a consumer, an event that is stepped, and an exchange that is opened. A relation
-- between the tables before and behind that holds of each, of none and of two in a row holds of a turn, where it
-- holds of its beginning. So the definitions are walked through once, here, and each law names what it is of each kind.
use Rattle.std.{proofs.Common.{◌≡◌, ℕ, ◌+◌, Bool, true, false, List, [], ◌∷◌, Option, Some, None, refl}, specs.Prelude.{◌&&◌, is_none, nat_lt, length, if◌then◌else◌}}
use Rattle.hc_effects.proofs.Vocabulary.{Act, Event, Request, is_open, Limits, act, event}
use Rattle.hc_head.specs.declared.message.{MsgError.{MsgError}, WireRequest.{WireRequest}}
use Rattle.hc_msg.specs.{Inputs.{Next, Waits, Reports, Brings, Ends, Fails, next_in}, Reading.{Reading, Done, Failed, Token, Asks, Answers, Byte}, Taking.{ending}}
use Rattle.hc_wire.specs.{Logs.{Called}, declared.event.WireEvent.{WireEvent}}
use Rattle.hc_wire.specs.declared.event.WireEvent.TheVariants as wire
use Rattle.hc_peers.specs.{Renderings.{asked_of, reply_to}, declared.reply.Reply.{Reply}}
use Rattle.hc_proxy.specs.{Carrying.{answered, answers, opened, all_carried_out, carried, acts_in}, Connections.{exchange_of}, Handling.{begun, inserted, clients_here, left, cancelled, leaves, client_sends, origin_sends, origin_ends, breaks, sends, ends, broke, handled_by, handled}, Network.{open_exchanges, is_last_denied, unless_denied, next_of, hands_head, hands, hands_if, event_at_close, closes, closes_if, handed, closed, heard}, Polls.{live_consumers, may_be_polled, polled, each_polled, polled_all}, Rows.{Client, Upstream, Proxy, new_client, with, with_client, with_upstream}, Starts.{asks, with_holder, started, refused, hears_request, hears, is_ready, hears_if, started_all}, Steps.{stepped}, Turns.{so_far, happened, turned}}
use Rattle.hc_proxy.specs.Network as network
use Rattle.hc_proxy.specs.Starts as starts

-- THE KINDS OF CHANGES

-- of a client
pub data IsChange : (Client → Client) → Type 0 where
  sends_more : (bytes : List ℕ) → IsChange (client_sends bytes)
  is_read : (reading : Reading) (rest : List ℕ) → IsChange (starts.read_to reading rest)
  asks_next : (c : ℕ) (reply : Reply) → IsChange (asks c reply)
  is_refused : (e : MsgError) → IsChange (refused e)
  goes : IsChange left

-- of a connection to the origin
pub data IsOriginChange : (Upstream → Upstream) → Type 0 where
  sends_more : (bytes : List ℕ) → IsOriginChange (origin_sends bytes)
  ends_here : IsOriginChange origin_ends
  is_read : (reading : Reading) (rest : List ℕ) → IsOriginChange (network.read_to reading rest)

-- one more client
abbrev pub with_new : ℕ → Proxy → Proxy
with_new k p = record p { accepted = inserted k p.accepted; client = with k new_client p.client }

-- one more connection to the origin
abbrev pub with_opened : ℕ → Request → Proxy → Proxy
with_opened x request p = record p { upstream = with x (opened request) p.upstream }

-- A relation holds of each kind. A client comes only with a number that no client had.
pub record IsKept (limits : Limits) (R : Proxy → Proxy → Type 0) : Type 0 where
  pub none : (p : Proxy) → R p p
  pub both : (p q r : Proxy) → R p q → R q r → R p r
  pub comes : (k : ℕ) (p : Proxy) → p.client k ≡ None → R p (with_new k p)
  pub client : (k : ℕ) (change : Client → Client) (p : Proxy) → IsChange change → R p (with_client k change p)
  pub origin : (x : ℕ) (change : Upstream → Upstream) (p : Proxy) → IsOriginChange change → R p (with_upstream x change p)
  pub holder : (c k : ℕ) (p : Proxy) → R p (with_holder c k p)
  pub steps : (ev : Event) (p : Proxy) → R p (stepped limits ev p)

-- And of what acts are carried out by, where exchanges are opened of which this holds.
pub record IsCarried (MayOpen : ℕ → Type 0) (R : Proxy → Proxy → Type 0) : Type 0 where
  pub none : (p : Proxy) → R p p
  pub both : (p q r : Proxy) → R p q → R q r → R p r
  pub answers : (k : ℕ) (a : Act) (p : Proxy) → R p (with_client k (answered a) p)
  pub opens : (x : ℕ) (request : Request) (p : Proxy) → MayOpen x → R p (with_opened x request p)

-- all exchanges that acts open are such
abbrev pub OpenOnly : (ℕ → Type 0) → List Act → Type 0
OpenOnly MayOpen [] = Unit {0}
OpenOnly MayOpen (act.Opened x c need request ∷ acts) = MayOpen x × OpenOnly MayOpen acts
OpenOnly MayOpen (_ ∷ acts) = OpenOnly MayOpen acts

module _ (limits : Limits) (R : Proxy → Proxy → Type 0) (kept : IsKept limits R) where
  either : (b : Bool) (p q : Proxy) → R p q → R p (if b then q else p)
  either true p q r = r
  either false p q r = kept.none p

  -- HANDLE

  comes_by : (k : ℕ) (o : Option Client) (p : Proxy) → p.client k ≡ o → (b : Bool) → R p (if is_none o && b then with_new k p else p)
  comes_by k None p row true = kept.comes k p row
  comes_by k None p row false = kept.none p
  comes_by k (Some client) p row b = kept.none p

  cancels : (o : Option ℕ) (p : Proxy) → R p (cancelled limits o p)
  cancels None p = kept.none p
  cancels (Some c) p = kept.steps (event.Cancel c) p

  leaves_by : (k : ℕ) (o : Option Client) (p : Proxy) → R p (leaves limits k o p)
  leaves_by k None p = kept.none p
  leaves_by k (Some client) p = by_test client.gone
    where
      goes_now : R p (with_client k left (cancelled limits client.consumer p))
      goes_now = kept.both p (cancelled limits client.consumer p) _ (cancels client.consumer p) (kept.client k left (cancelled limits client.consumer p) goes)

      by_test : (b : Bool) → R p (if b then p else with_client k left (cancelled limits client.consumer p))
      by_test true = kept.none p
      by_test false = goes_now

  breaks_by : (x : ℕ) (p : Proxy) → R p (breaks limits x p)
  breaks_by x p = either (is_open (p.tables.exchange x)) p _ (kept.steps (event.Fault x) p)

  sends_by : (o : Option ℕ) (k : ℕ) (bytes : List ℕ) (p : Proxy) → R p (sends o k bytes p)
  sends_by None k bytes p = kept.client k (client_sends bytes) p (sends_more bytes)
  sends_by (Some x) k bytes p = kept.origin x (origin_sends bytes) p (sends_more bytes)

  ends_by : (o : Option ℕ) (k : ℕ) (p : Proxy) → R p (ends limits o k p)
  ends_by None k p = leaves_by k (p.client k) p
  ends_by (Some x) k p = kept.origin x origin_ends p ends_here

  broke_by : (o : Option ℕ) (k : ℕ) (p : Proxy) → R p (broke limits o k p)
  broke_by None k p = leaves_by k (p.client k) p
  broke_by (Some x) k p = breaks_by x p

  by_event : (dialled : List (Option ℕ)) (bytes : List ℕ) (w : WireEvent) (p : Proxy) → R p (handled_by limits dialled bytes w p)
  by_event dialled bytes (wire.Accepted k) p = comes_by k (p.client k) p refl (nat_lt (length (clients_here p)) 512)
  by_event dialled bytes (wire.Got k n) p = sends_by (exchange_of dialled k) k bytes p
  by_event dialled bytes (wire.Ended k) p = ends_by (exchange_of dialled k) k p
  by_event dialled bytes (wire.Broke k) p = broke_by (exchange_of dialled k) k p
  by_event dialled bytes (wire.Room k) p = kept.none p
  by_event dialled bytes wire.Quiet p = kept.none p

  pub handled_keeps : (dialled : List (Option ℕ)) (call : Called) (p : Proxy) → R p (handled limits dialled call p)
  unfolding handled
  handled_keeps dialled call p = by_event dialled call.bytes call.event p

  -- NETWORK

  reads_on : (x : ℕ) (reading : Reading) (rest : List ℕ) (p : Proxy) → R p (with_upstream x (network.read_to reading rest) p)
  reads_on x reading rest p = kept.origin x (network.read_to reading rest) p (is_read reading rest)

  then_steps : (ev : Event) (p q : Proxy) → R p q → R p (stepped limits ev q)
  then_steps ev p q r = kept.both p q _ r (kept.steps ev q)

  denies : (x : ℕ) (p q : Proxy) → R p q → R p (unless_denied limits x q)
  denies x p q r = kept.both p q _ r (either (is_last_denied q.part) q _ (kept.steps (event.Fault x) q))

  head_by : (x : ℕ) (token : Token) (p : Proxy) → R p (hands_head limits x token p)
  head_by x (Answers response) p = kept.steps (event.Head x response) p
  head_by x (Asks request) p = kept.none p
  head_by x (Byte b) p = kept.none p

  hands_by : (x : ℕ) (n : Next) (p : Proxy) → R p (hands limits x n p)
  hands_by x (Waits reading) p = reads_on x reading [] p
  hands_by x (Reports token reading rest) p = kept.both p _ _ (reads_on x reading rest p) (head_by x token (with_upstream x (network.read_to reading rest) p))
  hands_by x (Brings bytes reading rest) p = denies x p _ (then_steps (event.Piece x bytes) p _ (reads_on x reading rest p))
  hands_by x Ends p = then_steps (event.End x) p _ (reads_on x Done [] p)
  hands_by x (Fails e) p = then_steps (event.Fault x) p _ (reads_on x (Failed e) [] p)

  handed_by : (x : ℕ) (o : Option Upstream) (p : Proxy) → R p (hands_if limits x o p)
  handed_by x None p = kept.none p
  handed_by x (Some upstream) p = either _ p _ (hands_by x (next_of upstream) p)

  close_by : (x : ℕ) (n : Next) (p : Proxy) → R p (closes limits x n p)
  close_by x (Waits reading) p = kept.steps (event_at_close x (ending reading)) p
  close_by x (Reports token reading rest) p = kept.none p
  close_by x (Brings bytes reading rest) p = kept.none p
  close_by x Ends p = kept.none p
  close_by x (Fails e) p = kept.steps (event.Fault x) p

  closed_by : (x : ℕ) (o : Option Upstream) (p : Proxy) → R p (closes_if limits x o p)
  closed_by x None p = kept.none p
  closed_by x (Some upstream) p = either _ p _ (close_by x (next_of upstream) p)

  each_heard_by : (xs : List ℕ) (p : Proxy) → R p (network.each_heard limits xs p)
  each_heard_by [] p = kept.none p
  each_heard_by (x ∷ xs) p =
      kept.both p _ _ (handed_by x (p.upstream x) p)
      (kept.both (handed limits x p) _ _ (closed_by x ((handed limits x p).upstream x) (handed limits x p))
      (each_heard_by xs (closed limits x (handed limits x p))))

  pub heard_keeps : (p : Proxy) → R p (heard limits p)
  unfolding heard
  heard_keeps p = each_heard_by (open_exchanges p.tables) p

  -- STARTS

  starts_by : (k : ℕ) (request : WireRequest) (p : Proxy) → R p (started limits k request p)
  starts_by k request p =
      then_steps (event.Start (p.starts + 1) (asked_of p.setting.front request)) p _
      (kept.both p _ _ (kept.client k (asks (p.starts + 1) (reply_to p.setting.front request)) p (asks_next (p.starts + 1) (reply_to p.setting.front request)))
      (kept.holder (p.starts + 1) k (with_client k (asks (p.starts + 1) (reply_to p.setting.front request)) p)))

  hears_by_token : (k : ℕ) (token : Token) (p : Proxy) → R p (hears_request limits k token p)
  hears_by_token k (Asks request) p = starts_by k request p
  hears_by_token k (Answers response) p = kept.none p
  hears_by_token k (Byte b) p = kept.none p

  reads_to : (k : ℕ) (reading : Reading) (rest : List ℕ) (p : Proxy) → R p (with_client k (starts.read_to reading rest) p)
  reads_to k reading rest p = kept.client k (starts.read_to reading rest) p (is_read reading rest)

  hears_by : (k : ℕ) (n : Next) (p : Proxy) → R p (hears limits k n p)
  hears_by k (Waits reading) p = reads_to k reading [] p
  hears_by k (Reports token reading rest) p =
      kept.both p _ _ (reads_to k reading rest p) (hears_by_token k token (with_client k (starts.read_to reading rest) p))
  hears_by k (Brings bytes reading rest) p = kept.none p
  hears_by k Ends p = kept.none p
  hears_by k (Fails e) p = kept.both p _ _ (reads_to k (Failed e) [] p) (kept.client k (refused e) _ (is_refused e))

  heard_by : (call : Called) (k : ℕ) (o : Option Client) (p : Proxy) → R p (hears_if limits call k o p)
  heard_by call k None p = kept.none p
  heard_by call k (Some client) p = either (is_ready call k client) p _ (hears_by k (next_in 1 client.reading client.input) p)

  each_started_by : (call : Called) (ks : List ℕ) (p : Proxy) → R p (starts.each_heard limits call ks p)
  each_started_by call [] p = kept.none p
  each_started_by call (k ∷ ks) p = kept.both p _ _ (heard_by call k (p.client k) p) (each_started_by call ks (hears_if limits call k (p.client k) p))

  pub started_keeps : (call : Called) (p : Proxy) → R p (started_all limits call p)
  unfolding started_all
  started_keeps call p = each_started_by call (clients_here p) p

  -- POLLS

  polled_by : (call : Called) (c : ℕ) (p : Proxy) → R p (polled limits call c p)
  polled_by call c p = either (may_be_polled call p (p.holder c)) p _ (kept.steps (event.Poll c 16384) p)

  each_polled_by : (call : Called) (cs : List ℕ) (p : Proxy) → R p (each_polled limits call cs p)
  each_polled_by call [] p = kept.none p
  each_polled_by call (c ∷ cs) p = kept.both p _ _ (polled_by call c p) (each_polled_by call cs (polled limits call c p))

  pub polled_keeps : (call : Called) (p : Proxy) → R p (polled_all limits call p)
  unfolding polled_all
  polled_keeps call p = each_polled_by call (live_consumers p.tables) p

  -- A TURN that has begun, before its acts are carried out

  pub happened_keeps : (dialled : List (Option ℕ)) (call : Called) (p : Proxy) → R p (happened limits dialled call p)
  happened_keeps dialled call p =
      kept.both p _ _ (handled_keeps dialled call p)
      (kept.both (handled limits dialled call p) _ _ (heard_keeps (handled limits dialled call p))
      (kept.both (heard limits (handled limits dialled call p)) _ _ (started_keeps call (heard limits (handled limits dialled call p)))
      (polled_keeps call (started_all limits call (heard limits (handled limits dialled call p))))))

-- CARRYING OUT

module _ (MayOpen : ℕ → Type 0) (R : Proxy → Proxy → Type 0) (out : IsCarried MayOpen R) where
  answers_by : (o : Option ℕ) (a : Act) (p : Proxy) → R p (answers o a p)
  answers_by None a p = out.none p
  answers_by (Some k) a p = out.answers k a p

  all_out : (acts : List Act) (p : Proxy) → OpenOnly MayOpen acts → R p (all_carried_out acts p)
  all_out [] p only = out.none p
  all_out (act.Denied refusal ∷ acts) p only = all_out acts p only
  all_out (act.Opened x c need request ∷ acts) p only = out.both p _ _ (out.opens x request p only.0) (all_out acts (with_opened x request p) only.1)
  all_out (act.Ask x ∷ acts) p only = all_out acts p only
  all_out (act.Close x ∷ acts) p only = all_out acts p only
  all_out (act.Shown c r why status fields lo hi ∷ acts) p only =
      out.both p _ _ (answers_by (p.holder c) (act.Shown c r why status fields lo hi) p)
      (all_out acts (answers (p.holder c) (act.Shown c r why status fields lo hi) p) only)
  all_out (act.Given c x at bytes ∷ acts) p only =
      out.both p _ _ (answers_by (p.holder c) (act.Given c x at bytes) p) (all_out acts (answers (p.holder c) (act.Given c x at bytes) p) only)
  all_out (act.Ended c ∷ acts) p only = out.both p _ _ (answers_by (p.holder c) (act.Ended c) p) (all_out acts (answers (p.holder c) (act.Ended c) p) only)
  all_out (act.Failed c cause ∷ acts) p only =
      out.both p _ _ (answers_by (p.holder c) (act.Failed c cause) p) (all_out acts (answers (p.holder c) (act.Failed c cause) p) only)
  all_out (act.Pending c wait ∷ acts) p only = all_out acts p only
  all_out (act.Lost r kind ∷ acts) p only = all_out acts p only
  all_out (act.Evicted r ∷ acts) p only = all_out acts p only

  pub carried_keeps : (p : Proxy) → OpenOnly MayOpen (acts_in p.part) → R p (carried p)
  unfolding carried
  carried_keeps p only = all_out (acts_in p.part) p only

-- any may be
pub open_any : (acts : List Act) → OpenOnly (λ x. Unit {0}) acts
open_any [] = tt
open_any (act.Denied refusal ∷ acts) = open_any acts
open_any (act.Opened x c need request ∷ acts) = (tt, open_any acts)
open_any (act.Ask x ∷ acts) = open_any acts
open_any (act.Close x ∷ acts) = open_any acts
open_any (act.Shown c r why status fields lo hi ∷ acts) = open_any acts
open_any (act.Given c x at bytes ∷ acts) = open_any acts
open_any (act.Ended c ∷ acts) = open_any acts
open_any (act.Failed c cause ∷ acts) = open_any acts
open_any (act.Pending c wait ∷ acts) = open_any acts
open_any (act.Lost r kind ∷ acts) = open_any acts
open_any (act.Evicted r ∷ acts) = open_any acts

-- A TURN

module _ (limits : Limits) (MayOpen : ℕ → Type 0) (R : Proxy → Proxy → Type 0) (kept : IsKept limits R) (out : IsCarried MayOpen R) where
  pub turned_keeps : (dialled : List (Option ℕ)) (call : Called) (p : Proxy) →
      OpenOnly MayOpen (acts_in (happened limits (so_far p dialled) call (begun call p)).part) → R p (begun call p) → R p (turned limits dialled call p)
  unfolding turned
  turned_keeps dialled call p only begins =
      kept.both p (begun call p) _ begins
      (kept.both (begun call p) _ _ (happened_keeps limits R kept (so_far p dialled) call (begun call p))
      (carried_keeps MayOpen R out (happened limits (so_far p dialled) call (begun call p)) only))
