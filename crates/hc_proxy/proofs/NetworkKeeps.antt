-- What each change keeps of which the step *network* is made, that step keeps: the rows of connections to the origin,
-- and events that are of an exchange.
use Rattle.std.{proofs.Common.{◌≡◌, ℕ, List, [], ◌∷◌, Bool, true, false, Option, Some, None, refl, ◌∙◌}, specs.Prelude.{◌&&◌, if◌then◌else◌, Result, Ok, Err}}
use Rattle.hc_effects.proofs.Vocabulary.{Event, is_open, is_wanted, Limits, event}
use Rattle.hc_head.specs.declared.message.MsgError.{MsgError}
use Rattle.hc_msg.specs.{Inputs.{Next, Waits, Reports, Brings, Ends, Fails}, Reading.{Done, Failed, Token, Asks, Answers, Byte}, Taking.{ending}, declared.message.WirePart.{WirePart}}
use Rattle.hc_proxy.specs.{Network.{has_news, next_of, read_to, is_last_denied, unless_denied, hands_head, hands, hands_if, handed, closes, closes_if, closed, event_at_close, open_exchanges, each_heard, heard}, Rows.{Upstream, Proxy, with_upstream}, Steps.{with_entry, stepped}}

-- the event is of an exchange
abbrev pub is_of_exchange : Event → Bool
is_of_exchange (event.Head x response) = true
is_of_exchange (event.Piece x bytes) = true
is_of_exchange (event.End x) = true
is_of_exchange (event.Fault x) = true
is_of_exchange _ = false

pub record IsKeptByNetwork (limits : Limits) (R : Proxy → Proxy → Type 0) : Type 0 where
  pub none : (p : Proxy) → R p p
  pub both : (p q r : Proxy) → R p q → R q r → R p r
  pub reads : (x : ℕ) (change : Upstream → Upstream) (p : Proxy) → R p (with_upstream x change p)
  pub steps : (ev : Event) → is_of_exchange ev ≡ true → (p : Proxy) → R p (stepped limits ev p)

module _ (limits : Limits) (R : Proxy → Proxy → Type 0) (kept : IsKeptByNetwork limits R) where
  either : (b : Bool) (p q : Proxy) → R p q → R p (if b then q else p)
  either true p q r = r
  either false p q r = kept.none p

  then_steps : (ev : Event) → is_of_exchange ev ≡ true → (p q : Proxy) → R p q → R p (stepped limits ev q)
  then_steps ev off p q r = kept.both p q (stepped limits ev q) r (kept.steps ev off q)

  head_by : (x : ℕ) (token : Token) (p : Proxy) → R p (hands_head limits x token p)
  head_by x (Answers response) p = kept.steps (event.Head x response) refl p
  head_by x (Asks request) p = kept.none p
  head_by x (Byte b) p = kept.none p

  hands_by : (x : ℕ) (n : Next) (p : Proxy) → R p (hands limits x n p)
  hands_by x (Waits reading) p = kept.reads x (read_to reading []) p
  hands_by x (Reports token reading rest) p =
      kept.both p (with_upstream x (read_to reading rest) p) (hands_head limits x token (with_upstream x (read_to reading rest) p))
      (kept.reads x (read_to reading rest) p) (head_by x token (with_upstream x (read_to reading rest) p))
  hands_by x (Brings bytes reading rest) p =
      let q = stepped limits (event.Piece x bytes) (with_upstream x (read_to reading rest) p) in
      kept.both p q (unless_denied limits x q)
      (then_steps (event.Piece x bytes) refl p (with_upstream x (read_to reading rest) p) (kept.reads x (read_to reading rest) p))
      (either (is_last_denied q.part) q (stepped limits (event.Fault x) q) (kept.steps (event.Fault x) refl q))
  hands_by x Ends p = then_steps (event.End x) refl p (with_upstream x (read_to Done []) p) (kept.reads x (read_to Done []) p)
  hands_by x (Fails e) p = then_steps (event.Fault x) refl p (with_upstream x (read_to (Failed e) []) p) (kept.reads x (read_to (Failed e) []) p)

  handed_by : (x : ℕ) (o : Option Upstream) (p : Proxy) → R p (hands_if limits x o p)
  handed_by x None p = kept.none p
  handed_by x (Some upstream) p =
      either (is_wanted (p.tables.exchange x) && has_news upstream) p (hands limits x (next_of upstream) p) (hands_by x (next_of upstream) p)

  close_by : (x : ℕ) (r : Result WirePart MsgError) (p : Proxy) → R p (stepped limits (event_at_close x r) p)
  close_by x (Ok part) p = kept.steps (event.End x) refl p
  close_by x (Err e) p = kept.steps (event.Fault x) refl p

  closes_by : (x : ℕ) (n : Next) (p : Proxy) → R p (closes limits x n p)
  closes_by x (Waits reading) p = close_by x (ending reading) p
  closes_by x (Reports token reading rest) p = kept.none p
  closes_by x (Brings bytes reading rest) p = kept.none p
  closes_by x Ends p = kept.none p
  closes_by x (Fails e) p = kept.steps (event.Fault x) refl p

  pub closed_by : (x : ℕ) (o : Option Upstream) (p : Proxy) → R p (closes_if limits x o p)
  closed_by x None p = kept.none p
  closed_by x (Some upstream) p =
      either (upstream.ended && is_open (p.tables.exchange x)) p (closes limits x (next_of upstream) p) (closes_by x (next_of upstream) p)

  pub heard_one_keeps : (x : ℕ) (p : Proxy) → R p (closed limits x (handed limits x p))
  heard_one_keeps x p =
      kept.both p (handed limits x p) (closed limits x (handed limits x p)) (handed_by x (p.upstream x) p)
      (closed_by x ((handed limits x p).upstream x) (handed limits x p))

  pub each_keeps : (xs : List ℕ) (p : Proxy) → R p (each_heard limits xs p)
  each_keeps [] p = kept.none p
  each_keeps (x ∷ xs) p = kept.both p (closed limits x (handed limits x p)) (each_heard limits xs (closed limits x (handed limits x p)))
      (heard_one_keeps x p) (each_keeps xs (closed limits x (handed limits x p)))

  pub heard_keeps : (p : Proxy) → R p (heard limits p)
  unfolding heard
  heard_keeps p = each_keeps (open_exchanges p.tables) p

-- IT TOUCHES NO CLIENT

module _ (limits : Limits) where
  abbrev SameClients : Proxy → Proxy → Type 0
  SameClients p q = (q.client ≡ p.client) × (q.holder ≡ p.holder)

  clients_stay : IsKeptByNetwork limits SameClients
  unfolding with_entry
  clients_stay = record {
    none = λ p. (refl, refl);
    both = λ p q r a b. (b.0 ∙ a.0, b.1 ∙ a.1);
    reads = λ x change p. (refl, refl);
    steps = λ ev off p. stays ev p;
  }
    where
      stays : (ev : Event) (p : Proxy) → SameClients p (stepped limits ev p)
      stays ev p = (refl, refl)

  pub same_clients : (p : Proxy) → SameClients p (heard limits p)
  same_clients p = heard_keeps limits SameClients clients_stay p
