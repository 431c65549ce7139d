-- The rows of the code and those of the definitions say the same of who is read and who is polled.
--
-- A client has the same reader, input, consumer and reply in both, and is owed what is unsent behind what it took: so
-- nothing is unsent exactly where it took all. The table of the live consumers names the client that waits for each.
use Rattle.std.{proofs.{Common.{◌≡◌, ◌≤◌, ℕ, ◌-◌, Bool, true, false, List, Option, Some, None, refl, ap, sym, ◌∙◌, subst, arith}, lemmas.{Bool.Decides.{nat_tests}, List.{length-drop}}}, specs.{Prelude.{◌&&◌, not, is_none, nat_eq, nat_lt, length, drop}, Ordering.{nat_cmp}}}
use Rattle.std.specs.BTreeMap as tree
use Rattle.hc_text.proofs.Basics.{some_inj as some_is}
use Rattle.hc_peers.specs.{Agreement.{consumer_at}, Clients.{client_of, has_all, is_taking}}
use Rattle.hc_peers.specs.Clients as peers
use Rattle.hc_peers.specs.Peers as peers_by
use Rattle.hc_peers.specs.declared.client.Client as peer
use Rattle.hc_store.specs.declared.backend.Backend.{Ghosts}
use Rattle.hc_wire.specs.Logs.{Called}
use Rattle.hc_proxy.specs.declared.proxy.Proxy as loop
use Rattle.hc_proxy.specs.{Connections.{taken_at}, Invariants.{IsHolder}, Keeping.{Turn, IsClient, IsClientAt, HasClients}, Polls.{takes_more}, Rows.{Client, Proxy}, Starts.{is_ready}}

-- ONE CLIENT

-- nothing is unsent exactly if all was taken
pub sent_all : (taken : ℕ) (owed unsent : List ℕ) → taken ≤ length owed → unsent ≡ drop taken owed → nat_eq (length unsent) 0 ≡ not (nat_lt taken (length owed))
sent_all taken owed unsent le is = by_test (nat_lt taken (length owed)) refl
  where
    left : length unsent ≡ length owed - taken
    left = ap length is ∙ length-drop taken owed

    by_test : (b : Bool) → nat_lt taken (length owed) ≡ b → nat_eq (length unsent) 0 ≡ not b
    by_test true less = let n : length unsent ≡ length owed - taken = left in grind (arith, nat_tests)
    by_test false all = let n : length unsent ≡ length owed - taken = left in grind (arith, nat_tests)

-- as the two tests list their parts
in_order : (a b d e : Bool) → ((a && b) && d && e) ≡ (e && a && b && d)
in_order true true true true = refl
in_order true true true false = refl
in_order true true false true = refl
in_order true true false false = refl
in_order true false true true = refl
in_order true false true false = refl
in_order true false false true = refl
in_order true false false false = refl
in_order false true true true = refl
in_order false true true false = refl
in_order false true false true = refl
in_order false true false false = refl
in_order false false true true = refl
in_order false false true false = refl
in_order false false false true = refl
in_order false false false false = refl

not_empty : (n : ℕ) → not (nat_eq n 0) ≡ nat_lt 0 n
not_empty n = grind (arith, nat_tests)

module _ (call : Called) (k : ℕ) (c : peer.Client) (r : Client) (h : IsClient (taken_at call k) c r) where
  has_sent : nat_eq (length c.unsent) 0 ≡ not (nat_lt (taken_at call k) (length r.owed))
  has_sent = sent_all (taken_at call k) r.owed c.unsent h.within h.unsent

  -- its next request is to be read
  pub readies : peers_by.is_ready c ≡ is_ready call k r
  readies =
      rw (h.consumer, h.closing, h.input, has_sent, not_empty (length r.input))
      (in_order (is_none r.consumer) (not (nat_lt (taken_at call k) (length r.owed))) (not r.closing) (nat_lt 0 (length r.input)))

  -- it was sent all
  pub takes : has_all (Some c) ≡ takes_more call k (Some r)
  takes = rw h.here has_sent

module _ {B : Type 0} {g : Ghosts B} (t : Turn) (x : loop.Proxy B g) (p : Proxy) (h : HasClients t x p) where
  -- BY CONNECTION

  here_rows : (k : ℕ) (o : Option peer.Client) (r : Option Client) (row : Client) → IsClientAt (taken_at t.call k) o r → r ≡ Some row → row.gone ≡ false →
      (c : peer.Client) × (o ≡ Some c) × IsClient (taken_at t.call k) c row
  here_rows k None None row is at here = absurd (let never : None ≡ Some row = at in cc)
  here_rows k None (Some r) row is at here =
      absurd (let same : r ≡ row = some_is r row at in let never : true ≡ false = sym is ∙ (ap (λ (z : Client). z.gone) same ∙ here) in cc)
  here_rows k (Some c) None row is at here = absurd is
  here_rows k (Some c) (Some r) row is at here = (c, refl, subst (λ (z : Client). IsClient (taken_at t.call k) c z) (some_is r row at) is)

  pub client_here : (k : ℕ) (row : Client) → p.client k ≡ Some row → row.gone ≡ false → (c : peer.Client) × (client_of x.clients k ≡ Some c) ×
      IsClient (taken_at t.call k) c row
  client_here k row at here = here_rows k (client_of x.clients k) (p.client k) row (h.rows k) at here

  -- BY CONSUMER

  holder_rows : (k c : ℕ) (o : Option peer.Client) (r : Option Client) → IsClientAt (taken_at t.call k) o r → p.client k ≡ r → consumer_at o ≡ Some c →
      IsHolder p k c
  holder_rows k c None r is at on = absurd (let never : None ≡ Some c = on in cc)
  holder_rows k c (Some q) None is at on = absurd is
  holder_rows k c (Some q) (Some row) is at on = record { row = row; at = at; here = is.here; consumer = sym is.consumer ∙ on }

  pub holder_of : (c k : ℕ) → tree.get nat_cmp x.clients.live c ≡ Some k → IsHolder p k c
  holder_of c k at = holder_rows k c (client_of x.clients k) (p.client k) (h.rows k) refl (x.clients.alive.0 c k at)

  pub live_at : (k c : ℕ) → IsHolder p k c → tree.get nat_cmp x.clients.live c ≡ Some k
  live_at k c w =
      let q = client_here k w.row w.at w.here in
      x.clients.alive.1 c k (ap consumer_at q.1 ∙ (q.2.consumer ∙ w.consumer))

  -- the same are polled
  pub taking_is : (k c : ℕ) → IsHolder p k c → peers.takes_more x.clients c ≡ takes_more t.call k (p.client k)
  taking_is k c w =
      let q = client_here k w.row w.at w.here in
      ap (is_taking x.clients) (live_at k c w) ∙ (ap has_all q.1 ∙ (takes t.call k q.0 w.row q.2 ∙ sym (ap (takes_more t.call k) w.at)))
