use Rattle.std.{proofs.{Common.{◌≡◌, ℕ, List, ◌++◌, true, ap, sym, ◌∙◌, subst}, lemmas.{List.Elements.{Contains-append_left, Contains-append_right}, Map.Made.{is_some-lookup, is_member-Decides}}}, specs.{Prelude.{nat_eq, Contains, IsSome}, Cmp.{unsigned_Decides}, Map.{keys_of}, Set.{is_member}}}
use Rattle.hc_peers.specs.{Clients.{client_of}, declared.clients.Clients.{Clients}}
use Rattle.hc_peers.specs.Clients as clients
use Rattle.hc_peers.specs.Upstreams as origins
use Rattle.hc_proxy.proofs.AllClosed.{closes_all}
use Rattle.hc_proxy.proofs.proxy.Proxy.leave.Goals as goal

-- the connection of a client is among those that are listed
client_listed : (s : Clients) (k : ℕ) → IsSome (client_of s k) → Contains (clients.connections_of s) k
client_listed s k some =
    let on : is_member nat_eq (keys_of s.rows.entries) k ≡ true = sym (is_some-lookup (nat_eq k) s.rows.entries) ∙ some in
    (is_member-Decides unsigned_Decides (keys_of s.rows.entries) k).0 on

pub returns-clause-ok : goal.returns-clause-ok
returns-clause-ok g c f p before r follows =
    let x = c.args.self.now in
    let first = clients.connections_of x.clients in
    let then_on = origins.connections_of x.upstreams in
    let is : c.as_slice.result.now ≡ first ++ then_on =
    c.as_slice.ensures.value ∙ (c.in_ok-list_connections.ensures.listed
    ∙ ap (λ (ks : List ℕ). ks ++ then_on) (c.in_ok-list_all.ensures ∙ ap (λ (ks : List ℕ). ks ++ first) c.clear.ensures.items)) in
    closes_all f x p before r _ _ _ _ follows c.as_slice.result.now
    (λ k some. subst (λ (ks : List ℕ). Contains ks k) (sym is) (Contains-append_left first then_on k (client_listed x.clients k some)))
    (λ y u at. subst (λ (ks : List ℕ). Contains ks u.k) (sym is) (Contains-append_right first then_on u.k (c.list_connections.ensures.all y u at)))
    (c.close_each.ensures.closes before follows)
