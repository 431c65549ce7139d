-- No more consumers are live than clients are here, and so no more exchanges are open: each live consumer is that of a
-- client of its own.
--
-- Each live consumer is that of a client which is here. So it is among the consumers of these clients, and there are no
-- more of those than clients. The numbers of who is live fall, so each stands once: and what falls is no longer than a
-- list that has each of it. In every run no more exchanges are open than consumers are live.
use Rattle.std.{proofs.Common.{◌≡◌, inl, inr, ◌≤◌, ℕ, zero, suc, ◌+◌, List, [], ◌∷◌, length, map, true, Option, Some, None, refl, ap, ◌∙◌, arith}, specs.Prelude.{Contains, IsSome, filter, unwrap_or}}
use Rattle.hc_text.proofs.Basics.{map_long}
use Rattle.hc_effects.proofs.Vocabulary.{Limits, is_live, live, History, Contents, may_begin, Lawful, open_now, IsRun, Among, tables}
use Rattle.hc_effects.proofs.{Closed.{among_filter}, HasBound.{among_passes}}
use Rattle.hc_laws.proofs.OpenRuns.{open_in_runs, among_mapped, filter_falls, no_more}
use Rattle.hc_proxy.specs.{Handling.{clients_here, is_client}, Invariants.{IsHolder, HasConsumers}, Rows.{Client, Proxy}}

-- HOW MANY

among_of : (k : ℕ) (ks : List ℕ) → Contains ks k → Among k ks
among_of k [] (n, within, is) = absurd (omega arith)
among_of k (j ∷ ks) (zero, within, is) = inl is
among_of k (j ∷ ks) (suc n, within, is) = inr (among_of k ks (n, omega arith, is))

-- CLIENTS

abbrev waits_for : Option Client → Option ℕ
waits_for None = None
waits_for (Some r) = r.consumer

module _ (p : Proxy) (law : Lawful p.tables) (h : HasConsumers p) (listed : (k : ℕ) → IsSome (p.client k) → Contains p.accepted k) where
  abbrev consumer_at : ℕ → ℕ
  consumer_at k = unwrap_or (waits_for (p.client k)) 0

  abbrev lives : List ℕ
  lives = filter (λ c. is_live (p.tables.consumer c)) p.tables.starts

  here : (k c : ℕ) → IsHolder p k c → Among k (clients_here p)
  here k c w =
      let is : is_client (p.client k) ≡ true = rw (w.at, w.here) refl in
      among_filter k (λ j. is_client (p.client j)) p.accepted is (among_of k p.accepted (listed k (rw w.at refl)))

  waited_for : (c : ℕ) → is_live (p.tables.consumer c) ≡ true → Among c (map consumer_at (clients_here p))
  waited_for c on =
      let f = h.live c on in
      among_mapped consumer_at f.0 c (clients_here p)
      (ap (λ (o : Option Client). unwrap_or (waits_for o) 0) f.1.at ∙ ap (λ (o : Option ℕ). unwrap_or o 0) f.1.consumer) (here f.0 c f.1)

  -- no more consumers are live than clients are here
  pub few_live : live p.tables ≤ length (clients_here p)
  few_live =
      let all : length lives ≤ length (map consumer_at (clients_here p)) =
      no_more (p.tables.last_start + 1) lives (map consumer_at (clients_here p))
      (filter_falls (λ c. is_live (p.tables.consumer c)) (p.tables.last_start + 1) p.tables.starts law.order.starts)
      (λ c there. waited_for c (among_passes (λ d. is_live (p.tables.consumer d)) c p.tables.starts there)) in
      let same : length (map consumer_at (clients_here p)) ≡ length (clients_here p) = map_long consumer_at (clients_here p) in
      omega arith

  -- nor exchanges open
  pub few_open : (limits : Limits) (c : Contents) (hist : History) → may_begin limits c ≡ true → IsRun limits c hist → p.tables ≡ tables c hist →
      open_now p.tables ≤ length (clients_here p)
  few_open limits c hist begins run same =
      let fewer : open_now p.tables ≤ live p.tables = subst_few in
      let few : live p.tables ≤ length (clients_here p) = few_live in
      omega arith
    where
      subst_few : open_now p.tables ≤ live p.tables
      subst_few = rw same (open_in_runs limits c hist begins run).few
