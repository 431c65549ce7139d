-- All that are touched are offered what they are owed, one after another.
--
-- Who isn't touched lacks nothing and is read as it is to be. Each offer settles one more, and leaves all others as
-- they were. So behind the last one nobody lacks anything but where the wire took less than it was offered. An offer
-- that fails has sent some first part. Clients and connections to the origin are done alike; what two offers send is
-- one sending (`sends_both`).
use Rattle.std.{proofs.{Common.{◌≡◌, ◌⊎◌, inl, ℕ, ◌+◌, ◌<◌, List, [], ◌∷◌, Bool, true, false, Option, Some, None, refl, sym, ◌∙◌, subst, arith, length, drop, get_or, drop-cons, add-one}, lemmas.{Bool.Decides.{nat_tests}, List.{nil_from_length}}}, specs.{Prelude.{nat_eq, nat_lt, ◌&&◌, ◌||◌, ◌==◌, not, cond}, List.{list_any}, BTreeMap.{is_at}, Ordering.{is_eq, nat_cmp}, declared.cmp.Ordering.TheVariants.{Less, Equal, Greater}}}
use Rattle.hc_effects.proofs.Vocabulary.{is_wanted}
use Rattle.hc_wire.specs.{Events.{Stage}, Logs.{Log}}
use Rattle.hc_peers.specs.{Agreement.{settled_at}, Clients.{client_of, is_touched, touched_of}, Offering.{unsent_at, unsent_up, number_at, IsOffered, IsOfferedOrigin}, Offers.{OffersSome}, Peers.{is_idle, is_same}, Upstreams.{upstream_of, is_news, lacks_at, Marks}, declared.{clients.Clients.{Clients}, upstreams.Upstreams.{Upstreams}}}
use Rattle.hc_peers.specs.Upstreams as upstreams
use Rattle.hc_peers.specs.declared.client.Client as peer
use Rattle.hc_peers.specs.declared.upstream.Upstream as origin
use Rattle.hc_proxy.specs.{Logging.{Follows}, Rows.{Proxy}, TurnSteps.{SentSome}, Unsent.{HasConnections, IsSentAt, AreSent, IsSentOriginAt, Sends, SendsToClients, SendsToOrigins}}
use Rattle.hc_proxy.proofs.{OfferedClients.{client_goes, client_fails, sends_none}, OfferedOrigins.{origin_goes, origin_fails}}

-- WHO IS LEFT

other_number : (k x : ℕ) → nat_eq k x ≡ false → is_at (nat_cmp k) x ≡ false
other_number k x off = by_less (nat_lt k x)
  where
    by_less : (b : Bool) → is_eq (cond b Less (cond (k == x) Equal Greater)) ≡ false
    by_less true = refl
    by_less false = rw off refl

-- who doesn't stand in the list isn't found in the set
pub not_listed : (k : ℕ) (ks : List ℕ) → list_any (nat_eq k) ks ≡ false → list_any (is_at (nat_cmp k)) ks ≡ false
not_listed k [] off = refl
not_listed k (x ∷ ks) off = by_test (not_listed k ks) (nat_eq k x) refl off
  where
    by_test : (list_any (nat_eq k) ks ≡ false → list_any (is_at (nat_cmp k)) ks ≡ false) → (b : Bool) → nat_eq k x ≡ b →
        (b || list_any (nat_eq k) ks) ≡ false → (is_at (nat_cmp k) x || list_any (is_at (nat_cmp k)) ks) ≡ false
    by_test rest true here none = absurd (let never : true ≡ false = none in cc)
    by_test rest false there none = rw (other_number k x there) (rest none)

left_off : (j k : ℕ) (left : List ℕ) → nat_eq j k ≡ false → list_any (nat_eq j) left ≡ false → list_any (nat_eq j) (k ∷ left) ≡ false
left_off j k left off none = rw off none

pub next_left : (ks : List ℕ) (i : ℕ) → i < length ks → drop i ks ≡ get_or ks i 0 ∷ drop (i + 1) ks
next_left ks i lt = rw add-one (drop-cons ks i 0 lt)

-- ONE BEHIND ANOTHER

pub sends_both : (p : Proxy) (a b c : Log) → Sends p a b → Sends p b c → Sends p a c
sends_both p a b c first second = record {
  calls = second.calls ∙ first.calls;
  bound = second.bound ∙ first.bound;
  dialled = second.dialled ∙ first.dialled;
  sent = λ all. second.sent (first.sent all);
  unseen = λ k is. first.unseen k (second.unseen k is);
}

pub fails_later : (p : Proxy) (a b : Log) (reported : Option Log) → Sends p a b → SentSome p b reported → SentSome p a reported
fails_later p a b reported first some = record {
  log' = some.log';
  reported_is = some.reported_is;
  calls = some.calls ∙ first.calls;
  bound = some.bound ∙ first.bound;
  dialled = some.dialled ∙ first.dialled;
  sent = λ all. some.sent (first.sent all);
}

pub fails_here : (p : Proxy) (log : Log) (reported : Option Log) → (reported ≡ None) ⊎ (reported ≡ Some log) → SentSome p log reported
fails_here p log reported is = record { log' = log; reported_is = is; calls = refl; bound = refl; dialled = refl; sent = λ all. all }

-- CLIENTS

settled_sent : (log : Log) (k : ℕ) (o : Option peer.Client) → settled_at o ≡ true → IsSentAt log k o
settled_sent log k None is = tt
settled_sent log k (Some c) is = record {
  reads = parts.2;
  stays = rw parts.1 refl;
  lacks = inl (nil_from_length c.unsent parts.0);
}
  where
    by_parts : (i : ℕ) (b d : Bool) → (i == 0 && not b && d) ≡ true → (i ≡ 0) × (b ≡ false) × (d ≡ true)
    by_parts i b d h = by_test (nat_eq i 0) b d refl h
      where
        by_test : (a b d : Bool) → nat_eq i 0 ≡ a → (a && not b && d) ≡ true → (i ≡ 0) × (b ≡ false) × (d ≡ true)
        by_test true false true here g = ((grind (arith, nat_tests)), refl, refl)
        by_test true false false here g = absurd (let never : false ≡ true = g in cc)
        by_test true true d here g = absurd (let never : false ≡ true = g in cc)
        by_test false b d here g = absurd (let never : false ≡ true = g in cc)

    parts : (length c.unsent ≡ 0) × (c.closing ≡ false) × (is_same c.reading (is_idle c) ≡ true)
    parts = by_parts (length c.unsent) c.closing (is_same c.reading (is_idle c)) is

module _ (p : Proxy) (log : Log) (up : Upstreams) where
  -- before the first
  pub clients_begin : (cl : Clients) (reported : Option Log) (stages : ℕ → Stage) (left : List ℕ) → left ≡ touched_of cl
      → ((k : ℕ) → is_touched cl k ≡ false → settled_at (client_of cl k) ≡ true)
      → HasConnections p cl up log → Follows reported stages log → SendsToClients p log left cl up reported stages
  clients_begin cl reported stages left listed settled has follows = record {
    log' = log;
    follows = follows;
    sends = sends_none p log;
    has = has;
    sent = λ k none. settled_sent log k (client_of cl k)
        (settled k (not_listed k (touched_of cl) (subst (λ (ks : List ℕ). list_any (nat_eq k) ks ≡ false) listed none)));
  }

  module _ {W : Type 0} (stages : W → ℕ → Stage) (reports : W → Option Log) (wire wire' : W) (cl cl' : Clients) (k : ℕ) (left : List ℕ)
      (u : SendsToClients p log (k ∷ left) cl up (reports wire) (stages wire)) where
    -- one more
    pub clients_next : IsOffered stages reports k cl cl' wire wire' → SendsToClients p log left cl' up (reports wire') (stages wire')
    clients_next offered =
        let goes = client_goes stages reports wire wire' p cl cl' up u.log' k u.has u.follows offered in
        record {
          log' = goes.log';
          follows = goes.follows;
          sends = sends_both p log u.log' goes.log' u.sends goes.sends;
          has = goes.has;
          sent = λ j none. by_number goes.log' j none (nat_eq j k) refl goes.sent (goes.others j);
        }
      where
        by_number : (l : Log) (j : ℕ) → list_any (nat_eq j) left ≡ false → (b : Bool) → nat_eq j k ≡ b → IsSentAt l k (client_of cl' k)
            → (nat_eq j k ≡ false → IsSentAt u.log' j (client_of cl j) → IsSentAt l j (client_of cl' j)) → IsSentAt l j (client_of cl' j)
        by_number l j none true on sent others =
            let number : j ≡ k = grind (arith, nat_tests) in
            subst (λ i. IsSentAt l i (client_of cl' i)) (sym number) sent
        by_number l j none false off sent others = others off (u.sent j (left_off j k left off none))

    -- one that fails
    pub clients_fail : OffersSome k (unsent_at (client_of cl k)) (reports wire) (reports wire') → SentSome p log (reports wire')
    clients_fail some = fails_later p log u.log' (reports wire') u.sends (client_fails stages reports wire wire' p cl cl' up u.log' k u.has u.follows some)

-- CONNECTIONS TO THE ORIGIN

module _ (p : Proxy) (log : Log) (cl : Clients) where
  pub origins_begin : (up : Upstreams) (reported : Option Log) (stages : ℕ → Stage) (left : List ℕ) → left ≡ upstreams.touched_of up
      → HasConnections p cl up log → AreSent cl log → Follows reported stages log → SendsToOrigins p log left cl up reported stages
  origins_begin up reported stages left listed has clients follows = record {
    log' = log;
    follows = follows;
    sends = sends_none p log;
    has = has;
    clients = clients;
    sent = λ y none. by_row y (upstream_of up y) refl
        (not_listed y (upstreams.touched_of up) (subst (λ (ks : List ℕ). list_any (nat_eq y) ks ≡ false) listed none));
  }
    where
      by_row : (y : ℕ) (o : Option origin.Upstream) → upstream_of up y ≡ o → upstreams.is_touched up y ≡ false → IsSentOriginAt p log y o
      by_row y None is untouched = tt
      by_row y (Some u) is untouched = let rests = has.touched y u is untouched in record { reads = rests.1; lacks = inl rests.0 }

  module _ {W : Type 0} (stages : W → ℕ → Stage) (reports : W → Option Log) (wire wire' : W) (up up' : Upstreams) (y : ℕ) (on : Bool) (left : List ℕ)
      (u : SendsToOrigins p log (y ∷ left) cl up (reports wire) (stages wire)) where
    pub origins_next : on ≡ is_wanted (p.tables.exchange y) → ((z : ℕ) → is_news up' z ≡ is_news up z)
        → Marks (upstreams.is_touched up) (upstreams.is_touched up') y (upstreams.is_touched up y && lacks_at (upstream_of up' y))
        → IsOfferedOrigin stages reports y on up up' wire wire' → SendsToOrigins p log left cl up' (reports wire') (stages wire')
    origins_next wanted news touches offered =
        let goes = origin_goes stages reports wire wire' p cl up up' u.log' y on u.has u.follows wanted news touches offered in
        record {
          log' = goes.log';
          follows = goes.follows;
          sends = sends_both p log u.log' goes.log' u.sends goes.sends;
          has = goes.has;
          clients = goes.clients u.clients;
          sent = λ z none. by_number goes.log' z none (nat_eq z y) refl goes.sent (goes.others z);
        }
      where
        by_number : (l : Log) (z : ℕ) → list_any (nat_eq z) left ≡ false → (b : Bool) → nat_eq z y ≡ b → IsSentOriginAt p l y (upstream_of up' y)
            → (nat_eq z y ≡ false → IsSentOriginAt p u.log' z (upstream_of up z) → IsSentOriginAt p l z (upstream_of up' z)) →
            IsSentOriginAt p l z (upstream_of up' z)
        by_number l z none true here sent others =
            let number : z ≡ y = grind (arith, nat_tests) in
            subst (λ i. IsSentOriginAt p l i (upstream_of up' i)) (sym number) sent
        by_number l z none false off sent others = others off (u.sent z (left_off z y left off none))

    pub origins_fail : OffersSome (number_at (upstream_of up y)) (unsent_up (upstream_of up y)) (reports wire) (reports wire') → SentSome p log (reports wire')
    origins_fail some = fails_later p log u.log' (reports wire') u.sends (origin_fails stages reports wire wire' p cl up up' u.log' y on u.has u.follows some)
