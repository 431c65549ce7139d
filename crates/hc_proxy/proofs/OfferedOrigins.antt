-- A connection to the origin is offered what it is owed: how the tables of connections stand behind that.
--
-- What it takes are the first of the bytes that it lacks, so the rest is what is owed and wasn't taken. Then the wire
-- is told to read it while its exchange is wanted. Each exchange has a connection of its own, and no client has that
-- number, so all others stay. `origin_goes` joins these; an offer that fails has sent some first part (`origin_fails`).
use Rattle.std.{proofs.{Common.{◌≡◌, ◌⊎◌, inl, inr, ℕ, ◌+◌, ◌-◌, ◌≤◌, List, [], Bool, true, false, Option, Some, None, refl, ap, sym, ◌∙◌, subst, arith, length, take, drop, length-append, length-drop}, lemmas.{Bool.Decides.{nat_tests}, List.{length-take-le, drop_all, nil_from_length}}, Math.Seq.{drop-nil}}, specs.Prelude.{nat_eq, nat_lt, ◌&&◌, ◌==◌, not, IsSome}}
use Rattle.hc_text.proofs.Basics.{eq_itself as same_number, some_inj as some_is}
use Rattle.hc_effects.proofs.Vocabulary.{is_open, is_wanted}
use Rattle.hc_wire.specs.{Events.{Stage, Open, with_stage, reading_of, IsOpen}, Logs.{Log, stage_in, sent_in, with_sent, with_reading}}
use Rattle.hc_peers.specs.{Clients.{client_of}, Offering.{reading_reported, sent_of, unsent_up, number_at, IsOfferedUp, IsOfferedUpAt, IsOfferedOrigin}, Offers.{OffersSome}, Peers.{is_same}, Upstreams.{upstream_of, is_news, is_touched, lacks_at, Becomes, Marks}, declared.{clients.Clients.{Clients}, upstreams.Upstreams.{Upstreams}}}
use Rattle.hc_peers.specs.declared.client.Client as peer
use Rattle.hc_peers.specs.declared.upstream.Upstream as origin
use Rattle.hc_peers.proofs.Rows.{same-itself}
use Rattle.hc_proxy.specs.{Connections.{dials_from, dials_in, exchange_of, connection_of}, Invariants.{NamesOne}, Keeping.{IsUpstream, IsUpstreamAt}, Logging.{Follows, is_short}, Resting.{IsRestingUpstream}, Rows.{Client, Upstream, Proxy}, TurnSteps.{SentSome}, Unsent.{taken_in, IsKnownAt, HasConnections, IsSentAt, AreSent, IsSentOriginAt, Sends}}
use Rattle.hc_proxy.proofs.{Followed.{follows_sent, follows_reading}, Taken.{MovesAt, origin_front, moves_sent, moves_reading, none_front, some_sent}, OfferedClients.{drop_more, was_same, known_same, sent_same, upstream_same, taken_off, stage_off, short_off, none_some, sends_none}, Closings.{reported_on}}

-- nobody is known of whom the tables tell nothing
known_none : (log log' : Log) (j : ℕ) (o : Option peer.Client) → IsKnownAt log j o None → IsKnownAt log' j o None
known_none log log' j None is = tt
known_none log log' j (Some c) is = is

known_some : (log : Log) (j : ℕ) (c : peer.Client) (r : Option Client) → IsKnownAt log j (Some c) r → IsSome r
known_some log j c None is = absurd is
known_some log j c (Some r) is = refl

-- THE CONNECTION

module _ (p : Proxy) (cl : Clients) (up : Upstreams) (log : Log) (h : HasConnections p cl up log) (y : ℕ) (u : origin.Upstream)
    (at : upstream_of up y ≡ Some u) where
  some : IsSome (upstream_of up y)
  some = subst IsSome (sym at) refl

  pub row : (v : Upstream) × (p.upstream y ≡ Some v) × IsUpstream (taken_in log u.k) u v
  row = by_row (p.upstream y) refl
      (subst (λ (o : Option origin.Upstream). IsUpstreamAt (taken_in log) o (p.upstream y)) at (h.rows y (h.over y some) (h.within y some)))
    where
      by_row : (o : Option Upstream) → p.upstream y ≡ o → IsUpstreamAt (taken_in log) (Some u) o → (v : Upstream) × (p.upstream y ≡ Some v) ×
          IsUpstream (taken_in log u.k) u v
      by_row None is has = absurd has
      by_row (Some v) is has = (v, is, has)

  abbrev v : Upstream
  v = row.0

  is_upstream : IsUpstream (taken_in log u.k) u v
  is_upstream = row.2

  its : exchange_of (dials_in p log) u.k ≡ Some y
  its = h.names y u.k (h.numbers y u at)

  pub opens : (ended : Bool) × (stage_in log.takers u.k ≡ Open u.reading ended)
  opens = h.read_upstreams y u at

  no_client : (j : ℕ) → IsSome (p.client j) → nat_eq j u.k ≡ false
  no_client j is = by_test (nat_eq j u.k) refl
    where
      by_test : (b : Bool) → nat_eq j u.k ≡ b → b ≡ false
      by_test false off = refl
      by_test true on =
          let number : j ≡ u.k = grind (arith, nat_tests) in
          none_some y (sym (h.strangers j is) ∙ (ap (exchange_of (dials_in p log)) number ∙ its))

  client_there : (j : ℕ) (c : peer.Client) → client_of cl j ≡ Some c → nat_eq j u.k ≡ false
  client_there j c is = no_client j (known_some log j c (p.client j) (subst (λ (o : Option peer.Client). IsKnownAt log j o (p.client j)) is (h.clients j)))

  other_number : (z : ℕ) (w : origin.Upstream) → upstream_of up z ≡ Some w → nat_eq z y ≡ false → nat_eq w.k u.k ≡ false
  other_number z w is other = by_test (nat_eq w.k u.k) refl
    where
      by_test : (b : Bool) → nat_eq w.k u.k ≡ b → b ≡ false
      by_test false off = refl
      by_test true on =
          let number : w.k ≡ u.k = grind (arith, nat_tests) in
          let one : z ≡ y = some_is z y (sym (h.names z w.k (h.numbers z w is)) ∙ (ap (exchange_of (dials_in p log)) number ∙ its)) in
          absurd (let never : true ≡ false = sym (same_number z) ∙ (ap (nat_eq z) one ∙ other) in cc)

  pub origin_moves : (n : ℕ) (less : Bool) → MovesAt p u.k (take n u.unsent) less (Open u.reading opens.0) log (with_sent u.k (take n u.unsent) less log)
  origin_moves n less = moves_sent p u.k (take n u.unsent) less log u.reading opens.0 opens.1
      (origin_front p log u.k y v row.1 its u.unsent n less is_upstream.unsent)

  module _ (n : ℕ) (within : n ≤ length u.unsent) (on : Bool) (wanted : on ≡ is_wanted (p.tables.exchange y)) (log' : Log)
      (m : MovesAt p u.k (take n u.unsent) (nat_lt n (length u.unsent)) (Open on opens.0) log log') (up' : Upstreams) where
    abbrev u' : origin.Upstream
    u' = record u { unsent = drop n u.unsent; reading = on }

    module _ (becomes : Becomes y (Some u') up up') (news : (z : ℕ) → is_news up' z ≡ is_news up z)
        (touches : Marks (is_touched up) (is_touched up') y (is_touched up y && lacks_at (upstream_of up' y))) where
      taken_now : taken_in log' u.k ≡ taken_in log u.k + n
      taken_now = ap length m.sent
          ∙ (length-append (sent_in log.takers u.k) (take n u.unsent) ∙ ap (λ i. taken_in log u.k + i) (length-take-le n u.unsent within))

      is_upstream_now : IsUpstream (taken_in log' u.k) u' v
      is_upstream_now = record {
        reading = is_upstream.reading;
        input = is_upstream.input;
        ended = is_upstream.ended;
        within =
            let now = taken_now in
            let size : length u.unsent ≡ length v.owed - taken_in log u.k = ap length is_upstream.unsent ∙ length-drop (taken_in log u.k) v.owed in
            let le : taken_in log u.k ≤ length v.owed = is_upstream.within in
            omega arith;
        unsent = ap (drop n) is_upstream.unsent ∙ (drop_more (taken_in log u.k) n v.owed ∙ ap (λ i. drop i v.owed) (sym taken_now));
      }

      reads_wanted : is_same on (is_wanted (p.tables.exchange y)) ≡ true
      reads_wanted = ap (is_same on) (sym wanted) ∙ same-itself on

      row_on : upstream_of up' y ≡ Some u'
      row_on = becomes y ∙ rw (same_number y) refl

      row_off : (z : ℕ) → nat_eq z y ≡ false → upstream_of up' z ≡ upstream_of up z
      row_off z off = becomes z ∙ rw off refl

      stage_other : (j : ℕ) → nat_eq j u.k ≡ false → stage_in log'.takers j ≡ stage_in log.takers j
      stage_other j off = stage_off p u.k _ _ (Open on opens.0) log log' m j off

      taken_other : (j : ℕ) → nat_eq j u.k ≡ false → taken_in log' j ≡ taken_in log j
      taken_other j off = taken_off p u.k _ _ (Open on opens.0) log log' m j off

      clients_by : (j : ℕ) (r : Option Client) → p.client j ≡ r → IsKnownAt log j (client_of cl j) r → IsKnownAt log' j (client_of cl j) r
      clients_by j None is known = known_none log log' j (client_of cl j) known
      clients_by j (Some r) is known = known_same log log' j (client_of cl j) (Some r) (taken_other j (no_client j (subst IsSome (sym is) refl))) known

      rows_by : (z : ℕ) → is_open (p.tables.exchange z) ≡ true → z ≤ length (dials_in p log) → (b : Bool) → nat_eq z y ≡ b →
          IsUpstreamAt (taken_in log') (upstream_of up' z) (p.upstream z)
      rows_by z live le true on_it =
          let number : z ≡ y = grind (arith, nat_tests) in
          subst (λ i. IsUpstreamAt (taken_in log') (upstream_of up' i) (p.upstream i)) (sym number)
          (subst (λ (o : Option origin.Upstream). IsUpstreamAt (taken_in log') o (p.upstream y)) (sym row_on)
          (subst (λ (o : Option Upstream). IsUpstreamAt (taken_in log') (Some u') o) (sym row.1) is_upstream_now))
      rows_by z live le false off =
          subst (λ (o : Option origin.Upstream). IsUpstreamAt (taken_in log') o (p.upstream z)) (sym (row_off z off))
          (upstream_same (taken_in log) (taken_in log') (upstream_of up z) (p.upstream z) (λ w is. taken_other w.k (other_number z w is off))
          (h.rows z live le))

      -- of the exchange itself, what is there now
      it_is : (z : ℕ) (w : origin.Upstream) → upstream_of up' z ≡ Some w → nat_eq z y ≡ true → (z ≡ y) × (u' ≡ w)
      it_is z w is on_it =
          let number : z ≡ y = grind (arith, nat_tests) in
          (number, some_is u' w (sym row_on ∙ (ap (upstream_of up') (sym number) ∙ is)))

      numbers_by : (z : ℕ) (w : origin.Upstream) → upstream_of up' z ≡ Some w → (b : Bool) → nat_eq z y ≡ b → connection_of (dials_in p log) z ≡ Some w.k
      numbers_by z w is true on_it = let both = it_is z w is on_it in ap (connection_of (dials_in p log)) both.0 ∙
          (h.numbers y u at ∙ ap (λ (o : origin.Upstream). Some o.k) both.1)
      numbers_by z w is false off = h.numbers z w (sym (row_off z off) ∙ is)

      there_by : (z : ℕ) → IsSome (upstream_of up' z) → (b : Bool) → nat_eq z y ≡ b → IsSome (upstream_of up z)
      there_by z is true on_it = let number : z ≡ y = grind (arith, nat_tests) in subst (λ i. IsSome (upstream_of up i)) (sym number) some
      there_by z is false off = subst IsSome (row_off z off) is

      -- it lacks nothing where it isn't touched any more
      untouched_by : (b : Bool) → is_touched up y ≡ b → (b && lacks_at (Some u')) ≡ false → drop n u.unsent ≡ []
      untouched_by false was now = ap (drop n) (h.touched y u at was).0 ∙ drop-nil n
      untouched_by true was now = by_size (length (drop n u.unsent)) refl now
        where
          by_size : (i : ℕ) → length (drop n u.unsent) ≡ i → not (i == 0) ≡ false → drop n u.unsent ≡ []
          by_size i is lacks =
              let none : i ≡ 0 = by_test (nat_eq i 0) refl lacks in
              nil_from_length (drop n u.unsent) (is ∙ none)
            where
              by_test : (b : Bool) → nat_eq i 0 ≡ b → not b ≡ false → i ≡ 0
              by_test true here not_lacks = grind (arith, nat_tests)
              by_test false here not_lacks = absurd (let never : true ≡ false = not_lacks in cc)

      touched_by : (z : ℕ) (w : origin.Upstream) → upstream_of up' z ≡ Some w → is_touched up' z ≡ false → (b : Bool) → nat_eq z y ≡ b
          → (w.unsent ≡ []) × (is_same w.reading (is_wanted (p.tables.exchange z)) ≡ true)
      touched_by z w is untouched true on_it =
          let both = it_is z w is on_it in
          let off : (is_touched up y && lacks_at (upstream_of up' y)) ≡ false = sym (touches y ∙ rw (same_number y) refl) ∙
          (ap (is_touched up') (sym both.0) ∙ untouched) in
          let off' : (is_touched up y && lacks_at (Some u')) ≡ false = ap (λ (o : Option origin.Upstream). is_touched up y && lacks_at o) (sym row_on) ∙ off in
          let none : drop n u.unsent ≡ [] = untouched_by (is_touched up y) refl off' in (
            ap (λ (o : origin.Upstream). o.unsent) (sym both.1) ∙ none,
            ap (λ (o : origin.Upstream). is_same o.reading (is_wanted (p.tables.exchange z))) (sym both.1) ∙
                (ap (λ i. is_same on (is_wanted (p.tables.exchange i))) both.0 ∙ reads_wanted),
          )
      touched_by z w is untouched false off = h.touched z w (sym (row_off z off) ∙ is) (sym (touches z ∙ rw off refl) ∙ untouched)

      read_by : (z : ℕ) (w : origin.Upstream) → upstream_of up' z ≡ Some w → (b : Bool) → nat_eq z y ≡ b → (ended : Bool) ×
          (stage_in log'.takers w.k ≡ Open w.reading ended)
      read_by z w is true on_it =
          let both = it_is z w is on_it in
          (opens.0, subst (λ (o : origin.Upstream). stage_in log'.takers o.k ≡ Open o.reading opens.0) both.1 m.stage_is)
      read_by z w is false off =
          let was = h.read_upstreams z w (sym (row_off z off) ∙ is) in
          (was.0, stage_other w.k (other_number z w (sym (row_off z off) ∙ is) off) ∙ was.1)

      abbrev Whose : ℕ → Type 0
      Whose j = IsSome (client_of cl j) ⊎ ((z : ℕ) × (w : origin.Upstream) × (upstream_of up' z ≡ Some w) × (w.k ≡ j))

      whose_by : (j z : ℕ) (w : origin.Upstream) → upstream_of up z ≡ Some w → w.k ≡ j → nat_eq j u.k ≡ false → (b : Bool) → nat_eq z y ≡ b → Whose j
      whose_by j z w is number off false other = inr (z, w, row_off z other ∙ is, number)
      whose_by j z w is number off true on_it =
          let one : z ≡ y = grind (arith, nat_tests) in
          let same : u ≡ w = some_is u w (sym at ∙ (ap (upstream_of up) (sym one) ∙ is)) in
          absurd (let never : true ≡ false = sym (same_number u.k) ∙ (ap (λ i. nat_eq i u.k) (ap (λ (o : origin.Upstream). o.k) same ∙ number) ∙ off) in cc)

      all_by : (j : ℕ) → IsOpen (stage_in log'.takers j) → (b : Bool) → nat_eq j u.k ≡ b → Whose j
      all_by j live true here = inr (y, u', row_on, (let number : j ≡ u.k = grind (arith, nat_tests) in sym number))
      all_by j live false off = elim (h.all j (subst IsOpen (stage_other j off) live)) as (λ _. Whose j) [
        | inl is ↦ inl is
        | inr is ↦ whose_by j is.0 is.1 is.2 is.3 off (nat_eq is.0 y) refl
      ]

      pub origin_has : HasConnections p cl up' log'
      origin_has = record {
        clients = λ j. clients_by j (p.client j) refl (h.clients j);
        rows = λ z live le. rows_by z live (subst (λ (ks : List ℕ). z ≤ length (dials_from p.setting ks)) m.sends.dialled le) (nat_eq z y) refl;
        numbers = λ z w is. ap (λ (ks : List ℕ). connection_of (dials_from p.setting ks) z) m.sends.dialled ∙ numbers_by z w is (nat_eq z y) refl;
        over = λ z is. h.over z (there_by z is (nat_eq z y) refl);
        within = λ z is. subst (λ (ks : List ℕ). z ≤ length (dials_from p.setting ks)) (sym m.sends.dialled) (h.within z (there_by z is (nat_eq z y) refl));
        news = λ z live unheard. h.news z live (sym (news z) ∙ unheard);
        touched = λ z w is untouched. touched_by z w is untouched (nat_eq z y) refl;
        names = subst (λ (ks : List ℕ). NamesOne (dials_from p.setting ks)) (sym m.sends.dialled) h.names;
        strangers = λ j is. ap (λ (ks : List ℕ). exchange_of (dials_from p.setting ks) j) m.sends.dialled ∙ h.strangers j is;
        read_clients = λ j c is. let was = h.read_clients j c is in (was.0, stage_other j (client_there j c is) ∙ was.1);
        read_upstreams = λ z w is. read_by z w is (nat_eq z y) refl;
        all = λ j live. all_by j live (nat_eq j u.k) refl;
      }

      pub rests_here : IsSentOriginAt p log' y (upstream_of up' y)
      rests_here = subst (λ (o : Option origin.Upstream). IsSentOriginAt p log' y o) (sym row_on) now
        where
          by_less : (b : Bool) → nat_lt n (length u.unsent) ≡ b → (drop n u.unsent ≡ []) ⊎ (is_short log' u.k ≡ true)
          by_less true is = inr (m.short is)
          by_less false is = let le : length u.unsent ≤ n = grind (arith, nat_tests) in inl (drop_all n u.unsent le)

          now : IsRestingUpstream log' (is_wanted (p.tables.exchange y)) u'
          now = record { reads = reads_wanted; lacks = by_less (nat_lt n (length u.unsent)) refl }

      short_other : (j : ℕ) → nat_eq j u.k ≡ false → is_short log' j ≡ is_short log j
      short_other j off = short_off p u.k _ _ (Open on opens.0) log log' m j off

      pub rests_still : (z : ℕ) → nat_eq z y ≡ false → IsSentOriginAt p log z (upstream_of up z) → IsSentOriginAt p log' z (upstream_of up' z)
      rests_still z off is = subst (λ (o : Option origin.Upstream). IsSentOriginAt p log' z o) (sym (row_off z off)) (by_row (upstream_of up z) refl is)
        where
          by_row : (o : Option origin.Upstream) → upstream_of up z ≡ o → IsSentOriginAt p log z o → IsSentOriginAt p log' z o
          by_row None none rests = tt
          by_row (Some w) some_w rests = record {
            reads = rests.reads;
            lacks = elim rests.lacks [
              | inl none ↦ inl none
              | inr less ↦ inr (short_other w.k (other_number z w some_w off) ∙ less)
            ];
          }

      pub clients_still : AreSent cl log → AreSent cl log'
      clients_still all j = by_row (client_of cl j) refl (all j)
        where
          by_row : (o : Option peer.Client) → client_of cl j ≡ o → IsSentAt log j o → IsSentAt log' j o
          by_row None is sent = tt
          by_row (Some c) is sent = sent_same log log' j (Some c) (short_other j (client_there j c is)) sent

-- WHAT COMES OF IT

pub record OriginGoes (p : Proxy) (cl : Clients) (up up' : Upstreams) (log : Log) (reported : Option Log) (stages : ℕ → Stage) (y : ℕ) : Type 0 where
  pub log' : Log
  pub follows : Follows reported stages log'
  pub sends : Sends p log log'
  pub has : HasConnections p cl up' log'
  pub clients : AreSent cl log → AreSent cl log'
  pub sent : IsSentOriginAt p log' y (upstream_of up' y)
  pub others : (z : ℕ) → nat_eq z y ≡ false → IsSentOriginAt p log z (upstream_of up z) → IsSentOriginAt p log' z (upstream_of up' z)

module _ {W : Type 0} (stages : W → ℕ → Stage) (reports : W → Option Log) (wire wire' : W) (p : Proxy) (cl : Clients) (up up' : Upstreams) (log : Log)
    (y : ℕ) (on : Bool)
    (h : HasConnections p cl up log) (f : Follows (reports wire) (stages wire) log) where
  unreported : Follows None (stages wire) log
  unreported = record { reported_is = inl refl; stands = f.stands; apart = f.apart }

  module _ (wanted : on ≡ is_wanted (p.tables.exchange y)) (news : (z : ℕ) → is_news up' z ≡ is_news up z)
      (touches : Marks (is_touched up) (is_touched up') y (is_touched up y && lacks_at (upstream_of up' y))) where
    module _ (u : origin.Upstream) (at : upstream_of up y ≡ Some u) (o : IsOfferedUp stages reports y on u up up' wire wire') where
      abbrev n : ℕ
      n = o.n

      abbrev less : Bool
      less = nat_lt n (length u.unsent)

      abbrev mid : Log
      mid = with_sent u.k (take n u.unsent) less log

      abbrev ended : Bool
      ended = (opens p cl up log h y u at).0

      m0 : MovesAt p u.k (take n u.unsent) less (Open u.reading ended) log mid
      m0 = origin_moves p cl up log h y u at n less

      follows_mid : Follows None (stages wire) mid
      follows_mid = follows_sent None None (stages wire) (stages wire) log unreported u.k (take n u.unsent) less refl (λ j. refl)

      reported_now : (reports wire' ≡ None) ⊎ (reports wire' ≡ Some (reading_reported u.k u.reading on mid))
      reported_now = reported_on (reports wire) (reports wire') log (λ l. reading_reported u.k u.reading on (sent_of u.k n u.unsent l)) f.reported_is o.reported

      goes_on : (log' : Log) → MovesAt p u.k (take n u.unsent) less (Open on ended) log log' → Follows (reports wire') (stages wire') log' →
          OriginGoes p cl up up' log (reports wire') (stages wire') y
      goes_on log' m follows = record {
        log' = log';
        follows = follows;
        sends = m.sends;
        has = origin_has p cl up log h y u at n o.within on wanted log' m up' o.becomes news touches;
        clients = clients_still p cl up log h y u at n o.within on wanted log' m up' o.becomes news touches;
        sent = rests_here p cl up log h y u at n o.within on wanted log' m up' o.becomes news touches;
        others = rests_still p cl up log h y u at n o.within on wanted log' m up' o.becomes news touches;
      }

      goes_to : OriginGoes p cl up up' log (reports wire') (stages wire') y
      goes_to = by_test (is_same u.reading on) refl
        where
          by_test : (b : Bool) → is_same u.reading on ≡ b → OriginGoes p cl up up' log (reports wire') (stages wire') y
          by_test true same =
              let was : u.reading ≡ on = was_same u.reading on same in
              let it : (reports wire' ≡ None) ⊎ (reports wire' ≡ Some mid) = rw same at reported_now in
              goes_on mid (subst (λ (b : Bool). MovesAt p u.k (take n u.unsent) less (Open b ended) log mid) was m0)
              (record { reported_is = it; stands = λ j. (o.stands j ∙ rw same refl) ∙ follows_mid.stands j; apart = follows_mid.apart })
          by_test false other =
              let it : (reports wire' ≡ None) ⊎ (reports wire' ≡ Some (with_reading u.k on mid)) = rw other at reported_now in
              let reads : (j : ℕ) → stages wire' j ≡ with_stage u.k (reading_of on (stages wire u.k)) (stages wire) j = λ j. o.stands j ∙ rw other refl in
              let goes = follows_reading None None (stages wire) (stages wire') mid follows_mid u.k on refl reads in
              goes_on (with_reading u.k on mid) (moves_reading p u.k (take n u.unsent) less log mid u.reading ended m0 on)
              (record { reported_is = it; stands = goes.stands; apart = goes.apart })

    -- nothing is there
    same_goes : upstream_of up y ≡ None → ((z : ℕ) → upstream_of up' z ≡ upstream_of up z) → reports wire' ≡ reports wire →
        ((j : ℕ) → stages wire' j ≡ stages wire j)
        → OriginGoes p cl up up' log (reports wire') (stages wire') y
    same_goes none same reported stands = record {
      log' = log;
      follows = record {
        reported_is = subst (λ (l : Option Log). (l ≡ None) ⊎ (l ≡ Some log)) (sym reported) f.reported_is;
        stands = λ j. stands j ∙
            f.stands j;
        apart = f.apart;
      };
      sends = sends_none p log;
      has = record {
        clients = h.clients;
        rows = λ z live le. subst (λ (o : Option origin.Upstream). IsUpstreamAt (taken_in log) o (p.upstream z)) (sym (same z)) (h.rows z live le);
        numbers = λ z w is. h.numbers z w (sym (same z) ∙ is);
        over = λ z is. h.over z (subst IsSome (same z) is);
        within = λ z is. h.within z (subst IsSome (same z) is);
        news = λ z live unheard. h.news z live (sym (news z) ∙ unheard);
        touched = λ z w is untouched. h.touched z w (sym (same z) ∙ is) (sym (touches_off z w is) ∙ untouched);
        names = h.names;
        strangers = h.strangers;
        read_clients = h.read_clients;
        read_upstreams = λ z w is. h.read_upstreams z w (sym (same z) ∙ is);
        all = λ j live. elim (h.all j live) as (λ _. IsSome (client_of cl j) ⊎ ((z : ℕ) × (w : origin.Upstream) × (upstream_of up' z ≡ Some w) × (w.k ≡ j))) [
          | inl is ↦ inl is
          | inr is ↦ inr (is.0, is.1, same is.0 ∙ is.2, is.3)
        ];
      };
      clients = λ all. all;
      sent = subst (λ (o : Option origin.Upstream). IsSentOriginAt p log y o) (sym (same y ∙ none)) tt;
      others = λ z off is. subst (λ (o : Option origin.Upstream). IsSentOriginAt p log z o) (sym (same z)) is;
    }
      where
        touches_off : (z : ℕ) (w : origin.Upstream) → upstream_of up' z ≡ Some w → is_touched up' z ≡ is_touched up z
        touches_off z w is = by_test (nat_eq z y) refl
          where
            by_test : (b : Bool) → nat_eq z y ≡ b → is_touched up' z ≡ is_touched up z
            by_test false off = touches z ∙ rw off refl
            by_test true on_it =
                let number : z ≡ y = grind (arith, nat_tests) in
                none_some w (sym (same y ∙ none) ∙ (ap (upstream_of up') (sym number) ∙ is))

    pub origin_goes : IsOfferedOrigin stages reports y on up up' wire wire' → OriginGoes p cl up up' log (reports wire') (stages wire') y
    origin_goes offered = by_row (upstream_of up y) refl offered
      where
        by_row : (o : Option origin.Upstream) → upstream_of up y ≡ o → IsOfferedUpAt stages reports y on o up up' wire wire' →
            OriginGoes p cl up up' log (reports wire') (stages wire') y
        by_row None is (same, reported, stands) = same_goes is same reported stands
        by_row (Some u) is to = goes_to u is to

  -- what fails in the middle
  pub origin_fails : OffersSome (number_at (upstream_of up y)) (unsent_up (upstream_of up y)) (reports wire) (reports wire') → SentSome p log (reports wire')
  origin_fails some = by_row (upstream_of up y) refl some
    where
      by_row : (o : Option origin.Upstream) → upstream_of up y ≡ o → OffersSome (number_at o) (unsent_up o) (reports wire) (reports wire') →
          SentSome p log (reports wire')
      by_row None is part = some_sent p log 0 (reports wire) (reports wire') [] part f.reported_is (λ n less. none_front p log 0 n less)
      by_row (Some u) is part =
          some_sent p log u.k (reports wire) (reports wire') u.unsent part f.reported_is
          (λ n less all. (origin_moves p cl up log h y u is n less).sends.sent all)
