-- The requests of a client are the first that came of it.
--
-- One client is followed over the calls. Its first bytes were read, and asked for just what its consumers were started
-- for. Behind them stand those that wait, and no others, unless the client is gone or its number is one of a dial. A
-- call adds its bytes to those that wait. What stands next is read as its bytes lead, so a request that is told is the
-- next of what the first bytes ask for. A start has the next number, so who held the consumers before it holds them
-- behind it.
use Rattle.std.{proofs.{Common.{◌≡◌, ◌≤◌, ◌<◌, inl, inr, ℕ, zero, suc, ◌+◌, List, [], ◌∷◌, ◌++◌, Bool, true, false, Option, Some, None, refl, ap, sym, ◌∙◌, subst, arith, append_assoc, append-nil}, lemmas.{Bool.Decides.{nat_tests}, List.{map-append}}}, specs.Prelude.{nat_eq, map, take, if◌then◌else◌, IsSome}}
use Rattle.hc_effects.proofs.Vocabulary.{Event, Request, History, event}
use Rattle.hc_head.specs.declared.message.WireRequest.{WireRequest}
use Rattle.hc_msg.specs.{NextParts.{IsReadOn}, Reading.{Reading, Requests, Token, Asks, Leads, heading}}
use Rattle.hc_msg.proofs.Leading.{leads_on}
use Rattle.hc_wire.specs.Logs.{Called}
use Rattle.hc_wire.specs.declared.event.WireEvent.TheVariants as wire
use Rattle.hc_peers.specs.{Renderings.{asked_of, asking_of}, declared.reply.Asking.{Asking}}
use Rattle.hc_proxy.specs.{Asked.{got_by, got_from, is_at, started_by, starts_of, count_by, starts_in, IsNextStart, AreClients}, Connections.{is_dialled, place_from, exchange_of}, Invariants.{IsOfRequests}, Rows.{Client, with}, Starts.{read_to}}
use Rattle.hc_proxy.proofs.NetworkKeeps.{is_of_exchange}

-- EVENTS

-- it starts no consumer
abbrev pub IsOther : Event → Type 0
IsOther (event.Start c request) = ⊥
IsOther _ = Unit {0}

pub other_starts : (holder : ℕ → Option ℕ) (k : ℕ) (ev : Event) → IsOther ev → started_by holder k ev ≡ []
other_starts holder k (event.Start c request) off = absurd off
other_starts holder k (event.Poll c want) off = refl
other_starts holder k (event.Head x response) off = refl
other_starts holder k (event.Piece x bytes) off = refl
other_starts holder k (event.End x) off = refl
other_starts holder k (event.Fault x) off = refl
other_starts holder k (event.Cancel c) off = refl
other_starts holder k (event.Doom c) off = refl

pub other_count : (ev : Event) → IsOther ev → count_by ev ≡ 0
other_count (event.Start c request) off = absurd off
other_count (event.Poll c want) off = refl
other_count (event.Head x response) off = refl
other_count (event.Piece x bytes) off = refl
other_count (event.End x) off = refl
other_count (event.Fault x) off = refl
other_count (event.Cancel c) off = refl
other_count (event.Doom c) off = refl

pub other_next : (holder : ℕ → Option ℕ) (n : ℕ) (ev : Event) → IsOther ev → IsNextStart holder n ev
other_next holder n (event.Start c request) off = absurd off
other_next holder n (event.Poll c want) off = tt
other_next holder n (event.Head x response) off = tt
other_next holder n (event.Piece x bytes) off = tt
other_next holder n (event.End x) off = tt
other_next holder n (event.Fault x) off = tt
other_next holder n (event.Cancel c) off = tt
other_next holder n (event.Doom c) off = tt

pub of_exchange : (ev : Event) → is_of_exchange ev ≡ true → IsOther ev
of_exchange (event.Start c request) is = let never : false ≡ true = is in cc
of_exchange (event.Poll c want) is = tt
of_exchange (event.Head x response) is = tt
of_exchange (event.Piece x bytes) is = tt
of_exchange (event.End x) is = tt
of_exchange (event.Fault x) is = tt
of_exchange (event.Cancel c) is = tt
of_exchange (event.Doom c) is = tt

-- A NEW HOLDER, whose consumer has the next number

module _ (holder : ℕ → Option ℕ) (c z : ℕ) where
  pub kept_at : (d : ℕ) → d < c → with c z holder d ≡ holder d
  kept_at d lt = let off : nat_eq d c ≡ false = grind (arith, nat_tests) in rw off refl

  event_kept : (k n : ℕ) (ev : Event) → IsNextStart holder n ev → n + count_by ev < c → started_by (with c z holder) k ev ≡ started_by holder k ev
  event_kept k n (event.Start d request) next lt = let same : d ≡ n + 1 = next.0 in
      ap (λ (o : Option ℕ). if is_at k o then request ∷ [] else []) (kept_at d (omega arith))
  event_kept k n (event.Poll d want) next lt = refl
  event_kept k n (event.Head x response) next lt = refl
  event_kept k n (event.Piece x bytes) next lt = refl
  event_kept k n (event.End x) next lt = refl
  event_kept k n (event.Fault x) next lt = refl
  event_kept k n (event.Cancel d) next lt = refl
  event_kept k n (event.Doom d) next lt = refl

  next_kept : (n : ℕ) (ev : Event) → IsNextStart holder n ev → n + count_by ev < c → IsNextStart (with c z holder) n ev
  next_kept n (event.Start d request) next lt = let same : d ≡ n + 1 = next.0 in
      (next.0, subst (λ (o : Option ℕ). IsSome o) (sym (kept_at d (omega arith))) next.1)
  next_kept n (event.Poll d want) next lt = tt
  next_kept n (event.Head x response) next lt = tt
  next_kept n (event.Piece x bytes) next lt = tt
  next_kept n (event.End x) next lt = tt
  next_kept n (event.Fault x) next lt = tt
  next_kept n (event.Cancel d) next lt = tt
  next_kept n (event.Doom d) next lt = tt

  pub starts_kept : (last k : ℕ) (h : History) → AreClients last holder h → last + starts_in h < c → starts_of (with c z holder) k h ≡ starts_of holder k h
  starts_kept last k [] are lt = refl
  starts_kept last k (e ∷ h) are lt =
      let rest : starts_of (with c z holder) k h ≡ starts_of holder k h = starts_kept last k h are.1 (omega arith) in
      let newest : started_by (with c z holder) k e.event ≡ started_by holder k e.event = event_kept k (last + starts_in h) e.event are.0 (omega arith) in
      rw (rest, newest) refl

  pub clients_kept : (last : ℕ) (h : History) → AreClients last holder h → last + starts_in h < c → AreClients last (with c z holder) h
  clients_kept last [] are lt = tt
  clients_kept last (e ∷ h) are lt = (next_kept (last + starts_in h) e.event are.0 (omega arith), clients_kept last h are.1 (omega arith))

-- WHAT CAME

pub got_more : (k : ℕ) (calls : List Called) (call : Called) → got_from k (calls ++ call ∷ []) ≡ got_from k calls ++ got_by k call.event call.bytes
got_more k [] call = append-nil (got_by k call.event call.bytes)
got_more k (first ∷ calls) call = ap (λ (xs : List ℕ). got_by k first.event first.bytes ++ xs) (got_more k calls call) ∙
    sym (append_assoc (got_by k first.event first.bytes) (got_from k calls) (got_by k call.event call.bytes))

pub place_shorter : (i k m n : ℕ) (ks : List (Option ℕ)) → m ≤ n → place_from i k (take n ks) ≡ None → place_from i k (take m ks) ≡ None
place_shorter i k zero n ks le none = refl
place_shorter i k (suc m) n [] le none = refl
place_shorter i k (suc m) zero (j ∷ ks) le none = absurd (omega arith)
place_shorter i k (suc m) (suc n) (j ∷ ks) le none = by_test (is_dialled k j) none (λ is. place_shorter (i + 1) k m n ks (omega arith) is)
  where
    by_test : (b : Bool) → (if b then Some i else place_from (i + 1) k (take n ks)) ≡ None →
        (place_from (i + 1) k (take n ks) ≡ None → place_from (i + 1) k (take m ks) ≡ None) → (if b then Some i else place_from (i + 1) k (take m ks)) ≡ None
    by_test true is rest = absurd (let never : Some i ≡ None = is in cc)
    by_test false is rest = rest is

module _ (k : ℕ) where
  -- ONE CLIENT

  -- it was accepted, and these calls came since
  abbrev pub IsAccepted : List Called → List Called → Type 0
  IsAccepted calls behind = (before : List Called) × (call : Called) × (calls ≡ before ++ call ∷ behind) × (call.event ≡ wire.Accepted k)

  pub record IsRead (front : Bool) (ds : List (Option ℕ)) (calls : List Called) (client : Client) (requests : List Request) (asked : List Asking) : Type 0 where
    pub behind : List Called
    pub accepted : IsAccepted calls behind
    pub wires : List WireRequest
    pub first : List ℕ
    pub rest : List ℕ
    pub whole : first ++ (client.input ++ rest) ≡ got_from k behind
    pub reads : Leads (heading Requests) first (map Asks wires) client.reading
    pub asked_are : asked ≡ map (asking_of front) wires
    pub are : requests ≡ map (asked_of front) wires
    pub asking : IsOfRequests client.reading
    pub all : client.gone ≡ false → exchange_of ds k ≡ None → rest ≡ []

  -- A CALL MORE

  abbrev pub more_calls : List Called → Called → List Called
  more_calls calls call = calls ++ call ∷ []

  pub later : (calls behind : List Called) (call : Called) → IsAccepted calls behind → IsAccepted (more_calls calls call) (more_calls behind call)
  later calls behind call is = (is.0, is.1, ap (λ (cs : List Called). cs ++ call ∷ []) is.2 ∙ append_assoc is.0 (is.1 ∷ behind) (call ∷ []), is.3)

  module _ (front : Bool) (ds : List (Option ℕ)) (calls : List Called) (call : Called) where
    abbrev pub got : List ℕ
    got = got_by k call.event call.bytes

    -- bytes that the client doesn't have stand behind
    pub passes : (client : Client) (requests : List Request) (asked : List Asking) → (client.gone ≡ false → exchange_of ds k ≡ None → got ≡ []) →
        IsRead front ds calls client requests asked → IsRead front ds (more_calls calls call) client requests asked
    passes client requests asked none s = record {
      behind = more_calls s.behind call;
      accepted = later calls s.behind call s.accepted;
      wires = s.wires;
      first = s.first;
      rest = s.rest ++ got;
      whole =
          let one : s.first ++ (client.input ++ (s.rest ++ got)) ≡ (s.first ++ (client.input ++ s.rest)) ++ got =
          ap (λ (xs : List ℕ). s.first ++ xs) (sym (append_assoc client.input s.rest got)) ∙ sym (append_assoc s.first (client.input ++ s.rest) got) in
          one ∙ (ap (λ (xs : List ℕ). xs ++ got) s.whole ∙ sym (got_more k s.behind call));
      reads = s.reads;
      asked_are = s.asked_are;
      are = s.are;
      asking = s.asking;
      all = λ here off. ap (λ (xs : List ℕ). xs ++ got) (s.all here off) ∙ none here off;
    }

    -- or wait
    pub waits : (client : Client) (requests : List Request) (asked : List Asking) → client.gone ≡ false → exchange_of ds k ≡ None →
        IsRead front ds calls client requests asked → IsRead front ds (more_calls calls call) (record client { input = client.input ++ got }) requests asked
    waits client requests asked here off s = record {
      behind = more_calls s.behind call;
      accepted = later calls s.behind call s.accepted;
      wires = s.wires;
      first = s.first;
      rest = [];
      whole =
          let none : s.rest ≡ [] = s.all here off in
          let before : s.first ++ client.input ≡ got_from k s.behind =
          ap (λ (xs : List ℕ). s.first ++ xs) (sym (append-nil client.input) ∙ ap (λ (xs : List ℕ). client.input ++ xs) (sym none)) ∙ s.whole in
          ap (λ (xs : List ℕ). s.first ++ xs) (append-nil (client.input ++ got)) ∙ (sym (append_assoc s.first client.input got)
          ∙ (ap (λ (xs : List ℕ). xs ++ got) before ∙ sym (got_more k s.behind call)));
      reads = s.reads;
      asked_are = s.asked_are;
      are = s.are;
      asking = s.asking;
      all = λ h o. refl;
    }

  -- CHANGES

  module _ (front : Bool) (ds : List (Option ℕ)) (calls : List Called) where
    -- one that keeps what waits, where it is read, and who is gone
    pub alike : (new old : Client) (requests : List Request) (asked : List Asking) → new.input ≡ old.input → new.reading ≡ old.reading →
        (new.gone ≡ false → old.gone ≡ false) → IsRead front ds calls old requests asked → IsRead front ds calls new requests asked
    alike new old requests asked input reading gone s = record {
      behind = s.behind;
      accepted = s.accepted;
      wires = s.wires;
      first = s.first;
      rest = s.rest;
      whole = ap (λ (xs : List ℕ). s.first ++ (xs ++ s.rest)) input ∙ s.whole;
      reads = subst (λ (t : Reading). Leads (heading Requests) s.first (map Asks s.wires) t) (sym reading) s.reads;
      asked_are = s.asked_are;
      are = s.are;
      asking = subst IsOfRequests (sym reading) s.asking;
      all = λ here off. s.all (gone here) off;
    }

    -- bytes that ask for these were read
    pub reads_on : (client : Client) (requests : List Request) (asked : List Asking) (more : List WireRequest) (next rest : List ℕ) (t : Reading) → next ++
        rest ≡ client.input → Leads client.reading next (map Asks more) t → IsOfRequests t
        → IsRead front ds calls client requests asked →
        IsRead front ds calls (read_to t rest client) (requests ++ map (asked_of front) more) (asked ++ map (asking_of front) more)
    reads_on client requests asked more next rest t is leads asking s = record {
      behind = s.behind;
      accepted = s.accepted;
      wires = s.wires ++ more;
      first = s.first ++ next;
      rest = s.rest;
      whole = append_assoc s.first next (rest ++ s.rest)
          ∙ (ap (λ (xs : List ℕ). s.first ++ xs) (sym (append_assoc next rest s.rest) ∙ ap (λ (xs : List ℕ). xs ++ s.rest) is) ∙ s.whole);
      reads = subst (λ (ts : List Token). Leads (heading Requests) (s.first ++ next) ts t) (sym (map-append Asks s.wires more))
          (leads_on (heading Requests) s.first next (map Asks s.wires) (map Asks more) client.reading t s.reads leads);
      asked_are = ap (λ (rs : List Asking). rs ++ map (asking_of front) more) s.asked_are ∙ sym (map-append (asking_of front) s.wires more);
      are = ap (λ (rs : List Request). rs ++ map (asked_of front) more) s.are ∙ sym (map-append (asked_of front) s.wires more);
      asking = asking;
      all = s.all;
    }

    pub read_all : (s : Reading) (input : List ℕ) (t : Reading) → IsOfRequests s → IsReadOn s input t → Leads s input [] t
    read_all s input t of (inl on) = on.0
    read_all s input t of (inr done) = absurd (subst IsOfRequests done.0 of)

    pub all_read : (client : Client) (requests : List Request) (asked : List Asking) (t : Reading) → Leads client.reading client.input [] t →
        IsOfRequests t → IsRead front ds calls client requests asked → IsRead front ds calls (read_to t [] client) requests asked
    all_read client requests asked t leads of s =
        subst (λ (rs : List Request). IsRead front ds calls (read_to t [] client) rs asked) (append-nil requests)
        (subst (IsRead front ds calls (read_to t [] client) (requests ++ [])) (append-nil asked)
        (reads_on client requests asked [] client.input [] t (append-nil client.input) leads of s))
