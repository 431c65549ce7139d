-- Who waits at whom is kept where clients stay as they are, where one comes, and where a turn begins.
--
-- A turn begins with no acts, so whoever is waited for must be live: so it is behind the acts of the turn before. A
-- client whose connection doesn't stand any more was to be closed, and waits for nobody. The three are `alike_keeps`,
-- `comes_keeps` and `begin_keeps`.
use Rattle.std.{proofs.Common.{◌≡◌, inl, inr, ℕ, zero, suc, List, [], ◌∷◌, Bool, true, false, Option, Some, None, refl, ap, sym, ◌∙◌, arith}, specs.{Prelude.{◌||◌, Contains, option_map, if◌then◌else◌}, List.{list_all}}}
use Rattle.hc_text.proofs.Basics.{and_left, and_right, some_inj}
use Rattle.hc_effects.proofs.Vocabulary.{Act, is_live, Tables}
use Rattle.hc_effects.proofs.PieceKeeps.{eq_cases}
use Rattle.hc_wire.specs.Logs.{Called}
use Rattle.hc_proxy.specs.{Carrying.{acts_in}, Connections.{stands}, Handling.{seen_at, begun}, Invariants.{IsHolder, HasConsumers}, Rows.{Client, Upstream, Proxy, new_client, with_upstream}}
use Rattle.hc_proxy.proofs.{Holders.{IsAlive, HeldBy, held_of, of_held}, Turning.{with_new}}

-- CLIENTS AND TABLES STAY

module _ (acts : List Act) (p q : Proxy) (clients : q.client ≡ p.client) (holders : q.holder ≡ p.holder) (starts : q.starts ≡ p.starts)
    (tables : q.tables ≡ p.tables) (h : HeldBy acts p) where
  alike_back : (k c : ℕ) → IsHolder q k c → IsHolder p k c
  alike_back k c w = record { row = w.row; at = sym (ap (λ (f : ℕ → Option Client). f k) clients) ∙ w.at; here = w.here; consumer = w.consumer }

  alike_on : (k c : ℕ) → IsHolder p k c → IsHolder q k c
  alike_on k c w = record { row = w.row; at = ap (λ (f : ℕ → Option Client). f k) clients ∙ w.at; here = w.here; consumer = w.consumer }

  pub alike_keeps : HeldBy acts q
  alike_keeps = record {
    held = λ k c w. ap (λ (f : ℕ → Option ℕ). f c) holders ∙ h.held k c (alike_back k c w);
    started = λ k c w. rw starts (h.started k c (alike_back k c w));
    live = λ c on. let w = h.live c (sym (ap (λ (t : Tables). is_live (t.consumer c)) tables) ∙ on) in (w.0, alike_on w.0 c w.1);
    alive = λ k c w. by_alive c (h.alive k c (alike_back k c w));
    idle = λ k r at. h.idle k r (sym (ap (λ (f : ℕ → Option Client). f k) clients) ∙ at);
  }
    where
      by_alive : (c : ℕ) → IsAlive acts p c → IsAlive acts q c
      by_alive c (inl on) = inl (ap (λ (t : Tables). is_live (t.consumer c)) tables ∙ on)
      by_alive c (inr leaves) = inr leaves

-- a connection to the origin changes
pub origin_keeps : (x : ℕ) (change : Upstream → Upstream) (p : Proxy) → HasConsumers p → HasConsumers (with_upstream x change p)
origin_keeps x change p h = of_held (with_upstream x change p) (alike_keeps (acts_in p.part) p (with_upstream x change p) refl refl refl refl (held_of p h))

-- ONE COMES

module _ (acts : List Act) (k : ℕ) (p : Proxy) (new : p.client k ≡ None) (h : HeldBy acts p) where
  -- it waits for nobody
  comes_back : (j c : ℕ) → IsHolder (with_new k p) j c → IsHolder p j c
  comes_back j c w = elim (eq_cases j k) as (λ _. IsHolder p j c) [
    | inr off ↦ record { row = w.row; at = rw off.0 at w.at; here = w.here; consumer = w.consumer }
    | inl here ↦ absurd (let made : Some new_client ≡ Some w.row = rw here.0 at w.at in let never : None ≡ Some c =
        ap (λ (r : Client). r.consumer) (some_inj new_client w.row made) ∙ w.consumer in cc)
  ]

  comes_on : (j c : ℕ) → IsHolder p j c → IsHolder (with_new k p) j c
  comes_on j c w = elim (eq_cases j k) as (λ _. IsHolder (with_new k p) j c) [
    | inr off ↦ record { row = w.row; at = rw off.0 w.at; here = w.here; consumer = w.consumer }
    | inl here ↦ absurd (let never : None ≡ Some w.row = sym new ∙ (ap p.client (sym here.1) ∙ w.at) in cc)
  ]

  comes_idle : (j : ℕ) (r : Client) → (with_new k p).client j ≡ Some r → r.closing ≡ true → r.consumer ≡ None
  comes_idle j r at closing = elim (eq_cases j k) as (λ _. r.consumer ≡ None) [
    | inr off ↦ h.idle j r (rw off.0 at at) closing
    | inl here ↦ (let made : Some new_client ≡ Some r = rw here.0 at at in ap (λ (z : Client). z.consumer) (sym (some_inj new_client r made)))
  ]

  pub comes_keeps : HeldBy acts (with_new k p)
  comes_keeps = record {
    held = λ j c w. h.held j c (comes_back j c w);
    started = λ j c w. h.started j c (comes_back j c w);
    live = λ c on. let w = h.live c on in (w.0, comes_on w.0 c w.1);
    alive = λ j c w. h.alive j c (comes_back j c w);
    idle = comes_idle;
  }

-- A TURN BEGINS

-- each client that isn't to be closed stands
abbrev pub AllStand : Called → Proxy → Type 0
AllStand call p = (k : ℕ) (r : Client) → p.client k ≡ Some r → (r.gone || r.closing || stands call k) ≡ true

module _ (call : Called) (p : Proxy) (stand : AllStand call p) (h : HeldBy [] p) where
  abbrev next : Proxy
  next = begun call p

  -- the row that was seen
  record IsSeen (k : ℕ) (q : Client) : Type 0 where
    old : Client
    at : p.client k ≡ Some old
    is : q ≡ seen_at call k old

  seen : (k : ℕ) (q : Client) → next.client k ≡ Some q → IsSeen k q
  seen k q row = by_row (p.client k) refl row
    where
      by_row : (o : Option Client) → p.client k ≡ o → option_map (seen_at call k) o ≡ Some q → IsSeen k q
      by_row None at made = absurd (let never : None ≡ Some q = made in cc)
      by_row (Some old) at made = record { old = old; at = at; is = sym (some_inj (seen_at call k old) q made) }

  -- one that is here was, as it is
  still_here : (b : Bool) (r : Client) → (if b then r else record r { gone = true; let_go = true }).gone ≡ false →
      (if b then r else record r { gone = true; let_go = true }) ≡ r
  still_here true r here = refl
  still_here false r here = absurd (let never : true ≡ false = here in cc)

  begun_back : (k c : ℕ) → IsHolder next k c → IsHolder p k c
  begun_back k c w =
      let s = seen k w.row w.at in
      let same : w.row ≡ s.old = s.is ∙ still_here (s.old.gone || stands call k) s.old (ap (λ (r : Client). r.gone) (sym s.is) ∙ w.here) in
      record {
        row = s.old;
        at = s.at;
        here = ap (λ (r : Client). r.gone) (sym same) ∙ w.here;
        consumer = ap (λ (r : Client). r.consumer) (sym same) ∙
            w.consumer;
      }

  begun_on : (k c : ℕ) → IsHolder p k c → IsHolder next k c
  begun_on k c w = record { row = w.row; at = ap (option_map (seen_at call k)) w.at ∙ ap Some stays; here = w.here; consumer = w.consumer }
    where
      open_by : (b : Bool) → w.row.closing ≡ b → w.row.closing ≡ false
      open_by false off = off
      open_by true shut = absurd (let never : None ≡ Some c = sym (h.idle k w.row w.at shut) ∙ w.consumer in cc)

      third : (a b d : Bool) → a ≡ false → b ≡ false → (a || b || d) ≡ true → d ≡ true
      third false false d x y on = on
      third false true d x y on = absurd (let never : true ≡ false = y in cc)
      third true b d x y on = absurd (let never : true ≡ false = x in cc)

      stands_on : stands call k ≡ true
      stands_on = third w.row.gone w.row.closing (stands call k) w.here (open_by w.row.closing refl) (stand k w.row w.at)

      stays : seen_at call k w.row ≡ w.row
      stays = rw (w.here, stands_on) refl

  begun_idle : (k : ℕ) (q : Client) → next.client k ≡ Some q → q.closing ≡ true → q.consumer ≡ None
  begun_idle k q row closing =
      let s = seen k q row in
      by_test (s.old.gone || stands call k) s.old s.at s.is
    where
      by_test : (b : Bool) (old : Client) → p.client k ≡ Some old → q ≡ (if b then old else record old { gone = true; let_go = true }) → q.consumer ≡ None
      by_test true old at is = ap (λ (r : Client). r.consumer) is ∙ h.idle k old at (ap (λ (r : Client). r.closing) (sym is) ∙ closing)
      by_test false old at is = ap (λ (r : Client). r.consumer) is ∙ h.idle k old at (ap (λ (r : Client). r.closing) (sym is) ∙ closing)

  pub begin_keeps : HasConsumers next
  begin_keeps = record {
    held = λ k c w. h.held k c (begun_back k c w);
    started = λ k c w. h.started k c (begun_back k c w);
    live = λ c on. let w = h.live c on in (w.0, begun_on w.0 c w.1);
    alive = λ k c w. h.alive k c (begun_back k c w);
    idle = begun_idle;
  }

-- so a call says that fits
passes : (test : ℕ → Bool) (ks : List ℕ) (k : ℕ) → list_all test ks ≡ true → Contains ks k → test k ≡ true
passes test [] k all (n, within, is) = absurd (omega arith)
passes test (j ∷ ks) k all (zero, within, is) = ap test (sym is) ∙ and_left (test j) (list_all test ks) all
passes test (j ∷ ks) k all (suc n, within, is) = passes test ks k (and_right (test j) (list_all test ks) all) (n, omega arith, is)
