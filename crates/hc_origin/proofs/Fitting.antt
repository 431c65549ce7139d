-- The calls of a log fit those before them, whatever comes later.
--
-- What a call says of its open connections rests on the calls before it alone. What it says of a closed one is told by
-- the takers: a connection that is closed stays so, and takes nothing more (`Later`). So each call goes on fitting while
-- open connections change and new ones come. The next call fits by what is kept of each number (`next-fits`).
use Rattle.std.{proofs.{Common.{◌≡◌, ℕ, ◌<◌, List, [], ◌∷◌, ◌++◌, length, Bool, true, false, not, eqb, Option, Some, None, refl, sym, ap, subst, ◌∙◌, inl, inr, append_assoc, arith, length-append}, lemmas.{List.{append-nil}, Bool.{cases_Bool, eqb-true, eq-eqb}}}, specs.{Prelude.{find, map, filter, is_some, ◌&&◌, IfSome}, List.{list_any}, Option.{option_map}}}
use Rattle.hc_text.proofs.Basics.{and_none as and_false, asked_none}
use Rattle.hc_wire.specs.{declared.event.WireEvent.{WireEvent}, Events.{Unseen, Closed}, Following.{is_live, live_from}, Logs.{Called, Log, Taker, changed_at, is_at_end, is_numbered, is_taking, sent_from, sent_in, shut, stage_from, stage_in, stage_of, standing_of, standings_in}}
use Rattle.hc_msg.specs.Reading.{Reading}
use Rattle.hc_origin.specs.{Coming.{Came, came_of, is_accepted, request_in}, Turns.{AllFit, AllStand, Closes, Fits, StandsRight, is_of}, Replies.{Unsent, unsent_in}, Keeping.{AreApart, IsAsking, IsLacking, IsOwing, PlaceOf, Rests}}
use Rattle.hc_origin.proofs.{Comings.{answer-on, waits-none, waits-on}, Takers.{behind, find-before, find-changed, find-other, unlisted}}

-- LATER

pub record Later (cs ds : List Taker) : Type 0 where
  pub each : (k : ℕ) → stage_in cs k ≡ Closed → (stage_in ds k ≡ Closed) × (sent_in ds k ≡ sent_in cs k)

open_unclosed : (c : Taker) → c.live ≡ true → stage_of c ≡ Closed → ⊥
open_unclosed c live is = let h = rw live at is in cc

pub closed-shut : (c : Taker) → c.live ≡ false → stage_of c ≡ Closed
closed-shut c shut = rw shut refl

live-stage : (cs : List Taker) (k : ℕ) → is_live cs k ≡ true → stage_in cs k ≡ Closed → ⊥
live-stage cs k live is = by (find (is_numbered k) cs) live is where
  by : (o : Option Taker) → live_from o ≡ true → stage_from o ≡ Closed → ⊥
  by None live is = cc
  by (Some c) live is = open_unclosed c live is

pub later-changed : (k : ℕ) (change : Taker → Taker) → ((c : Taker) → (change c).k ≡ c.k) → (cs : List Taker) → is_live cs k ≡ true →
    Later cs (changed_at k change cs)
later-changed k change number cs live = record { each = each } where
  each : (j : ℕ) → stage_in cs j ≡ Closed → (stage_in (changed_at k change cs) j ≡ Closed) × (sent_in (changed_at k change cs) j ≡ sent_in cs j)
  each j is = elim (cases_Bool (eqb j k)) [
    | inl on ↦
        let same : j ≡ k = eqb-true j k on in
        absurd (live-stage cs k live (subst (λ (n : ℕ). stage_in cs n ≡ Closed) same is))
    | inr off ↦ let found = find-other k change number cs j off in (ap stage_from found ∙ is, ap sent_from found)
  ]

-- to close one takes nothing from it
pub later-shut : (k : ℕ) (cs : List Taker) → Later cs (changed_at k shut cs)
later-shut k cs = record { each = each } where
  own : (o : Option Taker) → stage_from o ≡ Closed → (stage_from (option_map shut o) ≡ Closed) × (sent_from (option_map shut o) ≡ sent_from o)
  own None is = absurd (cc)
  own (Some c) is = (refl, refl)

  each : (j : ℕ) → stage_in cs j ≡ Closed → (stage_in (changed_at k shut cs) j ≡ Closed) × (sent_in (changed_at k shut cs) j ≡ sent_in cs j)
  each j is = elim (cases_Bool (eqb j k)) [
    | inl on ↦
        let same : j ≡ k = eqb-true j k on in
        let found = find-changed k shut (λ c. refl) cs in
        let was : stage_in cs k ≡ Closed = subst (λ (n : ℕ). stage_in cs n ≡ Closed) same is in
        let is_own = own (find (is_numbered k) cs) was in
        subst (λ (n : ℕ). (stage_in (changed_at k shut cs) n ≡ Closed) × (sent_in (changed_at k shut cs) n ≡ sent_in cs n)) (sym same)
        (ap stage_from found ∙ is_own.0, ap sent_from found ∙ is_own.1)
    | inr off ↦ let found = find-other k shut (λ c. refl) cs j off in (ap stage_from found ∙ is, ap sent_from found)
  ]

pub later-last : (cs : List Taker) (c : Taker) → find (is_numbered c.k) cs ≡ None → Later cs (cs ++ c ∷ [])
later-last cs c none = record { each = each } where
  each : (j : ℕ) → stage_in cs j ≡ Closed → (stage_in (cs ++ c ∷ []) j ≡ Closed) × (sent_in (cs ++ c ∷ []) j ≡ sent_in cs j)
  each j is = elim (cases_Bool (eqb c.k j)) [
    | inl on ↦
        let same : c.k ≡ j = eqb-true c.k j on in
        let unseen : stage_in cs j ≡ Unseen = ap stage_from (subst (λ (n : ℕ). find (is_numbered n) cs ≡ None) same none) in
        absurd (cc)
    | inr off ↦ let found = find-before cs c j off in (ap stage_from found ∙ is, ap sent_from found)
  ]

pub later-same : (cs : List Taker) → Later cs cs
later-same cs = record { each = λ k is. (is, refl) }

-- CALLS

pub fits-later : (cs ds : List Taker) (before : List Called) (call : Called) → Later cs ds → Fits cs before call → Fits ds before call
fits-later cs ds before call later fits = record {
  waits = fits.waits;
  stands = fits.stands;
  closed = λ k accepted unlisted.
      let was = fits.closed k accepted unlisted in
      let is = later.each k was.0 in
      (is.0, subst (λ (l : List ℕ). Closes (came_of k before) l) (sym is.1) was.1);
}

pub all-later : (cs ds : List Taker) (before calls : List Called) → Later cs ds → AllFit cs before calls → AllFit ds before calls
all-later cs ds before [] later fit = tt
all-later cs ds before (call ∷ calls) later fit =
    (fits-later cs ds before call later fit.0, all-later cs ds (before ++ call ∷ []) calls later fit.1)

fit-more : (cs : List Taker) (before calls : List Called) (call : Called) → AllFit cs before calls → Fits cs (before ++ calls) call →
    AllFit cs before (calls ++ call ∷ [])
fit-more cs before [] call fit fits = (subst (λ (l : List Called). Fits cs l call) (append-nil before) fits, tt)
fit-more cs before (c ∷ calls) call fit fits =
    (fit.0, fit-more cs (before ++ c ∷ []) calls call fit.1 (subst (λ (l : List Called). Fits cs l call) (sym (append_assoc before (c ∷ []) calls)) fits))

pub all-more : (cs : List Taker) (calls : List Called) (call : Called) → AllFit cs [] calls → Fits cs calls call → AllFit cs [] (calls ++ call ∷ [])
all-more cs calls call fit fits = fit-more cs [] calls call fit fits

-- THE NEXT CALL

at_end : (o : Option ℕ) (n : ℕ) → o ≡ Some n → is_at_end o n ≡ true
at_end None n is = absurd (cc)
at_end (Some m) n is = let same : m ≡ n = cc in eq-eqb m n same

some_asked : {A : Type 0} (o : Option A) (x : A) → is_some o ≡ false → o ≡ Some x → ⊥
some_asked None x is some = cc
some_asked (Some y) x is some = cc

asks-right : (came : Came) (c : Taker) (n : ℕ) (reading : Reading) → IsAsking came c reading → StandsRight came (standing_of n c)
asks-right came c n reading is =
    let none = waits-none came reading is.waits in record {
      reads = is.reads;
      unrefused = waits-on came reading is.waits;
      uncut = ap (λ (b : Bool). b && not (is_some (request_in came))) is.unstopped;
      unasked = λ _. ap length is.unsent;
      lacks = λ some. absurd (asked_none (request_in came) some none);
    }

owes-right : (came : Came) (c : Taker) (n : ℕ) (bytes : List ℕ) → IsOwing came c bytes → 0 < length bytes → c.short ≡ Some n →
    StandsRight came (standing_of n c)
owes-right came c n bytes is some short =
    let whole : is_some (request_in came) ≡ true = ap is_some is.is.asked in
    let len = length-append c.sent bytes in record {
      reads = is.reads;
      unrefused = answer-on came (c.sent ++ bytes) is.is;
      uncut = ap (λ (b : Bool). came.stopped && not b) whole ∙ and_false came.stopped;
      unasked = λ none. absurd (some_asked (request_in came) is.is.request none is.is.asked);
      lacks = λ asked. record { text = c.sent ++ bytes; is = is.is; some = omega (arith, len, some); stalled = at_end c.short n short };
    }

abbrev LacksIf : ℕ → Taker → Option (List ℕ) → Type 0
LacksIf n c None = Unit {0}
LacksIf n c (Some bytes) = (0 < length bytes) × (c.short ≡ Some n)

-- an open one stands right, by what is kept of it
stands-right : (accepted : Bool) (came : Came) (c : Taker) (n : ℕ) (asking : Option Reading) (owed : Option (List ℕ))
    → PlaceOf accepted came (Some c) asking owed → LacksIf n c owed → c.live ≡ true → StandsRight came (standing_of n c)
stands-right accepted came c n None None is lacking live = absurd (let shut = is.shut in cc)
stands-right accepted came c n None (Some bytes) is lacking live = owes-right came c n bytes is lacking.0 lacking.1
stands-right accepted came c n (Some reading) None is lacking live = asks-right came c n reading is
stands-right accepted came c n (Some reading) (Some bytes) is lacking live = absurd is

abbrev LackingOf : ℕ → Option Taker → Option (List ℕ) → Type 0
LackingOf n o owed = IfSome owed (IsLacking n o)

lacking-if : (n : ℕ) (c : Taker) (o : Option Taker) (owed : Option (List ℕ)) → o ≡ Some c → LackingOf n o owed → LacksIf n c owed
lacking-if n c o None is lacking = tt
lacking-if n c None (Some bytes) is lacking = absurd (cc)
lacking-if n c (Some d) (Some bytes) is lacking = let same : d ≡ c = cc in (lacking.0, subst (λ (e : Taker). e.short ≡ Some n) same lacking.1)

module _ (log : Log) (asking : ℕ → Option Reading) (owed : List Unsent) where
  each-right : Rests log asking owed → (c : Taker) → find (is_numbered c.k) log.takers ≡ Some c → c.live ≡ true
      → StandsRight (came_of c.k log.calls) (standing_of (length log.calls) c)
  each-right rests c is live =
      let place = subst (λ (o : Option Taker). PlaceOf (is_accepted c.k log.calls) (came_of c.k log.calls) o (asking c.k) (unsent_in owed c.k)) is
      (rests.keeps.places c.k) in
      let lacking = lacking-if (length log.calls) c (find (is_numbered c.k) log.takers) (unsent_in owed c.k) is (rests.lacking c.k) in
      stands-right (is_accepted c.k log.calls) (came_of c.k log.calls) c (length log.calls) (asking c.k) (unsent_in owed c.k) place lacking live

  all-right : (cs : List Taker) → AreApart cs →
      ((c : Taker) → find (is_numbered c.k) cs ≡ Some c → c.live ≡ true → StandsRight (came_of c.k log.calls) (standing_of (length log.calls) c))
      → AllStand log.calls (map (standing_of (length log.calls)) (filter is_taking cs))
  all-right [] apart each = tt
  all-right (c ∷ cs) apart each =
      let rest = all-right cs apart.1 (λ d is live. each d (behind c cs d apart.0 is) live) in
      elim (cases_Bool c.live) [
        | inl live ↦ let own : eqb c.k c.k ≡ true = eq-eqb c.k c.k refl in
            let first = each c (rw own refl) live in rw live (first, rest)
        | inr shut ↦ rw shut rest
      ]

  -- a closed one was closed for a cause
  closed-right : (k : ℕ) (accepted : Bool) (came : Came) (o : Option Taker) (asking : Option Reading) (bytes : Option (List ℕ))
      → PlaceOf accepted came o asking bytes → accepted ≡ true → live_from o ≡ false → (stage_from o ≡ Closed) × Closes came (sent_from o)
  closed-right k accepted came None None None is was shut = absurd (let un = is.unaccepted in cc)
  closed-right k accepted came None None (Some bytes) is was shut = absurd is
  closed-right k accepted came None (Some reading) bytes is was shut = absurd is
  closed-right k accepted came (Some c) None None is was shut = (closed-shut c is.shut, is.cause)
  closed-right k accepted came (Some c) None (Some bytes) is was shut = absurd (let live = is.live in cc)
  closed-right k accepted came (Some c) (Some reading) None is was shut = absurd (let live = is.live in cc)
  closed-right k accepted came (Some c) (Some reading) (Some bytes) is was shut = absurd is

  unlisted-shut : (k : ℕ) → list_any (is_of k) (standings_in log) ≡ false → live_from (find (is_numbered k) log.takers) ≡ false
  unlisted-shut k none = by (find (is_numbered k) log.takers) refl where
    by : (o : Option Taker) → find (is_numbered k) log.takers ≡ o → live_from o ≡ false
    by None is = refl
    by (Some c) is = unlisted (length log.calls) k log.takers c none is

  pub next-fits : Rests log asking owed → (moment : ℕ) (event : WireEvent) (bytes : List ℕ)
      → Fits log.takers log.calls (record { wait = true; moment = moment; event = event; bytes = bytes; standings = standings_in log })
  next-fits rests moment event bytes = record {
    waits = refl;
    stands = all-right log.takers rests.keeps.apart (each-right rests);
    closed = λ k accepted none. closed-right k (is_accepted k log.calls) (came_of k log.calls) (find (is_numbered k) log.takers) (asking k) (unsent_in owed k)
        (rests.keeps.places k) accepted (unlisted-shut k none);
  }
