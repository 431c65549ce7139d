-- One connection is offered what it lacks.
--
-- It is owed what it lacks, so what it takes and what is left of it are its answer (`sent-kept`). If something is left it
-- took less than it was offered, and is put behind those that were offered theirs. If nothing is left it has taken its
-- answer, and is closed (`closed-kept`). What the others lack stays (`lacking-other`).
use Rattle.std.{proofs.{Common.{◌≡◌, ℕ, ◌<◌, List, [], ◌∷◌, ◌++◌, length, Bool, true, false, eqb, Option, Some, None, refl, sym, ap, subst, ◌∙◌, append_assoc}, lemmas.List.{append-nil}}, specs.{Prelude.{find, IfSome}, Option.{option_map}}}
use Rattle.hc_wire.specs.{Events.{Stage, closed_of, with_stage}, Following.{is_live, live_from}, Logs.{Log, Taker, Reports, changed_at, is_numbered, shut, taking, with_closed, with_sent}}
use Rattle.hc_msg.specs.Reading.{Reading}
use Rattle.hc_origin.specs.{Coming.{Came, came_of, is_accepted}, Answering.{IsAnswer}, Turns.{answered}, Endings.{IsLog}, Replies.{Sends, Unsent, unsent_in}, Keeping.{AreLacking, Follows, IsGone, IsLacking, IsOwing, Keeps, PlaceIn, PlaceOf}, Going.{AreOffered, GoesTo}}
use Rattle.hc_origin.proofs.{Fitting.{all-later, later-changed, later-shut}, Places.{at_or, keeps-log, place-same}, Steps.{follows-closed, follows-sent}, Takers.{apart-changed, apart_sym, find-changed, find-other}, Unsents.{moved, none-behind, once-moved, once-replaced, once-without, others-with, others-without, own-in, own-with, own-without}}

-- what one is kept as that lacks bytes
place-owes : (a : Bool) (came : Came) (o : Option Taker) (r : Option Reading) (u : Option (List ℕ)) (bytes : List ℕ) → PlaceOf a came o r u → u ≡ Some bytes
    → (c : Taker) × (o ≡ Some c) × (r ≡ None) × IsOwing came c bytes
place-owes a came None None None bytes is owes = absurd (cc)
place-owes a came None None (Some b) bytes is owes = absurd is
place-owes a came None (Some s) u bytes is owes = absurd is
place-owes a came (Some c) None None bytes is owes = absurd (cc)
place-owes a came (Some c) None (Some b) bytes is owes = let same : b ≡ bytes = cc in (c, refl, refl, subst (λ (l : List ℕ). IsOwing came c l) same is)
place-owes a came (Some c) (Some s) None bytes is owes = absurd (cc)
place-owes a came (Some c) (Some s) (Some b) bytes is owes = absurd is

-- what the others lack stays
lacking-other : (k : ℕ) (change : Taker → Taker) → ((c : Taker) → (change c).k ≡ c.k) → (log : Log) (us : List Unsent) → unsent_in us k ≡ None
    → AreLacking log us → AreLacking (record log { takers = changed_at k change log.takers }) us
lacking-other k change number log us none lacking = λ j. at_or k j
    (λ n. IfSome (unsent_in us n) (IsLacking (length log.calls) (find (is_numbered n) (changed_at k change log.takers))))
    (subst (λ (u : Option (List ℕ)). IfSome u (IsLacking (length log.calls) (find (is_numbered k) (changed_at k change log.takers)))) (sym none) tt)
    (λ off. subst (λ (o : Option Taker). IfSome (unsent_in us j) (IsLacking (length log.calls) o)) (sym (find-other k change number log.takers j off))
    (lacking j))

module _ (log : Log) (asking : ℕ → Option Reading) (us vs : List Unsent) (u v : Unsent) (number : v.k ≡ u.k) (keeps : Keeps log asking (us ++ u ∷ vs)) where
  owes : (c : Taker) × (find (is_numbered u.k) log.takers ≡ Some c) × (asking u.k ≡ None) × IsOwing (came_of u.k log.calls) c u.bytes
  owes = place-owes (is_accepted u.k log.calls) (came_of u.k log.calls) (find (is_numbered u.k) log.takers) (asking u.k) (unsent_in (us ++ u ∷ vs) u.k) u.bytes
      (keeps.places u.k) (own-in us vs u keeps.once)

  own_live : is_live log.takers u.k ≡ true
  own_live = ap live_from owes.1 ∙ owes.3.live

  own_alone : unsent_in vs u.k ≡ None
  own_alone = none-behind us vs u.k (own-without us vs u keeps.once)

  pub sent-kept : (bytes : List ℕ) (short : Bool) → bytes ++ v.bytes ≡ u.bytes → Keeps (with_sent u.k bytes short log) asking (us ++ v ∷ vs)
  sent-kept bytes short whole =
      let k = u.k in
      let c = owes.0 in
      let came = came_of k log.calls in
      let change = taking bytes short (length log.calls) in
      let found : find (is_numbered k) (changed_at k change log.takers) ≡ Some (change c) = find-changed k change (λ d. refl) log.takers ∙
      ap (option_map change) owes.1 in
      let once = once-replaced us vs u v number keeps.once in
      let own : unsent_in (us ++ v ∷ vs) k ≡ Some v.bytes = subst (λ (n : ℕ). unsent_in (us ++ v ∷ vs) n ≡ Some v.bytes) number (own-in us vs v once) in
      let text : c.sent ++ u.bytes ≡ (c.sent ++ bytes) ++ v.bytes = ap (λ (l : List ℕ). c.sent ++ l) (sym whole) ∙ sym (append_assoc c.sent bytes v.bytes) in
      let is : IsOwing came (change c) v.bytes =
      record { live = owes.3.live; reads = owes.3.reads; is = subst (λ (l : List ℕ). IsAnswer came l) text owes.3.is } in
      let place : PlaceIn (with_sent k bytes short log) asking (us ++ v ∷ vs) k =
      place-same (is_accepted k log.calls) _ _ _ _ _ None _ (Some v.bytes) _ refl refl (sym found) (sym owes.2) (sym own) is in
      record {
        places = λ j. at_or k j (PlaceIn (with_sent k bytes short log) asking (us ++ v ∷ vs)) place
            (λ off.
            let away : eqb u.k j ≡ false = apart_sym j k off in
            let away_v : eqb v.k j ≡ false = ap (λ (n : ℕ). eqb n j) number ∙ away in
            place-same _ _ _ _ _ _ _ _ _ _ refl refl (sym (find-other k change (λ d. refl) log.takers j off)) refl
            (others-without us vs u j away ∙ sym (others-without us vs v j away_v)) (keeps.places j));
        apart = apart-changed k change (λ d. refl) log.takers keeps.apart;
        fit = all-later log.takers (changed_at k change log.takers) [] log.calls (later-changed k change (λ d. refl) log.takers own_live) keeps.fit;
        dialled = keeps.dialled;
        once = once;
      }

  -- it took less than it was offered
  pub lacking-more : (bytes : List ℕ) → 0 < length v.bytes → AreLacking log vs → AreLacking (with_sent u.k bytes true log) (vs ++ v ∷ [])
  lacking-more bytes some lacking = λ j. at_or u.k j
      (λ n. IfSome (unsent_in (vs ++ v ∷ []) n) (IsLacking (length log.calls) (find (is_numbered n) (changed_at u.k change log.takers))))
      (subst (λ (w : Option (List ℕ)). IfSome w (IsLacking (length log.calls) (find (is_numbered u.k) (changed_at u.k change log.takers)))) (sym own)
      (subst (λ (o : Option Taker). IsLacking (length log.calls) o v.bytes) (sym found) (some, refl)))
      (λ off. let away : eqb v.k j ≡ false = ap (λ (n : ℕ). eqb n j) number ∙ apart_sym j u.k off in
      subst (λ (w : Option (List ℕ)). IfSome w (IsLacking (length log.calls) (find (is_numbered j) (changed_at u.k change log.takers))))
      (sym (others-with vs v j away))
      (subst (λ (o : Option Taker). IfSome (unsent_in vs j) (IsLacking (length log.calls) o)) (sym (find-other u.k change (λ d. refl) log.takers j off))
      (lacking j)))
    where
      change : Taker → Taker
      change = taking bytes true (length log.calls)

      found : find (is_numbered u.k) (changed_at u.k change log.takers) ≡ Some (change owes.0)
      found = find-changed u.k change (λ d. refl) log.takers ∙ ap (option_map change) owes.1

      own : unsent_in (vs ++ v ∷ []) u.k ≡ Some v.bytes
      own = subst (λ (n : ℕ). unsent_in (vs ++ v ∷ []) n ≡ Some v.bytes) number
          (own-with vs v (subst (λ (n : ℕ). unsent_in vs n ≡ None) (sym number) own_alone))

-- it took all
pub closed-kept : (log : Log) (asking : ℕ → Option Reading) (us vs : List Unsent) (v : Unsent) → Keeps log asking (us ++ v ∷ vs) → v.bytes ≡ []
    → Keeps (with_closed v.k log) asking (us ++ vs)
closed-kept log asking us vs v keeps none =
    let k = v.k in
    let own = owes log asking us vs v v refl keeps in
    let c = own.0 in
    let came = came_of k log.calls in
    let found : find (is_numbered k) (changed_at k shut log.takers) ≡ Some (shut c) = find-changed k shut (λ d. refl) log.takers ∙ ap (option_map shut) own.1 in
    let text : c.sent ++ v.bytes ≡ c.sent = ap (λ (l : List ℕ). c.sent ++ l) none ∙ append-nil c.sent in
    let is : IsGone came (shut c) = record { shut = refl; cause = answered (subst (λ (l : List ℕ). IsAnswer came l) text own.3.is) } in
    let place : PlaceIn (with_closed k log) asking (us ++ vs) k =
    place-same (is_accepted k log.calls) _ _ _ _ _ None _ None _ refl refl (sym found) (sym own.2) (sym (own-without us vs v keeps.once)) is in
    record {
      places = λ j. at_or k j (PlaceIn (with_closed k log) asking (us ++ vs)) place
          (λ off. place-same _ _ _ _ _ _ _ _ _ _ refl refl (sym (find-other k shut (λ d. refl) log.takers j off)) refl
          (others-without us vs v j (apart_sym j k off)) (keeps.places j));
      apart = apart-changed k shut (λ d. refl) log.takers keeps.apart;
      fit = all-later log.takers (changed_at k shut log.takers) [] log.calls (later-shut k log.takers) keeps.fit;
      dialled = keeps.dialled;
      once = once-without us vs v keeps.once;
    }

-- WHAT AN OFFER COMES TO

module _ (reports : Bool) (reported mid : Option Log) (stages next : ℕ → Stage) (log : Log) (asking : ℕ → Option Reading) (us vs : List Unsent) (u v : Unsent)
    (follows : Follows reports reported stages log) (keeps : Keeps log asking (us ++ u ∷ vs)) (number : v.k ≡ u.k) (same : (j : ℕ) → next j ≡ stages j) where
  pub offers-some : AreLacking log vs → Sends reported mid u.k u.bytes v.bytes true → 0 < length v.bytes → GoesTo reports log mid next (AreOffered asking us (vs ++ v ∷ []))
  offers-some lacking sends some =
      let kept = sent-kept log asking us vs u v number keeps sends.bytes true sends.whole in record {
        next = with_sent u.k sends.bytes true log;
        follows = follows-sent reports reported mid stages next log follows u.k sends.bytes true sends.reports same;
        calls = refl;
        bound = refl;
        holds = (
          record {
            places = λ j. place-same _ _ _ _ _ _ _ _ _ _ refl refl refl refl (sym (moved us vs v j kept.once)) (kept.places j);
            apart = kept.apart;
            fit = kept.fit;
            dialled = kept.dialled;
            once = once-moved us vs v kept.once;
          },
          lacking-more log asking us vs u v number keeps sends.bytes some lacking,
        );
      }

  -- the log behind it, whatever comes then
  pub offers-log : (short : Bool) → Sends reported mid u.k u.bytes v.bytes short → GoesTo reports log mid next IsLog
  offers-log short sends = record {
    next = with_sent u.k sends.bytes short log;
    follows = follows-sent reports reported mid stages next log follows u.k sends.bytes short sends.reports same;
    calls = refl;
    bound = refl;
    holds = keeps-log _ asking (us ++ v ∷ vs) (sent-kept log asking us vs u v number keeps sends.bytes short sends.whole);
  }

  pub offers-all : (new : Option Log) (last : ℕ → Stage) → AreLacking log vs → Sends reported mid u.k u.bytes v.bytes false → v.bytes ≡ []
      → Reports mid new (with_closed v.k) → ((j : ℕ) → last j ≡ with_stage v.k (closed_of (next v.k)) next j) →
      GoesTo reports log new last (AreOffered asking us vs)
  offers-all new last lacking sends none more stays =
      let sent = with_sent u.k sends.bytes false log in
      let kept = sent-kept log asking us vs u v number keeps sends.bytes false sends.whole in
      let alone : unsent_in vs v.k ≡ None = none-behind us vs v.k (own-without us vs v kept.once) in
      let alone_u : unsent_in vs u.k ≡ None = subst (λ (n : ℕ). unsent_in vs n ≡ None) number alone in record {
        next = with_closed v.k sent;
        follows = follows-closed reports mid new next last sent
            (follows-sent reports reported mid stages next log follows u.k sends.bytes false sends.reports same) v.k more stays;
        calls = refl;
        bound = refl;
        holds = (
          closed-kept sent asking us vs v kept none,
          lacking-other v.k shut (λ d. refl) sent vs alone
              (lacking-other u.k (taking sends.bytes false (length log.calls)) (λ d. refl) log vs alone_u lacking),
        );
      }

  -- the same with its own number
  pub offers-closed : (new : Option Log) (last : ℕ → Stage) (own : ℕ) → own ≡ v.k → AreLacking log vs → Sends reported mid u.k u.bytes v.bytes false →
      v.bytes ≡ []
      → Reports mid new (with_closed own) → ((j : ℕ) → last j ≡ with_stage own (closed_of (next own)) next j) →
      GoesTo reports log new last (AreOffered asking us vs)
  offers-closed new last own is lacking sends none more stays = offers-all new last lacking sends none
      (subst (λ (n : ℕ). Reports mid new (with_closed n)) is more)
      (subst (λ (n : ℕ). (j : ℕ) → last j ≡ with_stage n (closed_of (next n)) next j) is stays)
