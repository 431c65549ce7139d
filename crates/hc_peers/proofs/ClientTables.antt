-- The work lists of the clients, as one row changes. The table of live consumers is followed through three cases: the
-- consumer of the row stays, comes or goes. Of the set of those to be read only what it says of the row is new. The set
-- of those that are looked at may grow; it loses the row alone, where it is settled. Each lemma has the rows before and
-- now, and what changed between them, so that an answer gives it what the calls of std's maps say.
use Rattle.std.{proofs.{Common.{◌≡◌, ◌≢◌, ℕ, Bool, true, false, Option, Some, None, eqb, inl, inr, sym, ap, ◌∙◌}, lemmas.Bool.{cases_Bool, eqb-true, eqb-false}}, specs.{Prelude.{nat_eq, is_none, ◌&&◌, if◌then◌else◌}, HashMap.{HashMap}, BTreeMap.{BTreeMap}, BTreeSet.{BTreeSet}, Ordering.{nat_cmp}}}
use Rattle.std.specs.HashMap as hash
use Rattle.std.specs.BTreeMap as tree
use Rattle.std.specs.BTreeSet as set
use Rattle.hc_text.proofs.Basics.{some_same as some-same}
use Rattle.hc_peers.specs.{declared.client.Client.{Client}, Agreement.{IsLiveTable, IsReadySet, IsTouchedSet, consumer_at, ready_at, settled_at}}
use Rattle.hc_peers.proofs.Changes.{Changed, at-each, changed-by}

module _ {S : Type 0} (rows now : HashMap ℕ Client S) (k : ℕ) (after : Option Client)
    (change : Changed k after (hash.get nat_eq rows) (hash.get nat_eq now)) where
  -- LIVE CONSUMERS

  consumer-same : consumer_at after ≡ consumer_at (hash.get nat_eq rows k) → (j : ℕ) →
      consumer_at (hash.get nat_eq now j) ≡ consumer_at (hash.get nat_eq rows j)
  consumer-same same = at-each (λ j. consumer_at (hash.get nat_eq now j) ≡ consumer_at (hash.get nat_eq rows j)) k (ap consumer_at change.here ∙ same)
      (λ j ne. ap consumer_at (change.apart j ne))

  -- the consumer of the row stays
  pub live-kept : (live live' : BTreeMap ℕ ℕ) → IsLiveTable rows live → consumer_at after ≡ consumer_at (hash.get nat_eq rows k)
      → ((d : ℕ) → tree.get nat_cmp live' d ≡ tree.get nat_cmp live d) → IsLiveTable now live'
  live-kept live live' h same still =
      (λ d j is. consumer-same same j ∙ h.0 d j (sym (still d) ∙ is), λ d j is. still d ∙ h.1 d j (sym (consumer-same same j) ∙ is))

  module _ (c : ℕ) (live live' : BTreeMap ℕ ℕ) (h : IsLiveTable rows live) where
    -- it has one now
    pub live-new : Changed c (Some k) (tree.get nat_cmp live) (tree.get nat_cmp live') → consumer_at (hash.get nat_eq rows k) ≡ None →
        consumer_at after ≡ Some c
        → ((j : ℕ) → consumer_at (hash.get nat_eq rows j) ≢ Some c) → IsLiveTable now live'
    live-new more none some nobody = (
      λ d j is. elim (cases_Bool (eqb d c)) [
        | inl on ↦
            let e = eqb-true d c on in
            let at : Some k ≡ Some j = sym more.here ∙ (ap (tree.get nat_cmp live') (sym e) ∙ is) in
            let same = some-same k j at in
            ap (λ (i : ℕ). consumer_at (hash.get nat_eq now i)) (sym same) ∙ (ap consumer_at change.here ∙ (some ∙ ap Some (sym e)))
        | inr off ↦
            let was = h.0 d j (sym (more.apart d (eqb-false d c off)) ∙ is) in
            let ne : j ≢ k = λ e. absurd (let n : None ≡ Some d = sym none ∙ (ap (λ (i : ℕ). consumer_at (hash.get nat_eq rows i)) (sym e) ∙ was) in cc) in
            ap consumer_at (change.apart j ne) ∙ was
      ],
      λ d j is. elim (cases_Bool (eqb j k)) [
        | inl on ↦
            let e = eqb-true j k on in
            let at : Some c ≡ Some d = sym some ∙ (sym (ap consumer_at change.here) ∙ (ap (λ (i : ℕ). consumer_at (hash.get nat_eq now i)) (sym e) ∙ is)) in
            ap (tree.get nat_cmp live') (sym (some-same c d at)) ∙ (more.here ∙ ap Some (sym e))
        | inr off ↦
            let was = sym (ap consumer_at (change.apart j (eqb-false j k off))) ∙ is in
            let ne : d ≢ c = λ e. nobody j (was ∙ ap Some e) in
            more.apart d ne ∙ h.1 d j was
      ],
    )

    -- it has none any more
    pub live-gone : Changed c None (tree.get nat_cmp live) (tree.get nat_cmp live') → consumer_at (hash.get nat_eq rows k) ≡ Some c →
        consumer_at after ≡ None → IsLiveTable now live'
    live-gone less some none = (
      λ d j is. elim (cases_Bool (eqb d c)) [
        | inl on ↦ let e = eqb-true d c on in absurd (let n : None ≡ Some j = sym less.here ∙ (ap (tree.get nat_cmp live') (sym e) ∙ is) in cc)
        | inr off ↦
            let was = h.0 d j (sym (less.apart d (eqb-false d c off)) ∙ is) in
            let ne : j ≢ k = λ e. eqb-false d c off (some-same d c (sym was ∙ (ap (λ (i : ℕ). consumer_at (hash.get nat_eq rows i)) e ∙ some))) in
            ap consumer_at (change.apart j ne) ∙ was
      ],
      λ d j is. elim (cases_Bool (eqb j k)) [
        | inl on ↦ let e = eqb-true j k on in
            absurd (let n : None ≡ Some d = sym none ∙
            (sym (ap consumer_at change.here) ∙ (ap (λ (i : ℕ). consumer_at (hash.get nat_eq now i)) (sym e) ∙ is)) in cc)
        | inr off ↦
            let was = sym (ap consumer_at (change.apart j (eqb-false j k off))) ∙ is in
            let ne : d ≢ c = λ e. eqb-false j k off (some-same j k (sym (h.1 d j was) ∙ (ap (tree.get nat_cmp live) e ∙ h.1 c k some))) in
            less.apart d ne ∙ h.1 d j was
      ],
    )

  -- of the one that had it, an answer leaves it or takes it away
  pub live-answered : (c : ℕ) (live live' : BTreeMap ℕ ℕ) → IsLiveTable rows live → consumer_at (hash.get nat_eq rows k) ≡ Some c → (over : Bool) →
      consumer_at after ≡ (if over then None else Some c)
      → ((d : ℕ) → tree.get nat_cmp live' d ≡ (if is_none (consumer_at after) && eqb d c then None else tree.get nat_cmp live d)) → IsLiveTable now live'
  live-answered c live live' h some true is left = live-gone c live live' h (changed-by c None _ _ (rw is at left)) some is
  live-answered c live live' h some false is left = live-kept live live' h (is ∙ sym some) (rw is at left)

  -- THOSE TO BE READ

  pub ready-now : (ready ready' : BTreeSet ℕ) → IsReadySet rows ready →
      Changed k (ready_at after) (set.contains nat_cmp ready) (set.contains nat_cmp ready') → IsReadySet now ready'
  ready-now ready ready' h more = at-each (λ j. set.contains nat_cmp ready' j ≡ ready_at (hash.get nat_eq now j)) k
      (more.here ∙ sym (ap ready_at change.here)) (λ j ne. more.apart j ne ∙ (h j ∙ sym (ap ready_at (change.apart j ne))))

  -- THOSE THAT ARE LOOKED AT

  pub touched-now : (touched touched' : BTreeSet ℕ) → IsTouchedSet rows touched →
      ((j : ℕ) → j ≢ k → set.contains nat_cmp touched' j ≡ false → set.contains nat_cmp touched j ≡ false)
      → (set.contains nat_cmp touched' k ≡ false → settled_at after ≡ true) → IsTouchedSet now touched'
  touched-now touched touched' h more at = at-each (λ j. set.contains nat_cmp touched' j ≡ false → settled_at (hash.get nat_eq now j) ≡ true) k
      (λ off. ap settled_at change.here ∙ at off) (λ j ne off. ap settled_at (change.apart j ne) ∙ h j (more j ne off))
