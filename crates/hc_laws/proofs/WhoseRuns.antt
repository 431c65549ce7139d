-- Each open exchange is somebody's, in every run.
use Rattle.std.{proofs.{lemmas.Bool.Decides.{nat_tests}, Common.{arith, ◌≡◌, ℕ, true, Option, Some, None, refl, ap}}, specs.Prelude.{is_some}}
use Rattle.hc_effects.proofs.Vocabulary.{Response, Place, family, IsOfOneKey, OfRuns, Owners, IsAwaiting, Places, own_open, Tables, Exchange, Representation, Consumer, Sound, IsHad, tables, Whose, IsSomebodys, IsOwner, may_own}
use Rattle.hc_model.specs.Sound as sound
use Rattle.hc_model.specs.Whose.{IsOfKey}
use Rattle.hc_model.specs.Whose as whose
use Rattle.hc_effects.proofs.{AboutKeeps.{own_open_of}, ExclusiveWriters.{none_about}}
use Rattle.hc_laws.proofs.{GrowingRuns.{brings_headed}, InRuns.{turned_in_runs}, OwnersFor.{owners_for}, PlaceRuns.{places_in_runs}, SoundRuns.{carried}}

module _ (t : Tables) (s : Sound t) (o : Owners t) (one : IsOfOneKey t) (places : Places t)
    (owner : (c x : ℕ) (k : Consumer) (w : Exchange) → t.consumer c ≡ Some k → k.own ≡ Some x → t.exchange x ≡ Some w → IsOwner t x w c) where
  awaiting_owns : (x : ℕ) (w : Exchange) (p : Place) → IsAwaiting x w p → may_own p ≡ true
  awaiting_owns x w p it3 = grind (arith, nat_tests)

  module _ (x : ℕ) (w : Exchange) (row : t.exchange x ≡ Some w) (on : w.is_open ≡ true) where
    -- of no representation
    own_by : (q : Option Response) → w.head ≡ q → t.representation (family x w) ≡ None → IsSomebodys t x w
    own_by None bare none = let a = o.waiting x w row on bare in whose.own a.k none a.row a.own (awaiting_owns x w a.k.place a.at)
    own_by (Some response) is none =
        let r = places.read x w row on (ap (λ (q : Option Response). is_some q) is) none in
        whose.own r.k none r.row (places.direct w.c x r.k r.row r.place_is).own (ap may_own r.place_is)

    had_by : (v : Representation) → t.representation (family x w) ≡ Some v → IsHad t (family x w) v x → IsSomebodys t x w
    had_by v there (sound.shared written writer) = whose.shared v there written writer
    had_by v there (sound.own c k reader open_own none exclusive_writer) =
        let own = (own_open_of t k x open_own).own in
        whose.read c k v there reader own none (owner c x k w (bound_row reader) own row)
      where
        bound_row : sound.IsBound t (family x w) c k → t.consumer c ≡ Some k
        bound_row (sound.is_bound lo hi how is at) = is

    -- what is founded has its head
    headed : (v : Representation) → t.representation (family x w) ≡ Some v → is_some w.head ≡ true
    headed v there = brings_headed t s x (family x w) w v row there refl

    by_row : (q : Option Representation) → t.representation (family x w) ≡ q → IsSomebodys t x w
    by_row None none = own_by w.head refl none
    by_row (Some v) there = had_by v there
        (s.writes.had (family x w) x v there (sound.headed w row on (headed v there) refl (ap (λ (q : Option Representation). is_some q) there)))

  -- who owns an open one
  stands_by : (c x : ℕ) (k : Consumer) → t.consumer c ≡ Some k → own_open t k ≡ Some x → (p : Place) → k.place ≡ p → may_own p ≡ true
  stands_by c x k row own p at = grind (arith, nat_tests)

  writer_of_key : (r x : ℕ) (v : Representation) → t.representation r ≡ Some v → v.writer ≡ Some x → IsOfKey t x v.key
  writer_of_key r x v there writer =
      let its = one.exchanges.writers r x v there writer in
      grind (arith, nat_tests)

  pub whose_by : Whose t
  whose_by = record {
    somebodys = λ x w row on. by_row x w row on (t.representation (family x w)) refl;
    owner = owner;
    stands = λ c x k row own. stands_by c x k row own k.place refl;
    unread = λ r x v there nobody about. none_about t r x v s there nobody about;
    writer_key = writer_of_key;
  }

pub whose_in_runs : OfRuns Whose
whose_in_runs limits contents h may run =
    let c = carried limits contents h may run in
    whose_by (tables contents h) c.is_sound c.is_owned (turned_in_runs limits contents h may run).one (places_in_runs limits contents h may run)
    (owners_for limits contents h may run).owner
