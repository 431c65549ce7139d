-- No more exchanges are open than consumers are live, in every run: each open one is read from by a live consumer.
--
-- An open exchange is somebody's: its consumer's own, its reader's own, or that of a writing for several, which
-- somebody reads. A member of such a writing has no other of its own, since one at most is open about what it reads. So
-- from each live consumer goes one exchange at most, and all open ones are among these. Their numbers fall, so each
-- stands once: and what falls is no longer than a list that has each of it.
use Rattle.std.{proofs.Common.{◌≡◌, ◌⊎◌, inl, inr, ℕ, suc, ◌+◌, ◌<◌, ◌≤◌, List, [], ◌∷◌, length, map, Bool, true, Option, Some, None, refl, ap, sym, ◌∙◌, arith}, specs.{Prelude.{filter, is_some, if◌then◌else◌, ◌==◌, unwrap_or}, Option.{option_or}}}
use Rattle.hc_text.proofs.Basics.{bool_cases, map_long, same_some as same_row}
use Rattle.hc_effects.proofs.Vocabulary.{Place, live, is_live, is_live_place, family, is_open, OfRuns, open_now, Descends, InOrder, is_written, bound, own_open, shared_exchange, source, Tables, Exchange, Representation, Consumer, Sound, Among, IsBound, IsAbout, tables, Whose, IsSomebodys, may_own, place}
use Rattle.hc_model.specs.Live.{IsReader, FewOpen}
use Rattle.hc_model.specs.Sound as sound
use Rattle.hc_model.specs.Whose as whose
use Rattle.hc_effects.proofs.{AboutKeeps.{own_open_is}, Basics.{false_true}, Closed.{among_filter}, HasBound.{among_passes, some_among, reader_of}, PieceKeeps.{eq_cases}, OfConsumers.{all_below}}
use Rattle.hc_laws.proofs.{OrderRuns.{descends_more, order_in_runs}, SoundRuns.{runs_are_sound}, WhoseRuns.{whose_in_runs}}

-- WHO READS FROM IT

module _ (t : Tables) (s : Sound t) (w : Whose t) where
  owner_live : (p : Place) → may_own p ≡ true → is_live_place p ≡ true
  owner_live (place.Turn x) own = refl
  owner_live (place.Bound r lo hi how) own = refl
  owner_live (place.Direct x) own = refl
  owner_live _ own = absurd (false_true own)

  bound_live : (r c : ℕ) (k : Consumer) → IsBound t r c k → is_live_place k.place ≡ true
  bound_live r c k (sound.is_bound lo hi how row at) = ap is_live_place at

  bound_row : (r c : ℕ) (k : Consumer) → IsBound t r c k → t.consumer c ≡ Some k
  bound_row r c k (sound.is_bound lo hi how row at) = row

  module _ (x : ℕ) (z : Exchange) (row : t.exchange x ≡ Some z) (on : z.is_open ≡ true) where
    own_from : (k : Consumer) → k.own ≡ Some x → source t k ≡ Some x
    own_from k own = ap (λ q. option_or q (shared_exchange t k.place)) (own_open_is t k x (record { own = own; w = z; row = row; opened = on }))

    -- of the members of a writing for several none has another of its own
    member_from : (r c : ℕ) (v : Representation) (k : Consumer) → t.representation r ≡ Some v → is_written t v ≡ true → v.writer ≡ Some x →
        IsBound t r c k → source t k ≡ Some x
    member_from r c v k there written writer reader = by_own (own_open t k) refl
      where
        about : IsAbout t r x
        about = let g = (s.rows r v there).growing x written writer in
            sound.headed g.0 g.1.row (ap (λ (q : Exchange). q.is_open) (same_row (t.exchange x) g.0 z g.1.row row) ∙ on) g.1.headed g.1.family_is
            (ap (λ (q : Option Representation). is_some q) there)

        shared : IsBound t r c k → shared_exchange t k.place ≡ Some x
        shared (sound.is_bound lo hi how its at) = rw (at, there, written) writer

        by_own : (q : Option ℕ) → own_open t k ≡ q → source t k ≡ Some x
        by_own None none = ap (λ q. option_or q (shared_exchange t k.place)) none ∙ shared reader
        by_own (Some y) own =
            ap (λ q. option_or q (shared_exchange t k.place)) own ∙ ap Some (s.one_about r y x (s.writes.own_about r c y k reader own) about)

    reader_by : IsSomebodys t x z → (c : ℕ) × IsReader t x c
    reader_by (whose.own k none its own may) = (z.c, record { k = k; row = its; live = owner_live k.place may; from = own_from k own })
    reader_by (whose.read c k v there reader own due owner) =
        (c, record { k = k; row = bound_row (family x z) c k reader; live = bound_live (family x z) c k reader; from = own_from k own })
    reader_by (whose.shared v there written writer) =
        let d = some_among (bound t (family x z)) (s.writes.has_bound (family x z) v there written) in
        let k = reader_of t (family x z) d.0 d.1 in (
          d.0,
          record {
            k = k.0;
            row = bound_row (family x z) d.0 k.0 k.1;
            live = bound_live (family x z) d.0 k.0 k.1;
            from =
                member_from (family x z) d.0 v k.0 there written writer k.1;
          },
        )

  open_row : (x : ℕ) (q : Option Exchange) → t.exchange x ≡ q → is_open q ≡ true → (c : ℕ) × IsReader t x c
  open_row x None row on = absurd (false_true on)
  open_row x (Some z) row on = reader_by x z row on (w.somebodys x z row on)

  read_by : (x : ℕ) → is_open (t.exchange x) ≡ true → (c : ℕ) × IsReader t x c
  read_by x on = open_row x (t.exchange x) refl on

-- HOW MANY

-- without the first x
abbrev without : ℕ → List ℕ → List ℕ
without x [] = []
without x (y ∷ ys) = if y == x then ys else y ∷ without x ys

pub one_fewer : (x : ℕ) (ys : List ℕ) → Among x ys → length ys ≡ suc (length (without x ys))
one_fewer x [] there = absurd there
one_fewer x (y ∷ ys) there = elim (eq_cases y x) [
  | inl here ↦ rw here.0 (omega arith)
  | inr off ↦ rw off.0 (let rest = one_fewer x ys (later there off.1) in omega (arith, rest))
]
  where
    later : Among x (y ∷ ys) → (y ≡ x → ⊥) → Among x ys
    later (inl here) other = absurd (other here)
    later (inr more) other = more

pub others_stay : (x q : ℕ) (ys : List ℕ) → (q ≡ x → ⊥) → Among q ys → Among q (without x ys)
others_stay x q [] other there = there
others_stay x q (y ∷ ys) other there = elim (eq_cases y x) [
  | inl here ↦ rw here.0 (behind there here.1)
  | inr off ↦ rw off.0 (by_place there (others_stay x q ys other))
]
  where
    behind : Among q (y ∷ ys) → y ≡ x → Among q ys
    behind (inl here) is = absurd (other (sym here ∙ is))
    behind (inr more) is = more

    by_place : Among q (y ∷ ys) → (Among q ys → Among q (without x ys)) → (y ≡ q) ⊎ Among q (without x ys)
    by_place (inl here) rest = inl here
    by_place (inr more) rest = inr (rest more)

-- as many as fall and stand in another list, that has at least so many
pub no_more : (n : ℕ) (xs ys : List ℕ) → Descends n xs → ((x : ℕ) → Among x xs → Among x ys) → length xs ≤ length ys
no_more n [] ys d all = omega arith
no_more n (x ∷ xs) ys d all =
    let rest : length xs ≤ length (without x ys) =
    no_more x xs (without x ys) d.1 (λ q there. others_stay x q ys (λ same. apart q there same) (all q (inr there))) in
    let count : length ys ≡ suc (length (without x ys)) = one_fewer x ys (all x (inl refl)) in
    omega arith
  where
    apart : (q : ℕ) → Among q xs → q ≡ x → ⊥
    apart q there same = let lt : q < x = all_below x q xs d.1 there in absurd (omega arith)

pub filter_falls : (test : ℕ → Bool) (n : ℕ) (xs : List ℕ) → Descends n xs → Descends n (filter test xs)
filter_falls test n [] d = tt
filter_falls test n (x ∷ xs) d = elim (bool_cases (test x)) [
  | inl on ↦ rw on (d.0, filter_falls test x xs d.1)
  | inr off ↦ rw off (filter_falls test n xs (descends_more x n xs (let lt : x < n = d.0 in omega arith) d.1))
]

pub among_mapped : (f : ℕ → ℕ) (c x : ℕ) (cs : List ℕ) → f c ≡ x → Among c cs → Among x (map f cs)
among_mapped f c x [] is there = there
among_mapped f c x (d ∷ ds) is (inl here) = inl (ap f here ∙ is)
among_mapped f c x (d ∷ ds) is (inr more) = inr (among_mapped f c x ds is more)

module _ (t : Tables) (s : Sound t) (w : Whose t) (order : InOrder t) where
  abbrev source_in : Option Consumer → Option ℕ
  source_in None = None
  source_in (Some k) = source t k

  abbrev from_of : ℕ → ℕ
  from_of c = unwrap_or (source_in (t.consumer c)) 0

  abbrev lives : List ℕ
  lives = filter (λ c. is_live (t.consumer c)) t.starts

  reads : (x : ℕ) → is_open (t.exchange x) ≡ true → Among x (map from_of lives)
  reads x on =
      let by = read_by t s w x on in
      let from : from_of by.0 ≡ x = ap (λ q. unwrap_or (source_in q) 0) by.1.row ∙ ap (λ q. unwrap_or q 0) by.1.from in
      let started : Among by.0 t.starts = s.numbered.lists.started by.0 (ap (λ (q : Option Consumer). is_some q) by.1.row) in
      among_mapped from_of by.0 x lives from (among_filter by.0 (λ c. is_live (t.consumer c)) t.starts (ap is_live by.1.row ∙ by.1.live) started)

  few : open_now t ≤ live t
  few =
      let all = no_more (t.opened + 1) (filter (λ x. is_open (t.exchange x)) t.openings) (map from_of lives)
      (filter_falls (λ x. is_open (t.exchange x)) (t.opened + 1) t.openings order.openings)
      (λ x there. reads x (among_passes (λ y. is_open (t.exchange y)) x t.openings there)) in
      let same = map_long from_of lives in
      omega (arith, all, same)

pub open_in_runs : OfRuns FewOpen
open_in_runs limits contents h may run =
    let t = tables contents h in
    let s = runs_are_sound limits contents h may run in
    let w = whose_in_runs limits contents h may run in
    record { read = read_by t s w; few = few t s w (order_in_runs limits contents h may run) }
