-- Who goes on when a representation is lost: whoever may go on writing does, and the others have all they need.
--
-- The exclusive writer is the least of those that may write alone. Where one number is all there is, it is the least
-- (`least_all`, `writers_all`), and there is one where somebody may write (`writers_among`). Who came alone is the only
-- one (`first_by`), so who may write is exclusive (`exclusive_is`). Who came alone and may not write has all that it
-- needs (`no_more`). Hence `goes_on_or_rests`; laws on who goes on use it.
use Rattle.std.{proofs.{Common.{◌≡◌, ◌≢◌, ◌⊎◌, inl, inr, ℕ, List, [], ◌∷◌, Bool, true, false, Option, Some, None, refl, ap, sym, ◌∙◌, subst, arith}, lemmas.Bool.Decides.{nat_tests}}, specs.{Prelude.{is_some, is_none, ◌&&◌, filter, map}, Option.{option_or}}}
use Rattle.hc_text.proofs.Basics.{all_three, not_false, bool_cases, or_off_right as or_right, same_some as same_row}
use Rattle.hc_sparse.specs.Cells.{Covers}
use Rattle.hc_effects.proofs.Vocabulary.{covers, is_written, bound, is_bound_place, is_bound, offset, hi_of, Tables, Representation, Consumer, Sound, Among, IsBound, IsFirst, IsExclusiveWriter, may_write, bound_kind, bound_as, exclusive, came_alone, has_more, lacks_some, Place, least, lesser, is_of, is_same_kind}
use Rattle.hc_rules.specs.Admissions.{numbers}
use Rattle.hc_rules.specs.declared.admission.BoundKind.TheVariants as kind
use Rattle.hc_event.specs.declared.place.Place.TheVariants as place
use Rattle.hc_model.specs.Sound as sound
use Rattle.hc_effects.proofs.{HoleLemmas.{covers_all}, ExclusiveWriters.{eq-refl, row_of}}

-- THE LEAST OF A LIST OF ONE NUMBER

-- each is this number
abbrev AllAre : ℕ → List ℕ → Type 0
AllAre c [] = Unit {0}
AllAre c (d ∷ ds) = (d ≡ c) × AllAre c ds

lesser_same : (c d : ℕ) (o : Option ℕ) → d ≡ c → (o ≡ None) ⊎ (o ≡ Some c) → lesser o d ≡ Some c
lesser_same c d o same h = grind (arith, nat_tests)

least_all : (c : ℕ) (cs : List ℕ) → AllAre c cs → (least cs ≡ None) ⊎ (least cs ≡ Some c)
least_all c [] all = inl refl
least_all c (d ∷ ds) all = inr (lesser_same c d (least ds) all.0 (least_all c ds all.1))

least_some : (c : ℕ) (cs : List ℕ) → AllAre c cs → cs ≢ [] → least cs ≡ Some c
least_some c [] all some = absurd (some refl)
least_some c (d ∷ ds) all some = lesser_same c d (least ds) all.0 (least_all c ds all.1)

-- those of a list that are bound and write alone
abbrev writers : Tables → ℕ → Representation → List ℕ → List ℕ
writers t r v cs =
    numbers (filter (is_of kind.Exclusive) (map (bound_as t v) (filter (λ c. is_bound r (t.consumer c)) cs)))

abbrev writes_alone : Tables → Representation → ℕ → Bool
writes_alone t v c = is_same_kind (bound_kind t v c) kind.Exclusive

writers_all : (t : Tables) (r : ℕ) (v : Representation) (c : ℕ) (cs : List ℕ) →
    ((d : ℕ) → is_bound r (t.consumer d) ≡ true → writes_alone t v d ≡ true → d ≡ c) → AllAre c (writers t r v cs)
writers_all t r v c [] one = tt
writers_all t r v c (d ∷ ds) one = elim (bool_cases (is_bound r (t.consumer d))) [
  | inr fails ↦ rw fails (writers_all t r v c ds one)
  | inl passes ↦ rw passes (elim (bool_cases (writes_alone t v d)) [
    | inl also ↦ rw also (one d passes also, writers_all t r v c ds one)
    | inr not_also ↦ rw not_also (writers_all t r v c ds one)
  ])
]

writers_among : (t : Tables) (r : ℕ) (v : Representation) (c : ℕ) (cs : List ℕ) → Among c cs → is_bound r (t.consumer c) ≡ true →
    writes_alone t v c ≡ true → Among c (writers t r v cs)
writers_among t r v c [] among bound alone = absurd among
writers_among t r v c (d ∷ ds) (inl here) bound alone =
    let also : is_bound r (t.consumer d) ≡ true = ap (λ n. is_bound r (t.consumer n)) here ∙ bound in
    let too : writes_alone t v d ≡ true = ap (writes_alone t v) here ∙ alone in
    rw (also, too) (inl here)
writers_among t r v c (d ∷ ds) (inr there) bound alone = elim (bool_cases (is_bound r (t.consumer d))) [
  | inr fails ↦ rw fails (writers_among t r v c ds there bound alone)
  | inl passes ↦ rw passes (elim (bool_cases (writes_alone t v d)) [
    | inl also ↦ rw also (inr (writers_among t r v c ds there bound alone))
    | inr not_also ↦ rw not_also (writers_among t r v c ds there bound alone)
  ])
]

among_some : (c : ℕ) (cs : List ℕ) → Among c cs → cs ≢ []
among_some c [] among = absurd among
among_some c (d ∷ ds) among = λ e. cc

-- who may write does so alone, where the writing isn't shared
may_alone : (t : Tables) (v : Representation) (c : ℕ) → is_written t v ≡ false → may_write t v (t.consumer c) ≡ true → writes_alone t v c ≡ true
may_alone t v c off may = rw (off, may) refl

alone_may : (t : Tables) (v : Representation) (c : ℕ) → is_written t v ≡ false → writes_alone t v c ≡ true → may_write t v (t.consumer c) ≡ true
alone_may t v c off alone = grind (arith, nat_tests)

-- EXCLUSIVE WRITERS

-- an exclusive writer is a first one
first_by : (t : Tables) (r d : ℕ) (v : Representation) (k : Consumer) (place : Place) → t.consumer d ≡ Some k → k.place ≡ place →
    is_bound_place r place ≡ true → came_alone t place ≡ true → IsFirst t r d
first_by t r d v k (place.Bound q lo hi how) row at bound alone = let same : q ≡ r = grind (arith, nat_tests) in
    sound.first k lo hi how row (at ∙ ap (λ (z : ℕ). place.Bound z lo hi how) same)
    (subst (λ (z : ℕ). came_alone t (place.Bound z lo hi how) ≡ true) same alone)
first_by t r d v k _ row at bound alone = absurd (let never : false ≡ true = bound in cc)

and3 : (a b c : Bool) → (a && b && c) ≡ true → a ≡ true
and3 a b c h = grind (arith, nat_tests)

first_of : (t : Tables) (r d : ℕ) (v : Representation) (o : Option Consumer) → t.consumer d ≡ o → is_bound r o ≡ true → may_write t v o ≡ true → IsFirst t r d
first_of t r d v None row bound alone = absurd (let never : false ≡ true = bound in cc)
first_of t r d v (Some k) row bound alone = first_by t r d v k k.place row refl bound (and3 (came_alone t k.place) (is_none k.due) (has_more t v k) alone)

is_bound_row : (t : Tables) (r c : ℕ) (k : Consumer) → IsBound t r c k → is_bound r (t.consumer c) ≡ true
is_bound_row t r c k (sound.is_bound lo hi how row at) = ap (is_bound r) row ∙ (ap (is_bound_place r) at ∙ eq-refl r)

-- who is exclusive is the exclusive writer
pub exclusive_is : (t : Tables) (r c : ℕ) (v : Representation) (k : Consumer) → Sound t → IsBound t r c k → is_written t v ≡ false →
    may_write t v (Some k) ≡ true → exclusive t r v ≡ Some c
unfolding exclusive bound
exclusive_is t r c v k s reader unwritten may =
    let bound_c = is_bound_row t r c k reader in
    let may_c : may_write t v (t.consumer c) ≡ true = ap (may_write t v) (row_of t r c k reader) ∙ may in
    let first_c = first_of t r c v (t.consumer c) refl bound_c may_c in
    let one = writers_all t r v c t.starts
    (λ d bound alone. s.writes.one_first r d c (first_of t r d v (t.consumer d) refl bound (alone_may t v d unwritten alone)) first_c) in
    let in_starts = s.numbered.lists.started c (ap is_some (row_of t r c k reader)) in
    let there = writers_among t r v c t.starts in_starts bound_c (may_alone t v c unwritten may_c) in
    least_some c (writers t r v t.starts) one (among_some c (writers t r v t.starts) there)

-- WHO GOES ON

-- all that is left is stored
pub record HasRest (t : Tables) (v : Representation) (k : Consumer) : Type 0 where
  pub hi : ℕ
  pub end : hi_of t k.place ≡ Some hi
  pub covered : Covers v.stored (offset t k) hi

pub no_more : (t : Tables) (v : Representation) (k : Consumer) (o : Option ℕ) → hi_of t k.place ≡ o → is_some o ≡ true →
    lacks_some v (offset t k) o ≡ false → HasRest t v k
no_more t v k None is some none = absurd (let never : false ≡ true = some in cc)
no_more t v k (Some hi) is some none =
    record { hi = hi; end = is; covered = covers_all v.stored v.reach (offset t k) hi (not_false (covers v.stored v.reach (offset t k) hi) none) }

pub or_end : (hi o : Option ℕ) → is_some hi ≡ true → is_some (option_or hi o) ≡ true
or_end hi o some = grind (arith, nat_tests)

by_first : (t : Tables) (r c : ℕ) (v : Representation) (k : Consumer) → Sound t → IsBound t r c k → k.due ≡ None → is_written t v ≡ false →
    IsFirst t r c → (exclusive t r v ≡ Some c) ⊎ HasRest t v k
by_first t r c v k s reader none_due unwritten (sound.first u lo hi how row at alone) =
    let one : u ≡ k = same_row (t.consumer c) u k row (row_of t r c k reader) in
    let place : k.place ≡ place.Bound r lo hi how = ap (λ (w : Consumer). w.place) (sym one) ∙ at in
    let came : came_alone t k.place ≡ true = ap (came_alone t) place ∙ alone in
    elim (bool_cases (has_more t v k)) [
      | inl more ↦ inl (exclusive_is t r c v k s reader unwritten
          (all_three (came_alone t k.place) (is_none k.due) (has_more t v k) came (ap is_none none_due) more))
      | inr none ↦
          let known : is_some (hi_of t k.place) ≡ true = ap (λ p. is_some (hi_of t p)) place ∙
          or_end hi _ (s.writes.known_end r c lo hi how k (row_of t r c k reader) place alone) in
          inr (no_more t v k (hi_of t k.place) refl known (or_right _ (lacks_some v (offset t k) (hi_of t k.place)) none))
    ]

-- Where no writing is shared, a bound consumer without a due failure is the one that goes on, or needs nothing more.
pub goes_on_or_rests : (t : Tables) (r c : ℕ) (v : Representation) (k : Consumer) → Sound t → t.representation r ≡ Some v → IsBound t r c k →
    k.due ≡ None → is_written t v ≡ false → v.is_lost ≡ false → (exclusive t r v ≡ Some c) ⊎ HasRest t v k
goes_on_or_rests t r c v k s row reader none_due unwritten kept = elim (s.writes.served r c v k row reader none_due) [
  | sound.shares on ↦ absurd (let never : false ≡ true = sym unwritten ∙ on in cc)
  | sound.reads hi end covered ↦ inr (record { hi = hi; end = end; covered = covered })
  | sound.writes exclusive_writer ↦ by_exclusive_writer exclusive_writer
]
  where
    by_exclusive_writer : IsExclusiveWriter t r v c → (exclusive t r v ≡ Some c) ⊎ HasRest t v k
    by_exclusive_writer (sound.first fresh is) = by_first t r c v k s reader none_due unwritten is
    by_exclusive_writer (sound.alone lost is) = absurd (let never : false ≡ true = sym kept ∙ lost in cc)
