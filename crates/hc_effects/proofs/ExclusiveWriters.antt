-- Who opens a hole is the only one who writes: no other open exchange is about the representation.
use Rattle.std.{proofs.{Common.{◌≡◌, ◌≢◌, inl, inr, ℕ, ◌<◌, List, [], ◌∷◌, Bool, true, false, Option, Some, None, refl, sym, ◌∙◌, arith}, lemmas.Bool.Decides.{nat_tests}}, specs.{Prelude.{filter, ◌&&◌, not}, Option.{option_or}}}
use Rattle.hc_text.proofs.Basics.{bool_cases, same_some as same_row}
use Rattle.hc_effects.proofs.Vocabulary.{is_written, bound, offset, hi_of, own_open, source, is_bound, shared_exchange, Tables, Representation, Consumer, Sound, Numbered, Among, IsAbout, IsBound, IsExclusiveWriter}
use Rattle.hc_model.specs.Sound as sound

-- what stands in a list and passes stays among those that pass
pub filter_some : (test : ℕ → Bool) (c : ℕ) (cs : List ℕ) → Among c cs → test c ≡ true → filter test cs ≢ []
filter_some test c [] among passes = absurd among
filter_some test c (d ∷ cs) (inl here) passes = λ e. let also : test d ≡ true = rw here passes in let never : (d ∷ filter test cs) ≡ [] = rw also at e in cc
filter_some test c (d ∷ cs) (inr there) passes = elim (bool_cases (test d)) [
  | inl also ↦ λ e. let never : (d ∷ filter test cs) ≡ [] = rw also at e in cc
  | inr not_also ↦ λ e. filter_some test c cs there passes (rw not_also at e)
]

pub eq-refl : (r : ℕ) → Rattle.std.specs.Prelude.nat_eq r r ≡ true
eq-refl r = grind (arith, nat_tests)

-- who is bound is among the bound
pub bound_some : (t : Tables) (r c : ℕ) (k : Consumer) → Numbered t → IsBound t r c k → bound t r ≢ []
unfolding bound
bound_some t r c k numbered (sound.is_bound lo hi how is place) =
    filter_some (λ d. is_bound r (t.consumer d)) c t.starts (numbered.lists.started c (rw is refl)) (rw (is, place) (eq-refl r))

-- an open exchange about r has a reader
pub about_read : (t : Tables) (r x : ℕ) (v : Representation) → Sound t → t.representation r ≡ Some v → IsAbout t r x → bound t r ≢ []
about_read t r x v s row about = elim (s.writes.had r x v row about) [
  | sound.shared on writer ↦ s.writes.has_bound r v row on
  | sound.own c k reader own none exclusive_writer ↦ bound_some t r c k s.numbered reader
]

-- where nobody is bound, no open exchange is about it: a first hole is opened there alone
pub none_about : (t : Tables) (r x : ℕ) (v : Representation) → Sound t → t.representation r ≡ Some v → bound t r ≡ [] → IsAbout t r x → ⊥
none_about t r x v s row nobody about = about_read t r x v s row about nobody

-- the exclusive writer is one
pub one_exclusive_writer : (t : Tables) (r : ℕ) (v : Representation) (c d : ℕ) → Sound t → IsExclusiveWriter t r v c → IsExclusiveWriter t r v d → c ≡ d
one_exclusive_writer t r v c d s (sound.first kept a) (sound.first also b) = s.writes.one_first r c d a b
one_exclusive_writer t r v c d s (sound.first kept a) (sound.alone lost b) = absurd (let never : false ≡ true = sym kept ∙ lost in cc)
one_exclusive_writer t r v c d s (sound.alone lost a) (sound.first kept b) = absurd (let never : false ≡ true = sym kept ∙ lost in cc)
one_exclusive_writer t r v c d s (sound.alone lost a) (sound.alone also b) = same_row v.alone c d a b

or_some : (o : Option ℕ) (x : ℕ) → option_or o (Some x) ≢ None
or_some None x = λ e. cc
or_some (Some y) x = λ e. cc

and_false : (b : Bool) → (b && false) ≡ true → ⊥
and_false b h = grind (arith, nat_tests)

-- a writer group has an exchange
pub writer_some : (t : Tables) (v : Representation) → is_written t v ≡ true → v.writer ≢ None
unfolding is_written
writer_some t v on none = and_false (not v.is_lost) (rw none at on)

-- who is bound to what is written by several has a source
pub shares_source : (t : Tables) (r c : ℕ) (v : Representation) (k : Consumer) (o : Option ℕ) → t.representation r ≡ Some v → IsBound t r c k →
    is_written t v ≡ true → v.writer ≡ o → source t k ≢ None
shares_source t r c v k None row is_reader on writer = absurd (writer_some t v on writer)
shares_source t r c v k (Some x) row (sound.is_bound lo hi how is place) on writer =
    let from : shared_exchange t k.place ≡ Some x = rw (place, row, on) writer in
    λ e. or_some (own_open t k) x (rw from at e)

own_source : (t : Tables) (x : ℕ) (k : Consumer) → own_open t k ≡ Some x → source t k ≢ None
own_source t x k own = λ e. let never : Some x ≡ None = rw own at e in cc

pub row_of : (t : Tables) (r c : ℕ) (k : Consumer) → IsBound t r c k → t.consumer c ≡ Some k
row_of t r c k (sound.is_bound lo hi how is place) = is

-- a consumer stands at a hole: nothing is due, it reads from no open exchange, and its next byte isn't stored
pub record IsAtHole (t : Tables) (r c hi : ℕ) (v : Representation) (k : Consumer) : Type 0 where
  pub row : t.representation r ≡ Some v
  pub is_reader : IsBound t r c k
  pub none_due : k.due ≡ None
  pub no_source : source t k ≡ None
  pub end : hi_of t k.place ≡ Some hi
  pub before : offset t k < hi
  pub missing : v.stored (offset t k) ≡ None

-- it is the exclusive writer
pub has_exclusive_writer : (t : Tables) (r c hi : ℕ) (v : Representation) (k : Consumer) → Sound t → IsAtHole t r c hi v k → IsExclusiveWriter t r v c
has_exclusive_writer t r c hi v k s at = elim (s.writes.served r c v k at.row at.is_reader at.none_due) [
  | sound.shares on ↦ absurd (shares_source t r c v k v.writer at.row at.is_reader on refl at.no_source)
  | sound.writes exclusive_writer ↦ exclusive_writer
  | sound.reads end is covered ↦ absurd (
      let same : end ≡ hi = same_row (hi_of t k.place) end hi is at.end in
      let below : offset t k < end = let b : offset t k < hi = at.before in omega arith in
      let there = covered (offset t k) (omega arith) below in
      let never : false ≡ true = rw at.missing at there in cc)
]

-- and so no open exchange is about what it reads: a later hole is opened there alone
pub none_about_hole : (t : Tables) (r c hi x : ℕ) (v : Representation) (k : Consumer) → Sound t → IsAtHole t r c hi v k → IsAbout t r x → ⊥
none_about_hole t r c hi x v k s at about = elim (s.writes.had r x v at.row about) [
  | sound.shared on writer ↦ shares_source t r c v k v.writer at.row at.is_reader on refl at.no_source
  | sound.own d u other own none exclusive_writer ↦
      let same : c ≡ d = one_exclusive_writer t r v c d s (has_exclusive_writer t r c hi v k s at) exclusive_writer in
      let also : t.consumer c ≡ Some u = rw same (row_of t r d u other) in
      let one : k ≡ u = same_row (t.consumer c) k u (row_of t r c k at.is_reader) also in
      own_source t x k (rw one own) at.no_source
]
