-- Who writes alone is bound, came alone, has nothing due and more to come.
use Rattle.std.{proofs.{lemmas.Bool.Decides.{nat_tests}, Common.{arith, ◌≡◌, ◌⊎◌, inl, inr, ℕ, List, [], ◌∷◌, Bool, true, false, Some, None, ap, sym, ◌∙◌}}, specs.Prelude.{if◌then◌else◌, is_none, ◌&&◌, map, filter}}
use Rattle.hc_text.proofs.Basics.{and_left, and_right, bool_cases, none_by as none_of}
use Rattle.hc_effects.proofs.Vocabulary.{is_of, is_same_kind, is_written, bound, Tables, Representation, Consumer, Among, IsBound, IsFirst, may_write, has_more, came_alone, bound_kind, bound_as, exclusive}
use Rattle.hc_rules.specs.Admissions.{numbers}
use Rattle.hc_rules.specs.declared.admission.BoundKind.TheVariants as kind
use Rattle.hc_model.specs.Sound as sound
use Rattle.hc_effects.proofs.{HadKeeps.{among_least}, HasBound.{reader_of}}

among_writers : (t : Tables) (v : Representation) (c : ℕ) (ds : List ℕ) → Among c (numbers (filter (is_of kind.Exclusive) (map (bound_as t v) ds))) →
    Among c ds × (is_same_kind (bound_kind t v c) kind.Exclusive ≡ true)
among_writers t v c [] there = absurd there
among_writers t v c (d ∷ ds) there = elim (bool_cases (is_same_kind (bound_kind t v d) kind.Exclusive)) [
  | inr off ↦ let more = among_writers t v c ds (rw off at there) in (inr more.0, more.1)
  | inl on ↦
      let either : (d ≡ c) ⊎ Among c (numbers (filter (is_of kind.Exclusive) (map (bound_as t v) ds))) = rw on at there in
      elim either [
        | inl here ↦ (inl here, ap (λ n. is_same_kind (bound_kind t v n) kind.Exclusive) (sym here) ∙ on)
        | inr rest ↦ let more = among_writers t v c ds rest in (inr more.0, more.1)
      ]
]

pub record IsExclusive (t : Tables) (r c : ℕ) (v : Representation) : Type 0 where
  pub k : Consumer
  pub reader : IsBound t r c k
  pub unwritten : is_written t v ≡ false
  pub first : IsFirst t r c
  pub none_due : k.due ≡ None
  pub more : has_more t v k ≡ true

module _ (t : Tables) (r c : ℕ) (v : Representation) where
  alone_by : (b d : Bool) → is_same_kind (if b then kind.Shared else if d then kind.Exclusive else kind.Reader) kind.Exclusive ≡ true → (b ≡ false) × (d ≡ true)
  alone_by b d h = grind (arith, nat_tests)

  by_reader : (k : Consumer) → IsBound t r c k → is_written t v ≡ false → may_write t v (t.consumer c) ≡ true → IsExclusive t r c v
  by_reader k (sound.is_bound lo hi how row at) off may =
      let all : (came_alone t k.place && is_none k.due && has_more t v k) ≡ true = sym (ap (may_write t v) row) ∙ may in
      let came : came_alone t k.place ≡ true = and_left _ _ (and_left _ _ all) in
      record {
        k = k;
        reader = sound.is_bound lo hi how row at;
        unwritten = off;
        first = sound.first k lo hi how row at (sym (ap (came_alone t) at) ∙ came);
        none_due = none_of k.due (and_right _ _ (and_left _ _ all));
        more = and_right _ _ all;
      }

  pub exclusive_parts : exclusive t r v ≡ Some c → IsExclusive t r c v
  unfolding exclusive
  exclusive_parts is =
      let among = among_writers t v c (bound t r) (among_least _ c is) in
      let reader = reader_of t r c among.0 in
      let both = alone_by (is_written t v) (may_write t v (t.consumer c)) among.1 in
      by_reader reader.0 reader.1 both.0 both.1
