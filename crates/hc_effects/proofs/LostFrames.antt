-- What it comes to that a writer group is lost: one reader goes on, to the others a failure is due, or it is closed.
--
-- A writing has an open exchange with its head (`writer_of`). Whoever is bound to it goes on with that exchange, if it
-- is the survivor, and else has the failure due; nothing else changes of it (`member_as`). Where nobody survives just
-- that exchange is closed by the loss, since no other representation loses its writing (`no_survivor_as`,
-- `closed_row`). A 304 whose update is refused is proved by these.
use Rattle.std.{proofs.{lemmas.Bool.Decides.{nat_tests}, Common.{arith, ◌≡◌, inl, inr, ℕ, Bool, true, false, Option, Some, None, refl, ap, sym, ◌∙◌}}, specs.{Prelude.{nat_eq, if◌then◌else◌, is_none, is_some}, Option.{option_or}}}
use Rattle.hc_text.proofs.Basics.{and_right, eqb-same, or_none as or_nothing, same_some as same_row, some_inj}
use Rattle.hc_effects.proofs.Vocabulary.{Cause, BoundBy, fails_in, has_no_survivor, consumer_after, consumer_acted, consumer_settled, own_after, is_number, doomed_key_of, left_with, Entry, family, is_open, becomes_due, Lawful, is_written, reads, Tables, Exchange, Representation, Consumer, starts_over, loses_group, survivor, goes_on_with, cause, place}
use Rattle.hc_effects.proofs.{ExclusiveWriters.{writer_some}, PieceKeeps.{eq_cases}, PieceServes.{IsQuietActs, acted_quiet}, Stops.{writer_open}, Untouched.{IsApart, starts_as}}

-- the exchange of a writing
pub record IsWriter (t : Tables) (r : ℕ) (v : Representation) : Type 0 where
  pub y : ℕ
  pub w : Exchange
  pub writer : v.writer ≡ Some y
  pub row : t.exchange y ≡ Some w
  pub is_open : w.is_open ≡ true
  pub headed : is_some w.head ≡ true
  pub of_r : family y w ≡ r

pub writer_of : (t : Tables) (law : Lawful t) (r : ℕ) (v : Representation) → t.representation r ≡ Some v → is_written t v ≡ true → IsWriter t r v
writer_of t law r v there on = by_writer v.writer refl
  where
    by_writer : (o : Option ℕ) → v.writer ≡ o → IsWriter t r v
    by_writer None none = absurd (writer_some t v on none)
    by_writer (Some y) writer =
        let grows = (law.sound.rows r v there).growing y on writer in
        let g = grows.1 in
        record {
          y = y;
          w = grows.0;
          writer = writer;
          row = g.row;
          is_open = sym (ap is_open g.row) ∙ writer_open t v y on writer;
          headed = g.headed;
          of_r = g.family_is;
        }

module _ (t : Tables) (e : Entry) (law : Lawful t) (r : ℕ) (v : Representation) (there : t.representation r ≡ Some v)
    (losing : loses_group t e r v ≡ true) where
  -- it is written
  pub written_now : is_written t v ≡ true
  written_now = and_right _ (is_written t v) losing

  -- who goes on
  pub goes_on_as : goes_on_with t e r v ≡ survivor t r v
  goes_on_as = rw losing refl

  -- WHO READS IT

  module _ (d lo : ℕ) (hi : Option ℕ) (how : BoundBy) (k : Consumer) (at : k.place ≡ place.Bound r lo hi how) (quiet : IsQuietActs e.acts)
      (apart : IsApart t e d k) (fails : fails_in d e.acts ≡ false) (doomless : doomed_key_of t e ≡ None) where
    own_as : own_after t e d k.place k.own ≡ (if is_number (survivor t r v) d then v.writer else k.own)
    own_as = rw (at, there, losing) refl

    due_as : becomes_due t e d k ≡ (if is_number (survivor t r v) d then None else Some (cause.StoreWrite r))
    unfolding becomes_due
    due_as = grind (arith, nat_tests)

    stays : starts_over t e d k ≡ false
    stays = starts_as t e d k fails apart.sends ∙ rw (doomless, at) refl

    pub member_as : consumer_after t e d (Some k) ≡ Some (left_with r (survivor t r v) v.writer d k)
    unfolding consumer_after
    member_as =
        ap (λ (z : Consumer). Some (consumer_settled t e d k (consumer_acted t e d z))) apart.heard
        ∙ (ap (λ (z : Consumer). Some (consumer_settled t e d k z)) (acted_quiet t e d k quiet)
        ∙ (let reading : reads k.place ≡ true = ap reads at in
        rw (stays, own_as, reading, due_as) (by_test (is_number (survivor t r v) d))))
      where
        by_test : (b : Bool) → Some
            (record k { own = if b then v.writer else k.own; due = option_or k.due (if b then None else Some (cause.StoreWrite r)) }) ≡ Some
            (if b then record k { own = v.writer } else record k { due = option_or k.due (Some (cause.StoreWrite r)) })
        by_test true = ap (λ (due : Option Cause). Some (record k { own = v.writer; due = due })) (or_nothing k.due)
        by_test false = refl

  -- WHAT IS CLOSED

  -- the exchange that goes with it
  abbrev pub closed_with : Option ℕ
  closed_with = if is_none (survivor t r v) then v.writer else None

  pub writer_now : IsWriter t r v
  writer_now = writer_of t law r v there written_now

  named : (b : Bool) (y : ℕ) → (if b then v.writer else None) ≡ Some y → v.writer ≡ Some y
  named b y at = grind (arith, nat_tests)

  -- is that of the writing
  pub closed_is : (y : ℕ) → closed_with ≡ Some y → writer_now.y ≡ y
  closed_is y at = some_inj writer_now.y y (sym writer_now.writer ∙ named (is_none (survivor t r v)) y at)

  pub closed_row : (y : ℕ) → closed_with ≡ Some y → t.exchange y ≡ Some writer_now.w
  closed_row y at = sym (ap t.exchange (closed_is y at)) ∙ writer_now.row

  -- and no other representation has its number
  pub closed_apart : (y : ℕ) (u : Representation) → closed_with ≡ Some y → t.representation y ≡ Some u → r ≡ y
  closed_apart y u at here = grind (arith, nat_tests)

  module _ (only : (q : ℕ) (u : Representation) → nat_eq r q ≡ false → t.representation q ≡ Some u → loses_group t e q u ≡ false) where
    -- just the exchange of the writing closes by that, where nobody goes on
    pub no_survivor_as : (y : ℕ) (u : Exchange) → t.exchange y ≡ Some u →
        has_no_survivor t e y (family y u) (t.representation (family y u)) ≡ is_number closed_with y
    no_survivor_as y u here = elim (eq_cases writer_now.y y) [
      | inl same ↦
          let one : writer_now.w ≡ u = same_row (t.exchange y) writer_now.w u (sym (ap t.exchange same.1) ∙ writer_now.row) here in
          let fam : family y u ≡ r = ap (λ (q : Exchange). family y q) (sym one) ∙ (ap (λ n. family n writer_now.w) (sym same.1) ∙ writer_now.of_r) in
          let wrote : v.writer ≡ Some y = writer_now.writer ∙ ap Some same.1 in
          ap (λ n. has_no_survivor t e y n (t.representation n)) fam ∙
          (ap (has_no_survivor t e y r) there ∙ rw (losing, wrote, eqb-same y) (by_test (is_none (survivor t r v))))
      | inr other ↦ by_row other.0 (t.representation (family y u)) refl ∙ sym (apart_by (is_none (survivor t r v)) other.0)
    ]
      where
        by_test : (b : Bool) → b ≡ is_number (if b then Some y else None) y
        by_test true = sym (eqb-same y)
        by_test false = refl

        apart_by : (b : Bool) → nat_eq writer_now.y y ≡ false → is_number (if b then v.writer else None) y ≡ false
        apart_by true other = ap (λ o. is_number o y) writer_now.writer ∙ other
        apart_by false other = refl

        by_row : nat_eq writer_now.y y ≡ false → (o : Option Representation) → t.representation (family y u) ≡ o → has_no_survivor t e y (family y u) o ≡ false
        by_row other o is = grind (arith, nat_tests)
