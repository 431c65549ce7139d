-- Where a writer group stops: its members get a failure, or all that is left for them is stored.
use Rattle.std.{proofs.Common.{◌≡◌, inl, inr, ℕ, ◌+◌, ◌<◌, List, ◌++◌, length, true, false, Option, Some, None, refl, ap, sym, ◌∙◌, arith, length-append}, specs.{Prelude.{is_some}, Option.{option_or}}}
use Rattle.hc_text.proofs.Basics.{and_right, eq_reports as eq_of, some_inj, lt_or as split}
use Rattle.hc_effects.proofs.Vocabulary.{base, promised_bytes, front, is_open, is_reached, is_written, is_open_writer, own_open, source, shared_exchange, Tables, Exchange, Representation, Consumer, Sound, IsAbout, IsBound, IsGrowing, end_from}
use Rattle.hc_sparse.specs.Cells.{Covers, cells_with}
use Rattle.hc_sparse.proofs.CellLemmas.{inside-yes, inside-before}
use Rattle.hc_model.specs.Sound as sound

-- WHAT A MEMBER READS FROM

open_row : (o : Option Exchange) (w : Exchange) → o ≡ Some w → is_open o ≡ true → w.is_open ≡ true
open_row o w is h = sym (ap is_open is) ∙ h

pub writer_open : (t : Tables) (v : Representation) (x : ℕ) → is_written t v ≡ true → v.writer ≡ Some x → is_open (t.exchange x) ≡ true
unfolding is_written
writer_open t v x on writer = sym (ap (is_open_writer t) writer) ∙ and_right _ _ on

-- the exchange of the writing is about the representation
pub writer_about : (t : Tables) (r x : ℕ) (v : Representation) → Sound t → t.representation r ≡ Some v → is_written t v ≡ true → v.writer ≡ Some x →
    IsAbout t r x
writer_about t r x v s row on writer =
    let grows = (s.rows r v row).growing x on writer in
    let g = grows.1 in
    sound.headed grows.0 g.row (open_row (t.exchange x) grows.0 g.row (writer_open t v x on writer)) g.headed g.family_is (ap is_some row)

shared_of : (t : Tables) (r c x : ℕ) (v : Representation) (k : Consumer) → t.representation r ≡ Some v → IsBound t r c k → is_written t v ≡ true →
    v.writer ≡ Some x → shared_exchange t k.place ≡ Some x
shared_of t r c x v k row (sound.is_bound lo hi how is place) on writer = rw (place, row, on) writer

-- a member reads from the exchange of the writing
pub source_is : (t : Tables) (r c x : ℕ) (v : Representation) (k : Consumer) → Sound t → t.representation r ≡ Some v → IsBound t r c k →
    is_written t v ≡ true → v.writer ≡ Some x → source t k ≡ Some x
source_is t r c x v k s row reader on writer = by_own (own_open t k) refl
  where
    by_own : (o : Option ℕ) → own_open t k ≡ o → option_or (own_open t k) (shared_exchange t k.place) ≡ Some x
    by_own None own = rw own (shared_of t r c x v k row reader on writer)
    by_own (Some z) own = rw own (ap Some (s.one_about r z x (s.writes.own_about r c z k reader own) (writer_about t r x v s row on writer)))

-- A FAULT AND A SHORT END ARE DUE

-- THE LAST PIECE

-- with the last promised piece, each position below the total is stored
pub last_piece : (t : Tables) (r x total : ℕ) (bytes : List ℕ) (v : Representation) (w : Exchange) → IsGrowing t r v x w → v.head.total ≡ Some total →
    is_reached (promised_bytes w) (length (w.body ++ bytes)) ≡ true → Covers (cells_with (front w) x bytes v.stored) 0 total
last_piece t r x total bytes v w g known reached q lo lt = by_promise (promised_bytes w) refl
  where
    by_promise : (o : Option ℕ) → promised_bytes w ≡ o → is_some (cells_with (front w) x bytes v.stored q) ≡ true
    by_promise None is = absurd (let never : is_reached None (length (w.body ++ bytes)) ≡ true = rw is at reached in let no : false ≡ true = never in cc)
    by_promise (Some p) is =
        let all : p ≡ length (w.body ++ bytes) = eq_of p (length (w.body ++ bytes)) (rw is at reached) in
        let more = length-append w.body bytes in
        let end : Some total ≡ Some (base w + p) = sym known ∙ (g.promise ∙ ap (end_from (base w)) is) in
        let total_is : total ≡ base w + p = some_inj total (base w + p) end in
        let front_is : front w ≡ v.reach = g.front_is in
        elim (split q (front w)) [
          | inl before ↦ rw (inside-before (front w) (length bytes) q before) (g.whole q lo (let b : q < front w = before in omega arith))
          | inr past ↦ rw (inside-yes (front w) (length bytes) q past (omega arith)) refl
        ]
