-- The store refuses a piece: it is lost, who can goes on with it, and that is answered.
--
-- What gave way before doesn't touch what is brought: its row, its exchange and who is bound are as they were
-- (`there_left`, `row_left`, `bound_left`). Where it isn't written for several, the owner of the exchange is the
-- exclusive writer and reads on alone (`own_answered`). Where it is, one who stands at its end goes on, or nobody, and
-- the exchange is closed (`shared_answered`). That who goes on has all that is stored has the work. `grow` uses both.
use Rattle.std.{proofs.{Common.{◌≡◌, ℕ, ◌+◌, ◌≤◌, List, [], ◌∷◌, ◌++◌, length, Bool, true, false, Option, Some, None, refl, ap, sym, ◌∙◌, subst, arith}, lemmas.List.{append_assoc}}, specs.Prelude.{is_some, map, option_map, ◌&&◌, ◌==◌}}
use Rattle.hc_text.proofs.Basics.{eqb-same, false_true, some_inj as some_is, and_off as then_false}
use Rattle.hc_effects.proofs.Vocabulary.{Limits, Act, LostKind, Event, Place, BoundBy, denial, Does, all_closed, back_from, as_gone, if_bound, left_with, let_all_go, lost_to, unless_reached, with_piece, family, front, Loses, flaw_in, entry_of, MayLetGo, is_bound, is_bound_place, is_written, offset, Tables, Exchange, Representation, IsExclusiveWriter, IsBound, evicted, exclusive, has_more, offset_in, survivor, written_representation, is_fault, act, kind as kinds, event, place}
use Rattle.hc_store.specs.declared.backend.Backend.{Ghosts}
use Rattle.hc_stored.specs.Entries.{shelf_of}
use Rattle.hc_model.specs.Rows as rows
use Rattle.hc_model.specs.Sound as sound
use Rattle.hc_effects.proofs.{Exclusives.{exclusive_parts}, HadKeeps.{survivor_bound}, HasBound.{reader_of}, LettingGo.{may_let_go}, SameTables.{all_go_is, back_from_any, is_in, without}, Survives.{survivor_offset}, PieceEffects.{loses_alone}}
use Rattle.hc_effects.proofs.SharedLossEffects as shared_does
use Rattle.hc_state.specs.{declared.rows.Rows.{Rows}, Facts.{Facts}, DetachedReaders.{MayLoseShared, shared_loss}, Kept.{held_alone, unstored_bytes}, Refused.{Brings, MayHold, MayLoseOwn, MayLosePiece, LosesPiece, Refuses, brought_lost, closes_with, own_loss}, Stands.{Answered, RowsStand}, Stopped.{HoldsNothing}}
use Rattle.hc_state.proofs.Fallbacks.{unstored_moved}
use Rattle.hc_on_leave.proofs.{FoundHandler.{bound_back, make_gone}, LoseAlone.{holds_none}, LoseTurn.{survivor_same}, PieceHandler.{open_unended}, PieceRoom.{may_make_room, gives_same, spared}, StoreHandler.{Stores}}
use Rattle.hc_on_body.proofs.{LostPiece.{Owner, owner, owner_within, absent, reached, brought_some}, LostTables.{own_tables, open_tables, fails_tables}}

-- the acts show what is lost
flaw_closes : (q : ℕ) (kind : LostKind) (xs rs : List ℕ) → flaw_in (map act.Evicted rs ++ (act.Lost q kind ∷ map act.Close xs)) ≡ Loses q kind
flaw_closes q kind xs [] = refl
flaw_closes q kind xs (r ∷ rs) = flaw_closes q kind xs rs

-- who reads waited for nothing
still : (now : ℕ) (es : List ℕ) (k : rows.Consumer) (q lo : ℕ) (hi : Option ℕ) (how : BoundBy) → k.place ≡ place.Bound q lo hi how → back_from_any now es k ≡ k
still now es k q lo hi how at = rw at refl

module _ {B : Type 0} {g : Ghosts B} {limits : Limits} (r put : Rows B g) (t : Tables) (facts : Facts limits t) (stands : RowsStand limits r t)
    (now x q : ℕ) (bytes : List ℕ) (goes : denial t (event.Piece x bytes) ≡ None) (it : Stores t x q (length bytes)) (kind : LostKind)
    (before mid : List Act) (refuses : Refuses limits r put t now x bytes kind before mid) where
  abbrev ev : Event
  ev = event.Piece x bytes

  abbrev w : Exchange
  w = it.w

  abbrev v : Representation
  v = it.v

  opened : w.is_open ≡ true
  opened = it.taken.is_open

  headed : is_some w.head ≡ true
  headed = it.taken.headed

  there : t.representation q ≡ Some v
  there = sym (ap t.representation it.of_q) ∙ it.there

  abbrev es : List ℕ
  es = evicted limits t now ev

  abbrev left : Tables
  left = let_all_go now es t

  left_is : left ≡ without now es t
  left_is = all_go_is now es t

  apart : is_in es q ≡ false
  apart =
      ap (λ n. is_in es n) (sym it.of_q)
      ∙ (ap (λ rs. is_in rs (family x w)) (gives_same limits t facts.law now x bytes goes w it.row v it.there it.fresh)
      ∙ spared limits t facts.law now x bytes goes w it.row v it.there it.fresh opened headed)

  there_left : left.representation q ≡ Some v
  there_left = ap (λ (z : Tables). z.representation q) left_is ∙ (let off = apart in let here = there in rw (off, here) refl)

  row_left : left.exchange x ≡ Some w
  row_left = ap (λ (z : Tables). z.exchange x) left_is ∙ it.row

  may_left : MayLetGo left
  may_left = (make_gone now es t (may_make_room t facts)).may

  nobody : v.alone ≡ None
  nobody = (facts.law.sound.rows q v there).store.nobody_alone it.fresh

  brings : Brings left q x w v
  brings = record {
    may = may_left;
    row = row_left;
    opened = opened;
    headed = headed;
    unended = open_unended t facts.law x w it.row opened;
    of_r = it.of_q;
    there = there_left;
    kept = it.fresh;
    nobody = nobody;
  }

  -- who is bound stays as it was
  bound_left : (c lo : ℕ) (hi : Option ℕ) (how : BoundBy) (k : rows.Consumer) → t.consumer c ≡ Some k → k.place ≡ place.Bound q lo hi how →
      left.consumer c ≡ Some k
  bound_left c lo hi how k here at = ap (λ (z : Tables). z.consumer c) left_is ∙
      (ap (option_map (back_from_any now es)) here ∙ ap Some (still now es k q lo hi how at))

  -- THE ANSWER

  kept_now : Rattle.hc_model.specs.Runs.is_kept (t.representation q) ≡ true
  kept_now = ap Rattle.hc_model.specs.Runs.is_kept there ∙ (let fresh = it.fresh in rw fresh refl)

  writes_it_now : (e : Rattle.hc_model.specs.Entries.Entry) → e.event ≡ ev → written_representation t e ≡ Some q
  unfolding written_representation
  writes_it_now e is = rw is (let row = it.row in let here = it.there in let fresh = it.fresh in let same = it.of_q in rw (row, here, fresh) (ap Some same))

  fault_of : (k : LostKind) → is_fault (Loses q k) ≡ true → k ≡ kinds.Fault
  fault_of kinds.Fault is = refl
  fault_of _ is = absurd (false_true is)

  answered_lost : (u : Rows B g) (s : Tables) (out : List Act) (xs : List ℕ) →
      Does limits t now ev (Loses q kind) (map act.Evicted es ++ (act.Lost q kind ∷ map act.Close xs)) s → out ≡ mid ++ (act.Lost q kind ∷ map act.Close xs)
      → (shelf_of put.entries).faults ≤ (shelf_of u.entries).faults → RowsStand limits u s → Answered limits (shelf_of r.entries).faults u t before out now ev
  answered_lost u s out xs does reported failed stood = record {
    flaw = Loses q kind;
    acts =
        reported ∙ (ap (λ (z : List Act). z ++ (act.Lost q kind ∷ map act.Close xs)) refuses.gives.acts
        ∙ (append_assoc before (map act.Evicted es) (act.Lost q kind ∷ map act.Close xs)
        ∙ ap (λ z. before ++ z) (sym does.acts_are)));
    shown = ap flaw_in does.acts_are ∙ flaw_closes q kind xs es;
    may = let writes = writes_it_now (entry_of limits t now ev (Loses q kind)) refl in let kept = kept_now in let may = refuses.may in
        rw (writes, kept, may) (ap (λ (b : Bool). b && true && true) (eqb-same q));
    caused = λ is. (let less = refuses.caused (fault_of kind is) in omega (arith, less, failed));
    rows = subst (RowsStand limits u) (sym does.tables_are) stood;
  }

  -- WHO WRITES IT ALONE

  module _ (off : is_written t v ≡ false) where
    o : Owner t x w v
    o = owner t x w v facts.law.sound it.row opened headed it.there off

    more : has_more t v o.k ≡ true
    more = (let opens = o.opens in rw opens refl)

    writes_alone : exclusive t q v ≡ Some o.c
    writes_alone = by_exclusive_writer o.c o.exclusive_writer refl
      where
        by_exclusive_writer : (c : ℕ) → IsExclusiveWriter t (family x w) v c → c ≡ o.c → exclusive t q v ≡ Some o.c
        by_exclusive_writer c (sound.alone was is) same = false_true (sym it.fresh ∙ was)
        by_exclusive_writer c (sound.first fresh is) same =
            let is_first : sound.IsFirst t q o.c = subst (λ n. sound.IsFirst t n o.c) it.of_q (subst (sound.IsFirst t (family x w)) same is) in
            (facts.law.alone.writes q o.c v o.k there it.fresh off is_first o.row o.due).1 more

    module _ (alone : Option ℕ) (alone_is : alone ≡ exclusive t q v) where
      nothing : HoldsNothing left q v alone
      nothing y z at of_q = by_writer alone alone_is
        where
          at_first : t.exchange y ≡ Some z
          at_first = sym (ap (λ (s : Tables). s.exchange y) left_is) ∙ at

          by_reader : (c : ℕ) (k : rows.Consumer) → IsBound t q c k → exclusive t q v ≡ Some c → unstored_bytes left y z v (left.consumer c) ≡ []
          by_reader c k (sound.is_bound lo hi how here stood) is =
              ap (unstored_bytes left y z v) (bound_left c lo hi how k here stood ∙ sym here)
              ∙ (unstored_moved t left y z v (t.consumer c)
              ∙ (sym (ap (held_alone t y z v) is) ∙ holds_none limits t facts q v there it.fresh y z at_first of_q))

          by_writer : (o : Option ℕ) → o ≡ exclusive t q v → held_alone left y z v o ≡ []
          by_writer None is = refl
          by_writer (Some c) is = (let p = exclusive_parts t q c v (sym is) in by_reader c p.k p.reader (sym is))

      may_own : MayLoseOwn left now q x w v alone
      may_own = record {
        brings = brings;
        none = nothing;
        holds = record {
          on = record {
            c = o.c;
            k = o.k;
            lo = o.lo;
            hi = o.hi;
            how = o.how;
            row = ap (option_map (back_from now q)) (bound_left o.c o.lo o.hi o.how o.k o.row at_q) ∙ ap Some (unmoved o.k at_q);
            at = o.at;
            alone = alone_is ∙ writes_alone;
            own = o.own;
          };
          lost = refl;
          gone = refl;
          unended = brings.unended;
          within = owner_within t facts x bytes goes w v it.row opened headed it.taken.some it.there o;
          absent = absent t facts x bytes goes w v it.row opened headed it.taken.some it.there;
          reached = reached t facts x bytes goes w v it.row opened headed it.taken.some it.there;
          brought_some = brought_some t facts x bytes goes w v it.row opened headed it.taken.some it.there;
        };
      }
        where
          at_q : o.k.place ≡ place.Bound q o.lo o.hi o.how
          at_q = o.at ∙ ap (λ n. place.Bound n o.lo o.hi o.how) it.of_q

          unmoved : (k : rows.Consumer) → k.place ≡ place.Bound q o.lo o.hi o.how → back_from now q k ≡ k
          unmoved k at = rw at refl

      pub own_answered : (u : Rows B g) (out : List Act) →
          (MayLoseOwn left now q x w v alone → RowsStand limits put left →
          RowsStand limits u (brought_lost now q x w bytes (as_gone (lost_to alone v)) (own_loss now q v alone left)))
          → out ≡ mid ++ (act.Lost q kind ∷ []) → (shelf_of put.entries).faults ≤ (shelf_of u.entries).faults →
          Answered limits (shelf_of r.entries).faults u t before out now ev
      own_answered u out loses reported failed =
          answered_lost u _ out [] (loses_alone limits t facts.law now x bytes w it.row goes q v it.of_q there kind it.fresh off) reported failed
          (subst (RowsStand limits u) (sym (own_tables now q x bytes w v es t apart (exclusive t q v)))
          (subst (λ (a : Option ℕ). RowsStand limits u (brought_lost now q x w bytes (as_gone (lost_to a v)) (own_loss now q v a left))) alone_is
          (loses may_own refuses.gives.rows)))

  -- IT IS WRITTEN FOR SEVERAL

  module _ (on : is_written t v ≡ true) where
    writer_is : v.writer ≡ Some x
    writer_is = shared_does.writer_is limits t facts.law now x bytes w it.row goes q v it.of_q there kind on

    growing : (z : Exchange) × sound.IsGrowing t q v x z
    growing = (facts.law.sound.rows q v there).growing x on writer_is

    front_is : front w ≡ v.reach
    front_is = (let z = growing.0 in let one : z ≡ w = some_is z w (sym growing.1.row ∙ it.row) in
        subst (λ (z : Exchange). front z ≡ v.reach) one growing.1.front_is)

    shared : MayLoseShared left q x v
    shared = record {
      may = may_left;
      there = there_left;
      kept = it.fresh;
      nobody = nobody;
      w = w;
      row = row_left;
      opened = opened;
      headed = headed;
      writes = writer_is;
      of_r = it.of_q;
      front_is = front_is;
    }

    stands_there : (o : Option rows.Consumer) →
        ((offset_in left (option_map (back_from_any now es) o) == v.reach) && is_bound q (option_map (back_from_any now es) o)) ≡
        ((offset_in t o == v.reach) && is_bound q o)
    stands_there None = refl
    stands_there (Some k) = by_place k.place refl
      where
        off : is_bound_place q k.place ≡ false →
            ((offset_in left (option_map (back_from_any now es) (Some k)) == v.reach) && is_bound q (option_map (back_from_any now es) (Some k))) ≡
            ((offset_in t (Some k) == v.reach) && is_bound q (Some k))
        off unbound =
            then_false (offset_in left (option_map (back_from_any now es) (Some k)) == v.reach) (is_bound q (option_map (back_from_any now es) (Some k)))
            (bound_back now es q (Some k) ∙ unbound)
            ∙ sym (then_false (offset_in t (Some k) == v.reach) (is_bound q (Some k)) unbound)

        by_place : (p : Place) → k.place ≡ p →
            ((offset_in left (option_map (back_from_any now es) (Some k)) == v.reach) && is_bound q (option_map (back_from_any now es) (Some k))) ≡
            ((offset_in t (Some k) == v.reach) && is_bound q (Some k))
        by_place (place.Bound n lo hi how) at = rw at refl
        by_place _ at = off (ap (is_bound_place q) at)

    detached_reader_same : survivor left q v ≡ survivor t q v
    detached_reader_same = survivor_same t left q v (may_let_go t facts.law) may_left
        (λ c. ap (λ (o : Option rows.Consumer). (offset_in left o == v.reach) && is_bound q o) (ap (λ (z : Tables). z.consumer c) left_is) ∙
        stands_there (t.consumer c))

    -- who goes on has all that is stored
    detached_reader_holds : (d : ℕ) (k : rows.Consumer) → survivor t q v ≡ Some d → IsBound t q d k →
        MayHold (shared_loss now q x v (Some d) left) x w (as_gone (lost_to (Some d) v))
    detached_reader_holds d k is (sound.is_bound lo hi how here at) = record {
      on = record {
        c = d;
        k = record k { own = Some x };
        lo = lo;
        hi = hi;
        how = how;
        row = ap (λ (o : Option rows.Consumer). option_map (back_from now q) (option_map (if_bound q (left_with q (Some d) (Some x) d)) o))
            (bound_left d lo hi how k here at) ∙ ap Some goes_on;
        at = at ∙ ap (λ n. place.Bound n lo hi how) (sym it.of_q);
        alone = refl;
        own = refl;
      };
      lost = refl;
      gone = refl;
      unended = brings.unended;
      within = (let reads = stands_at in let all = front_is in omega (arith, reads, all));
      absent = absent t facts x bytes goes w v it.row opened headed it.taken.some it.there;
      reached = reached t facts x bytes goes w v it.row opened headed it.taken.some it.there;
      brought_some = brought_some t facts x bytes goes w v it.row opened headed it.taken.some it.there;
    }
      where
        goes_on : back_from now q (if_bound q (left_with q (Some d) (Some x) d) k) ≡ record k { own = Some x }
        goes_on = (let same = eqb-same q in let one = eqb-same d in rw (at, same, one) refl)

        stands_at : lo + k.given ≡ v.reach
        stands_at = sym (let begins : offset t k ≡ lo + k.given = rw at refl in begins) ∙ survivor_offset t q d v k here is

    may_piece : MayLosePiece left now q x w v
    may_piece = record {
      brings = brings;
      shared = shared;
      holds = λ d is. (
          let one : survivor t q v ≡ Some d = sym detached_reader_same ∙ is in
          let reader = reader_of t q d (survivor_bound t q d v one) in
          detached_reader_holds d reader.0 one reader.1);
    }

    pub shared_answered : (u : Rows B g) (out : List Act) →
        (MayLosePiece left now q x w v → RowsStand limits put left → LosesPiece limits u left mid out now q x bytes w v kind)
        → (shelf_of put.entries).faults ≤ (shelf_of u.entries).faults → Answered limits (shelf_of r.entries).faults u t before out now ev
    shared_answered u out loses failed = by_detached_reader (survivor t q v) refl
      where
        lost : LosesPiece limits u left mid out now q x bytes w v kind
        lost = loses may_piece refuses.gives.rows

        reported_as : (o : Option ℕ) → survivor left q v ≡ o → out ≡ mid ++ (act.Lost q kind ∷ map act.Close (closes_with o x bytes w))
        reported_as o is = lost.acts ∙ ap (λ (z : Option ℕ). mid ++ (act.Lost q kind ∷ map act.Close (closes_with z x bytes w))) is

        rows_as : (o : Option ℕ) → survivor left q v ≡ o →
            RowsStand limits u (all_closed (closes_with o x bytes w) (brought_lost now q x w bytes (as_gone (lost_to o v)) (shared_loss now q x v o left)))
        rows_as o is = subst (λ (z : Option ℕ). RowsStand limits u
            (all_closed (closes_with z x bytes w) (brought_lost now q x w bytes (as_gone (lost_to z v)) (shared_loss now q x v z left)))) is lost.rows

        by_detached_reader : (o : Option ℕ) → survivor t q v ≡ o → Answered limits (shelf_of r.entries).faults u t before out now ev
        by_detached_reader (Some d) is =
            answered_lost u _ out [] (shared_does.goes_on limits t facts.law now x bytes w it.row goes q v it.of_q there kind on d is)
            (reported_as (Some d) (detached_reader_same ∙ is)) failed
            (subst (RowsStand limits u) (sym (open_tables now q x bytes w v es t apart (Some d))) (rows_as (Some d) (detached_reader_same ∙ is)))
        by_detached_reader None is =
            answered_lost u _ out (unless_reached x bytes w)
            (shared_does.all_fail limits t facts.law now x bytes w it.row goes q v it.of_q there kind on is)
            (reported_as None (detached_reader_same ∙ is)) failed
            (subst (RowsStand limits u) (sym (fails_tables now q x bytes w v es t apart None (with_piece bytes w).is_open))
            (rows_as None (detached_reader_same ∙ is)))
