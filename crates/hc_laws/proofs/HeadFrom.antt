-- Where the head of a representation after an entry is from: it stays, a head that came updates it, or its length is
-- told.
use Rattle.std.{proofs.Common.{◌≡◌, ℕ, List, Bool, true, false, Option, Some, None, refl, ap, subst}, specs.{Prelude.{if◌then◌else◌, ◌||◌, ◌==◌, not}, Option.{option_or}}}
use Rattle.hc_effects.proofs.Vocabulary.{Event, Response, loses_in, Entry, family, front, updated_head, representation_heard, representation_acted, representation_after_head, with_renewed_head, updates, representation_after_piece, with_stored_bytes, with_total_if_none, length_in, Tables, Exchange, Representation, event}
use Rattle.hc_effects.proofs.RepFrom.{IsKept}

module _ (t : Tables) (e : Entry) (r : ℕ) (v : Representation) where
  pub data HeadFrom (u : Representation) : Type 0 where
    still : u.head ≡ v.head → HeadFrom u
    updated : (x : ℕ) (response : Response) (w : Exchange) → e.event ≡ event.Head x response → t.exchange x ≡ Some w →
        u.head ≡ updated_head e.now response w v.head → HeadFrom u
    reported : (n : ℕ) → u.head ≡ record v.head { total = option_or v.head.total (Some n) } → HeadFrom u

  headed_from : (x : ℕ) (response : Response) (o : Option Exchange) → e.event ≡ event.Head x response → t.exchange x ≡ o →
      HeadFrom (representation_after_head t e r x response o v)
  headed_from x response None here row = still refl
  headed_from x response (Some w) here row = by_test (updates t e r w v)
    where
      by_test : (b : Bool) → HeadFrom (if b then with_renewed_head t e x response w v else v)
      by_test true = updated x response w here row refl
      by_test false = still refl

  pieced_from : (x : ℕ) (bytes : List ℕ) (o : Option Exchange) → HeadFrom (representation_after_piece e r x bytes o v)
  pieced_from x bytes None = still refl
  pieced_from x bytes (Some w) = by_test (family x w == r)
    where
      by_test : (b : Bool) → HeadFrom (if b then with_stored_bytes (not (v.is_lost || loses_in r e.acts)) (front w) x bytes v else v)
      by_test true = still refl
      by_test false = still refl

  ended_from : (n : ℕ) (b : Bool) → HeadFrom (if b then with_total_if_none n v else v)
  ended_from n true = reported n refl
  ended_from n false = still refl

  heard_from : (ev : Event) → e.event ≡ ev → HeadFrom (representation_heard t e r ev v)
  heard_from (event.Head x response) here = headed_from x response (t.exchange x) here refl
  heard_from (event.Piece x bytes) here = pieced_from x bytes (t.exchange x)
  heard_from (event.End x) here = ended_from (length_in (t.exchange x)) (x == r)
  heard_from _ here = still refl

  acted_from : (z : Representation) → HeadFrom z → HeadFrom (representation_acted t e r v z)
  acted_from z (still same) = still same
  acted_from z (updated x response w here row is) = updated x response w here row is
  acted_from z (reported n is) = reported n is

  pub head_from : (u : Representation) → IsKept t e r v u → HeadFrom u
  head_from u kept = subst HeadFrom kept.is (acted_from _ (heard_from e.event refl))

  -- the tag by which parts join stays
  pub joining_kept : (u : Representation) → IsKept t e r v u → u.head.joining ≡ v.head.joining
  joining_kept u kept = by_from (head_from u kept)
    where
      by_from : HeadFrom u → u.head.joining ≡ v.head.joining
      by_from (still same) = ap (λ (h : Rattle.hc_record.specs.Head.Head). h.joining) same
      by_from (updated x response w here row is) = ap (λ (h : Rattle.hc_record.specs.Head.Head). h.joining) is
      by_from (reported n is) = ap (λ (h : Rattle.hc_record.specs.Head.Head). h.joining) is
