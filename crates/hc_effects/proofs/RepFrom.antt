-- Where the row of a representation after an entry is from: it was there, or it is founded.
--
-- `IsHeard` has what an event leaves of a row and what it may change: a head may renew it and begin its writing again
-- (`renewed_by`, `headed_by`), a piece adds bytes, and an end tells its length. So each event is looked at (`heard`),
-- then the acts. A row that wasn't there is founded, by the head of an exchange of its number (`founded_by`).
-- `rep_from` joins both; most laws on representations begin with it.
use Rattle.std.{proofs.{Common.{◌≡◌, ◌⊎◌, inl, inr, ℕ, List, Bool, true, false, Option, Some, None, refl, ap, sym, ◌∙◌, subst, arith}, lemmas.Bool.Decides.{nat_tests}}, specs.{Prelude.{if◌then◌else◌, ◌==◌, ◌||◌, ◌&&◌, option_map, is_some}, Option.{option_or}}}
use Rattle.hc_text.proofs.Basics.{not_some as none_some, and_right as right, and_left as left, bool_cases, some_inj}
use Rattle.hc_effects.proofs.Vocabulary.{Event, Response, loses_in, case_at, is_founding, is_joining, Entry, representation_after, representation_heard, representation_acted, founded_at, new_representation, representation_after_head, with_renewed_head, updates, resumes, representation_after_piece, with_total_if_none, length_in, Tables, Exchange, Representation, event}
use Rattle.hc_effects.proofs.PieceKeeps.{eq_cases}

-- the writing of r begins again: this joining head resumes it
pub record IsResumed (t : Tables) (e : Entry) (r : ℕ) (v : Representation) (z : Option ℕ) : Type 0 where
  pub x : ℕ
  pub response : Response
  pub w : Exchange
  pub at : e.event ≡ event.Head x response
  pub row : t.exchange x ≡ Some w
  pub renews : updates t e r w v ≡ true
  pub joins : is_joining (case_at t e) ≡ true
  pub resumed : resumes t response w v ≡ true
  pub writer_is : z ≡ Some x

-- the length of r is what came, at its end
pub record IsEnded (t : Tables) (e : Entry) (r : ℕ) (v : Representation) (n : Option ℕ) : Type 0 where
  pub at : e.event ≡ event.End r
  pub total_is : n ≡ option_or v.head.total (Some (length_in (t.exchange r)))

-- of a row that an event leaves
pub record IsHeard (t : Tables) (e : Entry) (r : ℕ) (v u : Representation) : Type 0 where
  pub key_is : u.key ≡ v.key
  pub status_is : u.head.status ≡ v.head.status
  pub lost_is : u.is_lost ≡ v.is_lost
  pub alone_is : u.alone ≡ v.alone
  pub gone_is : u.is_gone ≡ v.is_gone
  pub writer_is : (u.writer ≡ v.writer) ⊎ IsResumed t e r v u.writer
  pub total_is : (u.head.total ≡ v.head.total) ⊎ IsEnded t e r v u.head.total

heard_same : (t : Tables) (e : Entry) (r : ℕ) (v : Representation) → IsHeard t e r v v
heard_same t e r v = record { key_is = refl; status_is = refl; lost_is = refl; alone_is = refl; gone_is = refl; writer_is = inl refl; total_is = inl refl }

module _ (t : Tables) (e : Entry) (r : ℕ) (v : Representation) where
  renewed_by : (x : ℕ) (response : Response) (w : Exchange) (b : Bool) → e.event ≡ event.Head x response → t.exchange x ≡ Some w →
      updates t e r w v ≡ true → (is_joining (case_at t e) && resumes t response w v) ≡ b → IsHeard t e r v (with_renewed_head t e x response w v)
  renewed_by x response w true at row up is = record {
    key_is = refl;
    status_is = refl;
    lost_is = refl;
    alone_is = refl;
    gone_is = refl;
    writer_is = inr (record {
      x = x;
      response = response;
      w = w;
      at = at;
      row = row;
      renews = up;
      joins = left _ _ is;
      resumed = right _ _ is;
      writer_is =
          rw is refl;
    });
    total_is = inl refl;
  }
  renewed_by x response w false at row up is =
      record { key_is = refl; status_is = refl; lost_is = refl; alone_is = refl; gone_is = refl; writer_is = inl (rw is refl); total_is = inl refl }

  headed_by : (x : ℕ) (response : Response) (o : Option Exchange) → e.event ≡ event.Head x response → t.exchange x ≡ o →
      IsHeard t e r v (representation_after_head t e r x response o v)
  headed_by x response None at row = heard_same t e r v
  headed_by x response (Some w) at row = elim (bool_cases (updates t e r w v)) [
    | inl up ↦ subst (λ (b : Bool). IsHeard t e r v (if b then with_renewed_head t e x response w v else v)) (sym up)
        (renewed_by x response w (is_joining (case_at t e) && resumes t response w v) at row up refl)
    | inr off ↦ subst (λ (b : Bool). IsHeard t e r v (if b then with_renewed_head t e x response w v else v)) (sym off) (heard_same t e r v)
  ]

  pieced_by : (x : ℕ) (bytes : List ℕ) (o : Option Exchange) → IsHeard t e r v (representation_after_piece e r x bytes o v)
  pieced_by x bytes o = grind (arith, nat_tests)

  ended_by : (x : ℕ) → e.event ≡ event.End x → IsHeard t e r v (if x == r then with_total_if_none (length_in (t.exchange x)) v else v)
  ended_by x at = grind (arith, nat_tests)

  pub heard : (ev : Event) → e.event ≡ ev → IsHeard t e r v (representation_heard t e r ev v)
  heard (event.Head x response) at = headed_by x response (t.exchange x) at refl
  heard (event.Piece x bytes) at = pieced_by x bytes (t.exchange x)
  heard (event.End x) at = ended_by x at
  heard _ at = heard_same t e r v

-- a row that was there
pub record IsKept (t : Tables) (e : Entry) (r : ℕ) (v u : Representation) : Type 0 where
  pub row : t.representation r ≡ Some v
  pub is : representation_acted t e r v (representation_heard t e r e.event v) ≡ u
  pub key_is : u.key ≡ v.key
  pub status_is : u.head.status ≡ v.head.status
  pub lost_is : u.is_lost ≡ (loses_in r e.acts || v.is_lost)
  pub writer_is : (u.writer ≡ v.writer) ⊎ IsResumed t e r v u.writer
  pub total_is : (u.head.total ≡ v.head.total) ⊎ IsEnded t e r v u.head.total

pub data RepFrom (t : Tables) (e : Entry) (r : ℕ) (u : Representation) : Type 0 where
  was : (v : Representation) → IsKept t e r v u → RepFrom t e r u
  founded : (response : Response) (w : Exchange) → t.representation r ≡ None → e.event ≡ event.Head r response → t.exchange r ≡ Some w →
      is_founding (case_at t e) ≡ true → new_representation r e response w ≡ u → RepFrom t e r u

module _ (t : Tables) (e : Entry) (r : ℕ) where
  acted : (v z : Representation) → t.representation r ≡ Some v → IsHeard t e r v z →
      representation_acted t e r v (representation_heard t e r e.event v) ≡ representation_acted t e r v z → IsKept t e r v (representation_acted t e r v z)
  acted v z row h is = record {
    row = row;
    is = is;
    key_is = h.key_is;
    status_is = h.status_is;
    lost_is = ap (λ b. loses_in r e.acts || b) h.lost_is;
    writer_is = h.writer_is;
    total_is = h.total_is;
  }

  founded_by : (x : ℕ) (response : Response) (o : Option Exchange) (u : Representation) → t.representation r ≡ None → e.event ≡ event.Head x response →
      t.exchange x ≡ o → (if is_founding (case_at t e) && x == r then option_map (new_representation r e response) o else None) ≡ Some u → RepFrom t e r u
  founded_by x response o u none at row is = elim (bool_cases (is_founding (case_at t e))) [
    | inr off ↦ absurd (none_some u (rw off at is))
    | inl on ↦ elim (eq_cases x r) [
      | inr other ↦ absurd (none_some u (rw (on, other.0) at is))
      | inl here ↦ by_row o row (rw (on, here.0) at is) here.1 on
    ]
  ]
    where
      by_row : (o : Option Exchange) → t.exchange x ≡ o → option_map (new_representation r e response) o ≡ Some u → x ≡ r →
          is_founding (case_at t e) ≡ true → RepFrom t e r u
      by_row None row is here on = absurd (none_some u is)
      by_row (Some w) row is here on =
          founded response w none (at ∙ ap (λ n. event.Head n response) here) (sym (ap t.exchange here) ∙ row) on
          (some_inj (new_representation r e response w) u is)

  new_from : (ev : Event) (u : Representation) → t.representation r ≡ None → e.event ≡ ev → founded_at t e r ev ≡ Some u → RepFrom t e r u
  new_from (event.Head x response) u none at is = founded_by x response (t.exchange x) u none at refl is
  new_from _ u none at is = absurd (none_some u is)

  pub rep_from : (o : Option Representation) (u : Representation) → t.representation r ≡ o → representation_after t e r o ≡ Some u → RepFrom t e r u
  unfolding representation_after
  rep_from None u row is = new_from e.event u row refl is
  rep_from (Some v) u row is =
      let z = representation_heard t e r e.event v in
      let same : representation_acted t e r v z ≡ u = some_inj _ u is in
      was v (subst (IsKept t e r v) same (acted v z row (heard t e r v e.event refl) refl))

  -- what stands stays
  pub stays : (o : Option Representation) → is_some o ≡ true → is_some (representation_after t e r o) ≡ true
  unfolding representation_after
  stays o there = grind (arith, nat_tests)

  -- what founds is there
  pub founds : (response : Response) (w : Exchange) (o : Option Representation) → e.event ≡ event.Head r response → t.exchange r ≡ Some w →
      is_founding (case_at t e) ≡ true → is_some (representation_after t e r o) ≡ true
  unfolding representation_after
  founds response w o at row on = grind (arith, nat_tests)
