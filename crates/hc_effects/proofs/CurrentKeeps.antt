-- Of each key one representation at most isn't gone: what founds replaces what is current.
--
-- A row after an entry was there, and didn't become gone if it isn't gone; or it is founded (`was_or_founded`). What
-- founds replaces what is current for its key (`goes_too`), and what isn't gone is current (`current_is`). So what is
-- founded and what was there are of different keys, unless that is gone (`apart`). `one` goes by each pair; an entry
-- founds one at most. `one_current_is_kept` is the law.
use Rattle.std.{proofs.{Common.{◌≡◌, inl, inr, ℕ, List, [], ◌∷◌, Bool, true, false, cond, Option, Some, None, refl, ap, sym, ◌∙◌, arith}, lemmas.Bool.Decides.{nat_tests}}, specs.Prelude.{◌&&◌, ◌||◌, not, ◌==◌, nat_eq, bytes_eq, find, is_some, if◌then◌else◌, option_map}}
use Rattle.hc_text.proofs.Basics.{and_both, bool_cases, eq_itself as eq-refl, not_true as not_gone, or_left, or_right, some_inj}
use Rattle.hc_effects.proofs.Vocabulary.{Event, Response, HeadCase, accepted_acts, case_at, is_founding, current, is_usable, is_number, Entry, becomes_gone, goes_by_head, goes_by_exchange, goes_by_case, is_current_of, representation_after, representation_heard, representation_acted, founded_at, new_representation, representation_after_head, with_renewed_head, updates, representation_after_piece, with_total_if_none, length_in, family, exchange_at, Tables, Exchange, Representation, Sound, Among, OneCurrent, after_accepted}
use Rattle.hc_event.specs.declared.event.Event.TheVariants as event
use Rattle.hc_rules.proofs.RangeReads.{bytes_eq-same, same_bytes}
use Rattle.hc_model.specs.Laws.{OneCurrentIsKept}
use Rattle.hc_effects.proofs.Basics.{or_false}

-- WHAT A ROW KEEPS

pub record IsSame (v u : Representation) : Type 0 where
  pub key_is : u.key ≡ v.key
  pub gone_is : u.is_gone ≡ v.is_gone

same : (v : Representation) → IsSame v v
same v = record { key_is = refl; gone_is = refl }

same_if : (b : Bool) (v u : Representation) → IsSame v u → IsSame v (cond b u v)
same_if true v u is = is
same_if false v u is = same v

pub heard_same : (t : Tables) (e : Entry) (r : ℕ) (ev : Event) (v : Representation) → IsSame v (representation_heard t e r ev v)
heard_same t e r (event.Head x response) v = by_row (t.exchange x)
  where
    by_row : (o : Option Exchange) → IsSame v (representation_after_head t e r x response o v)
    by_row None = same v
    by_row (Some w) = same_if (updates t e r w v) v (with_renewed_head t e x response w v) (record { key_is = refl; gone_is = refl })
heard_same t e r (event.Piece x bytes) v = by_row (t.exchange x)
  where
    by_row : (o : Option Exchange) → IsSame v (representation_after_piece e r x bytes o v)
    by_row None = same v
    by_row (Some w) = same_if (family x w == r) v _ (record { key_is = refl; gone_is = refl })
heard_same t e r (event.End x) v = same_if (x == r) v (with_total_if_none (length_in (t.exchange x)) v) (record { key_is = refl; gone_is = refl })
heard_same t e r _ v = same v

-- a row after an entry was there, and doesn't become gone where it isn't gone; or it is founded
pub data WasOrFounded (t : Tables) (e : Entry) (r : ℕ) (u : Representation) : Type 0 where
  was : (v : Representation) → t.representation r ≡ Some v → u.key ≡ v.key → u.is_gone ≡ (becomes_gone t e r v || v.is_gone) → WasOrFounded t e r u
  founded : (x : ℕ) (response : Response) (w : Exchange) → e.event ≡ event.Head x response → x ≡ r → is_founding (case_at t e) ≡ true →
      t.exchange x ≡ Some w → u.key ≡ w.request.key → t.representation r ≡ None → WasOrFounded t e r u

made : (t : Tables) (e : Entry) (r x : ℕ) (response : Response) (u : Representation) (b : Bool) (o : Option Exchange) → e.event ≡ event.Head x response →
    t.representation r ≡ None → (b ≡ true → (is_founding (case_at t e) ≡ true) × (x ≡ r)) → t.exchange x ≡ o →
    (if b then option_map (new_representation r e response) o else None) ≡ Some u → WasOrFounded t e r u
made t e r x response u false o at none is row h = absurd (let never : None ≡ Some u = h in cc)
made t e r x response u true None at none is row h = absurd (let never : None ≡ Some u = h in cc)
made t e r x response u true (Some w) at none is row h =
    let parts = is refl in
    founded x response w at parts.1 parts.0 row (sym (ap (λ (z : Representation). z.key) (some_inj (new_representation r e response w) u h))) none

of_none : (t : Tables) (e : Entry) (r : ℕ) (ev : Event) (u : Representation) → e.event ≡ ev → t.representation r ≡ None → founded_at t e r ev ≡ Some u →
    WasOrFounded t e r u
of_none t e r (event.Head x response) u at none h =
    made t e r x response u (is_founding (case_at t e) && (x == r)) (t.exchange x) at none (λ b.
    let parts = and_both (is_founding (case_at t e)) (x == r) b in
    let test : nat_eq x r ≡ true = parts.1 in
    (parts.0, grind (arith, nat_tests))) refl h
of_none t e r _ u at none h = absurd (let never : None ≡ Some u = h in cc)

pub was_or_founded : (t : Tables) (e : Entry) (r : ℕ) (o : Option Representation) (u : Representation) → t.representation r ≡ o →
    representation_after t e r o ≡ Some u → WasOrFounded t e r u
unfolding representation_after
was_or_founded t e r None u row h = of_none t e r e.event u refl row h
was_or_founded t e r (Some v) u row h =
    let s = heard_same t e r e.event v in
    let is = some_inj (representation_acted t e r v (representation_heard t e r e.event v)) u h in
    was v row (sym (ap (λ (z : Representation). z.key) is) ∙ s.key_is)
    (sym (ap (λ (z : Representation). z.is_gone) is) ∙ ap (λ b. becomes_gone t e r v || b) s.gone_is)

-- WHAT FOUNDS REPLACES WHAT IS CURRENT

replaces : (t : Tables) (e : Entry) (q : ℕ) (w : Exchange) (c : HeadCase) → is_founding (Some c) ≡ true → is_current_of t w q ≡ true →
    goes_by_case t e q (Some c) w ≡ true
replaces t e q w c is now = grind (arith, nat_tests)

replaces_some : (t : Tables) (e : Entry) (q : ℕ) (w : Exchange) (o : Option HeadCase) → is_founding o ≡ true → is_current_of t w q ≡ true →
    goes_by_case t e q o w ≡ true
replaces_some t e q w None is now = absurd (let never : false ≡ true = is in cc)
replaces_some t e q w (Some c) is now = replaces t e q w c is now

goes_too : (t : Tables) (e : Entry) (q x : ℕ) (response : Response) (w : Exchange) (v : Representation) → e.event ≡ event.Head x response →
    t.exchange x ≡ Some w → is_founding (case_at t e) ≡ true → is_current_of t w q ≡ true → becomes_gone t e q v ≡ true
unfolding becomes_gone
goes_too t e q x response w v at row is now =
    let by_head : goes_by_head t e q ≡ true = ap (goes_by_exchange t e q) (ap (exchange_at t) at ∙ row) ∙ replaces_some t e q w (case_at t e) is now in
    or_left _ _ (or_left _ _ (or_left _ _ (or_left _ _ (or_right _ _ by_head))))

-- WHAT ISN'T GONE IS CURRENT

pub usable : (key : List ℕ) (o : Option Representation) (v : Representation) → o ≡ Some v → v.key ≡ key → v.is_gone ≡ false → is_usable key o ≡ true
usable key o v row of_key fresh = rw (row, fresh) (and_true (bytes_eq v.key key) (bytes_eq-same v.key key of_key))
  where
    and_true : (a : Bool) → a ≡ true → (a && not false) ≡ true
    and_true true h = refl
    and_true false h = absurd (let never : false ≡ true = h in cc)

-- the first that passes a test which only one number passes is that number
pub find_only : (test : ℕ → Bool) (ns : List ℕ) (q : ℕ) → Among q ns → test q ≡ true → ((n : ℕ) → test n ≡ true → n ≡ q) → find test ns ≡ Some q
find_only test [] q among passes one = absurd among
find_only test (n ∷ ns) q among passes one = elim (bool_cases (test n)) [
  | inl also ↦ rw also (ap Some (one n also))
  | inr fails ↦ rw fails (find_only test ns q (others among fails) passes one)
]
  where
    others : Among q (n ∷ ns) → test n ≡ false → Among q ns
    others (inl here) fails = absurd (let never : true ≡ false = sym (ap test here ∙ passes) ∙ fails in cc)
    others (inr there) fails = there

pub record IsUsable (t : Tables) (key : List ℕ) (n : ℕ) : Type 0 where
  pub v : Representation
  pub row : t.representation n ≡ Some v
  pub of_key : v.key ≡ key
  pub fresh : v.is_gone ≡ false

pub usable_row : (t : Tables) (key : List ℕ) (n : ℕ) (o : Option Representation) → t.representation n ≡ o → is_usable key o ≡ true → IsUsable t key n
usable_row t key n None row h = absurd (let never : false ≡ true = h in cc)
usable_row t key n (Some v) row h =
    let parts = and_both (bytes_eq v.key key) (not v.is_gone) h in
    record { v = v; row = row; of_key = same_bytes v.key key parts.0; fresh = not_gone v.is_gone parts.1 }

pub current_is : (t : Tables) (key : List ℕ) (q : ℕ) (v : Representation) → Sound t → t.representation q ≡ Some v → v.key ≡ key → v.is_gone ≡ false →
    current t key ≡ Some q
unfolding current
current_is t key q v s row of_key fresh =
    find_only (λ r. is_usable key (t.representation r)) t.founded q
    (s.numbered.lists.founded q (ap is_some row))
    (usable key (t.representation q) v row of_key fresh)
    (λ n passes. let u = usable_row t key n (t.representation n) refl passes in
    s.one_current n q u.v v u.row row u.fresh fresh (u.of_key ∙ sym of_key))

-- ALL OF IT

-- what is founded and what was there and isn't gone are of different keys
apart : (t : Tables) (e : Entry) (r q x : ℕ) (response : Response) (w : Exchange) (v u z : Representation) → Sound t → e.event ≡ event.Head x response →
    is_founding (case_at t e) ≡ true → t.exchange x ≡ Some w → z.key ≡ w.request.key → t.representation q ≡ Some v → u.key ≡ v.key →
    u.is_gone ≡ (becomes_gone t e q v || v.is_gone) → u.is_gone ≡ false → z.key ≡ u.key → r ≡ q
apart t e r q x response w v u z s at is row key there key_is gone_is fresh same_key =
    let stays = or_false (becomes_gone t e q v) v.is_gone (sym gone_is ∙ fresh) in
    let of_key : v.key ≡ w.request.key = sym (same_key ∙ key_is) ∙ key in
    let now = current_is t w.request.key q v s there of_key stays.1 in
    let is_now : is_current_of t w q ≡ true = ap (λ o. is_number o q) now ∙ eq-refl q in
    absurd (let never : false ≡ true = sym stays.0 ∙ goes_too t e q x response w v at row is is_now in cc)

one : (t : Tables) (e : Entry) (r q : ℕ) (z u : Representation) → Sound t → WasOrFounded t e r z → WasOrFounded t e q u → z.is_gone ≡ false →
    u.is_gone ≡ false → z.key ≡ u.key → r ≡ q
one t e r q z u s (was v row key_is gone_is) (was v' row' key_is' gone_is') fresh fresh' same_key =
    let a = or_false (becomes_gone t e r v) v.is_gone (sym gone_is ∙ fresh) in
    let b = or_false (becomes_gone t e q v') v'.is_gone (sym gone_is' ∙ fresh') in
    s.one_current r q v v' row row' a.1 b.1 (sym key_is ∙ (same_key ∙ key_is'))
one t e r q z u s (founded x response w at here is row key none) (was v there key_is gone_is) fresh fresh' same_key =
    apart t e r q x response w v u z s at is row key there key_is gone_is fresh' same_key
one t e r q z u s (was v there key_is gone_is) (founded x response w at here is row key none) fresh fresh' same_key =
    sym (apart t e q r x response w v z u s at is row key there key_is gone_is fresh (sym same_key))
one t e r q z u s (founded x response w at here is row key none) (founded x' response' w' at' here' is' row' key' none') fresh fresh' same_key =
    let one_head : x ≡ x' = head_inj x x' response response' (sym at ∙ at') in
    sym here ∙ (one_head ∙ here')
  where
    number_in : Event → ℕ
    number_in (event.Head y answer) = y
    number_in _ = 0

    head_inj : (a b : ℕ) (p q : Response) → event.Head a p ≡ event.Head b q → a ≡ b
    head_inj a b p q h = ap number_in h

-- after any entry
pub one_current_after : (t : Tables) (e : Entry) → Sound t → OneCurrent (after_accepted t e)
one_current_after t e s r q z u row row' fresh fresh' same_key =
    one t e r q z u s (was_or_founded t e r (t.representation r) z refl row) (was_or_founded t e q (t.representation q) u refl row') fresh fresh' same_key

pub one_current_is_kept : OneCurrentIsKept
one_current_is_kept limits t now flaw s event = one_current_after t (record { now = now; event = event; acts = accepted_acts limits t now event flaw }) s
