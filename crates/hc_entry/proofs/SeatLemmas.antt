-- What a change of one consumer's seat does to the lists of a line, its places and its tournament.
--
-- Who stands somewhere in a line is who is seated so (`among-standing`), in ascending order. Two ascending lists with
-- the same members are equal (`same_members`), so a change of one seat changes the lists by that consumer. Places and
-- seats name one another, and a place plays where its consumer is in line. The work is to keep that where one moves
-- (`seated-moved`), leaves (`seated-left`) or enters. The turn of the tournament is the least in line (`turn-least`).
use Rattle.std.{proofs.{Common.{◌≡◌, ℕ, zero, suc, ◌<◌, ◌≤◌, ◌⊎◌, List, [], ◌∷◌, length, map, set, Bool, true, false, not, eqb, Option, Some, None, refl, sym, ap, ◌∙◌, inl, inr, arith, get_or-set_same, get_or-set_other, length-set}, lemmas.{Bool.{cases_Bool, cases_eq, cases_lt, eqb-true, eqb-false, eq-eqb, ne_eqb}, List.{get_or_past}}}, specs.{Prelude.{◌||◌, is_some, if◌then◌else◌, nat_eq}, Map.{keys_of}, List.{AllByRecursion, IsDistinct}}}
use Rattle.hc_text.proofs.{Basics.{same_consumer}, SortedLemmas.{is_sorted-above, has-above, has-with, has-without, is_sorted-with, is_sorted-filter, without-none}}
use Rattle.hc_text.specs.Sorted.{above, is_sorted, is_at as numbered, with_item, without, itself, is_among}
use Rattle.hc_rules.specs.Admissions.{least}
use Rattle.hc_entry.specs.{declared.seat.{Seated.{Seated}, Stand.{Stand}}, Used.{first_of}, Tournaments.{at, IsLeastAt}, Seats.{is_same_stand, called_at, seat_of, standing, called_from, seat_in_line, moved_to, IsSeated}, Lines.{Line, holder_without, stands, left_by}}
use Rattle.hc_entry.specs.declared.seat.Stand.TheVariants as stand
use Rattle.hc_entry.proofs.{AdmissionLemmas.{least-ascending}, LineLemmas.{stands-left, stands-with}}

-- two ascending lists with the same members are equal
member_is : (n y : ℕ) (ys : List ℕ) → is_among n (y ∷ ys) ≡ true → (y ≡ n) ⊎ (is_among n ys ≡ true)
member_is n y ys is = elim (cases_Bool (eqb y n)) [
  | inl same ↦ inl (eqb-true y n same)
  | inr off ↦ inr (rw off at is)
]

pub first_in : (n : ℕ) (ns : List ℕ) → is_among n (n ∷ ns) ≡ true
first_in n ns = rw (eq-eqb n n refl) refl

-- a member that isn't the first is above it
above_first : (n y : ℕ) (ys : List ℕ) → is_sorted itself (y ∷ ys) ≡ true → is_among n ys ≡ true → y < n
above_first n y ys up is = elim (cases_lt y n) [
  | inl less ↦ less
  | inr le ↦ let out = has-above itself y n ys le up in absurd (cc)
]

same_first : (x y : ℕ) (xs ys : List ℕ) → is_sorted itself (x ∷ xs) ≡ true → is_sorted itself (y ∷ ys) ≡ true
    → is_among x (y ∷ ys) ≡ true → is_among y (x ∷ xs) ≡ true → x ≡ y
same_first x y xs ys up rise there here = elim (member_is x y ys there) [
  | inl e ↦ sym e
  | inr above_y ↦ elim (member_is y x xs here) [
    | inl e ↦ e
    | inr above_x ↦
        let h = above_first x y ys rise above_y in
        let k = above_first y x xs up above_x in
        absurd (omega arith)
  ]
]

pub same_members : (xs ys : List ℕ) → is_sorted itself xs ≡ true → is_sorted itself ys ≡ true → ((d : ℕ) → is_among d xs ≡ is_among d ys) → xs ≡ ys
same_members [] [] up rise same = refl
same_members [] (y ∷ ys) up rise same = let h = same y in let k = first_in y ys in absurd (cc)
same_members (x ∷ xs) [] up rise same = let h = same x in let k = first_in x xs in absurd (cc)
same_members (x ∷ xs) (y ∷ ys) up rise same =
    let e = same_first x y xs ys up rise (sym (same x) ∙ first_in x xs) (same y ∙ first_in y ys) in
    let tail = same_members xs ys (is_sorted-above itself x xs up) (is_sorted-above itself y ys rise) (λ d. elim (cases_Bool (eqb x d)) [
      | inl on ↦
          let is = eqb-true x d on in
          let is_y : y ≡ d = sym e ∙ is in
          has-above itself x d xs (omega arith) up ∙ sym (has-above itself y d ys (omega arith) rise)
      | inr off ↦
          let off_y : eqb y d ≡ false = ap (λ (k : ℕ). eqb k d) (sym e) ∙ off in
          let h = same d in
          rw (off, off_y) at h
    ]) in
    ap (λ (k : ℕ). k ∷ xs) e ∙ ap (λ (l : List ℕ). y ∷ l) tail

-- who stands somewhere is who is seated so
abbrev pub stands_at : Stand → Option Seated → Bool
stands_at s None = false
stands_at s (Some seat) = is_same_stand seat.stand s

absent-key : (k : ℕ) (es : List (ℕ × Seated)) → AllByRecursion (λ (q : ℕ). eqb k q ≡ false) (keys_of es) → seat_of es k ≡ None
absent-key k [] none = refl
absent-key k (e ∷ es) none = rw none.0 (absent-key k es none.1)

pub among-standing : (s : Stand) (d : ℕ) (es : List (ℕ × Seated)) → IsDistinct nat_eq (keys_of es) → is_among d (standing s es) ≡ stands_at s (seat_of es d)
unfolding IsDistinct
among-standing s d [] apart = refl
among-standing s d (e ∷ es) apart =
    let tail = among-standing s d es apart.1 in
    elim (cases_Bool (eqb e.0 d)) [
      | inl on ↦
          let is = eqb-true e.0 d on in
          let back = eq-eqb d e.0 (sym is) in
          let out : is_among d (standing s es) ≡ false = tail ∙
          (ap (λ (k : ℕ). stands_at s (seat_of es k)) (sym is) ∙ ap (stands_at s) (absent-key e.0 es apart.0)) in
          elim (cases_Bool (is_same_stand e.1.stand s)) [
            | inl here ↦ rw (here, back, has-with itself d e.0 (standing s es), here, on) refl
            | inr off ↦ rw (off, back, off) out
          ]
      | inr off ↦
          let back : eqb d e.0 ≡ false = ne_eqb d e.0 (λ is. eqb-false e.0 d off (sym is)) in
          elim (cases_Bool (is_same_stand e.1.stand s)) [
            | inl here ↦ rw (here, back, has-with itself d e.0 (standing s es), off) tail
            | inr out ↦ rw (out, back) tail
          ]
    ]

pub standing-is_sorted : (s : Stand) (es : List (ℕ × Seated)) → IsDistinct nat_eq (keys_of es) → is_sorted itself (standing s es) ≡ true
unfolding IsDistinct
standing-is_sorted s [] apart = refl
standing-is_sorted s (e ∷ es) apart = elim (cases_Bool (is_same_stand e.1.stand s)) [
  | inl on ↦
      let out : is_among e.0 (standing s es) ≡ false = among-standing s e.0 es apart.1 ∙ ap (stands_at s) (absent-key e.0 es apart.0) in
      rw on (is_sorted-with itself e.0 (standing s es) (standing-is_sorted s es apart.1) out)
  | inr off ↦ rw off (standing-is_sorted s es apart.1)
]

-- who is in the line has a seat
pub seat-in : (c : ℕ) (es : List (ℕ × Seated)) → IsDistinct nat_eq (keys_of es)
    → is_some (seat_of es c) ≡ is_among c (standing stand.InLine es) || is_among c (standing stand.Passed es) || is_among c (standing stand.Away es)
seat-in c es up = rw (among-standing stand.InLine c es up, among-standing stand.Passed c es up, among-standing stand.Away c es up)
    (somewhere (seat_of es c)) where
      somewhere : (o : Option Seated) → is_some o ≡ stands_at stand.InLine o || stands_at stand.Passed o || stands_at stand.Away o
      somewhere None = refl
      somewhere (Some seat) = each seat.stand where
        each : (s : Stand) → true ≡ is_same_stand s stand.InLine || is_same_stand s stand.Passed || is_same_stand s stand.Away
        each stand.InLine = refl
        each stand.Passed = refl
        each stand.Away = refl

-- One consumer's seat changes.
pub record Reseats (c : ℕ) (w : Option Seated) (old new : List (ℕ × Seated)) : Type 0 where
  pub changes : (q : ℕ) → seat_of new q ≡ (if nat_eq c q then w else seat_of old q)
  pub distinct : IsDistinct nat_eq (keys_of new)

module _ (c : ℕ) (w : Option Seated) (old new : List (ℕ × Seated)) (change : Reseats c w old new) where
  pub here : seat_of new c ≡ w
  here = change.changes c ∙ rw (eq-eqb c c refl) refl

  pub elsewhere : (q : ℕ) → eqb c q ≡ false → seat_of new q ≡ seat_of old q
  elsewhere q off = change.changes q ∙ rw off refl

  module _ (up : IsDistinct nat_eq (keys_of old)) (s : Stand) where
    pub standing-comes : stands_at s w ≡ true → standing s new ≡ with_item itself c (without itself c (standing s old))
    standing-comes on =
        let left = is_sorted-filter itself (λ (x : ℕ). not (numbered itself c x)) (standing s old) (standing-is_sorted s old up) in
        let out : is_among c (without itself c (standing s old)) ≡ false = rw (has-without itself c c (standing s old), eq-eqb c c refl) refl in
        same_members (standing s new) (with_item itself c (without itself c (standing s old)))
        (standing-is_sorted s new change.distinct) (is_sorted-with itself c (without itself c (standing s old)) left out)
        (λ d. among-standing s d new change.distinct ∙ elim (cases_Bool (eqb c d)) [
          | inl same ↦
              let e = eqb-true c d same in
              ap (λ (k : ℕ). stands_at s (seat_of new k)) (sym e)
              ∙ (ap (stands_at s) here ∙ (on ∙ sym (rw (has-with itself d c (without itself c (standing s old)), same) refl)))
          | inr off ↦
              ap (stands_at s) (elsewhere d off)
              ∙ (sym (among-standing s d old up)
              ∙ sym (rw (has-with itself d c (without itself c (standing s old)), has-without itself d c (standing s old), off) refl))
        ])

    pub standing-leaves : stands_at s w ≡ false → standing s new ≡ without itself c (standing s old)
    standing-leaves out =
        let left = is_sorted-filter itself (λ (x : ℕ). not (numbered itself c x)) (standing s old) (standing-is_sorted s old up) in
        same_members (standing s new) (without itself c (standing s old)) (standing-is_sorted s new change.distinct) left
        (λ d. among-standing s d new change.distinct ∙ elim (cases_Bool (eqb c d)) [
          | inl same ↦
              let e = eqb-true c d same in
              ap (λ (k : ℕ). stands_at s (seat_of new k)) (sym e)
              ∙ (ap (stands_at s) here ∙ (out ∙ sym (rw (has-without itself d c (standing s old), same) refl)))
          | inr off ↦
              ap (stands_at s) (elsewhere d off)
              ∙ (sym (among-standing s d old up) ∙ sym (rw (has-without itself d c (standing s old), off) refl))
        ])

pub some-seat : (o : Option Seated) → is_some o ≡ true → (seat : Seated) × (o ≡ Some seat)
some-seat None is = absurd (cc)
some-seat (Some seat) is = (seat, refl)

same_seat : (o : Option Seated) (a b : Seated) → o ≡ Some a → o ≡ Some b → a ≡ b
same_seat o a b is has = cc

module _ (es : List (ℕ × Seated)) (places playing : List (Option ℕ)) (h : Option ℕ) (was : IsSeated es places playing h) where
  -- a consumer has one place
  pub one_place : (c : ℕ) (seat : Seated) (k : ℕ) → seat_of es c ≡ Some seat → at places k ≡ Some c → k ≡ seat.place
  one_place c seat k is has =
      let (other, there, e) = was.seated k c has in
      let same = same_seat (seat_of es c) other seat there is in
      sym e ∙ ap (λ (x : Seated). x.place) same

  -- its place is one of the tournament's
  pub place-room : (c : ℕ) (seat : Seated) → seat_of es c ≡ Some seat → seat.place < length playing
  place-room c seat is = was.room seat.place c (was.placed c seat is)

  -- the consumer of a place has a seat
  pub place-seat : (k c : ℕ) → at places k ≡ Some c → is_some (seat_of es c) ≡ true
  place-seat k c has = let (seat, is, e) = was.seated k c has in rw is refl

  -- a change of one consumer leaves the others' places in the tournament
  called-other : (new : List (ℕ × Seated)) (c : ℕ) (w : Option Seated) (change : Reseats c w es new) (o : Option ℕ) → (o ≡ Some c → ⊥) →
      seat_in_line new o ≡ seat_in_line es o
  called-other new c w change None off = refl
  called-other new c w change (Some d) off =
      let other : eqb c d ≡ false = ne_eqb c d (λ e. off (ap Some (sym e))) in
      ap (called_from d) (elsewhere c w es new change d other)

  holds-new : (new : List (ℕ × Seated)) (c : ℕ) (w : Option Seated) (change : Reseats c w es new) →
      stands (holder_without c h) (standing stand.InLine new) ≡ true
  holds-new new c w change = elim (cases_Bool (stands_at stand.InLine w)) [
    | inl on ↦ rw (standing-comes c w es new change was.distinct stand.InLine on)
        (stands-with c (holder_without c h) (without itself c (standing stand.InLine es)) (stands-left c h (standing stand.InLine es) was.holds))
    | inr off ↦ rw (standing-leaves c w es new change was.distinct stand.InLine off) (stands-left c h (standing stand.InLine es) was.holds)
  ]

  -- a consumer stands elsewhere
  module _ (c : ℕ) (seat : Seated) (is : seat_of es c ≡ Some seat) (s : Stand) (p : ℕ) (e : seat.place ≡ p)
      (new : List (ℕ × Seated)) (change : Reseats c (Some (record { place = p; stand = s })) es new) where
    moved : Seated
    moved = record { place = p; stand = s }

    at_place : at places p ≡ Some c
    at_place = ap (at places) (sym e) ∙ was.placed c seat is

    moved-placed : (d : ℕ) (x : Seated) → seat_of new d ≡ Some x → at places x.place ≡ Some d
    moved-placed d x has = elim (cases_Bool (eqb c d)) [
      | inl on ↦
          let same = eqb-true c d on in
          let there : seat_of new d ≡ Some (record { place = p; stand = s }) = ap (seat_of new) (sym same) ∙
          here c (Some (record { place = p; stand = s })) es new change in
          let eq = same_seat (seat_of new d) x (record { place = p; stand = s }) has there in
          ap (λ (y : Seated). at places y.place) eq ∙ (at_place ∙ ap Some same)
      | inr off ↦ was.placed d x (sym (elsewhere c (Some (record { place = p; stand = s })) es new change d off) ∙ has)
    ]

    moved-seated : (k d : ℕ) → at places k ≡ Some d → (x : Seated) × (seat_of new d ≡ Some x) × (x.place ≡ k)
    moved-seated k d has = elim (cases_Bool (eqb c d)) [
      | inl on ↦
          let same = eqb-true c d on in
          let k_is = one_place c seat k is (has ∙ ap Some (sym same)) in
          (record { place = p; stand = s }, ap (seat_of new) (sym same) ∙ here c (Some (record { place = p; stand = s })) es new change, sym e ∙ sym k_is)
      | inr off ↦
          let (x, there, at_k) = was.seated k d has in
          (x, elsewhere c (Some (record { place = p; stand = s })) es new change d off ∙ there, at_k)
    ]

    moved-plays : (k : ℕ) → at (set playing p (called_at s c)) k ≡ seat_in_line new (at places k)
    moved-plays k = elim (cases_eq k p) [
      | inl on ↦
          ap (at (set playing p (called_at s c))) on
          ∙ (get_or-set_same playing p (called_at s c) None (was.room p c at_place)
          ∙ sym (ap (λ (j : ℕ). seat_in_line new (at places j)) on ∙
          (ap (seat_in_line new) at_place ∙ ap (called_from c) (here c (Some (record { place = p; stand = s })) es new change))))
      | inr off ↦
          get_or-set_other playing p k (called_at s c) None off
          ∙ (was.plays k
          ∙ sym (called-other new c (Some (record { place = p; stand = s })) change (at places k) (λ has. off (one_place c seat k is has ∙ e))))
    ]

    pub seated-moved : (playing' : List (Option ℕ)) (h' : Option ℕ) → playing' ≡ set playing p (called_at s c) → h' ≡ holder_without c h →
        IsSeated new places playing' h'
    seated-moved playing' h' plays holder = record {
      distinct = change.distinct;
      placed = moved-placed;
      seated = moved-seated;
      plays = rw plays moved-plays;
      room = rw plays (λ k d has. let size = length-set playing p (called_at s c) in let room = was.room k d has in omega arith);
      holds = rw holder (holds-new new c (Some (record { place = p; stand = s })) change);
    }

  -- a consumer leaves
  module _ (c : ℕ) (seat : Seated) (is : seat_of es c ≡ Some seat) (new : List (ℕ × Seated)) (change : Reseats c None es new) where
    left-at : (k d : ℕ) → at (set places seat.place None) k ≡ Some d → (at places k ≡ Some d) × (k ≡ seat.place → ⊥)
    left-at k d has = elim (cases_eq k seat.place) [
      | inl on ↦
          let in_use = was.placed c seat is in
          let cleared = set-cleared places seat.place in
          let no : at (set places seat.place None) k ≡ None = ap (at (set places seat.place None)) on ∙ cleared in
          absurd (cc)
      | inr off ↦ (sym (get_or-set_other places seat.place k None None off) ∙ has, off)
    ] where
      set-cleared : (xs : List (Option ℕ)) (i : ℕ) → at (set xs i None) i ≡ None
      set-cleared xs i = elim (cases_lt i (length xs)) [
        | inl within ↦ get_or-set_same xs i None None within
        | inr past ↦ get_or_past (set xs i None) i None (let size = length-set xs i None in omega arith)
      ]

    other-than : (k d : ℕ) → at places k ≡ Some d → (k ≡ seat.place → ⊥) → eqb c d ≡ false
    other-than k d has off = ne_eqb c d (λ e. off (one_place c seat k is (has ∙ ap Some (sym e))))

    left-plays : (k : ℕ) → at (set playing seat.place None) k ≡ seat_in_line new (at (set places seat.place None) k)
    left-plays k = elim (cases_eq k seat.place) [
      | inl on ↦
          let room = place-room c seat is in
          let in_use : seat.place < length places = in-use places seat.place c (was.placed c seat is) in
          ap (at (set playing seat.place None)) on
          ∙ (get_or-set_same playing seat.place None None room
          ∙ sym (ap (λ (j : ℕ). seat_in_line new (at (set places seat.place None) j)) on
          ∙ ap (seat_in_line new) (get_or-set_same places seat.place None None in_use)))
      | inr off ↦
          get_or-set_other playing seat.place k None None off
          ∙ (was.plays k
          ∙ sym (ap (seat_in_line new) (get_or-set_other places seat.place k None None off)
          ∙ called-other new c None change (at places k) (λ has. off (one_place c seat k is has))))
    ] where
      in-use : (xs : List (Option ℕ)) (i d : ℕ) → at xs i ≡ Some d → i < length xs
      in-use xs i d has = elim (cases_lt i (length xs)) [
        | inl within ↦ within
        | inr past ↦ let none = get_or_past xs i None past in absurd (cc)
      ]

    pub seated-left : (places' playing' : List (Option ℕ)) (h' : Option ℕ) → places' ≡ set places seat.place None →
        playing' ≡ set playing seat.place None → h' ≡ holder_without c h
        → IsSeated new places' playing' h'
    seated-left places' playing' h' cleared plays holder = record {
      distinct = change.distinct;
      placed = λ d x has. elim (cases_Bool (eqb c d)) [
        | inl on ↦
            let same = eqb-true c d on in
            let gone : seat_of new d ≡ None = ap (seat_of new) (sym same) ∙ here c None es new change in
            absurd (cc)
        | inr off ↦
            let before : seat_of es d ≡ Some x = sym (elsewhere c None es new change d off) ∙ has in
            let there = was.placed d x before in
            let apart : x.place ≡ seat.place → ⊥ = λ e.
            let mine = ap (at places) (sym e) ∙ there in
            let both = same_consumer (at places seat.place) c d (was.placed c seat is) mine in
            eqb-false c d off both in
            rw cleared (get_or-set_other places seat.place x.place None None apart ∙ there)
      ];
      seated = rw cleared (λ k d has.
          let (there, off) = left-at k d has in
          let (x, before, at_k) = was.seated k d there in
          (x, elsewhere c None es new change d (other-than k d there off) ∙ before, at_k));
      plays = rw (cleared, plays) left-plays;
      room = rw (cleared, plays) (λ k d has.
          let size = length-set playing seat.place None in
          let room = was.room k d (left-at k d has).0 in
          omega arith);
      holds = rw holder (holds-new new c None change);
    }

    -- its place is the only one that it leaves
    pub places-left : map (holder_without c) places ≡ set places seat.place None
    places-left = cleared places seat.place (was.placed c seat is) (λ k has. one_place c seat k is has) where
      kept : (os : List (Option ℕ)) → ((k : ℕ) → at os k ≡ Some c → ⊥) → map (holder_without c) os ≡ os
      kept [] none = refl
      kept (None ∷ os) none = ap (λ (l : List (Option ℕ)). None ∷ l) (kept os (λ k has. none (suc k) has))
      kept (Some d ∷ os) none =
          let off : eqb d c ≡ false = ne_eqb d c (λ e. none 0 (ap Some e)) in
          rw off (ap (λ (l : List (Option ℕ)). Some d ∷ l) (kept os (λ k has. none (suc k) has)))

      cleared : (os : List (Option ℕ)) (p : ℕ) → at os p ≡ Some c → ((k : ℕ) → at os k ≡ Some c → k ≡ p) → map (holder_without c) os ≡ set os p None
      cleared [] p has only = absurd (cc)
      cleared (None ∷ os) zero has only = absurd (cc)
      cleared (Some d ∷ os) zero has only =
          let on : eqb d c ≡ true = eq-eqb d c (let e : d ≡ c = cc in e) in
          rw on (ap (λ (l : List (Option ℕ)). None ∷ l) (kept os (λ k at_k. let h = only (suc k) at_k in absurd (omega arith))))
      cleared (None ∷ os) (suc p) has only =
          ap (λ (l : List (Option ℕ)). None ∷ l) (cleared os p has (λ k at_k. let h = only (suc k) at_k in omega arith))
      cleared (Some d ∷ os) (suc p) has only =
          let off : eqb d c ≡ false = ne_eqb d c (λ e. let h = only 0 (ap Some e) in absurd (omega arith)) in
          rw off (ap (λ (l : List (Option ℕ)). Some d ∷ l) (cleared os p has (λ k at_k. let h = only (suc k) at_k in omega arith)))

  -- one more is in line, at a place that nobody had
  module _ (c p : ℕ) (absent : seat_of es c ≡ None) (new : List (ℕ × Seated))
      (change : Reseats c (Some (record { place = p; stand = stand.InLine })) es new) where
    absent-among : (s : Stand) → is_among c (standing s es) ≡ false
    absent-among s = among-standing s c es was.distinct ∙ ap (stands_at s) absent

    pub entered-in_line : standing stand.InLine new ≡ with_item itself c (standing stand.InLine es)
    entered-in_line =
        standing-comes c (Some (record { place = p; stand = stand.InLine })) es new change was.distinct stand.InLine refl
        ∙ ap (with_item itself c) (without-none itself c (standing stand.InLine es) (absent-among stand.InLine))

    pub entered-other : (s : Stand) → stands_at s (Some (record { place = p; stand = stand.InLine })) ≡ false → standing s new ≡ standing s es
    entered-other s out =
        standing-leaves c (Some (record { place = p; stand = stand.InLine })) es new change was.distinct s out
        ∙ without-none itself c (standing s es) (absent-among s)

    module _ (places' playing1 : List (Option ℕ)) (vacant : at places p ≡ None) (there : at places' p ≡ Some c)
        (others : (k : ℕ) → (k ≡ p → ⊥) → at places' k ≡ at places k)
        (same : (k : ℕ) → at playing1 k ≡ at playing k) (kept : length playing ≤ length playing1) (fits : p < length playing1) where
      not_at : (k d : ℕ) → at places k ≡ Some d → k ≡ p → ⊥
      not_at k d has e = let none = ap (at places) e ∙ vacant in absurd (cc)

      not_c : (k d : ℕ) → at places k ≡ Some d → eqb c d ≡ false
      not_c k d has = ne_eqb c d (λ e.
          let (x, is, at_k) = was.seated k d has in
          let none = ap (seat_of es) (sym e) ∙ absent in
          absurd (cc))

      entered-plays : (k : ℕ) → at (set playing1 p (Some c)) k ≡ seat_in_line new (at places' k)
      entered-plays k = elim (cases_eq k p) [
        | inl on ↦
            ap (at (set playing1 p (Some c))) on
            ∙ (get_or-set_same playing1 p (Some c) None fits
            ∙ sym (ap (λ (j : ℕ). seat_in_line new (at places' j)) on
            ∙ (ap (seat_in_line new) there ∙ ap (called_from c) (here c (Some (record { place = p; stand = stand.InLine })) es new change))))
        | inr off ↦
            get_or-set_other playing1 p k (Some c) None off
            ∙ (same k
            ∙ (was.plays k
            ∙ sym (ap (seat_in_line new) (others k off)
            ∙ called-other new c (Some (record { place = p; stand = stand.InLine })) change (at places k)
            (λ has. let no = not_c k c has in eqb-false c c no refl))))
      ]

      pub seated-entered : (playing' : List (Option ℕ)) → playing' ≡ set playing1 p (Some c) → IsSeated new places' playing' h
      seated-entered playing' plays = record {
        distinct = change.distinct;
        placed = λ d x has. elim (cases_Bool (eqb c d)) [
          | inl on ↦
              let e = eqb-true c d on in
              let mine : seat_of new d ≡ Some (record { place = p; stand = stand.InLine }) = ap (seat_of new) (sym e) ∙
              here c (Some (record { place = p; stand = stand.InLine })) es new change in
              let eq = same_seat (seat_of new d) x (record { place = p; stand = stand.InLine }) has mine in
              ap (λ (y : Seated). at places' y.place) eq ∙ (there ∙ ap Some e)
          | inr off ↦
              let before = was.placed d x (sym (elsewhere c (Some (record { place = p; stand = stand.InLine })) es new change d off) ∙ has) in
              others x.place (not_at x.place d before) ∙ before
        ];
        seated = λ k d has. elim (cases_eq k p) [
          | inl on ↦
              let mine = ap (at places') on ∙ there in
              let e = same_consumer (at places' k) c d mine has in (
                record { place = p; stand = stand.InLine },
                ap (seat_of new) (sym e) ∙
                    here c (Some (record { place = p; stand = stand.InLine })) es new change,
                sym on,
              )
          | inr off ↦
              let before = sym (others k off) ∙ has in
              let (x, is, at_k) = was.seated k d before in
              (x, elsewhere c (Some (record { place = p; stand = stand.InLine })) es new change d (not_c k d before) ∙ is, at_k)
        ];
        plays = rw plays entered-plays;
        room = rw plays (λ k d has.
            let size = length-set playing1 p (Some c) in
            elim (cases_eq k p) [
              | inl on ↦ omega arith
              | inr off ↦ let room = was.room k d (sym (others k off) ∙ has) in omega arith
            ]);
        holds = rw entered-in_line (stands-with c h (standing stand.InLine es) was.holds);
      }

  -- the turn of the tournament is the least in line
  pub turn-least : (w : Option ℕ) → IsLeastAt w playing → w ≡ least (standing stand.InLine es)
  turn-least w won = first w (standing stand.InLine es) won rise in_line plays ∙ sym (least-ascending (standing stand.InLine es) rise) where
    rise : is_sorted itself (standing stand.InLine es) ≡ true
    rise = standing-is_sorted stand.InLine es was.distinct

    in_line : (d : ℕ) → is_among d (standing stand.InLine es) ≡ true → (k : ℕ) × (at playing k ≡ Some d)
    in_line d is = seen (seat_of es d) refl (sym (among-standing stand.InLine d es was.distinct) ∙ is) where
      seen : (o : Option Seated) → seat_of es d ≡ o → stands_at stand.InLine o ≡ true → (k : ℕ) × (at playing k ≡ Some d)
      seen None has none = absurd (cc)
      seen (Some x) has on = (x.place, was.plays x.place ∙ (ap (seat_in_line es) (was.placed d x has) ∙ (ap (called_from d) has ∙ rw on refl)))

    plays : (k d : ℕ) → at playing k ≡ Some d → is_among d (standing stand.InLine es) ≡ true
    plays k d is = seen (at places k) (sym (was.plays k) ∙ is) where
      seated_so : (c : ℕ) (o : Option Seated) → seat_of es c ≡ o → called_from c o ≡ Some d → is_among d (standing stand.InLine es) ≡ true
      seated_so c None has none = absurd (cc)
      seated_so c (Some x) has some = elim (cases_Bool (is_same_stand x.stand stand.InLine)) [
        | inl on ↦
            let e : c ≡ d = let h = rw on at some in cc in
            among-standing stand.InLine d es was.distinct ∙
            (ap (λ (n : ℕ). stands_at stand.InLine (seat_of es n)) (sym e) ∙ (ap (stands_at stand.InLine) has ∙ on))
        | inr off ↦ let h = rw off at some in absurd (cc)
      ]

      seen : (o : Option ℕ) → seat_in_line es o ≡ Some d → is_among d (standing stand.InLine es) ≡ true
      seen None none = absurd (cc)
      seen (Some c) some = seated_so c (seat_of es c) refl some

    first : (w : Option ℕ) (l : List ℕ) → IsLeastAt w playing → is_sorted itself l ≡ true
        → ((d : ℕ) → is_among d l ≡ true → (k : ℕ) × (at playing k ≡ Some d))
        → ((k d : ℕ) → at playing k ≡ Some d → is_among d l ≡ true) → w ≡ first_of l
    first None [] won up some all = refl
    first (Some n) [] won up some all = let (k, is) = won.there n refl in let h = all k n is in absurd (cc)
    first w (d ∷ ds) won up some all =
        let (k, is) = some d (first_in d ds) in
        let (m, least, low) = won.none_lower k d is in
        let (j, there) = won.there m least in
        let e : d ≡ m = elim (member_is m d ds (all j m there)) [
          | inl same ↦ same
          | inr above ↦ let h = above_first m d ds up above in absurd (omega arith)
        ] in
        least ∙ ap Some (sym e)

-- what a contract sees of a line
abbrev pub line_of : List (ℕ × Seated) → List (Option ℕ) → Option ℕ → Line
line_of es places h = record {
  in_line = standing stand.InLine es;
  passed = standing stand.Passed es;
  away = standing stand.Away es;
  holder = h;
  places = places;
}

module _ (es : List (ℕ × Seated)) (places : List (Option ℕ)) (h : Option ℕ) (up : IsDistinct nat_eq (keys_of es)) (c p : ℕ) (new : List (ℕ × Seated))
    (h' : Option ℕ) (holder : h' ≡ holder_without c h) where
  pub line-moved : (s : Stand) → Reseats c (Some (record { place = p; stand = s })) es new → line_of new places h' ≡ moved_to s c (line_of es places h)
  line-moved stand.InLine change =
      let w : Option Seated = Some (record { place = p; stand = stand.InLine }) in
      rw (
        standing-comes c w es new change up stand.InLine refl,
        standing-leaves c w es new change up stand.Passed refl,
        standing-leaves c w es new change up stand.Away refl,
        holder,
      ) refl
  line-moved stand.Passed change =
      let w : Option Seated = Some (record { place = p; stand = stand.Passed }) in
      rw (
        standing-leaves c w es new change up stand.InLine refl,
        standing-comes c w es new change up stand.Passed refl,
        standing-leaves c w es new change up stand.Away refl,
        holder,
      ) refl
  line-moved stand.Away change =
      let w : Option Seated = Some (record { place = p; stand = stand.Away }) in
      rw (
        standing-leaves c w es new change up stand.InLine refl,
        standing-leaves c w es new change up stand.Passed refl,
        standing-comes c w es new change up stand.Away refl,
        holder,
      ) refl

  pub line-left : (places' : List (Option ℕ)) → places' ≡ map (holder_without c) places → Reseats c None es new →
      line_of new places' h' ≡ left_by c (line_of es places h)
  line-left places' left change =
      rw (
        standing-leaves c None es new change up stand.InLine refl,
        standing-leaves c None es new change up stand.Passed refl,
        standing-leaves c None es new change up stand.Away refl,
        holder,
        left,
      ) refl

-- who isn't in the line has no seat
pub no-seat : (c : ℕ) (es : List (ℕ × Seated)) → IsDistinct nat_eq (keys_of es)
    → is_among c (standing stand.InLine es) || is_among c (standing stand.Passed es) || is_among c (standing stand.Away es) ≡ false → seat_of es c ≡ None
no-seat c es up out = none (seat_of es c) (seat-in c es up ∙ out) where
  none : (o : Option Seated) → is_some o ≡ false → o ≡ None
  none None is = refl
  none (Some seat) is = absurd (cc)
