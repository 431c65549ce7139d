-- The lists of wanted exchanges, as an exchange changes.
use Rattle.std.{proofs.{Common.{◌≡◌, ◌≢◌, ℕ, List, true, false, not, eqb, Option, Some, None, refl, sym, ap, ◌∙◌, inl, inr}, lemmas.Bool.{cases_Bool, eq-eqb, ne_eqb, eqb-true, eqb-false}}, specs.Prelude.{is_some}}
use Rattle.hc_text.specs.Sorted.{with_item, without, itself, is_among}
use Rattle.hc_text.proofs.SortedLemmas.{has-with, has-without}
use Rattle.hc_exch.specs.{declared.row.Open.{Open}, Wishes.{Wished, asks, rests, leaves, wants_more}, Known.{Known, Table, unknown, is_wanted, is_idle, Changes}, Agreement.{Agrees, AgreesBut}}

with-other : (x y : ℕ) (xs : List ℕ) → y ≢ x → is_among y (with_item itself x xs) ≡ is_among y xs
with-other x y xs ne = has-with itself y x xs ∙ rw (ne_eqb x y (λ e. ne (sym e))) refl

with-same : (x : ℕ) (xs : List ℕ) → is_among x (with_item itself x xs) ≡ true
with-same x xs = has-with itself x x xs ∙ rw (eq-eqb x x refl) refl

without-other : (x y : ℕ) (xs : List ℕ) → y ≢ x → is_among y (without itself x xs) ≡ is_among y xs
without-other x y xs ne = has-without itself y x xs ∙ rw (ne_eqb x y (λ e. ne (sym e))) refl

without-same : (x : ℕ) (xs : List ℕ) → is_among x (without itself x xs) ≡ false
without-same x xs = has-without itself x x xs ∙ rw (eq-eqb x x refl) refl

-- the lists are as before but for one, which stands where it belongs
agrees-at : (x : ℕ) (w v : Wished) (t : Table) → AgreesBut x w t → ((y : ℕ) → y ≢ x → is_among y v.wanted ≡ is_among y w.wanted)
    → ((y : ℕ) → y ≢ x → is_among y v.idle ≡ is_among y w.idle) → is_among x v.wanted ≡ is_wanted (t x).running →
    is_among x v.idle ≡ is_idle (t x).running → Agrees v t
agrees-at x w v t h wanted idle at_wanted at_idle =
    record {
      wanted = λ y. elim (cases_Bool (eqb y x)) [
        | inl on ↦ let e = eqb-true y x on in rw e at_wanted
        | inr off ↦ wanted y (eqb-false y x off) ∙ h.wanted y (eqb-false y x off)
      ];
      idle = λ y. elim (cases_Bool (eqb y x)) [
        | inl on ↦ let e = eqb-true y x on in rw e at_idle
        | inr off ↦ idle y (eqb-false y x off) ∙ h.idle y (eqb-false y x off)
      ];
    }

pub agrees-leaves : (x : ℕ) (w : Wished) (t : Table) → AgreesBut x w t → (t x).running ≡ None → Agrees (leaves x w) t
agrees-leaves x w t h none =
    agrees-at x w (leaves x w) t h (λ y ne. without-other x y w.wanted ne) (λ y ne. without-other x y w.idle ne)
    (without-same x w.wanted ∙ sym (ap is_wanted none)) (without-same x w.idle ∙ sym (ap is_idle none))

pub agrees-asks : (x : ℕ) (w : Wished) (t : Table) (o : Open) → AgreesBut x w t → (t x).running ≡ Some o → is_wanted (Some o) ≡ true → Agrees (asks x w) t
agrees-asks x w t o h is on =
    agrees-at x w (asks x w) t h (λ y ne. with-other x y w.wanted ne) (λ y ne. without-other x y w.idle ne)
    (with-same x w.wanted ∙ sym (ap is_wanted is ∙ on)) (without-same x w.idle ∙ sym (ap is_idle is ∙ ap not on))

pub agrees-rests : (x : ℕ) (w : Wished) (t : Table) (o : Open) → AgreesBut x w t → (t x).running ≡ Some o → is_wanted (Some o) ≡ false → Agrees (rests x w) t
agrees-rests x w t o h is off =
    agrees-at x w (rests x w) t h (λ y ne. without-other x y w.wanted ne) (λ y ne. with-other x y w.idle ne)
    (without-same x w.wanted ∙ sym (ap is_wanted is ∙ off)) (with-same x w.idle ∙ sym (ap is_idle is ∙ ap not off))

pub agrees-wanted : (x : ℕ) (w : Wished) (t : Table) (o : Open) → AgreesBut x w t → (t x).running ≡ Some o → is_wanted (Some o) ≡ true →
    is_among x w.idle ≡ false → Agrees w t
agrees-wanted x w t o h is on not_idle =
    agrees-at x w w t h (λ y ne. refl) (λ y ne. refl)
    (elim (cases_Bool (is_among x w.wanted)) [
      | inl there ↦ there ∙ sym (ap is_wanted is ∙ on)
      | inr off ↦ absurd (let yes_idle = h.there (ap is_some is) off in cc)
    ])
    (not_idle ∙ sym (ap is_idle is ∙ ap not on))

pub agrees-same : (w : Wished) (t u : Table) → ((y : ℕ) → u y ≡ t y) → Agrees w t → Agrees w u
agrees-same w t u same h =
    record {
      wanted = λ y. h.wanted y ∙ ap (λ (k : Known). is_wanted k.running) (sym (same y));
      idle = λ y. h.idle y ∙
          ap (λ (k : Known). is_idle k.running) (sym (same y));
    }

once : (o : Option Open) → is_wanted o ≡ true → is_idle o ≡ false
once None on = refl
once (Some o) on = ap not on

there : (o : Option Open) → is_some o ≡ true → is_wanted o ≡ false → is_idle o ≡ true
there None some off = absurd (cc)
there (Some o) some off = ap not off

pub changes-other : (f : Known → Known) (x : ℕ) (t u : Table) → Changes f x t u → (y : ℕ) → y ≢ x → u y ≡ t y
changes-other f x t u change y ne = let off : eqb x y ≡ false = ne_eqb x y (λ e. ne (sym e)) in rw off at (change y)

pub changes-same : (f : Known → Known) (x : ℕ) (t u : Table) → Changes f x t u → u x ≡ f (t x)
changes-same f x t u change = let on : eqb x x ≡ true = eq-eqb x x refl in rw on at (change x)

-- a number that is still to come stands in the list of the wanted ones
pub agrees_but-new : (x : ℕ) (w : Wished) (t u : Table) → Agrees w t → t x ≡ unknown → ((y : ℕ) → y ≢ x → u y ≡ t y) → AgreesBut x (wants_more x w) u
agrees_but-new x w t u h new others =
    record {
      wanted = λ y ne. with-other x y w.wanted ne ∙ (h.wanted y ∙ ap (λ (k : Known). is_wanted k.running) (sym (others y ne)));
      idle = λ y ne. h.idle y ∙ ap (λ (k : Known). is_idle k.running) (sym (others y ne));
      once = λ on. h.idle x ∙ ap (λ (k : Known). is_idle k.running) new;
      there = λ some off. absurd (let on = with-same x w.wanted in cc);
    }
