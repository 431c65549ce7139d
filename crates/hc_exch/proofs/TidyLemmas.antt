-- Each row says something, none has a number that is still to come, and not more is held than came.
use Rattle.std.{proofs.{Common.{◌≡◌, ◌≢◌, ℕ, ◌+◌, ◌≤◌, true, eqb, Option, Some, None, refl, ap, ◌∙◌, inl, inr, arith}, lemmas.Bool.{cases_Bool, eqb-true, eqb-false}}, specs.{Prelude.{is_some, nat_eq}, HashMap.{get}}}
use Rattle.hc_event.specs.declared.{act.Need.{Need}, event.Request.{Request}}
use Rattle.hc_exch.specs.{declared.{role.Role.{Role}, row.Row.{Row}}, Wishes.{Wished, wants_more, leaves}, Known.{Known, unknown, with_new_exchange, exchange_at_opening, is_idle, Changes, fits}, Rows.{Rows, rows_of, known_by, keeps}, Agreement.{Agrees, IsTidy}}
use Rattle.hc_exch.proofs.AgreementLemmas.{agrees-same, agrees-leaves, agrees-wanted, agrees_but-new, changes-other, changes-same}

keeps-by : (o : Option Row) → is_some (known_by o).running ≡ true → keeps o ≡ true
keeps-by None some = absurd (cc)
keeps-by (Some row) some = rw some refl

-- the same rows
pub rows-same : (old now : Rows) → ((y : ℕ) → get nat_eq now y ≡ get nat_eq old y) → (y : ℕ) → rows_of now y ≡ rows_of old y
rows-same old now same y = ap known_by (same y)

pub tidy-same : (next : ℕ) (old now : Rows) → ((y : ℕ) → get nat_eq now y ≡ get nat_eq old y) → IsTidy next old → IsTidy next now
tidy-same next old now same h =
    record {
      keeps = λ y. ap keeps (same y) ∙ h.keeps y;
      new = λ y le. rows-same old now same y ∙ h.new y le;
      counted = λ y. ap fits (rows-same old now same y) ∙ h.counted y;
    }

pub agrees-rows : (w : Wished) (old now : Rows) → ((y : ℕ) → get nat_eq now y ≡ get nat_eq old y) → Agrees w (rows_of old) → Agrees w (rows_of now)
agrees-rows w old now same h = agrees-same w (rows_of old) (rows_of now) (rows-same old now same) h

-- one changed and the others stayed
pub tidy-changes : (next x : ℕ) (f : Known → Known) (old mid now : Rows) → IsTidy next old → Changes f x (rows_of old) (rows_of mid)
    → ((y : ℕ) → rows_of now y ≡ rows_of mid y) → ((y : ℕ) → y ≢ x → get nat_eq mid y ≡ get nat_eq old y) →
    ((y : ℕ) → y ≢ x → get nat_eq now y ≡ get nat_eq mid y)
    → keeps (get nat_eq now x) ≡ true → (next ≤ x → f (rows_of old x) ≡ unknown) → fits (f (rows_of old x)) ≡ true → IsTidy next now
tidy-changes next x f old mid now h change same first second keep new fit =
    record {
      keeps = λ y. elim (cases_Bool (eqb y x)) [
        | inl on ↦ let e = eqb-true y x on in rw e keep
        | inr off ↦ let ne = eqb-false y x off in ap keeps (second y ne ∙ first y ne) ∙ h.keeps y
      ];
      new = λ y le. elim (cases_Bool (eqb y x)) [
        | inl on ↦ let e = eqb-true y x on in same y ∙ rw e (changes-same f x (rows_of old) (rows_of mid) change ∙ new (let e' : y ≡ x = e in omega arith))
        | inr off ↦ same y ∙ (changes-other f x (rows_of old) (rows_of mid) change y (eqb-false y x off) ∙ h.new y le)
      ];
      counted = λ y. elim (cases_Bool (eqb y x)) [
        | inl on ↦ let e = eqb-true y x on in ap fits (same y) ∙ rw e (ap fits (changes-same f x (rows_of old) (rows_of mid) change) ∙ fit)
        | inr off ↦ ap fits (same y ∙ changes-other f x (rows_of old) (rows_of mid) change y (eqb-false y x off)) ∙ h.counted y
      ];
    }

-- what was begun and refused leaves nothing
pub agrees-refused : (x : ℕ) (w : Wished) (old now : Rows) → Agrees w (rows_of old) → rows_of old x ≡ unknown → ((y : ℕ) → get nat_eq now y ≡ get nat_eq old y)
    → Agrees (leaves x (wants_more x w)) (rows_of now)
agrees-refused x w old now h new same =
    agrees-leaves x (wants_more x w) (rows_of now) (agrees_but-new x w (rows_of old) (rows_of now) h new (λ y ne. rows-same old now same y))
    (ap (λ (k : Known). k.running) (rows-same old now same x ∙ new))

module _ (c : ℕ) (role : Role) (need : Need) (request : Request) (moment : ℕ) where
  pub agrees-launched : (x : ℕ) (w : Wished) (old now : Rows) → Agrees w (rows_of old) → rows_of old x ≡ unknown
      → Changes (with_new_exchange c role need request moment) x (rows_of old) (rows_of now) → Agrees (wants_more x w) (rows_of now)
  agrees-launched x w old now h new change =
      let but = agrees_but-new x w (rows_of old) (rows_of now) h new
      (changes-other (with_new_exchange c role need request moment) x (rows_of old) (rows_of now) change) in
      agrees-wanted x (wants_more x w) (rows_of now) (exchange_at_opening c role need request moment) but
      (ap (λ (k : Known). k.running) (changes-same (with_new_exchange c role need request moment) x (rows_of old) (rows_of now) change))
      refl (h.idle x ∙ ap (λ (k : Known). is_idle k.running) new)

  pub tidy-launched : (x : ℕ) (old now : Rows) → IsTidy x old → Changes (with_new_exchange c role need request moment) x (rows_of old) (rows_of now)
      → ((y : ℕ) → y ≢ x → get nat_eq now y ≡ get nat_eq old y) → IsTidy (x + 1) now
  tidy-launched x old now h change others =
      let at = changes-same (with_new_exchange c role need request moment) x (rows_of old) (rows_of now) change in
      record {
        keeps = λ y. elim (cases_Bool (eqb y x)) [
          | inl on ↦ let e = eqb-true y x on in rw e (keeps-by (get nat_eq now x) (ap (λ (k : Known). is_some k.running) at))
          | inr off ↦ ap keeps (others y (eqb-false y x off)) ∙ h.keeps y
        ];
        new = λ y le. let ne : y ≢ x = λ e. absurd (omega arith) in
            changes-other (with_new_exchange c role need request moment) x (rows_of old) (rows_of now) change y ne ∙ h.new y (omega arith);
        counted = λ y. elim (cases_Bool (eqb y x)) [
          | inl on ↦ let e = eqb-true y x on in rw e (ap fits at)
          | inr off ↦ ap fits (changes-other (with_new_exchange c role need request moment) x (rows_of old) (rows_of now) change y (eqb-false y x off)) ∙
              h.counted y
        ];
      }
