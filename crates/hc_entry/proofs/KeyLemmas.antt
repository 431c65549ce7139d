-- What a change of one row does to all that is kept by key.
--
-- A change of one row leaves the rows of other keys (`row-others`). So what is kept of that key changes by the function
-- that is named, and of others nothing (`row-changes`, `line-changes`). With it rows stay tidy, where something is kept
-- still or the row goes (`tidy-changes`), and lines stay orderly (`orderly-changes`). Where a line waits, something is
-- kept (`awaited-some`). The functions over rows in hc_entry answer by these.
use Rattle.std.{proofs.{Common.{◌≡◌, ℕ, List, Bool, true, false, not, Option, Some, None, Ok, Err, refl, sym, ap, subst, ◌∙◌, inl, inr}, lemmas.{Bool.{cases_Bool, both_ways}, Cmp.{nat_list_eq_equiv}, Slice.Eq.{bytes_eq-Decides}}}, specs.{Prelude.{Vec, Result, OnOk, OnErr, bytes_eq, nat_eq, is_some, ◌&&◌}, Global.{Global}, Cmp.Lexicographic.{pointwise}, Map.{lookup, KeepsOthers, IsKeyTest, AreApart}, HashMap.{UpdatesBy}}}
use Rattle.hc_entry.specs.{declared.{rows.KeyRow.{KeyRow}, seat.Stand.{Stand}}, Seats.{moved_to}, Lines.{Line, is_in, is_empty, line_with, all_back, passed_back, IsOrderly}, Kept.{Kept, nothing, line_in, kept_in, on_line, with_current, is_nothing}, KeyRows.{Rows, row_at, rows_of, kept_by, RowChanges, RowsStay, IsTidyAt, IsTidy, AreOrderly}}
use Rattle.hc_entry.specs.declared.seat.Stand.TheVariants as stand
use Rattle.hc_entry.proofs.OrderLemmas.{in-some, in-queued, orderly-queued, empty-all, empty-passed-back}

abbrev pub is_same : Vec ℕ Global → Vec ℕ Global → Bool
is_same x y = pointwise nat_eq x.items y.items

abbrev pub has_bytes : List ℕ → Vec ℕ Global → Bool
has_bytes bytes stored = pointwise nat_eq bytes stored.items

other-bytes : (a b k : List ℕ) → bytes_eq a b ≡ false → bytes_eq a k ≡ true → bytes_eq b k ≡ false
other-bytes a b k n y = nat_list_eq_equiv.symm b k ∙ sym (nat_list_eq_equiv.congr a k b y) ∙ n

keeps-other : (test : Vec ℕ Global → Bool) (old new : List (Vec ℕ Global × KeyRow)) → KeepsOthers is_same test old new
    → (other : Vec ℕ Global → Bool) → IsKeyTest is_same other → AreApart test other → lookup other new ≡ lookup other old
unfolding KeepsOthers
keeps-other test old new h = h

module _ (bytes : List ℕ) (old new : Rows) (w : Option KeyRow) (change : UpdatesBy is_same (has_bytes bytes) old new w) where
  pub row-others : (k : List ℕ) → bytes_eq bytes k ≡ false → row_at new k ≡ row_at old k
  row-others k off =
      keeps-other (has_bytes bytes) old.entries new.entries change.3 (has_bytes k)
      (λ x y. nat_list_eq_equiv.congr k x.items y.items) (λ v. other-bytes bytes k v.items off)

  pub row-here : row_at new bytes ≡ w
  row-here = change.1

  row-changes-at : (f : Kept → Kept) → kept_by w ≡ f (rows_of old bytes) → RowChanges f bytes old new
  row-changes-at f e = record {
    changes = λ k. elim (cases_Bool (bytes_eq bytes k)) [
      | inl on ↦
          let same = (bytes_eq-Decides bytes k).0 on in
          rw on (ap (rows_of new) (sym same) ∙ (ap kept_by row-here ∙ e))
      | inr off ↦ rw off (ap kept_by (row-others k off))
    ];
    others = row-others;
  }

  pub row-changes : (key : List ℕ) → bytes ≡ key → (f : Kept → Kept) → kept_by w ≡ f (rows_of old key) → RowChanges f key old new
  row-changes key same f e = subst (λ (k : List ℕ). RowChanges f k old new) same (row-changes-at f (e ∙ ap (λ (k : List ℕ). f (rows_of old k)) (sym same)))

  -- what is put there was there
  pub row-stays : w ≡ row_at old bytes → RowsStay old new
  row-stays e k = elim (cases_Bool (bytes_eq bytes k)) [
    | inl on ↦
        let same = (bytes_eq-Decides bytes k).0 on in
        ap (row_at new) (sym same) ∙ (row-here ∙ (e ∙ ap (row_at old) same))
    | inr off ↦ row-others k off
  ]

pub row-there : (bytes key : List ℕ) (rows : Rows) (o : Option KeyRow) → bytes ≡ key → o ≡ row_at rows bytes → row_at rows key ≡ o
row-there bytes key rows o same is = ap (row_at rows) (sym same) ∙ sym is

-- the line of a row changes
pub line-changes : (bytes key : List ℕ) (old new : Rows) (row : KeyRow) (l : Line) (f : Line → Line)
    → bytes ≡ key → Some row ≡ row_at old bytes → l ≡ f row.line → kept_in (f row.line) row.current ≡ on_line f (kept_in row.line row.current)
    → UpdatesBy is_same (has_bytes bytes) old new (Some (record { line = l; current = row.current })) → RowChanges (on_line f) key old new
line-changes bytes key old new row l f same is e commutes change =
    row-changes bytes old new (Some (record { line = l; current = row.current })) change key same (on_line f)
    (ap (λ (x : Line). kept_in x row.current) e ∙
    (commutes ∙ ap (λ (o : Option KeyRow). on_line f (kept_by o)) (sym (row-there bytes key old (Some row) same is))))

module _ (f : Kept → Kept) (key : List ℕ) (old new : Rows) (change : RowChanges f key old new) where
  pub kept-here : rows_of new key ≡ f (rows_of old key)
  kept-here = change.changes key ∙ rw ((bytes_eq-Decides key key).1 refl) refl

  -- where nothing is kept then, its row may go
  pub changes-gone : (gone : Rows) → rows_of new key ≡ nothing → row_at gone key ≡ None →
      ((k : List ℕ) → bytes_eq key k ≡ false → row_at gone k ≡ row_at new k) → RowChanges f key old gone
  changes-gone gone none absent others = record {
    changes = λ k. elim (cases_Bool (bytes_eq key k)) [
      | inl on ↦
          let same = (bytes_eq-Decides key k).0 on in
          rw on (ap (rows_of gone) (sym same) ∙ (ap kept_by absent ∙ (sym none ∙ kept-here)))
      | inr off ↦ rw off (ap kept_by (others k off ∙ change.others k off))
    ];
    others = λ k off. others k off ∙ change.others k off;
  }

  pub tidy-changes : ((k : List ℕ) → bytes_eq key k ≡ false → IsTidyAt old k) → IsTidyAt new key → IsTidy new
  tidy-changes was here k none = elim (cases_Bool (bytes_eq key k)) [
    | inl on ↦
        let same = (bytes_eq-Decides key k).0 on in
        subst (λ (q : List ℕ). IsTidyAt new q) same here none
    | inr off ↦
        let stays = change.others k off in
        stays ∙ was k off (ap (λ (o : Option KeyRow). is_nothing (kept_by o)) (sym stays) ∙ none)
  ]

  -- something is kept there
  pub tidy-some : IsTidy old → is_nothing (f (rows_of old key)) ≡ false → IsTidy new
  tidy-some was some = tidy-changes (λ k off. was k) (λ none. let h = ap is_nothing kept-here in absurd (cc))

  pub tidy-elsewhere : ((k : List ℕ) → bytes_eq key k ≡ false → IsTidyAt old k) → (k : List ℕ) → bytes_eq key k ≡ false → IsTidyAt new k
  tidy-elsewhere was k off none =
      let stays = change.others k off in
      stays ∙ was k off (ap (λ (o : Option KeyRow). is_nothing (kept_by o)) (sym stays) ∙ none)

  pub orderly-changes : AreOrderly old → IsOrderly (line_in (f (rows_of old key))) → AreOrderly new
  orderly-changes was here k = elim (cases_Bool (bytes_eq key k)) [
    | inl on ↦
        let same = (bytes_eq-Decides key k).0 on in
        subst (λ (q : List ℕ). IsOrderly (line_in (rows_of new q))) same (subst (λ (x : Kept). IsOrderly (line_in x)) (sym kept-here) here)
    | inr off ↦ subst (λ (o : Option KeyRow). IsOrderly (line_in (kept_by o))) (sym (change.others k off)) (was k)
  ]

-- a row that says something stays, and is tidy
pub tidy-row : (bytes key : List ℕ) (old new : Rows) (row : KeyRow) → bytes ≡ key → UpdatesBy is_same (has_bytes bytes) old new (Some row)
    → is_nothing (kept_in row.line row.current) ≡ false → IsTidyAt new key
tidy-row bytes key old new row same change some none =
    let there = row-there bytes key new (Some row) same (sym (row-here bytes old new (Some row) change)) in
    absurd (both_ways _ (ap (λ (o : Option KeyRow). is_nothing (kept_by o)) there ∙ some) none)

-- one that says nothing goes
pub row-gone : (f : Kept → Kept) (bytes key : List ℕ) (old mid new : Rows) (row : KeyRow) → bytes ≡ key
    → UpdatesBy is_same (has_bytes bytes) old mid (Some row) → UpdatesBy is_same (has_bytes bytes) mid new None
    → RowChanges f key old mid → kept_in row.line row.current ≡ nothing → RowChanges f key old new
row-gone f bytes key old mid new row same put gone change none =
    let there = row-there bytes key mid (Some row) same (sym (row-here bytes old mid (Some row) put)) in
    changes-gone f key old mid change new (ap kept_by there ∙ none)
    (row-there bytes key new None same (sym (row-here bytes mid new None gone)))
    (λ k off. row-others bytes mid new None gone k (ap (λ (b : List ℕ). bytes_eq b k) same ∙ off))

-- something is kept of a key for which one waits
pub awaited-some : (c : ℕ) (k : Kept) → is_in c (line_in k) ≡ true → is_nothing k ≡ false
awaited-some c k is = rw (in-some c (line_in k) is) refl

-- one stands elsewhere, whatever the places are
pub moved-commutes : (s : Stand) (c : ℕ) (row : KeyRow) → kept_in (moved_to s c row.line) row.current ≡ on_line (moved_to s c) (kept_in row.line row.current)
moved-commutes stand.InLine c row = refl
moved-commutes stand.Passed c row = refl
moved-commutes stand.Away c row = refl

pub rows-tidy : (old new : Rows) → RowsStay old new → IsTidy old → IsTidy new
rows-tidy old new same was k none = same k ∙ was k (ap (λ (o : Option KeyRow). is_nothing (kept_by o)) (sym (same k)) ∙ none)

pub rows-orderly : (old new : Rows) → RowsStay old new → AreOrderly old → AreOrderly new
rows-orderly old new same was k = subst (λ (o : Option KeyRow). IsOrderly (line_in (kept_by o))) (sym (same k)) (was k)

pub some-current : (r : ℕ) (k : Kept) → is_nothing (with_current (Some r) k) ≡ false
some-current r k = by_test (is_empty (line_in k)) where
  by_test : (b : Bool) → b && not true ≡ false
  by_test true = refl
  by_test false = refl

-- the rows with one that is current, or as they are
pub made-current : {X E : Type 0} (o : Result X E) (r : ℕ) (key : List ℕ) (old new : Rows)
    → OnOk o (RowChanges (with_current (Some r)) key old new) → OnErr o (RowsStay old new) → IsTidy old → AreOrderly old → IsTidy new × AreOrderly new
made-current (Ok x) r key old new ok err tidy orderly = (
  tidy-some (with_current (Some r)) key old new ok tidy (some-current r (rows_of old key)),
  orderly-changes (with_current (Some r)) key old new ok orderly (orderly key),
)
made-current (Err e) r key old new ok err tidy orderly = (rows-tidy old new err tidy, rows-orderly old new err orderly)

-- the rows as they are entered, or stay
pub entered : {X E : Type 0} (r : Result X E) (c : ℕ) (key : List ℕ) (old new : Rows) → is_in c (line_in (rows_of old key)) ≡ false
    → OnOk r (RowChanges (on_line (line_with c)) key old new) → OnErr r (RowsStay old new) → IsTidy old → AreOrderly old → IsTidy new × AreOrderly new
entered (Ok x) c key old new out ok err tidy orderly =
    let k = rows_of old key in (
      tidy-some (on_line (line_with c)) key old new ok tidy (awaited-some c (on_line (line_with c) k) (in-queued c (line_in k))),
      orderly-changes (on_line (line_with c)) key old new ok orderly (orderly-queued c (line_in k) out (orderly key)),
    )
entered (Err e) c key old new out ok err tidy orderly = (rows-tidy old new err tidy, rows-orderly old new err orderly)

pub nothing-all : (k : Kept) → is_nothing (on_line all_back k) ≡ is_nothing k
nothing-all k = ap (λ (b : Bool). b && not (is_some k.current)) (empty-all (line_in k))

pub nothing-passed-back : (k : Kept) → is_nothing (on_line passed_back k) ≡ is_nothing k
nothing-passed-back k = ap (λ (b : Bool). b && not (is_some k.current)) (empty-passed-back (line_in k))

pub on-err : {X E : Type 0} (P : Type 0) (r : Result X E) → P → OnErr r P
on-err P (Ok x) holds = tt
on-err P (Err e) holds = holds
