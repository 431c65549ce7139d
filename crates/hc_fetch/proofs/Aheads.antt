-- How the code keeps what is gathered.
--
-- Bytes are given at or before the end of what was written, or ahead of it. Over what they agree with, what stands
-- stands again (`over`). The former are written at once (`given_here`), the latter are kept, unless longer ones are
-- (`kept`). To write bytes is to append those from the end on (`written_on`): they are the gathered ones
-- (`bytes_from`). Then the first that is ahead is taken while it begins no later (`taken`); where none does, nothing is
-- gathered at the end (`none_left`).
use Rattle.std.{proofs.{Common.{◌≡◌, ◌⊎◌, inl, inr, ℕ, zero, suc, ◌+◌, ◌-◌, ◌<◌, ◌≤◌, ◌^◌, min, List, ◌∷◌, ◌++◌, length, drop, Bool, true, false, Result, Ok, Err, Option, Some, None, refl, ap, sym, ◌∙◌, subst, arith, append_assoc}, Math.Seq.{drop-cons}, lemmas.{Bool.{cases_lt}, List.{append-nil, drop_all}, Map.Keys.{le_from_not_gt}}}, specs.{Prelude.{if◌then◌else◌, is_some, IsSome, IfSome, OnOk, slice_index}, Ordering.{nat_cmp}, BTreeMap.{Updates, IsLowerBound, btree_map_len, get}}}
use Rattle.hc_text.proofs.Basics.{none_or, not_some as none_some, some_inj}
use Rattle.hc_sparse.specs.Cells.{Cells, Cell, Covers, nothing, inside, cells_with}
use Rattle.hc_sparse.proofs.CellLemmas.{inside-cases, inside-before}
use Rattle.hc_effects.proofs.Basics.{some_row}
use Rattle.hc_fetch.specs.{Ahead.{Ahead, Stand, Fit, IsIn, IsAhead, KeepsBut, Keeps, KeepsAll, Appends}, Gathering.{byte_before, bytes_on}}
use Rattle.hc_fetch.proofs.Maps.{map-own, map-other, map-empty, same_or_not}

-- BYTES THAT ARE GIVEN

module _ (f : Cells) (at x : ℕ) (bytes : List ℕ) (fit : Fit f at bytes) where
  abbrev g : Cells
  g = cells_with at x bytes f

  abbrev new : ℕ → Cell
  new p = record { byte = slice_index bytes (p - at); x = x }

  is_new : (p : ℕ) → inside at (length bytes) p ≡ true → g p ≡ Some (new p)
  is_new p here = ap (λ (b : Bool). if b then Some (new p) else f p) here

  is_old : (p : ℕ) → inside at (length bytes) p ≡ false → g p ≡ f p
  is_old p off = ap (λ (b : Bool). if b then Some (new p) else f p) off

  covers_over : (lo hi : ℕ) → Covers f lo hi → Covers g lo hi
  covers_over lo hi covers p low high = elim (inside-cases at (length bytes) p) [
    | inl here ↦ ap is_some (is_new p here.0)
    | inr off ↦ ap is_some (is_old p off.0) ∙ covers p low high
  ]

  pub byte_over : (q : ℕ) (byte y : ℕ) → f q ≡ Some (record { byte = byte; x = y }) → (z : ℕ) × (g q ≡ Some (record { byte = byte; x = z }))
  byte_over q byte y is = elim (inside-cases at (length bytes) q) [
    | inl here ↦
        let low = here.1 in
        let high = here.2 in
        let under : q - at < length bytes = omega arith in
        let place : at + (q - at) ≡ q = omega arith in
        let same : byte ≡ slice_index bytes (q - at) =
        fit.same (q - at) (record { byte = byte; x = y }) under (subst (λ (p : ℕ). f p ≡ Some (record { byte = byte; x = y })) (sym place) is) in
        (x, is_new q here.0 ∙ ap (λ (b : ℕ). Some (record { byte = b; x = x })) (sym same))
    | inr off ↦ (y, is_old q off.0 ∙ is)
  ]

  over : (q : ℕ) (others : List ℕ) → Stand f q others → Stand g q others
  over q others stand = record {
    below = stand.below;
    each = λ i lt. let was = stand.each i lt in byte_over (q + i) (slice_index others i) was.0 was.1;
  }

  these_stand : Stand g at bytes
  these_stand = record {
    below = fit.below;
    each = λ i lt. (x, one i lt (inside-cases at (length bytes) (at + i)));
  }
    where
      one : (i : ℕ) → i < length bytes →
          ((inside at (length bytes) (at + i) ≡ true) × (at ≤ at + i) × (at + i < at + length bytes)) ⊎
          ((inside at (length bytes) (at + i) ≡ false) × ((at + i < at) ⊎ (at + length bytes ≤ at + i))) →
          g (at + i) ≡ Some (record { byte = slice_index bytes i; x = x })
      one i lt (inl here) = let same : at + i - at ≡ i = omega arith in is_new (at + i) here.0 ∙
          ap (λ (k : ℕ). Some (record { byte = slice_index bytes k; x = x })) same
      one i lt (inr off) = absurd (elim off.1 [ inl less ↦ omega arith | inr more ↦ omega arith ])

  -- where what was given is, or what was there
  parts : (p : ℕ) (cell : Cell) → g p ≡ Some cell → IsIn p at bytes ⊎ (f p ≡ Some cell)
  parts p cell is = elim (inside-cases at (length bytes) p) [
    | inl here ↦ inl (here.1, here.2)
    | inr off ↦ inr (sym (is_old p off.0) ∙ is)
  ]

  -- they begin no later than the end of what was written
  pub given_here : (ahead : Ahead) (written : ℕ) → at ≤ written → KeepsAll ahead written f → KeepsBut ahead written g at bytes
  given_here ahead written begins k = record {
    covers = covers_over 0 written k.keeps.covers;
    stand = λ q others there. over q others (k.keeps.stand q others there);
    these = these_stand;
    begins = begins;
    all = λ p cell le is. elim (parts p cell is) [ inl here ↦ inr here | inr was ↦ inl (k.keeps.all p cell le was) ];
  }

  pub given_seen : (ahead : Ahead) (written : ℕ) → at ≤ written → KeepsAll ahead written f → (seen : List ℕ) → bytes ≡ seen → KeepsBut ahead written g at seen
  given_seen ahead written begins k seen same = subst (λ (b : List ℕ). KeepsBut ahead written g at b) same (given_here ahead written begins k)

  -- THEY ARE AHEAD

  module _ (ahead after : Ahead) (written : ℕ) (later : written + 1 ≤ at) (k : KeepsAll ahead written f) where
    still_stops : g written ≡ None
    still_stops = let less : written < at = omega arith in is_old written (inside-before at (length bytes) written less) ∙ k.stops

    -- they are kept
    pub kept_new : Updates nat_cmp ahead after at (Some bytes) → ((other : List ℕ) → get nat_cmp ahead at ≡ Some other → length other ≤ length bytes) →
        KeepsAll after written g
    kept_new updates longer = record { keeps = record { covers = covers_over 0 written k.keeps.covers; stand = stand; all = all }; stops = still_stops }
      where
        stand : (q : ℕ) (others : List ℕ) → get nat_cmp after q ≡ Some others → Stand g q others
        stand q others there = elim (same_or_not q at) [
          | inl same ↦
              let own : Some bytes ≡ Some others = sym (map-own ahead after at (Some bytes) updates) ∙
              subst (λ (z : ℕ). get nat_cmp after z ≡ Some others) same there in
              subst (λ (z : ℕ). Stand g z others) (sym same) (subst (Stand g at) (some_inj bytes others own) these_stand)
          | inr apart ↦ over q others (k.keeps.stand q others (sym (map-other ahead after at (Some bytes) updates q apart) ∙ there))
        ]

        still : (p : ℕ) → IsAhead ahead p → IsAhead after p
        still p it = elim (same_or_not it.at at) [
          | inl same ↦
              let other : get nat_cmp ahead at ≡ Some it.bytes = subst (λ (z : ℕ). get nat_cmp ahead z ≡ Some it.bytes) same it.there in
              let long = longer it.bytes other in
              let low = it.inside.0 in let high = it.inside.1 in
              record { at = at; bytes = bytes; there = map-own ahead after at (Some bytes) updates; inside = (omega arith, omega arith) }
          | inr apart ↦ record {
            at = it.at;
            bytes = it.bytes;
            there = map-other ahead after at (Some bytes) updates it.at apart ∙ it.there;
            inside =
                it.inside;
          }
        ]

        all : (p : ℕ) (cell : Cell) → written ≤ p → g p ≡ Some cell → IsAhead after p
        all p cell le is = elim (parts p cell is) [
          | inl here ↦ record { at = at; bytes = bytes; there = map-own ahead after at (Some bytes) updates; inside = here }
          | inr was ↦ still p (k.keeps.all p cell le was)
        ]

    -- longer ones are
    pub kept_old : (other : List ℕ) → get nat_cmp ahead at ≡ Some other → length bytes ≤ length other → KeepsAll ahead written g
    kept_old other there short = record {
      keeps = record {
        covers = covers_over 0 written k.keeps.covers;
        stand = λ q others is. over q others (k.keeps.stand q others is);
        all = λ p cell le is. elim (parts p cell is) [
          | inl here ↦ let low = here.0 in let high = here.1 in record { at = at; bytes = other; there = there; inside = (omega arith, omega arith) }
          | inr was ↦ k.keeps.all p cell le was
        ];
      };
      stops = still_stops;
    }

-- BYTES THAT ARE WRITTEN

pub bytes_from : (f : Cells) (at : ℕ) (bytes : List ℕ) → Stand f at bytes → (k n : ℕ) → k + n ≡ length bytes → bytes_on f (at + k) n ≡ drop k bytes
bytes_from f at bytes stand k zero is = sym (drop_all k bytes (omega arith))
bytes_from f at bytes stand k (suc n) is =
    let under : k < length bytes = omega arith in
    let place : at + (k + 1) ≡ at + k + 1 = omega arith in
    let next : k + 1 ≡ suc k = omega arith in
    let rest : bytes_on f (at + k + 1) n ≡ drop (suc k) bytes =
    subst (λ (q : ℕ). bytes_on f q n ≡ drop (suc k) bytes) place
    (subst (λ (j : ℕ). bytes_on f (at + (k + 1)) n ≡ drop j bytes) next (bytes_from f at bytes stand (k + 1) n (omega arith))) in
    let here = stand.each k under in
    ap (λ (q : Option Cell). byte_before q (bytes_on f (at + k + 1) n)) here.1
    ∙ (ap (λ (more : List ℕ). slice_index bytes k ∷ more) rest ∙ sym (drop-cons bytes k 0 under))

pub bytes_join : (f : Cells) (p n m : ℕ) → Covers f p (p + n) → bytes_on f p (n + m) ≡ bytes_on f p n ++ bytes_on f (p + n) m
bytes_join f p zero m covers = let place : p + 0 ≡ p = omega arith in let none : 0 + m ≡ m = omega arith in rw (place, none) refl
bytes_join f p (suc n) m covers =
    let here = some_row (f p) (covers p (omega arith) (omega arith)) in
    let rest = bytes_join f (p + 1) n m (λ q low high. covers q (omega arith) (omega arith)) in
    let place : p + 1 + n ≡ p + suc n = omega arith in
    let count : suc n + m ≡ suc (n + m) = omega arith in
    rw count (ap (λ (q : Option Cell). byte_before q (bytes_on f (p + 1) (n + m))) here.1
    ∙ (ap (λ (more : List ℕ). here.0.byte ∷ more) (subst (λ (z : ℕ). bytes_on f (p + 1) (n + m) ≡ bytes_on f (p + 1) n ++ bytes_on f z m) place rest)
    ∙ ap (λ (q : Option Cell). byte_before q (bytes_on f (p + 1) n) ++ bytes_on f (p + suc n) m) (sym here.1)))

pub appends_none : (f : Cells) (at : ℕ) (text : List ℕ) → Appends f at at text text
appends_none f at text = record { count = 0; up_to = omega arith; covers = λ p low high. absurd (omega arith); text = sym (append-nil text) }

pub appends_more : (f : Cells) (a b c : ℕ) (first second third : List ℕ) → Appends f a b first second → Appends f b c second third → Appends f a c first third
appends_more f a b c first second third one two =
    let to_one = one.up_to in let to_two = two.up_to in
    let joined = bytes_join f a one.count two.count (subst (Covers f a) (sym one.up_to) one.covers) in
    let tail : bytes_on f (a + one.count) two.count ≡ bytes_on f b two.count = ap (λ (q : ℕ). bytes_on f q two.count) one.up_to in
    record {
      count = one.count + two.count;
      up_to = omega arith;
      covers = λ p low high. by_place p low high;
      text = two.text ∙ (ap (λ (l : List ℕ). l ++ bytes_on f b two.count) one.text ∙ (append_assoc first (bytes_on f a one.count) (bytes_on f b two.count)
          ∙ ap (λ (l : List ℕ). first ++ l) (sym (joined ∙ ap (λ (l : List ℕ). bytes_on f a one.count ++ l) tail))));
    }
  where
    by_place : (p : ℕ) → a ≤ p → p < c → is_some (f p) ≡ true
    by_place p low high = elim (cases_lt p b) [ inl before ↦ one.covers p low before | inr past ↦ two.covers p past high ]

-- some of these bytes are past the end of what was written
module _ (f : Cells) (ahead : Ahead) (written at : ℕ) (bytes : List ℕ) (k : KeepsBut ahead written f at bytes) where
  pub written_on : (now : ℕ) (before after : List ℕ) → written - at < length bytes → now ≡ at + length bytes → after ≡ before ++
      drop (written - at) bytes → Keeps ahead now f × Appends f written now before after
  written_on now before after some is text =
      let begins = k.begins in
      let place : at + (written - at) ≡ written = omega arith in
      let new : bytes_on f written (length bytes - (written - at)) ≡ drop (written - at) bytes =
      subst (λ (q : ℕ). bytes_on f q (length bytes - (written - at)) ≡ drop (written - at) bytes) place
      (bytes_from f at bytes k.these (written - at) (length bytes - (written - at)) (omega arith)) in
      let from_here : Covers f at now = λ p low high. (let under : p - at < length bytes = omega arith in
      let spot : at + (p - at) ≡ p = omega arith in
      let here = k.these.each (p - at) under in
      subst (λ (q : ℕ). is_some (f q) ≡ true) spot (ap is_some here.1)) in (
        record {
          covers = λ p low high. elim (cases_lt p at) [ inl less ↦ k.covers p low (omega arith) | inr past ↦ from_here p past high ];
          stand = k.stand;
          all = λ p cell le there. elim (k.all p cell (omega arith) there) [ inl it ↦ it | inr here ↦ let past = here.1 in absurd (omega arith) ];
        },
        record {
          count = length bytes - (written - at);
          up_to = omega arith;
          covers = λ p low high. from_here p (omega arith) high;
          text = text ∙ ap (λ (l : List ℕ). before ++ l) (sym new);
        },
      )

-- WHAT IS NEXT

pub taken : (f : Cells) (ahead after : Ahead) (written at : ℕ) (bytes : List ℕ) → Keeps ahead written f → at ≤ written →
    get nat_cmp ahead at ≡ Some bytes → Updates nat_cmp ahead after at None → KeepsBut after written f at bytes
taken f ahead after written at bytes k begins there updates = record {
  covers = k.covers;
  stand = stand;
  these = k.stand at bytes there;
  begins = begins;
  all = λ p cell le is. left p (k.all p cell le is);
}
  where
    stand : (q : ℕ) (others : List ℕ) → get nat_cmp after q ≡ Some others → Stand f q others
    stand q others is = elim (same_or_not q at) [
      | inl same ↦ absurd (none_some others (sym (map-own ahead after at None updates) ∙ subst (λ (z : ℕ). get nat_cmp after z ≡ Some others) same is))
      | inr apart ↦ k.stand q others (sym (map-other ahead after at None updates q apart) ∙ is)
    ]

    left : (p : ℕ) → IsAhead ahead p → IsAhead after p ⊎ IsIn p at bytes
    left p it = elim (same_or_not it.at at) [
      | inl same ↦
          let own : Some it.bytes ≡ Some bytes = sym (subst (λ (z : ℕ). get nat_cmp ahead z ≡ Some it.bytes) same it.there) ∙ there in
          inr (subst (λ (z : ℕ). IsIn p z bytes) same (subst (IsIn p it.at) (some_inj it.bytes bytes own) it.inside))
      | inr apart ↦ inl (record { at = it.at; bytes = it.bytes; there = map-other ahead after at None updates it.at apart ∙ it.there; inside = it.inside })
    ]

-- none begins before or where what was written ends
stops_by : (f : Cells) (ahead : Ahead) (written : ℕ) → Keeps ahead written f →
    ((q : ℕ) (others : List ℕ) → get nat_cmp ahead q ≡ Some others → written < q) → KeepsAll ahead written f
stops_by f ahead written k later = record {
  keeps = k;
  stops = none_or (f written)
      (λ cell is. (let it = k.all written cell (omega arith) is in let low = it.inside.0 in let high = later it.at it.bytes it.there in omega arith));
}

pub none_left : (f : Cells) (ahead : Ahead) (written : ℕ) → Keeps ahead written f → (0 < btree_map_len ahead → ⊥) → KeepsAll ahead written f
none_left f ahead written k none = stops_by f ahead written k (λ q others is. absurd (none_some others (sym (map-empty ahead none q) ∙ is)))

is_there : (q : Option (List ℕ)) (others : List ℕ) → q ≡ Some others → IsSome q
is_there None others is = absurd (none_some others is)
is_there (Some z) others is = refl

pub none_next : (f : Cells) (ahead : Ahead) (written at : ℕ) → Keeps ahead written f → IsLowerBound nat_cmp ahead at → written < at → KeepsAll ahead written f
none_next f ahead written at k least later =
    stops_by f ahead written k (λ q others is. (let low : at ≤ q = le_from_not_gt at q (least q (is_there (get nat_cmp ahead q) others is)) in omega arith))

pub some_taken : (ahead after : Ahead) (written at : ℕ) (bytes : List ℕ) (result : Option (ℕ × List ℕ)) → get nat_cmp ahead at ≡ Some bytes → at ≤ written
    → IfSome result (λ (p : ℕ × List ℕ). IsLowerBound nat_cmp ahead p.0) → IfSome result (λ (p : ℕ × List ℕ). get nat_cmp ahead p.0 ≡ Some p.1)
    → IfSome result (λ (p : ℕ × List ℕ). Updates nat_cmp ahead after p.0 None)
    → IfSome result (λ (next : ℕ × List ℕ). (f : Cells) → Keeps ahead written f → KeepsBut after written f next.0 next.1)
some_taken ahead after written at bytes None there le least value updates = tt
some_taken ahead after written at bytes (Some p) there le least value updates =
    λ f k. taken f ahead after written p.0 p.1 k (let low : p.0 ≤ at = le_from_not_gt p.0 at (least at (is_there (get nat_cmp ahead at) bytes there)) in
    omega arith) value updates

-- where these bytes end
pub end_is : (written at len now : ℕ) → at ≤ written → written - at < len → at + len ≤ 2 ^ 62 → now ≡ min
    (written + (len - (written - at))) (2 ^ 64 - 1) → now ≡ at + len
end_is written at len now begins some below is = omega arith

pub on_map : {A E : Type 0} {P Q : Type 0} (r : Result A E) → (P → Q) → OnOk r P → OnOk r Q
on_map (Ok a) f p = f p
on_map (Err e) f p = tt

pub none_given : (m : Ahead) → (0 < btree_map_len m → ⊥) → KeepsAll m 0 nothing
none_given m none = record {
  keeps = record {
    covers = λ p low high. absurd (omega arith);
    stand = λ q others is. absurd (none_some others (sym (map-empty m none q) ∙ is));
    all = λ p cell le is. absurd (none_some cell is);
  };
  stops = refl;
}
