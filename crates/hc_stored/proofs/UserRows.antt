-- A row where who uses it changes, and where its writer group ends then.
--
-- What a row tells of its users is read off who uses it, so each change of these is one of the row: by cases of the
-- way, since a group keeps its exchange (`row-bound`, `row-first`, `row-left`, `row-moved`, `row-grown`). What isn't
-- lost is resumed (`row-resumed`). A group ends where what is stored does, whoever comes, stands elsewhere or goes
-- (`ends-joined`, `ends-moved`, `ends-left`), and as much further on as more is stored (`ends-grown`).
use Rattle.std.{proofs.{Common.{◌≡◌, ℕ, ◌+◌, ◌-◌, ◌<◌, ◌≤◌, ◌^◌, List, Bool, true, false, Option, Some, None, Result, Ok, Err, refl, sym, subst, inl, inr, arith}, lemmas.Bool.{cases_Bool}}, specs.Prelude.{IfSome, OnErr, OnOk, is_some, option_map}}
use Rattle.hc_text.specs.Sorted.{has, itself}
use Rattle.hc_writers.specs.Group.{Group, is_member}
use Rattle.hc_entry.specs.{Used.{Used, founded_by, group_in, grown_way, is_lost_in, joined_way, left_way, moved_if_member, moved_way, resumed_by, with_first, with_user, without_user}, declared.way.Way.{Way}}
use Rattle.hc_entry.specs.declared.way.Way.TheVariants as way
use Rattle.hc_store.specs.Slots.{Held, Slots}
use Rattle.hc_stored.specs.{Groups.{EndsAt}, Heads.{Summary}, Rows.{Row, founded_row, is_lost_row, kept_by, kept_of, row_by, unused_by, used_by, used_first_by, users_at, written_in}, Views.{has_user, is_lost_at}}

-- ITS ROW

module _ (key : List ℕ) (slot : ℕ) (summary : Summary) where
  pub row-founded : (c : ℕ) (is_first : Bool) (writer : Option ℕ) →
      row_by key slot summary 0 (founded_by c is_first writer) false ≡ founded_row key slot summary c is_first writer
  row-founded c is_first None = refl
  row-founded c is_first (Some x) = refl

  module _ (reach : ℕ) (gone : Bool) where
    abbrev by : List ℕ → Option ℕ → Way → Row
    by bound first w = row_by key slot summary reach (record { bound = bound; first = first; way = w }) gone

    bound-by : (c : ℕ) (bound : List ℕ) (first : Option ℕ) (w : Way) →
        row_by key slot summary reach (with_user c (record { bound = bound; first = first; way = w })) gone ≡ used_by c (by bound first w)
    bound-by c bound first way.Readers = refl
    bound-by c bound first (way.Writers g) = refl
    bound-by c bound first (way.Lost alone writer) = refl

    first-by : (c : ℕ) (bound : List ℕ) (first : Option ℕ) (w : Way) →
        row_by key slot summary reach (with_first c (record { bound = bound; first = first; way = w })) gone ≡ used_first_by c (by bound first w)
    first-by c bound first way.Readers = refl
    first-by c bound first (way.Writers g) = refl
    first-by c bound first (way.Lost alone writer) = refl

    left-by : (c : ℕ) (bound : List ℕ) (first : Option ℕ) (w : Way) →
        row_by key slot summary reach (without_user c (record { bound = bound; first = first; way = w })) gone ≡ unused_by c (by bound first w)
    left-by c bound first way.Readers = refl
    left-by c bound first (way.Writers g) = refl
    left-by c bound first (way.Lost alone writer) = refl

    grown-by : (n : ℕ) (bound : List ℕ) (first : Option ℕ) (w : Way) → by bound first (grown_way n w) ≡ by bound first w
    grown-by n bound first way.Readers = refl
    grown-by n bound first (way.Writers g) = refl
    grown-by n bound first (way.Lost alone writer) = refl

    moved-member : (c p : ℕ) (bound : List ℕ) (first : Option ℕ) (g : Group) → by bound first (way.Writers (moved_if_member c p g)) ≡
        by bound first (way.Writers g)
    moved-member c p bound first g = elim (cases_Bool (is_member c g)) [
      | inl is ↦ rw is refl
      | inr off ↦ rw off refl
    ]

    moved-by : (c p : ℕ) (bound : List ℕ) (first : Option ℕ) (w : Way) → by bound first (moved_way c p w) ≡ by bound first w
    moved-by c p bound first way.Readers = refl
    moved-by c p bound first (way.Writers g) = moved-member c p bound first g
    moved-by c p bound first (way.Lost alone writer) = refl

    resumed-by : (x end : ℕ) (bound : List ℕ) (first : Option ℕ) (w : Way) → is_lost_in w ≡ false →
        row_by key slot summary reach (resumed_by x end (record { bound = bound; first = first; way = w })) gone ≡ written_in x (by bound first w)
    resumed-by x end bound first way.Readers fresh = refl
    resumed-by x end bound first (way.Writers g) fresh = refl
    resumed-by x end bound first (way.Lost alone writer) fresh = absurd (let never : true ≡ false = fresh in cc)

    pub row-bound : (c : ℕ) (u : Used) → row_by key slot summary reach (with_user c u) gone ≡ used_by c (row_by key slot summary reach u gone)
    row-bound c u = bound-by c u.bound u.first u.way

    pub row-first : (c : ℕ) (u : Used) → row_by key slot summary reach (with_first c u) gone ≡ used_first_by c (row_by key slot summary reach u gone)
    row-first c u = first-by c u.bound u.first u.way

    pub row-left : (c : ℕ) (u : Used) → row_by key slot summary reach (without_user c u) gone ≡ unused_by c (row_by key slot summary reach u gone)
    row-left c u = left-by c u.bound u.first u.way

    pub row-grown : (n : ℕ) (u : Used) → row_by key slot summary reach (record u { way = grown_way n u.way }) gone ≡ row_by key slot summary reach u gone
    row-grown n u = grown-by n u.bound u.first u.way

    pub row-moved : (c p : ℕ) (u : Used) → row_by key slot summary reach (record u { way = moved_way c p u.way }) gone ≡ row_by key slot summary reach u gone
    row-moved c p u = moved-by c p u.bound u.first u.way

    pub row-resumed : (x end : ℕ) (u : Used) → is_lost_in u.way ≡ false →
        row_by key slot summary reach (resumed_by x end u) gone ≡ written_in x (row_by key slot summary reach u gone)
    row-resumed x end u fresh = resumed-by x end u.bound u.first u.way fresh

-- WHERE ITS GROUP ENDS

-- a call that changes nothing where it is refused
pub either_way : {A E P Q X : Type 0} (r : Result A E) → OnOk r P → OnErr r Q → (P → X) → (Q → X) → X
either_way (Ok a) p q f h = f p
either_way (Err e) p q f h = h q

pub ends-as : (reach : ℕ) {u v : Used} → u ≡ v → EndsAt reach (group_in v.way) → EndsAt reach (group_in u.way)
ends-as reach {u} {v} same ends = subst (λ (w : Used). EndsAt reach (group_in w.way)) (sym same) ends

pub ends-founded : (c : ℕ) (is_first : Bool) (writer : Option ℕ) → EndsAt 0 (group_in (founded_by c is_first writer).way)
ends-founded c is_first None = tt
ends-founded c is_first (Some x) = refl

pub ends-joined : (reach c : ℕ) (w : Way) → EndsAt reach (group_in w) → EndsAt reach (group_in (joined_way c w))
ends-joined reach c way.Readers ends = tt
ends-joined reach c (way.Writers g) ends = ends
ends-joined reach c (way.Lost alone writer) ends = tt

pub ends-left : (reach c : ℕ) (w : Way) → EndsAt reach (group_in w) → EndsAt reach (group_in (left_way c w))
ends-left reach c way.Readers ends = tt
ends-left reach c (way.Writers g) ends = ends
ends-left reach c (way.Lost alone writer) ends = tt

ends-member : (reach c p : ℕ) (g : Group) → g.end ≡ reach → (moved_if_member c p g).end ≡ reach
ends-member reach c p g ends = elim (cases_Bool (is_member c g)) [
  | inl is ↦ rw is ends
  | inr off ↦ rw off ends
]

pub ends-moved : (reach c p : ℕ) (w : Way) → EndsAt reach (group_in w) → EndsAt reach (group_in (moved_way c p w))
ends-moved reach c p way.Readers ends = tt
ends-moved reach c p (way.Writers g) ends = ends-member reach c p g ends
ends-moved reach c p (way.Lost alone writer) ends = tt

pub ends-grown : (reach end : ℕ) (w : Way) → reach < end → EndsAt reach (group_in w) → EndsAt end (group_in (grown_way (end - reach) w))
ends-grown reach end way.Readers before ends = tt
ends-grown reach end (way.Writers g) before ends = let at : g.end ≡ reach = ends in omega arith
ends-grown reach end (way.Lost alone writer) before ends = tt

-- what is stored fits
pub grows-within : (reach end : ℕ) (w : Way) → reach < end → end ≤ 2 ^ 62 → EndsAt reach (group_in w) →
    IfSome (group_in w) (λ (g : Group). g.end + (end - reach) ≤ 2 ^ 62)
grows-within reach end way.Readers before within ends = tt
grows-within reach end (way.Writers g) before within ends = let at : g.end ≡ reach = ends in omega arith
grows-within reach end (way.Lost alone writer) before within ends = tt

pub group-moved : (c p : ℕ) (w : Way) → group_in (moved_way c p w) ≡ option_map (moved_if_member c p) (group_in w)
group-moved c p way.Readers = refl
group-moved c p (way.Writers g) = refl
group-moved c p (way.Lost alone writer) = refl

-- WHAT IS KEPT

-- who uses what is kept is bound in its row
pub user-there : (slots : Slots) (c : ℕ) (o : Option Row) → has_user c (kept_by slots o) ≡ true → has itself c (users_at o) ≡ true
user-there slots c None mine = mine
user-there slots c (Some row) mine = by_held (slots row.slot) mine where
  by_held : (h : Option Held) → has_user c (option_map (kept_of row) h) ≡ true → has itself c row.bound ≡ true
  by_held None mine = absurd (let never : false ≡ true = mine in cc)
  by_held (Some held) mine = mine

-- and what isn't lost isn't in its row
pub fresh-row : (slots : Slots) (o : Option Row) → is_some (kept_by slots o) ≡ true → is_lost_at (kept_by slots o) ≡ false → is_lost_row o ≡ false
fresh-row slots None there fresh = refl
fresh-row slots (Some row) there fresh = by_held (slots row.slot) there fresh where
  by_held : (h : Option Held) → is_some (option_map (kept_of row) h) ≡ true → is_lost_at (option_map (kept_of row) h) ≡ false → row.is_lost ≡ false
  by_held None there fresh = absurd (let never : false ≡ true = there in cc)
  by_held (Some held) there fresh = fresh
