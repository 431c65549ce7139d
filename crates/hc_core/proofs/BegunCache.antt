-- A cache that begins with contents represents the history that has no entry yet.
use Rattle.std.{proofs.{Common.{◌≡◌, inl, inr, ◌+◌, ◌≤◌, ◌<◌, ◌^◌, List, [], ◌∷◌, map, true, None, Some, refl, ap, sym, ◌∙◌, subst, arith}, lemmas.Bool.{cases_Bool, Decides.{nat_tests}}}, specs.Prelude.{find, ◌==◌}}
use Rattle.hc_text.proofs.Basics.{and_left, and_right, some_inj as some_is}
use Rattle.hc_stored.specs.Entries.{shelf_of}
use Rattle.hc_store.specs.declared.backend.Backend.{Ghosts}
use Rattle.hc_effects.proofs.Vocabulary.{Limits, may_begin, Content, Contents, AreShort, first_tables, tables}
use Rattle.hc_effects.proofs.Tests.{none_some}
use Rattle.hc_exch.specs.Exchanges.{next_of}
use Rattle.hc_contents.specs.declared.contents.Content as coded
use Rattle.hc_contents.specs.declared.contents.Contents as coded_all
use Rattle.hc_contents.specs.{Fit.{unfit_of}, PlainContents.{plain_contents, plain_item}}
use Rattle.hc_contents.proofs.Counting.{begins_by}
use Rattle.hc_state.specs.{declared.rows.Rows.{Rows}, Good.{StandsAt}, Stands.{RowsStand}}
use Rattle.hc_state.proofs.Words.{none_received}
use Rattle.hc_core.specs.{declared.cache.Cache.{Cache}, Steps.{StandsFor}}
use Rattle.hc_core.proofs.BegunItems.{next_fits}

-- a store may begin with what fits
pub may_by : (limits : Limits) (contents : Contents) → unfit_of limits contents ≡ None → may_begin limits contents ≡ true
may_by limits contents fit = sym (begins_by limits contents None (sym fit))

-- stored heads tell lengths that heads can tell
pub short_reported : (contents : coded_all.Contents) → AreShort (plain_contents contents)
short_reported contents r n item found total = by_items contents.items found
  where
    by_items : (items : List coded.Content) → find (λ (o : Content). o.r == r) (map plain_item items) ≡ Some item → n < 2 ^ 62
    by_items [] found = none_some item found
    by_items (x ∷ xs) found = elim (cases_Bool (x.r == r)) [
      | inl here ↦ let same : plain_item x ≡ item = some_is (plain_item x) item (rw here at found) in
          x.head.own.small_total n (ap (λ (z : Content). z.head.total) same ∙ total)
      | inr other ↦ by_items xs (rw other at found)
    ]

pub stands_begun_with : {B : Type 0} {g : Ghosts B} (s : Cache B g) (contents : coded_all.Contents) → s.last_moment ≡ contents.now → may_begin
    (shelf_of s.rows.entries).limits (plain_contents contents) ≡ true →
    RowsStand (shelf_of s.rows.entries).limits s.rows (first_tables (plain_contents contents)) → StandsFor s (plain_contents contents) []
unfolding tables
stands_begun_with s contents moment may rows = record {
  begins = may;
  short = short_reported contents;
  run = tt;
  moment = moment;
  rows = rows;
}

pub good_begun_with : {B : Type 0} {g : Ghosts B} (r : Rows B g) (contents : coded_all.Contents) → may_begin
    (shelf_of r.entries).limits (plain_contents contents) ≡ true → RowsStand (shelf_of r.entries).limits r (first_tables (plain_contents contents)) →
    StandsAt r 0 contents.now
unfolding tables
good_begun_with r contents may rows = (
  record {
    contents = plain_contents contents;
    h = [];
    begins = may;
    short = short_reported contents;
    within_limits = tt;
    starts = tt;
    run = tt;
    received = none_received 0;
    rows = rows;
  },
  refl,
)

pub next_begun_with : {B : Type 0} {g : Ghosts B} (r : Rows B g) (contents : coded_all.Contents) → may_begin
    (shelf_of r.entries).limits (plain_contents contents) ≡ true → RowsStand (shelf_of r.entries).limits r (first_tables (plain_contents contents)) →
    next_of r.exchanges ≤ 2 ^ 60 + 0
next_begun_with r contents may rows = let fits = next_fits (shelf_of r.entries).limits (plain_contents contents) may in let next = rows.next in
    omega (arith, fits, next)

-- the moment and the number of who started last are below 2 ^ 62
pub numbers_fit : (limits : Limits) (contents : Contents) → may_begin limits contents ≡ true → (contents.now < 2 ^ 62) × (contents.last_consumer < 2 ^ 62)
unfolding may_begin
numbers_fit limits contents may = grind (arith, nat_tests, and_left, and_right)

pub small_begun_with : {B : Type 0} {g : Ghosts B} (r : Rows B g) (contents : coded_all.Contents) → may_begin
    (shelf_of r.entries).limits (plain_contents contents) ≡ true → RowsStand (shelf_of r.entries).limits r (first_tables (plain_contents contents)) →
    r.last_start < 2 ^ 62
small_begun_with r contents may rows = subst (λ n. n < 2 ^ 62) (sym rows.last_start) (numbers_fit (shelf_of r.entries).limits (plain_contents contents) may).1
