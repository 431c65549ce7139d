-- The facts that hold of the tables of every run.
use Rattle.std.{proofs.Common.{◌≡◌, ℕ, ◌<◌, ◌≤◌, ◌^◌, true, Option, Some, None, sym, subst, arith}, specs.Prelude.{is_some}}
use Rattle.hc_text.proofs.Basics.{false_true}
use Rattle.hc_stored.specs.Entries.{shelf_of}
use Rattle.hc_store.specs.declared.backend.Backend.{Ghosts}
use Rattle.hc_effects.proofs.Vocabulary.{Response, Limits, may_begin, Contents, History, front, Lawful, AreSized, Exchange, IsRun, tables}
use Rattle.hc_sparse.specs.Cells.{Cells, Covers, size}
use Rattle.hc_laws.proofs.{AloneRuns.{alone_in_runs}, RunsWithinLimits.{requests_are_within_limits}, BringsRuns.{brings_in_runs}, FrontRuns.{fronts_in_runs}, FitsRuns.{fits}, GivenRuns.{given_in_runs}, GrowingRuns.{growing_in_runs}, InRuns.{turned_in_runs}, LiveRuns.{few_in_runs}, OriginRuns.{origins_in_runs}, PartRuns.{parts_in_runs}, LossRuns.{losses_in_runs}, NumberRuns.{numbers_in_runs}, OrderRuns.{order_in_runs}, PassedRuns.{passed_in_runs}, PlaceRuns.{places_in_runs, endings_in_runs}, SizesKeep.{sizes_in_runs}, SoundRuns.{carried, measures_in_runs}, StoredHeadsKeep.{heads_in_runs}, TagRuns.{tags_in_runs}, UnendedRuns.{unended_in_runs}, WhoseRuns.{whose_in_runs}}
use Rattle.hc_effects.proofs.{Beside.{goes_on_at}, WeightsLeft.{weights_total}}
use Rattle.hc_state.specs.{declared.rows.Rows.{Rows}, Facts.{Facts}, Stands.{RowsStand, StandsForSome, Stands}, Good.{StandsUntil, StandsBy}}
use Rattle.hc_state.proofs.Words.{few_received}
use Rattle.hc_core.proofs.SizedAlike.{merely_same, sized_alike, sized_here}

-- with its head it goes on at its front
come_up : (v : Cells) (n : ℕ) (w : Exchange) → Covers v n (goes_on_at w w.head) → is_some w.head ≡ true → Covers v n (front w)
come_up v n w all headed = by_head w.head headed all
  where
    by_head : (h : Option Response) → is_some h ≡ true → Covers v n (goes_on_at w h) → Covers v n (front w)
    by_head None some up = false_true some
    by_head (Some response) some up = up

pub law_of_runs : (limits : Limits) (contents : Contents) (h : History) → may_begin limits contents ≡ true → IsRun limits contents h →
    Lawful (tables contents h)
law_of_runs limits contents h may run =
    let here = carried limits contents h may run in
    record {
      sound = here.is_sound;
      owned = here.is_owned;
      places = places_in_runs limits contents h may run;
      passed = passed_in_runs limits contents h may run;
      order = order_in_runs limits contents h may run;
      whose = whose_in_runs limits contents h may run;
      endings = endings_in_runs limits contents h may run;
      given = given_in_runs limits contents h may run;
      growing = growing_in_runs limits contents h may run;
      alone = alone_in_runs limits contents h may run;
      keyed = (turned_in_runs limits contents h may run).one;
    }

-- where as many bytes are stored as is said
pub facts_of_runs : (limits : Limits) (contents : Contents) (h : History) → may_begin limits contents ≡ true → IsRun limits contents h →
    AreSized (tables contents h) → Facts limits (tables contents h)
facts_of_runs limits contents h may run sized =
    let here = carried limits contents h may run in
    record {
      law = law_of_runs limits contents h may run;
      measures = measures_in_runs limits contents h may run;
      brings = brings_in_runs limits contents h may run;
      losses = losses_in_runs limits contents h may run;
      heads = heads_in_runs limits contents h may run;
      tags = tags_in_runs limits contents h may run;
      sizes = sizes_in_runs limits contents h may run;
      sized = sized;
      fits = subst (λ n. n ≤ limits.max_total) (sym (weights_total (tables contents h))) (fits limits contents h may run).within;
      live = few_in_runs limits contents h may run;
      turns = (turned_in_runs limits contents h may run).turns;
      come = record {
        covered =
            λ r c x v k w there exclusive_writer reader undue owns row headed. come_up v.body _ w
            (here.beside.covered r c x v k w there exclusive_writer reader undue owns row) headed;
      };
      parts = parts_in_runs limits contents h may run;
      origins = origins_in_runs limits contents h may run;
      fronts = fronts_in_runs limits contents h may run;
      unended = unended_in_runs limits contents h may run;
    }

few_of : {n bytes : ℕ} → n ≤ bytes → bytes < 2 ^ 61 → n < 2 ^ 61
few_of most small = omega (arith, most, small)

-- of what is in use in a run of few bytes
pub sized_of_some : {B : Type 0} {g : Ghosts B} (r : Rows B g) (bytes : ℕ) → bytes < 2 ^ 61 → (s : StandsForSome r bytes) → AreSized (tables s.contents s.h)
sized_of_some r bytes small s =
    sized_here (shelf_of r.entries).limits (tables s.contents s.h) (law_of_runs (shelf_of r.entries).limits s.contents s.h s.begins s.run)
    (sizes_in_runs (shelf_of r.entries).limits s.contents s.h s.begins s.run)
    (numbers_in_runs (shelf_of r.entries).limits s.contents s.h s.begins s.short s.run) (few_received (few_of s.received small))

-- and so in any other run for which they stand
pub sized_of_any : {B : Type 0} {g : Ghosts B} (r : Rows B g) (bytes : ℕ) (contents : Contents) (h : History) → bytes < 2 ^ 61 →
    ∥ StandsForSome r bytes ∥₁ → may_begin (shelf_of r.entries).limits contents ≡ true → IsRun (shelf_of r.entries).limits contents h →
    RowsStand (shelf_of r.entries).limits r (tables contents h) → AreSized (tables contents h)
sized_of_any r bytes contents h small some may run rows q v row used =
    merely_same v.size (size v.stored) some (λ s.
    sized_alike r (tables contents h) (tables s.contents s.h) (law_of_runs (shelf_of r.entries).limits contents h may run)
    (sizes_in_runs (shelf_of r.entries).limits contents h may run) rows
    (law_of_runs (shelf_of r.entries).limits s.contents s.h s.begins s.run)
    (numbers_in_runs (shelf_of r.entries).limits s.contents s.h s.begins s.short s.run) (few_received (few_of s.received small)) s.rows q v row used)

pub stands_of_runs : {B : Type 0} {g : Ghosts B} (r : Rows B g) (bytes : ℕ) → bytes < 2 ^ 61 → StandsForSome r bytes → Stands r
stands_of_runs r bytes small s = record {
  limits = (shelf_of r.entries).limits;
  t = tables s.contents s.h;
  facts = facts_of_runs (shelf_of r.entries).limits s.contents s.h s.begins s.run (sized_of_some r bytes small s);
  numbers = numbers_in_runs (shelf_of r.entries).limits s.contents s.h s.begins s.short s.run;
  within_limits = requests_are_within_limits s.contents s.h s.within_limits;
  received = few_of s.received small;
  rows = s.rows;
}

pub stands_by : {B : Type 0} {g : Ghosts B} (r : Rows B g) (bytes moment : ℕ) → bytes < 2 ^ 61 → StandsUntil r bytes moment → StandsBy r moment
unfolding stands_of_runs
stands_by r bytes moment small (s, until) = (stands_of_runs r bytes small s, until)
