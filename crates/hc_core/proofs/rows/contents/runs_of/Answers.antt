use Rattle.std.{proofs.Common.{◌≡◌, ℕ, ◌+◌, ◌-◌, ◌≤◌, ◌<◌, ◌^◌, List, [], ◌∷◌, ◌++◌, length, None, Some, Option, refl, ap, sym, ◌∙◌, subst, arith}, specs.Prelude.{is_some, IfSome}}
use Rattle.hc_text.proofs.Basics.{false_true}
use Rattle.hc_sparse.specs.{Cells.{Cells, IsNext}, Stretch.{stretch, IsLongest}, declared.run.Run.{Run}}
use Rattle.hc_sparse.proofs.StretchLemmas.{stretch-absent, stretch-longest}
use Rattle.hc_stored.specs.{Entries.{shelf_of}, Shelf.{cells_at}}
use Rattle.hc_core.proofs.{Remaining.{AreFound, none_found, more_found, all_found, goes_nearer, stays_within, some_left}, BegunItems.{calm_ok}, ContentsReported.{stays_itself, stays_then, cells_same}}
use Rattle.hc_core.proofs.rows.contents.runs_of.Goals as goal

pub runs-init : goal.runs-init
runs-init g c =
    let f = cells_at (shelf_of c.args.entries.now) c.args.r in
    record {
      same = stays_itself _;
      found = subst (λ (zs : List Run). AreFound f 0 zs) (sym c.new-runs.ensures) (none_found f);
      small = omega arith;
      faults = refl;
    }

pub unreachable-requires : goal.unreachable-requires
unreachable-requires g c =
    let f = cells_at (shelf_of c.runs.entries) c.args.r in
    let none : f c.in-Some.at ≡ None = (stretch-absent f c.in-Some.at (2 ^ 62 - c.in-Some.at)).0 (sym c.in_ok-run.ensures.run ∙ c.in_default-2.is) in
    false_true (sym (ap is_some none) ∙ c.in-Some.ensures.next.1)

pub runs-smaller : goal.runs-smaller
runs-smaller g c =
    let f = cells_at (shelf_of c.runs.entries) c.args.r in
    let longest : IsLongest f c.in-Some.at (2 ^ 62 - c.in-Some.at) c.in-Some-2.run' =
    subst (λ (o : Option Run). IfSome o (λ run. IsLongest f c.in-Some.at (2 ^ 62 - c.in-Some.at) run)) (sym c.in_ok-run.ensures.run ∙ c.in-Some-2.is)
    (stretch-longest f c.in-Some.at (2 ^ 62 - c.in-Some.at) (some_left c.in-Some.at c.in-Some.ensures.below)) in
    subst (λ (n : ℕ). 2 ^ 62 - (c.in-Some.at + n) < 2 ^ 62 - c.runs.p) (sym c.count_of.ensures)
    (goes_nearer c.runs.p c.in-Some.at (length c.in-Some-2.run'.bytes) c.in-Some.ensures.next.0 longest.some longest.most c.in-Some.ensures.below)

pub runs-preserved : goal.runs-preserved
runs-preserved g c =
    let a = shelf_of c.args.entries.now in
    let m = shelf_of c.runs.entries in
    let inv = c.runs.invariant in
    let at = c.in-Some.at in
    let run = c.in-Some-2.run' in
    let f = cells_at a c.args.r in
    let e : cells_at m c.args.r ≡ f = cells_same a m c.args.r inv.same in
    let next : IsNext f c.runs.p (Some at) = subst (λ (h : Cells). IsNext h c.runs.p (Some at)) e c.in-Some.ensures.next in
    let is : stretch f at (2 ^ 62 - at) ≡ Some run = sym (ap (λ (h : Cells). stretch h at (2 ^ 62 - at)) e) ∙ (sym c.in_ok-run.ensures.run ∙ c.in-Some-2.is) in
    let longest : IsLongest f at (2 ^ 62 - at) run =
    subst (λ (o : Option Run). IfSome o (λ z. IsLongest f at (2 ^ 62 - at) z)) is (stretch-longest f at (2 ^ 62 - at) (some_left at c.in-Some.ensures.below)) in
    record {
      same = stays_then a m (shelf_of c.run_at.new.self) inv.same c.in_ok-run.ensures.same;
      found =
          subst (λ (zs : List Run). AreFound f (at + c.count_of.result) zs) (sym c.in_ok-push.ensures.ok)
          (subst (λ (n : ℕ). AreFound f (at + n) (c.runs.runs ++ run ∷ [])) (sym c.count_of.ensures)
          (more_found f c.runs.p at c.runs.runs run inv.found next longest));
      small = subst (λ (n : ℕ). at + n ≤ 2 ^ 62) (sym c.count_of.ensures) (stays_within at (length run.bytes) longest.most c.in-Some.ensures.below);
      faults = calm_ok _ _ c.in_ok-run.field-0 c.in_ok-run.ensures.cause ∙ inv.faults;
    }

pub returns-clause-runs : goal.returns-clause-runs
returns-clause-runs g c = λ n ends.
    let a = shelf_of c.args.entries.now in
    let inv = c.runs.invariant in
    let e = cells_same a (shelf_of c.runs.entries) c.args.r inv.same in
    all_found (cells_at a c.args.r) c.runs.p c.runs.runs inv.small inv.found (subst (λ (h : Cells). IsNext h c.runs.p None) e c.in_default.ensures.next) n ends
