use Rattle.std.{proofs.{Common.{◌≡◌, ℕ, ◌<◌, ◌≤◌, List, length, Option, Some, None, true, sym, ◌∙◌, ap, arith, get_or, subst}, lemmas.Bool.Decides.{nat_tests}}, specs.{Option.{IsNone, IfSome}, Slice.{IsItemAt}}}
use denote.Ref.{Bor}
use Rattle.hc_sparse.specs.{declared.extents.Extent.{Extent}, Extents.{ascend, place_of, IsExtentFrom}}
use Rattle.hc_sparse.proofs.ExtentLemmas.{extent-at_place, none-from_place}
use Rattle.hc_sparse.proofs.extents.extent_from.Goals as goal

past_all : (runs : List Extent) (place : ℕ) (o : Option (Bor Extent)) → IsItemAt runs place o → IsNone o → length runs ≤ place
past_all runs place None item is = grind (arith, nat_tests)
past_all runs place (Some r) item is = absurd cc

at_place : (runs : List Extent) (place p : ℕ) (o : Option (Bor Extent)) → ascend 0 runs ≡ true → place ≡ place_of p runs → IsItemAt runs place o →
    IfSome o (λ run. IsExtentFrom runs p run.now)
at_place runs place p None asc there item = tt
at_place runs place p (Some r) asc there item =
    let lt : place_of p runs < length runs = rw there at item.3.0 in
    let is : r.now ≡ get_or runs (place_of p runs) r.now = item.1 ∙ ap (λ i. get_or runs i r.now) there in
    subst (λ (v : Extent). IsExtentFrom runs p v) (sym is) (extent-at_place p runs r.now asc lt)

pub returns-clause-none : goal.returns-clause-none
returns-clause-none c = λ is.
    none-from_place c.args.o c.args.extents.now
    (let past = past_all c.args.extents.now c.place_of.result c.get.result c.get.ensures.lookup is in rw (c.place_of.ensures.place) at past)

pub returns-clause-some : goal.returns-clause-some
returns-clause-some c = at_place c.args.extents.now c.place_of.result c.args.o c.get.result c.requires c.place_of.ensures.place c.get.ensures.lookup
