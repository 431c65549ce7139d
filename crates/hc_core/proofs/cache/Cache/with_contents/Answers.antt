use Rattle.std.proofs.Common.{◌≡◌, ◌<◌, ◌≤◌, ◌^◌, true, refl, sym, ◌∙◌, subst, arith}
use Rattle.hc_effects.proofs.Vocabulary.{Limits, may_begin}
use Rattle.hc_contents.specs.PlainContents.{plain_contents}
use Rattle.hc_core.proofs.{BegunCache.{may_by, stands_begun_with, good_begun_with, next_begun_with, numbers_fit, small_begun_with}, BegunItems.{next_fits}, Likewise.{serves_all}}
use Rattle.hc_core.proofs.cache.Cache.with_contents.Goals as goal

pub returns-in-Some-clause-refused : goal.returns-in-Some-clause-refused
returns-in-Some-clause-refused g c =
    record { cause = c.in-Some.ensures.some (g.B.Backend.faults c.args.backend); calm = λ _. refl; bounded = refl; untouched = λ _. refl }

pub before-requires-clause-first : goal.before-requires-clause-first
before-requires-clause-first g c = (next_fits c.args.limits (plain_contents c.args.contents.now) (may_by _ _ c.in_default.ensures.none)).0

pub before-requires-clause-below : goal.before-requires-clause-below
before-requires-clause-below g c =
    let most : c.args.contents.now.next_exchange ≤ 2 ^ 60 =
    (next_fits c.args.limits (plain_contents c.args.contents.now) (may_by _ _ c.in_default.ensures.none)).1 in
    omega arith

pub begin_with-requires-clause-fit : goal.begin_with-requires-clause-fit
begin_with-requires-clause-fit g c =
    subst (λ (l : Limits). may_begin l (plain_contents c.args.contents.now) ≡ true) (sym c.in-Ok.ensures.limits) (may_by _ _ c.in_default.ensures.none)

pub invariant_of-result : goal.invariant_of-result
invariant_of-result g c =
    let may = subst (λ (l : Limits). may_begin l (plain_contents c.args.contents.now) ≡ true) (sym (c.begin_with.ensures.bounds ∙ c.in-Ok.ensures.limits))
    (may_by _ _ c.in_default.ensures.none) in
    let rows = c.in_default-begin_with.ensures.ok in
    record {
      good = λ _. (
        ∣ good_begun_with c.begin_with.new.rows c.args.contents.now may rows ∣₁,
        next_begun_with c.begin_with.new.rows c.args.contents.now may rows,
        (numbers_fit _ _ may).0,
        small_begun_with c.begin_with.new.rows c.args.contents.now may rows,
      );
    }

pub returns-clause-stands : goal.returns-clause-stands
returns-clause-stands g c =
    let may = subst (λ (l : Limits). may_begin l (plain_contents c.args.contents.now) ≡ true) (sym (c.begin_with.ensures.bounds ∙ c.in-Ok.ensures.limits))
    (may_by _ _ c.in_default.ensures.none) in
    stands_begun_with _ c.args.contents.now refl may c.in_default-begin_with.ensures.ok

pub returns-clause-serves : goal.returns-clause-serves
returns-clause-serves g c =
    let may = subst (λ (l : Limits). may_begin l (plain_contents c.args.contents.now) ≡ true) (sym (c.begin_with.ensures.bounds ∙ c.in-Ok.ensures.limits))
    (may_by _ _ c.in_default.ensures.none) in
    serves_all _ (plain_contents c.args.contents.now) refl may c.in_default-begin_with.ensures.ok

pub returns-clause-limits : goal.returns-clause-limits
returns-clause-limits g c = c.begin_with.ensures.bounds ∙ c.in-Ok.ensures.limits
