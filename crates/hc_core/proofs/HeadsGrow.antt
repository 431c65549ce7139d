-- In every run the head of a representation says that it grows: how much of it is stored is told of the tables, and not of its head.
use Rattle.std.{proofs.{lemmas.Bool.Decides.{nat_tests}, Common.{arith, ◌≡◌, ℕ, Option, Some, refl, ap, sym, ◌∙◌}}, specs.Prelude.{find, option_map, ◌==◌}}
use Rattle.hc_record.specs.declared.kind.Kind.TheVariants.{the_data as kind}
use Rattle.hc_effects.proofs.Vocabulary.{Entry, Content, Contents, entry_of, OfRuns, Tables, Representation, first_tables, representation_of_content}
use Rattle.hc_laws.proofs.{HeadFrom.{HeadFrom, head_from}, RunFacts.{in_runs}}
use Rattle.hc_effects.proofs.RepFrom.{RepFrom, rep_from}
use Rattle.hc_effects.proofs.RepFrom as rep

abbrev pub HeadsGrow : Tables → Type 0
HeadsGrow t = (r : ℕ) (v : Representation) → t.representation r ≡ Some v → v.head.kind ≡ kind.Growing

grows_from : (t : Tables) (e : Entry) (r : ℕ) (v u : Representation) → v.head.kind ≡ kind.Growing → HeadFrom t e r v u → u.head.kind ≡ kind.Growing
grows_from t e r v u old how = grind (arith, nat_tests)

grows_by : (t : Tables) (e : Entry) (r : ℕ) (u : Representation) → HeadsGrow t → RepFrom t e r u → u.head.kind ≡ kind.Growing
grows_by t e r u old (rep.was v kept) = grows_from t e r v u (old r v kept.row) (head_from t e r v u kept)
grows_by t e r u old (rep.founded response w none here row on is) = sym (ap (λ (z : Representation). z.head.kind) is)

grow_begun : (contents : Contents) → HeadsGrow (first_tables contents)
grow_begun contents r v row = by_item (find (λ (item : Content). item.r == r) contents.items) row
  where
    by_item : (z : Option Content) → option_map representation_of_content z ≡ Some v → v.head.kind ≡ kind.Growing
    by_item z is = grind (arith, nat_tests)

pub heads_grow : OfRuns HeadsGrow
heads_grow = in_runs (λ limits t. HeadsGrow t) (λ limits contents may. grow_begun contents) (λ limits t e later g. g)
    (λ limits t now flaw later c g ev goes real r u row. grows_by t (entry_of limits t now ev flaw) r u g
    (rep_from t (entry_of limits t now ev flaw) r (t.representation r) u refl row))
