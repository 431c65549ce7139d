-- The tables of a store that begins with contents are sound.
--
-- The first tables have representations alone, and each is an item of the contents (`is_loaded`). There is no exchange,
-- so nothing is written and nothing is about anything (`none_about`, `not_written`), and no consumer. What an item
-- stores is all that came of it, and ends where its runs end (`ends_all`, `sound_row`). So most fields of `begun_sound`
-- speak of rows that aren't there.
use Rattle.std.{proofs.{lemmas.Bool.Decides.{nat_tests}, Common.{◌≡◌, inl, inr, ℕ, ◌-◌, ◌<◌, ◌≤◌, List, [], ◌∷◌, length, true, Option, Some, None, refl, ap, sym, ◌∙◌, arith}}, specs.Prelude.{is_some, find, map, option_map, nat_eq}}
use Rattle.hc_text.proofs.Basics.{eq_reports, bool_cases, not_some as none_some}
use Rattle.hc_sparse.specs.{Cells.{EndsBy}, Runs.{cells_of, end_of}, declared.run.Run.{Run}}
use Rattle.hc_sparse.proofs.CellLemmas.{inside-past}
use Rattle.hc_effects.proofs.Vocabulary.{Content, Contents, IsStart, item_of, is_written, Representation, Among, IsAbout, IsFirst, IsSoundRepresentation, first_tables, representation_of_content, last_end, numbers}
use Rattle.hc_model.specs.Laws.{StartsAreSound}
use Rattle.hc_model.specs.Sound as sound
use Rattle.hc_effects.proofs.{Basics.{false_true}, Closed.{reversed}}
use Rattle.hc_laws.proofs.BesideKeeps.{nobody}

-- a row of the begun tables is a loaded item
record IsLoaded (contents : Contents) (r : ℕ) (v : Representation) : Type 0 where
  item : Content
  found : item_of contents r ≡ Some item
  row : representation_of_content item ≡ v

is_loaded : (contents : Contents) (r : ℕ) (o : Option Content) (v : Representation) → item_of contents r ≡ o →
    option_map representation_of_content o ≡ Some v → IsLoaded contents r v
is_loaded contents r o v found is = grind (arith, nat_tests)

-- nothing is behind the last of some runs
pub ends_all : (runs : List Run) → EndsBy (last_end runs) (cells_of runs)
ends_all [] p le = refl
ends_all (run ∷ runs) p le =
    let here : end_of run ≤ p = omega arith in
    let rest : last_end runs ≤ p = omega arith in
    rw (inside-past run.at (length run.bytes) p here) (ends_all runs p rest)

found_among : (items : List Content) (r : ℕ) (item : Content) → find (λ (i : Content). nat_eq i.r r) items ≡ Some item →
    Among r (map (λ (i : Content). i.r) items)
found_among [] r item is = absurd (let never : None ≡ Some item = is in cc)
found_among (i ∷ items) r item is = elim (bool_cases (nat_eq i.r r)) [
  | inl here ↦ inl (eq_reports i.r r here)
  | inr other ↦ inr (found_among items r item (rw other at is))
]

some_among : (contents : Contents) (r : ℕ) (o : Option Content) → item_of contents r ≡ o → is_some (option_map representation_of_content o) ≡ true →
    Among r (map (λ (i : Content). i.r) contents.items)
some_among contents r None found some = absurd (false_true some)
some_among contents r (Some item) found some = found_among contents.items r item found

new_none : (contents : Contents) → IsStart contents → (r : ℕ) (o : Option Content) → item_of contents r ≡ o → contents.next_exchange - 1 < r →
    option_map representation_of_content o ≡ None
new_none contents start r o found past = grind (arith, nat_tests)

no_first : (contents : Contents) (r c : ℕ) → IsFirst (first_tables contents) r c → ⊥
no_first contents r c (sound.first k lo hi how row place alone) = none_some k row

none_about : (contents : Contents) (r x : ℕ) → IsAbout (first_tables contents) r x → ⊥
none_about contents r x it3 = grind (arith, nat_tests)

not_written : (contents : Contents) (r : ℕ) (v : Representation) → IsLoaded contents r v → is_written (first_tables contents) v ≡ true → ⊥
unfolding is_written
not_written contents r v l on = let never : is_written (first_tables contents) (representation_of_content l.item) ≡ true =
    ap (is_written (first_tables contents)) l.row ∙ on in false_true never

sound_row : (contents : Contents) (r : ℕ) (v : Representation) → IsLoaded contents r v → IsSoundRepresentation (first_tables contents) r v
sound_row contents r v l = grind (arith, nat_tests, ends_all, none_some)

-- What a store may begin with is sound.
pub begun_sound : StartsAreSound
begun_sound contents start = record {
  numbered = record {
    lists = record {
      new_consumers = λ c past. refl;
      new_exchanges = λ x past. refl;
      new_representations = λ r past. new_none contents start r (item_of contents r) refl past;
      started = λ c some. absurd (false_true some);
      opened = λ x some. absurd (false_true some);
      founded = λ r some. reversed r (numbers contents.items) (some_among contents r (item_of contents r) refl some);
    };
    names = record {
      unfounded = λ x w row bare. absurd (none_some w row);
      aims = λ x r w row aim. absurd (none_some w row);
      joined = λ x r w row joined. absurd (none_some w row);
    };
    bound_to = λ r c k reader. absurd (nobody contents r c k reader);
  };
  waits = record {
    fronts = λ x w v p row is_open headed at le ends. absurd (none_some w row);
    holes = λ x w r v p row is_open bare aim at hole. absurd (none_some w row);
    headless = λ x w row bare. absurd (none_some w row);
  };
  one_about = λ r x y a b. absurd (none_about contents r x a);
  writes = record {
    one_first = λ r c d a b. absurd (no_first contents r c a);
    served = λ r c v k row reader none. absurd (nobody contents r c k reader);
    had = λ r x v row about. absurd (none_about contents r x about);
    known_end = λ r c lo hi how k row place alone. absurd (none_some k row);
    own_about = λ r c x k reader own. absurd (nobody contents r c k reader);
    undue = λ r c v k row reader on. absurd (nobody contents r c k reader);
    has_bound = λ r v row on. absurd (not_written contents r v (is_loaded contents r (item_of contents r) v refl row) on);
  };
  rows = λ r v row. sound_row contents r v (is_loaded contents r (item_of contents r) v refl row);
  one_current = λ r q v u row other fresh also same.
      let a = is_loaded contents r (item_of contents r) v refl row in
      let b = is_loaded contents q (item_of contents q) u refl other in
      start.apart r q a.item b.item a.found b.found (ap (λ (z : Representation). z.key) a.row ∙ (same ∙ sym (ap (λ (z : Representation). z.key) b.row)));
  unshown = λ c r lo hi how k row place shown. absurd (none_some k row);
  alone = λ r c v k row is reader none. absurd (nobody contents r c k reader);
}
