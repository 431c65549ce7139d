-- What is stored ahead of a reader: as much as it wants, and not past its end.
--
-- The code reads a run of one exchange, cut where the reader stops. The tables look at the run of all that it wants,
-- cut where the stored bytes end. Both begin at the same byte, so both are of one exchange, or neither is there
-- (`none_ahead`). The longest run ends once, so the shorter one ends where the other does, or where the reader stops
-- (`upto`, `cut`). `ahead` says it of the run that was read, for `BoundReads`.
use Rattle.std.{proofs.{Common.{◌≡◌, inl, inr, ℕ, ◌+◌, ◌-◌, ◌<◌, ◌≤◌, length, min, true, false, Option, Some, None, refl, ap, sym, ◌∙◌, subst, arith}, lemmas.Bool.Decides.{nat_tests}}, specs.Prelude.{is_some, slice_index}}
use Rattle.hc_text.proofs.Basics.{false_true, lt_or, some_inj as some_is}
use Rattle.hc_sparse.specs.{Cells.{Cells, Cell, EndsBy}, Runs.{end_of}, Stretch.{stretch, IsLongest}, declared.run.Run.{Run}}
use Rattle.hc_sparse.proofs.StretchLemmas.{stretch-absent, stretch-longest, stretch-only}
use Rattle.hc_effects.proofs.Vocabulary.{is_at_end, cut_at, stretch_to}
use Rattle.hc_effects.proofs.Tests.{none_some}
use Rattle.hc_state.specs.Handlers.{most}
use Rattle.hc_on_poll.proofs.ReadLemmas.{some_more}

-- what is read from the store, and how the tables see that
pub record IsAhead (f : Cells) (reach o want : ℕ) (hi : Option ℕ) (run : Run) : Type 0 where
  pub m : Run
  pub reported : stretch_to f reach o want ≡ Some m
  pub upto : cut_at hi (end_of m) ≡ end_of run
  pub cut : cut_at hi (end_of run) ≡ end_of run
  pub given : stretch_to f reach o (end_of run - o) ≡ Some run
  pub at : run.at ≡ o
  pub some : 0 < length run.bytes
  pub within : end_of run ≤ reach
  pub each : (p : ℕ) → o ≤ p → p < o + length run.bytes → is_some (f p) ≡ true

longest_of : (o : Option Run) (P : Run → Type 0) → Rattle.std.specs.Option.IfSome o P → (run : Run) → o ≡ Some run → P run
longest_of None P h run is = none_some run is
longest_of (Some z) P h run is = subst P (some_is z run is) h

some_of : (f : Cells) (p want : ℕ) → is_some (f p) ≡ true → (run : Run) × (stretch f p want ≡ Some run)
some_of f p want on = by_stretch (stretch f p want) refl
  where
    by_stretch : (o : Option Run) → stretch f p want ≡ o → (run : Run) × (stretch f p want ≡ Some run)
    by_stretch (Some run) is = (run, is)
    by_stretch None is = false_true (sym (ap (λ (o : Option Cell). is_some o) ((stretch-absent f p want).0 is)) ∙ on)

module _ (f : Cells) (reach o want : ℕ) (hi : Option ℕ) (ends : EndsBy reach f) (wants : 0 < want) (off : is_at_end hi o ≡ false) where
  abbrev count : ℕ
  count = most hi o want

  some_count : 0 < count
  some_count = some_more want wants hi o off

  -- where nothing is stored
  pub none_ahead : f o ≡ None → (stretch f o count ≡ None) × (stretch_to f reach o want ≡ None)
  none_ahead none = ((stretch-absent f o count).1 none, (stretch-absent f o (min want (reach - o))).1 none)

  module _ (there : is_some (f o) ≡ true) where
    inside : (p : ℕ) → is_some (f p) ≡ true → p < reach
    inside p on = elim (lt_or p reach) [
      | inl lt ↦ lt
      | inr past ↦ false_true (sym (ap (λ (z : Option Cell). is_some z) (ends p past)) ∙ on)
    ]

    abbrev a : ℕ
    a = min want (reach - o)

    some_a : 0 < a
    some_a = let lt = inside o there in omega (arith, wants, lt)

    -- the one that is read, and the one that the tables look at
    read : (run : Run) × (stretch f o count ≡ Some run)
    read = some_of f o count there

    seen : (run : Run) × (stretch f o a ≡ Some run)
    seen = some_of f o a there

    abbrev run : Run
    run = read.0

    abbrev m : Run
    m = seen.0

    is_run : IsLongest f o count run
    is_run = longest_of (stretch f o count) (λ z. IsLongest f o count z) (stretch-longest f o count some_count) run read.1

    is_m : IsLongest f o a m
    is_m = longest_of (stretch f o a) (λ z. IsLongest f o a z) (stretch-longest f o a some_a) m seen.1

    abbrev cell : ℕ → ℕ → Cell
    cell i x = record { byte = i; x = x }

    cell_x : (x y i j : ℕ) → Some (cell i x) ≡ Some (cell j y) → x ≡ y
    cell_x x y i j is = ap (λ (z : Cell). z.x) (some_is (cell i x) (cell j y) is)

    -- they are of one exchange
    same_x : run.x ≡ m.x
    same_x = cell_x run.x m.x (slice_index run.bytes 0) (slice_index m.bytes 0) (sym (is_run.each 0 is_run.some) ∙ is_m.each 0 is_m.some)

    of_it : (x y i : ℕ) → x ≡ y → Some (cell i x) ≡ Some (cell i y)
    of_it x y i same = ap (λ (z : ℕ). Some (cell i z)) same

    abbrev l : ℕ
    l = length run.bytes

    abbrev n : ℕ
    n = length m.bytes

    -- the one that is read ends within what is there
    run_within : o + l ≤ reach
    run_within =
        let some = is_run.some in
        let at_last = inside (o + (l - 1)) (ap (λ (z : Option Cell). is_some z) (is_run.each (l - 1) (omega (arith, some)))) in
        omega (arith, some, at_last)

    -- it isn't longer than the other
    not_longer : l ≤ n
    not_longer = elim (lt_or n l) [
      | inr le ↦ le
      | inl more ↦ elim (lt_or n a) [
        | inl short ↦ absurd (is_m.ends short (slice_index run.bytes n) (is_run.each n more ∙ of_it run.x m.x (slice_index run.bytes n) same_x))
        | inr full ↦ (let less = is_run.most in let within = run_within in let up = more in let long = full in absurd (by_count hi refl less within up long))
      ]
    ]
      where
        by_count : (z : Option ℕ) → hi ≡ z → l ≤ count → o + l ≤ reach → n < l → a ≤ n → ⊥
        by_count None is less within up long = let le : l ≤ cut_at None (o + want) - o = subst (λ (y : Option ℕ). l ≤ cut_at y (o + want) - o) is less in
            omega (arith, le, within, up, long)
        by_count (Some h) is less within up long = let le : l ≤ min h (o + want) - o = subst (λ (y : Option ℕ). l ≤ cut_at y (o + want) - o) is less in
            omega (arith, le, within, up, long)

    -- and ends where that does, or where the reader stops
    long_enough : (b : ℕ) → b ≤ n → b ≤ count → b ≤ l
    long_enough b of_n of_count = elim (lt_or l b) [
      | inr le ↦ le
      | inl short ↦ (let less = short in
          absurd (is_run.ends (omega (arith, less, of_count)) (slice_index m.bytes l)
          (is_m.each l (omega (arith, less, of_n)) ∙ of_it m.x run.x (slice_index m.bytes l) (sym same_x))))
    ]

    before_end : (z : Option ℕ) → hi ≡ z → cut_at z (o + n) ≡ o + l
    before_end None is =
        let most_m = is_m.most in
        let le = not_longer in
        let all : n ≤ count = subst (λ (y : Option ℕ). n ≤ cut_at y (o + want) - o) (sym is) (omega (arith, most_m)) in
        let long = long_enough n (omega arith) all in
        omega (arith, le, long)
    before_end (Some h) is =
        let below : o < h = (let open_end : is_at_end (Some h) o ≡ false = subst (λ (y : Option ℕ). is_at_end y o ≡ false) is off in
        grind (arith, nat_tests, open_end)) in
        let most_m = is_m.most in
        let le = not_longer in
        let up : l ≤ min h (o + want) - o = subst (λ (y : Option ℕ). l ≤ cut_at y (o + want) - o) is is_run.most in
        let all : min (h - o) n ≤ count = subst (λ (y : Option ℕ). min (h - o) n ≤ cut_at y (o + want) - o) (sym is) (omega (arith, most_m)) in
        let long = long_enough (min (h - o) n) (omega arith) all in
        omega (arith, le, long, up, below)

    cut_here : (z : Option ℕ) → hi ≡ z → cut_at z (o + l) ≡ o + l
    cut_here None is = refl
    cut_here (Some h) is =
        let below : o < h = (let open_end : is_at_end (Some h) o ≡ false = subst (λ (y : Option ℕ). is_at_end y o ≡ false) is off in
        grind (arith, nat_tests, open_end)) in
        let up : l ≤ min h (o + want) - o = subst (λ (y : Option ℕ). l ≤ cut_at y (o + want) - o) is is_run.most in
        omega (arith, up, below)

    end_run : end_of run ≡ o + l
    end_run = ap (λ (z : ℕ). z + l) is_run.from

    -- just those bytes are read
    exactly : IsLongest f o (min (end_of run - o) (reach - o)) run
    exactly =
        let within = run_within in
        let ended = end_run in
        record {
          from = is_run.from;
          some = is_run.some;
          most = omega (arith, within, ended);
          each = is_run.each;
          ends = λ short. absurd (let less = short in omega (arith, less, within, ended));
        }

    pub ahead : (z : Run) → stretch f o count ≡ Some z → IsAhead f reach o want hi z
    ahead z is =
        subst (λ (y : Run). IsAhead f reach o want hi y) (some_is run z (sym read.1 ∙ is)) (record {
          m = m;
          reported = seen.1;
          upto = ap (cut_at hi) (ap (λ (z : ℕ). z + n) is_m.from) ∙ (before_end hi refl ∙ sym end_run);
          cut = ap (cut_at hi) end_run ∙ (cut_here hi refl ∙ sym end_run);
          given = stretch-only f o (min (end_of run - o) (reach - o)) run exactly;
          at = is_run.from;
          some = is_run.some;
          within = (let le = run_within in let ended = end_run in omega (arith, le, ended));
          each = λ p low up. (let lo = low in let hi_p = up in let at : o + (p - o) ≡ p = omega (arith, lo) in
              ap (λ (y : ℕ). is_some (f y)) (sym at) ∙ ap (λ (y : Option Cell). is_some y) (is_run.each (p - o) (omega (arith, lo, hi_p))));
        })
