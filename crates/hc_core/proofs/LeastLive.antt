-- The least of some numbers, and who of the live has it.
--
-- The loop keeps the lesser of what it has and the next number. By induction over the list the result is one of them,
-- and none is lower (`least_is`); it is none only of an empty list (`least_none`). The numbers of the rows are those of
-- the live, in each run that the cache represents. So with none nobody is live (`none_lives`), and else it is the least
-- of them (`least_lives`). `if_none` and `if_some` say it where the loop of `least_live` ends.
use Rattle.std.{proofs.{Common.{◌≡◌, ◌⊎◌, ◌≤◌, inl, inr, ℕ, List, [], ◌∷◌, length, Bool, true, false, Option, Some, None, refl, ap, sym, ◌∙◌, subst, arith}, lemmas.{Bool.{cases_Bool, Decides.{nat_tests}}, Map.{Entries.{length-keys_of}, Made.{is_some-lookup}}}}, specs.{Prelude.{is_some, nat_eq, nat_lt, if◌then◌else◌, IfSome, IfNone}, Set.{is_member}}}
use Rattle.std.specs.HashMap as hash
use Rattle.hc_effects.proofs.Vocabulary.{is_live, Contents, History, tables}
use Rattle.hc_state.proofs.Ties.{kept_lives}
use Rattle.hc_store.specs.declared.backend.Backend.{Ghosts}
use Rattle.hc_core.specs.{Steps.{StandsFor, live_in}, declared.cache.Cache.{Cache}}
use Rattle.hc_model.specs.Denials.{IsLeastLive}

abbrev pub lesser : Option ℕ → ℕ → ℕ
lesser None k = k
lesser (Some m) k = if nat_lt m k then m else k

abbrev pub least_of : Option ℕ → List ℕ → Option ℕ
least_of o [] = o
least_of o (k ∷ ks) = least_of (Some (lesser o k)) ks

-- it is one of them, and none is lower
record IsLeast (o : Option ℕ) (ks : List ℕ) (c : ℕ) : Type 0 where
  from : (o ≡ Some c) ⊎ (is_member nat_eq ks c ≡ true)
  first : (m : ℕ) → o ≡ Some m → c ≤ m
  rest : (d : ℕ) → is_member nat_eq ks d ≡ true → c ≤ d

abbrev value : Option ℕ → ℕ
value None = 0
value (Some m) = m

lesser_either : (m k : ℕ) → (lesser (Some m) k ≡ m) ⊎ (lesser (Some m) k ≡ k)
lesser_either m k = by_test (nat_lt m k)
  where
    by_test : (b : Bool) → ((if b then m else k) ≡ m) ⊎ ((if b then m else k) ≡ k)
    by_test true = inl refl
    by_test false = inr refl

lesser_first : (m k : ℕ) → lesser (Some m) k ≤ m
lesser_first m k = grind (arith, nat_tests)

lesser_next : (o : Option ℕ) (k : ℕ) → lesser o k ≤ k
lesser_next o k = grind (arith, nat_tests)

here_or : (k d : ℕ) (ks : List ℕ) → is_member nat_eq (k ∷ ks) d ≡ true → (d ≡ k) ⊎ (is_member nat_eq ks d ≡ true)
here_or k d ks is = elim (cases_Bool (nat_eq d k)) [
  | inl on ↦ inl (grind (arith, nat_tests))
  | inr off ↦ inr (sym (rw off refl) ∙ is)
]

here : (k : ℕ) (ks : List ℕ) → is_member nat_eq (k ∷ ks) k ≡ true
here k ks = let same : nat_eq k k ≡ true = grind (arith, nat_tests) in rw same refl

there : (k d : ℕ) (ks : List ℕ) → is_member nat_eq ks d ≡ true → is_member nat_eq (k ∷ ks) d ≡ true
there k d ks on = grind (arith, nat_tests)

least_is : (o : Option ℕ) (ks : List ℕ) (c : ℕ) → least_of o ks ≡ Some c → IsLeast o ks c
least_is o [] c is = record {
  from = inl is;
  first = λ m at. let same : c ≡ m = ap value (sym is ∙ at) in omega arith;
  rest = λ d never. absurd (let no : false ≡ true = never in cc);
}
least_is o (k ∷ ks) c is = by_rest (least_is (Some (lesser o k)) ks c is)
  where
    first_of : c ≤ lesser o k → (m : ℕ) → o ≡ Some m → c ≤ m
    first_of low m at =
        let below : c ≤ lesser (Some m) k = subst (λ (z : Option ℕ). c ≤ lesser z k) at low in
        let le : lesser (Some m) k ≤ m = lesser_first m k in
        omega arith

    rest_of : IsLeast (Some (lesser o k)) ks c → (d : ℕ) → (d ≡ k) ⊎ (is_member nat_eq ks d ≡ true) → c ≤ d
    rest_of q d (inl same) =
        let low : c ≤ lesser o k = q.first (lesser o k) refl in
        let le : lesser o k ≤ k = lesser_next o k in
        omega arith
    rest_of q d (inr on) = q.rest d on

    taken : (z : Option ℕ) → lesser z k ≡ c → (z ≡ Some c) ⊎ (is_member nat_eq (k ∷ ks) c ≡ true)
    taken None same = inr (subst (λ n. is_member nat_eq (k ∷ ks) n ≡ true) same (here k ks))
    taken (Some m) same = elim (lesser_either m k) [
      | inl old ↦ inl (ap Some (sym old ∙ same))
      | inr new ↦ inr (subst (λ n. is_member nat_eq (k ∷ ks) n ≡ true) (sym new ∙ same) (here k ks))
    ]

    from_of : (z : Option ℕ) → (Some (lesser z k) ≡ Some c) ⊎ (is_member nat_eq ks c ≡ true) → (z ≡ Some c) ⊎ (is_member nat_eq (k ∷ ks) c ≡ true)
    from_of z (inl same) = taken z (ap value same)
    from_of z (inr on) = inr (there k c ks on)

    by_rest : IsLeast (Some (lesser o k)) ks c → IsLeast o (k ∷ ks) c
    by_rest q = record {
      from = from_of o q.from;
      first = λ m at. first_of (q.first (lesser o k) refl) m at;
      rest = λ d on. rest_of q d (here_or k d ks on);
    }

least_none : (o : Option ℕ) (ks : List ℕ) → least_of o ks ≡ None → ks ≡ []
least_none o [] is = refl
least_none o (k ∷ ks) is = absurd (never (lesser o k) ks is)
  where
    never : (m : ℕ) (js : List ℕ) → least_of (Some m) js ≡ None → ⊥
    never m [] at = let no : Some m ≡ None = at in cc
    never m (j ∷ js) at = never (lesser (Some m) j) js at

module _ {B : Type 0} {g : Ghosts B} (s : Cache B g) where
  abbrev live_keys : List ℕ
  live_keys = hash.keys s.rows.consumers

  pub none_lives : least_of None live_keys ≡ None → live_in s ≡ 0
  none_lives none = sym (length-keys_of s.rows.consumers.entries) ∙ ap length (least_none None live_keys none)

  pub least_lives : (c : ℕ) → least_of None live_keys ≡ Some c → (contents : Contents) (h : History) → StandsFor s contents h →
      IsLeastLive (tables contents h) c
  least_lives c is contents h stands = record {
    live = sym (tied c) ∙ on (least_is None live_keys c is).from;
    least = λ d alive. (least_is None live_keys c is).rest d (member d (tied d ∙ alive));
  }
    where
      tied : (d : ℕ) → is_some (hash.get nat_eq s.rows.consumers d) ≡ is_live ((tables contents h).consumer d)
      tied d = kept_lives (tables contents h) (hash.get nat_eq s.rows.consumers d) ((tables contents h).consumer d) (stands.rows.consumers d)

      member : (d : ℕ) → is_some (hash.get nat_eq s.rows.consumers d) ≡ true → is_member nat_eq live_keys d ≡ true
      member d some = sym (is_some-lookup (nat_eq d) s.rows.consumers.entries) ∙ some

      on : (None ≡ Some c) ⊎ (is_member nat_eq live_keys c ≡ true) → is_some (hash.get nat_eq s.rows.consumers c) ≡ true
      on (inl never) = absurd (let no : None ≡ Some c = never in cc)
      on (inr here) = is_some-lookup (nat_eq c) s.rows.consumers.entries ∙ here

  pub if_none : (o : Option ℕ) (ks : List ℕ) → ks ≡ [] → least_of o ks ≡ least_of None live_keys → IfNone o (live_in s ≡ 0)
  if_none None ks done is = none_lives (sym is ∙ ap (least_of None) done)
  if_none (Some c) ks done is = tt

  pub if_some : (o : Option ℕ) (ks : List ℕ) → ks ≡ [] → least_of o ks ≡ least_of None live_keys →
      IfSome o (λ c. (contents : Contents) (h : History) → StandsFor s contents h → IsLeastLive (tables contents h) c)
  if_some None ks done is = tt
  if_some (Some c) ks done is = least_lives c (sym is ∙ ap (least_of (Some c)) done)
