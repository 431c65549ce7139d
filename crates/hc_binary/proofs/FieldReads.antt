-- Lines of fields, read one after another.
use Rattle.std.{proofs.{Common.{◌≡◌, ◌≢◌, ℕ, ◌+◌, ◌<◌, true, false, not, ◌==◌, List, [], ◌∷◌, ◌++◌, length, take, drop, Option, Some, None, Result, Ok, Err, inl, inr, refl, sym, ap, subst, ◌∙◌, arith, append_assoc, length-append}, lemmas.{Bool.{and_parts, ne_eqb, not-true}, List.{append-nil}}}, specs.{Prelude.{position}, Result.{IsErrAnd, MatchResult}}}
use Rattle.hc_text.specs.Texts.{lacks, cut}
use Rattle.hc_text.proofs.{Cutting.{none_or_some}, Cuts.{cut-position, lacks-all}}
use Rattle.hc_sched.specs.Words.{◌>>=◌}
use Rattle.hc_binary.specs.FieldTexts.{fields_of, line_behind, read_on, IsRest}

abbrev Fields : Type 0
Fields = List (List ℕ × List ℕ)

pub some_is : (a b : Fields) → Some a ≡ Some b → a ≡ b
some_is a b same = cc

-- a line up to its line feed
read_line : (fs : Fields) (start line after : List ℕ) → lacks 10 line ≡ true
    → read_on fs start (line ++ 10 ∷ after) ≡ (line_behind fs (start ++ line) >>= (λ all. read_on all [] after))
read_line fs start [] after h = ap (λ (l : List ℕ). line_behind fs l >>= (λ all. read_on all [] after)) (sym (append-nil start))
read_line fs start (b ∷ line) after h =
    let parts = and_parts (not (b == 10)) (lacks 10 line) h in
    let other : (b == 10) ≡ false = not-true (b == 10) parts.0 in
    rw other (read_line fs (start ++ b ∷ []) line after parts.1
    ∙ ap (λ (l : List ℕ). line_behind fs l >>= (λ all. read_on all [] after)) (append_assoc start (b ∷ []) line))

-- without one a text is no lines, unless it has no byte
read_rest : (fs : Fields) (start rest : List ℕ) → lacks 10 rest ≡ true → 0 < length (start ++ rest) → read_on fs start rest ≡ None
read_rest fs start [] h some =
    let len = length-append start [] in
    let other : (length start == 0) ≡ false = ne_eqb (length start) 0 (λ none. omega (arith, none, some, len)) in
    rw other refl
read_rest fs start (b ∷ rest) h some =
    let parts = and_parts (not (b == 10)) (lacks 10 rest) h in
    let other : (b == 10) ≡ false = not-true (b == 10) parts.0 in
    let same : length ((start ++ b ∷ []) ++ rest) ≡ length (start ++ b ∷ rest) = ap length (append_assoc start (b ∷ []) rest) in
    rw other (read_rest fs (start ++ b ∷ []) rest parts.1 (omega (arith, some, same)))

-- the next line of a rest
next_is : (fs : Fields) (rest : List ℕ) (at : ℕ) → position (λ x. x == 10) rest ≡ Some at
    → read_on fs [] rest ≡ (line_behind fs (take at rest) >>= (λ all. read_on all [] (drop (at + 1) rest)))
next_is fs rest at is =
    let parts = cut-position 10 rest at is in
    ap (read_on fs []) (sym parts.whole) ∙ read_line fs [] (take at rest) (drop (at + 1) rest) parts.before

next_cut : (fs : Fields) (rest line after : List ℕ) → cut 10 rest ≡ Some (line, after) →
    read_on fs [] rest ≡ (line_behind fs line >>= (λ all. read_on all [] after))
unfolding cut
next_cut fs rest line after is =
    elim (none_or_some (position (λ x. x == 10) rest)) [
      | inl none ↦ cc (rw none at is)
      | inr some ↦
          let parts : (take some.0 rest, drop (some.0 + 1) rest) ≡ (line, after) = cc (rw some.1 at is) in
          let first : take some.0 rest ≡ line = ap (λ (p : List ℕ × List ℕ). p.0) parts in
          let second : drop (some.0 + 1) rest ≡ after = ap (λ (p : List ℕ × List ℕ). p.1) parts in
          rw first at (rw second at (next_is fs rest some.0 some.1))
    ]

-- a line more is read
pub rest_more : (text : List ℕ) (fs all : Fields) (rest line after : List ℕ) → IsRest text fs rest → cut 10 rest ≡ Some (line, after)
    → line_behind fs line ≡ Some all → IsRest text all after
rest_more text fs all rest line after h is read =
    h ∙ (next_cut fs rest line after is ∙ ap (λ (o : Option Fields). o >>= (λ l. read_on l [] after)) read)

-- a line is refused
pub rest_refused : (text : List ℕ) (fs : Fields) (rest line after : List ℕ) → IsRest text fs rest → cut 10 rest ≡ Some (line, after)
    → line_behind fs line ≡ None → fields_of text ≡ None
rest_refused text fs rest line after h is read =
    h ∙ (next_cut fs rest line after is ∙ ap (λ (o : Option Fields). o >>= (λ l. read_on l [] after)) read)

-- nothing is left
pub rest_none : (text : List ℕ) (fs : Fields) (rest : List ℕ) → IsRest text fs rest → length rest ≡ 0 → fields_of text ≡ Some fs
rest_none text fs [] h none = h
rest_none text fs (b ∷ rest) h none = absurd (omega (arith, none))

-- a line without its line feed is left
pub rest_cut : (text : List ℕ) (fs : Fields) (rest : List ℕ) → IsRest text fs rest → cut 10 rest ≡ None → length rest ≢ 0 → fields_of text ≡ None
unfolding cut
rest_cut text fs rest h none some =
    elim (none_or_some (position (λ x. x == 10) rest)) [
      | inl lacking ↦ h ∙ read_rest fs [] rest (lacks-all 10 rest lacking) (omega (arith, some))
      | inr at ↦ cc (rw at.1 at none)
    ]

-- what an error leads to
pub match_err : {A E : Type 0} (r : Result A E) (e : E) (P : A → Type 0) (Q : E → Type 0) → IsErrAnd r (λ (x : E). x ≡ e) → Q e → MatchResult r P Q
match_err (Ok a) e P Q is q = absurd is
match_err (Err x) e P Q is q = subst Q (sym is) q
