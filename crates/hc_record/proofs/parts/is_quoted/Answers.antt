use Rattle.std.{proofs.{Common.{◌≡◌, ℕ, Bool, List, [], ◌∷◌, ◌++◌, refl, sym, ap, ◌∙◌}, lemmas.{Bool.{eqb-true}, List.{append_cancel_right}, Slice.Eq.{bytes_eq-Decides}}}, specs.Prelude.{◌↔◌, IsTrue, bytes_eq}}
use Rattle.hc_etag.specs.Etags.{quote}
use Rattle.hc_record.proofs.parts.is_quoted.Goals as goal
use Rattle.hc_record.proofs.parts.is_quoted.Goals.{then-first-eq34, else-first-eq34}

abbrev quoted : List ℕ → List ℕ
quoted inside = quote ∷ inside ++ quote ∷ []

-- a text between quotes is compared by what stands between them
reported : (text rest found inside : List ℕ) (first last : ℕ) (b : Bool) → text ≡ first ∷ rest → rest ≡ found ++ last ∷ [] → first ≡ quote →
    last ≡ quote → b ≡ bytes_eq found inside → IsTrue b ↔ (text ≡ quoted inside)
reported text rest found inside first last b begins ends is_first is_last reports =
    let whole : text ≡ quoted found = rw (begins, ends, is_first, is_last) refl in (
      λ same. whole ∙ ap quoted ((bytes_eq-Decides found inside).0 (sym reports ∙ same)),
      λ is. reports ∙ (bytes_eq-Decides found inside).1 (append_cancel_right found inside (quote ∷ []) cc),
    )

pub returns-then-last-eq34 : goal.returns-then-last-eq34
returns-then-last-eq34 c =
    elim c.if-first-eq34.branch [
      | then-first-eq34 w ↦
          reported c.args.text.now _ c.in-Some-split_last.found.now c.args.inside.now c.in-Some.first.now c.in-Some-split_last.last.now c.eq.result
          c.in-Some.ensures.cases.0 c.in-Some-split_last.ensures.cases.0
          w.if-first-eq34.true (eqb-true _ _ (sym w.value-is ∙ c.if-last-eq34.true)) c.eq.ensures
      | else-first-eq34 w ↦ absurd (w.if-first-eq34.false (eqb-true _ _ (sym w.value-is ∙ c.if-last-eq34.true)))
    ]
