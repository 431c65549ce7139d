use Rattle.std.{proofs.{Common.{◌≡◌, ℕ, ◌+◌, ◌≤◌, true, false, List, [], ◌∷◌, ◌++◌, cond, length, take, get_or, Some, sym, ap, ◌∙◌, arith, length-append}, lemmas.{List.{append-nil, map-append, nil_from_length, Elements.{filter_more}}, Option.{get_or_from_slice_get, slice_get_within}}}, specs.Prelude.{bytes_eq, codes, filter, map, slice_get}}
use Rattle.hc_fields.specs.FieldList.{has_name, values_of}
use Rattle.hc_record.proofs.joining.only_etag.Goals as goal
use Rattle.hc_record.proofs.joining.only_etag.Goals.{then-eq, else-eq}

-- a field of the name adds its value
values_with : (key : List ℕ) (fs : List (List ℕ × List ℕ)) (i : ℕ) (name value : List ℕ) → slice_get fs i ≡ Some (name, value) → bytes_eq name key ≡ true
    → values_of key (take (i + 1) fs) ≡ values_of key (take i fs) ++ value ∷ []
values_with key fs i name value is same =
    let f : List ℕ × List ℕ = (name, value) in
    let at : get_or fs i f ≡ f = get_or_from_slice_get fs i f f is in
    let next : filter (has_name key) (take (i + 1) fs) ≡ filter (has_name key) (take i fs) ++
    cond (has_name key (get_or fs i f)) (get_or fs i f ∷ []) [] = filter_more (has_name key) fs i f (slice_get_within fs i f is) in
    let more = rw (at, same) at next in
    ap (map (λ (g : List ℕ × List ℕ). g.1)) more ∙ map-append (λ (g : List ℕ × List ℕ). g.1) (filter (has_name key) (take i fs)) (f ∷ [])

-- another adds none
values_without : (key : List ℕ) (fs : List (List ℕ × List ℕ)) (i : ℕ) (name value : List ℕ) → slice_get fs i ≡ Some (name, value) → bytes_eq name key ≡ false
    → values_of key (take (i + 1) fs) ≡ values_of key (take i fs)
values_without key fs i name value is differs =
    let f : List ℕ × List ℕ = (name, value) in
    let at : get_or fs i f ≡ f = get_or_from_slice_get fs i f f is in
    let next : filter (has_name key) (take (i + 1) fs) ≡ filter (has_name key) (take i fs) ++
    cond (has_name key (get_or fs i f)) (get_or fs i f ∷ []) [] = filter_more (has_name key) fs i f (slice_get_within fs i f is) in
    let more = rw (at, differs) at next in
    ap (map (λ (g : List ℕ × List ℕ). g.1)) (more ∙ append-nil (filter (has_name key) (take i fs)))

-- the count and the value go on with a field of the name
counted : (vs more : List (List ℕ)) (count i : ℕ) (value : List ℕ) → count ≡ length vs → count ≤ i → more ≡ vs ++ value ∷ []
    → (count + 1 ≡ length more) × (count + 1 ≤ i + 1) × (count + 1 ≡ 1 → more ≡ value ∷ [])
counted vs more count i value is within grown =
    let size : length more ≡ length vs + 1 = ap length grown ∙ length-append vs (value ∷ []) in (
      omega (arith, is, size),
      omega (arith, within),
      λ one. grown ∙ ap (λ (ws : List (List ℕ)). ws ++ value ∷ []) (nil_from_length vs (omega (arith, is, one))),
    )

pub loop-i-preserved : goal.loop-i-preserved
loop-i-preserved c =
    let key = codes "etag" in
    let fs = c.args.fields.now in
    let i = c.loop-i.i in
    let name = c.at.result.0.now in
    let value = c.at.result.1.now in
    let inv = c.loop-i.invariant in
    elim c.if-eq.branch [
      | then-eq w ↦
          let same : bytes_eq name key ≡ true = rw c.as_slice.ensures at (sym c.eq.ensures ∙ w.if-eq.true) in
          rw (w.count-is, w.found-is)
          (counted (values_of key (take i fs)) (values_of key (take (i + 1) fs)) c.loop-i.count i value inv.0 inv.1
          (values_with key fs i name value c.at.ensures same))
      | else-eq w ↦
          let differs : bytes_eq name key ≡ false = rw c.as_slice.ensures at (sym c.eq.ensures ∙ w.if-eq.false) in
          let stays = values_without key fs i name value c.at.ensures differs in
          rw (w.count-is, w.found-is, stays) (inv.0, omega (arith, inv.1), inv.2)
    ]
