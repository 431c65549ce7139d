use Rattle.std.{proofs.{Common.{◌≡◌, ◌≢◌, ℕ, List, [], ◌∷◌, length, true, false, arith, ap, refl, sym, ◌∙◌}, lemmas.{Bool.{eqb-true, eq-eqb}, List.{nil_from_length}, Slice.Eq.{bytes_eq-Decides}}}, specs.Prelude.{bytes_eq}}
use Rattle.hc_etag.specs.{declared.tag.Tag.{Tag}, Tags.{any_text, values_of}}
use Rattle.hc_etag.proofs.ListReads.{any_listed, tags_read, none_read}
use Rattle.hc_etag.proofs.list.read_tag_list.Goals as goal

not_any : (text : List ℕ) → bytes_eq text any_text ≡ false → text ≢ any_text
not_any text off is = let on = (bytes_eq-Decides text any_text).1 is in absurd (let never : true ≡ false = sym on ∙ off in cc)

no_values : (items : List Tag) → length items ≡ 0 → values_of items ≡ []
no_values items none = ap values_of (nil_from_length items none)

some_values : (items : List Tag) → length items ≢ 0 → values_of items ≢ []
some_values [] some is = some refl
some_values (t ∷ items) some is = absurd (let never : [] ≡ values_of (t ∷ items) = sym is in cc)

pub returns-then-eq-clause-value : goal.returns-then-eq-clause-value
returns-then-eq-clause-value c =
    any_listed c.args.text.now ((bytes_eq-Decides c.args.text.now any_text).0 (let same : bytes_eq c.args.text.now any_text ≡ true = cc in same))

pub returns-in_default-clause-value : goal.returns-in_default-clause-value
returns-in_default-clause-value c =
    none_read c.args.text.now (
      not_any c.args.text.now (let off : bytes_eq c.args.text.now any_text ≡ false = cc in off),
      λ tags is. (rw c.in_default.is at c.in_ok-items.ensures.none) tags is.0,
    )

pub returns-then-is_empty-clause-value : goal.returns-then-is_empty-clause-value
returns-then-is_empty-clause-value c =
    none_read c.args.text.now (
      not_any c.args.text.now (let off : bytes_eq c.args.text.now any_text ≡ false = cc in off),
      λ tags is. is.1 (sym ((rw c.in-Some.is at c.in_ok-items.ensures.only) tags is.0) ∙
          no_values c.in-Some.items.items
          (let none : c.in-Some.items.len ≡ 0 = eqb-true c.in-Some.items.len 0 (sym c.is_empty.ensures ∙ c.if-is_empty.true) in omega (arith, none))),
    )

pub returns-clause-value : goal.returns-clause-value
returns-clause-value c =
    tags_read c.args.text.now (values_of c.in-Some.items.items) (
      rw c.in-Some.is at c.in_ok-items.ensures.found,
      some_values c.in-Some.items.items
          (λ none. let empty : c.in-Some.items.len ≡ 0 = omega (arith, none) in
          absurd (let never : true ≡ false = sym (eq-eqb c.in-Some.items.len 0 empty) ∙ sym c.is_empty.ensures ∙ c.if-is_empty.false in cc)),
    )
