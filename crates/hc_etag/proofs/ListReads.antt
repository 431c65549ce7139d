-- The list that is read from a text is the one that the text lists.
--
-- A text that spells tags lists them (`lists_spelled`, by induction over the spelling): between the quotes of a tag each
-- byte is taken, up to the second quote (`within_quotes`). And what a text lists it spells (`listed_spelled`, by induction
-- over the text, at each place where the reading may stand). So what is read, by its contract, is `list_in` of the text,
-- and nothing is read where the text is no list (`list_is`).
use Rattle.std.{proofs.{Common.{◌≡◌, ◌≢◌, ℕ, Bool, true, false, eqb, List, [], ◌∷◌, ◌++◌, Option, Some, None, refl, sym, ap, ◌∙◌, subst}, lemmas.{Bool.{and_parts, and_from, eqb-true}, List.{append_assoc, append-nil}, Slice.Eq.{bytes_eq-Decides}}}, specs.{Prelude.{IfSome, IfNone, bytes_eq, option_map, ◌&&◌, if◌then◌else◌}, List.{list_all}}}
use Rattle.hc_text.specs.Elements.{comma, is_blank}
use Rattle.hc_etag.specs.{declared.list.TagList.{TagList, TheVariants.{Any, Tags}}, Etags.{quote, is_etagc, IsOpaque, tag_text}, TagLists.{SpellsList, IsNoList}, Tags.{SpellsTags, ends, blank, separator, tag, IsTagList, any_text, values_of}, TagListTexts.{Place, Between, BehindW, BehindSlash, Within, with_tag, tags_from, AnyTag, TheseTags, if_some, list_in, plain_list}}

-- WHAT IS SPELLED IS LISTED

-- what may stand in a tag is no quote
no_quote : (b : ℕ) → is_etagc b ≡ true → eqb b quote ≡ false
no_quote b may = by_test (eqb b quote) refl
  where
    by_test : (x : Bool) → eqb b quote ≡ x → eqb b quote ≡ false
    by_test false off = off
    by_test true is = absurd (let never : false ≡ true = sym (ap is_etagc (eqb-true b quote is)) ∙ may in cc)

-- the rest of a tag, from behind some bytes of it
within_quotes : (weak : Bool) (opaque seen text : List ℕ) → IsOpaque opaque →
    tags_from (Within weak seen) (opaque ++ quote ∷ text) ≡ with_tag (weak, seen ++ opaque) (tags_from (Between false) text)
within_quotes weak [] seen text is = ap (λ (o : List ℕ). with_tag (weak, o) (tags_from (Between false) text)) (sym (append-nil seen))
within_quotes weak (b ∷ opaque) seen text is =
    let parts = and_parts (is_etagc b) (list_all is_etagc opaque) is in
    rw (no_quote b parts.0, parts.0)
    (within_quotes weak opaque (seen ++ b ∷ []) text parts.1
    ∙ ap (λ (o : List ℕ). with_tag (weak, o) (tags_from (Between false) text)) (append_assoc seen (b ∷ []) opaque))

-- a tag, and those behind it
tag_listed : (weak : Bool) (opaque text : List ℕ) (tags : List (Bool × List ℕ)) → IsOpaque opaque → tags_from (Between false) text ≡ Some tags
    → tags_from (Between true) (tag_text weak opaque ++ text) ≡ Some ((weak, opaque) ∷ tags)
tag_listed false opaque text tags is rest =
    ap (tags_from (Within false [])) (append_assoc opaque (quote ∷ []) text)
    ∙ within_quotes false opaque [] text is ∙ ap (with_tag (false, opaque)) rest
tag_listed true opaque text tags is rest =
    ap (tags_from (Within true [])) (append_assoc opaque (quote ∷ []) text)
    ∙ within_quotes true opaque [] text is ∙ ap (with_tag (true, opaque)) rest

lists_spelled : {may_come : Bool} {text : List ℕ} {tags : List (Bool × List ℕ)} → SpellsTags may_come text tags → tags_from (Between may_come) text ≡ Some tags
lists_spelled (ends may_come) = refl
lists_spelled (blank may_come b text tags is spelled) = rw is (lists_spelled spelled)
lists_spelled (separator may_come text tags spelled) = lists_spelled spelled
lists_spelled (tag weak opaque text tags is spelled) = tag_listed weak opaque text tags is (lists_spelled spelled)

-- WHAT IS LISTED IS SPELLED

-- The text goes on to the second quote of a tag that began with some bytes, and then lists the others.
record EndsTag (weak : Bool) (seen text : List ℕ) (tags : List (Bool × List ℕ)) : Type 0 where
  pub opaque : List ℕ
  pub rest : List ℕ
  pub later : List (Bool × List ℕ)
  pub is_opaque : IsOpaque opaque
  pub text_is : text ≡ opaque ++ quote ∷ rest
  pub tags_is : tags ≡ (weak, seen ++ opaque) ∷ later
  pub spelled : SpellsTags false rest later

-- what a text is that lists these tags from a place on
abbrev Spells : Place → List ℕ → List (Bool × List ℕ) → Type 0
Spells (Between may_come) text tags = SpellsTags may_come text tags
Spells BehindW text tags = (after : List ℕ) × (text ≡ 47 ∷ quote ∷ after) × EndsTag true [] after tags
Spells BehindSlash text tags = (after : List ℕ) × (text ≡ quote ∷ after) × EndsTag true [] after tags
Spells (Within weak seen) text tags = EndsTag weak seen text tags

abbrev IsSpelled : List ℕ → Type 0
IsSpelled text = (p : Place) (tags : List (Bool × List ℕ)) → tags_from p text ≡ Some tags → Spells p text tags

nothing_listed : {X : Type 0} (tags : List (Bool × List ℕ)) → None ≡ Some tags → X
nothing_listed tags h = absurd (cc)

at_end : IsSpelled []
at_end (Between may_come) tags h = let same : [] ≡ tags = cc in subst (SpellsTags may_come []) same (ends may_come)
at_end BehindW tags h = nothing_listed tags h
at_end BehindSlash tags h = nothing_listed tags h
at_end (Within weak seen) tags h = nothing_listed tags h

-- a whole tag, from its first byte on
whole_tag : (weak : Bool) (text after : List ℕ) (tags : List (Bool × List ℕ)) (q : EndsTag weak [] after tags) → text ≡ tag_text weak q.opaque ++ q.rest →
    SpellsTags true text tags
whole_tag weak text after tags q is =
    subst (λ (l : List ℕ). SpellsTags true l tags) (sym is)
    (subst (SpellsTags true (tag_text weak q.opaque ++ q.rest)) (sym q.tags_is) (tag weak q.opaque q.rest q.later q.is_opaque q.spelled))

module _ (b : ℕ) (text : List ℕ) (tags : List (Bool × List ℕ)) (behind : IsSpelled text) where
  strong_first : eqb b quote ≡ true → EndsTag false [] text tags → SpellsTags true (b ∷ text) tags
  strong_first is q =
      whole_tag false (b ∷ text) text tags q
      (ap (λ (n : ℕ). n ∷ text) (eqb-true b quote is) ∙ ap (λ (l : List ℕ). quote ∷ l) (q.text_is ∙ sym (append_assoc q.opaque (quote ∷ []) q.rest)))

  weak_first : eqb b 87 ≡ true → Spells BehindW text tags → SpellsTags true (b ∷ text) tags
  weak_first is s =
      let q = s.2 in
      whole_tag true (b ∷ text) s.0 tags q
      (ap (λ (n : ℕ). n ∷ text) (eqb-true b 87 is) ∙ ap (λ (l : List ℕ). 87 ∷ l) s.1
      ∙ ap (λ (l : List ℕ). 87 ∷ 47 ∷ quote ∷ l) (q.text_is ∙ sym (append_assoc q.opaque (quote ∷ []) q.rest)))

  by_first : (may_come x y : Bool) → eqb b quote ≡ x → eqb b 87 ≡ y
      → (if may_come && x then tags_from (Within false []) text else if may_come && y then tags_from BehindW text else None) ≡ Some tags →
      SpellsTags may_come (b ∷ text) tags
  by_first true true y is _ h = strong_first is (behind (Within false []) tags h)
  by_first true false true _ is h = weak_first is (behind BehindW tags h)
  by_first true false false _ _ h = nothing_listed tags h
  by_first false x y _ _ h = nothing_listed tags h

  by_comma : (may_come x : Bool) → eqb b comma ≡ x
      → (if x then tags_from (Between true) text else if may_come && eqb b quote then tags_from (Within false []) text else if may_come && eqb b 87 then
      tags_from BehindW text else None) ≡ Some tags → SpellsTags may_come (b ∷ text) tags
  by_comma may_come true is h =
      subst (λ (n : ℕ). SpellsTags may_come (n ∷ text) tags) (sym (eqb-true b comma is)) (separator may_come text tags (behind (Between true) tags h))
  by_comma may_come false off h = by_first may_come (eqb b quote) (eqb b 87) refl refl h

  by_blank : (may_come x : Bool) → is_blank b ≡ x
      → (if x then tags_from (Between may_come) text else if eqb b comma then tags_from (Between true) text else if may_come && eqb b quote then
      tags_from (Within false []) text else if may_come && eqb b 87 then tags_from BehindW text else None) ≡ Some tags → SpellsTags may_come (b ∷ text) tags
  by_blank may_come true is h = blank may_come b text tags is (behind (Between may_come) tags h)
  by_blank may_come false off h = by_comma may_come (eqb b comma) refl h

  by_slash : (x : Bool) → eqb b 47 ≡ x → (if x then tags_from BehindSlash text else None) ≡ Some tags → Spells BehindW (b ∷ text) tags
  by_slash true is h = let s = behind BehindSlash tags h in (s.0, ap (λ (n : ℕ). n ∷ text) (eqb-true b 47 is) ∙ ap (λ (l : List ℕ). 47 ∷ l) s.1, s.2)
  by_slash false off h = nothing_listed tags h

  by_opening : (x : Bool) → eqb b quote ≡ x → (if x then tags_from (Within true []) text else None) ≡ Some tags → Spells BehindSlash (b ∷ text) tags
  by_opening true is h = (text, ap (λ (n : ℕ). n ∷ text) (eqb-true b quote is), behind (Within true []) tags h)
  by_opening false off h = nothing_listed tags h

  -- the second quote
  at_quote : (weak : Bool) (seen : List ℕ) → eqb b quote ≡ true → (o : Option (List (Bool × List ℕ))) → tags_from (Between false) text ≡ o →
      with_tag (weak, seen) o ≡ Some tags → EndsTag weak seen (b ∷ text) tags
  at_quote weak seen is None rest h = nothing_listed tags h
  at_quote weak seen is (Some later) rest h =
      let same : (weak, seen) ∷ later ≡ tags = cc in
      record {
        opaque = [];
        rest = text;
        later = later;
        is_opaque = refl;
        text_is = ap (λ (n : ℕ). n ∷ text) (eqb-true b quote is);
        tags_is = sym same ∙ ap (λ (o : List ℕ). (weak, o) ∷ later) (sym (append-nil seen));
        spelled = behind (Between false) later rest;
      }

  one_more : (weak : Bool) (seen : List ℕ) → is_etagc b ≡ true → EndsTag weak (seen ++ b ∷ []) text tags → EndsTag weak seen (b ∷ text) tags
  one_more weak seen may q = record {
    opaque = b ∷ q.opaque;
    rest = q.rest;
    later = q.later;
    is_opaque = and_from (is_etagc b) (list_all is_etagc q.opaque) may q.is_opaque;
    text_is = ap (λ (l : List ℕ). b ∷ l) q.text_is;
    tags_is = q.tags_is ∙ ap (λ (o : List ℕ). (weak, o) ∷ q.later) (append_assoc seen (b ∷ []) q.opaque);
    spelled = q.spelled;
  }

  by_byte : (weak : Bool) (seen : List ℕ) (x : Bool) → is_etagc b ≡ x → (if x then tags_from (Within weak (seen ++ b ∷ [])) text else None) ≡ Some tags →
      EndsTag weak seen (b ∷ text) tags
  by_byte weak seen true may h = one_more weak seen may (behind (Within weak (seen ++ b ∷ [])) tags h)
  by_byte weak seen false off h = nothing_listed tags h

  by_quote : (weak : Bool) (seen : List ℕ) (x : Bool) → eqb b quote ≡ x
      → (if x then with_tag (weak, seen) (tags_from (Between false) text) else if is_etagc b then tags_from (Within weak (seen ++ b ∷ [])) text else
      None) ≡ Some tags → EndsTag weak seen (b ∷ text) tags
  by_quote weak seen true is h = at_quote weak seen is (tags_from (Between false) text) refl h
  by_quote weak seen false off h = by_byte weak seen (is_etagc b) refl h

at_byte : (b : ℕ) (text : List ℕ) → IsSpelled text → IsSpelled (b ∷ text)
at_byte b text behind (Between may_come) tags h = by_blank b text tags behind may_come (is_blank b) refl h
at_byte b text behind BehindW tags h = by_slash b text tags behind (eqb b 47) refl h
at_byte b text behind BehindSlash tags h = by_opening b text tags behind (eqb b quote) refl h
at_byte b text behind (Within weak seen) tags h = by_quote b text tags behind weak seen (eqb b quote) refl h

listed_spelled : (text : List ℕ) → IsSpelled text
listed_spelled [] = at_end
listed_spelled (b ∷ text) = at_byte b text (listed_spelled text)

-- WHAT IS READ

some_tags : (tags : List (Bool × List ℕ)) → tags ≢ [] → if_some (Some tags) ≡ Some (TheseTags tags)
some_tags [] none = absurd (none refl)
some_tags (t ∷ tags) none = refl

pub any_listed : (text : List ℕ) → text ≡ any_text → list_in text ≡ Some AnyTag
unfolding list_in
any_listed text is = ap list_in is

pub tags_read : (text : List ℕ) (tags : List (Bool × List ℕ)) → IsTagList text tags → list_in text ≡ Some (TheseTags tags)
unfolding list_in
tags_read text tags is = by_star (bytes_eq text any_text) refl
  where
    listed : tags_from (Between true) text ≡ Some tags
    listed = lists_spelled is.0

    by_star : (x : Bool) → bytes_eq text any_text ≡ x → (if x then Some AnyTag else if_some (tags_from (Between true) text)) ≡ Some (TheseTags tags)
    by_star true star = nothing_listed tags (sym (ap (tags_from (Between true)) ((bytes_eq-Decides text any_text).0 star)) ∙ listed)
    by_star false off = ap if_some listed ∙ some_tags tags is.1

pub none_read : (text : List ℕ) → IsNoList text → list_in text ≡ None
unfolding list_in
none_read text other = by_star (bytes_eq text any_text) refl
  where
    by_tags : (o : Option (List (Bool × List ℕ))) → tags_from (Between true) text ≡ o → if_some (tags_from (Between true) text) ≡ None
    by_tags None is = ap if_some is
    by_tags (Some []) is = ap if_some is
    by_tags (Some (t ∷ tags)) is = absurd (other.1 (t ∷ tags) (listed_spelled text (Between true) (t ∷ tags) is, λ e. cc))

    by_star : (x : Bool) → bytes_eq text any_text ≡ x → (if x then Some AnyTag else if_some (tags_from (Between true) text)) ≡ None
    by_star true star = absurd (other.0 ((bytes_eq-Decides text any_text).0 star))
    by_star false off = by_tags (tags_from (Between true) text) refl

list_read : (text : List ℕ) (list : TagList) → SpellsList text list → list_in text ≡ Some (plain_list list)
list_read text Any is = any_listed text is
list_read text (Tags items) is = tags_read text (values_of items) is

-- by the contract of its reader
pub list_is : (text : List ℕ) (read : Option TagList) → IfSome read (SpellsList text) → IfNone read (IsNoList text) → list_in text ≡ option_map plain_list read
list_is text None found none = none_read text none
list_is text (Some list) found none = list_read text list found
