-- A list of tags is read from its front.
--
-- Up to a place some tags were read, and the rest may be anything that goes on (`IsReadUpTo`): the lists of the text
-- are those of the rest behind these tags, both ways. The rest begins with a blank, a comma or a tag, by its first byte
-- (`begins`). A step of the reader takes one of these (`read_blank`, `read_comma`, `read_tag`); the tag there is one,
-- since a text begins with one at most (`one_first`). At the end of the text all are read (`all_read`).
use Rattle.std.proofs.{Common.{◌≡◌, ◌≢◌, ◌⊎◌, ℕ, Bool, true, false, eqb, List, [], ◌∷◌, ◌++◌, length, get_or, refl, sym, ap, ◌∙◌, subst, inl, inr}, lemmas.{Bool.{both_ways}, List.{append_assoc, append-nil, nil_from_length}}}
use Rattle.hc_etag.specs.{Etags.{IsOpaque, tag_text}, Tags.{SpellsTags, ends, blank, separator, tag}}
use Rattle.hc_text.specs.Elements.{comma, is_blank}
use Rattle.hc_etag.proofs.EtagLemmas.{tag_unique}

-- the tags that are read, and what the rest of the text may be
pub record IsReadUpTo (text : List ℕ) (read : List (Bool × List ℕ)) (may_come : Bool) (rest : List ℕ) : Type 0 where
  pub up : (tags : List (Bool × List ℕ)) → SpellsTags may_come rest tags → SpellsTags true text (read ++ tags)
  pub down : (all : List (Bool × List ℕ)) → SpellsTags true text all → (tags : List (Bool × List ℕ)) × SpellsTags may_come rest tags × (all ≡ read ++ tags)
  pub before : List ℕ
  pub place : text ≡ before ++ rest

-- the tag that a text begins with, and those after it
pub record FirstTag (text : List ℕ) (tags : List (Bool × List ℕ)) : Type 0 where
  pub weak : Bool
  pub opaque : List ℕ
  pub rest : List ℕ
  pub later : List (Bool × List ℕ)
  pub is_opaque : IsOpaque opaque
  pub text_is : text ≡ tag_text weak opaque ++ rest
  pub tags_is : tags ≡ (weak, opaque) ∷ later
  pub spelled : SpellsTags false rest later

some_text : (weak : Bool) (opaque rest : List ℕ) → tag_text weak opaque ++ rest ≢ []
some_text true opaque rest = λ e. cc
some_text false opaque rest = λ e. cc

-- what a list that isn't empty begins with
pub data Begins (may_come : Bool) (b : ℕ) (text : List ℕ) (tags : List (Bool × List ℕ)) : Type 0 where
  with_blank : is_blank b ≡ true → SpellsTags may_come text tags → Begins may_come b text tags
  with_comma : b ≡ comma → SpellsTags true text tags → Begins may_come b text tags
  with_tag : may_come ≡ true → FirstTag (b ∷ text) tags → Begins may_come b text tags

begins : {may_come : Bool} {t : List ℕ} {tags : List (Bool × List ℕ)} → SpellsTags may_come t tags → (b : ℕ) (text : List ℕ) → t ≡ b ∷ text →
    Begins may_come b text tags
begins (ends m) b text e = cc
begins (blank m c t tags is_b spelled) b text e =
    let first : c ≡ b = cc in
    let later : t ≡ text = cc in
    with_blank (ap is_blank (sym first) ∙ is_b) (subst (λ (l : List ℕ). SpellsTags m l tags) later spelled)
begins (separator m t tags spelled) b text e =
    let first : comma ≡ b = cc in
    let later : t ≡ text = cc in
    with_comma (sym first) (subst (λ (l : List ℕ). SpellsTags true l tags) later spelled)
begins (tag weak opaque t tags is_opaque spelled) b text e =
    with_tag refl (record { weak = weak; opaque = opaque; rest = t; later = tags; is_opaque = is_opaque; text_is = sym e; tags_is = refl; spelled = spelled })

pub nothing_left : {may_come : Bool} {t : List ℕ} {tags : List (Bool × List ℕ)} → SpellsTags may_come t tags → t ≡ [] → tags ≡ []
nothing_left (ends m) e = refl
nothing_left (blank m c t tags is_b spelled) e = cc
nothing_left (separator m t tags spelled) e = cc
nothing_left (tag weak opaque t tags is_opaque spelled) e = absurd (some_text weak opaque t e)

-- the first byte of a tag is no blank and no comma
first_byte : (weak : Bool) (opaque rest : List ℕ) → (get_or (tag_text weak opaque ++ rest) 0 0 ≡ 87) ⊎ (get_or (tag_text weak opaque ++ rest) 0 0 ≡ 34)
first_byte true opaque rest = inl refl
first_byte false opaque rest = inr refl

first_plain : (b : ℕ) (text : List ℕ) (weak : Bool) (opaque rest : List ℕ) → b ∷ text ≡ tag_text weak opaque ++ rest → (is_blank b ≡ false) ×
    (eqb b comma ≡ false)
first_plain b text weak opaque rest e =
    let P : ℕ → Type 0 = λ n. (is_blank n ≡ false) × (eqb n comma ≡ false) in
    let same : b ≡ get_or (tag_text weak opaque ++ rest) 0 0 = ap (λ (l : List ℕ). get_or l 0 0) e in
    elim (first_byte weak opaque rest) [
      | inl w ↦ subst P (sym (same ∙ w)) (refl, refl)
      | inr q ↦ subst P (sym (same ∙ q)) (refl, refl)
    ]

after_blank_by : {may_come : Bool} {b : ℕ} {text : List ℕ} {tags : List (Bool × List ℕ)} → is_blank b ≡ true → Begins may_come b text tags →
    SpellsTags may_come text tags
after_blank_by is_b (with_blank h spelled) = spelled
after_blank_by is_b (with_comma h spelled) = absurd (both_ways (is_blank comma) refl (ap is_blank (sym h) ∙ is_b))
after_blank_by {b = b} {text = text} is_b (with_tag h f) = absurd (both_ways (is_blank b) (first_plain b text f.weak f.opaque f.rest f.text_is).0 is_b)

pub after_blank : (may_come : Bool) (b : ℕ) (text : List ℕ) (tags : List (Bool × List ℕ)) → is_blank b ≡ true → SpellsTags may_come (b ∷ text) tags →
    SpellsTags may_come text tags
after_blank may_come b text tags is_b spelled = after_blank_by is_b (begins spelled b text refl)

after_comma_by : {may_come : Bool} {b : ℕ} {text : List ℕ} {tags : List (Bool × List ℕ)} → b ≡ comma → Begins may_come b text tags → SpellsTags true text tags
after_comma_by is_c (with_blank h spelled) = absurd (both_ways (is_blank comma) refl (ap is_blank (sym is_c) ∙ h))
after_comma_by is_c (with_comma h spelled) = spelled
after_comma_by {b = b} {text = text} is_c (with_tag h f) =
    absurd (both_ways (eqb b comma) (first_plain b text f.weak f.opaque f.rest f.text_is).1 (ap (λ (n : ℕ). eqb n comma) is_c))

pub after_comma : (may_come : Bool) (b : ℕ) (text : List ℕ) (tags : List (Bool × List ℕ)) → b ≡ comma → SpellsTags may_come (b ∷ text) tags →
    SpellsTags true text tags
after_comma may_come b text tags is_c spelled = after_comma_by is_c (begins spelled b text refl)

at_tag_by : {may_come : Bool} {b : ℕ} {text : List ℕ} {tags : List (Bool × List ℕ)} → is_blank b ≡ false → b ≢ comma → Begins may_come b text tags →
    (may_come ≡ true) × FirstTag (b ∷ text) tags
at_tag_by {b = b} no_b no_c (with_blank h spelled) = absurd (both_ways (is_blank b) no_b h)
at_tag_by no_b no_c (with_comma h spelled) = absurd (no_c h)
at_tag_by no_b no_c (with_tag h f) = (h, f)

-- a byte that is neither a blank nor a comma begins a tag, where one may come
pub at_tag : (may_come : Bool) (b : ℕ) (text : List ℕ) (tags : List (Bool × List ℕ)) → is_blank b ≡ false → b ≢ comma →
    SpellsTags may_come (b ∷ text) tags → (may_come ≡ true) × FirstTag (b ∷ text) tags
at_tag may_come b text tags no_b no_c spelled = at_tag_by no_b no_c (begins spelled b text refl)

-- the steps of a reader
pub read_start : (text : List ℕ) → IsReadUpTo text [] true text
read_start text = record { up = λ tags spelled. spelled; down = λ all spelled. (all, spelled, refl); before = []; place = refl }

-- one more byte is read
one_more : (text before rest : List ℕ) (b : ℕ) (after : List ℕ) → rest ≡ b ∷ after → text ≡ before ++ rest → text ≡ (before ++ b ∷ []) ++ after
one_more text before rest b after e place = place ∙ ap (λ (l : List ℕ). before ++ l) e ∙ sym (append_assoc before (b ∷ []) after)

pub read_blank : (text : List ℕ) (read : List (Bool × List ℕ)) (may_come : Bool) (rest : List ℕ) (b : ℕ) (after : List ℕ) → rest ≡ b ∷ after → is_blank b ≡ true
    → IsReadUpTo text read may_come rest → IsReadUpTo text read may_come after
read_blank text read may_come rest b after e is_b so_far = record {
  up = λ tags spelled. so_far.up tags (subst (λ (l : List ℕ). SpellsTags may_come l tags) (sym e) (blank may_come b after tags is_b spelled));
  down = λ all spelled.
      let d = so_far.down all spelled in
      (d.0, after_blank may_come b after d.0 is_b (subst (λ (l : List ℕ). SpellsTags may_come l d.0) e d.1), d.2);
  before = so_far.before ++ b ∷ [];
  place = one_more text so_far.before rest b after e so_far.place;
}

pub read_comma : (text : List ℕ) (read : List (Bool × List ℕ)) (may_come : Bool) (rest : List ℕ) (b : ℕ) (after : List ℕ) → rest ≡ b ∷ after → b ≡ comma
    → IsReadUpTo text read may_come rest → IsReadUpTo text read true after
read_comma text read may_come rest b after e is_c so_far = record {
  up = λ tags spelled. so_far.up tags
      (subst (λ (l : List ℕ). SpellsTags may_come l tags) (sym (e ∙ ap (λ (n : ℕ). n ∷ after) is_c)) (separator may_come after tags spelled));
  down = λ all spelled.
      let d = so_far.down all spelled in
      (d.0, after_comma may_come b after d.0 is_c (subst (λ (l : List ℕ). SpellsTags may_come l d.0) e d.1), d.2);
  before = so_far.before ++ b ∷ [];
  place = one_more text so_far.before rest b after e so_far.place;
}

-- the one tag that the text begins with
pub one_first : (text : List ℕ) (weak : Bool) (opaque rest : List ℕ) (tags : List (Bool × List ℕ)) → IsOpaque opaque → text ≡ tag_text weak opaque ++ rest
    → FirstTag text tags → (later : List (Bool × List ℕ)) × SpellsTags false rest later × (tags ≡ (weak, opaque) ∷ later)
one_first text weak opaque rest tags is_opaque text_is f =
    let one = tag_unique f.weak weak f.opaque opaque f.rest rest f.is_opaque is_opaque (sym f.text_is ∙ text_is) in (
      f.later,
      subst (λ (l : List ℕ). SpellsTags false l f.later) one.2 f.spelled,
      f.tags_is ∙ ap (λ (w : Bool). (w, f.opaque) ∷ f.later) one.0 ∙ ap (λ (o : List ℕ). (weak, o) ∷ f.later) one.1,
    )

pub read_tag : (text : List ℕ) (read : List (Bool × List ℕ)) (rest : List ℕ) (b : ℕ) (after : List ℕ) (weak : Bool) (opaque left : List ℕ)
    → rest ≡ b ∷ after → is_blank b ≡ false → b ≢ comma → IsOpaque opaque → rest ≡ tag_text weak opaque ++ left
    → IsReadUpTo text read true rest → IsReadUpTo text (read ++ (weak, opaque) ∷ []) false left
read_tag text read rest b after weak opaque left e no_b no_c is_opaque rest_is so_far = record {
  up = λ tags spelled.
      subst (SpellsTags true text) (sym (append_assoc read ((weak, opaque) ∷ []) tags))
      (so_far.up ((weak, opaque) ∷ tags)
      (subst (λ (l : List ℕ). SpellsTags true l ((weak, opaque) ∷ tags)) (sym rest_is) (tag weak opaque left tags is_opaque spelled)));
  down = λ all spelled.
      let d = so_far.down all spelled in
      let f = at_tag true b after d.0 no_b no_c (subst (λ (l : List ℕ). SpellsTags true l d.0) e d.1) in
      let g = one_first (b ∷ after) weak opaque left d.0 is_opaque (sym e ∙ rest_is) f.1 in
      (g.0, g.1, d.2 ∙ ap (λ (l : List (Bool × List ℕ)). read ++ l) g.2 ∙ sym (append_assoc read ((weak, opaque) ∷ []) g.0));
  before = so_far.before ++ tag_text weak opaque;
  place = so_far.place ∙ ap (λ (l : List ℕ). so_far.before ++ l) rest_is ∙ sym (append_assoc so_far.before (tag_text weak opaque) left);
}

-- the whole text is read
pub read_end : (text : List ℕ) (read : List (Bool × List ℕ)) (may_come : Bool) → IsReadUpTo text read may_come []
    → SpellsTags true text read × ((all : List (Bool × List ℕ)) → SpellsTags true text all → read ≡ all)
read_end text read may_come so_far = (
  subst (SpellsTags true text) (append-nil read) (so_far.up [] (ends may_come)),
  λ all spelled.
      let d = so_far.down all spelled in
      sym (append-nil read) ∙ ap (λ (l : List (Bool × List ℕ)). read ++ l) (sym (nothing_left d.1 refl)) ∙ sym d.2,
)

pub all_read : (text : List ℕ) (read : List (Bool × List ℕ)) (may_come : Bool) (rest : List ℕ) → length rest ≡ 0 → IsReadUpTo text read may_come rest
    → SpellsTags true text read × ((all : List (Bool × List ℕ)) → SpellsTags true text all → read ≡ all)
all_read text read may_come rest none so_far = read_end text read may_come (subst (IsReadUpTo text read may_come) (nil_from_length rest none) so_far)
