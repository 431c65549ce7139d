-- The grammar of an entity tag (RFC 9110 section 8.8.3).
use Rattle.std.specs.Prelude.{◌≡◌, ◌≢◌, ℕ, ◌==◌, ◌||◌, ◌&&◌, nat_le, Bool, true, false, List, [], ◌∷◌, ◌++◌, codes, if◌then◌else◌}
use Rattle.std.specs.List.{list_all}

abbrev pub quote : ℕ
quote = 34

-- etagc: a visible byte but the quote, or a byte past ASCII
abbrev pub is_etagc : ℕ → Bool
is_etagc b = b == 33 || (nat_le 35 b && nat_le b 126) || (nat_le 128 b && nat_le b 255)

-- what may stand between the quotes
abbrev pub IsOpaque : List ℕ → Type 0
IsOpaque opaque = list_all is_etagc opaque ≡ true

-- opaque-tag, with W/ before it where the tag is weak
abbrev pub tag_text : Bool → List ℕ → List ℕ
tag_text weak opaque = (if weak then codes "W/" else []) ++ (quote ∷ opaque ++ quote ∷ [])

-- the text is the entity tag with this mark and these bytes between its quotes
abbrev pub SpellsTag : List ℕ → Bool → List ℕ → Type 0
SpellsTag text weak opaque = IsOpaque opaque × (text ≡ tag_text weak opaque)

-- the text is an entity tag
abbrev pub IsTag : List ℕ → Type 0
IsTag text = (weak : Bool) × (opaque : List ℕ) × SpellsTag text weak opaque

-- the text is no entity tag
abbrev pub IsNoTag : List ℕ → Type 0
IsNoTag text = (weak : Bool) (opaque : List ℕ) → ¬ (SpellsTag text weak opaque)

-- no other mark and bytes are spelled by the text
abbrev pub SpellsOnly : List ℕ → Bool → List ℕ → Type 0
SpellsOnly text weak opaque = (w : Bool) (o : List ℕ) → SpellsTag text w o → (weak ≡ w) × (opaque ≡ o)

-- the text begins with an entity tag of these bytes between its quotes, and goes on with the rest
abbrev pub IsQuoted : List ℕ → List ℕ → List ℕ → Type 0
IsQuoted text opaque rest = text ≡ (quote ∷ opaque) ++ (quote ∷ rest)

-- the text begins with no quoted bytes of a tag
abbrev pub IsUnquoted : List ℕ → Type 0
IsUnquoted text = (opaque rest : List ℕ) → IsOpaque opaque → text ≢ (quote ∷ opaque) ++ (quote ∷ rest)

-- the text begins with the entity tag of this mark and these bytes, and goes on with the rest
abbrev pub BeginsWith : List ℕ → Bool → List ℕ → List ℕ → Type 0
BeginsWith text weak opaque rest = text ≡ tag_text weak opaque ++ rest

-- the text begins with an entity tag
abbrev pub BeginsTag : List ℕ → Type 0
BeginsTag text = (weak : Bool) × (opaque : List ℕ) × (rest : List ℕ)
    × IsOpaque opaque × BeginsWith text weak opaque rest

-- an entity tag stands in the text
abbrev pub HasTag : List ℕ → Type 0
HasTag text = (before : List ℕ) × (after : List ℕ) × (text ≡ before ++ after) × BeginsTag after

-- the strong comparison (RFC 9110 section 8.8.3.2): neither tag is weak, and their bytes are equal
abbrev pub AreStronglyEqual : Bool → List ℕ → Bool → List ℕ → Type 0
AreStronglyEqual a opaque b other = (a ≡ false) × (b ≡ false) × (opaque ≡ other)
