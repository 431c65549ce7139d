-- A text has one cut, and calls of `next_item` give its elements.
use Rattle.std.{proofs.{Common.{arith, ◌≡◌, ℕ, true, false, List, [], ◌∷◌, ◌++◌, map, drop, refl, sym, ap, ◌∙◌, subst, inl, inr}, lemmas.Bool.{cases_Bool, eqb-true, cond-false, cond-true, false≢true, Decides.{nat_tests}}}, specs.List.{join_with_byte}}
use Rattle.hc_text.specs.{declared.list.Item.{Item}, Elements.{comma, Place, Outside, after, separates, begin_with, cut_pieces, place_after, NoneSeparates, ArePieces, elements}, Items.{AreItemsFrom, item_bytes}}

pub items_are_elements : (text : List ℕ) (from : ℕ) (items : List Item) → AreItemsFrom text from items → map (item_bytes text) items ≡ elements (drop from text)
items_are_elements text from [] h = sym h
items_are_elements text from (item ∷ items) h = ap (λ (es : List (List ℕ)). item_bytes text item ∷ es) (items_are_elements text item.next items h.1) ∙
    sym h.0.element

join-begin : (b : ℕ) (pieces : List (List ℕ)) → join_with_byte comma (begin_with (b ∷ []) pieces) ≡ b ∷ join_with_byte comma pieces
join-begin b [] = refl
join-begin b (piece ∷ []) = refl
join-begin b (piece ∷ next ∷ pieces) = refl

-- there is a first piece
IsSomeList : List (List ℕ) → Type 0
IsSomeList pieces = (piece : List ℕ) × (rest : List (List ℕ)) × (pieces ≡ piece ∷ rest)

some-begin : (b : ℕ) (pieces : List (List ℕ)) → IsSomeList (begin_with (b ∷ []) pieces)
unfolding IsSomeList
some-begin b [] = (b ∷ [], [], refl)
some-begin b (piece ∷ pieces) = (b ∷ piece, pieces, refl)

cut_separated : (place : Place) (b : ℕ) (text : List ℕ) → separates place b ≡ true → cut_pieces place (b ∷ text) ≡ [] ∷ cut_pieces Outside text
cut_separated place b text h = cond-true (separates place b) ([] ∷ cut_pieces Outside text) (begin_with (b ∷ []) (cut_pieces (after place b) text)) h

cut_joined_byte : (place : Place) (b : ℕ) (text : List ℕ) → separates place b ≡ false →
    cut_pieces place (b ∷ text) ≡ begin_with (b ∷ []) (cut_pieces (after place b) text)
cut_joined_byte place b text h = cond-false (separates place b) ([] ∷ cut_pieces Outside text) (begin_with (b ∷ []) (cut_pieces (after place b) text)) h

some-cut : (place : Place) (text : List ℕ) → IsSomeList (cut_pieces place text)
unfolding IsSomeList
some-cut place [] = ([], [], refl)
some-cut place (b ∷ text) =
    elim (cases_Bool (separates place b)) [
      | inl parts ↦ ([], cut_pieces Outside text, cut_separated place b text parts)
      | inr joins ↦ subst IsSomeList (sym (cut_joined_byte place b text joins)) (some-begin b (cut_pieces (after place b) text))
    ]

-- the byte that separates is a comma, outside quoted strings
separator : (place : Place) (b : ℕ) → separates place b ≡ true → b ≡ comma
separator Outside b h = eqb-true b comma h
separator _ b h = absurd (false≢true h)

separator_place : (place : Place) (b : ℕ) → separates place b ≡ true → place ≡ Outside
separator_place Outside b h = refl
separator_place _ b h = absurd (false≢true h)

join-empty : (pieces : List (List ℕ)) → IsSomeList pieces → join_with_byte comma ([] ∷ pieces) ≡ comma ∷ join_with_byte comma pieces
unfolding IsSomeList
join-empty pieces some = cc

pub join-cut : (place : Place) (text : List ℕ) → join_with_byte comma (cut_pieces place text) ≡ text
join-cut place [] = refl
join-cut place (b ∷ text) =
    elim (cases_Bool (separates place b)) [
      | inl parts ↦
          ap (join_with_byte comma) (cut_separated place b text parts) ∙ join-empty (cut_pieces Outside text) (some-cut Outside text)
          ∙ ap (λ (t : List ℕ). comma ∷ t) (join-cut Outside text) ∙ ap (λ (c : ℕ). c ∷ text) (sym (separator place b parts))
      | inr joins ↦
          ap (join_with_byte comma) (cut_joined_byte place b text joins) ∙ join-begin b (cut_pieces (after place b) text)
          ∙ ap (λ (t : List ℕ). b ∷ t) (join-cut (after place b) text)
    ]

pieces-empty : (place : Place) (pieces : List (List ℕ)) → place ≡ Outside → ArePieces Outside pieces → ArePieces place ([] ∷ pieces)
pieces-empty place pieces outside h = grind (arith, nat_tests)

pieces-begin : (place : Place) (b : ℕ) (pieces : List (List ℕ)) → separates place b ≡ false → ArePieces (after place b) pieces →
    ArePieces place (begin_with (b ∷ []) pieces)
pieces-begin place b pieces joins h = grind (arith, nat_tests)

pub pieces-cut : (place : Place) (text : List ℕ) → ArePieces place (cut_pieces place text)
pieces-cut place [] = tt
pieces-cut place (b ∷ text) =
    elim (cases_Bool (separates place b)) [
      | inl parts ↦ subst (ArePieces place) (sym (cut_separated place b text parts))
          (pieces-empty place (cut_pieces Outside text) (separator_place place b parts) (pieces-cut Outside text))
      | inr joins ↦ subst (ArePieces place) (sym (cut_joined_byte place b text joins))
          (pieces-begin place b (cut_pieces (after place b) text) joins (pieces-cut (after place b) text))
    ]

cut_last : (place : Place) (piece : List ℕ) → NoneSeparates place piece → cut_pieces place piece ≡ piece ∷ []
cut_last place [] h = refl
cut_last place (b ∷ piece) h = cut_joined_byte place b piece h.0 ∙ ap (begin_with (b ∷ [])) (cut_last (after place b) piece h.1)

cut_first : (place : Place) (piece text : List ℕ) → NoneSeparates place piece → place_after place piece ≡ Outside →
    cut_pieces place (piece ++ comma ∷ text) ≡ piece ∷ cut_pieces Outside text
cut_first place [] text h ends = ap (λ (p : Place). cut_pieces p (comma ∷ text)) ends
cut_first place (b ∷ piece) text h ends = cut_joined_byte place b (piece ++ comma ∷ text) h.0 ∙
    ap (begin_with (b ∷ [])) (cut_first (after place b) piece text h.1 ends)

pub cut-join : (place : Place) (pieces : List (List ℕ)) → ArePieces place pieces → cut_pieces place (join_with_byte comma pieces) ≡ pieces
cut-join place [] h = absurd h
cut-join place (piece ∷ []) h = cut_last place piece h
cut-join place (piece ∷ next ∷ pieces) h =
    cut_first place piece (join_with_byte comma (next ∷ pieces)) h.0 h.1 ∙ ap (λ (ps : List (List ℕ)). piece ∷ ps) (cut-join Outside (next ∷ pieces) h.2)

pub only_cut : (text : List ℕ) (pieces : List (List ℕ)) → ArePieces Outside pieces → join_with_byte comma pieces ≡ text → pieces ≡ cut_pieces Outside text
only_cut text pieces h joined = sym (cut-join Outside pieces h) ∙ ap (cut_pieces Outside) joined
