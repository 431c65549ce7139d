-- Which words are a command.
--
-- A command has one word, three or four (`other_count`). The first word tells which command it may be, by its text
-- (`is_replay`, `is_save`). The others must be its numbers and addresses (`is_generation`, `is_origin`, `is_serving`).
-- For each word that isn't what it should be there is a lemma that this is no such command. Three words are none where
-- they are neither a generation nor an origin (`neither`).
use Rattle.std.{proofs.{Common.{◌≡◌, ℕ, ◌<◌, ◌≤◌, List, [], ◌∷◌, length, get_or, Global, true, false, ap, sym, ◌∙◌, subst, arith}, lemmas.{Fmt.{decimal_injective}, Slice.Eq.{bytes_eq-Decides}}}, specs.{Prelude.{codes, bytes_eq}, declared.string.String.{String}}}
use Rattle.hc_text.specs.Numbers.{IsPlain}
use Rattle.hc_app.specs.declared.command.Command.TheVariants as command
use Rattle.hc_wire.specs.declared.event.Address.{Address}
use Rattle.hc_app.specs.{Addresses.{IsAddress}, Commands.{IsCommand, IsNoCommand, IsNoGeneration, IsNoOrigin, replay, save, reopen, conditional, generate, origin, serve}}

-- HOW MANY THERE ARE

pub one_of : (words : List (String Global)) (word : String Global) → length words ≡ 1 → word ≡ get_or words 0 word → word ∷ [] ≡ words
one_of [] word one is = absurd (omega (arith, one))
one_of (first ∷ []) word one is = ap (λ (w : String Global). w ∷ []) is
one_of (first ∷ second ∷ more) word one is = absurd (omega (arith, one))

-- neither one nor three nor four
pub other_count : (words : List (List ℕ)) → (length words ≡ 1 → ⊥) → (length words ≡ 3 → ⊥) → (length words ≡ 4 → ⊥) → IsNoCommand words
other_count words not_one not_three not_four _ (replay is) = not_one (ap length is)
other_count words not_one not_three not_four _ (save is) = not_one (ap length is)
other_count words not_one not_three not_four _ (reopen is) = not_one (ap length is)
other_count words not_one not_three not_four _ (conditional is) = not_one (ap length is)
other_count words not_one not_three not_four _ (generate first second seed count is first_is second_is few) = not_three (ap length is)
other_count words not_one not_three not_four _ (origin first second listen turns is first_is second_is) = not_three (ap length is)
other_count words not_one not_three not_four _ (serve first second third listen from turns is first_is second_is third_is) = not_four (ap length is)

-- BY THEIR TEXT

pub same_text : (a : List ℕ) (b : List ℕ) → bytes_eq a b ≡ true → a ≡ b
same_text a b is = (bytes_eq-Decides a b).0 is

pub other_text : (a : List ℕ) (b : List ℕ) → bytes_eq a b ≡ false → a ≡ b → ⊥
other_text a b is same = let never : false ≡ true = sym is ∙ (bytes_eq-Decides a b).1 same in cc

head_of : (a b : List ℕ) (xs ys : List (List ℕ)) → a ∷ xs ≡ b ∷ ys → a ≡ b
head_of a b xs ys is = cc

second_of : (a b c d : List ℕ) (xs ys : List (List ℕ)) → a ∷ c ∷ xs ≡ b ∷ d ∷ ys → c ≡ d
second_of a b c d xs ys is = cc

third_of : (a b c d e f : List ℕ) (xs ys : List (List ℕ)) → a ∷ c ∷ e ∷ xs ≡ b ∷ d ∷ f ∷ ys → e ≡ f
third_of a b c d e f xs ys is = cc

pub is_replay : (word : List ℕ) → bytes_eq word (codes "replay") ≡ true → IsCommand (word ∷ []) command.Replay
is_replay word is = replay (ap (λ (w : List ℕ). w ∷ []) (same_text word (codes "replay") is))

pub is_save : (word : List ℕ) → bytes_eq word (codes "save") ≡ true → IsCommand (word ∷ []) command.Save
is_save word is = save (ap (λ (w : List ℕ). w ∷ []) (same_text word (codes "save") is))

pub is_open : (word : List ℕ) → bytes_eq word (codes "open") ≡ true → IsCommand (word ∷ []) command.Open
is_open word is = reopen (ap (λ (w : List ℕ). w ∷ []) (same_text word (codes "open") is))

pub is_conditional : (word : List ℕ) → bytes_eq word (codes "conditional") ≡ true → IsCommand (word ∷ []) command.Conditional
is_conditional word is = conditional (ap (λ (w : List ℕ). w ∷ []) (same_text word (codes "conditional") is))

module _ (word first second : List ℕ) where
  abbrev words : List (List ℕ)
  words = word ∷ first ∷ second ∷ []

  pub is_generation : (seed count : ℕ) → bytes_eq word (codes "generate") ≡ true → IsPlain first seed → IsPlain second count → count ≤ 1000000 →
      IsCommand words (command.Generate seed count)
  is_generation seed count is first_is second_is few =
      generate first second seed count (ap (λ (w : List ℕ). w ∷ first ∷ second ∷ []) (same_text word (codes "generate") is)) first_is second_is few

  -- what a generation would say
  pub no_generation : ((seed count : ℕ) → word ≡ codes "generate" → IsPlain first seed → IsPlain second count → count ≤ 1000000 → ⊥) → IsNoGeneration words
  no_generation never _ _ (generate one two seed count is one_is two_is few) =
      never seed count (head_of word (codes "generate") (first ∷ second ∷ []) (one ∷ two ∷ []) is)
      (subst (λ (t : List ℕ). IsPlain t seed) (sym (second_of word (codes "generate") first one (second ∷ []) (two ∷ []) is)) one_is)
      (subst (λ (t : List ℕ). IsPlain t count) (sym (third_of word (codes "generate") first one second two [] [] is)) two_is) few

  pub other_word : bytes_eq word (codes "generate") ≡ false → IsNoGeneration words
  other_word off = no_generation (λ seed count is one_is two_is few. other_text word (codes "generate") off is)

  pub too_many : (n : ℕ) → IsPlain second n → 1000000 < n → IsNoGeneration words
  too_many n plain more = no_generation
      (λ seed count is one_is two_is few. let same =
      decimal_injective count n (omega (arith, two_is.0)) (omega (arith, plain.0)) (sym two_is.1 ∙ plain.1) in omega arith)

  pub is_origin : (listen : Address) (turns : ℕ) → bytes_eq word (codes "origin") ≡ true → IsAddress first listen → IsPlain second turns →
      IsCommand words (command.Origin listen turns)
  is_origin listen turns is first_is second_is = origin
      first second listen turns (ap (λ (w : List ℕ). w ∷ first ∷ second ∷ []) (same_text word (codes "origin") is)) first_is second_is

  no_origin : ((listen : Address) (turns : ℕ) → word ≡ codes "origin" → IsAddress first listen → IsPlain second turns → ⊥) → IsNoOrigin words
  no_origin never _ _ (origin one two listen turns is one_is two_is) =
      never listen turns (head_of word (codes "origin") (first ∷ second ∷ []) (one ∷ two ∷ []) is)
      (subst (λ (t : List ℕ). IsAddress t listen) (sym (second_of word (codes "origin") first one (second ∷ []) (two ∷ []) is)) one_is)
      (subst (λ (t : List ℕ). IsPlain t turns) (sym (third_of word (codes "origin") first one second two [] [] is)) two_is)

  pub other_origin : bytes_eq word (codes "origin") ≡ false → IsNoOrigin words
  other_origin off = no_origin (λ listen turns is one_is two_is. other_text word (codes "origin") off is)

  pub no_address : ((a : Address) → IsAddress first a → ⊥) → IsNoOrigin words
  no_address none = no_origin (λ listen turns is one_is two_is. none listen one_is)

  pub no_turns : ((n : ℕ) → IsPlain second n → ⊥) → IsNoOrigin words
  no_turns none = no_origin (λ listen turns is one_is two_is. none turns two_is)

  pub neither : IsNoGeneration words → IsNoOrigin words → IsNoCommand words
  neither none other _ (replay is) = absurd (let no : 3 ≡ 1 = ap length is in cc)
  neither none other _ (save is) = absurd (let no : 3 ≡ 1 = ap length is in cc)
  neither none other _ (reopen is) = absurd (let no : 3 ≡ 1 = ap length is in cc)
  neither none other _ (conditional is) = absurd (let no : 3 ≡ 1 = ap length is in cc)
  neither none other _ (generate one two seed count is one_is two_is few) = none seed count (generate one two seed count is one_is two_is few)
  neither none other _ (origin one two listen turns is one_is two_is) = other listen turns (origin one two listen turns is one_is two_is)
  neither none other _ (serve one two three listen from turns is one_is two_is three_is) = absurd (let no : 3 ≡ 4 = ap length is in cc)

fourth_of : (a b c d e f g h : List ℕ) (xs ys : List (List ℕ)) → a ∷ c ∷ e ∷ g ∷ xs ≡ b ∷ d ∷ f ∷ h ∷ ys → g ≡ h
fourth_of a b c d e f g h xs ys is = cc

module _ (word first second third : List ℕ) where
  abbrev four : List (List ℕ)
  four = word ∷ first ∷ second ∷ third ∷ []

  pub is_serving : (listen from : Address) (turns : ℕ) → bytes_eq word (codes "serve") ≡ true → IsAddress first listen → IsAddress second from → IsPlain
      third turns → IsCommand four (command.Serve listen from turns)
  is_serving listen from turns is first_is second_is third_is =
      serve first second third listen from turns (ap (λ (w : List ℕ). w ∷ first ∷ second ∷ third ∷ []) (same_text word (codes "serve") is)) first_is
      second_is third_is

  no_serving : ((listen from : Address) (turns : ℕ) → word ≡ codes "serve" → IsAddress first listen → IsAddress second from → IsPlain third turns → ⊥) →
      IsNoCommand four
  no_serving never _ (replay is) = absurd (let no : 4 ≡ 1 = ap length is in cc)
  no_serving never _ (save is) = absurd (let no : 4 ≡ 1 = ap length is in cc)
  no_serving never _ (reopen is) = absurd (let no : 4 ≡ 1 = ap length is in cc)
  no_serving never _ (conditional is) = absurd (let no : 4 ≡ 1 = ap length is in cc)
  no_serving never _ (generate one two seed count is one_is two_is few) = absurd (let no : 4 ≡ 3 = ap length is in cc)
  no_serving never _ (origin one two listen turns is one_is two_is) = absurd (let no : 4 ≡ 3 = ap length is in cc)
  no_serving never _ (serve one two three listen from turns is one_is two_is three_is) =
      never listen from turns (head_of word (codes "serve") (first ∷ second ∷ third ∷ []) (one ∷ two ∷ three ∷ []) is)
      (subst (λ (t : List ℕ). IsAddress t listen) (sym (second_of word (codes "serve") first one (second ∷ third ∷ []) (two ∷ three ∷ []) is)) one_is)
      (subst (λ (t : List ℕ). IsAddress t from) (sym (third_of word (codes "serve") first one second two (third ∷ []) (three ∷ []) is)) two_is)
      (subst (λ (t : List ℕ). IsPlain t turns) (sym (fourth_of word (codes "serve") first one second two third three [] [] is)) three_is)

  pub other_serving : bytes_eq word (codes "serve") ≡ false → IsNoCommand four
  other_serving off = no_serving (λ listen from turns is one_is two_is three_is. other_text word (codes "serve") off is)

  pub no_listen : ((a : Address) → IsAddress first a → ⊥) → IsNoCommand four
  no_listen none = no_serving (λ listen from turns is one_is two_is three_is. none listen one_is)

  pub no_from : ((a : Address) → IsAddress second a → ⊥) → IsNoCommand four
  no_from none = no_serving (λ listen from turns is one_is two_is three_is. none from two_is)

  pub no_serving_turns : ((n : ℕ) → IsPlain third n → ⊥) → IsNoCommand four
  no_serving_turns none = no_serving (λ listen from turns is one_is two_is three_is. none turns three_is)
