-- What a cursor takes: a number before a byte, and a block of bytes before a line feed.
use Rattle.std.{proofs.{Common.{◌≡◌, ◌≢◌, ℕ, ◌<◌, ◌≤◌, true, List, [], ◌∷◌, ◌++◌, length, drop, Option, Some, None, sym, ap, ◌∙◌}, lemmas.List.{append_assoc, drop_at}}, specs.{Prelude.{IfSome, IfNone}, Fmt.{decimal}}}
use Rattle.hc_text.specs.{Numbers.{IsPlain}, Texts.{IsSmall, lacks}}
use Rattle.hc_text.proofs.Cuts.{cut_once, lacks-decimal}
use Rattle.hc_record.specs.{Lines.{number_and_end}, Reading.{Takes}}

pub number_taken : (e : ℕ) (old new text : List ℕ) (read : Option ℕ) → e < 48 → lacks e text ≡ true → text ++ e ∷ new ≡ old → IfSome read (IsPlain text) →
    IfNone read ((n : ℕ) → ¬ (IsPlain text n)) → Takes (number_and_end e) IsSmall old new read
number_taken e old new text None below lacking is found none = λ n after small same.
    let cut = cut_once e (decimal n) after text new (lacks-decimal e n below small) lacking (sym (append_assoc (decimal n) (e ∷ []) after) ∙ (same ∙ sym is)) in
    none n (small, sym cut.0)
number_taken e old new text (Some n) below lacking is found none =
    (found.0, append_assoc (decimal n) (e ∷ []) new ∙ (ap (λ (l : List ℕ). l ++ e ∷ new) (sym found.1) ∙ is))

-- a text in which another byte, or none, stands behind so many
pub no_end : (count : ℕ) (text bytes after : List ℕ) → length bytes ≡ count → bytes ++ 10 ∷ after ≡ text → drop count text ≡ 10 ∷ after
no_end count text bytes after len same = ap (drop count) (sym same) ∙ drop_at bytes (10 ∷ after) count len
