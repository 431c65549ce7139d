-- Targets and texts that are none.
use Rattle.std.{proofs.{Common.{◌≡◌, ℕ, Bool, true, false, List, refl, sym, ap, ◌∙◌, ◌&&◌}, lemmas.{Bool.{and_parts, false_from_ne_true}, Str.{IsUtf8-from_is_utf8, is_utf8-from_IsUtf8}}}, specs.{Prelude.{IsUtf8, None, Ok}, Str.{is_utf8}}}
use Rattle.url.specs.{Parser.{Parsed, parse_url}, Parts.{Parts}}
use Rattle.hc_target.specs.Targets.{is_target, is_short_word, gives_text, has_own_text}

pub is_target-not_utf8 : (text : List ℕ) → ¬ (IsUtf8 text) → is_target text ≡ false
unfolding is_target
is_target-not_utf8 text h =
    false_from_ne_true _ (λ e.
    let outer = and_parts (is_short_word text && is_utf8 text) (gives_text (parse_url None text) text) e in
    let inner = and_parts (is_short_word text) (is_utf8 text) outer.0 in
    h (IsUtf8-from_is_utf8 text inner.1))

pub is_target-is : (text : List ℕ) → is_short_word text ≡ true → IsUtf8 text → is_target text ≡ gives_text (parse_url None text) text
unfolding is_target
is_target-is text word utf8 = rw (word, is_utf8-from_IsUtf8 text utf8) refl

-- what the URL says decides
pub is_target-own : (text own : List ℕ) (url : Parts) (is : Bool) → is_short_word text ≡ true → own ≡ text → IsUtf8 text → parse_url None own ≡ Ok url
    → is ≡ has_own_text url own → is ≡ is_target text
is_target-own text own url is word same utf8 read reported =
    let parsed : parse_url None text ≡ Ok url = rw same at read in
    reported ∙ (ap (λ (t : List ℕ). has_own_text url t) same ∙ sym (is_target-is text word utf8 ∙ ap (λ (r : Parsed Parts). gives_text r text) parsed))
