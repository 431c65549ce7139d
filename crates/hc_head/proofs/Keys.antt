-- The key of a text: what the URL Standard reads it as.
use Rattle.std.{proofs.{lemmas.{Bool.{false_from_ne_true, Decides.{nat_tests}}, Str.{IsUtf8-from_is_utf8, is_utf8-from_IsUtf8}}, Common.{arith, ◌≡◌, ℕ, true, List, refl, sym, ap, ◌∙◌}}, specs.{Prelude.{◌⊎◌, IfOk, Result, Option, Some, None, Ok, Err, IsUtf8, is_none}, Str.{is_utf8}}}
use Rattle.url.specs.{Parts.{Parts, IsValid}, declared.error.ParseError.{ParseError, TheVariants.{OutOfMemory, Overflow}}, Parser.{Parsed, parse_url, with_tail}, Setters.{set_fragment}}
use Rattle.url.proofs.ValidLemmas.{with_own_tail}
use Rattle.hc_text.specs.declared.memory.NoMemory.{NoMemory}
use Rattle.hc_rules.proofs.RangeReads.{same_bytes}
use Rattle.hc_target.specs.Targets.{is_target, has_own_text, ReadsTarget}
use Rattle.hc_head.specs.Requests.{own_key, key_in, key_of}

none_of : (o : Option (List ℕ)) → is_none o ≡ true → o ≡ None
none_of o h = grind (arith, nat_tests)

-- a valid URL without a fragment is left as it is
same_url : (url : Parts) → IsValid url → url.fragment ≡ None → set_fragment url None ≡ url
same_url url valid h = ap (λ (f : Option (List ℕ)). with_tail url url.query f) (sym h) ∙ with_own_tail url valid

own_is : (url : Parts) (text : List ℕ) → IsValid url → has_own_text url text ≡ true → is_target text ≡ true → own_key (set_fragment url None) ≡ Some text
own_is url text valid h target = search (arith, same_bytes, same_url, none_of)

-- a target is its own key
target_utf8 : (text : List ℕ) → is_target text ≡ true → is_utf8 text ≡ true
unfolding is_target
target_utf8 text h = grind (arith, nat_tests)

pub target_key : (text : List ℕ) → is_target text ≡ true → ReadsTarget text → key_of text ≡ Some text
unfolding key_of
target_key text h reads = rw (target_utf8 text h) (ap key_in reads.1 ∙ own_is reads.0 text reads.2 reads.3 h)

pub no_text_key : (text : List ℕ) → ¬ (IsUtf8 text) → key_of text ≡ None
unfolding key_of
no_text_key text h = rw (false_from_ne_true (is_utf8 text) (λ e. h (IsUtf8-from_is_utf8 text e))) refl

pub read_key_is : (text own : List ℕ) (read : Parsed Parts) → own ≡ text → IsUtf8 text → parse_url None own ≡ read → key_of text ≡ key_in read
unfolding key_of
read_key_is text own read same utf8 is =
    rw (is_utf8-from_IsUtf8 text utf8) (ap (λ (t : List ℕ). key_in (parse_url None t)) (sym same) ∙ ap key_in is)

pub key_given : (result : Result (Option (List ℕ)) NoMemory) (text : List ℕ) (url : Parts) → IfOk result (λ key. key ≡ own_key url) →
    key_of text ≡ own_key url → IfOk result (λ key. key ≡ key_of text)
key_given result text url h same = grind (arith, nat_tests)

pub target_text : (text : List ℕ) → is_target text ≡ true → IsUtf8 text
target_text text h = IsUtf8-from_is_utf8 text (target_utf8 text h)

-- a target is read
pub target_reads : (text own : List ℕ) (e : ParseError) → is_target text ≡ true → own ≡ text → parse_url None own ≡ Err e → ⊥
unfolding is_target
target_reads text own e h same fails = grind (arith, nat_tests)

pub same_read : (read : Parsed Parts) (a b : Parts) → read ≡ Ok a → read ≡ Ok b → a ≡ b
same_read read a b x y = cc

pub target_faults : (text own : List ℕ) (e : ParseError) → is_target text ≡ true → own ≡ text
    → (parse_url None own ≡ Err e) ⊎ (e ≡ OutOfMemory) ⊎ (e ≡ Overflow) → ¬ (e ≡ OutOfMemory) → ¬ (e ≡ Overflow) → ⊥
target_faults text own e h same it5 a b = search (arith, target_reads)
