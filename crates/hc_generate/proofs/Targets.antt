-- The keys are targets.
use Rattle.std.{proofs.{Common.{◌≡◌, ℕ, suc, ◌<◌, Bool, true, refl, arith}, lemmas.Bool.{and_parts}}, specs.{Prelude.{◌&&◌}, Fmt.{digits}}}
use Rattle.hc_text.specs.Texts.{cut, behind}
use Rattle.hc_target.specs.{Targets.{is_target, is_short_word}, PlainTargets.{is_plain_target}}
use Rattle.hc_target.proofs.PlainTargets.{plain_target}
use Rattle.hc_generate.specs.{Draws.{draw_below}, Requests.{key_of, drawn_request}}
use Rattle.hc_generate.proofs.LimitsKept.{drawn_below}

-- a target that needs no reading
abbrev is_plain : ℕ → Bool
is_plain i = is_short_word (key_of i) && is_plain_target (key_of i)

each_is_plain : (i : ℕ) → i < 8 → is_plain i ≡ true
unfolding is_short_word is_plain_target cut behind digits
each_is_plain (suc (suc (suc (suc (suc (suc (suc (suc i)))))))) lt = absurd (let less : suc (suc (suc (suc (suc (suc (suc (suc i))))))) < 8 = lt in omega arith)
each_is_plain _ lt = refl

pub key_is_target : (i : ℕ) → i < 8 → is_target (key_of i) ≡ true
key_is_target i lt =
    let both = and_parts (is_short_word (key_of i)) (is_plain_target (key_of i)) (each_is_plain i lt) in
    (plain_target (key_of i) both.0 both.1).0

pub request_is_for_target : (s : ℕ) → is_target (drawn_request s).key ≡ true
request_is_for_target s = key_is_target (draw_below 8 s) (drawn_below 8 s (omega arith))
