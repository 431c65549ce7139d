use Rattle.std.{proofs.{Common.{rules, arith, ◌≡◌, ◌<◌, ◌≤◌, List, length, map, true, false, ap, sym, ◌∙◌}, lemmas.List.{length-map}}, specs.Prelude.{nat_le}}
use Rattle.hc_model.specs.Beginnings.{weights_of}
use Rattle.hc_contents.specs.declared.contents.Content as coded
use Rattle.hc_contents.specs.PlainContents.{plain_contents, plain_item}
use Rattle.hc_contents.proofs.Counting.{bad_item, bad_number, too_heavy, all_fit, begins_by}
use Rattle.hc_contents.proofs.unfit.why_unfit.Goals as goal

pub returns-then-good-items : goal.returns-then-good-items
returns-then-good-items c =
    let count : length (map plain_item c.args.contents.now.items) ≡ length c.args.contents.now.items = length-map c.args.contents.now.items plain_item in
    let same : length c.as_slice-items.result.now ≡ length c.args.contents.now.items = ap length c.as_slice-items.ensures in
    let less = c.if-good-items.true in
    let lt : c.in_ok-good.good < length (map plain_item c.args.contents.now.items) = omega (arith, less) in
    let why = bad_item c.args.limits (plain_contents c.args.contents.now) c.in_ok-good.good c.in_ok-good.ensures lt in
    record { why = why; begins = begins_by c.args.limits (plain_contents c.args.contents.now) _ why }

pub returns-then-not-has_good_numbers : goal.returns-then-not-has_good_numbers
returns-then-not-has_good_numbers c =
    let count : length (map plain_item c.args.contents.now.items) ≡ length c.args.contents.now.items = length-map c.args.contents.now.items plain_item in
    let same : length c.as_slice-items.result.now ≡ length c.args.contents.now.items = ap length c.as_slice-items.ensures in
    let more = c.if-good-items.false in
    let all : length (map plain_item c.args.contents.now.items) ≤ c.in_ok-good.good = omega (arith, more) in
    let off : c.has_good_numbers.result ≡ false = first_of (search (rules, c.if-not-has_good_numbers.true), grind (arith, c.if-not-has_good_numbers.true)) in
    let why = bad_number c.args.limits (plain_contents c.args.contents.now) c.in_ok-good.good c.in_ok-good.ensures all (sym off ∙ c.has_good_numbers.ensures) in
    record { why = why; begins = begins_by c.args.limits (plain_contents c.args.contents.now) _ why }

pub returns-then-not-fits : goal.returns-then-not-fits
returns-then-not-fits c =
    let count : length (map plain_item c.args.contents.now.items) ≡ length c.args.contents.now.items = length-map c.args.contents.now.items plain_item in
    let same : length c.as_slice-items.result.now ≡ length c.args.contents.now.items = ap length c.as_slice-items.ensures in
    let more = c.if-good-items.false in
    let all : length (map plain_item c.args.contents.now.items) ≤ c.in_ok-good.good = omega (arith, more) in
    let on : c.has_good_numbers.result ≡ true = first_of (search (rules, c.if-not-has_good_numbers.false), grind (arith, c.if-not-has_good_numbers.false)) in
    let off : c.fits.result ≡ false = first_of (search (rules, c.if-not-fits.true), grind (arith, c.if-not-fits.true)) in
    let heavy : c.fits.result ≡ nat_le (weights_of (map plain_item c.args.contents.now.items)) c.args.limits.max_total = c.fits.ensures ∙
    ap (λ (zs : List coded.Content). nat_le (weights_of (map plain_item zs)) c.args.limits.max_total) c.as_slice-items.ensures in
    let why = too_heavy c.args.limits (plain_contents c.args.contents.now) c.in_ok-good.good c.in_ok-good.ensures all
    (sym on ∙ c.has_good_numbers.ensures) (sym off ∙ heavy) in
    record { why = why; begins = begins_by c.args.limits (plain_contents c.args.contents.now) _ why }

pub returns : goal.returns
returns c =
    let count : length (map plain_item c.args.contents.now.items) ≡ length c.args.contents.now.items = length-map c.args.contents.now.items plain_item in
    let same : length c.as_slice-items.result.now ≡ length c.args.contents.now.items = ap length c.as_slice-items.ensures in
    let more = c.if-good-items.false in
    let all : length (map plain_item c.args.contents.now.items) ≤ c.in_ok-good.good = omega (arith, more) in
    let on : c.has_good_numbers.result ≡ true = first_of (search (rules, c.if-not-has_good_numbers.false), grind (arith, c.if-not-has_good_numbers.false)) in
    let fit : c.fits.result ≡ true = first_of (search (rules, c.if-not-fits.false), grind (arith, c.if-not-fits.false)) in
    let light : c.fits.result ≡ nat_le (weights_of (map plain_item c.args.contents.now.items)) c.args.limits.max_total = c.fits.ensures ∙
    ap (λ (zs : List coded.Content). nat_le (weights_of (map plain_item zs)) c.args.limits.max_total) c.as_slice-items.ensures in
    let why = all_fit c.args.limits (plain_contents c.args.contents.now) c.in_ok-good.good c.in_ok-good.ensures all (sym on ∙ c.has_good_numbers.ensures)
    (sym fit ∙ light) in
    record { why = why; begins = begins_by c.args.limits (plain_contents c.args.contents.now) _ why }
