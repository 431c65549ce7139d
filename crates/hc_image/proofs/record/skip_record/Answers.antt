use Rattle.std.proofs.Common.{sym}
use Rattle.hc_image.proofs.Skipped.{no_seal, after_version, after_seal}
use Rattle.hc_image.proofs.record.skip_record.Goals as goal

pub returns-in_err-_seal : goal.returns-in_err-_seal
returns-in_err-_seal c = rw c.from_residual-in_err-_seal.ensures (λ v head after own same.
    let line = c.in_ok-version.ensures in
    no_seal v head after c.args.rest.now own same c.in_ok-version.version.now c.take_to.new.self line.0 line.1 c.in_err-_seal.ensures)

pub returns-in_err-counts : goal.returns-in_err-counts
returns-in_err-counts c = rw c.from_residual-in_err-counts.ensures (λ v head after own same.
    let line = c.in_ok-version.ensures in
    let seal = c.in_ok-_seal.ensures in
    let n = after_seal v head after c.args.rest.now own same c.in_ok-version.version.now c.take_to.new.self line.0 line.1 c.in_ok-_seal._seal.now
    c.take_to-2.new.self seal.0 seal.1 in
    c.in_err-counts.ensures head _ own n)

pub returns-in_err-skip_tag : goal.returns-in_err-skip_tag
returns-in_err-skip_tag c = rw c.from_residual-in_err-skip_tag.ensures (λ v head after own same.
    let line = c.in_ok-version.ensures in
    let seal = c.in_ok-_seal.ensures in
    let n = after_seal v head after c.args.rest.now own same c.in_ok-version.version.now c.take_to.new.self line.0 line.1 c.in_ok-_seal._seal.now
    c.take_to-2.new.self seal.0 seal.1 in
    let text = sym (after_version v head after c.args.rest.now own same c.in_ok-version.version.now c.take_to.new.self line.0 line.1).0 in
    let counts = c.in_ok-counts.ensures head _ own n in
    c.in_err-skip_tag.ensures v head _ own text (sym counts.1))

pub returns-in_err-skip_fields : goal.returns-in_err-skip_fields
returns-in_err-skip_fields c = rw c.from_residual-in_err-skip_fields.ensures (λ v head after own same.
    let line = c.in_ok-version.ensures in
    let seal = c.in_ok-_seal.ensures in
    let n = after_seal v head after c.args.rest.now own same c.in_ok-version.version.now c.take_to.new.self line.0 line.1 c.in_ok-_seal._seal.now
    c.take_to-2.new.self seal.0 seal.1 in
    let text = sym (after_version v head after c.args.rest.now own same c.in_ok-version.version.now c.take_to.new.self line.0 line.1).0 in
    let counts = c.in_ok-counts.ensures head _ own n in
    let tag = c.in_ok-skip_tag.ensures v head _ own text (sym counts.1) in
    c.in_err-skip_fields.ensures head.vary_fields _ (record { list = own.vary_list; count_is = sym counts.0.vary }) (sym tag))

pub returns-in_err-skip_fields-2 : goal.returns-in_err-skip_fields-2
returns-in_err-skip_fields-2 c = rw c.from_residual-in_err-skip_fields-2.ensures (λ v head after own same.
    let line = c.in_ok-version.ensures in
    let seal = c.in_ok-_seal.ensures in
    let n = after_seal v head after c.args.rest.now own same c.in_ok-version.version.now c.take_to.new.self line.0 line.1 c.in_ok-_seal._seal.now
    c.take_to-2.new.self seal.0 seal.1 in
    let text = sym (after_version v head after c.args.rest.now own same c.in_ok-version.version.now c.take_to.new.self line.0 line.1).0 in
    let counts = c.in_ok-counts.ensures head _ own n in
    let tag = c.in_ok-skip_tag.ensures v head _ own text (sym counts.1) in
    let vary = c.in_ok-skip_fields.ensures head.vary_fields _ (record { list = own.vary_list; count_is = sym counts.0.vary }) (sym tag) in
    c.in_err-skip_fields-2.ensures head.fields after (record { list = own.list; count_is = sym counts.0.fields }) (sym vary))

pub returns : goal.returns
returns c = λ v head after own same.
    let line = c.in_ok-version.ensures in
    let seal = c.in_ok-_seal.ensures in
    let n = after_seal v head after c.args.rest.now own same c.in_ok-version.version.now c.take_to.new.self line.0 line.1 c.in_ok-_seal._seal.now
    c.take_to-2.new.self seal.0 seal.1 in
    let text = sym (after_version v head after c.args.rest.now own same c.in_ok-version.version.now c.take_to.new.self line.0 line.1).0 in
    let counts = c.in_ok-counts.ensures head _ own n in
    let tag = c.in_ok-skip_tag.ensures v head _ own text (sym counts.1) in
    let vary = c.in_ok-skip_fields.ensures head.vary_fields _ (record { list = own.vary_list; count_is = sym counts.0.vary }) (sym tag) in
    c.in_ok-skip_fields-2.ensures head.fields after (record { list = own.list; count_is = sym counts.0.fields }) (sym vary)
