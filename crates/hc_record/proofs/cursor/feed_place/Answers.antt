use Rattle.hc_fields.proofs.FirstBytes.{first-position}
use Rattle.hc_record.proofs.cursor.feed_place.Goals as goal

pub returns : goal.returns
returns c = first-position 10 c.args.text.now c.memchr.result c.memchr.ensures
