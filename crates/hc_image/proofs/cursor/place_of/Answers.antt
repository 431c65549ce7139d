use Rattle.hc_fields.proofs.FirstBytes.{first-position}
use Rattle.hc_image.proofs.cursor.place_of.Goals as goal

pub returns : goal.returns
returns c = first-position c.args.byte c.args.text.now c.memchr.result c.memchr.ensures
