use Rattle.http_header.specs.Token.{lowercase}
use Rattle.hc_fields.proofs.{Joins.{Fit-rest, joined_of-rest, named_fit}, Places.{no_mark}}
use Rattle.hc_fields.proofs.fields.Fields.joined.Goals as goal

pub join-requires : goal.join-requires
join-requires c =
    let text = c.self.inside.text.items in
    let named = rw (c.deref.ensures.value, c.deref-2.ensures.value) at c.named.ensures.fields in
    let lines = rw c.deref.ensures.value at c.named.ensures.lines in
    let fit = named_fit text c.self.inside.marks.items c.named.result.now (lowercase c.args.name.now) c.self.invariant.marked named in
    let rest = Fit-rest text c.named.result.now no_mark c.in-len1-up.len_at_least lines fit.0 fit.1 in
    rw c.deref-in-len1-up-2.ensures.value
    (record { short = rw (c.value-first.ensures, c.deref-in-len1-up.ensures.value) rest.short; lines = rest.lines; few = rest.few; small = rest.small })

pub returns-in_ok-join-in-len1-up : goal.returns-in_ok-join-in-len1-up
returns-in_ok-join-in-len1-up c =
    let text = c.self.inside.text.items in
    let named = rw (c.deref.ensures.value, c.deref-2.ensures.value, c.self.view_is) at c.named.ensures.fields in
    rw named at (joined_of-rest text c.named.result.now no_mark c.in_ok-join-in-len1-up.field-0 c.in-len1-up.len_at_least
    (rw (c.value-first.ensures, c.deref-in-len1-up.ensures.value, c.deref-in-len1-up-2.ensures.value) at c.in_ok-join-in-len1-up.ensures))
