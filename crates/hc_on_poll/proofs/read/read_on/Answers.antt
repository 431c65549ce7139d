-- What `read_on` needs of its calls, and what it answers for each step of who reads where nothing is stored.
--
-- By `Unstored` there is its row, and its view is that of the row. What its calls need holds in any tables that the
-- rows represent, so by `ReadOn` it is taken from those that are there. The step is that of the view that was read, and
-- `BoundReads` tells its move, which isn't an end, and nothing that is stored. `BoundGives` or the called function
-- answers that move: failures what leaves, holes `open_later_hole`. For held bytes there may be no memory.
use Rattle.std.{proofs.{Common.{◌≡◌, ◌+◌, ◌≤◌, ◌^◌, None, inl, inr, refl, ap, sym, ◌∙◌, length, take, arith, nat_eq}, lemmas.Grind.{not_there}}, specs.{Prelude.{is_some}, HashMap.{get}}}
use Rattle.hc_effects.proofs.Vocabulary.{act_list, ReadView}
use Rattle.hc_stored.specs.{Entries.{shelf_of}, Shelf.{head_at}}
use Rattle.hc_exch.specs.Exchanges.{table_of}
use Rattle.hc_state.specs.{Handlers.{most}, Reads.{IsShownAt}}
use Rattle.hc_on_poll.specs.{Readers.{ReadsUnstored}, declared.read.Reader.{Reader}}
use Rattle.hc_on_poll.proofs.{BoundReads.{fails_move, hole_move, never_ends, never_stored}, ReadOn.{row_of, kept, offset_fits, own_there, held_fits, source_runs, hole_within, gives_held, asks_for}, Unstored.{unstored_of}}
use Rattle.hc_state.proofs.{Maps.{known_of, some_that}, Words.{there, ok_then}}
use Rattle.hc_on_poll.proofs.read.read_on.Goals as goal

pub next_read-requires-clause-there : goal.next_read-requires-clause-there
next_read-requires-clause-there g c =
    let r = c.args.rows.now in
    let a = c.args.reader in
    let (k, at, its) = there (get nat_eq r.consumers a.c) (ReadsUnstored r a) c.requires.reads in
    kept r a.c a.r k at its.reads.shown c.requires.opens.stands

pub next_read-requires-clause-small : goal.next_read-requires-clause-small
next_read-requires-clause-small g c =
    let r = c.args.rows.now in
    let a = c.args.reader in
    let (k, at, its) = there (get nat_eq r.consumers a.c) (ReadsUnstored r a) c.requires.reads in
    let fits = offset_fits r a.c a.r k at its.reads.shown c.requires.opens.stands in
    let same : a.offset ≡ k.lo + k.given = ap (λ (z : Reader). z.offset) its.reads.is in
    omega (arith, fits, same)

pub unwrap-x-requires : goal.unwrap-x-requires
unwrap-x-requires g c =
    let r = c.args.rows.now in
    let a = c.args.reader in
    let u = unstored_of r a c.args.want c.next_read.result c.requires.reads c.next_read.ensures in
    ap (λ (z : Reader). is_some z.own) u.is
    ∙ own_there r a.c a.r u.k u.at u.shown c.requires.opens.stands c.args.want c.requires.wants None u.ahead u.heard u.view u.view_is
    (sym u.step_is ∙ c.in-Held.is)

pub most-count-requires : goal.most-count-requires
most-count-requires g c =
    let r = c.args.rows.now in
    let a = c.args.reader in
    let u = unstored_of r a c.args.want c.next_read.result c.requires.reads c.next_read.ensures in
    let fits = offset_fits r a.c a.r u.k u.at u.shown c.requires.opens.stands in
    let same : a.offset ≡ u.k.lo + u.k.given = ap (λ (z : Reader). z.offset) u.is in
    omega (arith, fits, same)

pub give-requires-clause-fits : goal.give-requires-clause-fits
give-requires-clause-fits g c =
    let r = c.args.rows.now in
    let a = c.args.reader in
    let u = unstored_of r a c.args.want c.next_read.result c.requires.reads c.next_read.ensures in
    let bytes = c.in_ok-bytes-in-Held.bytes in
    let own = sym (ap (λ (z : Reader). z.own) u.is) ∙ c.unwrap-x.ensures in
    let fits = held_fits r a.c a.r u.k u.at u.shown c.requires.opens.stands c.args.want c.requires.wants None u.ahead u.heard u.view u.view_is
    (sym u.step_is ∙ c.in-Held.is) c.unwrap-x.result c.most-count.result own in
    let long : length bytes ≡ length (take c.most-count.result (table_of r.exchanges c.unwrap-x.result).held) = ap length c.in_ok-bytes-in-Held.ensures.bytes in
    some_that (get nat_eq r.consumers a.c) u.k (λ j. j.given + length bytes ≤ 2 ^ 62) u.at (omega (arith, fits, long))

pub ask-requires-clause-running : goal.ask-requires-clause-running
ask-requires-clause-running g c =
    let r = c.args.rows.now in
    let a = c.args.reader in
    let u = unstored_of r a c.args.want c.next_read.result c.requires.reads c.next_read.ensures in
    source_runs r a.c a.r u.k u.at u.shown c.requires.opens.stands c.args.want c.requires.wants None u.ahead u.heard u.view u.view_is c.in-Waits.x
    (sym u.step_is ∙ c.in-Waits.is)

pub open_later_hole-requires-clause-shown : goal.open_later_hole-requires-clause-shown
open_later_hole-requires-clause-shown g c =
    let r = c.args.rows.now in
    let a = c.args.reader in
    let u = unstored_of r a c.args.want c.next_read.result c.requires.reads c.next_read.ensures in
    some_that (get nat_eq r.consumers a.c) u.k (IsShownAt a.r) u.at u.shown

pub open_later_hole-requires-clause-hole : goal.open_later_hole-requires-clause-hole
open_later_hole-requires-clause-hole g c =
    let r = c.args.rows.now in
    let a = c.args.reader in
    let u = unstored_of r a c.args.want c.next_read.result c.requires.reads c.next_read.ensures in
    hole_within r a.c a.r u.k u.at u.shown c.requires.opens.stands c.args.want c.requires.wants None u.ahead u.heard u.view u.view_is c.in-Hole.hole
    (sym u.step_is ∙ c.in-Hole.is)

pub unreachable-requires : goal.unreachable-requires
unreachable-requires g c =
    let r = c.args.rows.now in
    let a = c.args.reader in
    let u = unstored_of r a c.args.want c.next_read.result c.requires.reads c.next_read.ensures in
    not_there c.requires.opens.stands (λ s.
    let rd = row_of r a.c a.r u.k u.at u.shown s.t s.facts s.rows in
    elim c.in-Ended.is [
      | inl e ↦ never_ends r s.t s.facts s.rows a.c a.r u.shown.0.2 u.k rd c.args.now c.args.want u.shown.1 u.heard c.requires.wants None u.ahead u.view
          u.view_is u.before_end refl (sym u.step_is ∙ e)
      | inr e ↦ never_stored r s.t s.facts s.rows a.c a.r u.shown.0.2 u.k rd c.args.now c.args.want u.shown.1 u.heard c.requires.wants None u.ahead u.view
          u.view_is u.before_end refl e.0 (sym u.step_is ∙ e.1)
    ])

pub returns-in-Failed-clause-answers : goal.returns-in-Failed-clause-answers
returns-in-Failed-clause-answers g c =
    let r = c.args.rows.now in
    let a = c.args.reader in
    let u = unstored_of r a c.args.want c.next_read.result c.requires.reads c.next_read.ensures in
    λ limits t facts rows accepted.
    let rd = row_of r a.c a.r u.k u.at u.shown t facts rows in
    c.fail.ensures.answers c.args.want _ t rd.v facts rows rd.row
    (fails_move r t facts rows a.c a.r u.shown.0.2 u.k rd c.args.now c.args.want u.shown.1 u.heard c.requires.wants None u.ahead u.view u.view_is
    c.in-Failed.cause (sym u.step_is ∙ c.in-Failed.is))

pub returns-in_ok-bytes-in-Held-clause-answers : goal.returns-in_ok-bytes-in-Held-clause-answers
returns-in_ok-bytes-in-Held-clause-answers g c =
    let r = c.args.rows.now in
    let a = c.args.reader in
    let u = unstored_of r a c.args.want c.next_read.result c.requires.reads c.next_read.ensures in
    let give = c.give.ensures in
    let rest = give.rest in
    λ limits t facts rows accepted. gives_held r a.c a.r u.k u.at u.shown c.give.new.rows (act_list c.args.out.now) (act_list c.give.new.out) c.args.now
    c.args.want c.requires.wants None u.ahead u.heard rest.last_start rest.keys rest.entries t facts rows u.view u.view_is
    (sym u.step_is ∙ c.in-Held.is) c.unwrap-x.result a.offset c.most-count.result c.in_ok-bytes-in-Held.bytes
    (sym (ap (λ (z : Reader). z.own) u.is) ∙ c.unwrap-x.ensures) (ap (λ (z : Reader). z.offset) u.is ∙ sym (ap (λ (z : ReadView). z.offset) u.view_is.is))
    (c.most-count.ensures ∙ (ap (λ (z : Reader). most z.hi z.offset c.args.want) u.is ∙
    sym (ap (λ (z : ReadView). most z.hi z.offset c.args.want) u.view_is.is))) c.in_ok-bytes-in-Held.ensures.bytes give.acts
    (rw give.exchanges c.in_ok-bytes-in-Held.ensures.ok) give.consumers

pub returns-in-Waits-clause-answers : goal.returns-in-Waits-clause-answers
returns-in-Waits-clause-answers g c =
    let r = c.args.rows.now in
    let a = c.args.reader in
    let u = unstored_of r a c.args.want c.next_read.result c.requires.reads c.next_read.ensures in
    let rest = c.ask.ensures.rest in
    λ limits t facts rows accepted. asks_for r a.c a.r u.k u.at u.shown c.ask.new.rows (act_list c.args.out.now) (act_list c.ask.new.out) c.args.now
    c.args.want c.requires.wants None u.ahead u.heard rest.last_start rest.keys rest.entries t facts rows u.view u.view_is
    c.in-Waits.x (sym u.step_is ∙ c.in-Waits.is) c.ask.ensures.consumers c.ask.ensures.asked c.ask.ensures.acts

pub returns-in-Hole-clause-answers : goal.returns-in-Hole-clause-answers
returns-in-Hole-clause-answers g c =
    let r = c.args.rows.now in
    let a = c.args.reader in
    let u = unstored_of r a c.args.want c.next_read.result c.requires.reads c.next_read.ensures in
    ok_then c.open_later_hole.result c.open_later_hole.ensures.answers (λ all.
    λ limits t facts rows accepted.
    let rd = row_of r a.c a.r u.k u.at u.shown t facts rows in
    let f = hole_move r t facts rows a.c a.r u.shown.0.2 u.k rd c.args.now c.args.want u.shown.1 u.heard c.requires.wants None u.ahead u.view u.view_is
    c.in-Hole.hole (sym u.step_is ∙ c.in-Hole.is) in
    known_of (head_at (shelf_of r.entries) a.r) f.head _ f.head_is (known_of (get nat_eq r.consumers a.c) u.k _ u.at all) c.args.want _ t rd.v facts rows
    rd.row f.move_is)
