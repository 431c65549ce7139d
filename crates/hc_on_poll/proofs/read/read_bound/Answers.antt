-- What `read_bound` needs of its calls, and what it answers where a head is awaited, at the end, and where bytes stand ahead.
--
-- Its row is that of the reader. At the end it takes none (`none_more`), and before the end some (`before_end`). A read of
-- the store keeps the rows but for the count of faults. So what is read ahead stands there then (`ahead_after`), and what
-- is answered then is answered (`answers_after`). Stored bytes are given by `gives_stored`. Where none stand there,
-- `read_on` answers, and where they can't be read, `misread_by`.
use Rattle.std.{proofs.{Common.{◌≡◌, ◌+◌, ◌≤◌, ◌^◌, refl, ap, sym, ◌∙◌, length, arith, nat_eq}, Math.Logic.{∥∥₁_map}}, specs.HashMap.{get}}
use Rattle.hc_effects.proofs.Vocabulary.{act_list, event}
use Rattle.hc_stored.specs.Entries.{shelf_of}
use Rattle.hc_exch.specs.Exchanges.{table_of}
use Rattle.hc_state.specs.{Handlers.{most}, Reads.{headless_own}}
use Rattle.hc_on_poll.specs.{Readers.{Reads, ReadsUnstored}, declared.read.Reader.{Reader}}
use Rattle.hc_on_poll.proofs.{BoundMisread.{ahead_after, answers_after, misread_after, unstored_after}, BoundReads.{ends_move, head_move}, PlanHandlers.{fault_only}, ReadLemmas.{before_end, none_more}, ReadOn.{row_of, kept, offset_fits, run_fits, gives_stored}, WaitHandlers.{head_waits}}
use Rattle.hc_state.proofs.{Maps.{some_that}, ReaderSteps.{some_read}, Words.{there, on_ok_two, ok_then}}
use Rattle.hc_on_poll.proofs.read.read_bound.Goals as goal

pub returns-in-Some-clause-answers : goal.returns-in-Some-clause-answers
returns-in-Some-clause-answers g c =
    let r = c.args.rows.now in
    let a = c.args.reader in
    let (k, at, its) = there (get nat_eq r.consumers a.c) (Reads a) c.requires.reads in
    λ limits t facts rows accepted.
    let rd = row_of r a.c a.r k at its.shown t facts rows in
    head_waits limits (shelf_of r.entries).faults r t facts.law c.args.now a.c c.args.want rd.v rd.row (act_list c.args.out.now) (act_list c.wait.new.out)
    c.in-Some.x
    (head_move r t facts rows a.c a.r its.shown.0.2 k rd c.args.now c.args.want its.shown.1 c.in-Some.x
    (sym (ap (λ (z : Reader). headless_own (table_of r.exchanges) z.own) its.is) ∙ (sym c.headless_own.ensures ∙ c.in-Some.is))) c.wait.ensures.acts rows

pub most-count-requires : goal.most-count-requires
most-count-requires g c =
    let r = c.args.rows.now in
    let a = c.args.reader in
    let (k, at, its) = there (get nat_eq r.consumers a.c) (Reads a) c.requires.reads in
    let fits = offset_fits r a.c a.r k at its.shown c.requires.opens.stands in
    let same : a.offset ≡ k.lo + k.given = ap (λ (z : Reader). z.offset) its.is in
    omega (arith, fits, same)

pub returns-then-count-eq0-clause-answers : goal.returns-then-count-eq0-clause-answers
returns-then-count-eq0-clause-answers g c =
    let r = c.args.rows.now in
    let a = c.args.reader in
    let want = c.args.want in
    let (k, at, its) = there (get nat_eq r.consumers a.c) (Reads a) c.requires.reads in
    let none : most k.hi (k.lo + k.given) want ≡ 0 = sym (ap (λ (z : Reader). most z.hi z.offset want) its.is) ∙
    (sym c.most-count.ensures ∙ c.if-count-eq0.true) in
    λ limits t facts rows accepted.
    let rd = row_of r a.c a.r k at its.shown t facts rows in
    let heard = sym (ap (λ (z : Reader). headless_own (table_of r.exchanges) z.own) its.is) ∙ (sym c.headless_own.ensures ∙ c.in_default.is) in
    c.end_reading.ensures.answers want _ t rd.v facts rows rd.row
    (ends_move r t facts rows a.c a.r its.shown.0.2 k rd c.args.now want its.shown.1 heard c.requires.wants _ refl
    (none_more want c.requires.wants k.hi (k.lo + k.given) none))

pub run_at-requires-clause-there : goal.run_at-requires-clause-there
run_at-requires-clause-there g c =
    let r = c.args.rows.now in
    let a = c.args.reader in
    let (k, at, its) = there (get nat_eq r.consumers a.c) (Reads a) c.requires.reads in
    kept r a.c a.r k at its.shown c.requires.opens.stands

pub give-requires-clause-fits : goal.give-requires-clause-fits
give-requires-clause-fits g c =
    let r = c.args.rows.now in
    let a = c.args.reader in
    let (k, at, its) = there (get nat_eq r.consumers a.c) (Reads a) c.requires.reads in
    let mid = record r { entries = c.run_at.new.self } in
    let stays = c.run_at.ensures.same in
    let run = c.in-Ok-Some.field-0 in
    let ahead = ahead_after (shelf_of r.entries) (shelf_of c.run_at.new.self) stays a c.args.want k its.is run c.most-count.result c.most-count.ensures
    c.if-count-eq0.false c.in-Ok-Some.ensures.run in
    let stands = ∥∥₁_map c.requires.opens.stands (λ s. some_read r mid refl refl refl refl stays s) in
    some_that (get nat_eq r.consumers a.c) k (λ j. j.given + length c.in-Ok-Some.run'.bytes ≤ 2 ^ 62) at
    (run_fits mid a.c a.r k at its.shown stands c.args.want c.requires.wants run ahead c.in-Ok-Some.run' c.in-Ok-Some.field-0-is)

pub read_on-requires-clause-opens : goal.read_on-requires-clause-opens
read_on-requires-clause-opens g c =
    let r = c.args.rows.now in
    record {
      stands = ∥∥₁_map c.requires.opens.stands (λ s. some_read r (record r { entries = c.run_at.new.self }) refl refl refl refl c.run_at.ensures.same s);
      few = c.requires.opens.few;
    }

pub read_on-requires-clause-reads : goal.read_on-requires-clause-reads
read_on-requires-clause-reads g c =
    let r = c.args.rows.now in
    let a = c.args.reader in
    let want = c.args.want in
    let (k, at, its) = there (get nat_eq r.consumers a.c) (Reads a) c.requires.reads in
    some_that (get nat_eq r.consumers a.c) k (ReadsUnstored (record r { entries = c.run_at.new.self }) a) at (record {
      reads = its;
      heard = sym (ap (λ (z : Reader). headless_own (table_of r.exchanges) z.own) its.is) ∙ (sym c.headless_own.ensures ∙ c.in_default.is);
      before_end = before_end want k.hi (k.lo + k.given)
          (λ none. c.if-count-eq0.false (c.most-count.ensures ∙ (ap (λ (z : Reader). most z.hi z.offset want) its.is ∙ none)));
      missing = unstored_after (shelf_of r.entries) (shelf_of c.run_at.new.self) c.run_at.ensures.same a k its.is c.in-Ok-None.field-0 c.most-count.result
          c.in-Ok-None.ensures.run c.in-Ok-None.field-0-is;
    })

pub misread_by-requires-clause-stands : goal.misread_by-requires-clause-stands
misread_by-requires-clause-stands g c =
    let r = c.args.rows.now in
    ∥∥₁_map c.requires.opens.stands (λ s. some_read r (record r { entries = c.run_at.new.self }) refl refl refl refl c.run_at.ensures.same s)

pub returns-in-Ok-Some-clause-answers : goal.returns-in-Ok-Some-clause-answers
returns-in-Ok-Some-clause-answers g c =
    let r = c.args.rows.now in
    let a = c.args.reader in
    let want = c.args.want in
    let (k, at, its) = there (get nat_eq r.consumers a.c) (Reads a) c.requires.reads in
    let mid = record r { entries = c.run_at.new.self } in
    let stays = c.run_at.ensures.same in
    let run = c.in-Ok-Some.field-0 in
    let ahead = ahead_after (shelf_of r.entries) (shelf_of c.run_at.new.self) stays a want k its.is run c.most-count.result c.most-count.ensures
    c.if-count-eq0.false c.in-Ok-Some.ensures.run in
    let heard = sym (ap (λ (z : Reader). headless_own (table_of r.exchanges) z.own) its.is) ∙ (sym c.headless_own.ensures ∙ c.in_default.is) in
    let off = before_end want k.hi (k.lo + k.given)
    (λ none. c.if-count-eq0.false (c.most-count.ensures ∙ (ap (λ (z : Reader). most z.hi z.offset want) its.is ∙ none))) in
    let rest = c.give.ensures.rest in
    answers_after r mid c.give.new.rows (record { last_start = refl; consumers = refl; exchanges = refl; keys = refl; entries = stays })
    (act_list c.args.out.now) (act_list c.give.new.out) c.args.now a.c a.r (event.Poll a.c want) c.run_at.ensures.cause.later (λ limits t facts rows accepted.
    gives_stored mid a.c a.r k at its.shown c.give.new.rows (act_list c.args.out.now) (act_list c.give.new.out) c.args.now want c.requires.wants run ahead
    heard rest.last_start rest.keys rest.entries t facts rows
    off c.in-Ok-Some.run' c.in-Ok-Some.field-0-is c.give.ensures.acts c.give.ensures.exchanges c.give.ensures.consumers)

pub returns-in-Ok-None-clause-answers : goal.returns-in-Ok-None-clause-answers
returns-in-Ok-None-clause-answers g c =
    let r = c.args.rows.now in
    ok_then c.read_on.result c.read_on.ensures.answers
    (answers_after r (record r { entries = c.run_at.new.self }) c.read_on.new.rows
    (record { last_start = refl; consumers = refl; exchanges = refl; keys = refl; entries = c.run_at.ensures.same })
    (act_list c.args.out.now) (act_list c.read_on.new.out) c.args.now c.args.reader.c c.args.reader.r (event.Poll c.args.reader.c c.args.want)
    c.run_at.ensures.cause.later)

pub returns-in-Err-clause-answers : goal.returns-in-Err-clause-answers
returns-in-Err-clause-answers g c =
    let r = c.args.rows.now in
    let a = c.args.reader in
    let (k, at, its) = there (get nat_eq r.consumers a.c) (Reads a) c.requires.reads in
    on_ok_two c.misread_by.result c.misread_by.ensures.failed c.misread_by.ensures.answers (λ other answers.
    λ limits t facts rows accepted. misread_after r (record r { entries = c.run_at.new.self }) c.misread_by.new.rows
    (record { last_start = refl; consumers = refl; exchanges = refl; keys = refl; entries = c.run_at.ensures.same })
    (act_list c.args.out.now) (act_list c.misread_by.new.out) c.args.now a.c a.r k at its.shown.0.2 (its.shown.0.0, its.shown.0.1, its.shown.0.3)
    (c.run_at.ensures.cause.fault (fault_only c.run_at.result c.in-Err.error c.in-Err.is c.run_at.ensures.no_limit other)) answers c.args.want _ t facts rows)
