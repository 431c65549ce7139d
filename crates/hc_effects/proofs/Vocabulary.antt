-- The words of events, rules and definitions that proofs use, in one place: a proof file names them in one line.
pub use Rattle.hc_event.specs.Acts.{act_list, spare}
pub use Rattle.hc_event.specs.Drain.{left_of}
pub use Rattle.hc_event.specs.Filters.{Opening, asks_in, closes_in, evicts_in, given_in, is_denied, leaves_in, opening_in, shows_in}
pub use Rattle.hc_event.specs.WithinLimits.{IsEventWithinLimits}
pub use Rattle.hc_event.specs.declared.act.Act.{Act}
pub use Rattle.hc_event.specs.declared.act.Cause.{Cause}
pub use Rattle.hc_event.specs.declared.act.LostKind.{LostKind}
pub use Rattle.hc_event.specs.declared.act.Need.{Need}
pub use Rattle.hc_event.specs.declared.act.Refusal.{Refusal}
pub use Rattle.hc_event.specs.declared.act.Wait.{Wait}
pub use Rattle.hc_event.specs.declared.act.Why.{Why}
pub use Rattle.hc_event.specs.declared.event.Event.{Event}
pub use Rattle.hc_event.specs.declared.event.Request.{Request}
pub use Rattle.hc_event.specs.declared.event.Response.{Response}
pub use Rattle.hc_event.specs.declared.place.BoundBy.{BoundBy}
pub use Rattle.hc_event.specs.declared.place.Place.{Place}
pub use Rattle.hc_model.specs.ActFilters.{Showing, fails_in, has_loss, leaver_in, loses_in, misreads_in, showing_in, wait_in, without_losses}
pub use Rattle.hc_model.specs.Aims.{Aims}
pub use Rattle.hc_model.specs.Answers.{accepted_acts, answer_acts, close_acts, denied_or, is_asked, loss_acts, poll_acts}
unfoldable pub use Rattle.hc_model.specs.Answers.{answer}
pub use Rattle.hc_model.specs.Beginnings.{are_good, ascend_from, has_own_numbers, has_right_head, is_given_out, is_good, is_kind_right, is_own_run, is_whole, kind_of_runs, needs_tag, same_kind, says, weights_of}
unfoldable pub use Rattle.hc_model.specs.Beginnings.{may_begin}
pub use Rattle.hc_model.specs.Cases.{case_at, fits_asker, head_view, is_founding, is_joining, is_updating, joins_by, joins_row, validates, was_shown}
unfoldable pub use Rattle.hc_model.specs.Cases.{case_of}
pub use Rattle.hc_model.specs.Chains.{MoveEnds}
pub use Rattle.hc_model.specs.Closings.{awaits, brings_head, closes_row, has_no_survivor, is_doomed, is_last_reader, is_left, is_left_by, is_refused, leaver, leaver_by, must_close}
unfoldable pub use Rattle.hc_model.specs.Closings.{closing}
pub use Rattle.hc_model.specs.ConsumerRows.{back_in_line, becomes_shared, bound_by_total, bound_to_wanted, by_fault, by_head, by_opening, consumer_acted, consumer_heard, consumer_made, consumer_settled, due_after, is_resumed, kept_by, left_to, new_consumer, opened_place, own_after, passed_by, passed_on, place_by_case, place_for_hole, shown_place, unless_bound, waiting, waiting_place}
unfoldable pub use Rattle.hc_model.specs.ConsumerRows.{consumer_after}
pub use Rattle.hc_model.specs.Contents.{content_at, content_of, idle_now, run_from, runs_from, with_cell, with_place}
unfoldable pub use Rattle.hc_model.specs.Contents.{contents_of}
pub use Rattle.hc_model.specs.Currents.{is_current, is_number, is_usable, row_of, total_in}
unfoldable pub use Rattle.hc_model.specs.Currents.{current}
pub use Rattle.hc_model.specs.Denials.{as_open, denial, gate, is_live, is_live_place, live}
pub use Rattle.hc_model.specs.Dooms.{bypass_key, bypassed_by, bypassed_for, changes, doomed_by_case, doomed_by_head, doomed_in, is_key}
unfoldable pub use Rattle.hc_model.specs.Dooms.{doomed_key_of}
pub use Rattle.hc_model.specs.Effects.{Does, all_closed, as_gone, as_over, at_end, awaited_and, back_from, exchange_with_head, failing, going_with, if_bound, is_awaited, is_unkeepable, just_founded, just_opened, left_by, left_with, let_all_go, let_go, let_some_go, lost_to, over, put_down, sent_back, tables_after_close, to_bring, unless_ended, unless_reached, unless_survived, used_last, with_answer, with_ask, with_consumer, with_due, with_dues, with_event, with_exchange, with_founding, with_leave, with_length, with_loss, with_opening, with_refreshed_head, with_representation, with_start, woken, group_lost}
pub use Rattle.hc_model.specs.Endings.{Endings, Unended}
pub use Rattle.hc_model.specs.Entries.{Content, Contents, Entry, History, entry_without_acts, no_contents}
pub use Rattle.hc_model.specs.Evictions.{evict, evict_all, outlasts, outlasts_row, unevicting, unless_it}
pub use Rattle.hc_model.specs.ExchangeRows.{aim_from, aim_of, exchange_acted, exchange_heard, exchange_made, exchange_opened, joined_at, promise_in, with_head, with_piece}
unfoldable pub use Rattle.hc_model.specs.ExchangeRows.{exchange_after}
pub use Rattle.hc_model.specs.Exchanges.{base, exchange_at, exchange_in, family, front, is_for, is_headless, is_open, is_reached, is_wanted, length_by, promised_bytes}
pub use Rattle.hc_model.specs.Failures.{cause_by_case, cause_by_loss, cause_of_head, cause_of_loss, cause_of_stop, short_cause, short_of, stop_cause}
unfoldable pub use Rattle.hc_model.specs.Failures.{becomes_due}
pub use Rattle.hc_model.specs.Flaws.{Flaw, Loses, Misreads, NoFlaw, failures_in, flaw_in, is_fault}
pub use Rattle.hc_model.specs.Frames.{StartsOverBy, beside, is_event_for}
pub use Rattle.hc_model.specs.Fronts.{goes_on_at}
pub use Rattle.hc_model.specs.Gone.{ends_early, ends_founding, goes_by_case, goes_by_exchange, goes_by_head, goes_in, goes_itself, is_below, is_current_of, is_short, stops_early}
unfoldable pub use Rattle.hc_model.specs.Gone.{becomes_gone, is_keepable}
pub use Rattle.hc_model.specs.Growing.{Grows, IsComing}
pub use Rattle.hc_model.specs.Heads.{founded_total, kept_fields, total_of_part, updated_head, varied_by}
pub use Rattle.hc_model.specs.Histories.{Shown, each, each_after, first, given_of, if_accepted, joined_of, opened_in, opening_of, request_in, request_of, shown_in, shown_of}
pub use Rattle.hc_model.specs.Holes.{absent_from, covers, first_hole, first_place, hole_at, next_from, stretch_to}
pub use Rattle.hc_model.specs.Keys.{ConsumerKeys, ExchangeKeys, HasRow, IsOfOneKey, entry_of, is_of_key, key_of, key_of_exchange}
pub use Rattle.hc_model.specs.Kinds.{brings_to, covers_all, is_complete, is_prefix, is_growing, kind_at, kind_for}
unfoldable pub use Rattle.hc_model.specs.Kinds.{kind_of}
pub use Rattle.hc_model.specs.Lawful.{Lawful}
pub use Rattle.hc_model.specs.Laws.{AfterDenials, AreNumbered, DeliversOnce, HasOneTurn, HasPassed, IsAwaited, IsBarred, IsBoundBehindDooms, IsInLimits, IsSmallPiece, IsStart, OfHistories, OfRuns, OfRunsIn, StandsFor, Turns, WaitsEnd, WaitsForNobody, count_evicted, item_of}
pub use Rattle.hc_model.specs.LettingGo.{AreSized, IsInUse, MayLetGo, MayMakeRoom, WaitsOn, giving_way, room_now, weight_now, weights_now}
pub use Rattle.hc_model.specs.Lines.{holder, holds_place, holds_turn, is_in_line, stands_in_line, turn_with}
unfoldable pub use Rattle.hc_model.specs.Lines.{line, turn}
pub use Rattle.hc_model.specs.Live.{most_live, open_now}
pub use Rattle.hc_model.specs.Losses.{Brings, HoldsOwn, cell_from}
pub use Rattle.hc_model.specs.Measures.{IsMeasured, Measures, reported, unreported}
pub use Rattle.hc_model.specs.Moves.{Asks, Ends, Fails, Gives, Move, Nothing, Opens, Shows, acts_of, gives, hole_request, opens_hole, shows_stored, span_to, waits_for}
pub use Rattle.hc_model.specs.Numbers.{AreShort, Numbers}
pub use Rattle.hc_model.specs.Orders.{AreOnce, Descends, InOrder}
pub use Rattle.hc_model.specs.Origins.{HasByte, MayDeliver, Origins}
pub use Rattle.hc_model.specs.Owners.{Awaits, IsAwaiting, IsFor, IsPast, IsReading, Owners}
pub use Rattle.hc_model.specs.Parts.{Parts}
pub use Rattle.hc_model.specs.Passed.{Passed}
pub use Rattle.hc_model.specs.Places.{IsAway, Places, Queues, ReadsPast, is_failed_read}
pub use Rattle.hc_model.specs.Planning.{binds_current, candidate, candidate_at, conditional_on, current_row, has_passed, hole_of, is_ranged, origin_request, plan_move, plan_view, planned_move}
pub use Rattle.hc_model.specs.Polls.{by_place, has_joined, if_headless, move_of, or_else, poll_move, shows_answer, shows_at, shows_bound, shows_direct, shows_head, waits_for_head}
pub use Rattle.hc_model.specs.Reading.{base_in, bound_to, end_in, end_of_direct, hi_of, if_open, is_bound, is_bound_place, is_open_writer, lo_of, offset, own_open, reads, shared_exchange, source, group_in}
unfoldable pub use Rattle.hc_model.specs.Reading.{bound, is_written}
pub use Rattle.hc_model.specs.Reads.{Delivers, Holds, IsEnd, ReadsAct, ReadsActs, Says, answer_cell, body_of, cell_by, direct_cell, end_by, end_of}
pub use Rattle.hc_model.specs.RepresentationRows.{asks_whole, founded_at, hole_start, is_last_part, length_in, new_representation, representation_acted, representation_after_head, representation_after_piece, representation_heard, resumes, updates, with_renewed_head, with_stored_bytes, with_total_if_none, writer_at}
unfoldable pub use Rattle.hc_model.specs.RepresentationRows.{representation_after}
pub use Rattle.hc_model.specs.Rows.{Consumer, Exchange, Representation, Tables}
pub use Rattle.hc_model.specs.Runs.{IsOwed, IsRun, flaw_by_room, has_room, is_kept, may_be, may_lose, may_misread, size_flaw}
unfoldable pub use Rattle.hc_model.specs.Runs.{may_stand, owed}
pub use Rattle.hc_model.specs.Sizes.{Sizes}
pub use Rattle.hc_model.specs.Sound.{Among, InHole, IsAbout, IsAlone, IsBound, IsExclusiveWriter, IsFirst, IsGrowing, IsHad, IsListed, IsPromised, IsServed, IsSoundRepresentation, IsStored, IsToBeShown, Numbered, OneAbout, OneCurrent, Sound, Waits, end_from}
pub use Rattle.hc_model.specs.StartingOver.{awaited_exchange, loses_what_it_waits_for, sends_back, waits_at}
unfoldable pub use Rattle.hc_model.specs.StartingOver.{starts_over}
pub use Rattle.hc_model.specs.Steps.{bound_row, held_at, held_of_exchange, held_of_lost, later_hole, most, next_stored, read_view, reading, run_held_for, run_of, step_move, stored_ahead, stored_from}
pub use Rattle.hc_model.specs.StoredHeads.{AreWithinLimits, IsHeadWithinLimits, IsOfOne, StoredHeads, Tags}
pub use Rattle.hc_model.specs.Tables.{after_accepted, after_denied, binds, binds_by_opening, binds_by_showing, bytes_in, first_tables, founds, is_hole, last_end, last_start_after, numbers, opened_after, openings_after, received_in, representation_of_content, starts_after, to_front, with_item_first}
unfoldable pub use Rattle.hc_model.specs.Tables.{after, tables}
pub use Rattle.hc_model.specs.ConsumerActs.{IsOneTo, AnswersBy, AnswersOne, consumer_acts, recipient}
pub use Rattle.hc_model.specs.Weights.{evicted, first_idle, is_idle, is_replacing, moves_on, piece_write, room_by, stays_bound, stays_current, weight, weight_in, weights, write_in, write_of_piece}
unfoldable pub use Rattle.hc_model.specs.Weights.{idle, room_for}
pub use Rattle.hc_model.specs.Whose.{IsOwner, IsSomebodys, Whose, may_own}
pub use Rattle.hc_model.specs.WithinLimits.{HasFieldsWithinLimits, HasTarget, KeysAreTargets, RequestsAreForTargets}
pub use Rattle.hc_model.specs.Writers.{bound_as, bound_kind, brings_body, came_alone, goes_on_with, has_more, lacks_some, loses_group, may_write, member, offset_in, status_in, survivor}
unfoldable pub use Rattle.hc_model.specs.Writers.{exclusive}
pub use Rattle.hc_model.specs.Writes.{first_found, head_writes, is_sealed, lossless, may_validate, piece_writes, sealed_by, sealed_representation, seals_at, stops, unless_lost, written_in}
unfoldable pub use Rattle.hc_model.specs.Writes.{written_representation}
pub use Rattle.hc_rules.specs.Admissions.{is_of, is_same_kind}
pub use Rattle.hc_rules.specs.HeadCases.{begins_at, case_on, direct_case, first_case, fits_part, fits_to_found, is_conditional, later_case, turn_case}
unfoldable pub use Rattle.hc_rules.specs.HeadCases.{head_case, is_storable}
pub use Rattle.hc_rules.specs.Admissions.{least, lesser}
pub use Rattle.hc_rules.specs.Lengths.{agrees, all_spell, base_of, content_length_of, has_no_body, is_bad, is_head, is_same_number, part_length, promise_of, gives_part}
unfoldable pub use Rattle.hc_rules.specs.Lengths.{length_of}
pub use Rattle.hc_rules.specs.Needs.{route_of}
pub use Rattle.hc_rules.specs.Plans.{bare_plan, by_bound, by_current, by_exclusive, by_hole, by_wanted, by_why, from_store, in_time, is_back, plan_on, queues, why_by}
unfoldable pub use Rattle.hc_rules.specs.Plans.{plan_of}
pub use Rattle.hc_rules.specs.RangeTexts.{content_range_of, from_to, hyphen, number_of, positions_by, positions_from, spec_in, split_at}
unfoldable pub use Rattle.hc_rules.specs.RangeTexts.{asked_in, content_range_in}
pub use Rattle.hc_rules.specs.Readings.{cut_at, fails_or, held_or, hole_end, is_at_end, opens, stored_or, waits_or}
unfoldable pub use Rattle.hc_rules.specs.Readings.{read_step}
pub use Rattle.hc_rules.specs.Refusals.{end_refusal, fault_refusal, head_refusal, overlong, piece_refusal, poll_refusal}
unfoldable pub use Rattle.hc_rules.specs.Refusals.{refusal_of}
pub use Rattle.hc_rules.specs.Requests.{is_get, ranges_in, ranges_read, wanted_of, wanted_part}
unfoldable pub use Rattle.hc_rules.specs.Requests.{class_of, is_bypassing, is_disabled, is_only, range_of}
pub use Rattle.hc_rules.specs.Rooms.{gives_way, grown_by, is_too_large, weight_of}
unfoldable pub use Rattle.hc_rules.specs.Rooms.{room_of}
pub use Rattle.hc_rules.specs.Statuses.{brings_part, brings_whole}
pub use Rattle.hc_rules.specs.Admissions.{stands_at}
pub use Rattle.hc_rules.specs.TagTexts.{strong_of}
pub use Rattle.hc_rules.specs.declared.heads.HeadCase.{HeadCase}
pub use Rattle.hc_rules.specs.declared.heads.HeadView.{HeadView}
pub use Rattle.hc_rules.specs.declared.length.Length.{Length}
pub use Rattle.hc_rules.specs.declared.need.Route.{Route}
pub use Rattle.hc_rules.specs.declared.plan.Candidate.{Candidate}
pub use Rattle.hc_rules.specs.declared.plan.Plan.{Plan}
pub use Rattle.hc_rules.specs.declared.plan.PlanView.{PlanView}
pub use Rattle.hc_rules.specs.declared.reading.ReadStep.{ReadStep}
pub use Rattle.hc_rules.specs.declared.reading.ReadView.{ReadView}
pub use Rattle.hc_rules.specs.declared.refusal.Gate.{Gate}
pub use Rattle.hc_rules.specs.declared.request.RequestClass.{RequestClass}
pub use Rattle.hc_rules.specs.declared.request.Wanted.{Wanted}
pub use Rattle.hc_rules.specs.declared.room.Limits.{Limits}
pub use Rattle.hc_rules.specs.declared.room.Room.{Room}
pub use Rattle.hc_rules.specs.declared.room.Write.{Write}
pub use Rattle.hc_rules.specs.declared.survivor.Member.{Member}
pub use Rattle.hc_event.specs.declared.act.Act.TheVariants.{the_data as act}
pub use Rattle.hc_event.specs.declared.act.Cause.TheVariants.{the_data as cause}
pub use Rattle.hc_event.specs.declared.act.LostKind.TheVariants.{the_data as kind}
pub use Rattle.hc_event.specs.declared.act.Need.TheVariants.{the_data as need}
pub use Rattle.hc_event.specs.declared.act.Wait.TheVariants.{the_data as wait}
pub use Rattle.hc_event.specs.declared.event.Event.TheVariants.{the_data as event}
pub use Rattle.hc_event.specs.declared.place.BoundBy.TheVariants.{the_data as by}
pub use Rattle.hc_event.specs.declared.place.Place.TheVariants.{the_data as place}
pub use Rattle.hc_range.specs.declared.range.ContentRange.TheVariants.{the_data as range}
pub use Rattle.hc_rules.specs.declared.heads.HeadCase.TheVariants.{the_data as case}
pub use Rattle.hc_rules.specs.declared.need.Route.TheVariants.{the_data as route}
pub use Rattle.hc_rules.specs.declared.plan.Plan.TheVariants.{the_data as plan}
pub use Rattle.hc_rules.specs.declared.request.Wanted.TheVariants.{the_data as wanted}
pub use Rattle.hc_rules.specs.declared.room.Room.TheVariants.{the_data as room}
pub use Rattle.hc_rules.specs.declared.room.Write.TheVariants.{the_data as write}
