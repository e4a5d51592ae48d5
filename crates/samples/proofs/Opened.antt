-- The definitions that a tick is computed with, opened:
-- an `unfolding` line that names `opened` opens them all.
use Rattle.fmath.specs.Float.{min_of, max_of, clamp_of, all_finite, add_squares, norm_of}
use Rattle.fmath.specs.Root.{root_in, whole_root, root_of}
use Rattle.lictor_core.specs.Codes.{mode_of, kind_of, clamp_mode_of, rearm_of, decision_of}
use Rattle.lictor_core.specs.Initial.{zeros, empty_tally, no_nonces, fresh_control, fresh_motion, fresh_clock, new_of, reset_of}
use Rattle.lictor_core.specs.Masks.{any_of}
use Rattle.lictor_core.specs.Rows.{row_to, taken_row}
use Rattle.lictor_core.specs.FirstThat.{first_that}
use Rattle.lictor_settings.specs.Settings.{bad_code, bad_size, bad_float, any_below, crossed_of, bad_box, settings_table, check_of, config_of}
use Rattle.lictor_detect.specs.Brake.{component, boxed_component, boxed_row, scaled_component, scaled_row, boxed_action, scaled_action, eps, share_left, brake_factor, brake_action, hold_action}
use Rattle.lictor_detect.specs.Window.{hit_bit, push_hit, hits_of, trip_of}
use Rattle.lictor_guard.specs.Delivery.{delivered_of, sizes_bad, place_bad, head_bad, delivery_bad}
use Rattle.lictor_guard.specs.Guard.{non_finite, lengths_of, shape_bad, clock_bad, schema_bad, bit_if, guard_of}
use Rattle.lictor_table.specs.Helpers.{fault_reason, clamp_reason, armed_reason, accepted_by, accepted_ack, consume_nonce, latched_of, latch_hold, count_if, up_if, is_clean, count_run, settled_of}
use Rattle.lictor_table.specs.Rows.{fault_row, rearm_ack, resume_row, terminate_row, timeout_row, wait_row, unanswered_of, escalated_of, may_rearm, rearm_row, escalate_row, hold_row, holding_of, held_of, confirmed_of, standstill_row, stopping_row, braking_of, enter_braking, brake_row, unclampable_of, over_budget, clamp_row, cleared_of, clear_row, watched_of, quiet_of, running_of, by_from, transition_of, next_by_rows}
use Rattle.lictor_table.specs.Table.{table, next_from, next_of}
use Rattle.lictor_tally.specs.History.{recorded}
use Rattle.lictor_tally.specs.Tally.{count, bit_of, count_bit, each_from, count_bits, first, first_reason, most_at, most_live, record_of, record_chunk}
use Rattle.lictor_stages.specs.Act.{status_of, source_of, cut_row, passed_of, instead_of, enforced_of, by_mode, act_of}
use Rattle.lictor_stages.specs.Ingest.{step_rate, rates_row, still_row, velocity_of, ingest_of}
use Rattle.lictor_stages.specs.Findings.{with_brake, masked_of, warn_of, slow_of, standstill_of, chunk_passes, scored_of, findings_of, machine_input}
use Rattle.lictor_stages.specs.Verdict.{live_valid, scores_of, disarmed_scores, action_dim, entered_of, handoff_of, has_ack, consumed_flag, verdict_of, events_of, rejected_of}
use Rattle.lictor_fuse.specs.Decide.{decide_by, decide_of}
use Rattle.lictor_fuse.specs.CleanTick.{next_chunk, clean_clock, ready_of, chunk_tally, close_clean, clean_tick}
use Rattle.lictor_fuse.specs.FaultTick.{is_fit, with_pos, fault_motion, fault_input, fault_verdict, no_events, fault_clock, close_fault, fault_tick}
use Rattle.lictor_fuse.specs.Closed.{closed_of}
use Rattle.lictor_fuse.specs.Tick.{no_verdict, refused_tick, given_of, accepted_tick, tick_by, tick_of}
use lib.Ieee.{add, sub, mul, div, lt, le, eq, of_bits, to_bits, round, is_nan}
use lib.Count.{ones}

unfoldable pub opened : Unit {0}
unfolding
    min_of max_of clamp_of all_finite add_squares norm_of
    root_in whole_root root_of
    mode_of kind_of clamp_mode_of rearm_of decision_of
    zeros empty_tally no_nonces fresh_control fresh_motion fresh_clock new_of reset_of
    any_of
    row_to
    bad_code bad_size bad_float any_below crossed_of bad_box settings_table first_that check_of config_of
    component boxed_component boxed_row scaled_component scaled_row boxed_action scaled_action eps share_left brake_factor
    brake_action hold_action
    hit_bit push_hit hits_of trip_of
    delivered_of sizes_bad place_bad head_bad delivery_bad
    non_finite lengths_of shape_bad clock_bad schema_bad bit_if guard_of
    fault_reason clamp_reason armed_reason accepted_by accepted_ack consume_nonce latched_of latch_hold count_if up_if
    is_clean count_run settled_of
    fault_row rearm_ack resume_row terminate_row timeout_row wait_row unanswered_of escalated_of may_rearm rearm_row
    escalate_row hold_row holding_of held_of confirmed_of standstill_row stopping_row braking_of enter_braking brake_row
    unclampable_of over_budget clamp_row cleared_of clear_row watched_of quiet_of running_of by_from transition_of
    next_by_rows
    table next_from next_of
    recorded
    count bit_of count_bit each_from count_bits first first_reason most_at most_live record_of record_chunk
    status_of source_of cut_row passed_of instead_of enforced_of by_mode act_of
    taken_row step_rate rates_row still_row velocity_of ingest_of is_fit with_pos fault_motion
    with_brake masked_of warn_of slow_of standstill_of chunk_passes scored_of findings_of machine_input fault_input
    live_valid scores_of disarmed_scores action_dim entered_of handoff_of has_ack consumed_flag verdict_of fault_verdict
    events_of no_events rejected_of
    closed_of next_chunk clean_clock ready_of chunk_tally close_clean clean_tick fault_clock close_fault fault_tick
    decide_by decide_of
    no_verdict refused_tick given_of accepted_tick tick_by tick_of
    add sub mul div lt le eq of_bits to_bits round is_nan
    ones
opened = tt
