-- The definitions print the example as the paper says: everything is computed, from the bytes to
-- the text.
use mathlib.Core.Path.{◌≡◌, refl}
use Rattle.text.specs.Line.{line_of, put_of, push_of}
use Rattle.journal_frames.specs.Frames.{is_known, body_len, frame_of, by_frames}
use Rattle.journal_records.specs.Little.{le_at, float_at, floats_at}
use Rattle.journal_records.specs.Body.{ack_of, head_of, tick_numbers, decode_of}
use Rattle.journal_records.specs.Long.{limits_of, calibration_of, settings_of, scores_in, outcome_of}
use Rattle.journal_refusals.specs.Causes.{before_settings, again, code_not_listed, size_outside, float_outside, box_crossed, list_full, not_ready}
use Rattle.journal_refusals.specs.Table.{order_rows, content_rows, whole_rows, whole_of}
use Rattle.journal_reader.specs.Reading.{brought_of, on_record, on_whole, on_bytes}
use Rattle.journal_reader.specs.State.{ack_waits, head_waits, value_waits, stored, outcome_waits, settings_came, emptied, start_reader, values_of, input_of}
use Rattle.stream.specs.Stream.{settle, settled}
use Rattle.journal.specs.Events.{begun_of, restarted_of, decided_of, ticked_of, report_of}
use Rattle.journal.specs.Journal.{start_state, start_run, journal_of}
use Rattle.printer.specs.Printer.{fuse_printer, shown_text, remembered, ending_text, printed, printer_after_all, text_from, kinds_taken, text_of}
use Rattle.starred.proofs.Opened.{tick_opened}
use Rattle.example.specs.Example.{in_bytes, times, settings_bytes, reset_bytes, outcome_bytes, tick_bytes, example_bytes, example_text}

pub example_printed : text_of fuse_printer example_bytes ≡ example_text
unfolding
    tick_opened line_of put_of push_of le_at float_at floats_at limits_of calibration_of settings_of ack_of head_of scores_in
    outcome_of tick_numbers decode_of is_known body_len frame_of by_frames before_settings again code_not_listed size_outside
    float_outside box_crossed list_full not_ready order_rows content_rows whole_rows whole_of brought_of on_record
    on_whole on_bytes ack_waits head_waits value_waits stored outcome_waits settings_came emptied start_reader values_of input_of
    settle settled begun_of restarted_of decided_of ticked_of report_of start_state start_run journal_of shown_text remembered
    ending_text printed printer_after_all text_from kinds_taken text_of in_bytes times settings_bytes reset_bytes outcome_bytes
    tick_bytes example_bytes
example_printed = refl
