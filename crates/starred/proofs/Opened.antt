-- The definitions that a tick (samples, proofs/Opened), its line and a root are computed with,
-- opened:
-- an `unfolding` line that names `tick_opened` opens them all.
use Rattle.samples.proofs.Opened.{opened}
use Rattle.report.specs.Lines.{margin_text, tick_text, stopped_of, end_text, refused_text}
use Rattle.margin.specs.Margin.{nearest_whole, margin_of}
use Rattle.text.specs.Number.{decimal_in, signed_of}

unfoldable pub tick_opened : Unit {0}
unfolding
    opened
    margin_text tick_text stopped_of end_text refused_text
    nearest_whole margin_of
    decimal_in signed_of
tick_opened = tt
