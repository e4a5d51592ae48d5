-- What is printed without a width (02-change-requests.md, Ask 7): every program takes kind 8, and one
-- that does not use it prints what it prints without that record. Proved in proofs/Widths,
-- `prints_as_without`.
use Rattle.std.specs.Prelude.{Bool, true, false, List, ◌++◌, ◌≡◌, ℕ, suc, length}
use Rattle.journal.specs.Journal.{ended}
use Rattle.journal.specs.Widths.{with_width, OneWidth, further}
use Rattle.printer.specs.declared.Channel.{Channel}
use Rattle.printer.specs.declared.Channel.TheVariants.{Output, Errors}
use Rattle.printer.specs.Printer.{Shows, lines, trace, pages, proximity, Printer, printed_on, kinds_taken, meaning_for, text_of, beside_of}

-- whether a width changes what is printed
abbrev pub uses_width : Shows → Bool
uses_width lines = false
uses_width trace = false
uses_width pages = false
uses_width proximity = true

-- what a channel has of the journal s, with the place of a refusal n bytes further on
abbrev pub printed_further : ℕ → Channel → Printer → List ℕ → List ℕ
printed_further n c p s = let m = meaning_for p s in printed_on c p m.events m.left.run (further n m.ending)

-- On both channels it is that of the journal without the record, but for the place in the line of a
-- refusal, which has the record's bytes before it; where nothing is refused it is the same.
pub record PrintsAsWithout (p : Printer) (front body back : List ℕ) : Type 0 where
  pub text : text_of p (with_width front body back) ≡ printed_further (suc (length body)) Output p (front ++ back)
  pub beside : beside_of p (with_width front body back) ≡ printed_further (suc (length body)) Errors p (front ++ back)
  pub same : (meaning_for p (front ++ back)).ending ≡ ended
      → text_of p (with_width front body back) ≡ text_of p (front ++ back)

abbrev pub UnusedWidth : Type 0
UnusedWidth = (p : Printer) → uses_width p.shows ≡ false → (front body back : List ℕ)
    → OneWidth (kinds_taken p.shows) front body back → PrintsAsWithout p front body back
