-- The text of an event and that of an ending have room; and what their texts in memory are.
use Prim.Native.Nat.{ℕ, zero, suc, ◌+◌, ◌*◌, ◌≤◌, ◌<◌}
use mathlib.Core.Bool.{Bool, true, false, cond}
use mathlib.Core.Path.{◌≡◌, refl, ap}
use mathlib.Core.List.{List, [], ◌++◌, append-nil}
use native.Mathlib.Omega.{arith}
use borrow.Author.Tests.{eq-eqb, ne_eqb, le-leb, lt-leb}
use lib.Dec.{eqb}
use lib.Ieee.{Float}
use Rattle.std.specs.Prelude.{Option, None, Some}
use lib.ListN.{length, length-append, length-take, take}
use Rattle.lictor_core.specs.declared.envelope.FuseConfig.{FuseConfig}
use Rattle.lictor_core.specs.declared.fuse.FuseRt.{FuseRt}
use Rattle.lictor_core.specs.declared.tally.Tally.{Tally}
use Rattle.lictor_core.specs.declared.verdict.SafetyVerdict.{SafetyVerdict}
use Rattle.journal_refusals.specs.declared.Refusal.{Refusal}
use Rattle.journal_refusals.specs.Table.{number_of}
use Rattle.journal.specs.declared.tick.Run.{Run}
use Rattle.journal.specs.Events.{Event, began, restarted, ticked, width_given}
use Rattle.journal.specs.Journal.{Ending, ended, refused}
use Rattle.text.specs.declared.Line.{Line}
use Rattle.text.specs.Line.{line_room, line_of}
use Rattle.text.specs.Memory.{Put, place_put, memory_put, has_room, place_with, memory_with}
use Rattle.text.proofs.Lines.{held_text}
use Rattle.text.proofs.Puts.{put_none, put_on, put_there, no_room, with_room, put_with}
use Rattle.trace_text.specs.Trace.{trace_count, trace_text}
use Rattle.report.specs.Lines.{tick_text, refused_text}
use Rattle.report.specs.Text.{trace_room, trace_up_to}
use Rattle.report.proofs.Fits.{tick_fits, end_fits, refused_fits}
use Rattle.page_text.specs.Rows.{tick_row, page_row, as_line, RowShown, PageShown}
use Rattle.page_text.proofs.Rows.{tick_row_fits, page_row_fits}
use Rattle.proximity_text.specs.Near.{dims_of}
use Rattle.proximity_text.specs.Lines.{lines_of, lines_room, LinesShown}
use Rattle.proximity_text.proofs.Laws.{lines_fit}
use Rattle.printer.specs.declared.Channel.TheVariants.{Output}
use Rattle.printer.specs.declared.Measure.{Measure}
use Rattle.printer.specs.declared.Notes.{Notes}
use Rattle.printer.specs.declared.Shown.{Shown}
use Rattle.printer.specs.Printer.{Shows, lines, trace, pages, proximity, Printer, fills, tick_on_page, page_closed, is_clean, width_lines, tick_lines, tick_shown, shown_text, remembered, closing_text, end_shown, ending_text, ending_on, ending_by, channel_by, event_room, ending_room, silent_shown, shown_at, memory_at, ShownIn, EndedIn}

-- ---- room

trace_fits : (k : ℕ) (v : SafetyVerdict) (rt : FuseRt) → length (trace_up_to k v rt) ≤ k * line_room
unfolding trace_up_to
trace_fits zero v rt = omega arith
trace_fits (suc k) v rt =
    omega (arith, trace_fits k v rt, length-append (trace_up_to k v rt) (take line_room (trace_text k v rt)), length-take line_room (trace_text k v rt))

-- the line of a page, where there is one
page_maybe_fits : (b : Bool) (n : ℕ) → length (cond b (as_line (page_row n)) []) ≤ line_room
page_maybe_fits true n = page_row_fits n
page_maybe_fits false n = omega arith

-- the lines of components, where there are some
tick_lines_fit : (b : Bool) (w : Option Float) (was : List Bool) (pos : List Float) (v : SafetyVerdict) (cfg : FuseConfig) → length (cond b (width_lines w was pos v cfg) []) ≤ lines_room
tick_lines_fit true (Some w) was pos v cfg = omega (arith, lines_fit (record { width = w; inside = was }) v.t cfg.box_lo cfg.box_hi pos (dims_of cfg))
tick_lines_fit true None was pos v cfg = omega arith
tick_lines_fit false w was pos v cfg = omega arith

tick_shown_fits : (w : Shows) (m : Notes) (pos : List Float) (guard : ℕ) (v : SafetyVerdict) (run : Run) → length (tick_shown w m pos guard v run) ≤ event_room
tick_shown_fits lines m pos guard v run = omega (arith, tick_fits v)
tick_shown_fits trace m pos guard v run =
    let rt = run.rt in
    omega (arith, tick_fits v, trace_fits trace_count v rt, length-append (tick_text v) (trace_up_to trace_count v rt))
tick_shown_fits proximity m pos guard v run =
    let x = m.measure in
    omega (arith, tick_lines_fit (is_clean guard) x.width x.inside pos v run.config)
tick_shown_fits pages m pos guard v run =
    omega (arith, tick_row_fits v, page_maybe_fits (fills m) m.page, length-append (as_line (tick_row v)) (cond (fills m) (as_line (page_row m.page)) []))

pub event_fits : (p : Printer) (e : Event) → length (shown_text p e) ≤ event_room
unfolding shown_text
event_fits p (began run) = omega arith
event_fits p (restarted run) = omega arith
event_fits p (ticked t) = tick_shown_fits p.shows p.notes t.pos t.guard t.verdict t.run
event_fits p (width_given run w) = omega arith

page_closed_fits : (b : Bool) (n : ℕ) → length (cond b [] (as_line (page_row n))) ≤ line_room
page_closed_fits true n = omega arith
page_closed_fits false n = page_row_fits n

pub closing_fits : (w : Shows) (m : Notes) → length (closing_text w m) ≤ line_room
closing_fits lines m = omega arith
closing_fits trace m = omega arith
closing_fits pages m = page_closed_fits (eqb m.rows 0) m.page
closing_fits proximity m = omega arith

end_shown_fits : (w : Shows) (t : Tally) → length (end_shown w t) ≤ line_room
end_shown_fits lines t = end_fits t
end_shown_fits trace t = end_fits t
end_shown_fits pages t = omega arith
end_shown_fits proximity t = omega arith

pub ending_fits : (p : Printer) (run : Run) (e : Ending) → length (ending_text p run e) ≤ ending_room
unfolding ending_text
ending_fits p run ended =
    let t = run.rt.tally in
    let c = closing_text p.shows p.notes in
    omega (arith, closing_fits p.shows p.notes, end_shown_fits p.shows t, length-append c (end_shown p.shows t))
ending_fits p run (refused r place) =
    let c = closing_text p.shows p.notes in
    omega (arith, closing_fits p.shows p.notes, refused_fits (number_of r) place, length-append c (refused_text (number_of r) place))

-- ---- an event in memory

module _ (out : List ℕ) (n : ℕ) (p : Printer) (e : Event) where
  -- where there is no room, and where the text was put
  pub not_shown : has_room event_room n (length out) ≡ false → ShownIn p e out n (record { notes = p.notes; n = n }) out
  unfolding shown_at memory_at
  not_shown h =
      let m = no_room event_room out n (shown_text p e) h in
      record { answer = rw h (ap (λ (k : ℕ). record { notes = p.notes; n = k }) m.0); memory = m.1 }

  pub is_shown : has_room event_room n (length out) ≡ true → (r : ℕ) (out' : List ℕ) → Put out n (shown_text p e) r out' → ShownIn p e out n (record { notes = remembered p e; n = r }) out'
  unfolding shown_at memory_at
  is_shown h r out' q =
      let m = with_room event_room out n (shown_text p e) h r out' q in
      record { answer = rw h (ap (λ (k : ℕ). record { notes = remembered p e; n = k }) m.0); memory = m.1 }

  -- an event that prints nothing
  quiet_by : (b : Bool) → has_room event_room n (length out) ≡ b → shown_text p e ≡ [] → ShownIn p e out n (record { notes = cond b (remembered p e) p.notes; n = n }) out
  quiet_by true h s = is_shown h n out (rw s (put_none out n))
  quiet_by false h s = not_shown h

  pub quiet : shown_text p e ≡ [] → (m : Notes) → m ≡ remembered p e → ShownIn p e out n (silent_shown (length out) n p.notes m) out
  quiet s m q = rw q (quiet_by (has_room event_room n (length out)) refl s)

  -- and of which nothing is remembered
  silent_by : (b : Bool) → has_room event_room n (length out) ≡ b → shown_text p e ≡ [] → remembered p e ≡ p.notes → ShownIn p e out n (record { notes = p.notes; n = n }) out
  silent_by true h s q = rw q at (is_shown h n out (rw s (put_none out n)))
  silent_by false h s q = not_shown h

  pub silent : shown_text p e ≡ [] → remembered p e ≡ p.notes → ShownIn p e out n (record { notes = p.notes; n = n }) out
  silent = silent_by (has_room event_room n (length out)) refl

  -- what a caller learns who saw to the room
  pub shown_there : n + event_room ≤ length out → (r : Shown) (out' : List ℕ) → ShownIn p e out n r out' → (r.notes ≡ remembered p e) × Put out n (shown_text p e) r.n out'
  unfolding shown_at memory_at
  shown_there h r out' q =
      let y = le-leb (n + event_room) (length out) h in
      (ap (λ (x : Shown). x.notes) (rw y at q.answer), put_with event_room out n (shown_text p e) h r.n out' (ap (λ (x : Shown). x.n) q.answer, q.memory))

-- ---- a page, row by row

pub closed_none : (m : Notes) (out : List ℕ) → m.rows ≡ 0 → Put out 0 (page_closed m) 0 out
closed_none m out e = rw (eq-eqb m.rows 0 e) (put_none out 0)

pub closed_page : (m : Notes) (out : List ℕ) → (m.rows ≡ 0 → ⊥) → ending_room ≤ length out → (r : ℕ) (out' : List ℕ) → PageShown m.page out 0 r out' → Put out 0 (page_closed m) r out'
closed_page m out e h r out' p = rw (ne_eqb m.rows 0 e) (put_with line_room out 0 (as_line (page_row m.page)) (omega (arith, h)) r out' (p.ends, p.memory))

-- ---- components, tick by tick

module _ (x : Measure) (pos : List Float) (guard : ℕ) (v : SafetyVerdict) (cfg : FuseConfig) (out : List ℕ) (n : ℕ) where
  -- a fault tick, or no width yet: nothing is put
  pub fault_lines : is_clean guard ≡ false → Put out n (tick_lines x pos guard v cfg) n out
  fault_lines e = rw e (put_none out n)

  by_width : (b : Bool) → Put out n (cond b [] []) n out
  by_width true = put_none out n
  by_width false = put_none out n

  pub no_width_lines : x.width ≡ None → Put out n (tick_lines x pos guard v cfg) n out
  no_width_lines e = rw e (by_width (is_clean guard))

  pub some_tick_lines : is_clean guard ≡ true → (w : Float) → x.width ≡ Some w → n + event_room ≤ length out → (r : ℕ) (out' : List ℕ)
      → LinesShown cfg (record { width = w; inside = x.inside }) v.t pos out n r out' → Put out n (tick_lines x pos guard v cfg) r out'
  some_tick_lines e w z h r out' q =
      rw (e, z) (put_with lines_room out n (lines_of cfg (record { width = w; inside = x.inside }) v.t pos) (omega (arith, h)) r out' (q.ends, q.memory))

-- ---- a line in memory

module _ (l : Line) (s : List ℕ) (e : l ≡ line_of s) (f : length s ≤ line_room) where
  pub line_put : (out : List ℕ) (n : ℕ) → n + line_room ≤ length out → (r : ℕ) (out' : List ℕ)
      → (r ≡ place_put (length out) n (take l.n l.text)) × (out' ≡ memory_put out n (take l.n l.text)) → Put out n s r out'
  line_put out n h r out' q =
      let shows : take l.n l.text ≡ s = held_text l s f e in
      put_there out n s (omega (arith, h, f)) r out' (rw shows at q)

-- the row of a tick, and the line of the page that it fills
module _ (m : Notes) (v : SafetyVerdict) (out : List ℕ) (n : ℕ) (h : n + event_room ≤ length out) (k : ℕ) (out₁ : List ℕ) (q : RowShown v out n k out₁) where
  row_there : Put out n (as_line (tick_row v)) k out₁
  row_there = put_with line_room out n (as_line (tick_row v)) (omega (arith, h)) k out₁ (q.ends, q.memory)

  pub row_alone : fills m ≡ false → Put out n (tick_on_page m v) k out₁
  row_alone b = rw (b, append-nil (as_line (tick_row v))) row_there

  pub row_closes : fills m ≡ true → length out₁ ≡ length out → (r : ℕ) (out₂ : List ℕ) → PageShown m.page out₁ k r out₂ → Put out n (tick_on_page m v) r out₂
  row_closes b z r out₂ w =
      let line = as_line (page_row m.page) in
      let there = put_with line_room out₁ k line (omega (arith, h, z, row_there.ends, tick_row_fits v)) r out₂ (w.ends, w.memory) in
      rw b (put_on out n (as_line (tick_row v)) k out₁ line r out₂ (omega (arith, h)) row_there there)

-- the line of a tick, and the trace after it
module _ (v : SafetyVerdict) (out : List ℕ) (n : ℕ) (h : n + event_room ≤ length out) (k : ℕ) (out' : List ℕ)
    (q : (k ≡ place_with line_room (length out) n (tick_text v)) × (out' ≡ memory_with line_room out n (tick_text v))) where
  pub line_there : Put out n (tick_text v) k out'
  line_there = put_with line_room out n (tick_text v) (omega (arith, h)) k out' q

  pub trace_there : (rt : FuseRt) → length out' ≡ length out → (r : ℕ) (out'' : List ℕ)
      → (r ≡ place_with trace_room (length out') k (trace_up_to trace_count v rt)) × (out'' ≡ memory_with trace_room out' k (trace_up_to trace_count v rt))
      → Put out n (tick_text v ++ trace_up_to trace_count v rt) r out''
  trace_there rt l r out'' z =
      let there = put_with trace_room out' k (trace_up_to trace_count v rt) (omega (arith, h, l, line_there.ends, tick_fits v)) r out'' z in
      put_on out n (tick_text v) k out' (trace_up_to trace_count v rt) r out'' (omega (arith, h)) line_there there

-- ---- an ending by its number

module _ (p : Printer) (run : Run) (place : ℕ) where
  pub ended_by : ending_by p run None place ≡ ending_text p run ended
  unfolding ending_by ending_text
  ended_by = refl

  pub refused_by_lem : (r : Refusal) → ending_by p run (Some (number_of r)) place ≡ ending_text p run (refused r place)
  unfolding ending_by ending_text
  refused_by_lem r = refl

-- ---- its channel by its number

pub ended_on : (w : Shows) → channel_by w None ≡ ending_on w ended
unfolding channel_by
ended_on lines = refl
ended_on trace = refl
ended_on pages = refl
ended_on proximity = refl

pub refused_on : (w : Shows) (r : Refusal) (place : ℕ) → channel_by w (Some (number_of r)) ≡ ending_on w (refused r place)
unfolding channel_by
refused_on lines r place = refl
refused_on trace r place = refl
refused_on pages r place = refl
refused_on proximity r place = refl

-- which is standard output, whatever is shown
pub on_output : (w : Shows) (number : Option ℕ) → Output ≡ channel_by w number
unfolding channel_by
on_output lines number = refl
on_output trace number = refl
on_output pages number = refl
on_output proximity number = refl

-- ---- an ending in memory

-- what closes a part page, and a line after it
module _ (c out : List ℕ) (f : length c ≤ line_room) (h : ending_room ≤ length out) (k : ℕ) (out₁ : List ℕ) (q : Put out 0 c k out₁) where
  -- by a part of its text, put where the closing ends
  pub closed_then : (s t : List ℕ) → c ++ s ≡ t → (r : ℕ) (out₂ : List ℕ) → Put out₁ k s r out₂ → EndedIn t out r out₂
  closed_then s t w r out₂ there =
      let both = put_on out 0 c k out₁ s r out₂ (omega arith) q there in
      let m = with_room ending_room out 0 (c ++ s) (le-leb (0 + ending_room) (length out) (omega (arith, h))) r out₂ both in
      let done : EndedIn (c ++ s) out r out₂ = record { bytes = m.0; memory = m.1 } in
      rw w at done

  -- there is room for a line
  pub closed_room : length out₁ ≡ length out → k + line_room ≤ length out₁
  closed_room z = omega (arith, h, z, q.ends, f)

-- without room nothing is there
pub ending_not_put : (out t : List ℕ) → length out < ending_room → EndedIn t out 0 out
ending_not_put out t h = let m = no_room ending_room out 0 t (lt-leb (0 + ending_room) (length out) (omega (arith, h))) in record { bytes = m.0; memory = m.1 }

-- what a caller learns who saw to the room
pub ending_there : (out t : List ℕ) (r : ℕ) (out' : List ℕ) → ending_room ≤ length out → EndedIn t out r out' → Put out 0 t r out'
ending_there out t r out' h q = put_with ending_room out 0 t (omega (arith, h)) r out' (q.bytes, q.memory)
