-- The starred cases (01-scope.md, What a contract says, and the cases; the margins as in
-- 02-change-requests.md, Ask 5, with those next to a half and the ends; the slots from settings on
-- as in Ask 6, with an acknowledgement that comes again after a reset): rows of one table.
-- A row has what the definitions give and what they should give, as numbers.
-- Cases of a tick go through `tick_of`, the definition that `tick` promises, from run states that
-- ticks after a reset leave. What the cases say of every run state is in specs/ForAll.
-- A case of the paper brings no guard bit and no trip but those that it names.
use Rattle.std.specs.Prelude.{Bool, true, false, cond, List, [], ◌∷◌, map, ◌≡◌, ℕ, zero, suc, eqb, get_or, Float, None, Some, Option}
use Rattle.std.specs.Float.{nan, inf, binary64}
use Rattle.std.specs.Float.Ieee.{of_bits, to_bits}
use Rattle.fmath.specs.Root.{root_of}
use Rattle.margin.specs.Margin.{margin_of}
use Rattle.report.specs.Lines.{margin_text}
use Rattle.text.specs.Ascii.{ascii}
use Rattle.lictor_core.specs.declared.ack.AckDecision.{AckDecision}
use Rattle.lictor_core.specs.declared.ack.AckDecision.TheVariants.{Resume, Retune}
use Rattle.lictor_core.specs.declared.ack.VerifiedAck.{VerifiedAck}
use Rattle.lictor_core.specs.declared.envelope.Hysteresis.{Hysteresis}
use Rattle.lictor_core.specs.declared.fuse.FuseRt.{FuseRt}
use Rattle.lictor_core.specs.Codes.{state_code, reason_code}
use Rattle.lictor_core.specs.Initial.{zero_float, one_float, new_of, reset_of}
use Rattle.samples.specs.Samples.{sample_settings, sample_outcome, sample_input, sample_chunk}
use Rattle.lictor_table.specs.Helpers.{accepted_by}
use Rattle.lictor_fuse.specs.declared.Ticked.{Ticked}
use Rattle.lictor_fuse.specs.Tick.{tick_of}

-- ---- what the rows are made of

-- The limits that rows name: the clamp limit, the brake limit B, the hold limit H and the handoff
-- limit E. The others are out of the way: one hit is predictive and none comes, the streak's limit
-- is far, standstill is confirmed at once, and no tick may be missed.
unfoldable pub row_limits : ℕ → ℕ → ℕ → ℕ → Hysteresis
row_limits clamps b h e = record {
  k = 1;
  warn_margin = zero_float;
  clear_ticks = 9;
  clamp_streak_to_brake = 255;
  max_clamps_per_episode = clamps;
  stop_confirm_ticks = 1;
  v_stop_eps = zero_float;
  brake_timeout_ticks = b;
  rearm_hold = 5;
  max_rearms = 1;
  escalate_after_hold_ticks = h;
  handoff_timeout_ticks = e;
  watchdog_ticks = 0;
}

-- an acknowledgement of the handoff with this number
unfoldable pub row_ack : AckDecision → ℕ → ℕ → ℕ → VerifiedAck
row_ack d slot nonce handoff = record { decision = d; operator_slot = slot; nonce = nonce; handoff_seq = handoff }

-- the tick after rt at t, after `missed` ticks, with this acknowledgement, these trips, one
-- position; the one at 0 delivers the chunk that all later ones use
unfoldable pub row_tick_at : Float → Hysteresis → FuseRt → ℕ → ℕ → Option VerifiedAck → ℕ → Ticked
row_tick_at x limits rt t missed ack trips =
    let settings = sample_settings limits 1 63 one_float in
    let first = eqb t 0 in
    tick_of settings rt (sample_input t missed false (cond first (Some (sample_chunk 0)) None) ack) (sample_outcome trips true (inf true))
    (x ∷ []) [] [] [] (cond first (zero_float ∷ []) [])

-- the same at position 0
unfoldable pub row_tick : Hysteresis → FuseRt → ℕ → ℕ → Option VerifiedAck → ℕ → Ticked
row_tick limits rt t missed ack trips = row_tick_at zero_float limits rt t missed ack trips

-- ---- run states that rows start from: each is one tick after the one before it, from the reset on

-- settings, and a reset
unfoldable pub armed : FuseRt
armed = reset_of new_of

-- BRAKE at 0
unfoldable pub braking : Hysteresis → FuseRt
braking limits = (row_tick limits armed 0 0 None 64).rt

-- standstill at 1
unfoldable pub held : Hysteresis → FuseRt
held limits = (row_tick limits (braking limits) 1 0 None 0).rt

-- a Resume of slot 3 with nonce 1 at 2, and a reset
unfoldable pub spent : Hysteresis → FuseRt
spent limits = reset_of (row_tick limits (held limits) 2 0 (Some (row_ack Resume 3 1 0)) 0).rt

-- the hold limit at 2, where H is 0: the handoff with number 1 begins
unfoldable pub escalated : Hysteresis → FuseRt
escalated limits = (row_tick limits (held limits) 2 0 None 0).rt

-- the handoff limit at 3, where E is 0
unfoldable pub terminated : Hysteresis → FuseRt
terminated limits = (row_tick limits (escalated limits) 3 0 None 0).rt

-- n soft trips, one at each t from 0 on (what they leave: specs/SoftTrips)
unfoldable pub clamped_for : ℕ → Hysteresis → FuseRt
clamped_for zero limits = armed
clamped_for (suc n) limits = (row_tick limits (clamped_for n limits) n 0 None 1).rt

-- ---- what a row looks at

unfoldable pub bit : Bool → ℕ
bit b = cond b 1 0

-- the states that the tick starts from and ends in, its trips and its reason
unfoldable pub ending : Ticked → List ℕ
ending r =
    state_code r.verdict.prev_state ∷ state_code r.verdict.state ∷ r.verdict.trips ∷ reason_code r.verdict.reason ∷ []

-- its two states, its reason, and the nonce stored for slot 3
unfoldable pub ending_nonce : Ticked → List ℕ
ending_nonce r =
    state_code r.verdict.prev_state ∷ state_code r.verdict.state ∷ reason_code r.verdict.reason ∷ get_or r.rt.control.last_nonce 3 0 ∷ []

-- its two states and the count of clamps
unfoldable pub clamping : Ticked → List ℕ
clamping r = state_code r.verdict.prev_state ∷ state_code r.verdict.state ∷ r.rt.control.clamps ∷ []

-- whether the acceptance rule takes it, in this run state
unfoldable pub acceptance : FuseRt → VerifiedAck → List ℕ
acceptance rt a = bit (accepted_by rt.control.handoff_seq rt.control.last_nonce a) ∷ []

-- what is printed of the margin with these bits
unfoldable pub printed : ℕ → List ℕ
printed b = margin_text (margin_of (of_bits binary64 b))

-- ---- the table

pub record Case : Type 0 where
  pub gives : List ℕ
  pub wanted : List ℕ

infix 70 ◌is◌
abbrev pub ◌is◌ : List ℕ → List ℕ → Case
◌is◌ g w = record { gives = g; wanted = w }

-- the limits of most rows; those with the largest clamp limit; with H 0, so that a held fuse hands
-- over at once; with E 0 too
unfoldable pub usual_limits : Hysteresis
usual_limits = row_limits 2 5 5 5

unfoldable pub wide_limits : Hysteresis
wide_limits = row_limits 65535 5 5 5

unfoldable pub quick_handoff : Hysteresis
quick_handoff = row_limits 2 5 0 5

unfoldable pub quick_end : Hysteresis
quick_end = row_limits 2 5 0 0

unfoldable pub starred : List Case
starred =
    -- the handoff limit 0, and nobody answers
    ending (row_tick quick_end (escalated quick_end) 3 0 None 0) is (6 ∷ 8 ∷ 4096 ∷ 25 ∷ [])
    -- a nonce of 0 while held: nothing is stored and the fuse stays held
    ∷ acceptance armed (row_ack Resume 3 0 0) is (0 ∷ [])
    ∷ ending_nonce (row_tick usual_limits (held usual_limits) 2 0 (Some (row_ack Resume 3 0 0)) 0) is (5 ∷ 5 ∷ 13 ∷ 0 ∷ [])
    -- the last slot there is, and the one past it: from settings, before the first reset and after it
    ∷ acceptance new_of (row_ack Resume 7 1 0) is (1 ∷ [])
    ∷ acceptance armed (row_ack Resume 7 1 0) is (1 ∷ [])
    ∷ acceptance new_of (row_ack Resume 8 1 0) is (0 ∷ [])
    ∷ acceptance armed (row_ack Resume 8 1 0) is (0 ∷ [])
    -- one that was consumed, after a reset, with the handoff number that it had: it, and the next nonce
    ∷ acceptance (spent usual_limits) (row_ack Resume 3 1 0) is (0 ∷ [])
    ∷ acceptance (spent usual_limits) (row_ack Resume 3 2 0) is (1 ∷ [])
    -- a Retune in each of the two states that take acknowledgements
    ∷ ending_nonce (row_tick quick_handoff (escalated quick_handoff) 3 0 (Some (row_ack Retune 3 1 1)) 0) is (6 ∷ 8 ∷ 26 ∷ 1 ∷ [])
    ∷ ending_nonce (row_tick usual_limits (held usual_limits) 2 0 (Some (row_ack Retune 3 1 0)) 0) is (5 ∷ 5 ∷ 13 ∷ 0 ∷ [])
    -- a clamp at the clamp limit, and the tick after it
    ∷ clamping (row_tick usual_limits (clamped_for 2 usual_limits) 2 0 None 1) is (3 ∷ 3 ∷ 3 ∷ [])
    ∷ ending (row_tick usual_limits (clamped_for 3 usual_limits) 3 0 None 0) is (3 ∷ 4 ∷ 2048 ∷ 11 ∷ [])
    -- the same with limit and count at the end of the counter
    ∷ clamping (row_tick wide_limits (clamped_for 65535 wide_limits) 65535 0 None 1) is (3 ∷ 3 ∷ 65535 ∷ [])
    -- the brake limit 0, with the arm at a standstill
    ∷ ending (row_tick (row_limits 2 0 5 5) (braking (row_limits 2 0 5 5)) 1 0 None 0) is (4 ∷ 7 ∷ 16384 ∷ 20 ∷ [])
    -- a watchdog fault after the end: found by the guard, and brought by the outcome
    ∷ ending (row_tick quick_end (terminated quick_end) 5 1 None 0) is (8 ∷ 7 ∷ 512 ∷ 19 ∷ [])
    ∷ ending (row_tick quick_end (terminated quick_end) 4 0 None 512) is (8 ∷ 7 ∷ 512 ∷ 19 ∷ [])
    -- all three fault bits: by the guard (a NaN, t not 0, one tick missed), and by the outcome
    ∷ ending (row_tick_at nan usual_limits armed 7 1 None 0) is (1 ∷ 7 ∷ 896 ∷ 17 ∷ [])
    ∷ ending (row_tick usual_limits armed 0 0 None 896) is (1 ∷ 7 ∷ 896 ∷ 17 ∷ [])
    -- the root of 2.25, by its bits
    ∷ (to_bits binary64 (root_of (of_bits binary64 0x4002_0000_0000_0000)) ∷ []) is (0x3ff8_0000_0000_0000 ∷ [])
    -- 0.0625 and -0.0625: an exact half of a millimetre goes to the even one, here towards zero
    ∷ printed 0x3fb0_0000_0000_0000 is ascii "62"
    ∷ printed 0xbfb0_0000_0000_0000 is ascii "-62"
    -- 0.1875 and -0.1875: here away from zero
    ∷ printed 0x3fc8_0000_0000_0000 is ascii "188"
    ∷ printed 0xbfc8_0000_0000_0000 is ascii "-188"
    -- the doubles next to 0.0625, below and above it, and their negatives
    ∷ printed 0x3faf_ffff_ffff_ffff is ascii "62"
    ∷ printed 0x3fb0_0000_0000_0001 is ascii "63"
    ∷ printed 0xbfaf_ffff_ffff_ffff is ascii "-62"
    ∷ printed 0xbfb0_0000_0000_0001 is ascii "-63"
    -- those next to 0.1875
    ∷ printed 0x3fc7_ffff_ffff_ffff is ascii "187"
    ∷ printed 0x3fc8_0000_0000_0001 is ascii "188"
    ∷ printed 0xbfc7_ffff_ffff_ffff is ascii "-187"
    ∷ printed 0xbfc8_0000_0000_0001 is ascii "-188"
    -- the last double that prints a number and the next one, above zero and below
    ∷ printed 0x408f_3ffe_f9db_22d0 is ascii "999999"
    ∷ printed 0x408f_3ffe_f9db_22d1 is ascii "+far"
    ∷ printed 0xc08f_3ffe_f9db_22d0 is ascii "-999999"
    ∷ printed 0xc08f_3ffe_f9db_22d1 is ascii "-far"
    ∷ []

-- ---- the claim

-- Of each row of l the definitions give what is wanted: of `starred` it is proved in proofs/Given.
abbrev pub AsWanted : List Case → Type 0
AsWanted l = map (λ c. c.gives) l ≡ map (λ c. c.wanted) l
