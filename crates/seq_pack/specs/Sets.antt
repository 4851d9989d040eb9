-- The terms of rows that take an integer for each lane.
use Rattle.std.specs.Prelude.{ℕ, zero, suc, ◌-◌, ◌/◌, Bool, false, if◌then◌else◌}
use Rattle.intel_lanes.specs.declared.lanes.Width.{Width}
use Rattle.intel_lanes.specs.Lanes.{bytes_of}
use Rattle.neon_move.specs.declared.MoveOp.TheVariants.{Places}
use Rattle.seq_core.specs.Terms.{Term, Param, Convert}
use Rattle.seq_pack.specs.Calls.{moved, moved_two, back}
use Rattle.seq_pack.specs.Terms.{elements, unsigned_type, duplicating, setting}

-- the parameter for lane k: the lowest lane's is the first where the row is reversed, else the last
abbrev pub param_of : Bool → Width → ℕ → ℕ
param_of reversed width k = if reversed then k else 16 / bytes_of width - 1 - k

abbrev pub lane_param : Bool → Width → ℕ → Term
lane_param reversed width k = Convert (unsigned_type width) (Param (param_of reversed width k))

-- lane k + 1 put into its place
abbrev pub next_lane : Bool → Width → Term → ℕ → Term
next_lane reversed width before k = moved_two (Places (setting width)) (lane_param reversed width (suc k)) before (suc k)

-- lane 0 in all lanes, then lanes 1 to k in their places
abbrev pub lanes_to : Bool → Width → ℕ → Term
lanes_to reversed width zero = moved (Places (duplicating width)) (lane_param reversed width 0) 0
lanes_to reversed width (suc k) = next_lane reversed width (lanes_to reversed width k) k

abbrev pub each_lane : Bool → Width → Term
each_lane reversed width = back (elements false width) (lanes_to reversed width (16 / bytes_of width - 1))
