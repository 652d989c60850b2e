-- The threads of lanes.
use Rattle.std.specs.Prelude.{ℕ, max, List, length, map, slice_get, Option, Some, None, string_bytes}
use Rattle.std.specs.Option.{option_map}
use Rattle.event_formatter.specs.formats.Contexts.{PlainThread}
use Rattle.event_formatter.specs.declared.fmt_layer.threads.LaneThread.{LaneThread}
use Rattle.event_formatter.specs.declared.fmt_layer.threads.Threads.{Threads}

-- a thread's name, where it has one, and its number
pub record PlainLane : Type 0 where
  pub name : Option (List ℕ)
  pub id : ℕ

abbrev pub plain_lane : LaneThread → PlainLane
plain_lane thread = record { name = option_map string_bytes thread.name; id = thread.id }

-- the threads that are known, by the number of their lane
abbrev pub plain_lanes : Threads → List PlainLane
plain_lanes threads = map plain_lane threads.lanes.items

abbrev pub lane_or_none : ℕ → Option PlainLane → PlainLane
lane_or_none lane None = record { name = None; id = lane }
lane_or_none lane (Some thread) = thread

-- the thread of a lane; one that isn't known has no name, and the lane's number
abbrev pub lane_thread : List PlainLane → ℕ → PlainLane
lane_thread lanes lane = lane_or_none lane (slice_get lanes lane)

-- the same beside the length of the longest name that was met
abbrev pub thread_at : List PlainLane → ℕ → ℕ → PlainThread
thread_at lanes longest lane =
    let thread = lane_thread lanes lane in
    record { name = thread.name; id = thread.id; longest = longest }

abbrev pub longest_of : ℕ → Option (List ℕ) → ℕ
longest_of longest None = longest
longest_of longest (Some name) = max longest (length name)

-- the length of the longest name once this lane's was met
abbrev pub longest_with : List PlainLane → ℕ → ℕ → ℕ
longest_with lanes longest lane = longest_of longest (lane_thread lanes lane).name
