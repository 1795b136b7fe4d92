-- The lists of a search, and the indices in them.
use Rattle.std.specs.Prelude.{◌≡◌, ℕ, ◌+◌, ◌≤◌, ◌<◌, List, length, slice_index}
use Rattle.std.specs.List.{All}
use Rattle.sdf_limits.specs.declared.TheConstants.{MAX_BLOCK}
use Rattle.sdf_times.specs.declared.search.events.Event.{Event}
use Rattle.sdf_times.specs.declared.search.sweep.Last.{Last}

-- how often each actor fires in the block, and how many events there are
pub record EventsValue : Type 0 where
  pub firings : List ℕ
  pub total : ℕ

-- an event's actor is known, and so is the event that sets its start
pub record IsEvent (v : EventsValue) (e : Event) : Type 0 where
  pub known : e.firing.actor < length v.firings
  pub from : e.cause.from < v.total

-- each actor fires, and its events stand side by side from its offset on
pub record AreEvents (firings offsets : List ℕ) (events : List Event) : Type 0 where
  pub every : length offsets ≡ length firings
  pub fires : (a : ℕ) → a < length firings → 0 < slice_index firings a
  pub within : (a : ℕ) → a < length firings → slice_index offsets a + slice_index firings a ≤ length events
  pub few : length events ≤ MAX_BLOCK
  pub each : All (IsEvent (record { firings = firings; total = length events })) events

-- the events, and how many columns and channels there are
pub record SweepValue : Type 0 where
  pub events : EventsValue
  pub columns : ℕ
  pub channels : ℕ

-- the last event of a column is known, and so is its actor
pub record IsLast (v : EventsValue) (l : Last) : Type 0 where
  pub known : l.actor < length v.firings
  pub index : l.index < v.total

-- there is a wait for each actor, a last event for each column, and two counters for each channel
pub record IsSweep (v : EventsValue) (waits : List ℕ) (samples room : ℕ) (lasts : List Last) : Type 0 where
  pub actors : length waits ≡ length v.firings
  pub channels : room ≡ samples
  pub each : All (IsLast v) lasts
