-- Counts of firings, and what they say of channels.
use Rattle.std.specs.Prelude.{◌≡◌, ℕ, ◌+◌, ◌^◌, ◌≤◌, ◌<◌, List, length, slice_index}
use Rattle.sdf_graph.specs.Rates.{GraphValue, IsShape, rates}
use Rattle.sdf_graph.specs.Sequences.{tokens}

pub record CountsValue : Type 0 where
  pub graph : GraphValue
  -- how often each actor has fired
  pub fired : List ℕ

-- the counts by actor, for the definitions
abbrev pub counts : CountsValue → ℕ → ℕ
counts t = slice_index t.fired

-- no channel has gone below 0, and each kept number is the number of samples that the channel holds
pub record IsKept (t : CountsValue) (kept : List ℕ) : Type 0 where
  pub shape : IsShape t.graph
  pub all : length t.fired ≡ t.graph.actors
  pub each : length kept ≡ length t.graph.channels
  pub small : (a : ℕ) → counts t a < 2 ^ 32
  pub enough : (c : ℕ) → c < length t.graph.channels →
      (rates t.graph).consumed c (counts t ((rates t.graph).target c)) ≤
      (rates t.graph).initial c + (rates t.graph).produced c (counts t ((rates t.graph).source c))
  pub same : (c : ℕ) → c < length t.graph.channels → slice_index kept c ≡ tokens (rates t.graph) (counts t) c
