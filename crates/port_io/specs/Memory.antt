-- What a source and a sink in memory hold.
use Rattle.std.specs.Prelude.{ℕ, List}

-- a source: the bytes not yet given, the most bytes that a read gives, the numbers of the reads that fail,
-- counted from 1, how many reads were made, and how many of them failed
pub record SourceState : Type 0 where
  pub left : List ℕ
  pub step : ℕ
  pub failing : List ℕ
  pub reads : ℕ
  pub faults : ℕ

-- a sink: the bytes held, the most that it holds, the most that a write takes, the numbers of the writes
-- that fail, counted from 1, how many writes of nonempty pieces were made, and how many of them failed
pub record SinkState : Type 0 where
  pub held : List ℕ
  pub room : ℕ
  pub step : ℕ
  pub failing : List ℕ
  pub writes : ℕ
  pub faults : ℕ
