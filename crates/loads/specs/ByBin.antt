use Rattle.std.specs.Prelude.{ℕ, ◌+◌, List, slice_index, slice_set}

-- the loads by bin number after one more item of this size went to a bin
abbrev pub placed : List ℕ → ℕ → ℕ → List ℕ
placed loads bin size = slice_set loads bin (slice_index loads bin + size)
