use Rattle.std.proofs.Common.{◌≡◌, take, map}
use Rattle.std.specs.Prelude.{slice_index}
use Rattle.minimise.specs.References.{renamed_entry}
use Rattle.minimise.proofs.algorithm.renumbered_entries.Given as goal

abbrev pub invariant-loop-entry : goal.invariant-loop-entry
invariant-loop-entry l = l.made ≡ map (renamed_entry (slice_index l.numbers)) (take l.entry-index l.entries)
