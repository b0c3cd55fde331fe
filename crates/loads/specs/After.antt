use Rattle.std.specs.Prelude.{ℕ}
use Rattle.items.specs.Multiset.{put_ascending}
use Rattle.loads.specs.declared.position.Position.{Position}
use Rattle.loads.specs.Loads.{loads_after}

-- the position after an item of this size went to one bin of this load
abbrev pub after : Position → ℕ → ℕ → Position
after position load size =
    record { loads = loads_after position.loads load size; items = put_ascending size position.items }
