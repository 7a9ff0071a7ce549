-- What the units of a monitor stand for.
use Rattle.std.specs.Prelude.{List, [], ◌∷◌}
use Rattle.unit.specs.Medium.{Medium}
use Rattle.unit.specs.declared.Unit.{Ghosts}
use Rattle.monitor.specs.declared.Units.{Units}

-- what the four units mean; what each kind means is handed in
abbrev pub media : {A B C D : Type 0} → Ghosts A → Ghosts B → Ghosts C → Ghosts D → Units A B C D → List Medium
media a b c d u = a.medium u.unit_0 ∷ b.medium u.unit_1 ∷ c.medium u.unit_2 ∷ d.medium u.unit_3 ∷ []
