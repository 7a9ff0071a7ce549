-- There is such a record, and its place is told.
use Rattle.std.proofs.Common.{rules}
use Rattle.tables.proofs.Tables.place.Goals as goal

pub returns-then-k-count : goal.returns-then-k-count
returns-then-k-count c us = (search rules, c.place_of.ensures us)
