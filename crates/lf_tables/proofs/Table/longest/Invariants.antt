use Rattle.std.proofs.Common.{◌≡◌, drop}
use Rattle.lf_tables.specs.Rows.{longer, longest_of, rows_of}
use Rattle.lf_tables.proofs.Table.longest.Given as goal

abbrev pub invariant-rows : goal.invariant-rows
invariant-rows g l = longer l.best (longest_of (rows_of (drop l.row-index l.row-items)) l.rest) ≡ longest_of (rows_of l.row-items) l.rest
