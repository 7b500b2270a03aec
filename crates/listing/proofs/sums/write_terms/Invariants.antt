use Rattle.std.proofs.Common.{◌≡◌, true, drop, vec_items}
use Rattle.listing.specs.Names.{line_of}
use Rattle.listing.specs.Sums.{with_terms}
use Rattle.listing.proofs.sums.write_terms.Given as goal

abbrev pub invariant-loop-i : goal.invariant-loop-i
invariant-loop-i l = with_terms (line_of l.names.line) l.number l.first l.i (drop l.i l.factors) (vec_items l.out) ≡ with_terms (line_of l.names.line) l.number true 0 l.factors (vec_items l.initial.out)
