-- the theorems that the crate promises, each from the file of its topic
use Rattle.algebra.proofs.Growth.{grows_so_often}
use Rattle.programs.specs.Theorems.{Theorems}
use Rattle.programs.proofs.One.{one_program}
use Rattle.programs.proofs.States.{sums_are_laws}
use Rattle.programs.proofs.Sums.{all_laws, only_rows, same_rows, sums_of_states, kept_is_enough, laws_of_kept}
use Rattle.programs.proofs.Taken.{step_makes, step_made}
use Rattle.programs.proofs.Adjoint.{adjoint}
use Rattle.programs.proofs.Visit.{stable_keeps}
use Rattle.programs.proofs.Keep.{has_form, has_rows}
use Rattle.programs.proofs.Few.{enough, fits_as_rows}
use Rattle.programs.proofs.Width.{narrower, same_law}

pub proved : Theorems
proved = record {
  one_program = one_program;
  sums_are_laws = sums_are_laws;
  all_laws = all_laws;
  only_rows = only_rows;
  same_rows = same_rows;
  sums_of_states = sums_of_states;
  kept_is_enough = kept_is_enough;
  enough = enough;
  grows_so_often = grows_so_often;
  fits_as_rows = fits_as_rows;
  step_makes = step_makes;
  step_made = step_made;
  adjoint = adjoint;
  laws_of_kept = laws_of_kept;
  stable_keeps = λ w gs pos p fs st. stable_keeps w pos gs p fs st;
  has_form = has_form;
  has_rows = has_rows;
  narrower = narrower;
  same_law = same_law;
}
