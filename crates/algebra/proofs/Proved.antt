-- the theorems that the crate promises, each from the file of its topic
use Rattle.algebra.proofs.Only.{only}
use Rattle.algebra.proofs.Units.{inverse_is}
use Rattle.algebra.proofs.Insert.{fine_insert, weight_insert}
use Rattle.algebra.proofs.FormSpans.{span_insert, howell_insert}
use Rattle.algebra.proofs.Insertions.{weight_fine, made_fine, made_howell}
use Rattle.algebra.proofs.Tell.{best_tell}
use Rattle.algebra.proofs.Unchanged.{unchanged_spanned}
use Rattle.algebra.proofs.Annihilators.{double, told_enough, best_annihilator, ann_ann, best_howell}
use Rattle.algebra.proofs.Maps.{made_spans, span_closed, length_annihilator, length_howell}
use Rattle.algebra.proofs.Growth.{grows_so_often}
use Rattle.algebra.proofs.System.{forms, forms_fine, forms_howell, forms_exact, forms_starts, forms_closed, forms_least}
use Rattle.algebra.specs.Span.{Span}
use Rattle.algebra.specs.Form.{form_of}
use Rattle.algebra.specs.Theorems.{Inserting, Annihilating, Systems, SystemsOfRows, Algebra}

inserting : Inserting
inserting = record {
  spans = λ w n f v u well fv fu. span_insert w well v fv u fu;
  howell = λ w n f v well h fv. (fine_insert w well v fv, howell_insert w well h v fv);
  falls = weight_insert;
  bounded = λ w n f well. weight_fine w well;
  unchanged = unchanged_spanned;
  rows = λ w n vs fits. (made_fine w n vs fits, made_howell w n vs fits, made_spans w n vs fits);
  grows = grows_so_often;
}

annihilating : Annihilating
annihilating = record {
  told = λ w n f well h. best_tell w well h;
  enough = λ w n f well h. told_enough w well h;
  double = λ w n f well h. double w well h;
  best = best_annihilator;
  twice = ann_ann;
  spans = best_howell;
  one_form = λ w n rs ss ts fits a b. only w n (Span w n rs) ss ts (span_closed w n rs fits) a b;
  few = λ w n rs fits. (length_annihilator w n rs fits, length_howell w n rs fits);
}

systems : Systems
systems w n es lin start well howell = record {
  forms = forms w n es lin start well howell;
  well = forms_fine w n es lin start well howell;
  howell = forms_howell w n es lin start well howell;
  exact = forms_exact w n es lin start well howell;
  starts = forms_starts w n es lin start well howell;
  closed = forms_closed w n es lin start well howell;
  least = λ gs well-gs has goes. forms_least w n es lin start well howell gs well-gs has goes;
}

systems_of_rows : SystemsOfRows
systems_of_rows w n es lin rows fits = systems w n es lin (λ p. form_of w n (rows p)) (λ p. made_fine w n (rows p) (fits p)) (λ p. made_howell w n (rows p) (fits p))

pub algebra : Algebra
algebra = record { inverses = inverse_is; inserting = inserting; annihilating = annihilating; systems = systems; systems_of_rows = systems_of_rows }
