use Rattle.algebra.proofs.best_rows.Goals as goal
use Rattle.algebra.proofs.Span.{all_spanned}
use Rattle.algebra.proofs.Only.{only}

pub returns : goal.returns
returns g c = record { spanned = λ w n rs r closed best is. all_spanned w n _ closed rs best r is; unique = λ w n rs ss closed a b. only w n _ rs ss closed a b }
