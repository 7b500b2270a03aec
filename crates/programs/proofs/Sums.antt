-- laws and sums: all laws are sums of the best rows, these are unique, and laws hold of sums of states
use Rattle.std.proofs.Common.{◌≡◌, ℕ, suc, List, ◌∷◌, sym, ap, ◌∙◌}
use Rattle.algebra.proofs.Sums.{Sized, no_rows, row_on}
use Rattle.algebra.proofs.Span.{all_spanned}
use Rattle.algebra.proofs.Only.{only}
use Rattle.algebra.proofs.Best.{best_same}
use Rattle.algebra.proofs.Annihilators.{each_row, row_each, sized_each, span_killed, sum_killed}
use Rattle.algebra.specs.Vec.{dot}
use Rattle.algebra.specs.Span.{Span, Each}
use Rattle.programs.specs.Programs.{Program}
use Rattle.programs.specs.Runs.{State, Law}
use Rattle.programs.specs.Kept.{ones, AllCome, none_come, one_more}
use Rattle.programs.specs.Theorems.{AllLaws, OnlyRows, SameRows, SumsOfStates, KeptIsEnough, LawsOfKept}
use Rattle.programs.proofs.States.{fit_comes, laws_closed}

pub all_laws : (w : ℕ) (gs : List (List ℕ)) → AllLaws w gs
all_laws w gs p n rs c best l = let s = all_spanned w (suc p.words) (Law w gs p n) (laws_closed w gs p n) rs best c l in (s.weights, s.many, s.gives)

pub only_rows : (w : ℕ) (gs : List (List ℕ)) → OnlyRows w gs
only_rows w gs p n rs ss a b = only w (suc p.words) (Law w gs p n) rs ss (laws_closed w gs p n) a b

pub same_rows : (w : ℕ) (gs : List (List ℕ)) → SameRows w gs
same_rows w gs p q m n rs ss e same a b = only w (suc p.words) (Law w gs p m) rs ss (laws_closed w gs p m) a (best_same (λ c l. (same c).1 l) (λ c l. (same c).0 l) b)

-- states that come have one length, and a law is 0 on them
pub sized_ones : (w : ℕ) {gs : List (List ℕ)} {p : Program} {n : ℕ} {ss : List State} → AllCome w gs p n ss → Sized (suc p.words) (ones ss)
sized_ones w none_come = no_rows
sized_ones w (one_more c a) = row_on (ap suc (fit_comes w c).sized) (sized_ones w a)

pub law_kills : (w : ℕ) {gs : List (List ℕ)} {p : Program} {n : ℕ} {ss : List State} (c : List ℕ) → Law w gs p n c → AllCome w gs p n ss → Each (λ (r : List ℕ). dot w c r ≡ 0) (ones ss)
law_kills w c l none_come = tt
law_kills w c l (one_more {s} h a) = (l.holds s h, law_kills w c l a)

pub sums_of_states : (w : ℕ) → SumsOfStates w
sums_of_states w k c u ws ss f e many h = ap (dot w c) (sym h) ∙ sum_killed w (suc k) c ws (ones ss) (sized_each w (suc k) (ones ss) f) e

pub kept_is_enough : (w : ℕ) (gs : List (List ℕ)) → KeptIsEnough w gs
kept_is_enough w gs p n c ss f a makes = record { fits = a.fits; holds = λ s h. span_killed w (suc p.words) c (ones ss) (1 ∷ s) (sized_each w (suc p.words) (ones ss) f) a.kills (makes s h) }

pub laws_of_kept : (w : ℕ) (gs : List (List ℕ)) → LawsOfKept w gs
laws_of_kept w gs p n rs c k = (λ l. record { fits = l.fits; kills = each_row (λ (r : List ℕ). dot w c r ≡ 0) rs (λ r i h. (let m = row_each (λ (q : List ℕ). (ss : List State) × AllCome w gs p n ss × Span w N (ones ss) q) rs k.made h in span_killed w N c (ones m.0) r (sized_ones w m.1) (law_kills w c l m.1) m.2)) }, λ a. record { fits = a.fits; holds = λ s h. span_killed w N c rs (1 ∷ s) (sized_each w N rs k.wide) a.kills (k.makes s h) })
  where
    N : ℕ
    N = suc p.words
