-- the definitions with no parameter are the general ones at 32 bits with nothing given, so the theorems hold of them
use Rattle.std.proofs.Common.{◌≡◌, ℕ, suc, ◌+◌, ◌*◌, ◌%◌, ◌≤◌, List, [], ◌∷◌, length, sym, refl, ap, ◌∙◌, subst, ap₂, arith}
use Rattle.algebra.proofs.Vec.{cons_≡}
use Rattle.algebra.proofs.Best.{best_same}
use Rattle.algebra.proofs.Annihilators.{sum_killed}
use Rattle.algebra.specs.Vec as vec
use Rattle.algebra.specs.Rows.{Best}
use Rattle.algebra.specs.Tell.{tell}
use Rattle.programs.specs.Programs.{Action, set, Program}
use Rattle.programs.specs.Runs as runs
use Rattle.programs.specs.Runs.{State, put}
use Rattle.programs.specs.Kept as kept
use Rattle.programs.specs.Kept.{ones}
use Rattle.programs.specs.Plain.{modulus, base, dot, Makes, makes_set, makes_any, makes_skip, Comes, begins, goes, Law, plus, times, sum, mix, AllCome, none_come, one_more, Plain}
use Rattle.programs.proofs.One.{one_program}
use Rattle.programs.proofs.States.{comes_first, comes_next, sums_are_laws}
use Rattle.programs.proofs.Sums as sums
use Rattle.programs.proofs.Keep.{has_form, has_rows}
use Rattle.programs.proofs.Few as few

dot_is : (cs xs : List ℕ) → dot cs xs ≡ vec.dot 32 cs xs
dot_is [] xs = refl
dot_is (c ∷ cs) [] = refl
dot_is (c ∷ cs) (x ∷ xs) = ap (λ (z : ℕ). (c * x + z) % modulus) (dot_is cs xs)

plus_is : (xs ys : List ℕ) → plus xs ys ≡ vec.plus 32 xs ys
plus_is [] ys = refl
plus_is (x ∷ xs) [] = refl
plus_is (x ∷ xs) (y ∷ ys) = cons_≡ refl (plus_is xs ys)

times_is : (k : ℕ) (xs : List ℕ) → times k xs ≡ vec.times 32 k xs
times_is k [] = refl
times_is k (x ∷ xs) = cons_≡ refl (times_is k xs)

sum_is : (n : ℕ) (ks : List ℕ) (rs : List (List ℕ)) → sum n ks rs ≡ vec.sum 32 n ks rs
sum_is n [] rs = refl
sum_is n (k ∷ ks) [] = refl
sum_is n (k ∷ ks) (r ∷ rs) = plus_is (times k r) (sum n ks rs) ∙ ap₂ (vec.plus 32) (times_is k r) (sum_is n ks rs)

makes_to : {d : Action} {s u : State} → Makes d s u → runs.Makes 32 d s u
makes_to (makes_set {x} {cs} {s}) = subst (λ (z : ℕ). runs.Makes 32 (set x cs) s (put s x z)) (sym (dot_is cs (1 ∷ s))) runs.makes_set
makes_to (makes_any h) = runs.makes_any h
makes_to makes_skip = runs.makes_skip

makes_from : {d : Action} {s u : State} → runs.Makes 32 d s u → Makes d s u
makes_from (runs.makes_set {x} {cs} {s}) = subst (λ (z : ℕ). Makes (set x cs) s (put s x z)) (dot_is cs (1 ∷ s)) makes_set
makes_from (runs.makes_any h) = makes_any h
makes_from runs.makes_skip = makes_skip

comes_to : {p : Program} {n : ℕ} {s : State} → Comes p n s → runs.Comes 32 [] p n s
comes_to (begins h) = comes_first 32 (record { sized = h.0; small = h.1 }) tt
comes_to (goes {t} {i} c a b) = comes_next 32 t i (comes_to c) a (makes_to b)

run_from : {p : Program} {ms : List runs.Move} {n : ℕ} {s : State} → runs.Run 32 [] p ms n s → Comes p n s
run_from (runs.begins h g) = begins (h.sized, h.small)
run_from (runs.goes r a b) = goes (run_from r) a (makes_from b)

all_to : {p : Program} {n : ℕ} {ss : List State} → AllCome p n ss → kept.AllCome 32 [] p n ss
all_to none_come = kept.none_come
all_to (one_more c a) = kept.one_more (comes_to c) (all_to a)

all_from : {p : Program} {n : ℕ} {ss : List State} → kept.AllCome 32 [] p n ss → AllCome p n ss
all_from kept.none_come = none_come
all_from (kept.one_more c a) = one_more (run_from c.run) (all_from a)

law_to : (p : Program) (n : ℕ) (c : List ℕ) → Law p n c → runs.Law 32 [] p n c
law_to p n c l = record { fits = record { sized = l.0; small = l.1 }; holds = λ s h. sym (dot_is c (1 ∷ s)) ∙ l.2 s (run_from h.run) }

law_from : (p : Program) (n : ℕ) (c : List ℕ) → runs.Law 32 [] p n c → Law p n c
law_from p n c l = (l.fits.sized, l.fits.small, λ s h. dot_is c (1 ∷ s) ∙ l.holds s (comes_to h))

best_to : (p : Program) (n : ℕ) (rs : List (List ℕ)) → Best (Law p n) rs → Best (runs.Law 32 [] p n) rs
best_to p n rs a = best_same (law_to p n) (law_from p n) a

rows_of : (p : Program) (n : ℕ) → (rs : List (List ℕ)) × Best (Law p n) rs
rows_of p n = let f = has_form 32 [] (omega arith) p n tt in (tell 32 f.0, best_same (law_from p n) (law_to p n) (has_rows 32 [] (omega arith) p n f.0 f.1))

enough_of : (p : Program) (n : ℕ) → (ss : List State) × AllCome p n ss × (length ss ≤ 32 * suc p.words) × ((u : State) → Comes p n u → (ks : List ℕ) × (length ks ≡ length ss) × (mix p.words ks ss ≡ 1 ∷ u))
enough_of p n = let f = few.enough 32 [] (omega arith) p n tt in (f.0, all_from f.1, f.2, λ u c. (let g = f.3 u (comes_to c) in (g.0, g.1, sum_is (suc p.words) g.0 (ones f.0) ∙ g.2)))

pub plain : Plain
plain = record {
  same_comes = λ p n s. (comes_to, λ c. run_from c.run);
  same_law = λ p n c. (law_to p n c, law_from p n c);
  one_program = one_program base;
  sums_are_laws = λ p n k c d a b. law_from p n (plus c (times k d)) (subst (runs.Law 32 [] p n) (sym (plus_is c (times k d) ∙ ap (vec.plus 32 c) (times_is k d))) (sums_are_laws 32 [] p n k c d (law_to p n c a) (law_to p n d b)));
  all_laws = λ p n rs c a l. (let s = sums.all_laws 32 [] p n rs c (best_to p n rs a) (law_to p n c l) in (s.0, s.1, sum_is (suc p.words) s.0 rs ∙ s.2));
  only_rows = λ p n rs ss a b. sums.only_rows 32 [] p n rs ss (best_to p n rs a) (best_to p n ss b);
  has_rows = rows_of;
  kept_by_sums = λ p n c u ws ss l a e h. dot_is c (1 ∷ u) ∙ ap (vec.dot 32 c) (sym h ∙ sum_is (suc p.words) ws (ones ss)) ∙ sum_killed 32 (suc p.words) c ws (ones ss) (sums.sized_ones 32 (all_to a)) (sums.law_kills 32 c (law_to p n c l) (all_to a));
  enough = λ ws p n reads. enough_of p n;
}
