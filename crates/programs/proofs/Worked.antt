-- the worked programs, by computing
use Rattle.std.proofs.Common.{[], ◌∷◌, refl, arith}
use Rattle.programs.specs.Runs.{makes_set, at_first, at_later, begins, goes, Comes}
use Rattle.programs.specs.Cases.{counters, doubling, Cases}
use Rattle.programs.proofs.Invariants.{three_two_law, even_law}

round_0 : Comes 32 [] counters 1 (0 ∷ 0 ∷ [])
round_0 = record { moves = _; run = goes (goes (begins {s = 7 ∷ 9 ∷ []} (record { sized = refl; small = tt }) tt) at_first makes_set) (at_later at_first) makes_set }

round_1 : Comes 32 [] counters 1 (2 ∷ 3 ∷ [])
round_1 = record { moves = _; run = goes (goes round_0.run (at_later (at_later at_first)) makes_set) (at_later (at_later (at_later at_first))) makes_set }

round_2 : Comes 32 [] counters 1 (4 ∷ 6 ∷ [])
round_2 = record { moves = _; run = goes (goes round_1.run (at_later (at_later at_first)) makes_set) (at_later (at_later (at_later at_first))) makes_set }

six : Comes 32 [] doubling 1 (6 ∷ [])
six = record { moves = _; run = goes (begins {s = 3 ∷ []} (record { sized = refl; small = tt }) tt) at_first makes_set }

pub cases : Cases
cases = record {
  round_1 = round_1;
  round_2 = round_2;
  law_1 = refl;
  law_2 = refl;
  law = three_two_law;
  six = six;
  even_6 = refl;
  odd_7 = λ e. omega arith;
  even_law = even_law;
  seven = λ c. (let e = even_law.holds (7 ∷ []) c in omega arith);
  rows = refl;
  states = refl;
  words = record { is = refl; fine = tt };
}
