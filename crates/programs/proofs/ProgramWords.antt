-- the words of a program: what a header and some steps at their beginning say of the program
use Rattle.std.proofs.Common.{◌≡◌, ℕ, suc, ◌+◌, ◌<◌, ◌≤◌, ◌&&◌, T, leb, List, [], ◌∷◌, ◌++◌, length, take, drop, sym, refl, ap, ◌∙◌, subst, ap₂, add-one, arith, le→leb, length-append, length-drop, length-take}
use Rattle.std.proofs.lemmas.List.{append-nil, take-append-drop, take_at, take-take, take_all, drop-take}
use Rattle.std.proofs.Math.Seq.{take-add}
use Rattle.algebra.proofs.Vec.{and_i, cons_≡}
use Rattle.programs.specs.declared.step.Fault.{Fault}
use Rattle.programs.specs.declared.step.Fault.TheVariants.{Longer}
use Rattle.programs.specs.Programs.{Limits, Step, Program, valid_step, valid_steps, valid, encode_step, encode_steps, encode, Reads}
use Rattle.programs.specs.Reading.{Before, ProgramFault, NoProgram}
use Rattle.programs.proofs.One.{valid_all}
use Rattle.programs.proofs.StepsWords.{encode_append, valid_append, valid_push, Behind, behind}

abbrev pub program : ℕ → ℕ → List Step → Program
program k m ss = record { words = k; points = m; steps = ss }

pub valid_program : (z : Limits) (k m : ℕ) (ss : List Step) → (1 ≤ k) × (k ≤ z.max_words) → (1 ≤ m) × (m ≤ z.max_points) → length ss ≤ z.max_steps
    → T (valid_steps z.bound k m ss) → T (valid z (program k m ss))
valid_program z k m ss p q l v =
    and_i (leb 1 k && leb k z.max_words) ((leb 1 m && leb m z.max_points) && (leb (length ss) z.max_steps && valid_steps z.bound k m ss))
    (and_i (leb 1 k) (leb k z.max_words) (le→leb 1 k p.0) (le→leb k z.max_words p.1))
    (and_i (leb 1 m && leb m z.max_points) (leb (length ss) z.max_steps && valid_steps z.bound k m ss)
    (and_i (leb 1 m) (leb m z.max_points) (le→leb 1 m q.0) (le→leb m z.max_points q.1))
    (and_i (leb (length ss) z.max_steps) (valid_steps z.bound k m ss) (le→leb (length ss) z.max_steps l) v))

-- the steps behind ss of a program whose first a + j words are these
pub record GoesOn (z : Limits) (ws : List ℕ) (k m n : ℕ) (ss : List Step) (a j : ℕ) : Type 0 where
  pub others : List Step
  pub long : length ss + length others ≡ n
  pub valid : T (valid_steps z.bound k m others)
  pub words : take j (encode_steps others) ≡ take j (drop a ws)

-- where no program has a word, no program is the words
pub no_program : (z : Limits) (ws : List ℕ) (at : ℕ) (f : Fault) → at ≤ length ws → ((p : Program) → T (valid z p) → take (suc at) (encode p) ≡ take (suc at) ws → ⊥)
    → (1 ≤ z.max_words → 1 ≤ z.max_points → (p : Program) × T (valid z p) × (at ≤ length (encode p)) × (take at (encode p) ≡ take at ws)) → ProgramFault z ws at f → NoProgram z ws at f
no_program z ws at f l r b w = record { none = λ p h. r p h.fine (ap (take (suc at)) h.is); within = l; refutes = r; begins = b; why = w }

module _ (z : Limits) (ws : List ℕ) (k m n : ℕ) (ss : List Step) (a : ℕ) (b : Before z ws k m n ss a) where
  -- a program whose words begin as these do has this header, these steps, and further ones where the words go on
  pub goes_on : (j : ℕ) (p : Program) → T (valid z p) → take (a + j) (encode p) ≡ take (a + j) ws → GoesOn z ws k m n ss a j
  goes_on j p v h =
      record {
        others = d.others;
        long = omega (arith, length-append ss d.others, ap length d.is, long);
        valid = d.valid;
        words = ap (take j) d.words ∙ sym (drop-take a j (encode p)) ∙ ap (drop a) h ∙ drop-take a j ws;
      }
    where
      cut : take a (encode p) ≡ k ∷ m ∷ n ∷ encode_steps ss
      cut = sym (take-take a (a + j) (encode p) (omega arith)) ∙ ap (take a) h ∙ take-take a (a + j) ws (omega arith) ∙ b.is

      front : encode p ≡ k ∷ m ∷ n ∷ (encode_steps ss ++ drop a (encode p))
      front = sym (take-append-drop a (encode p)) ∙ ap (λ (l : List ℕ). l ++ drop a (encode p)) cut

      ks : p.words ≡ k
      ks = cc front

      ms : p.points ≡ m
      ms = cc front

      long : length p.steps ≡ n
      long = cc front

      all : T (valid_steps z.bound k m p.steps)
      all = subst (λ (x : ℕ). T (valid_steps z.bound x m p.steps)) ks (subst (λ (y : ℕ). T (valid_steps z.bound p.words y p.steps)) ms (valid_all z p v))

      d : Behind z.bound k m ss p.steps (drop a (encode p))
      d = behind z.bound k m ss p.steps (drop a (encode p)) b.valid all (omega (arith, long, b.many)) (cc front)

  -- the words up to a, and what stands behind, as those of a program with further steps
  pub with_others : (ts : List Step) → length ss + length ts ≡ n → encode (program k m (ss ++ ts)) ≡ take a ws ++ encode_steps ts
  with_others ts l = cons_≡ refl (cons_≡ refl (cons_≡ (length-append ss ts ∙ l) (encode_append ss ts))) ∙ ap (λ (x : List ℕ). x ++ encode_steps ts) (sym b.is)

  pub program_fits : (ts : List Step) → length ss + length ts ≡ n → T (valid_steps z.bound k m ts) → T (valid z (program k m (ss ++ ts)))
  program_fits ts l v = valid_program z k m (ss ++ ts) b.words b.points (omega (arith, length-append ss ts, b.steps)) (valid_append z.bound k m ss ts b.valid v)

  -- one step more
  pub more : length ss < n → (s : Step) (i : ℕ) → T (valid_step z.bound k m s) → drop a ws ≡ encode_step s ++ drop i (drop a ws)
      → length (encode_step s) ≡ i → i ≤ length (drop a ws) → Before z ws k m n (ss ++ s ∷ []) (a + i)
  more l s i v e size within =
      record {
        words = b.words;
        points = b.points;
        steps = b.steps;
        many = omega (arith, length-append ss (s ∷ []));
        valid = valid_push z.bound k m ss s b.valid v;
        is = take-add a i ws ∙ ap₂ (λ (x y : List ℕ). x ++ y) b.is front ∙ cons_≡ refl (cons_≡ refl (cons_≡ refl (sym pushed)));
        size = omega (arith, ap length pushed, length-append (encode_steps ss) (encode_step s), b.size);
        within = omega (arith, length-drop a ws, b.within);
      }
    where
      front : take i (drop a ws) ≡ encode_step s
      front = ap (take i) e ∙ take_at (encode_step s) (drop i (drop a ws)) i size

      pushed : encode_steps (ss ++ s ∷ []) ≡ encode_steps ss ++ encode_step s
      pushed = encode_append ss (s ∷ []) ∙ ap (λ (x : List ℕ). encode_steps ss ++ x) (append-nil (encode_step s))

  -- the words end with the last step, or go on behind it
  whole : length ss ≡ n → encode (program k m ss) ≡ take a ws
  whole l = cons_≡ refl (cons_≡ refl (cons_≡ l refl)) ∙ sym b.is

  all_valid : T (valid z (program k m ss))
  all_valid = valid_program z k m ss b.words b.points (omega (arith, b.many, b.steps)) b.valid

  pub reads : length ss ≡ n → a ≡ length ws → Reads z ws (program k m ss)
  reads l e = record { is = whole l ∙ take_all a ws (omega arith); fine = all_valid }

  pub longer : length ss ≡ n → a < length ws → NoProgram z ws a Longer
  longer l h = no_program z ws a Longer (omega arith) refute (λ x y. (program k m ss, all_valid, omega (arith, b.size), ap (take a) (whole l) ∙ take-take a a ws (omega arith))) (program k m ss, all_valid, whole l, h)
    where
      none : (os : List Step) → length ss + length os ≡ n → take 1 (encode_steps os) ≡ take 1 (drop a ws) → ⊥
      none [] e w = omega (arith, ap length w, length-take 1 (drop a ws), length-drop a ws)
      none (o ∷ os) e w = omega arith

      refute : (p : Program) → T (valid z p) → take (suc a) (encode p) ≡ take (suc a) ws → ⊥
      refute p v w = let g = goes_on 1 p v (rw add-one w) in none g.others g.long g.words
